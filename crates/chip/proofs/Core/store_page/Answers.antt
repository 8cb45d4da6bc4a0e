-- Where a page waits, what it leaves is what is stored.
use Rattle.std.proofs.Common.{sym, refl, ap, ◌∙◌, eq-eqb}
use Rattle.laws.specs.Pick.{eq_so, ne_so, at_yes}
use Rattle.blanks.specs.Blanks.{recounted}
use Rattle.chip.specs.Records.{own_part}
use Rattle.chip.proofs.Core.store_page.Goals as goal

pub returns-then-self-clause-value : goal.returns-then-self-clause-value
returns-then-self-clause-value c =
    let a = c.args in
    let yes = c.if-self.true in
    let e = c.store_counting.ensures in
    let kept = sym (at_yes _ _ (eq-eqb _ _ yes)) in
    eq_so _ yes (e.value ∙ ap (recounted (own_part a.self) a.self.blank a.memory.now) kept)

pub returns-then-self-clause-memory_after : goal.returns-then-self-clause-memory_after
returns-then-self-clause-memory_after c =
    let yes = c.if-self.true in
    let e = c.store_counting.ensures in
    eq_so _ yes e.memory_after

pub returns-clause-value : goal.returns-clause-value
returns-clause-value c = ne_so _ c.if-self.false refl

pub returns-clause-memory_after : goal.returns-clause-memory_after
returns-clause-memory_after c = ne_so _ c.if-self.false refl
