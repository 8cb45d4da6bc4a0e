-- By bit 10 of the address: the lock at each byte, or the page.
use mathlib.Core.Path.{refl, ◌∙◌}
use Rattle.laws.specs.Pick.{call_yes, call_no}
use Rattle.laws.specs.Table.{table_replicate, table_cong}
use native.Mathlib.Omega.{arith}
use Rattle.codes.proofs.Parts.{size_most}
use Rattle.shown.proofs.output.show_identification.Goals as goal

pub overflow_cast-from : goal.overflow_cast-from
overflow_cast-from c = omega (arith, size_most c.args.part)

pub returns-then-picks_lock : goal.returns-then-picks_lock
returns-then-picks_lock c =
    let told = c.picks_lock.ensures in
    c.fill.ensures ∙ table_replicate _ _ ∙ table_cong _ _ _ 0 (λ j b. call_yes _ told c.if-picks_lock.true refl)

pub returns : goal.returns
returns c =
    let told = c.picks_lock.ensures in
    c.show_page.ensures ∙ table_cong _ _ _ 0 (λ j b. call_no _ told c.if-picks_lock.false refl)
