-- By the two tests that the code makes: the address picks the lock, and it is the lock's first byte.
use mathlib.Core.Path.{refl, sym, ◌∙◌}
use Rattle.laws.specs.Pick.{call_yes, call_no, eq_so, ne_so}
use Rattle.edges.proofs.Frame.identification_data.Goals as goal

pub returns-then-before-head_of : goal.returns-then-before-head_of
returns-then-before-head_of c =
    call_yes _ c.picks_lock.ensures c.if-picks_lock.true
    (eq_so _ (c.if-before-head_of.true ∙ c.head_of.ensures.value) c.with_value.ensures)

pub returns-then-picks_lock : goal.returns-then-picks_lock
returns-then-picks_lock c =
    call_yes _ c.picks_lock.ensures c.if-picks_lock.true
    (ne_so _ (λ e. c.if-before-head_of.false (e ∙ sym c.head_of.ensures.value)) refl)

pub returns : goal.returns
returns c = call_no _ c.picks_lock.ensures c.if-picks_lock.false c.latch_byte.ensures
