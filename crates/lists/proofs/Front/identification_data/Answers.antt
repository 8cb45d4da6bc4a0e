-- By the two tests that the code makes: the address picks the lock, and it is the lock's first byte.
use mathlib.Core.Path.{refl, ap, sym, ◌∙◌}
use Rattle.laws.specs.Pick.{call_yes, call_no, eq_so, ne_so}
use Rattle.edges.specs.declared.Frame.{Frame}
use Rattle.lists.specs.Ways.{whole, risen_to}
use Rattle.lists.proofs.Front.identification_data.Goals as goal

pub returns-then-self-head_of : goal.returns-then-self-head_of
returns-then-self-head_of c =
    λ m l k. c.value_byte.ensures m l k ∙ ap (λ (f : Frame). risen_to f (whole c.args.self l k))
    (call_yes _ c.picks_lock.ensures c.if-picks_lock.true (eq_so _ (c.if-self-head_of.true ∙ c.head_of.ensures.value) refl))

pub returns-then-picks_lock : goal.returns-then-picks_lock
returns-then-picks_lock c =
    λ m l k. c.unkept.ensures m l k ∙ ap (λ (f : Frame). risen_to f (whole c.args.self l k))
    (call_yes _ c.picks_lock.ensures c.if-picks_lock.true
    (ne_so _ (λ e. c.if-self-head_of.false (e ∙ sym c.head_of.ensures.value)) refl))

pub returns : goal.returns
returns c =
    λ m l k. c.latch_byte.ensures m l k ∙ ap (λ (f : Frame). risen_to f (whole c.args.self l k))
    (call_no _ c.picks_lock.ensures c.if-picks_lock.false refl)
