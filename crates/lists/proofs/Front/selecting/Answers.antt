use mathlib.Core.Path.{refl, ap, sym, ◌∙◌}
use Rattle.laws.specs.Pick.{ne_so, no_so}
use Rattle.codes.specs.Status.{bit}
use Rattle.pins.specs.Events.{on_s}
use Rattle.lists.proofs.Front.selecting.Goals as goal

pub returns : goal.returns
unfolding on_s
returns c =
    let low = c.if-level.false in
    let moves = c.if-self-bit.false in
    let was = c.bit.ensures in
    λ m l. rw low (ne_so _ (λ e. moves (e ∙ sym (was ∙ ap bit low))) (no_so _ refl (rw c.bit-held.ensures refl)))
