use mathlib.Core.Path.{refl, ap, ◌∙◌}
use Rattle.laws.specs.Pick.{eq_so, ne_so}
use Rattle.edges.specs.declared.Frame.{Frame}
use Rattle.edges.specs.Rising.{whole_byte}
use Rattle.lists.specs.Ways.{whole, risen_to}
use Rattle.lists.proofs.Front.whole_byte.Goals as goal

pub returns-then-self-eq0 : goal.returns-then-self-eq0
unfolding whole_byte
returns-then-self-eq0 c =
    λ m l k. ap (λ (f : Frame). risen_to f (whole c.args.self l k))
    (eq_so _ c.if-self-eq0.true (rw (c.one_more-taken.ensures, c.bit-ran.ensures) refl))

pub returns : goal.returns
unfolding whole_byte
returns c =
    let s = c.args.self in
    λ m l k. c.taking.ensures m l k
    ∙ ap (λ (f : Frame). risen_to f (whole s l k)) (ne_so _ c.if-self-eq0.false (rw c.decode.ensures refl))
