use mathlib.Core.Path.{ap, sym, ◌∙◌}
use mathlib.Core.Bool.{Bool}
use Rattle.codes.specs.Part.{part_of}
use Rattle.edges.specs.Rising.{risen}
use Rattle.lists.specs.Ways.{whole}
use Rattle.lists.proofs.InPlace.{one_bit, eighth, up_counted, up_uncounted}
use Rattle.lists.proofs.Front.rising.Goals as goal

pub returns-then-bits-lt7 : goal.returns-then-bits-lt7
returns-then-bits-lt7 c =
    let s = c.args.self in
    λ m l k e. c.with_bits.ensures (part_of c.args.part) m l k
    ∙ up_counted (part_of c.args.part) m (whole s l k) _ c.requires c.if-self.true
    (one_bit (part_of c.args.part) _ s.d (whole s l k).frame _ c.if-bits-lt7.true c.shifted_in-byte.ensures)

pub returns-then-self : goal.returns-then-self
returns-then-self c =
    let s = c.args.self in
    let P = part_of c.args.part in
    λ m l k e. c.whole_byte.ensures m l k
    ∙ up_counted P m (whole s l k) _ c.requires c.if-self.true
    (eighth P c.args.cycle s.d (whole s l k).frame _ c.if-bits-lt7.false c.shifted_in-byte.ensures
    ∙ ap (λ (t : Bool). risen P t s.d (whole s l k).frame) (sym e))

pub returns : goal.returns
returns c =
    λ m l k e. c.with_bits-2.ensures (part_of c.args.part) m l k
    ∙ up_uncounted (part_of c.args.part) m (whole c.args.self l k) c.requires c.if-self.false
