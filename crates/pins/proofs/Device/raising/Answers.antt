use mathlib.Core.Path.{refl, ap}
use Rattle.laws.specs.Pick.{yes_so, no_so, lt_so, ge_so}
use Rattle.pins.specs.Devices.{with_c, with_pins, with_frame}
use Rattle.edges.specs.Rising.{risen}
use Rattle.pins.proofs.Device.raising.Goals as goal

pub returns-then-bits-lt7 : goal.returns-then-bits-lt7
unfolding risen
returns-then-bits-lt7 c =
    let x = c.args.self in
    ap (with_pins (with_c 1 x.pins)) (yes_so _ c.if-counted.true
    (ap (λ f. with_frame f x) (lt_so _ c.if-bits-lt7.true (rw c.shifted_in-byte.ensures))))

pub returns-then-counted : goal.returns-then-counted
unfolding risen
returns-then-counted c =
    let x = c.args.self in
    ap (with_pins (with_c 1 x.pins)) (yes_so _ c.if-counted.true
    (ap (λ f. with_frame f x) (ge_so _ c.if-bits-lt7.false
    (rw (c.whole_byte-self.ensures, c.shifted_in-byte.ensures)))))

pub returns : goal.returns
unfolding risen
returns c =
    let x = c.args.self in
    ap (with_pins (with_c 1 x.pins)) (no_so _ c.if-counted.false refl)
