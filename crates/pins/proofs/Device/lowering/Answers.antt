use mathlib.Core.Path.{◌≡◌, refl, ap, sym, ◌∙◌}
use Rattle.laws.specs.Pick.{yes_so, no_so, and_left, and_right}
use Rattle.pins.specs.Devices.{device_part}
use Rattle.codes.specs.Status.{on}
use Rattle.codes.specs.Instructions.{decode}
use Rattle.pins.specs.Devices.{with_c, with_pins, with_frame, counting}
use Rattle.pins.specs.Events.{renewed}
use Rattle.codes.specs.Output.{outputs}
use Rattle.edges.specs.Falling.{fallen}
use Rattle.pins.proofs.Stills.{still}
use Rattle.pins.proofs.Device.lowering.Goals as goal

pub returns-then-shown : goal.returns-then-shown
unfolding fallen
returns-then-shown c =
    let x = c.args.self in
    let o : outputs (device_part x) (decode (device_part x) x.frame.code) x.frame.taken (on x.frame.ran)
    ≡ c.outputs-drives.result =
    sym (c.outputs-drives.ensures ∙ ap
    (λ i. outputs (device_part x) i x.frame.taken (on x.frame.ran))
    c.decode-i.ensures) in
    let both = c.if-counted-drives.true in
    let counted = and_left (counting x) c.outputs-drives.result both in
    let drives = o ∙ and_right (counting x) c.outputs-drives.result both in
    rw c.bit-held.ensures
    (ap (λ y. renewed (with_pins (with_c 0 x.pins) y)) (yes_so _ counted (ap (λ f. with_frame f x) (yes_so _ drives (yes_so _ c.if-shown.true refl)))))

pub returns-then-counted-drives : goal.returns-then-counted-drives
unfolding fallen
returns-then-counted-drives c =
    let x = c.args.self in
    let o : outputs (device_part x) (decode (device_part x) x.frame.code) x.frame.taken (on x.frame.ran)
    ≡ c.outputs-drives.result =
    sym (c.outputs-drives.ensures ∙ ap
    (λ i. outputs (device_part x) i x.frame.taken (on x.frame.ran))
    c.decode-i.ensures) in
    let both = c.if-counted-drives.true in
    let counted = and_left (counting x) c.outputs-drives.result both in
    let drives = o ∙ and_right (counting x) c.outputs-drives.result both in
    rw c.bit-held.ensures
    (ap (λ y. renewed (with_pins (with_c 0 x.pins) y))
    (yes_so _ counted (ap (λ f. with_frame f x) (yes_so _ drives (no_so _ c.if-shown.false
    (rw (c.loading-self.ensures, c.decode-i.ensures)))))))

pub returns : goal.returns
unfolding fallen
returns c =
    let x = c.args.self in
    let o : outputs (device_part x) (decode (device_part x) x.frame.code) x.frame.taken (on x.frame.ran)
    ≡ c.outputs-drives.result =
    sym (c.outputs-drives.ensures ∙ ap (λ i. outputs (device_part x) i x.frame.taken (on x.frame.ran))
    c.decode-i.ensures) in
    rw c.bit-held.ensures
    (ap (λ y. renewed (with_pins (with_c 0 x.pins) y))
    (still (device_part x) _ x.core x c.outputs-drives.result o c.if-counted-drives.false))
