-- A falling edge that moves nothing: not counted, or outside data output.
use mathlib.Core.Path.{◌≡◌, refl}
use mathlib.Core.Bool.{Bool, true, false, ◌&&◌, true≢false}
use Rattle.laws.specs.Pick.{pick}
use Rattle.codes.specs.Part.{Part}
use Rattle.codes.specs.Status.{on}
use Rattle.codes.specs.Instructions.{decode}
use Rattle.chip.specs.Lents.{Lent}
use Rattle.chip.specs.declared.Core.{Core}
use Rattle.edges.specs.declared.Frame.{Frame}
use Rattle.pins.specs.declared.Device.{Device}
use Rattle.pins.specs.Devices.{with_frame, counting}
use Rattle.codes.specs.Output.{outputs}
use Rattle.edges.specs.Falling.{fallen}

-- neither choice is taken, or both come to the same
unmoved : (x : Device) (g : Frame) (t o d : Bool) → o ≡ d → (t && d) ≡ false → x ≡ pick t (with_frame (pick o g x.frame) x) x
unfolding pick
unmoved x g true o true e h = absurd (true≢false h)
unmoved x g true o false e h = rw e refl
unmoved x g false o d e h = refl

pub still : (P : Part) (m : Lent) (c : Core) (x : Device) (drives : Bool)
    → outputs P (decode P x.frame.code) x.frame.taken (on x.frame.ran) ≡ drives → (counting x && drives) ≡ false
    → x ≡ pick (counting x) (with_frame (fallen P m c x.frame) x) x
unfolding fallen
still P m c x drives e h = unmoved x _ (counting x) _ drives e h
