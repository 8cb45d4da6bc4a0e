-- Two writes, one after the other.
use mathlib.Core.Path.{refl, ◌∙◌}
use mathlib.Core.List.{[], ◌∷◌}
use Prim.Native.Nat.{◌+◌}
use native.Mathlib.Omega.{arith}
use Rattle.printing.proofs.Puts.{put_more}
use Rattle.intel_hex.proofs.Writes.{put_set}
use Rattle.intel_hex.proofs.writing.put_byte.Goals as goal

pub returns : goal.returns
returns c =
    let a = c.args in
    let d = a.out.now in
    let high = c.digit_text.result in
    rw (put_set d a.at high (omega arith))
    (put_more d a.at (high ∷ []) (a.at + 1) c.digit_text-2.result refl (omega arith) ∙ rw (c.digit_text.ensures, c.digit_text-2.ensures) refl)
