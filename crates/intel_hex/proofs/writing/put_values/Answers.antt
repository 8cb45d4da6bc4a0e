use mathlib.Core.Path.{◌≡◌, ap, sym, ◌∙◌}
use Prim.Native.Nat.{ℕ, ◌+◌, ◌*◌}
use native.Mathlib.Numerals.{add-one}
use native.Mathlib.Omega.{arith}
use lib.ListN.{length, take, get_or}
use lib.Seq.{length-take-le}
use Rattle.printing.specs.Put.{put}
use Rattle.printing.proofs.Puts.{put_nil}
use Rattle.intel_hex.specs.Writing.{byte_text, bytes_text}
use Rattle.intel_hex.proofs.Writes.{put_then, bytes_text_length, bytes_text_none, bytes_text_more}
use Rattle.intel_hex.proofs.writing.put_values.Goals as goal

pub loop-i-init : goal.loop-i-init
loop-i-init c =
    let a = c.args in
    sym (ap (put a.out.now a.at) (bytes_text_none a.bytes.now) ∙ put_nil a.out.now a.at)

pub loop-i-preserved : goal.loop-i-preserved
loop-i-preserved c =
    let l = c.loop-i in
    let a = c.args in
    let x = c.put_byte in
    let d = a.out.now in
    let bs = a.bytes.now in
    let so_far = bytes_text (take l.i bs) in
    let n : length so_far ≡ 2 * l.i = bytes_text_length (take l.i bs) ∙ ap (λ (k : ℕ). 2 * k) (length-take-le l.i bs (omega arith)) in
    let done : x.new.out ≡ put d a.at (bytes_text (take (l.i + 1) bs)) =
    x.ensures ∙ put_then d l.out a.at (a.at + 2 * l.i) so_far (byte_text (get_or bs l.i 0)) l.invariant (omega (arith, n)) (omega (arith, n))
    ∙ ap (put d a.at) (rw add-one (sym (bytes_text_more bs l.i (omega arith)))) in
    done
