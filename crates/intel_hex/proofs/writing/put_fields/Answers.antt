-- The parts of the line one after another.
use mathlib.Core.Path.{◌≡◌, refl, ◌∙◌}
use Prim.Native.Nat.{◌+◌, ◌*◌}
use native.Mathlib.Omega.{arith}
use lib.ListN.{length, set, length-set}
use Rattle.intel_hex.specs.Writing.{total, sum_byte}
use Rattle.intel_hex.proofs.Writes.{put_set, line_written}
use Rattle.intel_hex.proofs.writing.put_fields.Goals as goal

pub returns : goal.returns
returns c =
    let a = c.args in
    let s = c.sum_byte-sum in
    let f = c.sum_of in
    let g = c.sum_of-2 in
    let all : s.result ≡ sum_byte (total a.head.now + total a.bytes.now) = s.ensures ∙ rw (f.ensures.0, g.ensures.0) refl in
    line_written a.out.now (set a.out.now a.at 58) c.put_values.new.out c.put_values-2.new.out c.put_byte.new.out
    (set c.put_byte.new.out (a.at + 2 * length a.bytes.now + 9 + 2) 10) a.at (length a.bytes.now) s.result a.head.now a.bytes.now c.requires.2 refl c.requires.0
    (put_set _ _ _ (omega arith)) c.put_values.ensures c.put_values-2.ensures c.put_byte.ensures
    (put_set _ _ _ (omega (arith, length-set a.out.now a.at 58))) all
