use Prim.Native.Nat.{◌+◌, ◌/◌, ◌%◌, min}
use mathlib.Core.Path.{◌≡◌}
use native.Mathlib.Omega.{arith}
use Rattle.fields.proofs.Counting.{fits_begun}
use Rattle.fields.proofs.counts.bits_fit.Goals as goal

pub returns : goal.returns
returns c =
    let n = c.args.bits in
    let begun : c.div_ceil.result ≡ n / 8 + min 1 (n % 8) = omega (arith, c.div_ceil.ensures) in
    rw begun (fits_begun c.args.len n)
