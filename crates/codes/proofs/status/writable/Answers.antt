-- A test of all 256 bytes.
use Prim.Native.Nat.{ℕ}
use mathlib.Core.Bool.{Bool}
use mathlib.Core.Path.{refl}
use lib.Bits.{bit_and}
use lib.Dec.{eqb}
use borrow.Author.Tests.{eqb-true}
use Rattle.laws.specs.Each.{each, each_at}
use Rattle.codes.specs.Status.{writable}
use Rattle.codes.proofs.status.writable.Goals as goal

right : ℕ → Bool
right v = eqb (bit_and v 0x8c) (writable v)

pub returns : goal.returns
unfolding right each
returns c = eqb-true _ _ (each_at right 256 c.args.value refl c.ranges.value.fits)
