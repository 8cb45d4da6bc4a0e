-- The value of a digit: that of each kind of byte, and that it is 256 at most.
use mathlib.Core.Path.{◌≡◌, refl}
use mathlib.Core.Bool.{Bool, true}
use Prim.Native.Nat.{ℕ, ◌+◌, ◌-◌, ◌<◌, ◌≤◌}
use native.Mathlib.Omega.{arith}
use lib.Dec.{leb}
use borrow.Author.Tests.{leb-true}
use Rattle.laws.specs.Pick.{pick, arms, ge_so, gt_so, le_so}
use Rattle.laws.specs.Each.{each, each_at}
use Rattle.intel_hex.specs.Reading.{digit}

pub digit_number : (b : ℕ) → 48 ≤ b → b ≤ 57 → b - 48 ≡ digit b
unfolding digit
digit_number b l h = search arms depth 12

pub digit_letter : (b : ℕ) → 65 ≤ b → b ≤ 70 → b - 65 + 10 ≡ digit b
unfolding digit
digit_letter b l h =
    let same : b - 65 + 10 ≡ b - 55 = omega arith in
    rw same (ge_so _ (omega arith) (gt_so _ (omega arith) (ge_so _ (omega arith) (le_so _ (omega arith) refl))))

right : ℕ → Bool
right b = leb (digit b) 256

all_right : each right 256 ≡ true
unfolding right each digit pick
all_right = refl

-- a value, or 256
pub digit_most : (b : ℕ) → b < 256 → digit b ≤ 256
unfolding right
digit_most b h = leb-true _ _ (each_at right 256 b all_right h)
