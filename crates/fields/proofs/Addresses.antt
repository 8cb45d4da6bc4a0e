-- An address of two bytes, and one of three whose bits above the memory are dropped: as the code joins them.
use Prim.Native.Nat.{ℕ, ◌+◌, ◌*◌, ◌%◌, ◌<◌}
use mathlib.Core.Path.{◌≡◌, refl}
use mathlib.Core.List.{List}
use native.Mathlib.Omega.{arith}
use lib.ListN.{get_or}
use Rattle.codes.specs.Part.{Part, part_of}
use Rattle.codes.proofs.Parts.{of_each}
use Rattle.fields.specs.Bytes.{address}

module _ (n : ℕ) (s : List ℕ) (one : get_or s 1 0 < 256) (two : get_or s 2 0 < 256) where
  abbrev pub first_two : ℕ
  first_two = get_or s 1 0 * 256 + get_or s 2 0

  Two : Part → Type 0
  Two P = P.address_bytes ≡ 2 → (first_two ≡ address P s) × (first_two < P.size)

  pub address_two : (part_of n).address_bytes ≡ 2 → (first_two ≡ address (part_of n) s) × (first_two < (part_of n).size)
  unfolding Two
  address_two = of_each Two n (λ e. absurd (omega arith)) (λ e. (omega arith, omega arith)) (λ e. (omega arith, omega arith))

  Three : Part → Type 0
  Three P = (P.address_bytes ≡ 2 → ⊥) → (first_two * 256 + get_or s 3 0) % P.size ≡ address P s

  pub address_three : ((part_of n).address_bytes ≡ 2 → ⊥) → (first_two * 256 + get_or s 3 0) % (part_of n).size ≡ address (part_of n) s
  unfolding Three
  address_three = of_each Three n (λ e. omega arith) (λ e. absurd (e refl)) (λ e. absurd (e refl))
