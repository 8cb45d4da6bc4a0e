-- What holds of every row of the table of parts holds of the row that a part's number reads.
use Prim.Native.Nat.{ℕ, ◌≤◌}
use mathlib.Core.Bool.{Bool, true, false}
use Rattle.std.specs.Prelude.{◌≢◌}
use mathlib.Core.Path.{◌≡◌, refl, ◌∙◌, ap}
use native.Mathlib.Omega.{arith}
use lib.Dec.{eqb, lit≤}
use borrow.Author.Tests.{eqb-true, eqb-false, ne_eqb, leb-false}
use Rattle.laws.specs.Pick.{pick, pick_case, at_no}
use Rattle.codes.specs.Part.{Part, row_with, m95512, m95512d, m95m01, part_of, is_part, room, room_cells}

module _ (F : Part → Type 0) where
  pub of_each : (n : ℕ) → F m95m01 → F m95512d → F m95512 → F (part_of n)
  unfolding part_of
  of_each n m d p = pick_case F (eqb n 2) (λ e. m) (λ e. pick_case F (eqb n 1) (λ f. d) (λ f. p))

  pub of_megabit : {n : ℕ} → n ≡ 2 → F m95m01 → F (part_of n)
  unfolding part_of
  of_megabit {n} h m = pick_case F (eqb n 2) (λ e. m) (λ e. absurd (eqb-false n 2 e h))

  pub of_others : {n : ℕ} → (n ≡ 2 → ⊥) → F m95512d → F m95512 → F (part_of n)
  unfolding part_of
  of_others {n} h d p =
      pick_case F (eqb n 2) (λ e. absurd (h (eqb-true n 2 e))) (λ e. pick_case F (eqb n 1) (λ f. d) (λ f. p))

-- a flag of the row, as the code asks for it: by the tests of the two numbers that are not 0
module _ (F : Part → Bool) (G : Bool → Bool → Bool) (both : G true true ≡ F m95m01) (megabit : G false true ≡ F m95m01)
    (identified : G true false ≡ F m95512d) (plain : G false false ≡ F m95512) where
  by_tests : (a b : Bool) → G a b ≡ F (pick b m95m01 (pick a m95512d m95512))
  unfolding pick
  by_tests true true = both
  by_tests false true = megabit
  by_tests true false = identified
  by_tests false false = plain

  pub flag_of_row : (n : ℕ) → G (eqb n 1) (eqb n 2) ≡ F (part_of n)
  unfolding part_of
  flag_of_row n = by_tests (eqb n 1) (eqb n 2)

-- the rows by their numbers
pub row_plain : part_of 0 ≡ m95512
unfolding part_of pick
row_plain = refl

pub row_identified : part_of 1 ≡ m95512d
unfolding part_of pick
row_identified = refl

pub row_megabit : part_of 2 ≡ m95m01
unfolding part_of pick
row_megabit = refl

-- the rows of the same sizes
by_flag : (b : Bool) → pick b m95512d m95512 ≡ row_with b
unfolding pick
by_flag true = refl
by_flag false = refl

-- every number but the M95M01's reads one of them
pub row_other : {n : ℕ} → n ≢ 2 → part_of n ≡ row_with (eqb n 1)
unfolding part_of
row_other {n} h = at_no m95m01 _ (ne_eqb n 2 h) ∙ by_flag (eqb n 1)

-- a number that is none reads the M95512's
pub row_none : (n : ℕ) → is_part n ≡ false → part_of n ≡ m95512
row_none n e =
    row_other (λ h. omega (arith, leb-false n 2 e)) ∙ ap row_with (ne_eqb n 1 (λ h. omega (arith, leb-false n 2 e)))

-- how large they are
pub size_most : (n : ℕ) → (part_of n).size ≤ room_cells
size_most n = of_each (λ (P : Part). P.size ≤ room_cells) n (lit≤ tt) (lit≤ tt) (lit≤ tt)

pub page_most : (n : ℕ) → (part_of n).page ≤ room
page_most n = of_each (λ (P : Part). P.page ≤ room) n (lit≤ tt) (lit≤ tt) (lit≤ tt)

pub longest_most : (n : ℕ) → (part_of n).longest ≤ 5000
longest_most n = of_each (λ (P : Part). P.longest ≤ 5000) n (lit≤ tt) (lit≤ tt) (lit≤ tt)

pub few_bytes : (n : ℕ) → (2 ≤ (part_of n).address_bytes) × ((part_of n).address_bytes ≤ 3)
few_bytes n =
    of_each (λ (P : Part). (2 ≤ P.address_bytes) × (P.address_bytes ≤ 3)) n (lit≤ tt, lit≤ tt) (lit≤ tt, lit≤ tt) (lit≤ tt, lit≤ tt)
