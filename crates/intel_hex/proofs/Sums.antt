-- Sums of bytes and tables with one element more.
use mathlib.Core.Path.{◌≡◌, refl, ap, sym, ◌∙◌}
use mathlib.Core.List.{List, [], ◌∷◌, ◌++◌}
use Prim.Native.Nat.{ℕ, zero, suc, ◌+◌, ◌*◌, ◌<◌, ◌≤◌}
use native.Mathlib.Nat.{add-zero, zero-add}
use native.Mathlib.Numerals.{add-one}
use native.Mathlib.Omega.{arith}
use lib.ListN.{length, get_or, take}
use lib.Seq.{take-suc}
use Rattle.std.specs.Prelude.{sum_by}
use Rattle.std.proofs.lemmas.List.Recursion.{is_sum_by}
use Rattle.laws.specs.Table.{from, table}
use Rattle.intel_hex.specs.Writing.{total}

pub total_append : (x y : List ℕ) → total (x ++ y) ≡ total x + total y
unfolding total
total_append [] y = omega arith
total_append (v ∷ x) y = rw (total_append x y) (omega arith)

-- std's sum is the total
pub total_is : (l : List ℕ) → total l ≡ sum_by (λ b. b) l
unfolding total
total_is l = is_sum_by total (λ b. b) refl (λ _ _. refl) l

pub total_most : (l : List ℕ) → ((i : ℕ) → get_or l i 0 < 256) → total l ≤ 255 * length l
unfolding total
total_most [] h = omega arith
total_most (v ∷ l) h = omega (arith, h 0, total_most l (λ i. h (suc i)))

pub total_one : (v : ℕ) → total (v ∷ []) ≡ v
unfolding total
total_one v = omega arith

pub total_take : (x : List ℕ) (i : ℕ) → i < length x → total (take (suc i) x) ≡ total (take i x) + get_or x i 0
total_take x i h = ap total (take-suc x i 0 h) ∙ total_append (take i x) (get_or x i 0 ∷ []) ∙ ap (λ (k : ℕ). total (take i x) + k) (total_one (get_or x i 0))

module _ {A : Type 0} (f : ℕ → A) where
  from_more : (k n : ℕ) → from k (suc n) f ≡ from k n f ++ (f (k + n) ∷ [])
  unfolding from
  from_more k zero = ap (λ (j : ℕ). f j ∷ []) (sym (add-zero k))
  from_more k (suc n) =
      let e : suc k + n ≡ k + suc n = omega arith in
      ap (λ (l : List A). f k ∷ l) (from_more (suc k) n ∙ ap (λ (j : ℕ). from (suc k) n f ++ (f j ∷ [])) e)

  pub table_more : (n : ℕ) → table (n + 1) f ≡ table n f ++ (f n ∷ [])
  unfolding table
  table_more n = rw add-one (from_more 0 n ∙ ap (λ (j : ℕ). from 0 n f ++ (f j ∷ [])) (zero-add n))

pub total_table : (f : ℕ → ℕ) (n : ℕ) → total (table (n + 1) f) ≡ total (table n f) + f n
total_table f n = ap total (table_more f n) ∙ total_append (table n f) (f n ∷ []) ∙ ap (λ (k : ℕ). total (table n f) + k) (total_one (f n))

pub total_none : (f : ℕ → ℕ) → total (table 0 f) ≡ 0
unfolding total table from
total_none f = refl
