-- The low bits of the last byte, past the bit count, are set to 1, and no bit before them changes: by division, for each count of bits.
use Prim.Native.Nat.{ℕ, zero, suc, ◌+◌, ◌*◌, ◌-◌, ◌/◌, ◌<◌}
use mathlib.Core.Bool.{false}
use mathlib.Core.List.{[], ◌++◌}
use mathlib.Core.Path.{◌≡◌, refl, sym, ap, ◌∙◌}
use lib.Dec.{eqb}
use lib.ListN.{take}
use borrow.Author.Tests.{eq-eqb, ne_eqb}
use native.Mathlib.Omega.{arith}
use native.Mathlib.Nat.{mul-add-div_right, div-eq_of_lt, div-div-eq-div-mul}
use Rattle.laws.specs.Pick.{pick, at_yes, at_no}
use Rattle.laws.specs.Table.{from}
use Rattle.shown.specs.Shown.{padded}
use Rattle.agree.specs.Drawings.{low_bits, flat}

high : (p d v : ℕ) → 0 < p → (v / p * p + (p - 1)) / (p * d) ≡ v / (p * d)
high p d v h =
    sym (div-div-eq-div-mul (v / p * p + (p - 1)) p d)
    ∙ ap (λ y. y / d) (mul-add-div_right h (v / p) (p - 1) ∙ ap (λ y. v / p + y) (div-eq_of_lt (omega arith)) ∙ omega arith)
    ∙ div-div-eq-div-mul v p d

last_byte : (u v : ℕ) → u < 8 → take (8 - u) (low_bits 8 (padded u v) ++ []) ≡ take (8 - u) (low_bits 8 v ++ [])
last_byte zero v l =
    simp (
      high 1 1 v (omega arith),
      high 1 2 v (omega arith),
      high 1 4 v (omega arith),
      high 1 8 v (omega arith),
      high 1 16 v (omega arith),
      high 1 32 v (omega arith),
      high 1 64 v (omega arith),
      high 1 128 v (omega arith),
    )
last_byte (suc zero) v l =
    simp (
      high 2 1 v (omega arith),
      high 2 2 v (omega arith),
      high 2 4 v (omega arith),
      high 2 8 v (omega arith),
      high 2 16 v (omega arith),
      high 2 32 v (omega arith),
      high 2 64 v (omega arith),
    )
last_byte (suc (suc zero)) v l =
    simp (
      high 4 1 v (omega arith),
      high 4 2 v (omega arith),
      high 4 4 v (omega arith),
      high 4 8 v (omega arith),
      high 4 16 v (omega arith),
      high 4 32 v (omega arith),
    )
last_byte (suc (suc (suc zero))) v l =
    simp (high 8 1 v (omega arith), high 8 2 v (omega arith), high 8 4 v (omega arith), high 8 8 v (omega arith), high 8 16 v (omega arith))
last_byte (suc (suc (suc (suc zero)))) v l = simp (high 16 1 v (omega arith), high 16 2 v (omega arith), high 16 4 v (omega arith), high 16 8 v (omega arith))
last_byte (suc (suc (suc (suc (suc zero))))) v l = simp (high 32 1 v (omega arith), high 32 2 v (omega arith), high 32 4 v (omega arith))
last_byte (suc (suc (suc (suc (suc (suc zero)))))) v l = simp (high 64 1 v (omega arith), high 64 2 v (omega arith))
last_byte (suc (suc (suc (suc (suc (suc (suc zero))))))) v l = simp (high 128 1 v (omega arith))
last_byte (suc (suc (suc (suc (suc (suc (suc (suc u)))))))) v l = absurd (omega arith)

module _ (g : ℕ → ℕ) (len u : ℕ) (few : u < 8) where
  abbrev pub Padded : ℕ → ℕ
  Padded i = pick (eqb (i + 1) len) (padded u (g i)) (g i)

  pub pad_bits : (k j n : ℕ) → j + k ≡ len → n + u ≡ 8 * k → take n (flat (from j k Padded)) ≡ take n (flat (from j k g))
  unfolding flat from
  pad_bits zero j n e h = refl
  pad_bits (suc zero) j n e h =
      let last : j + 1 ≡ len = omega arith in
      let count : n ≡ 8 - u = omega arith in
      ap (λ x. take n (low_bits 8 x ++ [])) (at_yes _ _ (eq-eqb (j + 1) len last))
      ∙ ap (λ y. take y (low_bits 8 (padded u (g j)) ++ [])) count
      ∙ last_byte u (g j) few
      ∙ ap (λ y. take y (low_bits 8 (g j) ++ [])) (sym count)
  pad_bits (suc (suc k)) j n e h =
      let other : eqb (j + 1) len ≡ false = ne_eqb (j + 1) len (λ q. omega arith) in
      let count : n ≡ suc (suc (suc (suc (suc (suc (suc (suc (n - 8)))))))) = omega arith in
      ap (λ x. take n (low_bits 8 x ++ flat (from (suc j) (suc k) Padded))) (at_no _ _ other)
      ∙ ap (λ y. take y (low_bits 8 (g j) ++ flat (from (suc j) (suc k) Padded))) count
      ∙ ap (λ l. low_bits 8 (g j) ++ l) (pad_bits (suc k) (suc j) (n - 8) (omega arith) (omega arith))
      ∙ ap (λ y. take y (low_bits 8 (g j) ++ flat (from (suc j) (suc k) g))) (sym count)
