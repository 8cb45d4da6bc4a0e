-- The high part of a number is the one above it and a bit; and no test sees the count of whole bytes stay at its most: by arithmetic.
use Prim.Native.Nat.{ℕ, suc, ◌+◌, ◌*◌, ◌/◌, ◌^◌, ◌<◌, ◌≤◌, min}
use mathlib.Core.Bool.{Bool, true, false}
use mathlib.Core.Path.{◌≡◌, refl, sym, ap, ◌∙◌}
use lib.Dec.{eqb, ltb, leb}
use borrow.Author.Tests.{leb-true, leb-false, ltb-true, ltb-false, eqb-true, eqb-false}
use native.Mathlib.Nat.{pow-suc, div-div-eq-div-mul}
use native.Mathlib.Omega.{arith}
use Rattle.codes.specs.Status.{bit_of}

pub halves : (v m : ℕ) → v / 2 ^ m ≡ 2 * (v / 2 ^ suc m) + bit_of m v
halves v m =
    let half : v / 2 ^ suc m ≡ v / 2 ^ m / 2 = ap (λ (k : ℕ). v / k) (pow-suc 2 m) ∙ sym (div-div-eq-div-mul v (2 ^ m) 2) in
    rw half (omega arith)

-- ---- two tests are one

pub leb_cong : (a b x y : ℕ) → (a ≤ b → x ≤ y) → (x ≤ y → a ≤ b) → leb a b ≡ leb x y
leb_cong a b x y f g = by_tests (leb a b) (leb x y) refl refl
  where
    by_tests : (s t : Bool) → leb a b ≡ s → leb x y ≡ t → leb a b ≡ leb x y
    by_tests true true d e = d ∙ sym e
    by_tests true false d e = absurd (let h = f (leb-true a b d) in omega (arith, leb-false x y e))
    by_tests false true d e = absurd (let h = g (leb-true x y e) in omega (arith, leb-false a b d))
    by_tests false false d e = d ∙ sym e

pub ltb_cong : (a b x y : ℕ) → (a < b → x < y) → (x < y → a < b) → ltb a b ≡ ltb x y
ltb_cong a b x y f g = by_tests (ltb a b) (ltb x y) refl refl
  where
    by_tests : (s t : Bool) → ltb a b ≡ s → ltb x y ≡ t → ltb a b ≡ ltb x y
    by_tests true true d e = d ∙ sym e
    by_tests true false d e = absurd (let h = f (ltb-true a b d) in omega (arith, ltb-false x y e))
    by_tests false true d e = absurd (let h = g (ltb-true x y e) in omega (arith, ltb-false a b d))
    by_tests false false d e = d ∙ sym e

pub eqb_cong : (a b x y : ℕ) → (a ≡ b → x ≡ y) → (x ≡ y → a ≡ b) → eqb a b ≡ eqb x y
eqb_cong a b x y f g = by_tests (eqb a b) (eqb x y) refl refl
  where
    by_tests : (s t : Bool) → eqb a b ≡ s → eqb x y ≡ t → eqb a b ≡ eqb x y
    by_tests true true d e = d ∙ sym e
    by_tests true false d e = absurd (eqb-false x y e (f (eqb-true a b d)))
    by_tests false true d e = absurd (eqb-false a b d (g (eqb-true x y e)))
    by_tests false false d e = d ∙ sym e

-- ---- a count that stays at k

pub leb_min : (k j x : ℕ) → x ≤ k → leb x (min k j) ≡ leb x j
leb_min k j x h = leb_cong x (min k j) x j (λ p. omega arith) (λ p. omega arith)

pub min_leb : (k j x : ℕ) → x < k → leb (min k j) x ≡ leb j x
min_leb k j x h = leb_cong (min k j) x j x (λ p. omega arith) (λ p. omega arith)

pub min_eqb : (k j x : ℕ) → x < k → eqb (min k j) x ≡ eqb j x
min_eqb k j x h = eqb_cong (min k j) x j x (λ p. omega arith) (λ p. omega arith)

pub min_next : (k j : ℕ) → min k (min k j + 1) ≡ min k (suc j)
min_next k j = omega arith
