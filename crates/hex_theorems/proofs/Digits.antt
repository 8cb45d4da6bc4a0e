-- A digit written and read, and read and written; a byte of two digits.
use mathlib.Core.Path.{◌≡◌, refl, ap, sym, ◌∙◌}
use mathlib.Core.Bool.{Bool, true, false}
use mathlib.Core.List.{List, [], ◌∷◌, ◌++◌}
use Prim.Native.Nat.{ℕ, zero, suc, ◌+◌, ◌-◌, ◌*◌, ◌/◌, ◌%◌, ◌<◌, ◌≤◌}
use native.Mathlib.Omega.{arith}
use lib.ListN.{length, get_or}
use lib.Dec.{eqb, leb, ltb}
use borrow.Author.Tests.{eqb-true, leb-true, leb-false, ltb-true, ltb-false, lt-ltb, le-ltb}
use Rattle.laws.specs.Pick.{pick, at_yes, at_no}
use Rattle.laws.specs.Each.{each, each_at}
use Rattle.intel_hex.specs.Writing.{digit_text, byte_text}
use Rattle.intel_hex.specs.Reading.{digit}
use Rattle.intel_hex.proofs.Fronts.{by_test_law}

-- ---- written and read

sixteen_digits : each (λ d. eqb (digit (digit_text d)) d) 16 ≡ true
unfolding each digit pick
sixteen_digits = refl

pub digit_read : (d : ℕ) → d < 16 → digit (digit_text d) ≡ d
digit_read d h = eqb-true _ _ (each_at (λ k. eqb (digit (digit_text k)) k) 16 d sixteen_digits h)

pub byte_read : (v : ℕ) → v < 256 → digit (digit_text (v / 16)) * 16 + digit (digit_text (v % 16)) ≡ v
byte_read v h = rw (digit_read (v / 16) (omega arith), digit_read (v % 16) (omega arith)) (omega arith)

-- ---- read and written

-- what a byte that is a digit is, as one
abbrev pub Digital : ℕ → Type 0
Digital c = (digit c < 16) × (digit_text (digit c) ≡ c)

pub digit_written : (c : ℕ) → digit c < 256 → Digital c
unfolding digit
digit_written c h =
    by_test_law (ltb c 48) (λ e. let z : digit c ≡ 256 = at_yes _ _ e in absurd (omega (arith, z)))
    (λ e. by_test_law (leb c 57)
    (λ f. let z : digit c ≡ c - 48 = at_no _ _ e ∙ at_yes _ _ f in
    let low : c - 48 < 10 = omega (arith, leb-true c 57 f) in
    let high : 48 ≤ c = ltb-false c 48 e in
    (omega (arith, z), rw z (at_yes _ _ (lt-ltb (c - 48) 10 low) ∙ omega arith)))
    (λ f. by_test_law (ltb c 65) (λ g. let z : digit c ≡ 256 = at_no _ _ e ∙ at_no _ _ f ∙ at_yes _ _ g in absurd (omega (arith, z)))
    (λ g. by_test_law (leb c 70)
    (λ k. let z : digit c ≡ c - 55 = at_no _ _ e ∙ at_no _ _ f ∙ at_no _ _ g ∙ at_yes _ _ k in
    let high : 65 ≤ c = ltb-false c 65 g in
    let low : c ≤ 70 = leb-true c 70 k in
    (omega (arith, z), rw z (at_no _ _ (le-ltb (c - 55) 10 (omega arith)) ∙ omega arith)))
    (λ k. let z : digit c ≡ 256 = at_no _ _ e ∙ at_no _ _ f ∙ at_no _ _ g ∙ at_no _ _ k in absurd (omega (arith, z))))))

-- two digits
pub byte_written : (a b : ℕ) → digit a * 16 + digit b < 256 → byte_text (digit a * 16 + digit b) ≡ a ∷ b ∷ []
byte_written a b h =
    let p = digit_written a (omega arith) in
    let q = digit_written b (omega arith) in
    let high : (digit a * 16 + digit b) / 16 ≡ digit a = omega (arith, p.0, q.0) in
    let low : (digit a * 16 + digit b) % 16 ≡ digit b = omega (arith, p.0, q.0) in
    rw (high, low, p.1, q.1) refl
