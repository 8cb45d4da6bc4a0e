-- A bit count fits a frame's bytes exactly where they are as many as it begins.
use mathlib.Core.Path.{◌≡◌, sym, ◌∙◌}
use mathlib.Core.Bool.{true, false}
use Prim.Native.Nat.{ℕ, ◌+◌, ◌*◌, ◌-◌, ◌/◌, ◌%◌, min}
use native.Mathlib.Decide.{ℕ_discrete, dec_lt}
use native.Mathlib.Omega.{arith}
use lib.Dec.{eqb, leb}
use borrow.Author.Tests.{eq-eqb, ne_eqb, le-leb, lt-leb}
use Rattle.laws.specs.Pick.{at_yes, at_no, and_both, and_no_left, and_no_right}
use Rattle.fields.specs.Counts.{bits_fit}

module _ (len n : ℕ) where
  -- the bytes that the count begins
  abbrev begun : ℕ
  begun = n / 8 + min 1 (n % 8)

  fit : begun ≡ len → bits_fit len n ≡ true
  fit e = elim (ℕ_discrete len 0) [
    | yes z ↦ at_yes _ _ (eq-eqb len 0 z) ∙ eq-eqb n 0 (omega arith)
    | no z ↦
        at_no _ _ (ne_eqb len 0 z)
        ∙ and_both (leb (8 * len - 7) n) (leb n (8 * len)) (le-leb (8 * len - 7) n (omega arith)) (le-leb n (8 * len) (omega arith))
  ]

  misfit : (begun ≡ len → ⊥) → bits_fit len n ≡ false
  misfit e = elim (ℕ_discrete len 0) [
    | yes z ↦ at_yes _ _ (eq-eqb len 0 z) ∙ ne_eqb n 0 (λ k. e (omega arith))
    | no z ↦ at_no _ _ (ne_eqb len 0 z) ∙ elim (dec_lt n (8 * len - 7)) [
      | yes few ↦ and_no_left (leb (8 * len - 7) n) (leb n (8 * len)) (lt-leb (8 * len - 7) n few)
      | no few ↦ elim (dec_lt (8 * len) n) [
        | yes many ↦ and_no_right (leb (8 * len - 7) n) (leb n (8 * len)) (lt-leb n (8 * len) many)
        | no many ↦ absurd (e (omega arith))
      ]
    ]
  ]

  pub fits_begun : eqb begun len ≡ bits_fit len n
  fits_begun = elim (ℕ_discrete begun len) [
    | yes e ↦ eq-eqb begun len e ∙ sym (fit e)
    | no e ↦ ne_eqb begun len e ∙ sym (misfit e)
  ]
