-- Held, as it is renewed: "HOLD is low" of a selected device.
use mathlib.Core.Path.{◌≡◌, refl, ap, sym, ◌∙◌}
use mathlib.Core.Bool.{Bool, true, false, not, ◌&&◌}
use Prim.Native.Nat.{ℕ, ◌+◌, ◌≤◌}
use native.Mathlib.Omega.{arith}
use lib.Dec.{leb}
use borrow.Author.Tests.{le-leb, leb-true, eq-eqb, eqb-true, eqb-false}
use Rattle.laws.specs.Pick.{at_yes, at_no, pick_case}
use Rattle.laws.specs.And.{and_5_out}
use Rattle.codes.specs.Status.{bit, on}
use Rattle.laws.specs.Flags.{bit_small}
use Rattle.pins.specs.declared.Pins.{Pins}
use Rattle.pins.specs.Ranges.{pins_fit, held_fits}

-- a level is 0 or 1
pub hold_small : (p : Pins) → pins_fit p ≡ true → p.hold ≤ 1
hold_small p e = leb-true _ _ (and_5_out (leb p.s 1) (leb p.c 1) (leb p.d 1) (leb p.w 1) (leb p.hold 1) e).1.1.1.1

-- "HOLD is low", as a number
pub low_or_high : (h : ℕ) → h ≤ 1 → bit (not (on h)) + h ≡ 1
low_or_high h small = go (on h) refl
  where
    go : (b : Bool) → on h ≡ b → bit (not (on h)) + h ≡ 1
    go true e = let one : h ≡ 1 = eqb-true _ _ e in rw one refl
    go false e =
        let none : h ≡ 0 = omega (arith, eqb-false h 1 e) in
        rw none refl

-- what held is renewed to
abbrev pub new_held : Pins → ℕ
new_held p = bit (not (on p.s) && not (on p.hold))

off_none : (p : Pins) → on p.s ≡ true → new_held p ≡ 0
off_none p e = rw e refl

selected_low : (p : Pins) → on p.s ≡ false → new_held p ≡ bit (not (on p.hold))
selected_low p e = rw e refl

-- it is inside the ranges, whatever C is
pub renewed_fits : (p : Pins) → p.hold ≤ 1 → held_fits p (new_held p) ≡ true
renewed_fits p h =
    pick_case (λ (b : Bool). b ≡ true) (on p.s) (λ s. eq-eqb _ _ (off_none p s))
    (λ s. pick_case (λ (b : Bool). b ≡ true) (on p.c) (λ c. le-leb _ _ (bit_small (not (on p.s) && not (on p.hold))))
    (λ c. eq-eqb _ _ (ap (λ (n : ℕ). n + p.hold) (selected_low p s) ∙ low_or_high p.hold h)))

-- and of a device inside them it is what held is, while C is low
pub renewed_same : (p : Pins) (held : ℕ) → p.hold ≤ 1 → held_fits p held ≡ true → on p.c ≡ false → new_held p ≡ held
renewed_same p held h e c = go (on p.s) refl
  where
    go : (b : Bool) → on p.s ≡ b → new_held p ≡ held
    go true s =
        let none : held ≡ 0 = eqb-true _ _ (sym (at_yes _ _ s) ∙ e) in
        off_none p s ∙ sym none
    go false s =
        let one : held + p.hold ≡ 1 = eqb-true _ _ (sym (at_no _ _ c) ∙ sym (at_no _ _ s) ∙ e) in
        let new : bit (not (on p.hold)) + p.hold ≡ 1 = low_or_high p.hold h in
        let same : bit (not (on p.hold)) ≡ held = omega arith in
        selected_low p s ∙ same

-- held is 0 or 1, and 0 where the device is not selected
pub held_small : (p : Pins) (held : ℕ) → held_fits p held ≡ true → held ≤ 1
held_small p held e = go (on p.s) refl
  where
    selected : on p.s ≡ false → (b : Bool) → on p.c ≡ b → held ≤ 1
    selected s true c = leb-true _ _ (sym (at_yes _ _ c) ∙ sym (at_no _ _ s) ∙ e)
    selected s false c =
        let one : held + p.hold ≡ 1 = eqb-true _ _ (sym (at_no _ _ c) ∙ sym (at_no _ _ s) ∙ e) in
        omega arith

    go : (b : Bool) → on p.s ≡ b → held ≤ 1
    go true s =
        let none : held ≡ 0 = eqb-true _ _ (sym (at_yes _ _ s) ∙ e) in
        omega arith
    go false s = selected s (on p.c) refl
