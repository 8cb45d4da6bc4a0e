-- Not selected: C, D, W and HOLD only change their level, and the device is not held, whatever HOLD is.
use mathlib.Core.Path.{◌≡◌, refl, ap, sym, ◌∙◌}
use mathlib.Core.List.{List}
use mathlib.Core.Bool.{Bool, true, false, not, ◌&&◌}
use Prim.Native.Nat.{ℕ}
use lib.Dec.{eqb}
use borrow.Author.Tests.{eqb-true}
use Rattle.laws.specs.Pick.{pick, at_yes, at_no, pick_case, and_no_left}
use Rattle.codes.specs.Part.{Part}
use Rattle.codes.specs.Status.{bit, on}
use Rattle.chip.specs.Lents.{Lent}
use Rattle.pins.specs.declared.Pins.{Pins}
use Rattle.pins.specs.declared.Device.{Device}
use Rattle.pins.specs.Devices.{with_c, with_d, with_w, with_hold, with_pins, with_held_at, selected, counting}
use Rattle.pins.specs.Ranges.{device_fits}
use Rattle.pins.specs.Events.{renewed, on_c, on_d, on_w, on_hold}
use Rattle.pins_theorems.proofs.Parts.{parts}

module _ (P : Part) (x : Device) (fits : device_fits P x ≡ true) (s : on x.pins.s ≡ true) where
  pub unheld : x.held ≡ 0
  unheld = eqb-true _ _ (sym (at_yes _ _ s) ∙ (parts P x fits).held)

  uncounted : counting x ≡ false
  uncounted = and_no_left (selected x) (not (on x.held)) (ap not s)

  -- held is renewed to what it is
  renewed_same : (p : Pins) → on p.s ≡ true → renewed (with_pins p x) ≡ with_pins p x
  renewed_same p e =
      let none : bit (not (on p.s) && not (on p.hold)) ≡ x.held = rw e (sym unheld) in
      ap (λ (n : ℕ). with_held_at n (with_pins p x)) none

  pub level_c : (m : Lent) (level : Bool) → on_c P level m x ≡ with_pins (with_c (bit level) x.pins) x
  unfolding on_c pick
  level_c m true =
      pick_case (λ (y : Device). y ≡ with_pins (with_c 1 x.pins) x) (eqb x.pins.c 1) (λ e. ap (λ (n : ℕ). with_pins (with_c n x.pins) x) (eqb-true _ _ e))
      (λ e. ap (with_pins (with_c 1 x.pins)) (at_no _ _ uncounted))
  level_c m false =
      pick_case (λ (y : Device). y ≡ with_pins (with_c 0 x.pins) x) (eqb x.pins.c 0) (λ e. ap (λ (n : ℕ). with_pins (with_c n x.pins) x) (eqb-true _ _ e))
      (λ e. ap (λ (y : Device). renewed (with_pins (with_c 0 x.pins) y)) (at_no _ _ uncounted) ∙ renewed_same (with_c 0 x.pins) s)

  pub level_d : (level : Bool) → on_d level x ≡ with_pins (with_d (bit level) x.pins) x
  unfolding on_d
  level_d level = refl

  pub level_w : (level : Bool) → on_w level x ≡ with_pins (with_w (bit level) x.pins) x
  unfolding on_w
  level_w level = refl

  pub level_hold : (level : Bool) → on_hold level x ≡ with_pins (with_hold (bit level) x.pins) x
  unfolding on_hold
  level_hold level =
      pick_case (λ (y : Device). y ≡ with_pins (with_hold (bit level) x.pins) x) (on x.pins.c) (λ c. refl)
      (λ c. renewed_same (with_hold (bit level) x.pins) s)
