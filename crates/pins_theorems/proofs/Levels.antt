-- Setting a pin to the level it has changes nothing, and neither does a reading equal to the last.
use mathlib.Core.Path.{◌≡◌, refl, ap, sym, ◌∙◌}
use mathlib.Core.List.{List}
use mathlib.Core.Bool.{Bool, true, false}
use Prim.Native.Nat.{ℕ, ◌-◌, ◌<◌}
use native.Mathlib.Omega.{arith}
use lib.Dec.{leb}
use borrow.Author.Tests.{eq-eqb, lt-leb, ltb-true}
use Rattle.laws.specs.Pick.{at_yes, pick_case, and_no_left, and_no_right}
use Rattle.codes.specs.Part.{Part}
use Rattle.codes.specs.Status.{bit, on}
use Rattle.chip.specs.Lents.{Lent}
use Rattle.chip.specs.Records.{running, waits_page, with_time}
use Rattle.chip.specs.Time.{elapsed, ends, timed_memory}
use Rattle.chip.specs.declared.Core.{Core}
use Rattle.chip.proofs.Passing.{no_end}
use Rattle.chip.proofs.Recounts.{timed_on}
use Rattle.pins.specs.declared.Device.{Device}
use Rattle.pins.specs.Devices.{with_d, with_w, with_hold, with_pins, with_held_at, with_core}
use Rattle.pins.specs.Ranges.{device_fits}
use Rattle.pins.specs.Events.{renewed, on_s, on_c, on_d, on_w, on_hold, on_time}
use Rattle.pins_theorems.proofs.Parts.{parts}
use Rattle.pins_theorems.proofs.Held.{hold_small, renewed_same}

module _ (P : Part) (level : Bool) (x : Device) where
  pub same_s : x.pins.s ≡ bit level → on_s P level x ≡ x
  unfolding on_s
  same_s h = at_yes _ _ (eq-eqb _ _ h)

  pub same_c : (m : Lent) → x.pins.c ≡ bit level → on_c P level m x ≡ x
  unfolding on_c
  same_c m h = at_yes _ _ (eq-eqb _ _ h)

  pub same_d : x.pins.d ≡ bit level → on_d level x ≡ x
  unfolding on_d
  same_d h = ap (λ (n : ℕ). with_pins (with_d n x.pins) x) (sym h)

  pub same_w : x.pins.w ≡ bit level → on_w level x ≡ x
  unfolding on_w
  same_w h = ap (λ (n : ℕ). with_pins (with_w n x.pins) x) (sym h)

  -- for HOLD of a device inside its ranges: held is then what it is renewed to
  pub same_hold : device_fits P x ≡ true → x.pins.hold ≡ bit level → on_hold level x ≡ x
  unfolding on_hold
  same_hold fits h =
      let t = parts P x fits in
      let same : with_pins (with_hold (bit level) x.pins) x ≡ x = ap (λ (n : ℕ). with_pins (with_hold n x.pins) x) (sym h) in
      pick_case (λ (y : Device). y ≡ x) (on x.pins.c) (λ c. same)
      (λ c. ap renewed same
      ∙ ap (λ (n : ℕ). with_held_at n x)
      (renewed_same x.pins x.held (hold_small x.pins t.pins) t.held c))

-- ---- no time has passed

none_elapsed : (n : ℕ) → elapsed n n ≡ 0
none_elapsed n = omega arith

not_over : (c : Core) → ends c.last c ≡ false
not_over c = go (running c) refl
  where
    go : (b : Bool) → running c ≡ b → ends c.last c ≡ false
    go true e =
        let some : 0 < c.left = ltb-true 0 c.left e in
        and_no_right (running c) (leb c.left (elapsed c.last c.last))
        (lt-leb c.left (elapsed c.last c.last) (omega (arith, none_elapsed c.last)))
    go false e = and_no_left (running c) (leb c.left (elapsed c.last c.last)) e

module _ (P : Part) (x : Device) where
  pub same_reading : (m : List ℕ) → on_time P x.core.last m x ≡ x
  unfolding on_time
  same_reading m =
      let same : x.core.left - elapsed x.core.last x.core.last ≡ x.core.left = omega (arith, none_elapsed x.core.last) in
      ap (λ (c : Core). with_core c x) (timed_on P x.core.last x.core m (not_over x.core) ∙ ap (λ (n : ℕ). with_time x.core.last n x.core) same)

  pub same_reading_memory : (m : List ℕ) → timed_memory P x.core.last x.core m ≡ m
  same_reading_memory m = no_end waits_page P x.core.last x.core m (not_over x.core)
