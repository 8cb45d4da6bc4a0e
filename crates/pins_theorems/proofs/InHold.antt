-- Deselect in Hold: a WRITE's leaves what it leaves unheld, any other frame's executes nothing; by the one verdict.
use mathlib.Core.Path.{◌≡◌, refl, ap, sym, ◌∙◌}
use mathlib.Core.Bool.{true, false, not, ◌&&◌, true≢false}
use Prim.Native.Nat.{ℕ, ◌+◌, ◌*◌}
use lib.Dec.{eqb}
use Rattle.laws.specs.Pick.{pick, pick_case, and_both}
use Rattle.laws.specs.And.{never}
use Rattle.codes.specs.Part.{Part}
use Rattle.codes.specs.Status.{bit, on}
use Rattle.codes.specs.Instructions.{decode, is_write}
use Rattle.chip.specs.Questions.{barred}
use Rattle.codes.specs.Verdicts.{is_executed}
use Rattle.chip.specs.declared.Core.{Core}
use Rattle.codes.proofs.Judged.{Passed, passed, hold_write, verdict_held}
use Rattle.edges.specs.Frames.{no_frame}
use Rattle.pins.specs.declared.Device.{Device}
use Rattle.pins.specs.Devices.{with_s, with_pins, with_held, with_held_at, with_frame, with_core}
use Rattle.pins.specs.Events.{judged_now, executed_now, decided, deselecting, on_s}

module _ (P : Part) (x : Device) where
  -- what an executed frame has passed at its deselect
  pub passed_now : is_executed (judged_now P x) ≡ true
      → Passed P (decode P x.frame.code) x.frame.address x.frame.value (8 * x.frame.taken + x.frame.bits) (on x.frame.ran)
      (on x.core.wel)
      (on x.core.srwd && not (on x.pins.w)) (barred P x.core (decode P x.frame.code) x.frame.address) (on x.held)
  passed_now e =
      passed P (decode P x.frame.code) x.frame.address x.frame.value (8 * x.frame.taken + x.frame.bits) (on x.frame.ran) (on x.core.wel)
      (on x.core.srwd && not (on x.pins.w)) (barred P x.core (decode P x.frame.code) x.frame.address) (on x.held) e

  -- ---- any other frame

  held_decides : is_write (decode P x.frame.code) ≡ false → on x.held ≡ true → decided P x ≡ x.core
  held_decides w h =
      let dropped = and_both (on x.held) _ h (ap not (hold_write P (decode P x.frame.code) x.frame.address x.frame.value ∙ w)) in
      pick_case (λ (c : Core). c ≡ x.core) (is_executed (judged_now P x)) (λ e. absurd (never dropped (passed_now e).unheld)) (λ e. refl)

  -- only S, held and the emptied frame move
  pub held_drop : is_write (decode P x.frame.code) ≡ false → on x.held ≡ true
      → deselecting P x ≡ with_pins (with_s 1 x.pins) (with_held false (with_frame no_frame x))
  held_drop w h =
      ap (λ c. with_pins (with_s 1 x.pins) (with_held false (with_frame no_frame (with_core c x)))) (held_decides w h)

  -- so the core record stays, whatever S was
  pub held_core : is_write (decode P x.frame.code) ≡ false → on x.held ≡ true → (on_s P true x).core ≡ x.core
  unfolding on_s
  held_core w h =
      pick_case (λ (y : Device). y.core ≡ x.core) (eqb x.pins.s (bit true)) (λ s. refl)
      (λ s. pick_case (λ (y : Device). y.core ≡ x.core) true (λ t. held_decides w h) (λ t. absurd (true≢false t)))

  -- ---- a WRITE

  -- its deselect leaves the same device, whatever held is
  pub held_write : (n : ℕ) → is_write (decode P x.frame.code) ≡ true → deselecting P (with_held_at n x) ≡ deselecting P x
  held_write n w =
      let same : judged_now P (with_held_at n x) ≡ judged_now P x =
      verdict_held P (decode P x.frame.code) x.frame.address x.frame.value (8 * x.frame.taken + x.frame.bits) (on x.frame.ran)
      (on x.core.wel)
      (on x.core.srwd && not (on x.pins.w)) (barred P x.core (decode P x.frame.code) x.frame.address) (on n) (on x.held) w in
      ap (λ v. with_pins (with_s 1 x.pins) (with_held false (with_frame no_frame (with_core (pick (is_executed v) (executed_now P x) x.core) x)))) same
