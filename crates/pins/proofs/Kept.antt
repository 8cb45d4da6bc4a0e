-- The part stays: no event changes it, and so no list of events.
use mathlib.Core.Path.{◌≡◌, refl, ◌∙◌}
use mathlib.Core.List.{List, [], ◌∷◌}
use mathlib.Core.Bool.{Bool}
use Prim.Native.Nat.{ℕ}
use lib.Dec.{eqb}
use Rattle.laws.specs.Pick.{pick_case}
use Rattle.codes.specs.Part.{Part}
use Rattle.codes.specs.Status.{bit, on}
use Rattle.codes.specs.Instructions.{decode}
use Rattle.codes.specs.Verdicts.{is_executed}
use Rattle.chip.specs.Lents.{Lent}
use Rattle.chip.specs.declared.Core.{Core}
use Rattle.chip.proofs.Kept.{timed_part, effect_part}
use Rattle.pins.specs.declared.Device.{Device}
use Rattle.pins.specs.declared.Event.{Event}
use Rattle.pins.specs.declared.Event.TheVariants.{S, C, D, W, Hold, Time}
use Rattle.pins.specs.Devices.{with_c, with_pins, counting}
use Rattle.pins.specs.Events.{judged_now, decided, renewed, on_s, on_c, on_d, on_w, on_hold, on_time, stepped, event_of}
use Rattle.pins.specs.Answers.{PinBench, lent_to, after_event, played}

module _ (P : Part) (x : Device) where
  abbrev same : Device → Type 0
  same y = y.core.part ≡ x.core.part

  decided_part : (decided P x).part ≡ x.core.part
  decided_part =
      pick_case (λ (c : Core). c.part ≡ x.core.part) (is_executed (judged_now P x))
      (λ e. effect_part P (decode P x.frame.code) _ _ _ x.core) (λ e. refl)

  on_s_part : (level : Bool) → same (on_s P level x)
  unfolding on_s
  on_s_part level =
      pick_case same (eqb x.pins.s (bit level)) (λ e. refl)
      (λ e. pick_case same level (λ l. decided_part) (λ l. refl))

  on_c_part : (level : Bool) (m : Lent) → same (on_c P level m x)
  unfolding on_c
  on_c_part level m =
      pick_case same (eqb x.pins.c (bit level)) (λ e. refl)
      (λ e. pick_case same level
      (λ l. pick_case (λ (y : Device). same (with_pins (with_c 1 x.pins) y)) (counting x) (λ c. refl) (λ c. refl))
      (λ l. pick_case (λ (y : Device). same (renewed (with_pins (with_c 0 x.pins) y))) (counting x) (λ c. refl) (λ c. refl)))

  on_hold_part : (level : Bool) → same (on_hold level x)
  unfolding on_hold
  on_hold_part level = pick_case same (on x.pins.c) (λ e. refl) (λ e. refl)

pub stepped_part : (P : Part) (m : Lent) (e : Event) (x : Device) → (stepped P m e x).core.part ≡ x.core.part
unfolding on_d on_w on_time
stepped_part P m (S level) x = on_s_part P x level
stepped_part P m (C level) x = on_c_part P x level m
stepped_part P m (D level) x = refl
stepped_part P m (W level) x = refl
stepped_part P m (Hold level) x = on_hold_part P x level
stepped_part P m (Time t) x = timed_part P t x.core

pub played_part : (P : Part) (es : List ℕ) (b : PinBench) → (played P es b).device.core.part ≡ b.device.core.part
unfolding played
played_part P [] b = refl
played_part P (e ∷ es) b = played_part P es (after_event P e b) ∙ stepped_part P (lent_to b) (event_of e) b.device
