-- The pin model's promise for a list of events, where the memory, the device and the output are right: nothing is refused.
use Rattle.std.specs.Prelude.{Ok}
use mathlib.Core.Path.{◌≡◌, refl, ap, sym, ◌∙◌}
use mathlib.Core.Bool.{true}
use mathlib.Core.List.{List, [], ◌∷◌, ◌++◌}
use Prim.Native.Nat.{ℕ, suc}
use lib.ListN.{length}
use Rattle.laws.specs.Pick.{pick}
use Rattle.codes.specs.Part.{Part, part_of}
use Rattle.codes.proofs.Sound.{sound_of}
use Rattle.codes.specs.Refusals.{Outcome, no_refusal}
use Rattle.pins.specs.declared.Device.{Device}
use Rattle.pins.specs.declared.Stepped.{Stepped}
use Rattle.pins.specs.Devices.{device_part, q}
use Rattle.pins.specs.Ranges.{device_fits}
use Rattle.pins.proofs.Kept.{played_part}
use Rattle.pins_theorems.proofs.Fits.{Sized, played_fits}
use Rattle.edges.specs.Falling.{level_number}
use Rattle.pins.specs.Answers.{PinBench, answer, answer_memory, after_event, played}
use Rattle.lists.specs.Answers.{played_q}

pub done_device : {o : Outcome} {r : Stepped} (y x : Device) → o ≡ no_refusal → r ≡ answer o y x → r.device ≡ y
unfolding pick
done_device y x e q = rw (q, e) refl

pub done_memory : {o : Outcome} (n m k : List ℕ) → o ≡ no_refusal → k ≡ answer_memory o n m → k ≡ n
unfolding pick
done_memory n m k e q = rw (q, e) refl

-- ---- one list after another

module _ (P : Part) where
  pub played_append : (es fs : List ℕ) (b : PinBench) → played P (es ++ fs) b ≡ played P fs (played P es b)
  unfolding played
  played_append [] fs b = refl
  played_append (e ∷ es) fs b = played_append es fs (after_event P e b)

  pub played_q_append : (es fs : List ℕ) (b : PinBench) → played_q P (es ++ fs) b ≡ played_q P es b ++ played_q P fs (played P es b)
  unfolding played played_q
  played_q_append [] fs b = refl
  played_q_append (e ∷ es) fs b = ap (λ (l : List ℕ). level_number (q (after_event P e b).device) ∷ l) (played_q_append es fs (after_event P e b))

  pub played_q_length : (es : List ℕ) (b : PinBench) → length (played_q P es b) ≡ length es
  unfolding played_q
  played_q_length [] b = refl
  played_q_length (e ∷ es) b = ap suc (played_q_length es (after_event P e b))

-- ---- by the rules of the device's own part, which stays

module _ (es : List ℕ) (b : PinBench) where
  abbrev after : PinBench
  after = played (device_part b.device) es b

  pub played_own : (fs : List ℕ) → played (device_part b.device) fs after ≡ played (device_part after.device) fs after
  played_own fs = sym (ap (λ (n : ℕ). played (part_of n) fs after) (played_part (device_part b.device) es b))

  pub played_q_own : (fs : List ℕ) → played_q (device_part b.device) fs after ≡ played_q (device_part after.device) fs after
  played_q_own fs = sym (ap (λ (n : ℕ). played_q (part_of n) fs after) (played_part (device_part b.device) es b))

  -- and so do the ranges
  pub own_fits : Sized b.device → device_fits (device_part b.device) b.device ≡ true
      → device_fits (device_part after.device) after.device ≡ true
  own_fits sized h =
      ap (λ (n : ℕ). device_fits (part_of n) after.device) (played_part (device_part b.device) es b)
      ∙ played_fits (device_part b.device) (sound_of b.device.core.part) es b sized h
