-- Inside a frame a cut drops the frame: no event but a deselect and a reading moves the record, so that a cut after any such events leaves what it leaves
-- before them. And the device that a cut leaves is inside its ranges.
use Prim.Native.Nat.{ℕ}
use mathlib.Core.Bool.{Bool, true, false, not, ◌&&◌, true≢false}
use mathlib.Core.List.{List, [], ◌∷◌}
use mathlib.Core.Path.{◌≡◌, refl, ap, sym, ◌∙◌}
use Rattle.laws.specs.Pick.{and_left, and_right}
use Rattle.codes.specs.Part.{Part}
use Rattle.codes.proofs.Sound.{Sound}
use Rattle.chip.specs.Lents.{Lent}
use Rattle.chip.specs.declared.Core.{Core}
use Rattle.cuts.specs.Cuts.{cut_cells, cut_in}
use Rattle.cuts.specs.declared.Choice.{Choice}
use Rattle.cuts.proofs.Leaves.{cut_within}
use Rattle.chip.specs.declared.Waiting.{Waiting}
use Rattle.pins.specs.declared.Device.{Device}
use Rattle.pins.specs.declared.Event.{Event}
use Rattle.pins.specs.declared.Event.TheVariants.{S, C, D, W, Hold, Time}
use Rattle.pins.specs.Devices.{resting}
use Rattle.pins.specs.Events.{stepped}
use Rattle.pins.specs.Ranges.{device_fits}
use Rattle.pins.specs.Answers.{cut_device}
use Rattle.pins_theorems.proofs.Parts.{parts, device_fits_law}
use Rattle.pins_theorems.proofs.Fits.{resting_fits}
use Rattle.pins_theorems.proofs.Locks.{stepped_core}

-- every event but a deselect and a reading
abbrev pub in_frame : Event → Bool
in_frame (S level) = not level
in_frame (C level) = true
in_frame (D level) = true
in_frame (W level) = true
in_frame (Hold level) = true
in_frame (Time t) = false

module _ (P : Part) (x : Device) where
  -- leaves the record
  in_frame_law : (m : Lent) (e : Event) → in_frame e ≡ true → (stepped P m e x).core ≡ x.core
  in_frame_law =
      stepped_core P x (λ e c. in_frame e ≡ true → c ≡ x.core) (λ e n h. refl) (λ s e h. absurd (true≢false (sym h)))
      (λ t m h. absurd (true≢false (sym h)))

-- any of them one after another, from a select on
unfoldable pub in_frame_all : List Event → Bool
in_frame_all [] = true
in_frame_all (e ∷ es) = in_frame e && in_frame_all es

unfoldable pub stepped_all : Part → Lent → List Event → Device → Device
stepped_all P l [] x = x
stepped_all P l (e ∷ es) x = stepped_all P l es (stepped P l e x)

in_frame_all_law : (P : Part) (l : Lent) (es : List Event) (x : Device) → in_frame_all es ≡ true → (stepped_all P l es x).core ≡ x.core
unfolding in_frame_all stepped_all
in_frame_all_law P l [] x k = refl
in_frame_all_law P l (e ∷ es) x k =
    in_frame_all_law P l es (stepped P l e x) (and_right (in_frame e) (in_frame_all es) k) ∙ in_frame_law P x l e (and_left (in_frame e) (in_frame_all es) k)

-- so a cut after them leaves the device and the lent cells that a cut before them leaves
module _ (P : Part) (x : Device) (h : Choice) (l : Lent) (es : List Event) (k : in_frame_all es ≡ true) where
  pub cut_in_frame : (m : List ℕ) → cut_device P h m (stepped_all P l es x) ≡ cut_device P h m x
  cut_in_frame m = ap (λ (c : Core). resting (cut_in P h c m)) (in_frame_all_law P l es x k)

  pub cut_cells_in_frame : (its : Waiting → Bool) (m : List ℕ) → cut_cells its P h (stepped_all P l es x).core m ≡ cut_cells its P h x.core m
  cut_cells_in_frame its m = ap (λ (c : Core). cut_cells its P h c m) (in_frame_all_law P l es x k)

-- ---- the ranges

pub cut_fits : (P : Part) → Sound P → (h : Choice) (m : List ℕ) (x : Device) → device_fits P x ≡ true → device_fits P (cut_device P h m x) ≡ true
cut_fits P sound h m x fits =
    device_fits_law P (cut_device P h m x) (resting_fits P sound (cut_in P h x.core m) (cut_within P h x.core m (parts P x fits).core))
