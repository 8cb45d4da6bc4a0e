-- The calls for C on records and devices that are equal but for the number of blank cells, both numbers inside their range: the same numbers and values, and
-- records that are equal but for the number. What is lent to them and their output are those of the calls of `BlindFrames`, `BlindTimed`, `BlindRuns`,
-- `BlindDevices` and `BlindTexts`.
use Rattle.codes.specs.Refusals.{number, value_of}
use mathlib.Core.Path.{◌≡◌, refl, ap, ap₂, ◌∙◌}
use mathlib.Core.Bool.{Bool, true, false}
use mathlib.Core.List.{List}
use Prim.Native.Nat.{ℕ}
use lib.Dec.{eqb, leb, ltb}
use lib.ListN.{length}
use Rattle.laws.specs.Pick.{pick}
use Rattle.codes.specs.Part.{Part}
use Rattle.codes.specs.Status.{bit, on}
use Rattle.chip.specs.Lents.{Lent}
use Rattle.chip.specs.Records.{own_part, status}
use Rattle.chip.specs.Ranges.{in_ranges}
use Rattle.chip.specs.Questions.{lowest, protects}
use Rattle.chip.specs.Blanks.{EqualBut}
use Rattle.chip.specs.Time.{lent_fits}
use Rattle.chip.specs.declared.Core.{Core}
use Rattle.frames.specs.Answers.{framed}
use Rattle.timed_frames.specs.Answers.{framed_in_time}
use Rattle.driver.specs.Answers.{run_reply_number, run_reply_pages, run_reply_frames}
use Rattle.intel_hex.specs.Answers.{takes}
use Rattle.edges.specs.Falling.{level_number}
use Rattle.edges.specs.declared.Level.{Level}
use Rattle.events.specs.Events.{are_events}
use Rattle.pins.specs.declared.Device.{Device}
use Rattle.pins.specs.declared.Event.{Event}
use Rattle.pins.specs.declared.Event.TheVariants.{C}
use Rattle.pins.specs.Ranges.{device_fits}
use Rattle.pins.specs.Events.{stepped}
use Rattle.pins.specs.Answers.{answer, record_outcome, memory_outcome}
use Rattle.bench.specs.declared.CoreAnswer.{CoreAnswer}
use Rattle.bench.specs.declared.DeviceAnswer.{DeviceAnswer}
use Rattle.bench.specs.declared.FrameAnswer.{FrameAnswer}
use Rattle.bench.specs.declared.DriverAnswer.{DriverAnswer}
use Rattle.bench.specs.Calls.{value_answer, bad_level, in_ranges_call, status_call, lowest_protected_call, protected_call, touched_call, reading_call, frame_call}
use Rattle.bench.specs.Calls.{cut_call, device_cut_call}
use Rattle.bench.specs.Calls.{timed_taken, timed_call, pin_call, clock_pin_call, q_call, device_status_call, device_in_ranges_call, play_call, write_call, import_call}
use Rattle.stores.specs.Blind.{Alike, DeviceEqualBut, DeviceAlike}
use Rattle.stores.proofs.BlindFrames.{ranges_blind, reading_blind, cut_blind, frame_blind, frame_core_blind}
use Rattle.stores.proofs.BlindTimed.{timed_frame_blind, timed_core_blind}
use Rattle.stores.proofs.BlindRuns.{driven_blind, driven_core_blind}
use Rattle.stores.proofs.BlindPins.{q_blind}
use Rattle.stores.proofs.BlindDevices.{fits_blind, set_blind, lent_set_blind, play_blind, device_cut_blind}
use Rattle.cuts.specs.declared.Choice.{Choice}
use Rattle.stores.proofs.BlindTexts.{import_blind}

-- ---- answers with a record in them

pub record CoreAnswerEqualBut (r s : CoreAnswer) : Type 0 where
  pub number : r.number ≡ s.number
  pub core : EqualBut r.core s.core

pub record FrameAnswerEqualBut (r s : FrameAnswer) : Type 0 where
  pub number : r.number ≡ s.number
  pub undriven : r.undriven ≡ s.undriven
  pub core : EqualBut r.core s.core

pub record DeviceAnswerEqualBut (r s : DeviceAnswer) : Type 0 where
  pub number : r.number ≡ s.number
  pub device : DeviceEqualBut r.device s.device

pub record DriverAnswerEqualBut (r s : DriverAnswer) : Type 0 where
  pub number : r.number ≡ s.number
  pub pages : r.pages ≡ s.pages
  pub frames : r.frames ≡ s.frames
  pub core : EqualBut r.core s.core

-- ---- the frame model

module _ (P : Part) (c d : Core) (a : Alike P c d) where
  pub in_ranges_call_blind : in_ranges_call P c ≡ in_ranges_call P d
  in_ranges_call_blind = ap (λ (r : Bool). pick r (value_answer 0 1) (value_answer 2 0)) (ranges_blind P c d a)

  pub status_call_blind : status_call P c ≡ status_call P d
  status_call_blind = ap₂ (λ (r : Bool) (x : Core). pick r (value_answer 0 (status x)) (value_answer 2 0)) (ranges_blind P c d a) a.same

  pub lowest_call_blind : lowest_protected_call P c ≡ lowest_protected_call P d
  lowest_call_blind = ap₂ (λ (r : Bool) (x : Core). value_answer (pick r 0 2) (pick r (lowest P x) 0)) (ranges_blind P c d a) a.same

  pub protected_call_blind : (n : ℕ) → protected_call P c n ≡ protected_call P d n
  protected_call_blind n =
      ap₂ (λ (r : Bool) (x : Core). value_answer (pick r (pick (ltb n P.size) 0 7) 2) (pick r (pick (ltb n P.size) (bit (protects P x n)) 0) 0))
      (ranges_blind P c d a) a.same

  pub touched_call_blind : touched_call P (in_ranges P c) c ≡ touched_call P (in_ranges P d) d
  touched_call_blind = ap₂ (touched_call P) (ranges_blind P c d a) a.same

  pub reading_call_blind : (t : ℕ) (m i : List ℕ) → CoreAnswerEqualBut (reading_call P c t m i) (reading_call P d t m i)
  reading_call_blind t m i =
      record {
        number = ap (λ (r : Bool). pick (lent_fits P (length m) (length i)) (pick r 0 2) 1) (ranges_blind P c d a);
        core = reading_blind P c d a t m i;
      }

  pub cut_call_blind : (h : Choice) (m i : List ℕ) → CoreAnswerEqualBut (cut_call P h c m i) (cut_call P h d m i)
  cut_call_blind h m i =
      record {
        number = ap (λ (r : Bool). pick (lent_fits P (length m) (length i)) (pick r 0 2) 1) (ranges_blind P c d a);
        core = cut_blind P c d a 0 m i h;
      }

  -- W at a level, or 2
  frames : (m i : List ℕ) (w : Bool) (u : Bool) (bad : ℕ) (s : List ℕ) (n room : ℕ)
      → let by : Core → FrameAnswer = λ (x : Core).
      let r = framed P x m i w s n room in
      pick u (record { number = number r.answer; undriven = value_of r.answer; core = r.core })
      (record { number = bad; undriven = 0; core = x }) in
      FrameAnswerEqualBut (by c) (by d)
  unfolding pick
  frames m i w true bad s n room =
      record {
        number = ap number (frame_blind P c d a m i w s n room);
        undriven = ap value_of (frame_blind P c d a m i w s n room);
        core = frame_core_blind P c d a m i w s n room;
      }
  frames m i w false bad s n room = record { number = refl; undriven = refl; core = a.same }

  pub frame_call_blind : (m i : List ℕ) (w : ℕ) (s : List ℕ) (n room : ℕ) → FrameAnswerEqualBut (frame_call P c m i w s n room) (frame_call P d m i w s n room)
  frame_call_blind m i w s n room = frames m i (on w) (leb w 1) (bad_level P (length m) (length i)) s n room

  -- the frame with readings inside it, W at a level and the mode 0 or 3, or 2
  timed_frames : (m : Lent) (w : Bool) (u : Bool) (bad : ℕ) (s : List ℕ) (n : ℕ) (ps ts : List ℕ) (room : ℕ)
      → let by : Core → FrameAnswer = λ (x : Core).
      let r = framed_in_time P x m w s n ps ts room in
      pick u (record { number = number r.answer; undriven = value_of r.answer; core = r.core })
      (record { number = bad; undriven = 0; core = x }) in
      FrameAnswerEqualBut (by c) (by d)
  unfolding pick
  timed_frames m w true bad s n ps ts room =
      record {
        number = ap number (timed_frame_blind P c d a m w s n ps ts room);
        undriven = ap value_of (timed_frame_blind P c d a m w s n ps ts room);
        core = timed_core_blind P c d a m w s n ps ts room;
      }
  timed_frames m w false bad s n ps ts room = record { number = refl; undriven = refl; core = a.same }

  pub timed_call_blind : (m : Lent) (w o : ℕ) (s : List ℕ) (n : ℕ) (ps ts : List ℕ) (room : ℕ)
      → FrameAnswerEqualBut (timed_call P c m w o s n ps ts room) (timed_call P d m w o s n ps ts room)
  timed_call_blind m w o s n ps ts room =
      timed_frames m (on w) (timed_taken w o) (bad_level P (length m.memory) (length m.identification)) s n ps ts room

  -- ---- the driver

  pub write_call_blind : (m i : List ℕ) (n : ℕ) (bytes : List ℕ) (interval limit : ℕ)
      → DriverAnswerEqualBut (write_call P c m i n bytes interval limit) (write_call P d m i n bytes interval limit)
  write_call_blind m i n bytes interval limit =
      let e = driven_blind P c d a m i n bytes interval limit in
      record {
        number = ap run_reply_number e;
        pages = ap run_reply_pages e;
        frames = ap run_reply_frames e;
        core = driven_core_blind P c d a m i n bytes interval limit;
      }

-- ---- the pin model

module _ (P : Part) (x y : Device) (a : DeviceAlike P x y) where
  pub q_call_blind : q_call P x ≡ q_call P y
  q_call_blind = ap₂ (λ (r : Bool) (l : Level). value_answer (pick r 0 2) (pick r (level_number l) 0)) (fits_blind P x y a) (q_blind x y a.same)

  pub device_status_call_blind : device_status_call P x ≡ device_status_call P y
  device_status_call_blind =
      ap₂ (λ (r : Bool) (z : Device). value_answer (pick r 0 2) (pick r (status z.core) 0)) (fits_blind P x y a) a.same

  pub device_ranges_call_blind : device_in_ranges_call P x ≡ device_in_ranges_call P y
  device_ranges_call_blind = ap (λ (r : Bool). pick r (value_answer 0 1) (value_answer 2 0)) (fits_blind P x y a)

  pub device_touched_call_blind : touched_call P (device_fits P x) x.core ≡ touched_call P (device_fits P y) y.core
  device_touched_call_blind = ap₂ (λ (r : Bool) (z : Device). touched_call P r z.core) (fits_blind P x y a) a.same

  -- a pin to a level, or 2: S, D, W and HOLD, and C, which is lent the memory
  sets : (u : Bool) (n k bad : ℕ) (x' y' : Device) → n ≡ k → DeviceEqualBut x' y'
      → DeviceAnswerEqualBut (pick u (record { number = n; device = x' }) (record { number = bad; device = x }))
      (pick u (record { number = k; device = y' }) (record { number = bad; device = y }))
  unfolding pick
  sets true n k bad x' y' e h = record { number = e; device = h }
  sets false n k bad x' y' e h = record { number = refl; device = a.same }

  pub pin_call_blind : (level : ℕ) (m : Lent) (e : Event)
      → DeviceAnswerEqualBut (pin_call P level (stepped P m e x) x) (pin_call P level (stepped P m e y) y)
  pin_call_blind level m e =
      sets (leb level 1) _ _ 2 (answer (record_outcome P x) (stepped P m e x) x).device (answer (record_outcome P y) (stepped P m e y) y).device
      (ap (λ (r : Bool). pick r 0 2) (fits_blind P x y a)) (set_blind P x y a m e)

  abbrev lents : Lent → Bool
  lents m = lent_fits P (length m.memory) (length m.identification)

  pub clock_pin_call_blind : (level : ℕ) (m : Lent) (l : Bool)
      → DeviceAnswerEqualBut (clock_pin_call P level (stepped P m (C l) x) x m) (clock_pin_call P level (stepped P m (C l) y) y m)
  clock_pin_call_blind level m l =
      sets (leb level 1) _ _ (bad_level P (length m.memory) (length m.identification)) (answer (memory_outcome P x m) (stepped P m (C l) x) x).device
      (answer (memory_outcome P y m) (stepped P m (C l) y) y).device
      (ap (λ (r : Bool). pick (lents m) (pick r 0 2) 1) (fits_blind P x y a)) (lent_set_blind P x y a m (C l))

  pub device_cut_call_blind : (h : Choice) (m : Lent) → DeviceAnswerEqualBut (device_cut_call P h x m) (device_cut_call P h y m)
  device_cut_call_blind h m =
      record {
        number = ap (λ (r : Bool). pick (lents m) (pick r 0 2) 1) (fits_blind P x y a);
        device = device_cut_blind P x y a m h;
      }

  pub play_call_blind : (m : Lent) (es out : List ℕ) → DeviceAnswerEqualBut (play_call P x m es out) (play_call P y m es out)
  play_call_blind m es out =
      record {
        number =
            ap (λ (r : Bool). pick (lents m) (pick r (pick (are_events es) (pick (eqb (length out) (length es)) 0 5) 2) 2) 1) (fits_blind P x y a);
        device = play_blind P x y a m es out;
      }

-- ---- HEX texts

pub import_call_blind : (P : Part) (c d : Core) → Alike (own_part c) c d → (m t : List ℕ) → CoreAnswerEqualBut (import_call P c m t) (import_call P d m t)
import_call_blind P c d a m t =
    let own = ranges_blind (own_part c) c d a ∙ ap (λ (Q : Part). in_ranges Q d) (ap own_part a.same) in
    record {
      number = ap₂ (λ (r : Bool) (x : Core). pick (eqb (length m) (own_part x).size) (pick r (pick (takes P x t) 0 12) 2) 1) own a.same;
      core = (import_blind P c d a m t).1;
    }
