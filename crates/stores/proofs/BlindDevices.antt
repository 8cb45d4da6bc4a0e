-- The public calls of the pin model on devices that are equal but for the number of blank cells, both numbers inside their range: the same outcome, the same
-- answer to each question, the same lent cells and the same output, and devices that are equal but for the number.
use Rattle.std.specs.Prelude.{Err, Ok}
use mathlib.Core.Path.{◌≡◌, refl, ap, ap₂, ◌∙◌}
use mathlib.Core.Bool.{Bool, true, false, ◌&&◌}
use mathlib.Core.List.{List}
use Prim.Native.Nat.{ℕ}
use lib.Dec.{eqb}
use lib.ListN.{length}
use Rattle.laws.specs.Pick.{pick}
use Rattle.codes.specs.Part.{Part}
use Rattle.codes.specs.Refusals.{is_done, no_refusal}
use Rattle.codes.specs.Refusals.{Outcome}
use Rattle.codes.specs.declared.Refusal.TheVariants.{MemoryLength, RecordRange, OutputLength}
use Rattle.chip.specs.Lents.{Lent}
use Rattle.chip.specs.Records.{status}
use Rattle.chip.specs.Touched.{touched_answer}
use Rattle.chip.specs.Time.{lent_fits}
use Rattle.edges.specs.Ranges.{frame_fits}
use Rattle.edges.specs.declared.Level.{Level}
use Rattle.pins.specs.declared.Device.{Device}
use Rattle.pins.specs.declared.Event.{Event}
use Rattle.pins.specs.Devices.{device_part, resting}
use Rattle.cuts.specs.Cuts.{cut_cells}
use Rattle.cuts.specs.declared.Choice.{Choice}
use Rattle.cuts.proofs.Leaves.{cut_equal_but, cut_cells_equal}
use Rattle.pins.specs.Ranges.{pins_fit, held_fits, empty_fits, ran_fits, device_fits}
use Rattle.pins.specs.Events.{stepped, stepped_cells}
use Rattle.pins.specs.Answers.{record_outcome, memory_outcome, answer, answer_memory, q_answer, status_answer, played, cut_device}
use Rattle.events.specs.Events.{are_events}
use Rattle.lists.specs.Answers.{play_outcome, play_answer, play_memory, play_identification, play_output, bench_with}
use Rattle.stores.specs.Blind.{Alike, unnumbered, DeviceEqualBut, DeviceAlike, PinBenchEqualBut}
use Rattle.stores.proofs.BlindFrames.{ranges_blind}
use Rattle.stores.proofs.BlindPins.{event_blind, event_cells_blind, q_blind, events_blind, events_q_blind}
use Rattle.chip.specs.declared.Waiting.{Waiting}

pick_devices : (t : Bool) (x y x' y' : Device) → DeviceEqualBut x y → DeviceEqualBut x' y' → DeviceEqualBut (pick t x x') (pick t y y')
unfolding pick
pick_devices true x y x' y' e k = e
pick_devices false x y x' y' e k = k

-- the part is the same
pub part_blind : (x y : Device) → DeviceEqualBut x y → device_part x ≡ device_part y
part_blind x y h = ap device_part h

module _ (P : Part) (x y : Device) (a : DeviceAlike P x y) where
  cores : Alike P x.core y.core
  cores = record { same = ap (λ (z : Device). z.core) a.same; first = a.first; second = a.second }

  -- both inside the ranges, or both outside
  pub fits_blind : device_fits P x ≡ device_fits P y
  unfolding device_fits
  fits_blind =
      ap₂ (λ (z : Device) (r : Bool). pins_fit z.pins && held_fits z.pins z.held && frame_fits P z.frame && empty_fits z && ran_fits z && r) a.same
      (ranges_blind P x.core y.core cores)

  -- ---- the questions

  pub q_answer_blind : q_answer P x ≡ q_answer P y
  q_answer_blind =
      ap₂ (λ (r : Bool) (l : Level). pick r (Ok l) (Err RecordRange)) fits_blind (q_blind x y a.same)

  pub status_answer_blind : status_answer P x ≡ status_answer P y
  status_answer_blind =
      ap₂ (λ (r : Bool) (z : Device). pick r (Ok (status z.core)) (Err RecordRange)) fits_blind a.same

  pub touched_answer_blind : touched_answer (device_fits P x) x.core ≡ touched_answer (device_fits P y) y.core
  touched_answer_blind = ap₂ (λ (r : Bool) (z : Device). touched_answer r z.core) fits_blind a.same

  -- ---- an event: S, D, W and HOLD go by the record's outcome, C and the clock by the memory's

  pub record_outcome_blind : record_outcome P x ≡ record_outcome P y
  record_outcome_blind = ap (λ (r : Bool). pick r no_refusal (Err RecordRange)) fits_blind

  pub memory_outcome_blind : (m : Lent) → memory_outcome P x m ≡ memory_outcome P y m
  memory_outcome_blind m =
      ap (λ (o : Outcome). pick (lent_fits P (length m.memory) (length m.identification)) o (Err MemoryLength)) record_outcome_blind

  answer_blind : (o p : Outcome) → o ≡ p → (x' y' : Device) → DeviceEqualBut x' y' → DeviceEqualBut (answer o x' x).device (answer p y' y).device
  answer_blind o p e x' y' h =
      pick_devices (is_done o) x' y' x y h a.same ∙ ap (λ (r : Outcome). unnumbered (pick (is_done r) y' y)) e

  pub set_blind : (m : Lent) (e : Event)
      → DeviceEqualBut (answer (record_outcome P x) (stepped P m e x) x).device (answer (record_outcome P y) (stepped P m e y) y).device
  set_blind m e = answer_blind (record_outcome P x) (record_outcome P y) record_outcome_blind (stepped P m e x) (stepped P m e y)
      (event_blind P x y a.same m e)

  pub lent_set_blind : (m : Lent) (e : Event)
      → DeviceEqualBut (answer (memory_outcome P x m) (stepped P m e x) x).device (answer (memory_outcome P y m) (stepped P m e y) y).device
  lent_set_blind m e =
      answer_blind (memory_outcome P x m) (memory_outcome P y m) (memory_outcome_blind m) (stepped P m e x) (stepped P m e y) (event_blind P x y a.same m e)

  -- the lent cells after it
  pub lent_cells_blind : (its : Waiting → Bool) (m : Lent) (e : Event) (n : List ℕ)
      → answer_memory (memory_outcome P x m) (stepped_cells its P e x n) n ≡ answer_memory (memory_outcome P y m) (stepped_cells its P e y n) n
  lent_cells_blind its m e n =
      ap₂ (λ (o : Outcome) (k : List ℕ). answer_memory o k n) (memory_outcome_blind m) (event_cells_blind P x y a.same its n e)

  -- ---- a supply cut

  pub device_cut_blind : (m : Lent) (h : Choice)
      → DeviceEqualBut (answer (memory_outcome P x m) (cut_device P h m.memory x) x).device
      (answer (memory_outcome P y m) (cut_device P h m.memory y) y).device
  device_cut_blind m h =
      answer_blind (memory_outcome P x m) (memory_outcome P y m) (memory_outcome_blind m) (cut_device P h m.memory x) (cut_device P h m.memory y)
      (ap resting (cut_equal_but P h x.core y.core cores.same m.memory))

  pub device_cut_cells_blind : (its : Waiting → Bool) (m : Lent) (h : Choice) (n : List ℕ)
      → answer_memory (memory_outcome P x m) (cut_cells its P h x.core n) n ≡ answer_memory (memory_outcome P y m) (cut_cells its P h y.core n) n
  device_cut_cells_blind its m h n =
      ap₂ (λ (o : Outcome) (k : List ℕ). answer_memory o k n) (memory_outcome_blind m) (cut_cells_equal its P h x.core y.core cores.same n)

  -- ---- a list of events

  module _ (m : Lent) (es out : List ℕ) where
    pub play_outcome_blind : play_outcome P x m es (length out) ≡ play_outcome P y m es (length out)
    play_outcome_blind =
        ap (λ (r : Bool). pick (lent_fits P (length m.memory) (length m.identification))
        (pick r (pick (are_events es) (pick (eqb (length out) (length es)) no_refusal (Err OutputLength)) (Err RecordRange))
        (Err RecordRange)) (Err MemoryLength))
        fits_blind

    benches : PinBenchEqualBut (bench_with x m) (bench_with y m)
    benches = record { device = a.same; memory = refl; identification = refl }

    left : PinBenchEqualBut (played P es (bench_with x m)) (played P es (bench_with y m))
    left = events_blind P es (bench_with x m) (bench_with y m) benches

    pub play_blind : DeviceEqualBut (play_answer P x m es out).device (play_answer P y m es out).device
    play_blind =
        answer_blind (play_outcome P x m es (length out)) (play_outcome P y m es (length out)) play_outcome_blind (played P es (bench_with x m)).device
        (played P es (bench_with y m)).device left.device

    pub play_memory_blind : play_memory P x m es out ≡ play_memory P y m es out
    play_memory_blind = ap₂ (λ (o : Outcome) (n : List ℕ). answer_memory o n m.memory) play_outcome_blind left.memory

    pub play_identification_blind : play_identification P x m es out ≡ play_identification P y m es out
    play_identification_blind = ap₂ (λ (o : Outcome) (n : List ℕ). answer_memory o n m.identification) play_outcome_blind left.identification

    pub play_output_blind : play_output P x m es out ≡ play_output P y m es out
    play_output_blind =
        ap₂ (λ (o : Outcome) (n : List ℕ). answer_memory o n out) play_outcome_blind (events_q_blind P es (bench_with x m) (bench_with y m) benches)
