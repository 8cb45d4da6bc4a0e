-- The public calls, for every input: the refusals in their order, the device that follows and the memory.
use Rattle.codes.specs.declared.Refusal.{Refusal}
use Rattle.codes.specs.Refusals.{no_refusal}
use Rattle.std.specs.Prelude.{ℕ, Bool, List, [], ◌∷◌, length, Err, Ok, Result}
use Rattle.laws.specs.Pick.{pick}
use Rattle.codes.specs.Part.{Part}
use Rattle.chip.specs.Lents.{Lent, lent}
use Rattle.chip.specs.Records.{status}
use Rattle.chip.specs.Time.{lent_fits}
use Rattle.chip.specs.Power.{powered_up}
use Rattle.chip.specs.declared.Answered.{Answered}
use Rattle.cuts.specs.Cuts.{cut_in}
use Rattle.cuts.specs.declared.Choice.{Choice}
use Rattle.codes.specs.Refusals.{is_done}
use Rattle.codes.specs.declared.Refusal.TheVariants.{MemoryLength, RecordRange}
use Rattle.codes.specs.Refusals.{Outcome}
use Rattle.pins.specs.declared.Device.{Device}
use Rattle.pins.specs.declared.Event.{Event}
use Rattle.pins.specs.declared.Stepped.{Stepped}
use Rattle.pins.specs.Devices.{resting, q}
use Rattle.pins.specs.Ranges.{device_fits}
use Rattle.edges.specs.declared.Level.{Level}
use Rattle.edges.specs.Falling.{level_number}
use Rattle.pins.specs.Events.{stepped, stepped_memory, stepped_identification, event_of}

-- ---- an event

-- what stands for refusal 2, and for none; and, where memory is lent, for 1 before it
abbrev pub record_choice : {A : Type 0} → Part → Device → A → A → A
record_choice P x two done = pick (device_fits P x) done two

abbrev pub memory_choice : {A : Type 0} → Part → Device → Lent → A → A → A → A
memory_choice P x m one two done =
    pick (lent_fits P (length m.memory) (length m.identification)) (record_choice P x two done) one

abbrev pub record_outcome : Part → Device → Outcome
record_outcome P x = record_choice P x (Err RecordRange) no_refusal

abbrev pub memory_outcome : Part → Device → Lent → Outcome
memory_outcome P x m = memory_choice P x m (Err MemoryLength) (Err RecordRange) no_refusal

-- where the lent slices are given by their lengths
abbrev pub admitted : Part → Device → ℕ → ℕ → Outcome
admitted P x size cells = pick (lent_fits P size cells) (record_outcome P x) (Err MemoryLength)

-- their numbers in document 01
abbrev pub record_number : Part → Device → ℕ
record_number P x = record_choice P x 2 0

abbrev pub memory_number : Part → Device → Lent → ℕ
memory_number P x m = memory_choice P x m 1 2 0

abbrev pub stepped_to : Outcome → Device → Stepped
stepped_to o x = record { outcome = o; device = x }

-- the device that follows, or the device as given
abbrev pub answer : Outcome → Device → Device → Stepped
answer o y x = stepped_to o (pick (is_done o) y x)

-- lent cells after a clock reading, or as given
abbrev pub answer_memory : Outcome → List ℕ → List ℕ → List ℕ
answer_memory o after m = pick (is_done o) after m

-- a supply cut: power-up around the record that survives it, whatever the pins and the frame in hand were
abbrev pub cut_device : Part → Choice → List ℕ → Device → Device
cut_device P h m x = resting (cut_in P h x.core m)

-- ---- what a device shows

abbrev pub q_answer : Part → Device → Result Level Refusal
q_answer P x = record_choice P x (Err RecordRange) (Ok (q x))

-- the value, by the input: 0, 1 or 2 for Z, and 0 in a refusal
abbrev pub q_asked : Part → Device → ℕ
q_asked P x = record_choice P x 0 (level_number (q x))

abbrev pub status_answer : Part → Device → Result ℕ Refusal
status_answer P x = record_choice P x (Err RecordRange) (Ok (status x.core))

abbrev pub status_asked : Part → Device → ℕ
status_asked P x = record_choice P x 0 (status x.core)

-- ---- power-up: the pins at rest around chip's record

abbrev pub powered_device : Answered (Unit {0}) Refusal → Stepped
powered_device p = stepped_to p.answer (resting p.core)

abbrev pub powered : ℕ → Bool → ℕ → Bool → Bool → Bool → ℕ → List ℕ → Stepped
powered part k n s b a t m = powered_device (powered_up part k n s b a t m)

-- ---- a list of events: the single events one after another

-- a bench of the pin model: a device, and the memory and the identification page lent to it
pub record PinBench : Type 0 where
  pub device : Device
  pub memory : List ℕ
  pub identification : List ℕ

abbrev pub pin_bench : Device → List ℕ → List ℕ → PinBench
pin_bench x m i = record { device = x; memory = m; identification = i }

abbrev pub lent_to : PinBench → Lent
lent_to b = lent b.memory b.identification

-- after one event; and after one that is given as a number
abbrev pub next : Part → Event → PinBench → PinBench
next P e b =
    pin_bench (stepped P (lent_to b) e b.device) (stepped_memory P e b.device b.memory)
    (stepped_identification P e b.device b.identification)

abbrev pub after_event : Part → ℕ → PinBench → PinBench
after_event P n b = next P (event_of n) b

unfoldable pub played : Part → List ℕ → PinBench → PinBench
played P [] b = b
played P (e ∷ es) b = played P es (after_event P e b)
