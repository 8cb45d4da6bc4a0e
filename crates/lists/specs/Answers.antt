-- The public call, for every input: the refusals in their order, and Q after each event.
use Rattle.std.specs.Prelude.{ℕ, List, [], ◌∷◌, length, eqb, Err, Ok}
use Rattle.laws.specs.Pick.{pick}
use Rattle.codes.specs.Part.{Part}
use Rattle.chip.specs.Lents.{Lent}
use Rattle.codes.specs.declared.Refusal.TheVariants.{MemoryLength, RecordRange, OutputLength}
use Rattle.codes.specs.Refusals.{Outcome, no_refusal}
use Rattle.edges.specs.Falling.{level_number}
use Rattle.pins.specs.declared.Device.{Device}
use Rattle.pins.specs.Devices.{q}
use Rattle.pins.specs.declared.Stepped.{Stepped}
use Rattle.pins.specs.Answers.{PinBench, pin_bench, after_event, played, memory_choice, answer, answer_memory}
use Rattle.events.specs.Events.{are_events}

-- Q after each event of a list
unfoldable pub played_q : Part → List ℕ → PinBench → List ℕ
played_q P [] b = []
played_q P (e ∷ es) b = level_number (q (after_event P e b).device) ∷ played_q P es (after_event P e b)

-- what stands for refusals 1, 2 (the device's, or that of a number that is no event), and 5 for an output that has not
-- the list's length, and for none
abbrev pub play_choice : {A : Type 0} → Part → Device → Lent → List ℕ → ℕ → A → A → A → A → A
play_choice P x m es room one two five done =
    memory_choice P x m one two (pick (are_events es) (pick (eqb room (length es)) done five) two)

abbrev pub play_outcome : Part → Device → Lent → List ℕ → ℕ → Outcome
play_outcome P x m es room =
    play_choice P x m es room (Err MemoryLength) (Err RecordRange) (Err OutputLength) no_refusal

abbrev pub play_number : Part → Device → Lent → List ℕ → ℕ → ℕ
play_number P x m es room = play_choice P x m es room 1 2 5 0

-- the device and what is lent to it, as one bench
abbrev pub bench_with : Device → Lent → PinBench
bench_with x m = pin_bench x m.memory m.identification

-- the list es over a device x, with the memory and the identification page m and an output d, all lent: what is handed
-- back, and what is left of the three
abbrev pub play_answer : Part → Device → Lent → List ℕ → List ℕ → Stepped
play_answer P x m es d = answer (play_outcome P x m es (length d)) (played P es (bench_with x m)).device x

abbrev pub play_memory : Part → Device → Lent → List ℕ → List ℕ → List ℕ
play_memory P x m es d = answer_memory (play_outcome P x m es (length d)) (played P es (bench_with x m)).memory m.memory

abbrev pub play_identification : Part → Device → Lent → List ℕ → List ℕ → List ℕ
play_identification P x m es d =
    answer_memory (play_outcome P x m es (length d)) (played P es (bench_with x m)).identification m.identification

abbrev pub play_output : Part → Device → Lent → List ℕ → List ℕ → List ℕ
play_output P x m es d = answer_memory (play_outcome P x m es (length d)) (played_q P es (bench_with x m)) d
