-- What each call for C answers, for every number that C may hand over.
use Rattle.codes.specs.Refusals.{number, value_of}
use Rattle.std.specs.Prelude.{ℕ, Bool, ◌&&◌, ◌||◌, List, length, eqb, leb}
use Rattle.laws.specs.Pick.{pick}
use Rattle.codes.specs.Part.{Part, part_of}
use Rattle.codes.specs.Status.{on}
use Rattle.chip.specs.Lents.{Lent}
use Rattle.chip.specs.Records.{status}
use Rattle.chip.specs.Ranges.{in_ranges}
use Rattle.latch.specs.declared.Latch.{Latch}
use Rattle.laying.specs.Laying.{laid_over, lay_number}
use Rattle.chip.specs.Touched.{cells_marked, touched_choice}
use Rattle.chip.specs.Questions.{lowest_number, lowest_value, question_number, question_value}
use Rattle.chip.specs.Power.{unpowered, powered_up, power_up_number}
use Rattle.chip.specs.Time.{lent_fits, reading_number, clock_reading}
use Rattle.chip.specs.declared.Core.{Core}
use Rattle.cuts.specs.Cuts.{cut_answer}
use Rattle.cuts.specs.declared.Choice.{Choice}
use Rattle.bench.specs.declared.CoreAnswer.{CoreAnswer}
use Rattle.bench.specs.declared.LatchAnswer.{LatchAnswer}
use Rattle.frames.specs.Answers.{framed, framed_output}
use Rattle.frames.specs.Answers.{Framed}
use Rattle.timed_frames.specs.Answers.{framed_in_time, in_time_left, output_in_time}
use Rattle.timed_frames.specs.declared.Mode.{Mode}
use Rattle.timed_frames.specs.declared.Mode.TheVariants.{Zero, Three}
use Rattle.pins.specs.declared.Device.{Device}
use Rattle.pins.specs.Devices.{resting}
use Rattle.pins.specs.Ranges.{device_fits}
use Rattle.pins.specs.Events.{on_time}
use Rattle.pins.specs.Answers.{answer, record_outcome, record_number, memory_outcome, memory_number, q_asked, status_asked}
use Rattle.pins.specs.Answers.{powered, cut_device}
use Rattle.lists.specs.Answers.{play_answer, play_number}
use Rattle.bench.specs.declared.FrameAnswer.{FrameAnswer}
use Rattle.bench.specs.declared.DeviceAnswer.{DeviceAnswer}
use Rattle.bench.specs.declared.Value.{Value}
use Rattle.driver.specs.Answers as driver
use Rattle.intel_hex.specs.Answers.{import_number, import_answer}
use Rattle.bench.specs.declared.DriverAnswer.{DriverAnswer}

-- ---- answers put together

abbrev pub core_answer : ℕ → Core → CoreAnswer
core_answer n c = record { number = n; core = c }

abbrev pub value_answer : ℕ → ℕ → Value
value_answer n v = record { number = n; value = v }

-- ---- the frame model

-- a lock or a flag that is not 0 or 1 is outside its range, after a memory of another length
abbrev pub bad_flag : Part → ℕ → ℕ
bad_flag P size = pick (eqb size P.size) 2 1

-- each refusal leaves the M95512 with no cell counted
abbrev pub power_up_call : ℕ → ℕ → ℕ → ℕ → ℕ → ℕ → ℕ → List ℕ → CoreAnswer
power_up_call part k cycle s b a t m =
    pick (leb k 1 && leb s 1 && leb b 1 && leb a 1)
    (core_answer (power_up_number part cycle m) (powered_up part (on k) cycle (on s) (on b) (on a) t m).core)
    (core_answer (bad_flag (part_of part) (length m)) unpowered)

abbrev pub reading_call : Part → Core → ℕ → List ℕ → List ℕ → CoreAnswer
reading_call P c t m d = core_answer (reading_number P c m d) (clock_reading P t c m d).core

abbrev pub cut_call : Part → Choice → Core → List ℕ → List ℕ → CoreAnswer
cut_call P h c m d = core_answer (reading_number P c m d) (cut_answer P h c m d).core

abbrev pub in_ranges_call : Part → Core → Value
in_ranges_call P c = pick (in_ranges P c) (value_answer 0 1) (value_answer 2 0)

abbrev pub status_call : Part → Core → Value
status_call P c = pick (in_ranges P c) (value_answer 0 (status c)) (value_answer 2 0)

abbrev pub lowest_protected_call : Part → Core → Value
lowest_protected_call P c = value_answer (lowest_number P c) (lowest_value P c)

abbrev pub protected_call : Part → Core → ℕ → Value
protected_call P c a = value_answer (question_number P c a) (question_value P c a)

-- how many cells the running cycle will touch: the marked ones, 0 where no latched bytes wait
abbrev pub touched_call : Part → Bool → Core → Value
touched_call P fits c = value_answer (touched_choice fits 2 0) (touched_choice fits 0 (cells_marked P c))

-- W is a level; a level of 2 is outside the ranges, after a lent slice of another length
abbrev pub bad_level : Part → ℕ → ℕ → ℕ
bad_level P size cells = pick (lent_fits P size cells) 2 1

abbrev pub frame_answer : ℕ → ℕ → Core → FrameAnswer
frame_answer n u c = record { number = n; undriven = u; core = c }

-- what the frame model hands back, as C has it
abbrev pub framed_answer : Framed → FrameAnswer
framed_answer r = frame_answer (number r.answer) (value_of r.answer) r.core

abbrev pub frame_call : Part → Core → List ℕ → List ℕ → ℕ → List ℕ → ℕ → ℕ → FrameAnswer
frame_call P c m d w s n room =
    pick (leb w 1) (framed_answer (framed P c m d (on w) s n room))
    (frame_answer (bad_level P (length m) (length d)) 0 c)

abbrev pub frame_call_output : Part → Core → List ℕ → List ℕ → ℕ → List ℕ → ℕ → List ℕ → List ℕ
frame_call_output P c m d w s n out = pick (leb w 1) (framed_output P c m d s n out) out

-- the frame with clock readings inside it: W is a level, and the mode's number is 0 or 3. Any other is outside the
-- ranges, as a level of 2 is
abbrev pub timed_taken : ℕ → ℕ → Bool
timed_taken w o = leb w 1 && (eqb o 0 || eqb o 3)

abbrev pub mode_of : ℕ → Mode
mode_of o = pick (eqb o 3) Three Zero

abbrev pub timed_call : Part → Core → Lent → ℕ → ℕ → List ℕ → ℕ → List ℕ → List ℕ → ℕ → FrameAnswer
timed_call P c m w o s n ps ts room =
    pick (timed_taken w o) (framed_answer (framed_in_time P c m (on w) s n ps ts room))
    (frame_answer (bad_level P (length m.memory) (length m.identification)) 0 c)

abbrev pub timed_call_memory : Part → Core → Lent → ℕ → ℕ → List ℕ → ℕ → List ℕ → List ℕ → ℕ → List ℕ
timed_call_memory P c m w o s n ps ts room =
    pick (timed_taken w o) (in_time_left P c m (on w) s n ps ts room).memory m.memory

abbrev pub timed_call_identification : Part → Core → Lent → ℕ → ℕ → List ℕ → ℕ → List ℕ → List ℕ → ℕ → List ℕ
timed_call_identification P c m w o s n ps ts room =
    pick (timed_taken w o) (in_time_left P c m (on w) s n ps ts room).identification m.identification

abbrev pub timed_call_output : Part → Core → Lent → ℕ → ℕ → List ℕ → ℕ → List ℕ → List ℕ → List ℕ → List ℕ
timed_call_output P c m w o s n ps ts out =
    pick (timed_taken w o) (output_in_time P c m (mode_of o) s n ps ts out) out

-- ---- the pin model

abbrev pub device_answer : ℕ → Device → DeviceAnswer
device_answer n x = record { number = n; device = x }

abbrev pub device_power_up_call : ℕ → ℕ → ℕ → ℕ → ℕ → ℕ → ℕ → List ℕ → DeviceAnswer
device_power_up_call part k cycle s b a t m =
    pick (leb k 1 && leb s 1 && leb b 1 && leb a 1)
    (device_answer (power_up_number part cycle m) (powered part (on k) cycle (on s) (on b) (on a) t m).device)
    (device_answer (bad_flag (part_of part) (length m)) (resting unpowered))

-- an event that sets a pin: y follows, or the device as it was
abbrev pub pin_call : Part → ℕ → Device → Device → DeviceAnswer
pin_call P level y x =
    pick (leb level 1) (device_answer (record_number P x) (answer (record_outcome P x) y x).device) (device_answer 2 x)

abbrev pub clock_pin_call : Part → ℕ → Device → Device → Lent → DeviceAnswer
clock_pin_call P level y x m =
    pick (leb level 1)
    (device_answer (memory_number P x m) (answer (memory_outcome P x m) y x).device)
    (device_answer (bad_level P (length m.memory) (length m.identification)) x)

abbrev pub device_reading_call : Part → Device → ℕ → Lent → DeviceAnswer
device_reading_call P x t m =
    device_answer (memory_number P x m)
    (answer (memory_outcome P x m) (on_time P t m.memory x) x).device

abbrev pub device_cut_call : Part → Choice → Device → Lent → DeviceAnswer
device_cut_call P h x m =
    device_answer (memory_number P x m) (answer (memory_outcome P x m) (cut_device P h m.memory x) x).device

abbrev pub q_call : Part → Device → Value
q_call P x = value_answer (record_number P x) (q_asked P x)

abbrev pub device_status_call : Part → Device → Value
device_status_call P x = value_answer (record_number P x) (status_asked P x)

abbrev pub device_in_ranges_call : Part → Device → Value
device_in_ranges_call P x = pick (device_fits P x) (value_answer 0 1) (value_answer 2 0)

abbrev pub play_call : Part → Device → Lent → List ℕ → List ℕ → DeviceAnswer
play_call P x m es d = device_answer (play_number P x m es (length d)) (play_answer P x m es d).device

-- ---- the driver

abbrev pub driver_answer : ℕ → ℕ → ℕ → Core → DriverAnswer
driver_answer n p f c = record { number = n; pages = p; frames = f; core = c }

abbrev pub write_call : Part → Core → List ℕ → List ℕ → ℕ → List ℕ → ℕ → ℕ → DriverAnswer
write_call P c m d a bytes interval limit =
    let r = driver.driven P c m d a bytes interval limit in
    driver_answer (driver.run_reply_number r.answer) (driver.run_reply_pages r.answer)
    (driver.run_reply_frames r.answer) r.core

-- ---- HEX texts: export answers its number alone

abbrev pub import_call : Part → Core → List ℕ → List ℕ → CoreAnswer
import_call P c m t = core_answer (import_number P c m t) (import_answer P c m t).core

-- ---- one page write laid over another

abbrev pub lay_call : Latch → Latch → LatchAnswer
lay_call l k = record { number = lay_number l k; latch = (laid_over l k).latch }
