-- The public call, for every input: the refusals in their order, the answer with its counts, the record, the memory and
-- the identification page.
use Rattle.std.specs.Prelude.{◌≡◌, ℕ, ◌+◌, ◌≤◌, Bool, ◌&&◌, List, length, nat_le, Result, Err, Ok}
use Rattle.laws.specs.Pick.{pick}
use Rattle.codes.specs.Part.{Part}
use Rattle.chip.specs.Ranges.{in_ranges}
use Rattle.chip.specs.Time.{lent_fits}
use Rattle.codes.specs.Refusals.{Outcome, refusal_number, number_by, is_done, no_refusal}
use Rattle.chip.specs.declared.Core.{Core}
use Rattle.chip.specs.declared.Answered.{Answered}
use Rattle.codes.specs.declared.Refusal.TheVariants.{MemoryLength, RecordRange, AddressRange, PollRange}
use Rattle.frames.specs.Play.{FrameBench, acted_all, frame_bench}
use Rattle.driver.specs.declared.Sent.{Sent}
use Rattle.driver.specs.declared.RunError.{RunError}
use Rattle.driver.specs.declared.RunError.TheVariants.{TimedOut, Protected, Refused}
use Rattle.sequence.specs.Sequence.{sent, Ending, all_done, timed_out, protected, ending_number, Run, run}

-- ---- the answer

-- of a run, and what is handed back with it
abbrev pub RunReply : Type 0
RunReply = Result Sent RunError

abbrev pub Driven : Type 0
Driven = Answered Sent RunError

-- its number in document 01
abbrev pub run_error_number : RunError → ℕ
run_error_number (TimedOut s) = 9
run_error_number (Protected s) = 13
run_error_number (Refused r) = refusal_number r

abbrev pub run_reply_number : RunReply → ℕ
run_reply_number = number_by run_error_number

-- pages done, and frames sent: every count is 0 in a refusal
abbrev pub run_sent : RunReply → Sent
run_sent (Ok s) = s
run_sent (Err (TimedOut s)) = s
run_sent (Err (Protected s)) = s
run_sent (Err (Refused r)) = record { pages = 0; frames = 0 }

abbrev pub run_reply_pages : RunReply → ℕ
run_reply_pages x = (run_sent x).pages

abbrev pub run_reply_frames : RunReply → ℕ
run_reply_frames x = (run_sent x).frames

-- by the ending of a run
abbrev pub ending_answer : Ending → Sent → RunReply
ending_answer all_done s = Ok s
ending_answer timed_out s = Err (TimedOut s)
ending_answer protected s = Err (Protected s)

-- of a run in which so many frames were sent ..
abbrev pub counted_answer : ℕ → Run → RunReply
counted_answer frames r = ending_answer r.ending (record { pages = r.pages; frames = frames })

-- .. its own, and, for its page parts, some before them
abbrev pub run_answer : Run → RunReply
run_answer r = counted_answer (sent r.acts) r

abbrev pub parts_answer : ℕ → Run → RunReply
parts_answer before r = counted_answer (before + sent r.acts) r

-- ---- the refusals: 1, 2, 7, 8 in that order, also with no data

-- the interval, 1 to the longest cycle; the limit, 1 to one more
abbrev pub polls_fit : Part → ℕ → ℕ → Bool
polls_fit P interval limit = nat_le 1 interval && nat_le interval P.longest && nat_le 1 limit && nat_le limit (P.longest + 1)

-- such a limit
abbrev pub LimitFits : Part → ℕ → Type 0
LimitFits P limit = (1 ≤ limit) × (limit ≤ P.longest + 1)

-- what stands for each of them, and for none; size is the memory's length, cells the identification page's
abbrev pub drive_choice : {A : Type 0} → Part → Core → ℕ → ℕ → ℕ → ℕ → ℕ → ℕ → A → A → A → A → A → A
drive_choice P c size cells a len interval limit one two seven eight done =
    pick (lent_fits P size cells)
    (pick (in_ranges P c)
    (pick (nat_le (a + len) P.size)
    (pick (polls_fit P interval limit) done
    eight) seven) two) one

abbrev pub drive_outcome : Part → Core → ℕ → ℕ → ℕ → ℕ → ℕ → ℕ → Outcome
drive_outcome P c size cells a len interval limit =
    drive_choice P c size cells a len interval limit
    (Err MemoryLength) (Err RecordRange) (Err AddressRange)
    (Err PollRange) no_refusal

-- the number of the answer
abbrev pub drive_number : Part → Core → ℕ → ℕ → ℕ → ℕ → ℕ → ℕ → Ending → ℕ
drive_number P c size cells a len interval limit e =
    drive_choice P c size cells a len interval limit 1 2 7 8 (ending_number e)

-- its pages done, and its frames sent: those of the run, 0 in a refusal
abbrev pub drive_pages : Part → Core → List ℕ → List ℕ → ℕ → List ℕ → ℕ → ℕ → ℕ
drive_pages P c m i a bytes interval limit =
    drive_choice P c (length m) (length i) a (length bytes) interval limit 0 0 0 0
    (run P interval limit a bytes (frame_bench c m i)).pages

abbrev pub drive_frames : Part → Core → List ℕ → List ℕ → ℕ → List ℕ → ℕ → ℕ → ℕ
drive_frames P c m i a bytes interval limit =
    drive_choice P c (length m) (length i) a (length bytes) interval limit 0 0 0 0
    (sent (run P interval limit a bytes (frame_bench c m i)).acts)

-- ---- what is handed back, and what is left in the memory and in the identification page

abbrev pub run_reply : Outcome → Run → RunReply
run_reply (Ok _) r = run_answer r
run_reply (Err e) r = Err (Refused e)

abbrev pub leaves : Part → Run → Core → List ℕ → List ℕ → FrameBench
leaves P r c m i = acted_all P r.acts (frame_bench c m i)

-- of a run that is not refused and that depends on the bench: its answer and the record that it leaves, the memory and
-- the identification page
abbrev pub Drove : Part → (Run → RunReply) → (FrameBench → Run) → FrameBench → Driven → List ℕ → List ℕ → Type 0
Drove P answer runs d r m i =
    let left = acted_all P (runs d).acts d in
    (r ≡ record { answer = answer (runs d); core = left.core }) × ((m ≡ left.memory) × (i ≡ left.identification))

unfoldable pub driven : Part → Core → List ℕ → List ℕ → ℕ → List ℕ → ℕ → ℕ → Driven
driven P c m i a bytes interval limit =
    let o = drive_outcome P c (length m) (length i) a (length bytes) interval limit in
    let r = run P interval limit a bytes (frame_bench c m i) in
    record { answer = run_reply o r; core = pick (is_done o) (leaves P r c m i).core c }

unfoldable pub driven_memory : Part → Core → List ℕ → List ℕ → ℕ → List ℕ → ℕ → ℕ → List ℕ
driven_memory P c m i a bytes interval limit =
    let o = drive_outcome P c (length m) (length i) a (length bytes) interval limit in
    let r = run P interval limit a bytes (frame_bench c m i) in
    pick (is_done o) (leaves P r c m i).memory m

unfoldable pub driven_identification : Part → Core → List ℕ → List ℕ → ℕ → List ℕ → ℕ → ℕ → List ℕ
driven_identification P c m i a bytes interval limit =
    let o = drive_outcome P c (length m) (length i) a (length bytes) interval limit in
    let r = run P interval limit a bytes (frame_bench c m i) in
    pick (is_done o) (leaves P r c m i).identification i
