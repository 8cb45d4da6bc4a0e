-- What the driver's theorems speak of: a quotient rounded up, the polls of each page, frames that are all executed,
-- acts that no call refuses, a memory with a run of bytes written over it, and the memory and the identification page
-- that a running cycle leaves.
use Rattle.std.specs.Prelude.{ℕ, suc, ◌+◌, ◌-◌, ◌/◌, Bool, true, ◌&&◌, List, [], ◌∷◌, length, get_or, eqb, leb, ltb}
use Rattle.laws.specs.Pick.{pick}
use Rattle.laws.specs.Table.{table}
use Rattle.codes.specs.Part.{Part}
use Rattle.codes.specs.Instructions.{rdsr_code, write_code}
use Rattle.codes.specs.Verdicts.{is_executed}
use Rattle.chip.specs.Records.{running, waits_page, waits_identification}
use Rattle.chip.specs.Time.{ended_cells, reading_number}
use Rattle.chip.specs.declared.Waiting.{Waiting}
use Rattle.chip.specs.declared.Core.{Core}
use Rattle.frames.specs.After.{judged}
use Rattle.frames.specs.Answers.{frame_number}
use Rattle.frames.specs.Play.{Act, frame, reading, FrameBench, acted}

-- x divided by y, rounded up
abbrev pub rounded_up : ℕ → ℕ → ℕ
rounded_up x y = (x + (y - 1)) / y

-- the RDSR frames of a list before any other frame
abbrev pub polls_now : List Act → ℕ
polls_now [] = 0
polls_now (frame w s n ∷ acts) = pick (eqb (get_or s 0 0) rdsr_code) (suc (polls_now acts)) 0
polls_now (reading t ∷ acts) = polls_now acts

-- for each WRITE of a list, the polls that follow it
abbrev pub page_polls : List Act → List ℕ
page_polls [] = []
page_polls (frame w s n ∷ acts) =
    pick (eqb (get_or s 0 0) write_code) (polls_now acts ∷ page_polls acts) (page_polls acts)
page_polls (reading t ∷ acts) = page_polls acts

-- every frame of a list is executed where it is sent
abbrev pub all_executed : Part → List Act → FrameBench → Bool
all_executed P [] d = true
all_executed P (frame w s n ∷ acts) d =
    is_executed (judged P (running d.core) w d.core s n) && all_executed P acts (acted P (frame w s n) d)
all_executed P (reading t ∷ acts) d = all_executed P acts (acted P (reading t) d)

-- the frame model's public calls answer 0 to every frame and every reading of a list where it comes
abbrev pub all_accepted : Part → List Act → FrameBench → Bool
all_accepted P [] d = true
all_accepted P (frame w s n ∷ acts) d =
    eqb (frame_number P d.core (length d.memory) (length d.identification) (length s) n (length s)) 0
    && all_accepted P acts (acted P (frame w s n) d)
all_accepted P (reading t ∷ acts) d =
    eqb (reading_number P d.core d.memory d.identification) 0 && all_accepted P acts (acted P (reading t) d)

-- the given bytes in the cells from a on, every other cell as it is
unfoldable pub overwritten : ℕ → List ℕ → List ℕ → List ℕ
overwritten a bytes m =
    table (length m) (λ j. pick (leb a j && ltb j (a + length bytes)) (get_or bytes (j - a) 0) (get_or m j 0))

-- lent cells once a cycle that was already running has ended: the memory, and the identification page
abbrev pub once_ended_cells : (Waiting → Bool) → Part → Core → List ℕ → List ℕ
once_ended_cells theirs P c m = pick (running c) (ended_cells theirs P c m) m

abbrev pub once_ended : Part → Core → List ℕ → List ℕ
once_ended P c m = once_ended_cells waits_page P c m

abbrev pub once_ended_identification : Part → Core → List ℕ → List ℕ
once_ended_identification P c i = once_ended_cells waits_identification P c i
