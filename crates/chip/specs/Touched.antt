-- How many cells the running cycle will touch: the marks of the latched bytes that wait. Where none wait nothing is
-- marked, so the answer is 0. The question is asked of the core record and of a device of the pin model: `fits` says
-- whether the record is inside its ranges.
use Rattle.codes.specs.declared.Refusal.{Refusal}
use Rattle.std.specs.Prelude.{ℕ, Bool, Err, Ok, Result}
use Rattle.laws.specs.Pick.{pick}
use Rattle.laws.specs.Count.{count}
use Rattle.codes.specs.Part.{Part}
use Rattle.codes.specs.declared.Refusal.TheVariants.{RecordRange}
use Rattle.latch.specs.Latches.{marked, touched}
use Rattle.chip.specs.declared.Core.{Core}

-- the ones of the words that wait
abbrev pub cells_touched : Core → ℕ
cells_touched c = touched c.waits.latch

-- and the marked cells, one by one
abbrev pub cells_marked : Part → Core → ℕ
cells_marked P c = count (marked c.waits.latch) P.page

-- what stands for refusal 2, and for no refusal
abbrev pub touched_choice : {A : Type 0} → Bool → A → A → A
touched_choice fits two done = pick fits done two

abbrev pub touched_answer : Bool → Core → Result ℕ Refusal
touched_answer fits c = touched_choice fits (Err RecordRange) (Ok (cells_touched c))
