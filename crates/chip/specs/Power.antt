-- Power-up, and the device as delivered.
use Rattle.codes.specs.Refusals.{no_refusal}
use Rattle.std.specs.Prelude.{ℕ, ◌-◌, Bool, false, List, ◌++◌, length, replicate, ◌==◌, Err}
use Rattle.laws.specs.Pick.{pick}
use Rattle.codes.specs.Part.{Part, part_of, is_part}
use Rattle.blanks.specs.Blanks.{blanks}
use Rattle.chip.specs.Records.{idle}
use Rattle.chip.specs.Ranges.{cycle_fits}
use Rattle.chip.specs.declared.Core.{Core}
use Rattle.chip.specs.declared.Answered.{Answered}
use Rattle.codes.specs.declared.Refusal.{Refusal}
use Rattle.codes.specs.declared.Refusal.TheVariants.{MemoryLength, RecordRange, CycleLength}

-- a part with lock and status bits 0, its longest cycle, reading 0 and so many blank cells
abbrev pub quiet : ℕ → ℕ → Core
quiet part blank = idle part false false false false (part_of part).longest 0 blank

-- as delivered, every cell of the memory blank: what the trace text starts from. A number that is no part gives the
-- M95512
abbrev pub delivered : ℕ → Core
delivered part = pick (is_part part) (quiet part (part_of part).size) (quiet 0 (part_of 0).size)

-- with every byte FFh, but for the first of the identification page
abbrev pub delivered_memory : Part → List ℕ
delivered_memory P = replicate P.size 0xff

abbrev pub delivered_identification : Part → List ℕ
delivered_identification P = P.identity ++ replicate (P.page - length P.identity) 0xff

-- what stands for refusal 1, where the memory is not as long as the part has it; for 2, for a part that is none; for 6,
-- where the cycle length is not 1 to the part's longest; and for none
abbrev pub power_up_choice : {A : Type 0} → ℕ → ℕ → List ℕ → A → A → A → A → A
power_up_choice part cycle m one two six done =
    pick (length m == (part_of part).size)
    (pick (is_part part)
    (pick (cycle_fits (part_of part) cycle) done
    six) two) one

-- a refusal leaves the M95512 with no cell counted, whatever else was given
abbrev pub unpowered : Core
unpowered = quiet 0 0

abbrev pub not_powered : Refusal → Answered (Unit {0}) Refusal
not_powered r = record { answer = Err r; core = unpowered }

-- the cells of the memory are counted
abbrev pub powered_up : ℕ → Bool → ℕ → Bool → Bool → Bool → ℕ → List ℕ → Answered (Unit {0}) Refusal
powered_up part lock cycle srwd bp1 bp0 t m =
    power_up_choice part cycle m (not_powered MemoryLength) (not_powered RecordRange) (not_powered CycleLength)
    (record { answer = no_refusal; core = idle part lock srwd bp1 bp0 cycle t (blanks m) })

-- its number in document 01
abbrev pub power_up_number : ℕ → ℕ → List ℕ → ℕ
power_up_number part cycle m = power_up_choice part cycle m 1 2 6 0
