-- What a frame of n bits leaves in the record. "No cycle" at the eighth edge (ran) and the level of W are arguments.
use Rattle.std.specs.Prelude.{ℕ, ◌+◌, Bool, false, not, ◌&&◌, List, get_or}
use Rattle.laws.specs.Pick.{pick}
use Rattle.codes.specs.Part.{Part}
use Rattle.codes.specs.Status.{on}
use Rattle.chip.specs.Questions.{barred}
use Rattle.codes.specs.Verdicts.{verdict, is_executed}
use Rattle.chip.specs.Effects.{effect}
use Rattle.chip.specs.declared.Core.{Core}
use Rattle.codes.specs.declared.Verdict.{Verdict}
use Rattle.fields.specs.Bytes.{instruction, address, written}

-- the data byte that counts is the first after the address; HOLD is high throughout, so the frame is never held
abbrev pub judged : Part → Bool → Bool → Core → List ℕ → ℕ → Verdict
judged P ran w c s n =
    verdict P (instruction P s) (address P s) (get_or s (P.address_bytes + 1) 0) n ran (on c.wel)
    (on c.srwd && not w) (barred P c (instruction P s) (address P s)) false

-- what the instruction does where it is executed; a WRSR's data byte comes right after its code
abbrev pub executed : Part → Core → List ℕ → Core
executed P c s = effect P (instruction P s) (address P s) (get_or s 1 0) (written P s) c

-- a frame that is not executed leaves the record as it was
abbrev pub after : Part → Bool → Bool → Core → List ℕ → ℕ → Core
after P ran w c s n = pick (is_executed (judged P ran w c s n)) (executed P c s) c
