-- Is a frame executed at its deselect, and if not, which test failed first. Both models ask this, of the instruction's
-- row.
use Rattle.std.specs.Prelude.{ℕ, Bool, true, false, not, ◌&&◌, ltb}
use Rattle.laws.specs.Pick.{pick}
use Rattle.codes.specs.Part.{Part}
use Rattle.codes.specs.Instructions.{row, count_fits, guarded}
use Rattle.codes.specs.declared.Row.{Row}
use Rattle.codes.specs.declared.Instruction.{Instruction}
use Rattle.codes.specs.declared.Verdict.{Verdict}
use Rattle.codes.specs.declared.Verdict.TheVariants.{Executed, CycleRan, WelOff, WrongCount, Guarded, OnHold}
use Rattle.codes.specs.declared.Verdict.TheVariants.{UnknownCode}

-- the last tests: hold, which does not stop a WRITE (004, 5.3), and what is not known: a code that the table lacks, and
-- an 82h for the lock with data bit 1 at 0
abbrev pub let_through : Row → Bool → Verdict
let_through r held = pick (held && not r.hold) OnHold (pick r.known Executed UnknownCode)

-- n: bits counted; ran: a cycle ran at the eighth edge; locked: SRWD is 1 and W is low at deselect; protected: the
-- cells to be written are; held: at deselect. Fewer than eight bits are no instruction.
unfoldable pub verdict_by : Row → ℕ → Bool → Bool → Bool → Bool → Bool → Verdict
verdict_by r n ran wel locked protected held =
    pick (ltb n 8) WrongCount
    (pick (r.idle && ran) CycleRan
    (pick (r.wel && not wel) WelOff
    (pick (not (count_fits r.count n)) WrongCount
    (pick (guarded r.guard locked protected) Guarded (let_through r held)))))

-- of an instruction with its address a and its data byte x
abbrev pub verdict : Part → Instruction → ℕ → ℕ → ℕ → Bool → Bool → Bool → Bool → Bool → Verdict
verdict P i a x n ran wel locked protected held = verdict_by (row P i a x) n ran wel locked protected held

abbrev pub is_executed : Verdict → Bool
is_executed Executed = true
is_executed CycleRan = false
is_executed WelOff = false
is_executed WrongCount = false
is_executed Guarded = false
is_executed OnHold = false
is_executed UnknownCode = false
