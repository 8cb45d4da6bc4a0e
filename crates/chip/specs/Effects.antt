-- What an executed instruction does to the record. One that writes sets time left to the cycle length.
use Rattle.std.specs.Prelude.{ℕ, ◌/◌}
use Rattle.laws.specs.Pick.{pick}
use Rattle.codes.specs.Part.{Part}
use Rattle.codes.specs.Instructions.{picks_lock}
use Rattle.chip.specs.Records.{status_waits, page_waits, identification_waits, lock_waits}
use Rattle.chip.specs.Records.{with_wel, with_cycle}
use Rattle.latch.specs.declared.Latch.{Latch}
use Rattle.chip.specs.declared.Core.{Core}
use Rattle.codes.specs.declared.Instruction.{Instruction}
use Rattle.codes.specs.declared.Instruction.TheVariants.{Wren, Wrdi, Rdsr, Wrsr, Read, Write, Rdid}
use Rattle.codes.specs.declared.Instruction.TheVariants.{Wrid, Silence}

-- a: the address; value: the WRSR data byte; latch: what a WRITE or 82h latched
abbrev pub effect : Part → Instruction → ℕ → ℕ → Latch → Core → Core
effect P Wren a value latch c = with_wel 1 c
effect P Wrdi a value latch c = with_wel 0 c
effect P Rdsr a value latch c = c
effect P Wrsr a value latch c = with_cycle (status_waits value) c
effect P Read a value latch c = c
effect P Write a value latch c = with_cycle (page_waits (a / P.page) latch) c
effect P Rdid a value latch c = c
effect P Wrid a value latch c = with_cycle (pick (picks_lock a) lock_waits (identification_waits latch)) c
effect P Silence a value latch c = c
