-- An unheld falling edge moves Q to the next data bit; and what Q shows.
use Rattle.std.specs.Prelude.{ℕ, ◌+◌, ◌-◌, ◌%◌, not, ◌&&◌, get_or, eqb, leb, ltb}
use Rattle.laws.specs.Pick.{pick}
use Rattle.codes.specs.Part.{Part}
use Rattle.codes.specs.Status.{on, bit_of}
use Rattle.latch.specs.Identification.{identification_byte, identification_next}
use Rattle.chip.specs.Lents.{Lent}
use Rattle.chip.specs.Records.{status, lock_byte}
use Rattle.codes.specs.Instructions.{decode}
use Rattle.codes.specs.Output.{outputs}
use Rattle.chip.specs.declared.Core.{Core}
use Rattle.codes.specs.declared.Instruction.{Instruction}
use Rattle.codes.specs.declared.Instruction.TheVariants.{Wren, Wrdi, Rdsr, Wrsr, Read, Write, Rdid}
use Rattle.codes.specs.declared.Instruction.TheVariants.{Wrid, Silence}
use Rattle.edges.specs.declared.Frame.{Frame}
use Rattle.edges.specs.declared.Level.{Level}
use Rattle.edges.specs.declared.Level.TheVariants.{Zero, One, Z}
use Rattle.edges.specs.Frames.{with_out, with_address}

-- the next data byte, of which bit 7 shows: the status as it is now; the cell at the address, which then goes up and
-- rolls over; the identification page's cell or its lock
abbrev pub loading : Part → Lent → Core → Instruction → Frame → Frame
loading P m c Wren f = f
loading P m c Wrdi f = f
loading P m c Rdsr f = with_out (status c) 1 f
loading P m c Wrsr f = f
loading P m c Read f = with_address ((f.address + 1) % P.size) (with_out (get_or m.memory f.address 0) 1 f)
loading P m c Write f = f
loading P m c Rdid f =
    with_address (identification_next P f.address)
    (with_out (identification_byte P (lock_byte c) m.identification f.address) 1 f)
loading P m c Wrid f = f
loading P m c Silence f = f

-- 1 to 7 bits shown: the next one; none or all eight: the next byte
unfoldable pub fallen : Part → Lent → Core → Frame → Frame
fallen P m c f =
    pick (outputs P (decode P f.code) f.taken (on f.ran))
    (pick (leb 1 f.shown && ltb f.shown 8) (with_out f.out (f.shown + 1) f)
    (loading P m c (decode P f.code) f))
    f

-- ---- Q

abbrev pub level_of : ℕ → Level
level_of b = pick (eqb b 1) One Zero

-- Z when not selected, when held and outside data output; k bits shown: bit 8 − k shows
abbrev pub level_shown : ℕ → ℕ → ℕ → ℕ → Level
level_shown s held shown out = pick (not (on s) && not (on held) && leb 1 shown) (level_of (bit_of (8 - shown) out)) Z

-- the values of document 01: 0, 1 and Z, which is 2 where a number is wanted
abbrev pub level_number : Level → ℕ
level_number Zero = 0
level_number One = 1
level_number Z = 2
