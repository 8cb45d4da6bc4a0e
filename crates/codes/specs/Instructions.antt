-- The table of instructions, a row for each: its code, the bits at deselect, and when it is executed. Any other code
-- waits in silence.
use Rattle.std.specs.Prelude.{ℕ, ◌+◌, ◌*◌, ◌%◌, Bool, true, false, not, ◌&&◌, ◌||◌, eqb, leb}
use Rattle.laws.specs.Pick.{pick}
use Rattle.laws.specs.Flags.{on}
use Rattle.laws.specs.Bits.{bit_of}
use Rattle.codes.specs.Part.{Part}
use Rattle.codes.specs.declared.Instruction.{Instruction}
use Rattle.codes.specs.declared.Instruction.TheVariants.{Wren, Wrdi, Rdsr, Wrsr, Read, Write, Rdid}
use Rattle.codes.specs.declared.Instruction.TheVariants.{Wrid, Silence}
use Rattle.codes.specs.declared.Count.{Count}
use Rattle.codes.specs.declared.Count.TheVariants.{Exactly, AnyBits, WholeBytes}
use Rattle.codes.specs.declared.Guard.{Guard}
use Rattle.codes.specs.declared.Guard.TheVariants.{Nothing, StatusLock, CellLock}
use Rattle.codes.specs.declared.Row.{Row}

abbrev pub wren_code : ℕ
wren_code = 0x06

abbrev pub wrdi_code : ℕ
wrdi_code = 0x04

abbrev pub rdsr_code : ℕ
rdsr_code = 0x05

abbrev pub wrsr_code : ℕ
wrsr_code = 0x01

abbrev pub read_code : ℕ
read_code = 0x03

abbrev pub write_code : ℕ
write_code = 0x02

-- the identification page and its lock, of a part that has them (002, 6.7 to 6.10)
abbrev pub rdid_code : ℕ
rdid_code = 0x83

abbrev pub wrid_code : ℕ
wrid_code = 0x82

-- which of the two an address picks: bit 10 at 0 the page, at 1 the lock
abbrev pub picks_lock : ℕ → Bool
picks_lock a = on (bit_of 10 a)

-- what a lock's data byte must say: bit 1 at 1
abbrev pub sets_lock : ℕ → Bool
sets_lock x = on (bit_of 1 x)

-- the bits of a WRITE's code, address and first data byte
abbrev pub write_bits : Part → ℕ
write_bits P = 8 * (P.address_bytes + 2)

-- a row that Hold at deselect does not stop (document 02, Item 3)
abbrev pub in_hold : Row → Row
in_hold r = record { count = r.count; idle = r.idle; wel = r.wel; guard = r.guard; hold = true; known = r.known }

-- bits at deselect; "no cycle"; "WEL 1"; what else stops it; whether Hold does not; whether it is known: the table has
-- it and, of an 82h for the lock, data bit 1 is 1. At address a and with data byte x: 82h writes the page with WRITE's
-- counts, or sets the lock with exactly the bits of code, address and one data byte
abbrev pub row : Part → Instruction → ℕ → ℕ → Row
row P Wren a x = record { count = Exactly 8; idle = true; wel = false; guard = Nothing; hold = false; known = true }
row P Wrdi a x =
    record {
      count = Exactly 8;
      idle = not P.wrdi_in_cycle;
      wel = false;
      guard = Nothing;
      hold = false;
      known = true;
    }
row P Rdsr a x = record { count = AnyBits; idle = false; wel = false; guard = Nothing; hold = false; known = true }
row P Wrsr a x = record { count = Exactly 16; idle = true; wel = true; guard = StatusLock; hold = false; known = true }
row P Read a x = record { count = AnyBits; idle = true; wel = false; guard = Nothing; hold = false; known = true }
row P Write a x =
    record { count = WholeBytes (write_bits P); idle = true; wel = true; guard = CellLock; hold = true; known = true }
row P Rdid a x = record { count = AnyBits; idle = true; wel = false; guard = Nothing; hold = false; known = true }
row P Wrid a x =
    record {
      count = pick (picks_lock a) (Exactly (write_bits P)) (WholeBytes (write_bits P));
      idle = true;
      wel = true;
      guard = CellLock;
      hold = false;
      known = not (picks_lock a) || sets_lock x;
    }
row P Silence a x = record { count = AnyBits; idle = false; wel = false; guard = Nothing; hold = false; known = false }

-- which row an instruction byte has: a part without an identification page knows neither of its codes ..
abbrev pub decode_identified : Bool → ℕ → Instruction
decode_identified identified code =
    pick (eqb code rdid_code && identified) Rdid (pick (eqb code wrid_code && identified) Wrid Silence)

-- .. and every part the others
unfoldable pub decode : Part → ℕ → Instruction
decode P code =
    pick (eqb code wren_code) Wren
    (pick (eqb code wrdi_code) Wrdi
    (pick (eqb code rdsr_code) Rdsr
    (pick (eqb code wrsr_code) Wrsr
    (pick (eqb code read_code) Read
    (pick (eqb code write_code) Write (decode_identified P.identified code))))))

-- ---- what a row's columns say

-- exactly so many bits; any number; so many or more, in whole bytes
abbrev pub count_fits : Count → ℕ → Bool
count_fits (Exactly k) n = eqb n k
count_fits AnyBits n = true
count_fits (WholeBytes k) n = leb k n && eqb (n % 8) 0

-- a WRSR is stopped while SRWD is 1 and W is low; a WRITE where its address is protected, 82h by the lock or BP 11
abbrev pub guarded : Guard → Bool → Bool → Bool
guarded Nothing locked protected = false
guarded StatusLock locked protected = locked
guarded CellLock locked protected = protected

-- the instruction that addresses cells of the memory to be stored ..
abbrev pub is_write : Instruction → Bool
is_write Wren = false
is_write Wrdi = false
is_write Rdsr = false
is_write Wrsr = false
is_write Read = false
is_write Write = true
is_write Rdid = false
is_write Wrid = false
is_write Silence = false

-- .. and the one of the identification page
abbrev pub is_wrid : Instruction → Bool
is_wrid Wren = false
is_wrid Wrdi = false
is_wrid Rdsr = false
is_wrid Wrsr = false
is_wrid Read = false
is_wrid Write = false
is_wrid Rdid = false
is_wrid Wrid = true
is_wrid Silence = false
