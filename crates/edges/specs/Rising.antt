-- A counted rising edge takes the bit on D, high bit first.
use Rattle.std.specs.Prelude.{ℕ, ◌+◌, ◌*◌, ◌-◌, ◌%◌, ◌^◌, Bool, eqb, leb, ltb}
use Rattle.laws.specs.Pick.{pick}
use Rattle.codes.specs.Part.{Part}
use Rattle.codes.specs.Status.{bit, on}
use Rattle.codes.specs.Instructions.{decode, picks_lock}
use Rattle.latch.specs.Latches.{latched, next_in_page}
use Rattle.codes.specs.declared.Instruction.{Instruction}
use Rattle.codes.specs.declared.Instruction.TheVariants.{Wren, Wrdi, Rdsr, Wrsr, Read, Write, Rdid}
use Rattle.codes.specs.declared.Instruction.TheVariants.{Wrid, Silence}
use Rattle.edges.specs.declared.Frame.{Frame}
use Rattle.edges.specs.Frames.{with_bits, with_byte, with_code, with_value, with_address, with_latch}

-- a byte with one more bit at its low end
abbrev pub shifted_in : ℕ → ℕ → ℕ
shifted_in v d = (2 * v + bit (on d)) % 256

-- ---- what a whole byte v is for, by the instruction and by n, the whole bytes before it

-- one more address byte, high byte first: each goes to its own place in the address
abbrev pub address_byte : Part → ℕ → ℕ → Frame → Frame
address_byte P n v f = with_address ((f.address + v * 256 ^ (P.address_bytes - n)) % P.size) f

-- a data byte goes to its cell, and the address moves to the next cell of the page
abbrev pub latch_byte : Part → ℕ → Frame → Frame
latch_byte P v f =
    with_address (next_in_page P f.address)
    (with_latch (latched (f.address % P.page) v f.latch) f)

-- a data byte of 82h: the lock's, of which the first stays, or one of the identification page
abbrev pub identification_data : Part → ℕ → ℕ → Frame → Frame
identification_data P n v f =
    pick (picks_lock f.address) (pick (eqb n (P.address_bytes + 1)) (with_value v f) f) (latch_byte P v f)

abbrev pub taking : Part → Instruction → ℕ → ℕ → Frame → Frame
taking P Wren n v f = f
taking P Wrdi n v f = f
taking P Rdsr n v f = f
taking P Wrsr n v f = pick (eqb n 1) (with_value v f) f
taking P Read n v f = pick (leb n P.address_bytes) (address_byte P n v f) f
taking P Write n v f = pick (leb n P.address_bytes) (address_byte P n v f) (latch_byte P v f)
taking P Rdid n v f = pick (leb n P.address_bytes) (address_byte P n v f) f
taking P Wrid n v f = pick (leb n P.address_bytes) (address_byte P n v f) (identification_data P n v f)
taking P Silence n v f = f

-- the first whole byte is the code, and "no cycle" is judged with it; every later one is the instruction's
unfoldable pub whole_byte : Part → Bool → ℕ → Frame → Frame
whole_byte P running v f =
    pick (eqb f.taken 0) (with_code v running (with_byte P f))
    (taking P (decode P f.code) f.taken v (with_byte P f))

-- ---- the edge

unfoldable pub risen : Part → Bool → ℕ → Frame → Frame
risen P running d f =
    pick (ltb f.bits 7) (with_bits (f.bits + 1) (shifted_in f.partial d) f)
    (whole_byte P running (shifted_in f.partial d) f)
