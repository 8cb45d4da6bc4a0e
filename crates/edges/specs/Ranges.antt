-- The ranges of the frame in hand: fields that the frame has not reached are 0.
use Rattle.std.specs.Prelude.{ℕ, ◌+◌, ◌-◌, ◌%◌, ◌^◌, Bool, false, not, ◌&&◌, ◌||◌, eqb, leb, ltb}
use Rattle.laws.specs.Pick.{pick}
use Rattle.codes.specs.Part.{Part}
use Rattle.codes.specs.Status.{on}
use Rattle.codes.specs.Instructions.{decode, picks_lock}
use Rattle.latch.specs.Latches.{latch_fits}
use Rattle.codes.specs.Output.{outputs}
use Rattle.codes.specs.declared.Instruction.{Instruction}
use Rattle.codes.specs.declared.Instruction.TheVariants.{Wren, Wrdi, Rdsr, Wrsr, Read, Write, Rdid}
use Rattle.codes.specs.declared.Instruction.TheVariants.{Wrid, Silence}
use Rattle.edges.specs.declared.Frame.{Frame}

-- bits taken of the current byte, and the values of those bits and no others
abbrev pub partial_fits : ℕ → ℕ → Bool
partial_fits n v = leb n 7 && ltb v (2 ^ n)

-- whole bytes taken, staying at the part's most, and bits taken
abbrev pub counts_fit : Part → Frame → Bool
counts_fit P f = leb f.taken P.most && partial_fits f.bits f.partial

-- the instruction byte, and whether a cycle ran at the eighth edge: from one whole byte on
abbrev pub code_fits : Frame → Bool
code_fits f = pick (eqb f.taken 0) (eqb f.code 0 && eqb f.ran 0) (leb f.ran 1)

-- the address of READ, WRITE, 82h and 83h: below the memory's size, with the bytes that are not yet taken at 0; of the
-- others it is 0
abbrev pub address_fits : Part → Instruction → ℕ → ℕ → Bool
address_fits P Wren n a = eqb a 0
address_fits P Wrdi n a = eqb a 0
address_fits P Rdsr n a = eqb a 0
address_fits P Wrsr n a = eqb a 0
address_fits P Read n a = ltb a P.size && eqb (a % 256 ^ (P.address_bytes + 1 - n)) 0
address_fits P Write n a = ltb a P.size && eqb (a % 256 ^ (P.address_bytes + 1 - n)) 0
address_fits P Rdid n a = ltb a P.size && eqb (a % 256 ^ (P.address_bytes + 1 - n)) 0
address_fits P Wrid n a = ltb a P.size && eqb (a % 256 ^ (P.address_bytes + 1 - n)) 0
address_fits P Silence n a = eqb a 0

-- the data byte of WRSR: from two whole bytes on; the lock's: from its first data byte on
abbrev pub valued : Part → Instruction → ℕ → ℕ → Bool
valued P Wren a n = false
valued P Wrdi a n = false
valued P Rdsr a n = false
valued P Wrsr a n = leb 2 n
valued P Read a n = false
valued P Write a n = false
valued P Rdid a n = false
valued P Wrid a n = picks_lock a && leb (P.address_bytes + 2) n
valued P Silence a n = false

-- the latch of WRITE, and of 82h for the page: from its first data byte on
abbrev pub latches : Part → Instruction → ℕ → ℕ → Bool
latches P Wren a n = false
latches P Wrdi a n = false
latches P Rdsr a n = false
latches P Wrsr a n = false
latches P Read a n = false
latches P Write a n = leb (P.address_bytes + 2) n
latches P Rdid a n = false
latches P Wrid a n = not (picks_lock a) && leb (P.address_bytes + 2) n
latches P Silence a n = false

-- the output byte and its bits shown: 0 outside data output, and the byte reads 0 where no bit shows
abbrev pub out_fits : Part → Instruction → Frame → Bool
out_fits P i f = pick (eqb f.shown 0) (eqb f.out 0) (leb f.shown 8 && outputs P i f.taken (on f.ran))

abbrev pub fields_fit : Part → Instruction → Frame → Bool
fields_fit P i f =
    address_fits P i f.taken f.address && (valued P i f.address f.taken || eqb f.value 0)
    && out_fits P i f && latch_fits P (latches P i f.address f.taken) f.latch

abbrev pub frame_fits : Part → Frame → Bool
frame_fits P f = counts_fit P f && code_fits f && fields_fit P (decode P f.code) f
