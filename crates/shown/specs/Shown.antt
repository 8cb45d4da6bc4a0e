-- What stands on Q over each byte of a frame, the output bytes, and how many leading bits were undriven.
use Rattle.std.specs.Prelude.{ℕ, ◌+◌, ◌*◌, ◌-◌, ◌/◌, ◌%◌, ◌^◌, min, Bool, List, length, get_or, eqb}
use Rattle.laws.specs.Pick.{pick}
use Rattle.laws.specs.Table.{table}
use Rattle.codes.specs.Part.{Part}
use Rattle.codes.specs.Output.{outputs}
use Rattle.codes.specs.declared.Instruction.{Instruction}
use Rattle.codes.specs.declared.Instruction.TheVariants.{Wren, Wrdi, Rdsr, Wrsr, Read, Write, Rdid}
use Rattle.codes.specs.declared.Instruction.TheVariants.{Wrid, Silence}
use Rattle.latch.specs.Identification.{identification_at}
use Rattle.fields.specs.Bytes.{instruction, address}

-- what there is to be seen: the status sampled for each data byte, the byte that shows the lock, the memory and the
-- identification page
pub record Sights : Type 0 where
  pub status : ℕ → ℕ
  pub lock : ℕ
  pub memory : List ℕ
  pub identification : List ℕ

-- with one status throughout
abbrev pub sights : ℕ → ℕ → List ℕ → List ℕ → Sights
sights status lock m i = record { status = λ j. status; lock = lock; memory = m; identification = i }

-- what stands over byte j: where Q is driven, the status sampled for data byte j − 1; the cells from the address up,
-- rolling over; the identification page or its lock. Undriven bits are written as 1
abbrev pub byte_out : Part → Instruction → Bool → Sights → ℕ → ℕ → ℕ
byte_out P Wren ran v a j = 255
byte_out P Wrdi ran v a j = 255
byte_out P Rdsr ran v a j = pick (outputs P Rdsr j ran) (v.status (j - 1)) 255
byte_out P Wrsr ran v a j = 255
byte_out P Read ran v a j =
    pick (outputs P Read j ran) (get_or v.memory ((a + (j - (P.address_bytes + 1))) % P.size) 0) 255
byte_out P Write ran v a j = 255
byte_out P Rdid ran v a j =
    pick (outputs P Rdid j ran) (identification_at P v.lock v.identification a (j - (P.address_bytes + 1))) 255
byte_out P Wrid ran v a j = 255
byte_out P Silence ran v a j = 255

-- a byte with its u low bits at 1
abbrev pub padded : ℕ → ℕ → ℕ
padded u v = v / 2 ^ u * 2 ^ u + (2 ^ u - 1)

-- bits past the bit count, which are in the last byte, are written as 1
abbrev pub padded_at : ℕ → ℕ → ℕ → ℕ → ℕ
padded_at len n j v = pick (eqb (j + 1) len) (padded (8 * len - n) v) v

-- the output of a frame of n bits
unfoldable pub output : Part → Bool → Sights → List ℕ → ℕ → List ℕ
output P ran v s n =
    table (length s) (λ j. padded_at (length s) n j (byte_out P (instruction P s) ran v (address P s) j))

-- how many leading bits of n were undriven
abbrev pub undriven : Part → Instruction → Bool → ℕ → ℕ
undriven P Wren ran n = n
undriven P Wrdi ran n = n
undriven P Rdsr ran n = min 8 n
undriven P Wrsr ran n = n
undriven P Read ran n = pick ran n (min (8 * (P.address_bytes + 1)) n)
undriven P Write ran n = n
undriven P Rdid ran n = pick ran n (min (8 * (P.address_bytes + 1)) n)
undriven P Wrid ran n = n
undriven P Silence ran n = n
