-- The bytes of a frame: the code, the address, the data. A byte that the frame lacks reads 0.
use Rattle.std.specs.Prelude.{ℕ, zero, suc, ◌+◌, ◌*◌, ◌-◌, ◌%◌, ◌^◌, List, [], ◌∷◌, get_or, take, drop}
use Rattle.codes.specs.Part.{Part}
use Rattle.codes.specs.Instructions.{decode}
use Rattle.latch.specs.Latches.{latched, no_latch}
use Rattle.latch.specs.declared.Latch.{Latch}
use Rattle.codes.specs.declared.Instruction.{Instruction}

abbrev pub instruction : Part → List ℕ → Instruction
instruction P s = decode P (get_or s 0 0)

-- the first k address bytes, high byte first, each in its place
abbrev pub address_to : Part → List ℕ → ℕ → ℕ
address_to P s zero = 0
address_to P s (suc k) = (address_to P s k + get_or s (suc k) 0 * 256 ^ (P.address_bytes - suc k)) % P.size

abbrev pub address : Part → List ℕ → ℕ
address P s = address_to P s P.address_bytes

-- what follows the address
abbrev pub payload : Part → List ℕ → List ℕ
payload P s = drop P.address_bytes (drop 1 s)

-- data byte i goes to the page's cell (start offset + i) mod page; the latest byte for a cell wins
unfoldable pub latched_from : Part → ℕ → List ℕ → Latch → Latch
latched_from P i [] l = l
latched_from P i (v ∷ vs) l = latched_from P (suc i) vs (latched (i % P.page) v l)

abbrev pub written : Part → List ℕ → Latch
written P s = latched_from P (address P s % P.page) (payload P s) no_latch

-- bytes latched from an address on, as far as its page goes
abbrev pub latched_up : Part → ℕ → List ℕ → Latch
latched_up P a vs = latched_from P (a % P.page) (take (P.page - a % P.page) vs) no_latch
