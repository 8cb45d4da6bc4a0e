-- Frames given by their fields, whole bytes with W high: WREN, and a WRITE of some bytes from an address on.
use Rattle.std.specs.Prelude.{ℕ, zero, suc, ◌+◌, ◌*◌, ◌/◌, ◌%◌, ◌^◌, Bool, true, ◌&&◌, List, [], ◌∷◌, ◌++◌, length, leb, ltb}
use Rattle.laws.specs.Pick.{pick}
use Rattle.codes.specs.Part.{Part}
use Rattle.codes.specs.Instructions.{wren_code, write_code}
use Rattle.chip.specs.Records.{running}
use Rattle.chip.specs.declared.Core.{Core}
use Rattle.frames.specs.After.{after}

-- the record that all bits of some bytes leave
abbrev pub after_all : Part → Core → List ℕ → Core
after_all P c s = after P (running c) true c s (8 * length s)

abbrev pub wren_bytes : List ℕ
wren_bytes = wren_code ∷ []

-- the low k bytes of an address, high byte first
abbrev pub address_bytes : ℕ → ℕ → List ℕ
address_bytes zero a = []
address_bytes (suc k) a = (a / 256 ^ k % 256) ∷ address_bytes k a

abbrev pub write_bytes : Part → ℕ → List ℕ → List ℕ
write_bytes P a bytes = write_code ∷ address_bytes P.address_bytes a ++ bytes

-- so many bytes from a cell of the memory on stay in its page
abbrev pub in_page : Part → ℕ → ℕ → Bool
in_page P a n = ltb a P.size && leb (a % P.page + n) P.page

-- a WRITE of bytes that do; others are not sent
abbrev pub after_write : Part → Core → ℕ → List ℕ → Core
after_write P c a bytes = pick (in_page P a (length bytes)) (after_all P c (write_bytes P a bytes)) c
