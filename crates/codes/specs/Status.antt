-- The status byte, high bit first: SRWD 0 0 0 BP1 BP0 WEL WIP (004, table 5).
use Rattle.std.specs.Prelude.{ℕ, ◌+◌, ◌*◌, Bool}
-- a bit as a number, a flag or a level as a test, bit k of a byte
pub use Rattle.laws.specs.Flags.{bit, on}
pub use Rattle.laws.specs.Bits.{bit_of}

-- put together
abbrev pub status_byte : Bool → Bool → Bool → Bool → Bool → ℕ
status_byte srwd bp1 bp0 wel wip = 128 * bit srwd + 8 * bit bp1 + 4 * bit bp0 + 2 * bit wel + bit wip

-- only bits 7, 3 and 2 of a WRSR data byte count
abbrev pub writable : ℕ → ℕ
writable v = 128 * bit_of 7 v + 8 * bit_of 3 v + 4 * bit_of 2 v
