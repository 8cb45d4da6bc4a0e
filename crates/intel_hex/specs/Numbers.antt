-- What export and import answer, and its number.
use Rattle.std.specs.Prelude.{ℕ, Result}
use Rattle.codes.specs.Refusals.{refusal_number, number_by}
use Rattle.chip.specs.declared.Answered.{Answered}
use Rattle.intel_hex.specs.declared.HexError.{HexError}
use Rattle.intel_hex.specs.declared.HexError.TheVariants.{NotTaken, Refused}

-- nothing, or why it did nothing
abbrev pub HexAnswer : Type 0
HexAnswer = Result (Unit {0}) HexError

-- document 02's number of an error, and of an answer
abbrev pub hex_error_number : HexError → ℕ
hex_error_number NotTaken = 12
hex_error_number (Refused r) = refusal_number r

abbrev pub hex_number : HexAnswer → ℕ
hex_number = number_by hex_error_number

-- what import hands back
abbrev pub Imported : Type 0
Imported = Answered (Unit {0}) HexError
