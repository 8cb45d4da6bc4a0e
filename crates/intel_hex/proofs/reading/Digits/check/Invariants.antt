-- The invariant: what the text says after the records so far is all that is left of what it says.
use mathlib.Core.Path.{◌≡◌}
use Prim.Native.Nat.{◌+◌, ◌*◌, ◌-◌, ◌≤◌}
use lib.ListN.{length, drop}
use Rattle.codes.specs.Part.{m95512}
use Rattle.intel_hex.specs.Reading.{parted}
use Rattle.intel_hex.proofs.reading.Digits.check.Given as goal

abbrev pub invariant-loop-lines : goal.invariant-loop-lines
invariant-loop-lines l =
    (l.at ≤ length l.text) × (12 * l.lines ≤ l.at) × ((parted m95512 (drop l.at l.text)).rest ≡ (parted m95512 l.text).rest)
    × (l.lines + length (parted m95512 (drop l.at l.text)).records ≡ length (parted m95512 l.text).records)

abbrev pub decreases-loop-lines : goal.decreases-loop-lines
decreases-loop-lines l =
    length l.text - l.at
