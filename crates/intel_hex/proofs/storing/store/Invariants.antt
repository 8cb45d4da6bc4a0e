-- The invariant: what the text says after the records so far, laid over the memory so far, is all of it laid over the first.
use mathlib.Core.Path.{◌≡◌}
use Prim.Native.Nat.{◌-◌, ◌≤◌}
use lib.ListN.{length, drop}
use Rattle.codes.specs.Part.{m95512}
use Rattle.intel_hex.specs.Reading.{parted, laid_records}
use Rattle.intel_hex.proofs.storing.store.Given as goal

abbrev pub invariant-loop-at : goal.invariant-loop-at
invariant-loop-at l =
    (l.at ≤ l.end) × (length l.memory ≡ m95512.size) × ((parted m95512 (drop l.at l.text)).rest ≡ (parted m95512 l.text).rest)
    × (laid_records (parted m95512 (drop l.at l.text)).records l.memory ≡ laid_records (parted m95512 l.text).records l.initial.memory)

abbrev pub decreases-loop-at : goal.decreases-loop-at
decreases-loop-at l =
    l.end - l.at
