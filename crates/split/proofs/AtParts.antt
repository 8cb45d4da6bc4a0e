-- The split's theorem at every sound part, and at the row of any number: the parts of a run carry its bytes, in order, each once.
use Prim.Native.Nat.{ℕ, ◌+◌, ◌≤◌}
use mathlib.Core.Path.{◌≡◌}
use mathlib.Core.List.{List}
use lib.ListN.{length}
use Rattle.codes.specs.Part.{Part, part_of}
use Rattle.codes.proofs.Sound.{Sound, sound_of}
use Rattle.split.specs.Split.{split_parts}
use Rattle.split.specs.Pieces.{pieces}
use Rattle.split.proofs.Whole.{whole_asked}

abbrev pub Covers : Part → Type 0
Covers P = (a : ℕ) (bytes : List ℕ) → a + length bytes ≤ P.size
    → pieces P.size P.page a bytes (split_parts P.size P.page a (length bytes) 0) ≡ bytes

pub covers : {P : Part} → Sound P → Covers P
covers {P} s a bytes h = whole_asked P.size P.page a bytes s.page_some h

pub covers_of : (n : ℕ) → Covers (part_of n)
covers_of n = covers (sound_of n)
