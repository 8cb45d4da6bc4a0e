-- The number of blank cells that the record keeps: that it is right, that it is counted afresh, and records that are
-- equal but for it.
use Rattle.std.specs.Prelude.{◌≡◌, ℕ, List, length, ◌==◌}
use Rattle.laws.specs.Pick.{pick}
use Rattle.codes.specs.Part.{Part}
use Rattle.blanks.specs.Blanks.{blanks}
use Rattle.chip.specs.Records.{with_blank}
use Rattle.chip.specs.declared.Core.{Core}

-- the number is right for a memory
abbrev pub Counted : Core → List ℕ → Type 0
Counted c m = c.blank ≡ blanks m

-- the number counted afresh, of a memory of the part's length
abbrev pub counted : Part → List ℕ → Core → Core
counted P m c = pick (length m == P.size) (with_blank (blanks m) c) c

-- equal but for the number
abbrev pub EqualBut : Core → Core → Type 0
EqualBut c d = with_blank 0 c ≡ with_blank 0 d
