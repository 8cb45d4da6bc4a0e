-- A list with s in it from an index on: what a run of writes leaves.
use Rattle.std.specs.Prelude.{ℕ, ◌+◌, List, length, leb}
use Rattle.laws.specs.Pick.{pick}
use Rattle.laws.specs.Spliced.{spliced}

unfoldable pub put : List ℕ → ℕ → List ℕ → List ℕ
put d at s = spliced d s at (length s)

-- what a call that asks for so many bytes leaves of the lent bytes d: s from an index on; or d as it is, where it has
-- fewer from there on
abbrev pub put_if_room : (asked : ℕ) → List ℕ → ℕ → List ℕ → List ℕ
put_if_room asked d at s = pick (leb (at + asked) (length d)) (put d at s) d

-- the index after what it wrote
abbrev pub end_if_room : (asked : ℕ) → List ℕ → ℕ → List ℕ → ℕ
end_if_room asked d at s = pick (leb (at + asked) (length d)) (at + length s) at
