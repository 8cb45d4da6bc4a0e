-- What is taken of a text at once, at index i with the line h in hand: so many bytes; the line in hand after them; how
-- many lines end in them, one or none, and its event. No public promise speaks of it.
use Rattle.std.specs.Prelude.{ℕ, ◌+◌, ◌≤◌, ◌≡◌, List, [], ◌∷◌, ◌++◌, length, take}
use Rattle.lines.specs.declared.Line.{Line}
use Rattle.lines.specs.Reading.{read, found}

abbrev pub Takes : Line → List ℕ → ℕ → ℕ → Line → ℕ → ℕ → Type 0
Takes h x i bytes after lines event =
    (1 ≤ bytes) × (i + bytes ≤ length x) × (lines ≤ 1)
    × ((l : Line) → h ≡ read l (take i x) → after ≡ read l (take (i + bytes) x))
    × ((l : Line) → h ≡ read l (take i x) → found l (take i x) ++ take lines (event ∷ [])
    ≡ found l (take (i + bytes) x))
