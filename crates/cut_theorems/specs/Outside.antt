-- The cells that a run of bytes does not go to.
use Rattle.std.specs.Prelude.{ℕ, ◌+◌, ◌<◌, ◌≤◌, ◌⊎◌}

-- cell j is none of the n cells from a on: it is below them or past them
abbrev pub Outside : ℕ → ℕ → ℕ → Type 0
Outside a n j = (j < a) ⊎ (a + n ≤ j)
