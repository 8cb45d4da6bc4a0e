-- How long a frame may be, and which bit counts fit its bytes.
use Rattle.std.specs.Prelude.{ℕ, ◌+◌, ◌*◌, ◌-◌, Bool, ◌&&◌, eqb, leb}
use Rattle.laws.specs.Pick.{pick}
use Rattle.codes.specs.Part.{Part}

-- a bit count that fits: 0 for an empty slice, else from 8·length − 7 to 8·length
abbrev pub bits_fit : ℕ → ℕ → Bool
bits_fit len n = pick (eqb len 0) (eqb n 0) (leb (8 * len - 7) n && leb n (8 * len))

-- the longest frame: the memory's size and four bytes more
abbrev pub longest_frame : Part → ℕ
longest_frame P = P.size + 4
