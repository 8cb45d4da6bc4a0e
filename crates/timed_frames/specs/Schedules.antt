-- Clock readings inside a frame, as document 02, Item 12, has them: a list of byte positions and a list of readings.
-- Position k is after k whole bytes: 0 after select, before the first edge.
use Rattle.std.specs.Prelude.{ℕ, suc, ◌/◌, Bool, true, ◌&&◌, List, [], ◌∷◌, eqb, leb, ltb, length, take}
use Rattle.laws.specs.Pick.{pick}
use Rattle.codes.specs.Part.{Part}
use Rattle.frames.specs.Play.{reading, FrameBench, acted}

-- ---- lists that fit a frame of n bits

-- from low on no position falls, and none passes the bound
unfoldable pub rising : ℕ → ℕ → List ℕ → Bool
rising low most [] = true
rising low most (p ∷ ps) = leb low p && leb p most && rising p most ps

-- as many positions as readings, none beyond the whole bytes of the bit count
abbrev pub places_fit : ℕ → List ℕ → List ℕ → Bool
places_fit n ps ts = eqb (length ps) (length ts) && rising 0 (n / 8) ps

-- ---- the bench along the way

-- how many come before position k: the first of the list, since no position falls
unfoldable pub due : ℕ → List ℕ → ℕ
due k [] = 0
due k (p ∷ ps) = pick (ltb p k) (suc (due k ps)) 0

-- readings, one after the other
unfoldable pub passed : Part → List ℕ → FrameBench → FrameBench
passed P [] b = b
passed P (t ∷ ts) b = passed P ts (acted P (reading t) b)

-- after the readings at positions below k
abbrev pub bench_at : Part → List ℕ → List ℕ → FrameBench → ℕ → FrameBench
bench_at P ps ts b k = passed P (take (due k ps) ts) b
