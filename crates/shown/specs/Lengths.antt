-- What `show` writes for every input. No public promise speaks of it: a frame that is not refused is shown, and then
-- these lengths go together.
use Rattle.std.specs.Prelude.{ℕ, Bool, ◌&&◌, List, length, eqb, leb}
use Rattle.laws.specs.Pick.{pick}
use Rattle.codes.specs.Part.{Part}
use Rattle.fields.specs.Counts.{bits_fit, longest_frame}
use Rattle.shown.specs.Shown.{Sights, output}

-- the lengths of a memory, of an identification page, of a frame's bytes with n bits, and of an output
abbrev pub lengths_fit : Part → ℕ → ℕ → ℕ → ℕ → ℕ → Bool
lengths_fit P size cells len n room =
    eqb size P.size && eqb cells P.page && leb len (longest_frame P) && bits_fit len n && eqb room len

-- the frame's output where they go together, else what stood there
abbrev pub shown_in : Part → Bool → Sights → List ℕ → ℕ → List ℕ → List ℕ
shown_in P ran v s n out =
    pick (lengths_fit P (length v.memory) (length v.identification) (length s) n (length out)) (output P ran v s n)
    out
