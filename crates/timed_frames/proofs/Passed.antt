-- Readings in a row: what each of them keeps they keep; so the record stays inside the ranges, and what is lent keeps its length.
use Prim.Native.Nat.{ℕ}
use mathlib.Core.List.{List, [], ◌∷◌}
use mathlib.Core.Path.{◌≡◌, refl, ap, ◌∙◌}
use lib.ListN.{length}
use Rattle.codes.specs.Part.{Part}
use Rattle.chip.specs.Cells.{Cells, theirs}
use Rattle.chip.proofs.Within.{Within}
use Rattle.chip.proofs.Passing.{timed_length}
use Rattle.chip.proofs.Recounts.{timed_in_within}
use Rattle.frames.specs.Play.{reading, FrameBench, acted, lent_cells}
use Rattle.frames.proofs.CellRule.{read_cells_law}
use Rattle.timed_frames.specs.Schedules.{passed}

module _ (P : Part) where
  pub passed_keeps : (K : FrameBench → Type 0) → ((t : ℕ) (b : FrameBench) → K b → K (acted P (reading t) b))
      → (ts : List ℕ) (b : FrameBench) → K b → K (passed P ts b)
  unfolding passed
  passed_keeps K reads [] b k = k
  passed_keeps K reads (t ∷ ts) b k = passed_keeps K reads ts (acted P (reading t) b) (reads t b k)

  pub passed_within : (ts : List ℕ) (b : FrameBench) → Within P b.core → Within P (passed P ts b).core
  passed_within = passed_keeps (λ b. Within P b.core) (λ t b k. timed_in_within P t b.core b.memory k)

-- ---- the lent cells k: the memory's, or the identification page's

pub read_length : (k : Cells) (P : Part) (t : ℕ) (b : FrameBench) → length (lent_cells k (acted P (reading t) b)) ≡ length (lent_cells k b)
read_length k P t b = ap length (read_cells_law k P t b) ∙ timed_length (theirs k) P t b.core (lent_cells k b)

pub passed_length : (k : Cells) (P : Part) (ts : List ℕ) (b : FrameBench) → length (lent_cells k (passed P ts b)) ≡ length (lent_cells k b)
passed_length k P ts b = passed_keeps P (λ x. length (lent_cells k x) ≡ length (lent_cells k b)) (λ t x e. read_length k P t x ∙ e) ts b refl
