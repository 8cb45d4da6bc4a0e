-- Over a frame with readings inside, any list of them and the public call: every record handed back is inside the ranges, what is lent keeps its length, and
-- the part stays; by what a reading and a deselect keep.
use Prim.Native.Nat.{ℕ}
use mathlib.Core.Bool.{Bool}
use mathlib.Core.List.{List}
use mathlib.Core.Path.{◌≡◌, refl, ap, ◌∙◌}
use lib.ListN.{length}
use Rattle.codes.specs.Part.{Part}
use Rattle.codes.proofs.Sound.{Sound}
use Rattle.chip.specs.Cells.{Cells, memory_cells, identification_cells, theirs}
use Rattle.chip.specs.Lents.{Lent}
use Rattle.chip.specs.declared.Core.{Core}
use Rattle.chip.proofs.Within.{Within}
use Rattle.chip.proofs.Recounts.{timed_in_within}
use Rattle.cuts.specs.Cuts.{cut_cells}
use Rattle.cuts.specs.declared.Choice.{Choice}
use Rattle.cuts.proofs.Leaves.{cut_within, cut_length, cut_part}
use Rattle.frames.specs.Play.{reading, FrameBench, lent_cells}
use Rattle.frames.proofs.Kept.{after_within}
use Rattle.frames.proofs.PartKept.{after_part_law, acted_part}
use Rattle.timed_frames.specs.InTime.{left_by}
use Rattle.timed_frames.specs.Answers.{in_time_left, framed_in_time, given}
use Rattle.timed_frames.proofs.Passed.{read_length}
use Rattle.timed_theorems.specs.Acts.{TimedAct, cut_bench, acted_all_in_time}
use Rattle.timed_theorems.proofs.Keeping.{deselected, Keeps, left_by_keeps, acted_all_in_time_keeps, in_time_left_keeps}

-- ---- the ranges

module _ (P : Part) (sound : Sound P) where
  within_kept : Keeps P (λ b. Within P b.core)
  within_kept =
      record {
        reads = λ t b k. timed_in_within P t b.core b.memory k;
        deselects = λ ran w s n b h k. after_within P sound w b.core s n ran h k;
        cuts = λ h b k. cut_within P h b.core b.memory k;
      }

  pub left_by_within : (ps ts : List ℕ) (b : FrameBench) (w : Bool) (s : List ℕ) (n : ℕ) → Within P b.core → Within P (left_by P ps ts b w s n).core
  left_by_within = left_by_keeps within_kept

  pub acted_all_in_time_within : (acts : List TimedAct) (b : FrameBench) → Within P b.core → Within P (acted_all_in_time P acts b).core
  acted_all_in_time_within = acted_all_in_time_keeps within_kept

  -- the public call, refused or not
  pub framed_in_time_within : (c : Core) (m : Lent) (w : Bool) (s : List ℕ) (n : ℕ) (ps ts : List ℕ) (room : ℕ) → Within P c
      → Within P (framed_in_time P c m w s n ps ts room).core
  unfolding framed_in_time
  framed_in_time_within = in_time_left_keeps within_kept

-- ---- the lengths of the memory and of the identification page

pub deselected_cells : (k : Cells) (P : Part) (ran w : Bool) (s : List ℕ) (n : ℕ) (b : FrameBench) → lent_cells k (deselected P ran w s n b) ≡ lent_cells k b
deselected_cells memory_cells P ran w s n b = refl
deselected_cells identification_cells P ran w s n b = refl

pub cut_lent : (k : Cells) (P : Part) (h : Choice) (b : FrameBench) → lent_cells k (cut_bench P h b) ≡ cut_cells (theirs k) P h b.core (lent_cells k b)
cut_lent memory_cells P h b = refl
cut_lent identification_cells P h b = refl

module _ (k : Cells) (P : Part) where
  length_kept : (long : ℕ) → Keeps P (λ b. length (lent_cells k b) ≡ long)
  length_kept long =
      record {
        reads = λ t b e. read_length k P t b ∙ e;
        deselects = λ ran w s n b h e. ap length (deselected_cells k P ran w s n b) ∙ e;
        cuts = λ h b e. ap length (cut_lent k P h b) ∙ cut_length P h b.core (theirs k) (lent_cells k b) ∙ e;
      }

  pub left_by_length : (ps ts : List ℕ) (b : FrameBench) (w : Bool) (s : List ℕ) (n : ℕ)
      → length (lent_cells k (left_by P ps ts b w s n)) ≡ length (lent_cells k b)
  left_by_length ps ts b w s n = left_by_keeps (length_kept _) ps ts b w s n refl

  pub acted_all_in_time_length : (acts : List TimedAct) (b : FrameBench) → length (lent_cells k (acted_all_in_time P acts b)) ≡ length (lent_cells k b)
  acted_all_in_time_length acts b = acted_all_in_time_keeps (length_kept _) acts b refl

  pub in_time_left_length : (c : Core) (m : Lent) (w : Bool) (s : List ℕ) (n : ℕ) (ps ts : List ℕ) (room : ℕ)
      → length (lent_cells k (in_time_left P c m w s n ps ts room)) ≡ length (lent_cells k (given c m))
  in_time_left_length c m w s n ps ts room = in_time_left_keeps (length_kept _) c m w s n ps ts room refl

-- ---- the part

module _ (P : Part) where
  part_kept : (part : ℕ) → Keeps P (λ b. b.core.part ≡ part)
  part_kept part =
      record {
        reads = λ t b e. acted_part P (reading t) b ∙ e;
        deselects = λ ran w s n b h e. after_part_law P ran w b.core s n ∙ e;
        cuts = λ h b e. cut_part P h b.core ∙ e;
      }

  pub acted_all_in_time_part : (acts : List TimedAct) (b : FrameBench) → (acted_all_in_time P acts b).core.part ≡ b.core.part
  acted_all_in_time_part acts b = acted_all_in_time_keeps (part_kept _) acts b refl

  pub framed_in_time_part : (c : Core) (m : Lent) (w : Bool) (s : List ℕ) (n : ℕ) (ps ts : List ℕ) (room : ℕ)
      → (framed_in_time P c m w s n ps ts room).core.part ≡ c.part
  unfolding framed_in_time
  framed_in_time_part c m w s n ps ts room = in_time_left_keeps (part_kept _) c m w s n ps ts room refl
