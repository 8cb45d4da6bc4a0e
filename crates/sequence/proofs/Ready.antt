-- A device that no call refuses, and that whatever is played on it leaves one, for any sound part.
use mathlib.Core.Path.{◌≡◌, refl, ap, ◌∙◌}
use mathlib.Core.List.{List, [], ◌∷◌}
use Prim.Native.Nat.{ℕ}
use lib.ListN.{length}
use Rattle.codes.specs.Part.{Part, part_of}
use Rattle.chip.specs.Records.{own_part, waits_identification}
use Rattle.chip.specs.declared.Core.{Core}
use Rattle.chip.proofs.Within.{within, in_ranges_law}
use Rattle.chip.proofs.Passing.{timed_length}
use Rattle.codes.proofs.Sound.{Sound}
use Rattle.frames.specs.Play.{Act, frame, reading, FrameBench, acted, acted_all, frame_bench}
use Rattle.frames.proofs.CellRule.{acted_all_length, acted_all_within}
use Rattle.frames.proofs.PartKept.{acted_all_part}
use Rattle.sequence.specs.Ready.{Ready}

-- a record, a memory and an identification page, each known
pub bench_of_law : {c : Core} {m i : List ℕ} (d : FrameBench) → c ≡ d.core → m ≡ d.memory → i ≡ d.identification → frame_bench c m i ≡ d
bench_of_law d p q r = rw (p, q, r) refl

-- the identification page keeps its size, whatever is played
pub acted_all_page : (P : Part) (acts : List Act) (d : FrameBench) → length (acted_all P acts d).identification ≡ length d.identification
acted_all_page P [] d = refl
acted_all_page P (frame w s n ∷ acts) d = acted_all_page P acts (acted P (frame w s n) d)
acted_all_page P (reading t ∷ acts) d =
    acted_all_page P acts (acted P (reading t) d) ∙ timed_length waits_identification P t d.core d.identification

-- whatever is played, the record is of the part that it was
pub own_acted : (P : Part) (acts : List Act) (d : FrameBench) {c : Core} → c ≡ (acted_all P acts d).core → own_part c ≡ own_part d.core
own_acted P acts d e = ap own_part e ∙ ap part_of (acted_all_part P acts d)

module _ (P : Part) (sound : Sound P) where
  pub ready_acted_all : (acts : List Act) (d : FrameBench) → Ready P d → Ready P (acted_all P acts d)
  ready_acted_all acts d r =
      record {
        whole = acted_all_length P acts d ∙ r.whole;
        page = acted_all_page P acts d ∙ r.page;
        ranges = in_ranges_law P _ (acted_all_within P sound acts d (within P _ r.ranges));
      }
