-- What acts told, and the bench that they leave: its record is of the same part, and its slices are as long as they were.
use Rattle.std.proofs.Common.{◌≡◌, ℕ, List, length, ap, ◌∙◌}
use Rattle.codes.specs.Part.{Part}
use Rattle.chip.specs.Records.{own_part}
use Rattle.frames.specs.Play.{Act, FrameBench, acted_all, frame_bench}
use Rattle.frames.proofs.CellRule.{acted_all_length}
use Rattle.driver.specs.Told.{Told}
use Rattle.driver.specs.declared.waiting.Waited.{Waited}
use Rattle.sequence.proofs.Ready.{bench_of_law, acted_all_page, own_acted}

pub record Left (P : Part) (acts : List Act) (d : FrameBench) (r : Waited) (m p : List ℕ) : Type 0 where
  pub told : Told P acts d r m p
  pub leaves : frame_bench r.core m p ≡ acted_all P acts d
  pub stays : own_part r.core ≡ P
  pub whole : length m ≡ length d.memory
  pub page : length p ≡ length d.identification

pub left : (P : Part) (acts : List Act) (d : FrameBench) (r : Waited) (m p : List ℕ) → own_part d.core ≡ P → Told P acts d r m p
    → Left P acts d r m p
left P acts d r m p same t =
    record {
      told = t;
      leaves = bench_of_law (acted_all P acts d) t.0 t.1.1.1.0 t.1.1.1.1;
      stays = own_acted P acts d t.0 ∙ same;
      whole = ap length t.1.1.1.0 ∙ acted_all_length P acts d;
      page = ap length t.1.1.1.1 ∙ acted_all_page P acts d;
    }
