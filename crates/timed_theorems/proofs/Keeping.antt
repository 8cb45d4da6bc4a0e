-- What every reading and every cut keeps, and every deselect after which a cycle runs only if it ran at the eighth edge, is kept by a frame with readings
-- inside, by any list of them, and by the public call.
use Prim.Native.Nat.{ℕ, suc, ◌/◌}
use mathlib.Core.Bool.{Bool, true}
use mathlib.Core.List.{List, [], ◌∷◌}
use mathlib.Core.Path.{◌≡◌}
use lib.ListN.{take}
use Rattle.laws.specs.Pick.{pick_case}
use Rattle.codes.specs.Part.{Part}
use Rattle.codes.specs.Refusals.{is_done}
use Rattle.chip.specs.Lents.{Lent}
use Rattle.chip.specs.Records.{running}
use Rattle.chip.specs.declared.Core.{Core}
use Rattle.cuts.specs.declared.Choice.{Choice}
use Rattle.frames.specs.After.{after}
use Rattle.frames.specs.Play.{FrameBench, frame_bench, acted}
use Rattle.frames.specs.Play as plain
use Rattle.timed_frames.specs.Schedules.{due}
use Rattle.timed_frames.specs.InTime.{ran_in, last_of, left_by}
use Rattle.timed_frames.specs.Answers.{in_time_outcome, in_time_left, given}
use Rattle.timed_frames.proofs.Passed.{passed_keeps}
use Rattle.timed_theorems.specs.Acts.{TimedAct, send, reading, cut, cut_bench, acted_all_in_time}
use Rattle.timed_theorems.proofs.Ended.{last_ran}

-- what deselect leaves of a bench
abbrev pub deselected : Part → Bool → Bool → List ℕ → ℕ → FrameBench → FrameBench
deselected P ran w s n b = frame_bench (after P ran w b.core s n) b.memory b.identification

pub record Keeps (P : Part) (K : FrameBench → Type 0) : Type 0 where
  pub reads : (t : ℕ) (b : FrameBench) → K b → K (acted P (plain.reading t) b)
  pub deselects : (ran w : Bool) (s : List ℕ) (n : ℕ) (b : FrameBench) → (running b.core ≡ true → ran ≡ true) → K b → K (deselected P ran w s n b)
  pub cuts : (h : Choice) (b : FrameBench) → K b → K (cut_bench P h b)

module _ {P : Part} {K : FrameBench → Type 0} (keeps : Keeps P K) where
  pub left_by_keeps : (ps ts : List ℕ) (b : FrameBench) (w : Bool) (s : List ℕ) (n : ℕ) → K b → K (left_by P ps ts b w s n)
  left_by_keeps ps ts b w s n k =
      let last = passed_keeps P K keeps.reads (take (due (suc (n / 8)) ps) ts) b k in
      keeps.deselects (ran_in P ps ts b) w s n (last_of P ps ts b n) (last_ran P ps ts b n) last

  pub acted_all_in_time_keeps : (acts : List TimedAct) (b : FrameBench) → K b → K (acted_all_in_time P acts b)
  acted_all_in_time_keeps [] b k = k
  acted_all_in_time_keeps (send w o s n ps ts ∷ acts) b k = acted_all_in_time_keeps acts (left_by P ps ts b w s n) (left_by_keeps ps ts b w s n k)
  acted_all_in_time_keeps (reading t ∷ acts) b k = acted_all_in_time_keeps acts (acted P (plain.reading t) b) (keeps.reads t b k)
  acted_all_in_time_keeps (cut h ∷ acts) b k = acted_all_in_time_keeps acts (cut_bench P h b) (keeps.cuts h b k)

  -- refused or not
  pub in_time_left_keeps : (c : Core) (m : Lent) (w : Bool) (s : List ℕ) (n : ℕ) (ps ts : List ℕ) (room : ℕ) → K (given c m)
      → K (in_time_left P c m w s n ps ts room)
  unfolding in_time_left
  in_time_left_keeps c m w s n ps ts room k =
      pick_case K (is_done (in_time_outcome P c m s n ps ts room)) (λ e. left_by_keeps ps ts (given c m) w s n k) (λ e. k)
