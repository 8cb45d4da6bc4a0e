-- Of records that are equal but for the number of blank cells a frame with readings inside gives what is equal but for it: the call's answer, record,
-- memory, identification page and output, and any list of such frames, of readings and of supply cuts.
use Rattle.std.specs.Prelude.{Err, Ok}
use mathlib.Core.Path.{◌≡◌, refl, ap, ap₂, subst, fun_ext, ◌∙◌}
use mathlib.Core.Bool.{Bool, true, false, ◌&&◌}
use mathlib.Core.List.{List, [], ◌∷◌}
use Prim.Native.Nat.{ℕ, suc, ◌/◌}
use lib.Dec.{eqb, leb}
use lib.ListN.{length, take}
use Rattle.laws.specs.Pick.{pick}
use Rattle.codes.specs.Part.{Part}
use Rattle.codes.specs.Refusals.{is_done, no_refusal}
use Rattle.codes.specs.Refusals.{Outcome}
use Rattle.codes.specs.declared.Refusal.TheVariants.{MemoryLength, RecordRange, FrameLength, BitCount, OutputLength}
use Rattle.chip.specs.declared.Core.{Core}
use Rattle.chip.specs.Lents.{Lent}
use Rattle.chip.specs.Records.{running, status, lock_byte, waits_page, waits_identification}
use Rattle.chip.specs.Blanks.{EqualBut}
use Rattle.chip.specs.Time.{lent_fits}
use Rattle.cuts.specs.Cuts.{cut_memory, cut_identification}
use Rattle.cuts.proofs.Leaves.{cut_equal_but, cut_cells_equal}
use Rattle.fields.specs.Bytes.{instruction}
use Rattle.fields.specs.Counts.{bits_fit, longest_frame}
use Rattle.shown.specs.Shown.{output, undriven}
use Rattle.frames.specs.Answers.{frame_reply}
use Rattle.frames.specs.Play.{FrameBench, acted}
use Rattle.frames.specs.Play as plain
use Rattle.timed_frames.specs.declared.Mode.{Mode}
use Rattle.timed_frames.specs.Schedules.{due, places_fit, passed, bench_at}
use Rattle.timed_frames.specs.InTime.{loaded_at, ran_in, sights_in, last_of, left_by}
use Rattle.timed_theorems.specs.Acts.{TimedAct, send, reading, cut, cut_bench, acted_all_in_time}
use Rattle.timed_frames.specs.Answers.{in_time_outcome, in_time_left, given, framed_in_time, output_in_time}
use Rattle.stores.specs.Blind.{Alike, FrameBenchEqualBut}
use Rattle.stores.proofs.BlindFrames.{ranges_blind, after_blind, acted_blind}

-- ---- readings in a row, and a frame with readings inside

module _ (P : Part) where
  passed_blind : (ts : List ℕ) (b d : FrameBench) → FrameBenchEqualBut b d → FrameBenchEqualBut (passed P ts b) (passed P ts d)
  unfolding passed
  passed_blind [] b d e = e
  passed_blind (t ∷ ts) b d e =
      passed_blind ts (acted P (plain.reading t) b) (acted P (plain.reading t) d) (acted_blind P (plain.reading t) b d e)

  module _ (ps ts : List ℕ) (b d : FrameBench) (e : FrameBenchEqualBut b d) where
    bench_at_blind : (k : ℕ) → FrameBenchEqualBut (bench_at P ps ts b k) (bench_at P ps ts d k)
    bench_at_blind k = passed_blind (take (due k ps) ts) b d e

    ran_blind : ran_in P ps ts b ≡ ran_in P ps ts d
    ran_blind = ap running (bench_at_blind 1).core

    sights_blind : (o : Mode) → sights_in P ps ts b o ≡ sights_in P ps ts d o
    sights_blind o =
        let first = bench_at_blind 1 in
        let seen : ◌≡◌ {A = ℕ → ℕ} (λ j. status (bench_at P ps ts b (loaded_at o (suc j))).core) (λ j. status (bench_at P ps ts d (loaded_at o (suc j))).core) =
        fun_ext (λ j. ap status (bench_at_blind (loaded_at o (suc j))).core) in
        λ k. record { status = seen k; lock = ap lock_byte first.core k; memory = first.memory k; identification = first.identification k }

    pub left_by_blind : (w : Bool) (s : List ℕ) (n : ℕ) → FrameBenchEqualBut (left_by P ps ts b w s n) (left_by P ps ts d w s n)
    left_by_blind w s n =
        let last = bench_at_blind (suc (n / 8)) in
        record {
          core = after_blind P ran_blind w (last_of P ps ts b n).core (last_of P ps ts d n).core s n last.core;
          memory = last.memory;
          identification = last.identification;
        }

  pub timed_acts_blind : (acts : List TimedAct) (b d : FrameBench) → FrameBenchEqualBut b d
      → FrameBenchEqualBut (acted_all_in_time P acts b) (acted_all_in_time P acts d)
  timed_acts_blind [] b d e = e
  timed_acts_blind (send w o s n ps ts ∷ acts) b d e =
      timed_acts_blind acts (left_by P ps ts b w s n) (left_by P ps ts d w s n) (left_by_blind ps ts b d e w s n)
  timed_acts_blind (reading t ∷ acts) b d e =
      timed_acts_blind acts (acted P (plain.reading t) b) (acted P (plain.reading t) d) (acted_blind P (plain.reading t) b d e)
  timed_acts_blind (cut h ∷ acts) b d e =
      timed_acts_blind acts (cut_bench P h b) (cut_bench P h d)
      (record {
        core = cut_equal_but P h b.core d.core e.core b.memory;
        memory = cut_cells_equal waits_page P h b.core d.core e.core b.memory ∙ ap (cut_memory P h d.core) e.memory;
        identification =
            cut_cells_equal waits_identification P h b.core d.core e.core b.identification
            ∙ ap (cut_identification P h d.core) e.identification;
      })

-- ---- the call

pick_bench_blind : (t : Bool) (b d b' d' : FrameBench) → FrameBenchEqualBut b d → FrameBenchEqualBut b' d'
    → FrameBenchEqualBut (pick t b b') (pick t d d')
unfolding pick
pick_bench_blind true b d b' d' e k = e
pick_bench_blind false b d b' d' e k = k

module _ (P : Part) (c d : Core) (a : Alike P c d) (m : Lent) (w : Bool) (s : List ℕ) (n : ℕ) (ps ts : List ℕ) where
  given_blind : FrameBenchEqualBut (given c m) (given d m)
  given_blind = record { core = a.same; memory = refl; identification = refl }

  in_time_outcome_blind : (room : ℕ) → in_time_outcome P c m s n ps ts room ≡ in_time_outcome P d m s n ps ts room
  in_time_outcome_blind room =
      ap (λ (r : Bool). pick (lent_fits P (length m.memory) (length m.identification)) (pick r
      (pick (leb (length s) (longest_frame P)) (pick (bits_fit (length s) n && places_fit n ps ts)
      (pick (eqb room (length s)) no_refusal (Err OutputLength)) (Err BitCount))
      (Err FrameLength)) (Err RecordRange)) (Err MemoryLength))
      (ranges_blind P c d a)

  -- its answer
  pub timed_frame_blind : (room : ℕ) → (framed_in_time P c m w s n ps ts room).answer ≡ (framed_in_time P d m w s n ps ts room).answer
  unfolding framed_in_time
  timed_frame_blind room =
      ap₂ (λ (o : Outcome) (r : Bool). frame_reply o (undriven P (instruction P s) r n)) (in_time_outcome_blind room)
      (ran_blind P ps ts (given c m) (given d m) given_blind)

  -- the record but for the number, the memory and the identification page
  pub timed_left_blind : (room : ℕ) → FrameBenchEqualBut (in_time_left P c m w s n ps ts room) (in_time_left P d m w s n ps ts room)
  unfolding in_time_left
  timed_left_blind room =
      subst (λ (o : Outcome). FrameBenchEqualBut (pick (is_done (in_time_outcome P c m s n ps ts room)) (left_by P ps ts (given c m) w s n) (given c m))
      (pick (is_done o) (left_by P ps ts (given d m) w s n) (given d m))) (in_time_outcome_blind room)
      (pick_bench_blind (is_done (in_time_outcome P c m s n ps ts room)) (left_by P ps ts (given c m) w s n) (left_by P ps ts (given d m) w s n) (given c m)
      (given d m) (left_by_blind P ps ts (given c m) (given d m) given_blind w s n) given_blind)

  pub timed_core_blind : (room : ℕ) → EqualBut (framed_in_time P c m w s n ps ts room).core (framed_in_time P d m w s n ps ts room).core
  unfolding framed_in_time
  timed_core_blind room = (timed_left_blind room).core

  -- its output
  pub timed_output_blind : (o : Mode) (out : List ℕ) → output_in_time P c m o s n ps ts out ≡ output_in_time P d m o s n ps ts out
  unfolding output_in_time
  timed_output_blind o out =
      let b = given c m in
      let x = given d m in
      λ k. pick (is_done (in_time_outcome_blind (length out) k))
      (output P (ran_blind P ps ts b x given_blind k) (sights_blind P ps ts b x given_blind o k) s n) out
