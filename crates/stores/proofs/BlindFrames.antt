-- Of records that are equal but for the number of blank cells every rule of the record and of the frame model gives what is equal but for it: the ranges
-- (with both numbers inside theirs), the questions, a reading, a supply cut, a frame with its output, and any list of frames and readings.
use Rattle.std.specs.Prelude.{Err, Ok}
use mathlib.Core.Path.{◌≡◌, ap, ap₂, sym, ◌∙◌}
use mathlib.Core.Bool.{Bool, true, false}
use mathlib.Core.List.{List, [], ◌∷◌}
use Prim.Native.Nat.{ℕ}
use native.Mathlib.Omega.{arith}
use lib.Dec.{eqb, leb, ltb}
use lib.ListN.{length, get_or}
use Rattle.laws.specs.Pick.{pick, pick_ap}
use Rattle.codes.specs.Part.{Part}
use Rattle.codes.specs.Refusals.{is_done, no_refusal}
use Rattle.codes.specs.Verdicts.{is_executed}
use Rattle.codes.specs.Refusals.{Outcome}
use Rattle.codes.specs.declared.Refusal.TheVariants.{MemoryLength, RecordRange, FrameLength, BitCount, OutputLength, AddressRange}
use Rattle.chip.specs.declared.Core.{Core}
use Rattle.chip.specs.Records.{running, status, lock_byte, waits_page, waits_identification, with_blank}
use Rattle.chip.specs.Ranges.{in_ranges}
use Rattle.chip.specs.Questions.{lowest, protects, protected_from, protection}
use Rattle.chip.specs.Touched.{touched_answer}
use Rattle.chip.specs.Blanks.{EqualBut}
use Rattle.chip.specs.Time.{lent_fits, reading_outcome, clock_reading, clock_memory, clock_identification, timed_in, timed_memory, timed_identification}
use Rattle.chip.proofs.Recounts.{ranges_renumbered, effect_renumbered, timed_equal_but, timed_cells_equal}
use Rattle.fields.specs.Bytes.{instruction, address, written}
use Rattle.fields.specs.Counts.{bits_fit, longest_frame}
use Rattle.shown.specs.Shown.{sights, output, undriven}
use Rattle.frames.specs.After.{judged, executed, after}
use Rattle.frames.specs.Answers.{frame_outcome, frame_reply, framed, framed_output}
use Rattle.cuts.specs.Cuts.{cut_in, cut_answer, cut_memory_answer, cut_identification_answer}
use Rattle.cuts.specs.declared.Choice.{Choice}
use Rattle.cuts.proofs.Leaves.{cut_equal_but, cut_cells_equal}
use Rattle.frames.specs.Play.{Act, frame, reading, FrameBench, acted, acted_all}
use Rattle.stores.specs.Blind.{Alike, FrameBenchEqualBut}

-- ---- a choice of records by one test

pub pick_equal_but : (t : Bool) (c d c' d' : Core) → EqualBut c d → EqualBut c' d' → EqualBut (pick t c c') (pick t d d')
unfolding pick
pick_equal_but true c d c' d' e k = e
pick_equal_but false c d c' d' e k = k

-- ---- the record

module _ (P : Part) (c d : Core) (a : Alike P c d) where
  -- both inside the ranges, or both outside
  pub ranges_blind : in_ranges P c ≡ in_ranges P d
  ranges_blind =
      sym (ranges_renumbered P c 0 a.first (omega arith)) ∙ ap (in_ranges P) a.same ∙ ranges_renumbered P d 0 a.second (omega arith)

  -- the questions
  pub protected_from_blind : protected_from P c ≡ protected_from P d
  protected_from_blind =
      ap₂ (λ (r : Bool) (x : Core). pick r (Ok (lowest P x)) (Err RecordRange)) ranges_blind a.same

  pub protection_blind : (n : ℕ) → protection P c n ≡ protection P d n
  protection_blind n =
      ap₂ (λ (r : Bool) (x : Core). pick r (pick (ltb n P.size) (Ok (protects P x n)) (Err AddressRange)) (Err RecordRange))
      ranges_blind a.same

  pub touched_blind : touched_answer (in_ranges P c) c ≡ touched_answer (in_ranges P d) d
  touched_blind = ap₂ touched_answer ranges_blind a.same

  pub status_blind : status c ≡ status d
  status_blind = ap status a.same

  -- a reading: the outcome, what is lent, and the record but for the number
  module _ (t : ℕ) (m i : List ℕ) where
    outcome_blind : reading_outcome P c m i ≡ reading_outcome P d m i
    outcome_blind =
        ap (λ (r : Bool). pick (lent_fits P (length m) (length i)) (pick r no_refusal (Err RecordRange)) (Err MemoryLength))
        ranges_blind

    pub reading_outcome_blind : (clock_reading P t c m i).answer ≡ (clock_reading P t d m i).answer
    reading_outcome_blind = outcome_blind

    pub reading_blind : EqualBut (clock_reading P t c m i).core (clock_reading P t d m i).core
    reading_blind =
        pick_equal_but (is_done (reading_outcome P c m i)) (timed_in P t c m) (timed_in P t d m) c d (timed_equal_but P t c d a.same m) a.same
        ∙ ap (λ (o : Outcome). with_blank 0 (pick (is_done o) (timed_in P t d m) d)) outcome_blind

    pub reading_memory_blind : clock_memory P t c m i ≡ clock_memory P t d m i
    reading_memory_blind =
        ap₂ (λ (o : Outcome) (n : List ℕ). pick (is_done o) n m) outcome_blind (timed_cells_equal waits_page P t c d a.same m)

    pub reading_identification_blind : clock_identification P t c m i ≡ clock_identification P t d m i
    reading_identification_blind =
        ap₂ (λ (o : Outcome) (n : List ℕ). pick (is_done o) n i) outcome_blind (timed_cells_equal waits_identification P t c d a.same i)

    -- a supply cut
    pub cut_blind : (h : Choice) → EqualBut (cut_answer P h c m i).core (cut_answer P h d m i).core
    cut_blind h =
        pick_equal_but (is_done (reading_outcome P c m i)) (cut_in P h c m) (cut_in P h d m) c d (cut_equal_but P h c d a.same m) a.same
        ∙ ap (λ (o : Outcome). with_blank 0 (pick (is_done o) (cut_in P h d m) d)) outcome_blind

    pub cut_memory_blind : (h : Choice) → cut_memory_answer P h c m i ≡ cut_memory_answer P h d m i
    cut_memory_blind h = ap₂ (λ (o : Outcome) (n : List ℕ). pick (is_done o) n m) outcome_blind (cut_cells_equal waits_page P h c d a.same m)

    pub cut_identification_blind : (h : Choice) → cut_identification_answer P h c m i ≡ cut_identification_answer P h d m i
    cut_identification_blind h =
        ap₂ (λ (o : Outcome) (n : List ℕ). pick (is_done o) n i) outcome_blind (cut_cells_equal waits_identification P h c d a.same i)

-- ---- a frame

after_renumbered : (P : Part) (ran w : Bool) (c : Core) (s : List ℕ) (n k : ℕ) → after P ran w (with_blank k c) s n ≡ with_blank k (after P ran w c s n)
after_renumbered P ran w c s n k =
    let t = is_executed (judged P ran w c s n) in
    ap (λ (x : Core). pick t x (with_blank k c)) (effect_renumbered P (instruction P s) (address P s) (get_or s 1 0) (written P s) c k)
    ∙ sym (pick_ap (with_blank k) t (executed P c s) c)

-- whatever ran at the eighth edge
pub after_blind : (P : Part) {q r : Bool} → q ≡ r → (w : Bool) (c d : Core) (s : List ℕ) (n : ℕ) → EqualBut c d
    → EqualBut (after P q w c s n) (after P r w d s n)
after_blind P {q = q} {r = r} h w c d s n e =
    sym (after_renumbered P q w c s n 0) ∙ ap₂ (λ (t : Bool) (x : Core). after P t w x s n) h e ∙ after_renumbered P r w d s n 0

module _ (P : Part) (c d : Core) (a : Alike P c d) (m i : List ℕ) where
  frame_outcome_blind : (len n room : ℕ) → frame_outcome P c (length m) (length i) len n room ≡ frame_outcome P d (length m) (length i) len n room
  frame_outcome_blind len n room =
      ap (λ (r : Bool). pick (lent_fits P (length m) (length i)) (pick r
      (pick (leb len (longest_frame P)) (pick (bits_fit len n) (pick (eqb room len) no_refusal (Err OutputLength)) (Err BitCount))
      (Err FrameLength)) (Err RecordRange)) (Err MemoryLength))
      (ranges_blind P c d a)

  module _ (w : Bool) (s : List ℕ) (n : ℕ) where
    -- its answer, and the record but for the number
    pub frame_blind : (room : ℕ) → (framed P c m i w s n room).answer ≡ (framed P d m i w s n room).answer
    unfolding framed
    frame_blind room =
        ap₂ (λ (o : Outcome) (x : Core). frame_reply o (undriven P (instruction P s) (running x) n)) (frame_outcome_blind (length s) n room) a.same

    pub frame_core_blind : (room : ℕ) → EqualBut (framed P c m i w s n room).core (framed P d m i w s n room).core
    unfolding framed
    frame_core_blind room =
        let o = frame_outcome P c (length m) (length i) (length s) n room in
        let y = after P (running d) w d s n in
        pick_equal_but (is_done o) (after P (running c) w c s n) y c d (after_blind P (ap running a.same) w c d s n a.same) a.same
        ∙ ap (λ (p : Outcome). with_blank 0 (pick (is_done p) y d)) (frame_outcome_blind (length s) n room)

    -- its output
    pub output_blind : (out : List ℕ) → framed_output P c m i s n out ≡ framed_output P d m i s n out
    unfolding framed_output
    output_blind out =
        ap₂ (λ (o : Outcome) (x : Core). pick (is_done o) (output P (running x) (sights (status x) (lock_byte x) m i) s n) out)
        (frame_outcome_blind (length s) n (length out)) a.same

-- ---- any list of frames and readings

pub acted_blind : (P : Part) (a : Act) (b d : FrameBench) → FrameBenchEqualBut b d → FrameBenchEqualBut (acted P a b) (acted P a d)
acted_blind P (frame w s n) b d e =
    record { core = after_blind P (ap running e.core) w b.core d.core s n e.core; memory = e.memory; identification = e.identification }
acted_blind P (reading t) b d e =
    record {
      core =
          timed_equal_but P t b.core d.core e.core b.memory
          ∙ ap (λ (m : List ℕ). with_blank 0 (timed_in P t d.core m)) e.memory;
      memory = timed_cells_equal waits_page P t b.core d.core e.core b.memory ∙ ap (timed_memory P t d.core) e.memory;
      identification =
          timed_cells_equal waits_identification P t b.core d.core e.core b.identification
          ∙ ap (timed_identification P t d.core) e.identification;
    }

pub acts_blind : (P : Part) (acts : List Act) (b d : FrameBench) → FrameBenchEqualBut b d → FrameBenchEqualBut (acted_all P acts b) (acted_all P acts d)
acts_blind P [] b d e = e
acts_blind P (a ∷ acts) b d e = acts_blind P acts (acted P a b) (acted P a d) (acted_blind P a b d e)
