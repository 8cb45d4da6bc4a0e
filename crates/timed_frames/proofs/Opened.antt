-- A frame once the readings at position 0 have come: what it shows and leaves, where a cycle ran at its eighth edge and where none did; and that the readings
-- at 0 are readings before the frame.
use Rattle.std.specs.Prelude.{Ok}
use Prim.Native.Nat.{ℕ, zero, suc, ◌+◌, ◌-◌, ◌/◌, ◌≤◌}
use mathlib.Core.Bool.{Bool, true, false}
use mathlib.Core.List.{List}
use mathlib.Core.Path.{◌≡◌, refl, ap, ap₂, sym, ◌∙◌, fun_ext}
use native.Mathlib.Omega.{arith}
use lib.Dec.{leb}
use lib.ListN.{length, get_or, take, drop}
use borrow.Author.Tests.{le-leb, eq-eqb}
use Rattle.laws.specs.Pick.{pick, pick_case, at_yes, at_no}
use Rattle.laws.specs.Table.{table, table_length, table_at, table_cong}
use Rattle.codes.specs.Part.{Part}
use Rattle.codes.specs.Refusals.{is_done, no_refusal, Outcome}
use Rattle.codes.specs.declared.Instruction.{Instruction}
use Rattle.codes.specs.declared.Instruction.TheVariants.{Rdsr}
use Rattle.chip.specs.Cells.{memory_cells, identification_cells}
use Rattle.chip.specs.Records.{running, status, lock_byte}
use Rattle.chip.specs.declared.Core.{Core}
use Rattle.chip.proofs.Within.{within, in_ranges_law}
use Rattle.chip.proofs.Readings.{lent_both, lent_memory, lent_identification}
use Rattle.fields.specs.Bytes.{instruction, address}
use Rattle.shown.specs.Shown.{Sights, sights, byte_out, padded_at, output, undriven}
use Rattle.frames.specs.After.{after}
use Rattle.frames.specs.Answers.{frame_outcome, frame_reply, framed, framed_output}
use Rattle.frames.specs.Play.{FrameBench, frame_bench}
use Rattle.frames.proofs.Outcomes.{taken}
use Rattle.timed_frames.specs.Schedules.{due, passed, bench_at}
use Rattle.timed_frames.specs.InTime.{is_rdsr, loaded_at, sights_in, last_of, left_by}
use Rattle.timed_frames.specs.Walked.{statuses_over}
use Rattle.timed_frames.specs.declared.Mode.{Mode}
use Rattle.timed_frames.proofs.Walks.{due_add, walk_on, loaded_late}
use Rattle.timed_frames.proofs.Calm.{calm_at, hushed, is_rdsr_law}
use Rattle.timed_frames.proofs.Passed.{passed_within, passed_length}

-- ---- a frame that is not refused, of the plain call

module _ (P : Part) (c : Core) (m i : List ℕ) (s : List ℕ) (n room : ℕ) (done : frame_outcome P c (length m) (length i) (length s) n room ≡ no_refusal) where
  pub plain_answer : (w : Bool) → (framed P c m i w s n room).answer ≡ Ok (undriven P (instruction P s) (running c) n)
  unfolding framed
  plain_answer w = ap (λ (o : Outcome). frame_reply o (undriven P (instruction P s) (running c) n)) done

  pub plain_core : (w : Bool) → (framed P c m i w s n room).core ≡ after P (running c) w c s n
  unfolding framed
  plain_core w = at_yes _ _ (ap is_done done)

  pub plain_output : (out : List ℕ) → length out ≡ room → framed_output P c m i s n out ≡ output P (running c) (sights (status c) (lock_byte c) m i) s n
  unfolding framed_output
  plain_output out e = at_yes _ _ (ap (λ (r : ℕ). is_done (frame_outcome P c (length m) (length i) (length s) n r)) e ∙ ap is_done done)

  pub plain_length : (out : List ℕ) → length out ≡ room → length (framed_output P c m i s n out) ≡ length out
  unfolding output
  plain_length out e =
      let t = taken P c (length m) (length i) (length s) n room refl done in
      ap length (plain_output out e) ∙ table_length _ (length s) ∙ sym t.roomy ∙ sym e

-- ---- readings keep what the refusals look at, so a frame that is not refused is not refused after them

module _ (P : Part) where
  pub still_taken : (ts : List ℕ) (b : FrameBench) (len n room : ℕ)
      → frame_outcome P b.core (length b.memory) (length b.identification) len n room ≡ no_refusal
      → let x = passed P ts b in frame_outcome P x.core (length x.memory) (length x.identification) len n room ≡ no_refusal
  still_taken ts b len n room e =
      let t = taken P b.core (length b.memory) (length b.identification) len n room refl e in
      at_yes _ _ (lent_both P _ _ (passed_length memory_cells P ts b ∙ lent_memory P _ _ t.whole)
      (passed_length identification_cells P ts b ∙ lent_identification P _ _ t.whole))
      ∙ at_yes _ _ (in_ranges_law P _ (passed_within P ts b (within P b.core t.inside)))
      ∙ at_yes _ _ (le-leb _ _ t.short)
      ∙ at_yes _ _ t.counted
      ∙ at_yes _ _ (eq-eqb _ _ t.roomy)

-- ---- no reading is left at 0

module _ (P : Part) (ps ts : List ℕ) (b : FrameBench) (none : due 1 ps ≡ 0) where
  pub first_is : bench_at P ps ts b 1 ≡ b
  unfolding passed
  first_is = ap (λ (k : ℕ). passed P (take k ts) b) none

  -- a cycle ran: what the frame leaves, and what it shows
  pub left_ran : running b.core ≡ true → (w : Bool) (s : List ℕ) (n : ℕ)
      → let x = last_of P ps ts b n in frame_bench (after P true w x.core s n) x.memory x.identification ≡ left_by P ps ts b w s n
  left_ran e w s n =
      let x = last_of P ps ts b n in
      ap (λ (r : Bool). frame_bench (after P r w x.core s n) x.memory x.identification) (sym (ap (λ (y : FrameBench). running y.core) first_is ∙ e))

  shown_other : (o : Mode) (v : Sights) (s : List ℕ) (n : ℕ) → is_rdsr (instruction P s) ≡ false
      → output P true v s n ≡ output P true (sights_in P ps ts b o) s n
  unfolding output
  shown_other o v s n e =
      table_cong _ _ (length s) 0 (λ j h. ap (padded_at (length s) n j) (hushed P (instruction P s) v (sights_in P ps ts b o) (address P s) j e))

  shown_polled : (o : Mode) (v : Sights) (s : List ℕ) (n : ℕ) → instruction P s ≡ Rdsr
      → statuses_over P ps ts b o n (output P true v s n) ≡ output P true (sights_in P ps ts b o) s n
  unfolding output
  shown_polled o v s n e =
      let f : ℕ → ℕ = λ j. padded_at (length s) n j (byte_out P (instruction P s) true v (address P s) j) in
      let long : length (table (length s) f) ≡ length s = table_length f (length s) in
      ap (λ (k : ℕ). table k (λ j. pick (leb 1 j) (padded_at k n j (status (bench_at P ps ts b (loaded_at o j)).core)) (get_or (table (length s) f) j 0))) long
      ∙ table_cong _ _ (length s) 0 (λ j h. each j (table_at f (length s) j 0 h))
    where
      each : (j : ℕ) {y : ℕ} → y ≡ padded_at (length s) n j (byte_out P (instruction P s) true v (address P s) j)
          → pick (leb 1 j) (padded_at (length s) n j (status (bench_at P ps ts b (loaded_at o j)).core)) y
          ≡ padded_at (length s) n j (byte_out P (instruction P s) true (sights_in P ps ts b o) (address P s) j)
      each zero q =
          at_no _ _ refl ∙ q
          ∙ ap (λ (k : Instruction). padded_at (length s) n 0 (byte_out P k true v (address P s) 0)) e
          ∙ ap (padded_at (length s) n 0) (at_no _ _ refl ∙ sym (at_no _ _ refl))
          ∙ sym (ap (λ (k : Instruction). padded_at (length s) n 0 (byte_out P k true (sights_in P ps ts b o) (address P s) 0)) e)
      each (suc j) q =
          let some : leb 1 (suc j) ≡ true = le-leb 1 (suc j) (omega arith) in
          let same : suc j ≡ suc (suc j - 1) = omega arith in
          at_yes _ _ some
          ∙ ap (λ (k : ℕ). padded_at (length s) n (suc j) (status (bench_at P ps ts b (loaded_at o k)).core)) same
          ∙ ap (padded_at (length s) n (suc j)) (sym (at_yes _ _ some))
          ∙ sym (ap (λ (k : Instruction). padded_at (length s) n (suc j) (byte_out P k true (sights_in P ps ts b o) (address P s) (suc j))) e)

  -- either way
  pub shown_ran : (o : Mode) (v : Sights) (s : List ℕ) (n : ℕ)
      → pick (is_rdsr (instruction P s)) (statuses_over P ps ts b o n (output P true v s n)) (output P true v s n)
      ≡ output P true (sights_in P ps ts b o) s n
  shown_ran o v s n =
      pick_case (λ (l : List ℕ). l ≡ output P true (sights_in P ps ts b o) s n) (is_rdsr (instruction P s))
      (λ e. shown_polled o v s n (is_rdsr_law P (instruction P s) e)) (λ e. shown_other o v s n e)

  -- none ran: it is the plain frame after all readings
  module _ (e : running b.core ≡ false) where
    pub left_quiet : (w : Bool) (s : List ℕ) (n : ℕ)
        → let x = last_of P ps ts b n in frame_bench (after P (running x.core) w x.core s n) x.memory x.identification ≡ left_by P ps ts b w s n
    left_quiet w s n =
        let x = last_of P ps ts b n in
        ap (λ (r : Bool). frame_bench (after P r w x.core s n) x.memory x.identification)
        ((calm_at P ps ts b (suc (n / 8)) e).idle ∙ sym (ap (λ (y : FrameBench). running y.core) first_is ∙ e))

    pub shown_quiet : (o : Mode) (s : List ℕ) (n : ℕ)
        → let x = last_of P ps ts b n in
        output P (running x.core) (sights (status x.core) (lock_byte x.core) x.memory x.identification) s n
        ≡ output P (running b.core) (sights_in P ps ts b o) s n
    shown_quiet o s n =
        let x = last_of P ps ts b n in
        let at = calm_at P ps ts b in
        let last = at (suc (n / 8)) e in
        let first = at 1 e in
        let seen : ◌≡◌ {A = ℕ → ℕ} (λ d. status x.core) (λ d. status (bench_at P ps ts b (loaded_at o (suc d))).core) =
        fun_ext (λ d. last.shows ∙ sym (at (loaded_at o (suc d)) e).shows) in
        λ k. output P ((last.idle ∙ sym e) k)
        (record {
          status = seen k;
          lock = (last.lock ∙ sym first.lock) k;
          memory = (last.memory ∙ sym first.memory) k;
          identification = (last.identification ∙ sym first.identification) k;
        }) s n

-- ---- the readings at 0 are readings before the frame

module _ (P : Part) (ps ts : List ℕ) (b : FrameBench) where
  abbrev later : List ℕ
  later = drop (due 1 ps) ps

  abbrev times : List ℕ
  times = drop (due 1 ps) ts

  abbrev first : FrameBench
  first = bench_at P ps ts b 1

  pub none_left : due 1 later ≡ 0
  none_left = omega (arith, due_add 1 1 ps (omega arith))

  at_later : (k : ℕ) → 1 ≤ k → bench_at P later times first k ≡ bench_at P ps ts b k
  at_later k h = walk_on P ps ts b 1 k h

  pub opened_left : (w : Bool) (s : List ℕ) (n : ℕ) → left_by P later times first w s n ≡ left_by P ps ts b w s n
  opened_left w s n =
      ap₂ (λ (y x : FrameBench). frame_bench (after P (running y.core) w x.core s n) x.memory x.identification)
      (at_later 1 (omega arith)) (at_later (suc (n / 8)) (omega arith))

  positive : (o : Mode) (d : ℕ) → 1 ≤ loaded_at o (suc d)
  positive o d = omega (arith, loaded_late o (suc d))

  pub opened_sights : (o : Mode) → sights_in P later times first o ≡ sights_in P ps ts b o
  opened_sights o =
      let one = at_later 1 (omega arith) in
      let seen : ◌≡◌ {A = ℕ → ℕ} (λ d. status (bench_at P later times first (loaded_at o (suc d))).core) (λ d. status (bench_at P ps ts b (loaded_at o
      (suc d))).core) =
      fun_ext (λ d. ap (λ (x : FrameBench). status x.core) (at_later (loaded_at o (suc d)) (positive o d))) in
      λ k. record { status = seen k; lock = lock_byte (one k).core; memory = (one k).memory; identification = (one k).identification }

-- ---- from a walk that is on its way to the last position

pub walked_last : (P : Part) (ps ts : List ℕ) (b : FrameBench) (k n next : ℕ) (y : FrameBench) → k ≤ suc (n / 8) → next ≡ due k ps → y ≡ bench_at P ps ts b k
    → passed P (take (due (n / 8 + 1) (drop next ps)) (drop next ts)) y ≡ last_of P ps ts b n
walked_last P ps ts b k n next y h e q =
    let one : n / 8 + 1 ≡ suc (n / 8) = omega arith in
    ap₂ (λ (j i : ℕ). passed P (take (due j (drop i ps)) (drop i ts)) y) one e
    ∙ ap (passed P (take (due (suc (n / 8)) (drop (due k ps) ps)) (drop (due k ps) ts))) q
    ∙ walk_on P ps ts b k (suc (n / 8)) h
