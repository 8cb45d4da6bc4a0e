-- The whole call: a refused one is the plain call's refusal, one that is done is the frame after the readings at 0.
use Rattle.std.specs.Prelude.{Err, Ok}
use Prim.Native.Nat.{ℕ, ◌+◌, ◌*◌, ◌-◌, ◌≤◌}
use mathlib.Core.Bool.{Bool, true, false, ◌&&◌, and-true, true≢false}
use mathlib.Core.List.{List}
use mathlib.Core.Path.{◌≡◌, refl, ap, ap₂, sym, ◌∙◌}
use native.Mathlib.Omega.{arith}
use lib.Dec.{eqb, leb}
use lib.ListN.{length, take, drop}
use borrow.Author.Tests.{lt-leb, leb-true}
use Rattle.laws.specs.Pick.{pick, pick_case, pick_ap, pick_cong, at_yes, at_no, and_no_right}
use Rattle.codes.specs.Part.{Part, room_cells}
use Rattle.codes.specs.Refusals.{number, is_done, no_refusal, Outcome}
use Rattle.codes.specs.declared.Refusal.TheVariants.{MemoryLength, RecordRange, FrameLength, BitCount, OutputLength}
use Rattle.chip.specs.Lents.{Lent}
use Rattle.chip.specs.Ranges.{in_ranges}
use Rattle.chip.specs.Records.{own_part, running}
use Rattle.chip.specs.Time.{lent_fits}
use Rattle.chip.specs.declared.Core.{Core}
use Rattle.fields.specs.Bytes.{instruction}
use Rattle.fields.specs.Counts.{bits_fit, longest_frame}
use Rattle.shown.specs.Shown.{output, undriven}
use Rattle.frames.specs.Answers.{frame_outcome, frame_reply, framed, framed_output, Framed}
use Rattle.frames.specs.Play.{FrameBench, frame_bench}
use Rattle.timed_frames.specs.Schedules.{due, places_fit, bench_at}
use Rattle.timed_frames.specs.InTime.{ran_in, sights_in, left_by}
use Rattle.timed_frames.specs.Answers.{in_time_outcome, in_time_number, in_time_left, given, framed_in_time, output_in_time, AnsweredInTime}
use Rattle.timed_frames.specs.declared.Mode.{Mode}
use Rattle.timed_frames.proofs.Walks.{bench_part}
use Rattle.timed_frames.proofs.Opened.{none_left, still_taken, opened_left, opened_sights}

-- ---- answers

reply_number : (o : Outcome) (u : ℕ) → number (frame_reply o u) ≡ number o
reply_number (Ok _) u = refl
reply_number (Err r) u = refl

-- a refusal shows no count
refused_reply : (o : Outcome) (u v : ℕ) → is_done o ≡ false → frame_reply o u ≡ frame_reply o v
refused_reply (Ok _) u v e = absurd (true≢false e)
refused_reply (Err r) u v e = refl

-- ---- refusals 1 to 5, by the test of the bit count

-- no bit count of all ones fits a frame
no_count : (P : Part) (len : ℕ) → P.size ≤ room_cells → leb len (longest_frame P) ≡ true → bits_fit len 18446744073709551615 ≡ false
no_count P len most short =
    pick_case (λ (t : Bool). t ≡ false) (eqb len 0) (λ e. refl)
    (λ e. and_no_right (leb (8 * len - 7) 18446744073709551615) (leb 18446744073709551615 (8 * len))
    (lt-leb 18446744073709551615 (8 * len) (omega (arith, leb-true len (longest_frame P) short, most))))

never : (a b d : Bool) (o : Outcome)
    → is_done (pick a (pick b (pick d (pick false o (Err BitCount)) (Err FrameLength)) (Err RecordRange))
    (Err MemoryLength)) ≡ false
unfolding pick
never true true true o = refl
never true true false o = refl
never true false d o = refl
never false b d o = refl

module _ (P : Part) (c : Core) (m : Lent) (s : List ℕ) (n : ℕ) (ps ts : List ℕ) (room : ℕ) where
  abbrev plain : ℕ → Outcome
  plain k = frame_outcome P c (length m.memory) (length m.identification) (length s) k room

  abbrev by_test : Bool → Outcome
  by_test t =
      pick (lent_fits P (length m.memory) (length m.identification))
      (pick (in_ranges P c)
      (pick (leb (length s) (longest_frame P))
      (pick t
      (pick (eqb room (length s)) no_refusal
      (Err OutputLength)) (Err BitCount)) (Err FrameLength)) (Err RecordRange))
      (Err MemoryLength)

  outcome_number : number (in_time_outcome P c m s n ps ts room) ≡ in_time_number P c m s n ps ts room
  outcome_number =
      pick_ap number (lent_fits P (length m.memory) (length m.identification)) _ _
      ∙ pick_cong (lent_fits P (length m.memory) (length m.identification)) 1 (λ a. pick_ap number (in_ranges P c) _ _
      ∙ pick_cong (in_ranges P c) 2 (λ b. pick_ap number (leb (length s) (longest_frame P)) _ _
      ∙ pick_cong (leb (length s) (longest_frame P)) 3 (λ d. pick_ap number (bits_fit (length s) n && places_fit n ps ts) _ _
      ∙ pick_cong (bits_fit (length s) n && places_fit n ps ts) 4 (λ f. pick_ap number (eqb room (length s)) _ _))))

  -- lists that fit say nothing
  pub placed : places_fit n ps ts ≡ true → in_time_outcome P c m s n ps ts room ≡ plain n
  placed e = ap by_test (ap (λ (t : Bool). bits_fit (length s) n && t) e ∙ and-true (bits_fit (length s) n))

  -- those that do not are as a bit count that does not
  module _ (e : places_fit n ps ts ≡ false) where
    none : (bits_fit (length s) n && places_fit n ps ts) ≡ false
    none = and_no_right (bits_fit (length s) n) (places_fit n ps ts) e

    pub misplaced : P.size ≤ room_cells → plain 18446744073709551615 ≡ in_time_outcome P c m s n ps ts room
    misplaced most =
        pick_cong (lent_fits P (length m.memory) (length m.identification)) _
        (λ a. pick_cong (in_ranges P c) _
        (λ b. pick_cong (leb (length s) (longest_frame P)) _
        (λ d. ap (λ (t : Bool). pick t (pick (eqb room (length s)) no_refusal (Err OutputLength)) (Err BitCount))
        (no_count P (length s) most d ∙ sym none))))

    pub misplaced_not : is_done (in_time_outcome P c m s n ps ts room) ≡ false
    misplaced_not =
        ap (λ (t : Bool). is_done (by_test t)) none
        ∙ never (lent_fits P (length m.memory) (length m.identification)) (in_ranges P c) (leb (length s) (longest_frame P)) _

-- ---- what the call hands back and leaves

module _ (P : Part) (c : Core) (m : Lent) (w : Bool) (o : Mode) (s : List ℕ) (n : ℕ) (ps ts out : List ℕ) where
  abbrev told : Outcome
  told = in_time_outcome P c m s n ps ts (length out)

  pub numbered : {r : Framed} → r ≡ framed_in_time P c m w s n ps ts (length out)
      → number r.answer ≡ in_time_number P c m s n ps ts (length out)
  unfolding framed_in_time
  numbered e =
      ap (λ (r : Framed). number r.answer) e ∙ reply_number told _ ∙ outcome_number P c m s n ps ts (length out)

  -- refused: by the plain call, with this bit count or another
  pub turned_away : (k : ℕ) {r : Framed} {shown : List ℕ}
      → frame_outcome P c (length m.memory) (length m.identification) (length s) k (length out) ≡ told → is_done told ≡ false
      → r ≡ framed P c m.memory m.identification w s k (length out)
      → shown ≡ framed_output P c m.memory m.identification s k out
      → AnsweredInTime P c m w o s n ps ts out r m.memory m.identification shown
  unfolding framed framed_output framed_in_time in_time_left output_in_time
  turned_away k {r = r} same away e h =
      let left : pick (is_done told) (left_by P ps ts (given c m) w s n) (given c m) ≡ given c m = at_no _ _ away in
      let away' = ap is_done same ∙ away in
      let answer : r.answer ≡ (framed_in_time P c m w s n ps ts (length out)).answer =
      ap (λ (x : Framed). x.answer) e ∙ ap (λ (q : Outcome). frame_reply q (undriven P (instruction P s) (running c) k)) same
      ∙ refused_reply told _ _ away in
      let core : r.core ≡ (framed_in_time P c m w s n ps ts (length out)).core =
      ap (λ (x : Framed). x.core) e ∙ at_no _ _ away' ∙ sym (ap (λ (b : FrameBench). b.core) left) in
      let all : r ≡ framed_in_time P c m w s n ps ts (length out) = λ i. record { answer = answer i; core = core i } in (
        all,
        (
          numbered all,
          (
            sym (ap (λ (b : FrameBench). b.memory) left),
            (sym (ap (λ (b : FrameBench). b.identification) left), h ∙ at_no _ _ away' ∙ sym (at_no _ _ away)),
          ),
        ),
      )

  -- done: after the readings at 0 it is a frame at which none is left
  carried_out : {Q : Part} {qs us cells page shown : List ℕ} {y : FrameBench} {r : Framed}
      → told ≡ no_refusal → Q ≡ P → qs ≡ drop (due 1 ps) ps → us ≡ drop (due 1 ps) ts → y ≡ bench_at P ps ts (given c m) 1
      → r.answer ≡ Ok (undriven Q (instruction Q s) (running y.core) n)
      → frame_bench r.core cells page ≡ left_by Q qs us y w s n
      → shown ≡ output Q (running y.core) (sights_in Q qs us y o) s n
      → AnsweredInTime P c m w o s n ps ts out r cells page shown
  unfolding framed_in_time in_time_left output_in_time
  carried_out {Q = Q} {qs = qs} {us = us} {cells = cells} {page = page} {y = y} {r = r} done part later times first answer left shows =
      let b = given c m in
      let taken : is_done told ≡ true = ap is_done done in
      let bench : frame_bench r.core cells page ≡ pick (is_done told) (left_by P ps ts b w s n) b =
      left ∙ (λ i. left_by (part i) (later i) (times i) (first i) w s n) ∙ opened_left P ps ts b w s n ∙ sym (at_yes _ _ taken) in
      let says : r.answer ≡ (framed_in_time P c m w s n ps ts (length out)).answer =
      answer ∙ (λ i. Ok (undriven (part i) (instruction (part i) s) (running (first i).core) n))
      ∙ sym (ap (λ (q : Outcome). frame_reply q (undriven P (instruction P s) (ran_in P ps ts b) n)) done) in
      let core : r.core ≡ (framed_in_time P c m w s n ps ts (length out)).core = ap (λ (x : FrameBench). x.core) bench in
      let all : r ≡ framed_in_time P c m w s n ps ts (length out) = λ i. record { answer = says i; core = core i } in (
        all,
        (
          numbered all,
          (
            ap (λ (x : FrameBench). x.memory) bench,
            (
              ap (λ (x : FrameBench). x.identification) bench,
              shows
                  ∙ (λ i. output (part i) (running (first i).core) (sights_in (part i) (later i) (times i) (first i) o) s n)
                  ∙ ap (λ v. output P (ran_in P ps ts b) v s n) (opened_sights P ps ts b o)
                  ∙ sym (at_yes _ _ taken),
            ),
          ),
        ),
      )

-- ---- once the readings at 0 have come: the call goes on with the rest of its lists

module _ (c : Core) (m : Lent) (s : List ℕ) (n : ℕ) (ps ts qs us : List ℕ) (y : FrameBench) where
  abbrev P : Part
  P = own_part c

  abbrev Q : Part
  Q = own_part y.core

  -- what the frame goes on with: it is not refused, no reading is left at 0, and what it hands back is the call's answer
  pub record Next (w : Bool) (o : Mode) (out : List ℕ) : Type 0 where
    pub fits : frame_outcome Q y.core (length y.memory) (length y.identification) (length s) n (length out) ≡ no_refusal
    pub none : due 1 qs ≡ 0
    pub carried : {r : Framed} {cells page shown : List ℕ} → r.answer ≡ Ok (undriven Q (instruction Q s) (running y.core) n)
        → frame_bench r.core cells page ≡ left_by Q qs us y w s n
        → shown ≡ output Q (running y.core) (sights_in Q qs us y o) s n
        → AnsweredInTime P c m w o s n ps ts out r cells page shown

  -- k readings came, those at 0
  pub next : (k : ℕ) → k ≡ 0 + due 1 ps → qs ≡ drop k ps → us ≡ drop k ts → y ≡ bench_at P ps ts (given c m) 1
      → (w : Bool) (o : Mode) (out : List ℕ) → places_fit n ps ts ≡ true
      → frame_outcome P c (length m.memory) (length m.identification) (length s) n (length out) ≡ no_refusal → Next w o out
  next k all rest times first w o out placed-so done =
      let room = length out in
      let came : k ≡ due 1 ps = omega (arith, all) in
      let part : Q ≡ P = ap (λ (x : FrameBench). own_part x.core) first ∙ bench_part P ps ts (given c m) 1 in
      let later : qs ≡ drop (due 1 ps) ps = rest ∙ ap (λ (j : ℕ). drop j ps) came in
      let later-times : us ≡ drop (due 1 ps) ts = times ∙ ap (λ (j : ℕ). drop j ts) came in
      let outcome-of : Part → FrameBench → Outcome =
      λ O x. frame_outcome O x.core (length x.memory) (length x.identification) (length s) n room in
      record {
        fits = ap₂ outcome-of part first ∙ still_taken P (take (due 1 ps) ts) (given c m) (length s) n room done;
        none = ap (due 1) later ∙ none_left P ps ts (given c m);
        carried = carried_out P c m w o s n ps ts out (placed P c m s n ps ts room placed-so ∙ done) part later later-times first;
      }
