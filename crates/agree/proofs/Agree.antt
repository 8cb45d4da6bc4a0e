-- The two models agree, demand 3: a frame's plan comes to what the frame model says of its bytes, and a drawing to its frames' plans.
use Rattle.codes.specs.Refusals.{value_of, no_refusal, is_done, Outcome}
use Prim.Native.Nat.{ℕ, suc, ◌*◌, ◌-◌, ◌/◌, ◌<◌, ◌≤◌}
use mathlib.Core.Bool.{Bool, true, false, ◌&&◌}
use mathlib.Core.List.{List, []}
use mathlib.Core.Path.{◌≡◌, refl, sym, ap, ap₂, ◌∙◌, subst, subst⁻¹}
use lib.Dec.{eqb, leb}
use lib.ListN.{take, length, replicate, length-replicate}
use borrow.Author.Tests.{eq-eqb, le-leb, eqb-true, leb-true}
use native.Mathlib.Omega.{arith}
use Rattle.laws.specs.Pick.{at_yes, and_left, and_right, and_both}
use Rattle.laws.specs.Table.{table}
use Rattle.codes.specs.Part.{Part, part_of}
use Rattle.codes.specs.Status.{on}
use Rattle.chip.specs.Cells.{memory_cells, identification_cells}
use Rattle.chip.specs.Records.{lock_byte}
use Rattle.chip.specs.Ranges.{in_ranges}
use Rattle.chip.proofs.Readings.{lent_both}
use Rattle.chip.proofs.Within.{within, in_ranges_law}
use Rattle.fields.specs.Bytes.{instruction, address}
use Rattle.shown.specs.Shown.{byte_out, output, undriven}
use Rattle.shown.proofs.Padding.{few_unused}
use Rattle.frames.specs.After.{after}
use Rattle.frames.specs.Answers.{frame_reply, framed_output}
use Rattle.frames.specs.Play.{frame, FrameBench, frame_bench, acted}
use Rattle.timed_frames.specs.Schedules.{rising, due, passed, bench_at}
use Rattle.timed_frames.specs.InTime.{loaded_at, ran_in, sights_in, last_of}
use Rattle.timed_theorems.specs.Acts.{send, acted_in_time}
use Rattle.timed_frames.specs.Answers.{in_time_outcome, in_time_left, framed_in_time, output_in_time}
use Rattle.timed_frames.specs.declared.Mode.{Mode}
use Rattle.timed_frames.proofs.Walks.{walk_on, bench_none, loaded_late}
use Rattle.timed_frames.proofs.Calm.{Calm, passed_calm}
use Rattle.timed_theorems.proofs.Kept.{left_by_within, left_by_length}
use Rattle.timed_frames.proofs.Untimed.{untimed_output}
use Rattle.pins.specs.declared.Pins.{Pins}
use Rattle.pins.specs.declared.Device.{Device}
use Rattle.edges.specs.declared.Level.{Level}
use Rattle.edges.specs.Frames.{no_frame}
use Rattle.pins.specs.Devices.{pins_at, with_pins, with_held_at}
use Rattle.pins.specs.Answers.{pin_bench}
use Rattle.pins.specs.Ranges.{pins_fit, held_fits, empty_fits, ran_fits, device_fits}
use Rattle.edges.specs.Ranges.{frame_fits}
use Rattle.agree.specs.Drawings.{Sendable, flat, bits_of, Item, readings_at, plan}
use Rattle.agree.specs.Reports.{shared, lent_of, Note, as_one, watched, output_bits}
use Rattle.agree.specs.Reports.{levelled, output_levels, frames_played, SameSeen, Agreement, LevelAgreement}
use Rattle.codes.proofs.Sound.{Sound, sound_of}
use Rattle.laws.specs.Flags.{bit_on_law}
use Rattle.agree.proofs.Ticks.{seen_of, end_of, met_of, decides, decided_in}
use Rattle.agree.proofs.Steps.{Course, Still}
use Rattle.agree.proofs.Bytes.{on_q, shown_bit}
use Rattle.agree.proofs.Planned.{course_of, met_plan, seen_plan, end_plan}
use Rattle.agree.proofs.Scheduled.{bench_next}
use Rattle.agree.proofs.Seen.{seen_table}
use Rattle.agree.proofs.Ends.{end_table}
use Rattle.agree.proofs.Pad.{pad_bits}
use Rattle.agree.proofs.Levels.{plan_levels}
use Rattle.agree.proofs.Waves.{Ready, says}

-- from the eighth edge on nothing moves where no cycle ran at it
still_calm : (P : Part) (ps ts : List ℕ) (b : FrameBench) (k : ℕ) → 1 ≤ k → ran_in P ps ts b ≡ false → Calm (bench_at P ps ts b 1) (bench_at P ps ts b k)
still_calm P ps ts b k h e = subst (Calm (bench_at P ps ts b 1)) (walk_on P ps ts b 1 k h) (passed_calm P _ (bench_at P ps ts b 1) e)

module _ (P : Part) (sound : Sound P) where
  -- ---- one frame

  module _ (w : Bool) (o : Mode) (s : List ℕ) (n : ℕ) (ps ts : List ℕ) (b : FrameBench) (ready : Ready P b) (sendable : Sendable P s n ps ts) where
    abbrev at : ℕ → FrameBench
    at k = bench_at P ps ts b k

    abbrev is : List Item
    is = plan o (readings_at ps ts) 0 s n

    abbrev T : Course
    T = course_of o at

    -- it is not refused
    done : (room : ℕ) → room ≡ length s → in_time_outcome P b.core (lent_of b) s n ps ts room ≡ no_refusal
    done room e =
        at_yes _ _ (lent_both P _ _ ready.memory ready.identification) ∙ at_yes _ _ (in_ranges_law P b.core ready.within)
        ∙ at_yes _ _ (le-leb _ _ sendable.short)
        ∙ at_yes _ _ (and_both _ _ sendable.counted sendable.placed) ∙ at_yes _ _ (eq-eqb _ _ e)

    -- the bench that the public call promises is the one that the act leaves
    pub sent_acted : in_time_left P b.core (lent_of b) w s n ps ts (length s) ≡ acted_in_time P (send w o s n ps ts) b
    unfolding in_time_left
    sent_acted = at_yes _ _ (ap is_done (done (length s) refl))

    sent_output : output_in_time P b.core (lent_of b) o s n ps ts (replicate (length s) 0) ≡ output P (ran_in P ps ts b) (sights_in P ps ts b o) s n
    unfolding output_in_time
    sent_output = at_yes _ _ (ap is_done (done (length (replicate (length s) 0)) (length-replicate (length s) 0)))

    -- the plan's readings make its benches, the first of them the one at select
    next : (k : ℕ) → passed P (readings_at ps ts k) (at k) ≡ at (suc k)
    next k =
        let equal = and_left (eqb (length ps) (length ts)) (rising 0 (n / 8) ps) sendable.placed in
        let rises = and_right (eqb (length ps) (length ts)) (rising 0 (n / 8) ps) sendable.placed in
        bench_next (n / 8) P 0 k ps ts b (eqb-true _ _ equal) rises

    from_start : b ≡ at 0
    from_start = sym (bench_none P ps ts b)

    loaded_calm : (j : ℕ) → 1 ≤ j → T.runs 0 ≡ false → Calm (at 1) (at (loaded_at o j))
    loaded_calm j h e = still_calm P ps ts b (loaded_at o j) (omega (arith, loaded_late o j)) e

    still : Still T (lent_of (at 1)) (lock_byte (at 1).core)
    still =
        record {
          cells = λ e j h. let c = loaded_calm j h e in (λ i. record { memory = c.memory i; identification = c.identification i });
          lock = λ e j h. (loaded_calm j h e).lock;
        }

    frame_seen : seen_of as_one P is no_frame b ≡ output_bits P b w o s n ps ts
    frame_seen =
        let few = few_unused (length s) n sendable.counted in
        ap (seen_of as_one P is no_frame) from_start
        ∙ seen_plan P sound (readings_at ps ts) at next as_one on_q shown_bit o s n sendable.bytes
        ∙ ap (λ l. take n (flat l)) (seen_table P sound T (lent_of (at 1)) (lock_byte (at 1).core) still s)
        ∙ sym (ap (λ l. take n (flat l)) sent_output ∙ padding few.0 few.1)
      where
        shown : ℕ → ℕ
        shown = byte_out P (instruction P s) (ran_in P ps ts b) (sights_in P ps ts b o) (address P s)

        padding : n ≤ 8 * length s → 8 * length s - n < 8
            → take n (flat (output P (ran_in P ps ts b) (sights_in P ps ts b o) s n)) ≡ take n (flat (table (length s) shown))
        padding h k = unfold output table in pad_bits shown (length s) (8 * length s - n) k (length s) 0 n (omega arith) (omega arith)

    frame_levels : seen_of (λ l. l) P is no_frame b ≡ output_levels P b w o s n ps ts
    unfolding framed_in_time
    frame_levels =
        let few = few_unused (length s) n sendable.counted in
        ap (seen_of (λ l. l) P is no_frame) from_start
        ∙ plan_levels P sound (readings_at ps ts) at next o s n sendable.bytes few.0
        ∙ ap₂ levelled (sym (ap (λ (q : Outcome). value_of (frame_reply q (undriven P (instruction P s) (ran_in P ps ts b) n))) (done (length s) refl)))
        (sym (ap (seen_of as_one P is no_frame) from_start) ∙ frame_seen)

    -- at deselect, after all readings
    abbrev last : FrameBench
    last = last_of P ps ts b n

    frame_met : met_of P is b ≡ last
    frame_met =
        let few = few_unused (length s) n sendable.counted in
        ap (met_of P is) from_start ∙ met_plan P sound (readings_at ps ts) at next o s n 0 (suc (n / 8)) few.0 (omega arith)

    frame_core : decides P last.core w (end_of P is no_frame b) ≡ after P (ran_in P ps ts b) w last.core s n
    frame_core =
        let few = few_unused (length s) n sendable.counted in
        ap (λ x. decides P last.core w (end_of P is no_frame x)) from_start
        ∙ end_plan P sound (readings_at ps ts) at next last.core w o s n sendable.bytes few.0
        ∙ end_table P sound T last.core w s n few.0 (omega arith)

    frame_left : decided_in P w (end_of P is no_frame b) (met_of P is b) ≡ acted_in_time P (send w o s n ps ts) b
    frame_left =
        ap (decided_in P w (end_of P is no_frame b)) frame_met
        ∙ ap (λ c. frame_bench c last.memory last.identification) frame_core

    frame_ready : Ready P (acted_in_time P (send w o s n ps ts) b)
    frame_ready =
        record {
          within = left_by_within P sound ps ts b w s n ready.within;
          memory = left_by_length memory_cells P ps ts b w s n ∙ ready.memory;
          identification = left_by_length identification_cells P ps ts b w s n ∙ ready.identification;
        }

  -- ---- the start: an unselected device inside its ranges

  module _ (x : Device) (fits : device_fits P x ≡ true) where
    abbrev p : Pins
    p = x.pins

    parts : (pins_fit p ≡ true) × ((held_fits p x.held ≡ true) × (in_ranges P x.core ≡ true))
    unfolding device_fits
    parts =
        let a = pins_fit p in
        let b = held_fits p x.held in
        let d = frame_fits P x.frame in
        let e = empty_fits x in
        let f = ran_fits x in
        let abdef = and_left (a && b && d && e && f) (in_ranges P x.core) fits in
        let abde = and_left (a && b && d && e) f abdef in
        let abd = and_left (a && b && d) e abde in
        let ab = and_left (a && b) d abd in
        (and_left a b ab, (and_right a b ab, and_right (a && b && d && e && f) (in_ranges P x.core) fits))

    levels : (p.c ≤ 1) × ((p.d ≤ 1) × (p.w ≤ 1))
    levels =
        let s = leb p.s 1 in
        let c = leb p.c 1 in
        let d = leb p.d 1 in
        let w = leb p.w 1 in
        let scdw = and_left (s && c && d && w) (leb p.hold 1) parts.0 in
        let scd = and_left (s && c && d) w scdw in
        let sc = and_left (s && c) d scd in
        (leb-true _ _ (and_right s c sc), (leb-true _ _ (and_right (s && c) d scd), leb-true _ _ (and_right (s && c && d) w scdw)))

    unheld : p.s ≡ 1 → x.held ≡ 0
    unheld e = eqb-true _ _ (sym (at_yes _ _ (ap on e)) ∙ parts.1.0)

  -- what is noted of each frame is what its plan sees of it: so it is with any list
  same_seen : {A : Type 0} (look : Level → A) (note : Note A)
      → ((w : Bool) (o : Mode) (s : List ℕ) (n : ℕ) (ps ts : List ℕ) (b : FrameBench) → Ready P b → Sendable P s n ps ts
      → seen_of look P (plan o (readings_at ps ts) 0 s n) no_frame b ≡ note P b w o s n ps ts)
      → SameSeen look note P
  unfolding SameSeen
  same_seen look note noted b ks es u r =
      let x = b.device in
      let p = x.pins in
      let l = levels x u.fits in
      subst⁻¹ (λ y. watched look P es [] y ≡ frames_played note P ks (shared b))
      (λ i. pin_bench
      (with_pins (pins_at (u.up i) (bit_on_law p.c l.0 i) (bit_on_law p.d l.1.0 i) (bit_on_law p.w l.1.1 i) (u.free i))
      (with_held_at (unheld x u.fits u.up i) x))
      b.memory b.identification)
      (says look note P x
      (λ w o s n ps ts y k h. (noted w o s n ps ts y k h, (frame_left w o s n ps ts y k h, frame_ready w o s n ps ts y k h)))
      r x.frame (shared b)
      (record { within = within P x.core (parts x u.fits).1.1; memory = u.memory; identification = u.identification }))

  pub agrees : Agreement P
  agrees = same_seen as_one output_bits frame_seen

  pub levels_agree : LevelAgreement P
  levels_agree = same_seen (λ l. l) output_levels frame_levels

-- a frame with no reading inside: the bits are those of the plain call, and so is the bench
pub plain_bits : (P : Part) (b : FrameBench) (w : Bool) (o : Mode) (s : List ℕ) (n : ℕ)
    → output_bits P b w o s n [] [] ≡ bits_of (framed_output P b.core b.memory b.identification s n (replicate (length s) 0)) n
plain_bits P b w o s n = ap (λ l. bits_of l n) (untimed_output P b.core (lent_of b) s n o (replicate (length s) 0))

pub plain_acted : (P : Part) (b : FrameBench) (w : Bool) (o : Mode) (s : List ℕ) (n : ℕ) → acted_in_time P (send w o s n [] []) b ≡ acted P (frame w s n) b
unfolding due passed
plain_acted P b w o s n = refl

-- and so for each part, by its number
pub agreement : (n : ℕ) → Agreement (part_of n)
agreement n = agrees (part_of n) (sound_of n)

pub level_agreement : (n : ℕ) → LevelAgreement (part_of n)
level_agreement n = levels_agree (part_of n) (sound_of n)
