-- With empty lists the call is the plain frame's.
use Prim.Native.Nat.{ℕ}
use mathlib.Core.Bool.{Bool}
use mathlib.Core.List.{List, [], ◌∷◌}
use mathlib.Core.Path.{◌≡◌, refl, ap, sym, ◌∙◌}
use native.Mathlib.Omega.{arith}
use lib.ListN.{length}
use Rattle.laws.specs.Pick.{pick, pick_ap, pick_case}
use Rattle.codes.specs.Part.{Part}
use Rattle.codes.specs.Refusals.{is_done, Outcome}
use Rattle.chip.specs.Lents.{Lent}
use Rattle.chip.specs.Records.{running, status, lock_byte}
use Rattle.chip.specs.declared.Core.{Core}
use Rattle.fields.specs.Bytes.{instruction}
use Rattle.shown.specs.Shown.{sights, output, undriven}
use Rattle.frames.specs.After.{after}
use Rattle.frames.specs.Answers.{frame_outcome, frame_reply, framed, framed_output, Framed}
use Rattle.frames.specs.Play.{FrameBench}
use Rattle.timed_frames.specs.Schedules.{due, passed, rising}
use Rattle.timed_frames.specs.InTime.{left_by}
use Rattle.timed_frames.specs.Answers.{in_time_outcome, in_time_left, given, framed_in_time, output_in_time, AnsweredInTime}
use Rattle.timed_frames.specs.declared.Mode.{Mode}
use Rattle.timed_frames.proofs.Whole.{placed, numbered}

module _ (P : Part) (c : Core) (m : Lent) (s : List ℕ) (n : ℕ) where
  same_outcome : (room : ℕ)
      → in_time_outcome P c m s n [] [] room ≡ frame_outcome P c (length m.memory) (length m.identification) (length s) n room
  unfolding rising
  same_outcome room = placed P c m s n [] [] room refl

  pub untimed : (w : Bool) (room : ℕ) → framed_in_time P c m w s n [] [] room ≡ framed P c m.memory m.identification w s n room
  unfolding framed framed_in_time in_time_left due passed
  untimed w room =
      let e = same_outcome room in
      let core = pick_ap (λ (b : FrameBench). b.core) (is_done (in_time_outcome P c m s n [] [] room)) (left_by P [] [] (given c m) w s n) (given c m)
      ∙ ap (λ (o : Outcome). pick (is_done o) (after P (running c) w c s n) c) e in
      λ i. record { answer = frame_reply (e i) (undriven P (instruction P s) (running c) n); core = core i }

  -- no cell changes, as in the plain call
  pub untimed_cells : (w : Bool) (room : ℕ)
      → ((in_time_left P c m w s n [] [] room).memory ≡ m.memory) × ((in_time_left P c m w s n [] [] room).identification ≡ m.identification)
  unfolding in_time_left due passed
  untimed_cells w room =
      pick_case (λ (b : FrameBench). (b.memory ≡ m.memory) × (b.identification ≡ m.identification)) (is_done (in_time_outcome P c m s n [] [] room))
      (λ e. (refl, refl)) (λ e. (refl, refl))

  pub untimed_output : (o : Mode) (out : List ℕ) → output_in_time P c m o s n [] [] out ≡ framed_output P c m.memory m.identification s n out
  unfolding framed_output output_in_time due passed
  untimed_output o out =
      ap (λ (q : Outcome). pick (is_done q) (output P (running c) (sights (status c) (lock_byte c) m.memory m.identification) s n) out)
      (same_outcome (length out))

  -- .. whole: what the plain call hands back and leaves is what this one does
  pub plain_answered : (w : Bool) (o : Mode) (ps ts out : List ℕ) {r : Framed} {shown : List ℕ} → length ps ≡ 0 → length ts ≡ 0
      → r ≡ framed P c m.memory m.identification w s n (length out)
      → shown ≡ framed_output P c m.memory m.identification s n out
      → AnsweredInTime P c m w o s n ps ts out r m.memory m.identification shown
  plain_answered w o [] [] out i j e h =
      let all = e ∙ sym (untimed w (length out)) in
      let cells = untimed_cells w (length out) in
      (all, (numbered P c m w o s n [] [] out all, (sym cells.0, (sym cells.1, h ∙ sym (untimed_output o out)))))
  plain_answered w o [] (t ∷ ts) out i j e h = absurd (omega arith)
  plain_answered w o (p ∷ ps) ts out i j e h = absurd (omega arith)
