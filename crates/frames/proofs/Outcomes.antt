-- What it says of a frame that it is not refused, and document 01's number of each answer.
use Rattle.std.specs.Prelude.{Err, Ok}
use mathlib.Core.Path.{◌≡◌, refl, ap, sym, ◌∙◌}
use mathlib.Core.Bool.{Bool, true, false}
use Prim.Native.Nat.{ℕ, ◌≤◌}
use native.Mathlib.Omega.{arith}
use mathlib.Core.List.{List}
use lib.ListN.{length}
use lib.Dec.{eqb, leb}
use borrow.Author.Tests.{eqb-true, leb-true}
use Rattle.laws.specs.Pick.{pick, at_yes, pick_ap, pick_cong, yes_so, eq_so, le_so}
use Rattle.codes.specs.Part.{Part}
use Rattle.chip.specs.Ranges.{in_ranges}
use Rattle.chip.specs.Time.{lent_fits, admitted}
use Rattle.chip.proofs.Readings.{lent_memory, lent_identification}
use Rattle.chip.specs.Records.{running, status, lock_byte}
use Rattle.codes.specs.Refusals.{refusal_number, number, no_refusal, Outcome}
use Rattle.chip.specs.declared.Core.{Core}
use Rattle.codes.specs.declared.Refusal.{Refusal}
use Rattle.codes.specs.declared.Refusal.TheVariants.{MemoryLength, RecordRange, FrameLength, BitCount, OutputLength}
use Rattle.fields.specs.Bytes.{instruction}
use Rattle.fields.specs.Counts.{bits_fit, longest_frame}
use Rattle.shown.specs.Shown.{sights, output, undriven}
use Rattle.shown.specs.Lengths.{shown_in}
use Rattle.shown.proofs.Lengths.{lengths_in}
use Rattle.frames.specs.Answers.{frame_outcome, framed, framed_output, frame_number, frame_undriven, Framed}
use Rattle.frames.specs.After.{after}

-- a choice between going on and a refusal
pub not_refused : (t : Bool) (o : Outcome) (r : Refusal) → pick t o (Err r) ≡ no_refusal → (t ≡ true) × (o ≡ no_refusal)
unfolding pick
not_refused true o r e = (refl, e)
not_refused false o r e = let z : ◌≡◌ {A = ℕ} 0 1 = cc in absurd (omega arith)

-- a refusal stands, whatever comes in place of what did not refuse
still_refused : (t : Bool) {x y : Outcome} {f : Refusal} (r : Refusal) → (x ≡ Err f → Err f ≡ y)
    → pick t x (Err r) ≡ Err f → Err f ≡ pick t y (Err r)
unfolding pick
still_refused true r on e = on e
still_refused false r on e = sym e

-- chip's test of refusals 1 and 2, which a call makes before its own
module _ (P : Part) (c : Core) (size cells : ℕ) {o : Outcome} (found : o ≡ admitted P c size cells) where
  -- what passes it goes on
  pub past_admitted : {r x : Outcome} → o ≡ no_refusal → r ≡ x
      → r ≡ pick (lent_fits P size cells) (pick (in_ranges P c) x (Err RecordRange)) (Err MemoryLength)
  past_admitted done same =
      let memory = not_refused _ _ MemoryLength (sym found ∙ done) in
      let ranges = not_refused _ _ RecordRange memory.1 in
      yes_so _ memory.0 (yes_so _ ranges.0 same)

  -- what does not has that refusal, whatever comes after
  pub kept_out : {f : Refusal} (x : Outcome) → o ≡ Err f
      → Err f ≡ pick (lent_fits P size cells) (pick (in_ranges P c) x (Err RecordRange)) (Err MemoryLength)
  kept_out x e =
      still_refused (lent_fits P size cells) MemoryLength
      (λ q. still_refused (in_ranges P c) {y = x} RecordRange (λ z. absurd cc) q) (sym found ∙ e)

-- what a frame that is not refused has: slices of the part's lengths, a record inside the ranges, a length, a bit count and an output that fit
pub record Taken (P : Part) (c : Core) (size cells len n room : ℕ) : Type 0 where
  pub whole : lent_fits P size cells ≡ true
  pub inside : in_ranges P c ≡ true
  pub short : len ≤ longest_frame P
  pub counted : bits_fit len n ≡ true
  pub roomy : room ≡ len

module _ (P : Part) (c : Core) (size cells len n room : ℕ) where
  pub taken : {o : Outcome} → o ≡ frame_outcome P c size cells len n room → o ≡ no_refusal → Taken P c size cells len n room
  taken found done =
      let memory = not_refused _ _ MemoryLength (sym found ∙ done) in
      let ranges = not_refused _ _ RecordRange memory.1 in
      let bytes = not_refused _ _ FrameLength ranges.1 in
      let bits = not_refused _ _ BitCount bytes.1 in
      let out = not_refused _ _ OutputLength bits.1 in
      record {
        whole = memory.0;
        inside = ranges.0;
        short = leb-true _ _ bytes.0;
        counted = bits.0;
        roomy = eqb-true _ _ out.0;
      }

  -- and that is all that it needs
  pub accepted : lent_fits P size cells ≡ true → in_ranges P c ≡ true → len ≤ longest_frame P → bits_fit len n ≡ true → room ≡ len
      → frame_outcome P c size cells len n room ≡ no_refusal
  accepted whole inside short counted roomy =
      sym (yes_so _ whole (yes_so _ inside (le_so _ short (yes_so _ counted (eq_so _ roomy refl)))))

  outcome_number : number (frame_outcome P c size cells len n room) ≡ frame_number P c size cells len n room
  outcome_number =
      pick_ap number (lent_fits P size cells) _ _
      ∙ pick_cong (lent_fits P size cells) 1 (λ a. pick_ap number (in_ranges P c) _ _
      ∙ pick_cong (in_ranges P c) 2 (λ b. pick_ap number (leb len (longest_frame P)) _ _
      ∙ pick_cong (leb len (longest_frame P)) 3 (λ d. pick_ap number (bits_fit len n) _ _
      ∙ pick_cong (bits_fit len n) 4 (λ f. pick_ap number (eqb room len) _ _))))

  pub frame_number_law : {o : Outcome} → frame_outcome P c size cells len n room ≡ o → number o ≡ frame_number P c size cells len n room
  frame_number_law e = ap number (sym e) ∙ outcome_number

-- ---- what a frame hands back and leaves in the output: one that is taken, and one that is refused
module _ (P : Part) (c : Core) (m i : List ℕ) (w : Bool) (s : List ℕ) (n : ℕ) (out : List ℕ) where
  -- the lengths of one that is taken go together, so it is shown
  taken_shown : Taken P c (length m) (length i) (length s) n (length out)
      → shown_in P (running c) (sights (status c) (lock_byte c) m i) s n out ≡ output P (running c) (sights (status c) (lock_byte c) m i) s n
  taken_shown t =
      at_yes _ _ (lengths_in P (length m) (length i) (length s) n (length out) (lent_memory P (length m) (length i) t.whole)
      (lent_identification P (length m) (length i) t.whole) t.short t.counted t.roomy)

  abbrev pub HandsBack : Framed → ℕ → ℕ → List ℕ → Type 0
  HandsBack r k u o =
      record {
        value : r ≡ framed P c m i w s n (length out);
        as_number : k ≡ frame_number P c (length m) (length i) (length s) n (length out);
        as_undriven : u ≡ frame_undriven P c (length m) (length i) s n (length out);
        out_after : o ≡ framed_output P c m i s n out;
      }

  pub shown_frame : {o : Outcome} → o ≡ frame_outcome P c (length m) (length i) (length s) n (length out) → o ≡ no_refusal
      → HandsBack (record { answer = Ok (undriven P (instruction P s) (running c) n); core = after P (running c) w c s n }) 0
      (undriven P (instruction P s) (running c) n) (shown_in P (running c) (sights (status c) (lock_byte c) m i) s n out)
  unfolding framed framed_output pick
  shown_frame found done =
      let e = sym found ∙ done in
      let shows = taken_shown (taken P c (length m) (length i) (length s) n (length out) found done) in
      record {
        value = rw e;
        as_number = frame_number_law P c (length m) (length i) (length s) n (length out) e;
        as_undriven = rw e;
        out_after = shows ∙ rw e;
      }

  pub refused_frame : (r : Refusal) {o : Outcome} → o ≡ frame_outcome P c (length m) (length i) (length s) n (length out) → o ≡ Err r
      → HandsBack (record { answer = Err r; core = c }) (refusal_number r) 0 out
  unfolding framed framed_output pick
  refused_frame r found refused =
      let e = sym found ∙ refused in
      record {
        value = rw e;
        as_number = frame_number_law P c (length m) (length i) (length s) n (length out) e;
        as_undriven = rw e;
        out_after = rw e;
      }
