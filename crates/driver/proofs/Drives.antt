-- What a whole run hands back, and leaves in the memory and in the identification page, by each of its four ways.
use Rattle.std.proofs.Common.{◌≡◌, ℕ, ◌+◌, Bool, true, false, ltb, List, [], length, sym, refl, ap, ◌∙◌, subst}
use Rattle.codes.specs.Part.{Part}
use Rattle.codes.specs.Status.{on, bit_of}
use Rattle.chip.specs.Records.{own_part, running}
use Rattle.frames.specs.Play.{Act, FrameBench, acted_all, frame_bench}
use Rattle.sequence.specs.Sequence.{sent, first_wait, Ending, all_done, timed_out, protected, Run, stopped, begun, all_parts, lowest_shown, touches, run}
use Rattle.sequence.proofs.Playing.{acted_all_append, sent_append}
use Rattle.sequence.proofs.Seen.{seen_wip, seen_touches}
use Rattle.sequence.proofs.Ways.{run_none, run_late, run_touches, run_parts}
use Rattle.driver.specs.Answers.{RunReply, Driven}
use Rattle.driver.specs.declared.waiting.Waited.{Waited}
use Rattle.driver.specs.Answers.{ending_answer, counted_answer, parts_answer, run_answer, Drove}
use Rattle.driver.proofs.Left.{Left}

module _ (P : Part) (i limit a : ℕ) (bytes : List ℕ) (d : FrameBench) where
  abbrev first : List Act
  first = first_wait P i limit d

  abbrev rested : FrameBench
  rested = acted_all P first d

  abbrev whole : Run
  whole = run P i limit a bytes d

  abbrev Whole : Driven → List ℕ → List ℕ → Type 0
  Whole r m p = Drove P run_answer (run P i limit a bytes) d r m p

  stops : (acts : List Act) (e : Ending) (n : ℕ) (y : FrameBench) → whole ≡ stopped acts e → y ≡ acted_all P acts d → n ≡ sent acts
      → Whole (record { answer = ending_answer e (record { pages = 0; frames = n }); core = y.core }) y.memory y.identification
  stops acts e n y there last counted = rw (there, last, counted) (refl, (refl, refl))

  pub drove_none : length bytes ≡ 0
      → Whole (record { answer = ending_answer all_done (record { pages = 0; frames = 0 }); core = d.core }) d.memory d.identification
  drove_none e = stops [] all_done 0 d (run_none P i limit a bytes d e) refl refl

  -- with data: by what the last poll of the first wait shows
  module _ {w : Waited} {m p : List ℕ} (some : length bytes ≡ 0 → ⊥) (left : Left P first d w m p) where
    runs : {b : Bool} → on (bit_of 0 w.status) ≡ b → running rested.core ≡ b
    runs e = sym (ap (λ (x : FrameBench). running x.core) left.leaves) ∙ sym (seen_wip w.status w.core left.told.1.0) ∙ e

    meets : {b : Bool} → ltb (lowest_shown P w.status) (a + length bytes) ≡ b → touches P rested.core a (length bytes) ≡ b
    meets e =
        sym (ap (λ (x : FrameBench). touches P x.core a (length bytes)) left.leaves)
        ∙ sym (seen_touches w.status w.core left.told.1.0 P a (length bytes))
        ∙ e

    pub drove_late : on (bit_of 0 w.status) ≡ true
        → Whole (record { answer = ending_answer timed_out (record { pages = 0; frames = w.frames }); core = w.core }) m p
    drove_late late =
        stops first timed_out w.frames (frame_bench w.core m p) (run_late P i limit a bytes d some (runs late)) left.leaves left.told.1.1.0

    pub drove_touches : on (bit_of 0 w.status) ≡ false → ltb (lowest_shown P w.status) (a + length bytes) ≡ true
        → Whole (record { answer = ending_answer protected (record { pages = 0; frames = w.frames }); core = w.core }) m p
    drove_touches idle t =
        stops first protected w.frames (frame_bench w.core m p) (run_touches P i limit a bytes d some (runs idle) (meets t)) left.leaves
        left.told.1.1.0

    pub drove_parts : {r : Driven} {m' p' : List ℕ} → on (bit_of 0 w.status) ≡ false → ltb (lowest_shown P w.status) (a + length bytes) ≡ false
        → Drove (own_part w.core) (parts_answer w.frames) (all_parts (own_part w.core) i limit a bytes) (frame_bench w.core m p) r m' p'
        → Whole r m' p'
    drove_parts {r} {m'} {p'} idle t own =
        let e = left.leaves in
        let told : Drove P (parts_answer w.frames) (all_parts P i limit a bytes) (frame_bench w.core m p) r m' p' =
        subst (λ (Q : Part). Drove Q (parts_answer w.frames) (all_parts Q i limit a bytes) (frame_bench w.core m p) r m' p') left.stays own in
        let parts = all_parts P i limit a bytes rested in
        let there : whole ≡ begun first parts = run_parts P i limit a bytes d some (runs idle) (meets t) in
        let after : acted_all P parts.acts rested ≡ acted_all P whole.acts d =
        sym (ap (λ (x : Run). acted_all P x.acts d) there ∙ acted_all_append P first parts.acts d) in
        let answer : parts_answer (sent first) parts ≡ run_answer whole =
        ap (λ (k : ℕ). counted_answer k parts) (sym (sent_append first parts.acts)) ∙ ap run_answer (sym there) in (
          told.0
              ∙ rw (e, left.told.1.1.0)
              (ap (λ (x : RunReply). record { answer = x; core = (acted_all P parts.acts rested).core }) answer
              ∙ ap (λ (x : FrameBench). record { answer = run_answer whole; core = x.core }) after),
          (told.1.0 ∙ rw e (ap (λ (x : FrameBench). x.memory) after), told.1.1 ∙ rw e (ap (λ (x : FrameBench). x.identification) after)),
        )
