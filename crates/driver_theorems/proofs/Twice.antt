-- The same write sent twice, both done, leaves the memory and the identification page of one: from any start that the driver accepts, a
-- running cycle included; interval and limit may differ.
use Rattle.std.specs.Prelude.{Err, Ok}
use mathlib.Core.Path.{◌≡◌, refl, ap, sym, ◌∙◌}
use mathlib.Core.Bool.{true}
use mathlib.Core.List.{List}
use Prim.Native.Nat.{ℕ, ◌+◌, ◌^◌, ◌<◌}
use native.Mathlib.Decide.{dec_lt, ℕ_discrete}
use native.Mathlib.Omega.{arith}
use lib.ListN.{length}
use lib.Seq.{ext_get_or}
use borrow.Author.Tests.{le-ltb}
use Rattle.laws.specs.Pick.{pick, at_yes, at_no, pick_same}
use Rattle.codes.specs.Part.{Part}
use Rattle.codes.specs.Refusals.{Outcome, is_done, no_refusal}
use Rattle.codes.proofs.Sound.{Sound}
use Rattle.chip.specs.declared.Core.{Core}
use Rattle.frames.specs.Play.{frame_bench, acted_all}
use Rattle.sequence.specs.Ready.{Ready}
use Rattle.sequence.specs.Sequence.{Ending, all_done, timed_out, protected, Run, run}
use Rattle.driver.specs.Answers.{ending_answer, run_reply, drive_outcome, driven, driven_memory, driven_identification}
use Rattle.driver.specs.declared.Sent.{Sent}
use Rattle.driver.proofs.Outcomes.{taken}
use Rattle.sequence.proofs.Ways.{run_none}
use Rattle.sequence.specs.Counts.{overwritten, once_ended, once_ended_identification}
use Rattle.sequence.proofs.Results.{Given, run_done}
use Rattle.sequence.proofs.Stored.{overwritten_length, overwritten_in, overwritten_below, overwritten_past}

-- ---- bytes written over themselves

module _ (a : ℕ) (bytes m : List ℕ) where
  abbrev once : List ℕ
  once = overwritten a bytes m

  pub overwritten_twice : overwritten a bytes once ≡ once
  overwritten_twice =
      ext_get_or 0 _ _ (overwritten_length a bytes once)
      (λ j h.
      let long = overwritten_length a bytes m in
      let again : j < length once = rw (sym (overwritten_length a bytes once)) h in
      let below : j < length m = omega (arith, again, long) in
      elim (dec_lt j a) [
        | yes p ↦ overwritten_below a bytes once j again p
        | no p ↦ elim (dec_lt j (a + length bytes)) [
          | yes q ↦ overwritten_in a bytes once j again (omega arith) q ∙ sym (overwritten_in a bytes m j below (omega arith) q)
          | no q ↦ overwritten_past a bytes once j again (omega arith)
        ]
      ])

-- ---- an answer that says done

ending_done : (x : Ending) (t s : Sent) → ending_answer x t ≡ Ok s → x ≡ all_done
ending_done all_done t s e = refl
ending_done timed_out t s e = absurd cc
ending_done protected t s e = absurd cc

reply_done : (o : Outcome) (r : Run) (s : Sent) → run_reply o r ≡ Ok s → (o ≡ no_refusal) × (r.ending ≡ all_done)
reply_done (Ok _) r s e = (refl, ending_done r.ending _ s e)
reply_done (Err f) r s e = absurd cc

-- ---- what a run that is done leaves

module _ (P : Part) (sound : Sound P) (a : ℕ) (bytes : List ℕ) where
  module _ (c : Core) (m page : List ℕ) (i limit : ℕ) (s : Sent) (done : (driven P c m page a bytes i limit).answer ≡ Ok s) where
    abbrev found : Outcome
    found = drive_outcome P c (length m) (length page) a (length bytes) i limit

    abbrev went : Run
    went = run P i limit a bytes (frame_bench c m page)

    says : (found ≡ no_refusal) × (went.ending ≡ all_done)
    unfolding driven
    says = reply_done found went s done

    is_done_law : is_done found ≡ true
    is_done_law = ap is_done says.0

    -- no data: the memory and the identification page as they were
    pub none_left : length bytes ≡ 0 → driven_memory P c m page a bytes i limit ≡ m
    unfolding driven_memory
    none_left e =
        ap (λ (r : Run). pick (is_done found) (acted_all P r.acts (frame_bench c m page)).memory m) (run_none P i limit a bytes (frame_bench c m page) e)
        ∙ pick_same (is_done found) m

    none_page : length bytes ≡ 0 → driven_identification P c m page a bytes i limit ≡ page
    unfolding driven_identification
    none_page e =
        ap (λ (r : Run). pick (is_done found) (acted_all P r.acts (frame_bench c m page)).identification page)
        (run_none P i limit a bytes (frame_bench c m page) e)
        ∙ pick_same (is_done found) page

    -- it was not refused
    pub begun : Ready P (frame_bench c m page)
    begun = (taken P c m page a (length bytes) i limit {o = found} refl says.0).ready

    given : c.last < 2 ^ 32 → 0 < length bytes → Given P i limit a bytes (frame_bench c m page)
    given low some =
        let t = taken P c m page a (length bytes) i limit {o = found} refl says.0 in
        record {
          ready = begun;
          low = low;
          interval_some = t.interval_some;
          interval_most = t.interval_most;
          limit_some = t.limits.0;
          inside = t.inside;
          carries = some;
        }

    -- data: the bytes in their cells, over what a running cycle leaves; the identification page as that leaves it; and no cycle
    module _ (low : c.last < 2 ^ 32) (some : 0 < length bytes) where
      pub memory_left : driven_memory P c m page a bytes i limit ≡ overwritten a bytes (once_ended P c m)
      unfolding driven_memory
      memory_left =
          at_yes _ _ is_done_law ∙ (run_done P sound i limit a bytes (frame_bench c m page) (given low some) says.1).memory

      page_left : driven_identification P c m page a bytes i limit ≡ once_ended_identification P c page
      unfolding driven_identification
      page_left =
          at_yes _ _ is_done_law ∙ (run_done P sound i limit a bytes (frame_bench c m page) (given low some) says.1).identification

      idle_left : (driven P c m page a bytes i limit).core.left ≡ 0
      unfolding driven
      idle_left =
          ap (λ (d : Core). d.left) (at_yes (acted_all P went.acts (frame_bench c m page)).core c is_done_law)
          ∙ (run_done P sound i limit a bytes (frame_bench c m page) (given low some) says.1).left

  -- ---- twice

  module _ (c : Core) (m page : List ℕ) (i limit j most : ℕ) (s t : Sent) where
    abbrev first_core : Core
    first_core = (driven P c m page a bytes i limit).core

    abbrev first_memory : List ℕ
    first_memory = driven_memory P c m page a bytes i limit

    abbrev first_page : List ℕ
    first_page = driven_identification P c m page a bytes i limit

    module _ (low : c.last < 2 ^ 32) (one : (driven P c m page a bytes i limit).answer ≡ Ok s) (low_again : first_core.last < 2 ^ 32)
        (two : (driven P first_core first_memory first_page a bytes j most).answer ≡ Ok t) where
      pub run_twice : driven_memory P first_core first_memory first_page a bytes j most ≡ first_memory
      run_twice = elim (ℕ_discrete (length bytes) 0) [
        | yes none ↦ none_left first_core first_memory first_page j most t two none
        | no none ↦
            let some : 0 < length bytes = omega arith in
            let left = idle_left c m page i limit s one low some in
            let once = memory_left c m page i limit s one low some in
            let idle : once_ended P first_core first_memory ≡ first_memory = at_no _ _ (le-ltb 0 first_core.left (omega arith)) in
            memory_left first_core first_memory first_page j most t two low_again some
            ∙ ap (overwritten a bytes) (idle ∙ once)
            ∙ overwritten_twice a bytes (once_ended P c m)
            ∙ sym once
      ]

      pub run_twice_identification : driven_identification P first_core first_memory first_page a bytes j most ≡ first_page
      run_twice_identification = elim (ℕ_discrete (length bytes) 0) [
        | yes none ↦ none_page first_core first_memory first_page j most t two none
        | no none ↦
            let some : 0 < length bytes = omega arith in
            let left = idle_left c m page i limit s one low some in
            page_left first_core first_memory first_page j most t two low_again some ∙ at_no _ _ (le-ltb 0 first_core.left (omega arith))
      ]
