-- Frames that are all executed: lists one after the other, and the polls of a wait.
use mathlib.Core.Path.{◌≡◌, refl}
use mathlib.Core.Bool.{true}
use mathlib.Core.List.{List, [], ◌∷◌, ◌++◌}
use Prim.Native.Nat.{ℕ, zero, suc, ◌-◌}
use Rattle.laws.specs.Pick.{pick, pick_case, and_left, and_right, and_both}
use Rattle.codes.specs.Part.{Part}
use Rattle.codes.specs.Instructions.{decode}
use Rattle.codes.specs.Verdicts.{is_executed, verdict_by}
use Rattle.chip.specs.Records.{running}
use Rattle.chip.specs.declared.Core.{Core}
use Rattle.frames.specs.After.{judged}
use Rattle.frames.specs.Play.{Act, frame, reading, FrameBench, acted, acted_all}
use Rattle.sequence.specs.Sequence.{rdsr, moved, late_poll, polls_on, first_wait, page_wait}
use Rattle.sequence.specs.Counts.{all_executed}

pub executed_append : (P : Part) (xs ys : List Act) (d : FrameBench) → all_executed P xs d ≡ true → all_executed P ys (acted_all P xs d) ≡ true
    → all_executed P (xs ++ ys) d ≡ true
executed_append P [] ys d p q = q
executed_append P (frame w s n ∷ xs) ys d p q =
    let this = is_executed (judged P (running d.core) w d.core s n) in
    let next = acted P (frame w s n) d in
    and_both this (all_executed P (xs ++ ys) next) (and_left this (all_executed P xs next) p)
    (executed_append P xs ys next (and_right this (all_executed P xs next) p) q)
executed_append P (reading t ∷ xs) ys d p q = executed_append P xs ys (acted P (reading t) d) p q

-- RDSR is executed always
polled : (P : Part) (c : Core) → is_executed (judged P (running c) true c (0x05 ∷ 0x00 ∷ []) 16) ≡ true
unfolding decode verdict_by pick
polled P c = refl

module _ (P : Part) (i : ℕ) where
  late : (d : FrameBench) → all_executed P (late_poll i d) d ≡ true
  late d = and_both _ true (polled P (acted P (moved i d) d).core) refl

  polls : (k : ℕ) (d : FrameBench) → all_executed P (polls_on P i k d) d ≡ true
  unfolding polls_on
  polls zero d = refl
  polls (suc k) d =
      pick_case (λ (acts : List Act). all_executed P acts d ≡ true) (running d.core)
      (λ r. executed_append P (late_poll i d) (polls_on P i k (acted_all P (late_poll i d) d)) d (late d) (polls k (acted_all P (late_poll i d) d)))
      (λ r. refl)

  late_and_polls : (k : ℕ) (d : FrameBench) → all_executed P (late_poll i d ++ polls_on P i k (acted_all P (late_poll i d) d)) d ≡ true
  late_and_polls k d =
      executed_append P (late_poll i d) (polls_on P i k (acted_all P (late_poll i d) d)) d (late d) (polls k (acted_all P (late_poll i d) d))

  pub first_executed : (limit : ℕ) (d : FrameBench) → all_executed P (first_wait P i limit d) d ≡ true
  unfolding first_wait
  first_executed limit d = and_both _ _ (polled P d.core) (polls (limit - 1) (acted P rdsr d))

  pub wait_executed : (limit : ℕ) (d : FrameBench) → all_executed P (page_wait P i limit d) d ≡ true
  unfolding page_wait
  wait_executed limit d = late_and_polls _ d
