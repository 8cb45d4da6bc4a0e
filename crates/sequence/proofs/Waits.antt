-- A turn of a wait: what is left to do after a poll.
use mathlib.Core.Path.{◌≡◌, refl, ap, sym, ◌∙◌}
use mathlib.Core.Bool.{true, false, ◌&&◌}
use mathlib.Core.List.{List, [], ◌++◌}
use Prim.Native.Nat.{ℕ, zero, suc, ◌+◌, ◌-◌, ◌<◌, ◌≤◌}
use native.Mathlib.Decide.{dec_lt}
use native.Mathlib.Omega.{arith}
use lib.Dec.{ltb}
use borrow.Author.Tests.{lt-ltb}
use Rattle.laws.specs.Pick.{at_yes, at_no, pick_case}
use Rattle.laws.specs.And.{and_other}
use Rattle.codes.specs.Part.{Part}
use Rattle.chip.specs.Records.{running}
use Rattle.frames.specs.Play.{Act, FrameBench, acted_all}
use Rattle.sequence.specs.Sequence.{sent, late_poll, polls_on}
use Rattle.sequence.proofs.Playing.{acted_all_append, sent_append}

module _ (P : Part) (i : ℕ) (d : FrameBench) where
  -- the device after a poll
  abbrev polled : FrameBench
  polled = acted_all P (late_poll i d) d

  pub polls_on_busy : (k : ℕ) → running d.core ≡ true → polls_on P i (suc k) d ≡ late_poll i d ++ polls_on P i k polled
  unfolding polls_on
  polls_on_busy k e = at_yes _ _ e

  -- no cycle runs, or no poll is left
  pub polls_on_free : (k : ℕ) → running d.core ≡ false → polls_on P i k d ≡ []
  unfolding polls_on
  polls_on_free zero e = refl
  polls_on_free (suc k) e = at_no _ _ e

  pub polls_on_none : (k : ℕ) → k ≡ 0 → polls_on P i k d ≡ []
  unfolding polls_on
  polls_on_none k e = rw e refl

  -- what a poll leaves to be played, and to be counted
  pub acted_all_busy : (j k : ℕ) → j ≡ suc k → running d.core ≡ true → acted_all P (polls_on P i j d) d ≡ acted_all P (polls_on P i k polled) polled
  acted_all_busy j k e r =
      ap (λ (n : ℕ). acted_all P (polls_on P i n d) d) e
      ∙ ap (λ (acts : List Act). acted_all P acts d) (polls_on_busy k r)
      ∙ acted_all_append P (late_poll i d) (polls_on P i k polled) d

  pub sent_busy : (j k : ℕ) → j ≡ suc k → running d.core ≡ true → sent (polls_on P i j d) ≡ 1 + sent (polls_on P i k polled)
  sent_busy j k e r =
      ap (λ (n : ℕ). sent (polls_on P i n d)) e ∙ ap sent (polls_on_busy k r) ∙ sent_append (late_poll i d) (polls_on P i k polled)

-- a wait makes at most the polls that are left
pub sent_most : (P : Part) (i k : ℕ) (d : FrameBench) → sent (polls_on P i k d) ≤ k
unfolding polls_on
sent_most P i zero d = omega arith
sent_most P i (suc k) d =
    pick_case (λ (acts : List Act). sent acts ≤ suc k) (running d.core)
    (λ r. let rest = sent_most P i k (acted_all P (late_poll i d) d) in omega (arith, sent_append (late_poll i d) (polls_on P i k (acted_all P (late_poll i d) d))))
    (λ r. omega arith)

-- ---- the loop that waits: n polls made of those that were left at the start

-- it is over where no poll is left, or no cycle runs
pub is_over : (P : Part) (i n left : ℕ) (d : FrameBench) → (ltb n left && running d.core) ≡ false → polls_on P i (left - n) d ≡ []
is_over P i n left d t = elim (dec_lt n left) [
  | yes h ↦ polls_on_free P i d (left - n) (and_other (ltb n left) (running d.core) t (lt-ltb n left h))
  | no h ↦ polls_on_none P i d (left - n) (omega arith)
]

-- what is left to do is what there was to do from d₀ on
pub record Onward (P : Part) (i left : ℕ) (d₀ : FrameBench) (n : ℕ) (d : FrameBench) : Type 0 where
  pub leaves : acted_all P (polls_on P i (left - n) d) d ≡ acted_all P (polls_on P i left d₀) d₀
  pub counts : n + sent (polls_on P i (left - n) d) ≡ sent (polls_on P i left d₀)

module _ (P : Part) (i left : ℕ) (d₀ : FrameBench) where
  pub onward_next : (n : ℕ) (d d' : FrameBench) → d' ≡ acted_all P (late_poll i d) d → n < left → running d.core ≡ true
      → Onward P i left d₀ n d → Onward P i left d₀ (n + 1) d'
  onward_next n d d' e h r o =
      let one : left - n ≡ suc (left - (n + 1)) = omega arith in
      record {
        leaves = rw e (sym (acted_all_busy P i d (left - n) (left - (n + 1)) one r) ∙ o.leaves);
        counts = rw e (omega (arith, sent_busy P i d (left - n) (left - (n + 1)) one r, o.counts));
      }

  pub onward_last : (n : ℕ) (d : FrameBench) → polls_on P i (left - n) d ≡ [] → Onward P i left d₀ n d
      → (d ≡ acted_all P (polls_on P i left d₀) d₀) × (n ≡ sent (polls_on P i left d₀))
  onward_last n d e o =
      (sym (ap (λ (acts : List Act). acted_all P acts d) e) ∙ o.leaves, omega (arith, ap sent e, o.counts))
