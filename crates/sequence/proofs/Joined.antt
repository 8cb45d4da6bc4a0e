-- Acts that follow others: a wait after its first poll, a page's wait after its WRITE. What the later ones leave and count from where the first
-- ones ended, all of them leave and count from the start.
use mathlib.Core.Path.{◌≡◌, ap, sym, ◌∙◌}
use mathlib.Core.Bool.{true, false}
use mathlib.Core.List.{List, [], ◌∷◌, ◌++◌}
use Prim.Native.Nat.{ℕ, suc, ◌+◌, ◌-◌, ◌≤◌}
use native.Mathlib.Omega.{arith}
use Rattle.codes.specs.Part.{Part}
use Rattle.chip.specs.Records.{running}
use Rattle.chip.specs.declared.Core.{Core}
use Rattle.frames.specs.Play.{Act, FrameBench, acted, acted_all, frame_bench}
use Rattle.sequence.specs.Sequence.{sent, rdsr, moved, late_poll, polls_on, first_wait, page_wait, wren_and_write, page_acts}
use Rattle.sequence.proofs.Playing.{acted_all_append, sent_append}
use Rattle.frames.proofs.Polls.{poll_leaves}
use Rattle.sequence.proofs.Waits.{polls_on_busy, polls_on_free, sent_most}

pub record Follows (P : Part) (all : List Act) (d : FrameBench) (rest : List Act) (x : FrameBench) (n : ℕ) : Type 0 where
  pub leaves : acted_all P rest x ≡ acted_all P all d
  pub counts : sent rest + n ≡ sent all

-- the rest is made of the device that the first acts leave
pub follows : (P : Part) (first : List Act) (rest : FrameBench → List Act) (d x : FrameBench) → x ≡ acted_all P first d
    → Follows P (first ++ rest (acted_all P first d)) d (rest x) x (sent first)
follows P first rest d x e =
    record {
      leaves = rw e (sym (acted_all_append P first (rest (acted_all P first d)) d));
      counts = rw e (omega (arith, sent_append first (rest (acted_all P first d))));
    }

-- a poll leaves the device as it was
pub rdsr_leaves : (P : Part) (d : FrameBench) → acted P rdsr d ≡ d
rdsr_leaves P d = ap (λ (c : Core). frame_bench c d.memory d.identification) (poll_leaves P d.core)

-- so a poll after moving the clock leaves what the reading leaves
pub late_poll_leaves : (P : Part) (i : ℕ) (d : FrameBench) → acted P (moved i d) d ≡ acted_all P (late_poll i d) d
late_poll_leaves P i d = sym (rdsr_leaves P (acted P (moved i d) d))

module _ (P : Part) (i limit : ℕ) (d x : FrameBench) where
  pub first_wait_law : x ≡ d → Follows P (first_wait P i limit d) d (polls_on P i (limit - 1) x) x 1
  unfolding first_wait
  first_wait_law e = follows P (rdsr ∷ []) (polls_on P i (limit - 1)) d x (e ∙ sym (rdsr_leaves P d))

  -- a page's wait, while a cycle runs, is as many polls as it may make; where the poll finds none, it is that poll
  pub page_busy : 1 ≤ limit → running d.core ≡ true → page_wait P i limit d ≡ polls_on P i limit d
  unfolding page_wait
  page_busy some r =
      let all : suc (limit - 1) ≡ limit = omega arith in
      sym (polls_on_busy P i d (limit - 1) r) ∙ ap (λ (k : ℕ). polls_on P i k d) all

  pub page_idle : running (acted_all P (late_poll i d) d).core ≡ false → page_wait P i limit d ≡ late_poll i d
  unfolding page_wait
  page_idle r = ap (λ (acts : List Act). late_poll i d ++ acts) (polls_on_free P i (acted_all P (late_poll i d) d) (limit - 1) r)

  pub page_acts_law : (a : ℕ) (bytes : List ℕ) → x ≡ acted_all P (wren_and_write P a bytes) d
      → Follows P (page_acts P i limit a bytes d) d (page_wait P i limit x) x 2
  unfolding page_acts
  page_acts_law a bytes e = follows P (wren_and_write P a bytes) (page_wait P i limit) d x e

-- ---- a wait ends within its limit

module _ (P : Part) (i limit : ℕ) (d : FrameBench) (some : 1 ≤ limit) where
  pub first_most : sent (first_wait P i limit d) ≤ limit
  unfolding first_wait
  first_most = omega (arith, sent_most P i (limit - 1) (acted P rdsr d))

  pub page_most : sent (page_wait P i limit d) ≤ limit
  unfolding page_wait
  page_most =
      omega (arith, sent_append (late_poll i d) (polls_on P i (limit - 1) (acted_all P (late_poll i d) d)), sent_most P i (limit - 1) (acted_all P (late_poll i d) d))

-- and a page's frames are two more
pub acts_most : (P : Part) (i limit a : ℕ) (bytes : List ℕ) (d : FrameBench) → 1 ≤ limit → sent (page_acts P i limit a bytes d) ≤ limit + 2
unfolding page_acts
acts_most P i limit a bytes d h =
    let begun = acted_all P (wren_and_write P a bytes) d in
    omega (arith, sent_append (wren_and_write P a bytes) (page_wait P i limit begun), page_most P i limit begun h)
