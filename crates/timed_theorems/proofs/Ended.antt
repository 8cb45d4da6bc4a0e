-- Readings in a row: a cycle that runs after them ran before them; one of them ends a cycle exactly where one ran before them and none runs after them; and
-- they change a cell only where one ends a cycle for which it waited at the start.
use Prim.Native.Nat.{ℕ, suc, ◌-◌, ◌/◌, ◌<◌}
use mathlib.Core.Bool.{Bool, true, false, not, ◌&&◌, ◌||◌}
use mathlib.Core.List.{List, [], ◌∷◌}
use mathlib.Core.Path.{◌≡◌, refl, ap, sym, ◌∙◌}
use native.Mathlib.Omega.{arith}
use lib.ListN.{length, get_or}
use lib.Dec.{leb}
use borrow.Author.Tests.{le-ltb, lt-ltb, leb-false}
use Rattle.laws.specs.Pick.{pick, at_no, and_left, and_both, and_no_left}
use Rattle.laws.specs.And.{never, and_other, or_left}
use Rattle.codes.specs.Part.{Part}
use Rattle.latch.specs.Latches.{byte_at}
use Rattle.chip.specs.Cells.{Cells, memory_cells, identification_cells, cell_count, offset, awaited_in}
use Rattle.chip.specs.Records.{running}
use Rattle.chip.specs.Time.{elapsed, ends, timed}
use Rattle.chip.specs.declared.Core.{Core}
use Rattle.chip.proofs.Within.{Within}
use Rattle.chip.proofs.Passing.{lent_rule, over_left}
use Rattle.chip.proofs.Recounts.{timed_in_within, timed_on}
use Rattle.chip.proofs.Awaiting.{timed_awaits}
use Rattle.frames.specs.Play.{reading, FrameBench, acted, lent_cells}
use Rattle.frames.proofs.CellRule.{read_cells_law}
use Rattle.timed_frames.specs.Schedules.{passed, bench_at}
use Rattle.timed_frames.specs.InTime.{ran_in, last_of}
use Rattle.timed_frames.proofs.Walks.{walk_on}
use Rattle.timed_frames.proofs.Calm.{one_calm, passed_calm}
use Rattle.timed_frames.proofs.Passed.{passed_keeps, read_length}
use Rattle.timed_theorems.specs.Acts.{ends_any}

module _ (P : Part) where
  -- a cycle that runs at deselect ran at the eighth edge: no reading begins one
  pub last_ran : (ps ts : List ℕ) (b : FrameBench) (n : ℕ) → running (last_of P ps ts b n).core ≡ true → ran_in P ps ts b ≡ true
  last_ran ps ts b n runs = by (ran_in P ps ts b) refl
    where
      by : (r : Bool) → ran_in P ps ts b ≡ r → ran_in P ps ts b ≡ true
      by true e = e
      by false e =
          absurd (never runs (ap (λ (x : FrameBench). running x.core) (sym (walk_on P ps ts b 1 (suc (n / 8)) (omega arith)))
          ∙ (passed_calm P _ (bench_at P ps ts b 1) e).idle))

-- ---- where one of them ends a cycle

over_idle : (P : Part) (t : ℕ) (b : FrameBench) → ends t b.core ≡ true → running (acted P (reading t) b).core ≡ false
over_idle P t b e = le-ltb 0 (timed t b.core).left (omega (arith, over_left P t b.core e))

on_running : (P : Part) (t : ℕ) (b : FrameBench) → ends t b.core ≡ false → running (acted P (reading t) b).core ≡ running b.core
on_running P t b e = by (running b.core) refl
  where
    c : Core
    c = b.core

    by : (r : Bool) → running b.core ≡ r → running (acted P (reading t) b).core ≡ running b.core
    by false idle = (one_calm P t b idle).idle ∙ sym idle
    by true runs =
        let late = and_other (running c) (leb c.left (elapsed c.last t)) e runs in
        let early : elapsed c.last t < c.left = leb-false c.left (elapsed c.last t) late in
        ap running (timed_on P t c b.memory e) ∙ lt-ltb 0 (c.left - elapsed c.last t) (omega (arith, early)) ∙ sym runs

-- one of them does exactly where a cycle ran before them and none runs after them
pub ends_any_law : (P : Part) (ts : List ℕ) (b : FrameBench) → ends_any P ts b ≡ (running b.core && not (running (passed P ts b).core))
unfolding passed ends_any
ends_any_law P [] b = none (running b.core)
  where
    none : (r : Bool) → false ≡ (r && not r)
    none true = refl
    none false = refl
ends_any_law P (t ∷ ts) b = by (ends t b.core) refl (ends_any_law P ts (acted P (reading t) b))
  where
    next : FrameBench
    next = acted P (reading t) b

    by : (over : Bool) → ends t b.core ≡ over → ends_any P ts next ≡ (running next.core && not (running (passed P ts next).core))
        → (ends t b.core || ends_any P ts next) ≡ (running b.core && not (running (passed P ts next).core))
    by true e more =
        let ran = and_left (running b.core) (leb b.core.left (elapsed b.core.last t)) e in
        let idle = (passed_calm P ts next (over_idle P t b e)).idle in
        or_left (ends t b.core) (ends_any P ts next) e ∙ sym (and_both (running b.core) (not (running (passed P ts next).core)) ran (ap not idle))
    by false e more =
        ap (λ (x : Bool). x || ends_any P ts next) e ∙ more
        ∙ ap (λ (x : Bool). x && not (running (passed P ts next).core)) (on_running P t b e)

-- ---- the lent cells k: the memory's, or the identification page's

pub passed_awaits : (k : Cells) (P : Part) (i : ℕ) (ts : List ℕ) (b : FrameBench) → awaited_in k P b.core i ≡ false
    → awaited_in k P (passed P ts b).core i ≡ false
passed_awaits k P i = passed_keeps P (λ b. awaited_in k P b.core i ≡ false) (λ t b e. timed_awaits k P t b.core i e)

-- where no cycle runs they stay
calm_cells : (k : Cells) (P : Part) (ts : List ℕ) (b : FrameBench) → running b.core ≡ false → lent_cells k (passed P ts b) ≡ lent_cells k b
calm_cells memory_cells P ts b e = (passed_calm P ts b e).memory
calm_cells identification_cells P ts b e = (passed_calm P ts b e).identification

-- the byte that waits for cell i
abbrev pub coming : Part → ℕ → Core → ℕ
coming P i c = byte_at c.waits.latch (offset P c i)

module _ (k : Cells) (P : Part) (i : ℕ) (below : i < cell_count k P) where
  pub passed_cell : (ts : List ℕ) (b : FrameBench) → length (lent_cells k b) ≡ cell_count k P → Within P b.core
      → get_or (lent_cells k (passed P ts b)) i 0 ≡ pick (ends_any P ts b && awaited_in k P b.core i) (coming P i b.core) (get_or (lent_cells k b) i 0)
  unfolding passed ends_any
  passed_cell [] b size r = sym (at_no _ _ (and_no_left false (awaited_in k P b.core i) refl))
  passed_cell (t ∷ ts) b size r =
      by (ends t b.core) refl
      (passed_cell ts (acted P (reading t) b) (read_length k P t b ∙ size) (timed_in_within P t b.core b.memory r))
    where
      next : FrameBench
      next = acted P (reading t) b

      stays : ℕ
      stays = get_or (lent_cells k b) i 0

      one : get_or (lent_cells k next) i 0 ≡ pick (ends t b.core && awaited_in k P b.core i) (coming P i b.core) stays
      one = ap (λ (m : List ℕ). get_or m i 0) (read_cells_law k P t b) ∙ lent_rule P t b.core r k (lent_cells k b) size i below

      by : (over : Bool) → ends t b.core ≡ over
          → get_or (lent_cells k (passed P ts next)) i 0
          ≡ pick (ends_any P ts next && awaited_in k P next.core i) (coming P i next.core) (get_or (lent_cells k next) i 0)
          → get_or (lent_cells k (passed P ts next)) i 0
          ≡ pick ((ends t b.core || ends_any P ts next) && awaited_in k P b.core i) (coming P i b.core) stays
      by true e more =
          ap (λ (m : List ℕ). get_or m i 0) (calm_cells k P ts next (over_idle P t b e)) ∙ one
          ∙ ap (λ (x : Bool). pick (x && awaited_in k P b.core i) (coming P i b.core) stays)
          (e ∙ sym (or_left (ends t b.core) (ends_any P ts next) e))
      by false e more =
          let core = timed_on P t b.core b.memory e in
          let same : awaited_in k P next.core i ≡ awaited_in k P b.core i = ap (λ (c : Core). awaited_in k P c i) core in
          let byte : coming P i next.core ≡ coming P i b.core = ap (coming P i) core in
          let cell : get_or (lent_cells k next) i 0 ≡ stays = one ∙ at_no _ _ (and_no_left (ends t b.core) (awaited_in k P b.core i) e) in
          let neither : ends_any P ts next ≡ (ends t b.core || ends_any P ts next) = sym (ap (λ (x : Bool). x || ends_any P ts next) e) in
          more ∙ (λ j. pick (neither j && same j) (byte j) (cell j))
