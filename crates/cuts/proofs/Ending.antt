-- A cut is what a reading leaves that comes when all the time left is over, of what was chosen; but for the clock, which
-- stays.
use Rattle.std.proofs.Common.{◌≡◌, ℕ, ◌≤◌, Bool, true, leb, List, sym, refl, ap, ◌∙◌, ap₂, arith, le-leb}
use Rattle.laws.specs.Pick.{pick_case, at_yes, and_both}
use Rattle.codes.specs.Part.{Part}
use Rattle.chip.specs.Records.{running, waits_status, waits_lock, with_time, with_blank, without_cycle}
use Rattle.chip.specs.Time.{elapsed, ends, ended, ended_blank, timed, timed_cells, timed_blank, timed_in}
use Rattle.chip.specs.declared.Waiting.{Waiting}
use Rattle.chip.specs.declared.Core.{Core}
use Rattle.cuts.specs.Cuts.{cut_down, cut_core, cut_cells, cut_blank, cut_in}
use Rattle.cuts.specs.declared.Choice.{Choice}

-- the end of a cycle does not move the clock
ended_last : (c : Core) → (ended c).last ≡ c.last
ended_last c =
    pick_case (λ (x : Core). (without_cycle x).last ≡ c.last) (waits_status c.waits) (λ s. refl)
    (λ s. pick_case (λ (x : Core). (without_cycle x).last ≡ c.last) (waits_lock c.waits) (λ k. refl) (λ k. refl))

module _ (h : Choice) (c : Core) (t : ℕ) (runs : running c ≡ true) (passed : elapsed c.last t ≡ c.left) where
  then_over : ends t (cut_down h c) ≡ true
  then_over =
      let late : c.left ≤ elapsed c.last t = omega (arith, passed) in
      and_both (running c) (leb c.left (elapsed c.last t)) runs (le-leb _ _ late)

  pub cut_core_then : (P : Part) (m : List ℕ) → with_time c.last 0 (timed_in P t (cut_down h c) m) ≡ cut_in P h c m
  unfolding timed timed_blank cut_core cut_blank
  cut_core_then P m =
      let x = cut_down h c in
      ap₂ (λ (n : ℕ) (y : Core). with_time c.last 0 (with_blank n y)) (at_yes _ _ then_over) (at_yes _ _ then_over)
      ∙ ap (λ (t : ℕ). with_time t 0 (with_blank (ended_blank P x m) (ended x))) (sym (ended_last x))
      ∙ ap₂ with_blank (sym (at_yes _ _ runs)) (sym (at_yes _ _ runs))

  pub cut_cells_then : (its : Waiting → Bool) (P : Part) (m : List ℕ) → timed_cells its P t (cut_down h c) m ≡ cut_cells its P h c m
  unfolding timed_cells cut_cells
  cut_cells_then its P m = at_yes _ _ then_over ∙ sym (at_yes _ _ runs)
