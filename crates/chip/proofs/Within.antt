-- Inside the ranges: what the test says, part by part; and that a device with no cycle, and one whose cycle runs on, are inside them.
use Rattle.std.proofs.Common.{◌≡◌, ℕ, ◌<◌, ◌≤◌, Bool, true, false, ◌&&◌, ltb, leb, refl, ap, ◌∙◌, arith, ltb-false, ltb-true, le-ltb, lt-ltb, eq-eqb, le-leb, leb-true}
use Rattle.laws.specs.Pick.{pick, at_no, and_left, and_right, and_both}
use Rattle.codes.specs.Part.{Part}
use Rattle.latch.proofs.Fitting.{none_latched}
use Rattle.chip.specs.Records.{nothing, with_time}
use Rattle.chip.specs.Ranges.{flags_fit, cycle_fits, time_fits, tied, wait_fits, blank_fits, in_ranges}
use Rattle.chip.specs.declared.Core.{Core}

pub record Within (P : Part) (c : Core) : Type 0 where
  pub flags : flags_fit c ≡ true
  pub cycle : cycle_fits P c.cycle ≡ true
  pub left : c.left ≤ c.cycle
  pub tie : tied P c ≡ true
  pub waits : wait_fits P c.waits ≡ true
  pub blank : c.blank ≤ P.size

module _ (P : Part) (c : Core) where
  pub within : in_ranges P c ≡ true → Within P c
  unfolding in_ranges
  within e =
      let all = and_left (flags_fit c && time_fits P c && tied P c && wait_fits P c.waits) (blank_fits P c) e in
      let fts = and_left (flags_fit c && time_fits P c && tied P c) (wait_fits P c.waits) all in
      let ft = and_left (flags_fit c && time_fits P c) (tied P c) fts in
      let t = and_right (flags_fit c) (time_fits P c) ft in
      record {
        flags = and_left (flags_fit c) (time_fits P c) ft;
        cycle = and_left (cycle_fits P c.cycle) (leb c.left c.cycle) t;
        left = leb-true _ _ (and_right (cycle_fits P c.cycle) (leb c.left c.cycle) t);
        tie = and_right (flags_fit c && time_fits P c) (tied P c) fts;
        waits = and_right (flags_fit c && time_fits P c && tied P c) (wait_fits P c.waits) all;
        blank = leb-true _ _ (and_right (flags_fit c && time_fits P c && tied P c && wait_fits P c.waits) (blank_fits P c) e);
      }

  pub in_ranges_law : Within P c → in_ranges P c ≡ true
  unfolding in_ranges
  in_ranges_law w =
      and_both (flags_fit c && time_fits P c && tied P c && wait_fits P c.waits) (blank_fits P c)
      (and_both (flags_fit c && time_fits P c && tied P c) (wait_fits P c.waits)
      (and_both (flags_fit c && time_fits P c) (tied P c)
      (and_both (flags_fit c) (time_fits P c) w.flags (and_both (cycle_fits P c.cycle) (leb c.left c.cycle) w.cycle (le-leb _ _ w.left)))
      w.tie) w.waits) (le-leb _ _ w.blank)

-- ---- nothing waits

pub nothing_fits : (P : Part) → wait_fits P nothing ≡ true
unfolding pick
nothing_fits P = none_latched P false

-- the tie of a device with no time left
pub quiet_tie : (P : Part) (c : Core) → c.left ≡ 0 → c.waits.kind ≡ 0 → tied P c ≡ true
quiet_tie P c l k = at_no _ _ (le-ltb 0 c.left (omega arith)) ∙ eq-eqb _ _ k

-- a device with no cycle and nothing that waits
pub quiet_within : (P : Part) (c : Core) → flags_fit c ≡ true → cycle_fits P c.cycle ≡ true → c.left ≡ 0 → c.waits ≡ nothing → c.blank ≤ P.size
    → Within P c
quiet_within P c f y l w b =
    record {
      flags = f;
      cycle = y;
      left = omega arith;
      tie = quiet_tie P c l (ap (λ x. x.kind) w);
      waits = ap (wait_fits P) w ∙ nothing_fits P;
      blank = b;
    }

-- a cycle that runs on, or none: as much is left or less, and some where some was
pub runs_within : (P : Part) (c : Core) (t n : ℕ) → n ≤ c.left → (0 < c.left → 0 < n) → Within P c → Within P (with_time t n c)
runs_within P c t n h k w =
    record {
      flags = w.flags;
      cycle = w.cycle;
      left = omega (arith, w.left);
      tie = rw same_run w.tie;
      waits = w.waits;
      blank = w.blank;
    }
  where
    go : (b : Bool) → ltb 0 c.left ≡ b → ltb 0 n ≡ b
    go true e = lt-ltb 0 n (k (ltb-true 0 c.left e))
    go false e = le-ltb 0 n (omega (arith, ltb-false 0 c.left e))

    same_run : ltb 0 n ≡ ltb 0 c.left
    same_run = go (ltb 0 c.left) refl
