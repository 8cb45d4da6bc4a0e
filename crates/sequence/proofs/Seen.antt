-- What the status byte that a poll sees says of the device: WIP is its lowest bit, BP1 and BP0 are bits 3 and 2.
use mathlib.Core.Path.{◌≡◌, ap, ◌∙◌}
use mathlib.Core.Bool.{Bool, true, false}
use Prim.Native.Nat.{ℕ, ◌+◌, ◌≤◌}
use native.Mathlib.Omega.{arith}
use lib.Dec.{ltb}
use Rattle.laws.specs.Flags.{on_bit}
use Rattle.codes.specs.Part.{Part}
use Rattle.codes.specs.Protect.{lowest_protected}
use Rattle.codes.specs.Status.{bit, on, bit_of}
use Rattle.chip.specs.Records.{running, status}
use Rattle.chip.specs.Questions.{lowest}
use Rattle.chip.specs.declared.Core.{Core}
use Rattle.sequence.specs.Sequence.{lowest_shown, touches}

bit_most : (b : Bool) → bit b ≤ 1
bit_most true = omega arith
bit_most false = omega arith

module _ (s : ℕ) (c : Core) (e : s ≡ status c) where
  pub seen_wip : on (bit_of 0 s) ≡ running c
  seen_wip =
      let low : bit_of 0 (status c) ≡ bit (running c) = omega (arith, bit_most (running c)) in
      ap (λ (v : ℕ). on (bit_of 0 v)) e ∙ ap on low ∙ on_bit (running c)

  -- BP1 and BP0 in it are the record's
  pub seen_lowest : (P : Part) → lowest_shown P s ≡ lowest P c
  seen_lowest P =
      let wip = bit_most (running c) in
      let wel = bit_most (on c.wel) in
      let low = bit_most (on c.bp0) in
      let high = bit_most (on c.bp1) in
      let bit3 : bit_of 3 (status c) ≡ bit (on c.bp1) = omega arith in
      let bit2 : bit_of 2 (status c) ≡ bit (on c.bp0) = omega arith in
      ap (lowest_shown P) e
      ∙ ap (λ (v : ℕ). lowest_protected P (on v) (on (bit_of 2 (status c)))) bit3
      ∙ ap (λ (v : ℕ). lowest_protected P (on (bit (on c.bp1))) (on v)) bit2
      ∙ rw (on_bit (on c.bp1), on_bit (on c.bp0))

  pub seen_touches : (P : Part) (a n : ℕ) → ltb (lowest_shown P s) (a + n) ≡ touches P c a n
  seen_touches P a n = ap (λ (v : ℕ). ltb v (a + n)) (seen_lowest P)
