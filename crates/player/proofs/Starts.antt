-- What a text starts from: its record is of the part's row, its number of blank cells is right, and on each part it is what power-up gives with lock and
-- status bits 0, the longest cycle and reading 0. A refused power-up leaves another: no cell counted.
use mathlib.Core.Path.{◌≡◌, refl, ap, sym, ◌∙◌}
use mathlib.Core.Bool.{true, false}
use Prim.Native.Nat.{ℕ}
use borrow.Author.Tests.{eq-eqb}
use Rattle.laws.specs.Pick.{pick_case, at_yes}
use Rattle.codes.specs.Part.{part_of, is_part}
use Rattle.codes.proofs.Parts.{row_plain, row_none}
use Rattle.chip.specs.Records.{own_part}
use Rattle.chip.specs.Blanks.{Counted}
use Rattle.chip.specs.Power.{quiet, delivered, delivered_memory}
use Rattle.chip.specs.declared.Core.{Core}
use Rattle.chip.specs.declared.Answered.{Answered}
use Rattle.codes.specs.declared.Refusal.{Refusal}
use Rattle.chip.proofs.Cases.{longest_fits, delivered_size, delivered_blanks}
use Rattle.pins.specs.Devices.{resting}
use Rattle.pins.specs.Answers.{powered}
use Rattle.player.specs.Players.{start_bench}

-- the number that is held has the row of the one that is given
pub start_row : (n : ℕ) → own_part (delivered n) ≡ part_of n
start_row n =
    pick_case (λ (c : Core). own_part c ≡ part_of n) (is_part n) (λ e. refl) (λ e. row_plain ∙ sym (row_none n e))

pub start_counted : (n : ℕ) → Counted (start_bench n).device.core (start_bench n).memory
start_counted n =
    pick_case (λ (c : Core). Counted c (delivered_memory (part_of n))) (is_part n) (λ e. sym (delivered_blanks (part_of n)))
    (λ e. ap (λ P. P.size) (row_plain ∙ sym (row_none n e)) ∙ sym (delivered_blanks (part_of n)))

pub start_powered : (n : ℕ) → is_part n ≡ true
    → (powered n false (part_of n).longest false false false 0 (delivered_memory (part_of n))).device ≡ (start_bench n).device
start_powered n e =
    let its : Answered (Unit {0}) Refusal → Core = λ x. x.core in
    ap resting
    (ap its (at_yes _ _ (eq-eqb _ _ (delivered_size n)) ∙ at_yes _ _ e ∙ at_yes _ _ (longest_fits n))
    ∙ ap (quiet n) (delivered_blanks (part_of n))
    ∙ sym (at_yes _ _ e))
