-- How many cells a cycle will touch: an answer with its number and its value; and 0 where no latched bytes wait.
use Rattle.codes.specs.declared.Refusal.{Refusal}
use Rattle.std.specs.Prelude.{Err, Ok, Result}
use Rattle.codes.specs.Refusals.{number, value_of}
use Rattle.std.proofs.Common.{◌≡◌, ℕ, Bool, true, false, ◌&&◌, sym, refl, ap, ◌∙◌}
use Rattle.laws.specs.Pick.{yes_so, no_so, and_right}
use Rattle.laws.specs.Count.{count}
use Rattle.codes.specs.Part.{Part, room}
use Rattle.codes.proofs.Sound.{Sound}
use Rattle.codes.specs.declared.Refusal.TheVariants.{RecordRange}
use Rattle.latch.specs.Latches.{marked, latch_fits}
use Rattle.latch.proofs.Fitting.{none_counted, page_counted}
use Rattle.chip.specs.Records.{waits_latch}
use Rattle.chip.specs.Ranges.{in_ranges, value_fits, page_fits}
use Rattle.chip.specs.Touched.{cells_touched, cells_marked, touched_choice, touched_answer}
use Rattle.chip.specs.declared.Core.{Core}
use Rattle.chip.proofs.Within.{within}

-- what the call of a record or a device promises of its answer
abbrev pub TouchedSo : Part → Bool → Core → Result ℕ Refusal → Type 0
TouchedSo P fits c r =
    record {
      value : r ≡ touched_answer fits c;
      as_number : number r ≡ touched_choice fits 2 0;
      as_value : value_of r ≡ touched_choice fits 0 (cells_marked P c);
    }

-- the latch that waits, of a record inside its ranges
pub latch_inside : (P : Part) (c : Core) → in_ranges P c ≡ true → latch_fits P (waits_latch c.waits) c.waits.latch ≡ true
latch_inside P c ranges =
    and_right (value_fits c.waits && page_fits P c.waits) (latch_fits P (waits_latch c.waits) c.waits.latch) (within P c ranges).waits

module _ (P : Part) (fits : Bool) (c : Core) where
  pub touched_counted : (n : ℕ) → fits ≡ true → Sound P → latch_fits P (waits_latch c.waits) c.waits.latch ≡ true
      → (n ≡ cells_touched c) × (n ≡ count (marked c.waits.latch) room) → TouchedSo P fits c (Ok n)
  touched_counted n h sound l e =
      record {
        value = yes_so _ h (ap Ok e.0);
        as_number = yes_so _ h refl;
        as_value = yes_so _ h (e.1 ∙ page_counted P (waits_latch c.waits) c.waits.latch sound l);
      }

  pub touched_refused : fits ≡ false → TouchedSo P fits c (Err RecordRange)
  touched_refused h = record { value = no_so _ h refl; as_number = no_so _ h refl; as_value = no_so _ h refl }

-- 0 where no latched bytes wait
pub none_touched : (P : Part) (c : Core) → Sound P → in_ranges P c ≡ true → waits_latch c.waits ≡ false → cells_marked P c ≡ 0
none_touched P c sound ranges h =
    let latch = latch_inside P c ranges in
    sym (page_counted P (waits_latch c.waits) c.waits.latch sound latch)
    ∙ none_counted P c.waits.latch (sym (ap (λ (may : Bool). latch_fits P may c.waits.latch) h) ∙ latch)
