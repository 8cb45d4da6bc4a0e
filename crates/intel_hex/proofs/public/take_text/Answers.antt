-- The test of the text, and the sides that it and the running cycle take.
use mathlib.Core.Bool.{not}
use mathlib.Core.Path.{refl, ap, ◌∙◌}
use Rattle.laws.specs.Pick.{yes_so, no_so, and_both, and_no_left, and_no_right}
use Rattle.codes.specs.Part.{m95512}
use Rattle.intel_hex.specs.Reading.{is_good}
use Rattle.intel_hex.proofs.Parting.{good_told}
use Rattle.intel_hex.proofs.public.take_text.Goals as goal

pub returns-then-running : goal.returns-then-running
returns-then-running c =
    let no = and_no_left _ (is_good m95512 c.args.text.now) (ap not c.if-running.true) in
    record { value = no_so _ no refl; memory_after = no_so _ no refl }

pub returns-then-not-is_end : goal.returns-then-not-is_end
returns-then-not-is_end c =
    let a = c.args in
    let k = c.check-checked in
    let bad = good_told m95512 a.text.now k.result.at _ k.ensures.at_in_bounds.1 c.is_end.ensures ∙ c.if-not-is_end.true in
    let no = and_no_right (not a.running) _ bad in
    record { value = no_so _ no refl; memory_after = no_so _ no refl }

pub returns : goal.returns
returns c =
    let a = c.args in
    let k = c.check-checked in
    let good = good_told m95512 a.text.now k.result.at _ k.ensures.at_in_bounds.1 c.is_end.ensures ∙ c.if-not-is_end.false in
    let yes = and_both (not a.running) _ (ap not c.if-running.false) good in
    record { value = yes_so _ yes refl; memory_after = yes_so _ yes c.store.ensures }
