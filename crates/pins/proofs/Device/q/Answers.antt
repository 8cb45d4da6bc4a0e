use mathlib.Core.Path.{refl, sym, ◌∙◌}
use Rattle.laws.specs.Pick.{yes_so, no_so}
use Rattle.pins.proofs.Device.q.Goals as goal

pub returns-then-in_ranges : goal.returns-then-in_ranges
returns-then-in_ranges c =
    let h = sym c.in_ranges.ensures ∙ c.if-in_ranges.true in
    record { value = yes_so _ h (rw c.shows.ensures); as_number = yes_so _ h refl; as_value = yes_so _ h (rw c.shows.ensures) }

pub returns : goal.returns
returns c =
    let h = sym c.in_ranges.ensures ∙ c.if-in_ranges.false in
    record { value = no_so _ h refl; as_number = no_so _ h refl; as_value = no_so _ h refl }
