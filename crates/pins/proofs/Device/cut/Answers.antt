-- Admitted: power-up around the record that the cut leaves.
use mathlib.Core.Path.{ap, sym, ◌∙◌}
use Rattle.chip.specs.Lents.{lent}
use Rattle.pins.specs.Devices.{device_part, resting}
use Rattle.pins.proofs.Answering.{memory_done, memory_record, memory_length, lent_taken, lent_untaken, left_so, kept_so}
use Rattle.pins.proofs.Device.cut.Goals as goal

pub returns-then-in_ranges : goal.returns-then-in_ranges
returns-then-in_ranges c =
    let a = c.args in
    let o = memory_done (device_part a.self) a.self (lent a.memory.now a.identification.now)
    (sym c.lent_fits.ensures ∙ c.if-lent_fits.true) (sym c.in_ranges.ensures ∙ c.if-in_ranges.true) in
    let t = c.cut_core-next.ensures in
    let r = lent_taken (device_part a.self) a.self (lent a.memory.now a.identification.now) o
    (c.resting.ensures ∙ ap resting t.value) c.done.ensures in
    record {
      value = r.value;
      as_number = r.as_number;
      memory_after = left_so a.memory.now o t.memory_after;
      identification_after = left_so a.identification.now o t.identification_after;
    }

pub returns-then-lent_fits : goal.returns-then-lent_fits
returns-then-lent_fits c =
    let a = c.args in
    let o = memory_record (device_part a.self) a.self (lent a.memory.now a.identification.now)
    (sym c.lent_fits.ensures ∙ c.if-lent_fits.true) (sym c.in_ranges.ensures ∙ c.if-in_ranges.false) in
    let r = lent_untaken (device_part a.self) a.self (lent a.memory.now a.identification.now) _ o c.refused.ensures in
    record {
      value = r.value;
      as_number = r.as_number;
      memory_after = kept_so _ a.memory.now o;
      identification_after = kept_so _ a.identification.now o;
    }

pub returns : goal.returns
returns c =
    let a = c.args in
    let o = memory_length (device_part a.self) a.self (lent a.memory.now a.identification.now)
    (sym c.lent_fits.ensures ∙ c.if-lent_fits.false) in
    let r = lent_untaken (device_part a.self) a.self (lent a.memory.now a.identification.now) _ o c.refused-2.ensures in
    record {
      value = r.value;
      as_number = r.as_number;
      memory_after = kept_so _ a.memory.now o;
      identification_after = kept_so _ a.identification.now o;
    }
