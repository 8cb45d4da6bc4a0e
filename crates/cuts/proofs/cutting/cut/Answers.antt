use Rattle.std.proofs.Common.{sym, ◌∙◌}
use Rattle.laws.specs.Pick.{pick}
use Rattle.chip.specs.Records.{own_part}
use Rattle.chip.proofs.Numbers.{reading_number_law}
use Rattle.cuts.proofs.cutting.cut.Goals as goal

pub returns-in-Ok : goal.returns-in-Ok
unfolding pick
returns-in-Ok c =
    let a = c.args in
    let o = sym c.admitted.ensures ∙ c.in-Ok.is in
    let t = c.cut_core.ensures in
    record {
      value = rw (o, t.value);
      as_number = reading_number_law (own_part a.core) a.core a.memory.now a.identification.now o;
      memory_after = rw (o, t.memory_after);
      identification_after = rw (o, t.identification_after);
    }

pub returns-in-Err : goal.returns-in-Err
unfolding pick
returns-in-Err c =
    let a = c.args in
    let o = sym c.admitted.ensures ∙ c.in-Err.is in
    record {
      value = rw o;
      as_number = reading_number_law (own_part a.core) a.core a.memory.now a.identification.now o;
      memory_after = rw o;
      identification_after = rw o;
    }
