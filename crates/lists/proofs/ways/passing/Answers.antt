use mathlib.Core.Path.{◌≡◌, refl, ap, sym, ◌∙◌}
use mathlib.Core.Bool.{false, ◌&&◌}
use lib.Dec.{leb}
use Rattle.laws.specs.Pick.{at_yes, at_no, no_so}
use Rattle.chip.specs.declared.Core.{Core}
use Rattle.chip.specs.Records.{own_part, running}
use Rattle.chip.specs.Time.{ends, timed_cells}
use Rattle.chip.proofs.Recounts.{timed_on}
use Rattle.pins.specs.Devices.{with_core}
use Rattle.pins.specs.Events.{on_time}
use Rattle.lists.specs.Ways.{whole}
use Rattle.lists.proofs.ways.passing.Goals as goal

pub returns-then-ends-clause-m_value : goal.returns-then-ends-clause-m_value
returns-then-ends-clause-m_value c = λ i m f l. at_yes _ _ refl

pub returns : goal.returns
unfolding on_time timed_cells
returns c =
    let core = c.args.core in
    let t = c.args.reading in
    let stays : ends t core ≡ false = sym
    (c.ends.ensures ∙ ap (λ n. running core && leb core.left n) c.elapsed-passed.ensures) ∙ c.if-ends.false in record {
      core_value = λ m f l. ap (λ (k : Core). with_core k (whole f l core))
          (rw (c.left_after-left.ensures, c.elapsed-passed.ensures) (sym (timed_on (own_part core) t core m.memory stays)));
      m_value = λ i m f l. at_no _ _ refl ∙ no_so _ stays refl;
    }
