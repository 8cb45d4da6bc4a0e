-- A cycle that runs is over at the reading that `later` gives; where none runs nothing waits.
use Rattle.std.proofs.Common.{sym, refl, ap, ◌∙◌, ap₂}
use Rattle.laws.specs.Pick.{call_no}
use Rattle.chip.specs.Records.{own_part, waits_page, waits_identification, with_time, with_blank}
use Rattle.chip.specs.Time.{timed_in, timed_memory, timed_identification}
use Rattle.chip.specs.declared.Core.{Core}
use Rattle.cuts.specs.Cuts.{cut_core, cut_cells, cut_blank}
use Rattle.cuts.proofs.Ending.{cut_core_then, cut_cells_then}
use Rattle.cuts.proofs.cutting.cut_core.Goals as goal

pub returns-then-running : goal.returns-then-running
returns-then-running c =
    let a = c.args in
    let runs = sym c.running.ensures ∙ c.if-running.true in
    let r = c.later-over.result in
    let passed = c.later-over.ensures in
    let cut = c.cut_down-down.ensures in
    let P = own_part a.core in
    let t = c.timed-next.ensures in record {
      value = c.with_time.ensures
          ∙ ap (with_time a.core.last 0) (t.value ∙ ap (λ (x : Core). timed_in (own_part x) r x a.memory.now) cut)
          ∙ cut_core_then a.choice a.core r runs passed P a.memory.now;
      memory_after = t.memory_after ∙ ap (λ (x : Core). timed_memory (own_part x) r x a.memory.now) cut
          ∙ cut_cells_then a.choice a.core r runs passed waits_page P a.memory.now;
      identification_after = t.identification_after ∙ ap (λ (x : Core). timed_identification (own_part x) r x a.identification.now) cut
          ∙ cut_cells_then a.choice a.core r runs passed waits_identification P a.identification.now;
    }

pub returns : goal.returns
unfolding cut_core cut_cells cut_blank
returns c =
    let idle = c.running.ensures in
    let no = c.if-running.false in
    record { value = c.without_cycle.ensures ∙ ap₂ with_blank (call_no _ idle no refl) (call_no _ idle no refl); memory_after = call_no _ idle no refl; identification_after = call_no _ idle no refl }
