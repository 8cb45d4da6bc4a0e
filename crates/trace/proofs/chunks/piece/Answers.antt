use mathlib.Core.Path.{◌≡◌, ap, sym, ◌∙◌}
use mathlib.Core.Bool.{true}
use mathlib.Core.List.{List}
use Prim.Native.Nat.{ℕ, ◌+◌, ◌^◌, ◌<◌, ◌≤◌}
use native.Mathlib.Omega.{arith}
use lib.ListN.{length, take}
use lib.Seq.{length-take-le}
use Rattle.pins.specs.Devices.{device_part}
use Rattle.pins.specs.Answers.{PinBench, played, pin_bench}
use Rattle.events.specs.Events.{are_events}
use Rattle.lists.specs.Answers.{played_q}
use Rattle.printing.specs.Printing.{printed}
use Rattle.printing.specs.Put.{put}
use Rattle.lines.proofs.Hand.{read_fits, whole_small}
use Rattle.lines.proofs.Runs.{found_length}
use Rattle.trace.specs.Chunks.{played_lines, shown_lines}
use Rattle.trace.proofs.Said.{found_are}
use Rattle.trace.proofs.chunks.piece.Goals as goal

pub overflow_add-placed : goal.overflow_add-placed
overflow_add-placed c = omega (arith, whole_small c.args.placed.line c.requires.memory_len.3)

pub show-shown-requires : goal.show-shown-requires
show-shown-requires c =
    let a = c.args in
    let pre = c.requires in
    let p = c.parse-parsed in
    let n : length (take p.result.count p.new.events) ≡ p.result.count = ap length p.ensures.events_after ∙ sym p.ensures.count_value in
    let few : p.result.count ≤ length a.text.now = p.ensures.count_in_bounds in
    let qs : length (take p.result.count a.qs.now) ≡ p.result.count = length-take-le p.result.count a.qs.now
    (omega (arith, pre.text_in_bounds.1, few)) in
    let small : a.placed.line.value < 2 ^ 32 = let good = c.well_formed in omega arith in
    let are : are_events (take p.result.count p.new.events) ≡ true = ap are_events p.ensures.events_after ∙ found_are a.placed.line a.text.now
    pre.memory_len.3 small in
    (pre.memory_len.0, pre.memory_len.1, pre.memory_len.2, are, qs ∙ sym n, omega (arith, n, few, pre.text_in_bounds.2))

pub returns : goal.returns
unfolding played_lines shown_lines
returns c =
    let a = c.args in
    let pre = c.requires in
    let p = c.parse-parsed in
    let x = c.show-shown in
    let b : PinBench = pin_bench a.placed.device a.memory.now a.identification.now in
    let P = device_part a.placed.device in
    let es = p.ensures.events_after in (
      (p.ensures.line_value, rw p.ensures.line_value (read_fits a.placed.line a.text.now pre.memory_len.3)),
      (
        (x.ensures.0.0 ∙ ap (λ (l : List ℕ). (played P l b).device) es, x.ensures.0.1),
        (
          x.ensures.1.0 ∙ ap (λ (l : List ℕ). (played P l b).memory) es,
          (
            x.ensures.1.1.0 ∙ ap (λ (l : List ℕ). (played P l b).identification) es,
            (
              x.ensures.1.1.1.0 ∙ ap (λ (l : List ℕ). put a.out.now a.placed.at (printed (a.placed.line.whole + 1) (played_q P l b))) es,
              (
                x.ensures.1.1.1.1.0 ∙ ap (λ (l : List ℕ). a.placed.at + length (printed (a.placed.line.whole + 1) (played_q P l b))) es,
                omega (arith, x.ensures.1.1.1.1.1, ap length es, found_length a.placed.line a.text.now),
              ),
            ),
          ),
        ),
      ),
    )
