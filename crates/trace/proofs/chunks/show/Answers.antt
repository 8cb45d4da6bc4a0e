-- Nothing is refused, so that the list is played; its levels are printed where the lines have room.
use mathlib.Core.Path.{◌≡◌, ap, ◌∙◌}
use mathlib.Core.List.{List}
use Prim.Native.Nat.{ℕ, ◌+◌, ◌*◌, ◌≤◌}
use native.Mathlib.Omega.{arith}
use Rattle.std.proofs.Common.{rules}
use Rattle.pins_theorems.proofs.Fits.{Sized}
use lib.ListN.{length}
use borrow.Author.Tests.{eq-eqb}
use Rattle.laws.specs.Pick.{and_both}
use Rattle.pins.specs.declared.Device.{Device}
use Rattle.pins.specs.Devices.{device_part}
use Rattle.pins.specs.Answers.{PinBench, lent_to, played, pin_bench}
use Rattle.pins.specs.Ranges.{device_fits}
use Rattle.lists.specs.Answers.{played_q}
use Rattle.lists.proofs.Answering.{play_done}
use Rattle.printing.specs.Printing.{printed}
use Rattle.printing.specs.Put.{put}
use Rattle.printing.proofs.Rooms.{put_room, end_room}
use Rattle.trace.proofs.Plays.{done_device, done_memory, own_fits, played_q_length}
use Rattle.trace.proofs.chunks.show.Goals as goal

pub returns : goal.returns
returns c =
    let a = c.args in
    let pre = c.requires in
    let es = a.events.now in
    let b : PinBench = pin_bench a.device a.memory.now a.identification.now in
    let P = device_part a.device in
    let w = c.play in
    let y = w.ensures in
    let qs = w.new.out in
    let x = c.print-at in
    let d = a.out.now in
    let sized : Sized a.device = let good = c.well_formed in search rules in
    let long = and_both _ _ (eq-eqb _ _ pre.0) (eq-eqb _ _ pre.1) in
    let o = play_done P a.device (lent_to b) es (length a.qs.now) long pre.2 pre.3 pre.4 in
    let device : w.result.device ≡ (played P es b).device = done_device (played P es b).device a.device o y.value in
    let shown : qs ≡ played_q P es b = done_memory (played_q P es b) a.qs.now _ o y.out_after in
    let as_many : length qs ≡ length es = ap length shown ∙ played_q_length P es b in
    let room : a.at + 10 * length qs ≤ length d = omega (arith, pre.5) in (
      (device, ap (λ (z : Device). device_fits (device_part z) z) device ∙ own_fits es b sized pre.2),
      (
        done_memory (played P es b).memory a.memory.now _ o y.memory_after,
        (
          done_memory (played P es b).identification a.identification.now _ o y.identification_after,
          (
            x.ensures.out_after ∙ put_room (10 * length qs) d a.at (printed a.n qs) room ∙ ap (λ (l : List ℕ). put d a.at (printed a.n l)) shown,
            (
              x.ensures.value.0 ∙ end_room (10 * length qs) d a.at (printed a.n qs) room ∙ ap (λ (l : List ℕ). a.at + length (printed a.n l)) shown,
              omega (arith, x.ensures.value.1),
            ),
          ),
        ),
      ),
    )
