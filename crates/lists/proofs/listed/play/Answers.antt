use mathlib.Core.Path.{sym, ◌∙◌}
use lib.ListN.{length}
use Rattle.chip.specs.Lents.{lent}
use Rattle.pins.specs.Devices.{device_part}
use Rattle.lists.proofs.Answering.{play_room, play_taken, play_untaken}
use Rattle.lists.proofs.listed.play.Goals as goal

pub play_all-requires : goal.play_all-requires
play_all-requires c =
    let a = c.args in
    let m = lent a.memory.now a.identification.now in
    play_room (device_part a.device) a.device m a.events.now (length a.out.now) (sym c.admitted.ensures ∙ c.in-Ok.is)

pub returns-in-Ok : goal.returns-in-Ok
returns-in-Ok c =
    let a = c.args in
    let x = a.device in
    let m = lent a.memory.now a.identification.now in
    let o = sym c.admitted.ensures ∙ c.in-Ok.is in
    let r = c.play_all.ensures in
    play_taken (device_part x) x m a.events.now (length a.out.now) a.out.now o r.value r.memory_after r.identification_after r.out_after

pub returns-in-Err : goal.returns-in-Err
returns-in-Err c =
    let a = c.args in
    let x = a.device in
    let m = lent a.memory.now a.identification.now in
    let o = sym c.admitted.ensures ∙ c.in-Err.is in
    play_untaken (device_part x) x m a.events.now (length a.out.now) _ _ _ _ a.out.now o
