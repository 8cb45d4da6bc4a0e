use Prim.Native.Nat.{◌+◌, ◌*◌, ◌≤◌}
use native.Mathlib.Nat.{add-sub_cancel_left}
use native.Mathlib.Omega.{arith}
use lib.ListN.{length}
use Rattle.codes.specs.Part.{part_of}
use Rattle.codes.proofs.Sound.{sound_of}
use Rattle.latch.proofs.Stores.{lent_page, page_long, stored_none}
use Rattle.latch.proofs.Latch.store.Goals as goal

pub store_page-requires : goal.store_page-requires
store_page-requires c =
    let a = c.args in
    let P = part_of a.part in
    let s = sound_of a.part in
    let e = c.page_of-cells.ensures.value in
    let fits : a.page * P.page + P.page ≤ length a.memory.now = rw (← e) (omega arith) in
    rw (e, add-sub_cancel_left (a.page * P.page) P.page, page_long P a.page a.self a.memory.now fits)
    (s.page_room, omega (arith, s.marks_whole))

pub returns-then-end-memory : goal.returns-then-end-memory
returns-then-end-memory c =
    let a = c.args in
    let P = part_of a.part in
    let e = c.page_of-cells.ensures.value in
    let fits : a.page * P.page + P.page ≤ length a.memory.now = rw (← e) (omega arith) in
    rw (
      c.store_page.ensures,
      e,
      add-sub_cancel_left (a.page * P.page) P.page,
      page_long P a.page a.self a.memory.now fits,
    )
    (lent_page P a.page a.self a.memory.now fits)

pub returns-else-end-memory : goal.returns-else-end-memory
returns-else-end-memory c =
    let e = c.page_of-cells.ensures.value in
    stored_none _ _ _ _ (rw (← e) (omega arith))
