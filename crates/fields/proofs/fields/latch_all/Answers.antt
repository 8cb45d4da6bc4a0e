-- What stays is the last page of the bytes: i of them do not, f go up to the page's end and h from its first cell.
use Prim.Native.Nat.{ℕ, ◌<◌, ◌≤◌, ◌+◌, ◌-◌, ◌%◌}
use mathlib.Core.Path.{◌≡◌, ap, sym, ◌∙◌}
use native.Mathlib.Nat.{add-sub_cancel_left}
use native.Mathlib.Omega.{arith}
use lib.ListN.{length, take, drop, length-drop}
use lib.Seq.{length-take-le}
use Rattle.codes.specs.Part.{part_of}
use Rattle.codes.proofs.Sound.{sound_of}
use Rattle.latch.specs.Latches.{zeros}
use Rattle.fields.proofs.Latching.{latched_runs}
use Rattle.fields.proofs.fields.latch_all.Goals as goal

pub returns : goal.returns
unfolding zeros
returns c =
    let a = c.args in
    let P = part_of a.part in
    let s = sound_of a.part in
    let page = c.page_of-page.ensures.value in
    let vs = a.values.now in
    let n = length vs in
    let i = n - c.min-kept.result in
    let f = c.min-first.result in
    let h = n - (i + f) in
    let all : i + (f + h) ≡ n = omega arith in
    let first : length (take f (drop i vs)) ≡ f = length-take-le f (drop i vs) (simp length-drop (omega arith)) in
    let second : length (take h (drop (i + f) vs)) ≡ h = length-take-le h (drop (i + f) vs) (simp length-drop (omega arith)) in
    let start : c.cell_of-start.result ≡ (a.address % P.page + i) % P.page =
    c.cell_of-start.ensures.value ∙ ap (λ (k : ℕ). (k + i) % P.page) c.cell_of.ensures.value in
    let fits : (a.address % P.page + i) % P.page + f ≤ P.page = omega (arith, page, start, c.min-first.ensures) in
    let turn : 0 < h → (a.address % P.page + i) % P.page + f ≡ P.page = λ q. omega (arith, page, start, c.min-first.ensures) in
    let full : 0 < i → f + h ≡ P.page = λ q. omega (arith, page) in
    let one = c.latch_run.ensures in
    let two = c.latch_run-2.ensures in
    rw (c.run_marks.ensures, two, one, add-sub_cancel_left i f, first, second, start)
    (sym (latched_runs P (a.address % P.page) vs i f h all fits turn (omega (arith, page)) full s.page_some s.page_room))
