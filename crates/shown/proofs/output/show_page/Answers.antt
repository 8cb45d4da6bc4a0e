use Prim.Native.Nat.{ℕ, ◌+◌, ◌%◌, ◌<◌}
use mathlib.Core.Path.{◌≡◌, ap, sym, ◌∙◌}
use lib.ListN.{length, get_or, length-set}
use Rattle.laws.specs.Filled.{filled_none, filled_more, filled_all}
use Rattle.laws.specs.Table.{table, table_length, table_at}
use Rattle.codes.specs.Part.{part_of}
use native.Mathlib.Omega.{arith}
use Rattle.shown.proofs.output.show_page.Goals as goal

pub loop-i-init : goal.loop-i-init
loop-i-init c = (omega arith, filled_none _ _ 0)

pub loop-i-preserved : goal.loop-i-preserved
loop-i-preserved c =
    let l = c.loop-i in
    let a = c.args in
    let P = part_of a.part in
    let n = length a.out.now in
    let start = c.cell_of-start.result in
    let shown = table n (λ j. get_or a.identification.now ((start + j) % P.page) 0) in
    let sized : length shown ≡ n = table_length _ n in
    let below : l.i < n = omega arith in (
      simp length-set (omega arith),
      rw l.invariant.1
          (filled_more a.out.now shown 0 l.i _ (sym sized) below
          (ap (λ (k : ℕ). get_or a.identification.now k 0) c.cell_of.ensures.value ∙ sym (table_at _ n l.i 0 below))),
    )

pub returns : goal.returns
returns c =
    let l = c.loop-i in
    let a = c.args in
    let end : l.i ≡ length a.out.now = omega arith in
    l.invariant.1
    ∙ filled_all a.out.now _ 0 l.i (sym (table_length _ _)) end
    ∙ ap (λ (s : ℕ). table (length a.out.now) (λ n. get_or a.identification.now ((s + n) % (part_of a.part).page) 0))
    c.cell_of-start.ensures.value
