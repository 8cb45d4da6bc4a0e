-- Each word has at most 64 ones; the ones of the words are the marked cells.
use Prim.Native.Nat.{◌*◌, ◌≤◌}
use mathlib.Core.Path.{◌≡◌, ◌∙◌}
use native.Mathlib.Omega.{arith}
use Rattle.std.proofs.Common.{rules, tests}
use Rattle.std.proofs.lemmas.Iterator.{YieldsList-from_slice, YieldsList-from_map}
use Rattle.std.proofs.lemmas.Iterator.Consumers.{sum_by_from_yields_List, fits_by_from_yields_list}
use Rattle.std.specs.Int.Count.{ones}
use Rattle.std.specs.List.{sum_by}
use Rattle.laws.specs.Marks.{Wide, ones_wide}
use Rattle.latch.proofs.Counted.{ones_sum, ones_few}
use Rattle.latch.proofs.Latch.touched.Goals as goal

pub sum-requires-clause-fits : goal.sum-requires-clause-fits
sum-requires-clause-fits c =
    let ws = c.args.self.marks in
    let wide : Wide 4 ws = λ j h. search rules in
    let few : sum_by ones ws ≤ 4 * 64 = ones_few 4 ws (omega arith) wide in
    fits_by_from_yields_list ones ws c.map.result _
    (YieldsList-from_map _ ones (YieldsList-from_slice ws cc) c.map.ensures.closure (λ x r q k. search (rules, tests)))
    (omega arith)

pub returns : goal.returns
returns c =
    let ws = c.args.self.marks in
    let total : c.sum.result ≡ sum_by ones ws =
    sum_by_from_yields_List ones ws c.map.result _ c.sum.ensures.ran
    (YieldsList-from_map _ ones (YieldsList-from_slice ws cc) c.map.ensures.closure (λ x r q k. search (rules, tests))) in
    let e = total ∙ ones_sum 4 ws (omega arith) in
    let wide : Wide 4 ws = λ j h. search rules in
    (e, e ∙ ones_wide 4 ws wide)
