-- Each cell adds 1 or 0, and there are few enough of them for a byte.
use Prim.Native.Nat.{◌<◌, ◌^◌}
use mathlib.Core.Path.{◌∙◌}
use native.Mathlib.Omega.{arith}
use Rattle.std.proofs.Common.{rules, tests}
use Rattle.std.proofs.lemmas.Iterator.{YieldsList-from_slice, YieldsList-from_map}
use Rattle.std.proofs.lemmas.Iterator.Consumers.{sum_by_from_yields_List, fits_by_from_yields_list}
use Rattle.std.specs.List.{sum_by}
use Rattle.blanks.proofs.Blanking.{as_one, blanks_sum, blanks_most}
use Rattle.blanks.proofs.few.Goals as goal

pub sum-requires-clause-fits : goal.sum-requires-clause-fits
sum-requires-clause-fits c =
    let m = c.args.cells.now in
    let few : sum_by as_one m < 2 ^ 8 = omega (arith, blanks_sum m, blanks_most m, c.requires) in
    fits_by_from_yields_list as_one m c.map.result _
    (YieldsList-from_map _ as_one (YieldsList-from_slice m cc) c.map.ensures.closure (λ x r q k. search (rules, tests)))
    few

pub returns : goal.returns
returns c =
    let m = c.args.cells.now in
    sum_by_from_yields_List as_one m c.map.result _ c.sum.ensures.ran
    (YieldsList-from_map _ as_one (YieldsList-from_slice m cc) c.map.ensures.closure (λ x r q k. search (rules, tests)))
    ∙ blanks_sum m
