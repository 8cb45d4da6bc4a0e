use Prim.Native.Nat.{◌+◌, ◌-◌, ◌*◌}
use mathlib.Core.Path.{◌≡◌, refl, ap, ◌∙◌}
use native.Mathlib.Omega.{arith}
use lib.ListN.{get_or}
use Rattle.std.proofs.Common.{rules, tests}
use Rattle.std.proofs.lemmas.Iterator.{YieldsList-from_range}
use Rattle.std.proofs.lemmas.Iterator.Search.{all_from_yields_List}
use Rattle.latch.specs.Words.{word_fits, words_fit}
use Rattle.latch.proofs.WordRanges.{words_all}
use Rattle.latch.proofs.ranges.words_fit.Goals as goal

pub returns : goal.returns
returns c =
    let a = c.args in
    let l = a.latch.now in
    let end : a.from + (a.to - a.from) ≡ a.to = omega (arith, c.requires.0) in
    all_from_yields_List (λ k. word_fits a.may l.bytes (k * 64) (get_or l.marks k 0) 64) _ _ c.all.result c.all.ensures.ran
    (YieldsList-from_range a.from a.to (a.to - a.from) refl refl)
    (λ x b q k. search (rules, tests))
    ∙ words_all a.may l.bytes l.marks a.from (a.to - a.from)
    ∙ ap (words_fit a.may l.bytes l.marks a.from) end
