use Prim.Native.Nat.{ℕ, ◌+◌, ◌*◌, ◌≤◌}
use mathlib.Core.List.{List}
use mathlib.Core.Path.{◌≡◌, ap, ◌∙◌}
use native.Mathlib.Omega.{arith}
use lib.ListN.{length, get_or}
use Rattle.latch.specs.Words.{word_laid}
use Rattle.latch.proofs.WordStores.{words_laid, words_laid_none, words_laid_length, words_laid_more, words_laid_all}
use Rattle.std.proofs.Common.{rules}
use Rattle.latch.proofs.lay.store_page.Goals as goal

pub loop-k-init : goal.loop-k-init
loop-k-init c = (search rules, words_laid_none _ _ _)

pub loop-k-preserved : goal.loop-k-preserved
loop-k-preserved c =
    let a = c.args.latch.now in
    let l = c.loop-k in
    let p = c.args.page.now in
    let inside : l.k * 64 + 64 ≤ length p = omega arith in
    let e : c.lay_word.new.page ≡ words_laid a.bytes a.marks (l.k + 1) p =
    c.lay_word.ensures
    ∙ ap (λ (x : List ℕ). word_laid a.bytes (l.k * 64) (get_or a.marks l.k 0) 64 x) l.invariant.1
    ∙ words_laid_more a.bytes a.marks p l.k inside in
    (ap length e ∙ words_laid_length a.bytes a.marks p (l.k + 1), e)

pub returns : goal.returns
returns c =
    let a = c.args.latch.now in
    let l = c.loop-k in
    l.invariant.1 ∙ words_laid_all a.bytes a.marks c.args.page.now l.k (omega (arith, c.requires.1))
