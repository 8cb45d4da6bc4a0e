use Prim.Native.Nat.{ℕ, ◌+◌, ◌<◌}
use mathlib.Core.Path.{◌≡◌, ap, ◌∙◌}
use native.Mathlib.Omega.{arith}
use lib.ListN.{length, get_or, length-set}
use Rattle.laws.specs.Pick.{pick}
use Rattle.laws.specs.Bits.{bit_on}
use Rattle.latch.proofs.WordStores.{word_laid_none, word_laid_next, word_laid_more}
use Rattle.std.proofs.Common.{rules}
use Rattle.latch.proofs.lay.lay_bits.Goals as goal

pub loop-i-init : goal.loop-i-init
loop-i-init c = (search rules, search rules, word_laid_none c.args.bytes.now c.args.start c.args.word c.args.page.now)

pub loop-i-preserved : goal.loop-i-preserved
loop-i-preserved c =
    let l = c.loop-i in
    let b = c.args.bytes.now in
    let p = c.args.page.now in
    let at = c.args.start + l.i in
    let h : at < length p = omega (arith, c.requires.0, c.requires.1) in
    let old : get_or l.page at 0 ≡ get_or p at 0 = rw l.invariant.2 (word_laid_next b c.args.start c.args.word p l.i h) in (
      search rules,
      simp length-set l.invariant.1,
      rw l.invariant.2
          (word_laid_more b c.args.start c.args.word p l.i c.laid_byte.result h
          (c.laid_byte.ensures ∙ ap (λ (x : ℕ). pick (bit_on c.args.word l.i) (get_or b at 0) x) old)),
    )
