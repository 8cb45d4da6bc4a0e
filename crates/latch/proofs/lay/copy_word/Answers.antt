use Prim.Native.Nat.{◌+◌, ◌<◌}
use mathlib.Core.Path.{sym}
use native.Mathlib.Omega.{arith}
use lib.ListN.{length, get_or, length-set}
use Rattle.laws.specs.Pick.{at_yes}
use Rattle.laws.specs.Bits.{bit_full}
use Rattle.latch.specs.Words.{full}
use Rattle.latch.proofs.WordStores.{word_laid_none, word_laid_more}
use Rattle.std.proofs.Common.{rules}
use Rattle.latch.proofs.lay.copy_word.Goals as goal

pub loop-i-init : goal.loop-i-init
loop-i-init c = (search rules, search rules, word_laid_none c.args.bytes.now c.args.start full c.args.page.now)

pub loop-i-preserved : goal.loop-i-preserved
loop-i-preserved c =
    let l = c.loop-i in
    let b = c.args.bytes.now in
    let p = c.args.page.now in
    let at = c.args.start + l.i in
    let h : at < length p = omega (arith, c.requires.0, c.requires.1) in (
      search rules,
      simp length-set l.invariant.1,
      rw l.invariant.2
          (word_laid_more b c.args.start full p l.i (get_or b at 0) h
          (sym (at_yes (get_or b at 0) (get_or p at 0) (bit_full 64 l.i (omega arith))))),
    )
