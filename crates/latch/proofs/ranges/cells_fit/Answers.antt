-- Nothing marked, or the words of the page and those past it.
use Prim.Native.Nat.{ℕ, ◌/◌}
use mathlib.Core.Bool.{false, ◌&&◌}
use mathlib.Core.List.{[], ◌∷◌}
use lib.Dec.{eqb}
use lib.ListN.{length, get_or}
use lib.Pointwise.{bytes_decides}
use native.Mathlib.Omega.{arith}
use Rattle.laws.specs.Each.{each}
use mathlib.Core.Path.{◌≡◌, sym, ap, ap₂, ◌∙◌}
use Rattle.codes.specs.Part.{part_of, room_words}
use Rattle.codes.proofs.Sound.{sound_of}
use Rattle.latch.specs.Words.{words_fit}
use Rattle.latch.proofs.WordRanges.{words_unmarked, words_both}
use Rattle.latch.proofs.ranges.cells_fit.Goals as goal

pub returns-then-eq : goal.returns-then-eq
returns-then-eq c =
    let l = c.args.latch.now in
    let long : length l.bytes ≡ 256 = omega arith in
    let none : l.marks ≡ 0 ∷ 0 ∷ 0 ∷ 0 ∷ [] = (bytes_decides _ _).0 (sym c.eq.ensures ∙ c.if-eq.true) in
    c.zeros.ensures
    ∙ ap (each (λ i. eqb (get_or l.bytes i 0) 0)) long
    ∙ words_unmarked c.args.may l.bytes l.marks (part_of c.args.part) none

pub returns : goal.returns
returns c =
    let a = c.args in
    let l = a.latch.now in
    let P = part_of a.part in
    let words : c.page_of-words.result / 64 ≡ P.page / 64 =
    ap (λ (n : ℕ). n / 64) c.page_of-words.ensures.value in
    ap₂ ◌&&◌
    (c.words_fit.ensures ∙ ap (words_fit a.may l.bytes l.marks 0) words)
    (c.words_fit-2.ensures ∙ ap (λ (n : ℕ). words_fit false l.bytes l.marks n room_words) words)
    ∙ sym (words_both a.may l.bytes l.marks P (sound_of a.part))
