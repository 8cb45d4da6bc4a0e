-- The ranges as the code tests them: one cell; a word with no mark, and one with every mark; and one word more of a page.
use Prim.Native.Nat.{ℕ, zero, suc, ◌+◌, ◌-◌, ◌*◌, ◌/◌, ◌%◌, ◌^◌, ◌<◌, ◌≤◌}
use mathlib.Core.Bool.{Bool, true, false, ◌&&◌, ◌||◌, not}
use mathlib.Core.List.{List}
use mathlib.Core.Path.{◌≡◌, refl, sym, ap, ap₂, ◌∙◌}
use native.Mathlib.Nat.{zero-add}
use native.Mathlib.Omega.{arith}
use lib.Dec.{eqb, ltb}
use lib.ListN.{length, get_or, take, drop, replicate, length-drop}
use lib.Seq.{length-take-le, get_or-take, get_or-drop}
use lib.Bits.{bit_and}
use borrow.Author.Tests.{eqb-true}
use Rattle.std.specs.List.{list_all, range_with_len}
use Rattle.laws.specs.Pick.{pick, at_yes, at_no, pick_flags}
use Rattle.laws.specs.And.{failed, never}
use Rattle.laws.specs.Each.{each, each_none, each_more, each_at, each_of, each_cong, each_add}
use Rattle.laws.specs.Bits.{bit_on, bit_read, bit_none, bit_full}
use Rattle.laws.specs.Marks.{mark, mark_at, mark_none}
use Rattle.codes.specs.Part.{Part, room, room_words}
use Rattle.codes.proofs.Sound.{Sound}
use Rattle.latch.specs.Latches.{cell_fits, latch_fits}
use Rattle.latch.specs.Words.{bytes_zero, word_fits, words_fit, full}
use Rattle.latch.specs.declared.Latch.{Latch}
use Rattle.latch.proofs.Fitting.{on_page, past_page}

-- one cell as the code has it
pub cell_read : (may : Bool) (w j x : ℕ)
    → (eqb (bit_and (w / 2 ^ j) 1) 1 && may || not (eqb (bit_and (w / 2 ^ j) 1) 1) && eqb x 0) ≡ pick (bit_on w j) may (eqb x 0)
cell_read may w j x = pick_flags (eqb (bit_and (w / 2 ^ j) 1) 1) may (eqb x 0) ∙ ap (λ t. pick t may (eqb x 0)) (bit_read w j)

-- the cells of a word, lent
pub part_zero : (bytes : List ℕ) (start : ℕ) {n : ℕ} → n ≡ 64 → start + 64 ≤ length bytes
    → each (λ i. eqb (get_or (take n (drop start bytes)) i 0) 0) (length (take n (drop start bytes))) ≡ bytes_zero bytes start 64
part_zero bytes start {n} e h =
    let long : length (take n (drop start bytes)) ≡ 64 = length-take-le n (drop start bytes) (simp length-drop (omega arith)) ∙ e in
    ap (each (λ i. eqb (get_or (take n (drop start bytes)) i 0) 0)) long
    ∙ each_cong _ (λ i. eqb (get_or bytes (start + i) 0) 0) 64
    (λ i b. ap (λ (x : ℕ). eqb x 0) (get_or-take n (drop start bytes) i 0 (omega arith) ∙ get_or-drop start bytes i 0))

-- a word with no mark, and one with every mark
module _ (may : Bool) (bytes : List ℕ) (start : ℕ) where
  pub word_empty : bytes_zero bytes start 64 ≡ word_fits may bytes start 0 64
  word_empty = each_cong _ _ 64 (λ i h. sym (at_no may (eqb (get_or bytes (start + i) 0) 0) (bit_none i)))

  marked_at : (i : ℕ) → i < 64 → pick (bit_on full i) may (eqb (get_or bytes (start + i) 0) 0) ≡ may
  marked_at i h = at_yes may _ (bit_full 64 i h)

  all_fit : (b : Bool) → may ≡ b → may ≡ word_fits may bytes start full 64
  all_fit true m = m ∙ sym (each_of _ 64 (λ i h. marked_at i h ∙ m))
  all_fit false m =
      m ∙ sym (failed (word_fits may bytes start full 64)
      (λ p. never (sym (marked_at 0 (omega arith)) ∙ each_at (λ i. pick (bit_on full i) may (eqb (get_or bytes (start + i) 0) 0)) 64 0 p (omega arith)) m))

  pub word_full : may ≡ word_fits may bytes start full 64
  word_full = all_fit may refl

-- a test of a run of numbers
all_each : (p : ℕ → Bool) (a n : ℕ) → list_all p (range_with_len a n) ≡ each (λ j. p (a + j)) n
all_each p a zero = sym (each_none _)
all_each p a (suc n) =
    let f : ℕ → Bool = λ j. p (a + j) in
    let first : a ≡ a + 0 = omega arith in
    let one : each f 1 ≡ f 0 = each_more f 0 ∙ ap (λ t. t && f 0) (each_none f) in
    let all : 1 + n ≡ suc n = omega arith in
    let next : (j : ℕ) → a + 1 + j ≡ a + (1 + j) = λ j. omega arith in
    ap₂ ◌&&◌ (ap p first ∙ sym one)
    (all_each p (a + 1) n ∙ each_cong _ (λ j. f (1 + j)) n (λ j h. ap p (next j)))
    ∙ sym (each_add f 1 n)
    ∙ ap (each f) all

-- the cells of the words from a up to k: none, and one word more
module _ (may : Bool) (bytes marks : List ℕ) where
  abbrev both : Latch
  both = record { bytes = bytes; marks = marks }

  pub words_none : (a : ℕ) → words_fit may bytes marks a a ≡ true
  words_none a = ap (each (λ i. cell_fits may both (a * 64 + i))) {y = 0} (omega arith) ∙ each_none _

  pub words_more : (a k : ℕ) → a ≤ k
      → words_fit may bytes marks a (k + 1) ≡ (words_fit may bytes marks a k && word_fits may bytes (k * 64) (get_or marks k 0) 64)
  words_more a k h =
      let at : ℕ → Bool = λ i. cell_fits may both (a * 64 + i) in
      let next : (k + 1 - a) * 64 ≡ (k - a) * 64 + 64 = omega (arith, h) in
      ap (each at) next
      ∙ each_add at ((k - a) * 64) 64
      ∙ ap (λ t. each at ((k - a) * 64) && t)
      (each_cong _ _ 64
      (λ i b.
      let place : a * 64 + ((k - a) * 64 + i) ≡ k * 64 + i = omega (arith, h) in
      ap (cell_fits may both) place
      ∙ ap (λ t. pick t may (eqb (get_or bytes (k * 64 + i) 0) 0)) (mark_at marks k i b)))

  -- word after word
  words_each : (a n : ℕ) → each (λ j. word_fits may bytes ((a + j) * 64) (get_or marks (a + j) 0) 64) n ≡ words_fit may bytes marks a (a + n)
  unfolding each
  words_each a zero =
      let none : a ≡ a + 0 = omega arith in
      sym (words_none a) ∙ ap (words_fit may bytes marks a) none
  words_each a (suc n) =
      let more : a + n + 1 ≡ a + suc n = omega arith in
      ap (λ t. t && word_fits may bytes ((a + n) * 64) (get_or marks (a + n) 0) 64) (words_each a n)
      ∙ sym (words_more a (a + n) (omega arith))
      ∙ ap (words_fit may bytes marks a) more

  pub words_all : (a n : ℕ) → list_all (λ k. word_fits may bytes (k * 64) (get_or marks k 0) 64) (range_with_len a n) ≡ words_fit may bytes marks a (a + n)
  words_all a n = all_each (λ k. word_fits may bytes (k * 64) (get_or marks k 0) 64) a n ∙ words_each a n

  -- no mark at all: every byte is 0
  pub words_empty : (P : Part) → each (λ k. eqb (get_or marks k 0) 0) room_words ≡ true
      → bytes_zero bytes 0 room ≡ latch_fits P may both
  words_empty P e =
      each_cong (λ i. eqb (get_or bytes (0 + i) 0) 0) (λ i. cell_fits (may && ltb i P.page) both i) room
      (λ i h.
      ap (λ (j : ℕ). eqb (get_or bytes j 0) 0) (zero-add i)
      ∙ sym (at_no (may && ltb i P.page) (eqb (get_or bytes i 0) 0)
      (ap (λ (w : ℕ). bit_on w (i % 64)) (eqb-true _ _ (each_at (λ k. eqb (get_or marks k 0) 0) room_words (i / 64) e (omega arith)))
      ∙ bit_none (i % 64))))

  -- the same of an array of zeros
  pub words_unmarked : (P : Part) → marks ≡ replicate room_words 0
      → each (λ i. eqb (get_or bytes i 0) 0) room ≡ latch_fits P may both
  words_unmarked P e =
      each_cong (λ i. eqb (get_or bytes i 0) 0) (λ i. cell_fits (may && ltb i P.page) both i) room
      (λ i h.
      sym (at_no (may && ltb i P.page) (eqb (get_or bytes i 0) 0)
      (ap (λ (ms : List ℕ). mark ms i) e ∙ mark_none room_words i)))

  -- the words of the page, and those past it
  pub words_both : (P : Part) → Sound P
      → latch_fits P may both ≡ (words_fit may bytes marks 0 (P.page / 64) && words_fit false bytes marks (P.page / 64) room_words)
  words_both P sound =
      let whole : P.page + (room - P.page) ≡ room = omega (arith, sound.page_room) in
      let at : ℕ → Bool = λ i. cell_fits (may && ltb i P.page) both i in
      ap (each at) (sym whole) ∙ each_add at P.page (room - P.page)
      ∙ ap₂ ◌&&◌
      (each_cong at (λ i. cell_fits may both (0 * 64 + i)) P.page (λ i h. on_page P may both i h ∙ ap (cell_fits may both) (omega arith))
      ∙ ap (each (λ i. cell_fits may both (0 * 64 + i))) (omega (arith, sound.marks_whole)))
      (each_cong (λ i. at (P.page + i)) (λ i. cell_fits false both (P.page / 64 * 64 + i)) (room - P.page)
      (λ i h. past_page P may both (P.page + i) (omega arith) ∙ ap (cell_fits false both) (omega (arith, sound.marks_whole)))
      ∙ ap (each (λ i. cell_fits false both (P.page / 64 * 64 + i))) (omega (arith, sound.marks_whole, sound.page_room)))
