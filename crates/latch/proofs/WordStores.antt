-- A page with the marked bytes of one word laid over it: none of them yet, one cell more; and the words of a page, one
-- after the other.
use Prim.Native.Nat.{ℕ, ◌+◌, ◌-◌, ◌*◌, ◌<◌, ◌≤◌}
use mathlib.Core.Bool.{Bool, false, ◌&&◌, and-false, false-and, true-and}
use mathlib.Core.List.{List}
use mathlib.Core.Path.{◌≡◌, refl, sym, ap, ap₂, ◌∙◌}
use native.Mathlib.Nat.{add-sub_cancel_left}
use native.Mathlib.Decide.{ℕ_discrete, dec_lt}
use native.Mathlib.Omega.{arith}
use lib.Dec.{leb, ltb}
use lib.ListN.{length, get_or, set, length-set}
use lib.Seq.{get_or-set_same, get_or-set_other}
use borrow.Author.Tests.{le-leb, lt-leb, lt-ltb, le-ltb}
use Rattle.laws.specs.Pick.{pick, at_no, and_no_left}
use Rattle.laws.specs.Table.{table, table_length, table_at, table_cong, table_is}
use Rattle.laws.specs.Bits.{bit_on}
use Rattle.laws.specs.Marks.{mark, mark_at}
use Rattle.latch.specs.Latches.{laid}
use Rattle.latch.specs.Words.{word_marked, word_laid}

-- ---- which cells are marked

module _ (start word n i : ℕ) where
  pub before_part : i < start → word_marked start word n i ≡ false
  before_part h =
      ap (λ t. t && ltb i (start + n) && bit_on word (i - start)) (lt-leb start i h)
      ∙ ap (λ t. t && bit_on word (i - start)) (false-and (ltb i (start + n)))
      ∙ false-and (bit_on word (i - start))

  pub after_part_law : start + n ≤ i → word_marked start word n i ≡ false
  after_part_law h =
      ap (λ t. leb start i && t && bit_on word (i - start)) (le-ltb i (start + n) h)
      ∙ ap (λ t. t && bit_on word (i - start)) (and-false (leb start i))
      ∙ false-and (bit_on word (i - start))

  pub in_part : start ≤ i → i < start + n → word_marked start word n i ≡ bit_on word (i - start)
  in_part h k =
      ap₂ (λ t u. t && u && bit_on word (i - start)) (le-leb start i h) (lt-ltb i (start + n) k)
      ∙ true-and (bit_on word (i - start))

-- ---- the page

module _ (bytes : List ℕ) (start word : ℕ) (page : List ℕ) where
  cell : ℕ → ℕ → ℕ
  cell n i = pick (word_marked start word n i) (get_or bytes i 0) (get_or page i 0)

  pub word_laid_length : (n : ℕ) → length (word_laid bytes start word n page) ≡ length page
  unfolding word_laid
  word_laid_length n = table_length _ (length page)

  pub word_laid_at : (n i : ℕ) → i < length page
      → get_or (word_laid bytes start word n page) i 0 ≡ pick (word_marked start word n i) (get_or bytes i 0) (get_or page i 0)
  unfolding word_laid
  word_laid_at n i h = table_at _ (length page) i 0 h

  word_laid_is : (n : ℕ) (s : List ℕ) → length s ≡ length page
      → ((i : ℕ) → i < length page → get_or s i 0 ≡ pick (word_marked start word n i) (get_or bytes i 0) (get_or page i 0)) → s ≡ word_laid bytes start word n page
  unfolding word_laid
  word_laid_is n s e h = table_is _ s (length page) 0 e h

  same_pick : {t u : Bool} (a b : ℕ) → t ≡ u → pick t a b ≡ pick u a b
  same_pick a b e = ap (λ t. pick t a b) e

  -- no cell yet
  pub word_laid_none : page ≡ word_laid bytes start word 0 page
  word_laid_none = word_laid_is 0 page refl (λ i h. elim (dec_lt i start) [
    | yes b ↦ sym (at_no _ _ (before_part start word 0 i b))
    | no b ↦ sym (at_no _ _ (after_part_law start word 0 i (omega arith)))
  ])

  -- what is not laid yet is as it was
  pub word_laid_next : (n : ℕ) → start + n < length page → get_or (word_laid bytes start word n page) (start + n) 0 ≡ get_or page (start + n) 0
  word_laid_next n h = word_laid_at n (start + n) h ∙ at_no _ _ (after_part_law start word n (start + n) (omega arith))

  -- one cell more
  pub word_laid_more : (n v : ℕ) → start + n < length page → v ≡ pick (bit_on word n) (get_or bytes (start + n) 0) (get_or page (start + n) 0)
      → set (word_laid bytes start word n page) (start + n) v ≡ word_laid bytes start word (n + 1) page
  word_laid_more n v h p =
      word_laid_is (n + 1) (set (word_laid bytes start word n page) (start + n) v)
      (length-set (word_laid bytes start word n page) (start + n) v ∙ word_laid_length n)
      (λ i b. elim (ℕ_discrete i (start + n)) [
        | yes e ↦
            let own : word_marked start word (n + 1) (start + n) ≡ bit_on word n =
            in_part start word (n + 1) (start + n) (omega arith) (omega arith) ∙ ap (bit_on word) (add-sub_cancel_left start n) in
            ap (λ (k : ℕ). get_or (set (word_laid bytes start word n page) (start + n) v) k 0) e
            ∙ get_or-set_same (word_laid bytes start word n page) (start + n) v 0 (omega (arith, word_laid_length n))
            ∙ p
            ∙ sym (ap (λ (k : ℕ). pick (word_marked start word (n + 1) k) (get_or bytes k 0) (get_or page k 0)) e ∙ same_pick _ _ own)
        | no e ↦
            get_or-set_other (word_laid bytes start word n page) (start + n) i v 0 e
            ∙ word_laid_at n i b
            ∙ same_pick _ _ (elim (dec_lt i start) [
              | yes k ↦ before_part start word n i k ∙ sym (before_part start word (n + 1) i k)
              | no k ↦ elim (dec_lt i (start + n)) [
                | yes m ↦ in_part start word n i (omega arith) m ∙ sym (in_part start word (n + 1) i (omega arith) (omega arith))
                | no m ↦ after_part_law start word n i (omega arith) ∙ sym (after_part_law start word (n + 1) i (omega arith))
              ]
            ])
      ])

-- ---- the words of a page, one after the other

-- the first k words are laid
pub words_laid : List ℕ → List ℕ → ℕ → List ℕ → List ℕ
words_laid bytes marks k page = table (length page) (λ i. pick (ltb i (k * 64) && mark marks i) (get_or bytes i 0) (get_or page i 0))

module _ (bytes marks page : List ℕ) where
  abbrev pub laid_words : ℕ → List ℕ
  laid_words k = words_laid bytes marks k page

  pub words_laid_length : (k : ℕ) → length (laid_words k) ≡ length page
  unfolding words_laid
  words_laid_length k = table_length _ (length page)

  words_laid_at : (k i : ℕ) → i < length page
      → get_or (laid_words k) i 0 ≡ pick (ltb i (k * 64) && mark marks i) (get_or bytes i 0) (get_or page i 0)
  unfolding words_laid
  words_laid_at k i h = table_at _ (length page) i 0 h

  pub words_laid_none : page ≡ laid_words 0
  unfolding words_laid
  words_laid_none =
      table_is _ page (length page) 0 refl
      (λ i h. sym (at_no _ _ (and_no_left (ltb i (0 * 64)) (mark marks i) (le-ltb i (0 * 64) (omega arith)))))

  -- one word more
  module _ (k : ℕ) (inside : k * 64 + 64 ≤ length page) where
    word : ℕ
    word = get_or marks k 0

    -- whether a cell is laid by now
    abbrev laid_by : ℕ → ℕ → Bool
    laid_by n i = ltb i (n * 64) && mark marks i

    later : (i : ℕ) → k * 64 ≤ i → laid_by k i ≡ false
    later i h = and_no_left (ltb i (k * 64)) (mark marks i) (le-ltb i (k * 64) h)

    -- below the word, in it, and past it
    cell_more : (i : ℕ) → i < length page
        → pick (word_marked (k * 64) word 64 i) (get_or bytes i 0) (get_or (laid_words k) i 0)
        ≡ pick (laid_by (k + 1) i) (get_or bytes i 0) (get_or page i 0)
    unfolding word
    cell_more i b = elim (dec_lt i (k * 64)) [
      | yes h ↦
          at_no _ _ (before_part (k * 64) word 64 i h)
          ∙ words_laid_at k i b
          ∙ ap (λ t. pick (t && mark marks i) (get_or bytes i 0) (get_or page i 0))
          (lt-ltb i (k * 64) h ∙ sym (lt-ltb i ((k + 1) * 64) (omega arith)))
      | no h ↦
          let kept : get_or (laid_words k) i 0 ≡ get_or page i 0 = words_laid_at k i b ∙ at_no _ _ (later i (omega arith)) in
          elim (dec_lt i (k * 64 + 64)) [
            | yes p ↦
                let there : k * 64 + (i - k * 64) ≡ i = omega arith in
                ap₂ (λ t (x : ℕ). pick t (get_or bytes i 0) x)
                (in_part (k * 64) word 64 i (omega arith) p
                ∙ sym (mark_at marks k (i - k * 64) (omega arith))
                ∙ ap (mark marks) there
                ∙ sym (ap (λ t. t && mark marks i) (lt-ltb i ((k + 1) * 64) (omega arith)) ∙ true-and (mark marks i)))
                kept
            | no p ↦
                at_no _ _ (after_part_law (k * 64) word 64 i (omega arith))
                ∙ kept
                ∙ sym (at_no _ _ (and_no_left (ltb i ((k + 1) * 64)) (mark marks i) (le-ltb i ((k + 1) * 64) (omega arith))))
          ]
    ]

    pub words_laid_more : word_laid bytes (k * 64) (get_or marks k 0) 64 (laid_words k) ≡ laid_words (k + 1)
    unfolding words_laid word
    words_laid_more =
        table_is _ _ (length page) 0 (word_laid_length bytes (k * 64) word (laid_words k) 64 ∙ words_laid_length k)
        (λ i h.
        word_laid_at bytes (k * 64) word (laid_words k) 64 i (rw (words_laid_length k) h) ∙ cell_more i h)

  -- all of them
  pub words_laid_all : (k : ℕ) → length page ≤ k * 64 → laid_words k ≡ laid (length page) (record { bytes = bytes; marks = marks }) page
  unfolding words_laid laid
  words_laid_all k h =
      table_cong _ _ (length page) 0
      (λ i b.
      ap (λ t. pick t (get_or bytes i 0) (get_or page i 0))
      (ap (λ t. t && mark marks i) (lt-ltb i (k * 64) (omega arith)) ∙ true-and (mark marks i)))
