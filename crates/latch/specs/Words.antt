-- The cells of one word of marks: n cells of a page from `start` on, with the n low bits of a word as their marks. The
-- code goes through a page word by word; n is how far it has come.
use Rattle.std.specs.Prelude.{ℕ, ◌+◌, ◌*◌, ◌-◌, ◌^◌, min, Bool, ◌&&◌, List, eqb, leb, ltb, length, get_or}
use Rattle.std.specs.Int.Bits.{bit_or}
use Rattle.laws.specs.Pick.{pick}
use Rattle.laws.specs.Each.{each}
use Rattle.laws.specs.Table.{table}
use Rattle.laws.specs.Bits.{bit_on}
use Rattle.codes.specs.Part.{room_words}
use Rattle.latch.specs.Latches.{cell_fits}

-- n bytes from `start` on are 0
abbrev pub bytes_zero : List ℕ → ℕ → ℕ → Bool
bytes_zero bytes start n = each (λ i. eqb (get_or bytes (start + i) 0) 0) n

-- a marked cell where there may be marks; an unmarked one reads 0
abbrev pub word_fits : Bool → List ℕ → ℕ → ℕ → ℕ → Bool
word_fits may bytes start word n = each (λ i. pick (bit_on word i) may (eqb (get_or bytes (start + i) 0) 0)) n

-- the cells of the words from one up to another
abbrev pub words_fit : Bool → List ℕ → List ℕ → ℕ → ℕ → Bool
words_fit may bytes marks from to =
    each (λ i. cell_fits may (record { bytes = bytes; marks = marks }) (from * 64 + i)) ((to - from) * 64)

-- cell i of the page is one of them, and its bit of the word is set
abbrev pub word_marked : ℕ → ℕ → ℕ → ℕ → Bool
word_marked start word n i = leb start i && ltb i (start + n) && bit_on word (i - start)

-- a page with the marked bytes laid over it
unfoldable pub word_laid : List ℕ → ℕ → ℕ → ℕ → List ℕ → List ℕ
word_laid bytes start word n page =
    table (length page) (λ i. pick (word_marked start word n i) (get_or bytes i 0) (get_or page i 0))

-- the word with every mark
abbrev pub full : ℕ
full = 2 ^ 64 - 1

-- ---- a run of cells

-- the marks of the cells from `start` up to `end`, as far as they stand in the word whose first cell is `first`
abbrev pub run_word : ℕ → ℕ → ℕ → ℕ
run_word first start end = 2 ^ min 64 (end - first) - 2 ^ min 64 (start - first)

-- the marks of a run of cells from `start` up to `end`, and of the cells up to `rest`
unfoldable pub run_marks : ℕ → ℕ → ℕ → List ℕ
run_marks start end rest = table room_words (λ k. bit_or (run_word (k * 64) start end) (run_word (k * 64) 0 rest))
