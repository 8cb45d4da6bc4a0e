-- One page write laid over another: its marks and bytes; the four laws (grouping, the empty one on both sides, twice as
-- once, order where no cell is marked in both); that the ranges are kept; what laying and storing the result do; and that
-- one more latched byte is a page write of one cell laid over. The laws are equalities of page writes, which have all the
-- room; storing is that of any sound part.
use Prim.Native.Nat.{ℕ, ◌+◌, ◌-◌, ◌*◌, ◌/◌, ◌%◌, ◌^◌, ◌<◌, ◌≤◌}
use mathlib.Core.Bool.{Bool, true, false, ◌&&◌, ◌||◌}
use mathlib.Core.List.{List}
use mathlib.Core.Path.{◌≡◌, refl, sym, ap, ap₂, ◌∙◌}
use native.Mathlib.Decide.{dec_lt, ℕ_discrete}
use native.Mathlib.Omega.{arith}
use lib.Dec.{eqb, leb, ltb}
use lib.ListN.{length, get_or, set, length-set, length-replicate, get_or-replicate}
use lib.Seq.{ext_get_or, get_or-set_same, get_or-set_other}
use lib.Bits.{bit_or, or_zero_r}
use borrow.Author.Tests.{eq-eqb, ne_eqb, eqb-true, le-leb, lt-ltb, leb-true, ltb-true}
use Rattle.laws.specs.Pick.{pick, at_yes, at_no, pick_same, pick_or, pick_case, and_left, and_right, and_both}
use Rattle.laws.specs.And.{never}
use Rattle.laws.specs.Each.{each, each_at, each_of, each_cong}
use Rattle.laws.specs.Table.{table_is}
use Rattle.laws.specs.Marks.{mark_set, mark_none, mark_set_law, mark_or, or_words, or_words_length, or_words_assoc, or_words_comm}
use Rattle.laws.specs.Marks.{or_words_self, or_words_none, none_or_words}
use Rattle.codes.specs.Part.{Part, m95m01, part_of, room, room_words}
use Rattle.codes.proofs.Parts.{row_megabit}
use Rattle.codes.proofs.Sound.{Sound}
use Rattle.latch.specs.Latches.{marked, byte_at, laid_at, zeros, no_latch, latched, laid, cell_fits, latch_fits, in_page, stored}
use Rattle.latch.specs.declared.Latch.{Latch}
use Rattle.latch.proofs.Stores.{laid_length, laid_at_law, stored_at_law, stored_none, stored_length}
use Rattle.laying.specs.Laying.{over, room_fits, Sized, Inside, Disjoint}

abbrev latch_of : List ℕ → List ℕ → Latch
latch_of b m = record { bytes = b; marks = m }

-- what has every cell of a page with a write laid over it is that page
laid_is : (n : ℕ) (l : Latch) (page s : List ℕ) → length s ≡ n → ((i : ℕ) → i < n → get_or s i 0 ≡ laid_at l i (get_or page i 0))
    → s ≡ laid n l page
unfolding laid
laid_is n l page s e h = table_is _ s n 0 e h

zeros_at : (n i : ℕ) → i < n → get_or (zeros n) i 0 ≡ 0
unfolding zeros
zeros_at n i h = get_or-replicate {A = ℕ} n i 0 0 h

zeros_length : (n : ℕ) → length (zeros n) ≡ n
unfolding zeros
zeros_length n = length-replicate {A = ℕ} n 0

-- ---- its marks and bytes

module _ (l k : Latch) where
  pub over_marked : (i : ℕ) → i < room → marked (over l k) i ≡ (marked l i || marked k i)
  over_marked i h = mark_or room_words l.marks k.marks i h

  pub over_byte : (i : ℕ) → i < room → byte_at (over l k) i ≡ laid_at k i (byte_at l i)
  over_byte i h = laid_at_law room k l.bytes i h

  pub over_sized : Sized (over l k)
  over_sized = record { bytes = laid_length room k l.bytes; marks = or_words_length room_words l.marks k.marks }

  -- laid over a cell: first the one, then the other
  pub over_laid_at : (i x : ℕ) → i < room → laid_at (over l k) i x ≡ laid_at k i (laid_at l i x)
  over_laid_at i x h =
      ap₂ (λ t (y : ℕ). pick t y x) (over_marked i h) (over_byte i h)
      ∙ sym (pick_or (marked l i) (marked k i) (byte_at k i) (byte_at l i) x)

  -- laid over a page of n cells: first the one, then the other
  pub laid_over_law : (n : ℕ) → n ≤ room → (page : List ℕ) → laid n (over l k) page ≡ laid n k (laid n l page)
  laid_over_law n b page =
      laid_is n k (laid n l page) (laid n (over l k) page) (laid_length n (over l k) page)
      (λ i h.
      laid_at_law n (over l k) page i h
      ∙ over_laid_at i (get_or page i 0) (omega arith)
      ∙ sym (ap (laid_at k i) (laid_at_law n l page i h)))

-- ---- the four laws

-- grouping does not matter
pub over_assoc : (l k m : Latch) → over (over l k) m ≡ over l (over k m)
over_assoc l k m =
    ap₂ latch_of (sym (laid_over_law k m room (omega arith) l.bytes)) (or_words_assoc room_words l.marks k.marks m.marks)

-- an unmarked byte of a page write inside its ranges
inside_byte : (l : Latch) → Inside l → (i : ℕ) → i < room → marked l i ≡ false → byte_at l i ≡ 0
inside_byte l w i h e = eqb-true (byte_at l i) 0 (sym (at_no true (eqb (byte_at l i) 0) e) ∙ each_at (cell_fits true l) room i w h)

module _ (l : Latch) (s : Sized l) where
  -- an empty one laid over another changes nothing
  pub over_none : over l no_latch ≡ l
  unfolding zeros
  over_none =
      ap₂ latch_of
      (sym (laid_is room no_latch l.bytes l.bytes s.bytes (λ i h. sym (at_no _ _ (mark_none room_words i)))))
      (or_words_none room_words l.marks s.marks)

  -- and one laid over an empty one is as it was
  pub none_over : Inside l → over no_latch l ≡ l
  unfolding zeros
  none_over w =
      ap₂ latch_of
      (sym (laid_is room l (zeros room) l.bytes s.bytes
      (λ i h.
      pick_case (λ (x : ℕ). byte_at l i ≡ x) (marked l i) (λ e. refl) (λ e. inside_byte l w i h e ∙ sym (zeros_at room i h)))))
      (none_or_words room_words l.marks s.marks)

  -- twice is as once
  pub over_self : over l l ≡ l
  over_self =
      ap₂ latch_of (sym (laid_is room l l.bytes l.bytes s.bytes (λ i h. sym (pick_same (marked l i) (byte_at l i)))))
      (or_words_self room_words l.marks s.marks)

-- over anything
pub over_twice : (l k : Latch) → Sized k → over (over l k) k ≡ over l k
over_twice l k s = over_assoc l k k ∙ ap (over l) (over_self k s)

-- order does not matter where no cell is marked in both
crossed : (t u : Bool) (a b : ℕ) → (t && u) ≡ false → (t ≡ false → a ≡ 0) → (u ≡ false → b ≡ 0) → pick u b a ≡ pick t a b
unfolding pick
crossed true true a b e f g = absurd (never {b = true} refl e)
crossed true false a b e f g = refl
crossed false true a b e f g = refl
crossed false false a b e f g = f refl ∙ sym (g refl)

pub over_comm : (l k : Latch) → Inside l → Inside k → Disjoint l k → over l k ≡ over k l
over_comm l k w w' apart =
    ap₂ latch_of
    (laid_is room l k.bytes (laid room k l.bytes) (laid_length room k l.bytes)
    (λ i h.
    laid_at_law room k l.bytes i h
    ∙ crossed (marked l i) (marked k i) (byte_at l i) (byte_at k i) (apart i h) (inside_byte l w i h) (inside_byte k w' i h)))
    (or_words_comm room_words l.marks k.marks)

-- ---- the ranges are kept, of a part and of the room

both_fit : (may t u : Bool) (a b : ℕ) → pick t may (eqb a 0) ≡ true → pick u may (eqb b 0) ≡ true
    → pick (t || u) may (eqb (pick u b a) 0) ≡ true
unfolding pick
both_fit may true true a b p q = p
both_fit may true false a b p q = p
both_fit may false true a b p q = q
both_fit may false false a b p q = p

-- each cell has its own word on whether it may be marked
abbrev fits_by : (ℕ → Bool) → Latch → Bool
fits_by may l = each (λ i. cell_fits (may i) l i) room

fits_by_over : (may : ℕ → Bool) (l k : Latch) → fits_by may l ≡ true → fits_by may k ≡ true → fits_by may (over l k) ≡ true
fits_by_over may l k p q =
    each_of _ room
    (λ i h.
    ap₂ (λ t (x : ℕ). pick t (may i) (eqb x 0)) (over_marked l k i h) (over_byte l k i h)
    ∙ both_fit (may i) (marked l i) (marked k i) (byte_at l i) (byte_at k i) (each_at _ room i p h) (each_at _ room i q h))

-- two inside the ranges of a part, and two inside the room's
pub over_fits : (P : Part) (may : Bool) (l k : Latch) → latch_fits P may l ≡ true → latch_fits P may k ≡ true
    → latch_fits P may (over l k) ≡ true
over_fits P may = fits_by_over (λ i. may && ltb i P.page)

pub over_inside : (l k : Latch) → Inside l → Inside k → Inside (over l k)
over_inside = fits_by_over (λ i. true)

-- ---- a part's ranges, and the room's

anywhere : (may t b : Bool) → pick t may b ≡ true → pick t true b ≡ true
unfolding pick
anywhere may true b p = refl
anywhere may false b p = p

-- what is inside a part's is inside the room's: the call refuses no page write of any part
pub fits_inside : (P : Part) (may : Bool) (l : Latch) → latch_fits P may l ≡ true → Inside l
fits_inside P may l p =
    each_of (cell_fits true l) room
    (λ i h. anywhere (may && ltb i P.page) (marked l i) (eqb (byte_at l i) 0) (each_at _ room i p h))

-- the room's are the M95M01's, by its number, as the code asks
pub room_fits_law : (l : Latch) → latch_fits (part_of 2) true l ≡ room_fits l
room_fits_law l =
    ap (λ (P : Part). latch_fits P true l) row_megabit
    ∙ each_cong _ (cell_fits true l) room (λ i h. ap (λ t. cell_fits t l i) (lt-ltb i room h))

-- ---- stored: first the one, then the other

in_offset : (P : Part) (p i : ℕ) → in_page P p i ≡ true → i - p * P.page < P.page
in_offset P p i e =
    let from : p * P.page ≤ i = leb-true _ _ (and_left (leb (p * P.page) i) (ltb i (p * P.page + P.page)) e) in
    let to : i < p * P.page + P.page = ltb-true _ _ (and_right (leb (p * P.page) i) (ltb i (p * P.page + P.page)) e) in
    omega arith

module _ (P : Part) (sound : Sound P) (p : ℕ) (l k : Latch) (m : List ℕ) where
  abbrev first : List ℕ
  first = stored P p l m

  -- what stands in a cell of the page, and in any other
  both_cell : (i x y : ℕ) (b : Bool) → in_page P p i ≡ b → y ≡ pick b (laid_at l (i - p * P.page) x) x
      → pick (in_page P p i) (laid_at k (i - p * P.page) y) y ≡ pick (in_page P p i) (laid_at (over l k) (i - p * P.page) x) x
  unfolding pick
  both_cell i x y true e h =
      at_yes _ _ e
      ∙ ap (laid_at k (i - p * P.page)) h
      ∙ sym (at_yes _ _ e ∙ over_laid_at l k (i - p * P.page) x (omega (arith, in_offset P p i e, sound.page_room)))
  both_cell i x y false e h = at_no _ _ e ∙ h ∙ sym (at_no _ _ e)

  pub stored_over : stored P p k first ≡ stored P p (over l k) m
  stored_over = elim (dec_lt (length m) (p * P.page + P.page)) [
    | yes lacks ↦
        sym (stored_none P p k first (rw (stored_length P p l m) lacks))
        ∙ sym (stored_none P p l m lacks)
        ∙ stored_none P p (over l k) m lacks
    | no lacks ↦
        let long = stored_length P p l m in
        let fits : p * P.page + P.page ≤ length m = omega arith in
        let again : p * P.page + P.page ≤ length first = rw long fits in
        ext_get_or 0 _ _ (stored_length P p k first ∙ long ∙ sym (stored_length P p (over l k) m))
        (λ i h.
        let below : i < length m = omega (arith, h, stored_length P p k first, long) in
        stored_at_law P p k first again i (rw long below)
        ∙ both_cell i (get_or m i 0) (get_or first i 0) (in_page P p i) refl (stored_at_law P p l m fits i below)
        ∙ sym (stored_at_law P p (over l k) m fits i below))
  ]

-- a page by itself
pub stored_alone : (P : Part) (l : Latch) (m : List ℕ) → length m ≡ P.page → stored P 0 l m ≡ laid P.page l m
stored_alone P l m e =
    let fits : 0 * P.page + P.page ≤ length m = omega arith in
    laid_is P.page l m (stored P 0 l m) (stored_length P 0 l m ∙ e)
    (λ i h.
    let from : 0 * P.page ≤ i = omega arith in
    let to : i < 0 * P.page + P.page = omega arith in
    let same : i - 0 * P.page ≡ i = omega arith in
    stored_at_law P 0 l m fits i (omega arith)
    ∙ at_yes _ _ (and_both (leb (0 * P.page) i) (ltb i (0 * P.page + P.page)) (le-leb _ _ from) (lt-ltb _ _ to))
    ∙ ap (λ (j : ℕ). laid_at l j (get_or m i 0)) same)

-- all the room is a page of the M95M01, by its number, as the code has it
pub stored_room : (l : Latch) (m : List ℕ) → length m ≡ room → stored (part_of 2) 0 l m ≡ laid room l m
stored_room l m e = ap (λ (P : Part). stored P 0 l m) row_megabit ∙ stored_alone m95m01 l m e

-- ---- one more byte is a page write of one cell laid over

module _ (i v : ℕ) (l : Latch) (s : Sized l) (inside : i < room) where
  single : Latch
  single = latched i v no_latch

  there : i / 64 < room_words
  there = omega arith

  word : i / 64 < length (zeros room_words)
  word = rw (zeros_length room_words) there

  single_marked : (j : ℕ) → marked single j ≡ eqb j i
  unfolding single zeros
  single_marked j = mark_set_law (zeros room_words) i j word ∙ ap (λ t. t || eqb j i) (mark_none room_words j)

  single_byte : byte_at single i ≡ v
  unfolding single
  single_byte = get_or-set_same (zeros room) i v 0 (rw (zeros_length room) inside)

  bytes_same : set l.bytes i v ≡ laid room single l.bytes
  bytes_same =
      laid_is room single l.bytes (set l.bytes i v) (length-set l.bytes i v ∙ s.bytes)
      (λ j h. elim (ℕ_discrete j i) [
        | yes e ↦
            ap (λ (x : ℕ). get_or (set l.bytes i v) x 0) e
            ∙ get_or-set_same l.bytes i v 0 (omega (arith, s.bytes))
            ∙ sym (at_yes _ _ (single_marked j ∙ eq-eqb j i e) ∙ ap (byte_at single) e ∙ single_byte)
        | no e ↦
            get_or-set_other l.bytes i j v 0 e ∙ sym (at_no _ _ (single_marked j ∙ ne_eqb j i e))
      ])

  marks_same : mark_set i l.marks ≡ or_words room_words l.marks single.marks
  unfolding single or_words
  marks_same =
      table_is _ (mark_set i l.marks) room_words 0 (length-set l.marks (i / 64) _ ∙ s.marks)
      (λ j h. elim (ℕ_discrete j (i / 64)) [
        | yes e ↦
            ap (λ (x : ℕ). get_or (mark_set i l.marks) x 0) e
            ∙ get_or-set_same l.marks (i / 64) _ 0 (rw s.marks there)
            ∙ ap₂ bit_or (ap (λ (x : ℕ). get_or l.marks x 0) (sym e))
            (sym (ap (λ (x : ℕ). get_or (mark_set i (zeros room_words)) x 0) e
            ∙ get_or-set_same (zeros room_words) (i / 64) _ 0 word
            ∙ ap (λ (x : ℕ). bit_or x (2 ^ (i % 64))) (zeros_at room_words (i / 64) there)))
        | no e ↦
            get_or-set_other l.marks (i / 64) j _ 0 e
            ∙ sym (ap (bit_or (get_or l.marks j 0)) (get_or-set_other (zeros room_words) (i / 64) j _ 0 e ∙ zeros_at room_words j h)
            ∙ or_zero_r (get_or l.marks j 0))
      ])

  pub latched_over : latched i v l ≡ over l (latched i v no_latch)
  unfolding single
  latched_over = ap₂ latch_of bytes_same marks_same
