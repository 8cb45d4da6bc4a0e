-- A latch inside its ranges, cell by cell: one with no byte, one with a byte more, one in which nothing may be marked; and
-- how many cells are marked.
use mathlib.Core.Path.{◌≡◌, refl, sym, ap, ◌∙◌}
use mathlib.Core.Bool.{Bool, true, false, ◌&&◌, and-true, and-false}
use Prim.Native.Nat.{ℕ, ◌+◌, ◌-◌, ◌/◌, ◌<◌, ◌≤◌}
use native.Mathlib.Nat.{add-zero}
use native.Mathlib.Decide.{ℕ_discrete, dec_lt}
use native.Mathlib.Omega.{arith}
use lib.ListN.{length, get_or-replicate}
use lib.Seq.{get_or-set_other}
use lib.Dec.{eqb, ltb}
use borrow.Author.Tests.{eq-eqb, lt-ltb, le-ltb}
use Rattle.laws.specs.Pick.{pick, at_yes, at_no, and_both, and_right, pick_second}
use Rattle.laws.specs.Each.{each_at, each_of}
use Rattle.laws.specs.Count.{count, count_add, count_none}
use Rattle.laws.specs.Marks.{mark_none, mark_set_same, mark_set_other}
use Rattle.codes.specs.Part.{Part, room, room_words}
use Rattle.codes.proofs.Sound.{Sound}
use Rattle.latch.specs.Latches.{marked, byte_at, zeros, no_latch, latched, cell_fits, latch_fits}
use Rattle.latch.specs.declared.Latch.{Latch}

-- ---- its cells: those of the page, and those past it

module _ (P : Part) (may : Bool) (l : Latch) where
  abbrev fits_at : ℕ → Bool
  fits_at i = cell_fits (may && ltb i P.page) l i

  pub on_page : (i : ℕ) → i < P.page → fits_at i ≡ cell_fits may l i
  on_page i h = ap (λ t. cell_fits t l i) (ap (λ t. may && t) (lt-ltb i P.page h) ∙ and-true may)

  pub past_page : (i : ℕ) → P.page ≤ i → fits_at i ≡ cell_fits false l i
  past_page i h = ap (λ t. cell_fits t l i) (ap (λ t. may && t) (le-ltb i P.page h) ∙ and-false may)

  pub fits_cell : Sound P → latch_fits P may l ≡ true → (i : ℕ) → i < P.page → cell_fits may l i ≡ true
  fits_cell sound e i h = sym (on_page i h) ∙ each_at fits_at room i e (omega (arith, sound.page_room))

  pub fits_past : latch_fits P may l ≡ true → (i : ℕ) → i < room → P.page ≤ i → cell_fits false l i ≡ true
  fits_past e i b h = sym (past_page i h) ∙ each_at fits_at room i e b

  pub fits_each : ((i : ℕ) → i < P.page → cell_fits may l i ≡ true)
      → ((i : ℕ) → i < room → P.page ≤ i → cell_fits false l i ≡ true) → latch_fits P may l ≡ true
  fits_each f g = each_of fits_at room (λ i b. elim (dec_lt i P.page) [
    | yes h ↦ on_page i h ∙ f i h
    | no h ↦ past_page i (omega arith) ∙ g i b (omega arith)
  ])

-- ---- no byte latched, and one more

pub none_latched : (P : Part) (may : Bool) → latch_fits P may no_latch ≡ true
unfolding zeros
none_latched P may =
    each_of (fits_at P may no_latch) room
    (λ i h. at_no _ _ (mark_none room_words i) ∙ eq-eqb _ _ (get_or-replicate {A = ℕ} room i 0 0 h))

where_marked : (t may u b : Bool) → pick t (may && u) b ≡ true → pick t (true && u) b ≡ true
unfolding pick
where_marked true may u b e = and_both true u refl (and_right may u e)
where_marked false may u b e = e

-- where nothing may be marked nothing is, so it fits where something may be
pub more_fits : (P : Part) (may : Bool) (l : Latch) → latch_fits P may l ≡ true → latch_fits P true l ≡ true
more_fits P may l e =
    each_of (fits_at P true l) room
    (λ i h. where_marked (marked l i) may (ltb i P.page) (eqb (byte_at l i) 0) (each_at (fits_at P may l) room i e h))

pub unmarked : (P : Part) (l : Latch) (k : ℕ) → latch_fits P false l ≡ true → k < room → marked l k ≡ false
unmarked P l k e h = pick_second (marked l k) _ (eqb (byte_at l k) 0) refl (each_at (fits_at P false l) room k e h)

-- a cell of a page has its bit in one of the words
pub cell_word : (P : Part) → Sound P → (k : ℕ) → k < P.page → k / 64 < room_words
cell_word P sound k h = omega (arith, sound.page_room)

pub one_latched : (P : Part) (k v : ℕ) (l : Latch) → Sound P → k < P.page → k / 64 < length l.marks → latch_fits P true l ≡ true
    → latch_fits P true (latched k v l) ≡ true
one_latched P k v l sound b h fits = fits_each P true (latched k v l) at past
  where
    other : (may : Bool) (j : ℕ) → (j ≡ k → ⊥) → cell_fits may l j ≡ true → cell_fits may (latched k v l) j ≡ true
    other may j e c = rw (mark_set_other l.marks k j e, get_or-set_other l.bytes k j v 0 e) c

    at : (j : ℕ) → j < P.page → cell_fits true (latched k v l) j ≡ true
    at j i = elim (ℕ_discrete j k) [
      | yes e ↦ at_yes true _ (ap (marked (latched k v l)) e ∙ mark_set_same l.marks k h)
      | no e ↦ other true j e (fits_cell P true l sound fits j i)
    ]

    past : (j : ℕ) → j < room → P.page ≤ j → cell_fits false (latched k v l) j ≡ true
    past j i p = other false j (λ e. omega arith) (fits_past P true l fits j i p)

-- ---- how many cells are marked

-- 0 where nothing may be
pub none_counted : (P : Part) (l : Latch) → latch_fits P false l ≡ true → count (marked l) room ≡ 0
none_counted P l e = count_none (marked l) room (λ i h. unmarked P l i e h)

-- past the page none is, so the marks of all the room are those of the page
pub page_counted : (P : Part) (may : Bool) (l : Latch) → Sound P → latch_fits P may l ≡ true
    → count (marked l) room ≡ count (marked l) P.page
page_counted P may l sound e =
    let all : room ≡ P.page + (room - P.page) = omega (arith, sound.page_room) in
    ap (count (marked l)) all
    ∙ count_add (marked l) P.page (room - P.page)
    ∙ ap (λ (x : ℕ). count (marked l) P.page + x)
    (count_none _ (room - P.page)
    (λ i b.
    pick_second (marked l (P.page + i)) false (eqb (byte_at l (P.page + i)) 0) refl
    (fits_past P may l e (P.page + i) (omega arith) (omega arith))))
    ∙ add-zero (count (marked l) P.page)
