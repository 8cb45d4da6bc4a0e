-- The view to a byte for each mark: each operation on words, seen through it, is that on bytes; and nothing is lost.
use Prim.Native.Nat.{ℕ, suc, ◌+◌, ◌-◌, ◌*◌, ◌/◌, ◌%◌, ◌<◌, ◌≤◌}
use mathlib.Core.Bool.{Bool, true, false, ◌&&◌, ◌||◌, or-false}
use mathlib.Core.List.{List, [], ◌∷◌}
use mathlib.Core.Path.{◌≡◌, refl, sym, ap, ap₂, ◌∙◌}
use native.Mathlib.Nat.{lt_of_lt_of_le, mod-lt}
use native.Mathlib.Omega.{arith}
use lib.Dec.{eqb, leb, ltb}
use lib.ListN.{length, get_or, replicate, length-set, length-replicate}
use borrow.Author.Tests.{leb-true, ltb-true}
use Rattle.laws.specs.Pick.{pick, pick_cong, and_left, and_right}
use Rattle.laws.specs.Each.{each_cong}
use Rattle.laws.specs.Table.{table, table_cong}
use Rattle.laws.specs.Flags.{bit, on, on_bit}
use Rattle.laws.specs.Marks.{mark_bytes, Wide, mark_bytes_at, mark_bytes_none, mark_bytes_set, mark_bytes_same}
use Rattle.codes.specs.Part.{Part, room, room_words}
use Rattle.codes.proofs.Sound.{Sound}
use Rattle.latch.specs.Latches.{marked, byte_at, zeros, no_latch, latched, latch_fits, in_page, stored_at, stored}
use Rattle.latch.specs.declared.Latch.{Latch}
use Rattle.fields.specs.Bytes.{payload, address, latched_from, written}
use Rattle.bytewise.specs.Bytewise.{Bytewise, no_bytes, byte_latched, bytes_fit, byte_stored_at, bytes_stored, byte_form, view}
use Rattle.bytewise.specs.Deeds.{latched_all, written_in}

abbrev bytewise : List ℕ → List ℕ → Bytewise
bytewise b m = record { bytes = b; marks = m }

module _ (P : Part) (sound : Sound P) where
  -- ---- no byte, one more byte

  pub view_none : view no_latch ≡ no_bytes
  unfolding view zeros
  view_none = ap (bytewise (replicate room 0)) (mark_bytes_none room_words)

  pub view_latched : (i v : ℕ) (l : Latch) → length l.marks ≡ room_words → i < P.page
      → view (latched i v l) ≡ byte_latched i v (view l)
  unfolding view
  view_latched i v l e h = ap (bytewise _) (mark_bytes_set room_words i l.marks e (lt_of_lt_of_le h sound.page_room))

  -- ---- a cell's mark

  view_mark : (l : Latch) (i : ℕ) → i < room → get_or (view l).marks i 0 ≡ bit (marked l i)
  unfolding view
  view_mark l i h = mark_bytes_at room_words l.marks i h

  -- ---- the ranges

  cell_same : (may t b : Bool) → (eqb (bit t) 0 && b || eqb (bit t) 1 && may) ≡ pick t may b
  unfolding pick
  cell_same may true b = refl
  cell_same may false b = or-false b

  pub view_fits : (may : Bool) (l : Latch) → bytes_fit P may (view l) ≡ latch_fits P may l
  unfolding view
  view_fits may l =
      each_cong _ _ room
      (λ i h.
      ap (λ (m : ℕ). eqb m 0 && eqb (byte_at l i) 0 || eqb m 1 && (may && ltb i P.page)) (view_mark l i h)
      ∙ cell_same (may && ltb i P.page) (marked l i) (eqb (byte_at l i) 0))

  -- ---- storing

  in_offset : (p i : ℕ) → in_page P p i ≡ true → i - p * P.page < P.page
  in_offset p i e =
      let from : p * P.page ≤ i = leb-true _ _ (and_left (leb (p * P.page) i) (ltb i (p * P.page + P.page)) e) in
      let to : i < p * P.page + P.page = ltb-true _ _ (and_right (leb (p * P.page) i) (ltb i (p * P.page + P.page)) e) in
      omega arith

  stored_cell : (p : ℕ) (l : Latch) (m : List ℕ) (i : ℕ) → byte_stored_at P p (view l) m i ≡ stored_at P p l m i
  unfolding view
  stored_cell p l m i =
      pick_cong (in_page P p i) (get_or m i 0)
      (λ e.
      ap (λ (t : Bool). pick t (byte_at l (i - p * P.page)) (get_or m i 0))
      (ap on (view_mark l (i - p * P.page) (lt_of_lt_of_le (in_offset p i e) sound.page_room)) ∙ on_bit (marked l (i - p * P.page))))

  pub view_stored : (p : ℕ) (l : Latch) (m : List ℕ) → bytes_stored P p (view l) m ≡ stored P p l m
  unfolding bytes_stored stored
  view_stored p l m =
      pick_cong (leb (p * P.page + P.page) (length m)) m
      (λ e. table_cong (byte_stored_at P p (view l) m) (stored_at P p l m) (length m) 0 (λ i h. stored_cell p l m i))

  -- ---- a frame's data

  view_all : (i : ℕ) (vs : List ℕ) (l : Latch) → length l.marks ≡ room_words
      → view (latched_from P i vs l) ≡ latched_all (byte_form P) P i vs (view l)
  unfolding latched_from latched_all
  view_all i [] l e = refl
  view_all i (v ∷ vs) l e =
      view_all (suc i) vs (latched (i % P.page) v l) (length-set l.marks (i % P.page / 64) _ ∙ e)
      ∙ ap (latched_all (byte_form P) P (suc i) vs) (view_latched (i % P.page) v l e (mod-lt i sound.page_some))

  pub view_written : (s : List ℕ) → view (written P s) ≡ written_in (byte_form P) P s
  unfolding zeros
  view_written s =
      view_all (address P s % P.page) (payload P s) no_latch (length-replicate {A = ℕ} room_words 0)
      ∙ ap (latched_all (byte_form P) P (address P s % P.page) (payload P s)) view_none

  -- ---- nothing is lost: latches with one view are one

  pub view_same : (l k : Latch) → length l.marks ≡ room_words → length k.marks ≡ room_words → Wide room_words l.marks
      → Wide room_words k.marks → view l ≡ view k → l ≡ k
  unfolding view
  view_same l k e e' w w' same =
      ap₂ (λ (b m : List ℕ). record { bytes = b; marks = m }) (ap (λ (b : Bytewise). b.bytes) same)
      (mark_bytes_same room_words l.marks k.marks e e' w w' (ap (λ (b : Bytewise). b.marks) same))
