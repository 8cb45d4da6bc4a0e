-- A part's WRITE, once stored, is the part written over the memory, for any sound part; and parts written one after the other are their bytes in one
-- run. To omega `a / P.page * P.page` and `a % P.page` are atoms; `start_of` has their bounds and their sum.
use mathlib.Core.Path.{◌≡◌, refl, ap, sym, ◌∙◌}
use mathlib.Core.Bool.{Bool, true, false, ◌&&◌}
use mathlib.Core.List.{List, [], ◌∷◌, ◌++◌}
use Prim.Native.Nat.{ℕ, suc, ◌+◌, ◌-◌, ◌*◌, ◌/◌, ◌%◌, ◌<◌, ◌≤◌}
use native.Mathlib.Nat.{mod-eq_of_lt}
use native.Mathlib.Decide.{dec_lt, ℕ_discrete}
use native.Mathlib.Omega.{arith}
use lib.ListN.{length, get_or, length-set, length-append, length-replicate, get_or-append}
use lib.Seq.{ext_get_or, get_or-set_same, get_or-set_other}
use lib.Dec.{leb, ltb}
use borrow.Author.Tests.{le-leb, lt-leb, lt-ltb, le-ltb}
use Rattle.laws.specs.Pick.{pick, at_yes, at_no, and_both, and_no_left, and_no_right}
use Rattle.laws.specs.Spliced.{get_d_past}
use Rattle.laws.specs.Table.{table_length, table_at, table_cong, table_of}
use Rattle.laws.specs.Marks.{mark_none, mark_set_same, mark_set_other}
use Rattle.codes.specs.Part.{Part, room, room_words}
use Rattle.latch.specs.Latches.{laid_at, zeros, no_latch, latched, in_page, stored_at, stored}
use Rattle.latch.specs.declared.Latch.{Latch}
use Rattle.codes.proofs.Sound.{Sound}
use Rattle.codes.proofs.Starts.{start_of, page_in_memory}
use Rattle.latch.proofs.Fitting.{cell_word}
use Rattle.fields.specs.Bytes.{payload, latched_from, written}
use Rattle.frames.specs.Sent.{write_bytes}
use Rattle.sequence.specs.Counts.{overwritten}
use Rattle.frames.proofs.Addresses.{write_address, write_payload}

-- ---- is j one of the n cells from a on

abbrev among : ℕ → ℕ → ℕ → Bool
among a n j = leb a j && ltb j (a + n)

among_yes : (a n j : ℕ) → a ≤ j → j < a + n → among a n j ≡ true
among_yes a n j h l = and_both _ _ (le-leb a j h) (lt-ltb j (a + n) l)

among_below : (a n j : ℕ) → j < a → among a n j ≡ false
among_below a n j h = and_no_left (leb a j) _ (lt-leb a j h)

among_past : (a n j : ℕ) → a + n ≤ j → among a n j ≡ false
among_past a n j h = and_no_right (leb a j) _ (le-ltb j (a + n) h)

-- ---- what a latch holds after bytes for cells that follow each other in the page

module _ (i v : ℕ) (l : Latch) (bytes : i < length l.bytes) (marks : i / 64 < length l.marks) where
  laid_same : (x : ℕ) → laid_at (latched i v l) i x ≡ v
  laid_same x = at_yes _ _ (mark_set_same l.marks i marks) ∙ get_or-set_same l.bytes i v 0 bytes

  laid_other : (j x : ℕ) → (j ≡ i → ⊥) → laid_at (latched i v l) j x ≡ laid_at l j x
  laid_other j x h = rw (mark_set_other l.marks i j h, get_or-set_other l.bytes i j v 0 h)

laid_run : (P : Part) → Sound P → (vs : List ℕ) (i : ℕ) (l : Latch) → length l.bytes ≡ room → length l.marks ≡ room_words
    → i + length vs ≤ P.page → (j x : ℕ)
    → laid_at (latched_from P i vs l) j x ≡ pick (among i (length vs) j) (get_or vs (j - i) 0) (laid_at l j x)
unfolding latched_from
laid_run P sound [] i l b m h j x = elim (dec_lt j i) [
  | yes p ↦ sym (at_no _ _ (among_below i 0 j p))
  | no p ↦ sym (at_no _ _ (among_past i 0 j (omega arith)))
]
laid_run P sound (v ∷ vs) i l b m h j x =
    let cell : i % P.page ≡ i = mod-eq_of_lt (omega arith) in
    let next = latched (i % P.page) v l in
    let rest = laid_run P sound vs (suc i) next (length-set l.bytes (i % P.page) v ∙ b) (length-set l.marks (i % P.page / 64) _ ∙ m)
    (omega arith) j x in
    let in_bytes : i % P.page < length l.bytes = omega (arith, sound.page_room) in
    let in-marks : i % P.page / 64 < length l.marks = rw m (cell_word P sound (i % P.page) (omega arith)) in
    elim (dec_lt j i) [
      | yes p ↦
          let other : j ≡ i % P.page → ⊥ = λ e. omega arith in
          rest
          ∙ at_no _ _ (among_below (suc i) (length vs) j (omega arith))
          ∙ laid_other (i % P.page) v l in_bytes in-marks j x other
          ∙ sym (at_no _ _ (among_below i (suc (length vs)) j p))
      | no p ↦ elim (ℕ_discrete j i) [
        | yes q ↦
            let at : j ≡ i % P.page = omega arith in
            let first : 0 ≡ j - i = omega arith in
            rest
            ∙ at_no _ _ (among_below (suc i) (length vs) j (omega arith))
            ∙ ap (λ (k : ℕ). laid_at next k x) at
            ∙ laid_same (i % P.page) v l in_bytes in-marks x
            ∙ ap (λ (k : ℕ). get_or (v ∷ vs) k 0) first
            ∙ sym (at_yes _ _ (among_yes i (suc (length vs)) j (omega arith) (omega arith)))
        | no q ↦
            let other : j ≡ i % P.page → ⊥ = λ e. q (omega arith) in
            elim (dec_lt j (suc i + length vs)) [
              | yes r ↦
                  let later : j - i ≡ suc (j - suc i) = omega arith in
                  rest
                  ∙ at_yes _ _ (among_yes (suc i) (length vs) j (omega arith) r)
                  ∙ sym (ap (λ (k : ℕ). get_or (v ∷ vs) k 0) later)
                  ∙ sym (at_yes _ _ (among_yes i (suc (length vs)) j (omega arith) (omega arith)))
              | no r ↦
                  rest
                  ∙ at_no _ _ (among_past (suc i) (length vs) j (omega arith))
                  ∙ laid_other (i % P.page) v l in_bytes in-marks j x other
                  ∙ sym (at_no _ _ (among_past i (suc (length vs)) j (omega arith)))
            ]
      ]
    ]

-- an empty latch changes nothing
laid_none : (j x : ℕ) → laid_at no_latch j x ≡ x
unfolding zeros
laid_none j x = at_no _ _ (mark_none room_words j)

zeros_length : (n : ℕ) → length (zeros n) ≡ n
unfolding zeros
zeros_length n = length-replicate {A = ℕ} n 0

-- ---- a part, stored

module _ (P : Part) (sound : Sound P) (a : ℕ) (bytes m : List ℕ) (low : a < P.size) (one : a % P.page + length bytes ≤ P.page)
    (size : length m ≡ P.size) where
  abbrev latch : Latch
  latch = written P (write_bytes P a bytes)

  abbrev start : ℕ
  start = a / P.page * P.page

  -- cell j of its page
  laid_cell : (j : ℕ) → start ≤ j
      → laid_at latch (j - start) (get_or m j 0) ≡ pick (among (a % P.page) (length bytes) (j - start)) (get_or bytes (j - start - a % P.page) 0) (get_or m j 0)
  laid_cell j h =
      ap (λ (k : ℕ). laid_at (latched_from P (k % P.page) (payload P (write_bytes P a bytes)) no_latch) (j - start) (get_or m j 0))
      (write_address P sound a bytes low)
      ∙ ap (λ (vs : List ℕ). laid_at (latched_from P (a % P.page) vs no_latch) (j - start) (get_or m j 0)) (write_payload P a bytes)
      ∙ laid_run P sound bytes (a % P.page) no_latch (zeros_length room) (zeros_length room_words) one (j - start) (get_or m j 0)
      ∙ ap (pick (among (a % P.page) (length bytes) (j - start)) (get_or bytes (j - start - a % P.page) 0)) (laid_none (j - start) (get_or m j 0))

  abbrev Cell : ℕ → Type 0
  Cell j = stored_at P (a / P.page) latch m j ≡ pick (among a (length bytes) j) (get_or bytes (j - a) 0) (get_or m j 0)

  in_page_law : (j : ℕ) → start ≤ j → j < start + P.page → Cell j
  in_page_law j h l =
      let at-start = start_of sound a in
      let there = at_yes {t = in_page P (a / P.page) j} _ _ (among_yes start P.page j h l) ∙ laid_cell j h in
      elim (dec_lt j a) [
        | yes p ↦
            there
            ∙ at_no _ _ (among_below (a % P.page) (length bytes) (j - start) (omega arith))
            ∙ sym (at_no _ _ (among_below a (length bytes) j p))
        | no p ↦ elim (dec_lt j (a + length bytes)) [
          | yes q ↦
              let at : j - start - a % P.page ≡ j - a = omega arith in
              there
              ∙ at_yes _ _ (among_yes (a % P.page) (length bytes) (j - start) (omega arith) (omega arith))
              ∙ ap (λ (k : ℕ). get_or bytes k 0) at
              ∙ sym (at_yes _ _ (among_yes a (length bytes) j (omega arith) q))
          | no q ↦
              there
              ∙ at_no _ _ (among_past (a % P.page) (length bytes) (j - start) (omega arith))
              ∙ sym (at_no _ _ (among_past a (length bytes) j (omega arith)))
        ]
      ]

  cell : (j : ℕ) → Cell j
  cell j =
      let at-start = start_of sound a in
      elim (dec_lt j start) [
        | yes p ↦ at_no _ _ (among_below start P.page j p) ∙ sym (at_no _ _ (among_below a (length bytes) j (omega arith)))
        | no p ↦ elim (dec_lt j (start + P.page)) [
          | yes q ↦ in_page_law j (omega arith) q
          | no q ↦ at_no _ _ (among_past start P.page j (omega arith)) ∙ sym (at_no _ _ (among_past a (length bytes) j (omega arith)))
        ]
      ]

  pub stored_run : stored P (a / P.page) latch m ≡ overwritten a bytes m
  unfolding stored overwritten
  stored_run =
      let fits : a / P.page * P.page + P.page ≤ length m = omega (arith, page_in_memory sound a low) in
      at_yes _ _ (le-leb _ _ fits) ∙ table_cong _ _ (length m) 0 (λ j h. cell j)

-- ---- a run written over a memory

module _ (a : ℕ) (bytes m : List ℕ) where
  pub overwritten_length : length (overwritten a bytes m) ≡ length m
  unfolding overwritten
  overwritten_length = table_length _ (length m)

  -- the given bytes in the given cells ..
  pub overwritten_in : (j : ℕ) → j < length m → a ≤ j → j < a + length bytes → get_or (overwritten a bytes m) j 0 ≡ get_or bytes (j - a) 0
  unfolding overwritten
  overwritten_in j h from to = table_at _ (length m) j 0 h ∙ at_yes _ _ (among_yes a (length bytes) j from to)

  -- .. and every other cell as it is
  pub overwritten_below : (j : ℕ) → j < length m → j < a → get_or (overwritten a bytes m) j 0 ≡ get_or m j 0
  unfolding overwritten
  overwritten_below j h below = table_at _ (length m) j 0 h ∙ at_no _ _ (among_below a (length bytes) j below)

  pub overwritten_past : (j : ℕ) → j < length m → a + length bytes ≤ j → get_or (overwritten a bytes m) j 0 ≡ get_or m j 0
  unfolding overwritten
  overwritten_past j h past = table_at _ (length m) j 0 h ∙ at_no _ _ (among_past a (length bytes) j past)

-- no bytes
pub overwritten_none : (a : ℕ) (m : List ℕ) → overwritten a [] m ≡ m
unfolding overwritten
overwritten_none a m =
    table_cong _ _ (length m) 0 (λ j h. none j) ∙ sym (table_of m 0)
  where
    none : (j : ℕ) → pick (among a 0 j) (get_or {A = ℕ} [] (j - a) 0) (get_or m j 0) ≡ get_or m j 0
    none j = elim (dec_lt j a) [
      | yes p ↦ at_no _ _ (among_below a 0 j p)
      | no p ↦ at_no _ _ (among_past a 0 j (omega arith))
    ]

-- bytes after others
pub overwritten_append : (a b : ℕ) (xs ys m : List ℕ) → b ≡ a + length xs → overwritten b ys (overwritten a xs m) ≡ overwritten a (xs ++ ys) m
overwritten_append a b xs ys m e =
    ext_get_or 0 (overwritten b ys under) (overwritten a (xs ++ ys) m)
    (overwritten_length b ys under ∙ overwritten_length a xs m ∙ sym (overwritten_length a (xs ++ ys) m))
    (λ j h. at j (omega (arith, overwritten_length b ys under, overwritten_length a xs m)))
  where
    under : List ℕ
    under = overwritten a xs m

    at : (j : ℕ) → j < length m → get_or (overwritten b ys under) j 0 ≡ get_or (overwritten a (xs ++ ys) m) j 0
    at j h =
        let inside : j < length under = omega (arith, overwritten_length a xs m) in
        let all : length (xs ++ ys) ≡ length xs + length ys = length-append xs ys in
        elim (dec_lt j a) [
          | yes p ↦
              overwritten_below b ys under j inside (omega arith) ∙ overwritten_below a xs m j h p ∙ sym (overwritten_below a (xs ++ ys) m j h p)
          | no p ↦ elim (dec_lt j b) [
            | yes q ↦
                let first : j - a < length xs = omega arith in
                overwritten_below b ys under j inside q
                ∙ overwritten_in a xs m j h (omega arith) (omega arith)
                ∙ sym (get_or-append xs ys 0 (j - a) first)
                ∙ sym (overwritten_in a (xs ++ ys) m j h (omega arith) (omega arith))
            | no q ↦ elim (dec_lt j (b + length ys)) [
              | yes r ↦
                  let second : j - a - length xs ≡ j - b = omega arith in
                  overwritten_in b ys under j inside (omega arith) r
                  ∙ sym (ap (λ (k : ℕ). get_or ys k 0) second)
                  ∙ sym (get_d_past xs ys (length xs) (j - a) 0 refl (omega arith))
                  ∙ sym (overwritten_in a (xs ++ ys) m j h (omega arith) (omega arith))
              | no r ↦
                  overwritten_past b ys under j inside (omega arith)
                  ∙ overwritten_past a xs m j h (omega arith)
                  ∙ sym (overwritten_past a (xs ++ ys) m j h (omega arith))
            ]
          ]
        ]
