-- What a frame does at deselect is what the frame model says: by induction on the bytes, for each instruction.
use Prim.Native.Nat.{ℕ, zero, suc, ◌+◌, ◌*◌, ◌/◌, ◌%◌, ◌<◌, ◌≤◌, min, ◌-◌, ◌^◌}
use mathlib.Core.Bool.{Bool, true, false, not, ◌&&◌, true≢false}
use mathlib.Core.List.{List, [], ◌∷◌}
use mathlib.Core.Path.{◌≡◌, refl, sym, ap, ap₂, ◌∙◌, subst, subst⁻¹}
use lib.Dec.{eqb, ltb, leb}
use lib.ListN.{get_or, length, length-drop, take, drop}
use lib.Seq.{take_all, length-take-le, drop-cons}
use borrow.Author.Tests.{le-leb, lt-leb, leb-true, eqb-true, eq-eqb, ne_eqb, lt-ltb}
use native.Mathlib.Nat.{mod-mod, div-add-mod'}
use native.Mathlib.Omega.{arith}
use Rattle.laws.specs.Pick.{pick, pick_case, at_yes, at_no, and_left, and_right, and_both}
use Rattle.laws.specs.And.{failed, never}
use Rattle.codes.specs.Part.{Part}
use Rattle.codes.specs.Status.{bit, on}
use Rattle.latch.specs.Latches.{no_latch, latched, next_in_page}
use Rattle.chip.specs.Records.{page_waits, identification_waits, lock_waits, with_cycle}
use Rattle.codes.specs.Instructions.{decode, row, count_fits, guarded, picks_lock, write_bits}
use Rattle.chip.specs.Questions.{barred}
use Rattle.codes.specs.Verdicts.{verdict, is_executed, verdict_by, let_through}
use Rattle.chip.specs.Effects.{effect}
use Rattle.chip.specs.declared.Core.{Core}
use Rattle.latch.specs.declared.Latch.{Latch}
use Rattle.codes.specs.declared.Verdict.TheVariants.{CycleRan, WelOff, WrongCount, Guarded}
use Rattle.codes.specs.declared.Count.TheVariants.{WholeBytes}
use Rattle.codes.specs.declared.Instruction.{Instruction}
use Rattle.codes.specs.declared.Instruction.TheVariants.{Wren, Wrdi, Rdsr, Wrsr, Read, Write, Rdid, Wrid, Silence}
use Rattle.codes.proofs.Judged.{passed}
use Rattle.codes.proofs.Rows.{page_row}
use Rattle.edges.specs.declared.Frame.{Frame}
use Rattle.edges.specs.Frames.{no_frame}
use Rattle.fields.specs.Bytes.{instruction, address_to, address, payload, latched_from, written}
use Rattle.frames.specs.After.{after}
use Rattle.codes.proofs.Sound.{Sound}
use Rattle.codes.proofs.Starts.{picks_page}
use Rattle.laws.specs.Flags.{on_bit}
use Rattle.agree.proofs.Facts.{min_leb, min_eqb, leb_cong, ltb_cong, eqb_cong}
use Rattle.agree.proofs.Ticks.{decides_at}
use Rattle.agree.proofs.Steps.{Course, after_bytes, address_of, value_of, latch_of, step, bytes_end, step_first, step_more}
use Rattle.agree.proofs.Pages.{cell, cell_mod, cell_div, cell_next, same_page}

-- ---- a verdict that is not "executed"

module _ (P : Part) (i : Instruction) (a x n : ℕ) (ran wel locked protected held : Bool) where
  miscounted : count_fits (row P i a x).count n ≡ false → is_executed (verdict P i a x n ran wel locked protected held) ≡ false
  miscounted e = failed _ (λ h. true≢false (sym (passed P i a x n ran wel locked protected held h).counted ∙ e))

  cut_short : n < 8 → is_executed (verdict P i a x n ran wel locked protected held) ≡ false
  cut_short e = failed _ (λ h. true≢false (sym (lt-ltb n 8 e) ∙ (passed P i a x n ran wel locked protected held h).whole))

-- ---- the count of whole bytes stays at its most, and no test sees it

module _ (P : Part) (sound : Sound P) where
  count_eqb : (j k x : ℕ) → k < 8 → x < P.most → eqb (8 * min P.most j + k) (8 * x) ≡ eqb (8 * j + k) (8 * x)
  count_eqb j k x h l = eqb_cong (8 * min P.most j + k) (8 * x) (8 * j + k) (8 * x) (λ p. omega arith) (λ p. omega arith)

  count_bytes : (j k : ℕ) → k < 8 → count_fits (WholeBytes (write_bits P)) (8 * min P.most j + k) ≡ count_fits (WholeBytes (write_bits P)) (8 * j + k)
  count_bytes j k h =
      let past : (8 * min P.most j + k) % 8 ≡ (8 * j + k) % 8 = omega arith in
      ap₂ (λ s t. s && t)
      (leb_cong (8 * (P.address_bytes + 2)) (8 * min P.most j + k) (8 * (P.address_bytes + 2)) (8 * j + k)
      (λ p. omega arith) (λ p. omega (arith, sound.counted)))
      (ap (λ y. eqb y 0) past)

  count_fits_law : (i : Instruction) (a x j k : ℕ) → k < 8
      → count_fits (row P i a x).count (8 * min P.most j + k) ≡ count_fits (row P i a x).count (8 * j + k)
  count_fits_law Wren a x j k h = count_eqb j k 1 h (omega (arith, sound.counted))
  count_fits_law Wrdi a x j k h = count_eqb j k 1 h (omega (arith, sound.counted))
  count_fits_law Rdsr a x j k h = refl
  count_fits_law Wrsr a x j k h = count_eqb j k 2 h (omega (arith, sound.counted, sound.bytes_some))
  count_fits_law Read a x j k h = refl
  count_fits_law Write a x j k h = count_bytes j k h
  count_fits_law Rdid a x j k h = refl
  count_fits_law Wrid a x j k h =
      pick_case (λ d. count_fits d (8 * min P.most j + k) ≡ count_fits d (8 * j + k)) (picks_lock a)
      (λ p. count_eqb j k (P.address_bytes + 2) h (omega (arith, sound.counted))) (λ p. count_bytes j k h)
  count_fits_law Silence a x j k h = refl

  count_short : (j k : ℕ) → k < 8 → ltb (8 * min P.most j + k) 8 ≡ ltb (8 * j + k) 8
  count_short j k h = ltb_cong (8 * min P.most j + k) 8 (8 * j + k) 8 (λ p. omega (arith, sound.counted)) (λ p. omega arith)

  same_count : (i : Instruction) (a x j k : ℕ) (ran wel locked protected held : Bool) → k < 8
      → verdict P i a x (8 * min P.most j + k) ran wel locked protected held ≡ verdict P i a x (8 * j + k) ran wel locked protected held
  unfolding verdict_by
  same_count i a x j k ran wel locked protected held h =
      let r = row P i a x in
      ap₂ (λ s t. pick s WrongCount (pick (r.idle && ran) CycleRan (pick (r.wel && not wel) WelOff
      (pick (not t) WrongCount (pick (guarded r.guard locked protected) Guarded (let_through r held))))))
      (count_short j k h) (count_fits_law i a x j k h)

  -- ---- 82h, by what its address picks

  -- a count that does not fit the page does not fit the lock
  neither_count : (a x n : ℕ) → count_fits (WholeBytes (write_bits P)) n ≡ false → count_fits (row P Wrid a x).count n ≡ false
  neither_count a x n f =
      pick_case (λ d. count_fits d n ≡ false) (picks_lock a)
      (λ p. failed _ (λ e.
      let exactly : n ≡ 8 * (P.address_bytes + 2) = eqb-true n (8 * (P.address_bytes + 2)) e in
      never (and_both (leb (8 * (P.address_bytes + 2)) n) (eqb (n % 8) 0) (le-leb (8 * (P.address_bytes + 2)) n (omega arith))
      (eq-eqb (n % 8) 0 (omega arith))) f))
      (λ p. f)

module _ (P : Part) (sound : Sound P) (T : Course) (c : Core) (w : Bool) where
  abbrev unlatched : Latch
  unlatched = no_latch

  -- a frame of n bits, of the instruction i, with its address, the data byte that its row looks at, its value and its latch
  abbrev Judge : Instruction → ℕ → ℕ → ℕ → Bool
  Judge i n a x = is_executed (verdict P i a x n (T.runs 0) (on c.wel) (on c.srwd && not w) (barred P c i a) false)

  abbrev Does : Instruction → ℕ → ℕ → ℕ → ℕ → Latch → Core
  Does i n a x y l = pick (Judge i n a x) (effect P i a y l c) c

  decides_bytes : (i : Instruction) (v j k a x o z : ℕ) (l : Latch) → decode P v ≡ i → k < 8
      → decides_at P c w k (after_bytes P sound T v j a x o z l) ≡ Does i (8 * j + k) a x x l
  unfolding decides_at
  decides_bytes i v j k a x o z l e h =
      let n = 8 * min P.most j + k in
      ap (λ d. pick (is_executed (verdict P d a x n (on (bit (T.runs 0))) (on c.wel) (on c.srwd && not (on (bit w))) (barred P c d a) (on 0)))
      (effect P d a x l c) c) e
      ∙ ap₂ (λ r u. pick (is_executed (verdict P i a x n r (on c.wel) (on c.srwd && not u) (barred P c i a) false)) (effect P i a x l c) c)
      (on_bit (T.runs 0)) (on_bit w)
      ∙ ap (λ t. pick (is_executed t) (effect P i a x l c) c)
      (same_count P sound i a x j k (T.runs 0) (on c.wel) (on c.srwd && not w) (barred P c i a) false h)

  does_nothing : (i : Instruction) (n a x y : ℕ) (l : Latch) → count_fits (row P i a x).count n ≡ false → Does i n a x y l ≡ c
  does_nothing i n a x y l e = at_no _ _ (miscounted P i a x n (T.runs 0) (on c.wel) (on c.srwd && not w) (barred P c i a) false e)

  -- what holds of every state after so many whole bytes holds at the end
  any_end : (Q : Frame → Type 0) (i : Instruction) (us : List ℕ) (v j a x o z : ℕ) (l : Latch) → decode P v ≡ i → 1 ≤ j
      → ((a x o z : ℕ) (l : Latch) → Q (after_bytes P sound T v (j + length us) a x o z l))
      → Q (bytes_end P sound T j (after_bytes P sound T v j a x o z l) us)
  unfolding bytes_end
  any_end Q i [] v j a x o z l e k h =
      let none : j + 0 ≡ j = omega arith in
      subst (λ n. Q (after_bytes P sound T v n a x o z l)) none (h a x o z l)
  any_end Q i (u ∷ us) v j a x o z l e k h =
      let next : j + suc (length us) ≡ suc j + length us = omega arith in
      subst⁻¹ (λ f. Q (bytes_end P sound T (suc j) f us)) (step_more P sound T i u v j a x o z l e k)
      (any_end Q i us v (suc j) _ _ _ _ _ e (omega arith) (λ a x o z l. subst (λ n. Q (after_bytes P sound T v n a x o z l)) next (h a x o z l)))

  -- ---- WREN, WRDI, RDSR, READ, 83h and other codes go by the count alone

  abbrev Plain : Instruction → Type 0
  Plain Wren = Unit {0}
  Plain Wrdi = Unit {0}
  Plain Rdsr = Unit {0}
  Plain Wrsr = ⊥
  Plain Read = Unit {0}
  Plain Write = ⊥
  Plain Rdid = Unit {0}
  Plain Wrid = ⊥
  Plain Silence = Unit {0}

  plain_same : (i : Instruction) → Plain i → (n a b x y p q : ℕ) (l k : Latch) → Does i n a x p l ≡ Does i n b y q k
  unfolding verdict_by
  plain_same Wren t n a b x y p q l k = refl
  plain_same Wrdi t n a b x y p q l k = refl
  plain_same Rdsr t n a b x y p q l k = refl
  plain_same Wrsr t n a b x y p q l k = absurd t
  plain_same Read t n a b x y p q l k = refl
  plain_same Write t n a b x y p q l k = absurd t
  plain_same Rdid t n a b x y p q l k = refl
  plain_same Wrid t n a b x y p q l k = absurd t
  plain_same Silence t n a b x y p q l k = refl

  -- WRSR goes by its data byte besides
  wrsr_same : (n a b x y u : ℕ) (l k : Latch) → Does Wrsr n a x u l ≡ Does Wrsr n b y u k
  unfolding verdict_by
  wrsr_same n a b x y u l k = refl

  -- ---- WRSR: the code and its data byte

  wrsr_two : (u v : ℕ) → decode P v ≡ Wrsr → bytes_end P sound T 1 (step P sound T 0 v no_frame) (u ∷ []) ≡ after_bytes P sound T v 2 0 u 0 0 unlatched
  unfolding bytes_end pick
  wrsr_two u v e =
      ap (λ f. step P sound T 1 u f) (step_first P sound T Wrsr v e)
      ∙ step_more P sound T Wrsr u v 1 0 0 0 0 unlatched e (omega arith)
      ∙ ap (λ y. after_bytes P sound T v 2 0 y 0 0 unlatched) (at_yes u 0 (min_eqb P.most 1 1 (omega (arith, sound.counted))))

  -- ---- an instruction that writes: its address first, of which every byte goes to its place and fills nothing else

  record Writer (i : Instruction) : Type 0 where
    steps : (u v j a x : ℕ) (l : Latch) → decode P v ≡ i → 1 ≤ j
        → let n = min P.most j in
        step P sound T j u (after_bytes P sound T v j a x 0 0 l)
        ≡ after_bytes P sound T v (suc j) (address_of P i n u a) (value_of P i n u a x) 0 0 (latch_of P i n u a l)
    places : (n u a x : ℕ) (l : Latch) → leb n P.address_bytes ≡ true
        → (address_of P i n u a ≡ (a + u * 256 ^ (P.address_bytes - n)) % P.size) × ((value_of P i n u a x ≡ x) × (latch_of P i n u a l ≡ l))

  writes : Writer Write
  unfolding pick
  writes =
      record {
        steps = λ u v j a x l e k. step_more P sound T Write u v j a x 0 0 l e k;
        places = λ n u a x l e. (at_yes _ _ e, (refl, at_yes _ _ e));
      }

  identifies : Writer Wrid
  unfolding pick
  identifies =
      record {
        steps = λ u v j a x l e k. step_more P sound T Wrid u v j a x 0 0 l e k;
        places = λ n u a x l e. (at_yes _ _ e, (at_yes _ _ e, at_yes _ _ e));
      }

  -- the address whole, and what comes after it
  address_whole : (i : Instruction) → Writer i → (s us : List ℕ) (v r k : ℕ) → decode P v ≡ i → k + r ≡ P.address_bytes → r ≤ length us
      → ((x : ℕ) → get_or us x 0 ≡ get_or s (suc k + x) 0)
      → bytes_end P sound T (suc k) (after_bytes P sound T v (suc k) (address_to P s k) 0 0 0 unlatched) us
      ≡ bytes_end P sound T (suc P.address_bytes) (after_bytes P sound T v (suc P.address_bytes) (address P s) 0 0 0 unlatched) (drop r us)
  unfolding bytes_end
  address_whole i t s us v zero k e q h tail =
      let all : k ≡ P.address_bytes = omega arith in
      ap (λ n. bytes_end P sound T (suc n) (after_bytes P sound T v (suc n) (address_to P s n) 0 0 0 unlatched) us) all
  address_whole i t s [] v (suc r) k e q h tail = absurd (omega arith)
  address_whole i t s (u ∷ us) v (suc r) k e q h tail =
      let n = min P.most (suc k) in
      let a = address_to P s k in
      let here : suc k + 0 ≡ suc k = omega arith in
      let byte : u ≡ get_or s (suc k) 0 = tail 0 ∙ ap (λ y. get_or s y 0) here in
      let all : n ≡ suc k = omega (arith, sound.counted) in
      let more : leb n P.address_bytes ≡ true =
      min_leb P.most (suc k) P.address_bytes (omega (arith, sound.counted)) ∙ le-leb (suc k) P.address_bytes (omega arith) in
      let z = t.places n u a 0 unlatched more in
      ap (λ f. bytes_end P sound T (suc (suc k)) f us)
      (t.steps u v (suc k) a 0 unlatched e (omega arith)
      ∙ ap₂ (λ y x. after_bytes P sound T v (suc (suc k)) y x 0 0 (latch_of P i n u a unlatched))
      (z.0 ∙ ap₂ (λ y x. (a + y * 256 ^ (P.address_bytes - x)) % P.size) byte all) z.1.0
      ∙ ap (λ l. after_bytes P sound T v (suc (suc k)) (address_to P s (suc k)) 0 0 0 l) z.1.1)
      ∙ address_whole i t s us v r (suc k) e (omega arith) (omega arith)
      (λ x. let there : suc k + suc x ≡ suc (suc k) + x = omega arith in tail (suc x) ∙ ap (λ y. get_or s y 0) there)

  -- ---- .. then data bytes, latched in the page from its address on

  -- each goes to its cell: of WRITE, and of 82h where the address picks the page
  record Latches (i : Instruction) (b : ℕ) : Type 0 where
    walks : Writer i
    keeps : (n u d : ℕ) (l : Latch) → leb n P.address_bytes ≡ false
        → (address_of P i n u (cell P sound b d) ≡ next_in_page P (cell P sound b d))
        × ((value_of P i n u (cell P sound b d) 0 ≡ 0) × (latch_of P i n u (cell P sound b d) l ≡ latched (cell P sound b d % P.page) u l))

  write_latches : (b : ℕ) → Latches Write b
  write_latches b = record { walks = writes; keeps = λ n u d l e. (at_no _ _ e, (refl, at_no _ _ e)) }

  page_latches : (b : ℕ) → ((d : ℕ) → picks_lock (cell P sound b d) ≡ false) → Latches Wrid b
  page_latches b p =
      record {
        walks = identifies;
        keeps = λ n u d l e. (at_no _ _ e ∙ at_no _ _ (p d), (at_no _ _ e ∙ at_no _ _ (p d), at_no _ _ e ∙ at_no _ _ (p d)));
      }

  data_latched : (i : Instruction) (b : ℕ) → Latches i b → (us : List ℕ) (v j d : ℕ) (l : Latch) → decode P v ≡ i → P.address_bytes < j
      → bytes_end P sound T j (after_bytes P sound T v j (cell P sound b d) 0 0 0 l) us
      ≡ after_bytes P sound T v (j + length us) (cell P sound b (d + length us)) 0 0 0 (latched_from P d us l)
  unfolding bytes_end latched_from
  data_latched i b t [] v j d l e h = ap₂ (λ y x. after_bytes P sound T v y (cell P sound b x) 0 0 0 l) (omega arith) (omega arith)
  data_latched i b t (u ∷ us) v j d l e h =
      let n = min P.most j in
      let past : leb n P.address_bytes ≡ false = min_leb P.most j P.address_bytes (omega (arith, sound.counted)) ∙ lt-leb j P.address_bytes h in
      let z = t.keeps n u d l past in
      ap (λ f. bytes_end P sound T (suc j) f us)
      (t.walks.steps u v j (cell P sound b d) 0 l e (omega arith)
      ∙ ap₂ (λ y x. after_bytes P sound T v (suc j) y x 0 0 (latch_of P i n u (cell P sound b d) l)) (z.0 ∙ cell_next P sound b d) z.1.0
      ∙ ap (λ k. after_bytes P sound T v (suc j) (cell P sound b (suc d)) 0 0 0 k) (z.1.1 ∙ ap (λ y. latched y u l) (cell_mod P sound b d)))
      ∙ data_latched i b t us v (suc j) (suc d) (latched (d % P.page) u l) e (omega arith)
      ∙ ap₂ (λ y x. after_bytes P sound T v y (cell P sound b x) 0 0 0 (latched_from P (suc d) us (latched (d % P.page) u l))) (omega arith) (omega arith)

  -- with its address A whole, and its data d
  abbrev Wrote : ℕ → ℕ → ℕ → List ℕ → Frame
  Wrote v j A d = after_bytes P sound T v j (cell P sound (A / P.page) (A % P.page + length d)) 0 0 0 (latched_from P (A % P.page) d unlatched)

  -- an address is the cell of its page
  own_cell : (A : ℕ) → A ≡ cell P sound (A / P.page) (A % P.page)
  own_cell A = sym (div-add-mod' A P.page) ∙ ap (λ y. A / P.page * P.page + y) (sym (mod-mod A P.page))

  page_written : (i : Instruction) (A : ℕ) → Latches i (A / P.page) → (us : List ℕ) (v : ℕ) → decode P v ≡ i
      → bytes_end P sound T (suc P.address_bytes) (after_bytes P sound T v (suc P.address_bytes) A 0 0 0 unlatched) us
      ≡ Wrote v (suc P.address_bytes + length us) A us
  page_written i A t us v e =
      ap (λ a. bytes_end P sound T (suc P.address_bytes) (after_bytes P sound T v (suc P.address_bytes) a 0 0 0 unlatched) us) (own_cell A)
      ∙ data_latched i (A / P.page) t us v (suc P.address_bytes) (A % P.page) unlatched e (omega arith)

  -- ---- .. or the lock's data byte, of which the first stays

  lock_kept : (us : List ℕ) (v j A x : ℕ) → decode P v ≡ Wrid → picks_lock A ≡ true → P.address_bytes + 2 ≤ j
      → bytes_end P sound T j (after_bytes P sound T v j A x 0 0 unlatched) us ≡ after_bytes P sound T v (j + length us) A x 0 0 unlatched
  unfolding bytes_end
  lock_kept [] v j A x e p h = ap (λ y. after_bytes P sound T v y A x 0 0 unlatched) (omega arith)
  lock_kept (u ∷ us) v j A x e p h =
      let n = min P.most j in
      let past : leb n P.address_bytes ≡ false =
      min_leb P.most j P.address_bytes (omega (arith, sound.counted)) ∙ lt-leb j P.address_bytes (omega arith) in
      let later : eqb n (P.address_bytes + 1) ≡ false =
      min_eqb P.most j (P.address_bytes + 1) (omega (arith, sound.counted)) ∙ ne_eqb j (P.address_bytes + 1) (λ q. omega arith) in
      ap (λ f. bytes_end P sound T (suc j) f us)
      (identifies.steps u v j A x unlatched e (omega arith)
      ∙ ap₂ (λ y z. after_bytes P sound T v (suc j) y z 0 0 (latch_of P Wrid n u A unlatched)) (at_no _ _ past ∙ at_yes _ _ p)
      (at_no _ _ past ∙ at_yes _ _ p ∙ at_no _ _ later)
      ∙ ap (λ k. after_bytes P sound T v (suc j) A x 0 0 k) (at_no _ _ past ∙ at_yes _ _ p))
      ∙ lock_kept us v (suc j) A x e p (omega arith)
      ∙ ap (λ y. after_bytes P sound T v y A x 0 0 unlatched) (omega arith)

  lock_taken : (u : ℕ) (us : List ℕ) (v A : ℕ) → decode P v ≡ Wrid → picks_lock A ≡ true
      → bytes_end P sound T (suc P.address_bytes) (after_bytes P sound T v (suc P.address_bytes) A 0 0 0 unlatched) (u ∷ us)
      ≡ after_bytes P sound T v (suc P.address_bytes + suc (length us)) A u 0 0 unlatched
  unfolding bytes_end
  lock_taken u us v A e p =
      let j = suc P.address_bytes in
      let n = min P.most j in
      let past : leb n P.address_bytes ≡ false =
      min_leb P.most j P.address_bytes (omega (arith, sound.counted)) ∙ lt-leb j P.address_bytes (omega arith) in
      let first : eqb n (P.address_bytes + 1) ≡ true =
      min_eqb P.most j (P.address_bytes + 1) (omega (arith, sound.counted)) ∙ eq-eqb j (P.address_bytes + 1) (omega arith) in
      ap (λ f. bytes_end P sound T (suc j) f us)
      (identifies.steps u v j A 0 unlatched e (omega arith)
      ∙ ap₂ (λ y z. after_bytes P sound T v (suc j) y z 0 0 (latch_of P Wrid n u A unlatched)) (at_no _ _ past ∙ at_yes _ _ p)
      (at_no _ _ past ∙ at_yes _ _ p ∙ at_yes _ _ first)
      ∙ ap (λ k. after_bytes P sound T v (suc j) A u 0 0 k) (at_no _ _ past ∙ at_yes _ _ p))
      ∙ lock_kept us v (suc j) A u e p (omega arith)
      ∙ ap (λ y. after_bytes P sound T v y A u 0 0 unlatched) (omega arith)

  -- ---- what they do

  -- the moved address lies in the page of the first
  write_same : (n A i x y p q : ℕ) (l : Latch) → Does Write n (cell P sound (A / P.page) i) x p l ≡ Does Write n A y q l
  write_same n A i x y p q l =
      let a = cell P sound (A / P.page) i in
      ap₂ (λ t d. pick (is_executed (verdict P Write A y n (T.runs 0) (on c.wel) (on c.srwd && not w) t false)) (with_cycle (page_waits d l) c) c)
      (same_page P sound c a A (cell_div P sound (A / P.page) i)) (cell_div P sound (A / P.page) i)

  -- and picks as it did
  page_picks : (A i : ℕ) → picks_lock (cell P sound (A / P.page) i) ≡ picks_lock A
  page_picks A i = picks_page sound (cell P sound (A / P.page) i) A (cell_div P sound (A / P.page) i)

  page_same : (n A i x y p q : ℕ) (l : Latch) → picks_lock A ≡ false → Does Wrid n (cell P sound (A / P.page) i) x p l ≡ Does Wrid n A y q l
  page_same n A i x y p q l page =
      let a = cell P sound (A / P.page) i in
      ap₂ (λ r t. pick (is_executed (verdict_by r n (T.runs 0) (on c.wel) (on c.srwd && not w) (barred P c Wrid A) false))
      (with_cycle (pick t lock_waits (identification_waits l)) c) c)
      (page_row P a x A y (page_picks A i ∙ page) page) (page_picks A i)

  lock_same : (n A x p q : ℕ) (l k : Latch) → picks_lock A ≡ true → Does Wrid n A x p l ≡ Does Wrid n A x q k
  lock_same n A x p q l k lock =
      ap (λ t. pick (Judge Wrid n A x) (with_cycle t c) c) (at_yes lock_waits (identification_waits l) lock ∙ sym (at_yes lock_waits (identification_waits k) lock))

  one_byte : (vs : List ℕ) → length vs ≡ 1 → vs ≡ get_or vs 0 0 ∷ []
  one_byte [] e = absurd (omega arith)
  one_byte (u ∷ []) e = refl
  one_byte (u ∷ x ∷ vs) e = absurd (omega arith)

  -- ---- the frame v ∷ vs of n bits: j whole bytes after the code, k bits past them

  module _ (v : ℕ) (vs : List ℕ) (n j k : ℕ) (past : k < 8)
      (count : n ≡ 8 * suc j + k) (fits : n ≤ 8 * suc (length vs)) (full : 8 * suc (length vs) < n + 8) where
    abbrev s : List ℕ
    s = v ∷ vs

    abbrev End : Core
    End = decides_at P c w k (bytes_end P sound T 1 (step P sound T 0 v no_frame) (take j vs))

    -- the data byte that the row looks at: the first after the address
    abbrev first : ℕ
    first = get_or s (P.address_bytes + 1) 0

    abbrev Wanted : Instruction → Core
    Wanted i = Does i n (address P s) first (get_or s 1 0) (written P s)

    bits_n : 8 * (1 + length (take j vs)) + k ≡ n
    bits_n =
        let all : length (take j vs) ≡ j = length-take-le j vs (omega arith) in
        omega arith

    -- by every state after that many bytes
    by_states : (i : Instruction) → decode P v ≡ i → ((a x : ℕ) (l : Latch) → Does i n a x x l ≡ Wanted i) → End ≡ Wanted i
    by_states i e h =
        ap (λ f. decides_at P c w k (bytes_end P sound T 1 f (take j vs))) (step_first P sound T i v e)
        ∙ any_end (λ f. decides_at P c w k f ≡ Wanted i) i (take j vs) v 1 _ _ _ _ _ e (omega arith)
        (λ a x o z l. decides_bytes i v (1 + length (take j vs)) k a x o z l e past ∙ ap (λ y. Does i y a x x l) bits_n ∙ h a x l)

    plain_end : (i : Instruction) → Plain i → decode P v ≡ i → End ≡ Wanted i
    plain_end i q e = by_states i e (λ a x l. plain_same i q n a (address P s) x first x (get_or s 1 0) l (written P s))

    none_end : (i : Instruction) → ((a x : ℕ) → count_fits (row P i a x).count n ≡ false) → decode P v ≡ i → End ≡ Wanted i
    none_end i f e =
        by_states i e
        (λ a x l. does_nothing i n a x x l (f a x) ∙ sym (does_nothing i n (address P s) first (get_or s 1 0) (written P s) (f (address P s) first)))

    wrsr_end : (b : Bool) → eqb n 16 ≡ b → decode P v ≡ Wrsr → End ≡ Wanted Wrsr
    wrsr_end true f e =
        let sixteen : n ≡ 16 = eqb-true n 16 f in
        let u = get_or vs 0 0 in
        let one : vs ≡ u ∷ [] = one_byte vs (omega arith) in
        let second : j ≡ 1 = omega arith in
        let same : 8 * 2 + k ≡ n = omega arith in
        ap₂ (λ y l. decides_at P c w k (bytes_end P sound T 1 (step P sound T 0 v no_frame) (take y l))) second one
        ∙ ap (decides_at P c w k) (wrsr_two u v e)
        ∙ decides_bytes Wrsr v 2 k 0 u 0 0 unlatched e past
        ∙ ap (λ y. Does Wrsr y 0 u u unlatched) same
        ∙ wrsr_same n 0 (address P s) u first u unlatched (written P s)
    wrsr_end false f e = none_end Wrsr (λ a x. f) e

    -- ---- an instruction that writes, with its address and a data byte, in whole bytes

    module _ (whole : count_fits (WholeBytes (write_bits P)) n ≡ true) where
      most : 8 * (P.address_bytes + 2) ≤ n
      most = leb-true _ _ (and_left (leb (8 * (P.address_bytes + 2)) n) (eqb (n % 8) 0) whole)

      even : n % 8 ≡ 0
      even = eqb-true _ _ (and_right (leb (8 * (P.address_bytes + 2)) n) (eqb (n % 8) 0) whole)

      bits_all : 8 * (1 + length vs) + k ≡ n
      bits_all = omega (arith, most, even)

      long : P.address_bytes + 1 ≤ length vs
      long = omega (arith, most)

      count_all : suc P.address_bytes + length (payload P s) ≡ 1 + length vs
      count_all = let rest : length (drop P.address_bytes vs) ≡ length vs - P.address_bytes = length-drop P.address_bytes vs in omega (arith, long)

      -- its address is in
      addressed : (i : Instruction) → Writer i → step P sound T 0 v no_frame ≡ after_bytes P sound T v 1 0 0 0 0 unlatched → decode P v ≡ i
          → End ≡ decides_at P c w k (bytes_end P sound T (suc P.address_bytes)
          (after_bytes P sound T v (suc P.address_bytes) (address P s) 0 0 0 unlatched) (payload P s))
      addressed i t begun e =
          ap (λ l. decides_at P c w k (bytes_end P sound T 1 (step P sound T 0 v no_frame) l)) (take_all j vs (omega (arith, most, even)))
          ∙ ap (λ g. decides_at P c w k (bytes_end P sound T 1 g vs)) begun
          ∙ ap (decides_at P c w k) (address_whole i t s vs v P.address_bytes 0 e (omega arith) (omega (arith, long))
          (λ x. let next : suc x ≡ suc 0 + x = omega arith in ap (λ y. get_or s y 0) next))

      -- its data is latched
      latched_end : (i : Instruction) → Latches i (address P s / P.page) → step P sound T 0 v no_frame ≡ after_bytes P sound T v 1 0 0 0 0 unlatched
          → decode P v ≡ i
          → End ≡ Does i n (cell P sound (address P s / P.page) (address P s % P.page + length (payload P s))) 0 0 (written P s)
      latched_end i t begun e =
          let A = address P s in
          let d = payload P s in
          let a = cell P sound (A / P.page) (A % P.page + length d) in
          addressed i t.walks begun e
          ∙ ap (decides_at P c w k) (page_written i A t d v e)
          ∙ decides_bytes i v (suc P.address_bytes + length d) k a 0 0 0 (written P s) e past
          ∙ ap (λ y. Does i y a 0 0 (written P s)) (ap (λ y. 8 * y + k) count_all ∙ bits_all)

      write_whole : decode P v ≡ Write → End ≡ Wanted Write
      unfolding pick
      write_whole e =
          latched_end Write (write_latches (address P s / P.page)) (step_first P sound T Write v e) e
          ∙ write_same n (address P s) (address P s % P.page + length (payload P s)) 0 first 0 (get_or s 1 0) (written P s)

      page_end : picks_lock (address P s) ≡ false → decode P v ≡ Wrid → End ≡ Wanted Wrid
      unfolding pick
      page_end page e =
          latched_end Wrid (page_latches (address P s / P.page) (λ d. page_picks (address P s) d ∙ page)) (step_first P sound T Wrid v e) e
          ∙ page_same n (address P s) (address P s % P.page + length (payload P s)) 0 first 0 (get_or s 1 0) (written P s) page

      -- its first data byte stays
      payload_first : payload P s ≡ first ∷ drop (suc P.address_bytes) vs
      payload_first =
          let next : suc P.address_bytes ≡ P.address_bytes + 1 = omega arith in
          drop-cons vs P.address_bytes 0 (omega (arith, long)) ∙ ap (λ y. get_or s y 0 ∷ drop (suc P.address_bytes) vs) next

      lock_end : picks_lock (address P s) ≡ true → decode P v ≡ Wrid → End ≡ Wanted Wrid
      unfolding pick
      lock_end lock e =
          let A = address P s in
          let d = drop (suc P.address_bytes) vs in
          let count : suc (length d) ≡ length (payload P s) = sym (ap length payload_first) in
          addressed Wrid identifies (step_first P sound T Wrid v e) e
          ∙ ap (λ l. decides_at P c w k (bytes_end P sound T (suc P.address_bytes)
          (after_bytes P sound T v (suc P.address_bytes) A 0 0 0 unlatched) l)) payload_first
          ∙ ap (decides_at P c w k) (lock_taken first d v A e lock)
          ∙ decides_bytes Wrid v (suc P.address_bytes + suc (length d)) k A first 0 0 unlatched e past
          ∙ ap (λ y. Does Wrid y A first first unlatched) (ap (λ y. 8 * (suc P.address_bytes + y) + k) count ∙ ap (λ y. 8 * y + k) count_all ∙ bits_all)
          ∙ lock_same n A first first (get_or s 1 0) unlatched (written P s) lock

    write_end : (b : Bool) → count_fits (WholeBytes (write_bits P)) n ≡ b → decode P v ≡ Write → End ≡ Wanted Write
    write_end true f e = write_whole f e
    write_end false f e = none_end Write (λ a x. f) e

    wrid_end : (b t : Bool) → count_fits (WholeBytes (write_bits P)) n ≡ b → picks_lock (address P s) ≡ t → decode P v ≡ Wrid → End ≡ Wanted Wrid
    wrid_end true true f p e = lock_end f p e
    wrid_end true false f p e = page_end f p e
    wrid_end false t f p e = none_end Wrid (λ a x. neither_count P sound a x n f) e

    code_end : (i : Instruction) → decode P v ≡ i → End ≡ Wanted i
    code_end Wren e = plain_end Wren tt e
    code_end Wrdi e = plain_end Wrdi tt e
    code_end Rdsr e = plain_end Rdsr tt e
    code_end Wrsr e = wrsr_end (eqb n 16) refl e
    code_end Read e = plain_end Read tt e
    code_end Write e = write_end (count_fits (WholeBytes (write_bits P)) n) refl e
    code_end Rdid e = plain_end Rdid tt e
    code_end Wrid e = wrid_end (count_fits (WholeBytes (write_bits P)) n) (picks_lock (address P s)) refl refl e
    code_end Silence e = plain_end Silence tt e

  -- ---- any frame

  short_end : (s : List ℕ) (n : ℕ) → n < 8 → decides_at P c w n no_frame ≡ after P (T.runs 0) w c s n
  unfolding decides_at
  short_end s n h =
      at_no _ _ (cut_short P (decode P 0) 0 0 (8 * 0 + n) (on 0) (on c.wel) (on c.srwd && not (on (bit w))) (barred P c (decode P 0) 0) (on 0)
      (omega arith))
      ∙ sym (at_no _ _ (cut_short P (instruction P s) (address P s) (get_or s (P.address_bytes + 1) 0) n (T.runs 0) (on c.wel) (on c.srwd && not w)
      (barred P c (instruction P s) (address P s)) false h))

  end_by : (s : List ℕ) (n j : ℕ) → n / 8 ≡ j → n ≤ 8 * length s → 8 * length s < n + 8
      → decides_at P c w (n % 8) (bytes_end P sound T 0 no_frame (take j s)) ≡ after P (T.runs 0) w c s n
  unfolding bytes_end
  end_by s n zero q u l =
      let all : n % 8 ≡ n = omega arith in
      ap (λ y. decides_at P c w y no_frame) all ∙ short_end s n (omega arith)
  end_by [] n (suc j) q u l = absurd (omega arith)
  end_by (v ∷ vs) n (suc j) q u l = code_end v vs n j (n % 8) (omega arith) (omega arith) u l (decode P v) refl

  pub end_table : (s : List ℕ) (n : ℕ) → n ≤ 8 * length s → 8 * length s < n + 8
      → decides_at P c w (n % 8) (bytes_end P sound T 0 no_frame (take (n / 8) s)) ≡ after P (T.runs 0) w c s n
  end_table s n u l = end_by s n (n / 8) refl u l
