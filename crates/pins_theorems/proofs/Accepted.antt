-- The cell rule by the accepted frame: the frame in hand is what is clocked in since its select, byte by byte (Clocked, kept by every event), so a
-- cell is marked in it only by its own data bytes. With the rule by marks, a cell changes only if an executed frame addressed it by those bytes: a
-- WRITE, or for the identification page an 82h.
use mathlib.Core.Path.{◌≡◌, refl, ap, ap₂, sym, subst, ◌∙◌}
use mathlib.Core.List.{List, [], ◌∷◌}
use mathlib.Core.Bool.{Bool, true, false, not, ◌&&◌, true≢false}
use Prim.Native.Nat.{ℕ, suc, ◌+◌, ◌-◌, ◌*◌, ◌/◌, ◌%◌, ◌^◌, ◌<◌, ◌≤◌, min}
use native.Mathlib.Nat.{add-zero, mod-lt, mod-eq_of_lt, mod-add-mod, div-add-mod', add_assoc}
use native.Mathlib.Omega.{arith}
use lib.ListN.{length, get_or}
use lib.Dec.{eqb, leb, ltb}
use borrow.Author.Tests.{leb-true, leb-false, le-leb, lt-leb, eqb-true, eqb-false, eq-eqb, ne_eqb}
use Rattle.laws.specs.Pick.{pick, pick_case, pick_same, at_yes, at_no, yes_so, no_so, and_left, and_right, and_both, and_no_left, and_no_right}
use Rattle.laws.specs.And.{or_none_in, or_none_out, never}
use Rattle.codes.specs.Part.{Part}
use Rattle.codes.specs.Status.{bit, on}
use Rattle.codes.specs.Instructions.{decode, picks_lock}
use Rattle.codes.specs.Verdicts.{is_executed}
use Rattle.codes.specs.Output.{outputs}
use Rattle.codes.specs.declared.Instruction.{Instruction}
use Rattle.codes.specs.declared.Instruction.TheVariants.{Wren, Wrdi, Rdsr, Wrsr, Read, Write, Rdid, Wrid, Silence}
use Rattle.codes.proofs.Sound.{Sound}
use Rattle.codes.proofs.Starts.{picks_page}
use Rattle.latch.specs.Latches.{next_cell, next_in_page}
use Rattle.latch.proofs.Nexts.{page_at, cell_at}
use Rattle.chip.specs.Lents.{Lent}
use Rattle.chip.specs.Records.{running}
use Rattle.chip.specs.Cells.{Cells, memory_cells, identification_cells, of_memory, cell_count, writer, writes_to, page_in, awaited_in}
use Rattle.chip.specs.declared.Core.{Core}
use Rattle.edges.specs.declared.Frame.{Frame}
use Rattle.edges.specs.Frames.{no_frame, with_byte, with_code}
use Rattle.edges.specs.Rising.{shifted_in, identification_data, taking, whole_byte, risen}
use Rattle.edges.specs.Falling.{loading, fallen}
use Rattle.pins.specs.declared.Device.{Device}
use Rattle.pins.specs.declared.Event.{Event}
use Rattle.pins.specs.declared.Event.TheVariants.{S, C, D, W, Hold, Time}
use Rattle.pins.specs.Devices.{with_c, with_pins, selected, counting}
use Rattle.pins.specs.Ranges.{device_fits}
use Rattle.pins.specs.Events.{judged_now, renewed, on_s, on_c, on_d, on_w, on_hold, on_time, stepped, event_of}
use Rattle.pins.specs.Answers.{PinBench, lent_to, after_event, played}
use Rattle.pins_theorems.specs.Cells.{cells_of, data_cell, in_frame_as, in_frame, writes, writes_any, data_for}
use Rattle.pins_theorems.specs.Hands.{Hand, hand, no_hand, bit_taken, hand_after, clocked_in, code_of, start_of, first_of, addressed_by, accepts, accepted_cell}
use Rattle.pins_theorems.proofs.Parts.{FrameFits, Fits, parts}
use Rattle.pins_theorems.proofs.Untouched.{taking_same, loading_same}
use Rattle.pins_theorems.proofs.Edges.{empty_frame, silent}
use Rattle.pins_theorems.proofs.Fits.{Sized, stepped_fits, stepped_sized}
use Rattle.pins_theorems.proofs.CellRule.{untouched_cell}
use Rattle.pins_theorems.proofs.Addressed.{unmarked_as, taking_frame, loading_frame}

-- two choices by one test
pick_both : {A B : Type 0} (R : A → B → Type 0) (t : Bool) {a b : A} {c d : B} → (t ≡ true → R a c) → (t ≡ false → R b d) → R (pick t a b) (pick t c d)
unfolding pick
pick_both R true f g = f refl
pick_both R false f g = g refl

-- the second of two tests holds, and not both
not_first : (a b : Bool) → (a && b) ≡ false → b ≡ true → a ≡ false
not_first true b e q = absurd (never q e)
not_first false b e q = refl

-- a test that would fail another one holds where that one does
must : (b : Bool) {a : Bool} → a ≡ true → (b ≡ false → a ≡ false) → b ≡ true
must true m f = refl
must false m f = absurd (never m (f refl))

-- a test that does not hold
not_true : (t : Bool) → not t ≡ true → t ≡ false
not_true true e = sym e
not_true false e = refl

-- a frame that writes the cells is of the instruction that does
writes_writer : (k : Cells) (j : Instruction) (a : ℕ) → writes_to k j a ≡ true → writer k j ≡ true
writes_writer memory_cells j a w = w
writes_writer identification_cells j a w = and_left (writer identification_cells j) (not (picks_lock a)) w

-- ---- the cells of a page, one after another

-- the address of the next data byte of a frame that goes on from cell to cell ..
abbrev pub next_of : Part → List ℕ → ℕ
next_of P bs = data_cell memory_cells P (start_of P bs) (length bs - (P.address_bytes + 1))

-- .. which one that picks the lock does not
abbrev pub address_in : Cells → Part → List ℕ → ℕ
address_in memory_cells P bs = next_of P bs
address_in identification_cells P bs = pick (picks_lock (start_of P bs)) (start_of P bs) (next_of P bs)

-- .. and its value: the first data byte of one that picks the lock, else 0
abbrev pub value_in : Cells → Part → List ℕ → ℕ
value_in memory_cells P bs = 0
value_in identification_cells P bs = pick (picks_lock (start_of P bs)) (first_of P bs) 0

module _ (P : Part) (sound : Sound P) where
  data_cell_first : (s : ℕ) → data_cell memory_cells P s 0 ≡ s
  data_cell_first s =
      ap (λ (n : ℕ). s / P.page * P.page + n) (ap (λ (n : ℕ). n % P.page) (add-zero (s % P.page)) ∙ mod-eq_of_lt (mod-lt s sound.page_some))
      ∙ div-add-mod' s P.page

  -- its page and its cell
  data_page : (s j : ℕ) → data_cell memory_cells P s j / P.page ≡ s / P.page
  data_page s j = page_at sound (s / P.page) ((s % P.page + j) % P.page) (mod-lt (s % P.page + j) sound.page_some)

  data_offset : (s j : ℕ) → data_cell memory_cells P s j % P.page ≡ (s % P.page + j) % P.page
  data_offset s j = cell_at sound (s / P.page) ((s % P.page + j) % P.page) (mod-lt (s % P.page + j) sound.page_some)

  data_cell_next : (s j : ℕ) → next_in_page P (data_cell memory_cells P s j) ≡ data_cell memory_cells P s (j + 1)
  data_cell_next s j =
      let one : next_cell P (data_cell memory_cells P s j) ≡ (s % P.page + (j + 1)) % P.page =
      ap (λ (n : ℕ). (n + 1) % P.page) (data_offset s j) ∙ mod-add-mod (s % P.page + j) P.page 1
      ∙ ap (λ (n : ℕ). n % P.page) (add_assoc (s % P.page) j 1) in
      ap (λ (n : ℕ). n * P.page + next_cell P (data_cell memory_cells P s j)) (data_page s j) ∙ ap (λ (n : ℕ). s / P.page * P.page + n) one

  -- the cell of an address that went on from the start
  data_cell_of : (k : Cells) (s j : ℕ) → data_cell k P (data_cell memory_cells P s j) 0 ≡ data_cell k P s j
  data_cell_of k s j =
      let d = data_cell memory_cells P s j in
      let cell : (d % P.page + 0) % P.page ≡ (s % P.page + j) % P.page =
      ap (λ (n : ℕ). n % P.page) (add-zero (d % P.page)) ∙ mod-eq_of_lt (mod-lt d sound.page_some) ∙ data_offset s j in
      ap (λ (n : ℕ). page_in k P d * P.page + n) cell ∙ ap (λ (n : ℕ). n * P.page + (s % P.page + j) % P.page) (same k)
    where
      same : (k : Cells) → page_in k P (data_cell memory_cells P s j) ≡ page_in k P s
      same memory_cells = data_page s j
      same identification_cells = refl

  -- up to the first data byte the next cell is the start address
  next_start : (bs : List ℕ) → length bs ≤ P.address_bytes + 1 → next_of P bs ≡ start_of P bs
  next_start bs few =
      let none : length bs - (P.address_bytes + 1) ≡ 0 = omega arith in
      ap (data_cell memory_cells P (start_of P bs)) none ∙ data_cell_first (start_of P bs)

  early_address : (k : Cells) (bs : List ℕ) → length bs ≤ P.address_bytes + 1 → address_in k P bs ≡ next_of P bs
  early_address memory_cells bs few = refl
  early_address identification_cells bs few =
      pick_case (λ (n : ℕ). n ≡ next_of P bs) (picks_lock (start_of P bs)) (λ p. sym (next_start bs few)) (λ p. refl)

  -- .. and there is no value
  no_first : (bs : List ℕ) → length bs ≤ P.address_bytes + 1 → first_of P bs ≡ 0
  no_first [] few = refl
  no_first (v ∷ bs) few = at_no _ _ (ne_eqb (length bs) (P.address_bytes + 1) (λ e. omega (arith, e))) ∙ no_first bs (omega arith)

  early_value : (k : Cells) (bs : List ℕ) → length bs ≤ P.address_bytes + 1 → value_in k P bs ≡ 0
  early_value memory_cells bs few = refl
  early_value identification_cells bs few =
      ap (λ (n : ℕ). pick (picks_lock (start_of P bs)) n 0) (no_first bs few) ∙ pick_same (picks_lock (start_of P bs)) 0

  -- the address picks as the start did
  pub picks_start : (bs : List ℕ) → picks_lock (address_in identification_cells P bs) ≡ picks_lock (start_of P bs)
  picks_start bs =
      pick_case (λ (n : ℕ). picks_lock n ≡ picks_lock (start_of P bs)) (picks_lock (start_of P bs)) (λ p. refl)
      (λ p. picks_page sound (next_of P bs) (start_of P bs) (data_page (start_of P bs) _))

  writes_start : (k : Cells) (j : Instruction) (bs : List ℕ) → writes_to k j (address_in k P bs) ≡ writes_to k j (start_of P bs)
  writes_start memory_cells j bs = refl
  writes_start identification_cells j bs = ap (λ (t : Bool). writer identification_cells j && not t) (picks_start bs)

  -- a frame that writes the cells goes on from one to the next
  writing_next : (k : Cells) (j : Instruction) (bs : List ℕ) → writes_to k j (start_of P bs) ≡ true → (writer k j ≡ true) × (address_in k P bs ≡ next_of P bs)
  writing_next memory_cells j bs w = (w, refl)
  writing_next identification_cells j bs w =
      let picks = and_right (writer identification_cells j) (not (picks_lock (start_of P bs))) w in
      (and_left (writer identification_cells j) _ w, at_no _ _ (not_true (picks_lock (start_of P bs)) picks))

-- a frame that does not address the cell: neither its latest byte nor those before it do
none_addressed : (k : Cells) (P : Part) (i v : ℕ) (bs : List ℕ) → addressed_by k P i (v ∷ bs) ≡ false
    → ((not (leb (length bs) P.address_bytes) && eqb (data_cell k P (start_of P bs) (length bs - (P.address_bytes + 1))) i) ≡ false)
    × (addressed_by k P i bs ≡ false)
none_addressed k P i v bs e =
    or_none_out (not (leb (length bs) P.address_bytes) && eqb (data_cell k P (start_of P bs) (length bs - (P.address_bytes + 1))) i) (addressed_by k P i bs) e

-- the code alone starts at 0
code_start : (P : Part) (v : ℕ) (bs : List ℕ) → length bs ≡ 0 → start_of P (v ∷ bs) ≡ 0
unfolding pick
code_start P v [] z = refl
code_start P v (w ∷ ws) z = absurd (omega (arith, z))

-- ---- the frame is what is clocked in, and cell i is marked only by it

pub record Clocked (k : Cells) (P : Part) (i : ℕ) (h : Hand) (f : Frame) : Type 0 where
  pub bits : f.bits ≡ h.bits
  pub partial : f.partial ≡ h.partial
  pub taken : f.taken ≡ min P.most (length h.bytes)
  pub code : f.code ≡ code_of h.bytes
  pub address : writer k (decode P f.code) ≡ true → f.address ≡ address_in k P h.bytes
  pub value : writer k (decode P f.code) ≡ true → f.value ≡ value_in k P h.bytes
  pub marks : addressed_by k P i h.bytes ≡ false → in_frame k P f i ≡ false

module _ (k : Cells) (P : Part) (sound : Sound P) (i : ℕ) where
  empty_clocked : (f : Frame) → FrameFits P f → f.taken ≡ 0 → f.bits ≡ 0 → Clocked k P i no_hand f
  empty_clocked f t n b =
      let s = silent P f n t in
      let small : f.partial < 2 ^ 0 = subst (λ (k : ℕ). f.partial < 2 ^ k) b t.partial in
      let none : f.address ≡ 0 = eqb-true _ _ s.address in
      record {
        bits = b;
        partial = omega (arith, small);
        taken = n ∙ omega arith;
        code = eqb-true _ _ (and_left (eqb f.code 0) (eqb f.ran 0) (sym (at_yes _ _ (eq-eqb _ _ n)) ∙ t.code));
        address = λ w. none ∙ sym (early_address P sound k [] (omega arith) ∙ next_start P sound [] (omega arith));
        value = λ w. eqb-true _ _ s.value ∙ sym (early_value P sound k [] (omega arith));
        marks = λ e. unmarked_as P i sound k (decode P f.code) f s.latch;
      }

  -- ---- a whole byte

  module _ (h : Hand) (f : Frame) (v : ℕ) (t : FrameFits P f) (c : Clocked k P i h f) where
    count : min P.most (f.taken + 1) ≡ min P.most (suc (length h.bytes))
    count = omega (arith, c.taken)

    code_clocked : (run : Bool) → f.taken ≡ 0 → Clocked k P i (hand (v ∷ h.bytes) 0 0) (with_code v run (with_byte P f))
    code_clocked run z =
        let first : length h.bytes ≡ 0 = omega (arith, c.taken, z, sound.counted) in
        let none : f.address ≡ 0 = eqb-true _ _ (silent P f z t).address in
        record {
          bits = refl;
          partial = refl;
          taken = count;
          code = yes_so _ (eq-eqb _ _ first) refl;
          address =
              λ w. none
              ∙ sym (early_address P sound k (v ∷ h.bytes) (omega (arith, first)) ∙ next_start P sound (v ∷ h.bytes) (omega (arith, first))
              ∙ code_start P v h.bytes first);
          value = λ w. eqb-true _ _ (silent P f z t).value ∙ sym (early_value P sound k (v ∷ h.bytes) (omega (arith, first)));
          marks = λ e. unmarked_as P i sound k (decode P v) (with_code v run (with_byte P f)) (silent P f z t).latch;
        }

    -- an address byte, or a data byte
    write_address : leb f.taken P.address_bytes ≡ true → f.address ≡ next_of P h.bytes → (f.taken ≡ 0 → ⊥)
        → (f.address + v * 256 ^ (P.address_bytes - f.taken)) % P.size ≡ next_of P (v ∷ h.bytes)
    write_address e a z =
        let few : f.taken ≤ P.address_bytes = leb-true _ _ e in
        let all : f.taken ≡ length h.bytes = omega (arith, c.taken, few, sound.counted) in
        let some : 1 ≤ length h.bytes = omega (arith, z, all) in
        let start : f.address ≡ start_of P h.bytes = a ∙ next_start P sound h.bytes (omega (arith, few, all)) in
        let fits : length h.bytes ≤ P.address_bytes = omega (arith, few, all) in
        rw (start, all) (yes_so _ (and_both (leb 1 (length h.bytes)) (leb (length h.bytes) P.address_bytes) (le-leb _ _ some) (le-leb _ _ fits)) refl)
        ∙ sym (next_start P sound (v ∷ h.bytes) (omega (arith, few, all)))

    -- past the address the start stays
    start_stays : leb f.taken P.address_bytes ≡ false → start_of P (v ∷ h.bytes) ≡ start_of P h.bytes
    start_stays e =
        let past : P.address_bytes < length h.bytes = omega (arith, c.taken, leb-false f.taken P.address_bytes e) in
        at_no _ _ (and_no_right (leb 1 (length h.bytes)) _ (lt-leb _ _ past))

    write_data : leb f.taken P.address_bytes ≡ false → f.address ≡ next_of P h.bytes → next_in_page P f.address ≡ next_of P (v ∷ h.bytes)
    write_data e a =
        let past : P.address_bytes < length h.bytes = omega (arith, c.taken, leb-false f.taken P.address_bytes e) in
        let j = length h.bytes - (P.address_bytes + 1) in
        let more : j + 1 ≡ suc (length h.bytes) - (P.address_bytes + 1) = omega (arith, past) in
        ap (next_in_page P) a ∙ data_cell_next P sound (start_of P h.bytes) j
        ∙ ap (data_cell memory_cells P (start_of P h.bytes)) more
        ∙ sym (ap (λ (n : ℕ). data_cell memory_cells P n (suc (length h.bytes) - (P.address_bytes + 1))) (start_stays e))

    -- an address byte, of a frame that writes the cells k
    early_next : leb f.taken P.address_bytes ≡ true → f.address ≡ address_in k P h.bytes → (f.taken ≡ 0 → ⊥)
        → (f.address + v * 256 ^ (P.address_bytes - f.taken)) % P.size ≡ address_in k P (v ∷ h.bytes)
    early_next e a z =
        let few : length h.bytes ≤ P.address_bytes = omega (arith, c.taken, leb-true f.taken P.address_bytes e, sound.counted) in
        write_address e (a ∙ early_address P sound k h.bytes (omega arith)) z ∙ sym (early_address P sound k (v ∷ h.bytes) (omega arith))

    -- a data byte of 82h
    lock_address : picks_lock (start_of P h.bytes) ≡ true → leb f.taken P.address_bytes ≡ false
        → f.address ≡ address_in identification_cells P h.bytes → f.address ≡ address_in identification_cells P (v ∷ h.bytes)
    lock_address p e a =
        a ∙ at_yes _ _ p
        ∙ sym (at_yes _ _ (ap picks_lock (start_stays e) ∙ p) ∙ start_stays e)

    page_goes : picks_lock (start_of P h.bytes) ≡ false → leb f.taken P.address_bytes ≡ false
        → f.address ≡ address_in identification_cells P h.bytes → next_in_page P f.address ≡ address_in identification_cells P (v ∷ h.bytes)
    page_goes p e a = write_data e (a ∙ at_no _ _ p) ∙ sym (at_no _ _ (ap picks_lock (start_stays e) ∙ p))

    wrid_address : f.address ≡ address_in identification_cells P h.bytes → leb f.taken P.address_bytes ≡ false
        → (identification_data P f.taken v (with_byte P f)).address ≡ address_in identification_cells P (v ∷ h.bytes)
    wrid_address a e =
        let as-start : picks_lock f.address ≡ picks_lock (start_of P h.bytes) = ap picks_lock a ∙ picks_start P sound h.bytes in
        pick_case (λ (g : Frame). g.address ≡ address_in identification_cells P (v ∷ h.bytes)) (picks_lock f.address)
        (λ p. pick_case (λ (g : Frame). g.address ≡ address_in identification_cells P (v ∷ h.bytes)) (eqb f.taken (P.address_bytes + 1))
        (λ o. lock_address (sym as-start ∙ p) e a) (λ o. lock_address (sym as-start ∙ p) e a))
        (λ p. page_goes (sym as-start ∙ p) e a)

    taking_address : (j : Instruction) → writer k j ≡ true → f.address ≡ address_in k P h.bytes → (f.taken ≡ 0 → ⊥)
        → (taking P j f.taken v (with_byte P f)).address ≡ address_in k P (v ∷ h.bytes)
    taking_address Wren w a z = absurd (true≢false (sym w))
    taking_address Wrdi w a z = absurd (true≢false (sym w))
    taking_address Rdsr w a z = absurd (true≢false (sym w))
    taking_address Wrsr w a z = absurd (true≢false (sym w))
    taking_address Read w a z = absurd (true≢false (sym w))
    taking_address Write w a z =
        pick_case (λ (g : Frame). g.address ≡ address_in k P (v ∷ h.bytes)) (leb f.taken P.address_bytes) (λ e. early_next e a z) (λ e. data_of k w a e)
      where
        data_of : (k : Cells) → of_memory k ≡ true → f.address ≡ address_in k P h.bytes → leb f.taken P.address_bytes ≡ false
            → next_in_page P f.address ≡ address_in k P (v ∷ h.bytes)
        data_of memory_cells w a e = write_data e a
        data_of identification_cells w a e = absurd (true≢false (sym w))
    taking_address Rdid w a z = absurd (true≢false (sym w))
    taking_address Wrid w a z =
        pick_case (λ (g : Frame). g.address ≡ address_in k P (v ∷ h.bytes)) (leb f.taken P.address_bytes) (λ e. early_next e a z) (λ e. data_of k w a e)
      where
        data_of : (k : Cells) → not (of_memory k) ≡ true → f.address ≡ address_in k P h.bytes → leb f.taken P.address_bytes ≡ false
            → (identification_data P f.taken v (with_byte P f)).address ≡ address_in k P (v ∷ h.bytes)
        data_of memory_cells w a e = absurd (true≢false (sym w))
        data_of identification_cells w a e = wrid_address a e
    taking_address Silence w a z = absurd (true≢false (sym w))

    -- an address byte leaves no value
    early_kept : leb f.taken P.address_bytes ≡ true → f.value ≡ value_in k P h.bytes → f.value ≡ value_in k P (v ∷ h.bytes)
    early_kept e x =
        let few : length h.bytes ≤ P.address_bytes = omega (arith, c.taken, leb-true f.taken P.address_bytes e, sound.counted) in
        x ∙ early_value P sound k h.bytes (omega arith) ∙ sym (early_value P sound k (v ∷ h.bytes) (omega arith))

    -- the first data byte of one that picks the lock is its value, and stays
    counts_first : eqb f.taken (P.address_bytes + 1) ≡ eqb (length h.bytes) (P.address_bytes + 1)
    counts_first = same (eqb f.taken (P.address_bytes + 1)) refl
      where
        same : (b : Bool) → eqb f.taken (P.address_bytes + 1) ≡ b → eqb f.taken (P.address_bytes + 1) ≡ eqb (length h.bytes) (P.address_bytes + 1)
        same true q =
            let first : f.taken ≡ P.address_bytes + 1 = eqb-true _ _ q in
            q ∙ sym (eq-eqb (length h.bytes) (P.address_bytes + 1) (omega (arith, c.taken, first, sound.counted)))
        same false q =
            let other : (f.taken ≡ P.address_bytes + 1) → ⊥ = eqb-false _ _ q in
            q ∙ sym (ne_eqb (length h.bytes) (P.address_bytes + 1) (λ e. other (omega (arith, c.taken, e, sound.counted))))

    lock_value : picks_lock (start_of P h.bytes) ≡ true → leb f.taken P.address_bytes ≡ false
        → f.value ≡ value_in identification_cells P h.bytes
        → pick (eqb f.taken (P.address_bytes + 1)) v f.value ≡ value_in identification_cells P (v ∷ h.bytes)
    lock_value p e x =
        ap₂ (λ (t : Bool) (n : ℕ). pick t v n) counts_first (x ∙ at_yes _ _ p) ∙ sym (at_yes _ _ (ap picks_lock (start_stays e) ∙ p))

    page_value : picks_lock (start_of P h.bytes) ≡ false → leb f.taken P.address_bytes ≡ false
        → f.value ≡ value_in identification_cells P h.bytes → f.value ≡ value_in identification_cells P (v ∷ h.bytes)
    page_value p e x = x ∙ at_no _ _ p ∙ sym (at_no _ _ (ap picks_lock (start_stays e) ∙ p))

    wrid_value : f.address ≡ address_in identification_cells P h.bytes → f.value ≡ value_in identification_cells P h.bytes
        → leb f.taken P.address_bytes ≡ false
        → (identification_data P f.taken v (with_byte P f)).value ≡ value_in identification_cells P (v ∷ h.bytes)
    wrid_value a x e =
        let as-start : picks_lock f.address ≡ picks_lock (start_of P h.bytes) = ap picks_lock a ∙ picks_start P sound h.bytes in
        let wanted = value_in identification_cells P (v ∷ h.bytes) in
        pick_case (λ (g : Frame). g.value ≡ wanted) (picks_lock f.address)
        (λ p. pick_case (λ (g : Frame). g.value ≡ wanted) (eqb f.taken (P.address_bytes + 1))
        (λ o. sym (at_yes _ _ o) ∙ lock_value (sym as-start ∙ p) e x) (λ o. sym (at_no _ _ o) ∙ lock_value (sym as-start ∙ p) e x))
        (λ p. page_value (sym as-start ∙ p) e x)

    taking_value : (j : Instruction) → writer k j ≡ true → f.address ≡ address_in k P h.bytes → f.value ≡ value_in k P h.bytes
        → (taking P j f.taken v (with_byte P f)).value ≡ value_in k P (v ∷ h.bytes)
    taking_value Wren w a x = absurd (true≢false (sym w))
    taking_value Wrdi w a x = absurd (true≢false (sym w))
    taking_value Rdsr w a x = absurd (true≢false (sym w))
    taking_value Wrsr w a x = absurd (true≢false (sym w))
    taking_value Read w a x = absurd (true≢false (sym w))
    taking_value Write w a x =
        pick_case (λ (g : Frame). g.value ≡ value_in k P (v ∷ h.bytes)) (leb f.taken P.address_bytes) (λ e. early_kept e x) (λ e. data_of k w x)
      where
        data_of : (k : Cells) → of_memory k ≡ true → f.value ≡ value_in k P h.bytes → f.value ≡ value_in k P (v ∷ h.bytes)
        data_of memory_cells w x = x
        data_of identification_cells w x = absurd (true≢false (sym w))
    taking_value Rdid w a x = absurd (true≢false (sym w))
    taking_value Wrid w a x =
        pick_case (λ (g : Frame). g.value ≡ value_in k P (v ∷ h.bytes)) (leb f.taken P.address_bytes) (λ e. early_kept e x) (λ e. data_of k w a x e)
      where
        data_of : (k : Cells) → not (of_memory k) ≡ true → f.address ≡ address_in k P h.bytes → f.value ≡ value_in k P h.bytes
            → leb f.taken P.address_bytes ≡ false
            → (identification_data P f.taken v (with_byte P f)).value ≡ value_in k P (v ∷ h.bytes)
        data_of memory_cells w a x e = absurd (true≢false (sym w))
        data_of identification_cells w a x e = wrid_value a x e
    taking_value Silence w a x = absurd (true≢false (sym w))

    -- the byte is for another cell
    other_cell : addressed_by k P i (v ∷ h.bytes) ≡ false → data_for k P i f ≡ false
    other_cell e = go (writes_to k (decode P f.code) f.address) refl
      where
        counts : leb (length h.bytes) P.address_bytes ≡ leb f.taken P.address_bytes
        counts = same (leb f.taken P.address_bytes) refl
          where
            same : (b : Bool) → leb f.taken P.address_bytes ≡ b → leb (length h.bytes) P.address_bytes ≡ leb f.taken P.address_bytes
            same true q =
                le-leb (length h.bytes) P.address_bytes (omega (arith, c.taken, leb-true f.taken P.address_bytes q, sound.counted)) ∙ sym q
            same false q = lt-leb (length h.bytes) P.address_bytes (omega (arith, c.taken, leb-false f.taken P.address_bytes q)) ∙ sym q

        -- the address is that of the cell, where the frame writes the cells
        cell : writes_to k (decode P f.code) f.address ≡ true
            → data_cell k P f.address 0 ≡ data_cell k P (start_of P h.bytes) (length h.bytes - (P.address_bytes + 1))
        cell w =
            let j = decode P f.code in
            let a : f.address ≡ address_in k P h.bytes = c.address (writes_writer k j f.address w) in
            let started : writes_to k j (start_of P h.bytes) ≡ true = sym (writes_start P sound k j h.bytes) ∙ ap (writes_to k j) (sym a) ∙ w in
            ap (λ (n : ℕ). data_cell k P n 0) (a ∙ (writing_next P sound k j h.bytes started).1) ∙ data_cell_of P sound k (start_of P h.bytes) _

        go : (b : Bool) → writes_to k (decode P f.code) f.address ≡ b → data_for k P i f ≡ false
        go true q = rw (q, cell q, ← counts) (none_addressed k P i v h.bytes e).0
        go false q = rw q refl

    later_clocked : (f.taken ≡ 0 → ⊥) → Clocked k P i (hand (v ∷ h.bytes) 0 0) (taking P (decode P f.code) f.taken v (with_byte P f))
    later_clocked z =
        let j = decode P f.code in
        let same = taking_same P f.taken v (with_byte P f) j in
        let later : length h.bytes ≡ 0 → ⊥ = λ e. z (omega (arith, c.taken, e)) in
        let kept : (taking P j f.taken v (with_byte P f)).code ≡ f.code = ap (λ (g : Frame). g.code) same in
        record {
          bits = ap (λ (g : Frame). g.bits) same;
          partial = ap (λ (g : Frame). g.partial) same;
          taken = ap (λ (g : Frame). g.taken) same ∙ count;
          code = kept ∙ c.code ∙ no_so _ (ne_eqb _ _ later) refl;
          address =
              λ w.
              let write : writer k j ≡ true = ap (λ (n : ℕ). writer k (decode P n)) (sym kept) ∙ w in
              taking_address j write (c.address write) z;
          value =
              λ w.
              let write : writer k j ≡ true = ap (λ (n : ℕ). writer k (decode P n)) (sym kept) ∙ w in
              taking_value j write (c.address write) (c.value write);
          marks =
              λ e.
              subst (λ (n : ℕ). in_frame_as k P (decode P n) (taking P j f.taken v (with_byte P f)) i ≡ false) (sym kept)
              (taking_frame P i k sound j (with_byte P f) f.taken v t.fields.latch (other_cell e) (c.marks (none_addressed k P i v h.bytes e).1));
        }

  -- ---- the edges

  risen_clocked : (run : Bool) (d : ℕ) (h : Hand) (f : Frame) → FrameFits P f → Clocked k P i h f → Clocked k P i (bit_taken d h) (risen P run d f)
  unfolding risen whole_byte
  risen_clocked run d h f t c =
      let v = shifted_in f.partial d in
      let same : pick (ltb f.bits 7) (hand h.bytes (f.bits + 1) v) (hand (v ∷ h.bytes) 0 0) ≡ bit_taken d h =
      rw (c.bits, c.partial) refl in
      subst (λ (g : Hand). Clocked k P i g (risen P run d f)) same
      (pick_both (Clocked k P i) (ltb f.bits 7)
      (λ e. record { bits = refl; partial = refl; taken = c.taken; code = c.code; address = c.address; value = c.value; marks = c.marks })
      (λ e. pick_case (Clocked k P i (hand (v ∷ h.bytes) 0 0)) (eqb f.taken 0) (λ z. code_clocked h f v t c run (eqb-true _ _ z))
      (λ z. later_clocked h f v t c (eqb-false _ _ z))))

  loading_address : (m : Lent) (n : Core) (f : Frame) (j : Instruction) → writer k j ≡ true → (loading P m n j f).address ≡ f.address
  loading_address m n f Wren w = refl
  loading_address m n f Wrdi w = refl
  loading_address m n f Rdsr w = refl
  loading_address m n f Wrsr w = refl
  loading_address m n f Read w = absurd (true≢false (sym w))
  loading_address m n f Write w = refl
  loading_address m n f Rdid w = absurd (true≢false (sym w))
  loading_address m n f Wrid w = refl
  loading_address m n f Silence w = refl

  loading_clocked : (m : Lent) (n : Core) (h : Hand) (f : Frame) → FrameFits P f → Clocked k P i h f → Clocked k P i h (loading P m n (decode P f.code) f)
  loading_clocked m n h f t c =
      let j = decode P f.code in
      let same = loading_same P m n f j in
      let kept : (loading P m n j f).code ≡ f.code = ap (λ (g : Frame). g.code) same in
      record {
        bits = ap (λ (g : Frame). g.bits) same ∙ c.bits;
        partial = ap (λ (g : Frame). g.partial) same ∙ c.partial;
        taken = ap (λ (g : Frame). g.taken) same ∙ c.taken;
        code = kept ∙ c.code;
        address =
            λ w.
            let write : writer k j ≡ true = ap (λ (v : ℕ). writer k (decode P v)) (sym kept) ∙ w in
            loading_address m n f j write ∙ c.address write;
        value =
            λ w.
            let write : writer k j ≡ true = ap (λ (v : ℕ). writer k (decode P v)) (sym kept) ∙ w in
            ap (λ (g : Frame). g.value) same ∙ c.value write;
        marks =
            λ e. subst (λ (v : ℕ). in_frame_as k P (decode P v) (loading P m n j f) i ≡ false) (sym kept) (loading_frame P i k sound m n f j (c.marks e));
      }

  fallen_clocked : (m : Lent) (n : Core) (h : Hand) (f : Frame) → FrameFits P f → Clocked k P i h f → Clocked k P i h (fallen P m n f)
  unfolding fallen
  fallen_clocked m n h f t c =
      pick_case (Clocked k P i h) (outputs P (decode P f.code) f.taken (on f.ran))
      (λ o. pick_case (Clocked k P i h) (leb 1 f.shown && ltb f.shown 8)
      (λ e. record { bits = c.bits; partial = c.partial; taken = c.taken; code = c.code; address = c.address; value = c.value; marks = c.marks })
      (λ e. loading_clocked m n h f t c))
      (λ o. c)

  -- ---- the events

  module _ (x : Device) (h : Hand) (t : Fits P x) (c : Clocked k P i h x.frame) where
    s_clocked : (level : Bool) → Clocked k P i (hand_after (S level) x h) (on_s P level x).frame
    unfolding on_s
    s_clocked level =
        let empty : Clocked k P i no_hand no_frame = empty_clocked no_frame (empty_frame P) refl refl in
        pick_both (λ (g : Hand) (y : Device). Clocked k P i g y.frame) (eqb x.pins.s (bit level)) (λ e. c)
        (λ e. pick_case (λ (y : Device). Clocked k P i no_hand y.frame) level (λ l. empty) (λ l. empty))

    c_clocked : (m : Lent) (level : Bool) → Clocked k P i (hand_after (C level) x h) (on_c P level m x).frame
    unfolding on_c pick
    c_clocked m true =
        let up : Bool = not (on x.pins.c) && counting x in
        let still : up ≡ false → Clocked k P i (pick up (bit_taken x.pins.d h) h) x.frame =
        λ n. subst (λ (g : Hand). Clocked k P i g x.frame) (sym (at_no _ _ n)) c in
        let moved : Device → Type 0 = λ y. Clocked k P i (pick up (bit_taken x.pins.d h) h) y.frame in
        pick_case moved (eqb x.pins.c 1) (λ e. still (and_no_left (not (on x.pins.c)) (counting x) (ap not e)))
        (λ e. pick_case (λ (y : Device). moved (with_pins (with_c 1 x.pins) y)) (counting x)
        (λ n. subst (λ (g : Hand). Clocked k P i g (risen P (running x.core) x.pins.d x.frame))
        (sym (at_yes _ _ (and_both (not (on x.pins.c)) (counting x) (ap not e) n)))
        (risen_clocked (running x.core) x.pins.d h x.frame t.frame c))
        (λ n. still (and_no_right (not (on x.pins.c)) (counting x) n)))
    c_clocked m false =
        let kept : Device → Type 0 = λ y. Clocked k P i h y.frame in
        pick_case kept (eqb x.pins.c 0) (λ e. c)
        (λ e. pick_case (λ (y : Device). kept (renewed (with_pins (with_c 0 x.pins) y))) (counting x)
        (λ n. fallen_clocked m x.core h x.frame t.frame c) (λ n. c))

    hold_clocked : (level : Bool) → Clocked k P i h (on_hold level x).frame
    unfolding on_hold
    hold_clocked level = pick_case (λ (y : Device). Clocked k P i h y.frame) (on x.pins.c) (λ e. c) (λ e. c)

    pub event_clocked : (m : Lent) (e : Event) → Clocked k P i (hand_after e x h) (stepped P m e x).frame
    unfolding on_d on_w on_time
    event_clocked m (S level) = s_clocked level
    event_clocked m (C level) = c_clocked m level
    event_clocked m (D level) = c
    event_clocked m (W level) = c
    event_clocked m (Hold level) = hold_clocked level
    event_clocked m (Time r) = c

    -- a write is of cells that its own bytes address, and no others
    unaccepted : (e : Event) → accepts k P i e x h ≡ false → writes k P i e x ≡ false
    unaccepted (S level) none = go (addressed_by k P i h.bytes) refl
      where
        j : Instruction
        j = decode P x.frame.code

        before : Bool
        before = level && not (on x.pins.s) && is_executed (judged_now P x)

        -- the address is the start's, or the frame does not write the cells
        writing : (w : Bool) → writes_to k j x.frame.address ≡ w → addressed_by k P i h.bytes ≡ true → writes k P i (S level) x ≡ false
        writing true w q =
            let started : writes_to k j (start_of P h.bytes) ≡ true =
            sym (writes_start P sound k j h.bytes) ∙ ap (writes_to k j) (sym (c.address (writes_writer k j x.frame.address w))) ∙ w in
            let clocked : writes_to k (decode P (code_of h.bytes)) (start_of P h.bytes) ≡ true =
            ap (λ (n : ℕ). writes_to k (decode P n) (start_of P h.bytes)) (sym c.code) ∙ started in
            and_no_left before (in_frame k P x.frame i)
            (not_first before (writes_to k (decode P (code_of h.bytes)) (start_of P h.bytes))
            (not_first (before && writes_to k (decode P (code_of h.bytes)) (start_of P h.bytes)) (addressed_by k P i h.bytes) none q) clocked)
        writing false w q = and_no_right before (in_frame k P x.frame i) (and_no_left (writes_to k j x.frame.address) _ w)

        go : (b : Bool) → addressed_by k P i h.bytes ≡ b → writes k P i (S level) x ≡ false
        go true q = writing (writes_to k j x.frame.address) refl q
        go false q = and_no_right before (in_frame k P x.frame i) (c.marks q)
    unaccepted (C level) none = refl
    unaccepted (D level) none = refl
    unaccepted (W level) none = refl
    unaccepted (Hold level) none = refl
    unaccepted (Time r) none = refl

-- ---- any list of events

module _ (k : Cells) (P : Part) (sound : Sound P) (i : ℕ) where
  pub list_clocked : (es : List ℕ) (b : PinBench) (h : Hand) → Sized b.device → device_fits P b.device ≡ true → Clocked k P i h b.device.frame
      → Clocked k P i (clocked_in P es b h) (played P es b).device.frame
  unfolding clocked_in played
  list_clocked [] b h sized fits c = c
  list_clocked (e ∷ es) b h sized fits c =
      let x = b.device in
      list_clocked es (after_event P e b) (hand_after (event_of e) x h) (stepped_sized P x sized (lent_to b) (event_of e))
      (stepped_fits P sound x sized fits (lent_to b) (event_of e)) (event_clocked k P sound i x h (parts P x fits) c (lent_to b) (event_of e))

  list_accepted : (es : List ℕ) (b : PinBench) (h : Hand) → Sized b.device → device_fits P b.device ≡ true → Clocked k P i h b.device.frame
      → accepted_cell k P i es b h ≡ false → writes_any k P i es b ≡ false
  unfolding accepted_cell writes_any
  list_accepted [] b h sized fits c none = refl
  list_accepted (e ∷ es) b h sized fits c none =
      let x = b.device in
      let t = parts P x fits in
      let g = hand_after (event_of e) x h in
      let two = or_none_out (accepts k P i (event_of e) x h) (accepted_cell k P i es (after_event P e b) g) none in
      or_none_in (writes k P i (event_of e) x) (writes_any k P i es (after_event P e b)) (unaccepted k P sound i x h t c (event_of e) two.0)
      (list_accepted es (after_event P e b) g (stepped_sized P x sized (lent_to b) (event_of e)) (stepped_fits P sound x sized fits (lent_to b) (event_of e))
      (event_clocked k P sound i x h t c (lent_to b) (event_of e)) two.1)

  -- ---- from any device with what is clocked in of its frame

  pub marked_addressed_from : (es : List ℕ) (b : PinBench) (h : Hand) → Sized b.device → device_fits P b.device ≡ true
      → Clocked k P i h b.device.frame
      → in_frame k P (played P es b).device.frame i ≡ true → addressed_by k P i (clocked_in P es b h).bytes ≡ true
  marked_addressed_from es b h sized fits c m = must (addressed_by k P i (clocked_in P es b h).bytes) m (list_clocked es b h sized fits c).marks

  pub accepted_cell_from : (es : List ℕ) (b : PinBench) (h : Hand) → i < cell_count k P → length (cells_of k b) ≡ cell_count k P → Sized b.device
      → device_fits P b.device ≡ true → Clocked k P i h b.device.frame
      → awaited_in k P b.device.core i ≡ false → accepted_cell k P i es b h ≡ false → get_or (cells_of k (played P es b)) i 0 ≡ get_or (cells_of k b) i 0
  accepted_cell_from es b h below size sized fits c a none =
      untouched_cell k P sound i below es b size sized fits a (list_accepted es b h sized fits c none)

  -- ---- from a device that is not selected: nothing is clocked in

  pub unselected_clocked : (x : Device) → device_fits P x ≡ true → selected x ≡ false → Clocked k P i no_hand x.frame
  unselected_clocked x fits s =
      let t = parts P x fits in
      let empty : (eqb x.frame.taken 0 && eqb x.frame.bits 0) ≡ true = sym (rw s refl) ∙ t.empty in
      empty_clocked k P sound i x.frame t.frame (eqb-true _ _ (and_left _ (eqb x.frame.bits 0) empty))
      (eqb-true _ _ (and_right (eqb x.frame.taken 0) _ empty))

  -- a cell marked in the frame in hand is addressed by the bytes clocked in since its select
  pub marked_addressed : (es : List ℕ) (b : PinBench) → Sized b.device → device_fits P b.device ≡ true → selected b.device ≡ false
      → in_frame k P (played P es b).device.frame i ≡ true → addressed_by k P i (clocked_in P es b no_hand).bytes ≡ true
  marked_addressed es b sized fits s m = marked_addressed_from es b no_hand sized fits (unselected_clocked b.device fits s) m

  -- a cell that does not wait, and that no frame accepted in the list addressed by the bytes since its own select, is as it was
  pub accepted_cell_law : (es : List ℕ) (b : PinBench) → i < cell_count k P → length (cells_of k b) ≡ cell_count k P → Sized b.device
      → device_fits P b.device ≡ true
      → selected b.device ≡ false → awaited_in k P b.device.core i ≡ false → accepted_cell k P i es b no_hand ≡ false
      → get_or (cells_of k (played P es b)) i 0 ≡ get_or (cells_of k b) i 0
  accepted_cell_law es b below size sized fits s a none =
      accepted_cell_from es b no_hand below size sized fits (unselected_clocked b.device fits s) a none
