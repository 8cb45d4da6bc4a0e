-- The cell rule by bytes: a cell is marked in a frame only by a data byte taken for it. So one that neither waits nor is marked at the start of a
-- list of events, and for which no data byte is taken in it, is as it was.
use mathlib.Core.Path.{◌≡◌, refl, ap, sym, subst, ◌∙◌}
use mathlib.Core.List.{List, [], ◌∷◌}
use mathlib.Core.Bool.{Bool, true, false, not, ◌&&◌, ◌||◌}
use Prim.Native.Nat.{ℕ, ◌+◌, ◌-◌, ◌*◌, ◌/◌, ◌%◌, ◌<◌, ◌≤◌}
use native.Mathlib.Nat.{add-zero, lt_of_lt_of_le, mod-lt, mod-eq_of_lt}
use native.Mathlib.Omega.{arith}
use lib.ListN.{length, get_or}
use lib.Dec.{eqb, leb, ltb}
use borrow.Author.Tests.{leb-true, ltb-true, lt-leb, eqb-true, eq-eqb}
use Rattle.laws.specs.Pick.{pick, pick_case, and_left, and_right, and_both, and_no_left, and_no_right}
use Rattle.laws.specs.And.{and_3_in, and_other, and_rest, or_none_in, or_none_out, never}
use Rattle.laws.specs.Marks.{mark_set_other}
use Rattle.codes.specs.Part.{Part}
use Rattle.codes.specs.Status.{bit, on}
use Rattle.latch.specs.Latches.{in_page, marked, no_latch, latch_fits, latched, next_in_page}
use Rattle.chip.specs.Lents.{Lent}
use Rattle.chip.specs.Records.{running}
use Rattle.codes.specs.Instructions.{decode, picks_lock}
use Rattle.codes.specs.Verdicts.{is_executed}
use Rattle.chip.specs.Cells.{Cells, memory_cells, identification_cells, cell_count, writer, writes_to, page_in, latched_in, awaited_in}
use Rattle.latch.specs.declared.Latch.{Latch}
use Rattle.chip.specs.declared.Core.{Core}
use Rattle.codes.specs.declared.Instruction.{Instruction}
use Rattle.codes.specs.declared.Instruction.TheVariants.{Wren, Wrdi, Rdsr, Wrsr, Read, Write, Rdid, Wrid, Silence}
use Rattle.edges.specs.declared.Frame.{Frame}
use Rattle.pins.specs.declared.Device.{Device}
use Rattle.pins.specs.declared.Event.{Event}
use Rattle.pins.specs.declared.Event.TheVariants.{S, C, D, W, Hold, Time}
use Rattle.edges.specs.Frames.{no_frame, with_byte, with_code}
use Rattle.pins.specs.Devices.{with_c, with_pins, counting}
use Rattle.edges.specs.Rising.{shifted_in, address_byte, latch_byte, taking, whole_byte, risen}
use Rattle.codes.specs.Output.{outputs}
use Rattle.codes.proofs.Sound.{Sound}
use Rattle.latch.proofs.Fitting.{unmarked}
use Rattle.latch.proofs.Nexts.{next_page, picks_next}
use Rattle.edges.specs.Falling.{loading, fallen}
use Rattle.edges.specs.Ranges.{latches}
use Rattle.pins.specs.Ranges.{device_fits}
use Rattle.pins.specs.Events.{judged_now, renewed, on_s, on_c, on_d, on_w, on_hold, on_time, stepped, event_of}
use Rattle.pins_theorems.specs.Cells.{cells_of, data_cell, in_frame_as, in_frame, writes, writes_any, data_for_as, data_for, takes, byte_taken}
use Rattle.pins.specs.Answers.{PinBench, lent_to, after_event, played}
use Rattle.pins_theorems.proofs.Parts.{FrameFits, Fits, parts}
use Rattle.pins_theorems.proofs.Edges.{no_latch_fits, silent}
use Rattle.pins_theorems.proofs.Untouched.{taking_same, loading_same}
use Rattle.pins_theorems.proofs.Fits.{Sized, stepped_fits, stepped_sized}
use Rattle.pins_theorems.proofs.CellRule.{untouched_cell}

-- ---- a latch in which nothing may be marked

in_offset : (P : Part) (p i : ℕ) → in_page P p i ≡ true → (i - p * P.page < P.page) × (p * P.page ≤ i)
in_offset P p i e =
    let from : p * P.page ≤ i = leb-true _ _ (and_left (leb (p * P.page) i) (ltb i (p * P.page + P.page)) e) in
    let to : i < p * P.page + P.page = ltb-true _ _ (and_right (leb (p * P.page) i) (ltb i (p * P.page + P.page)) e) in
    (omega arith, from)

module _ (P : Part) (i : ℕ) where
  pub unmarked_frame : Sound P → (l : Latch) (p : ℕ) → latch_fits P false l ≡ true → (in_page P p i && marked l (i - p * P.page)) ≡ false
  unmarked_frame sound l p e = go (in_page P p i) refl
    where
      go : (b : Bool) → in_page P p i ≡ b → (in_page P p i && marked l (i - p * P.page)) ≡ false
      go true q = and_no_right (in_page P p i) (marked l (i - p * P.page))
          (unmarked P l (i - p * P.page) e (lt_of_lt_of_le (in_offset P p i q).0 sound.page_room))
      go false q = and_no_left (in_page P p i) (marked l (i - p * P.page)) q

  -- ---- a data byte for another cell

  module _ (k : Cells) (sound : Sound P) where
    -- the page stays from cell to cell
    page_kept : (a : ℕ) → page_in k P (next_in_page P a) ≡ page_in k P a
    page_kept a = by k
      where
        by : (k : Cells) → page_in k P (next_in_page P a) ≡ page_in k P a
        by memory_cells = next_page sound a
        by identification_cells = refl

    other_latched : (a v : ℕ) (l : Latch) → (data_cell k P a 0 ≡ i → ⊥) → latched_in k P a l i ≡ false
        → latched_in k P (next_in_page P a) (latched (a % P.page) v l) i ≡ false
    other_latched a v l other e = ap (λ (n : ℕ). in_page P n i && marked m (i - n * P.page)) (page_kept a) ∙ go (in_page P p i) refl
      where
        p : ℕ
        p = page_in k P a

        m : Latch
        m = latched (a % P.page) v l

        same : in_page P p i ≡ true → marked m (i - p * P.page) ≡ marked l (i - p * P.page)
        same q =
            let from : p * P.page ≤ i = (in_offset P p i q).1 in
            let first : (a % P.page + 0) % P.page ≡ a % P.page =
            ap (λ (n : ℕ). n % P.page) (add-zero (a % P.page)) ∙ mod-eq_of_lt (mod-lt a sound.page_some) in
            mark_set_other l.marks (a % P.page) (i - p * P.page) (λ n. other (omega (arith, first)))

        go : (b : Bool) → in_page P p i ≡ b → (in_page P p i && marked m (i - p * P.page)) ≡ false
        go true q = ap (λ (t : Bool). in_page P p i && t) (same q) ∙ e
        go false q = and_no_left (in_page P p i) (marked m (i - p * P.page)) q

    -- in a frame that writes the cells before and after it
    other_byte : (j : Instruction) (f : Frame) (v : ℕ) → (writes_to k j (next_in_page P f.address) ≡ writes_to k j f.address)
        → (writes_to k j f.address ≡ true → data_cell k P f.address 0 ≡ i → ⊥) → in_frame_as k P j f i ≡ false → in_frame_as k P j (latch_byte P v f) i ≡ false
    other_byte j f v same other e = ap (λ (t : Bool). t && l) same ∙ go (writes_to k j f.address) refl
      where
        l : Bool
        l = latched_in k P (next_in_page P f.address) (latched (f.address % P.page) v f.latch) i

        go : (t : Bool) → writes_to k j f.address ≡ t → (writes_to k j f.address && l) ≡ false
        go true q =
            and_no_right (writes_to k j f.address) l
            (other_latched f.address v f.latch (other q) (and_other (writes_to k j f.address) (latched_in k P f.address f.latch i) e q))
        go false q = and_no_left (writes_to k j f.address) l q

  -- ---- the frame after each edge

  -- nothing is marked where nothing may be
  pub unmarked_as : Sound P → (k : Cells) (j : Instruction) (f : Frame) → latch_fits P false f.latch ≡ true → in_frame_as k P j f i ≡ false
  unmarked_as sound k j f fits = and_no_right (writes_to k j f.address) _ (unmarked_frame sound f.latch (page_in k P f.address) fits)

  -- and none before the first data byte
  early : (t : Bool) (n : ℕ) (l : Latch) → leb n P.address_bytes ≡ true → latch_fits P (t && leb (P.address_bytes + 2) n) l ≡ true → latch_fits P false l ≡ true
  early t n l e fits =
      let few : leb (P.address_bytes + 2) n ≡ false = lt-leb (P.address_bytes + 2) n (omega (arith, leb-true n P.address_bytes e)) in
      sym (ap (λ (may : Bool). latch_fits P may l) (and_no_right t (leb (P.address_bytes + 2) n) few)) ∙ fits

  -- an instruction that reads writes no cells
  read_none : (k : Cells) (f : Frame) → (in_frame_as k P Read f i ≡ false) × (in_frame_as k P Rdid f i ≡ false)
  read_none memory_cells f = (refl, refl)
  read_none identification_cells f = (refl, refl)

  -- the bit that picks the lock stays from cell to cell
  writes_next : (k : Cells) → Sound P → (j : Instruction) (a : ℕ) → writes_to k j (next_in_page P a) ≡ writes_to k j a
  writes_next memory_cells sound j a = refl
  writes_next identification_cells sound j a = ap (λ (t : Bool). writer identification_cells j && not t) (picks_next sound a)

  -- a data byte that is for no cell i
  not_for : (k : Cells) (j : Instruction) (n : ℕ) (f : Frame) → leb n P.address_bytes ≡ false → data_for_as k P i j n f ≡ false
      → writes_to k j f.address ≡ true → data_cell k P f.address 0 ≡ i → ⊥
  not_for k j n f past none w q =
      never (and_3_in (writes_to k j f.address) (not (leb n P.address_bytes)) (eqb (data_cell k P f.address 0) i) w (ap not past) (eq-eqb _ _ q)) none

  module _ (k : Cells) (sound : Sound P) where
    pub taking_frame : (j : Instruction) (f : Frame) (n v : ℕ) → latch_fits P (latches P j f.address n) f.latch ≡ true
        → data_for_as k P i j n f ≡ false → in_frame_as k P j f i ≡ false → in_frame_as k P j (taking P j n v f) i ≡ false
    taking_frame Wren f n v fits none h = h
    taking_frame Wrdi f n v fits none h = h
    taking_frame Rdsr f n v fits none h = h
    taking_frame Wrsr f n v fits none h = pick_case (λ (g : Frame). in_frame_as k P Wrsr g i ≡ false) (eqb n 1) (λ e. h) (λ e. h)
    taking_frame Read f n v fits none h = (read_none k (taking P Read n v f)).0
    taking_frame Write f n v fits none h =
        pick_case (λ (g : Frame). in_frame_as k P Write g i ≡ false) (leb n P.address_bytes)
        (λ e. unmarked_as sound k Write (address_byte P n v f) (early true n f.latch e fits))
        (λ e. other_byte k sound Write f v (writes_next k sound Write f.address) (not_for k Write n f e none) h)
    taking_frame Rdid f n v fits none h = (read_none k (taking P Rdid n v f)).1
    taking_frame Wrid f n v fits none h =
        pick_case (λ (g : Frame). in_frame_as k P Wrid g i ≡ false) (leb n P.address_bytes)
        (λ e. unmarked_as sound k Wrid (address_byte P n v f) (early (not (picks_lock f.address)) n f.latch e fits))
        (λ e. pick_case (λ (g : Frame). in_frame_as k P Wrid g i ≡ false) (picks_lock f.address)
        (λ p. pick_case (λ (g : Frame). in_frame_as k P Wrid g i ≡ false) (eqb n (P.address_bytes + 1)) (λ o. h) (λ o. h))
        (λ p. other_byte k sound Wrid f v (writes_next k sound Wrid f.address) (not_for k Wrid n f e none) h))
    taking_frame Silence f n v fits none h = h

    risen_frame : (run : Bool) (d : ℕ) (f : Frame) → FrameFits P f → (not (ltb f.bits 7) && data_for k P i f) ≡ false → in_frame k P f i ≡ false
        → in_frame k P (risen P run d f) i ≡ false
    unfolding risen whole_byte
    risen_frame run d f t none h =
        let kept : Frame → Type 0 = λ g. in_frame k P g i ≡ false in
        let v = shifted_in f.partial d in
        let j = decode P f.code in
        let code : f.code ≡ (taking P j f.taken v (with_byte P f)).code =
        ap (λ (g : Frame). g.code) (sym (taking_same P f.taken v (with_byte P f) j)) in
        pick_case kept (ltb f.bits 7) (λ e. h)
        (λ e. pick_case kept (eqb f.taken 0) (λ z. unmarked_as sound k (decode P v) (with_code v run (with_byte P f)) (silent P f (eqb-true _ _ z) t).latch)
        (λ z. subst (λ (n : ℕ). in_frame_as k P (decode P n) (taking P j f.taken v (with_byte P f)) i ≡ false) code
        (taking_frame j (with_byte P f) f.taken v t.fields.latch (and_other (not (ltb f.bits 7)) (data_for k P i f) none (ap not e)) h)))

    pub loading_frame : (m : Lent) (c : Core) (f : Frame) (j : Instruction) → in_frame_as k P j f i ≡ false → in_frame_as k P j (loading P m c j f) i ≡ false
    loading_frame m c f Wren h = h
    loading_frame m c f Wrdi h = h
    loading_frame m c f Rdsr h = h
    loading_frame m c f Wrsr h = h
    loading_frame m c f Read h = (read_none k (loading P m c Read f)).0
    loading_frame m c f Write h = h
    loading_frame m c f Rdid h = (read_none k (loading P m c Rdid f)).1
    loading_frame m c f Wrid h = h
    loading_frame m c f Silence h = h

    fallen_frame : (m : Lent) (c : Core) (f : Frame) → in_frame k P f i ≡ false → in_frame k P (fallen P m c f) i ≡ false
    unfolding fallen
    fallen_frame m c f h =
        let kept : Frame → Type 0 = λ g. in_frame k P g i ≡ false in
        let j = decode P f.code in
        let code : f.code ≡ (loading P m c j f).code = ap (λ (g : Frame). g.code) (sym (loading_same P m c f j)) in
        pick_case kept (outputs P j f.taken (on f.ran))
        (λ o. pick_case kept (leb 1 f.shown && ltb f.shown 8) (λ e. h)
        (λ e. subst (λ (n : ℕ). in_frame_as k P (decode P n) (loading P m c j f) i ≡ false) code (loading_frame m c f j h)))
        (λ o. h)

-- ---- the frame after each event

module _ (k : Cells) (P : Part) (sound : Sound P) (i : ℕ) (x : Device) (t : Fits P x) (h : in_frame k P x.frame i ≡ false) where
  s_frame : (level : Bool) → in_frame k P (on_s P level x).frame i ≡ false
  unfolding on_s
  s_frame level =
      let kept : Device → Type 0 = λ y. in_frame k P y.frame i ≡ false in
      pick_case kept (eqb x.pins.s (bit level)) (λ e. h)
      (λ e. pick_case kept level (λ l. unmarked_as P i sound k (decode P 0) no_frame (no_latch_fits P))
      (λ l. unmarked_as P i sound k (decode P 0) no_frame (no_latch_fits P)))

  c_frame : (m : Lent) (level : Bool) → takes k P i (C level) x ≡ false → in_frame k P (on_c P level m x).frame i ≡ false
  unfolding on_c pick
  c_frame m true none =
      let kept : Device → Type 0 = λ y. in_frame k P y.frame i ≡ false in
      pick_case kept (eqb x.pins.c 1) (λ e. h)
      (λ e. pick_case (λ (y : Device). kept (with_pins (with_c 1 x.pins) y)) (counting x)
      (λ n. risen_frame P i k sound (running x.core) x.pins.d x.frame t.frame
      (and_rest (not (on x.pins.c)) (counting x) (not (ltb x.frame.bits 7)) (data_for k P i x.frame) none (ap not e) n) h)
      (λ n. h))
  c_frame m false none =
      let kept : Device → Type 0 = λ y. in_frame k P y.frame i ≡ false in
      pick_case kept (eqb x.pins.c 0) (λ e. h)
      (λ e. pick_case (λ (y : Device). kept (renewed (with_pins (with_c 0 x.pins) y))) (counting x)
      (λ n. fallen_frame P i k sound m x.core x.frame h) (λ n. h))

  hold_frame : (level : Bool) → in_frame k P (on_hold level x).frame i ≡ false
  unfolding on_hold
  hold_frame level = pick_case (λ (y : Device). in_frame k P y.frame i ≡ false) (on x.pins.c) (λ c. h) (λ c. h)

  -- a cell is marked only by a data byte taken for it
  pub event_frame : (m : Lent) (e : Event) → takes k P i e x ≡ false → in_frame k P (stepped P m e x).frame i ≡ false
  unfolding on_d on_w on_time
  event_frame m (S level) none = s_frame level
  event_frame m (C level) none = c_frame m level none
  event_frame m (D level) none = h
  event_frame m (W level) none = h
  event_frame m (Hold level) none = hold_frame level
  event_frame m (Time r) none = h

  -- and a write is of marked cells only
  unwritten : (e : Event) → writes k P i e x ≡ false
  unwritten (S level) =
      and_no_right (level && not (on x.pins.s) && is_executed (judged_now P x)) (in_frame k P x.frame i) h
  unwritten (C level) = refl
  unwritten (D level) = refl
  unwritten (W level) = refl
  unwritten (Hold level) = refl
  unwritten (Time r) = refl

-- ---- any list of events

module _ (k : Cells) (P : Part) (sound : Sound P) (i : ℕ) where
  unaddressed : (es : List ℕ) (b : PinBench) → Sized b.device → device_fits P b.device ≡ true → in_frame k P b.device.frame i ≡ false
      → byte_taken k P i es b ≡ false → writes_any k P i es b ≡ false
  unfolding byte_taken writes_any
  unaddressed [] b sized fits h none = refl
  unaddressed (e ∷ es) b sized fits h none =
      let x = b.device in
      let t = parts P x fits in
      let two = or_none_out (takes k P i (event_of e) x) (byte_taken k P i es (after_event P e b)) none in
      or_none_in (writes k P i (event_of e) x) (writes_any k P i es (after_event P e b)) (unwritten k P sound i x t h (event_of e))
      (unaddressed es (after_event P e b) (stepped_sized P x sized (lent_to b) (event_of e)) (stepped_fits P sound x sized fits (lent_to b) (event_of e))
      (event_frame k P sound i x t h (lent_to b) (event_of e) two.0) two.1)

  pub unaddressed_cell : (es : List ℕ) (b : PinBench) → i < cell_count k P → length (cells_of k b) ≡ cell_count k P → Sized b.device
      → device_fits P b.device ≡ true → awaited_in k P b.device.core i ≡ false → in_frame k P b.device.frame i ≡ false
      → byte_taken k P i es b ≡ false → get_or (cells_of k (played P es b)) i 0 ≡ get_or (cells_of k b) i 0
  unaddressed_cell es b below size sized fits a h none = untouched_cell k P sound i below es b size sized fits a (unaddressed es b sized fits h none)
