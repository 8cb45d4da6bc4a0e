-- The fields that an instruction fills stay inside their ranges as its bytes are taken.
use mathlib.Core.Path.{◌≡◌, refl, ap, sym, subst, ◌∙◌}
use mathlib.Core.Bool.{Bool, true, false, not, ◌&&◌, ◌||◌, true≢false}
use Prim.Native.Nat.{ℕ, ◌+◌, ◌-◌, ◌*◌, ◌/◌, ◌%◌, ◌^◌, ◌<◌, ◌≤◌, ◌∣◌, min}
use native.Mathlib.Nat.{mod-lt, mod-one, zero-mod, dvd_trans, dvd-add, dvd-mul_left, dvd-mul_right, dvd_of_mod-eq-zero, mod-eq-zero_of_dvd, mod-mod_of_dvd}
use lib.Pow.{pow-add}
use native.Mathlib.Omega.{arith}
use lib.ListN.{length}
use lib.Dec.{eqb, leb, ltb}
use borrow.Author.Tests.{le-leb, leb-true, leb-false, lt-ltb, ltb-true, eq-eqb, eqb-true}
use Rattle.laws.specs.Pick.{pick, pick_case, and_left, and_right, and_both}
use Rattle.laws.specs.And.{or_left, or_right, or_more}
use Rattle.codes.specs.Part.{Part, room_words}
use Rattle.codes.specs.Status.{on}
use Rattle.codes.specs.Instructions.{picks_lock}
use Rattle.latch.specs.Latches.{latched, next_cell, next_in_page, latch_fits}
use Rattle.latch.specs.declared.Latch.{Latch}
use Rattle.codes.specs.declared.Instruction.{Instruction}
use Rattle.codes.specs.declared.Instruction.TheVariants.{Wren, Wrdi, Rdsr, Wrsr, Read, Write, Rdid, Wrid, Silence}
use Rattle.latch.proofs.Fitting.{more_fits, cell_word, one_latched}
use Rattle.latch.proofs.Nexts.{picks_next}
use Rattle.edges.specs.declared.Frame.{Frame}
use Rattle.edges.specs.Frames.{with_byte, with_value, with_address}
use Rattle.edges.specs.Rising.{latch_byte, identification_data, taking}
use Rattle.codes.specs.Output.{outputs}
use Rattle.codes.proofs.Sound.{Sound}
use Rattle.codes.proofs.Starts.{page_in_memory}
use Rattle.edges.specs.Ranges.{address_fits, valued, latches, out_fits}
use Rattle.pins_theorems.proofs.Parts.{FieldsFit}

-- ---- what holds of n whole bytes holds of more

shown_more : (t a b c d : Bool) → (c ≡ true → d ≡ true) → pick t a (b && c) ≡ true → pick t a (b && d) ≡ true
unfolding pick
shown_more true a b c d h e = e
shown_more false a b c d h e = and_both b d (and_left b c e) (h (and_right b c e))

module _ (P : Part) (a n k : ℕ) (more : n ≤ k) where
  leb_more : (j : ℕ) → leb j n ≡ true → leb j k ≡ true
  leb_more j e = le-leb j k (omega (arith, leb-true j n e))

  -- a data byte of 82h
  past_more : (t : Bool) → (t && leb (P.address_bytes + 2) n) ≡ true → (t && leb (P.address_bytes + 2) k) ≡ true
  past_more t e =
      and_both t (leb (P.address_bytes + 2) k) (and_left t (leb (P.address_bytes + 2) n) e)
      (leb_more (P.address_bytes + 2) (and_right t (leb (P.address_bytes + 2) n) e))

  valued_more : (i : Instruction) → valued P i a n ≡ true → valued P i a k ≡ true
  valued_more Wren e = e
  valued_more Wrdi e = e
  valued_more Rdsr e = e
  valued_more Wrsr e = leb_more 2 e
  valued_more Read e = e
  valued_more Write e = e
  valued_more Rdid e = e
  valued_more Wrid e = past_more (picks_lock a) e
  valued_more Silence e = e

  latches_more : (i : Instruction) → latches P i a n ≡ true → latches P i a k ≡ true
  latches_more Wren e = e
  latches_more Wrdi e = e
  latches_more Rdsr e = e
  latches_more Wrsr e = e
  latches_more Read e = e
  latches_more Write e = leb_more (P.address_bytes + 2) e
  latches_more Rdid e = e
  latches_more Wrid e = past_more (not (picks_lock a)) e
  latches_more Silence e = e

  read_more : (ran : Bool) → (leb (P.address_bytes + 1) n && not ran) ≡ true → (leb (P.address_bytes + 1) k && not ran) ≡ true
  read_more ran e =
      and_both (leb (P.address_bytes + 1) k) (not ran) (leb_more (P.address_bytes + 1) (and_left (leb (P.address_bytes + 1) n) (not ran) e))
      (and_right (leb (P.address_bytes + 1) n) (not ran) e)

  outputs_more : (i : Instruction) (ran : Bool) → outputs P i n ran ≡ true → outputs P i k ran ≡ true
  outputs_more Wren ran e = e
  outputs_more Wrdi ran e = e
  outputs_more Rdsr ran e = leb_more 1 e
  outputs_more Wrsr ran e = e
  outputs_more Read ran e = read_more ran e
  outputs_more Write ran e = e
  outputs_more Rdid ran e = read_more ran e
  outputs_more Wrid ran e = e
  outputs_more Silence ran e = e

-- a latch that fits, fits where more may be marked
pub latch_more : (P : Part) (l : Latch) (a b : Bool) → (a ≡ true → b ≡ true) → latch_fits P a l ≡ true → latch_fits P b l ≡ true
latch_more P l a true h e = more_fits P a l e
latch_more P l true false h e = absurd (true≢false (sym (h refl)))
latch_more P l false false h e = e

-- ---- addresses

module _ (P : Part) (sound : Sound P) where
  pub next_below : (a : ℕ) → a < P.size → next_in_page P a < P.size
  next_below a h =
      let cell : next_cell P a < P.page = mod-lt _ sound.page_some in
      omega (arith, page_in_memory sound a h)

  none_bounded : (n : ℕ) → (ltb 0 P.size && eqb (0 % 256 ^ (P.address_bytes + 1 - n)) 0) ≡ true
  none_bounded n =
      and_both (ltb 0 P.size) (eqb (0 % 256 ^ (P.address_bytes + 1 - n)) 0) (lt-ltb 0 P.size sound.size_some)
      (eq-eqb _ _ (zero-mod (256 ^ (P.address_bytes + 1 - n))))

  -- an address 0 is inside its bounds at any count
  pub address_some : (i : Instruction) (n : ℕ) → address_fits P i n 0 ≡ true
  address_some Wren n = refl
  address_some Wrdi n = refl
  address_some Rdsr n = refl
  address_some Wrsr n = refl
  address_some Read n = none_bounded n
  address_some Write n = none_bounded n
  address_some Rdid n = none_bounded n
  address_some Wrid n = none_bounded n
  address_some Silence n = refl

-- the bounds of READ's and WRITE's address after n whole bytes
abbrev pub bounded : Part → ℕ → ℕ → Bool
bounded P n a = ltb a P.size && eqb (a % 256 ^ (P.address_bytes + 1 - n)) 0

pub bounded_below : (P : Part) (n a : ℕ) → bounded P n a ≡ true → a < P.size
bounded_below P n a e = ltb-true _ _ (and_left (ltb a P.size) (eqb (a % 256 ^ (P.address_bytes + 1 - n)) 0) e)

-- once all its bytes are in, every address below the size is inside
pub whole_bounded : (P : Part) (n a : ℕ) → P.address_bytes < n → a < P.size → bounded P n a ≡ true
whole_bounded P n a h k =
    let none : P.address_bytes + 1 - n ≡ 0 = omega arith in
    let rest : eqb (a % 256 ^ (P.address_bytes + 1 - n)) 0 ≡ true = rw none (eq-eqb _ _ (mod-one a)) in
    and_both (ltb a P.size) (eqb (a % 256 ^ (P.address_bytes + 1 - n)) 0) (lt-ltb a P.size k) rest

-- one more address byte, in its place
byte_bounded : (P : Part) (n k a v : ℕ) → 0 < P.size → 256 ^ (P.address_bytes - 1) ∣ P.size → 1 ≤ n → n ≤ P.address_bytes → k ≡ n + 1 → bounded P n a ≡ true
    → bounded P k ((a + v * 256 ^ (P.address_bytes - n)) % P.size) ≡ true
byte_bounded P n k a v some placed one few e h =
    let m = 256 ^ (P.address_bytes - n) in
    let sum : P.address_bytes - 1 ≡ P.address_bytes - n + (n - 1) = omega arith in
    let up : P.address_bytes + 1 - n ≡ P.address_bytes - n + 1 = omega arith in
    let at : P.address_bytes + 1 - k ≡ P.address_bytes - n = omega arith in
    let of_size : m ∣ P.size = dvd_trans _
    (subst (λ (x : ℕ). m ∣ x) (sym (ap (λ (x : ℕ). 256 ^ x) sum ∙ pow-add 256 (P.address_bytes - n) (n - 1))) (dvd-mul_right m (256 ^ (n - 1)))) placed in
    let old : 256 ^ (P.address_bytes + 1 - n) ∣ a = dvd_of_mod-eq-zero _
    (eqb-true _ _ (and_right (ltb a P.size) (eqb (a % 256 ^ (P.address_bytes + 1 - n)) 0) h)) in
    let of-a : m ∣ a = dvd_trans _ (subst (λ (x : ℕ). m ∣ x) (sym (ap (λ (x : ℕ). 256 ^ x) up ∙ pow-add 256 (P.address_bytes - n) 1))
    (dvd-mul_right m (256 ^ 1))) old in
    let of-sum : m ∣ a + v * m = dvd-add _ of-a (dvd-mul_left m v) in
    let zero_left : (a + v * m) % P.size % m ≡ 0 = mod-mod_of_dvd m (a + v * m) of_size ∙ mod-eq-zero_of_dvd m of-sum in
    and_both (ltb ((a + v * m) % P.size) P.size) (eqb ((a + v * m) % P.size % 256 ^ (P.address_bytes + 1 - k)) 0)
    (lt-ltb _ _ (mod-lt (a + v * m) some)) (rw at (eq-eqb _ _ zero_left))

-- ---- a later byte

module _ (P : Part) (sound : Sound P) (f : Frame) (v : ℕ) (one : 1 ≤ f.taken) (few : f.taken ≤ P.most) where
  abbrev next : ℕ
  next = min P.most (f.taken + 1)

  goes_up : f.taken ≤ next
  goes_up = omega arith

  up_value : (i : Instruction) → FieldsFit P i f → (valued P i f.address next || eqb f.value 0) ≡ true
  up_value i t =
      or_more (valued P i f.address f.taken) (eqb f.value 0) (valued P i f.address next) (valued_more P f.address f.taken next goes_up i)
      t.value

  up_out : (i : Instruction) → FieldsFit P i f → out_fits P i (with_byte P f) ≡ true
  up_out i t =
      shown_more (eqb f.shown 0) (eqb f.out 0) (leb f.shown 8) (outputs P i f.taken (on f.ran)) (outputs P i next (on f.ran))
      (outputs_more P f.address f.taken next goes_up i (on f.ran)) t.out

  up_latch : (i : Instruction) → FieldsFit P i f → latch_fits P (latches P i f.address next) f.latch ≡ true
  up_latch i t =
      latch_more P f.latch (latches P i f.address f.taken) (latches P i f.address next)
      (latches_more P f.address f.taken next goes_up i) t.latch

  -- a byte that leaves the address
  same_address : (i : Instruction) → address_fits P i next f.address ≡ true → FieldsFit P i f → FieldsFit P i (with_byte P f)
  same_address i h t = record { address = h; value = up_value i t; out = up_out i t; latch = up_latch i t }

  -- a byte that sets it: what is filled already may be filled there too
  at_address : (i : Instruction) (a : ℕ) → address_fits P i next a ≡ true
      → (valued P i f.address f.taken ≡ true → valued P i a next ≡ true) → (latches P i f.address f.taken ≡ true → latches P i a next ≡ true)
      → FieldsFit P i f → FieldsFit P i (with_address a (with_byte P f))
  at_address i a h v l t =
      record {
        address = h;
        value = or_more (valued P i f.address f.taken) (eqb f.value 0) (valued P i a next) v t.value;
        out = up_out i t;
        latch = latch_more P f.latch (latches P i f.address f.taken) (latches P i a next) l t.latch;
      }

  -- an address byte, and one that comes after them
  more_address : bounded P f.taken f.address ≡ true → f.taken ≤ P.address_bytes
      → bounded P next ((f.address + v * 256 ^ (P.address_bytes - f.taken)) % P.size) ≡ true
  more_address h k =
      let most : P.address_bytes + 3 ≤ P.most = sound.counted in
      byte_bounded P f.taken next f.address v sound.size_some sound.placed one k (omega arith) h

  past_address : bounded P f.taken f.address ≡ true → P.address_bytes < f.taken → bounded P next f.address ≡ true
  past_address h k = whole_bounded P next f.address (omega arith) (bounded_below P f.taken f.address h)

  -- the WRSR data byte
  value_fits_law : f.taken ≡ 1 → FieldsFit P Wrsr f → FieldsFit P Wrsr (with_value v (with_byte P f))
  value_fits_law n t =
      record {
        address = t.address;
        value = or_left (leb 2 next) (eqb v 0) (le-leb 2 next (omega (arith, sound.counted)));
        out = up_out Wrsr t;
        latch = up_latch Wrsr t;
      }

  -- a data byte that is latched
  latch_fits_law : (i : Instruction) → length f.latch.marks ≡ room_words → (valued P i (next_in_page P f.address) next || eqb f.value 0) ≡ true
      → latches P i (next_in_page P f.address) next ≡ true → address_fits P i next (next_in_page P f.address) ≡ true
      → FieldsFit P i f → FieldsFit P i (latch_byte P v (with_byte P f))
  latch_fits_law i sized value there address t =
      let cell : f.address % P.page < P.page = mod-lt f.address sound.page_some in
      record {
        address = address;
        value = value;
        out = up_out i t;
        latch =
            ap (λ (may : Bool). latch_fits P may (latched (f.address % P.page) v f.latch)) there
            ∙ one_latched P (f.address % P.page) v f.latch sound cell (rw sized (cell_word P sound (f.address % P.page) cell))
            (more_fits P (latches P i f.address f.taken) f.latch t.latch);
      }

  -- its address, and that the count reaches a data byte
  next_bounded : P.address_bytes < f.taken → bounded P f.taken f.address ≡ true → bounded P next (next_in_page P f.address) ≡ true
  next_bounded k h = whole_bounded P next _ (omega arith) (next_below P sound f.address (bounded_below P f.taken f.address h))

  data_next : P.address_bytes < f.taken → leb (P.address_bytes + 2) next ≡ true
  data_next k = le-leb (P.address_bytes + 2) next (omega (arith, sound.counted))

  -- no data byte of 82h is in before its address is
  no_data : (t : Bool) → f.taken ≤ P.address_bytes → (t && leb (P.address_bytes + 2) f.taken) ≡ true → ⊥
  no_data t k e =
      let h : P.address_bytes + 2 ≤ f.taken = leb-true _ _ (and_right t (leb (P.address_bytes + 2) f.taken) e) in
      omega arith

  wrid_data : length f.latch.marks ≡ room_words → P.address_bytes < f.taken → FieldsFit P Wrid f
      → FieldsFit P Wrid (identification_data P f.taken v (with_byte P f))
  wrid_data sized k t =
      pick_case (FieldsFit P Wrid) (picks_lock f.address)
      (λ p. pick_case (FieldsFit P Wrid) (eqb f.taken (P.address_bytes + 1))
      (λ e. record {
        address = past_address t.address k;
        value = or_left (picks_lock f.address && leb (P.address_bytes + 2) next) (eqb v 0) (and_both (picks_lock f.address) _ p (data_next k));
        out = up_out Wrid t;
        latch = up_latch Wrid t;
      })
      (λ e. same_address Wrid (past_address t.address k) t))
      (λ p.
      let still : picks_lock (next_in_page P f.address) ≡ false = picks_next sound f.address ∙ p in
      let none : eqb f.value 0 ≡ true = sym (ap (λ (b : Bool). b && leb (P.address_bytes + 2) f.taken || eqb f.value 0) p) ∙ t.value in
      latch_fits_law Wrid sized (or_right (valued P Wrid (next_in_page P f.address) next) (eqb f.value 0) none)
      (and_both (not (picks_lock (next_in_page P f.address))) _ (ap not still) (data_next k)) (next_bounded k t.address) t)

  pub taking_fits : length f.latch.marks ≡ room_words → (i : Instruction) → FieldsFit P i f → FieldsFit P i (taking P i f.taken v (with_byte P f))
  taking_fits sized Wren t = same_address Wren t.address t
  taking_fits sized Wrdi t = same_address Wrdi t.address t
  taking_fits sized Rdsr t = same_address Rdsr t.address t
  taking_fits sized Wrsr t =
      pick_case (FieldsFit P Wrsr) (eqb f.taken 1) (λ e. value_fits_law (eqb-true _ _ e) t) (λ e. same_address Wrsr t.address t)
  taking_fits sized Read t =
      pick_case (FieldsFit P Read) (leb f.taken P.address_bytes)
      (λ e. at_address Read _ (more_address t.address (leb-true _ _ e)) (λ h. h) (λ h. h) t)
      (λ e. same_address Read (past_address t.address (leb-false _ _ e)) t)
  taking_fits sized Write t =
      pick_case (FieldsFit P Write) (leb f.taken P.address_bytes)
      (λ e. at_address Write _ (more_address t.address (leb-true _ _ e)) (λ h. h) (leb_more P 0 f.taken next goes_up (P.address_bytes + 2)) t)
      (λ e. latch_fits_law Write sized t.value (data_next (leb-false _ _ e)) (next_bounded (leb-false _ _ e) t.address) t)
  taking_fits sized Rdid t =
      pick_case (FieldsFit P Rdid) (leb f.taken P.address_bytes)
      (λ e. at_address Rdid _ (more_address t.address (leb-true _ _ e)) (λ h. h) (λ h. h) t)
      (λ e. same_address Rdid (past_address t.address (leb-false _ _ e)) t)
  taking_fits sized Wrid t =
      pick_case (FieldsFit P Wrid) (leb f.taken P.address_bytes)
      (λ e. at_address Wrid _ (more_address t.address (leb-true _ _ e)) (λ h. absurd (no_data (picks_lock f.address) (leb-true _ _ e) h))
      (λ h. absurd (no_data (not (picks_lock f.address)) (leb-true _ _ e) h)) t)
      (λ e. wrid_data sized (leb-false _ _ e) t)
  taking_fits sized Silence t = same_address Silence t.address t
