-- What a byte of a frame leaves in each field of the frame part: by cases on the instruction. What the frame meets meanwhile goes by the byte.
use Prim.Native.Nat.{ℕ, suc, ◌+◌, ◌*◌, ◌%◌, ◌≤◌, min, ◌-◌, ◌^◌}
use mathlib.Core.Bool.{Bool, true, false, not, true≢false}
use mathlib.Core.List.{List, [], ◌∷◌}
use mathlib.Core.Path.{◌≡◌, refl, sym, ap, ap₂, ◌∙◌}
use lib.Dec.{eqb, leb}
use lib.ListN.{get_or}
use borrow.Author.Tests.{ne_eqb, le-leb, leb-true}
use native.Mathlib.Omega.{arith}
use Rattle.laws.specs.Pick.{pick, at_no, and_left, and_right, and_both}
use Rattle.codes.specs.Part.{Part}
use Rattle.codes.specs.Status.{bit, on}
use Rattle.latch.specs.Latches.{no_latch, latched, next_in_page}
use Rattle.latch.specs.Identification.{identification_byte, identification_next}
use Rattle.chip.specs.Lents.{Lent}
use Rattle.chip.specs.Records.{status, lock_byte}
use Rattle.codes.specs.Instructions.{decode, picks_lock}
use Rattle.chip.specs.declared.Core.{Core}
use Rattle.latch.specs.declared.Latch.{Latch}
use Rattle.codes.specs.declared.Instruction.{Instruction}
use Rattle.codes.specs.declared.Instruction.TheVariants.{Wren, Wrdi, Rdsr, Wrsr, Read, Write, Rdid, Wrid, Silence}
use Rattle.edges.specs.declared.Frame.{Frame}
use Rattle.edges.specs.Frames.{no_frame, with_bits, with_out}
use Rattle.edges.specs.Rising.{whole_byte, taking}
use Rattle.edges.specs.Falling.{fallen, loading}
use Rattle.codes.specs.Output.{outputs}
use Rattle.codes.proofs.Sound.{Sound}
use Rattle.laws.specs.Flags.{on_bit}
use Rattle.agree.proofs.Facts.{min_eqb, min_next}

-- bits shown once k bits of a byte are taken, in data output and outside it
abbrev pub shown_at : Bool → ℕ → ℕ
shown_at true k = suc k
shown_at false k = 0

-- a frame part with k bits of a byte taken, of the values a
abbrev pub mid_byte : Bool → ℕ → ℕ → Frame → Frame
mid_byte b k a f = with_out f.out (shown_at b k) (with_bits k a f)

-- ---- what a byte u does to each field, n whole bytes before it

abbrev pub address_of : Part → Instruction → ℕ → ℕ → ℕ → ℕ
address_of P Wren n u a = a
address_of P Wrdi n u a = a
address_of P Rdsr n u a = a
address_of P Wrsr n u a = a
address_of P Read n u a = pick (leb n P.address_bytes) ((a + u * 256 ^ (P.address_bytes - n)) % P.size) a
address_of P Write n u a = pick (leb n P.address_bytes) ((a + u * 256 ^ (P.address_bytes - n)) % P.size) (next_in_page P a)
address_of P Rdid n u a = pick (leb n P.address_bytes) ((a + u * 256 ^ (P.address_bytes - n)) % P.size) a
address_of P Wrid n u a =
    pick (leb n P.address_bytes) ((a + u * 256 ^ (P.address_bytes - n)) % P.size) (pick (picks_lock a) a (next_in_page P a))
address_of P Silence n u a = a

abbrev pub value_of : Part → Instruction → ℕ → ℕ → ℕ → ℕ → ℕ
value_of P Wren n u a x = x
value_of P Wrdi n u a x = x
value_of P Rdsr n u a x = x
value_of P Wrsr n u a x = pick (eqb n 1) u x
value_of P Read n u a x = x
value_of P Write n u a x = x
value_of P Rdid n u a x = x
value_of P Wrid n u a x = pick (leb n P.address_bytes) x (pick (picks_lock a) (pick (eqb n (P.address_bytes + 1)) u x) x)
value_of P Silence n u a x = x

abbrev pub latch_of : Part → Instruction → ℕ → ℕ → ℕ → Latch → Latch
latch_of P Wren n u a l = l
latch_of P Wrdi n u a l = l
latch_of P Rdsr n u a l = l
latch_of P Wrsr n u a l = l
latch_of P Read n u a l = l
latch_of P Write n u a l = pick (leb n P.address_bytes) l (latched (a % P.page) u l)
latch_of P Rdid n u a l = l
latch_of P Wrid n u a l = pick (leb n P.address_bytes) l (pick (picks_lock a) l (latched (a % P.page) u l))
latch_of P Silence n u a l = l

-- what is loaded at a byte's start, and the address after it
abbrev pub out_of : Part → Lent → Core → Instruction → ℕ → ℕ → ℕ
out_of P m c Wren a o = o
out_of P m c Wrdi a o = o
out_of P m c Rdsr a o = status c
out_of P m c Wrsr a o = o
out_of P m c Read a o = get_or m.memory a 0
out_of P m c Write a o = o
out_of P m c Rdid a o = identification_byte P (lock_byte c) m.identification a
out_of P m c Wrid a o = o
out_of P m c Silence a o = o

abbrev pub past_of : Part → Instruction → ℕ → ℕ
past_of P Wren a = a
past_of P Wrdi a = a
past_of P Rdsr a = a
past_of P Wrsr a = a
past_of P Read a = (a + 1) % P.size
past_of P Write a = a
past_of P Rdid a = identification_next P a
past_of P Wrid a = a
past_of P Silence a = a

-- what a frame meets while it is clocked in: whether a cycle runs as byte j is whole; the record and the lent cells that byte j is loaded from
pub record Course : Type 0 where
  pub runs : ℕ → Bool
  pub core : ℕ → Core
  pub lent : ℕ → Lent

-- where no cycle ran at the eighth edge, the cells and the lock are the same for every data byte: none can end
pub record Still (T : Course) (m : Lent) (k : ℕ) : Type 0 where
  pub cells : T.runs 0 ≡ false → (j : ℕ) → 1 ≤ j → T.lent j ≡ m
  pub lock : T.runs 0 ≡ false → (j : ℕ) → 1 ≤ j → lock_byte (T.core j) ≡ k

module _ (P : Part) (sound : Sound P) (T : Course) where
  -- the byte v, j whole bytes before it, from its start in data output (b) or outside it
  unfoldable pub step_byte : ℕ → Bool → ℕ → Frame → Frame
  step_byte j b v f = fallen P (T.lent (suc j)) (T.core (suc j)) (whole_byte P (T.runs j) v (mid_byte b 7 0 f))

  -- at a byte's start, with t whole bytes taken, the first of them v
  abbrev byte_start : ℕ → ℕ → ℕ → ℕ → ℕ → ℕ → Latch → Frame
  byte_start t v a x o z l =
      record {
        taken = t;
        bits = 0;
        partial = 0;
        code = v;
        ran = bit (T.runs 0);
        value = x;
        out = o;
        shown = z;
        address = a;
        latch = l;
      }

  -- after j whole bytes: their count stays at the part's most
  abbrev pub after_bytes : ℕ → ℕ → ℕ → ℕ → ℕ → ℕ → Latch → Frame
  after_bytes v j a x o z l = byte_start (min P.most j) v a x o z l

  -- in data output after j whole bytes
  abbrev pub drives : Instruction → ℕ → Bool
  drives i j = outputs P i (min P.most j) (T.runs 0)

  -- .. and the falling edge after them, which loads what is put out
  abbrev pub after_fall : Instruction → ℕ → ℕ → ℕ → ℕ → ℕ → Latch → Frame
  after_fall i v j a x o l =
      let t = drives i j in
      after_bytes v j (pick t (past_of P i a) a) x (pick t (out_of P (T.lent j) (T.core j) i a o) o) (shown_at t 0) l

  -- data output lasts
  read_on : (j : ℕ) → drives Read j ≡ true → drives Read (suc j) ≡ true
  read_on j e =
      let h : P.address_bytes + 1 ≤ min P.most j = leb-true _ _ (and_left (leb (P.address_bytes + 1) (min P.most j)) (not (T.runs 0)) e) in
      and_both (leb (P.address_bytes + 1) (min P.most (suc j))) (not (T.runs 0))
      (le-leb (P.address_bytes + 1) (min P.most (suc j)) (omega (arith, sound.counted)))
      (and_right (leb (P.address_bytes + 1) (min P.most j)) (not (T.runs 0)) e)

  pub drives_on : (i : Instruction) (j : ℕ) → drives i j ≡ true → drives i (suc j) ≡ true
  drives_on Wren j e = e
  drives_on Wrdi j e = e
  drives_on Rdsr j e = let h : 1 ≤ min P.most j = leb-true _ _ e in le-leb 1 (min P.most (suc j)) (omega (arith, sound.counted))
  drives_on Wrsr j e = e
  drives_on Read j e = read_on j e
  drives_on Write j e = e
  drives_on Rdid j e = read_on j e
  drives_on Wrid j e = e
  drives_on Silence j e = e

  -- an address byte, or none
  addressed : (t : Bool) (v j a₁ a x o z : ℕ) (l : Latch)
      → pick t (after_bytes v j a₁ x o z l) (after_bytes v j a x o z l) ≡ after_bytes v j (pick t a₁ a) x o z l
  unfolding pick
  addressed true v j a₁ a x o z l = refl
  addressed false v j a₁ a x o z l = refl

  -- the fields, set
  taking_is : (i : Instruction) (n u v j a x o z : ℕ) (l : Latch)
      → taking P i n u (after_bytes v j a x o z l) ≡ after_bytes v j (address_of P i n u a) (value_of P i n u a x) o z (latch_of P i n u a l)
  unfolding pick
  taking_is Wren n u v j a x o z l = refl
  taking_is Wrdi n u v j a x o z l = refl
  taking_is Rdsr n u v j a x o z l = refl
  taking_is Wrsr n u v j a x o z l = either (eqb n 1)
    where
      either : (t : Bool) → pick t (after_bytes v j a u o z l) (after_bytes v j a x o z l) ≡ after_bytes v j a (pick t u x) o z l
      either true = refl
      either false = refl
  taking_is Read n u v j a x o z l = addressed (leb n P.address_bytes) v j _ a x o z l
  taking_is Write n u v j a x o z l = either (leb n P.address_bytes)
    where
      a₁ : ℕ
      a₁ = (a + u * 256 ^ (P.address_bytes - n)) % P.size

      l₂ : Latch
      l₂ = latched (a % P.page) u l

      either : (t : Bool) → pick t (after_bytes v j a₁ x o z l) (after_bytes v j (next_in_page P a) x o z l₂)
          ≡ after_bytes v j (pick t a₁ (next_in_page P a)) x o z (pick t l l₂)
      either true = refl
      either false = refl
  taking_is Rdid n u v j a x o z l = addressed (leb n P.address_bytes) v j _ a x o z l
  taking_is Wrid n u v j a x o z l = either (leb n P.address_bytes) (picks_lock a) (eqb n (P.address_bytes + 1))
    where
      a₁ : ℕ
      a₁ = (a + u * 256 ^ (P.address_bytes - n)) % P.size

      l₂ : Latch
      l₂ = latched (a % P.page) u l

      either : (t p d : Bool)
          → pick t (after_bytes v j a₁ x o z l)
          (pick p (pick d (after_bytes v j a u o z l) (after_bytes v j a x o z l)) (after_bytes v j (next_in_page P a) x o z l₂))
          ≡ after_bytes v j (pick t a₁ (pick p a (next_in_page P a))) (pick t x (pick p (pick d u x) x)) o z (pick t l (pick p l l₂))
      either true p d = refl
      either false true true = refl
      either false true false = refl
      either false false d = refl
  taking_is Silence n u v j a x o z l = refl

  -- ---- a byte's start; b: in data output before it

  -- outside data output nothing shows
  none_shown : (b : Bool) (v j a x o : ℕ) (l : Latch) → (b ≡ true → false ≡ true) → after_bytes v j a x o (shown_at b 7) l ≡ after_bytes v j a x o 0 l
  none_shown true v j a x o l h = absurd (true≢false (sym (h refl)))
  none_shown false v j a x o l h = refl

  -- in it the byte y is loaded, and the address after it is d
  starts_load : (t b : Bool) (v j a d x y o : ℕ) (l : Latch) → (b ≡ true → t ≡ true)
      → pick t (after_bytes v j d x y 1 l) (after_bytes v j a x o (shown_at b 7) l) ≡ after_bytes v j (pick t d a) x (pick t y o) (shown_at t 0) l
  unfolding pick
  starts_load true b v j a d x y o l h = refl
  starts_load false b v j a d x y o l h = none_shown b v j a x o l h

  starts : (i : Instruction) (b : Bool) (v j a x o : ℕ) (l : Latch) → (b ≡ true → drives i j ≡ true)
      → let f = after_bytes v j a x o (shown_at b 7) l in
      pick (drives i j) (loading P (T.lent j) (T.core j) i f) f ≡ after_fall i v j a x o l
  unfolding pick
  starts Wren b v j a x o l h = none_shown b v j a x o l h
  starts Wrdi b v j a x o l h = none_shown b v j a x o l h
  starts Rdsr b v j a x o l h = starts_load (drives Rdsr j) b v j a a x (status (T.core j)) o l h
  starts Wrsr b v j a x o l h = none_shown b v j a x o l h
  starts Read b v j a x o l h = starts_load (drives Read j) b v j a (past_of P Read a) x (out_of P (T.lent j) (T.core j) Read a o) o l h
  starts Write b v j a x o l h = none_shown b v j a x o l h
  starts Rdid b v j a x o l h = starts_load (drives Rdid j) b v j a (past_of P Rdid a) x (out_of P (T.lent j) (T.core j) Rdid a o) o l h
  starts Wrid b v j a x o l h = none_shown b v j a x o l h
  starts Silence b v j a x o l h = none_shown b v j a x o l h

  -- the edge that follows a whole byte loads, or does nothing
  fall_as : (i : Instruction) (b : Bool) (v j a x o : ℕ) (l : Latch) → decode P v ≡ i
      → let f = after_bytes v j a x o (shown_at b 7) l in
      pick (outputs P (decode P v) (min P.most j) (on (bit (T.runs 0)))) (loading P (T.lent j) (T.core j) (decode P v) f) f
      ≡ pick (drives i j) (loading P (T.lent j) (T.core j) i f) f
  fall_as i b v j a x o l e =
      let f = after_bytes v j a x o (shown_at b 7) l in
      ap (λ k. pick (outputs P k (min P.most j) (on (bit (T.runs 0)))) (loading P (T.lent j) (T.core j) k f) f) e
      ∙ ap (λ r. pick (outputs P i (min P.most j) r) (loading P (T.lent j) (T.core j) i f) f) (on_bit (T.runs 0))

  fall_starts : (i : Instruction) (b : Bool) (v j a x o : ℕ) (l : Latch) → decode P v ≡ i → (b ≡ true → drives i j ≡ true)
      → fallen P (T.lent j) (T.core j) (after_bytes v j a x o (shown_at b 7) l) ≡ after_fall i v j a x o l
  unfolding fallen pick
  fall_starts i true v j a x o l e h = fall_as i true v j a x o l e ∙ starts i true v j a x o l h
  fall_starts i false v j a x o l e h = fall_as i false v j a x o l e ∙ starts i false v j a x o l h

  pub first_is : (i : Instruction) (v : ℕ) → decode P v ≡ i → step_byte 0 false v no_frame ≡ after_fall i v 1 0 0 0 no_latch
  unfolding step_byte whole_byte pick
  first_is i v e = fall_starts i false v 1 0 0 0 no_latch e (λ q. absurd (true≢false (sym q)))

  pub step_is : (i : Instruction) (u v j a x o z : ℕ) (l : Latch) → decode P v ≡ i → 1 ≤ j
      → let n = min P.most j in
      step_byte j (drives i j) u (after_bytes v j a x o z l) ≡ after_fall i v (suc j) (address_of P i n u a) (value_of P i n u a x) o (latch_of P i n u a l)
  unfolding step_byte whole_byte
  step_is i u v j a x o z l e k =
      let n = min P.most j in
      let b = drives i j in
      let some : eqb n 0 ≡ false = min_eqb P.most j 0 (omega (arith, sound.counted)) ∙ ne_eqb j 0 (λ q. omega arith) in
      ap (fallen P (T.lent (suc j)) (T.core (suc j))) (at_no _ _ some
      ∙ ap (λ t. taking P (decode P v) n u (byte_start t v a x o (shown_at b 7) l)) (min_next P.most j)
      ∙ ap (λ d. taking P d n u (after_bytes v (suc j) a x o (shown_at b 7) l)) e
      ∙ taking_is i n u v (suc j) a x o (shown_at b 7) l)
      ∙ fall_starts i b v (suc j) (address_of P i n u a) (value_of P i n u a x) o (latch_of P i n u a l) e (drives_on i j)

  -- ---- a frame, byte by byte; j: how many whole bytes there were before

  -- in data output
  abbrev pub drives_of : Frame → Bool
  drives_of f = outputs P (decode P f.code) f.taken (on f.ran)

  pub drives_bytes : (i : Instruction) (v j a x o z : ℕ) (l : Latch) → decode P v ≡ i → drives_of (after_bytes v j a x o z l) ≡ drives i j
  drives_bytes i v j a x o z l e = ap₂ (λ d r. outputs P d (min P.most j) r) e (on_bit (T.runs 0))

  unfoldable pub step : ℕ → ℕ → Frame → Frame
  step j v f = step_byte j (drives_of f) v f

  unfoldable pub bytes_seen : (Bool → Frame → ℕ) → ℕ → Frame → List ℕ → List ℕ
  bytes_seen over j f [] = []
  bytes_seen over j f (v ∷ vs) = over (drives_of f) f ∷ bytes_seen over (suc j) (step j v f) vs

  unfoldable pub bytes_end : ℕ → Frame → List ℕ → Frame
  bytes_end j f [] = f
  bytes_end j f (v ∷ vs) = bytes_end (suc j) (step j v f) vs

  pub step_first : (i : Instruction) (v : ℕ) → decode P v ≡ i → step 0 v no_frame ≡ after_fall i v 1 0 0 0 no_latch
  unfolding step decode pick
  step_first i v e = first_is i v e

  pub step_more : (i : Instruction) (u v j a x o z : ℕ) (l : Latch) → decode P v ≡ i → 1 ≤ j
      → let n = min P.most j in
      step j u (after_bytes v j a x o z l) ≡ after_fall i v (suc j) (address_of P i n u a) (value_of P i n u a x) o (latch_of P i n u a l)
  unfolding step
  step_more i u v j a x o z l e k =
      ap (λ b. step_byte j b u (after_bytes v j a x o z l)) (drives_bytes i v j a x o z l e)
      ∙ step_is i u v j a x o z l e k
