-- The frame stays inside its ranges over a counted rising edge and an unheld falling edge; and the empty frame is inside them.
use mathlib.Core.Path.{◌≡◌, refl, ap, sym, ◌∙◌, subst}
use mathlib.Core.List.{List}
use mathlib.Core.Bool.{Bool, true, false, not, ◌&&◌, true≢false}
use Prim.Native.Nat.{ℕ, ◌+◌, ◌*◌, ◌%◌, ◌^◌, ◌<◌, ◌≤◌, min}
use native.Mathlib.Nat.{mod-lt, mod-le, two-pow-succ}
use native.Mathlib.Numerals.{add-one}
use native.Mathlib.Omega.{arith}
use lib.ListN.{length, get_or}
use lib.Dec.{eqb, leb, ltb}
use borrow.Author.Tests.{le-leb, leb-true, ltb-true, eq-eqb, eqb-true, eqb-false, ne_eqb}
use Rattle.laws.specs.Pick.{pick, at_yes, at_no, pick_case, and_left, and_right, and_both}
use Rattle.laws.specs.And.{or_right}
use Rattle.codes.specs.Part.{Part, room_words}
use Rattle.codes.specs.Status.{bit, on}
use Rattle.chip.specs.Lents.{Lent}
use Rattle.chip.specs.Records.{status, lock_byte}
use Rattle.codes.specs.Instructions.{decode, picks_lock}
use Rattle.latch.specs.Identification.{identification_byte, identification_next}
use Rattle.latch.specs.Latches.{latch_fits, no_latch}
use Rattle.chip.specs.declared.Core.{Core}
use Rattle.codes.specs.declared.Instruction.{Instruction}
use Rattle.codes.specs.declared.Instruction.TheVariants.{Wren, Wrdi, Rdsr, Wrsr, Read, Write, Rdid, Wrid, Silence}
use Rattle.latch.proofs.Fitting.{none_latched}
use Rattle.edges.specs.declared.Frame.{Frame}
use Rattle.edges.specs.Frames.{no_frame, with_bits, with_byte, with_code, with_out}
use Rattle.edges.specs.Rising.{shifted_in, taking, whole_byte, risen}
use Rattle.codes.specs.Output.{outputs}
use Rattle.edges.specs.Falling.{loading, fallen}
use Rattle.edges.specs.Ranges.{valued, latches, code_fits}
use Rattle.pins_theorems.proofs.Parts.{FieldsFit, FrameFits}
use Rattle.laws.specs.Flags.{bit_small}
use Rattle.codes.proofs.Sound.{Sound}
use Rattle.pins_theorems.proofs.Untouched.{taking_same, loading_same}
use Rattle.pins_theorems.proofs.Fields.{latch_more, address_some, whole_bounded, bounded_below, next_below, taking_fits}

-- ---- before the first whole byte

no_code : (P : Part) → decode P 0 ≡ Silence
unfolding decode pick
no_code P = refl

pub no_latch_fits : (P : Part) → latch_fits P false no_latch ≡ true
no_latch_fits P = none_latched P false

pub empty_frame : (P : Part) → FrameFits P no_frame
unfolding pick
empty_frame P =
    record {
      taken = omega arith;
      bits = omega arith;
      partial = omega arith;
      code = refl;
      fields =
          subst (λ (i : Instruction). FieldsFit P i no_frame) (sym (no_code P))
          (record { address = refl; value = refl; out = refl; latch = no_latch_fits P });
    }

-- the fields of a frame with no whole byte are those of silence
pub silent : (P : Part) (f : Frame) → f.taken ≡ 0 → FrameFits P f → FieldsFit P Silence f
silent P f z t =
    let none : f.code ≡ 0 = eqb-true _ _ (and_left (eqb f.code 0) (eqb f.ran 0) (sym (at_yes _ _ (eq-eqb _ _ z)) ∙ t.code)) in
    subst (λ (i : Instruction). FieldsFit P i f) (ap (decode P) none ∙ no_code P) t.fields

-- no bit shows, and the output byte reads 0
none_shows : (s a b : Bool) → pick s a (b && false) ≡ true → (s ≡ true) × (a ≡ true)
unfolding pick
none_shows true a b e = (refl, e)
none_shows false a b e = absurd (true≢false (sym (and_right b false e)))

-- ---- a whole byte

module _ (P : Part) (sound : Sound P) (f : Frame) (v : ℕ) (byte : v < 256) (t : FrameFits P f) where
  first_fits : (run : Bool) → f.taken ≡ 0 → FrameFits P (with_code v run (with_byte P f))
  first_fits run z =
      let most : P.address_bytes + 3 ≤ P.most = sound.counted in
      let s = silent P f z t in
      let shows = none_shows (eqb f.shown 0) (eqb f.out 0) (leb f.shown 8) s.out in
      let a : f.address ≡ 0 = eqb-true _ _ s.address in
      let next = min P.most (f.taken + 1) in
      record {
        taken = omega arith;
        bits = omega arith;
        partial = omega arith;
        code = at_no _ _ (ne_eqb next 0 (λ e. omega arith)) ∙ le-leb _ _ (bit_small run);
        fields =
            record {
              address = rw a (address_some P sound (decode P v) next);
              value = or_right (valued P (decode P v) f.address next) (eqb f.value 0) s.value;
              out = at_yes _ _ shows.0 ∙ shows.1;
              latch = latch_more P f.latch false (latches P (decode P v) f.address next) (λ e. absurd (true≢false (sym e))) s.latch;
            };
      }

  later_fits : length f.latch.marks ≡ room_words → (f.taken ≡ 0 → ⊥) → FrameFits P (taking P (decode P f.code) f.taken v (with_byte P f))
  later_fits sized z =
      let most : P.address_bytes + 3 ≤ P.most = sound.counted in
      let i = decode P f.code in
      let g : Frame = taking P i f.taken v (with_byte P f) in
      let same = taking_same P f.taken v (with_byte P f) i in
      let n : g.taken ≡ min P.most (f.taken + 1) = ap (λ (h : Frame). h.taken) same in
      let b : g.bits ≡ 0 = ap (λ (h : Frame). h.bits) same in
      let p : g.partial ≡ 0 = ap (λ (h : Frame). h.partial) same in
      let c : g.code ≡ f.code = ap (λ (h : Frame). h.code) same in
      let r : g.ran ≡ f.ran = ap (λ (h : Frame). h.ran) same in
      let ran : leb f.ran 1 ≡ true = sym (at_no _ _ (ne_eqb _ _ z)) ∙ t.code in
      record {
        taken = omega arith;
        bits = omega arith;
        partial = rw (p, b) (omega arith);
        code = at_no _ _ (ne_eqb g.taken 0 (λ e. omega arith)) ∙ ap (λ (k : ℕ). leb k 1) r ∙ ran;
        fields = subst (λ (j : Instruction). FieldsFit P j g) (ap (decode P) (sym c)) (taking_fits P sound f v (omega arith) t.taken sized i t.fields);
      }

  byte_fits_law : (run : Bool) → length f.latch.marks ≡ room_words → FrameFits P (whole_byte P run v f)
  unfolding whole_byte
  byte_fits_law run sized =
      pick_case (FrameFits P) (eqb f.taken 0) (λ e. first_fits run (eqb-true _ _ e)) (λ e. later_fits sized (eqb-false _ _ e))

-- ---- the rising edge

module _ (P : Part) (sound : Sound P) (run : Bool) (d : ℕ) (f : Frame) (sized : length f.latch.marks ≡ room_words) (t : FrameFits P f) where
  bit_fits : f.bits < 7 → FrameFits P (with_bits (f.bits + 1) (shifted_in f.partial d) f)
  bit_fits h =
      let old : f.partial < 2 ^ f.bits = t.partial in
      let pow : 2 ^ (f.bits + 1) ≡ 2 ^ f.bits + 2 ^ f.bits = ap (λ (n : ℕ). 2 ^ n) (add-one f.bits) ∙ two-pow-succ f.bits in
      let all : shifted_in f.partial d ≤ 2 * f.partial + bit (on d) = mod-le _ 256 in
      record {
        taken = t.taken;
        bits = omega arith;
        partial = omega (arith, bit_small (on d));
        code = t.code;
        fields = record { address = t.fields.address; value = t.fields.value; out = t.fields.out; latch = t.fields.latch };
      }

  pub risen_fits : FrameFits P (risen P run d f)
  unfolding risen
  risen_fits =
      pick_case (FrameFits P) (ltb f.bits 7) (λ e. bit_fits (ltb-true _ _ e))
      (λ e. byte_fits_law P sound f (shifted_in f.partial d) (mod-lt _ (omega arith)) t run sized)

-- ---- the falling edge

module _ (P : Part) (sound : Sound P) (m : Lent) (c : Core) (f : Frame) where
  -- n bits of the byte v show
  out_fits_law : (i : Instruction) (v n : ℕ) → (n ≡ 0 → ⊥) → n ≤ 8 → outputs P i f.taken (on f.ran) ≡ true → FieldsFit P i f → FieldsFit P i (with_out v n f)
  out_fits_law i v n z h o t =
      record {
        address = t.address;
        value = t.value;
        out = at_no _ _ (ne_eqb n 0 z) ∙ and_both (leb n 8) (outputs P i f.taken (on f.ran)) (le-leb n 8 h) o;
        latch = t.latch;
      }

  loading_fits : (i : Instruction) → outputs P i f.taken (on f.ran) ≡ true → FieldsFit P i f → FieldsFit P i (loading P m c i f)
  loading_fits Wren o t = t
  loading_fits Wrdi o t = t
  loading_fits Rdsr o t = out_fits_law Rdsr (status c) 1 (λ e. omega arith) (omega arith) o t
  loading_fits Wrsr o t = t
  loading_fits Read o t =
      let past : P.address_bytes + 1 ≤ f.taken = leb-true _ _ (and_left (leb (P.address_bytes + 1) f.taken) (not (on f.ran)) o) in
      let new : (f.address + 1) % P.size < P.size = mod-lt _ sound.size_some in
      let u = out_fits_law Read (get_or m.memory f.address 0) 1 (λ e. omega arith) (omega arith) o t in
      record { address = whole_bounded P f.taken _ (omega arith) new; value = u.value; out = u.out; latch = u.latch }
  loading_fits Write o t = t
  loading_fits Rdid o t =
      let past : P.address_bytes + 1 ≤ f.taken = leb-true _ _ (and_left (leb (P.address_bytes + 1) f.taken) (not (on f.ran)) o) in
      let old : f.address < P.size = bounded_below P f.taken f.address t.address in
      let new : identification_next P f.address < P.size =
      pick_case (λ (n : ℕ). n < P.size) (picks_lock f.address) (λ k. old) (λ k. next_below P sound f.address old) in
      let u = out_fits_law Rdid (identification_byte P (lock_byte c) m.identification f.address) 1 (λ e. omega arith) (omega arith) o t in
      record { address = whole_bounded P f.taken _ (omega arith) new; value = u.value; out = u.out; latch = u.latch }
  loading_fits Wrid o t = t
  loading_fits Silence o t = t

  loaded_fits : outputs P (decode P f.code) f.taken (on f.ran) ≡ true → FrameFits P f → FrameFits P (loading P m c (decode P f.code) f)
  loaded_fits o t =
      let i = decode P f.code in
      let g : Frame = loading P m c i f in
      let same = loading_same P m c f i in
      let n : g.taken ≡ f.taken = ap (λ (h : Frame). h.taken) same in
      let b : g.bits ≡ f.bits = ap (λ (h : Frame). h.bits) same in
      let p : g.partial ≡ f.partial = ap (λ (h : Frame). h.partial) same in
      let k : g.code ≡ f.code = ap (λ (h : Frame). h.code) same in
      record {
        taken = rw n t.taken;
        bits = rw b t.bits;
        partial = rw (p, b) t.partial;
        code = ap code_fits same ∙ t.code;
        fields = subst (λ (j : Instruction). FieldsFit P j g) (ap (decode P) (sym k)) (loading_fits i o t.fields);
      }

  pub fallen_fits : FrameFits P f → FrameFits P (fallen P m c f)
  unfolding fallen
  fallen_fits t =
      pick_case (FrameFits P) (outputs P (decode P f.code) f.taken (on f.ran))
      (λ o. pick_case (FrameFits P) (leb 1 f.shown && ltb f.shown 8)
      (λ e.
      let some : 1 ≤ f.shown = leb-true _ _ (and_left (leb 1 f.shown) (ltb f.shown 8) e) in
      let few : f.shown < 8 = ltb-true _ _ (and_right (leb 1 f.shown) (ltb f.shown 8) e) in
      record {
        taken =
            t.taken;
        bits =
            t.bits;
        partial =
            t.partial;
        code = t.code;
        fields = out_fits_law (decode P f.code) f.out (f.shown + 1) (λ z. omega arith) (omega arith) o t.fields;
      })
      (λ e. loaded_fits o t))
      (λ o. t)
