-- Inside the ranges: what the test of a device says, part by part, and back.
use mathlib.Core.Path.{◌≡◌}
use mathlib.Core.Bool.{true, ◌||◌}
use Prim.Native.Nat.{◌^◌, ◌<◌, ◌≤◌}
use lib.Dec.{eqb, leb, ltb}
use borrow.Author.Tests.{le-leb, leb-true, lt-ltb, ltb-true}
use Rattle.laws.specs.Pick.{and_left, and_right, and_both}
use Rattle.laws.specs.And.{and_3_out, and_3_in, and_4_out, and_4_in, and_6_out, and_6_in}
use Rattle.codes.specs.Part.{Part}
use Rattle.codes.specs.Instructions.{decode}
use Rattle.latch.specs.Latches.{latch_fits}
use Rattle.codes.specs.declared.Instruction.{Instruction}
use Rattle.edges.specs.declared.Frame.{Frame}
use Rattle.edges.specs.Ranges.{partial_fits, counts_fit, code_fits, address_fits, valued, latches, out_fits, fields_fit, frame_fits}
use Rattle.chip.specs.Ranges.{in_ranges}
use Rattle.chip.proofs.Within.{Within, within, in_ranges_law}
use Rattle.pins.specs.declared.Device.{Device}
use Rattle.pins.specs.Ranges.{pins_fit, held_fits, empty_fits, ran_fits, device_fits}

-- the fields that the instruction i fills
pub record FieldsFit (P : Part) (i : Instruction) (f : Frame) : Type 0 where
  pub address : address_fits P i f.taken f.address ≡ true
  pub value : (valued P i f.address f.taken || eqb f.value 0) ≡ true
  pub out : out_fits P i f ≡ true
  pub latch : latch_fits P (latches P i f.address f.taken) f.latch ≡ true

pub record FrameFits (P : Part) (f : Frame) : Type 0 where
  pub taken : f.taken ≤ P.most
  pub bits : f.bits ≤ 7
  pub partial : f.partial < 2 ^ f.bits
  pub code : code_fits f ≡ true
  pub fields : FieldsFit P (decode P f.code) f

pub record Fits (P : Part) (x : Device) : Type 0 where
  pub pins : pins_fit x.pins ≡ true
  pub held : held_fits x.pins x.held ≡ true
  pub frame : FrameFits P x.frame
  pub empty : empty_fits x ≡ true
  pub ran : ran_fits x ≡ true
  pub core : Within P x.core

module _ (P : Part) (i : Instruction) (f : Frame) where
  fields_out : fields_fit P i f ≡ true → FieldsFit P i f
  fields_out e =
      let t = and_4_out (address_fits P i f.taken f.address) (valued P i f.address f.taken || eqb f.value 0) (out_fits P i f)
      (latch_fits P (latches P i f.address f.taken) f.latch) e in
      record { address = t.0; value = t.1.0; out = t.1.1.0; latch = t.1.1.1 }

  fields_in : FieldsFit P i f → fields_fit P i f ≡ true
  fields_in t =
      and_4_in (address_fits P i f.taken f.address) (valued P i f.address f.taken || eqb f.value 0) (out_fits P i f)
      (latch_fits P (latches P i f.address f.taken) f.latch)
      t.address t.value t.out t.latch

module _ (P : Part) (f : Frame) where
  pub frame_out : frame_fits P f ≡ true → FrameFits P f
  frame_out e =
      let t = and_3_out (counts_fit P f) (code_fits f) (fields_fit P (decode P f.code) f) e in
      let n = and_right (leb f.taken P.most) (partial_fits f.bits f.partial) t.0 in
      record {
        taken = leb-true _ _ (and_left (leb f.taken P.most) (partial_fits f.bits f.partial) t.0);
        bits = leb-true _ _ (and_left (leb f.bits 7) (ltb f.partial (2 ^ f.bits)) n);
        partial = ltb-true _ _ (and_right (leb f.bits 7) (ltb f.partial (2 ^ f.bits)) n);
        code = t.1.0;
        fields = fields_out P (decode P f.code) f t.1.1;
      }

  pub frame_in : FrameFits P f → frame_fits P f ≡ true
  frame_in t =
      and_3_in (counts_fit P f) (code_fits f) (fields_fit P (decode P f.code) f)
      (and_both (leb f.taken P.most) (partial_fits f.bits f.partial) (le-leb _ _ t.taken)
      (and_both (leb f.bits 7) (ltb f.partial (2 ^ f.bits)) (le-leb _ _ t.bits) (lt-ltb _ _ t.partial)))
      t.code (fields_in P (decode P f.code) f t.fields)

module _ (P : Part) (x : Device) where
  pub parts : device_fits P x ≡ true → Fits P x
  unfolding device_fits
  parts e =
      let t = and_6_out (pins_fit x.pins) (held_fits x.pins x.held) (frame_fits P x.frame) (empty_fits x) (ran_fits x) (in_ranges P x.core) e in
      record {
        pins = t.0;
        held = t.1.0;
        frame = frame_out P x.frame t.1.1.0;
        empty = t.1.1.1.0;
        ran = t.1.1.1.1.0;
        core = within P x.core t.1.1.1.1.1;
      }

  pub device_fits_law : Fits P x → device_fits P x ≡ true
  unfolding device_fits
  device_fits_law t =
      and_6_in (pins_fit x.pins) (held_fits x.pins x.held) (frame_fits P x.frame) (empty_fits x) (ran_fits x) (in_ranges P x.core)
      t.pins t.held (frame_in P x.frame t.frame) t.empty t.ran (in_ranges_law P x.core t.core)
