-- The frame in hand: every way in which one is made of another. But for a list's own parts (lists/Ways), no such
-- record is written out anywhere else.
use Rattle.std.specs.Prelude.{ℕ, ◌+◌, min, Bool}
use Rattle.codes.specs.Part.{Part}
use Rattle.codes.specs.Status.{bit}
use Rattle.latch.specs.Latches.{no_latch}
use Rattle.latch.specs.declared.Latch.{Latch}
use Rattle.edges.specs.declared.Frame.{Frame}

abbrev pub no_frame : Frame
no_frame =
    record {
      taken = 0;
      bits = 0;
      partial = 0;
      code = 0;
      ran = 0;
      value = 0;
      out = 0;
      shown = 0;
      address = 0;
      latch = no_latch;
    }

-- n bits of the current byte are in, with the values v
abbrev pub with_bits : ℕ → ℕ → Frame → Frame
with_bits n v f =
    record {
      taken = f.taken;
      bits = n;
      partial = v;
      code = f.code;
      ran = f.ran;
      value = f.value;
      out = f.out;
      shown = f.shown;
      address = f.address;
      latch = f.latch;
    }

-- one whole byte more; the count stays at the part's most
abbrev pub with_byte : Part → Frame → Frame
with_byte P f =
    record {
      taken = min P.most (f.taken + 1);
      bits = 0;
      partial = 0;
      code = f.code;
      ran = f.ran;
      value = f.value;
      out = f.out;
      shown = f.shown;
      address = f.address;
      latch = f.latch;
    }

-- the instruction byte, and whether a cycle runs as its eighth bit is taken
abbrev pub with_code : ℕ → Bool → Frame → Frame
with_code v running f =
    record {
      taken = f.taken;
      bits = f.bits;
      partial = f.partial;
      code = v;
      ran = bit running;
      value = f.value;
      out = f.out;
      shown = f.shown;
      address = f.address;
      latch = f.latch;
    }

abbrev pub with_value : ℕ → Frame → Frame
with_value v f =
    record {
      taken = f.taken;
      bits = f.bits;
      partial = f.partial;
      code = f.code;
      ran = f.ran;
      value = v;
      out = f.out;
      shown = f.shown;
      address = f.address;
      latch = f.latch;
    }

-- n bits of the output byte v are shown
abbrev pub with_out : ℕ → ℕ → Frame → Frame
with_out v n f =
    record {
      taken = f.taken;
      bits = f.bits;
      partial = f.partial;
      code = f.code;
      ran = f.ran;
      value = f.value;
      out = v;
      shown = n;
      address = f.address;
      latch = f.latch;
    }

abbrev pub with_address : ℕ → Frame → Frame
with_address a f =
    record {
      taken = f.taken;
      bits = f.bits;
      partial = f.partial;
      code = f.code;
      ran = f.ran;
      value = f.value;
      out = f.out;
      shown = f.shown;
      address = a;
      latch = f.latch;
    }

abbrev pub with_latch : Latch → Frame → Frame
with_latch l f =
    record {
      taken = f.taken;
      bits = f.bits;
      partial = f.partial;
      code = f.code;
      ran = f.ran;
      value = f.value;
      out = f.out;
      shown = f.shown;
      address = f.address;
      latch = l;
    }
