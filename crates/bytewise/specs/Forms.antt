-- A device with its two latches held apart, in any form: `rest` is all else, with both latches empty. A form says what
-- an empty latch is, what one more byte makes of it, its ranges, and what storing it leaves in a memory.
use Rattle.std.specs.Prelude.{ℕ, Bool, List}
use Rattle.codes.specs.Part.{Part}
use Rattle.latch.specs.Latches.{no_latch, latched, latch_fits, stored}
use Rattle.latch.specs.declared.Latch.{Latch}
use Rattle.chip.specs.declared.Waiting.{Waiting}
use Rattle.chip.specs.declared.Core.{Core}
use Rattle.edges.specs.Frames.{with_latch}
use Rattle.pins.specs.declared.Device.{Device}

pub record Form (L : Type 0) : Type 0 where
  pub none : L
  pub latch : ℕ → ℕ → L → L
  pub fits : Bool → L → Bool
  pub store : ℕ → L → List ℕ → List ℕ

-- marks as words: the form of the record
abbrev pub words : Part → Form Latch
words P = record { none = no_latch; latch = latched; fits = latch_fits P; store = stored P }

-- ---- the latches put into a record

abbrev pub waits_with : Latch → Waiting → Waiting
waits_with l w = record { kind = w.kind; status = w.status; page = w.page; latch = l }

abbrev pub core_with : Latch → Core → Core
core_with l c =
    record {
      part = c.part;
      lock = c.lock;
      srwd = c.srwd;
      bp1 = c.bp1;
      bp0 = c.bp0;
      wel = c.wel;
      cycle = c.cycle;
      left = c.left;
      last = c.last;
      blank = c.blank;
      waits = waits_with l c.waits;
    }

-- h for the frame in hand, w for the page that waits
abbrev pub latches_with : Latch → Latch → Device → Device
latches_with h w x =
    record { pins = x.pins; held = x.held; frame = with_latch h x.frame; core = core_with w x.core }

-- ---- and held apart

pub record Apart (L : Type 0) : Type 0 where
  pub rest : Device
  pub hand : L
  pub waits : L

abbrev pub rest_of : Device → Device
rest_of x = latches_with no_latch no_latch x

abbrev pub apart : Device → Apart Latch
apart x = record { rest = rest_of x; hand = x.frame.latch; waits = x.core.waits.latch }

-- the same of the core record alone
pub record CoreApart (L : Type 0) : Type 0 where
  pub rest : Core
  pub waits : L

abbrev pub core_apart : Core → CoreApart Latch
core_apart c = record { rest = core_with no_latch c; waits = c.waits.latch }
