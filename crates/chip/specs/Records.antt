-- The core record that both models hold: what its fields say, and every way in which one is made of another. No record
-- is written out anywhere else.
use Rattle.std.specs.Prelude.{ℕ, Bool, ◌||◌, ◌==◌, nat_lt}
use Rattle.codes.specs.Part.{Part, part_of}
use Rattle.codes.specs.Status.{bit, on, status_byte, bit_of, writable}
use Rattle.latch.specs.Latches.{no_latch}
use Rattle.latch.specs.declared.Latch.{Latch}
use Rattle.chip.specs.declared.Waiting.{Waiting}
use Rattle.chip.specs.declared.Core.{Core}
use Rattle.chip.specs.declared.Kind.{Kind}
use Rattle.chip.specs.declared.Kind.TheVariants.{Nothing, Status, Page, Identification, Lock}

-- ---- what waits for the end of the cycle: 0 nothing, 1 a status value, 2 a page; of a part with an identification
-- page also 3 that page and 4 the lock

abbrev pub kind_number : Kind → ℕ
kind_number Nothing = 0
kind_number Status = 1
kind_number Page = 2
kind_number Identification = 3
kind_number Lock = 4

abbrev pub waits_nothing : Waiting → Bool
waits_nothing w = w.kind == 0

abbrev pub waits_status : Waiting → Bool
waits_status w = w.kind == 1

abbrev pub waits_page : Waiting → Bool
waits_page w = w.kind == 2

abbrev pub waits_identification : Waiting → Bool
waits_identification w = w.kind == 3

abbrev pub waits_lock : Waiting → Bool
waits_lock w = w.kind == 4

-- latched bytes wait, for the memory or for the identification page
abbrev pub waits_latch : Waiting → Bool
waits_latch w = waits_page w || waits_identification w

abbrev pub nothing : Waiting
nothing = record { kind = 0; status = 0; page = 0; latch = no_latch }

-- only the writable bits of a status value wait
abbrev pub status_waits : ℕ → Waiting
status_waits v = record { kind = 1; status = writable v; page = 0; latch = no_latch }

abbrev pub page_waits : ℕ → Latch → Waiting
page_waits p l = record { kind = 2; status = 0; page = p; latch = l }

-- the identification page is page 0 of its own
abbrev pub identification_waits : Latch → Waiting
identification_waits l = record { kind = 3; status = 0; page = 0; latch = l }

abbrev pub lock_waits : Waiting
lock_waits = record { kind = 4; status = 0; page = 0; latch = no_latch }

-- the same thing waits, with another value or other latched bytes
abbrev pub waits_with : ℕ → Latch → Waiting → Waiting
waits_with v l w = record { kind = w.kind; status = v; page = w.page; latch = l }

-- ---- what a core says

-- the row of its part
abbrev pub own_part : Core → Part
own_part c = part_of c.part

-- WIP: a cycle runs exactly when time is left
abbrev pub running : Core → Bool
running c = nat_lt 0 c.left

abbrev pub status : Core → ℕ
status c = status_byte (on c.srwd) (on c.bp1) (on c.bp0) (on c.wel) (running c)

-- the byte that shows the lock: low bit, others 0
abbrev pub lock_byte : Core → ℕ
lock_byte c = bit (on c.lock)

-- ---- a core made of another

-- SRWD, BP1 and BP0 from a status value
abbrev pub with_status : ℕ → Core → Core
with_status v c =
    record {
      part = c.part;
      lock = c.lock;
      srwd = bit_of 7 v;
      bp1 = bit_of 3 v;
      bp0 = bit_of 2 v;
      wel = c.wel;
      cycle = c.cycle;
      left = c.left;
      last = c.last;
      blank = c.blank;
      waits = c.waits;
    }

-- the lock is set
abbrev pub with_lock : Core → Core
with_lock c =
    record {
      part = c.part;
      lock = 1;
      srwd = c.srwd;
      bp1 = c.bp1;
      bp0 = c.bp0;
      wel = c.wel;
      cycle = c.cycle;
      left = c.left;
      last = c.last;
      blank = c.blank;
      waits = c.waits;
    }

-- the clock read t, and so much of the cycle is left
abbrev pub with_time : ℕ → ℕ → Core → Core
with_time t n c =
    record {
      part = c.part;
      lock = c.lock;
      srwd = c.srwd;
      bp1 = c.bp1;
      bp0 = c.bp0;
      wel = c.wel;
      cycle = c.cycle;
      left = n;
      last = t;
      blank = c.blank;
      waits = c.waits;
    }

abbrev pub with_wel : ℕ → Core → Core
with_wel v c =
    record {
      part = c.part;
      lock = c.lock;
      srwd = c.srwd;
      bp1 = c.bp1;
      bp0 = c.bp0;
      wel = v;
      cycle = c.cycle;
      left = c.left;
      last = c.last;
      blank = c.blank;
      waits = c.waits;
    }

-- the number of blank cells
abbrev pub with_blank : ℕ → Core → Core
with_blank n c =
    record {
      part = c.part;
      lock = c.lock;
      srwd = c.srwd;
      bp1 = c.bp1;
      bp0 = c.bp0;
      wel = c.wel;
      cycle = c.cycle;
      left = c.left;
      last = c.last;
      blank = n;
      waits = c.waits;
    }

-- a cycle begins, at whose end w is stored
abbrev pub with_cycle : Waiting → Core → Core
with_cycle w c =
    record {
      part = c.part;
      lock = c.lock;
      srwd = c.srwd;
      bp1 = c.bp1;
      bp0 = c.bp0;
      wel = c.wel;
      cycle = c.cycle;
      left = c.cycle;
      last = c.last;
      blank = c.blank;
      waits = w;
    }

-- something else waits for the end of the cycle
abbrev pub with_waits : Waiting → Core → Core
with_waits w c =
    record {
      part = c.part;
      lock = c.lock;
      srwd = c.srwd;
      bp1 = c.bp1;
      bp0 = c.bp0;
      wel = c.wel;
      cycle = c.cycle;
      left = c.left;
      last = c.last;
      blank = c.blank;
      waits = w;
    }

-- the cycle is over: WEL 0, no time left, nothing waits
abbrev pub without_cycle : Core → Core
without_cycle c =
    record {
      part = c.part;
      lock = c.lock;
      srwd = c.srwd;
      bp1 = c.bp1;
      bp0 = c.bp0;
      wel = 0;
      cycle = c.cycle;
      left = 0;
      last = c.last;
      blank = c.blank;
      waits = nothing;
    }

-- ---- a core made anew: WEL 0, no cycle, and the given part, lock, status bits, cycle length, clock reading and number
-- of blank cells

abbrev pub idle : ℕ → Bool → Bool → Bool → Bool → ℕ → ℕ → ℕ → Core
idle part lock srwd bp1 bp0 cycle t blank =
    record {
      part = part;
      lock = bit lock;
      srwd = bit srwd;
      bp1 = bit bp1;
      bp0 = bit bp0;
      wel = 0;
      cycle = cycle;
      left = 0;
      last = t;
      blank = blank;
      waits = nothing;
    }
