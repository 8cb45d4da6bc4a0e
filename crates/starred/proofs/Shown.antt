-- The statement is about models that do something: a list whose reports have driven bits at 0, a changed status, a changed cell and a changed number of
-- blank cells, an RDSR that sees its cycle end, and a list with supply cuts, by computing.
use Prim.Native.Nat.{ℕ, ◌^◌}
use mathlib.Core.Bool.{Bool, true, false}
use mathlib.Core.List.{List, [], ◌∷◌, ◌++◌}
use mathlib.Core.Path.{◌≡◌, refl, ap, sym, subst, ◌∙◌}
use lib.ListN.{get_or, length-replicate}
use lib.Dec.{lit≤}
use Rattle.laws.specs.Pick.{pick}
use Rattle.laws.specs.Count.{count}
use Rattle.laws.specs.Each.{each}
use Rattle.laws.specs.Marks.{and_words}
use Rattle.laws.specs.Table.{from, table}
use Rattle.codes.specs.Part.{Part, m95512, m95512d, m95m01, part_of}
use Rattle.laws.specs.Bits.{bit_on}
use Rattle.latch.specs.Latches.{zeros, stored}
use Rattle.chip.specs.Records.{status, with_blank, idle}
use Rattle.codes.specs.Instructions.{decode}
use Rattle.codes.specs.Verdicts.{verdict_by}
use Rattle.chip.specs.Ranges.{in_ranges}
use Rattle.chip.specs.Time.{timed, timed_cells, timed_memory, timed_identification, timed_blank}
use Rattle.chip.specs.declared.Core.{Core}
use Rattle.chip.specs.Power.{delivered, delivered_memory, delivered_identification}
use Rattle.cuts.specs.Cuts.{cut_core, cut_cells, cut_blank}
use Rattle.cuts.specs.declared.Choice.{Choice}
use Rattle.fields.specs.Bytes.{latched_from}
use Rattle.shown.specs.Shown.{output}
use Rattle.frames.specs.Play.{FrameBench, frame_bench}
use Rattle.timed_frames.specs.Schedules.{rising, due, passed}
use Rattle.timed_theorems.specs.Acts.{TimedAct, send, reading, cut, acted_in_time, acted_all_in_time}
use Rattle.timed_frames.specs.Answers.{output_in_time}
use Rattle.timed_frames.specs.declared.Mode.{Mode}
use Rattle.timed_frames.specs.declared.Mode.TheVariants as mode
use Rattle.pins.specs.Devices.{resting}
use Rattle.pins.specs.Ranges.{device_fits}
use Rattle.pins.specs.Answers.{PinBench, pin_bench}
use Rattle.agree.specs.Drawings.{flat, Happening, Wave, between}
use Rattle.agree.specs.Reports.{Report, report, as_one, watched, output_bits, frames_played, Unselected, SameSeen}
use Rattle.agree.proofs.Agree.{agreement}
use Rattle.starred.proofs.Fresh.{fresh_blank}

-- ---- a reading that ends a page cycle in the midst of a list: to compute the number of blank cells that it leaves its page is enough

-- the reports of the acts before it, and then others
led : Part → List TimedAct → FrameBench → List (Report Bool) → List (Report Bool)
led P [] b rs = rs
led P (send w o s n ps ts ∷ ks) b rs =
    let y = acted_in_time P (send w o s n ps ts) b in
    report (output_bits P b w o s n ps ts) y ∷ led P ks y rs
led P (reading t ∷ ks) b rs = led P ks (acted_in_time P (reading t) b) rs
led P (cut h ∷ ks) b rs = led P ks (acted_in_time P (cut h) b) rs

played_led : (P : Part) (ks js : List TimedAct) (b : FrameBench)
    → frames_played output_bits P (ks ++ js) b ≡ led P ks b (frames_played output_bits P js (acted_all_in_time P ks b))
unfolding frames_played led
played_led P [] js b = refl
played_led P (send w o s n ps ts ∷ ks) js b =
    let y = acted_in_time P (send w o s n ps ts) b in
    ap (λ (rs : List (Report Bool)). report (output_bits P b w o s n ps ts) y ∷ rs) (played_led P ks js y)
played_led P (reading t ∷ ks) js b = played_led P ks js (acted_in_time P (reading t) b)
played_led P (cut h ∷ ks) js b = played_led P ks js (acted_in_time P (cut h) b)

-- the bench after it, if it leaves n blank cells
abbrev read_with : Part → ℕ → ℕ → FrameBench → FrameBench
read_with P n t b =
    frame_bench (with_blank n (timed t b.core)) (timed_memory P t b.core b.memory) (timed_identification P t b.core b.identification)

by_number : (P : Part) (n t : ℕ) (ks js : List TimedAct) (b : FrameBench) → timed_blank P t (acted_all_in_time P ks b).core (acted_all_in_time P ks b).memory ≡ n
    → frames_played output_bits P (ks ++ (reading t ∷ js)) b ≡ led P ks b (frames_played output_bits P js (read_with P n t (acted_all_in_time P ks b)))
unfolding frames_played
by_number P n t ks js b e =
    played_led P ks (reading t ∷ js) b ∙ ap (λ (k : ℕ). led P ks b (frames_played output_bits P js (read_with P k t (acted_all_in_time P ks b)))) e

-- ---- a write, on a device as delivered

-- a frame with W high and no reading inside, in mode 0
abbrev pub plainly : List ℕ → ℕ → TimedAct
plainly s n = send true mode.Zero s n [] []

-- with W high: WREN; WRITE of 00h at 0000h; RDSR; the clock reads 5,000; RDSR; READ at 0000h
abbrev acts_before : List TimedAct
acts_before = plainly (0x06 ∷ []) 8 ∷ plainly (0x02 ∷ 0x00 ∷ 0x00 ∷ 0x00 ∷ []) 32 ∷ plainly (0x05 ∷ 0x00 ∷ []) 16 ∷ []

abbrev acts_after : List TimedAct
acts_after = plainly (0x05 ∷ 0x00 ∷ []) 16 ∷ plainly (0x03 ∷ 0x00 ∷ 0x00 ∷ 0x00 ∷ []) 32 ∷ []

abbrev pub acts : List TimedAct
acts = acts_before ++ (reading 5000 ∷ acts_after)

abbrev start : FrameBench
start = frame_bench (delivered 0) (delivered_memory m95512) (delivered_identification m95512)

pub run : List (Report Bool)
run = frames_played output_bits m95512 acts start

abbrev pub numbers : List (Report Bool) → List ℕ
numbers [] = []
numbers (r ∷ rs) = r.bench.core.blank ∷ numbers rs

abbrev pub bits_seen : List (Report Bool) → List (List Bool)
bits_seen [] = []
bits_seen (r ∷ rs) = r.seen ∷ bits_seen rs

abbrev pub statuses : List (Report Bool) → List ℕ
statuses [] = []
statuses (r ∷ rs) = status r.bench.core ∷ statuses rs

abbrev pub first_cells : List (Report Bool) → List ℕ
first_cells [] = []
first_cells (r ∷ rs) = get_or r.bench.memory 0 0 ∷ first_cells rs

abbrev pub ones : List Bool
ones = true ∷ true ∷ true ∷ true ∷ true ∷ true ∷ true ∷ true ∷ []

abbrev pub none : List Bool
none = false ∷ false ∷ false ∷ false ∷ false ∷ false ∷ false ∷ false ∷ []

-- 03h
abbrev pub three : List Bool
three = false ∷ false ∷ false ∷ false ∷ false ∷ false ∷ true ∷ true ∷ []

-- what a bench sees: the status 03h and then 00h on Q, and the cell's 00h; a write enable latch and a cycle that come and go; a cell from FFh to 00h, and
-- one blank cell less
pub record Seen (rs : List (Report Bool)) : Type 0 where
  pub bits :
      bits_seen rs
      ≡ ones ∷ (ones ++ ones ++ ones ++ ones) ∷ (ones ++ three) ∷ (ones ++ none)
      ∷ (ones ++ ones ++ ones ++ none) ∷ []
  pub registers : statuses rs ≡ 2 ∷ 3 ∷ 3 ∷ 0 ∷ 0 ∷ []
  pub cell : first_cells rs ≡ 0xff ∷ 0xff ∷ 0xff ∷ 0x00 ∷ 0x00 ∷ []
  pub number : numbers rs ≡ 65536 ∷ 65536 ∷ 65536 ∷ 65535 ∷ 65535 ∷ []

one_less : let b = acted_all_in_time m95512 acts_before start in timed_blank m95512 5000 b.core b.memory ≡ 65535
unfolding part_of due passed each pick verdict_by decode latched_from zeros bit_on count
one_less = fresh_blank m95512 65535 m95512.size 5000 (acted_all_in_time m95512 acts_before start).core refl refl (lit≤ tt) refl

pub frames_seen : Seen run
unfolding run led frames_played output_in_time rising due passed part_of in_ranges each pick verdict_by decode latched_from zeros bit_on timed timed_cells
    stored table from output flat
frames_seen =
    subst Seen (sym (by_number m95512 65535 5000 acts_before acts_after start one_less))
    (record { bits = refl; registers = refl; cell = refl; number = refl })

-- ---- and so the pin model, from the same device, whatever drawing of the list

abbrev pub delivered_bench : PinBench
delivered_bench = pin_bench (resting (delivered 0)) (delivered_memory m95512) (delivered_identification m95512)

unselected : Unselected m95512 delivered_bench
unfolding part_of device_fits in_ranges each pick decode zeros bit_on
unselected =
    record {
      fits = refl;
      up = refl;
      free = refl;
      memory = length-replicate {A = ℕ} m95512.size 0xff;
      identification = length-replicate {A = ℕ} m95512.page 0xff;
    }

pub pins_seen : (es : List Happening) → Wave m95512 (between false) false true [] acts es → Seen (watched as_one m95512 es [] delivered_bench)
unfolding part_of pick SameSeen run
pins_seen es r = subst Seen (sym (agreement 0 delivered_bench acts es unselected r)) frames_seen

-- ---- time inside a frame: an RDSR that sees its cycle end

-- WREN; WRITE of 00h at 0000h
abbrev writing : Mode → List TimedAct
writing o = send true o (0x06 ∷ []) 8 [] [] ∷ send true o (0x02 ∷ 0x00 ∷ 0x00 ∷ 0x00 ∷ []) 32 [] [] ∷ []

-- .. then RDSR of three status bytes, the clock reading 1,000 at position 1 and 5,000 at position 2
abbrev pub polling_acts : Mode → List TimedAct
polling_acts o = writing o ++ (send true o (0x05 ∷ 0x00 ∷ 0x00 ∷ 0x00 ∷ []) 32 (1 ∷ 2 ∷ []) (1000 ∷ 5000 ∷ []) ∷ [])

pub polling_run : Mode → List (Report Bool)
polling_run o = frames_played output_bits m95512 (polling_acts o) start

-- the status bytes: the second is sampled before the reading at its boundary in mode 0, after it in mode 3
abbrev pub polled : Mode → List Bool
polled mode.Zero = three ++ three ++ none
polled mode.Three = three ++ none ++ none

pub record PollSeen (o : Mode) (rs : List (Report Bool)) : Type 0 where
  pub bits : bits_seen rs ≡ ones ∷ (ones ++ ones ++ ones ++ ones) ∷ (ones ++ polled o) ∷ []
  pub registers : statuses rs ≡ 2 ∷ 3 ∷ 0 ∷ []
  pub cell : first_cells rs ≡ 0xff ∷ 0xff ∷ 0x00 ∷ []

pub poll_frames_seen : (o : Mode) → PollSeen o (polling_run o)
unfolding polling_run frames_played output_in_time rising due passed part_of in_ranges each pick verdict_by decode latched_from zeros bit_on timed timed_cells
    stored table from output flat
poll_frames_seen mode.Zero = record { bits = refl; registers = refl; cell = refl }
poll_frames_seen mode.Three = record { bits = refl; registers = refl; cell = refl }

-- and so the pin model, from the same device, whatever drawing

pub poll_pins_seen : (o : Mode) (es : List Happening) → Wave m95512 (between false) false true [] (polling_acts o) es
    → PollSeen o (watched as_one m95512 es [] delivered_bench)
unfolding part_of pick SameSeen polling_run
poll_pins_seen o es r = subst (PollSeen o) (sym (agreement 0 delivered_bench (polling_acts o) es unselected r)) (poll_frames_seen o)

-- .. then READ of that cell with one reading, which ends the cycle, at position p: a reading at 0 comes before the eighth edge, one at 1 after it
abbrev pub reading_acts : Mode → ℕ → List TimedAct
reading_acts o p = writing o ++ (send true o (0x03 ∷ 0x00 ∷ 0x00 ∷ 0x00 ∷ []) 32 (p ∷ []) (5000 ∷ []) ∷ [])

pub read_late : (o : Mode)
    → (bits_seen (frames_played output_bits m95512 (reading_acts o 0) start) ≡ ones ∷ (ones ++ ones ++ ones ++ ones) ∷ (ones ++ ones ++ ones ++ none) ∷ [])
    × (bits_seen (frames_played output_bits m95512 (reading_acts o 1) start) ≡ ones ∷ (ones ++ ones ++ ones ++ ones) ∷ (ones ++ ones ++ ones ++ ones) ∷ [])
unfolding frames_played output_in_time rising due passed part_of in_ranges each pick verdict_by decode latched_from zeros bit_on timed timed_cells stored table
    from output flat
read_late mode.Zero = (refl, refl)
read_late mode.Three = (refl, refl)

-- ---- the identification page of an M95512-D, and its lock

-- as delivered
abbrev pub delivered_d : Core
delivered_d = idle 1 false false false false m95512d.longest 0 m95512d.size

-- WREN; 82h of 11h and 22h at cell 7Fh; the clock reads 5,000; 83h at 7Fh, two bytes; WREN; 82h for the lock; the clock reads 10,000; 83h for the lock;
-- WREN; 82h of 33h at cell 7Fh; 83h at 7Fh
abbrev pub identification_acts : List TimedAct
identification_acts =
    plainly (0x06 ∷ []) 8 ∷ plainly (0x82 ∷ 0x00 ∷ 0x7f ∷ 0x11 ∷ 0x22 ∷ []) 40 ∷ reading 5000
    ∷ plainly (0x83 ∷ 0x00 ∷ 0x7f ∷ 0x00 ∷ 0x00 ∷ []) 40 ∷ plainly (0x06 ∷ []) 8 ∷ plainly (0x82 ∷ 0x04 ∷ 0x00 ∷ 0x02 ∷ []) 32 ∷ reading 10000
    ∷ plainly (0x83 ∷ 0x04 ∷ 0x00 ∷ 0x00 ∷ []) 32 ∷ plainly (0x06 ∷ []) 8 ∷ plainly (0x82 ∷ 0x00 ∷ 0x7f ∷ 0x33 ∷ []) 32
    ∷ plainly (0x83 ∷ 0x00 ∷ 0x7f ∷ 0x00 ∷ []) 32 ∷ []

pub identification_run : List (Report Bool)
identification_run = frames_played output_bits m95512d identification_acts (frame_bench delivered_d (delivered_memory m95512d) (delivered_identification m95512d))

abbrev pub page_cells : ℕ → List (Report Bool) → List ℕ
page_cells i [] = []
page_cells i (r ∷ rs) = get_or r.bench.identification i 0 ∷ page_cells i rs

abbrev pub lock_bits : List (Report Bool) → List ℕ
lock_bits [] = []
lock_bits (r ∷ rs) = r.bench.core.lock ∷ lock_bits rs

-- 11h, 22h; 01h
abbrev pub elevens : List Bool
elevens = false ∷ false ∷ false ∷ true ∷ false ∷ false ∷ false ∷ true ∷ []

abbrev pub twenties : List Bool
twenties = false ∷ false ∷ true ∷ false ∷ false ∷ false ∷ true ∷ false ∷ []

abbrev pub one : List Bool
one = false ∷ false ∷ false ∷ false ∷ false ∷ false ∷ false ∷ true ∷ []

-- what a bench sees: both bytes on Q, rolled within the page, then the lock, then the first byte again; WEL stays after the write that the lock stops;
-- the number of blank cells stays
pub record PageSeen (rs : List (Report Bool)) : Type 0 where
  pub bits :
      bits_seen rs
      ≡ ones ∷ (ones ++ ones ++ ones ++ ones ++ ones) ∷ (ones ++ ones ++ ones ++ elevens ++ twenties) ∷ ones ∷ (ones ++ ones ++ ones ++ ones)
      ∷ (ones ++ ones ++ ones ++ one) ∷ ones ∷ (ones ++ ones ++ ones ++ ones) ∷ (ones ++ ones ++ ones ++ elevens) ∷ []
  pub registers : statuses rs ≡ 2 ∷ 3 ∷ 0 ∷ 2 ∷ 3 ∷ 0 ∷ 2 ∷ 2 ∷ 2 ∷ []
  pub last : page_cells 0x7f rs ≡ 0xff ∷ 0xff ∷ 0x11 ∷ 0x11 ∷ 0x11 ∷ 0x11 ∷ 0x11 ∷ 0x11 ∷ 0x11 ∷ []
  pub first : page_cells 0x00 rs ≡ 0xff ∷ 0xff ∷ 0x22 ∷ 0x22 ∷ 0x22 ∷ 0x22 ∷ 0x22 ∷ 0x22 ∷ 0x22 ∷ []
  pub locked : lock_bits rs ≡ 0 ∷ 0 ∷ 0 ∷ 0 ∷ 0 ∷ 1 ∷ 1 ∷ 1 ∷ 1 ∷ []
  pub number : numbers rs ≡ 65536 ∷ 65536 ∷ 65536 ∷ 65536 ∷ 65536 ∷ 65536 ∷ 65536 ∷ 65536 ∷ 65536 ∷ []

pub page_frames_seen : PageSeen identification_run
unfolding identification_run frames_played output_in_time rising due passed in_ranges each pick verdict_by decode latched_from zeros bit_on timed timed_cells
    timed_blank stored table from output flat
page_frames_seen = record { bits = refl; registers = refl; last = refl; first = refl; locked = refl; number = refl }

-- and so the pin model, from the same device

abbrev pub delivered_bench_d : PinBench
delivered_bench_d = pin_bench (resting delivered_d) (delivered_memory m95512d) (delivered_identification m95512d)

unselected_d : Unselected m95512d delivered_bench_d
unfolding device_fits in_ranges each pick decode zeros bit_on
unselected_d =
    record {
      fits = refl;
      up = refl;
      free = refl;
      memory = length-replicate {A = ℕ} m95512d.size 0xff;
      identification = length-replicate {A = ℕ} m95512d.page 0xff;
    }

pub page_pins_seen : (es : List Happening) → Wave m95512d (between false) false true [] identification_acts es
    → PageSeen (watched as_one m95512d es [] delivered_bench_d)
unfolding part_of pick SameSeen identification_run
page_pins_seen es r = subst PageSeen (sym (agreement 1 delivered_bench_d identification_acts es unselected_d r)) page_frames_seen

-- ---- supply cuts on it: of two cells one was taken, of three status bits two

-- cell 7Fh alone; SRWD and BP0 alone
abbrev pub last_cell : Choice
last_cell = record { words = 0 ∷ 2 ^ 63 ∷ 0 ∷ 0 ∷ [] }

abbrev pub two_bits : Choice
two_bits = record { words = 0x84 ∷ 0 ∷ 0 ∷ 0 ∷ [] }

-- WREN; 82h of 11h and 22h at cell 7Fh; a cut; 83h at 7Fh, two bytes; WREN; WRSR of 8Ch; a cut; RDSR
abbrev pub cut_acts : List TimedAct
cut_acts =
    plainly (0x06 ∷ []) 8 ∷ plainly (0x82 ∷ 0x00 ∷ 0x7f ∷ 0x11 ∷ 0x22 ∷ []) 40 ∷ cut last_cell ∷ plainly (0x83 ∷ 0x00 ∷ 0x7f ∷ 0x00 ∷ 0x00 ∷ []) 40
    ∷ plainly (0x06 ∷ []) 8 ∷ plainly (0x01 ∷ 0x8c ∷ []) 16 ∷ cut two_bits ∷ plainly (0x05 ∷ 0x00 ∷ []) 16 ∷ []

pub cut_run : List (Report Bool)
cut_run = frames_played output_bits m95512d cut_acts (frame_bench delivered_d (delivered_memory m95512d) (delivered_identification m95512d))

-- what a bench sees: no cycle and no WEL after a cut; 11h in cell 7Fh and FFh still in cell 0, on Q too; SRWD and BP0 set, BP1 not
pub record CutSeen (rs : List (Report Bool)) : Type 0 where
  pub bits :
      bits_seen rs
      ≡ ones ∷ (ones ++ ones ++ ones ++ ones ++ ones) ∷ (ones ++ ones ++ ones ++ elevens ++ ones) ∷ ones ∷ (ones ++ ones)
      ∷ (ones ++ (true ∷ false ∷ false ∷ false ∷ false ∷ true ∷ false ∷ false ∷ [])) ∷ []
  pub registers : statuses rs ≡ 2 ∷ 3 ∷ 0 ∷ 2 ∷ 3 ∷ 0x84 ∷ []
  pub last : page_cells 0x7f rs ≡ 0xff ∷ 0xff ∷ 0x11 ∷ 0x11 ∷ 0x11 ∷ 0x11 ∷ []
  pub first : page_cells 0x00 rs ≡ 0xff ∷ 0xff ∷ 0xff ∷ 0xff ∷ 0xff ∷ 0xff ∷ []
  pub number : numbers rs ≡ 65536 ∷ 65536 ∷ 65536 ∷ 65536 ∷ 65536 ∷ 65536 ∷ []

pub cut_frames_seen : CutSeen cut_run
unfolding cut_run frames_played output_in_time rising due passed in_ranges each pick verdict_by decode latched_from zeros bit_on cut_core cut_cells cut_blank
    and_words stored table from output flat
cut_frames_seen = record { bits = refl; registers = refl; last = refl; first = refl; number = refl }

pub cut_pins_seen : (es : List Happening) → Wave m95512d (between false) false true [] cut_acts es → CutSeen (watched as_one m95512d es [] delivered_bench_d)
unfolding part_of pick SameSeen cut_run
cut_pins_seen es r = subst CutSeen (sym (agreement 1 delivered_bench_d cut_acts es unselected_d r)) cut_frames_seen

-- ---- an M95M01: above FFFFh, with WRDI in the cycle

-- as delivered
abbrev pub delivered_m : Core
delivered_m = idle 2 false false false false m95m01.longest 0 m95m01.size

-- WREN; WRITE of 11h and 22h at 100FFh, the last cell of its page; WRDI in the cycle; RDSR; the clock reads 4,000; READ at 100FFh, with bits above A16
abbrev megabit_before : List TimedAct
megabit_before =
    plainly (0x06 ∷ []) 8 ∷ plainly (0x02 ∷ 0x01 ∷ 0x00 ∷ 0xff ∷ 0x11 ∷ 0x22 ∷ []) 48 ∷ plainly (0x04 ∷ []) 8 ∷ plainly (0x05 ∷ 0x00 ∷ []) 16 ∷ []

abbrev megabit_after : List TimedAct
megabit_after = plainly (0x03 ∷ 0xff ∷ 0x00 ∷ 0xff ∷ 0x00 ∷ []) 40 ∷ []

abbrev pub megabit_acts : List TimedAct
megabit_acts = megabit_before ++ (reading 4000 ∷ megabit_after)

abbrev megabit_start : FrameBench
megabit_start = frame_bench delivered_m (delivered_memory m95m01) (delivered_identification m95m01)

pub megabit_run : List (Report Bool)
megabit_run = frames_played output_bits m95m01 megabit_acts megabit_start

abbrev pub memory_cells : ℕ → List (Report Bool) → List ℕ
memory_cells i [] = []
memory_cells i (r ∷ rs) = get_or r.bench.memory i 0 ∷ memory_cells i rs

-- what a bench sees: WEL 0 and WIP 1 on Q in the cycle; the cycle ends all the same; 11h in the last cell of the page, 22h in its first; two blank cells
-- less
pub record MegabitSeen (rs : List (Report Bool)) : Type 0 where
  pub bits :
      bits_seen rs
      ≡ ones ∷ (ones ++ ones ++ ones ++ ones ++ ones ++ ones) ∷ ones ∷ (ones ++ one) ∷ (ones ++ ones ++ ones ++ ones ++ elevens) ∷ []
  pub registers : statuses rs ≡ 2 ∷ 3 ∷ 1 ∷ 1 ∷ 0 ∷ []
  pub last : memory_cells 0x100ff rs ≡ 0xff ∷ 0xff ∷ 0xff ∷ 0xff ∷ 0x11 ∷ []
  pub first : memory_cells 0x10000 rs ≡ 0xff ∷ 0xff ∷ 0xff ∷ 0xff ∷ 0x22 ∷ []
  pub number : numbers rs ≡ 131072 ∷ 131072 ∷ 131072 ∷ 131072 ∷ 131070 ∷ []

two_less : let b = acted_all_in_time m95m01 megabit_before megabit_start in timed_blank m95m01 4000 b.core b.memory ≡ 131070
unfolding due passed each pick verdict_by decode latched_from zeros bit_on count
two_less = fresh_blank m95m01 131070 m95m01.size 4000 (acted_all_in_time m95m01 megabit_before megabit_start).core refl refl (lit≤ tt) refl

pub megabit_frames_seen : MegabitSeen megabit_run
unfolding megabit_run led frames_played output_in_time rising due passed in_ranges each pick verdict_by decode latched_from zeros bit_on timed timed_cells
    stored table from output flat
megabit_frames_seen =
    subst MegabitSeen (sym (by_number m95m01 131070 4000 megabit_before megabit_after megabit_start two_less))
    (record { bits = refl; registers = refl; last = refl; first = refl; number = refl })

-- and so the pin model, from the same device

abbrev pub delivered_bench_m : PinBench
delivered_bench_m = pin_bench (resting delivered_m) (delivered_memory m95m01) (delivered_identification m95m01)

unselected_m : Unselected m95m01 delivered_bench_m
unfolding device_fits in_ranges each pick decode zeros bit_on
unselected_m =
    record {
      fits = refl;
      up = refl;
      free = refl;
      memory = length-replicate {A = ℕ} m95m01.size 0xff;
      identification = refl;
    }

pub megabit_pins_seen : (es : List Happening) → Wave m95m01 (between false) false true [] megabit_acts es
    → MegabitSeen (watched as_one m95m01 es [] delivered_bench_m)
unfolding part_of pick SameSeen megabit_run
megabit_pins_seen es r = subst MegabitSeen (sym (agreement 2 delivered_bench_m megabit_acts es unselected_m r)) megabit_frames_seen
