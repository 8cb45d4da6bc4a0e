-- A call that is given a record with the right number of blank cells for its memory hands one back: each call that is lent the memory, any list of frames
-- and readings, with readings inside the frames and supply cuts too, any list of events, a driver's run, import, power-up, a chunk of a text.
use Rattle.codes.specs.declared.Refusal.{Refusal}
use Rattle.std.specs.Prelude.{Err, Ok}
use mathlib.Core.Path.{◌≡◌, refl, sym, ◌∙◌}
use mathlib.Core.Bool.{Bool, true, false, true≢false}
use mathlib.Core.List.{List, [], ◌∷◌}
use Prim.Native.Nat.{ℕ}
use lib.ListN.{length, get_or}
use lib.Dec.{eqb, leb}
use borrow.Author.Tests.{eq-eqb}
use native.Mathlib.Omega.{arith}
use Rattle.laws.specs.Pick.{pick, pick_case}
use Rattle.codes.specs.Part.{Part, part_of, is_part}
use Rattle.codes.specs.Refusals.{is_done, no_refusal}
use Rattle.codes.specs.Verdicts.{is_executed}
use Rattle.codes.specs.Instructions.{decode}
use Rattle.codes.specs.Refusals.{Outcome}
use Rattle.codes.specs.declared.Refusal.TheVariants.{MemoryLength, RecordRange, OutputLength, CycleLength}
use Rattle.blanks.specs.Blanks.{blanks}
use Rattle.chip.specs.declared.Core.{Core}
use Rattle.chip.specs.declared.Answered.{Answered}
use Rattle.chip.specs.Lents.{Lent, lent}
use Rattle.chip.specs.Records.{own_part, running, waits_page, with_blank, idle}
use Rattle.chip.specs.Ranges.{in_ranges, cycle_fits}
use Rattle.chip.specs.Blanks.{Counted, counted}
use Rattle.chip.specs.Power.{powered_up, power_up_number, unpowered, not_powered}
use Rattle.chip.specs.Time.{lent_fits, reading_outcome, clock_reading, clock_memory, timed_in, timed_memory}
use Rattle.chip.proofs.Passing.{timed_length}
use Rattle.chip.proofs.Readings.{lent_memory}
use Rattle.chip.proofs.Recounts.{timed_counted, effect_blank}
use Rattle.fields.specs.Bytes.{instruction, address, written}
use Rattle.frames.specs.After.{judged, after}
use Rattle.frames.specs.Answers.{frame_outcome, framed}
use Rattle.cuts.specs.Cuts.{cut_in, cut_memory, cut_answer, cut_memory_answer}
use Rattle.cuts.specs.declared.Choice.{Choice}
use Rattle.cuts.proofs.Leaves.{cut_length, cut_counted}
use Rattle.frames.specs.Play.{Act, frame, reading, FrameBench, frame_bench, acted, acted_all}
use Rattle.timed_theorems.specs.Acts.{TimedAct, acted_all_in_time}
use Rattle.timed_frames.specs.Answers.{in_time_outcome, in_time_left, framed_in_time}
use Rattle.timed_theorems.proofs.Keeping.{Keeps, left_by_keeps, acted_all_in_time_keeps}
use Rattle.driver.specs.Answers.{drive_outcome, driven, driven_memory}
use Rattle.sequence.specs.Sequence.{run}
use Rattle.pins.specs.declared.Device.{Device}
use Rattle.pins.specs.declared.Event.{Event}
use Rattle.pins.specs.declared.Event.TheVariants.{S, C, D, W, Hold, Time}
use Rattle.pins.specs.Devices.{device_part}
use Rattle.pins.specs.Events.{on_time, stepped, stepped_memory, event_of}
use Rattle.pins.specs.Answers.{PinBench, lent_to, after_event, played, answer, answer_memory, record_outcome, memory_outcome, cut_device}
use Rattle.pins_theorems.proofs.CellRule.{event_length}
use Rattle.pins_theorems.proofs.Locks.{stepped_core}
use Rattle.lists.specs.Answers.{play_outcome, play_answer, play_memory, bench_with}
use Rattle.std.proofs.Common.{Ok, Err}
use Rattle.intel_hex.specs.declared.HexError.TheVariants as hex
use Rattle.intel_hex.specs.Answers.{takes, imported_cells, imported_to, import_answer, import_memory}
use Rattle.player.specs.declared.Player.{Player}
use Rattle.player.specs.Players.{player_fits}
use Rattle.lines.specs.Reading.{found}
use Rattle.trace.specs.Chunks.{played_lines, chunk_bench, room, refused_to, taken_by, feed_answer, feed_memory}

-- ---- an answer: what follows, or all as it was

both : (t : Bool) (c d : Core) (m n : List ℕ) → (t ≡ true → Counted d n) → Counted c m → Counted (pick t d c) (pick t n m)
unfolding pick
both true c d m n f k = f refl
both false c d m n f k = k

both_devices : (t : Bool) (x y : Device) (m n : List ℕ) → (t ≡ true → Counted y.core n) → Counted x.core m
    → Counted (pick t y x).core (pick t n m)
unfolding pick
both_devices true x y m n f k = f refl
both_devices false x y m n f k = k

-- what is not refused was lent a memory of the part's length
done_lent : (fits : Bool) (o : Outcome) → is_done (pick fits o (Err MemoryLength)) ≡ true → fits ≡ true
unfolding pick
done_lent true o e = refl
done_lent false o e = absurd (true≢false (sym e))

lent_size : (P : Part) (m : Lent) (o : Outcome)
    → is_done (pick (lent_fits P (length m.memory) (length m.identification)) o (Err MemoryLength)) ≡ true → length m.memory ≡ P.size
lent_size P m o e =
    let fits = lent_fits P (length m.memory) (length m.identification) in
    lent_memory P (length m.memory) (length m.identification) (done_lent fits o e)

-- ---- the record

pub right_counted : (P : Part) (c : Core) (m : List ℕ) → length m ≡ P.size → Counted (counted P m c) m
right_counted P c m size =
    pick_case (λ (x : Core). Counted x m) (eqb (length m) P.size) (λ e. refl) (λ e. absurd (true≢false (sym (eq-eqb (length m) P.size size) ∙ e)))

module _ (P : Part) (t : ℕ) (c : Core) (m d : List ℕ) (right : Counted c m) where
  -- a clock reading, refused or not
  pub right_reading : Counted (clock_reading P t c m d).core (clock_memory P t c m d)
  right_reading =
      both (is_done (reading_outcome P c m d)) c (timed_in P t c m) m (timed_memory P t c m)
      (λ e. timed_counted P t c m (lent_size P (lent m d) _ e) right) right

  -- a supply cut, refused or not
  pub right_cut : (h : Choice) → Counted (cut_answer P h c m d).core (cut_memory_answer P h c m d)
  right_cut h =
      both (is_done (reading_outcome P c m d)) c (cut_in P h c m) m (cut_memory P h c m)
      (λ e. cut_counted P h c m (lent_size P (lent m d) _ e) right) right

-- power-up: counted where it is done, 0 where it is refused
module _ (part : ℕ) (k : Bool) (n : ℕ) (s b a : Bool) (t : ℕ) (m : List ℕ) where
  abbrev given : Answered (Unit {0}) Refusal
  given = powered_up part k n s b a t m

  pub right_power_up : power_up_number part n m ≡ 0 → Counted given.core m
  unfolding pick
  right_power_up = by (eqb (length m) (part_of part).size) (is_part part) (cycle_fits (part_of part) n)
    where
      by : (u v w : Bool) → ◌≡◌ {A = ℕ} (pick u (pick v (pick w 0 6) 2) 1) 0
          → Counted (pick u (pick v (pick w (record { answer = no_refusal; core = idle part k s b a n t (blanks m) }) (not_powered CycleLength))
          (not_powered RecordRange)) (not_powered MemoryLength)).core m
      by true true true e = refl
      by true true false e = absurd (omega arith)
      by true false w e = absurd (omega arith)
      by false v w e = absurd (omega arith)

  pub refused_power_up : (power_up_number part n m ≡ 0 → ⊥) → given.core ≡ unpowered
  unfolding pick
  refused_power_up = by (eqb (length m) (part_of part).size) (is_part part) (cycle_fits (part_of part) n)
    where
      by : (u v w : Bool) → (◌≡◌ {A = ℕ} (pick u (pick v (pick w 0 6) 2) 1) 0 → ⊥)
          → (pick u (pick v (pick w (record { answer = no_refusal; core = idle part k s b a n t (blanks m) }) (not_powered CycleLength))
          (not_powered RecordRange)) (not_powered MemoryLength)).core ≡ unpowered
      by true true true e = absurd (e refl)
      by true true false e = refl
      by true false w e = refl
      by false v w e = refl

-- ---- the frame model

after_blank : (P : Part) (ran w : Bool) (c : Core) (s : List ℕ) (n : ℕ) → (after P ran w c s n).blank ≡ c.blank
after_blank P ran w c s n =
    pick_case (λ (x : Core). x.blank ≡ c.blank) (is_executed (judged P ran w c s n))
    (λ e. effect_blank P (instruction P s) (address P s) (get_or s 1 0) (written P s) c) (λ e. refl)

module _ (P : Part) where
  -- a frame, refused or not; it leaves the memory
  pub right_frame : (c : Core) (m d : List ℕ) (w : Bool) (s : List ℕ) (n room : ℕ) → Counted c m → Counted (framed P c m d w s n room).core m
  unfolding framed
  right_frame c m d w s n room right =
      pick_case (λ (x : Core). Counted x m) (is_done (frame_outcome P c (length m) (length d) (length s) n room))
      (λ e. after_blank P (running c) w c s n ∙ right) (λ e. right)

  -- a frame or a reading, and any list of them
  acted_right : (a : Act) (b : FrameBench) → length b.memory ≡ P.size → Counted b.core b.memory → Counted (acted P a b).core (acted P a b).memory
  acted_right (frame w s n) b size right = after_blank P (running b.core) w b.core s n ∙ right
  acted_right (reading t) b size right = timed_counted P t b.core b.memory size right

  acted_size : (a : Act) (b : FrameBench) → length b.memory ≡ P.size → length (acted P a b).memory ≡ P.size
  acted_size (frame w s n) b size = size
  acted_size (reading t) b size = timed_length waits_page P t b.core b.memory ∙ size

  pub right_acts : (acts : List Act) (b : FrameBench) → length b.memory ≡ P.size → Counted b.core b.memory
      → Counted (acted_all P acts b).core (acted_all P acts b).memory
  right_acts [] b size right = right
  right_acts (a ∷ acts) b size right = right_acts acts (acted P a b) (acted_size a b size) (acted_right a b size right)

  -- a frame with readings inside, any list of them, and the call, refused or not
  right_kept : Keeps P (λ b. (length b.memory ≡ P.size) × Counted b.core b.memory)
  right_kept =
      record {
        reads = λ t b k. (acted_size (reading t) b k.0, acted_right (reading t) b k.0 k.1);
        deselects = λ ran w s n b h k. (k.0, after_blank P ran w b.core s n ∙ k.1);
        cuts = λ h b k. (cut_length P h b.core waits_page b.memory ∙ k.0, cut_counted P h b.core b.memory k.0 k.1);
      }

  pub right_timed_acts : (acts : List TimedAct) (b : FrameBench) → length b.memory ≡ P.size → Counted b.core b.memory
      → Counted (acted_all_in_time P acts b).core (acted_all_in_time P acts b).memory
  right_timed_acts acts b size right = (acted_all_in_time_keeps right_kept acts b (size, right)).1

  pub right_timed_frame : (c : Core) (m : Lent) (w : Bool) (s : List ℕ) (n : ℕ) (ps ts : List ℕ) (room : ℕ) → Counted c m.memory
      → Counted (framed_in_time P c m w s n ps ts room).core (in_time_left P c m w s n ps ts room).memory
  unfolding framed_in_time in_time_left
  right_timed_frame c m w s n ps ts room right =
      pick_case (λ (b : FrameBench). Counted b.core b.memory) (is_done (in_time_outcome P c m s n ps ts room))
      (λ e. (left_by_keeps right_kept ps ts (frame_bench c m.memory m.identification) w s n (lent_size P m _ e, right)).1) (λ e. right)

  -- a driver's run, whatever it answers
  pub right_driven : (c : Core) (m i : List ℕ) (a : ℕ) (bytes : List ℕ) (interval limit : ℕ) → Counted c m
      → Counted (driven P c m i a bytes interval limit).core (driven_memory P c m i a bytes interval limit)
  unfolding driven driven_memory
  right_driven c m i a bytes interval limit right =
      let left = acted_all P (run P interval limit a bytes (frame_bench c m i)).acts (frame_bench c m i) in
      both (is_done (drive_outcome P c (length m) (length i) a (length bytes) interval limit)) c left.core m left.memory
      (λ e. right_acts (run P interval limit a bytes (frame_bench c m i)).acts (frame_bench c m i)
      (lent_size P (lent m i) _ e) right) right

-- ---- the pin model

abbrev reads : Event → Bool
reads (S level) = false
reads (C level) = false
reads (D level) = false
reads (W level) = false
reads (Hold level) = false
reads (Time t) = true

module _ (P : Part) (x : Device) where
  -- every event but a reading leaves it
  pub still : (m : Lent) (e : Event) → reads e ≡ false → (stepped P m e x).core.blank ≡ x.core.blank
  still =
      stepped_core P x (λ e c. reads e ≡ false → c.blank ≡ x.core.blank) (λ e n h. refl)
      (λ s e h. effect_blank P (decode P x.frame.code) x.frame.address x.frame.value x.frame.latch x.core)
      (λ t m h. absurd (true≢false h))

  pub right_event : (m : Lent) → length m.memory ≡ P.size → Counted x.core m.memory → (e : Event)
      → Counted (stepped P m e x).core (stepped_memory P e x m.memory)
  unfolding on_time
  right_event m size right (S level) = still m (S level) refl ∙ right
  right_event m size right (C level) = still m (C level) refl ∙ right
  right_event m size right (D level) = still m (D level) refl ∙ right
  right_event m size right (W level) = still m (W level) refl ∙ right
  right_event m size right (Hold level) = still m (Hold level) refl ∙ right
  right_event m size right (Time t) = timed_counted P t x.core m.memory size right

  -- the calls that set a pin: S, D, W and HOLD, and C, which is lent the memory and leaves it; refused or not
  pub right_pin : (m : Lent) (e : Event) → reads e ≡ false → (n : List ℕ) → Counted x.core n
      → Counted (answer (record_outcome P x) (stepped P m e x) x).device.core n
  right_pin m e h n right =
      pick_case (λ (y : Device). Counted y.core n) (is_done (record_outcome P x)) (λ d. still m e h ∙ right) (λ d. right)

  pub right_clock_pin : (m : Lent) (level : Bool) → Counted x.core m.memory
      → Counted (answer (memory_outcome P x m) (stepped P m (C level) x) x).device.core m.memory
  right_clock_pin m level right =
      pick_case (λ (y : Device). Counted y.core m.memory) (is_done (memory_outcome P x m)) (λ d. still m (C level) refl ∙ right) (λ d. right)

  -- the call that reads the clock
  pub right_read_clock : (m : Lent) (t : ℕ) → Counted x.core m.memory
      → Counted (answer (memory_outcome P x m) (stepped P m (Time t) x) x).device.core
      (answer_memory (memory_outcome P x m) (timed_memory P t x.core m.memory) m.memory)
  right_read_clock m t right =
      both_devices (is_done (memory_outcome P x m)) x (stepped P m (Time t) x) m.memory (timed_memory P t x.core m.memory)
      (λ e. right_event m (lent_size P m _ e) right (Time t)) right

  -- the supply cut
  pub right_device_cut : (m : Lent) (h : Choice) → Counted x.core m.memory
      → Counted (answer (memory_outcome P x m) (cut_device P h m.memory x) x).device.core
      (answer_memory (memory_outcome P x m) (cut_memory P h x.core m.memory) m.memory)
  right_device_cut m h right =
      both_devices (is_done (memory_outcome P x m)) x (cut_device P h m.memory x) m.memory (cut_memory P h x.core m.memory)
      (λ e. cut_counted P h x.core m.memory (lent_size P m _ e) right) right

module _ (P : Part) where
  -- any list of events
  pub right_events : (es : List ℕ) (b : PinBench) → length b.memory ≡ P.size → Counted b.device.core b.memory
      → Counted (played P es b).device.core (played P es b).memory
  unfolding played
  right_events [] b size right = right
  right_events (e ∷ es) b size right =
      right_events es (after_event P e b) (event_length waits_page P b.device b.memory (event_of e) ∙ size)
      (right_event P b.device (lent_to b) size right (event_of e))

  -- the call that plays one, refused or not
  pub right_play : (x : Device) (m : Lent) (es d : List ℕ) → Counted x.core m.memory
      → Counted (play_answer P x m es d).device.core (play_memory P x m es d)
  right_play x m es d right =
      let left = played P es (bench_with x m) in
      both_devices (is_done (play_outcome P x m es (length d))) x left.device m.memory left.memory
      (λ e. right_events es (bench_with x m) (lent_size P m _ e) right) right

-- ---- import: counted afresh where it is done, whatever the number was

pub right_import : (P : Part) (c : Core) (m t : List ℕ) → Counted c m → Counted (import_answer P c m t).core (import_memory P c m t)
unfolding pick
right_import P c m t right = by (eqb (length m) (own_part c).size) (in_ranges (own_part c) c) (takes P c t)
  where
    by : (u v w : Bool)
        → Counted
        (pick u (pick v (pick w (imported_to (Ok tt) (with_blank (blanks (imported_cells P m t)) c)) (imported_to (Err hex.NotTaken) c))
        (imported_to (Err (hex.Refused RecordRange)) c)) (imported_to (Err (hex.Refused MemoryLength)) c)).core
        (pick u (pick v (pick w (imported_cells P m t) m) m) m)
    by true true true = refl
    by true true false = right
    by true false w = right
    by false v w = right

-- ---- a trace text: it starts with a right number (player's `start-counted`), and a chunk hands one back, refused or not

pub right_feed : (p : Player) (m : Lent) (x d : List ℕ) → Counted p.device.core m.memory
    → Counted (feed_answer p m x d).player.device.core (feed_memory p m x d)
unfolding pick played_lines
right_feed p m x d right =
    by (lent_fits P (length m.memory) (length m.identification)) (player_fits p) (leb (room (length x)) (length d)) (λ e. lent_memory P _ _ e)
  where
    P : Part
    P = device_part p.device

    chunk : length m.memory ≡ (device_part p.device).size → Counted (chunk_bench p m x).device.core (chunk_bench p m x).memory
    chunk size = right_events (device_part p.device) (found p.line x) (bench_with p.device m) size right

    by : (u v w : Bool) → (u ≡ true → length m.memory ≡ (device_part p.device).size)
        → Counted
        (pick u (pick v (pick w (taken_by p m x) (refused_to OutputLength p)) (refused_to RecordRange p)) (refused_to MemoryLength p)).player.device.core
        (pick u (pick v (pick w (chunk_bench p m x).memory m.memory) m.memory) m.memory)
    by true true true size = chunk (size refl)
    by true true false size = right
    by true false w size = right
    by false v w size = right
