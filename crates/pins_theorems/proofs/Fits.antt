-- Every event leaves a device inside its ranges inside them, and so do a list of events and power-up.
use mathlib.Core.Path.{◌≡◌, refl, ap, sym, ◌∙◌}
use mathlib.Core.List.{List, [], ◌∷◌}
use mathlib.Core.Bool.{Bool, true, not, ◌&&◌, true≢false}
use Prim.Native.Nat.{ℕ, ◌+◌, ◌-◌, ◌/◌, ◌%◌, ◌≤◌}
use native.Mathlib.Omega.{arith}
use lib.ListN.{length, length-set, length-replicate}
use lib.Dec.{eqb, leb, ltb}
use borrow.Author.Tests.{le-leb, lt-ltb, ltb-true, eq-eqb}
use Rattle.laws.specs.Pick.{pick, at_yes, pick_case, and_left}
use Rattle.laws.specs.And.{and_5_out, and_5_in, or_left}
use Rattle.codes.specs.Part.{Part, room_words}
use Rattle.codes.specs.Status.{bit, on}
use Rattle.latch.specs.Latches.{zeros}
use Rattle.chip.specs.Lents.{Lent}
use Rattle.chip.specs.Records.{own_part, running}
use Rattle.chip.specs.Power.{delivered}
use Rattle.codes.specs.Instructions.{decode, picks_lock}
use Rattle.chip.specs.Time.{elapsed, ends, timed}
use Rattle.codes.specs.Refusals.{is_done}
use Rattle.chip.specs.declared.Core.{Core}
use Rattle.codes.specs.Refusals.{Outcome}
use Rattle.codes.specs.declared.Instruction.{Instruction}
use Rattle.codes.specs.declared.Instruction.TheVariants.{Wren, Wrdi, Rdsr, Wrsr, Read, Write, Rdid, Wrid, Silence}
use Rattle.chip.proofs.Within.{Within}
use Rattle.chip.proofs.Recounts.{timed_in_within}
use Rattle.chip.proofs.Cases.{powered_within, delivered_within}
use Rattle.pins.specs.declared.Pins.{Pins}
use Rattle.edges.specs.declared.Frame.{Frame}
use Rattle.pins.specs.declared.Device.{Device}
use Rattle.pins.specs.declared.Event.{Event}
use Rattle.pins.specs.declared.Event.TheVariants.{S, C, D, W, Hold, Time}
use Rattle.pins.specs.Devices.{with_s, with_c, with_d, with_w, with_hold, with_pins, with_frame, resting, selected, counting, device_part}
use Rattle.edges.specs.Frames.{no_frame, with_byte}
use Rattle.edges.specs.Rising.{shifted_in, taking, whole_byte, risen}
use Rattle.codes.specs.Output.{outputs}
use Rattle.edges.specs.Falling.{fallen}
use Rattle.pins.specs.Ranges.{pins_fit, held_fits, ran_fits, device_fits}
use Rattle.pins.specs.Events.{selecting, deselecting, renewed, raising, lowering, on_s, on_c, on_d, on_w, on_hold, on_time, stepped, event_of}
use Rattle.pins.specs.Answers.{PinBench, lent_to, answer, after_event, played, powered}
use Rattle.pins_theorems.proofs.Parts.{Fits, parts, device_fits_law}
use Rattle.laws.specs.Flags.{on_bit, bit_small}
use Rattle.codes.proofs.Sound.{Sound, sound_of}
use Rattle.pins_theorems.proofs.Held.{hold_small, low_or_high, renewed_fits, held_small}
use Rattle.pins_theorems.proofs.Untouched.{taking_same, loading_same}
use Rattle.pins_theorems.proofs.Edges.{empty_frame, risen_fits, fallen_fits}
use Rattle.pins_theorems.proofs.Deciding.{tie_out, tie_in, decided_within}

-- ---- the pins, one set to v

module _ (p : Pins) (v : ℕ) (small : v ≤ 1) (fits : pins_fit p ≡ true) where
  levels : (leb p.s 1 ≡ true) × ((leb p.c 1 ≡ true) × ((leb p.d 1 ≡ true) × ((leb p.w 1 ≡ true) × (leb p.hold 1 ≡ true))))
  levels = and_5_out (leb p.s 1) (leb p.c 1) (leb p.d 1) (leb p.w 1) (leb p.hold 1) fits

  s_set : pins_fit (with_s v p) ≡ true
  s_set =
      and_5_in (leb v 1) (leb p.c 1) (leb p.d 1) (leb p.w 1) (leb p.hold 1) (le-leb _ _ small) levels.1.0 levels.1.1.0
      levels.1.1.1.0 levels.1.1.1.1

  c_set : pins_fit (with_c v p) ≡ true
  c_set =
      and_5_in (leb p.s 1) (leb v 1) (leb p.d 1) (leb p.w 1) (leb p.hold 1) levels.0 (le-leb _ _ small) levels.1.1.0 levels.1.1.1.0
      levels.1.1.1.1

  d_set : pins_fit (with_d v p) ≡ true
  d_set =
      and_5_in (leb p.s 1) (leb p.c 1) (leb v 1) (leb p.w 1) (leb p.hold 1) levels.0 levels.1.0 (le-leb _ _ small) levels.1.1.1.0
      levels.1.1.1.1

  w_set : pins_fit (with_w v p) ≡ true
  w_set =
      and_5_in (leb p.s 1) (leb p.c 1) (leb p.d 1) (leb v 1) (leb p.hold 1) levels.0 levels.1.0 levels.1.1.0 (le-leb _ _ small)
      levels.1.1.1.1

  hold_set : pins_fit (with_hold v p) ≡ true
  hold_set =
      and_5_in (leb p.s 1) (leb p.c 1) (leb p.d 1) (leb p.w 1) (leb v 1) levels.0 levels.1.0 levels.1.1.0 levels.1.1.1.0
      (le-leb _ _ small)

-- a cycle that runs after a reading ran before it
ran_before : (P : Part) (r : ℕ) (c : Core) → running (timed r c) ≡ true → running c ≡ true
unfolding timed
ran_before P r c =
    pick_case (λ (d : Core). running d ≡ true → running c ≡ true) (ends r c) (λ e h. absurd (true≢false (sym h)))
    (λ e h. lt-ltb 0 c.left (omega (arith, ltb-true 0 (c.left - elapsed c.last r) h)))

-- ---- each event

module _ (P : Part) (sound : Sound P) (x : Device) (t : Fits P x) where
  low : x.pins.hold ≤ 1
  low = hold_small x.pins t.pins

  d_fits : (level : Bool) → Fits P (on_d level x)
  unfolding on_d
  d_fits level =
      record {
        pins =
            d_set x.pins (bit level) (bit_small level) t.pins;
        held = t.held;
        frame = t.frame;
        empty = t.empty;
        ran = t.ran;
        core = t.core;
      }

  w_fits : (level : Bool) → Fits P (on_w level x)
  unfolding on_w
  w_fits level =
      record {
        pins =
            w_set x.pins (bit level) (bit_small level) t.pins;
        held = t.held;
        frame = t.frame;
        empty = t.empty;
        ran = t.ran;
        core = t.core;
      }

  -- while C is high HOLD does not matter to held
  high_held : (v : ℕ) → on x.pins.c ≡ true → held_fits (with_hold v x.pins) x.held ≡ true
  high_held v c =
      pick_case (λ (b : Bool). b ≡ true) (on x.pins.s) (λ s. sym (at_yes _ _ s) ∙ t.held)
      (λ s. at_yes _ _ c ∙ le-leb _ _ (held_small x.pins x.held t.held))

  hold_fits : (level : Bool) → Fits P (on_hold level x)
  unfolding on_hold
  hold_fits level =
      let p = hold_set x.pins (bit level) (bit_small level) t.pins in
      pick_case (Fits P) (on x.pins.c)
      (λ c. record { pins = p; held = high_held (bit level) c; frame = t.frame; empty = t.empty; ran = t.ran; core = t.core })
      (λ c. record {
        pins = p;
        held = renewed_fits (with_hold (bit level) x.pins)
            (bit_small level);
        frame = t.frame;
        empty = t.empty;
        ran = t.ran;
        core = t.core;
      })

  -- ---- S

  select_held : held_fits (with_s 0 x.pins) (bit (not (on x.pins.c) && not (on x.pins.hold))) ≡ true
  unfolding pick
  select_held =
      pick_case (λ (b : Bool). b ≡ true) (on x.pins.c) (λ c. le-leb _ _ (bit_small (not (on x.pins.c) && not (on x.pins.hold))))
      (λ c.
      let one : bit (not (on x.pins.c) && not (on x.pins.hold)) + x.pins.hold ≡ 1 = rw c (low_or_high x.pins.hold low) in
      eq-eqb _ _ one)

  select_fits : Fits P (selecting x)
  select_fits =
      record {
        pins = s_set x.pins 0 (omega arith) t.pins;
        held = select_held;
        frame = empty_frame P;
        empty = refl;
        ran = refl;
        core = t.core;
      }

  deselect_fits : Fits P (deselecting P x)
  unfolding pick
  deselect_fits =
      record {
        pins = s_set x.pins 1 (omega arith) t.pins;
        held = refl;
        frame = empty_frame P;
        empty = refl;
        ran = refl;
        core = decided_within P sound x t;
      }

  s_fits : (level : Bool) → Fits P (on_s P level x)
  unfolding on_s
  s_fits level =
      pick_case (Fits P) (eqb x.pins.s (bit level)) (λ e. t) (λ e. pick_case (Fits P) level (λ l. deselect_fits) (λ l. select_fits))

  -- ---- C

  up_held : held_fits (with_c 1 x.pins) x.held ≡ true
  up_held =
      pick_case (λ (b : Bool). b ≡ true) (on x.pins.s) (λ s. sym (at_yes _ _ s) ∙ t.held)
      (λ s. at_yes _ _ refl ∙ le-leb _ _ (held_small x.pins x.held t.held))

  -- the tie, of the frame after a counted rising edge: a cycle that runs now ran at the eighth edge
  risen_ran : (d : ℕ) → ran_fits (with_frame (risen P (running x.core) d x.frame) x) ≡ true
  unfolding risen whole_byte
  risen_ran d =
      let f = x.frame in
      let v = shifted_in f.partial d in
      let run = running x.core in
      let g : Frame = taking P (decode P f.code) f.taken v (with_byte P f) in
      let kept : Frame → Type 0 = λ g. ran_fits (with_frame g x) ≡ true in
      pick_case kept (ltb f.bits 7) (λ e. t.ran)
      (λ e. pick_case kept (eqb f.taken 0) (λ z. tie_in (eqb (with_byte P f).taken 0) run (on (bit run)) (λ n r. on_bit run ∙ r))
      (λ z. tie_in (eqb g.taken 0) run (on g.ran)
      (λ n r. ap (λ (g : Frame). on g.ran) (taking_same P f.taken v (with_byte P f) (decode P f.code))
      ∙ tie_out (eqb f.taken 0) run (on f.ran) t.ran z r)))

  fallen_ran : (m : Lent) → ran_fits (with_frame (fallen P m x.core x.frame) x) ≡ true
  unfolding fallen
  fallen_ran m =
      let f = x.frame in
      let kept : Frame → Type 0 = λ g. ran_fits (with_frame g x) ≡ true in
      pick_case kept (outputs P (decode P f.code) f.taken (on f.ran))
      (λ o. pick_case kept (leb 1 f.shown && ltb f.shown 8) (λ e. t.ran)
      (λ e. ap (λ (g : Frame). ran_fits (with_frame g x)) (loading_same P m x.core f (decode P f.code)) ∙ t.ran))
      (λ o. t.ran)

  up_fits : length x.frame.latch.marks ≡ room_words → Fits P (raising P x)
  up_fits sized =
      let p = c_set x.pins 1 (omega arith) t.pins in
      pick_case (λ (y : Device). Fits P (with_pins (with_c 1 x.pins) y)) (counting x)
      (λ k. record {
        pins = p;
        held = up_held;
        frame = risen_fits P sound (running x.core) x.pins.d x.frame sized t.frame;
        empty = or_left (selected x) _ (and_left (selected x) (not (on x.held)) k);
        ran = risen_ran x.pins.d;
        core = t.core;
      })
      (λ k. record { pins = p; held = up_held; frame = t.frame; empty = t.empty; ran = t.ran; core = t.core })

  down_fits : (m : Lent) → Fits P (lowering P m x)
  down_fits m =
      let p = c_set x.pins 0 (omega arith) t.pins in
      let h = renewed_fits (with_c 0 x.pins) low in
      pick_case (λ (y : Device). Fits P (renewed (with_pins (with_c 0 x.pins) y))) (counting x)
      (λ k. record {
        pins = p;
        held = h;
        frame = fallen_fits P sound m x.core x.frame t.frame;
        empty = or_left (selected x) _ (and_left (selected x) (not (on x.held)) k);
        ran = fallen_ran m;
        core = t.core;
      })
      (λ k. record { pins = p; held = h; frame = t.frame; empty = t.empty; ran = t.ran; core = t.core })

  c_fits : (m : Lent) (level : Bool) → length x.frame.latch.marks ≡ room_words → Fits P (on_c P level m x)
  unfolding on_c
  c_fits m level sized =
      pick_case (Fits P) (eqb x.pins.c (bit level)) (λ e. t) (λ e. pick_case (Fits P) level (λ l. up_fits sized) (λ l. down_fits m))

  -- ---- time

  time_fits_law : (r : ℕ) (m : List ℕ) → Fits P (on_time P r m x)
  unfolding on_time
  time_fits_law r m =
      let f = x.frame in
      record {
        pins = t.pins;
        held = t.held;
        frame = t.frame;
        empty = t.empty;
        ran =
            tie_in (eqb f.taken 0) (running (timed r x.core)) (on f.ran)
            (λ z h. tie_out (eqb f.taken 0) (running x.core) (on f.ran) t.ran z (ran_before P r x.core h));
        core = timed_in_within P r x.core m t.core;
      }

  event_fits : (m : Lent) → length x.frame.latch.marks ≡ room_words → (e : Event) → Fits P (stepped P m e x)
  event_fits m sized (S level) = s_fits level
  event_fits m sized (C level) = c_fits m level sized
  event_fits m sized (D level) = d_fits level
  event_fits m sized (W level) = w_fits level
  event_fits m sized (Hold level) = hold_fits level
  event_fits m sized (Time r) = time_fits_law r m.memory

-- ---- the length of the latch, which a record of lists does not carry

abbrev pub Sized : Device → Type 0
Sized x = length x.frame.latch.marks ≡ room_words

abbrev marks : Frame → ℕ
marks f = length f.latch.marks

empty_sized : (P : Part) → marks no_frame ≡ room_words
unfolding zeros
empty_sized P = length-replicate {A = ℕ} room_words 0

taking_sized : (P : Part) (n v : ℕ) (f : Frame) (i : Instruction) → marks (taking P i n v f) ≡ marks f
taking_sized P n v f Wren = refl
taking_sized P n v f Wrdi = refl
taking_sized P n v f Rdsr = refl
taking_sized P n v f Wrsr = pick_case (λ (g : Frame). marks g ≡ marks f) (eqb n 1) (λ e. refl) (λ e. refl)
taking_sized P n v f Read = pick_case (λ (g : Frame). marks g ≡ marks f) (leb n P.address_bytes) (λ e. refl) (λ e. refl)
taking_sized P n v f Write =
    pick_case (λ (g : Frame). marks g ≡ marks f) (leb n P.address_bytes) (λ e. refl) (λ e. length-set f.latch.marks (f.address % P.page / 64) _)
taking_sized P n v f Rdid = pick_case (λ (g : Frame). marks g ≡ marks f) (leb n P.address_bytes) (λ e. refl) (λ e. refl)
taking_sized P n v f Wrid =
    pick_case (λ (g : Frame). marks g ≡ marks f) (leb n P.address_bytes) (λ e. refl)
    (λ e. pick_case (λ (g : Frame). marks g ≡ marks f) (picks_lock f.address)
    (λ k. pick_case (λ (g : Frame). marks g ≡ marks f) (eqb n (P.address_bytes + 1)) (λ o. refl) (λ o. refl))
    (λ k. length-set f.latch.marks (f.address % P.page / 64) _))
taking_sized P n v f Silence = refl

risen_sized : (P : Part) (run : Bool) (d : ℕ) (f : Frame) → marks (risen P run d f) ≡ marks f
unfolding risen whole_byte
risen_sized P run d f =
    let same : Frame → Type 0 = λ g. marks g ≡ marks f in
    pick_case same (ltb f.bits 7) (λ e. refl)
    (λ e. pick_case same (eqb f.taken 0) (λ z. refl) (λ z. taking_sized P f.taken (shifted_in f.partial d) (with_byte P f) (decode P f.code)))

fallen_sized : (P : Part) (m : Lent) (c : Core) (f : Frame) → marks (fallen P m c f) ≡ marks f
unfolding fallen
fallen_sized P m c f =
    let same : Frame → Type 0 = λ g. marks g ≡ marks f in
    pick_case same (outputs P (decode P f.code) f.taken (on f.ran))
    (λ o. pick_case same (leb 1 f.shown && ltb f.shown 8) (λ e. refl) (λ e. ap marks (loading_same P m c f (decode P f.code))))
    (λ o. refl)

module _ (P : Part) (x : Device) (sized : Sized x) where
  s_sized : (level : Bool) → Sized (on_s P level x)
  unfolding on_s
  s_sized level =
      pick_case Sized (eqb x.pins.s (bit level)) (λ e. sized) (λ e. pick_case Sized level (λ l. empty_sized P) (λ l. empty_sized P))

  c_sized : (m : Lent) (level : Bool) → Sized (on_c P level m x)
  unfolding on_c
  c_sized m level =
      pick_case Sized (eqb x.pins.c (bit level)) (λ e. sized)
      (λ e. pick_case Sized level
      (λ l. pick_case (λ (y : Device). Sized (with_pins (with_c 1 x.pins) y)) (counting x)
      (λ k. risen_sized P (running x.core) x.pins.d x.frame ∙ sized) (λ k. sized))
      (λ l. pick_case (λ (y : Device). Sized (renewed (with_pins (with_c 0 x.pins) y))) (counting x)
      (λ k. fallen_sized P m x.core x.frame ∙ sized) (λ k. sized)))

  hold_sized : (level : Bool) → Sized (on_hold level x)
  unfolding on_hold
  hold_sized level = pick_case Sized (on x.pins.c) (λ c. sized) (λ c. sized)

  pub stepped_sized : (m : Lent) (e : Event) → Sized (stepped P m e x)
  unfolding on_d on_w on_time
  stepped_sized m (S level) = s_sized level
  stepped_sized m (C level) = c_sized m level
  stepped_sized m (D level) = sized
  stepped_sized m (W level) = sized
  stepped_sized m (Hold level) = hold_sized level
  stepped_sized m (Time r) = sized

-- ---- the ranges are kept

module _ (P : Part) (sound : Sound P) where
  -- by each event ..
  pub stepped_fits : (x : Device) → Sized x → device_fits P x ≡ true → (m : Lent) (e : Event) → device_fits P (stepped P m e x) ≡ true
  stepped_fits x sized h m e = device_fits_law P (stepped P m e x) (event_fits P sound x (parts P x h) m sized e)

  -- .. by any list of them ..
  pub played_sized : (es : List ℕ) (b : PinBench) → Sized b.device → Sized (played P es b).device
  unfolding played
  played_sized [] b sized = sized
  played_sized (e ∷ es) b sized = played_sized es (after_event P e b) (stepped_sized P b.device sized (lent_to b) (event_of e))

  pub played_fits : (es : List ℕ) (b : PinBench) → Sized b.device → device_fits P b.device ≡ true → device_fits P (played P es b).device ≡ true
  unfolding played
  played_fits [] b sized h = h
  played_fits (e ∷ es) b sized h =
      played_fits es (after_event P e b) (stepped_sized P b.device sized (lent_to b) (event_of e)) (stepped_fits b.device sized h (lent_to b) (event_of e))

  -- .. and a device starts inside them, whatever power-up is given
  pub resting_fits : (c : Core) → Within P c → Fits P (resting c)
  unfolding pick
  resting_fits c w = record { pins = refl; held = refl; frame = empty_frame P; empty = refl; ran = refl; core = w }

  -- so a public call that is given a device inside its ranges hands back one, refused or not
  pub answer_fits : (o : Outcome) (x y : Device) → device_fits P x ≡ true → device_fits P y ≡ true → device_fits P (answer o y x).device ≡ true
  answer_fits o x y h k = pick_case (λ (z : Device). device_fits P z ≡ true) (is_done o) (λ e. k) (λ e. h)

-- power-up hands back a device inside the ranges of its own part, refused or not, and of the right lengths
module _ (part : ℕ) (k : Bool) (n : ℕ) (s b a : Bool) (r : ℕ) (m : List ℕ) where
  abbrev powered_one : Device
  powered_one = (powered part k n s b a r m).device

  pub powered_fits : device_fits (device_part powered_one) powered_one ≡ true
  powered_fits =
      device_fits_law (device_part powered_one) powered_one
      (resting_fits (device_part powered_one) (sound_of powered_one.core.part) powered_one.core (powered_within part k n s b a r m))

  pub powered_sized : Sized powered_one
  powered_sized = empty_sized (device_part powered_one)

-- and so is a part as delivered, at rest
module _ (n : ℕ) where
  pub delivered_fits : let x = resting (delivered n) in device_fits (device_part x) x ≡ true
  delivered_fits =
      let x = resting (delivered n) in
      device_fits_law (device_part x) x (resting_fits (device_part x) (sound_of x.core.part) x.core (delivered_within n))

  pub delivered_sized : Sized (resting (delivered n))
  delivered_sized = empty_sized (own_part (delivered n))
