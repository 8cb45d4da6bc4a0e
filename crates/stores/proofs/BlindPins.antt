-- Of devices that are equal but for the number of blank cells every event gives what is equal but for it, with the same Q and the same lent cells; so does any
-- list of events.
use mathlib.Core.Path.{◌≡◌, refl, ap, ap₂, sym, ◌∙◌}
use mathlib.Core.Bool.{Bool, false, ◌&&◌}
use mathlib.Core.List.{List, [], ◌∷◌}
use Prim.Native.Nat.{ℕ, ◌+◌}
use lib.Dec.{eqb, leb, ltb}
use Rattle.laws.specs.Pick.{pick, pick_ap}
use Rattle.codes.specs.Part.{Part}
use Rattle.codes.specs.Status.{bit, on}
use Rattle.codes.specs.Instructions.{decode}
use Rattle.codes.specs.Output.{outputs}
use Rattle.codes.specs.Verdicts.{is_executed}
use Rattle.codes.specs.declared.Instruction.{Instruction}
use Rattle.codes.specs.declared.Instruction.TheVariants.{Wren, Wrdi, Rdsr, Wrsr, Read, Write, Rdid, Wrid, Silence}
use Rattle.chip.specs.declared.Core.{Core}
use Rattle.chip.specs.declared.Waiting.{Waiting}
use Rattle.chip.specs.Lents.{Lent}
use Rattle.chip.specs.Records.{running, waits_page, waits_identification, with_blank}
use Rattle.chip.specs.Time.{timed}
use Rattle.chip.proofs.Recounts.{effect_renumbered, timed_renumbered, timed_cells_equal}
use Rattle.edges.specs.declared.Frame.{Frame}
use Rattle.edges.specs.declared.Level.{Level}
use Rattle.edges.specs.Frames.{no_frame, with_out}
use Rattle.edges.specs.Rising.{risen}
use Rattle.edges.specs.Falling.{loading, fallen, level_number}
use Rattle.pins.specs.declared.Device.{Device}
use Rattle.pins.specs.declared.Event.{Event}
use Rattle.pins.specs.declared.Event.TheVariants.{S, C, D, W, Hold, Time}
use Rattle.pins.specs.Devices.{with_s, with_c, with_pins, with_held, with_frame, with_core, counting, q}
use Rattle.pins.specs.Events.{selecting, deselecting, judged_now, executed_now, decided, renewed, raising, lowering, on_s, on_c, on_d, on_w, on_hold, on_time}
use Rattle.pins.specs.Events.{stepped, stepped_cells, stepped_memory, stepped_identification, event_of}
use Rattle.pins.specs.Answers.{PinBench, lent_to, after_event, played}
use Rattle.lists.specs.Answers.{played_q}
use Rattle.stores.specs.Blind.{unnumbered, DeviceEqualBut, PinBenchEqualBut}

-- ---- an event of a device whose number is 0

loading_unnumbered : (P : Part) (m : Lent) (c : Core) (i : Instruction) (f : Frame) → loading P m (with_blank 0 c) i f ≡ loading P m c i f
loading_unnumbered P m c Wren f = refl
loading_unnumbered P m c Wrdi f = refl
loading_unnumbered P m c Rdsr f = refl
loading_unnumbered P m c Wrsr f = refl
loading_unnumbered P m c Read f = refl
loading_unnumbered P m c Write f = refl
loading_unnumbered P m c Rdid f = refl
loading_unnumbered P m c Wrid f = refl
loading_unnumbered P m c Silence f = refl

fallen_unnumbered : (P : Part) (m : Lent) (c : Core) (f : Frame) → fallen P m (with_blank 0 c) f ≡ fallen P m c f
unfolding fallen
fallen_unnumbered P m c f =
    ap (λ (g : Frame). pick (outputs P (decode P f.code) f.taken (on f.ran))
    (pick (leb 1 f.shown && ltb f.shown 8) (with_out f.out (f.shown + 1) f) g) f)
    (loading_unnumbered P m c (decode P f.code) f)

module _ (P : Part) (x : Device) where
  decided_unnumbered : decided P (unnumbered x) ≡ with_blank 0 (decided P x)
  decided_unnumbered =
      let t = is_executed (judged_now P x) in
      ap (λ (c : Core). pick t c (with_blank 0 x.core))
      (effect_renumbered P (decode P x.frame.code) x.frame.address x.frame.value x.frame.latch x.core 0)
      ∙ sym (pick_ap (with_blank 0) t (executed_now P x) x.core)

  s_unnumbered : (level : Bool) → on_s P level (unnumbered x) ≡ unnumbered (on_s P level x)
  unfolding on_s
  s_unnumbered level =
      let same = eqb x.pins.s (bit level) in
      ap (λ (c : Core). pick same (unnumbered x)
      (pick level (with_pins (with_s 1 x.pins) (with_held false (with_frame no_frame (with_core c x)))) (selecting (unnumbered x)))) decided_unnumbered
      ∙ ap (pick same (unnumbered x)) (sym (pick_ap unnumbered level (deselecting P x) (selecting x)))
      ∙ sym (pick_ap unnumbered same x (pick level (deselecting P x) (selecting x)))

  raising_unnumbered : raising P (unnumbered x) ≡ unnumbered (raising P x)
  raising_unnumbered =
      let f : Device → Device = λ (y : Device). with_pins (with_c 1 x.pins) y in
      ap f (sym (pick_ap unnumbered (counting x) (with_frame (risen P (running x.core) x.pins.d x.frame) x) x))

  lowering_unnumbered : (m : Lent) → lowering P m (unnumbered x) ≡ unnumbered (lowering P m x)
  lowering_unnumbered m =
      let f : Device → Device = λ (y : Device). renewed (with_pins (with_c 0 x.pins) y) in
      ap (λ (g : Frame). f (pick (counting x) (with_frame g (unnumbered x)) (unnumbered x))) (fallen_unnumbered P m x.core x.frame)
      ∙ ap f (sym (pick_ap unnumbered (counting x) (with_frame (fallen P m x.core x.frame) x) x))

  c_unnumbered : (level : Bool) (m : Lent) → on_c P level m (unnumbered x) ≡ unnumbered (on_c P level m x)
  unfolding on_c
  c_unnumbered level m =
      let same = eqb x.pins.c (bit level) in
      ap₂ (λ (y z : Device). pick same (unnumbered x) (pick level y z)) raising_unnumbered (lowering_unnumbered m)
      ∙ ap (pick same (unnumbered x)) (sym (pick_ap unnumbered level (raising P x) (lowering P m x)))
      ∙ sym (pick_ap unnumbered same x (pick level (raising P x) (lowering P m x)))

  hold_unnumbered : (level : Bool) → on_hold level (unnumbered x) ≡ unnumbered (on_hold level x)
  unfolding on_hold
  hold_unnumbered level = sym (pick_ap unnumbered (on x.pins.c) _ _)

-- ---- each event, the lent cells after it, and Q

module _ (P : Part) (x y : Device) (h : DeviceEqualBut x y) where
  time_blind : (t : ℕ) (m : List ℕ) → DeviceEqualBut (on_time P t m x) (on_time P t m y)
  unfolding on_time
  time_blind t m =
      sym (ap (λ (c : Core). with_core c x) (timed_renumbered t x.core 0))
      ∙ ap (λ (z : Device). with_core (timed t z.core) z) h
      ∙ ap (λ (c : Core). with_core c y) (timed_renumbered t y.core 0)

  pub event_blind : (m : Lent) (e : Event) → DeviceEqualBut (stepped P m e x) (stepped P m e y)
  unfolding on_d on_w
  event_blind m (S level) = sym (s_unnumbered P x level) ∙ ap (on_s P level) h ∙ s_unnumbered P y level
  event_blind m (C level) = sym (c_unnumbered P x level m) ∙ ap (on_c P level m) h ∙ c_unnumbered P y level m
  event_blind m (D level) = ap (on_d level) h
  event_blind m (W level) = ap (on_w level) h
  event_blind m (Hold level) = sym (hold_unnumbered P x level) ∙ ap (on_hold level) h ∙ hold_unnumbered P y level
  event_blind m (Time t) = time_blind t m.memory

  pub event_cells_blind : (its : Waiting → Bool) (m : List ℕ) (e : Event) → stepped_cells its P e x m ≡ stepped_cells its P e y m
  event_cells_blind its m (S level) = refl
  event_cells_blind its m (C level) = refl
  event_cells_blind its m (D level) = refl
  event_cells_blind its m (W level) = refl
  event_cells_blind its m (Hold level) = refl
  event_cells_blind its m (Time t) = timed_cells_equal its P t x.core y.core (ap (λ (z : Device). z.core) h) m

pub q_blind : (x y : Device) → DeviceEqualBut x y → q x ≡ q y
unfolding q
q_blind x y h = ap q h

-- ---- any list of events

module _ (P : Part) where
  next_blind : (e : ℕ) (b d : PinBench) → PinBenchEqualBut b d → PinBenchEqualBut (after_event P e b) (after_event P e d)
  next_blind e b d h =
      record {
        device =
            event_blind P b.device d.device h.device (lent_to b) (event_of e)
            ∙ ap₂ (λ (m i : List ℕ). unnumbered (stepped P (record { memory = m; identification = i }) (event_of e) d.device)) h.memory
            h.identification;
        memory =
            event_cells_blind P b.device d.device h.device waits_page b.memory (event_of e)
            ∙ ap (stepped_memory P (event_of e) d.device) h.memory;
        identification =
            event_cells_blind P b.device d.device h.device waits_identification b.identification (event_of e)
            ∙ ap (stepped_identification P (event_of e) d.device) h.identification;
      }

  pub events_blind : (es : List ℕ) (b d : PinBench) → PinBenchEqualBut b d → PinBenchEqualBut (played P es b) (played P es d)
  unfolding played
  events_blind [] b d h = h
  events_blind (e ∷ es) b d h = events_blind es (after_event P e b) (after_event P e d) (next_blind e b d h)

  pub events_q_blind : (es : List ℕ) (b d : PinBench) → PinBenchEqualBut b d → played_q P es b ≡ played_q P es d
  unfolding played_q
  events_q_blind [] b d h = refl
  events_q_blind (e ∷ es) b d h =
      let next = next_blind e b d h in
      ap₂ (λ (l : Level) (rest : List ℕ). level_number l ∷ rest) (q_blind (after_event P e b).device (after_event P e d).device next.device)
      (events_q_blind es (after_event P e b) (after_event P e d) next)
