-- A pause: whatever C, D, W and the clock do in it, the same bit shows again when it ends.
use mathlib.Core.Path.{◌≡◌, refl, ap, sym, ◌∙◌, subst}
use mathlib.Core.List.{List, [], ◌∷◌}
use mathlib.Core.Bool.{Bool, true, false, not, ◌&&◌, true≢false}
use Prim.Native.Nat.{ℕ}
use lib.Dec.{eqb}
use borrow.Author.Tests.{not-true}
use Rattle.laws.specs.Pick.{pick, at_yes, at_no, pick_case, and_left, and_right, and_no_right}
use Rattle.laws.specs.And.{never}
use Rattle.codes.specs.Part.{Part}
use Rattle.codes.specs.Status.{bit, on}
use Rattle.chip.specs.Lents.{Lent}
use Rattle.edges.specs.declared.Frame.{Frame}
use Rattle.pins.specs.declared.Device.{Device}
use Rattle.pins.specs.declared.Event.{Event}
use Rattle.pins.specs.declared.Event.TheVariants.{S, C, D, W, Hold, Time}
use Rattle.edges.specs.declared.Level.TheVariants.{Z}
use Rattle.pins.specs.Devices.{with_c, with_hold, with_pins, selected, counting, q}
use Rattle.edges.specs.Falling.{fallen}
use Rattle.pins.specs.Events.{renewed, lowering, on_c, on_d, on_w, on_hold, on_time, stepped, event_of}
use Rattle.pins.specs.Answers.{PinBench, lent_to, after_event, played, pin_bench}
use Rattle.pins_theorems.proofs.Showing.{shows_same, z_held, hold_frame}

-- HOLD raised while C is low
raised : (y : Device) → on y.pins.c ≡ false → on_hold true y ≡ renewed (with_pins (with_hold 1 y.pins) y)
unfolding on_hold
raised y c = at_no _ _ c

raised_counts : (y : Device) → on y.pins.s ≡ false → on y.pins.c ≡ false → counting (on_hold true y) ≡ true
raised_counts y s c = ap counting (raised y c) ∙ rw s refl

-- the end of a pause shows the bit that showed, of any device with the frame as it was
pub resumed : (x y : Device) → counting x ≡ true → y.frame ≡ x.frame → on y.pins.s ≡ false → on y.pins.c ≡ false → q (on_hold true y) ≡ q x
resumed x y k f s c =
    let same : (on_hold true y).frame ≡ x.frame = hold_frame true y ∙ f in
    shows_same x (on_hold true y) (raised_counts y s c ∙ sym k) (ap (λ (g : Frame). g.shown) same) (ap (λ (g : Frame). g.out) same)

-- ---- over any list of events inside the pause

-- the events of a pause: C, D, W and clock readings
abbrev pub pauses : Event → Bool
pauses (S level) = false
pauses (C level) = true
pauses (D level) = true
pauses (W level) = true
pauses (Hold level) = false
pauses (Time t) = true

unfoldable pub all_pause : List ℕ → Bool
all_pause [] = true
all_pause (e ∷ es) = pauses (event_of e) && all_pause es

-- y is a device held in a pause that began at x
pub record Paused (x y : Device) : Type 0 where
  pub frame : y.frame ≡ x.frame
  pub selected : on y.pins.s ≡ false
  pub low : on y.pins.hold ≡ false
  pub held : on y.held ≡ true

module _ (P : Part) (x : Device) where
  edge_pauses : (m : Lent) (level : Bool) (y : Device) → Paused x y → Paused x (on_c P level m y)
  unfolding on_c
  edge_pauses m level y p =
      let uncounted : counting y ≡ false = and_no_right (selected y) (not (on y.held)) (ap not p.held) in
      let s : on y.pins.s ≡ false = p.selected in
      let h : on y.pins.hold ≡ false = p.low in
      pick_case (Paused x) (eqb y.pins.c (bit level)) (λ e. p)
      (λ e. pick_case (Paused x) level
      (λ t. pick_case (λ z. Paused x (with_pins (with_c 1 y.pins) z)) (counting y) (λ k. absurd (never k uncounted))
      (λ k. record { frame = p.frame; selected = s; low = h; held = p.held }))
      (λ t. pick_case (λ z. Paused x (renewed (with_pins (with_c 0 y.pins) z))) (counting y) (λ k. absurd (never k uncounted))
      (λ k. record { frame = p.frame; selected = s; low = h; held = rw (s, h) refl })))

  pub event_pauses : (m : Lent) (e : Event) (y : Device) → pauses e ≡ true → Paused x y → Paused x (stepped P m e y)
  unfolding on_d on_w on_time
  event_pauses m (S level) y h p = absurd (true≢false (sym h))
  event_pauses m (C level) y h p = edge_pauses m level y p
  event_pauses m (D level) y h p = record { frame = p.frame; selected = p.selected; low = p.low; held = p.held }
  event_pauses m (W level) y h p = record { frame = p.frame; selected = p.selected; low = p.low; held = p.held }
  event_pauses m (Hold level) y h p = absurd (true≢false (sym h))
  event_pauses m (Time t) y h p = record { frame = p.frame; selected = p.selected; low = p.low; held = p.held }

  pub list_pauses : (es : List ℕ) (b : PinBench) → all_pause es ≡ true → Paused x b.device → Paused x (played P es b).device
  unfolding all_pause played
  list_pauses [] b h p = p
  list_pauses (e ∷ es) b h p =
      list_pauses es (after_event P e b) (and_right (pauses (event_of e)) (all_pause es) h)
      (event_pauses (lent_to b) (event_of e) b.device (and_left (pauses (event_of e)) (all_pause es) h) p)

  -- HOLD lowered while C is low begins it
  pub begun : counting x ≡ true → on x.pins.c ≡ false → Paused x (on_hold false x)
  unfolding on_hold
  begun k c =
      let s : on x.pins.s ≡ false = not-true _ (and_left (selected x) (not (on x.held)) k) in
      pick_case (Paused x) (on x.pins.c) (λ e. absurd (never e c))
      (λ e. record { frame = refl; selected = s; low = refl; held = rw s refl })

-- the whole pause: Q is Z in it, and shows what it showed when HOLD is raised with C low again
module _ (P : Part) (x : Device) (m i : List ℕ) (es : List ℕ) where
  abbrev pub inside : Device
  inside = (played P es (pin_bench (on_hold false x) m i)).device

  pub pause_z : counting x ≡ true → on x.pins.c ≡ false → all_pause es ≡ true → q inside ≡ Z
  pause_z k c h = z_held inside (list_pauses P x es (pin_bench (on_hold false x) m i) h (begun P x k c)).held

  pub pause_shows : counting x ≡ true → on x.pins.c ≡ false → all_pause es ≡ true → on inside.pins.c ≡ false → q (on_hold true inside) ≡ q x
  pause_shows k c h low =
      let p = list_pauses P x es (pin_bench (on_hold false x) m i) h (begun P x k c) in
      resumed x inside k p.frame p.selected low

-- ---- HOLD moved while C is high: the falling edge begins or ends the pause

module _ (P : Part) (m : Lent) where
  fell : (x : Device) → x.pins.c ≡ 1 → on_c P false m x ≡ lowering P m x
  unfolding on_c pick
  fell x c = at_no _ _ (ap (λ (n : ℕ). eqb n 0) c)

  fell_counted : (x : Device) → counting x ≡ true → (lowering P m x).frame ≡ fallen P m x.core x.frame
  fell_counted x k = ap (λ (y : Device). y.frame) (at_yes _ _ k)

  fell_held : (x : Device) → counting x ≡ false → (lowering P m x).frame ≡ x.frame
  fell_held x k = ap (λ (y : Device). y.frame) (at_no _ _ k)

  hold_high : (level : Bool) (x : Device) → x.pins.c ≡ 1 → on_hold level x ≡ with_pins (with_hold (bit level) x.pins) x
  unfolding on_hold
  hold_high level x c = at_yes _ _ (ap on c)

  after : (level : Bool) (x : Device) → x.pins.c ≡ 1 → on_c P false m (on_hold level x) ≡ lowering P m (with_pins (with_hold (bit level) x.pins) x)
  after level x c = ap (on_c P false m) (hold_high level x c) ∙ fell (with_pins (with_hold (bit level) x.pins) x) c

  -- lowered while C is high: the falling edge still acts, and then the device is held, with the frame that the edge left
  pub begun_late : (x : Device) → counting x ≡ true → x.pins.c ≡ 1 → Paused (on_c P false m x) (on_c P false m (on_hold false x))
  begun_late x k c =
      let y = with_pins (with_hold 0 x.pins) x in
      let s : on x.pins.s ≡ false = not-true _ (and_left (selected x) (not (on x.held)) k) in
      subst (Paused (on_c P false m x)) (sym (after false x c))
      (record {
        frame = fell_counted y k ∙ sym (ap (λ (z : Device). z.frame) (fell x c) ∙ fell_counted x k);
        selected = s;
        low = refl;
        held = rw s refl;
      })

  -- raised while C is high: the falling edge moves nothing, and the same bit shows from then on
  pub resumed_late : (x y : Device) → counting x ≡ true → Paused x y → y.pins.c ≡ 1 → q (on_c P false m (on_hold true y)) ≡ q x
  resumed_late x y k p c =
      let z = with_pins (with_hold 1 y.pins) y in
      let s : on y.pins.s ≡ false = p.selected in
      let counts : counting (lowering P m z) ≡ true = rw s refl in
      let same : (lowering P m z).frame ≡ x.frame = fell_held z (and_no_right (selected y) (not (on y.held)) (ap not p.held)) ∙ p.frame in
      ap q (after true y c)
      ∙ shows_same x (lowering P m z) (counts ∙ sym k) (ap (λ (g : Frame). g.shown) same) (ap (λ (g : Frame). g.out) same)
