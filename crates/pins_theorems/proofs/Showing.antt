-- Q: where it is Z, and which events move it.
use mathlib.Core.Path.{◌≡◌, refl, ap, sym}
use mathlib.Core.List.{List}
use mathlib.Core.Bool.{Bool, true, false, not, ◌&&◌, true≢false}
use Prim.Native.Nat.{ℕ}
use lib.Dec.{eqb, leb, ltb}
use borrow.Author.Tests.{eqb-true}
use Rattle.laws.specs.Pick.{pick, at_no, pick_case, and_right, and_no_left, and_no_right}
use Rattle.laws.specs.And.{never}
use Rattle.codes.specs.Part.{Part}
use Rattle.codes.specs.Status.{bit, on}
use Rattle.chip.specs.Lents.{Lent}
use Rattle.chip.specs.Records.{running}
use Rattle.codes.specs.Instructions.{decode}
use Rattle.edges.specs.declared.Frame.{Frame}
use Rattle.pins.specs.declared.Device.{Device}
use Rattle.edges.specs.declared.Level.TheVariants.{Z}
use Rattle.pins.specs.Devices.{with_c, with_pins, selected, counting, q}
use Rattle.edges.specs.Frames.{with_byte}
use Rattle.edges.specs.Rising.{shifted_in, whole_byte, risen}
use Rattle.codes.specs.Output.{outputs}
use Rattle.pins.specs.Ranges.{device_fits}
use Rattle.pins.specs.Events.{raising, on_s, on_c, on_d, on_w, on_hold, on_time}
use Rattle.pins_theorems.proofs.Parts.{parts}
use Rattle.pins_theorems.proofs.Untouched.{taking_same}

-- ---- Z

module _ (x : Device) where
  unshown : (counting x && leb 1 x.frame.shown) ≡ false → q x ≡ Z
  unfolding q
  unshown e = at_no _ _ e

  pub z_unselected : on x.pins.s ≡ true → q x ≡ Z
  z_unselected e =
      unshown (and_no_left (counting x) (leb 1 x.frame.shown) (and_no_left (selected x) (not (on x.held)) (ap not e)))

  pub z_held : on x.held ≡ true → q x ≡ Z
  z_held e =
      unshown (and_no_left (counting x) (leb 1 x.frame.shown) (and_no_right (selected x) (not (on x.held)) (ap not e)))

  pub z_outside : x.frame.shown ≡ 0 → q x ≡ Z
  z_outside e = unshown (and_no_right (counting x) (leb 1 x.frame.shown) (ap (λ (n : ℕ). leb 1 n) e))

-- no bit shows outside data output
none_shown : (s a b o : Bool) → pick s a (b && o) ≡ true → o ≡ false → s ≡ true
unfolding pick
none_shown true a b o e n = refl
none_shown false a b o e n = absurd (never (and_right b o e) n)

pub z_no_output : (P : Part) (x : Device) → device_fits P x ≡ true → outputs P (decode P x.frame.code) x.frame.taken (on x.frame.ran) ≡ false
    → q x ≡ Z
z_no_output P x fits n =
    let f = x.frame in
    z_outside x (eqb-true _ _ (none_shown (eqb f.shown 0) (eqb f.out 0) (leb f.shown 8) (outputs P (decode P f.code) f.taken (on f.ran))
    (parts P x fits).frame.fields.out n))

-- ---- the events that do not move Q: D, W, a reading and a rising edge, held or not

-- Q goes by "selected and not held", the output byte and its bits shown
pub shows_same : (x y : Device) → counting y ≡ counting x → y.frame.shown ≡ x.frame.shown → y.frame.out ≡ x.frame.out → q y ≡ q x
unfolding q
shows_same x y c s o = rw (c, s, o) refl

pub d_shows : (level : Bool) (x : Device) → q (on_d level x) ≡ q x
unfolding on_d
d_shows level x = shows_same x (on_d level x) refl refl refl

pub w_shows : (level : Bool) (x : Device) → q (on_w level x) ≡ q x
unfolding on_w
w_shows level x = shows_same x (on_w level x) refl refl refl

pub time_shows : (P : Part) (t : ℕ) (m : List ℕ) (x : Device) → q (on_time P t m x) ≡ q x
unfolding on_time
time_shows P t m x = shows_same x (on_time P t m x) refl refl refl

-- a counted rising edge leaves the output byte and its bits shown
module _ (P : Part) (run : Bool) (d : ℕ) (f : Frame) where
  risen_shown : (risen P run d f).shown ≡ f.shown
  unfolding risen whole_byte
  risen_shown =
      pick_case (λ (g : Frame). g.shown ≡ f.shown) (ltb f.bits 7) (λ e. refl)
      (λ e. pick_case (λ (g : Frame). g.shown ≡ f.shown) (eqb f.taken 0) (λ z. refl)
      (λ z. ap (λ (g : Frame). g.shown) (taking_same P f.taken (shifted_in f.partial d) (with_byte P f) (decode P f.code))))

  risen_out : (risen P run d f).out ≡ f.out
  unfolding risen whole_byte
  risen_out =
      pick_case (λ (g : Frame). g.out ≡ f.out) (ltb f.bits 7) (λ e. refl)
      (λ e. pick_case (λ (g : Frame). g.out ≡ f.out) (eqb f.taken 0) (λ z. refl)
      (λ z. ap (λ (g : Frame). g.out) (taking_same P f.taken (shifted_in f.partial d) (with_byte P f) (decode P f.code))))

module _ (P : Part) (m : Lent) (x : Device) where
  up_shows : q (raising P x) ≡ q x
  up_shows =
      pick_case (λ (y : Device). q (with_pins (with_c 1 x.pins) y) ≡ q x) (counting x)
      (λ c. shows_same x _ refl (risen_shown P (running x.core) x.pins.d x.frame) (risen_out P (running x.core) x.pins.d x.frame))
      (λ c. shows_same x _ refl refl refl)

  pub rise_shows : q (on_c P true m x) ≡ q x
  unfolding on_c
  rise_shows =
      pick_case (λ (y : Device). q y ≡ q x) (eqb x.pins.c (bit true)) (λ e. refl)
      (λ e. pick_case (λ (y : Device). q y ≡ q x) true (λ t. up_shows) (λ t. absurd (true≢false t)))

-- ---- S: Z on both sides of a select, and after a deselect

module _ (P : Part) (x : Device) where
  pub select_shows : on x.pins.s ≡ true → q (on_s P false x) ≡ Z
  unfolding on_s
  select_shows s =
      pick_case (λ (y : Device). q y ≡ Z) (eqb x.pins.s (bit false)) (λ e. z_unselected x s)
      (λ e. pick_case (λ (y : Device). q y ≡ Z) false (λ t. absurd (true≢false (sym t))) (λ t. z_outside _ refl))

  pub deselect_shows : q (on_s P true x) ≡ Z
  unfolding on_s
  deselect_shows =
      pick_case (λ (y : Device). q y ≡ Z) (eqb x.pins.s (bit true)) (λ e. z_unselected x e)
      (λ e. pick_case (λ (y : Device). q y ≡ Z) true (λ t. z_unselected _ refl) (λ t. absurd (true≢false t)))

-- ---- HOLD and held leave the frame as it is

pub hold_frame : (level : Bool) (x : Device) → (on_hold level x).frame ≡ x.frame
unfolding on_hold
hold_frame level x = pick_case (λ (y : Device). y.frame ≡ x.frame) (on x.pins.c) (λ c. refl) (λ c. refl)

pub held_frame : (P : Part) (level : Bool) (m : Lent) (x : Device) → on x.held ≡ true → (on_c P level m x).frame ≡ x.frame
unfolding on_c
held_frame P level m x h =
    let uncounted : counting x ≡ false = and_no_right (selected x) (not (on x.held)) (ap not h) in
    pick_case (λ (y : Device). y.frame ≡ x.frame) (eqb x.pins.c (bit level)) (λ e. refl)
    (λ e. pick_case (λ (y : Device). y.frame ≡ x.frame) level (λ t. ap (λ (y : Device). y.frame) (at_no _ _ uncounted))
    (λ t. ap (λ (y : Device). y.frame) (at_no _ _ uncounted)))
