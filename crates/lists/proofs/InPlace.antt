-- An edge of C that moves a few numbers of the device: which, and that this is what the edge does.
use mathlib.Core.Path.{◌≡◌, refl, ap, sym, ◌∙◌}
use mathlib.Core.Bool.{Bool, true, false, not, ◌&&◌}
use Prim.Native.Nat.{ℕ, ◌+◌, ◌%◌, ◌<◌, ◌≤◌}
use lib.Dec.{leb, ltb}
use lib.ListN.{get_or}
use Rattle.laws.specs.Pick.{pick, pick_ap, pick_same, at_no, yes_so, no_so, ne_so, lt_so, ge_so, and_no_right}
use Rattle.codes.specs.Part.{Part}
use Rattle.codes.specs.Status.{bit, on, bit_of}
use Rattle.codes.specs.Verdicts.{is_executed}
use Rattle.chip.specs.Records.{running, status, with_wel}
use Rattle.chip.specs.Effects.{effect}
use Rattle.codes.specs.Instructions.{decode}
use Rattle.chip.specs.Lents.{Lent}
use Rattle.chip.specs.declared.Core.{Core}
use Rattle.latch.specs.declared.Latch.{Latch}
use Rattle.codes.specs.declared.Instruction.{Instruction}
use Rattle.codes.specs.declared.Instruction.TheVariants.{Wren, Wrdi, Rdsr, Wrsr, Read, Write, Rdid, Wrid, Silence}
use Rattle.edges.specs.declared.Frame.{Frame}
use Rattle.pins.specs.declared.Device.{Device}
use Rattle.pins.specs.Devices.{with_c, with_pins, with_frame, with_core, selected, counting, with_held_at}
use Rattle.lists.specs.Ways.{without_frame}
use Rattle.edges.specs.Frames.{with_bits, with_out, with_address}
use Rattle.edges.specs.Rising.{shifted_in, whole_byte, risen}
use Rattle.codes.specs.Output.{outputs}
use Rattle.edges.specs.declared.Level.TheVariants.{Z}
use Rattle.edges.specs.Falling.{loading, fallen, level_of, level_shown, level_number}
use Rattle.pins.specs.Events.{judged_now, decided, renewed, on_s, on_c}

-- ---- the frame over a counted rising edge

module _ (P : Part) (run : Bool) (d : ℕ) (f : Frame) where
  -- not the eighth: one more bit
  pub one_bit : (v : ℕ) → f.bits < 7 → v ≡ shifted_in f.partial d → with_bits (f.bits + 1) v f ≡ risen P run d f
  unfolding risen
  one_bit v h e = lt_so _ h (ap (λ (k : ℕ). with_bits (f.bits + 1) k f) e)

  -- the eighth: a whole byte
  pub eighth : (v : ℕ) → 7 ≤ f.bits → v ≡ shifted_in f.partial d → whole_byte P run v f ≡ risen P run d f
  unfolding risen
  eighth v h e = ge_so _ h (ap (λ (k : ℕ). whole_byte P run k f) e)

-- ---- the frame over an unheld falling edge in data output

module _ (P : Part) (m : Lent) (core : Core) (f : Frame) (o : outputs P (decode P f.code) f.taken (on f.ran) ≡ true) where
  pub next_bit : (leb 1 f.shown && ltb f.shown 8) ≡ true → with_address f.address (with_out f.out (f.shown + 1) f) ≡ fallen P m core f
  unfolding fallen
  next_bit e = yes_so _ o (yes_so _ e refl)

  read_cell : (v a : ℕ) → v ≡ get_or m.memory f.address 0 → a ≡ (f.address + 1) % P.size → with_address a (with_out v 1 f) ≡ loading P m core Read f
  read_cell v a ev ea = ap (λ (k : ℕ). with_address a (with_out k 1 f)) ev ∙ ap (λ (k : ℕ). with_address k (with_out (get_or m.memory f.address 0) 1 f)) ea

  pub next_cell_law : (v a : ℕ) → (leb 1 f.shown && ltb f.shown 8) ≡ false → decode P f.code ≡ Read → v ≡ get_or m.memory f.address 0
      → a ≡ (f.address + 1) % P.size → with_address a (with_out v 1 f) ≡ fallen P m core f
  unfolding fallen
  next_cell_law v a e i ev ea = yes_so _ o (no_so _ e (read_cell v a ev ea ∙ sym (ap (λ (j : Instruction). loading P m core j f) i)))

  -- the status byte
  pub status_byte_law : (v : ℕ) → (leb 1 f.shown && ltb f.shown 8) ≡ false → decode P f.code ≡ Rdsr → v ≡ status core
      → with_address f.address (with_out v 1 f) ≡ fallen P m core f
  unfolding fallen
  status_byte_law v e i ev =
      yes_so _ o (no_so _ e (ap (λ (k : ℕ). with_out k 1 f) ev ∙ sym (ap (λ (j : Instruction). loading P m core j f) i)))

-- ---- the device

module _ (P : Part) (m : Lent) (x : Device) where
  pub up_uncounted : (x.pins.c ≡ 1 → ⊥) → counting x ≡ false → with_pins (with_c 1 x.pins) x ≡ on_c P true m x
  unfolding on_c
  up_uncounted moves e = ne_so _ moves (yes_so _ refl (ap (with_pins (with_c 1 x.pins)) (no_so _ e refl)))

  pub up_counted : (f : Frame) → (x.pins.c ≡ 1 → ⊥) → counting x ≡ true → f ≡ risen P (running x.core) x.pins.d x.frame
      → with_pins (with_c 1 x.pins) (with_frame f x) ≡ on_c P true m x
  unfolding on_c
  up_counted f moves e p = ne_so _ moves (yes_so _ refl (ap (with_pins (with_c 1 x.pins)) (yes_so _ e (ap (λ (g : Frame). with_frame g x) p))))

  pub down : (h : ℕ) (y : Device) → (x.pins.c ≡ 0 → ⊥) → h ≡ bit (selected x && not (on x.pins.hold))
      → y ≡ pick (counting x) (with_frame (fallen P m x.core x.frame) x) x → with_held_at h (with_pins (with_c 0 x.pins) y) ≡ on_c P false m x
  unfolding on_c
  down h y moves e p =
      ne_so _ moves
      (no_so _ refl (ap (λ (k : ℕ). with_held_at k (with_pins (with_c 0 x.pins) y)) e ∙ ap (λ (z : Device). renewed (with_pins (with_c 0 x.pins) z)) p))

  pub down_counted : (h : ℕ) (f : Frame) → (x.pins.c ≡ 0 → ⊥) → h ≡ bit (selected x && not (on x.pins.hold)) → counting x ≡ true
      → f ≡ fallen P m x.core x.frame → with_held_at h (with_pins (with_c 0 x.pins) (with_frame f x)) ≡ on_c P false m x
  down_counted h f moves e t p = down h (with_frame f x) moves e (yes_so _ t (ap (λ (g : Frame). with_frame g x) p))

-- ---- S

-- an instruction that begins no cycle and leaves WEL does nothing to the core
pub quiet : (P : Part) (i : Instruction) (a v : ℕ) (l : Latch) (c : Core) → (i ≡ Wren → ⊥) → (i ≡ Wrdi → ⊥) → (i ≡ Wrsr → ⊥) → (i ≡ Write → ⊥)
    → (i ≡ Wrid → ⊥) → effect P i a v l c ≡ c
quiet P Wren a v l c e d s w i = absurd (e refl)
quiet P Wrdi a v l c e d s w i = absurd (d refl)
quiet P Rdsr a v l c e d s w i = refl
quiet P Wrsr a v l c e d s w i = absurd (s refl)
quiet P Read a v l c e d s w i = refl
quiet P Write a v l c e d s w i = absurd (w refl)
quiet P Rdid a v l c e d s w i = refl
quiet P Wrid a v l c e d s w i = absurd (i refl)
quiet P Silence a v l c e d s w i = refl

module _ (P : Part) (x : Device) (moves : x.pins.s ≡ 1 → ⊥) where
  -- a deselect that leaves the core c
  deselected : (c : Core) → c ≡ decided P x → without_frame 1 0 (with_core c x) ≡ on_s P true x
  unfolding on_s
  deselected c e = ne_so _ moves (yes_so _ refl (ap (λ (k : Core). without_frame 1 0 (with_core k x)) e))

  -- what the instruction i does, if it is executed
  abbrev does : Instruction → Core
  does i = effect P i x.frame.address x.frame.value x.frame.latch x.core

  -- an instruction that leaves the core alone, executed or not
  pub dropped : (i : Instruction) → decode P x.frame.code ≡ i → does i ≡ x.core
      → without_frame 1 0 (with_core (with_wel x.core.wel x.core) x) ≡ on_s P true x
  dropped i e same =
      deselected x.core (sym (ap (λ (k : Core). pick (is_executed (judged_now P x)) k x.core) (ap does e ∙ same) ∙ pick_same _ _))

  -- an instruction that sets WEL to v, if it is executed
  pub enabled : (i : Instruction) (v w : ℕ) → decode P x.frame.code ≡ i → does i ≡ with_wel v x.core
      → w ≡ pick (is_executed (judged_now P x)) v x.core.wel → without_frame 1 0 (with_core (with_wel w x.core) x) ≡ on_s P true x
  enabled i v w e sets h =
      deselected (with_wel w x.core)
      (ap (λ (n : ℕ). with_wel n x.core) h ∙ pick_ap (λ (n : ℕ). with_wel n x.core) (is_executed (judged_now P x)) v x.core.wel
      ∙ ap (λ (k : Core). pick (is_executed (judged_now P x)) k x.core) (sym (ap does e ∙ sets)))

-- ---- Q

-- where no bit is shown, Q is Z
pub none_shown : (s h out : ℕ) → level_number (level_shown s h 0 out) ≡ 2
none_shown s h out =
    ap level_number (at_no (level_of (bit_of 8 out)) Z (and_no_right (not (on s) && not (on h)) false refl))
