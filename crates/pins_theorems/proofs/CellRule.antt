-- Demand 2's cell rule over events: only a clock reading that ends a cycle changes a cell, and only one that an executed write has marked.
use mathlib.Core.Path.{◌≡◌, refl, ap, sym, ◌∙◌}
use mathlib.Core.List.{List, [], ◌∷◌}
use mathlib.Core.Bool.{Bool, true, false, not, ◌&&◌}
use Prim.Native.Nat.{ℕ, ◌<◌}
use lib.ListN.{length, get_or}
use lib.Dec.{eqb}
use Rattle.laws.specs.Pick.{pick, at_no, pick_case, and_both, and_no_right}
use Rattle.laws.specs.And.{and_other, or_none_out}
use Rattle.codes.specs.Part.{Part}
use Rattle.codes.specs.Status.{bit, on}
use Rattle.latch.specs.Latches.{byte_at}
use Rattle.codes.specs.Instructions.{decode}
use Rattle.codes.specs.Verdicts.{is_executed}
use Rattle.chip.specs.Lents.{Lent}
use Rattle.chip.specs.Cells.{Cells, memory_cells, identification_cells, cell_count, theirs, offset, awaited_in}
use Rattle.chip.specs.declared.Waiting.{Waiting}
use Rattle.chip.specs.declared.Core.{Core}
use Rattle.chip.proofs.Within.{Within}
use Rattle.chip.proofs.Passing.{timed_length, lent_rule}
use Rattle.chip.proofs.Awaiting.{effect_awaits, timed_awaits}
use Rattle.codes.proofs.Sound.{Sound}
use Rattle.pins.specs.declared.Device.{Device}
use Rattle.pins.specs.declared.Event.{Event}
use Rattle.pins.specs.declared.Event.TheVariants.{S, C, D, W, Hold, Time}
use Rattle.pins.specs.Devices.{with_c, with_pins, counting}
use Rattle.pins.specs.Ranges.{device_fits}
use Rattle.pins.specs.Events.{judged_now, decided, renewed, on_s, on_c, on_d, on_w, on_hold, on_time, stepped, stepped_cells, event_of}
use Rattle.pins_theorems.specs.Cells.{ends_cycle, cells_of, in_frame, writes, writes_any}
use Rattle.pins.specs.Answers.{PinBench, lent_to, after_event, played}
use Rattle.pins_theorems.proofs.Parts.{parts}
use Rattle.pins_theorems.proofs.Fits.{Sized, stepped_fits, stepped_sized}

-- ---- one event

-- what stands in cell i after any event
module _ (k : Cells) (P : Part) (x : Device) (m : List ℕ) (size : length m ≡ cell_count k P) (w : Within P x.core) (i : ℕ) (h : i < cell_count k P) where
  pub event_cell : (e : Event)
      → get_or (stepped_cells (theirs k) P e x m) i 0
      ≡ pick (ends_cycle e x.core && awaited_in k P x.core i) (byte_at x.core.waits.latch (offset P x.core i)) (get_or m i 0)
  event_cell (S level) = sym (at_no _ _ refl)
  event_cell (C level) = sym (at_no _ _ refl)
  event_cell (D level) = sym (at_no _ _ refl)
  event_cell (W level) = sym (at_no _ _ refl)
  event_cell (Hold level) = sym (at_no _ _ refl)
  event_cell (Time t) = lent_rule P t x.core w k m size i h

  -- a cell that does not wait stays
  pub unawaited_stays : (e : Event) → awaited_in k P x.core i ≡ false → get_or (stepped_cells (theirs k) P e x m) i 0 ≡ get_or m i 0
  unawaited_stays e a = event_cell e ∙ at_no _ _ (and_no_right (ends_cycle e x.core) (awaited_in k P x.core i) a)

-- no event changes how many cells there are
pub event_length : (its : Waiting → Bool) (P : Part) (x : Device) (m : List ℕ) (e : Event) → length (stepped_cells its P e x m) ≡ length m
event_length its P x m (S level) = refl
event_length its P x m (C level) = refl
event_length its P x m (D level) = refl
event_length its P x m (W level) = refl
event_length its P x m (Hold level) = refl
event_length its P x m (Time t) = timed_length its P t x.core m

-- the lent cells after an event, of a bench
pub next_cells : (k : Cells) (P : Part) (e : ℕ) (b : PinBench) → cells_of k (after_event P e b) ≡ stepped_cells (theirs k) P (event_of e) b.device (cells_of k b)
next_cells memory_cells P e b = refl
next_cells identification_cells P e b = refl

-- ---- which events make a cell wait

module _ (k : Cells) (P : Part) (x : Device) (i : ℕ) (a : awaited_in k P x.core i ≡ false) where
  deselect_awaits : writes k P i (S true) x ≡ false → on x.pins.s ≡ false → awaited_in k P (decided P x) i ≡ false
  deselect_awaits e s =
      let f = x.frame in
      pick_case (λ (c : Core). awaited_in k P c i ≡ false) (is_executed (judged_now P x))
      (λ g. effect_awaits k P (decode P f.code) f.address f.value f.latch x.core i
      (and_other (not (on x.pins.s) && is_executed (judged_now P x)) (in_frame k P f i) e
      (and_both (not (on x.pins.s)) (is_executed (judged_now P x)) (ap not s) g)) a)
      (λ g. a)

  s_awaits : (level : Bool) → writes k P i (S level) x ≡ false → awaited_in k P (on_s P level x).core i ≡ false
  unfolding on_s pick
  s_awaits true e =
      pick_case (λ (y : Device). awaited_in k P y.core i ≡ false) (eqb x.pins.s 1) (λ s. a) (λ s. deselect_awaits e s)
  s_awaits false e = pick_case (λ (y : Device). awaited_in k P y.core i ≡ false) (eqb x.pins.s 0) (λ s. a) (λ s. a)

  c_awaits : (m : Lent) (level : Bool) → awaited_in k P (on_c P level m x).core i ≡ false
  unfolding on_c
  c_awaits m level =
      let kept : Device → Type 0 = λ y. awaited_in k P y.core i ≡ false in
      pick_case kept (eqb x.pins.c (bit level)) (λ e. a)
      (λ e. pick_case kept level
      (λ l. pick_case (λ (y : Device). kept (with_pins (with_c 1 x.pins) y)) (counting x) (λ n. a) (λ n. a))
      (λ l. pick_case (λ (y : Device). kept (renewed (with_pins (with_c 0 x.pins) y))) (counting x) (λ n. a) (λ n. a)))

  hold_awaits : (level : Bool) → awaited_in k P (on_hold level x).core i ≡ false
  unfolding on_hold
  hold_awaits level = pick_case (λ (y : Device). awaited_in k P y.core i ≡ false) (on x.pins.c) (λ c. a) (λ c. a)

  -- a cell waits only once a write of it is executed
  pub event_awaits : (m : Lent) (e : Event) → writes k P i e x ≡ false → awaited_in k P (stepped P m e x).core i ≡ false
  unfolding on_d on_w on_time
  event_awaits m (S level) e = s_awaits level e
  event_awaits m (C level) e = c_awaits m level
  event_awaits m (D level) e = a
  event_awaits m (W level) e = a
  event_awaits m (Hold level) e = hold_awaits level
  event_awaits m (Time t) e = timed_awaits k P t x.core i a

-- ---- any list of events: a cell that does not wait at its start, and that no write executed in it has marked, is as it was

module _ (k : Cells) (P : Part) (sound : Sound P) (i : ℕ) (h : i < cell_count k P) where
  pub untouched_cell : (es : List ℕ) (b : PinBench) → length (cells_of k b) ≡ cell_count k P → Sized b.device → device_fits P b.device ≡ true
      → awaited_in k P b.device.core i ≡ false → writes_any k P i es b ≡ false → get_or (cells_of k (played P es b)) i 0 ≡ get_or (cells_of k b) i 0
  unfolding played writes_any
  untouched_cell [] b size sized fits a t = refl
  untouched_cell (e ∷ es) b size sized fits a t =
      let x = b.device in
      let m = cells_of k b in
      let none = or_none_out (writes k P i (event_of e) x) (writes_any k P i es (after_event P e b)) t in
      untouched_cell es (after_event P e b) (ap length (next_cells k P e b) ∙ event_length (theirs k) P x m (event_of e) ∙ size)
      (stepped_sized P x sized (lent_to b) (event_of e)) (stepped_fits P sound x sized fits (lent_to b) (event_of e))
      (event_awaits k P x i a (lent_to b) (event_of e) none.0) none.1
      ∙ ap (λ (c : List ℕ). get_or c i 0) (next_cells k P e b)
      ∙ unawaited_stays k P x m size (parts P x fits).core i h (event_of e) a
