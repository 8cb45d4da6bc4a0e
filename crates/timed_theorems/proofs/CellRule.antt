-- Demand 2's cell rule, over frames with readings inside: a frame changes no cell, its readings do; one of them stores exactly the cells that waited at the
-- frame's start, where it ends their cycle; and over any list a cell changes only if it waits at the start or an executed frame of the list addresses it. It
-- is said of any lent cells k: the memory's, or the identification page's.
use Rattle.std.specs.Prelude.{Err, Ok}
use Prim.Native.Nat.{ℕ, suc, ◌/◌, ◌<◌}
use mathlib.Core.Bool.{Bool, true, false, ◌&&◌, true≢false}
use mathlib.Core.List.{List, [], ◌∷◌}
use mathlib.Core.Path.{◌≡◌, refl, ap, sym, ◌∙◌}
use lib.ListN.{length, get_or, take}
use Rattle.laws.specs.Pick.{pick, pick_ap, pick_cong, pick_and, at_no, and_no_left, and_no_right}
use Rattle.laws.specs.And.{or_none_out}
use Rattle.codes.specs.Part.{Part}
use Rattle.codes.specs.Refusals.{is_done, no_refusal, Outcome}
use Rattle.codes.specs.declared.Refusal.TheVariants.{MemoryLength, RecordRange}
use Rattle.codes.proofs.Sound.{Sound}
use Rattle.chip.specs.Cells.{Cells, memory_cells, identification_cells, cell_count, theirs, offset, awaited_in}
use Rattle.chip.specs.Lents.{Lent}
use Rattle.chip.specs.Records.{running}
use Rattle.chip.specs.Ranges.{in_ranges}
use Rattle.chip.specs.Time.{lent_fits}
use Rattle.chip.specs.declared.Core.{Core}
use Rattle.chip.proofs.Within.{Within, within}
use Rattle.chip.proofs.Readings.{lent_memory, lent_identification}
use Rattle.chip.proofs.Recounts.{timed_in_within}
use Rattle.chip.proofs.Awaiting.{timed_awaits}
use Rattle.cuts.specs.Cuts.{chosen}
use Rattle.cuts.specs.declared.Choice.{Choice}
use Rattle.cuts.proofs.Leaves.{cut_within, cut_length, cut_awaits, cut_rule}
use Rattle.frames.specs.Play.{FrameBench, acted, lent_cells}
use Rattle.frames.specs.Play as plain
use Rattle.frames.proofs.CellRule.{after_awaits}
use Rattle.frames.proofs.Outcomes.{not_refused}
use Rattle.timed_frames.specs.Schedules.{due, passed}
use Rattle.timed_frames.specs.InTime.{ran_in, last_of, left_by}
use Rattle.timed_frames.specs.Answers.{in_time_outcome, in_time_left, given}
use Rattle.timed_frames.proofs.Passed.{read_length}
use Rattle.timed_theorems.specs.Acts.{TimedAct, send, reading, cut, cut_bench, acted_all_in_time, ends_any, ends_inside, addresses_in_time, addressed_in_time}
use Rattle.timed_theorems.proofs.Ended.{passed_awaits, coming, passed_cell}
use Rattle.timed_theorems.proofs.Kept.{deselected_cells, left_by_length, left_by_within, cut_lent}

-- ---- one frame

-- the cells after it are those after its readings
pub left_by_cells : (k : Cells) (P : Part) (ps ts : List ℕ) (b : FrameBench) (w : Bool) (s : List ℕ) (n : ℕ)
    → lent_cells k (left_by P ps ts b w s n) ≡ lent_cells k (last_of P ps ts b n)
left_by_cells k P ps ts b w s n = deselected_cells k P (ran_in P ps ts b) w s n (last_of P ps ts b n)

module _ (k : Cells) (P : Part) (i : ℕ) (below : i < cell_count k P) (b : FrameBench) (size : length (lent_cells k b) ≡ cell_count k P)
    (r : Within P b.core) where
  -- a cell takes the byte that waited for it at the frame's start, where a reading inside ends that cycle; else it stays
  pub left_by_cell : (ps ts : List ℕ) (w : Bool) (s : List ℕ) (n : ℕ)
      → get_or (lent_cells k (left_by P ps ts b w s n)) i 0
      ≡ pick (ends_inside P ps ts b n && awaited_in k P b.core i) (coming P i b.core) (get_or (lent_cells k b) i 0)
  left_by_cell ps ts w s n =
      ap (λ (m : List ℕ). get_or m i 0) (left_by_cells k P ps ts b w s n) ∙ passed_cell k P i below (take (due (suc (n / 8)) ps) ts) b size r

  -- so one that does not wait stays, whatever the frame is
  pub left_by_stays : (ps ts : List ℕ) (w : Bool) (s : List ℕ) (n : ℕ) → awaited_in k P b.core i ≡ false
      → get_or (lent_cells k (left_by P ps ts b w s n)) i 0 ≡ get_or (lent_cells k b) i 0
  left_by_stays ps ts w s n e = left_by_cell ps ts w s n ∙ at_no _ _ (and_no_right (ends_inside P ps ts b n) (awaited_in k P b.core i) e)

  read_stays : (t : ℕ) → awaited_in k P b.core i ≡ false → get_or (lent_cells k (acted P (plain.reading t) b)) i 0 ≡ get_or (lent_cells k b) i 0
  unfolding passed
  read_stays t e = passed_cell k P i below (t ∷ []) b size r ∙ at_no _ _ (and_no_right (ends_any P (t ∷ []) b) (awaited_in k P b.core i) e)

-- ---- any list

module _ (k : Cells) (P : Part) (sound : Sound P) (i : ℕ) (below : i < cell_count k P) where
  -- a cut ends its cycle: a cell that does not wait stays
  cut_stays : (h : Choice) (b : FrameBench) → length (lent_cells k b) ≡ cell_count k P → Within P b.core → awaited_in k P b.core i ≡ false
      → get_or (lent_cells k (cut_bench P h b)) i 0 ≡ get_or (lent_cells k b) i 0
  cut_stays h b size r e =
      ap (λ (m : List ℕ). get_or m i 0) (cut_lent k P h b)
      ∙ cut_rule P h b.core sound r k (lent_cells k b) size i below
      ∙ at_no _ _ (and_no_right (running b.core) (awaited_in k P b.core i && chosen h (offset P b.core i))
      (and_no_left (awaited_in k P b.core i) (chosen h (offset P b.core i)) e))

  pub acted_all_in_time_cell : (acts : List TimedAct) (b : FrameBench) → length (lent_cells k b) ≡ cell_count k P → Within P b.core
      → awaited_in k P b.core i ≡ false → addressed_in_time k P acts b i ≡ false
      → get_or (lent_cells k (acted_all_in_time P acts b)) i 0 ≡ get_or (lent_cells k b) i 0
  acted_all_in_time_cell [] b size r e f = refl
  acted_all_in_time_cell (send w o s n ps ts ∷ acts) b size r e f =
      let next = left_by P ps ts b w s n in
      let two = or_none_out (addresses_in_time k P (send w o s n ps ts) b i) (addressed_in_time k P acts next i) f in
      let last = passed_awaits k P i (take (due (suc (n / 8)) ps) ts) b e in
      acted_all_in_time_cell acts next (left_by_length k P ps ts b w s n ∙ size) (left_by_within P sound ps ts b w s n r)
      (after_awaits k P i (ran_in P ps ts b) w s n (last_of P ps ts b n).core last two.0) two.1
      ∙ left_by_stays k P i below b size r ps ts w s n e
  acted_all_in_time_cell (reading t ∷ acts) b size r e f =
      acted_all_in_time_cell acts (acted P (plain.reading t) b) (read_length k P t b ∙ size) (timed_in_within P t b.core b.memory r)
      (timed_awaits k P t b.core i e) f
      ∙ read_stays k P i below b size r t e
  acted_all_in_time_cell (cut h ∷ acts) b size r e f =
      acted_all_in_time_cell acts (cut_bench P h b) (ap length (cut_lent k P h b) ∙ cut_length P h b.core (theirs k) (lent_cells k b) ∙ size)
      (cut_within P h b.core b.memory r) (cut_awaits k P h b.core i) f
      ∙ cut_stays h b size r e

-- ---- the public call

is_done_law : (o : Outcome) → is_done o ≡ true → o ≡ no_refusal
is_done_law (Ok _) e = refl
is_done_law (Err r) e = absurd (true≢false (sym e))

module _ (P : Part) (c : Core) (m : Lent) (s : List ℕ) (n : ℕ) (ps ts : List ℕ) (room : ℕ) (done : is_done (in_time_outcome P c m s n ps ts room) ≡ true) where
  -- one that is not refused was lent slices of the part's lengths, and a record inside the ranges
  fitted : (lent_fits P (length m.memory) (length m.identification) ≡ true) × (in_ranges P c ≡ true)
  fitted =
      let memory = not_refused _ _ MemoryLength (is_done_law (in_time_outcome P c m s n ps ts room) done) in
      (memory.0, (not_refused _ _ RecordRange memory.1).0)

  lent_whole : (k : Cells) → length (lent_cells k (given c m)) ≡ cell_count k P
  lent_whole memory_cells = lent_memory P (length m.memory) (length m.identification) fitted.0
  lent_whole identification_cells = lent_identification P (length m.memory) (length m.identification) fitted.0

-- for every input: a cell takes the byte that waited for it where the call is not refused and a reading inside ends its cycle; else it stays
pub in_time_left_cell : (k : Cells) (P : Part) (i : ℕ) → i < cell_count k P → (c : Core) (m : Lent) (w : Bool) (s : List ℕ) (n : ℕ) (ps ts : List ℕ) (room : ℕ)
    → get_or (lent_cells k (in_time_left P c m w s n ps ts room)) i 0
    ≡ pick (is_done (in_time_outcome P c m s n ps ts room) && (ends_inside P ps ts (given c m) n && awaited_in k P c i)) (coming P i c)
    (get_or (lent_cells k (given c m)) i 0)
unfolding in_time_left
in_time_left_cell k P i below c m w s n ps ts room =
    let b = given c m in
    let told = is_done (in_time_outcome P c m s n ps ts room) in
    let cell : FrameBench → ℕ = λ x. get_or (lent_cells k x) i 0 in
    pick_ap cell told (left_by P ps ts b w s n) b
    ∙ pick_cong told (cell b) (λ e. left_by_cell k P i below b (lent_whole P c m s n ps ts room e k)
    (within P c (fitted P c m s n ps ts room e).1) ps ts w s n)
    ∙ sym (pick_and told (ends_inside P ps ts b n && awaited_in k P c i) (coming P i c) (cell b))
