-- Demand 2's cell rule, over any list of frames and clock readings: a frame changes no cell, and a cell changes only if it waits at the start or
-- an executed frame of the list addresses it. It is said of any lent cells k: the memory's, or the identification page's.
use mathlib.Core.Path.{◌≡◌, refl, ap, ◌∙◌}
use mathlib.Core.Bool.{Bool, false, ◌&&◌}
use mathlib.Core.List.{List, [], ◌∷◌}
use Prim.Native.Nat.{ℕ, ◌<◌}
use lib.ListN.{length, get_or}
use Rattle.laws.specs.Pick.{pick_case, at_no, and_no_right}
use Rattle.laws.specs.And.{and_other, or_none_out}
use Rattle.codes.specs.Part.{Part}
use Rattle.chip.specs.Records.{running, waits_page}
use Rattle.codes.specs.Verdicts.{is_executed}
use Rattle.chip.specs.Time.{ends, timed_cells}
use Rattle.chip.specs.Cells.{Cells, memory_cells, identification_cells, cell_count, theirs, writes_to, latched_in, awaited_in}
use Rattle.chip.specs.declared.Core.{Core}
use Rattle.chip.proofs.Within.{Within}
use Rattle.chip.proofs.Passing.{timed_length, lent_rule}
use Rattle.chip.proofs.Recounts.{timed_in_within}
use Rattle.chip.proofs.Awaiting.{effect_awaits, timed_awaits}
use Rattle.fields.specs.Bytes.{instruction, address, written}
use Rattle.frames.specs.After.{judged, after}
use Rattle.frames.specs.Play.{Act, frame, reading, FrameBench, acted, acted_all, lent_cells, addresses, addressed}
use Rattle.codes.proofs.Sound.{Sound}
use Rattle.frames.proofs.Kept.{after_within}

-- ---- which cells wait after a frame

pub after_awaits : (k : Cells) (P : Part) (i : ℕ) (ran w : Bool) (s : List ℕ) (n : ℕ) (c : Core) → awaited_in k P c i ≡ false
    → (is_executed (judged P ran w c s n) && (writes_to k (instruction P s) (address P s) && latched_in k P (address P s) (written P s) i)) ≡ false
    → awaited_in k P (after P ran w c s n) i ≡ false
after_awaits k P i ran w s n c e f =
    pick_case (λ x. awaited_in k P x i ≡ false) (is_executed (judged P ran w c s n))
    (λ x. effect_awaits k P (instruction P s) (address P s) (get_or s 1 0) (written P s) c i
    (and_other (is_executed (judged P ran w c s n)) (writes_to k (instruction P s) (address P s) && latched_in k P (address P s) (written P s) i) f x) e)
    (λ x. e)

-- ---- the rule

pub no_cell : (k : Cells) (P : Part) (w : Bool) (s : List ℕ) (n : ℕ) (d : FrameBench) → lent_cells k (acted P (frame w s n) d) ≡ lent_cells k d
no_cell memory_cells P w s n d = refl
no_cell identification_cells P w s n d = refl

pub read_cells_law : (k : Cells) (P : Part) (t : ℕ) (d : FrameBench) → lent_cells k (acted P (reading t) d) ≡ timed_cells (theirs k) P t d.core (lent_cells k d)
read_cells_law memory_cells P t d = refl
read_cells_law identification_cells P t d = refl

-- the memory keeps its size, and the record its ranges, whatever is played
pub acted_all_length : (P : Part) (acts : List Act) (d : FrameBench) → length (acted_all P acts d).memory ≡ length d.memory
acted_all_length P [] d = refl
acted_all_length P (frame w s n ∷ acts) d = acted_all_length P acts (acted P (frame w s n) d)
acted_all_length P (reading t ∷ acts) d = acted_all_length P acts (acted P (reading t) d) ∙ timed_length waits_page P t d.core d.memory

pub acted_all_within : (P : Part) → Sound P → (acts : List Act) (d : FrameBench) → Within P d.core → Within P (acted_all P acts d).core
acted_all_within P h [] d k = k
acted_all_within P h (frame w s n ∷ acts) d k =
    acted_all_within P h acts (acted P (frame w s n) d) (after_within P h w d.core s n (running d.core) (λ r. r) k)
acted_all_within P h (reading t ∷ acts) d k = acted_all_within P h acts (acted P (reading t) d) (timed_in_within P t d.core d.memory k)

module _ (k : Cells) (P : Part) (h : Sound P) (i : ℕ) (below : i < cell_count k P) where
  pub acted_all_cell : (acts : List Act) (d : FrameBench) → length (lent_cells k d) ≡ cell_count k P → Within P d.core
      → awaited_in k P d.core i ≡ false → addressed k P acts d i ≡ false → get_or (lent_cells k (acted_all P acts d)) i 0 ≡ get_or (lent_cells k d) i 0
  acted_all_cell [] d size r e f = refl
  acted_all_cell (frame w s n ∷ acts) d size r e f =
      let next = acted P (frame w s n) d in
      let two = or_none_out (addresses k P (frame w s n) d.core i) (addressed k P acts next i) f in
      acted_all_cell acts next (ap length (no_cell k P w s n d) ∙ size) (after_within P h w d.core s n (running d.core) (λ q. q) r)
      (after_awaits k P i (running d.core) w s n d.core e two.0) two.1
      ∙ ap (λ (m : List ℕ). get_or m i 0) (no_cell k P w s n d)
  acted_all_cell (reading t ∷ acts) d size r e f =
      let m = lent_cells k d in
      acted_all_cell acts (acted P (reading t) d) (ap length (read_cells_law k P t d) ∙ timed_length (theirs k) P t d.core m ∙ size)
      (timed_in_within P t d.core d.memory r) (timed_awaits k P t d.core i e) f
      ∙ ap (λ (x : List ℕ). get_or x i 0) (read_cells_law k P t d)
      ∙ lent_rule P t d.core r k m size i below
      ∙ at_no _ _ (and_no_right (ends t d.core) (awaited_in k P d.core i) e)
