-- A WRITE of bytes that stay in one page latches no cell outside the cells that they go to: by induction over the bytes, each of which sets its own
-- mark alone.
use mathlib.Core.Path.{◌≡◌, refl, ap, ◌∙◌}
use mathlib.Core.Bool.{false}
use mathlib.Core.List.{List, [], ◌∷◌}
use mathlib.Core.Logic.{inl, inr}
use Prim.Native.Nat.{ℕ, suc, ◌+◌, ◌-◌, ◌*◌, ◌/◌, ◌%◌, ◌<◌, ◌≤◌}
use native.Mathlib.Nat.{mod-eq_of_lt}
use native.Mathlib.Decide.{dec_lt}
use native.Mathlib.Omega.{arith}
use lib.ListN.{length}
use lib.Dec.{leb}
use borrow.Author.Tests.{lt-leb}
use Rattle.laws.specs.Pick.{and_no_left, and_no_right}
use Rattle.laws.specs.Marks.{mark_none, mark_set_other}
use Rattle.codes.specs.Part.{Part, room_words}
use Rattle.codes.proofs.Sound.{Sound}
use Rattle.codes.proofs.Starts.{start_of}
use Rattle.latch.specs.Latches.{in_page, marked, zeros, no_latch, latched}
use Rattle.latch.specs.declared.Latch.{Latch}
use Rattle.chip.specs.Cells.{memory_cells, latched_in}
use Rattle.fields.specs.Bytes.{payload, latched_from, address, written}
use Rattle.frames.specs.Sent.{write_bytes}
use Rattle.frames.proofs.Addresses.{write_address, write_payload}
use Rattle.cut_theorems.specs.Outside.{Outside}

-- a cell outside some cells is outside any run of them
pub outside_part : (a n b m j : ℕ) → a ≤ b → b + m ≤ a + n → Outside a n j → Outside b m j
outside_part a n b m j from to (inl below) = inl (omega arith)
outside_part a n b m j from to (inr past) = inr (omega arith)

-- and is not the first of them
outside_first : (a n j : ℕ) → Outside a (suc n) j → j ≡ a → ⊥
outside_first a n j (inl below) e = omega arith
outside_first a n j (inr past) e = omega arith

-- bytes for cells that follow each other in the page mark no other cell
marks_others : (P : Part) (vs : List ℕ) (i : ℕ) (l : Latch) → i + length vs ≤ P.page → (j : ℕ) → Outside i (length vs) j
    → marked (latched_from P i vs l) j ≡ marked l j
unfolding latched_from
marks_others P [] i l fits j out = refl
marks_others P (v ∷ vs) i l fits j out =
    let cell : i % P.page ≡ i = mod-eq_of_lt (omega arith) in
    let rest = outside_part i (suc (length vs)) (suc i) (length vs) j (omega arith) (omega arith) out in
    marks_others P vs (suc i) (latched (i % P.page) v l) (omega arith) j rest
    ∙ mark_set_other l.marks (i % P.page) j (λ e. outside_first i (length vs) j out (e ∙ cell))

none_marked : (j : ℕ) → marked no_latch j ≡ false
unfolding zeros
none_marked j = mark_none room_words j

module _ (P : Part) (sound : Sound P) (a : ℕ) (bytes : List ℕ) (low : a < P.size) (one : a % P.page + length bytes ≤ P.page) where
  abbrev start : ℕ
  start = a / P.page * P.page

  -- the same cell in the page
  in_page_law : (j : ℕ) → start ≤ j → Outside a (length bytes) j → Outside (a % P.page) (length bytes) (j - start)
  in_page_law j from (inl below) = let at-start = start_of sound a in inl (omega arith)
  in_page_law j from (inr past) = let at-start = start_of sound a in inr (omega arith)

  write_marks : (j : ℕ) → start ≤ j → Outside a (length bytes) j → marked (latched_from P (a % P.page) bytes no_latch) (j - start) ≡ false
  write_marks j from out =
      marks_others P bytes (a % P.page) no_latch one (j - start) (in_page_law j from out) ∙ none_marked (j - start)

  latches_others : (j : ℕ) → Outside a (length bytes) j → latched_in memory_cells P a (latched_from P (a % P.page) bytes no_latch) j ≡ false
  latches_others j out = elim (dec_lt j start) [
    | yes p ↦ and_no_left (in_page P (a / P.page) j) _ (and_no_left (leb start j) _ (lt-leb start j p))
    | no p ↦ and_no_right (in_page P (a / P.page) j) _ (write_marks j (omega arith) out)
  ]

  pub write_latches : (j : ℕ) → Outside a (length bytes) j
      → latched_in memory_cells P (address P (write_bytes P a bytes)) (written P (write_bytes P a bytes)) j ≡ false
  write_latches j out =
      ap (λ (k : ℕ). latched_in memory_cells P k (latched_from P (k % P.page) (payload P (write_bytes P a bytes)) no_latch) j)
      (write_address P sound a bytes low)
      ∙ ap (λ (vs : List ℕ). latched_in memory_cells P a (latched_from P (a % P.page) vs no_latch) j) (write_payload P a bytes)
      ∙ latches_others j out
