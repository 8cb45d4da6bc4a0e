-- Every record that a frame hands back is inside the ranges.
use mathlib.Core.Path.{◌≡◌, ◌∙◌}
use mathlib.Core.Bool.{Bool, true, false, not, ◌&&◌}
use mathlib.Core.List.{List, [], ◌∷◌}
use Prim.Native.Nat.{ℕ, zero, suc, ◌+◌, ◌*◌, ◌-◌, ◌/◌, ◌%◌, ◌^◌, ◌<◌}
use native.Mathlib.Nat.{mod-lt}
use lib.ListN.{length, get_or, length-set, length-replicate}
use Rattle.laws.specs.Pick.{pick_case}
use Rattle.codes.specs.Part.{Part, pages, room_words}
use Rattle.codes.specs.Status.{on}
use Rattle.latch.specs.Latches.{zeros, no_latch, latched, latch_fits}
use Rattle.chip.specs.Records.{running}
use Rattle.chip.specs.Questions.{barred}
use Rattle.codes.specs.Verdicts.{is_executed}
use Rattle.codes.specs.Refusals.{is_done}
use Rattle.latch.specs.declared.Latch.{Latch}
use Rattle.chip.specs.declared.Core.{Core}
use Rattle.chip.proofs.Within.{Within}
use Rattle.codes.proofs.Judged.{wrid_identified}
use Rattle.codes.proofs.Sound.{Sound}
use Rattle.codes.proofs.Starts.{page_of_memory}
use Rattle.latch.proofs.Fitting.{none_latched, cell_word, one_latched}
use Rattle.chip.proofs.Executed.{executed_within}
use Rattle.fields.specs.Bytes.{instruction, address, address_to, payload, latched_from, written}
use Rattle.frames.specs.After.{judged, after}
use Rattle.frames.specs.Answers.{frame_outcome, framed}

-- ---- a frame's page and its latch

pub address_below : (P : Part) (s : List ℕ) → 0 < P.size → (k : ℕ) → address_to P s k < P.size
address_below P s h zero = h
address_below P s h (suc k) = mod-lt (address_to P s k + get_or s (suc k) 0 * 256 ^ (P.address_bytes - suc k)) h

pub page_below : (P : Part) (s : List ℕ) → Sound P → address P s / P.page < pages P
page_below P s h = page_of_memory h (address P s) (address_below P s h.size_some P.address_bytes)

all_latched : (P : Part) → Sound P → (i : ℕ) (vs : List ℕ) (l : Latch) → length l.marks ≡ room_words → latch_fits P true l ≡ true
    → latch_fits P true (latched_from P i vs l) ≡ true
unfolding latched_from
all_latched P sound i [] l e fits = fits
all_latched P sound i (v ∷ vs) l e fits =
    let cell = mod-lt i sound.page_some in
    let below : i % P.page / 64 < length l.marks = rw e (cell_word P sound (i % P.page) cell) in
    all_latched P sound (suc i) vs (latched (i % P.page) v l) (length-set l.marks (i % P.page / 64) _ ∙ e)
    (one_latched P (i % P.page) v l sound cell below fits)

pub written_fits : (P : Part) (s : List ℕ) → Sound P → latch_fits P true (written P s) ≡ true
unfolding zeros
written_fits P s sound =
    all_latched P sound _ (payload P s) no_latch (length-replicate {A = ℕ} room_words 0) (none_latched P true)

module _ (P : Part) (sound : Sound P) (w : Bool) (c : Core) (s : List ℕ) (n : ℕ) where
  pub after_within : (ran : Bool) → (running c ≡ true → ran ≡ true) → Within P c → Within P (after P ran w c s n)
  after_within ran h k =
      pick_case (Within P) (is_executed (judged P ran w c s n))
      (λ e. executed_within P (instruction P s) (address P s) (get_or s 1 0) (get_or s (P.address_bytes + 1) 0) n ran (on c.srwd && not w)
      (barred P c (instruction P s) (address P s)) false (written P s) c (wrid_identified P (get_or s 0 0)) e h (page_below P s sound)
      (written_fits P s sound) k)
      (λ e. k)

  -- the public call: what it hands back of a record inside the ranges
  pub framed_within : (m i : List ℕ) (room : ℕ) → Within P c → Within P (framed P c m i w s n room).core
  unfolding framed
  framed_within m i room k =
      pick_case (Within P) (is_done (frame_outcome P c (length m) (length i) (length s) n room)) (λ e. after_within (running c) (λ r. r) k) (λ e. k)
