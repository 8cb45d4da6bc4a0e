-- The frame model's public calls refuse none of the driver's frames and readings: whole bytes, fewer than a frame may have, from a record inside
-- its ranges.
use mathlib.Core.Path.{◌≡◌, refl, ap, sym, ◌∙◌}
use mathlib.Core.Bool.{Bool, true, ◌&&◌}
use mathlib.Core.List.{List, [], ◌∷◌, ◌++◌}
use Prim.Native.Nat.{ℕ, zero, suc, ◌+◌, ◌-◌, ◌*◌, ◌≤◌}
use native.Mathlib.Decide.{ℕ_discrete}
use native.Mathlib.Omega.{arith}
use lib.Dec.{eqb, leb}
use lib.ListN.{length, length-take, length-drop}
use borrow.Author.Tests.{le-leb, leb-true, eq-eqb, eqb-true}
use Rattle.laws.specs.Pick.{pick_case, eq_so, ne_so, yes_so, and_both, and_left, and_right}
use Rattle.codes.specs.Part.{Part, part_of}
use Rattle.codes.proofs.Parts.{few_bytes}
use Rattle.codes.proofs.Sound.{Sound, sound_of}
use Rattle.chip.specs.Records.{running}
use Rattle.chip.specs.Time.{reading_number}
use Rattle.chip.proofs.Readings.{lent_both}
use Rattle.fields.specs.Counts.{bits_fit, longest_frame}
use Rattle.split.specs.Split.{count, split_address}
use Rattle.split.specs.Pieces.{piece}
use Rattle.frames.specs.Play.{Act, frame, reading, FrameBench, acted, acted_all}
use Rattle.frames.proofs.Outcomes as outcomes
use Rattle.sequence.specs.Sequence.{whole, wren, rdsr, late_poll, polls_on, first_wait, page_wait, wren_and_write, page_acts, part_acts}
use Rattle.frames.specs.Sent.{write_bytes}
use Rattle.sequence.specs.Sequence.{Run, pages_from, all_parts, touches, run}
use Rattle.sequence.specs.Counts.{all_accepted}
use Rattle.sequence.specs.Ready.{Ready}
use Rattle.sequence.proofs.Ready.{ready_acted_all}
use Rattle.frames.proofs.Addresses.{write_length}

-- all bits of the bytes are a count that fits
whole_fits : (len : ℕ) → bits_fit len (8 * len) ≡ true
whole_fits len = elim (ℕ_discrete len 0) [
  | yes h ↦
      let none : 8 * len ≡ 0 = omega arith in
      sym (eq_so _ h (sym (eq-eqb _ _ none)))
  | no h ↦
      let low : 8 * len - 7 ≤ 8 * len = omega arith in
      let high : 8 * len ≤ 8 * len = omega arith in
      sym (ne_so _ h (sym (and_both _ _ (le-leb _ _ low) (le-leb _ _ high))))
]

module _ (P : Part) where
  -- the frames of a list are whole bytes, and no more than a frame may have
  abbrev short : List Act → Bool
  short [] = true
  short (frame w s n ∷ acts) = eqb n (8 * length s) && (leb (length s) (longest_frame P) && short acts)
  short (reading t ∷ acts) = short acts

  -- such a list, from a device that no call refuses
  accepted : (sound : Sound P) (acts : List Act) (d : FrameBench) → Ready P d → short acts ≡ true → all_accepted P acts d ≡ true
  accepted sound [] d r h = refl
  accepted sound (frame w s n ∷ acts) d r h =
      let c = d.core in
      let size = length d.memory in
      let cells = length d.identification in
      let len = length s in
      let rest = and_right (eqb n (8 * len)) (leb len (longest_frame P) && short acts) h in
      let all : n ≡ 8 * len = eqb-true n (8 * len) (and_left (eqb n (8 * len)) (leb len (longest_frame P) && short acts) h) in
      let bits = ap (bits_fit len) all ∙ whole_fits len in
      let few = leb-true len (longest_frame P) (and_left (leb len (longest_frame P)) (short acts) rest) in
      let done = outcomes.accepted P c size cells len n len (lent_both P size cells r.whole r.page) r.ranges few bits refl in
      let next = ready_acted_all P sound (frame w s n ∷ []) d r in
      and_both _ _ (eq-eqb _ _ (sym (outcomes.frame_number_law P c size cells len n len done)))
      (accepted sound acts (acted P (frame w s n) d) next (and_right (leb len (longest_frame P)) (short acts) rest))
  accepted sound (reading t ∷ acts) d r h =
      let fits = lent_both P (length d.memory) (length d.identification) r.whole r.page in
      let zero-so : reading_number P d.core d.memory d.identification ≡ 0 = sym (yes_so _ fits (yes_so _ r.ranges refl)) in
      let next = ready_acted_all P sound (reading t ∷ []) d r in
      and_both _ _ (eq-eqb _ _ zero-so) (accepted sound acts (acted P (reading t) d) next h)

  -- ---- the driver's lists are such

  short_append : (xs ys : List Act) → short xs ≡ true → short ys ≡ true → short (xs ++ ys) ≡ true
  short_append [] ys p q = q
  short_append (frame w s n ∷ xs) ys p q =
      let whole = eqb n (8 * length s) in
      let few = leb (length s) (longest_frame P) in
      let rest = and_right whole (few && short xs) p in
      and_both whole _ (and_left whole (few && short xs) p)
      (and_both few _ (and_left few (short xs) rest) (short_append xs ys (and_right few (short xs) rest) q))
  short_append (reading t ∷ xs) ys p q = short_append xs ys p q

  -- a frame of so few bytes
  one : (s : List ℕ) → length s ≤ longest_frame P → short (whole s ∷ []) ≡ true
  one s h = and_both _ _ (eq-eqb (8 * length s) _ refl) (and_both _ true (le-leb _ _ h) refl)

  polled : short (rdsr ∷ []) ≡ true
  polled = one (0x05 ∷ 0x00 ∷ []) (omega arith)

  module _ (i : ℕ) where
    polls : (k : ℕ) (d : FrameBench) → short (polls_on P i k d) ≡ true
    unfolding polls_on
    polls zero d = refl
    polls (suc k) d =
        pick_case (λ (acts : List Act). short acts ≡ true) (running d.core)
        (λ r. short_append (late_poll i d) (polls_on P i k (acted_all P (late_poll i d) d)) polled (polls k (acted_all P (late_poll i d) d)))
        (λ r. refl)

    first : (limit : ℕ) (d : FrameBench) → short (first_wait P i limit d) ≡ true
    unfolding first_wait
    first limit d = short_append (rdsr ∷ []) (polls_on P i (limit - 1) (acted P rdsr d)) polled (polls (limit - 1) (acted P rdsr d))

    page : (limit : ℕ) (d : FrameBench) → short (page_wait P i limit d) ≡ true
    unfolding page_wait
    page limit d =
        let x = acted_all P (late_poll i d) d in
        short_append (late_poll i d) (polls_on P i (limit - 1) x) polled (polls (limit - 1) x)

    module _ (limit a : ℕ) (bytes : List ℕ) (few : P.address_bytes ≤ 3) (inside : length bytes ≤ P.size) where
      -- a part has no more bytes than the run
      part_few : (k : ℕ) → length (piece P.size P.page a bytes k) ≤ length bytes
      unfolding piece
      part_few k = simp (length-take, length-drop) (omega arith)

      part : (k : ℕ) (d : FrameBench) → short (part_acts P i limit a bytes k d) ≡ true
      unfolding page_acts
      part k d =
          let at = split_address P.size P.page a (length bytes) k in
          let its = piece P.size P.page a bytes k in
          let write = one (write_bytes P at its) (omega (arith, write_length P at its, part_few k, few, inside)) in
          let begun = acted_all P (wren_and_write P at its) d in
          short_append (wren_and_write P at its) (page_wait P i limit begun)
          (short_append (wren ∷ []) (whole (write_bytes P at its) ∷ []) (one (0x06 ∷ []) (omega arith)) write) (page limit begun)

      parts : (n k : ℕ) (d : FrameBench) → short (pages_from P i limit a bytes n k d).acts ≡ true
      unfolding pages_from
      parts zero k d = refl
      parts (suc n) k d =
          let acts = part_acts P i limit a bytes k d in
          let next = acted_all P acts d in
          pick_case (λ (r : Run). short r.acts ≡ true) (running next.core) (λ e. part k d)
          (λ e. short_append acts (pages_from P i limit a bytes n (suc k) next).acts (part k d) (parts n (suc k) next))

      run_short : (d : FrameBench) → short (run P i limit a bytes d).acts ≡ true
      unfolding run
      run_short d =
          let wait = first_wait P i limit d in
          let next = acted_all P wait d in
          pick_case (λ (r : Run). short r.acts ≡ true) (eqb (length bytes) 0) (λ e. refl)
          (λ e. pick_case (λ (r : Run). short r.acts ≡ true) (running next.core) (λ f. first limit d)
          (λ f. pick_case (λ (r : Run). short r.acts ≡ true) (touches P next.core a (length bytes)) (λ g. first limit d)
          (λ g. short_append wait (all_parts P i limit a bytes next).acts (first limit d)
          (parts (count P.size P.page a (length bytes)) 0 next))))

-- a run on a device that no call refuses, of bytes that the memory has room for
pub run_accepted : (n i limit a : ℕ) (bytes : List ℕ) (d : FrameBench) → Ready (part_of n) d → a + length bytes ≤ (part_of n).size
    → all_accepted (part_of n) (run (part_of n) i limit a bytes d).acts d ≡ true
run_accepted n i limit a bytes d ready inside =
    let P = part_of n in
    accepted P (sound_of n) (run P i limit a bytes d).acts d ready (run_short P i limit a bytes (few_bytes n).1 (omega arith) d)
