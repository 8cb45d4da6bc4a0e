-- What the page parts leave, from an idle device of any sound part whose protected block they do not touch: the cells of the parts done, the
-- identification page as it was, and what each ending says. Every frame of them is executed.
use mathlib.Core.Path.{◌≡◌, refl, ap, sym, subst, ◌∙◌}
use mathlib.Core.Bool.{true, false}
use mathlib.Core.List.{List, ◌++◌}
use Prim.Native.Nat.{ℕ, zero, suc, ◌+◌, ◌-◌, ◌*◌, ◌%◌, ◌^◌, ◌<◌, ◌≤◌}
use native.Mathlib.Nat.{suc-mul, zero-mul}
use native.Mathlib.Decide.{dec_le}
use native.Mathlib.Omega.{arith}
use lib.ListN.{length, drop, length-drop}
use lib.Seq.{length-take-le}
use borrow.Author.Tests.{lt-ltb, lt-leb}
use Rattle.codes.specs.Part.{Part}
use Rattle.chip.specs.Questions.{lowest, protects}
use Rattle.chip.specs.Records.{running}
use Rattle.chip.specs.declared.Core.{Core}
use Rattle.codes.proofs.Sound.{Sound}
use Rattle.split.specs.Split.{count, split_address, split_length}
use Rattle.split.specs.Pieces.{piece, pieces}
use Rattle.split.proofs.Numbers.{length_some}
use Rattle.split.proofs.Whole.{pieces_more, before_part}
use Rattle.frames.specs.Play.{FrameBench, acted_all}
use Rattle.sequence.specs.Sequence.{sent, Ending, all_done, timed_out, protected, Run, pages_from}
use Rattle.sequence.specs.Counts.{rounded_up, all_executed, overwritten}
use Rattle.sequence.specs.Endings.{page_frames, Meaning}
use Rattle.sequence.proofs.Playing.{acted_all_append, sent_append}
use Rattle.sequence.proofs.Parts.{Lies, lies}
use Rattle.sequence.proofs.Runs.{part_acts, after_part, pages_late, pages_next, pages_none}
use Rattle.sequence.proofs.Executed.{executed_append}
use Rattle.sequence.proofs.Writing.{page_executed, page_done_law, page_late}
use Rattle.sequence.proofs.Stored.{stored_run, overwritten_length, overwritten_append}

-- ---- a part and the memory

module _ (P : Part) (sound : Sound P) (a : ℕ) (bytes : List ℕ) (k : ℕ) (h : k < count P.size P.page a (length bytes)) where
  abbrev at : ℕ
  at = split_address P.size P.page a (length bytes) k

  abbrev long : ℕ
  long = split_length P.size P.page a (length bytes) k

  there : Lies P a (length bytes) at long
  there = lies P sound a bytes k at long h refl refl

  pub part_low : at < P.size
  part_low = there.memory

  pub piece_length : length (piece P.size P.page a bytes k) ≡ long
  unfolding piece
  piece_length =
      let l = there in
      let from = l.from in
      let to = l.to in
      let fits : long ≤ length (drop (at - a) bytes) = simp length-drop (omega arith) in
      length-take-le long (drop (at - a) bytes) fits

  -- no cell of it is above the run's
  pub part_below : at < a + length bytes
  part_below =
      let l = there in
      let to = l.to in
      let some = length_some P.size P.page a (length bytes) sound.page_some k h in
      omega arith

  pub part_some : 0 < length (piece P.size P.page a bytes k)
  part_some = rw piece_length (length_some P.size P.page a (length bytes) sound.page_some k h)

  part_page : at % P.page + length (piece P.size P.page a bytes k) ≤ P.page
  part_page = omega (arith, there.page, piece_length)

  before_length : length (pieces P.size P.page a bytes k) ≡ at - a
  before_length =
      let l = there in
      let from = l.from in
      let to = l.to in
      ap length (before_part P.size P.page a bytes sound.page_some k h) ∙ length-take-le (at - a) bytes (omega arith)

  -- part k stored over the parts before it
  pub part_stored : (latch-memory m₀ : List ℕ) → length m₀ ≡ P.size
      → latch-memory ≡ overwritten at (piece P.size P.page a bytes k) (overwritten a (pieces P.size P.page a bytes k) m₀)
      → latch-memory ≡ overwritten a (pieces P.size P.page a bytes (k + 1)) m₀
  part_stored l m₀ size e =
      let from = there.from in
      let follows : at ≡ a + length (pieces P.size P.page a bytes k) = omega (arith, before_length) in
      e
      ∙ overwritten_append a at (pieces P.size P.page a bytes k) (piece P.size P.page a bytes k) m₀ follows
      ∙ sym (ap (λ (xs : List ℕ). overwritten a xs m₀) (pieces_more P.size P.page a bytes k))

-- ---- an idle device, with the cycle length and the protection of c₀

pub record Idle (P : Part) (c₀ : Core) (d : FrameBench) : Type 0 where
  pub left : d.core.left ≡ 0
  pub low : d.core.last < 2 ^ 32
  pub cycle : d.core.cycle ≡ c₀.cycle
  pub bp1 : d.core.bp1 ≡ c₀.bp1
  pub bp0 : d.core.bp0 ≡ c₀.bp0
  pub whole : length d.memory ≡ P.size

protects_kept : (P : Part) (c₀ : Core) (d : FrameBench) → Idle P c₀ d → (x : ℕ) → protects P d.core x ≡ protects P c₀ x
protects_kept P c₀ d i x = rw (i.bp1, i.bp0) refl

module _ (P : Part) (sound : Sound P) (i limit : ℕ) (some : 0 < i) (small : i ≤ P.longest) (polls : 1 ≤ limit)
    (a : ℕ) (bytes : List ℕ) (c₀ : Core) (cycle : 0 < c₀.cycle) (unprotected : a + length bytes ≤ lowest P c₀) (m₀ : List ℕ) (size : length m₀ ≡ P.size) where
  abbrev parts : ℕ
  parts = count P.size P.page a (length bytes)

  abbrev Told : Ending → ℕ → ℕ → ℕ → Core → Type 0
  Told = Meaning i limit c₀

  -- part k's first cell, and the bytes of the k parts before it
  abbrev first_cell : ℕ → ℕ
  first_cell k = split_address P.size P.page a (length bytes) k

  abbrev carried : ℕ → List ℕ
  carried k = pieces P.size P.page a bytes k

  abbrev frames_each : ℕ
  frames_each = page_frames i c₀

  meaning_more : (e : Ending) (n pages frames : ℕ) (c : Core) → c₀.cycle ≤ limit * i → Told e n pages frames c
      → Told e (suc n) (suc pages) (frames_each + frames) c
  meaning_more all_done n pages frames c h t = (omega (arith, t.0), (omega (arith, t.1.0, suc-mul n frames_each), t.1.1))
  meaning_more timed_out n pages frames c h t = absurd (omega (arith, t.1.1.0))
  meaning_more protected n pages frames c h t = t

  -- the cells of the pages done, and every other cell as it was, the identification page's too
  abbrev pub Leaves : ℕ → ℕ → FrameBench → Run → Type 0
  Leaves n k d r =
      ((acted_all P r.acts d).memory ≡ overwritten a (carried (k + r.pages)) m₀)
      × (Told r.ending n r.pages (sent r.acts) (acted_all P r.acts d).core
      × ((all_executed P r.acts d ≡ true) × ((acted_all P r.acts d).identification ≡ d.identification)))

  abbrev rest : ℕ → ℕ → FrameBench → Run
  rest n k d = pages_from P i limit a bytes n k d

  abbrev Written : ℕ → List ℕ → Type 0
  Written k m = m ≡ overwritten a (carried k) m₀

  stays : (k : ℕ) (m m' : List ℕ) → m' ≡ m → Written k m → Written (k + 0) m'
  stays k m m' e w =
      let same : k ≡ k + 0 = omega arith in
      e ∙ w ∙ ap (λ (j : ℕ). overwritten a (carried j) m₀) same

  module _ (n k : ℕ) (d : FrameBench) (h : k < parts) (idle : Idle P c₀ d) (w : Written k d.memory) where
    abbrev at_k : ℕ
    at_k = first_cell k

    abbrev bytes_k : List ℕ
    bytes_k = piece P.size P.page a bytes k

    abbrev next : FrameBench
    next = after_part P i limit a bytes k d

    positive : 0 < d.core.cycle
    positive = rw idle.cycle cycle

    free : d.core.left ≡ 0
    free = idle.left

    low_k : at_k < P.size
    low_k = part_low P sound a bytes k h

    some_k : 0 < length bytes_k
    some_k = part_some P sound a bytes k h

    -- it is not protected
    unprotected_k : protects P d.core at_k ≡ false
    unprotected_k =
        let below = part_below P sound a bytes k h in
        let low : at_k < lowest P c₀ = omega arith in
        protects_kept P c₀ d idle at_k ∙ lt-leb (lowest P c₀) at_k low

    executed_k : all_executed P (part_acts P i limit a bytes k d) d ≡ true
    executed_k = page_executed P sound i limit some small polls d idle.low free positive at_k bytes_k low_k some_k unprotected_k

    -- its wait runs out
    runs_out : limit * i < c₀.cycle → Leaves (suc n) k d (rest (suc n) k d)
    runs_out few =
        let u = page_late P sound i limit some small polls d idle.low free positive at_k bytes_k low_k some_k unprotected_k (rw idle.cycle few) in
        let left : next.core.left ≡ c₀.cycle - limit * i = ap (λ (c : Core). c.left) u.core ∙ ap (λ (x : ℕ). x - limit * i) idle.cycle in
        let positive-left : 0 < next.core.left = omega arith in
        subst (Leaves (suc n) k d) (sym (pages_late P i limit a bytes n k d (lt-ltb _ _ positive-left)))
        (stays k d.memory _ u.memory w, ((refl, (u.frames, (few, left))), (executed_k, u.identification)))

    -- it is done, and the others follow
    goes_on : c₀.cycle ≤ limit * i
        → (Idle P c₀ next → Written (suc k) next.memory → Leaves n (suc k) next (rest n (suc k) next)) → Leaves (suc n) k d (rest (suc n) k d)
    goes_on enough others =
        let u = page_done_law P sound i limit some small polls d idle.low free positive at_k bytes_k low_k some_k unprotected_k (rw idle.cycle enough) in
        let acts = part_acts P i limit a bytes k d in
        let stored =
        u.memory ∙ stored_run P sound at_k bytes_k d.memory low_k (part_page P sound a bytes k h) idle.whole ∙ ap (overwritten at_k bytes_k) w in
        let up : k + 1 ≡ suc k = omega arith in
        let written : Written (suc k) next.memory =
        part_stored P sound a bytes k h next.memory m₀ size stored ∙ ap (λ (j : ℕ). overwritten a (carried j) m₀) up in
        let idle-next : Idle P c₀ next = record {
          left = ap (λ (c : Core). c.left) u.core;
          low = rw (ap (λ (c : Core). c.last) u.core) u.read_low;
          cycle = ap (λ (c : Core). c.cycle) u.core ∙ idle.cycle;
          bp1 = ap (λ (c : Core). c.bp1) u.core ∙ idle.bp1;
          bp0 = ap (λ (c : Core). c.bp0) u.core ∙ idle.bp0;
          whole = ap length written ∙ overwritten_length a (carried (suc k)) m₀ ∙ size;
        } in
        let r = rest n (suc k) next in
        let l = others idle-next written in
        let y : acted_all P (acts ++ r.acts) d ≡ acted_all P r.acts next = acted_all_append P acts r.acts d in
        let on-k : suc k + r.pages ≡ k + suc r.pages = omega arith in
        let frames : frames_each + sent r.acts ≡ sent (acts ++ r.acts) =
        omega (arith, sent_append acts r.acts, u.frames, ap (λ (x : ℕ). rounded_up x i) idle.cycle) in
        subst (Leaves (suc n) k d) (sym (pages_next P i limit a bytes n k d (ap running u.core))) (
          ap (λ (x : FrameBench). x.memory) y ∙ l.0 ∙ ap (λ (j : ℕ). overwritten a (carried j) m₀) on-k,
          (
            subst (λ (f : ℕ). Told r.ending (suc n) (suc r.pages) f (acted_all P (acts ++ r.acts) d).core) frames
                (subst (λ (x : FrameBench). Told r.ending (suc n) (suc r.pages) (frames_each + sent r.acts) x.core) (sym y)
                (meaning_more r.ending n r.pages (sent r.acts) (acted_all P r.acts next).core enough l.1.0)),
            (
              executed_append P acts r.acts d executed_k l.1.1.0,
              ap (λ (x : FrameBench). x.identification) y ∙ l.1.1.1 ∙ u.identification,
            ),
          ),
        )

    -- one of the two
    part_leaves : (Idle P c₀ next → Written (suc k) next.memory → Leaves n (suc k) next (rest n (suc k) next)) → Leaves (suc n) k d (rest (suc n) k d)
    part_leaves others = elim (dec_le c₀.cycle (limit * i)) [
      | yes enough ↦ goes_on enough others
      | no few ↦ runs_out (omega arith)
    ]

  pub parts_leave : (n k : ℕ) (d : FrameBench) → k + n ≡ parts → Idle P c₀ d → Written k d.memory → Leaves n k d (rest n k d)
  parts_leave zero k d e idle w =
      subst (Leaves zero k d) (sym (pages_none P i limit a bytes 0 k d refl))
      (stays k d.memory d.memory refl w, ((refl, (omega (arith, zero-mul frames_each), idle.left)), (refl, refl)))
  parts_leave (suc n) k d e idle w =
      let below : k < parts = omega arith in
      part_leaves n k d below idle w
      (λ idle-next written. parts_leave n (suc k) (after_part P i limit a bytes k d) (omega arith) idle-next written)
