-- The number of blank cells in the record: it stays inside its range, a reading hands a right one back, an instruction leaves it; and no other answer
-- depends on it: of records that are equal but for it every rule gives what is equal but for it.
use Rattle.std.proofs.Common.{◌≡◌, ℕ, ◌-◌, ◌≤◌, Bool, true, false, ◌&&◌, List, length, sym, refl, ap, ◌∙◌, le-leb}
use Rattle.laws.specs.Pick.{pick, pick_case, pick_ap, at_yes, at_no}
use Rattle.codes.specs.Part.{Part}
use Rattle.codes.specs.declared.Instruction.{Instruction}
use Rattle.codes.specs.declared.Instruction.TheVariants.{Wren, Wrdi, Rdsr, Wrsr, Read, Write, Rdid, Wrid, Silence}
use Rattle.latch.specs.declared.Latch.{Latch}
use Rattle.latch.proofs.Stores.{stored_length}
use Rattle.blanks.specs.Blanks.{blanks}
use Rattle.blanks.proofs.Blanking.{held_most, right_recounted}
use Rattle.chip.specs.Records.{waits_page, waits_status, waits_lock, with_status, with_lock, with_time, with_blank, without_cycle}
use Rattle.chip.specs.Ranges.{flags_fit, time_fits, tied, wait_fits, in_ranges}
use Rattle.chip.specs.Blanks.{Counted, EqualBut}
use Rattle.chip.specs.Effects.{effect}
use Rattle.chip.specs.Time.{elapsed, ends, ended, ended_blank, ended_cells, timed, timed_cells, timed_memory, timed_blank, timed_in}
use Rattle.chip.specs.declared.Waiting.{Waiting}
use Rattle.chip.specs.declared.Core.{Core}
use Rattle.chip.proofs.Within.{Within}
use Rattle.chip.proofs.Passing.{timed_within, on_core}

-- ---- its range

pub renumbered_within : (P : Part) (c : Core) (n : ℕ) → n ≤ P.size → Within P c → Within P (with_blank n c)
renumbered_within P c n h w =
    record { flags = w.flags; cycle = w.cycle; left = w.left; tie = w.tie; waits = w.waits; blank = h }

-- the end of a cycle hands a right number back
pub ended_counted : (P : Part) (c : Core) (m : List ℕ) → length m ≡ P.size → Counted c m → ended_blank P c m ≡ blanks (ended_cells waits_page P c m)
ended_counted P c m size right = moved (waits_page c.waits) refl
  where
    moved : (b : Bool) → waits_page c.waits ≡ b → ended_blank P c m ≡ blanks (ended_cells waits_page P c m)
    moved true w =
        let s : ended_cells waits_page P c m ≡ _ = at_yes _ _ w in
        let long : length (ended_cells waits_page P c m) ≡ length m = ap length s ∙ stored_length P c.waits.page c.waits.latch m in
        at_yes _ _ w ∙ right_recounted m (ended_cells waits_page P c m) long P size c.blank right
    moved false w = at_no _ _ w ∙ right ∙ ap blanks (sym (at_no _ _ w))

-- and no more cells than the memory has
pub ended_most : (P : Part) (c : Core) (m : List ℕ) → c.blank ≤ P.size → ended_blank P c m ≤ P.size
ended_most P c m h = pick_case (λ (n : ℕ). n ≤ P.size) (waits_page c.waits) (λ w. held_most P.size _) (λ w. h)

module _ (P : Part) (t : ℕ) (c : Core) (m : List ℕ) where
  timed_most : c.blank ≤ P.size → timed_blank P t c m ≤ P.size
  unfolding timed_blank
  timed_most h =
      pick_case (λ (n : ℕ). n ≤ P.size) (ends t c)
      (λ e. ended_most P c m h) (λ e. h)

  pub timed_in_within : Within P c → Within P (timed_in P t c m)
  timed_in_within w = renumbered_within P (timed t c) (timed_blank P t c m) (timed_most w.blank) (timed_within P t c w)

  -- while no cycle ends it stays
  pub blank_on : ends t c ≡ false → timed_blank P t c m ≡ c.blank
  unfolding timed_blank
  blank_on e = at_no _ _ e

  pub timed_on : ends t c ≡ false → timed_in P t c m ≡ with_time t (c.left - elapsed c.last t) c
  timed_on e = ap (λ (n : ℕ). with_blank n (timed t c)) (blank_on e) ∙ ap (with_blank c.blank) (on_core P t c e)

  -- the end of any other cycle than a page's leaves it: an identification page does not count
  pub blank_other : waits_page c.waits ≡ false → timed_blank P t c m ≡ c.blank
  unfolding timed_blank
  blank_other w = pick_case (λ (n : ℕ). n ≡ c.blank) (ends t c) (λ e. at_no _ _ w) (λ e. refl)

  -- a reading hands a right number back
  pub timed_counted : length m ≡ P.size → Counted c m → Counted (timed_in P t c m) (timed_memory P t c m)
  unfolding timed_blank timed_cells
  timed_counted size right = go (ends t c) refl
    where
      go : (b : Bool) → ends t c ≡ b → pick (ends t c) (ended_blank P c m) c.blank ≡ blanks (pick (ends t c) (ended_cells waits_page P c m) m)
      go true e = at_yes _ _ e ∙ ended_counted P c m size right ∙ ap blanks (sym (at_yes _ _ e))
      go false e = at_no _ _ e ∙ right ∙ ap blanks (sym (at_no _ _ e))

-- ---- instructions leave it

pub effect_blank : (P : Part) (i : Instruction) (a v : ℕ) (l : Latch) (c : Core) → (effect P i a v l c).blank ≡ c.blank
effect_blank P Wren a v l c = refl
effect_blank P Wrdi a v l c = refl
effect_blank P Rdsr a v l c = refl
effect_blank P Wrsr a v l c = refl
effect_blank P Read a v l c = refl
effect_blank P Write a v l c = refl
effect_blank P Rdid a v l c = refl
effect_blank P Wrid a v l c = refl
effect_blank P Silence a v l c = refl

-- ---- a wrong number changes no other answer

pub effect_renumbered : (P : Part) (i : Instruction) (a v : ℕ) (l : Latch) (c : Core) (n : ℕ)
    → effect P i a v l (with_blank n c) ≡ with_blank n (effect P i a v l c)
effect_renumbered P Wren a v l c n = refl
effect_renumbered P Wrdi a v l c n = refl
effect_renumbered P Rdsr a v l c n = refl
effect_renumbered P Wrsr a v l c n = refl
effect_renumbered P Read a v l c n = refl
effect_renumbered P Write a v l c n = refl
effect_renumbered P Rdid a v l c n = refl
effect_renumbered P Wrid a v l c n = refl
effect_renumbered P Silence a v l c n = refl

pub ended_renumbered : (c : Core) (n : ℕ) → ended (with_blank n c) ≡ with_blank n (ended c)
ended_renumbered c n =
    let f : Core → Core = λ (x : Core). without_cycle x in
    let s = waits_status c.waits in
    let k = waits_lock c.waits in
    ap f (ap (pick s (with_status c.waits.status (with_blank n c))) (sym (pick_ap (with_blank n) k (with_lock c) c))
    ∙ sym (pick_ap (with_blank n) s (with_status c.waits.status c) (pick k (with_lock c) c)))

pub timed_renumbered : (t : ℕ) (c : Core) (n : ℕ) → timed t (with_blank n c) ≡ with_blank n (timed t c)
unfolding timed
timed_renumbered t c n =
    ap (λ (x : Core). pick (ends t c) (with_time t 0 x) (with_time t (c.left - elapsed c.last t) (with_blank n c))) (ended_renumbered c n)
    ∙ sym (pick_ap (with_blank n) (ends t c) (with_time t 0 (ended c)) (with_time t (c.left - elapsed c.last t) c))

-- records equal but for it, both with it inside its range, are both inside their ranges or both outside
pub ranges_renumbered : (P : Part) (c : Core) (n : ℕ) → c.blank ≤ P.size → n ≤ P.size → in_ranges P (with_blank n c) ≡ in_ranges P c
unfolding in_ranges
ranges_renumbered P c n h k =
    ap (λ (b : Bool). flags_fit c && time_fits P c && tied P c && wait_fits P c.waits && b) (le-leb n P.size k ∙ sym (le-leb c.blank P.size h))

-- an equal record is the other with its number
pub numbered : (c d : Core) → EqualBut c d → d ≡ with_blank d.blank c
numbered c d e = ap (with_blank d.blank) (sym e)

module _ (P : Part) (t : ℕ) (c d : Core) (e : EqualBut c d) (m : List ℕ) where
  pub timed_equal_but : EqualBut (timed_in P t c m) (timed_in P t d m)
  timed_equal_but = sym (timed_renumbered t c 0) ∙ ap (timed t) e ∙ timed_renumbered t d 0

pub timed_cells_equal : (its : Waiting → Bool) (P : Part) (t : ℕ) (c d : Core) → EqualBut c d → (m : List ℕ)
    → timed_cells its P t c m ≡ timed_cells its P t d m
unfolding timed_cells
timed_cells_equal its P t c d e m =
    let f : Core → List ℕ = λ (x : Core). pick (ends t x) (ended_cells its P x m) m in
    ap f e
