-- A clock reading: it keeps the ranges; what it does to WEL, to what waits and to each cell of the memory.
use Rattle.std.proofs.Common.{◌≡◌, ℕ, suc, ◌+◌, ◌-◌, ◌*◌, ◌/◌, ◌^◌, ◌<◌, ◌≤◌, Bool, true, false, ◌&&◌, leb, List, length, get_or, sym, refl, ap, ◌∙◌, true≢false, mul-le-mul_right, mod-lt, suc-mul, div-mul-le_self, arith, ltb-true, lt-ltb, ne_eqb, eqb-true, le-leb, leb-false}
use Rattle.laws.specs.Pick.{pick, at_yes, at_no, pick_case, pick_ap, pick_cong, pick_and, and_left, and_right, and_both}
use Rattle.codes.specs.Part.{Part, is_part, pages}
use Rattle.codes.specs.Status.{bit_of}
use Rattle.latch.specs.Latches.{latch_fits, in_page, marked, byte_at, stored}
use Rattle.chip.specs.Records.{running, nothing, with_status, with_lock, with_time, without_cycle}
use Rattle.chip.specs.Records.{waits_status, waits_page, waits_identification, waits_lock, waits_latch}
use Rattle.chip.specs.Ranges.{flags_fit, cycle_fits, page_fits, value_fits}
use Rattle.chip.specs.Time.{elapsed, ends, ended, ended_cells, timed, timed_cells, timed_memory}
use Rattle.chip.specs.Cells.{Cells, memory_cells, identification_cells, cell_count, theirs, offset, awaited_by, awaited_in, awaited}
use Rattle.chip.specs.declared.Waiting.{Waiting}
use Rattle.chip.specs.declared.Core.{Core}
use Rattle.latch.proofs.Stores.{stored_at_law, stored_length}
use Rattle.chip.proofs.Within.{Within, quiet_within, runs_within}

-- ---- the ranges are kept

bit_fits : (k v : ℕ) → leb (bit_of k v) 1 ≡ true
bit_fits k v =
    let small : bit_of k v < 2 = mod-lt (v / 2 ^ k) (omega arith) in
    le-leb (bit_of k v) 1 (omega arith)

-- the status bits of a status value fit, and so does WEL at 0
flags_status : (v : ℕ) (c : Core) → flags_fit c ≡ true → flags_fit (with_status v c) ≡ true
flags_status v c e =
    let s = is_part c.part && leb c.lock 1 in
    let settled = and_left (s && leb c.srwd 1 && leb c.bp1 1 && leb c.bp0 1) (leb c.wel 1) e in
    let first : s ≡ true = and_left s (leb c.srwd 1)
    (and_left (s && leb c.srwd 1) (leb c.bp1 1) (and_left (s && leb c.srwd 1 && leb c.bp1 1) (leb c.bp0 1) settled)) in
    rw (first, bit_fits 7 v, bit_fits 3 v, bit_fits 2 v) (and_right (s && leb c.srwd 1 && leb c.bp1 1 && leb c.bp0 1) (leb c.wel 1) e)

-- and the lock that is set
flags_locked : (c : Core) → flags_fit c ≡ true → flags_fit (with_lock c) ≡ true
flags_locked c e =
    let n = is_part c.part in
    let k = leb c.lock 1 in
    let s = leb c.srwd 1 in
    let b = leb c.bp1 1 in
    let a = leb c.bp0 1 in
    let w = leb c.wel 1 in
    let one : k ≡ true =
    and_right n k (and_left (n && k) s (and_left (n && k && s) b (and_left (n && k && s && b) a (and_left (n && k && s && b && a) w e)))) in
    sym (ap (λ (x : Bool). n && x && s && b && a && w) one) ∙ e

flags_cleared : (P : Part) (c : Core) → flags_fit c ≡ true → flags_fit (without_cycle c) ≡ true
flags_cleared P c e =
    let s = is_part c.part && leb c.lock 1 && leb c.srwd 1 && leb c.bp1 1 && leb c.bp0 1 in
    and_both s true (and_left s (leb c.wel 1) e) refl

-- ---- a record whose cycle is over

-- what neither a status value nor the lock nor the cycle's end moves
pub ended_kept : {A : Type 0} (f : Core → A) (c : Core) → ((v : ℕ) → f (without_cycle (with_status v c)) ≡ f c) → f (without_cycle (with_lock c)) ≡ f c
    → f (without_cycle c) ≡ f c → f (ended c) ≡ f c
ended_kept f c s k n =
    pick_case (λ x. f (without_cycle x) ≡ f c) (waits_status c.waits) (λ e. s c.waits.status)
    (λ e. pick_case (λ x. f (without_cycle x) ≡ f c) (waits_lock c.waits) (λ q. k) (λ q. n))

ended_flags : (P : Part) (c : Core) → flags_fit c ≡ true → flags_fit (ended c) ≡ true
ended_flags P c f =
    pick_case (λ x. flags_fit (without_cycle x) ≡ true) (waits_status c.waits)
    (λ s. flags_cleared P (with_status c.waits.status c) (flags_status c.waits.status c f))
    (λ s. pick_case (λ x. flags_fit (without_cycle x) ≡ true) (waits_lock c.waits) (λ k. flags_cleared P (with_lock c) (flags_locked c f))
    (λ k. flags_cleared P c f))

-- a record without a cycle is inside its ranges, and so is one whose cycle is over, whatever waited
pub cleared_within : (P : Part) (c : Core) → flags_fit c ≡ true → cycle_fits P c.cycle ≡ true → c.blank ≤ P.size → Within P (without_cycle c)
cleared_within P c f y b = quiet_within P (without_cycle c) (flags_cleared P c f) y refl refl b

pub ended_within : (P : Part) (c : Core) → flags_fit c ≡ true → cycle_fits P c.cycle ≡ true → c.blank ≤ P.size → Within P (ended c)
ended_within P c f y b =
    quiet_within P (ended c) (ended_flags P c f) (ap (cycle_fits P) (ended_kept (λ x. x.cycle) c (λ v. refl) refl refl) ∙ y) refl refl
    (omega (arith, b, ended_kept (λ x. x.blank) c (λ v. refl) refl refl))

module _ (P : Part) (t : ℕ) (c : Core) where
  pub timed_within : Within P c → Within P (timed t c)
  unfolding timed
  timed_within w =
      pick_case (Within P) (ends t c)
      (λ e. runs_within P (ended c) t 0 (omega arith) (λ h. h) (ended_within P c w.flags w.cycle w.blank))
      (λ e. runs_within P c t (c.left - elapsed c.last t) (omega arith) (λ h. left_over h e) w)
    where
      left_over : 0 < c.left → ends t c ≡ false → 0 < c.left - elapsed c.last t
      left_over h e = go (leb c.left (elapsed c.last t)) refl
        where
          go : (b : Bool) → leb c.left (elapsed c.last t) ≡ b → 0 < c.left - elapsed c.last t
          go true q = absurd (true≢false (sym (and_both (running c) (leb c.left (elapsed c.last t)) (lt-ltb 0 c.left h) q) ∙ e))
          go false q =
              let more : elapsed c.last t < c.left = leb-false c.left (elapsed c.last t) q in
              omega arith

  -- WEL and what waits are gone in the step in which the cycle ends, and no time is left
  pub over_wel : ends t c ≡ true → (timed t c).wel ≡ 0
  unfolding timed
  over_wel e = ap (λ (x : Core). x.wel) (at_yes _ _ e)

  pub over_waits : ends t c ≡ true → (timed t c).waits ≡ nothing
  unfolding timed
  over_waits e = ap (λ (x : Core). x.waits) (at_yes _ _ e)

  pub over_left : ends t c ≡ true → (timed t c).left ≡ 0
  unfolding timed
  over_left e = ap (λ (x : Core). x.left) (at_yes _ _ e)

  -- while it does not end, only the time left and the last reading move
  pub on_core : ends t c ≡ false → timed t c ≡ with_time t (c.left - elapsed c.last t) c
  unfolding timed
  on_core e = at_no _ _ e

-- ---- lent cells: the memory, or the identification page

module _ (theirs : Waiting → Bool) (P : Part) (t : ℕ) (c : Core) (m : List ℕ) where
  pub timed_length : length (timed_cells theirs P t c m) ≡ length m
  unfolding timed_cells
  timed_length =
      pick_case (λ (s : List ℕ). length s ≡ length m) (ends t c)
      (λ e. pick_case (λ (s : List ℕ). length s ≡ length m) (theirs c.waits) (λ w. stored_length P c.waits.page c.waits.latch m) (λ w. refl))
      (λ e. refl)

  -- no cell changes unless a cycle of theirs ends
  pub no_end : ends t c ≡ false → timed_cells theirs P t c m ≡ m
  unfolding timed_cells
  no_end e = at_no _ _ e

  pub not_theirs : theirs c.waits ≡ false → timed_cells theirs P t c m ≡ m
  unfolding timed_cells
  not_theirs w = pick_case (λ (s : List ℕ). s ≡ m) (ends t c) (λ e. at_no _ _ w) (λ e. refl)

  -- demand 2's cell rule, for time: a reading that ends a cycle stores exactly the cells that wait, and changes no other
  pub cells_rule : (theirs c.waits ≡ true → c.waits.page * P.page + P.page ≤ length m) → (i : ℕ) → i < length m
      → get_or (timed_cells theirs P t c m) i 0 ≡ pick (ends t c && awaited_by theirs P c i) (byte_at c.waits.latch (offset P c i)) (get_or m i 0)
  unfolding timed_cells
  cells_rule fits i h =
      let stays = get_or m i 0 in
      let takes = byte_at c.waits.latch (offset P c i) in
      let at : List ℕ → ℕ = λ s. get_or s i 0 in
      let over = ends t c in
      let page = theirs c.waits in
      let inside = in_page P c.waits.page i in
      let mark = marked c.waits.latch (offset P c i) in
      pick_ap at over (ended_cells theirs P c m) m
      ∙ pick_cong over stays (λ e. pick_ap at page (stored P c.waits.page c.waits.latch m) m
      ∙ pick_cong page stays (λ q. stored_at_law P c.waits.page c.waits.latch m (fits q) i h))
      ∙ sym (pick_and over (page && inside && mark) takes stays
      ∙ pick_cong over stays (λ e. pick_and (page && inside) mark takes stays ∙ pick_and page inside (pick mark takes stays) stays))

-- the page that waits lies in the cells that it waits for, of a record inside its ranges
module _ (P : Part) (c : Core) (w : Within P c) where
  fits_page : page_fits P c.waits ≡ true
  fits_page =
      and_right (value_fits c.waits) (page_fits P c.waits)
      (and_left (value_fits c.waits && page_fits P c.waits) (latch_fits P (waits_latch c.waits) c.waits.latch) w.waits)

  page_inside : (m : List ℕ) → length m ≡ P.size → waits_page c.waits ≡ true → c.waits.page * P.page + P.page ≤ length m
  page_inside m size e =
      let below : c.waits.page < pages P = ltb-true _ _ (sym (at_yes _ _ e) ∙ fits_page) in
      let most : suc c.waits.page * P.page ≤ pages P * P.page = mul-le-mul_right P.page below in
      let whole : pages P * P.page ≤ P.size = div-mul-le_self P.size P.page in
      let next : suc c.waits.page * P.page ≡ c.waits.page * P.page + P.page = suc-mul c.waits.page P.page in
      omega arith

  -- the identification page is page 0
  identification_inside : (d : List ℕ) → length d ≡ P.page → waits_identification c.waits ≡ true → c.waits.page * P.page + P.page ≤ length d
  identification_inside d long e =
      let third : c.waits.kind ≡ 3 = eqb-true _ _ e in
      let none : waits_page c.waits ≡ false = ne_eqb c.waits.kind 2 (λ k. omega (arith, third, k)) in
      let zero : c.waits.page ≡ 0 = eqb-true _ _ (sym (at_no _ _ none) ∙ fits_page) in
      rw zero (omega arith)

  -- whichever cells it waits for
  pub theirs_inside : (k : Cells) (m : List ℕ) → length m ≡ cell_count k P → theirs k c.waits ≡ true → c.waits.page * P.page + P.page ≤ length m
  theirs_inside memory_cells = page_inside
  theirs_inside identification_cells = identification_inside

-- the rule for the memory and for the identification page
module _ (P : Part) (t : ℕ) (c : Core) (w : Within P c) where
  pub lent_rule : (k : Cells) (m : List ℕ) → length m ≡ cell_count k P → (i : ℕ) → i < cell_count k P
      → get_or (timed_cells (theirs k) P t c m) i 0 ≡ pick (ends t c && awaited_in k P c i) (byte_at c.waits.latch (offset P c i)) (get_or m i 0)
  lent_rule k m size i h = cells_rule (theirs k) P t c m (theirs_inside P c w k m size) i (omega (arith, size, h))

module _ (P : Part) (t : ℕ) (c : Core) (m : List ℕ) (size : length m ≡ P.size) (w : Within P c) where
  pub cell_rule : (i : ℕ) → i < P.size
      → get_or (timed_memory P t c m) i 0 ≡ pick (ends t c && awaited P c i) (byte_at c.waits.latch (offset P c i)) (get_or m i 0)
  cell_rule i h = lent_rule P t c w memory_cells m size i h

-- .. and for the lock, which is set exactly where a cycle of its own ends, and never opens
pub ended_lock : (c : Core) → (ended c).lock ≡ pick (waits_lock c.waits) 1 c.lock
ended_lock c =
    let its : Core → ℕ = λ x. x.lock in
    let w = c.waits in
    pick_ap its (waits_status w) (with_status w.status c) (pick (waits_lock w) (with_lock c) c)
    ∙ pick_case (λ (v : ℕ). v ≡ pick (waits_lock w) 1 c.lock) (waits_status w)
    (λ s. sym (at_no _ _ (ne_eqb w.kind 4 (λ k. omega (arith, k, eqb-true w.kind 1 s)))))
    (λ s. pick_ap its (waits_lock w) (with_lock c) c)

pub lock_rule : (P : Part) (t : ℕ) (c : Core) → (timed t c).lock ≡ pick (ends t c && waits_lock c.waits) 1 c.lock
unfolding timed
lock_rule P t c =
    pick_ap (λ (x : Core). x.lock) (ends t c) _ _
    ∙ pick_cong (ends t c) c.lock (λ e. ended_lock c)
    ∙ sym (pick_and (ends t c) (waits_lock c.waits) 1 c.lock)
