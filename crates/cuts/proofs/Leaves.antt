-- What a cut leaves: a record inside its ranges, without WEL and without a cycle; and each cell as it was, but where it waited in a running cycle and
-- was chosen. The number of blank cells moves as at a cycle's end.
use Rattle.std.proofs.Common.{◌≡◌, ℕ, ◌+◌, ◌*◌, ◌<◌, ◌≤◌, Bool, true, false, not, ◌&&◌, ltb, leb, List, length, get_or, sym, refl, ap, ◌∙◌, ap₂, arith, ltb-true, ne_eqb, eqb-true, leb-true}
use Rattle.laws.specs.Pick.{pick, pick_case, pick_ap, pick_cong, pick_and, pick_same, at_yes, at_no, and_left, and_right, and_no_left, and_no_right}
use Rattle.laws.specs.Marks.{mark_and}
use Rattle.laws.specs.Flags.{bit_on_law}
use Rattle.codes.specs.Part.{Part, is_part, room, room_words}
use Rattle.codes.specs.Status.{bit, on, bit_of, status_byte}
use Rattle.codes.proofs.Sound.{Sound}
use Rattle.latch.specs.Latches.{marked, byte_at, in_page, stored}
use Rattle.latch.specs.declared.Latch.{Latch}
use Rattle.latch.proofs.Stores.{stored_at_law, stored_length}
use Rattle.blanks.specs.Blanks.{blanks}
use Rattle.chip.specs.Records.{running, nothing, waits_with, waits_status, waits_page, waits_lock, with_waits, with_status, with_lock, with_blank, without_cycle, idle}
use Rattle.chip.specs.Blanks.{Counted, EqualBut}
use Rattle.chip.specs.Time.{ended, ended_cells, ended_blank}
use Rattle.chip.specs.Cells.{Cells, memory_cells, identification_cells, cell_count, theirs, offset, awaited_in}
use Rattle.chip.specs.declared.Waiting.{Waiting}
use Rattle.chip.specs.declared.Core.{Core}
use Rattle.chip.proofs.Within.{Within}
use Rattle.chip.proofs.Passing.{cleared_within, ended_kept, ended_within, ended_lock, theirs_inside}
use Rattle.chip.proofs.Recounts.{renumbered_within, ended_counted, ended_most, ended_renumbered}
use Rattle.cuts.specs.Cuts.{chosen, cut_latch, cut_bit, cut_status, cut_waits, cut_down, cut_core, cut_cells, cut_memory, cut_blank, cut_in}
use Rattle.cuts.specs.declared.Choice.{Choice}

-- ---- the record

-- nothing waits, whether a cycle ran or not
pub cut_waits_law : (h : Choice) (c : Core) → (cut_core h c).waits ≡ nothing
unfolding cut_core
cut_waits_law h c = pick_case (λ (x : Core). x.waits ≡ nothing) (running c) (λ r. refl) (λ r. refl)

module _ (P : Part) (h : Choice) (c : Core) where
  -- nor is there WEL or time left
  pub cut_wel : (cut_core h c).wel ≡ 0
  unfolding cut_core
  cut_wel = pick_case (λ (x : Core). x.wel ≡ 0) (running c) (λ r. refl) (λ r. refl)

  pub cut_left : (cut_core h c).left ≡ 0
  unfolding cut_core
  cut_left = pick_case (λ (x : Core). x.left ≡ 0) (running c) (λ r. refl) (λ r. refl)

  -- part, cycle length and last reading are kept
  kept : (f : Core → ℕ) → ((x : Core) → f (ended x) ≡ f x) → f (cut_down h c) ≡ f c → f (without_cycle c) ≡ f c → f (cut_core h c) ≡ f c
  unfolding cut_core
  kept f over down wel = pick_case (λ (x : Core). f x ≡ f c) (running c) (λ r. over (cut_down h c) ∙ down) (λ r. wel)

  pub cut_part : (cut_core h c).part ≡ c.part
  cut_part = kept (λ x. x.part) (λ x. ended_kept (λ y. y.part) x (λ v. refl) refl refl) refl refl

  pub cut_cycle : (cut_core h c).cycle ≡ c.cycle
  cut_cycle = kept (λ x. x.cycle) (λ x. ended_kept (λ y. y.cycle) x (λ v. refl) refl refl) refl refl

  pub cut_last : (cut_core h c).last ≡ c.last
  cut_last = kept (λ x. x.last) (λ x. ended_kept (λ y. y.last) x (λ v. refl) refl refl) refl refl

  -- it is inside its ranges
  pub cut_within : (m : List ℕ) → Within P c → Within P (cut_in P h c m)
  unfolding cut_core cut_blank
  cut_within m w =
      renumbered_within P (cut_core h c) (cut_blank P h c m)
      (pick_case (λ (n : ℕ). n ≤ P.size) (running c) (λ r. ended_most P (cut_down h c) m w.blank) (λ r. w.blank))
      (pick_case (Within P) (running c) (λ r. ended_within P (cut_down h c) w.flags w.cycle w.blank)
      (λ r. cleared_within P c w.flags w.cycle w.blank))

-- it is that of power-up: given the surviving lock and status bits, the cycle length, the last reading and the number of blank cells
pub cut_powered : (P : Part) (h : Choice) (c : Core) (m : List ℕ) → Within P c
    → let x = cut_core h c in
    cut_in P h c m ≡ idle c.part (on x.lock) (on x.srwd) (on x.bp1) (on x.bp0) c.cycle c.last (cut_blank P h c m)
cut_powered P h c m w = λ i.
    record {
      part = cut_part P h c i;
      lock = bit_on_law x.lock flags.0 i;
      srwd = bit_on_law x.srwd flags.1.0 i;
      bp1 = bit_on_law x.bp1 flags.1.1.0 i;
      bp0 = bit_on_law x.bp0 flags.1.1.1 i;
      wel = cut_wel P h c i;
      cycle = cut_cycle P h c i;
      left = cut_left P h c i;
      last = cut_last P h c i;
      blank = cut_blank P h c m;
      waits = cut_waits_law h c i;
    }
  where
    x : Core
    x = cut_core h c

    flags : (x.lock ≤ 1) × ((x.srwd ≤ 1) × ((x.bp1 ≤ 1) × (x.bp0 ≤ 1)))
    flags =
        let n = is_part x.part in
        let k = leb x.lock 1 in
        let s = leb x.srwd 1 in
        let b = leb x.bp1 1 in
        let a = leb x.bp0 1 in
        let nksba = and_left (n && k && s && b && a) (leb x.wel 1) (cut_within P h c m w).flags in
        let nksb = and_left (n && k && s && b) a nksba in
        let nks = and_left (n && k && s) b nksb in
        let nk = and_left (n && k) s nks in (
          leb-true _ _ (and_right n k nk),
          (
            leb-true _ _ (and_right (n && k) s nks),
            (leb-true _ _ (and_right (n && k && s) b nksb), leb-true _ _ (and_right (n && k && s && b) a nksba)),
          ),
        )

-- ---- lent cells: the memory, or the identification page

with_theirs : (k : Cells) (w : Waiting) (v : ℕ) (l : Latch) → theirs k (waits_with v l w) ≡ theirs k w
with_theirs memory_cells w v l = refl
with_theirs identification_cells w v l = refl

none_theirs : (k : Cells) → theirs k nothing ≡ false
none_theirs memory_cells = refl
none_theirs identification_cells = refl

module _ (P : Part) (h : Choice) (c : Core) where
  pub cut_length : (its : Waiting → Bool) (m : List ℕ) → length (cut_cells its P h c m) ≡ length m
  unfolding cut_cells
  cut_length its m =
      pick_case (λ (s : List ℕ). length s ≡ length m) (running c)
      (λ r. pick_case (λ (s : List ℕ). length s ≡ length m) (its (cut_waits h c))
      (λ w. stored_length P (cut_waits h c).page (cut_waits h c).latch m) (λ w. refl))
      (λ r. refl)

  -- what waits for them is neither a status value nor the lock, so its latched bytes are cut down ..
  not_other : (c.waits.kind ≡ 1 → ⊥) → (c.waits.kind ≡ 4 → ⊥) → cut_waits h c ≡ waits_with c.waits.status (cut_latch h c.waits.latch) c.waits
  not_other s k =
      at_no _ _ (ne_eqb c.waits.kind 1 s) ∙ at_no _ _ (ap (λ (t : Bool). t && not (chosen h 0)) (ne_eqb c.waits.kind 4 k))

  cut_latched : (k : Cells) → theirs k c.waits ≡ true → cut_waits h c ≡ waits_with c.waits.status (cut_latch h c.waits.latch) c.waits
  cut_latched memory_cells e =
      let kind : c.waits.kind ≡ 2 = eqb-true _ _ e in
      not_other (λ q. omega (arith, kind, q)) (λ q. omega (arith, kind, q))
  cut_latched identification_cells e =
      let kind : c.waits.kind ≡ 3 = eqb-true _ _ e in
      not_other (λ q. omega (arith, kind, q)) (λ q. omega (arith, kind, q))

  -- .. and nothing waits for them that did not
  cut_other : (k : Cells) → theirs k c.waits ≡ false → theirs k (cut_waits h c) ≡ false
  cut_other k e =
      pick_case (λ (w : Waiting). theirs k w ≡ false) (waits_status c.waits) (λ s. with_theirs k c.waits _ _ ∙ e)
      (λ s. pick_case (λ (w : Waiting). theirs k w ≡ false) (waits_lock c.waits && not (chosen h 0)) (λ q. none_theirs k)
      (λ q. with_theirs k c.waits _ _ ∙ e))

  cut_marked : (j : ℕ) → j < room → marked (cut_latch h c.waits.latch) j ≡ (marked c.waits.latch j && chosen h j)
  cut_marked j b = mark_and room_words c.waits.latch.marks h.words j b

  -- demand 2's cell rule, for a cut: it stores exactly the cells that wait and were chosen, and changes no other
  pub cut_rule : Sound P → Within P c → (k : Cells) (m : List ℕ) → length m ≡ cell_count k P → (i : ℕ) → i < cell_count k P
      → get_or (cut_cells (theirs k) P h c m) i 0
      ≡ pick (running c && (awaited_in k P c i && chosen h (offset P c i))) (byte_at c.waits.latch (offset P c i)) (get_or m i 0)
  unfolding cut_cells
  cut_rule sound w k m size i b =
      let at : List ℕ → ℕ = λ s. get_or s i 0 in
      let stays = get_or m i 0 in
      let takes = byte_at c.waits.latch (offset P c i) in
      pick_ap at (running c) (ended_cells (theirs k) P (cut_down h c) m) m
      ∙ pick_cong (running c) stays (λ r. over (theirs k c.waits) refl)
      ∙ sym (pick_and (running c) (awaited_in k P c i && chosen h (offset P c i)) takes stays)
    where
      over : (t : Bool) → theirs k c.waits ≡ t → get_or (ended_cells (theirs k) P (cut_down h c) m) i 0
          ≡ pick (awaited_in k P c i && chosen h (offset P c i)) (byte_at c.waits.latch (offset P c i)) (get_or m i 0)
      over true e =
          let j = offset P c i in
          let l = c.waits.latch in
          let mine = theirs k c.waits in
          let inside = in_page P c.waits.page i in
          let takes = byte_at l j in
          let stays = get_or m i 0 in
          ap (λ (x : Waiting). get_or (pick (theirs k x) (stored P x.page x.latch m) m) i 0) (cut_latched k e)
          ∙ ap (λ (s : List ℕ). get_or s i 0) (at_yes _ _ (with_theirs k c.waits _ _ ∙ e))
          ∙ stored_at_law P c.waits.page (cut_latch h l) m (theirs_inside P c w k m size e) i (omega (arith, size, b))
          ∙ pick_cong inside stays (λ q. ap (λ (t : Bool). pick t takes stays) (cut_marked j (in_room q)) ∙ pick_and (marked l j) (chosen h j) takes stays)
          ∙ sym (pick_and (mine && inside && marked l j) (chosen h j) takes stays
          ∙ pick_and (mine && inside) (marked l j) (pick (chosen h j) takes stays) stays
          ∙ pick_and mine inside (pick (marked l j) (pick (chosen h j) takes stays) stays) stays
          ∙ at_yes _ _ e)
        where
          in_room : in_page P c.waits.page i ≡ true → offset P c i < room
          in_room q =
              let start = c.waits.page * P.page in
              let past : i < start + P.page = ltb-true _ _ (and_right (leb start i) (ltb i (start + P.page)) q) in
              let from : start ≤ i = leb-true _ _ (and_left (leb start i) (ltb i (start + P.page)) q) in
              omega (arith, past, from, sound.page_room)
      over false e =
          ap (λ (s : List ℕ). get_or s i 0) (at_no _ _ (cut_other k e))
          ∙ sym (at_no _ _ (ap (λ (t : Bool). t && in_page P c.waits.page i && marked c.waits.latch (offset P c i) && chosen h (offset P c i)) e))

-- ---- the number of blank cells

module _ (P : Part) (h : Choice) (c : Core) (m : List ℕ) where
  -- a right number stays right
  pub cut_counted : length m ≡ P.size → Counted c m → Counted (cut_in P h c m) (cut_memory P h c m)
  unfolding cut_blank cut_cells
  cut_counted size right = go (running c) refl
    where
      go : (b : Bool) → running c ≡ b
          → pick (running c) (ended_blank P (cut_down h c) m) c.blank ≡ blanks (pick (running c) (ended_cells waits_page P (cut_down h c) m) m)
      go true e = at_yes _ _ e ∙ ended_counted P (cut_down h c) m size right ∙ ap blanks (sym (at_yes _ _ e))
      go false e = at_no _ _ e ∙ right ∙ ap blanks (sym (at_no _ _ e))

-- and a wrong one changes no other answer
pub cut_renumbered : (h : Choice) (c : Core) (n : ℕ) → cut_core h (with_blank n c) ≡ with_blank n (cut_core h c)
unfolding cut_core
cut_renumbered h c n =
    ap (λ (x : Core). pick (running c) x (without_cycle (with_blank n c))) (ended_renumbered (cut_down h c) n)
    ∙ sym (pick_ap (with_blank n) (running c) (ended (cut_down h c)) (without_cycle c))

pub cut_equal_but : (P : Part) (h : Choice) (c d : Core) → EqualBut c d → (m : List ℕ) → EqualBut (cut_in P h c m) (cut_in P h d m)
cut_equal_but P h c d e m = sym (cut_renumbered h c 0) ∙ ap (cut_core h) e ∙ cut_renumbered h d 0

pub cut_cells_equal : (its : Waiting → Bool) (P : Part) (h : Choice) (c d : Core) → EqualBut c d → (m : List ℕ)
    → cut_cells its P h c m ≡ cut_cells its P h d m
unfolding cut_cells
cut_cells_equal its P h c d e m =
    let f : Core → List ℕ = λ (x : Core). pick (running x) (ended_cells its P (cut_down h x) m) m in
    ap f e

-- ---- the lock and the status bits

-- the lock is set exactly where it waited in a running cycle and was chosen, and never opens
pub cut_lock : (h : Choice) (c : Core) → (cut_core h c).lock ≡ pick (running c && (waits_lock c.waits && chosen h 0)) 1 c.lock
unfolding cut_core
cut_lock h c =
    pick_ap (λ (x : Core). x.lock) (running c) (ended (cut_down h c)) (without_cycle c)
    ∙ pick_cong (running c) c.lock (λ r. ended_lock (cut_down h c)
    ∙ ap (λ (t : Bool). pick t 1 c.lock) (still (waits_lock c.waits) (chosen h 0) refl refl))
    ∙ sym (pick_and (running c) (waits_lock c.waits && chosen h 0) 1 c.lock)
  where
    -- it still waits where it did and was chosen
    still : (t u : Bool) → waits_lock c.waits ≡ t → chosen h 0 ≡ u → waits_lock (cut_waits h c) ≡ (waits_lock c.waits && chosen h 0)
    still false u e f =
        pick_case (λ (w : Waiting). waits_lock w ≡ false) (waits_status c.waits) (λ s. e)
        (λ s. pick_case (λ (w : Waiting). waits_lock w ≡ false) (waits_lock c.waits && not (chosen h 0)) (λ q. refl) (λ q. e))
        ∙ sym (ap (λ (b : Bool). b && chosen h 0) e)
    still true u e f =
        let fourth : c.waits.kind ≡ 4 = eqb-true _ _ e in
        ap waits_lock (at_no _ _ (ne_eqb c.waits.kind 1 (λ q. omega (arith, fourth, q)))) ∙ by u f
      where
        by : (u : Bool) → chosen h 0 ≡ u
            → waits_lock (pick (waits_lock c.waits && not (chosen h 0)) nothing (waits_with c.waits.status (cut_latch h c.waits.latch) c.waits))
            ≡ (waits_lock c.waits && chosen h 0)
        by true g = ap waits_lock (at_no _ _ (ap₂ (λ (a b : Bool). a && not b) e g)) ∙ e ∙ sym (ap₂ ◌&&◌ e g)
        by false g = ap waits_lock (at_yes _ _ (ap₂ (λ (a b : Bool). a && not b) e g)) ∙ sym (ap₂ ◌&&◌ e g)

-- the bits of a status value that was put together of them
status_bits : (a b d : Bool)
    → let v = status_byte a b d false false in (bit_of 7 v ≡ bit a) × ((bit_of 3 v ≡ bit b) × (bit_of 2 v ≡ bit d))
status_bits true true true = (refl, (refl, refl))
status_bits true true false = (refl, (refl, refl))
status_bits true false true = (refl, (refl, refl))
status_bits true false false = (refl, (refl, refl))
status_bits false true true = (refl, (refl, refl))
status_bits false true false = (refl, (refl, refl))
status_bits false false true = (refl, (refl, refl))
status_bits false false false = (refl, (refl, refl))

-- each status bit is the waiting value's where that waited in a running cycle and the bit was chosen, else as it was
module _ (h : Choice) (c : Core) where
  abbrev its : ℕ → ℕ → ℕ
  its k old = pick (running c && waits_status c.waits) (bit (cut_bit h k c.waits.status old)) old

  pub record CutBits : Type 0 where
    pub srwd : (cut_core h c).srwd ≡ its 7 c.srwd
    pub bp1 : (cut_core h c).bp1 ≡ its 3 c.bp1
    pub bp0 : (cut_core h c).bp0 ≡ its 2 c.bp0

  -- f is the bit's field, v the bit of a value
  a_bit : (f : Core → ℕ) (k : ℕ) → ((v : ℕ) (x : Core) → f (without_cycle (with_status v x)) ≡ bit_of k v) → f (cut_down h c) ≡ f c → f (without_cycle c) ≡ f c
      → ((x : Core) → f (without_cycle (with_lock x)) ≡ f x) → ((x : Core) → f (without_cycle x) ≡ f x)
      → bit_of k (cut_status h c.waits.status c) ≡ bit (cut_bit h k c.waits.status (f c))
      → f (cut_core h c) ≡ its k (f c)
  unfolding cut_core
  a_bit f k value down wel lock over bits =
      pick_ap f (running c) (ended (cut_down h c)) (without_cycle c)
      ∙ ap (pick (running c) (f (ended (cut_down h c)))) wel
      ∙ pick_cong (running c) (f c) (λ r. by (waits_status c.waits) refl)
      ∙ sym (pick_and (running c) (waits_status c.waits) _ (f c))
    where
      none : waits_status c.waits ≡ false → waits_status (cut_waits h c) ≡ false
      none e =
          pick_case (λ (w : Waiting). waits_status w ≡ false) (waits_status c.waits) (λ s. e)
          (λ s. pick_case (λ (w : Waiting). waits_status w ≡ false) (waits_lock c.waits && not (chosen h 0)) (λ q. refl) (λ q. e))

      by : (t : Bool) → waits_status c.waits ≡ t → f (ended (cut_down h c)) ≡ pick (waits_status c.waits) (bit (cut_bit h k c.waits.status (f c))) (f c)
      by true e =
          ap (λ (w : Waiting). f (ended (with_waits w c))) (at_yes _ _ e)
          ∙ ap (λ (x : Core). f (without_cycle x)) (at_yes _ _ e)
          ∙ value (cut_status h c.waits.status c) (with_waits (waits_with (cut_status h c.waits.status c) c.waits.latch c.waits) c)
          ∙ bits
          ∙ sym (at_yes _ _ e)
      by false e =
          ap (λ (x : Core). f (without_cycle x)) (at_no _ _ (none e))
          ∙ pick_case (λ (x : Core). f (without_cycle x) ≡ f c) (waits_lock (cut_waits h c)) (λ q. lock (cut_down h c) ∙ down) (λ q. over (cut_down h c) ∙ down)
          ∙ sym (at_no _ _ e)

  pub cut_bits : CutBits
  cut_bits =
      let b = status_bits (cut_bit h 7 c.waits.status c.srwd) (cut_bit h 3 c.waits.status c.bp1) (cut_bit h 2 c.waits.status c.bp0) in
      record {
        srwd = a_bit (λ x. x.srwd) 7 (λ v x. refl) refl refl (λ x. refl) (λ x. refl) b.0;
        bp1 = a_bit (λ x. x.bp1) 3 (λ v x. refl) refl refl (λ x. refl) (λ x. refl) b.1.0;
        bp0 = a_bit (λ x. x.bp0) 2 (λ v x. refl) refl refl (λ x. refl) (λ x. refl) b.1.1;
      }

-- ---- nothing waits after it

pub cut_quiet : (its : Waiting → Bool) (h : Choice) (c : Core) → its nothing ≡ false → its (cut_core h c).waits ≡ false
cut_quiet its h c none = ap its (cut_waits_law h c) ∙ none

pub cut_awaits : (k : Cells) (P : Part) (h : Choice) (c : Core) (i : ℕ) → awaited_in k P (cut_core h c) i ≡ false
cut_awaits k P h c i =
    ap (λ (t : Bool). t && in_page P (cut_core h c).waits.page i && marked (cut_core h c).waits.latch (offset P (cut_core h c) i))
    (ap (theirs k) (cut_waits_law h c) ∙ none_theirs k)

-- cells for which nothing waits stay
pub cut_none : (k : Cells) (P : Part) (h : Choice) (c : Core) (m : List ℕ) → theirs k c.waits ≡ false → cut_cells (theirs k) P h c m ≡ m
unfolding cut_cells
cut_none k P h c m e = pick_case (λ (s : List ℕ). s ≡ m) (running c) (λ r. at_no _ _ (cut_other P h c k e)) (λ r. refl)

-- a lock that is set stays so, and one that does not wait stays as it is
pub cut_shut : (h : Choice) (c : Core) → c.lock ≡ 1 → (cut_core h c).lock ≡ 1
cut_shut h c e = cut_lock h c ∙ ap (pick (running c && (waits_lock c.waits && chosen h 0)) 1) e ∙ pick_same _ 1

pub cut_unset : (h : Choice) (c : Core) → waits_lock c.waits ≡ false → (cut_core h c).lock ≡ c.lock
cut_unset h c e =
    cut_lock h c
    ∙ at_no _ _ (and_no_right (running c) (waits_lock c.waits && chosen h 0) (and_no_left (waits_lock c.waits) (chosen h 0) e))
