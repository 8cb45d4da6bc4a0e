-- The lock over events: it changes only where a cycle of its own ends, never opens, and waits only once a frame that sets it is accepted. A page that is
-- locked while none waits never changes, and none comes to wait. A part without the page changes neither.
use mathlib.Core.Path.{◌≡◌, refl, ap, sym, ◌∙◌}
use mathlib.Core.List.{List, [], ◌∷◌}
use mathlib.Core.Bool.{Bool, true, false, not, ◌&&◌, ◌||◌, true≢false}
use Prim.Native.Nat.{ℕ}
use lib.Dec.{eqb}
use Rattle.laws.specs.Pick.{pick, pick_case, pick_same, at_yes, at_no, and_left, and_right, and_both, and_no_left, and_no_right}
use Rattle.laws.specs.And.{and_other, or_none_out, or_none_in, failed, never}
use Rattle.codes.specs.Part.{Part}
use Rattle.codes.specs.Status.{bit, on}
use Rattle.codes.specs.Instructions.{decode, row, is_wrid, picks_lock, sets_lock}
use Rattle.codes.specs.Verdicts.{is_executed}
use Rattle.codes.specs.declared.Instruction.{Instruction}
use Rattle.codes.specs.declared.Instruction.TheVariants.{Wren, Wrdi, Rdsr, Wrsr, Read, Write, Rdid, Wrid, Silence}
use Rattle.codes.proofs.Sound.{Sound}
use Rattle.codes.proofs.Judged.{passed, wrid_identified}
use Rattle.chip.specs.Lents.{Lent}
use Rattle.chip.specs.Records.{waits_identification, waits_lock}
use Rattle.chip.specs.Time.{ends, timed_in}
use Rattle.chip.specs.Cells.{identification_cells, writer}
use Rattle.chip.specs.declared.Core.{Core}
use Rattle.chip.proofs.Kept.{effect_lock}
use Rattle.chip.proofs.Passing.{not_theirs, lock_rule}
use Rattle.chip.proofs.Locking.{Locked, locked_effect, locked_timed, effect_awaits_lock, timed_awaits_lock}
use Rattle.chip.specs.Ranges.{in_ranges}
use Rattle.chip.proofs.Within.{within}
use Rattle.chip.proofs.Plain.{Unwaited, plain_unwaited, unwaited_effect, unwaited_timed, unwaited_lock}
use Rattle.pins.specs.declared.Device.{Device}
use Rattle.pins.specs.declared.Event.{Event}
use Rattle.pins.specs.declared.Event.TheVariants.{S, C, D, W, Hold, Time}
use Rattle.pins.specs.Devices.{with_c, with_pins, selected, counting}
use Rattle.pins.specs.Ranges.{device_fits}
use Rattle.pins.specs.Events.{judged_now, executed_now, renewed, on_s, on_c, on_d, on_w, on_hold, on_time, stepped, stepped_identification, event_of}
use Rattle.pins.specs.Answers.{PinBench, lent_to, after_event, played}
use Rattle.pins_theorems.specs.Cells.{ends_cycle}
use Rattle.pins_theorems.specs.Hands.{Hand, no_hand, hand_after, code_of, start_of, first_of}
use Rattle.pins_theorems.specs.Locks.{locks, locks_any, accepts_lock, accepted_lock}
use Rattle.pins_theorems.proofs.Parts.{parts}
use Rattle.pins_theorems.proofs.Fits.{Sized, stepped_fits, stepped_sized}
use Rattle.pins_theorems.proofs.Accepted.{Clocked, picks_start, event_clocked, unselected_clocked}

-- ---- the record after an event: S rising may execute a frame, a reading passes time, and every other event leaves it

module _ (P : Part) (x : Device) where
  on_s_core : (Q : Core → Type 0) → Q x.core → (on x.pins.s ≡ false → is_executed (judged_now P x) ≡ true → Q (executed_now P x))
      → Q (on_s P true x).core
  unfolding on_s pick
  on_s_core Q stays does =
      pick_case (λ (y : Device). Q y.core) (eqb x.pins.s 1) (λ s. stays)
      (λ s. pick_case Q (is_executed (judged_now P x)) (λ e. does s e) (λ e. stays))

  on_c_core : (Q : Core → Type 0) → Q x.core → (level : Bool) (m : Lent) → Q (on_c P level m x).core
  unfolding on_c
  on_c_core Q stays level m =
      pick_case (λ (y : Device). Q y.core) (eqb x.pins.c (bit level)) (λ e. stays)
      (λ e. pick_case (λ (y : Device). Q y.core) level
      (λ l. pick_case (λ (y : Device). Q (with_pins (with_c 1 x.pins) y).core) (counting x) (λ n. stays) (λ n. stays))
      (λ l. pick_case (λ (y : Device). Q (renewed (with_pins (with_c 0 x.pins) y)).core) (counting x) (λ n. stays) (λ n. stays)))

  on_select_core : (Q : Core → Type 0) → Q x.core → Q (on_s P false x).core
  unfolding on_s pick
  on_select_core Q stays = pick_case (λ (y : Device). Q y.core) (eqb x.pins.s 0) (λ e. stays) (λ e. stays)

  on_hold_core : (Q : Core → Type 0) → Q x.core → (level : Bool) → Q (on_hold level x).core
  unfolding on_hold
  on_hold_core Q stays level = pick_case (λ (y : Device). Q y.core) (on x.pins.c) (λ e. stays) (λ e. stays)

  pub stepped_core : (Q : Event → Core → Type 0) → ((e : Event) → ends_cycle e x.core ≡ false → Q e x.core)
      → (on x.pins.s ≡ false → is_executed (judged_now P x) ≡ true → Q (S true) (executed_now P x))
      → ((t : ℕ) (m : List ℕ) → Q (Time t) (timed_in P t x.core m))
      → (m : Lent) (e : Event) → Q e (stepped P m e x).core
  unfolding on_d on_w on_time
  stepped_core Q stays does passes m (S true) = on_s_core (Q (S true)) (stays (S true) refl) does
  stepped_core Q stays does passes m (S false) = on_select_core (Q (S false)) (stays (S false) refl)
  stepped_core Q stays does passes m (C level) = on_c_core (Q (C level)) (stays (C level) refl) level m
  stepped_core Q stays does passes m (D level) = stays (D level) refl
  stepped_core Q stays does passes m (W level) = stays (W level) refl
  stepped_core Q stays does passes m (Hold level) = on_hold_core (Q (Hold level)) (stays (Hold level) refl) level
  stepped_core Q stays does passes m (Time t) = passes t m.memory

-- ---- the lock never opens

executed_lock : (P : Part) (x : Device) → (executed_now P x).lock ≡ x.core.lock
executed_lock P x = effect_lock P (decode P x.frame.code) x.frame.address x.frame.value x.frame.latch x.core

never_opens : (P : Part) (x : Device) → x.core.lock ≡ 1 → (m : Lent) (e : Event) → (stepped P m e x).core.lock ≡ 1
never_opens P x k =
    stepped_core P x (λ e c. c.lock ≡ 1) (λ e n. k) (λ s e. executed_lock P x ∙ k)
    (λ t m. lock_rule P t x.core ∙ ap (pick (ends t x.core && waits_lock x.core.waits) 1) k ∙ pick_same _ 1)

pub lock_stays : (P : Part) (es : List ℕ) (b : PinBench) → b.device.core.lock ≡ 1 → (played P es b).device.core.lock ≡ 1
unfolding played
lock_stays P [] b k = k
lock_stays P (e ∷ es) b k = lock_stays P es (after_event P e b) (never_opens P b.device k (lent_to b) (event_of e))

-- ---- a lent page for which nothing waits

quiet_page : (P : Part) (x : Device) → waits_identification x.core.waits ≡ false → (d : List ℕ) (e : Event) → stepped_identification P e x d ≡ d
quiet_page P x none d (S level) = refl
quiet_page P x none d (C level) = refl
quiet_page P x none d (D level) = refl
quiet_page P x none d (W level) = refl
quiet_page P x none d (Hold level) = refl
quiet_page P x none d (Time t) = not_theirs waits_identification P t x.core d none

-- ---- a page that is locked while none waits

module _ (P : Part) (x : Device) (k : Locked x.core) where
  stepped_locked : (m : Lent) (e : Event) → Locked (stepped P m e x).core
  stepped_locked =
      stepped_core P x (λ e c. Locked c) (λ e n. k)
      (λ s e. locked_effect P x.frame.address x.frame.value x.frame.value _ _ _ _ _ x.frame.latch x.core k
      (decode P x.frame.code) e)
      (λ t m. locked_timed P t x.core k m)

-- never changes, and none comes to wait, over any list of events
pub locked_page : (P : Part) (es : List ℕ) (b : PinBench) → Locked b.device.core
    → Locked (played P es b).device.core × ((played P es b).identification ≡ b.identification)
unfolding played
locked_page P [] b k = (k, refl)
locked_page P (e ∷ es) b k =
    let again = locked_page P es (after_event P e b) (stepped_locked P b.device k (lent_to b) (event_of e)) in
    (again.0, again.1 ∙ quiet_page P b.device k.quiet b.identification (event_of e))

-- ---- the lock changes only where a cycle of its own ends ..

pub event_lock : (P : Part) (x : Device) (m : Lent) (e : Event)
    → (stepped P m e x).core.lock ≡ pick (ends_cycle e x.core && waits_lock x.core.waits) 1 x.core.lock
event_lock P x =
    stepped_core P x (λ e c. c.lock ≡ pick (ends_cycle e x.core && waits_lock x.core.waits) 1 x.core.lock)
    (λ e n. sym (at_no _ _ (and_no_left (ends_cycle e x.core) (waits_lock x.core.waits) n)))
    (λ s e. executed_lock P x ∙ sym (at_no _ _ refl)) (λ t m. lock_rule P t x.core)

-- .. and waits only once a frame that sets it is executed

event_awaits_lock : (P : Part) (x : Device) → waits_lock x.core.waits ≡ false → (m : Lent) (e : Event) → locks P e x ≡ false
    → waits_lock (stepped P m e x).core.waits ≡ false
event_awaits_lock P x h =
    stepped_core P x (λ e c. locks P e x ≡ false → waits_lock c.waits ≡ false) (λ e n none. h)
    (λ s e none.
    let f = x.frame in
    let sets = is_wrid (decode P f.code) && picks_lock f.address in
    effect_awaits_lock P (decode P f.code) f.address f.value f.latch x.core
    (and_other (not (on x.pins.s) && is_executed (judged_now P x)) sets none
    (and_both (not (on x.pins.s)) (is_executed (judged_now P x)) (ap not s) e)) h)
    (λ t m none. timed_awaits_lock P t x.core h)

-- so a lock that does not wait, and that no deselect in the list sets, is as it was: from any device
pub untouched_lock : (P : Part) (es : List ℕ) (b : PinBench) → waits_lock b.device.core.waits ≡ false → locks_any P es b ≡ false
    → (played P es b).device.core.lock ≡ b.device.core.lock
unfolding played locks_any
untouched_lock P [] b a none = refl
untouched_lock P (e ∷ es) b a none =
    let x = b.device in
    let two = or_none_out (locks P (event_of e) x) (locks_any P es (after_event P e b)) none in
    untouched_lock P es (after_event P e b) (event_awaits_lock P x a (lent_to b) (event_of e) two.0) two.1
    ∙ event_lock P x (lent_to b) (event_of e) ∙ at_no _ _ (and_no_right (ends_cycle (event_of e) x.core) (waits_lock x.core.waits) a)

-- ---- by the accepted frame: the code, the address and the data byte are those clocked in since its select

wrid_writer : (j : Instruction) → is_wrid j ≡ writer identification_cells j
wrid_writer Wren = refl
wrid_writer Wrdi = refl
wrid_writer Rdsr = refl
wrid_writer Wrsr = refl
wrid_writer Read = refl
wrid_writer Write = refl
wrid_writer Rdid = refl
wrid_writer Wrid = refl
wrid_writer Silence = refl

-- 82h for the lock is known only if its data byte sets it
known_sets : (P : Part) (j : Instruction) (a x : ℕ) → (is_wrid j && picks_lock a) ≡ true → (row P j a x).known ≡ true → sets_lock x ≡ true
known_sets P Wren a x t k = absurd (true≢false (sym t))
known_sets P Wrdi a x t k = absurd (true≢false (sym t))
known_sets P Rdsr a x t k = absurd (true≢false (sym t))
known_sets P Wrsr a x t k = absurd (true≢false (sym t))
known_sets P Read a x t k = absurd (true≢false (sym t))
known_sets P Write a x t k = absurd (true≢false (sym t))
known_sets P Rdid a x t k = absurd (true≢false (sym t))
known_sets P Wrid a x t k = sym (known_lock (picks_lock a) (sets_lock x) t) ∙ k
  where
    known_lock : (p s : Bool) → p ≡ true → (not p || s) ≡ s
    known_lock true s e = refl
    known_lock false s e = absurd (true≢false (sym e))
known_sets P Silence a x t k = absurd (true≢false (sym t))

module _ (P : Part) (sound : Sound P) where
  -- a frame in hand sets the lock where its bytes do
  sets_same : (x : Device) (h : Hand) → Clocked identification_cells P 0 h x.frame
      → (is_wrid (decode P x.frame.code) && picks_lock x.frame.address)
      ≡ (is_wrid (decode P (code_of h.bytes)) && picks_lock (start_of P h.bytes))
  sets_same x h c =
      go (is_wrid (decode P x.frame.code)) refl ∙ ap (λ (n : ℕ). is_wrid (decode P n) && picks_lock (start_of P h.bytes)) c.code
    where
      j : Instruction
      j = decode P x.frame.code

      go : (b : Bool) → is_wrid j ≡ b → (is_wrid j && picks_lock x.frame.address) ≡ (is_wrid j && picks_lock (start_of P h.bytes))
      go true q = ap (λ (t : Bool). is_wrid j && t) (ap picks_lock (c.address (sym (wrid_writer j) ∙ q)) ∙ picks_start P sound h.bytes)
      go false q = and_no_left (is_wrid j) (picks_lock x.frame.address) q ∙ sym (and_no_left (is_wrid j) (picks_lock (start_of P h.bytes)) q)

  -- so a frame that sets it is accepted as one: its data byte is the first that is clocked in
  accepted_sets : (x : Device) (h : Hand) → Clocked identification_cells P 0 h x.frame → is_executed (judged_now P x) ≡ true
      → (is_wrid (decode P x.frame.code) && picks_lock x.frame.address) ≡ true
      → (is_wrid (decode P (code_of h.bytes)) && picks_lock (start_of P h.bytes) && sets_lock (first_of P h.bytes)) ≡ true
  accepted_sets x h c e t =
      let j = decode P x.frame.code in
      let picks = is_wrid (decode P (code_of h.bytes)) && picks_lock (start_of P h.bytes) in
      let clocked : picks ≡ true = sym (sets_same x h c) ∙ t in
      let wrid = and_left (is_wrid j) (picks_lock x.frame.address) t in
      let first : x.frame.value ≡ first_of P h.bytes =
      c.value (sym (wrid_writer j) ∙ wrid) ∙ at_yes _ _ (and_right (is_wrid (decode P (code_of h.bytes))) (picks_lock (start_of P h.bytes)) clocked) in
      and_both picks (sets_lock (first_of P h.bytes)) clocked
      (ap sets_lock (sym first) ∙ known_sets P j x.frame.address x.frame.value t (passed P j _ _ _ _ _ _ _ _ e).known)

  unaccepted_lock : (x : Device) (h : Hand) → Clocked identification_cells P 0 h x.frame → (e : Event) → accepts_lock P e x h ≡ false → locks P e x ≡ false
  unaccepted_lock x h c (S level) none =
      failed (locks P (S level) x)
      (λ t.
      let deselect = level && not (on x.pins.s) in
      let e = is_executed (judged_now P x) in
      let sets = is_wrid (decode P x.frame.code) && picks_lock x.frame.address in
      let before = and_left (deselect && e) sets t in
      never (and_both (deselect && e) _ before (accepted_sets x h c (and_right deselect e before) (and_right (deselect && e) sets t))) none)
  unaccepted_lock x h c (C level) none = refl
  unaccepted_lock x h c (D level) none = refl
  unaccepted_lock x h c (W level) none = refl
  unaccepted_lock x h c (Hold level) none = refl
  unaccepted_lock x h c (Time t) none = refl

  unaccepted_locks : (es : List ℕ) (b : PinBench) (h : Hand) → Sized b.device → device_fits P b.device ≡ true
      → Clocked identification_cells P 0 h b.device.frame → accepted_lock P es b h ≡ false → locks_any P es b ≡ false
  unfolding accepted_lock locks_any
  unaccepted_locks [] b h sized fits c none = refl
  unaccepted_locks (e ∷ es) b h sized fits c none =
      let x = b.device in
      let g = hand_after (event_of e) x h in
      let two = or_none_out (accepts_lock P (event_of e) x h) (accepted_lock P es (after_event P e b) g) none in
      or_none_in (locks P (event_of e) x) (locks_any P es (after_event P e b)) (unaccepted_lock x h c (event_of e) two.0)
      (unaccepted_locks es (after_event P e b) g (stepped_sized P x sized (lent_to b) (event_of e))
      (stepped_fits P sound x sized fits (lent_to b) (event_of e))
      (event_clocked identification_cells P sound 0 x h (parts P x fits) c (lent_to b) (event_of e)) two.1)

  -- from any device with what is clocked in of its frame
  pub accepted_lock_from : (es : List ℕ) (b : PinBench) (h : Hand) → Sized b.device → device_fits P b.device ≡ true
      → Clocked identification_cells P 0 h b.device.frame → waits_lock b.device.core.waits ≡ false → accepted_lock P es b h ≡ false
      → (played P es b).device.core.lock ≡ b.device.core.lock
  accepted_lock_from es b h sized fits c a none = untouched_lock P es b a (unaccepted_locks es b h sized fits c none)

  -- a lock that does not wait, and that no frame accepted in the list sets by the bytes since its own select, is as it was
  pub accepted_lock_law : (es : List ℕ) (b : PinBench) → Sized b.device → device_fits P b.device ≡ true → selected b.device ≡ false
      → waits_lock b.device.core.waits ≡ false → accepted_lock P es b no_hand ≡ false → (played P es b).device.core.lock ≡ b.device.core.lock
  accepted_lock_law es b sized fits s a none =
      accepted_lock_from es b no_hand sized fits (unselected_clocked identification_cells P sound 0 b.device fits s) a none

-- ---- a part without an identification page leaves the lent one, and the lock, as they were

module _ (P : Part) (plain : P.identified ≡ false) where
  not_wrid : (v : ℕ) → is_wrid (decode P v) ≡ true → ⊥
  not_wrid v e = never (wrid_identified P v e) plain

  module _ (x : Device) (k : Unwaited x.core) where
    stepped_unwaited : (m : Lent) (e : Event) → Unwaited (stepped P m e x).core × ((stepped P m e x).core.lock ≡ x.core.lock)
    stepped_unwaited =
        stepped_core P x (λ e c. Unwaited c × (c.lock ≡ x.core.lock)) (λ e n. (k, refl))
        (λ s e. (
          unwaited_effect P (decode P x.frame.code) x.frame.address x.frame.value x.frame.latch x.core
              (not_wrid x.frame.code) k,
          executed_lock P x,
        ))
        (λ t m. (unwaited_timed P t x.core k m, unwaited_lock P t x.core k))

  unwaited_list : (es : List ℕ) (b : PinBench) → Unwaited b.device.core
      → ((played P es b).identification ≡ b.identification) × ((played P es b).device.core.lock ≡ b.device.core.lock)
  unfolding played
  unwaited_list [] b k = (refl, refl)
  unwaited_list (e ∷ es) b k =
      let one = stepped_unwaited b.device k (lent_to b) (event_of e) in
      let again = unwaited_list es (after_event P e b) one.0 in
      (again.0 ∙ quiet_page P b.device k.page b.identification (event_of e), again.1 ∙ one.1)

  -- over any list of events
  pub plain_page : (es : List ℕ) (b : PinBench) → in_ranges P b.device.core ≡ true
      → ((played P es b).identification ≡ b.identification) × ((played P es b).device.core.lock ≡ b.device.core.lock)
  plain_page es b fits = unwaited_list es b (plain_unwaited P b.device.core plain (within P b.device.core fits))
