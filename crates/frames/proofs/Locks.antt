-- The lock over frames and readings: it changes only where a cycle of its own ends, never opens, and waits only once a frame that sets it is executed. A
-- page that is locked while none waits never changes, and none comes to wait. A part without the page changes neither.
use mathlib.Core.Path.{◌≡◌, refl, ap, ◌∙◌}
use mathlib.Core.Bool.{Bool, true, false, ◌&&◌}
use mathlib.Core.List.{List, [], ◌∷◌}
use Prim.Native.Nat.{ℕ}
use lib.ListN.{get_or}
use Rattle.laws.specs.Pick.{pick, pick_case, pick_same, at_no, and_no_right}
use Rattle.laws.specs.And.{and_other, or_none_out, never}
use Rattle.codes.specs.Part.{Part}
use Rattle.codes.specs.Instructions.{is_wrid, picks_lock}
use Rattle.codes.specs.Verdicts.{is_executed}
use Rattle.chip.specs.Records.{running, waits_lock}
use Rattle.chip.specs.Time.{ends}
use Rattle.chip.specs.declared.Core.{Core}
use Rattle.chip.proofs.Kept.{effect_lock}
use Rattle.chip.proofs.Passing.{lock_rule}
use Rattle.chip.proofs.Locking.{Locked, locked_effect, locked_timed, locked_cells, effect_awaits_lock, timed_awaits_lock}
use Rattle.codes.proofs.Judged.{wrid_identified}
use Rattle.chip.specs.Ranges.{in_ranges}
use Rattle.chip.proofs.Within.{within}
use Rattle.chip.proofs.Plain.{Unwaited, plain_unwaited, unwaited_effect, unwaited_timed, unwaited_lock, unwaited_cells}
use Rattle.fields.specs.Bytes.{instruction, address, written}
use Rattle.frames.specs.After.{judged, after}
use Rattle.frames.specs.Play.{Act, frame, reading, FrameBench, acted, acted_all, locks, locks_any}

-- ---- a frame: it leaves the lock; what it leaves waiting

pub after_lock : (P : Part) (ran w : Bool) (c : Core) (s : List ℕ) (n : ℕ) → (after P ran w c s n).lock ≡ c.lock
after_lock P ran w c s n =
    pick_case (λ (x : Core). x.lock ≡ c.lock) (is_executed (judged P ran w c s n))
    (λ e. effect_lock P (instruction P s) (address P s) (get_or s 1 0) (written P s) c) (λ e. refl)

pub after_locked : (P : Part) (ran w : Bool) (c : Core) (s : List ℕ) (n : ℕ) → Locked c → Locked (after P ran w c s n)
after_locked P ran w c s n k =
    pick_case Locked (is_executed (judged P ran w c s n))
    (λ e. locked_effect P (address P s) (get_or s 1 0) _ n _ _ _ _ (written P s) c k (instruction P s) e) (λ e. k)

pub after_awaits_lock : (P : Part) (ran w : Bool) (c : Core) (s : List ℕ) (n : ℕ) → waits_lock c.waits ≡ false
    → (is_executed (judged P ran w c s n) && (is_wrid (instruction P s) && picks_lock (address P s))) ≡ false
    → waits_lock (after P ran w c s n).waits ≡ false
after_awaits_lock P ran w c s n h none =
    pick_case (λ (x : Core). waits_lock x.waits ≡ false) (is_executed (judged P ran w c s n))
    (λ e. effect_awaits_lock P (instruction P s) (address P s) (get_or s 1 0) (written P s) c
    (and_other (is_executed (judged P ran w c s n)) (is_wrid (instruction P s) && picks_lock (address P s)) none e) h)
    (λ e. h)

pub after_unwaited : (P : Part) → P.identified ≡ false → (ran w : Bool) (c : Core) (s : List ℕ) (n : ℕ) → Unwaited c → Unwaited (after P ran w c s n)
after_unwaited P plain ran w c s n k =
    pick_case Unwaited (is_executed (judged P ran w c s n))
    (λ e. unwaited_effect P (instruction P s) (address P s) (get_or s 1 0) (written P s) c (λ i. never (wrid_identified P (get_or s 0 0) i) plain) k)
    (λ e. k)

-- ---- it never opens

pub acted_shut : (P : Part) (a : Act) (d : FrameBench) → d.core.lock ≡ 1 → (acted P a d).core.lock ≡ 1
acted_shut P (frame w s n) d k = after_lock P (running d.core) w d.core s n ∙ k
acted_shut P (reading t) d k =
    lock_rule P t d.core ∙ ap (pick (ends t d.core && waits_lock d.core.waits) 1) k ∙ pick_same _ 1

pub lock_stays : (P : Part) (acts : List Act) (d : FrameBench) → d.core.lock ≡ 1 → (acted_all P acts d).core.lock ≡ 1
lock_stays P [] d k = k
lock_stays P (a ∷ acts) d k = lock_stays P acts (acted P a d) (acted_shut P a d k)

-- ---- a page that is locked while none waits

pub acted_locked : (P : Part) (a : Act) (d : FrameBench) → Locked d.core → Locked (acted P a d).core × ((acted P a d).identification ≡ d.identification)
acted_locked P (frame w s n) d k = (after_locked P (running d.core) w d.core s n k, refl)
acted_locked P (reading t) d k = (locked_timed P t d.core k d.memory, locked_cells P t d.core k d.identification)

pub locked_page : (P : Part) (acts : List Act) (d : FrameBench) → Locked d.core
    → Locked (acted_all P acts d).core × ((acted_all P acts d).identification ≡ d.identification)
locked_page P [] d k = (k, refl)
locked_page P (a ∷ acts) d k =
    let one = acted_locked P a d k in
    let again = locked_page P acts (acted P a d) one.0 in
    (again.0, again.1 ∙ one.1)

-- ---- a lock that does not wait, and that no frame executed in the list sets, is as it was

pub acted_awaits_lock : (P : Part) (a : Act) (d : FrameBench) → waits_lock d.core.waits ≡ false → locks P a d.core ≡ false
    → waits_lock (acted P a d).core.waits ≡ false
acted_awaits_lock P (frame w s n) d h none = after_awaits_lock P (running d.core) w d.core s n h none
acted_awaits_lock P (reading t) d h none = timed_awaits_lock P t d.core h

pub acted_lock : (P : Part) (a : Act) (d : FrameBench) → waits_lock d.core.waits ≡ false → (acted P a d).core.lock ≡ d.core.lock
acted_lock P (frame w s n) d h = after_lock P (running d.core) w d.core s n
acted_lock P (reading t) d h = lock_rule P t d.core ∙ at_no _ _ (and_no_right (ends t d.core) (waits_lock d.core.waits) h)

pub acted_all_lock : (P : Part) (acts : List Act) (d : FrameBench) → waits_lock d.core.waits ≡ false → locks_any P acts d ≡ false
    → (acted_all P acts d).core.lock ≡ d.core.lock
acted_all_lock P [] d h none = refl
acted_all_lock P (a ∷ acts) d h none =
    let two = or_none_out (locks P a d.core) (locks_any P acts (acted P a d)) none in
    acted_all_lock P acts (acted P a d) (acted_awaits_lock P a d h two.0) two.1 ∙ acted_lock P a d h

-- ---- a part without an identification page leaves the lent one, and the lock, as they were

module _ (P : Part) (plain : P.identified ≡ false) where
  pub acted_unwaited : (a : Act) (d : FrameBench) → Unwaited d.core
      → Unwaited (acted P a d).core × (((acted P a d).identification ≡ d.identification) × ((acted P a d).core.lock ≡ d.core.lock))
  acted_unwaited (frame w s n) d k =
      (after_unwaited P plain (running d.core) w d.core s n k, (refl, after_lock P (running d.core) w d.core s n))
  acted_unwaited (reading t) d k =
      (unwaited_timed P t d.core k d.memory, (unwaited_cells P t d.core k d.identification, unwaited_lock P t d.core k))

  unwaited_all : (acts : List Act) (d : FrameBench) → Unwaited d.core
      → ((acted_all P acts d).identification ≡ d.identification) × ((acted_all P acts d).core.lock ≡ d.core.lock)
  unwaited_all [] d k = (refl, refl)
  unwaited_all (a ∷ acts) d k =
      let one = acted_unwaited a d k in
      let again = unwaited_all acts (acted P a d) one.0 in
      (again.0 ∙ one.1.0, again.1 ∙ one.1.1)

  -- over any list of frames and readings
  pub plain_page : (acts : List Act) (d : FrameBench) → in_ranges P d.core ≡ true
      → ((acted_all P acts d).identification ≡ d.identification) × ((acted_all P acts d).core.lock ≡ d.core.lock)
  plain_page acts d fits = unwaited_all acts d (plain_unwaited P d.core plain (within P d.core fits))
