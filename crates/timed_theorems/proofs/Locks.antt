-- The lock over frames with readings inside, any list of them and the public call: it changes only where a cycle of its own ends, never opens, and waits only
-- once a frame that sets it is executed. A page that is locked while none waits never changes, and none comes to wait. A part without the page changes neither.
use Prim.Native.Nat.{ℕ, suc, ◌/◌}
use mathlib.Core.Bool.{Bool, true, false}
use mathlib.Core.List.{List, [], ◌∷◌}
use mathlib.Core.Path.{◌≡◌, refl, ◌∙◌}
use lib.ListN.{take}
use Rattle.laws.specs.And.{or_none_out}
use Rattle.codes.specs.Part.{Part}
use Rattle.chip.specs.Lents.{Lent}
use Rattle.chip.specs.Cells.{identification_cells}
use Rattle.chip.specs.Records.{waits_identification, waits_lock}
use Rattle.chip.specs.Ranges.{in_ranges}
use Rattle.chip.specs.declared.Core.{Core}
use Rattle.chip.proofs.Locking.{Locked}
use Rattle.chip.proofs.Plain.{Unwaited, plain_unwaited}
use Rattle.chip.proofs.Within.{within}
use Rattle.cuts.proofs.Leaves.{cut_shut, cut_unset, cut_quiet, cut_none}
use Rattle.frames.specs.Play.{FrameBench, acted}
use Rattle.frames.specs.Play as plain
use Rattle.frames.proofs.Locks as frames
use Rattle.timed_frames.specs.Schedules.{due}
use Rattle.timed_frames.specs.InTime.{ran_in, last_of, left_by}
use Rattle.timed_frames.specs.Answers.{in_time_left}
use Rattle.timed_frames.specs.declared.Mode.{Mode}
use Rattle.timed_frames.proofs.Passed.{passed_keeps}
use Rattle.timed_theorems.specs.Acts.{TimedAct, send, reading, cut, cut_bench, acted_all_in_time, locks_in_time, locks_any_in_time}
use Rattle.timed_theorems.proofs.Keeping.{Keeps, acted_all_in_time_keeps, in_time_left_keeps}

-- ---- it never opens

module _ (P : Part) where
  shut_kept : Keeps P (λ b. b.core.lock ≡ 1)
  shut_kept =
      record {
        reads = λ t b k. frames.acted_shut P (plain.reading t) b k;
        deselects = λ ran w s n b h k. frames.after_lock P ran w b.core s n ∙ k;
        cuts = λ h b k. cut_shut h b.core k;
      }

  pub lock_stays : (acts : List TimedAct) (b : FrameBench) → b.core.lock ≡ 1 → (acted_all_in_time P acts b).core.lock ≡ 1
  lock_stays = acted_all_in_time_keeps shut_kept

  pub call_lock_stays : (c : Core) (m : Lent) (w : Bool) (s : List ℕ) (n : ℕ) (ps ts : List ℕ) (room : ℕ) → c.lock ≡ 1
      → (in_time_left P c m w s n ps ts room).core.lock ≡ 1
  call_lock_stays = in_time_left_keeps shut_kept

  -- ---- a page that is locked while none waits

  locked_kept : (page : List ℕ) → Keeps P (λ b. Locked b.core × (b.identification ≡ page))
  locked_kept page =
      record {
        reads = λ t b k. ((frames.acted_locked P (plain.reading t) b k.0).0, (frames.acted_locked P (plain.reading t) b k.0).1 ∙ k.1);
        deselects = λ ran w s n b h k. (frames.after_locked P ran w b.core s n k.0, k.1);
        cuts = λ h b k. (
          record { lock = cut_shut h b.core k.0.lock; quiet = cut_quiet waits_identification h b.core refl },
          cut_none identification_cells P h b.core b.identification k.0.quiet ∙ k.1,
        );
      }

  pub locked_page : (acts : List TimedAct) (b : FrameBench) → Locked b.core
      → Locked (acted_all_in_time P acts b).core × ((acted_all_in_time P acts b).identification ≡ b.identification)
  locked_page acts b k = acted_all_in_time_keeps (locked_kept b.identification) acts b (k, refl)

  pub call_locked_page : (c : Core) (m : Lent) (w : Bool) (s : List ℕ) (n : ℕ) (ps ts : List ℕ) (room : ℕ) → Locked c
      → Locked (in_time_left P c m w s n ps ts room).core × ((in_time_left P c m w s n ps ts room).identification ≡ m.identification)
  call_locked_page c m w s n ps ts room k = in_time_left_keeps (locked_kept m.identification) c m w s n ps ts room (k, refl)

  -- ---- a lock that does not wait, and that no frame executed in the list sets, is as it was

  module _ (lock : ℕ) where
    abbrev Unset : FrameBench → Type 0
    Unset b = (waits_lock b.core.waits ≡ false) × (b.core.lock ≡ lock)

    read_unset : (t : ℕ) (b : FrameBench) → Unset b → Unset (acted P (plain.reading t) b)
    read_unset t b k =
        (frames.acted_awaits_lock P (plain.reading t) b k.0 refl, frames.acted_lock P (plain.reading t) b k.0 ∙ k.1)

    left_by_unset : (w : Bool) (o : Mode) (s : List ℕ) (n : ℕ) (ps ts : List ℕ) (b : FrameBench) → locks_in_time P (send w o s n ps ts) b ≡ false
        → Unset b → Unset (left_by P ps ts b w s n)
    left_by_unset w o s n ps ts b none k =
        let last = passed_keeps P Unset read_unset (take (due (suc (n / 8)) ps) ts) b k in
        let core = (last_of P ps ts b n).core in
        (frames.after_awaits_lock P (ran_in P ps ts b) w core s n last.0 none, frames.after_lock P (ran_in P ps ts b) w core s n ∙ last.1)

    unset_all : (acts : List TimedAct) (b : FrameBench) → locks_any_in_time P acts b ≡ false → Unset b → Unset (acted_all_in_time P acts b)
    unset_all [] b none k = k
    unset_all (send w o s n ps ts ∷ acts) b none k =
        let next = left_by P ps ts b w s n in
        let two = or_none_out (locks_in_time P (send w o s n ps ts) b) (locks_any_in_time P acts next) none in
        unset_all acts next two.1 (left_by_unset w o s n ps ts b two.0 k)
    unset_all (reading t ∷ acts) b none k = unset_all acts (acted P (plain.reading t) b) none (read_unset t b k)
    unset_all (cut h ∷ acts) b none k =
        unset_all acts (cut_bench P h b) none
        (cut_quiet waits_lock h b.core refl, cut_unset h b.core k.0 ∙ k.1)

  pub acted_all_in_time_lock : (acts : List TimedAct) (b : FrameBench) → waits_lock b.core.waits ≡ false → locks_any_in_time P acts b ≡ false
      → (acted_all_in_time P acts b).core.lock ≡ b.core.lock
  acted_all_in_time_lock acts b h none = (unset_all b.core.lock acts b none (h, refl)).1

-- ---- a part without an identification page leaves the lent one, and the lock, as they were

module _ (P : Part) (plain-part : P.identified ≡ false) where
  abbrev Unmoved : List ℕ → ℕ → FrameBench → Type 0
  Unmoved page lock b = Unwaited b.core × ((b.identification ≡ page) × (b.core.lock ≡ lock))

  unwaited_kept : (page : List ℕ) (lock : ℕ) → Keeps P (Unmoved page lock)
  unwaited_kept page lock =
      record {
        reads = λ t b k.
            let one = frames.acted_unwaited P plain-part (plain.reading t) b k.0 in
            (one.0, (one.1.0 ∙ k.1.0, one.1.1 ∙ k.1.1));
        deselects = λ ran w s n b h k.
            (frames.after_unwaited P plain-part ran w b.core s n k.0, (k.1.0, frames.after_lock P ran w b.core s n ∙ k.1.1));
        cuts = λ h b k. (
          record {
            page = cut_quiet waits_identification h b.core refl;
            lock = cut_quiet waits_lock h b.core refl;
          },
          (
            cut_none identification_cells P h b.core b.identification k.0.page ∙ k.1.0,
            cut_unset h b.core k.0.lock ∙ k.1.1,
          ),
        );
      }

  -- over any list
  pub plain_page : (acts : List TimedAct) (b : FrameBench) → in_ranges P b.core ≡ true
      → ((acted_all_in_time P acts b).identification ≡ b.identification) × ((acted_all_in_time P acts b).core.lock ≡ b.core.lock)
  plain_page acts b fits =
      let none = plain_unwaited P b.core plain-part (within P b.core fits) in
      (acted_all_in_time_keeps (unwaited_kept b.identification b.core.lock) acts b (none, (refl, refl))).1

  -- over a call
  pub call_plain_page : (c : Core) (m : Lent) (w : Bool) (s : List ℕ) (n : ℕ) (ps ts : List ℕ) (room : ℕ) → in_ranges P c ≡ true
      → ((in_time_left P c m w s n ps ts room).identification ≡ m.identification) × ((in_time_left P c m w s n ps ts room).core.lock ≡ c.lock)
  call_plain_page c m w s n ps ts room fits =
      let none = plain_unwaited P c plain-part (within P c fits) in
      (in_time_left_keeps (unwaited_kept m.identification c.lock) c m w s n ps ts room (none, (refl, refl))).1
