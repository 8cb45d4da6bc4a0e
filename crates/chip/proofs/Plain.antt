-- A part without an identification page: in a record inside the ranges neither the page nor its lock waits, no instruction but 82h makes them wait, and
-- no reading then changes them.
use Rattle.std.proofs.Common.{◌≡◌, ℕ, Bool, true, false, ◌&&◌, ◌||◌, eqb, List, sym, refl, ◌∙◌, ap₂, true≢false, eqb-true}
use Rattle.laws.specs.Pick.{pick, pick_case, at_no, and_no_right}
use Rattle.laws.specs.And.{failed}
use Rattle.codes.specs.Part.{Part}
use Rattle.codes.specs.Status.{on}
use Rattle.codes.specs.Instructions.{is_wrid}
use Rattle.codes.specs.declared.Instruction.{Instruction}
use Rattle.codes.specs.declared.Instruction.TheVariants.{Wren, Wrdi, Rdsr, Wrsr, Read, Write, Rdid, Wrid, Silence}
use Rattle.latch.specs.declared.Latch.{Latch}
use Rattle.chip.specs.Records.{running, waits_identification, waits_lock}
use Rattle.chip.specs.Effects.{effect}
use Rattle.chip.specs.Time.{ends, timed, timed_in, timed_identification}
use Rattle.chip.specs.declared.Core.{Core}
use Rattle.chip.proofs.Within.{Within}
use Rattle.chip.proofs.Passing.{not_theirs, lock_rule}

-- neither waits
pub record Unwaited (c : Core) : Type 0 where
  pub page : waits_identification c.waits ≡ false
  pub lock : waits_lock c.waits ≡ false

module _ (P : Part) (c : Core) (plain : P.identified ≡ false) (w : Within P c) where
  -- the tie of time left to what waits, by the number of what waits
  tied_at : (n : ℕ) → c.waits.kind ≡ n
      → pick (running c) ((P.wrdi_in_cycle || on c.wel) && (eqb n 1 || eqb n 2 || false && (eqb n 3 || eqb n 4))) (eqb n 0) ≡ true
  tied_at n e =
      ap₂ (λ k i. pick (running c) ((P.wrdi_in_cycle || on c.wel) && (eqb k 1 || eqb k 2 || i && (eqb k 3 || eqb k 4))) (eqb k 0)) (sym e) (sym plain)
      ∙ w.tie

  neither : (r d : Bool) → pick r (d && false) false ≡ true → ⊥
  unfolding pick
  neither true true e = true≢false (sym e)
  neither true false e = true≢false (sym e)
  neither false d e = true≢false (sym e)

  pub plain_unwaited : Unwaited c
  plain_unwaited =
      record {
        page = failed (eqb c.waits.kind 3) (λ e. neither (running c) (P.wrdi_in_cycle || on c.wel) (tied_at 3 (eqb-true _ _ e)));
        lock = failed (eqb c.waits.kind 4) (λ e. neither (running c) (P.wrdi_in_cycle || on c.wel) (tied_at 4 (eqb-true _ _ e)));
      }

pub unwaited_effect : (P : Part) (i : Instruction) (a v : ℕ) (l : Latch) (c : Core) → (is_wrid i ≡ true → ⊥) → Unwaited c → Unwaited (effect P i a v l c)
unwaited_effect P Wren a v l c other k = record { page = k.page; lock = k.lock }
unwaited_effect P Wrdi a v l c other k = record { page = k.page; lock = k.lock }
unwaited_effect P Rdsr a v l c other k = k
unwaited_effect P Wrsr a v l c other k = record { page = refl; lock = refl }
unwaited_effect P Read a v l c other k = k
unwaited_effect P Write a v l c other k = record { page = refl; lock = refl }
unwaited_effect P Rdid a v l c other k = k
unwaited_effect P Wrid a v l c other k = absurd (other refl)
unwaited_effect P Silence a v l c other k = k

module _ (P : Part) (t : ℕ) (c : Core) (k : Unwaited c) where
  over_time : Unwaited (timed t c)
  unfolding timed
  over_time =
      pick_case Unwaited (ends t c) (λ e. record { page = refl; lock = refl }) (λ e. record { page = k.page; lock = k.lock })

  pub unwaited_timed : (m : List ℕ) → Unwaited (timed_in P t c m)
  unwaited_timed m = record { page = over_time.page; lock = over_time.lock }

  pub unwaited_lock : (timed t c).lock ≡ c.lock
  unwaited_lock = lock_rule P t c ∙ at_no _ _ (and_no_right (ends t c) (waits_lock c.waits) k.lock)

  pub unwaited_cells : (d : List ℕ) → timed_identification P t c d ≡ d
  unwaited_cells d = not_theirs waits_identification P t c d k.page
