-- An identification page that is locked while none waits stays so, over every executed instruction and every reading: the lock stops 82h. And what makes
-- the lock wait.
use Rattle.std.proofs.Common.{◌≡◌, ℕ, Bool, true, false, ◌&&◌, List, refl, ap, ◌∙◌}
use Rattle.laws.specs.Pick.{pick, pick_case, pick_same}
use Rattle.laws.specs.And.{or_left, never}
use Rattle.codes.specs.Part.{Part}
use Rattle.codes.specs.Status.{on}
use Rattle.codes.specs.Instructions.{picks_lock, is_wrid}
use Rattle.codes.specs.Verdicts.{verdict, is_executed}
use Rattle.codes.specs.declared.Instruction.{Instruction}
use Rattle.codes.specs.declared.Instruction.TheVariants.{Wren, Wrdi, Rdsr, Wrsr, Read, Write, Rdid, Wrid, Silence}
use Rattle.codes.proofs.Judged.{passed}
use Rattle.latch.specs.declared.Latch.{Latch}
use Rattle.chip.specs.Records.{waits_identification, waits_lock}
use Rattle.chip.specs.Questions.{barred}
use Rattle.chip.specs.Effects.{effect}
use Rattle.chip.specs.Time.{ends, timed, timed_in, timed_identification}
use Rattle.chip.specs.declared.Waiting.{Waiting}
use Rattle.chip.specs.declared.Core.{Core}
use Rattle.chip.proofs.Passing.{not_theirs, lock_rule}

-- locked, and no identification page waits
pub record Locked (c : Core) : Type 0 where
  pub lock : c.lock ≡ 1
  pub quiet : waits_identification c.waits ≡ false

module _ (P : Part) (a v x n : ℕ) (ran wel locked held : Bool) (l : Latch) (c : Core) (k : Locked c) where
  pub locked_effect : (i : Instruction) → is_executed (verdict P i a x n ran wel locked (barred P c i a) held) ≡ true → Locked (effect P i a v l c)
  locked_effect Wren e = record { lock = k.lock; quiet = k.quiet }
  locked_effect Wrdi e = record { lock = k.lock; quiet = k.quiet }
  locked_effect Rdsr e = k
  locked_effect Wrsr e = record { lock = k.lock; quiet = refl }
  locked_effect Read e = k
  locked_effect Write e = record { lock = k.lock; quiet = refl }
  locked_effect Rdid e = k
  locked_effect Wrid e =
      let shut : barred P c Wrid a ≡ true = or_left (on c.lock) (on c.bp1 && on c.bp0) (ap on k.lock) in
      absurd (never shut (passed P Wrid a x n ran wel locked (barred P c Wrid a) held e).unguarded)
  locked_effect Silence e = k

module _ (P : Part) (t : ℕ) (c : Core) (k : Locked c) where
  still_quiet : waits_identification (timed t c).waits ≡ false
  unfolding timed
  still_quiet = pick_case (λ (d : Core). waits_identification d.waits ≡ false) (ends t c) (λ e. refl) (λ e. k.quiet)

  pub locked_timed : (m : List ℕ) → Locked (timed_in P t c m)
  locked_timed m =
      record { lock = lock_rule P t c ∙ ap (pick (ends t c && waits_lock c.waits) 1) k.lock ∙ pick_same _ 1; quiet = still_quiet }

  -- and its cells stay
  pub locked_cells : (d : List ℕ) → timed_identification P t c d ≡ d
  locked_cells d = not_theirs waits_identification P t c d k.quiet

-- ---- what makes the lock wait: 82h at an address that picks it

pub effect_awaits_lock : (P : Part) (i : Instruction) (a v : ℕ) (l : Latch) (c : Core)
    → (is_wrid i && picks_lock a) ≡ false → waits_lock c.waits ≡ false → waits_lock (effect P i a v l c).waits ≡ false
effect_awaits_lock P Wren a v l c e h = h
effect_awaits_lock P Wrdi a v l c e h = h
effect_awaits_lock P Rdsr a v l c e h = h
effect_awaits_lock P Wrsr a v l c e h = refl
effect_awaits_lock P Read a v l c e h = h
effect_awaits_lock P Write a v l c e h = refl
effect_awaits_lock P Rdid a v l c e h = h
effect_awaits_lock P Wrid a v l c e h =
    pick_case (λ (w : Waiting). waits_lock w ≡ false) (picks_lock a) (λ p. absurd (never p e)) (λ p. refl)
effect_awaits_lock P Silence a v l c e h = h

pub timed_awaits_lock : (P : Part) (t : ℕ) (c : Core) → waits_lock c.waits ≡ false → waits_lock (timed t c).waits ≡ false
unfolding timed
timed_awaits_lock P t c h = pick_case (λ (d : Core). waits_lock d.waits ≡ false) (ends t c) (λ e. refl) (λ e. h)
