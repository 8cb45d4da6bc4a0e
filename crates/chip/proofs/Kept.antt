-- The part stays: no reading and no instruction changes it. Nor does an instruction change the lock: a cycle of its own does.
use Rattle.std.proofs.Common.{◌≡◌, ℕ, refl}
use Rattle.laws.specs.Pick.{pick_case}
use Rattle.codes.specs.Part.{Part}
use Rattle.codes.specs.declared.Instruction.{Instruction}
use Rattle.codes.specs.declared.Instruction.TheVariants.{Wren, Wrdi, Rdsr, Wrsr, Read, Write, Rdid, Wrid, Silence}
use Rattle.latch.specs.declared.Latch.{Latch}
use Rattle.chip.specs.Records.{waits_status, waits_lock, with_time, without_cycle}
use Rattle.chip.specs.Time.{ends, timed}
use Rattle.chip.specs.Effects.{effect}
use Rattle.chip.specs.declared.Core.{Core}

pub timed_part : (P : Part) (t : ℕ) (c : Core) → (timed t c).part ≡ c.part
unfolding timed
timed_part P t c =
    pick_case (λ (x : Core). x.part ≡ c.part) (ends t c)
    (λ e. pick_case (λ (x : Core). (with_time t 0 (without_cycle x)).part ≡ c.part) (waits_status c.waits) (λ s. refl)
    (λ s. pick_case (λ (x : Core). (with_time t 0 (without_cycle x)).part ≡ c.part) (waits_lock c.waits) (λ k. refl) (λ k. refl)))
    (λ e. refl)

pub effect_part : (P : Part) (i : Instruction) (a v : ℕ) (l : Latch) (c : Core) → (effect P i a v l c).part ≡ c.part
effect_part P Wren a v l c = refl
effect_part P Wrdi a v l c = refl
effect_part P Rdsr a v l c = refl
effect_part P Wrsr a v l c = refl
effect_part P Read a v l c = refl
effect_part P Write a v l c = refl
effect_part P Rdid a v l c = refl
effect_part P Wrid a v l c = refl
effect_part P Silence a v l c = refl

pub effect_lock : (P : Part) (i : Instruction) (a v : ℕ) (l : Latch) (c : Core) → (effect P i a v l c).lock ≡ c.lock
effect_lock P Wren a v l c = refl
effect_lock P Wrdi a v l c = refl
effect_lock P Rdsr a v l c = refl
effect_lock P Wrsr a v l c = refl
effect_lock P Read a v l c = refl
effect_lock P Write a v l c = refl
effect_lock P Rdid a v l c = refl
effect_lock P Wrid a v l c = refl
effect_lock P Silence a v l c = refl
