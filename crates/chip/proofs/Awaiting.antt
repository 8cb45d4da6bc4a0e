-- Which cells wait after an executed instruction and after a reading: those that waited, those that it wrote, or none; of any lent cells.
use Rattle.std.proofs.Common.{◌≡◌, ℕ, ◌/◌, Bool, false, not, ◌&&◌, sym, refl, ap, ◌∙◌}
use Rattle.laws.specs.Pick.{pick, pick_case}
use Rattle.codes.specs.Part.{Part}
use Rattle.codes.specs.Instructions.{picks_lock}
use Rattle.codes.specs.declared.Instruction.{Instruction}
use Rattle.codes.specs.declared.Instruction.TheVariants.{Wren, Wrdi, Rdsr, Wrsr, Read, Write, Rdid, Wrid, Silence}
use Rattle.latch.specs.declared.Latch.{Latch}
use Rattle.chip.specs.Records.{status_waits, page_waits, identification_waits, lock_waits, with_cycle, without_cycle}
use Rattle.chip.specs.Effects.{effect}
use Rattle.chip.specs.Time.{ends, timed}
use Rattle.chip.specs.Cells.{Cells, memory_cells, identification_cells, writes_to, latched_in, awaited_in}
use Rattle.chip.specs.declared.Waiting.{Waiting}
use Rattle.chip.specs.declared.Core.{Core}

-- no cell of theirs waits where what waits is not theirs
status_awaits : (k : Cells) (P : Part) (v : ℕ) (c : Core) (i : ℕ) → awaited_in k P (with_cycle (status_waits v) c) i ≡ false
status_awaits memory_cells P v c i = refl
status_awaits identification_cells P v c i = refl

page_awaits : (k : Cells) (P : Part) (a : ℕ) (l : Latch) (c : Core) (i : ℕ) → (writes_to k Write a && latched_in k P a l i) ≡ false
    → awaited_in k P (with_cycle (page_waits (a / P.page) l) c) i ≡ false
page_awaits memory_cells P a l c i e = e
page_awaits identification_cells P a l c i e = refl

identification_awaits : (k : Cells) (P : Part) (a : ℕ) (l : Latch) (c : Core) (i : ℕ) → (writes_to k Wrid a && latched_in k P a l i) ≡ false
    → awaited_in k P (with_cycle (pick (picks_lock a) lock_waits (identification_waits l)) c) i ≡ false
identification_awaits memory_cells P a l c i e =
    pick_case (λ (w : Waiting). awaited_in memory_cells P (with_cycle w c) i ≡ false) (picks_lock a) (λ p. refl) (λ p. refl)
identification_awaits identification_cells P a l c i e =
    pick_case (λ (w : Waiting). awaited_in identification_cells P (with_cycle w c) i ≡ false) (picks_lock a) (λ p. refl)
    (λ p. sym (ap (λ (t : Bool). not t && latched_in identification_cells P a l i) p) ∙ e)

none_awaits : (k : Cells) (P : Part) (c : Core) (i : ℕ) → awaited_in k P (without_cycle c) i ≡ false
none_awaits memory_cells P c i = refl
none_awaits identification_cells P c i = refl

pub effect_awaits : (k : Cells) (P : Part) (j : Instruction) (a v : ℕ) (l : Latch) (c : Core) (i : ℕ)
    → (writes_to k j a && latched_in k P a l i) ≡ false → awaited_in k P c i ≡ false → awaited_in k P (effect P j a v l c) i ≡ false
effect_awaits k P Wren a v l c i e h = h
effect_awaits k P Wrdi a v l c i e h = h
effect_awaits k P Rdsr a v l c i e h = h
effect_awaits k P Wrsr a v l c i e h = status_awaits k P v c i
effect_awaits k P Read a v l c i e h = h
effect_awaits k P Write a v l c i e h = page_awaits k P a l c i e
effect_awaits k P Rdid a v l c i e h = h
effect_awaits k P Wrid a v l c i e h = identification_awaits k P a l c i e
effect_awaits k P Silence a v l c i e h = h

pub timed_awaits : (k : Cells) (P : Part) (t : ℕ) (c : Core) (i : ℕ) → awaited_in k P c i ≡ false → awaited_in k P (timed t c) i ≡ false
unfolding timed
timed_awaits k P t c i h = pick_case (λ (d : Core). awaited_in k P d i ≡ false) (ends t c) (λ e. none_awaits k P c i) (λ e. h)
