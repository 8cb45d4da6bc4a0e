-- Where no cycle runs, readings begin none and change neither a cell nor what the record shows; and a frame in which one ran shows the same whatever is seen,
-- but for RDSR.
use Prim.Native.Nat.{ℕ, ◌+◌, ◌-◌, ◌≤◌}
use mathlib.Core.Bool.{true, false, true≢false}
use mathlib.Core.List.{List, [], ◌∷◌}
use mathlib.Core.Path.{◌≡◌, refl, ap, sym, ◌∙◌}
use native.Mathlib.Omega.{arith}
use lib.Dec.{leb}
use lib.ListN.{length, take}
use borrow.Author.Tests.{ltb-false}
use Rattle.laws.specs.Pick.{pick, at_no, and_no_left, and_no_right}
use Rattle.codes.specs.Part.{Part}
use Rattle.codes.specs.Output.{outputs}
use Rattle.codes.specs.Instructions.{decode}
use Rattle.fields.specs.Bytes.{instruction}
use Rattle.codes.specs.declared.Instruction.{Instruction}
use Rattle.codes.specs.declared.Instruction.TheVariants.{Wren, Wrdi, Rdsr, Wrsr, Read, Write, Rdid, Wrid, Silence}
use Rattle.chip.specs.Records.{running, status, lock_byte, waits_page, waits_identification, with_time}
use Rattle.chip.specs.Time.{elapsed, ends}
use Rattle.chip.proofs.Passing.{no_end}
use Rattle.chip.proofs.Recounts.{timed_on}
use Rattle.shown.specs.Shown.{Sights, byte_out}
use Rattle.frames.specs.Play.{reading, FrameBench, acted}
use Rattle.timed_frames.specs.Schedules.{due, passed, bench_at}
use Rattle.timed_frames.specs.InTime.{is_rdsr}

pub record Calm (b x : FrameBench) : Type 0 where
  pub idle : running x.core ≡ false
  pub shows : status x.core ≡ status b.core
  pub lock : lock_byte x.core ≡ lock_byte b.core
  pub memory : x.memory ≡ b.memory
  pub identification : x.identification ≡ b.identification

module _ (P : Part) where
  pub one_calm : (t : ℕ) (b : FrameBench) → running b.core ≡ false → Calm b (acted P (reading t) b)
  one_calm t b e =
      let c = b.core in
      let none : c.left ≡ 0 = omega (arith, ltb-false 0 c.left e) in
      let over : ends t c ≡ false = and_no_left (running c) (leb c.left (elapsed c.last t)) e in
      let still : c.left - elapsed c.last t ≡ c.left = omega (arith, none) in
      let core = timed_on P t c b.memory over ∙ ap (λ (n : ℕ). with_time t n c) still in
      record {
        idle = ap running core ∙ e;
        shows = ap status core;
        lock = ap lock_byte core;
        memory = no_end waits_page P t c b.memory over;
        identification = no_end waits_identification P t c b.identification over;
      }

  pub passed_calm : (ts : List ℕ) (b : FrameBench) → running b.core ≡ false → Calm b (passed P ts b)
  unfolding passed
  passed_calm [] b e = record { idle = e; shows = refl; lock = refl; memory = refl; identification = refl }
  passed_calm (t ∷ ts) b e =
      let one = one_calm t b e in
      let more = passed_calm ts (acted P (reading t) b) one.idle in
      record {
        idle = more.idle;
        shows = more.shows ∙ one.shows;
        lock = more.lock ∙ one.lock;
        memory = more.memory ∙ one.memory;
        identification = more.identification ∙ one.identification;
      }

  pub calm_at : (ps ts : List ℕ) (b : FrameBench) (k : ℕ) → running b.core ≡ false → Calm b (bench_at P ps ts b k)
  calm_at ps ts b k e = passed_calm (take (due k ps) ts) b e

  -- ---- a cycle ran

  pub hushed : (i : Instruction) (v u : Sights) (a j : ℕ) → is_rdsr i ≡ false → byte_out P i true v a j ≡ byte_out P i true u a j
  hushed Wren v u a j e = refl
  hushed Wrdi v u a j e = refl
  hushed Rdsr v u a j e = absurd (true≢false e)
  hushed Wrsr v u a j e = refl
  hushed Read v u a j e = at_no _ _ (quiet j) ∙ sym (at_no _ _ (quiet j))
    where
      quiet : (n : ℕ) → outputs P Read n true ≡ false
      quiet n = and_no_right (leb (P.address_bytes + 1) n) false refl
  hushed Write v u a j e = refl
  hushed Rdid v u a j e = at_no _ _ (quiet j) ∙ sym (at_no _ _ (quiet j))
    where
      quiet : (n : ℕ) → outputs P Rdid n true ≡ false
      quiet n = and_no_right (leb (P.address_bytes + 1) n) false refl
  hushed Wrid v u a j e = refl
  hushed Silence v u a j e = refl

  pub is_rdsr_law : (i : Instruction) → is_rdsr i ≡ true → i ≡ Rdsr
  is_rdsr_law Wren e = absurd (true≢false (sym e))
  is_rdsr_law Wrdi e = absurd (true≢false (sym e))
  is_rdsr_law Rdsr e = refl
  is_rdsr_law Wrsr e = absurd (true≢false (sym e))
  is_rdsr_law Read e = absurd (true≢false (sym e))
  is_rdsr_law Write e = absurd (true≢false (sym e))
  is_rdsr_law Rdid e = absurd (true≢false (sym e))
  is_rdsr_law Wrid e = absurd (true≢false (sym e))
  is_rdsr_law Silence e = absurd (true≢false (sym e))

  -- a frame with no byte is no RDSR
  pub polled_some : (s : List ℕ) → instruction P s ≡ Rdsr → 1 ≤ length s
  unfolding decode pick
  polled_some [] e = absurd (true≢false (sym (ap is_rdsr e)))
  polled_some (v ∷ vs) e = omega arith
