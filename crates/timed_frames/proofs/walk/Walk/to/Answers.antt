use Prim.Native.Nat.{ℕ, suc, ◌+◌, ◌-◌, ◌<◌}
use mathlib.Core.Path.{◌≡◌, refl, ap, ap₂, sym, ◌∙◌}
use native.Mathlib.Omega.{arith}
use lib.ListN.{length, take, drop, get_or, length-drop}
use lib.Seq.{get_or-drop}
use Rattle.codes.specs.Part.{Part, part_of}
use Rattle.chip.specs.Records.{own_part}
use Rattle.chip.proofs.Kept.{timed_part}
use Rattle.frames.specs.Play.{reading, FrameBench, frame_bench, acted}
use Rattle.timed_frames.specs.Schedules.{due, passed}
use Rattle.timed_frames.proofs.Walks.{bench_of_law, due_step, due_end, due_stop, passed_more}
use Rattle.timed_frames.proofs.walk.Walk.to.Goals as goal

pub loop-next-init : goal.loop-next-init
unfolding passed
loop-next-init c =
    let a = c.args in
    let n = a.self.next in
    let none : n - n ≡ 0 = omega arith in
    record {
      low = omega arith;
      high = c.requires.next_in_bounds;
      still = omega arith;
      part = refl;
      bench = sym (ap (λ (j : ℕ). passed (own_part a.self.core) (take j (drop n a.schedule.readings.now)) (frame_bench a.self.core a.memory.now
          a.identification.now)) none);
    }

pub loop-next-preserved : goal.loop-next-preserved
loop-next-preserved c =
    let a = c.args in
    let l = c.loop-next in
    let n₀ = a.self.next in
    let ps = a.schedule.positions.now in
    let ts = a.schedule.readings.now in
    let b₀ = frame_bench a.self.core a.memory.now a.identification.now in
    let P = own_part a.self.core in
    let here : l.next < length ps = omega arith in
    let soon : get_or ps l.next 0 < a.k = omega arith in
    let t = c.timed-core.ensures in
    let r = get_or ts l.next 0 in
    let one : suc l.next ≡ l.next + 1 = omega arith in
    let more : suc (l.next - n₀) ≡ l.next + 1 - n₀ = omega (arith, l.invariant.low) in
    let back : n₀ + (l.next - n₀) ≡ l.next = omega (arith, l.invariant.low) in
    let there : l.next - n₀ < length (drop n₀ ts) = simp length-drop (omega (arith, here, a.schedule.same, l.invariant.low)) in
    let next : frame_bench c.timed-core.result c.timed-core.new.memory
    c.timed-core.new.identification
    ≡ acted (own_part l.core) (reading r) (frame_bench l.core l.memory l.identification) = bench_of_law _ t.value t.memory_after t.identification_after in
    record {
      low = omega (arith, l.invariant.low);
      high = omega (arith, here);
      still = omega (arith, l.invariant.still, due_step a.k l.next ps here soon, ap (λ (j : ℕ). due a.k (drop j ps)) one, l.invariant.low);
      part = ap own_part t.value ∙ ap part_of (timed_part (own_part l.core) r l.core) ∙ l.invariant.part;
      bench = next
          ∙ ap₂ (λ (Q : Part) (b : FrameBench). acted Q (reading r) b) l.invariant.part l.invariant.bench
          ∙ ap (λ (x : ℕ). acted P (reading x) (passed P (take (l.next - n₀) (drop n₀ ts)) b₀))
          (sym (get_or-drop n₀ ts (l.next - n₀) 0 ∙ ap (λ (j : ℕ). get_or ts j 0) back))
          ∙ sym (passed_more P (drop n₀ ts) (l.next - n₀) b₀ there)
          ∙ ap (λ (j : ℕ). passed P (take j (drop n₀ ts)) b₀) more;
    }

pub returns-else-schedule-next : goal.returns-else-schedule-next
returns-else-schedule-next c =
    let a = c.args in
    let l = c.loop-next in
    let n₀ = a.self.next in
    let none = due_stop a.k l.next a.schedule.positions.now (omega arith) in
    let all : l.next - n₀ ≡ due a.k (drop n₀ a.schedule.positions.now) = omega (arith, l.invariant.still, none) in
    record {
      next_value = omega (arith, all, l.invariant.low);
      identification_after = l.invariant.bench
          ∙ ap (λ (j : ℕ). passed (own_part a.self.core) (take j (drop n₀ a.schedule.readings.now)) (frame_bench a.self.core a.memory.now
          a.identification.now)) all;
    }

pub returns-after-loop-next : goal.returns-after-loop-next
returns-after-loop-next c =
    let a = c.args in
    let l = c.loop-next in
    let n₀ = a.self.next in
    let none = due_end a.k l.next a.schedule.positions.now (omega arith) in
    let all : l.next - n₀ ≡ due a.k (drop n₀ a.schedule.positions.now) = omega (arith, l.invariant.still, none) in
    record {
      next_value = omega (arith, all, l.invariant.low);
      identification_after = l.invariant.bench
          ∙ ap (λ (j : ℕ). passed (own_part a.self.core) (take j (drop n₀ a.schedule.readings.now)) (frame_bench a.self.core a.memory.now
          a.identification.now)) all;
    }
