use Prim.Native.Nat.{ℕ, ◌+◌, ◌<◌, ◌≤◌}
use mathlib.Core.Path.{◌≡◌, refl, ap, ap₂, sym, ◌∙◌}
use native.Mathlib.Omega.{arith}
use native.Mathlib.Nat.{le_trans}
use lib.ListN.{length, take, drop}
use Rattle.laws.specs.Pick.{at_no, call_yes, call_no}
use Rattle.laws.specs.Table.{table_is}
use Rattle.codes.specs.Part.{Part}
use Rattle.chip.specs.Records.{own_part, status}
use Rattle.shown.specs.Shown.{padded_at}
use Rattle.frames.specs.Play.{FrameBench, frame_bench}
use Rattle.timed_frames.specs.Schedules.{due, passed, bench_at}
use Rattle.timed_frames.specs.InTime.{loaded_at}
use Rattle.timed_frames.proofs.Walks.{due_most, due_none, bench_none, none_between, loaded_late}
use Rattle.timed_frames.proofs.Walks.{loaded_soon, due_add, walk_on, bench_part, set_shown, all_shown}
use Rattle.timed_frames.proofs.polled.show_statuses.Goals as goal

-- what is no RDSR
pub returns-then-not-is_rdsr : goal.returns-then-not-is_rdsr
returns-then-not-is_rdsr c =
    let a = c.args in record {
      walked = record {
        place = 0;
        early = omega arith;
        came = sym (due_none a.schedule.positions.now);
        bench = sym (bench_none (own_part a.core) _ _ _);
      };
      out_after = call_no _ c.is_rdsr.ensures c.if-not-is_rdsr.true refl;
    }

pub loop-j-init : goal.loop-j-init
loop-j-init c =
    let a = c.args in
    record {
      part = refl;
      shown = λ i. sym (at_no _ _ (none_between i));
      walked = record {
        place = 0;
        early = omega arith;
        came = sym (due_none a.schedule.positions.now);
        bench = sym (bench_none (own_part a.core) _ _ _);
      };
    }

pub to-walk-requires : goal.to-walk-requires
to-walk-requires c =
    let w = c.loop-j.invariant.walked in
    omega (arith, w.came, due_most w.place c.args.schedule.positions.now)

pub loop-j-preserved : goal.loop-j-preserved
loop-j-preserved c =
    let a = c.args in
    let l = c.loop-j in
    let to = c.to-walk in
    let P = own_part a.core in
    let ps = a.schedule.positions.now in
    let ts = a.schedule.readings.now in
    let b = frame_bench a.core a.memory.now a.identification.now in
    let w = l.invariant.walked in
    let k = c.loaded_at.ensures in
    let at = loaded_at a.mode l.j in
    let later : w.place ≤ at = le_trans w.early (loaded_late a.mode l.j) in
    let here : l.j < length a.out.now = omega (arith, c.loop-j-test.true, l.auto.out) in
    let from : drop l.walk.next ps ≡ drop (due w.place ps) ps = ap (λ (n : ℕ). drop n ps) w.came in
    let count : to.result.next ≡ due at ps =
    to.ensures.next_value
    ∙ ap₂ (λ (n m : ℕ). n + due m (drop n ps)) w.came k
    ∙ due_add w.place at ps later in
    let bench : frame_bench to.result.core to.new.memory to.new.identification ≡ bench_at P ps ts b at =
    to.ensures.identification_after
    ∙ ap (λ (Q : Part). passed Q (take (due c.loaded_at.result (drop l.walk.next ps)) (drop l.walk.next ts))
    (frame_bench l.walk.core l.memory l.identification)) l.invariant.part
    ∙ ap₂ (λ (n m : ℕ). passed P (take (due m (drop n ps)) (drop n ts)) (frame_bench l.walk.core l.memory l.identification)) w.came k
    ∙ ap (passed P (take (due at (drop (due w.place ps) ps)) (drop (due w.place ps) ts))) w.bench
    ∙ walk_on P ps ts b w.place at later in
    let shown : c.padded_at.result ≡ padded_at (length a.out.now) a.bits l.j (status (bench_at P ps ts b at).core) =
    c.padded_at.ensures
    ∙ ap₂ (λ (n v : ℕ). padded_at n a.bits l.j v) l.auto.out (c.status.ensures ∙ ap (λ (x : FrameBench). status x.core) bench) in
    record {
      part = ap (λ (x : FrameBench). own_part x.core) bench ∙ bench_part P ps ts b at;
      shown = λ i. set_shown l.out a.out.now
          (λ n. padded_at (length a.out.now) a.bits n (status (bench_at P ps ts b (loaded_at a.mode n)).core)) l.j
          c.padded_at.result (omega (arith, here, l.auto.out)) (omega arith) shown l.invariant.shown i;
      walked = record { place = at; early = omega (arith, loaded_soon a.mode l.j); came = count; bench = bench };
    }

pub returns-clause-out_after : goal.returns-clause-out_after
returns-clause-out_after c =
    let l = c.loop-j in
    let a = c.args in
    let some = c.requires.out_len (sym c.is_rdsr.ensures ∙ c.if-not-is_rdsr.false) in
    let all : l.j ≡ length a.out.now = omega arith in
    call_yes _ c.is_rdsr.ensures c.if-not-is_rdsr.false
    (table_is _ l.out (length a.out.now) 0 l.auto.out
    (λ i h. l.invariant.shown i ∙ all_shown i l.j _ _ (omega (arith, all, h))))
