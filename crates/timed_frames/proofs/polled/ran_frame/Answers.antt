use Prim.Native.Nat.{ℕ, suc, ◌+◌, ◌/◌, ◌≤◌}
use mathlib.Core.Bool.{Bool, true}
use mathlib.Core.List.{List}
use mathlib.Core.Path.{◌≡◌, refl, ap, ap₂, sym, ◌∙◌}
use native.Mathlib.Omega.{arith}
use lib.ListN.{length, take, drop}
use Rattle.laws.specs.Pick.{pick}
use Rattle.codes.specs.Part.{Part}
use Rattle.codes.specs.declared.Instruction.{Instruction}
use Rattle.codes.proofs.Parts.{size_most}
use Rattle.chip.specs.Records.{own_part, status, lock_byte}
use Rattle.fields.specs.Bytes.{instruction}
use Rattle.shown.specs.Shown.{sights, output}
use Rattle.shown.proofs.Padding.{few_unused}
use Rattle.frames.specs.After.{after}
use Rattle.frames.specs.Play.{FrameBench, frame_bench}
use Rattle.frames.specs.Answers.{Framed}
use Rattle.frames.proofs.Outcomes.{taken}
use Rattle.timed_frames.specs.Schedules.{due, passed}
use Rattle.timed_frames.specs.InTime.{is_rdsr, last_of, sights_in}
use Rattle.timed_frames.specs.Walked.{statuses_over}
use Rattle.timed_frames.proofs.Walks.{bench_of_law, bench_part, due_most}
use Rattle.timed_frames.proofs.Calm.{is_rdsr_law, polled_some}
use Rattle.timed_frames.proofs.Opened.{plain_answer, plain_output, plain_length, walked_last, left_ran, shown_ran}
use Rattle.timed_frames.proofs.polled.ran_frame.Goals as goal

-- an RDSR has a byte
pub show_statuses-walk-requires-clause-out_len : goal.show_statuses-walk-requires-clause-out_len
show_statuses-walk-requires-clause-out_len c =
    let a = c.args in
    let p = c.requires in
    let P = own_part a.core in
    let t = taken P a.core (length a.memory.now) (length a.identification.now) (length a.bytes.now) a.bits (length a.out.now) refl
    p.out_value in
    let f = c.frame-shown in
    let long = plain_length P a.core a.memory.now a.identification.now a.bytes.now a.bits (length a.out.now) p.out_value a.out.now refl in
    let same : length f.new.out ≡ length a.out.now = ap length f.ensures.out_after ∙ long in
    λ e. let some = polled_some P a.bytes.now (is_rdsr_law P (instruction P a.bytes.now) (sym (ap is_rdsr c.instruction_of.ensures) ∙ e)) in
    omega (arith, same, t.roomy, some)

pub show_statuses-walk-requires-clause-bits_bound : goal.show_statuses-walk-requires-clause-bits_bound
show_statuses-walk-requires-clause-bits_bound c =
    let a = c.args in
    let p = c.requires in
    let P = own_part a.core in
    let t = taken P a.core (length a.memory.now) (length a.identification.now) (length a.bytes.now) a.bits (length a.out.now) refl
    p.out_value in
    let f = c.frame-shown in
    let long = plain_length P a.core a.memory.now a.identification.now a.bytes.now a.bits (length a.out.now) p.out_value a.out.now refl in
    let same : length f.new.out ≡ length a.out.now = ap length f.ensures.out_after ∙ long in
    let few = few_unused (length a.bytes.now) a.bits t.counted in
    rw (same, t.roomy) (few.0, few.1, omega (arith, t.short, size_most a.core.part))

pub to-last-requires : goal.to-last-requires
to-last-requires c =
    let w = c.show_statuses-walk.ensures.walked in
    omega (arith, w.came, due_most w.place c.args.schedule.positions.now)

pub returns : goal.returns
returns c =
    let a = c.args in
    let p = c.requires in
    let P = own_part a.core in
    let ps = a.schedule.positions.now in
    let ts = a.schedule.readings.now in
    let s = a.bytes.now in
    let n = a.bits in
    let b = frame_bench a.core a.memory.now a.identification.now in
    let f = c.frame-shown in
    let sh = c.show_statuses-walk in
    let to = c.to-last in
    let t = taken P a.core (length a.memory.now) (length a.identification.now) (length s) n (length a.out.now) refl p.out_value in
    let v = sights (status a.core) (lock_byte a.core) a.memory.now a.identification.now in
    let first : f.new.out ≡ output P true v s n =
    f.ensures.out_after ∙ plain_output P a.core a.memory.now a.identification.now s n (length a.out.now) p.out_value a.out.now refl
    ∙ ap (λ (r : Bool). output P r v s n) p.core_value in
    let long = plain_length P a.core a.memory.now a.identification.now s n (length a.out.now) p.out_value a.out.now refl in
    let same : length f.new.out ≡ length a.out.now = ap length f.ensures.out_after ∙ long in
    let w = sh.ensures.walked in
    let few = few_unused (length s) n t.counted in
    let early : w.place ≤ suc (n / 8) = omega (arith, w.early, same, t.roomy, few.1) in
    let bench = walked_last P ps ts b w.place n sh.result.next (frame_bench sh.result.core sh.new.memory
    sh.new.identification) early w.came w.bench in
    let x = last_of P ps ts b n in
    let last : frame_bench to.result.core to.new.memory to.new.identification ≡ x =
    to.ensures.identification_after ∙ ap (λ (Q : Part). passed Q (take (due (n / 8 + 1) (drop sh.result.next ps)) (drop sh.result.next ts))
    (frame_bench sh.result.core sh.new.memory sh.new.identification))
    (ap (λ (y : FrameBench). own_part y.core) w.bench ∙ bench_part P ps ts b w.place) ∙ bench in
    let part : own_part to.result.core ≡ P = ap (λ (y : FrameBench). own_part y.core) last ∙ bench_part P ps ts b (suc (n / 8)) in
    let left : c.after_ran.result ≡ after P true a.w x.core s n =
    c.after_ran.ensures a.w ∙ ap₂ (λ (Q : Part) (y : FrameBench). after Q true a.w y.core s n) part last in record {
      answer_value = ap (λ (r : Framed). r.answer) f.ensures.value ∙ plain_answer P a.core a.memory.now a.identification.now s n (length a.out.now)
          p.out_value a.w;
      identification_after = bench_of_law (frame_bench (after P true a.w x.core s n) x.memory x.identification) left (ap (λ (y : FrameBench). y.memory) last)
          (ap (λ (y : FrameBench). y.identification) last)
          ∙ left_ran P ps ts b p.none_at_0 p.core_value a.w s n;
      out_after = sh.ensures.out_after
          ∙ ap₂ (λ (k : Instruction) (l : List ℕ). pick (is_rdsr k) (statuses_over P ps ts b a.mode n l) l) c.instruction_of.ensures first
          ∙ shown_ran P ps ts b p.none_at_0 a.mode v s n
          ∙ ap (λ (r : Bool). output P r (sights_in P ps ts b a.mode) s n) (sym p.core_value);
    }
