use Rattle.std.specs.Prelude.{Ok}
use Prim.Native.Nat.{ℕ, suc, ◌+◌, ◌/◌}
use mathlib.Core.Bool.{Bool}
use mathlib.Core.List.{List}
use mathlib.Core.Path.{◌≡◌, refl, ap, ap₂, sym, ◌∙◌}
use native.Mathlib.Omega.{arith}
use lib.ListN.{length, take}
use Rattle.codes.specs.Part.{Part}
use Rattle.chip.specs.Records.{own_part, running}
use Rattle.fields.specs.Bytes.{instruction}
use Rattle.shown.specs.Shown.{undriven}
use Rattle.frames.specs.After.{after}
use Rattle.frames.specs.Answers.{framed, framed_output, Framed}
use Rattle.frames.specs.Play.{FrameBench, frame_bench}
use Rattle.timed_frames.specs.Schedules.{due, passed}
use Rattle.timed_frames.specs.InTime.{last_of}
use Rattle.timed_frames.proofs.Walks.{bench_of_law, bench_part}
use Rattle.timed_frames.proofs.Calm.{calm_at}
use Rattle.timed_frames.proofs.Opened.{plain_answer, plain_core, plain_output, still_taken, left_quiet, shown_quiet}
use Rattle.timed_frames.proofs.polled.quiet_frame.Goals as goal

pub returns : goal.returns
returns c =
    let a = c.args in
    let p = c.requires in
    let P = own_part a.core in
    let ps = a.schedule.positions.now in
    let ts = a.schedule.readings.now in
    let s = a.bytes.now in
    let b = frame_bench a.core a.memory.now a.identification.now in
    let to = c.to-last in
    let f = c.frame in
    let x = last_of P ps ts b a.bits in
    let next : a.bits / 8 + 1 ≡ suc (a.bits / 8) = omega arith in
    let bench : frame_bench to.result.core to.new.memory to.new.identification ≡ x =
    to.ensures.identification_after ∙ ap (λ (k : ℕ). passed P (take (due k ps) ts) b) next in
    let part : own_part to.result.core ≡ P = ap (λ (y : FrameBench). own_part y.core) bench ∙ bench_part P ps ts b (suc (a.bits / 8)) in
    let done = still_taken P (take (due (suc (a.bits / 8)) ps) ts) b (length s) a.bits (length a.out.now) p.out_value in
    let idle = p.core_value in
    let calm = calm_at P ps ts b (suc (a.bits / 8)) idle in
    let given : Part → FrameBench → Framed = λ Q y. framed Q y.core y.memory y.identification a.w s a.bits (length a.out.now) in
    let told : f.result ≡ given P x = f.ensures.value ∙ ap₂ given part bench in
    let shows : Part → FrameBench → List ℕ = λ Q y. framed_output Q y.core y.memory y.identification s a.bits a.out.now in
    let shown : f.new.out ≡ shows P x = f.ensures.out_after ∙ ap₂ shows part bench in record {
      answer_value = ap (λ (r : Framed). r.answer) told
          ∙ plain_answer P x.core x.memory x.identification s a.bits (length a.out.now) done a.w
          ∙ ap (λ (r : Bool). Ok (undriven P (instruction P s) r a.bits)) (calm.idle ∙ sym idle);
      identification_after = bench_of_law (frame_bench (after P (running x.core) a.w x.core s a.bits) x.memory x.identification)
          (ap (λ (r : Framed). r.core) told ∙ plain_core P x.core x.memory x.identification s a.bits (length a.out.now) done a.w)
          (ap (λ (y : FrameBench). y.memory) bench) (ap (λ (y : FrameBench). y.identification) bench)
          ∙ left_quiet P ps ts b p.none_at_0 idle a.w s a.bits;
      out_after = λ o. shown
          ∙ plain_output P x.core x.memory x.identification s a.bits (length a.out.now) done a.out.now refl
          ∙ shown_quiet P ps ts b p.none_at_0 idle o s a.bits;
    }
