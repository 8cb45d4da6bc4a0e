use mathlib.Core.Path.{◌≡◌, refl, ap, sym, subst, ◌∙◌}
use mathlib.Core.List.{List, [], ◌++◌, append_assoc}
use Prim.Native.Nat.{ℕ, ◌+◌}
use native.Mathlib.Omega.{arith}
use lib.ListN.{length, length-append}
use Rattle.std.specs.Slice.Iter.{chunks_size, chunks_rest}
use Rattle.codes.specs.Part.{part_of}
use Rattle.pins.specs.declared.Device.{Device}
use Rattle.pins.specs.Answers.{PinBench, pin_bench}
use Rattle.trace.specs.Pieces.{Took}
use Rattle.trace.proofs.Chunking.{lines_part, took_nothing, took_more, all_seen}
use Rattle.trace.proofs.chunks.pieces.Goals as goal

pub loop-bytes-init : goal.loop-bytes-init
loop-bytes-init c =
    let a = c.args in
    let same = c.into_iter-bytes-iterator.ensures.into_iter_gives in
    record {
      size = ap chunks_size same ∙ c.chunks-bytes-items.ensures.size;
      rooms = (refl, refl);
      same_room = refl;
      memory = c.requires.0;
      identification = c.requires.1;
      seen = [];
      split = ap chunks_rest same ∙ c.chunks-bytes-items.ensures.rest;
      took = took_nothing a.start a.memory.now a.identification.now a.out.now c.requires.3 c.requires.2;
    }

pub loop-bytes-preserved : goal.loop-bytes-preserved
loop-bytes-preserved c =
    let a = c.args in
    let l = c.loop-bytes in
    let x = c.piece-placed in
    let seen = l.invariant.seen in
    let y = c.in-Some.bytes.now in
    let rest = chunks_rest c.next.new.self in
    let steps = c.in-Some.ensures.steps in
    let b : PinBench = pin_bench a.start.device a.memory.now a.identification.now in
    let here : PinBench = pin_bench l.placed.device l.memory l.identification in
    let split : (seen ++ y) ++ rest ≡ a.text.now = append_assoc seen y rest ∙ ap (λ (z : List ℕ). seen ++ z) (sym steps.1.0) ∙ l.invariant.split in
    let few : length (seen ++ y) + length rest ≡ length a.text.now = sym (length-append (seen ++ y) rest) ∙ ap length split in
    let part : l.placed.device.core.part ≡ x.result.device.core.part =
    sym (ap (λ (d : Device). d.core.part) x.ensures.1.0.0 ∙ lines_part l.placed.line here y) in
    let memory : length x.new.memory ≡ length l.memory = omega arith in
    let identification : length x.new.identification ≡ length l.identification = omega arith in
    record {
      size = steps.0 ∙ l.invariant.size;
      rooms = (omega arith, omega arith);
      same_room = omega arith;
      memory = memory ∙ l.invariant.memory ∙ ap (λ (k : ℕ). (part_of k).size) part;
      identification = identification ∙ l.invariant.identification ∙ ap (λ (k : ℕ). (part_of k).page) part;
      seen = seen ++ y;
      split = split;
      took = took_more a.start.line b c.requires.3 seen y a.out.now a.start.at (omega (arith, few, c.requires.4)) l.placed x.result l.memory
          l.identification l.out x.new.memory x.new.identification x.new.out l.invariant.took x.ensures;
    }

pub returns : goal.returns
returns c =
    let a = c.args in
    let l = c.loop-bytes in
    subst (λ (z : List ℕ). Took a.start.line (pin_bench a.start.device a.memory.now a.identification.now) z a.out.now a.start.at l.placed l.memory
    l.identification l.out) (all_seen l.invariant.seen _ a.text.now l.invariant.split c.in-None.ensures.steps.1.0) l.invariant.took
