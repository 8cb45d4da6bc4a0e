use Rattle.std.proofs.Common.{◌≡◌, ℕ, ◌+◌, ◌≤◌, List, length, sym, refl, ◌∙◌, arith}
use Rattle.chip.specs.Records.{own_part}
use Rattle.codes.specs.Part.{Part, part_of}
use Rattle.codes.proofs.Sound.{sound_of}
use Rattle.split.specs.Split.{count, split_address}
use Rattle.split.specs.Pieces.{piece}
use Rattle.split.proofs.Numbers.{parts_asked}
use Rattle.frames.specs.Play.{FrameBench}
use Rattle.driver.specs.declared.waiting.Waited.{Waited}
use Rattle.driver.proofs.Left.{Left}
use Rattle.sequence.proofs.Joined.{acts_most}
use Rattle.sequence.proofs.Runs.{part_acts, rest_first, pages_few, parts_few}
use Rattle.driver.proofs.Ended.{part_left, rest_on, rest_late, rest_done}
use Rattle.driver.proofs.pages.write_parts.Goals as goal

-- part k sent few frames
few_frames : (P : Part) (i limit a : ℕ) (bytes : List ℕ) (k : ℕ) (d : FrameBench) (w : Waited) (m p : List ℕ) → 1 ≤ limit
    → Left P (part_acts P i limit a bytes k d) d w m p → w.frames ≤ limit + 2
few_frames P i limit a bytes k d w m p some went =
    let sends = acts_most P i limit (split_address P.size P.page a (length bytes) k) (piece P.size P.page a bytes k) d some in
    omega (arith, went.told.1.1.0)

-- a run has at most 512 parts
few_parts : (n a len : ℕ) {parts : ℕ} → parts ≡ count (part_of n).size (part_of n).page a len → parts ≤ 512
few_parts n a len e = omega (arith, parts_few (part_of n) (sound_of n) a len, pages_few n)

pub loop-k-init : goal.loop-k-init
loop-k-init c =
    record {
      few = omega (arith, c.requires);
      all =
          c.cartvesper_split_parts-parts.ensures
          ∙ parts_asked (own_part c.args.core).size (own_part c.args.core).page c.args.address (length c.args.bytes.now);
      same = refl;
      rest = rest_first (own_part c.args.core) _ _ _ _ _ _ _;
    }

pub overflow_add-frames : goal.overflow_add-frames
overflow_add-frames c =
    let a = c.args in
    let l = c.loop-k in
    let went = part_left (own_part c.args.core) c.args.polls.interval c.args.polls.limit c.args.address c.args.bytes.now _ _ _ _ _ l.invariant.same
    c.write_part-page.ensures in
    let most = few_frames _ _ c.args.polls.limit _ _ _ _ c.write_part-page.result _ _ c.args.polls.some went in
    let few = few_parts a.core.part a.address (length a.bytes.now) l.invariant.all in
    omega (arith, l.invariant.few, a.polls.most)

pub overflow_cast-result : goal.overflow_cast-result
overflow_cast-result c =
    let a = c.args in
    let few = few_parts a.core.part a.address (length a.bytes.now) c.loop-k.invariant.all in
    omega arith

pub returns-then-wip : goal.returns-then-wip
returns-then-wip c =
    let l = c.loop-k in
    let went = part_left (own_part c.args.core) c.args.polls.interval c.args.polls.limit c.args.address c.args.bytes.now _ _ _ _ _ l.invariant.same
    c.write_part-page.ensures in
    rest_late l.invariant.rest (omega arith) went (sym c.wip.ensures ∙ c.if-wip.true) l.invariant.all

pub loop-k-preserved : goal.loop-k-preserved
loop-k-preserved c =
    let l = c.loop-k in
    let went = part_left (own_part c.args.core) c.args.polls.interval c.args.polls.limit c.args.address c.args.bytes.now _ _ _ _ _ l.invariant.same
    c.write_part-page.ensures in
    let most = few_frames _ _ c.args.polls.limit _ _ _ _ c.write_part-page.result _ _ c.args.polls.some went in
    record {
      few = omega (arith, l.invariant.few, c.args.polls.most);
      all = l.invariant.all;
      same = went.stays;
      rest = rest_on l.invariant.rest (omega arith) went (sym c.wip.ensures ∙ c.if-wip.false);
    }

pub overflow_cast-result-2 : goal.overflow_cast-result-2
overflow_cast-result-2 c =
    let a = c.args in
    let few = few_parts a.core.part a.address (length a.bytes.now) c.loop-k.invariant.all in
    omega arith

pub returns : goal.returns
returns c = rest_done c.loop-k.invariant.rest (omega arith) c.loop-k.invariant.all
