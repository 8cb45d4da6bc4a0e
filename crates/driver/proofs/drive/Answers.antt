use Rattle.std.proofs.Common.{ℕ, List, sym, refl, ◌∙◌, arith, eqb-true}
use Rattle.std.proofs.lemmas.Bool.{eqb-false}
use Rattle.chip.specs.Records.{own_part}
use Rattle.frames.specs.Play.{FrameBench, frame_bench}
use Rattle.sequence.specs.Sequence.{first_wait}
use Rattle.sequence.proofs.Joined.{first_most}
use Rattle.driver.specs.Told.{ToldFrom}
use Rattle.driver.specs.declared.waiting.Waited.{Waited}
use Rattle.driver.proofs.Left.{Left, left}
use Rattle.driver.proofs.Drives.{drove_none, drove_late, drove_touches, drove_parts}
use Rattle.driver.proofs.drive.Goals as goal

-- what the first wait left
went : (i limit : ℕ) (d : FrameBench) {r : Waited} {m p : List ℕ} → ToldFrom (own_part d.core) (first_wait (own_part d.core) i limit) d r m p
    → Left (own_part d.core) (first_wait (own_part d.core) i limit d) d r m p
went i limit d t = left _ _ _ _ _ _ refl t

pub returns-then-is_empty : goal.returns-then-is_empty
returns-then-is_empty c = drove_none _ _ _ _ _ _ (eqb-true _ _ (sym c.is_empty.ensures ∙ c.if-is_empty.true))

pub returns-then-wip : goal.returns-then-wip
returns-then-wip c =
    let a = c.args in
    let rest = went a.polls.interval a.polls.limit (frame_bench a.core a.memory.now a.identification.now) c.first_wait-first.ensures in
    drove_late _ _ _ _ _ _ (eqb-false _ _ (sym c.is_empty.ensures ∙ c.if-is_empty.false)) rest (sym c.wip.ensures ∙ c.if-wip.true)

pub returns-then-block_touched : goal.returns-then-block_touched
returns-then-block_touched c =
    let a = c.args in
    let rest = went a.polls.interval a.polls.limit (frame_bench a.core a.memory.now a.identification.now) c.first_wait-first.ensures in
    drove_touches _ _ _ _ _ _ (eqb-false _ _ (sym c.is_empty.ensures ∙ c.if-is_empty.false)) rest (sym c.wip.ensures ∙ c.if-wip.false)
    (sym c.block_touched.ensures ∙ c.if-block_touched.true)

pub write_parts-requires : goal.write_parts-requires
write_parts-requires c =
    let a = c.args in
    let d : FrameBench = frame_bench a.core a.memory.now a.identification.now in
    let rest = went a.polls.interval a.polls.limit d c.first_wait-first.ensures in
    let most = first_most (own_part a.core) a.polls.interval a.polls.limit d a.polls.some in
    omega (arith, most, rest.told.1.1.0, a.polls.most)

pub returns : goal.returns
returns c =
    let a = c.args in
    let rest = went a.polls.interval a.polls.limit (frame_bench a.core a.memory.now a.identification.now) c.first_wait-first.ensures in
    drove_parts _ _ _ _ _ _ (eqb-false _ _ (sym c.is_empty.ensures ∙ c.if-is_empty.false)) rest (sym c.wip.ensures ∙ c.if-wip.false)
    (sym c.block_touched.ensures ∙ c.if-block_touched.false) c.write_parts.ensures
