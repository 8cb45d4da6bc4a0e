-- By the side of the choice that the test for room takes.
use Rattle.std.proofs.Common.{◌≡◌, ◌+◌, ◌-◌, refl, sym, ◌∙◌, arith, length}
use Rattle.laws.specs.Pick.{yes_so, no_so}
use Rattle.printing.specs.Put.{put}
use Rattle.printing.proofs.put.put_bytes.Goals as goal

pub returns-then-has_bytes-clause-out_after : goal.returns-then-has_bytes-clause-out_after
unfolding put
returns-then-has_bytes-clause-out_after c =
    let a = c.args in
    let room = sym c.has_bytes.ensures ∙ c.if-has_bytes.true in
    let n : a.at + length a.bytes.now - a.at ≡ length a.bytes.now = omega arith in
    yes_so _ room (rw (c.copy_from_slice.ensures.after, n) refl)

pub returns-then-has_bytes-clause-value : goal.returns-then-has_bytes-clause-value
returns-then-has_bytes-clause-value c = yes_so _ (sym c.has_bytes.ensures ∙ c.if-has_bytes.true) refl

pub returns-clause-out_after : goal.returns-clause-out_after
returns-clause-out_after c = no_so _ (sym c.has_bytes.ensures ∙ c.if-has_bytes.false) refl

pub returns-clause-value : goal.returns-clause-value
returns-clause-value c = no_so _ (sym c.has_bytes.ensures ∙ c.if-has_bytes.false) refl
