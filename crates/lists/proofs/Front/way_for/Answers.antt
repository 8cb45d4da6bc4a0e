use Rattle.laws.specs.Pick.{pick_same}
use Rattle.pins.specs.Events.{on_d, on_w}
use Rattle.lists.proofs.Front.way_for.Goals as goal

pub returns-in-S-clause-m_value : goal.returns-in-S-clause-m_value
returns-in-S-clause-m_value c =
    let e = c.in-S.is in
    λ t l m. rw e (pick_same _ m)

pub returns-in-C-clause-m_value : goal.returns-in-C-clause-m_value
returns-in-C-clause-m_value c =
    let e = c.in-C.is in
    λ t l m. rw e (pick_same _ m)

pub returns-in-D : goal.returns-in-D
unfolding on_d
returns-in-D c =
    let e = c.in-D.is in
    record { by_index = λ i l. rw (e, c.bit.ensures); m_value = λ t l m. rw e (pick_same _ m) }

pub returns-in-W : goal.returns-in-W
unfolding on_w
returns-in-W c =
    let e = c.in-W.is in
    record { by_index = λ i l. rw (e, c.bit-w.ensures); m_value = λ t l m. rw e (pick_same _ m) }

pub returns-in-Hold-clause-m_value : goal.returns-in-Hold-clause-m_value
returns-in-Hold-clause-m_value c =
    let e = c.in-Hold.is in
    λ t l m. rw e (pick_same _ m)

pub returns-in-Time-clause-m_value : goal.returns-in-Time-clause-m_value
returns-in-Time-clause-m_value c =
    let e = c.in-Time.is in
    let s = c.args.self in
    λ t l m. rw e (c.passing.ensures.m_value t m s l)
