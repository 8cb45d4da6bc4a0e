use Rattle.std.proofs.Common.{ℕ, ◌-◌, ◌&&◌, leb, sym, refl, ap, ◌∙◌, ap₂}
use Rattle.laws.specs.Pick.{call_yes, call_no}
use Rattle.chip.specs.Records.{own_part, running, with_time, with_blank}
use Rattle.chip.specs.Time.{elapsed, timed, timed_blank, timed_cells}
use Rattle.chip.proofs.Recounts.{timed_on}
use Rattle.chip.proofs.Core.timed.Goals as goal

pub returns-then-ends-clause-value : goal.returns-then-ends-clause-value
unfolding timed timed_blank timed_cells
returns-then-ends-clause-value c =
    let a = c.args in
    let over = c.ends.ensures ∙ ap (λ (n : ℕ). running a.self && leb a.self.left n) c.elapsed-passed.ensures in
    let yes = c.if-ends.true in
    let blank = call_yes a.self.blank over yes c.store_page-blank.ensures.value in
    let core = call_yes (with_time a.reading (a.self.left - elapsed a.self.last a.reading) a.self) over yes
    (c.with_time.ensures ∙ ap (with_time a.reading 0) c.ended.ensures) in
    c.with_blank.ensures ∙ ap₂ with_blank blank core

pub returns-then-ends-clause-memory_after : goal.returns-then-ends-clause-memory_after
unfolding timed timed_blank timed_cells
returns-then-ends-clause-memory_after c =
    let a = c.args in
    let over = c.ends.ensures ∙ ap (λ (n : ℕ). running a.self && leb a.self.left n) c.elapsed-passed.ensures in
    let yes = c.if-ends.true in
    let blank = call_yes a.self.blank over yes c.store_page-blank.ensures.value in
    let core = call_yes (with_time a.reading (a.self.left - elapsed a.self.last a.reading) a.self) over yes
    (c.with_time.ensures ∙ ap (with_time a.reading 0) c.ended.ensures) in
    call_yes _ over yes c.store_page-blank.ensures.memory_after

pub returns-then-ends-clause-identification_after : goal.returns-then-ends-clause-identification_after
unfolding timed timed_blank timed_cells
returns-then-ends-clause-identification_after c =
    let a = c.args in
    let over = c.ends.ensures ∙ ap (λ (n : ℕ). running a.self && leb a.self.left n) c.elapsed-passed.ensures in
    let yes = c.if-ends.true in
    let blank = call_yes a.self.blank over yes c.store_page-blank.ensures.value in
    let core = call_yes (with_time a.reading (a.self.left - elapsed a.self.last a.reading) a.self) over yes
    (c.with_time.ensures ∙ ap (with_time a.reading 0) c.ended.ensures) in
    call_yes _ over yes c.store_identification.ensures

pub returns-clause-value : goal.returns-clause-value
unfolding timed timed_blank timed_cells
returns-clause-value c =
    let a = c.args in
    let passed = c.elapsed-passed.ensures in
    let over = c.ends.ensures ∙ ap (λ (n : ℕ). running a.self && leb a.self.left n) passed in
    let left = c.left_after.ensures ∙ ap (λ (n : ℕ). a.self.left - n) passed in
    let no = c.if-ends.false in
    c.with_time-2.ensures ∙ ap (λ (n : ℕ). with_time a.reading n a.self) left
    ∙ sym (timed_on (own_part a.self) a.reading a.self a.memory.now (sym over ∙ no))

pub returns-clause-memory_after : goal.returns-clause-memory_after
unfolding timed timed_blank timed_cells
returns-clause-memory_after c =
    let a = c.args in
    let passed = c.elapsed-passed.ensures in
    let over = c.ends.ensures ∙ ap (λ (n : ℕ). running a.self && leb a.self.left n) passed in
    let left = c.left_after.ensures ∙ ap (λ (n : ℕ). a.self.left - n) passed in
    let no = c.if-ends.false in
    call_no _ over no refl

pub returns-clause-identification_after : goal.returns-clause-identification_after
unfolding timed timed_blank timed_cells
returns-clause-identification_after c =
    let a = c.args in
    let passed = c.elapsed-passed.ensures in
    let over = c.ends.ensures ∙ ap (λ (n : ℕ). running a.self && leb a.self.left n) passed in
    let left = c.left_after.ensures ∙ ap (λ (n : ℕ). a.self.left - n) passed in
    let no = c.if-ends.false in
    call_no _ over no refl
