-- What a bit taken or shown moves is what the edge does, by the laws of `InPlace`.
-- data output
use mathlib.Core.Path.{◌≡◌, refl, ap, sym, ◌∙◌}
use mathlib.Core.Bool.{Bool}
use Rattle.laws.specs.Pick.{and_left, and_right}
use Rattle.codes.specs.Part.{Part}
use Rattle.codes.specs.Status.{bit, on}
use Rattle.codes.specs.Instructions.{decode}
use Rattle.codes.specs.Output.{outputs}
use Rattle.pins.proofs.Stills.{still}
use Rattle.lists.specs.declared.Front.{Front}
use Rattle.lists.specs.Ways.{whole}
use Rattle.lists.specs.Stretches.{counted}
use Rattle.lists.proofs.InPlace.{one_bit, up_counted, up_uncounted, next_bit, down, down_counted}
use Rattle.lists.proofs.Front.edge.Goals as goal

abbrev driven : Part → Front → Bool
driven P s = outputs P (decode P s.code) s.taken (on s.ran)

pub returns-then-bits-lt7 : goal.returns-then-bits-lt7
returns-then-bits-lt7 c =
    let s = c.args.self in
    let up = c.if-level.true in
    let was = c.bit.ensures in
    let moves : s.c ≡ 1 → ⊥ = λ e. c.if-self-bit.false (e ∙ sym (was ∙ ap bit up)) in
    rw up
    (λ P m l k q no. up_counted P m (whole s l k) _ moves (c.requires.self_value ∙ c.if-counts.true)
    (one_bit P _ s.d (whole s l k).frame _ c.if-bits-lt7.true c.shifted_in-byte.ensures))

pub returns-then-level : goal.returns-then-level
returns-then-level c =
    let s = c.args.self in
    let up = c.if-level.true in
    let moves : s.c ≡ 1 → ⊥ = λ e. c.if-self-bit.false (e ∙ sym (c.bit.ensures ∙ ap bit up)) in
    rw up (λ P m l k q no. up_uncounted P m (whole s l k) moves (c.requires.self_value ∙ c.if-counts.false))

pub returns-then-shown : goal.returns-then-shown
returns-then-shown c =
    let s = c.args.self in
    let low = c.if-level.false in
    let moves : s.c ≡ 0 → ⊥ = λ e. c.if-self-bit.false (e ∙ sym (c.bit.ensures ∙ ap bit low)) in
    rw low
    (λ P m l k q no. let both = q ∙ c.if-moves.true in
    down_counted P m (whole s l k) _ _ moves c.requires.steady (and_left (counted s) (driven P s) both)
    (next_bit P m k (whole s l k).frame (and_right (counted s) (driven P s) both) c.if-shown.true))

pub returns : goal.returns
returns c =
    let s = c.args.self in
    let low = c.if-level.false in
    let moves : s.c ≡ 0 → ⊥ = λ e. c.if-self-bit.false (e ∙ sym (c.bit.ensures ∙ ap bit low)) in
    rw low
    (λ P m l k q no. down P m (whole s l k) _ (whole s l k) moves c.requires.steady (still P m k (whole s l k) (driven P s) refl (q ∙ c.if-moves.false)))
