-- By the side of the choice that the test for room takes; what is written are the digits by their number.
use mathlib.Core.Path.{◌≡◌, refl, ap, sym, ◌∙◌}
use Prim.Native.Nat.{ℕ, ◌+◌}
use native.Mathlib.Omega.{arith}
use lib.ListN.{length}
use Rattle.laws.specs.Pick.{yes_so, no_so}
use Rattle.printing.specs.Digits.{digits, decimal}
use Rattle.printing.specs.Put.{put}
use Rattle.printing.proofs.Puts.{digits_length}
use Rattle.printing.proofs.digits.put_decimal.Goals as goal

pub returns-then-has_bytes-clause-out_after : goal.returns-then-has_bytes-clause-out_after
unfolding decimal
returns-then-has_bytes-clause-out_after c =
    let a = c.args in
    let p = c.places_of-k in
    let room = sym c.has_bytes.ensures ∙ c.if-has_bytes.true in
    let e : digits p.result a.n ≡ decimal a.n = ap (λ (k : ℕ). digits k a.n) p.ensures.0 in
    yes_so _ room (c.put_digits.ensures ∙ ap (put a.out.now a.at) e)

pub returns-then-has_bytes-clause-value : goal.returns-then-has_bytes-clause-value
unfolding decimal
returns-then-has_bytes-clause-value c =
    let a = c.args in
    let p = c.places_of-k in
    let room = sym c.has_bytes.ensures ∙ c.if-has_bytes.true in
    let e : digits p.result a.n ≡ decimal a.n = ap (λ (k : ℕ). digits k a.n) p.ensures.0 in
    (yes_so _ room (ap (λ (k : ℕ). a.at + k) (sym (digits_length p.result a.n) ∙ ap length e)), omega arith)

pub returns-clause-out_after : goal.returns-clause-out_after
returns-clause-out_after c =
    let none = sym c.has_bytes.ensures ∙ c.if-has_bytes.false in
    no_so _ none refl

pub returns-clause-value : goal.returns-clause-value
returns-clause-value c =
    let none = sym c.has_bytes.ensures ∙ c.if-has_bytes.false in
    (no_so _ none refl, omega arith)
