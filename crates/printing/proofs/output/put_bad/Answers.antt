-- The number and the word after it, each by what its call leaves where it has room.
use mathlib.Core.Path.{◌≡◌, refl, ap, sym, ◌∙◌}
use mathlib.Core.List.{List, [], ◌∷◌}
use Prim.Native.Nat.{ℕ, ◌+◌, ◌≤◌}
use native.Mathlib.Omega.{arith}
use lib.ListN.{length, length-append}
use borrow.Author.Tests.{leb-true}
use Rattle.laws.specs.Pick.{yes_so, no_so}
use Rattle.printing.specs.Digits.{decimal}
use Rattle.printing.specs.Printing.{bad_line}
use Rattle.printing.specs.Put.{put}
use Rattle.printing.proofs.Puts.{put_put}
use Rattle.printing.proofs.Rooms.{put_room, end_room}
use Rattle.printing.proofs.output.put_bad.Goals as goal

pub returns-then-has_bytes-clause-out_after : goal.returns-then-has_bytes-clause-out_after
unfolding bad_line
returns-then-has_bytes-clause-out_after c =
    let a = c.args in
    let test = sym c.has_bytes.ensures ∙ c.if-has_bytes.true in
    let p = c.put_decimal-end in
    let b = c.put_bytes in
    let d = a.out.now in
    let after = p.new.out in
    let number = decimal a.n in
    let word : List ℕ = 9 ∷ 98 ∷ 97 ∷ 100 ∷ 10 ∷ [] in
    let room : a.at + 12 ≤ length d = leb-true _ _ test in
    let e = rw c.from.ensures at p.ensures in
    let first = e.out_after ∙ put_room 7 d a.at number (omega arith) in
    let end : p.result ≡ a.at + length number = e.value.0 ∙ end_room 7 d a.at number (omega arith) in
    let last : b.result ≡ p.result + 5 = b.ensures.value ∙ end_room 5 after p.result word (omega arith) in
    yes_so _ test
    (b.ensures.out_after ∙ put_room 5 after p.result word (omega arith) ∙ ap (λ (l : List ℕ). put l p.result word) first
    ∙ ap (λ (k : ℕ). put (put d a.at number) k word) end ∙ put_put d a.at number word (omega arith))

pub returns-then-has_bytes-clause-value : goal.returns-then-has_bytes-clause-value
unfolding bad_line
returns-then-has_bytes-clause-value c =
    let a = c.args in
    let test = sym c.has_bytes.ensures ∙ c.if-has_bytes.true in
    let p = c.put_decimal-end in
    let b = c.put_bytes in
    let d = a.out.now in
    let after = p.new.out in
    let number = decimal a.n in
    let word : List ℕ = 9 ∷ 98 ∷ 97 ∷ 100 ∷ 10 ∷ [] in
    let room : a.at + 12 ≤ length d = leb-true _ _ test in
    let e = rw c.from.ensures at p.ensures in
    let first = e.out_after ∙ put_room 7 d a.at number (omega arith) in
    let end : p.result ≡ a.at + length number = e.value.0 ∙ end_room 7 d a.at number (omega arith) in
    let last : b.result ≡ p.result + 5 = b.ensures.value ∙ end_room 5 after p.result word (omega arith) in
    (yes_so _ test (rw length-append (omega arith)), omega arith)

pub returns-clause-out_after : goal.returns-clause-out_after
returns-clause-out_after c =
    let none = sym c.has_bytes.ensures ∙ c.if-has_bytes.false in
    no_so _ none refl

pub returns-clause-value : goal.returns-clause-value
returns-clause-value c =
    let none = sym c.has_bytes.ensures ∙ c.if-has_bytes.false in
    (no_so _ none refl, omega arith)
