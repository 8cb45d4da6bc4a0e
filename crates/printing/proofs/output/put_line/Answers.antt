-- The number and the three bytes after it, each by what its call leaves where it has room.
use Rattle.std.proofs.Common.{◌≡◌, ℕ, ◌+◌, List, [], ◌∷◌, ap, ◌∙◌, arith, length, length-append}
use Rattle.printing.specs.Digits.{decimal}
use Rattle.printing.specs.Printing.{glyph, good_line}
use Rattle.printing.specs.Put.{put}
use Rattle.printing.proofs.Puts.{put_put}
use Rattle.printing.proofs.Rooms.{put_room, end_room}
use Rattle.printing.proofs.output.put_line.Goals as goal

pub returns : goal.returns
unfolding good_line
returns c =
    let a = c.args in
    let p = c.put_decimal-end in
    let b = c.put_bytes in
    let d = a.out.now in
    let number = decimal a.n in
    let rest : List ℕ = 9 ∷ glyph a.q ∷ 10 ∷ [] in
    let out = p.ensures.out_after ∙ put_room 7 d a.at number (omega arith) in
    let end : p.result ≡ a.at + length number = p.ensures.value.0 ∙ end_room 7 d a.at number (omega arith) in
    let after = p.new.out in
    let said = rw c.glyph_of.ensures at b.ensures in
    let last : b.result ≡ p.result + 3 = said.value ∙ end_room 3 after p.result rest (omega arith) in
    record {
      out_after = said.out_after ∙ put_room 3 after p.result rest (omega arith) ∙ ap (λ (l : List ℕ). put l p.result rest) out
          ∙ ap (λ (k : ℕ). put (put d a.at number) k rest) end ∙ put_put d a.at number rest (omega arith);
      value = (rw length-append (omega arith), omega arith);
    }
