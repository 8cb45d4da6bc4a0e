-- The later is stored in page 0 of the bytes, which is all of them; the words of marks are made one by one.
use mathlib.Core.Path.{◌≡◌, refl}
use lib.ListN.{length, get_or}
use Rattle.std.specs.Int.Bits.{bit_or}
use Rattle.laws.specs.Marks.{or_words}
use Rattle.codes.specs.Part.{room}
use Rattle.latch.proofs.Made.{made_table}
use Rattle.laying.proofs.Laying.{stored_room}
use Rattle.std.proofs.Common.{rules}
use Rattle.laying.proofs.over.Goals as goal

pub returns : goal.returns
unfolding or_words
returns c =
    let a = c.args in
    let long : length a.earlier.bytes ≡ room = search rules in
    let marks =
    made_table _ _ (λ k. bit_or (get_or a.earlier.marks k 0) (get_or a.later.marks k 0)) _
    (λ i x q k. search rules) 4 c.from_fn.ensures.items in
    rw (c.store.ensures, stored_room a.later a.earlier.bytes long, marks) refl
