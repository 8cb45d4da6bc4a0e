use Prim.Native.Nat.{ℕ, ◌%◌, ◌<◌}
use mathlib.Core.Path.{◌≡◌, ap, sym, ◌∙◌}
use mathlib.Core.List.{List, []}
use native.Mathlib.Omega.{arith}
use Rattle.std.proofs.Common.{rules}
use lib.ListN.{length, drop, length-drop, drop_of_length-le}
use Rattle.codes.specs.Part.{part_of}
use Rattle.latch.specs.Latches.{no_latch}
use Rattle.fields.specs.Bytes.{address, payload, latched_from}
use Rattle.fields.proofs.fields.latch_of.Goals as goal

pub returns-in_default : goal.returns-in_default
unfolding latched_from
returns-in_default c =
    let a = c.args in
    let P = part_of a.part in
    let s = a.bytes.now in
    let head = c.head_of.ensures.value in
    let short : length s < c.from.result = search rules in
    let none : payload P s ≡ [] = drop_of_length-le (drop 1 s) {i = P.address_bytes} (simp length-drop (omega (arith, head))) in
    c.none.ensures ∙ sym (ap (λ (vs : List ℕ). latched_from P (address P s % P.page) vs no_latch) none)
