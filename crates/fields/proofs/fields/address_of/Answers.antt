-- The two rows of the M95512 have two address bytes, the M95M01 three.
use mathlib.Core.Path.{◌≡◌, sym, ap₂, ◌∙◌}
use Prim.Native.Nat.{ℕ, ◌+◌, ◌*◌, ◌<◌}
use native.Mathlib.Nat.{mod-lt, lt_of_lt_of_le}
use native.Mathlib.Omega.{arith}
use lib.ListN.{get_or}
use Rattle.codes.specs.Part.{part_of}
use Rattle.codes.proofs.Parts.{size_most}
use Rattle.codes.proofs.Sound.{sound_of}
use Rattle.codes.proofs.Masks.{size_mask}
use Rattle.fields.proofs.Addresses.{first_two, address_two, address_three}
use Rattle.fields.proofs.fields.address_of.Goals as goal

pub returns-then-address_bytes_of-eq-ADDRESS_BYTES : goal.returns-then-address_bytes_of-eq-ADDRESS_BYTES
returns-then-address_bytes_of-eq-ADDRESS_BYTES c =
    let a = c.args in
    let s = a.bytes.now in
    let one : get_or s 1 0 < 256 = omega (arith, c.byte_at.ensures) in
    let two : get_or s 2 0 < 256 = omega (arith, c.byte_at-2.ensures) in
    let e : c.joined-two.result ≡ first_two a.part s one two =
    c.joined-two.ensures
    ∙ ap₂ (λ (h l : ℕ). h * 256 + l) c.byte_at.ensures c.byte_at-2.ensures in
    let both = address_two a.part s one two (sym c.address_bytes_of.ensures.value ∙ c.if-address_bytes_of-eq-ADDRESS_BYTES.true) in
    rw e record { value = both.0; upper_bound = (both.1, lt_of_lt_of_le both.1 (size_most a.part)) }

pub returns : goal.returns
returns c =
    let a = c.args in
    let s = a.bytes.now in
    let P = part_of a.part in
    let one : get_or s 1 0 < 256 = omega (arith, c.byte_at.ensures) in
    let two : get_or s 2 0 < 256 = omega (arith, c.byte_at-2.ensures) in
    let e : c.joined-two.result ≡ first_two a.part s one two =
    c.joined-two.ensures
    ∙ ap₂ (λ (h l : ℕ). h * 256 + l) c.byte_at.ensures
    c.byte_at-2.ensures in
    let more : P.address_bytes ≡ 2 → ⊥ = λ q. c.if-address_bytes_of-eq-ADDRESS_BYTES.false (c.address_bytes_of.ensures.value ∙ q) in
    rw (c.size_of.ensures.value, size_mask (sound_of a.part) _, e, c.from.ensures, c.byte_at-3.ensures) record { value = address_three a.part s one two more; upper_bound = (mod-lt _ (sound_of a.part).size_some, lt_of_lt_of_le (mod-lt _ (sound_of a.part).size_some) (size_most a.part)) }
