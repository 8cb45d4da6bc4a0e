-- The count of undriven bits is right: bit k of a frame is driven exactly if it is not among the leading ones that are counted.
use mathlib.Core.Path.{◌≡◌, ap, sym, ◌∙◌}
use mathlib.Core.Bool.{Bool, true, false, not, ◌&&◌, and-true, and-false}
use Prim.Native.Nat.{ℕ, ◌+◌, ◌*◌, ◌/◌, ◌<◌, min}
use native.Mathlib.Decide.{dec_lt}
use native.Mathlib.Omega.{arith}
use lib.Dec.{leb, ltb}
use borrow.Author.Tests.{lt-ltb, le-ltb, le-leb, lt-leb}
use Rattle.laws.specs.Pick.{pick}
use Rattle.codes.specs.Part.{Part}
use Rattle.codes.specs.Output.{outputs}
use Rattle.codes.specs.declared.Instruction.{Instruction}
use Rattle.codes.specs.declared.Instruction.TheVariants.{Wren, Wrdi, Rdsr, Wrsr, Read, Write, Rdid, Wrid, Silence}
use Rattle.shown.specs.Shown.{undriven}

module _ (k n : ℕ) (h : k < n) where
  -- Q is driven from byte b on
  from_byte : (b : ℕ) → leb b (k / 8) ≡ not (ltb k (min (8 * b) n))
  from_byte b = elim (dec_lt k (8 * b)) [
    | yes p ↦ lt-leb b (k / 8) (omega arith) ∙ sym (ap not (lt-ltb k (min (8 * b) n) (omega arith)))
    | no p ↦ le-leb b (k / 8) (omega arith) ∙ sym (ap not (le-ltb k (min (8 * b) n) (omega arith)))
  ]

  -- it never is
  never : false ≡ not (ltb k n)
  never = sym (ap not (lt-ltb k n h))

  -- it is after the address, where no cycle ran
  after_address : (P : Part) (ran : Bool)
      → (leb (P.address_bytes + 1) (k / 8) && not ran) ≡ not (ltb k (pick ran n (min (8 * (P.address_bytes + 1)) n)))
  unfolding pick
  after_address P true = and-false (leb (P.address_bytes + 1) (k / 8)) ∙ never
  after_address P false = and-true (leb (P.address_bytes + 1) (k / 8)) ∙ from_byte (P.address_bytes + 1)

  pub undriven_right : (P : Part) (i : Instruction) (ran : Bool) → outputs P i (k / 8) ran ≡ not (ltb k (undriven P i ran n))
  undriven_right P Wren ran = never
  undriven_right P Wrdi ran = never
  undriven_right P Rdsr ran = from_byte 1
  undriven_right P Wrsr ran = never
  undriven_right P Read ran = after_address P ran
  undriven_right P Write ran = never
  undriven_right P Rdid ran = after_address P ran
  undriven_right P Wrid ran = never
  undriven_right P Silence ran = never
