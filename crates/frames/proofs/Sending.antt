-- What a frame given by its fields leaves, by the verdict on its instruction.
use mathlib.Core.Path.{◌≡◌, refl, ap, sym, ◌∙◌}
use mathlib.Core.Bool.{true, false}
use mathlib.Core.List.{List}
use Prim.Native.Nat.{ℕ, ◌+◌, ◌-◌, ◌*◌, ◌/◌, ◌%◌, ◌<◌, ◌≤◌}
use native.Mathlib.Omega.{arith}
use lib.Dec.{leb, ltb}
use lib.ListN.{length}
use lib.Seq.{take_all}
use borrow.Author.Tests.{leb-true, ltb-true}
use Rattle.laws.specs.Pick.{pick, at_yes, at_no, and_left, and_right}
use Rattle.codes.specs.Part.{Part}
use Rattle.codes.specs.Status.{on}
use Rattle.codes.specs.Instructions.{decode}
use Rattle.codes.specs.Verdicts.{verdict, verdict_by, is_executed}
use Rattle.codes.specs.declared.Instruction.TheVariants.{Wren, Write}
use Rattle.codes.specs.declared.Verdict.{Verdict}
use Rattle.codes.proofs.Sound.{Sound}
use Rattle.latch.specs.Latches.{no_latch}
use Rattle.chip.specs.Questions.{protects}
use Rattle.chip.specs.Records.{running, page_waits, with_wel, with_cycle}
use Rattle.chip.specs.declared.Core.{Core}
use Rattle.fields.specs.Bytes.{latched_from, latched_up}
use Rattle.frames.specs.Sent.{after_all, wren_bytes, write_bytes, in_page, after_write}
use Rattle.frames.proofs.Addresses.{write_length, write_address, write_payload}

module _ (P : Part) (c : Core) where
  -- on WREN, of 8 bits
  abbrev pub on_wren : Verdict
  on_wren = verdict P Wren 0 0 8 (running c) (on c.wel) false false false

  pub wren_left : after_all P c wren_bytes ≡ pick (is_executed on_wren) (with_wel 1 c) c
  unfolding decode verdict_by pick
  wren_left = refl

  -- on a WRITE of n bits to address a
  abbrev pub on_write : ℕ → ℕ → Verdict
  on_write a n = verdict P Write a 0 n (running c) (on c.wel) false (protects P c a) false

  module _ (sound : Sound P) (a : ℕ) (bytes : List ℕ) where
    abbrev bits : ℕ
    bits = 8 * (P.address_bytes + 1 + length bytes)

    write_left : a < P.size
        → after_all P c (write_bytes P a bytes)
        ≡ pick (is_executed (on_write a bits)) (with_cycle (page_waits (a / P.page) (latched_from P (a % P.page) bytes no_latch)) c) c
    unfolding decode verdict_by pick
    write_left low = rw (write_address P sound a bytes low, write_length P a bytes, write_payload P a bytes) refl

    -- with all its bytes in one page
    pub write_part : in_page P a (length bytes) ≡ true
        → after_write P c a bytes ≡ pick (is_executed (on_write a bits)) (with_cycle (page_waits (a / P.page) (latched_up P a bytes)) c) c
    write_part e =
        let below = and_left (ltb a P.size) (leb (a % P.page + length bytes) P.page) e in
        let few = and_right (ltb a P.size) (leb (a % P.page + length bytes) P.page) e in
        let fits : length bytes ≤ P.page - a % P.page = omega (arith, leb-true (a % P.page + length bytes) P.page few) in
        at_yes _ _ e
        ∙ write_left (ltb-true a P.size below)
        ∙ ap (λ (vs : List ℕ). pick (is_executed (on_write a bits)) (with_cycle (page_waits (a / P.page) (latched_from P (a % P.page) vs no_latch)) c) c)
        (sym (take_all (P.page - a % P.page) bytes fits))

  pub write_none : (a : ℕ) (bytes : List ℕ) → in_page P a (length bytes) ≡ false → after_write P c a bytes ≡ c
  write_none a bytes e = at_no _ _ e
