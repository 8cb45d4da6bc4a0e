use mathlib.Core.Bool.{true}
use mathlib.Core.Path.{◌≡◌, refl, ap, ap₂, sym, ◌∙◌}
use Rattle.chip.specs.declared.Core.{Core}
use Prim.Native.Nat.{ℕ, ◌+◌, ◌*◌, ◌%◌, ◌^◌, ◌<◌, ◌≤◌}
use native.Mathlib.Omega.{arith}
use lib.Dec.{leb, ltb}
use lib.ListN.{length}
use borrow.Author.Tests.{leb-true, ltb-true}
use Rattle.laws.specs.Pick.{at_yes, at_no, and_left, and_right}
use Rattle.codes.proofs.Parts.{page_most, size_most}
use Rattle.codes.proofs.Sound.{sound_of}
use Rattle.codes.specs.Verdicts.{is_executed}
use Rattle.chip.specs.Records.{own_part, page_waits, with_cycle}
use Rattle.frames.specs.Sent.{in_page}
use Rattle.frames.proofs.Sending.{on_write, write_part, write_none}
use Rattle.frames.proofs.sent.write.Goals as goal

-- past the first test: the bytes stay in the page, and the numbers are small
small : (core : Core) (address n : ℕ) → in_page (own_part core) address n ≡ true → (address < 2 ^ 17) × (n ≤ 256)
small core address n inside =
    let P = own_part core in
    let below = ltb address P.size in
    let few = leb (address % P.page + n) P.page in
    let size = size_most core.part in
    let page = page_most core.part in
    let lies : address < P.size = ltb-true _ _ (and_left below few inside) in
    let fits : address % P.page + n ≤ P.page = leb-true _ _ (and_right below few inside) in
    (omega arith, omega arith)

pub returns-then-not-in_page : goal.returns-then-not-in_page
returns-then-not-in_page c =
    let a = c.args in
    let fits = c.in_page in
    let none = sym fits.ensures ∙ c.if-not-in_page.true in
    sym (write_none (own_part a.core) a.core a.address a.bytes.now none)

pub overflow_cast-address : goal.overflow_cast-address
overflow_cast-address c = omega (arith, (small c.args.core c.args.address _ (sym c.in_page.ensures ∙ c.if-not-in_page.false)).0)

pub overflow_mul-from : goal.overflow_mul-from
overflow_mul-from c = omega (arith, (small c.args.core c.args.address _ (sym c.in_page.ensures ∙ c.if-not-in_page.false)).1, c.from.ensures, c.head_of.ensures.lower_bound)

pub overflow_cast-address-2 : goal.overflow_cast-address-2
overflow_cast-address-2 c = omega (arith, (small c.args.core c.args.address _ (sym c.in_page.ensures ∙ c.if-not-in_page.false)).0)

pub overflow_cast-page : goal.overflow_cast-page
overflow_cast-page c = omega (arith, (small c.args.core c.args.address _ (sym c.in_page.ensures ∙ c.if-not-in_page.false)).0, c.page_number-page.ensures.upper_bound)

pub returns-then-is_executed : goal.returns-then-is_executed
returns-then-is_executed c =
    let a = c.args in
    let P = own_part a.core in
    let found : c.judge-verdict.result ≡ on_write P a.core a.address (8 * (P.address_bytes + 1 + length a.bytes.now)) =
    rw (c.judge-verdict.ensures, c.from.ensures, c.head_of.ensures.value, c.running.ensures, c.protects.ensures) refl in
    let yes = sym (ap is_executed found) ∙ sym c.is_executed.ensures ∙ c.if-is_executed.true in
    c.begin_page.ensures
    ∙ ap₂ (λ p l. with_cycle (page_waits p l) a.core) c.page_number-page.ensures.value c.latch_part.ensures
    ∙ sym (write_part P a.core (sound_of a.core.part) a.address a.bytes.now (sym c.in_page.ensures ∙ c.if-not-in_page.false) ∙ at_yes _ _ yes)

pub returns : goal.returns
returns c =
    let a = c.args in
    let P = own_part a.core in
    let found : c.judge-verdict.result ≡ on_write P a.core a.address (8 * (P.address_bytes + 1 + length a.bytes.now)) =
    rw (c.judge-verdict.ensures, c.from.ensures, c.head_of.ensures.value, c.running.ensures, c.protects.ensures) refl in
    let no = sym (ap is_executed found) ∙ sym c.is_executed.ensures ∙ c.if-is_executed.false in
    sym (write_part P a.core (sound_of a.core.part) a.address a.bytes.now (sym c.in_page.ensures ∙ c.if-not-in_page.false) ∙ at_no _ _ no)
