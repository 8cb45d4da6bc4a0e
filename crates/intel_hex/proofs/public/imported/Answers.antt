-- What the tests before it answer, and the text's; then the memory has the text's cells, which are counted.
use mathlib.Core.Path.{◌≡◌, ap, ◌∙◌}
use mathlib.Core.List.{List}
use Prim.Native.Nat.{ℕ}
use native.Mathlib.Omega.{arith}
use lib.ListN.{length}
use borrow.Author.Tests.{eqb-true, eq-eqb}
use Rattle.std.proofs.Common.{Ok, Err, rules}
use Rattle.std.proofs.lemmas.Result.{err_from_is_err_and}
use Rattle.laws.specs.Pick.{yes_so, no_so, at_yes, at_no, and_both, and_no_right}
use Rattle.codes.specs.Part.{m95512}
use Rattle.blanks.specs.Blanks.{blanks}
use Rattle.chip.specs.declared.Core.{Core}
use Rattle.chip.specs.Records.{with_blank}
use Rattle.intel_hex.specs.declared.HexError.{HexError}
use Rattle.intel_hex.specs.Answers.{imaged}
use Rattle.intel_hex.proofs.Refusing.{image_ok, text_refused, text_ok, text_err}
use Rattle.intel_hex.proofs.public.imported.Goals as goal

pub returns-in_err-check_image : goal.returns-in_err-check_image
returns-in_err-check_image c =
    let p = err_from_is_err_and c.from_residual.result c.from_residual.ensures.1 in
    let e = c.in_err-check_image.ensures in
    let m = c.args.memory.now in
    rw (p.1, p.2) record { value = text_refused (λ (x : HexError). Err x) _ _ _ _ _ _ e; memory_after = text_refused (λ (x : HexError). m) _ _ _ _ _ _ e }

pub take_text-requires : goal.take_text-requires
take_text-requires c =
    let t = image_ok _ _ _ _ c.in_ok-check_image.ensures in
    omega (arith, eqb-true _ _ t.0, eqb-true _ _ t.2)

pub returns-in_err-take_text : goal.returns-in_err-take_text
returns-in_err-take_text c =
    let p = err_from_is_err_and c.from_residual-in_err-take_text.result c.from_residual-in_err-take_text.ensures.1 in
    let t = image_ok _ _ _ _ c.in_ok-check_image.ensures in
    let e = c.in_err-take_text.ensures in
    let q = text_err _ _ e.value in
    let no = and_no_right (imaged m95512 c.args.core) _ (rw c.running.ensures at q.0) in
    rw (p.1, p.2) record {
      value = yes_so _ t.0 (yes_so _ t.1 (no_so _ no (ap (λ (x : HexError). Err x) q.1)));
      memory_after = yes_so _ t.0 (yes_so _ t.1 (no_so _ no (e.memory_after ∙ at_no _ _ q.0)));
    }

pub returns : goal.returns
returns c =
    let t = image_ok _ _ _ _ c.in_ok-check_image.ensures in
    let e = c.in_ok-take_text.ensures in
    let q = text_ok _ _ e.value in
    let yes = and_both (imaged m95512 c.args.core) _ t.2 (rw c.running.ensures at q) in
    let cells = e.memory_after ∙ at_yes _ _ q in
    let same : length c.take_text.new.memory ≡ length c.args.memory.now = search rules in
    let next = c.counted.ensures ∙ at_yes _ _ (eq-eqb _ _ (same ∙ eqb-true _ _ t.0)) ∙ ap (λ (s : List ℕ). with_blank (blanks s) c.args.core) cells in
    record {
      value = yes_so _ t.0 (yes_so _ t.1 (yes_so _ yes (ap (λ (x : Core). Ok x) next)));
      memory_after = yes_so _ t.0 (yes_so _ t.1 (yes_so _ yes cells));
    }
