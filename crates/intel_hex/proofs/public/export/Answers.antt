-- What the tests before it answer, then by the side of the choice that the output's length takes.
use mathlib.Core.Path.{refl}
use native.Mathlib.Omega.{arith}
use borrow.Author.Tests.{eqb-true}
use Rattle.std.proofs.Common.{Err}
use Rattle.std.proofs.lemmas.Result.{err_from_is_err_and}
use Rattle.laws.specs.Pick.{yes_so, eq_so, ne_so}
use Rattle.intel_hex.specs.declared.HexError.{HexError}
use Rattle.intel_hex.specs.Numbers.{hex_number}
use Rattle.intel_hex.proofs.Refusing.{image_ok, image_err}
use Rattle.intel_hex.proofs.public.export.Goals as goal

pub returns-in_err-check_image : goal.returns-in_err-check_image
returns-in_err-check_image c =
    let p = err_from_is_err_and c.from_residual.result c.from_residual.ensures.1 in
    let e = c.in_err-check_image.ensures in
    let d = c.args.out.now in
    rw (p.1, p.2) record {
      value = image_err (λ (x : HexError). Err x) _ _ _ _ _ e;
      as_number = image_err (λ (x : HexError). hex_number (Err x)) _ _ _ _ _ e;
      out_after = image_err (λ (x : HexError). d) _ _ _ _ _ e;
    }

pub returns-then-out-ne-TEXT_SIZE : goal.returns-then-out-ne-TEXT_SIZE
returns-then-out-ne-TEXT_SIZE c =
    let t = image_ok _ _ _ _ c.in_ok-check_image.ensures in
    record {
      value = yes_so _ t.0 (yes_so _ t.1 (yes_so _ t.2 (ne_so _ (λ e. omega (arith, e)) refl)));
      as_number = yes_so _ t.0 (yes_so _ t.1 (yes_so _ t.2 (ne_so _ (λ e. omega (arith, e)) refl)));
      out_after = yes_so _ t.0 (yes_so _ t.1 (yes_so _ t.2 (ne_so _ (λ e. omega (arith, e)) refl)));
    }

pub put_image-requires : goal.put_image-requires
put_image-requires c =
    let t = image_ok _ _ _ _ c.in_ok-check_image.ensures in
    (omega (arith, eqb-true _ _ t.0, eqb-true _ _ t.2), omega arith)

pub returns : goal.returns
returns c =
    let t = image_ok _ _ _ _ c.in_ok-check_image.ensures in
    record {
      value = yes_so _ t.0 (yes_so _ t.1 (yes_so _ t.2 (eq_so _ (omega arith) refl)));
      as_number = yes_so _ t.0 (yes_so _ t.1 (yes_so _ t.2 (eq_so _ (omega arith) refl)));
      out_after = yes_so _ t.0 (yes_so _ t.1 (yes_so _ t.2 (eq_so _ (omega arith) c.put_image.ensures)));
    }
