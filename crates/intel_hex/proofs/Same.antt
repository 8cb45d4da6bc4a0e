-- `==` and `starts_with` at bytes are the test of the text's end.
use Rattle.std.proofs.Common.{◌≡◌, ℕ, Bool, List, length, get_or, sym, ap, eqb, eq-eqb, ext_get_or, Decides, arith}
use Rattle.std.specs.Str.{bytes_eq}
use Rattle.std.proofs.lemmas.Slice.Eq.{bytes_eq-Decides}
use Rattle.std.proofs.lemmas.Bool.Decides.{same_from_decides}
use borrow.Author.Tests.{eqb-true}
use Rattle.laws.specs.Pick.{and_left, and_right, and_both}
use Rattle.laws.specs.Each.{each, each_at, each_of}
use Rattle.intel_hex.specs.Reading.{same_bytes}

same_decides : (x y : List ℕ) → Decides (same_bytes x y) (x ≡ y)
same_decides x y =
    let f : ℕ → Bool = λ i. eqb (get_or x i 0) (get_or y i 0) in (
      λ e. let long : length x ≡ length y = eqb-true _ _ (and_left (eqb (length x) (length y)) (each f (length y)) e) in
          ext_get_or 0 x y long (λ i b. eqb-true _ _ (each_at f (length y) i (and_right (eqb (length x) (length y)) (each f (length y)) e) (omega arith))),
      λ e. and_both (eqb (length x) (length y)) (each f (length y)) (eq-eqb _ _ (ap length e))
          (each_of f (length y) (λ i b. eq-eqb _ _ (ap (λ (l : List ℕ). get_or l i 0) e))),
    )

pub same_eq : (x y : List ℕ) → bytes_eq x y ≡ same_bytes x y
same_eq x y = same_from_decides (bytes_eq x y) (same_bytes x y) (bytes_eq-Decides x y) (same_decides x y)

pub same_front : (x y : List ℕ) → bytes_eq y x ≡ same_bytes x y
same_front x y =
    let d = bytes_eq-Decides y x in
    same_from_decides (bytes_eq y x) (same_bytes x y) (λ e. sym (d.0 e), λ e. d.1 (sym e)) (same_decides x y)
