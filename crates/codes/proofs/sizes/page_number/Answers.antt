use Prim.Native.Nat.{◌/◌}
use mathlib.Core.Path.{◌≡◌, refl}
use Rattle.codes.specs.Part.{Part}
use Rattle.codes.proofs.Parts.{of_megabit, of_others}
use Rattle.codes.proofs.sizes.page_number.Goals as goal

pub returns-then-part-eq-M95M01-clause-value : goal.returns-then-part-eq-M95M01-clause-value
returns-then-part-eq-M95M01-clause-value c =
    let a = c.args.address in
    of_megabit (λ (P : Part). a / 256 ≡ a / P.page) c.if-part-eq-M95M01.true refl

pub returns-clause-value : goal.returns-clause-value
returns-clause-value c =
    let a = c.args.address in
    of_others (λ (P : Part). a / 128 ≡ a / P.page) c.if-part-eq-M95M01.false refl refl
