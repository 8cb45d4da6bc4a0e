-- What is handed back of the answer inside.
use mathlib.Core.Path.{ap, ◌∙◌}
use Rattle.std.proofs.Common.{Result}
use Rattle.chip.specs.declared.Core.{Core}
use Rattle.intel_hex.specs.declared.HexError.{HexError}
use Rattle.intel_hex.specs.Numbers.{hex_number}
use Rattle.intel_hex.proofs.Refusing.{handed, handed_is, handed_number}
use Rattle.intel_hex.proofs.public.import.Goals as goal

pub returns-in-Ok : goal.returns-in-Ok
returns-in-Ok c =
    let e = c.in-Ok.ensures.value in
    let core = c.args.core in
    record {
      value = ap (handed core) e ∙ handed_is _ _ _ core _;
      as_number = ap (λ (r : Result Core HexError). hex_number (handed core r).answer) e ∙ handed_number _ _ _ core _;
      memory_after = c.in-Ok.ensures.memory_after;
    }

pub returns-in-Err : goal.returns-in-Err
returns-in-Err c =
    let e = c.in-Err.ensures.value in
    let core = c.args.core in
    record {
      value = ap (handed core) e ∙ handed_is _ _ _ core _;
      as_number = ap (λ (r : Result Core HexError). hex_number (handed core r).answer) e ∙ handed_number _ _ _ core _;
      memory_after = c.in-Err.ensures.memory_after;
    }
