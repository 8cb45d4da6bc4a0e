use mathlib.Core.Path.{◌≡◌, ap, sym, ◌∙◌}
use mathlib.Core.List.{List}
use Prim.Native.Nat.{ℕ}
use native.Mathlib.Omega.{arith}
use lib.ListN.{get_or, set, length-set, length-replicate}
use Rattle.laws.specs.Table.{table, table_length, table_at}
use Rattle.laws.specs.Filled.{filled_none, filled_more, filled_all}
use Rattle.intel_hex.specs.Reading.{digit}
use Rattle.intel_hex.proofs.reading.Digits.new.Goals as goal

pub loop-i-init : goal.loop-i-init
loop-i-init c = record { long_first = length-replicate {A = ℕ} 256 0; long = length-replicate {A = ℕ} 256 0; so_far = filled_none _ _ 0 }

pub loop-i-preserved : goal.loop-i-preserved
loop-i-preserved c =
    let l = c.loop-i in
    let v : c.digit.result ≡ get_or (table 256 digit) l.i 0 = c.digit.ensures.0 ∙ sym (table_at digit 256 l.i 0 (omega arith)) in
    record {
      long_first = l.invariant.long_first;
      long = simp length-set l.invariant.long;
      so_far = ap (λ (x : List ℕ). set x l.i c.digit.result) l.invariant.so_far
          ∙ filled_more _ (table 256 digit) 0 l.i c.digit.result (sym (table_length digit 256)) (omega arith) v;
    }

pub invariant_of-result : goal.invariant_of-result
invariant_of-result c =
    let l = c.loop-i in
    record { all = l.invariant.so_far ∙ filled_all _ (table 256 digit) 0 l.i (sym (table_length digit 256)) (omega arith) }
