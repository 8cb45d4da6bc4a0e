use mathlib.Core.Path.{refl, sym}
use native.Mathlib.Omega.{arith}
use Rattle.laws.specs.Each.{each_none, each_more}
use Rattle.intel_hex.proofs.Sums.{total_none, total_table}
use Rattle.intel_hex.proofs.reading.Digits.sums_up.Goals as goal

pub loop-i-init : goal.loop-i-init
loop-i-init c = record { each_byte = sym (each_none _); total_of = sym (total_none _); most = omega arith }

pub loop-i-preserved : goal.loop-i-preserved
loop-i-preserved c =
    let l = c.loop-i in
    let b = c.line_byte-value in
    record {
      each_byte = rw (each_more _ _, b.ensures.0, l.invariant.each_byte) refl;
      total_of = rw (total_table _ _, b.ensures.0, l.invariant.total_of) refl;
      most = omega arith;
    }
