use mathlib.Core.Path.{◌≡◌, ap, sym, ◌∙◌}
use mathlib.Core.Bool.{true, false}
use Prim.Native.Nat.{ℕ, suc, ◌+◌, ◌-◌}
use native.Mathlib.Nat.{add-zero}
use native.Mathlib.Omega.{arith}
use mathlib.Core.List.{List}
use lib.ListN.{length, take, drop, length-drop}
use lib.Seq.{drop-drop}
use Rattle.codes.specs.Part.{m95512}
use Rattle.intel_hex.specs.Reading.{says_record, line_length, record_at, Parted, parted_first, parted}
use Rattle.intel_hex.proofs.Parting.{parted_more, parted_done, tail_part}
use Rattle.intel_hex.proofs.reading.Digits.check.Goals as goal

long : (t : List ℕ) (k : ℕ) → length (take (length t - k) (drop k t)) ≡ length t - k
long t k = ap length (tail_part t k) ∙ length-drop k t

pub loop-lines-preserved : goal.loop-lines-preserved
loop-lines-preserved c =
    let l = c.loop-lines in
    let t = c.args.text.now in
    let n = c.line_length-at.result in
    let u = drop l.at t in
    let k = l.at + n in
    let rest = tail_part t l.at in
    let good : says_record m95512 u ≡ true =
    ap (says_record m95512) (sym rest) ∙ sym c.says_record.ensures ∙ c.loop-lines-test.true in
    let told : n ≡ line_length u = c.line_length-at.ensures.0 ∙ ap line_length rest in
    let on : drop (line_length u) u ≡ drop k t = ap (λ (j : ℕ). drop j u) (sym told) ∙ drop-drop n l.at t in
    let more : parted m95512 u ≡ parted_first (record_at u) (parted m95512 (drop k t)) =
    parted_more m95512 u good ∙ ap (λ (y : List ℕ). parted_first (record_at u) (parted m95512 y)) on in
    let records : length (parted m95512 u).records ≡ suc (length (parted m95512 (drop k t)).records) = ap (λ (s : Parted). length s.records) more in (
      omega (arith, c.line_length-at.ensures.1, long t l.at, l.invariant.0),
      omega (arith, told, l.invariant.1),
      ap (λ (s : Parted). s.rest) (sym more) ∙ l.invariant.2,
      omega (arith, records, l.invariant.3),
    )

pub returns-clause-at_in_bounds : goal.returns-clause-at_in_bounds
returns-clause-at_in_bounds c =
    let l = c.loop-lines in
    let t = c.args.text.now in
    let bad : says_record m95512 (drop l.at t) ≡ false =
    ap (says_record m95512) (sym (tail_part t l.at)) ∙ sym c.says_record.ensures ∙ c.loop-lines-test.false in
    let none = parted_done m95512 (drop l.at t) bad in
    (l.invariant.0, ap (λ (s : Parted). s.rest) (sym none) ∙ l.invariant.2)

pub returns-clause-lines_value : goal.returns-clause-lines_value
returns-clause-lines_value c =
    let l = c.loop-lines in
    let t = c.args.text.now in
    let bad : says_record m95512 (drop l.at t) ≡ false =
    ap (says_record m95512) (sym (tail_part t l.at)) ∙ sym c.says_record.ensures ∙ c.loop-lines-test.false in
    let none = parted_done m95512 (drop l.at t) bad in
    sym (add-zero l.lines) ∙ ap (λ (s : Parted). l.lines + length s.records) (sym none) ∙ l.invariant.3
