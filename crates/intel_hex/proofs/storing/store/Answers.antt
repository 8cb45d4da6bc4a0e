use mathlib.Core.Path.{◌≡◌, ap, sym, ◌∙◌}
use mathlib.Core.List.{List, ◌∷◌}
use Prim.Native.Nat.{ℕ, ◌+◌}
use native.Mathlib.Omega.{arith}
use lib.ListN.{drop}
use lib.Seq.{drop-drop}
use Rattle.codes.specs.Part.{m95512}
use Rattle.intel_hex.specs.Writing.{HexRecord}
use Rattle.intel_hex.specs.Reading.{record_at, line_length, says_record, Parted, parted_first, parted, laid_record, laid_records}
use Rattle.intel_hex.proofs.Parting.{tail_part, parted_more, more_left, line_inside, none_left_at}
use Rattle.intel_hex.proofs.Lays.{laid_more}
use Rattle.intel_hex.proofs.storing.store.Goals as goal

pub store_record-at-requires : goal.store_record-at-requires
store_record-at-requires c =
    let l = c.loop-at in
    let a = c.args in
    let pre = c.requires in
    let good = more_left m95512 a.text.now l.at a.end pre.1 pre.2 l.invariant.2 (omega arith) in
    (l.invariant.1, ap (says_record m95512) (tail_part a.text.now l.at) ∙ good)

pub overflow_add-at : goal.overflow_add-at
overflow_add-at c =
    let l = c.loop-at in
    let a = c.args in
    let pre = c.requires in
    let n : c.store_record-at.result ≡ line_length (drop l.at a.text.now) = c.store_record-at.ensures.value ∙ ap line_length
    (tail_part a.text.now l.at) in
    omega (arith, n, line_inside m95512 a.text.now l.at a.end pre.1 pre.2 l.invariant.2 (omega arith))

pub loop-at-preserved : goal.loop-at-preserved
loop-at-preserved c =
    let l = c.loop-at in
    let a = c.args in
    let pre = c.requires in
    let x = c.store_record-at in
    let t = a.text.now in
    let u = drop l.at t in
    let k = l.at + x.result in
    let part = tail_part t l.at in
    let n : x.result ≡ line_length u = x.ensures.value ∙ ap line_length part in
    let good = more_left m95512 t l.at a.end pre.1 pre.2 l.invariant.2 (omega arith) in
    let on : drop (line_length u) u ≡ drop k t = ap (λ (j : ℕ). drop j u) (sym n) ∙ drop-drop x.result l.at t in
    let more : parted m95512 u ≡ parted_first (record_at u) (parted m95512 (drop k t)) = parted_more m95512 u good ∙ ap
    (λ (y : List ℕ). parted_first (record_at u) (parted m95512 y)) on in
    let laid : x.new.memory ≡ laid_record (record_at u) l.memory = x.ensures.memory_after ∙ ap (λ (y : List ℕ). laid_record (record_at y) l.memory) part in
    let records : (parted m95512 u).records ≡ record_at u ∷ (parted m95512 (drop k t)).records = ap (λ (s : Parted). s.records) more in (
      omega (arith, n, line_inside m95512 t l.at a.end pre.1 pre.2 l.invariant.2 (omega arith)),
      omega arith,
      ap (λ (s : Parted). s.rest) (sym more) ∙ l.invariant.2,
      ap (laid_records (parted m95512 (drop k t)).records) laid ∙ laid_more (record_at u) (parted m95512 (drop k t)).records l.memory
          ∙ ap (λ (rs : List HexRecord). laid_records rs l.memory) (sym records) ∙ l.invariant.3,
    )

pub returns : goal.returns
unfolding laid_records
returns c =
    let l = c.loop-at in
    let a = c.args in
    let pre = c.requires in
    let none = none_left_at m95512 a.text.now l.at a.end pre.1 pre.2 l.invariant.2 (omega arith) in
    ap (λ (rs : List HexRecord). laid_records rs l.memory) (sym none) ∙ l.invariant.3
