use mathlib.Core.Path.{◌≡◌, refl, ap, sym, ◌∙◌}
use mathlib.Core.List.{List, ◌++◌}
use Prim.Native.Nat.{ℕ, ◌+◌, ◌*◌, ◌≤◌}
use native.Mathlib.Omega.{arith}
use lib.ListN.{length, take, drop, length-append, length-drop}
use lib.Seq.{take_at, drop_at, drop-drop}
use Rattle.std.specs.Slice.Iter.{chunks_exact_rest}
use Rattle.laws.specs.Table.{table}
use Rattle.printing.specs.Put.{put}
use Rattle.intel_hex.specs.Writing.{HexRecord, record_line, records_text, record_of}
use Rattle.printing.proofs.Puts.{put_nil}
use Rattle.intel_hex.proofs.Writes.{put_then, record_line_length, records_text_none, records_text_more, sixteen, lines_length}
use Rattle.intel_hex.proofs.writing.put_lines.Goals as goal

pub loop-k-init : goal.loop-k-init
loop-k-init c =
    let m = c.args.memory.now in
    let d = c.args.out.now in
    let a = c.chunks_exact.ensures in
    let b = c.enumerate-k-items.ensures in
    let same = c.into_iter-k-iterator.ensures.into_iter_gives in
    record {
      size = rw (same, b.source) a.size;
      below = rw (same, b.count) (omega arith);
      rest = rw (same, b.source, b.count) a.rest;
      lines = rw (same, b.count) (sym (ap (put d 0) (records_text_none (record_of m)) ∙ put_nil d 0));
    }

pub loop-k-preserved : goal.loop-k-preserved
loop-k-preserved c =
    let m = c.args.memory.now in
    let d = c.args.out.now in
    let l = c.loop-k in
    let i = l.invariant in
    let n = l.k-iterator.count in
    let e = c.in-Some.ensures.steps in
    let cells = c.in-Some.cells.now in
    let left : List ℕ = chunks_exact_rest c.next.new.self.iter in
    let long : length cells ≡ 16 = e.0.1.1 ∙ i.size in
    let whole : drop (16 * n) m ≡ cells ++ left = sym i.rest ∙ e.0.1.0 in
    let these : cells ≡ take 16 (drop (16 * n) m) = sym (ap (take 16) whole ∙ take_at cells left 16 long) in
    let on : 16 * n + 16 ≡ 16 * (n + 1) = omega arith in
    let those : left ≡ drop (16 * (n + 1)) m = sym (ap (drop 16) whole ∙ drop_at cells left 16 long) ∙ drop-drop 16 (16 * n) m ∙ ap (λ (j : ℕ). drop j m) on in
    let room : 16 * n + 16 ≤ 65536 = omega (arith, ap length whole, length-append cells left, length-drop (16 * n) m, long) in
    let f = record_of m in
    let same : record { address = 16 * c.in-Some.k; bytes = cells } ≡ f n = rw (e.1, these) refl in
    let so_far = records_text (table n f) in
    let line = record_line (f n) in
    let here : c.put_line.new.out ≡ put l.out (44 * n) line = c.put_line.ensures ∙ ap (λ (r : HexRecord). put l.out (44 * c.in-Some.k) (record_line r)) same ∙ ap (λ (k : ℕ). put l.out (44 * k) line) e.1 in
    let k = lines_length m n (omega arith) in
    let r = record_line_length (f n) in
    let s = sixteen m n (omega arith) in
    record {
      size = e.0.0 ∙ i.size;
      below = rw e.2 (omega arith);
      rest = rw e.2 those;
      lines = rw e.2 (here ∙ put_then d l.out 0 (44 * n) so_far line i.lines (omega (arith, k)) (omega (arith, k, r, s)) ∙ ap (put d 0) (sym (records_text_more f n)));
    }

pub returns : goal.returns
returns c =
    let m = c.args.memory.now in
    let l = c.loop-k in
    let i = l.invariant in
    let e = c.in-None.ensures.steps in
    let last : l.k-iterator.count ≡ 4096 = omega (arith, e.0.1.0, i.size, ap length i.rest, length-drop (16 * l.k-iterator.count) m) in
    i.lines ∙ ap (λ (n : ℕ). put c.args.out.now 0 (records_text (table n (record_of m)))) last
