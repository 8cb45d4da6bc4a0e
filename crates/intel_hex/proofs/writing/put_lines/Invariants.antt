-- The invariant: the lines of the records so far are written, and the cells from there on are left.
use mathlib.Core.Path.{◌≡◌}
use Prim.Native.Nat.{◌*◌, ◌≤◌}
use lib.ListN.{drop}
use Rattle.laws.specs.Table.{table}
use Rattle.printing.specs.Put.{put}
use Rattle.std.specs.Slice.Iter.{chunks_exact_rest, chunks_exact_size}
use Rattle.intel_hex.specs.Writing.{records_text, record_of}
use Rattle.intel_hex.proofs.writing.put_lines.Given as goal

abbrev pub invariant-loop-k : goal.invariant-loop-k
invariant-loop-k l = record {
  size : chunks_exact_size l.k-iterator.iter ≡ 16;
  below : 16 * l.k-iterator.count ≤ 65536;
  rest : chunks_exact_rest l.k-iterator.iter ≡ drop (16 * l.k-iterator.count) l.memory;
  lines : l.out ≡ put l.initial.out 0 (records_text (table l.k-iterator.count (record_of l.memory)));
}
