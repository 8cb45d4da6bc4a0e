-- The lines and the closing one take up all of the output.
use mathlib.Core.List.{◌++◌}
use lib.ListN.{length, length-append}
use Rattle.laws.specs.Table.{table}
use Rattle.printing.specs.Put.{put}
use Rattle.printing.proofs.Rooms.{put_room}
use Rattle.intel_hex.specs.Writing.{records_text, record_of}
use Rattle.intel_hex.proofs.Writes.{put_then, put_all, lines_length}
use mathlib.Core.Path.{◌≡◌, ◌∙◌}
use native.Mathlib.Omega.{arith}
use Rattle.intel_hex.specs.Writing.{end_line, image_text}
use Rattle.intel_hex.proofs.writing.put_image.Goals as goal

pub returns : goal.returns
unfolding image_text end_line
returns c =
    let m = c.args.memory.now in
    let d = c.args.out.now in
    let lines = c.put_lines in
    let last = c.put_bytes in
    let text = records_text (table 4096 (record_of m)) in
    let pre = c.requires in
    let n : length text ≡ 180224 = lines_length m 4096 (omega arith) in
    let written : last.new.out ≡ put lines.new.out 180224 end_line = last.ensures.out_after ∙ put_room 12 lines.new.out 180224 end_line (omega arith) in
    let whole : length (text ++ end_line) ≡ length d = rw length-append (omega (arith, n, pre.1)) in
    written ∙ put_then d lines.new.out 0 180224 text end_line lines.ensures (omega (arith, n)) (omega (arith, n, pre.1)) ∙ put_all d
    (text ++ end_line) whole
