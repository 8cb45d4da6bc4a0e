use mathlib.Core.Path.{◌≡◌, ap, sym, ◌∙◌}
use mathlib.Core.List.{List, ◌++◌}
use Prim.Native.Nat.{ℕ, suc, ◌+◌, ◌≤◌}
use native.Mathlib.Numerals.{add-one}
use native.Mathlib.Omega.{arith}
use lib.ListN.{length, take, get_or, length-append}
use Rattle.printing.specs.Printing.{good_line, printed}
use Rattle.printing.specs.Put.{put}
use Rattle.printing.proofs.Puts.{put_nil, put_put, printed_more}
use Rattle.printing.proofs.output.put_lines.Goals as goal

pub loop-i-init : goal.loop-i-init
unfolding printed
loop-i-init c = record { room = omega arith; lines = sym (put_nil _ _); last = omega arith }

pub loop-i-preserved : goal.loop-i-preserved
loop-i-preserved c =
    let l = c.loop-i in
    let a = c.args in
    let x = c.put_line-end in
    let qs = a.qs.now in
    let so_far = printed a.n (take l.i qs) in
    let line = good_line (a.n + l.i) (get_or qs l.i 0) in
    let more : printed a.n (take (suc l.i) qs) ≡ so_far ++ line = printed_more a.n qs l.i (omega arith) in
    let e = rw c.from.ensures at x.ensures in
    let room : a.at + length so_far + length line ≤ length a.out.now = omega (arith, e.value.0, l.invariant.last) in
    record {
      room = omega arith;
      lines = rw (add-one, more)
          (e.out_after ∙ ap (λ (d : List ℕ). put d l.end line) l.invariant.lines
          ∙ ap (λ (k : ℕ). put (put a.out.now a.at so_far) k line) l.invariant.last ∙ put_put a.out.now a.at so_far line room);
      last = rw (add-one, more, length-append) (omega (arith, e.value.0, l.invariant.last));
    }
