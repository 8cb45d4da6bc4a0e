use mathlib.Core.Path.{◌≡◌, ap, ◌∙◌}
use native.Mathlib.Omega.{arith}
use mathlib.Core.List.{List}
use Prim.Native.Nat.{ℕ, ◌+◌, ◌≤◌}
use lib.ListN.{length}
use Rattle.lines.specs.Reading.{ended}
use Rattle.printing.specs.Put.{put}
use Rattle.lines.proofs.Hand.{ended_fits}
use Rattle.trace.specs.Chunks.{headed, bad_line_between}
use Rattle.trace.proofs.Choosing.{player_out, two_puts}
use Rattle.trace.proofs.chunks.take_end.Goals as goal

pub put_bad_between-end-requires : goal.put_bad_between-end-requires
put_bad_between-end-requires c =
    let fits = player_out c.args.player
    c.requires.0 in (
      omega (arith, c.put_head-at.ensures.value.1, c.requires.1),
      rw
          c.ended-hand.ensures
          (ended_fits c.args.player.line fits.1.0),
    )

pub returns-clause-out_after : goal.returns-clause-out_after
returns-clause-out_after c =
    let a = c.args in
    let pre = c.requires in
    let head = c.put_head-at in
    let bad = c.put_bad_between-end in
    let h = headed a.player in
    let f = bad_line_between a.player.line (ended a.player.line) in
    let bad-is : bad_line_between a.player.line c.ended-hand.result ≡ f = ap
    (bad_line_between a.player.line) c.ended-hand.ensures in
    let end : bad.result ≡ head.result + length f = bad.ensures.value.0 ∙ ap (λ (l : List ℕ). head.result + length l) bad-is in
    let last : bad.result ≤ head.result + 12 = bad.ensures.value.1 in
    let head-is : head.result ≡ length h = head.ensures.value.0 in
    let small : head.result ≤ 7 = head.ensures.value.1 in
    let fits : length h + length f ≤ length a.out.now = omega (arith, end, last, head-is, small, pre.1) in
    bad.ensures.out_after ∙ ap (λ (l : List ℕ). put head.new.out head.result l) bad-is ∙ ap (λ (l : List ℕ). put l head.result f) head.ensures.out_after
    ∙ two_puts a.out.now h head.result head-is f fits
