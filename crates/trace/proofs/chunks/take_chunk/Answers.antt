use mathlib.Core.Path.{◌≡◌, ap, ◌∙◌}
use native.Mathlib.Omega.{arith}
use mathlib.Core.List.{List}
use Prim.Native.Nat.{ℕ, ◌+◌, ◌*◌, ◌≤◌}
use lib.ListN.{length}
use Rattle.chip.specs.Lents.{lent}
use Rattle.lines.specs.Reading.{read}
use Rattle.printing.specs.Put.{put}
use Rattle.trace.specs.Chunks.{headed, bad_line_between, bench_of, shown_lines}
use Rattle.trace.proofs.Choosing.{player_out, three_puts}
use Rattle.trace.proofs.chunks.take_chunk.Goals as goal

pub pieces-placed-requires : goal.pieces-placed-requires
pieces-placed-requires c =
    let fits = player_out c.args.player c.requires.2 in
    (c.requires.0, c.requires.1, fits.1.1, fits.1.0, omega (arith, c.put_head-at.ensures.value.1, c.requires.3))

pub returns-clause-out_after : goal.returns-clause-out_after
returns-clause-out_after c =
    let a = c.args in
    let pre = c.requires in
    let head = c.put_head-at in
    let x = c.pieces-placed in
    let bad = c.put_bad_between-end in
    let m = lent a.memory.now a.identification.now in
    let t = a.text.now in
    let h = headed a.player in
    let s = shown_lines a.player.line (bench_of a.player m) t in
    let f = bad_line_between a.player.line (read a.player.line t) in
    let bad-is : bad_line_between a.player.line x.result.line ≡ f = ap (bad_line_between a.player.line) x.ensures.0.0 in
    let at : x.result.at ≡ head.result + length s = x.ensures.1.1.1.1.1.0 in
    let end : bad.result ≡ x.result.at + length f = bad.ensures.value.0 ∙ ap (λ (l : List ℕ). x.result.at + length l) bad-is in
    let few : x.result.at ≤ head.result + 10 * length t = x.ensures.1.1.1.1.1.1 in
    let last : bad.result ≤ x.result.at + 12 = bad.ensures.value.1 in
    let head-is : head.result ≡ length h = head.ensures.value.0 in
    let small : head.result ≤ 7 = head.ensures.value.1 in
    let fits : length h + length s + length f ≤ length a.out.now = omega (arith, at, end, few, last, head-is, small, pre.3) in
    bad.ensures.out_after ∙ ap (λ (l : List ℕ). put x.new.out x.result.at l) bad-is ∙ ap (λ (l : List ℕ). put l x.result.at f)
    (x.ensures.1.1.1.1.0 ∙ ap (λ (l : List ℕ). put l head.result s) head.ensures.out_after)
    ∙ three_puts a.out.now h head.result head-is s f x.result.at at fits
