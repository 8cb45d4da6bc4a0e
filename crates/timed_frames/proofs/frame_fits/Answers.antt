-- all five tests hold exactly where none refuses
use mathlib.Core.Bool.{Bool, true, false, ◌&&◌, true≢false}
use mathlib.Core.Path.{◌≡◌, refl, sym}
use lib.Dec.{eqb, leb}
use Rattle.laws.specs.Pick.{pick, and_left}
use Rattle.std.specs.Prelude.{Err}
use Rattle.codes.specs.Refusals.{is_done, no_refusal, Outcome}
use Rattle.codes.specs.declared.Refusal.TheVariants.{MemoryLength, RecordRange, FrameLength, BitCount, OutputLength}
use Rattle.chip.specs.Records.{own_part}
use Rattle.chip.specs.Ranges.{in_ranges}
use Rattle.chip.specs.Time.{lent_fits}
use Rattle.fields.specs.Counts.{bits_fit, longest_frame}
use Rattle.timed_frames.proofs.frame_fits.Goals as goal

fits_in : (a b d e f : Bool)
    → let o : Outcome = pick a (pick b (pick d (pick e (pick f no_refusal (Err OutputLength)) (Err BitCount)) (Err FrameLength)) (Err RecordRange))
    (Err MemoryLength) in
    ((a && b && d && e && f) ≡ true → o ≡ no_refusal) × ((a && b && d && e && f) ≡ false → is_done o ≡ false)
unfolding pick
fits_in true true true true true = (λ q. refl, λ q. q)
fits_in true true true true false = (λ q. absurd (true≢false (sym q)), λ q. refl)
fits_in true true true false f = (λ q. absurd (true≢false (sym (and_left false f q))), λ q. refl)
fits_in true true false e f = (λ q. absurd (true≢false (sym (and_left false e (and_left (false && e) f q)))), λ q. refl)
fits_in true false d e f = (λ q. absurd (true≢false (sym (and_left false d (and_left (false && d) e (and_left (false && d && e) f q))))), λ q. refl)
fits_in false b d e f = (
  λ q. absurd (true≢false (sym (and_left false b (and_left (false && b) d (and_left (false && b && d) e (and_left
      (false && b && d && e) f q)))))),
  λ q. refl,
)

pub returns : goal.returns
returns c =
    let a = c.args in
    let P = own_part a.core in
    let l = c.lent_fits.ensures in
    let r = c.in_ranges.ensures in
    let k = c.length_fits.ensures in
    let n = c.bits_fit.ensures in
    rw (l, r, k, n)
    (fits_in (lent_fits P a.size a.cells) (in_ranges P a.core) (leb a.len (longest_frame P)) (bits_fit a.len a.bits) (eqb a.room a.len))
