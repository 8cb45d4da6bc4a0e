-- Two runs of bytes one after the other: what is played and what is shown of both is that of the first, and then of the second.
use mathlib.Core.Path.{◌≡◌, refl, ap, sym, ◌∙◌}
use mathlib.Core.Bool.{true}
use mathlib.Core.List.{List, [], ◌∷◌, ◌++◌, append-nil}
use Prim.Native.Nat.{ℕ, ◌+◌, ◌*◌, ◌≤◌}
use native.Mathlib.Omega.{arith}
use lib.ListN.{length, length-append}
use Rattle.codes.specs.Part.{Part}
use Rattle.pins.specs.Devices.{device_part}
use Rattle.pins.specs.Ranges.{device_fits}
use Rattle.pins.specs.Answers.{PinBench, pin_bench, played}
use Rattle.pins.proofs.Kept.{played_part}
use Rattle.lists.specs.Answers.{played_q}
use Rattle.lines.specs.declared.Line.{Line}
use Rattle.lines.specs.Reading.{read, found, line_fits}
use Rattle.printing.specs.Printing.{printed}
use Rattle.printing.specs.Put.{put}
use Rattle.lines.proofs.Runs.{read_append, found_append, read_whole}
use Rattle.printing.proofs.Puts.{put_nil, put_put, printed_append}
use Rattle.trace.specs.Chunks.{played_lines, shown_lines}
use Rattle.trace.specs.Pieces.{Took}
use Rattle.trace.specs.declared.chunks.Placed.{Placed}
use Rattle.trace.proofs.Plays.{played_append, played_q_append, played_q_length, played_own, played_q_own}

-- the part stays
pub lines_part : (h : Line) (b : PinBench) (x : List ℕ) → (played_lines h b x).device.core.part ≡ b.device.core.part
unfolding played_lines
lines_part h b x = played_part (device_part b.device) (found h x) b

module _ (l : Line) (b : PinBench) where
  -- the rules are those of the device's own part, which stays
  abbrev P : Part
  P = device_part b.device

  pub played_nothing : played_lines l b [] ≡ b
  unfolding played_lines found played
  played_nothing = refl

  pub shown_nothing : shown_lines l b [] ≡ []
  unfolding shown_lines found played_q printed
  shown_nothing = refl

  pub lines_played : (x y : List ℕ) → played_lines l b (x ++ y) ≡ played_lines (read l x) (played_lines l b x) y
  unfolding played_lines
  lines_played x y =
      ap (λ (es : List ℕ). played P es b) (found_append l x y) ∙ played_append P (found l x) (found (read l x) y) b
      ∙ played_own (found l x) b (found (read l x) y)

  pub lines_shown : line_fits l ≡ true → (x y : List ℕ) → shown_lines l b (x ++ y) ≡ shown_lines l b x ++ shown_lines (read l x) (played_lines l b x) y
  unfolding played_lines shown_lines
  lines_shown f x y =
      let qs = played_q P (found l x) b in
      let rs = played_q P (found (read l x) y) (played P (found l x) b) in
      let n : l.whole + 1 + length qs ≡ (read l x).whole + 1 = omega (arith, played_q_length P (found l x) b, read_whole l x f) in
      ap (λ (es : List ℕ). printed (l.whole + 1) (played_q P es b)) (found_append l x y)
      ∙ ap (printed (l.whole + 1)) (played_q_append P (found l x) (found (read l x) y) b)
      ∙ printed_append (l.whole + 1) qs rs
      ∙ ap (λ (k : ℕ). printed (l.whole + 1) qs ++ printed k rs) n
      ∙ ap (λ (ks : List ℕ). printed (l.whole + 1) qs ++ printed ((read l x).whole + 1) ks) (played_q_own (found l x) b (found (read l x) y))

-- ---- one more piece y of the text, after the bytes x

module _ (l : Line) (b : PinBench) (f : line_fits l ≡ true) (x y d : List ℕ) (at : ℕ) (room : at + 10 * length (x ++ y) ≤ length d) where
  module _ (hand : Line) (c : PinBench) (p : hand ≡ read l x) (q : c ≡ played_lines l b x) where
    turn_line : read hand y ≡ read l (x ++ y)
    turn_line = rw p (sym (read_append l x y))

    turn_bench : played_lines hand c y ≡ played_lines l b (x ++ y)
    turn_bench = rw (p, q) (sym (lines_played l b x y))

    turn_shown : shown_lines l b x ++ shown_lines hand c y ≡ shown_lines l b (x ++ y)
    turn_shown = rw (p, q) (sym (lines_shown l b f x y))

  pub took_more : (r r' : Placed) (m i o m' i' o' : List ℕ) → Took l b x d at r m i o → Took r.line (pin_bench r.device m i) y o r.at r' m' i' o'
      → Took l b (x ++ y) d at r' m' i' o'
  took_more r r' m i o m' i' o' first next =
      let c : PinBench = pin_bench r.device m i in
      let here : c ≡ played_lines l b x = λ j. pin_bench (first.1.0.0 j) (first.1.1.0 j) (first.1.1.1.0 j) in
      let bench : played_lines r.line c y ≡ played_lines l b (x ++ y) = turn_bench r.line c first.0.0 here in
      let before : List ℕ = shown_lines l b x in
      let more : List ℕ = shown_lines r.line c y in
      let shown : before ++ more ≡ shown_lines l b (x ++ y) = turn_shown r.line c first.0.0 here in
      let all : length (x ++ y) ≡ length x + length y = length-append x y in
      let at-is : r.at ≡ at + length before = first.1.1.1.1.1.0 in
      let end : r'.at ≡ r.at + length more = next.1.1.1.1.1.0 in
      let few : r.at ≤ at + 10 * length x = first.1.1.1.1.1.1 in
      let few-more : r'.at ≤ r.at + 10 * length y = next.1.1.1.1.1.1 in
      let both : length (before ++ more) ≡ length before + length more = length-append before more in (
        (next.0.0 ∙ turn_line r.line c first.0.0 here, next.0.1),
        (
          (next.1.0.0 ∙ ap (λ (z : PinBench). z.device) bench, next.1.0.1),
          (
            next.1.1.0 ∙ ap (λ (z : PinBench). z.memory) bench,
            (
              next.1.1.1.0 ∙ ap (λ (z : PinBench). z.identification) bench,
              (
                next.1.1.1.1.0 ∙ ap (λ (z : List ℕ). put z r.at more) first.1.1.1.1.0 ∙ ap (λ (k : ℕ). put (put d at before) k more) at-is
                    ∙ put_put d at before more (omega arith) ∙ ap (put d at) shown,
                (omega (arith, ap length shown), omega arith),
              ),
            ),
          ),
        ),
      )

pub took_nothing : (r : Placed) (m i d : List ℕ) → line_fits r.line ≡ true → device_fits (device_part r.device) r.device ≡ true
    → Took r.line (pin_bench r.device m i) [] d r.at r m i d
unfolding read
took_nothing r m i d f g =
    let b : PinBench = pin_bench r.device m i in
    let still : b ≡ played_lines r.line b [] = sym (played_nothing r.line b) in
    let none : [] ≡ shown_lines r.line b [] = sym (shown_nothing r.line b) in (
      (refl, f),
      (
        (ap (λ (z : PinBench). z.device) still, g),
        (
          ap (λ (z : PinBench). z.memory) still,
          (
            ap (λ (z : PinBench). z.identification) still,
            (sym (put_nil d r.at) ∙ ap (put d r.at) none, (omega (arith, ap length none), omega arith)),
          ),
        ),
      ),
    )

-- nothing is left
pub all_seen : {A : Type 0} (x rest t : List A) → x ++ rest ≡ t → length rest ≡ 0 → x ≡ t
all_seen x [] t e h = sym (append-nil x) ∙ e
all_seen x (b ∷ rest) t e h = absurd (omega arith)
