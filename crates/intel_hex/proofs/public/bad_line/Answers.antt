-- The test of the text; where it is bad, the lines so far and how many on the bad one is.
use mathlib.Core.List.{List}
use Prim.Native.Nat.{ℕ, ◌+◌, ◌-◌}
use lib.ListN.{length, take, drop}
use Rattle.intel_hex.specs.Writing.{end_line}
use Rattle.intel_hex.specs.Reading.{parted, same_bytes}
use Rattle.intel_hex.proofs.Parting.{tail_part, good_told}
use mathlib.Core.Path.{◌≡◌, refl, ap, ◌∙◌}
use Rattle.laws.specs.Pick.{pick, yes_so, no_so}
use Rattle.codes.specs.Part.{m95512}
use Rattle.intel_hex.proofs.public.bad_line.Goals as goal

pub returns-then-is_end : goal.returns-then-is_end
returns-then-is_end c =
    let a = c.args in
    let k = c.check-checked in
    yes_so _ (good_told m95512 a.text.now k.result.at _ k.ensures.at_in_bounds.1 c.is_end.ensures ∙ c.if-is_end.true) refl

pub returns : goal.returns
returns c =
    let a = c.args in
    let k = c.check-checked in
    let t = a.text.now in
    let bad = good_told m95512 t k.result.at _ k.ensures.at_in_bounds.1 c.is_end.ensures
    ∙ c.if-is_end.false in
    let rest : take (length t - k.result.at) (drop k.result.at t) ≡ (parted m95512 t).rest = tail_part t k.result.at ∙ k.ensures.at_in_bounds.1 in
    let more : c.lines_on.result ≡ pick (same_bytes (take 12 (parted m95512 t).rest) end_line) 2 1 =
    c.lines_on.ensures.0 ∙ ap (λ (l : List ℕ). pick {A = ℕ} (same_bytes (take 12 l) end_line) 2 1) rest in
    no_so _ bad (ap (λ (n : ℕ). n + c.lines_on.result) k.ensures.lines_value ∙ ap (λ (n : ℕ). length (parted m95512 t).records + n) more)
