-- A poll is RDSR with one status byte: its frame leaves the record as it was, and shows the status byte.
use Rattle.codes.specs.Refusals.{no_refusal}
use Rattle.std.specs.Prelude.{Ok}
use mathlib.Core.Path.{◌≡◌, refl, ap}
use mathlib.Core.Bool.{true}
use mathlib.Core.List.{List, [], ◌∷◌}
use Prim.Native.Nat.{ℕ, ◌≤◌}
use native.Mathlib.Omega.{arith}
use lib.ListN.{length, get_or}
use Rattle.laws.specs.Pick.{pick, pick_same}
use Rattle.laws.specs.Table.{from, table}
use Rattle.codes.specs.Part.{Part}
use Rattle.codes.specs.Instructions.{decode, rdsr_code}
use Rattle.codes.specs.Verdicts.{is_executed}
use Rattle.chip.specs.Records.{running, status, lock_byte}
use Rattle.chip.specs.Ranges.{in_ranges}
use Rattle.chip.specs.Time.{lent_fits}
use Rattle.chip.specs.declared.Core.{Core}
use Rattle.fields.specs.Counts.{bits_fit, longest_frame}
use Rattle.shown.specs.Shown.{sights, padded, output}
use Rattle.frames.specs.After.{judged, after}
use Rattle.frames.specs.Answers.{frame_outcome, framed, framed_output}
use Rattle.frames.proofs.Outcomes.{accepted}

-- the code, and a byte in which the status shows
abbrev pub poll_bytes : List ℕ
poll_bytes = rdsr_code ∷ 0x00 ∷ []

-- the record is left as it was, whatever the answer
pub poll_leaves : (P : Part) (c : Core) → after P (running c) true c poll_bytes 16 ≡ c
unfolding decode pick
poll_leaves P c = pick_same (is_executed (judged P (running c) true c poll_bytes 16)) c

unpadded : (v : ℕ) → padded 0 v ≡ v
unpadded v = omega arith

poll_shows : (P : Part) (c : Core) (m i : List ℕ) → get_or (output P (running c) (sights (status c) (lock_byte c) m i) poll_bytes 16) 1 0 ≡ status c
unfolding decode output table from pick
poll_shows P c m i = unpadded (status c)

two_bytes : bits_fit 2 16 ≡ true
unfolding pick
two_bytes = refl

-- slices of the part's lengths, a record inside the ranges and room for two bytes
module _ (P : Part) (c : Core) (m i : List ℕ) (size : lent_fits P (length m) (length i) ≡ true) (ranges : in_ranges P c ≡ true) where
  poll_accepted : (room : ℕ) → room ≡ 2 → frame_outcome P c (length m) (length i) 2 16 room ≡ no_refusal
  poll_accepted room two =
      let short : 2 ≤ longest_frame P = omega arith in
      accepted P c (length m) (length i) 2 16 room size ranges short two_bytes two

  -- the call answers 8 undriven bits, and hands the record back as it was
  pub poll_framed : framed P c m i true poll_bytes 16 2 ≡ record { answer = Ok 8; core = c }
  unfolding framed decode pick
  poll_framed = rw (poll_accepted 2 refl) (ap (λ (x : Core). record { answer = Ok 8; core = x }) (poll_leaves P c))

  -- the second byte of its output is the status byte
  pub polled_status : (out : List ℕ) → length out ≡ 2 → get_or (framed_output P c m i poll_bytes 16 out) 1 0 ≡ status c
  unfolding framed_output pick
  polled_status out two = rw (poll_accepted (length out) two) (poll_shows P c m i)
