-- What a call leaves where there is the room that it asks for; and the tests for room, which make no sum.
use mathlib.Core.Path.{◌≡◌, sym, ◌∙◌}
use mathlib.Core.List.{List}
use Prim.Native.Nat.{ℕ, ◌+◌, ◌-◌, ◌*◌, ◌/◌, ◌≤◌}
use native.Mathlib.Decide.{dec_le}
use native.Mathlib.Omega.{arith}
use lib.ListN.{length}
use lib.Dec.{leb}
use borrow.Author.Tests.{le-leb, lt-leb}
use Rattle.laws.specs.Pick.{at_yes}
use Rattle.printing.specs.Put.{put, put_if_room, end_if_room}

module _ (asked : ℕ) (d : List ℕ) (at : ℕ) (s : List ℕ) (room : at + asked ≤ length d) where
  pub put_room : put_if_room asked d at s ≡ put d at s
  put_room = at_yes _ _ (le-leb _ _ room)

  pub end_room : end_if_room asked d at s ≡ at + length s
  end_room = at_yes _ _ (le-leb _ _ room)

module _ (at n bytes : ℕ) (h : at ≤ bytes) where
  pub rest_same : leb n (bytes - at) ≡ leb (at + n) bytes
  rest_same = elim (dec_le (at + n) bytes) [
    | yes k ↦ le-leb n (bytes - at) (omega arith) ∙ sym (le-leb (at + n) bytes k)
    | no k ↦ lt-leb n (bytes - at) (omega arith) ∙ sym (lt-leb (at + n) bytes (omega arith))
  ]

  pub tens_same : leb n ((bytes - at) / 10) ≡ leb (at + 10 * n) bytes
  tens_same = elim (dec_le (at + 10 * n) bytes) [
    | yes k ↦ le-leb n ((bytes - at) / 10) (omega arith) ∙ sym (le-leb (at + 10 * n) bytes k)
    | no k ↦ lt-leb n ((bytes - at) / 10) (omega arith) ∙ sym (lt-leb (at + 10 * n) bytes (omega arith))
  ]
