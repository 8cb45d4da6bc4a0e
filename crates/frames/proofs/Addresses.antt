-- The bytes of a WRITE frame, for any sound part: how many they are, the address that they carry, by the places of its bytes, and the data.
use mathlib.Core.Path.{◌≡◌, ap, sym, ◌∙◌}
use mathlib.Core.List.{List}
use Prim.Native.Nat.{ℕ, zero, suc, ◌+◌, ◌-◌, ◌*◌, ◌/◌, ◌%◌, ◌^◌, ◌<◌, ◌≤◌}
use native.Mathlib.Nat.{zero-mul, mul-one, mul_comm, mul_assoc, add-mul, pow-zero, pow-suc, lt_of_le_of_lt, lt_of_lt_of_le}
use native.Mathlib.Nat.{div-one, div-eq_of_lt, div-add-mod', div-div-eq-div-mul, div-mul-le_self, mod-eq_of_lt}
use native.Mathlib.Omega.{arith}
use lib.ListN.{length, get_or, length-append, get_or-append}
use lib.Seq.{drop_at}
use Rattle.codes.specs.Part.{Part}
use Rattle.codes.proofs.Sound.{Sound}
use Rattle.fields.specs.Bytes.{address_to, address, payload}
use Rattle.frames.specs.Sent.{address_bytes, write_bytes}

-- ---- an address as bytes

bytes_length : (k a : ℕ) → length (address_bytes k a) ≡ k
bytes_length zero a = omega arith
bytes_length (suc k) a = omega (arith, bytes_length k a)

address_byte_law : (n k a : ℕ) → k < n → get_or (address_bytes n a) k 0 ≡ a / 256 ^ (n - suc k) % 256
address_byte_law zero k a h = absurd (omega arith)
address_byte_law (suc n) zero a h =
    let first : n ≡ suc n - 1 = omega arith in
    ap (λ (e : ℕ). a / 256 ^ e % 256) first
address_byte_law (suc n) (suc k) a h =
    let later : n - suc k ≡ suc n - suc (suc k) = omega arith in
    address_byte_law n k a (omega arith) ∙ ap (λ (e : ℕ). a / 256 ^ e % 256) later

-- a byte put beside those above it, e its place
beside : (a e : ℕ) → a / (e * 256) * (e * 256) + a / e % 256 * e ≡ a / e * e
beside a e =
    ap (λ (q : ℕ). q * (e * 256) + a / e % 256 * e) (sym (div-div-eq-div-mul a e 256))
    ∙ ap (λ (x : ℕ). a / e / 256 * x + a / e % 256 * e) (mul_comm e 256)
    ∙ ap (λ (x : ℕ). x + a / e % 256 * e) (sym (mul_assoc (a / e / 256) 256 e))
    ∙ sym (add-mul (a / e / 256 * 256) (a / e % 256) e)
    ∙ ap (λ (x : ℕ). x * e) (div-add-mod' (a / e) 256)

-- ---- the frame

module _ (P : Part) (a : ℕ) (bytes : List ℕ) where
  pub write_length : length (write_bytes P a bytes) ≡ P.address_bytes + 1 + length bytes
  write_length = omega (arith, length-append (address_bytes P.address_bytes a) bytes, bytes_length P.address_bytes a)

  pub write_payload : payload P (write_bytes P a bytes) ≡ bytes
  write_payload = drop_at (address_bytes P.address_bytes a) bytes P.address_bytes (bytes_length P.address_bytes a)

  write_byte : (k : ℕ) → k < P.address_bytes → get_or (write_bytes P a bytes) (suc k) 0 ≡ a / 256 ^ (P.address_bytes - suc k) % 256
  write_byte k h =
      let in-address : k < length (address_bytes P.address_bytes a) = omega (arith, bytes_length P.address_bytes a) in
      get_or-append (address_bytes P.address_bytes a) bytes 0 k in-address ∙ address_byte_law P.address_bytes k a h

module _ (P : Part) (sound : Sound P) (a : ℕ) (bytes : List ℕ) (low : a < P.size) where
  -- the place of the last of k bytes
  abbrev place : ℕ → ℕ
  place k = 256 ^ (P.address_bytes - k)

  place_above : (k : ℕ) → k < P.address_bytes → place k ≡ place (suc k) * 256
  place_above k h =
      let one : P.address_bytes - k ≡ suc (P.address_bytes - suc k) = omega arith in
      ap (λ (n : ℕ). 256 ^ n) one ∙ pow-suc 256 (P.address_bytes - suc k)

  -- the first k bytes are the address down to the place of the last
  address_to_law : (k : ℕ) → k ≤ P.address_bytes → address_to P (write_bytes P a bytes) k ≡ a / place k * place k
  address_to_law zero h =
      let all : P.address_bytes ≡ P.address_bytes - 0 = omega arith in
      let none : a / 256 ^ P.address_bytes ≡ 0 = div-eq_of_lt (lt_of_lt_of_le low sound.reached) in
      sym (zero-mul (256 ^ P.address_bytes))
      ∙ ap (λ (q : ℕ). q * 256 ^ P.address_bytes) (sym none)
      ∙ ap (λ (n : ℕ). a / 256 ^ n * 256 ^ n) all
  address_to_law (suc k) h =
      let e = place (suc k) in
      let before = address_to_law k (omega arith) ∙ ap (λ (x : ℕ). a / x * x) (place_above k h) in
      ap (λ (x : ℕ). (x + get_or (write_bytes P a bytes) (suc k) 0 * e) % P.size) before
      ∙ ap (λ (x : ℕ). (a / (e * 256) * (e * 256) + x * e) % P.size) (write_byte P a bytes k h)
      ∙ ap (λ (x : ℕ). x % P.size) (beside a e)
      ∙ mod-eq_of_lt (lt_of_le_of_lt (div-mul-le_self a e) low)

  pub write_address : address P (write_bytes P a bytes) ≡ a
  write_address =
      let last : P.address_bytes - P.address_bytes ≡ 0 = omega arith in
      address_to_law P.address_bytes (omega arith)
      ∙ ap (λ (n : ℕ). a / 256 ^ n * 256 ^ n) last
      ∙ ap (λ (x : ℕ). a / x * x) (pow-zero 256)
      ∙ mul-one (a / 1)
      ∙ div-one a
