-- What Q shows over each byte is what the frame model says of its position: by induction on the bytes, for each instruction.
use Prim.Native.Nat.{ℕ, zero, suc, ◌+◌, ◌*◌, ◌-◌, ◌/◌, ◌%◌, ◌<◌, ◌≤◌, min, ◌^◌}
use mathlib.Core.Bool.{Bool, true, false, not, ◌&&◌}
use mathlib.Core.List.{List, [], ◌∷◌}
use mathlib.Core.Path.{◌≡◌, refl, sym, ap, ap₂, ◌∙◌, fun_ext}
use lib.Dec.{leb}
use lib.ListN.{get_or, length}
use borrow.Author.Tests.{le-leb, lt-leb}
use native.Mathlib.Nat.{mod-add-mod, mod-mod, zero-mod, div-add-mod'}
use native.Mathlib.Omega.{arith}
use Rattle.laws.specs.Pick.{pick, pick_case, at_yes, at_no, and_both, and_no_left, and_no_right}
use Rattle.laws.specs.Table.{from, table}
use Rattle.codes.specs.Part.{Part}
use Rattle.latch.specs.Latches.{no_latch}
use Rattle.latch.specs.Identification.{identification_at, identification_byte, identification_next}
use Rattle.chip.specs.Lents.{Lent}
use Rattle.chip.specs.Records.{status}
use Rattle.codes.specs.Instructions.{decode, picks_lock}
use Rattle.latch.specs.declared.Latch.{Latch}
use Rattle.codes.specs.declared.Instruction.{Instruction}
use Rattle.codes.specs.declared.Instruction.TheVariants.{Wren, Wrdi, Rdsr, Wrsr, Read, Write, Rdid, Wrid, Silence}
use Rattle.edges.specs.declared.Frame.{Frame}
use Rattle.edges.specs.Frames.{no_frame}
use Rattle.codes.specs.Output.{outputs}
use Rattle.fields.specs.Bytes.{instruction, address_to, address}
use Rattle.shown.specs.Shown.{Sights, byte_out}
use Rattle.codes.proofs.Sound.{Sound}
use Rattle.codes.proofs.Starts.{picks_page}
use Rattle.agree.proofs.Facts.{leb_min, min_leb}
use Rattle.agree.proofs.Pages.{cell, cell_mod, cell_div, cell_next}
use Rattle.agree.proofs.Steps.{Course, Still, after_bytes, drives, past_of, out_of, after_fall, drives_bytes, step, bytes_seen, step_first, step_more}
use Rattle.agree.proofs.Bytes.{on_q}

module _ (P : Part) (sound : Sound P) (T : Course) (m : Lent) (lock : ℕ) (still : Still T m lock) where
  abbrev unlatched : Latch
  unlatched = no_latch

  -- the status by the data byte; the cells and the lock as they stay
  abbrev sight : Sights
  sight = record { status = λ d. status (T.core (suc d)); lock = lock; memory = m.memory; identification = m.identification }

  -- what the frame model says of byte n
  abbrev Out : Instruction → ℕ → ℕ → ℕ
  Out i A n = byte_out P i (T.runs 0) sight A n

  -- ---- data output or not

  quiet_fall : (i : Instruction) (v j a x o : ℕ) (l : Latch) → drives P sound T i j ≡ false
      → after_fall P sound T i v j a x o l ≡ after_bytes P sound T v j a x o 0 l
  unfolding pick
  quiet_fall i v j a x o l q = rw q

  -- in data output it loads
  load_fall : (i : Instruction) (v j a x o : ℕ) (l : Latch) → drives P sound T i j ≡ true
      → after_fall P sound T i v j a x o l ≡ after_bytes P sound T v j (past_of P i a) x (out_of P (T.lent j) (T.core j) i a o) 1 l
  unfolding pick
  load_fall i v j a x o l q = rw q

  -- ---- instructions that show nothing

  abbrev Hushed : Instruction → Type 0
  Hushed i = (n : ℕ) → outputs P i n (T.runs 0) ≡ false

  hush_seen : (i : Instruction) (us : List ℕ) (n v j a x o z : ℕ) (l : Latch) → decode P v ≡ i → 1 ≤ j → Hushed i
      → bytes_seen P sound T on_q j (after_bytes P sound T v j a x o z l) us ≡ from n (length us) (λ _. 255)
  unfolding bytes_seen from
  hush_seen i [] n v j a x o z l e k q = refl
  hush_seen i (u ∷ us) n v j a x o z l e k q =
      ap₂ (λ b r. b ∷ r) (ap (λ t. on_q t (after_bytes P sound T v j a x o z l)) (drives_bytes P sound T i v j a x o z l e ∙ q _))
      (ap (λ f. bytes_seen P sound T on_q (suc j) f us) (step_more P sound T i u v j a x o z l e k)
      ∙ hush_seen i us (suc n) v (suc j) _ _ _ _ _ e (omega arith) q)

  -- ---- RDSR

  rdsr_on : (j : ℕ) → 1 ≤ j → drives P sound T Rdsr j ≡ true
  rdsr_on j k = leb_min P.most j 1 (omega (arith, sound.counted)) ∙ le-leb 1 j k

  -- the status of byte j is that of data byte j − 1
  shown : (A j : ℕ) → 1 ≤ j → status (T.core j) ≡ Out Rdsr A j
  shown A j k =
      let same : j ≡ suc (j - 1) = omega arith in
      ap (λ n. status (T.core n)) same ∙ sym (at_yes _ _ (le-leb 1 j k))

  rdsr_seen : (us : List ℕ) (v j a x A : ℕ) (l : Latch) → decode P v ≡ Rdsr → 1 ≤ j
      → bytes_seen P sound T on_q j (after_bytes P sound T v j a x (status (T.core j)) 1 l) us ≡ from j (length us) (Out Rdsr A)
  unfolding bytes_seen from
  rdsr_seen [] v j a x A l e k = refl
  rdsr_seen (u ∷ us) v j a x A l e k =
      ap₂ (λ b r. b ∷ r)
      (ap (λ t. on_q t (after_bytes P sound T v j a x (status (T.core j)) 1 l)) (drives_bytes P sound T Rdsr v j a x (status (T.core j)) 1 l e ∙ rdsr_on j k)
      ∙ shown A j k)
      (ap (λ f. bytes_seen P sound T on_q (suc j) f us) (step_more P sound T Rdsr u v j a x (status (T.core j)) 1 l e k
      ∙ load_fall Rdsr v (suc j) a x (status (T.core j)) l (rdsr_on (suc j) (omega arith)))
      ∙ rdsr_seen us v (suc j) a x A l e (omega arith))

  -- ---- an instruction that reads

  -- the byte at an address, the address after it, and the address after so many of them
  record Reader (i : Instruction) (out past : ℕ → ℕ) (place : ℕ → ℕ → ℕ) : Type 0 where
    driven : (n : ℕ) (ran : Bool) → outputs P i n ran ≡ (leb (P.address_bytes + 1) n && not ran)
    steps : (u v j a o z : ℕ) → decode P v ≡ i → 1 ≤ j
        → let n = min P.most j in
        step P sound T j u (after_bytes P sound T v j a 0 o z unlatched)
        ≡ after_fall P sound T i v (suc j) (pick (leb n P.address_bytes) ((a + u * 256 ^ (P.address_bytes - n)) % P.size) a) 0 o unlatched
    loads : (v j a o : ℕ) → T.runs 0 ≡ false → 1 ≤ j → drives P sound T i j ≡ true
        → after_fall P sound T i v j a 0 o unlatched ≡ after_bytes P sound T v j (past a) 0 (out a) 1 unlatched
    cell : (A n : ℕ) → Out i A n ≡ pick (outputs P i n (T.runs 0)) (out (place A (n - (P.address_bytes + 1)))) 255
    begins : (A : ℕ) → A ≡ A % P.size → place A 0 ≡ A
    goes_on : (A d : ℕ) → past (place A d) ≡ place A (suc d)

  module _ {i : Instruction} {out past : ℕ → ℕ} {place : ℕ → ℕ → ℕ} (r : Reader i out past place) where
    read_off : (j : ℕ) → j < P.address_bytes + 1 → drives P sound T i j ≡ false
    read_off j k =
        r.driven (min P.most j) (T.runs 0) ∙ and_no_left (leb (P.address_bytes + 1) (min P.most j)) (not (T.runs 0))
        (leb_min P.most j (P.address_bytes + 1) (omega (arith, sound.counted)) ∙ lt-leb (P.address_bytes + 1) j k)

    cell_off : (A j : ℕ) → j < P.address_bytes + 1 → Out i A j ≡ 255
    cell_off A j k =
        r.cell A j
        ∙ at_no _ _ (r.driven j (T.runs 0) ∙ and_no_left (leb (P.address_bytes + 1) j) (not (T.runs 0)) (lt-leb (P.address_bytes + 1) j k))

    -- a cycle ran: nothing shows
    shut : T.runs 0 ≡ true → Hushed i
    shut b n = r.driven n (T.runs 0) ∙ and_no_right (leb (P.address_bytes + 1) n) (not (T.runs 0)) (ap not b)

    -- none ran: the bytes from the address on
    module _ (b : T.runs 0 ≡ false) where
      read_on : (j : ℕ) → P.address_bytes + 1 ≤ j → drives P sound T i j ≡ true
      read_on j k =
          r.driven (min P.most j) (T.runs 0) ∙ and_both (leb (P.address_bytes + 1) (min P.most j)) (not (T.runs 0))
          (leb_min P.most j (P.address_bytes + 1) (omega (arith, sound.counted)) ∙ le-leb (P.address_bytes + 1) j k) (ap not b)

      cell_on : (A j : ℕ) → P.address_bytes + 1 ≤ j → Out i A j ≡ out (place A (j - (P.address_bytes + 1)))
      cell_on A j k =
          r.cell A j
          ∙ at_yes _ _ (r.driven j (T.runs 0) ∙ and_both (leb (P.address_bytes + 1) j) (not (T.runs 0)) (le-leb (P.address_bytes + 1) j k) (ap not b))

      -- the byte at a is loaded
      abbrev loaded : ℕ → ℕ → ℕ → Frame
      loaded v j a = after_bytes P sound T v j (past a) 0 (out a) 1 unlatched

      read_cells_law : (us : List ℕ) (v j a A : ℕ) → decode P v ≡ i → P.address_bytes + 1 ≤ j → a ≡ place A (j - (P.address_bytes + 1))
          → bytes_seen P sound T on_q j (loaded v j a) us ≡ from j (length us) (Out i A)
      unfolding bytes_seen from
      read_cells_law [] v j a A e k q = refl
      read_cells_law (u ∷ us) v j a A e k q =
          let n = min P.most j in
          let past_address : leb n P.address_bytes ≡ false =
          min_leb P.most j P.address_bytes (omega (arith, sound.counted)) ∙ lt-leb j P.address_bytes (omega arith) in
          let next : suc (j - (P.address_bytes + 1)) ≡ suc j - (P.address_bytes + 1) = omega arith in
          ap₂ (λ x l. x ∷ l)
          (ap (λ t. on_q t (loaded v j a)) (drives_bytes P sound T i v j (past a) 0 (out a) 1 unlatched e ∙ read_on j k) ∙ ap out q ∙ sym (cell_on A j k))
          (ap (λ f. bytes_seen P sound T on_q (suc j) f us) (r.steps u v j (past a) (out a) 1 e (omega arith)
          ∙ ap (λ y. after_fall P sound T i v (suc j) y 0 (out a) unlatched) (at_no _ _ past_address)
          ∙ r.loads v (suc j) (past a) (out a) b (omega arith) (read_on (suc j) (omega arith)))
          ∙ read_cells_law us v (suc j) (past a) A e (omega arith)
          (ap past q ∙ r.goes_on A (j - (P.address_bytes + 1)) ∙ ap (place A) next))

      module _ (s : List ℕ) where
        address_mod : (k : ℕ) → address_to P s k ≡ address_to P s k % P.size
        address_mod zero = sym (zero-mod P.size)
        address_mod (suc k) = sym (mod-mod (address_to P s k + get_or s (suc k) 0 * 256 ^ (P.address_bytes - suc k)) P.size)

        -- n address bytes to come; or the byte that is loaded
        abbrev reading : ℕ → ℕ → ℕ → Frame
        reading v zero k = loaded v (suc k) (address_to P s k)
        reading v (suc n) k = after_bytes P sound T v (suc k) (address_to P s k) 0 0 0 unlatched

        -- an address byte
        read_address : (u v n k : ℕ) → decode P v ≡ i → k + suc n ≡ P.address_bytes → u ≡ get_or s (suc k) 0
            → step P sound T (suc k) u (after_bytes P sound T v (suc k) (address_to P s k) 0 0 0 unlatched) ≡ reading v n (suc k)
        read_address u v n k e q h =
            let t = min P.most (suc k) in
            let a = address_to P s k in
            let all : t ≡ suc k = omega (arith, sound.counted) in
            let more : leb t P.address_bytes ≡ true =
            min_leb P.most (suc k) P.address_bytes (omega (arith, sound.counted)) ∙ le-leb (suc k) P.address_bytes (omega arith) in
            r.steps u v (suc k) a 0 0 e (omega arith)
            ∙ ap (λ y. after_fall P sound T i v (suc (suc k)) y 0 0 unlatched)
            (at_yes _ _ more ∙ ap₂ (λ y x. (a + y * 256 ^ (P.address_bytes - x)) % P.size) h all)
            ∙ onward n q
          where
            onward : (n : ℕ) → k + suc n ≡ P.address_bytes
                → after_fall P sound T i v (suc (suc k)) (address_to P s (suc k)) 0 0 unlatched ≡ reading v n (suc k)
            onward zero q = r.loads v (suc (suc k)) (address_to P s (suc k)) 0 b (omega arith) (read_on (suc (suc k)) (omega arith))
            onward (suc n) q = quiet_fall i v (suc (suc k)) (address_to P s (suc k)) 0 0 unlatched (read_off (suc (suc k)) (omega arith))

        read_seen : (us : List ℕ) (v n k : ℕ) → decode P v ≡ i → k + n ≡ P.address_bytes → ((x : ℕ) → get_or us x 0 ≡ get_or s (suc k + x) 0)
            → bytes_seen P sound T on_q (suc k) (reading v n k) us ≡ from (suc k) (length us) (Out i (address P s))
        unfolding bytes_seen from
        read_seen us v zero k e q tail =
            let all : k ≡ P.address_bytes = omega arith in
            let none : 0 ≡ suc k - (P.address_bytes + 1) = omega arith in
            read_cells_law us v (suc k) (address_to P s k) (address_to P s k) e (omega arith)
            (sym (r.begins (address_to P s k) (address_mod k)) ∙ ap (place (address_to P s k)) none)
            ∙ ap (λ y. from (suc k) (length us) (Out i (address_to P s y))) all
        read_seen [] v (suc n) k e q tail = refl
        read_seen (u ∷ us) v (suc n) k e q tail =
            let a = address_to P s k in
            let here : suc k + 0 ≡ suc k = omega arith in
            ap₂ (λ x l. x ∷ l)
            (ap (λ t. on_q t (after_bytes P sound T v (suc k) a 0 0 0 unlatched))
            (drives_bytes P sound T i v (suc k) a 0 0 0 unlatched e ∙ read_off (suc k) (omega arith))
            ∙ sym (cell_off (address P s) (suc k) (omega arith)))
            (ap (λ f. bytes_seen P sound T on_q (suc (suc k)) f us) (read_address u v n k e q (tail 0 ∙ ap (λ y. get_or s y 0) here))
            ∙ read_seen us v n (suc k) e (omega arith)
            (λ x. let there : suc k + suc x ≡ suc (suc k) + x = omega arith in tail (suc x) ∙ ap (λ y. get_or s y 0) there))

      read_table : (v k : ℕ) (vs : List ℕ) → decode P v ≡ i → k ≡ P.address_bytes
          → bytes_seen P sound T on_q 1 (step P sound T 0 v no_frame) vs ≡ from 1 (length vs) (Out i (address P (v ∷ vs)))
      read_table v zero vs e q = absurd (omega (arith, sound.bytes_some))
      read_table v (suc n) vs e q =
          let quiet = quiet_fall i v 1 0 0 0 unlatched (read_off 1 (omega (arith, sound.bytes_some))) in
          ap (λ f. bytes_seen P sound T on_q 1 f vs) (step_first P sound T i v e ∙ quiet)
          ∙ read_seen (v ∷ vs) vs v (suc n) 0 e (omega arith) (λ x. let next : suc x ≡ suc 0 + x = omega arith in ap (λ y. get_or (v ∷ vs) y 0) next)

  -- READ: the cells from the address up, rolling over
  reads : Reader Read (λ a. get_or m.memory a 0) (λ a. (a + 1) % P.size) (λ A d. (A + d) % P.size)
  unfolding pick
  reads =
      record {
        driven = λ n ran. refl;
        steps = λ u v j a o z e k. step_more P sound T Read u v j a 0 o z unlatched e k;
        loads = λ v j a o b k q.
            load_fall Read v j a 0 o unlatched q
            ∙ ap (λ n. after_bytes P sound T v j ((a + 1) % P.size) 0 (get_or n.memory a 0) 1 unlatched) (still.cells b j k);
        cell = λ A n. refl;
        begins = λ A e. let same : A + 0 ≡ A = omega arith in ap (λ y. y % P.size) same ∙ sym e;
        goes_on = λ A d. let next : A + d + 1 ≡ A + suc d = omega arith in mod-add-mod (A + d) P.size 1 ∙ ap (λ y. y % P.size) next;
      }

  -- 83h: the identification page from the address up, rolling within it, or the lock, whose address does not move
  abbrev placed : ℕ → ℕ → ℕ
  placed A d = pick (picks_lock A) A (cell P sound (A / P.page) (A % P.page + d))

  abbrev shown_id : ℕ → ℕ
  shown_id a = identification_byte P lock m.identification a

  -- an address of the page picks as the start does
  picks_cell : (A i : ℕ) → picks_lock (cell P sound (A / P.page) i) ≡ picks_lock A
  picks_cell A i = picks_page sound (cell P sound (A / P.page) i) A (cell_div P sound (A / P.page) i)

  placed_shows : (A d : ℕ) → identification_at P lock m.identification A d ≡ shown_id (placed A d)
  placed_shows A d = go (picks_lock A) refl
    where
      a : ℕ
      a = cell P sound (A / P.page) (A % P.page + d)

      go : (t : Bool) → picks_lock A ≡ t → identification_at P lock m.identification A d ≡ shown_id (placed A d)
      go true p = at_yes _ _ p ∙ sym (ap shown_id (at_yes _ _ p) ∙ at_yes _ _ p)
      go false p =
          at_no _ _ p ∙ ap (λ n. get_or m.identification n 0) (sym (cell_mod P sound (A / P.page) (A % P.page + d)))
          ∙ sym (ap shown_id (at_no _ _ p) ∙ at_no _ _ (picks_cell A (A % P.page + d) ∙ p))

  placed_begins : (A : ℕ) → placed A 0 ≡ A
  placed_begins A =
      pick_case (λ n. n ≡ A) (picks_lock A) (λ p. refl)
      (λ p. let same : A % P.page + 0 ≡ A % P.page = omega arith in
      ap (λ n. A / P.page * P.page + n) (ap (λ n. n % P.page) same ∙ mod-mod A P.page) ∙ div-add-mod' A P.page)

  placed_goes_on : (A d : ℕ) → identification_next P (placed A d) ≡ placed A (suc d)
  placed_goes_on A d = go (picks_lock A) refl
    where
      next : suc (A % P.page + d) ≡ A % P.page + suc d
      next = omega arith

      go : (t : Bool) → picks_lock A ≡ t → identification_next P (placed A d) ≡ placed A (suc d)
      go true p = ap (identification_next P) (at_yes _ _ p) ∙ at_yes _ _ p ∙ sym (at_yes _ _ p)
      go false p =
          ap (identification_next P) (at_no _ _ p) ∙ at_no _ _ (picks_cell A (A % P.page + d) ∙ p)
          ∙ cell_next P sound (A / P.page) (A % P.page + d) ∙ ap (cell P sound (A / P.page)) next ∙ sym (at_no _ _ p)

  identifies : Reader Rdid shown_id (identification_next P) placed
  unfolding pick
  identifies =
      record {
        driven = λ n ran. refl;
        steps = λ u v j a o z e k. step_more P sound T Rdid u v j a 0 o z unlatched e k;
        loads = λ v j a o b k q.
            load_fall Rdid v j a 0 o unlatched q
            ∙ ap₂ (λ n l. after_bytes P sound T v j (identification_next P a) 0 (identification_byte P l n.identification a) 1 unlatched)
            (still.cells b j k) (still.lock b j k);
        cell = λ A n. ap (λ y. pick (outputs P Rdid n (T.runs 0)) y 255) (placed_shows A (n - (P.address_bytes + 1)));
        begins = λ A e. placed_begins A;
        goes_on = placed_goes_on;
      }

  -- ---- any frame

  hush_table : (i : Instruction) (v A : ℕ) (vs : List ℕ) → decode P v ≡ i → Hushed i → ((n : ℕ) → 255 ≡ Out i A n)
      → bytes_seen P sound T on_q 1 (step P sound T 0 v no_frame) vs ≡ from 1 (length vs) (Out i A)
  hush_table i v A vs e q d =
      ap (λ f. bytes_seen P sound T on_q 1 f vs) (step_first P sound T i v e)
      ∙ hush_seen i vs 1 v 1 _ _ _ _ _ e (omega arith) q
      ∙ ap (λ g. from 1 (length vs) g) (fun_ext d)

  tail_table : (i : Instruction) (b : Bool) (v : ℕ) (vs : List ℕ) → decode P v ≡ i → T.runs 0 ≡ b
      → bytes_seen P sound T on_q 1 (step P sound T 0 v no_frame) vs ≡ from 1 (length vs) (Out i (address P (v ∷ vs)))
  unfolding pick
  tail_table Wren b v vs e r = hush_table Wren v (address P (v ∷ vs)) vs e (λ n. refl) (λ n. refl)
  tail_table Wrdi b v vs e r = hush_table Wrdi v (address P (v ∷ vs)) vs e (λ n. refl) (λ n. refl)
  tail_table Rdsr b v vs e r =
      ap (λ f. bytes_seen P sound T on_q 1 f vs) (step_first P sound T Rdsr v e ∙ load_fall Rdsr v 1 0 0 0 unlatched (rdsr_on 1 (omega arith)))
      ∙ rdsr_seen vs v 1 0 0 (address P (v ∷ vs)) unlatched e (omega arith)
  tail_table Wrsr b v vs e r = hush_table Wrsr v (address P (v ∷ vs)) vs e (λ n. refl) (λ n. refl)
  tail_table Read true v vs e r =
      hush_table Read v (address P (v ∷ vs)) vs e (shut reads r) (λ n. sym (at_no _ _ (shut reads r n)))
  tail_table Read false v vs e r = read_table reads r v P.address_bytes vs e refl
  tail_table Write b v vs e r = hush_table Write v (address P (v ∷ vs)) vs e (λ n. refl) (λ n. refl)
  tail_table Rdid true v vs e r =
      hush_table Rdid v (address P (v ∷ vs)) vs e (shut identifies r) (λ n. sym (at_no _ _ (shut identifies r n)))
  tail_table Rdid false v vs e r = read_table identifies r v P.address_bytes vs e refl
  tail_table Wrid b v vs e r = hush_table Wrid v (address P (v ∷ vs)) vs e (λ n. refl) (λ n. refl)
  tail_table Silence b v vs e r = hush_table Silence v (address P (v ∷ vs)) vs e (λ n. refl) (λ n. refl)

  -- over the first byte Q shows nothing
  head_table : (i : Instruction) (A : ℕ) → 255 ≡ Out i A 0
  unfolding pick
  head_table Wren A = refl
  head_table Wrdi A = refl
  head_table Rdsr A = refl
  head_table Wrsr A = refl
  head_table Read A = sym (cell_off reads A 0 (omega arith))
  head_table Write A = refl
  head_table Rdid A = sym (cell_off identifies A 0 (omega arith))
  head_table Wrid A = refl
  head_table Silence A = refl

  pub seen_table : (s : List ℕ) → bytes_seen P sound T on_q 0 no_frame s ≡ table (length s) (Out (instruction P s) (address P s))
  unfolding bytes_seen table from decode pick
  seen_table [] = refl
  seen_table (v ∷ vs) = ap₂ (λ b l. b ∷ l) (head_table (decode P v) (address P (v ∷ vs))) (tail_table (decode P v) (T.runs 0) v vs refl refl)
