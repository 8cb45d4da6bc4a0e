-- The starred cases, computed, or gathered from the crates below.
use Rattle.std.specs.Prelude.{Ok}
use Prim.Native.Nat.{ℕ}
use mathlib.Core.Bool.{Bool, true, false}
use mathlib.Core.List.{List, [], ◌∷◌}
use mathlib.Core.Path.{◌≡◌, refl, ap, sym, ◌∙◌}
use lib.ListN.{length, get_or, length-replicate}
use borrow.Author.Tests.{eq-eqb}
use Rattle.laws.specs.Pick.{pick, at_yes}
use Rattle.laws.specs.Each.{each}
use Rattle.laws.specs.Table.{from, table}
use Rattle.codes.specs.Part.{Part, m95512, part_of}
use Rattle.codes.proofs.Parts.{row_plain}
use Rattle.laws.specs.Bits.{bit_on}
use Rattle.latch.specs.Latches.{zeros, stored}
use Rattle.codes.specs.Instructions.{decode}
use Rattle.codes.specs.Verdicts.{verdict_by}
use Rattle.chip.specs.Ranges.{cycle_fits, in_ranges}
use Rattle.codes.specs.Refusals.{Outcome, is_done, no_refusal}
use Rattle.chip.specs.Time.{timed, timed_cells}
use Rattle.chip.specs.Power.{delivered, delivered_memory, powered_up}
use Rattle.chip.specs.Records.{idle}
use Rattle.fields.specs.Bytes.{latched_from}
use Rattle.shown.proofs.Cases.{case_f}
use Rattle.frames.specs.Answers.{frame_outcome, frame_reply, framed, framed_output}
use Rattle.split.proofs.Cases.{case_g_parts, case_g_addresses, case_g_lengths}
use Rattle.driver_theorems.proofs.Cases.{case_h}
use Rattle.chip.proofs.Cases.{case_i, delivered_blanks}
use Rattle.starred.specs.Starred.{bytes_f, powered, Starred}

-- READ at FFFFh is not refused
read_taken : (size cells room : ℕ) → size ≡ m95512.size → cells ≡ m95512.page → room ≡ 5 → frame_outcome m95512 (delivered 0) size cells 5 40 room ≡ no_refusal
unfolding part_of pick in_ranges each zeros bit_on
read_taken size cells room e k r = rw (e, k, r) refl

read_answer : (m d : List ℕ) → length m ≡ m95512.size → length d ≡ m95512.page → (framed m95512 (delivered 0) m d true bytes_f 40 5).answer ≡ Ok 24
unfolding framed decode pick
read_answer m d e k = ap (λ (o : Outcome). frame_reply o 24) (read_taken (length m) (length d) 5 e k refl)

read_rolls : (m d out : List ℕ) → length m ≡ m95512.size → length d ≡ m95512.page → length out ≡ 5
    → framed_output m95512 (delivered 0) m d bytes_f 40 out ≡ 0xff ∷ 0xff ∷ 0xff ∷ get_or m 0xffff 0 ∷ get_or m 0x0000 0 ∷ []
unfolding framed_output pick
read_rolls m d out e k r = at_yes _ _ (ap is_done (read_taken (length m) (length d) (length out) e k r)) ∙ case_f m d

-- power-up over a blank memory counts every cell
over_blank : (s b a : Bool) (t : ℕ)
    → powered_up 0 false 5000 s b a t (delivered_memory m95512) ≡ record { answer = no_refusal; core = powered s b a t }
over_blank s b a t =
    let long : length (delivered_memory m95512) ≡ (part_of 0).size =
    length-replicate {A = ℕ} m95512.size 0xff ∙ sym (ap (λ (P : Part). P.size) row_plain) in
    let cycle : cycle_fits (part_of 0) 5000 ≡ true = ap (λ (P : Part). cycle_fits P 5000) row_plain in
    at_yes _ _ (eq-eqb _ _ long)
    ∙ at_yes _ _ refl
    ∙ at_yes _ _ cycle
    ∙ ap (λ (n : ℕ). record { answer = no_refusal; core = idle 0 false s b a 5000 t n }) (delivered_blanks m95512)

pub starred : Starred
unfolding part_of framed pick in_ranges each verdict_by decode latched_from zeros bit_on timed timed_cells stored table from
starred =
    record {
      powered_up_law = λ s b a t. over_blank s b a t;
      a = refl;
      b_55 = refl;
      b_57 = refl;
      b_56 = refl;
      c = refl;
      d_taken = refl;
      d_not_taken = refl;
      d_open = refl;
      d_protected = refl;
      e_idle = refl;
      e_wel = refl;
      e_cycle = refl;
      f_answer = read_answer;
      f_output = read_rolls;
      g_parts = case_g_parts;
      g_addresses = case_g_addresses;
      g_lengths = case_g_lengths;
      h_1000 = λ m d bytes s k e. (case_h m d bytes s k e).at_1000;
      h_700 = λ m d bytes s k e. (case_h m d bytes s k e).at_700;
      h_polls = λ m d bytes s k e. (case_h m d bytes s k e).polls_700;
      i = case_i;
      i_left = refl;
    }
