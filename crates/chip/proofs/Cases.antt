-- Document 01's cases e and i of the definitions; WIP; and the records of power-up, which are inside the ranges.
use Rattle.codes.specs.declared.Refusal.{Refusal}
use Rattle.std.proofs.Common.{◌≡◌, ℕ, ◌%◌, ◌<◌, ◌≤◌, Bool, true, false, eqb, List, length, sym, refl, ap, ◌∙◌, arith, lit≤, le-ltb, lt-ltb, eqb-true, le-leb}
use lib.ListN.{length-replicate}
use Rattle.laws.specs.Pick.{pick_case}
use Rattle.codes.specs.Part.{Part, part_of, is_part}
use Rattle.codes.proofs.Parts.{of_each}
use Rattle.codes.specs.Status.{bit}
use Rattle.blanks.specs.Blanks.{blanks}
use Rattle.blanks.proofs.Blanking.{blanks_most, all_blank}
use Rattle.chip.specs.Records.{own_part, running, status, idle}
use Rattle.chip.specs.Ranges.{flags_fit, cycle_fits}
use Rattle.chip.specs.Time.{elapsed}
use Rattle.chip.specs.Blanks.{Counted}
use Rattle.chip.specs.Power.{quiet, delivered, unpowered, delivered_memory, delivered_identification, powered_up}
use Rattle.chip.specs.declared.Core.{Core}
use Rattle.chip.specs.declared.Answered.{Answered}
use Rattle.chip.proofs.Within.{Within, quiet_within}

-- e: SRWD, BP1, BP0 all 1, idle: 8Ch; with WEL 8Eh; in a cycle 8Fh
pub record CaseE (c : Core) : Type 0 where
  pub idle : c.wel ≡ 0 → c.left ≡ 0 → status c ≡ 0x8c
  pub with_wel_law : c.wel ≡ 1 → c.left ≡ 0 → status c ≡ 0x8e
  pub in_cycle : c.wel ≡ 1 → 0 < c.left → status c ≡ 0x8f

pub case_e : (c : Core) → c.srwd ≡ 1 → c.bp1 ≡ 1 → c.bp0 ≡ 1 → CaseE c
case_e c s b a =
    record {
      idle = λ w l. rw (s, b, a, w, l) refl;
      with_wel_law = λ w l. rw (s, b, a, w, l) refl;
      in_cycle = λ w h. rw (s, b, a, w, lt-ltb 0 c.left h) refl;
    }

-- i: old reading 4294967290, new 10: 16 elapsed
pub case_i : elapsed 4294967290 10 ≡ 16
case_i = refl

-- WIP, the low bit of the status byte, is 1 exactly when time is left
bit_small : (b : Bool) → bit b ≤ 1
bit_small true = lit≤ tt
bit_small false = lit≤ tt

pub wip : (c : Core) → status c % 2 ≡ bit (running c)
wip c = omega (arith, bit_small (running c))

pub wip_one : (c : Core) → 0 < c.left → status c % 2 ≡ 1
wip_one c h = wip c ∙ ap bit (lt-ltb 0 c.left h)

pub wip_none : (c : Core) → c.left ≡ 0 → status c % 2 ≡ 0
wip_none c h = wip c ∙ ap bit (le-ltb 0 c.left (omega arith))

-- power-up hands back a record inside the ranges, refused or not
idle_flags : (part : ℕ) (k s b a : Bool) (n t f : ℕ) → is_part part ≡ true → flags_fit (idle part k s b a n t f) ≡ true
idle_flags part k s b a n t f e =
    rw (e, le-leb (bit k) 1 (bit_small k), le-leb (bit s) 1 (bit_small s), le-leb (bit b) 1 (bit_small b), le-leb (bit a) 1 (bit_small a)) refl

-- each part's longest cycle is one of its cycles
pub longest_fits : (n : ℕ) → cycle_fits (part_of n) (part_of n).longest ≡ true
longest_fits n = of_each (λ (P : Part). cycle_fits P P.longest ≡ true) n refl refl refl

quiet_fits : (part f : ℕ) → is_part part ≡ true → f ≤ (part_of part).size → Within (own_part (quiet part f)) (quiet part f)
quiet_fits part f e h =
    quiet_within (part_of part) (quiet part f) (idle_flags part false false false false (part_of part).longest 0 f e) (longest_fits part) refl refl h

pub unpowered_within : Within (own_part unpowered) unpowered
unpowered_within = quiet_fits 0 0 refl (omega arith)

pub delivered_within : (part : ℕ) → Within (own_part (delivered part)) (delivered part)
delivered_within part =
    pick_case (λ (c : Core). Within (own_part c) c) (is_part part) (λ e. quiet_fits part (part_of part).size e (omega arith))
    (λ e. quiet_fits 0 (part_of 0).size refl (omega arith))

-- of the part that it was given, or of the M95512
pub powered_within : (part : ℕ) (k : Bool) (n : ℕ) (s b a : Bool) (t : ℕ) (m : List ℕ)
    → let c = (powered_up part k n s b a t m).core in Within (own_part c) c
powered_within part k n s b a t m =
    pick_case Good (eqb (length m) (part_of part).size)
    (λ h. pick_case Good (is_part part)
    (λ e. pick_case Good (cycle_fits (part_of part) n)
    (λ y. quiet_within (part_of part) _ (idle_flags part k s b a n t (blanks m) e) y refl refl
    (omega (arith, blanks_most m, eqb-true (length m) (part_of part).size h)))
    (λ y. unpowered_within))
    (λ e. unpowered_within))
    (λ h. unpowered_within)
  where
    Good : Answered (Unit {0}) Refusal → Type 0
    Good x = Within (own_part x.core) x.core

-- the memory and the identification page as delivered are as long as the part has them
pub delivered_size : (n : ℕ) → length (delivered_memory (part_of n)) ≡ (part_of n).size
delivered_size n = length-replicate {A = ℕ} (part_of n).size 0xff

pub delivered_page : (n : ℕ) → length (delivered_identification (part_of n)) ≡ (part_of n).page
delivered_page n = of_each (λ (P : Part). length (delivered_identification P) ≡ P.page) n refl refl refl

-- and every cell of the memory is blank: the number is right
pub delivered_blanks : (P : Part) → blanks (delivered_memory P) ≡ P.size
delivered_blanks P = all_blank P.size

pub delivered_counted : (part : ℕ) → let c = delivered part in Counted c (delivered_memory (own_part c))
delivered_counted part =
    pick_case (λ (c : Core). Counted c (delivered_memory (own_part c))) (is_part part) (λ e. sym (delivered_blanks (part_of part)))
    (λ e. sym (delivered_blanks (part_of 0)))
