-- The part stays: no frame and no reading changes it, and so no list of them.
use mathlib.Core.Path.{◌≡◌, refl, ◌∙◌}
use mathlib.Core.List.{List, [], ◌∷◌}
use mathlib.Core.Bool.{Bool}
use Prim.Native.Nat.{ℕ}
use Rattle.laws.specs.Pick.{pick_case}
use Rattle.codes.specs.Part.{Part}
use Rattle.codes.specs.Verdicts.{is_executed}
use Rattle.chip.specs.Records.{running}
use Rattle.chip.specs.declared.Core.{Core}
use Rattle.chip.proofs.Kept.{timed_part, effect_part}
use Rattle.fields.specs.Bytes.{instruction}
use Rattle.frames.specs.After.{judged, after}
use Rattle.frames.specs.Play.{Act, frame, reading, FrameBench, acted, acted_all}

pub after_part_law : (P : Part) (ran w : Bool) (c : Core) (s : List ℕ) (n : ℕ) → (after P ran w c s n).part ≡ c.part
after_part_law P ran w c s n =
    pick_case (λ (x : Core). x.part ≡ c.part) (is_executed (judged P ran w c s n))
    (λ e. effect_part P (instruction P s) _ _ _ c) (λ e. refl)

pub acted_part : (P : Part) (a : Act) (d : FrameBench) → (acted P a d).core.part ≡ d.core.part
acted_part P (frame w s n) d = after_part_law P (running d.core) w d.core s n
acted_part P (reading t) d = timed_part P t d.core

pub acted_all_part : (P : Part) (acts : List Act) (d : FrameBench) → (acted_all P acts d).core.part ≡ d.core.part
acted_all_part P [] d = refl
acted_all_part P (a ∷ acts) d = acted_all_part P acts (acted P a d) ∙ acted_part P a d
