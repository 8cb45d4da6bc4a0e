-- A frame as its plan: edges and readings. Neither pins nor pauses nor modes stand here.
use Prim.Native.Nat.{ℕ, ◌+◌, ◌*◌, ◌-◌}
use mathlib.Core.Bool.{Bool, not, ◌&&◌}
use mathlib.Core.List.{List, [], ◌∷◌}
use lib.Dec.{leb}
use Rattle.laws.specs.Pick.{pick}
use Rattle.codes.specs.Part.{Part}
use Rattle.codes.specs.Status.{bit, on, bit_of}
use Rattle.chip.specs.Records.{running}
use Rattle.codes.specs.Instructions.{decode}
use Rattle.chip.specs.Questions.{barred}
use Rattle.codes.specs.Verdicts.{verdict, is_executed}
use Rattle.chip.specs.Effects.{effect}
use Rattle.chip.specs.declared.Core.{Core}
use Rattle.frames.specs.Play.{reading, FrameBench, frame_bench, acted}
use Rattle.edges.specs.declared.Frame.{Frame}
use Rattle.edges.specs.declared.Level.{Level}
use Rattle.edges.specs.declared.Level.TheVariants.{Z}
use Rattle.edges.specs.Rising.{risen}
use Rattle.edges.specs.Falling.{fallen, level_of}
use Rattle.agree.specs.Drawings.{Item, up, down, tell}
use Rattle.agree.specs.Reports.{lent_of}

-- the edges of a frame part, with the bench that it meets
abbrev pub risen_in : Part → FrameBench → Bool → Frame → Frame
risen_in P b d f = risen P (running b.core) (bit d) f

abbrev pub fallen_in : Part → FrameBench → Frame → Frame
fallen_in P b f = fallen P (lent_of b) b.core f

-- what Q shows of a frame
unfoldable pub shows : Frame → Level
shows f = pick (leb 1 f.shown) (level_of (bit_of (8 - f.shown) f.out)) Z

-- what is seen at the counted clocks
unfoldable pub seen_of : {A : Type 0} → (Level → A) → Part → List Item → Frame → FrameBench → List A
seen_of look P [] f b = []
seen_of look P (up d ∷ is) f b = look (shows f) ∷ seen_of look P is (risen_in P b d f) b
seen_of look P (down ∷ is) f b = seen_of look P is (fallen_in P b f) b
seen_of look P (tell t ∷ is) f b = seen_of look P is f (acted P (reading t) b)

-- the frame part after it
unfoldable pub end_of : Part → List Item → Frame → FrameBench → Frame
end_of P [] f b = f
end_of P (up d ∷ is) f b = end_of P is (risen_in P b d f) b
end_of P (down ∷ is) f b = end_of P is (fallen_in P b f) b
end_of P (tell t ∷ is) f b = end_of P is f (acted P (reading t) b)

-- the bench after it, but for what deselect decides
unfoldable pub met_of : Part → List Item → FrameBench → FrameBench
met_of P [] b = b
met_of P (up d ∷ is) b = met_of P is b
met_of P (down ∷ is) b = met_of P is b
met_of P (tell t ∷ is) b = met_of P is (acted P (reading t) b)

-- what deselect decides of a frame part, k bits past its whole bytes
unfoldable pub decides_at : Part → Core → Bool → ℕ → Frame → Core
decides_at P c w k f =
    let i = decode P f.code in
    pick (is_executed (verdict P i f.address f.value (8 * f.taken + k) (on f.ran) (on c.wel) (on c.srwd && not (on (bit w)))
    (barred P c i f.address) (on 0)))
    (effect P i f.address f.value f.latch c) c

unfoldable pub decides : Part → Core → Bool → Frame → Core
decides P c w f = decides_at P c w f.bits f

-- the bench that deselect leaves
abbrev pub decided_in : Part → Bool → Frame → FrameBench → FrameBench
decided_in P w f b = frame_bench (decides P b.core w f) b.memory b.identification
