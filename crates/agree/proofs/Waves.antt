-- Any drawing of a list of frames comes to their plans: by the rule that drew each event, and the events of the pin model.
use Prim.Native.Nat.{ℕ}
use mathlib.Core.Bool.{Bool, true, false, not, beq}
use mathlib.Core.List.{List, [], ◌∷◌, ◌++◌, append-nil, append_assoc}
use mathlib.Core.Path.{◌≡◌, refl, sym, ap, ap₂, ◌∙◌, subst}
use lib.Dec.{T}
use lib.ListN.{length}
use Rattle.laws.specs.Pick.{pick}
use Rattle.codes.specs.Part.{Part}
use Rattle.codes.specs.Status.{bit}
use Rattle.chip.specs.Records.{waits_page, waits_identification}
use Rattle.chip.proofs.Within.{Within}
use Rattle.chip.proofs.Passing.{timed_length}
use Rattle.chip.proofs.Recounts.{timed_in_within}
use Rattle.frames.specs.Play.{FrameBench}
use Rattle.cuts.specs.declared.Choice.{Choice}
use Rattle.cuts.proofs.Leaves.{cut_within, cut_length}
use Rattle.timed_theorems.specs.Acts.{TimedAct, send, reading, cut_bench, acted_in_time}
use Rattle.timed_frames.specs.declared.Mode.{Mode}
use Rattle.timed_frames.specs.declared.Mode.TheVariants as mode
use Rattle.edges.specs.declared.Frame.{Frame}
use Rattle.edges.specs.declared.Level.{Level}
use Rattle.pins.specs.declared.Device.{Device}
use Rattle.pins.specs.declared.Event.{Event}
use Rattle.pins.specs.declared.Event.TheVariants.{S, C, D, W, Hold, Time}
use Rattle.edges.specs.Frames.{no_frame}
use Rattle.pins.specs.Devices.{pins_at, with_pins, with_held, with_frame, with_core, q}
use Rattle.pins.specs.Events.{on_s, on_c, on_d, on_w, on_hold, on_time}
use Rattle.pins.specs.Answers.{PinBench, pin_bench}
use Rattle.agree.specs.Drawings.{Happening, ◌▸◌}
use Rattle.agree.specs.Drawings.{Item, Phase, between, inside, paused, s_of, c_of, hold_of, stays, Sendable, readings_at, plan, Wave, data', stay', end'}
use Rattle.agree.specs.Drawings.{clock', protect', reading', cut', select', rise', fall', time', deselect', hold', idle', resume'}
use Rattle.agree.specs.Reports.{Note, Report, report, watched, frames_played}
use Rattle.agree.proofs.Ticks.{risen_in, fallen_in, shows, seen_of, end_of, met_of, decides_at, decides, decided_in}

-- a bench of the pin model: the device x but for its pins at these levels, held or not, its frame part and its record
abbrev pub standing : Device → (s c d w hold held : Bool) → Frame → FrameBench → PinBench
standing x s c d w hold held f b =
    pin_bench (with_pins (pins_at (bit s) (bit c) (bit d) (bit w) (bit hold)) (with_held held (with_frame f (with_core b.core x))))
    b.memory b.identification

-- it in a phase: held where HOLD is low
abbrev pub standing_in : Device → Phase → Bool → Bool → Frame → FrameBench → PinBench
standing_in x p d w f b = standing x (s_of p) (c_of p) d w (hold_of p) (not (hold_of p)) f b

-- a record inside the ranges, with slices of the part's lengths
pub record Ready (P : Part) (b : FrameBench) : Type 0 where
  pub within : Within P b.core
  pub memory : length b.memory ≡ P.size
  pub identification : length b.identification ≡ P.page

pub read_ready : (P : Part) (t : ℕ) (b : FrameBench) → Ready P b → Ready P (acted_in_time P (reading t) b)
read_ready P t b k =
    record {
      within = timed_in_within P t b.core b.memory k.within;
      memory = timed_length waits_page P t b.core b.memory ∙ k.memory;
      identification = timed_length waits_identification P t b.core b.identification ∙ k.identification;
    }

pub cut_ready : (P : Part) (h : Choice) (b : FrameBench) → Ready P b → Ready P (cut_bench P h b)
cut_ready P h b k =
    record {
      within = cut_within P h b.core b.memory k.within;
      memory = cut_length P h b.core waits_page b.memory ∙ k.memory;
      identification = cut_length P h b.core waits_identification b.identification ∙ k.identification;
    }

module _ {A : Type 0} (look : Level → A) (note : Note A) (P : Part) (x : Device) where
  -- a frame's report, and then the acts
  pub report_then : List TimedAct → List A → FrameBench → List (Report A)
  report_then ks seen b = report seen b ∷ frames_played note P ks b

  -- what the plan leaves: its frame part decides at deselect
  abbrev pub left_of : List Item → Bool → Frame → FrameBench → FrameBench
  left_of is w f b = decided_in P w (end_of P is f b) (met_of P is b)

  -- the plan's account of a frame with the items is left, then the acts
  pub plan_then : List Item → List TimedAct → Bool → Frame → FrameBench → List A → List (Report A)
  plan_then is ks w f b seen = report_then ks (seen ++ seen_of look P is f b) (left_of is w f b)

  -- what a drawing comes to, from each phase. That the frame leaves a bench ready is said of its end, so that no edge and no reading of it moves that
  abbrev pub Says : Phase → Bool → Bool → List Item → List TimedAct → List Happening → Type 0
  Says (between l) d w is ks es =
      (f : Frame) (b : FrameBench) → Ready P b → watched look P es [] (standing_in x (between l) d w f b) ≡ frames_played note P ks b
  Says (inside l) d w is ks es =
      (f : Frame) (b : FrameBench) (seen : List A) → Ready P (left_of is w f b)
      → watched look P es seen (standing_in x (inside l) d w f b) ≡ plan_then is ks w f b seen
  Says (paused l) d w is ks es =
      (f : Frame) (b : FrameBench) (seen : List A) → Ready P (left_of is w f b)
      → watched look P es seen (standing_in x (paused l) d w f b) ≡ plan_then is ks w f b seen

  -- ---- setting a pin to the level that it has

  stay_s : (a s c d w h z : Bool) (f : Frame) (b : FrameBench) (es : List Happening) (seen : List A) → T (beq a s)
      → watched look P (S a ▸ es) seen (standing x s c d w h z f b) ≡ watched look P es seen (standing x s c d w h z f b)
  unfolding watched on_s pick
  stay_s true true c d w h z f b es seen t = refl
  stay_s true false c d w h z f b es seen t = absurd t
  stay_s false true c d w h z f b es seen t = absurd t
  stay_s false false c d w h z f b es seen t = refl

  stay_c : (a s c d w h z : Bool) (f : Frame) (b : FrameBench) (es : List Happening) (seen : List A) → T (beq a c)
      → watched look P (C a ▸ es) seen (standing x s c d w h z f b) ≡ watched look P es seen (standing x s c d w h z f b)
  unfolding watched on_c pick
  stay_c true s true d w h z f b es seen t = refl
  stay_c true s false d w h z f b es seen t = absurd t
  stay_c false s true d w h z f b es seen t = absurd t
  stay_c false s false d w h z f b es seen t = refl

  stay_w : (a s c d w h z : Bool) (f : Frame) (b : FrameBench) (es : List Happening) (seen : List A) → T (beq a w)
      → watched look P (W a ▸ es) seen (standing x s c d w h z f b) ≡ watched look P es seen (standing x s c d w h z f b)
  unfolding watched on_w
  stay_w true s c d true h z f b es seen t = refl
  stay_w true s c d false h z f b es seen t = absurd t
  stay_w false s c d true h z f b es seen t = absurd t
  stay_w false s c d false h z f b es seen t = refl

  -- HOLD: held follows it, and does so already
  stay_hold : (p : Phase) (a d w : Bool) (f : Frame) (b : FrameBench) (es : List Happening) (seen : List A) → T (beq a (hold_of p))
      → watched look P (Hold a ▸ es) seen (standing_in x p d w f b) ≡ watched look P es seen (standing_in x p d w f b)
  unfolding watched on_hold pick
  stay_hold (between true) true d w f b es seen t = refl
  stay_hold (between false) true d w f b es seen t = refl
  stay_hold (between l) false d w f b es seen t = absurd t
  stay_hold (inside true) true d w f b es seen t = refl
  stay_hold (inside false) true d w f b es seen t = refl
  stay_hold (inside l) false d w f b es seen t = absurd t
  stay_hold (paused l) true d w f b es seen t = absurd t
  stay_hold (paused true) false d w f b es seen t = refl
  stay_hold (paused false) false d w f b es seen t = refl

  stay : (p : Phase) (w : Bool) (e : Event) → T (stays p w e) → (d : Bool) (f : Frame) (b : FrameBench) (es : List Happening) (seen : List A)
      → watched look P (e ▸ es) seen (standing_in x p d w f b) ≡ watched look P es seen (standing_in x p d w f b)
  stay p w (S a) t d f b es seen = stay_s a (s_of p) (c_of p) d w (hold_of p) (not (hold_of p)) f b es seen t
  stay p w (C a) t d f b es seen = stay_c a (s_of p) (c_of p) d w (hold_of p) (not (hold_of p)) f b es seen t
  stay p w (D a) t d f b es seen = absurd t
  stay p w (W a) t d f b es seen = stay_w a (s_of p) (c_of p) d w (hold_of p) (not (hold_of p)) f b es seen t
  stay p w (Hold a) t d f b es seen = stay_hold p a d w f b es seen t
  stay p w (Time n) t d f b es seen = absurd t

  -- ---- the drawing

  -- of every frame that is not refused: its plan sees what is noted of it, deselect leaves what the frame model leaves, and that is ready for more
  abbrev pub EachFrame : Type 0
  EachFrame =
      (w : Bool) (o : Mode) (s : List ℕ) (n : ℕ) (ps ts : List ℕ) (b : FrameBench) → Ready P b → Sendable P s n ps ts
      → let is = plan o (readings_at ps ts) 0 s n in
      let y = acted_in_time P (send w o s n ps ts) b in
      (seen_of look P is no_frame b ≡ note P b w o s n ps ts) × ((left_of is w no_frame b ≡ y) × Ready P y)

  module _ (each-frame : EachFrame) where
    pub says : {p : Phase} {d w : Bool} {is : List Item} {ks : List TimedAct} {es : List Happening} → Wave P p d w is ks es → Says p d w is ks es
    unfolding watched on_s on_c on_d on_w on_hold on_time q shows plan_then report_then frames_played seen_of end_of met_of decides decides_at pick
    says (data' {p = between l} d' r) = λ f b k. says r f b k
    says (data' {p = inside l} d' r) = λ f b seen k. says r f b seen k
    says (data' {p = paused l} d' r) = λ f b seen k. says r f b seen k
    says (stay' {p = between l} {d = d} {w = w} {es = es} a t r) = λ f b k. stay (between l) w a t d f b es [] ∙ says r f b k
    says (stay' {p = inside l} {d = d} {w = w} {es = es} a t r) = λ f b seen k. stay (inside l) w a t d f b es seen ∙ says r f b seen k
    says (stay' {p = paused l} {d = d} {w = w} {es = es} a t r) = λ f b seen k. stay (paused l) w a t d f b es seen ∙ says r f b seen k
    says end' = λ f b k. refl
    says (clock' {l = false} false r) = λ f b k. says r f b k
    says (clock' {l = false} true r) = λ f b k. says r f b k
    says (clock' {l = true} false r) = λ f b k. says r f b k
    says (clock' {l = true} true r) = λ f b k. says r f b k
    says (protect' v r) = λ f b k. says r f b k
    says (reading' t r) = λ f b k. says r f (acted_in_time P (reading t) b) (read_ready P t b k)
    says (cut' h r) = λ f b k. says r no_frame (cut_bench P h b) (cut_ready P h b k)
    says (select' {w = w} {ks = ks} mode.Zero s n ps ts h r) = λ f b k.
        let z = each-frame w mode.Zero s n ps ts b k h in
        says r no_frame b [] (subst (Ready P) (sym z.1.0) z.1.1) ∙ ap₂ (report_then ks) z.0 z.1.0
    says (select' {w = w} {ks = ks} mode.Three s n ps ts h r) = λ f b k.
        let z = each-frame w mode.Three s n ps ts b k h in
        says r no_frame b [] (subst (Ready P) (sym z.1.0) z.1.1) ∙ ap₂ (report_then ks) z.0 z.1.0
    says (rise' {d = d} {w = w} {is = is} {ks = ks} r) = λ f b seen k.
        let g = risen_in P b d f in
        says r g b (seen ++ (look (shows f) ∷ [])) k
        ∙ ap (λ l. report_then ks l (left_of is w g b)) (append_assoc seen (look (shows f) ∷ []) (seen_of look P is g b))
    says (fall' r) = λ f b seen k. says r (fallen_in P b f) b seen k
    says (time' t r) = λ f b seen k. says r f (acted_in_time P (reading t) b) seen k
    says (deselect' {l = false} {w = w} {ks = ks} r) = λ f b seen k.
        ap (λ l. report seen (decided_in P w f b) ∷ l) (says r no_frame (decided_in P w f b) k)
        ∙ ap (λ l. report_then ks l (decided_in P w f b)) (sym (append-nil seen))
    says (deselect' {l = true} {w = w} {ks = ks} r) = λ f b seen k.
        ap (λ l. report seen (decided_in P w f b) ∷ l) (says r no_frame (decided_in P w f b) k)
        ∙ ap (λ l. report_then ks l (decided_in P w f b)) (sym (append-nil seen))
    says (hold' r) = λ f b seen k. says r f b seen k
    says (idle' {l = false} false r) = λ f b seen k. says r f b seen k
    says (idle' {l = false} true r) = λ f b seen k. says r f b seen k
    says (idle' {l = true} false r) = λ f b seen k. says r f b seen k
    says (idle' {l = true} true r) = λ f b seen k. says r f b seen k
    says (resume' r) = λ f b seen k. says r f b seen k
