-- The statement is about something: every list of sendable frames has a drawing, with the readings inside each frame, and with a pause before each bit for
-- which one is asked: made act by act, item by item.
use Prim.Native.Nat.{ℕ, zero, suc, ◌<◌}
use mathlib.Core.Bool.{Bool, true, false, ◌&&◌}
use mathlib.Core.List.{List, [], ◌∷◌}
use mathlib.Core.Path.{◌≡◌, refl}
use lib.Dec.{ltb, leb}
use lib.ListN.{length, get_or}
use borrow.Author.Tests.{ltb-true, leb-true}
use native.Mathlib.Omega.{arith}
use Rattle.laws.specs.Pick.{pick, and_left, and_right}
use Rattle.codes.specs.Part.{Part, m95512}
use Rattle.fields.specs.Counts.{bits_fit, longest_frame}
use Rattle.timed_frames.specs.Schedules.{rising, places_fit}
use Rattle.timed_theorems.specs.Acts.{TimedAct, send, reading, cut}
use Rattle.timed_frames.specs.declared.Mode.{Mode}
use Rattle.timed_frames.specs.declared.Mode.TheVariants as mode
use Rattle.pins.specs.declared.Event.TheVariants.{S, C, D, W, Hold, Time}
use Rattle.agree.specs.Drawings.{Happening, gone, ◌▸◌}
use Rattle.agree.specs.Drawings.{rest, Item, up, down, readings_at, tells, pulses, plan, Phase, between, inside, Sendable, Wave, data', end', clock'}
use Rattle.agree.specs.Drawings.{protect', reading', cut', select', rise', fall', time', deselect', hold', idle', resume'}

-- ---- bytes that can be sent, by tests

unfoldable pub below : List ℕ → Bool
below [] = true
below (v ∷ vs) = ltb v 256 && below vs

all_below : (s : List ℕ) → below s ≡ true → (i : ℕ) → get_or s i 0 < 256
unfolding below
all_below [] e i = omega arith
all_below (v ∷ vs) e zero = ltb-true v 256 (and_left (ltb v 256) (below vs) e)
all_below (v ∷ vs) e (suc i) = all_below vs (and_right (ltb v 256) (below vs) e) i

pub sendable : (P : Part) (s : List ℕ) (n : ℕ) (ps ts : List ℕ) → below s ≡ true → leb (length s) (longest_frame P) ≡ true → bits_fit (length s) n ≡ true
    → places_fit n ps ts ≡ true → Sendable P s n ps ts
sendable P s n ps ts b l c p = record { bytes = all_below s b; short = leb-true _ _ l; counted = c; placed = p }

module _ (P : Part) where
  abbrev pub Drawn : Phase → Bool → Bool → List Item → List TimedAct → Type 0
  Drawn p d w is ks = (es : List Happening) × Wave P p d w is ks es

  module _ (t : List Item → Bool) (w : Bool) (ks : List TimedAct) where
    -- what comes, whatever D is
    abbrev Then : Phase → List Item → Type 0
    Then p is = (d : Bool) → Drawn p d w is ks

    tells_in : (ts : List ℕ) {is : List Item} {l : Bool} → Then (inside l) is → Then (inside l) (tells ts is)
    unfolding tells
    tells_in [] x = x
    tells_in (u ∷ ts) x = λ d. let y = tells_in ts x d in (Time u ▸ y.0, time' u y.1)

    -- C rises with b on D; p: after a pause, in which C rises and falls once
    one_up : (p b : Bool) {is : List Item} → Then (inside true) is → Then (inside false) (up b ∷ is)
    one_up true b x = λ d.
        (Hold false ▸ C true ▸ C false ▸ Hold true ▸ D b ▸ C true ▸ (x b).0, hold' (idle' true (idle' false (resume' (data' b (rise' (x b).1))))))
    one_up false b x = λ d. (D b ▸ C true ▸ (x b).0, data' b (rise' (x b).1))

    -- t: whether to pause before the first of the items still to come
    up_in : (b : Bool) {is : List Item} → Then (inside true) is → Then (inside false) (up b ∷ is)
    up_in b {is = is} x = one_up (t (up b ∷ is)) b x

    down_in : {is : List Item} → Then (inside false) is → Then (inside true) (down ∷ is)
    down_in x = λ d. (C false ▸ (x d).0, fall' (x d).1)

    pulses_in : (o : Mode) (k v n : ℕ) (is : ℕ → List Item) → Then (inside (rest o)) [] → ((m : ℕ) → Then (inside (rest o)) (is m))
        → Then (inside (rest o)) (pulses o k v n is)
    unfolding pulses
    pulses_in o zero v n is x y = y n
    pulses_in o (suc k) v zero is x y = x
    pulses_in mode.Zero (suc k) v (suc n) is x y = up_in _ (down_in (pulses_in mode.Zero k v n is x y))
    pulses_in mode.Three (suc k) v (suc n) is x y = down_in (up_in _ (pulses_in mode.Three k v n is x y))

    plan_in : (o : Mode) (times : ℕ → List ℕ) (j : ℕ) (s : List ℕ) (n : ℕ) → Then (inside (rest o)) [] → Then (inside (rest o)) (plan o times j s n)
    unfolding plan
    plan_in o times j [] n x = tells_in (times j) x
    plan_in o times j (v ∷ vs) n x =
        tells_in (times j) (pulses_in o 8 v n (plan o times (suc j) vs) x (λ m. plan_in o times (suc j) vs m x))

  abbrev pub AllSendable : List TimedAct → Type 0
  AllSendable [] = Unit {0}
  AllSendable (send w o s n ps ts ∷ ks) = Sendable P s n ps ts × AllSendable ks
  AllSendable (reading t ∷ ks) = AllSendable ks
  AllSendable (cut h ∷ ks) = AllSendable ks

  -- t: whether to pause before each bit of the frame that begins at each act. W is set before each select
  pub drawn : (t : List TimedAct → List Item → Bool) (ks : List TimedAct) → AllSendable ks → (l d w : Bool) → Drawn (between l) d w [] ks
  drawn t [] h l d w = ([], end')
  drawn t (send v o s n ps ts ∷ ks) h l d w =
      let x = plan_in (t (send v o s n ps ts ∷ ks)) v ks o (readings_at ps ts) 0 s n
      (λ d'. let y = drawn t ks h.1 (rest o) d' v in (S true ▸ y.0, deselect' y.1)) d in
      (C (rest o) ▸ W v ▸ S false ▸ x.0, clock' (rest o) (protect' v (select' o s n ps ts h.0 x.1)))
  drawn t (reading u ∷ ks) h l d w = let x = drawn t ks h l d w in (Time u ▸ x.0, reading' u x.1)
  drawn t (cut o ∷ ks) h l d w = let x = drawn t ks h false false true in (gone o ∷ x.0, cut' o x.1)

-- ---- one bit, drawn in each mode, without a pause and with one

abbrev pub single : Mode → List TimedAct
single o = send true o (0x80 ∷ []) 1 [] [] ∷ []

pub single_sendable : (o : Mode) → AllSendable m95512 (single o)
unfolding below pick rising
single_sendable o = (sendable m95512 (0x80 ∷ []) 1 [] [] refl refl refl refl, tt)

abbrev pub singly : Mode → Bool → List Happening
singly o t = (drawn m95512 (λ _ _. t) (single o) (single_sendable o) false false true).0

pub record OneBit : Type 0 where
  pub plain0 : singly mode.Zero false ≡ C false ▸ W true ▸ S false ▸ D true ▸ C true ▸ C false ▸ S true ▸ []
  pub plain3 : singly mode.Three false ≡ C true ▸ W true ▸ S false ▸ C false ▸ D true ▸ C true ▸ S true ▸ []
  pub paused0 :
      singly mode.Zero true
      ≡ C false ▸ W true ▸ S false ▸ Hold false ▸ C true ▸ C false ▸ Hold true ▸ D true ▸ C true ▸ C false ▸ S true ▸ []
  pub paused3 :
      singly mode.Three true
      ≡ C true ▸ W true ▸ S false ▸ C false ▸ Hold false ▸ C true ▸ C false ▸ Hold true ▸ D true ▸ C true ▸ S true ▸ []

pub one_bit_drawn : OneBit
unfolding drawn plan_in pulses_in up_in one_up down_in tells_in plan pulses tells readings_at
one_bit_drawn = record { plain0 = refl; plain3 = refl; paused0 = refl; paused3 = refl }

-- ---- nine bits with a reading at position 0 and one at 1: after the eighth bit's falling edge in mode 0, before that edge in mode 3

abbrev pub told : Mode → List TimedAct
told o = send true o (0xff ∷ 0x80 ∷ []) 9 (0 ∷ 1 ∷ []) (7 ∷ 9 ∷ []) ∷ []

pub told_sendable : (o : Mode) → AllSendable m95512 (told o)
unfolding below pick rising
told_sendable o = (sendable m95512 (0xff ∷ 0x80 ∷ []) 9 (0 ∷ 1 ∷ []) (7 ∷ 9 ∷ []) refl refl refl refl, tt)

abbrev pub told_in : Mode → List Happening
told_in o = (drawn m95512 (λ _ _. false) (told o) (told_sendable o) false false true).0

-- one bit at 1, from C at rest to C at rest
abbrev pub pulse0 : List Happening → List Happening
pulse0 es = D true ▸ C true ▸ C false ▸ es

abbrev pub pulse3 : List Happening → List Happening
pulse3 es = C false ▸ D true ▸ C true ▸ es

pub record Told : Type 0 where
  pub mode0 :
      told_in mode.Zero
      ≡ C false ▸ W true ▸ S false ▸ Time 7 ▸ pulse0 (pulse0 (pulse0 (pulse0 (pulse0 (pulse0 (pulse0 (pulse0 (Time 9 ▸ pulse0 (S true ▸ [])))))))))
  pub mode3 :
      told_in mode.Three
      ≡ C true ▸ W true ▸ S false ▸ Time 7 ▸ pulse3 (pulse3 (pulse3 (pulse3 (pulse3 (pulse3 (pulse3 (pulse3 (Time 9 ▸ pulse3 (S true ▸ [])))))))))

pub told_drawn : Told
unfolding drawn plan_in pulses_in up_in one_up down_in tells_in plan pulses tells readings_at pick
told_drawn = record { mode0 = refl; mode3 = refl }
