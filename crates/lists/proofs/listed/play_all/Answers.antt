use native.Mathlib.Omega.{arith}
use Prim.Native.Nat.{ℕ, ◌+◌}
use mathlib.Core.Bool.{false}
use mathlib.Core.List.{List}
use mathlib.Core.Path.{◌≡◌, refl, ap, sym, subst, ◌∙◌}
use lib.ListN.{take, get_or, set, length-set}
use Rattle.laws.specs.Pick.{yes_so, no_so}
use Rattle.laws.specs.Filled.{filled, filled_none, filled_all}
use Rattle.codes.specs.Part.{Part, part_of}
use Rattle.latch.specs.Latches.{zeros}
use Rattle.pins.specs.Answers.{PinBench, lent_to, next, after_event, pin_bench}
use Rattle.lists.specs.Answers.{played_q}
use Rattle.lists.specs.Stretches.{Reached, Shows}
use Rattle.lists.specs.Ways.{whole, without_frame, is_whole, after_way, after_way_cells}
use Rattle.pins.specs.Devices.{device_part, q}
use Rattle.edges.specs.Falling.{level_number}
use Rattle.chip.specs.Records.{own_part, waits_page, waits_identification}
use Rattle.chip.specs.declared.Core.{Core}
use Rattle.latch.specs.declared.Latch.{Latch}
use Rattle.pins.specs.declared.Device.{Device}
use Rattle.pins.specs.declared.Event.{Event}
use Rattle.lists.specs.declared.Front.{Front}
use Rattle.lists.specs.declared.Way.{Way}
use Rattle.lists.specs.declared.Way.TheVariants.{Whole}
use Rattle.pins.specs.Events.{stepped, stepped_cells}
use Rattle.pins.proofs.Kept.{played_part}
use Rattle.lists.proofs.InPlace.{none_shown}
use Rattle.lists.proofs.Moves.{reached_more}
use Rattle.lists.proofs.Playing.{played_none, q_length}
use Rattle.lists.proofs.listed.play_all.Goals.{in-Data, in-Set, in-Rise, in-Latched, in-Fall, in-Clear, in-Pass, in-Whole}
use Rattle.lists.proofs.listed.play_all.Goals as goal

abbrev joined : Front → List ℕ → List ℕ → Core → Device
joined f b k c = whole f (record { bytes = b; marks = k }) c

-- .. and what is lent
abbrev apart : Front → List ℕ → List ℕ → Core → List ℕ → List ℕ → PinBench
apart f b k c m d = pin_bench (joined f b k c) m d

-- no bit is shown
no_q : {x : Device} (y : Device) {s h : ℕ} → x ≡ without_frame s h y → 2 ≡ level_number (q x)
unfolding q
no_q y {s = s} {h = h} e = rw e (sym (none_shown s h 0))

-- what a way leaves of both that are lent
abbrev Lents : Event → Way → PinBench → List ℕ → List ℕ → Type 0
Lents e w h m d =
    (m ≡ after_way_cells waits_page (device_part h.device) e w h.device h.memory)
    × (d ≡ after_way_cells waits_identification (device_part h.device) e w h.device h.identification)

-- by an arm that hands them on
lents_same : (e : Event) (w : Way) (h : PinBench) {m d : List ℕ} → is_whole w ≡ false → m ≡ h.memory → d ≡ h.identification → Lents e w h m d
lents_same e w h part p r = (no_so _ part p, no_so _ part r)

-- what is shown of an arm, where w is the way of e at a bench h: the device in its parts and what is lent are those after
-- the way, and Q is what the device shows
abbrev Gone : Event → Way → PinBench → Front → List ℕ → List ℕ → Core → List ℕ → List ℕ → ℕ → Type 0
Gone e w h f b k c m d v =
    (joined f b k c ≡ after_way (device_part h.device) (lent_to h) e w h.device)
    × (v ≡ level_number (q (joined f b k c))) × Lents e w h m d

-- of one that hands on what is lent: w is its way, and f, b, k and c are what it leaves of the device
handed_on : (e : Event) (h : PinBench) {r w : Way} {g f : Front} {bs b ks k m d : List ℕ} {x c : Core} {v : ℕ} → r ≡ w → is_whole w ≡ false
    → m ≡ h.memory → d ≡ h.identification → g ≡ f → bs ≡ b → ks ≡ k → x ≡ c
    → joined f b k c ≡ after_way (device_part h.device) (lent_to h) e w h.device
    → v ≡ level_number (q (joined f b k c)) → Gone e r h g bs ks x m d v
handed_on e h {r = r} way part m d front bytes marks core after shows = (
  rw (front, bytes, marks, core, way) after,
  rw (front, bytes, marks, core) shows,
  lents_same e r h (ap is_whole way ∙ part) m d,
)

-- of the whole event
whole_on : (e : Event) (h : PinBench) {r : Way} {g f : Front} {bs b ks k m d : List ℕ} {x c : Core} {v : ℕ} → r ≡ Whole
    → m ≡ stepped_cells waits_page (device_part h.device) e h.device h.memory
    → d ≡ stepped_cells waits_identification (device_part h.device) e h.device h.identification
    → g ≡ f → bs ≡ b → ks ≡ k → x ≡ c
    → joined f b k c ≡ stepped (device_part h.device) (lent_to h) e h.device
    → v ≡ level_number (q (joined f b k c)) → Gone e r h g bs ks x m d v
whole_on e h way m d front bytes marks core after shows = (
  rw (front, bytes, marks, core, way) after,
  rw (front, bytes, marks, core) shows,
  (yes_so _ (ap is_whole way) m, yes_so _ (ap is_whole way) d),
)

-- and that is what the event does
told : (e : Event) (h : PinBench) (w : Way) {f : Front} {b k m d : List ℕ} {c : Core} {v : ℕ} → Gone e w h f b k c m d v
    → after_way (device_part h.device) (lent_to h) e w h.device ≡ stepped (device_part h.device) (lent_to h) e h.device
    → after_way_cells waits_page (device_part h.device) e w h.device h.memory ≡ stepped_cells waits_page (device_part h.device) e h.device h.memory
    → after_way_cells waits_identification (device_part h.device) e w h.device h.identification
    ≡ stepped_cells waits_identification (device_part h.device) e h.device h.identification
    → apart f b k c m d ≡ next (device_part h.device) e h
told e h w g x m d = rw (g.0 ∙ x, g.2.0 ∙ m, g.2.1 ∙ d) refl

-- Q and the front that shows it, by what an arm leaves
shown : {f g : Front} {u v : ℕ} → g ≡ f → v ≡ u → Shows f u → Shows g v
shown front same shows = rw (front, same) shows

pub loop-i-init : goal.loop-i-init
loop-i-init c = (
  omega arith,
  omega arith,
  omega arith,
  omega arith,
  (
    c.requires,
    played_none _ c.args.events.now _,
    filled_none _ _ 0,
  ),
  c.q-q.ensures _ _,
)

pub stretch_on-stretch-requires-clause-shows : goal.stretch_on-stretch-requires-clause-shows
unfolding q
stretch_on-stretch-requires-clause-shows c =
    let l = c.loop-i in
    elim c.match-way.branch [
      | in-Data w ↦ shown w.front-is w.q-is (λ a k. l.invariant.5)
      | in-Set w ↦ shown w.front-is w.q-is w.q-q-in-Set.ensures
      | in-Rise w ↦ shown w.front-is w.q-is (λ a k. l.invariant.5)
      | in-Latched w ↦ shown w.front-is w.q-is (λ a k. l.invariant.5)
      | in-Fall w ↦ shown w.front-is w.q-is w.q-q-in-Fall.ensures
      | in-Clear w ↦ shown w.front-is w.q-is (λ a k. no_q (joined l.front l.bytes l.marks l.core) (w.without_frame-front.ensures l.core))
      | in-Pass w ↦ shown w.front-is w.q-is (λ a k. l.invariant.5)
      | in-Whole w ↦ shown w.front-is w.q-is w.q-q-in-Whole.ensures
    ]

-- by each arm one event more is taken, and the stretch behind it leads on, at the part that no event changes
pub loop-i-preserved : goal.loop-i-preserved
unfolding q zeros
loop-i-preserved c =
    let l = c.loop-i in
    let args = c.args in
    let es = args.events.now in
    let a : Latch = record { bytes = l.bytes; marks = l.marks } in
    let P = own_part args.device.core in
    let r = c.stretch_on-stretch in
    let e = c.event_of-event.result in
    let n = c.match-way in
    -- the bench that the loop starts from, the one at its head, and the one behind the match
    let begun : PinBench = apart c.front_of-front.result args.device.frame.latch.bytes args.device.frame.latch.marks args.device.core
    args.memory.now args.identification.now in
    let head : PinBench = apart l.front l.bytes l.marks l.core l.memory l.identification in
    let left : PinBench = apart n.front n.bytes n.marks n.core n.memory n.identification in
    let gone : Gone e c.way_for-way.result head n.front n.bytes n.marks n.core n.memory n.identification n.q = elim c.match-way.branch [
      | in-Data w ↦ handed_on e head w.in-Data.is refl w.memory-is w.identification-is w.front-is w.bytes-is w.marks-is w.core-is refl
          (w.q-is ∙ l.invariant.5)
      | in-Set w ↦ handed_on e head w.in-Set.is refl w.memory-is w.identification-is w.front-is w.bytes-is w.marks-is w.core-is refl
          (w.q-is ∙ w.q-q-in-Set.ensures a l.core)
      | in-Rise w ↦ handed_on e head w.in-Rise.is refl w.memory-is w.identification-is w.front-is w.bytes-is w.marks-is w.core-is refl
          (w.q-is ∙ l.invariant.5)
      | in-Latched w ↦ handed_on e head w.in-Latched.is refl w.memory-is w.identification-is w.front-is
          (w.bytes-is ∙ w.latch_byte.ensures.bytes_after) (w.marks-is ∙ w.latch_byte.ensures.marks_after) w.core-is refl
          (w.q-is ∙ l.invariant.5)
      | in-Fall w ↦ handed_on e head w.in-Fall.is refl w.memory-is w.identification-is w.front-is w.bytes-is w.marks-is w.core-is refl
          (w.q-is ∙ w.q-q-in-Fall.ensures a l.core)
      | in-Clear w ↦ handed_on e head w.in-Clear.is refl w.memory-is w.identification-is w.front-is w.bytes-is w.marks-is w.core-is
          (w.without_frame-front.ensures _)
          (w.q-is ∙ no_q head.device (w.without_frame-front.ensures l.core))
      | in-Pass w ↦ handed_on e head w.in-Pass.is refl w.memory-is w.identification-is w.front-is w.bytes-is w.marks-is w.core-is refl
          (w.q-is ∙ l.invariant.5)
      | in-Whole w ↦ whole_on e head w.in-Whole.is
          (rw (w.memory-is, w.stepped-next.ensures.memory_after, w.whole.ensures) refl)
          (rw (w.identification-is, w.stepped-next.ensures.identification_after, w.whole.ensures) refl)
          w.front-is w.bytes-is w.marks-is w.core-is
          (rw (w.front_of-front-in-Whole.ensures, w.stepped-next.ensures.value, w.whole.ensures) refl)
          (w.q-is ∙ w.q-q-in-Whole.ensures a l.core)
    ] in
    let does = c.way_for-way.ensures in
    let after : left ≡ after_event (own_part l.core) (get_or es l.i 0) head =
    told e head c.way_for-way.result gone (does.by_index l.identification a) (does.m_value waits_page a l.memory) (does.m_value waits_identification a l.identification)
    ∙ ap (λ (x : Event). next (own_part l.core) x head) c.event_of-event.ensures in
    let kept : l.core.part ≡ args.device.core.part =
    ap (λ (x : PinBench). x.device.core.part) l.invariant.4.1 ∙ played_part P (take l.i es) begun in
    let one_more : Reached P es begun args.out.now (l.i + 1) left (set l.out l.i n.q) =
    reached_more P es begun args.out.now l.i head left l.out n.q (omega arith) l.invariant.4
    (after ∙ ap (λ (p : ℕ). after_event (part_of p) (get_or es l.i 0) head) kept) gone.1 in
    let kept_on : n.core.part ≡ args.device.core.part =
    ap (λ (x : PinBench). x.device.core.part) one_more.1 ∙ played_part P (take (l.i + 1) es) begun in
    let on : PinBench = apart r.result.front n.bytes n.marks n.core n.memory n.identification in (
      r.ensures.start_le_i.1,
      omega (arith, length-set {A = ℕ}),
      omega arith,
      omega arith,
      subst
          (λ (Q : Part). Reached Q es begun args.out.now (l.i + 1) left (set l.out l.i n.q)
          → Reached Q es begun args.out.now r.result.i on r.new.out)
          (ap part_of kept_on)
          (r.ensures.leads _ _ _ _ _ begun)
          one_more,
      r.ensures.shows_2 a l.core,
    )

pub returns-clause-out_after : goal.returns-clause-out_after
returns-clause-out_after c =
    let l = c.loop-i in
    let a = c.args in
    let same = c.requires in
    let es = a.events.now in
    let b : PinBench = pin_bench a.device a.memory.now a.identification.now in
    let from : Front → PinBench = λ f. apart f a.device.frame.latch.bytes a.device.frame.latch.marks a.device.core a.memory.now
    a.identification.now in
    let start : from c.front_of-front.result ≡ b = ap from
    c.front_of-front.ensures in
    let P = own_part a.device.core in
    l.invariant.4.2 ∙ ap (λ (x : PinBench). filled a.out.now (played_q P es x) l.i) start
    ∙ filled_all a.out.now (played_q P es b) 0 l.i (sym (q_length P es b ∙ sym same)) (omega arith)
