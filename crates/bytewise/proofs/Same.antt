-- Marks as words and marks as bytes are one: through the view, each event of the one form is that of the other, with
-- its memory, its Q and its ranges; so is each list of events, each frame and each reading.
use Prim.Native.Nat.{ℕ, ◌/◌, ◌%◌, ◌<◌}
use mathlib.Core.Bool.{Bool, true, false, not, ◌&&◌}
use mathlib.Core.List.{List, [], ◌∷◌}
use mathlib.Core.Path.{◌≡◌, refl, sym, ap, ap₂, ◌∙◌}
use native.Mathlib.Nat.{mod-lt}
use lib.Dec.{eqb, leb, ltb}
use lib.ListN.{length, length-set, length-replicate}
use Rattle.laws.specs.Pick.{pick, pick_case, pick_ap}
use Rattle.codes.specs.Part.{Part, room_words}
use Rattle.codes.specs.Status.{bit, on}
use Rattle.codes.specs.Instructions.{decode, picks_lock}
use Rattle.codes.specs.Verdicts.{is_executed}
use Rattle.codes.proofs.Sound.{Sound}
use Rattle.codes.specs.declared.Instruction.{Instruction}
use Rattle.codes.specs.declared.Instruction.TheVariants.{Wren, Wrdi, Rdsr, Wrsr, Read, Write, Rdid, Wrid, Silence}
use Rattle.latch.specs.Latches.{zeros, no_latch, latch_fits}
use Rattle.latch.specs.declared.Latch.{Latch}
use Rattle.latch.proofs.Fitting.{none_latched}
use Rattle.blanks.specs.Blanks.{recounted}
use Rattle.chip.specs.Lents.{Lent, lent}
use Rattle.chip.specs.Records.{waits_page, waits_identification, waits_status, with_time, without_cycle}
use Rattle.chip.specs.Ranges.{flags_fit, time_fits, tied, value_fits, page_fits, in_ranges}
use Rattle.chip.specs.Effects.{effect}
use Rattle.chip.specs.Time.{ends, timed, timed_cells, timed_blank}
use Rattle.chip.specs.declared.Waiting.{Waiting}
use Rattle.chip.specs.declared.Core.{Core}
use Rattle.edges.specs.Rising.{shifted_in}
use Rattle.edges.specs.Ranges.{counts_fit, code_fits, address_fits, valued, out_fits, latches}
use Rattle.edges.specs.declared.Level.{Level}
use Rattle.fields.specs.Bytes.{instruction, written}
use Rattle.frames.specs.After.{judged, after}
use Rattle.pins.specs.Devices.{counting, q}
use Rattle.pins.specs.Events.{judged_now, stepped, stepped_cells, stepped_memory, stepped_identification, event_of}
use Rattle.pins.specs.Ranges.{pins_fit, held_fits, empty_fits, ran_fits, device_fits}
use Rattle.pins.specs.Answers.{PinBench, pin_bench, lent_to, played, next}
use Rattle.pins.specs.declared.Device.{Device}
use Rattle.pins.specs.declared.Event.{Event}
use Rattle.pins.specs.declared.Event.TheVariants.{S, C, D, W, Hold, Time}
use Rattle.bytewise.specs.Forms as forms
use Rattle.bytewise.specs.Forms.{Apart, waits_with, core_with, latches_with, rest_of, apart, CoreApart, core_apart}
use Rattle.bytewise.specs.Deeds.{Deed, keep, empty, latching, send, clear, finish, hand_after, waits_after, executed_deed, byte_deed, rising_deed, deed_of}
use Rattle.bytewise.specs.Deeds.{read_blank, renumbered, form_rest, form_stepped, form_cells, form_fits}
use Rattle.bytewise.specs.Deeds.{FormBench, form_next, form_played, form_framed, form_read, read_cells, form_core_fits}
use Rattle.bytewise.specs.Bytewise.{Bytewise, byte_form, view, viewed, core_viewed}
use Rattle.bytewise.proofs.View.{view_none, view_latched, view_fits, view_stored, view_written}
use Rattle.bytewise.proofs.Doing.{stepped_does}

-- ---- a deed through the view

module _ (P : Part) (sound : Sound P) where
  -- the cell of a byte is one of the page
  abbrev Small : Deed → Type 0
  Small keep = Unit {0}
  Small empty = Unit {0}
  Small (latching i v) = i < P.page
  Small send = Unit {0}
  Small clear = Unit {0}
  Small finish = Unit {0}

  abbrev Whole : Latch → Type 0
  Whole l = length l.marks ≡ room_words

  hand_viewed : (d : Deed) (h : Latch) → Small d → Whole h
      → view (hand_after (forms.words P) d h) ≡ hand_after (byte_form P) d (view h)
  hand_viewed keep h s e = refl
  hand_viewed empty h s e = view_none P sound
  hand_viewed (latching i v) h s e = view_latched P sound i v h e s
  hand_viewed send h s e = view_none P sound
  hand_viewed clear h s e = view_none P sound
  hand_viewed finish h s e = refl

  pub waits_viewed : (d : Deed) (h w : Latch)
      → view (waits_after (forms.words P) d h w) ≡ waits_after (byte_form P) d (view h) (view w)
  waits_viewed keep h w = refl
  waits_viewed empty h w = refl
  waits_viewed (latching i v) h w = refl
  waits_viewed send h w = refl
  waits_viewed clear h w = view_none P sound
  waits_viewed finish h w = view_none P sound

  none_whole : Whole no_latch
  unfolding zeros
  none_whole = length-replicate {A = ℕ} room_words 0

  hand_whole : (d : Deed) (h : Latch) → Whole h → Whole (hand_after (forms.words P) d h)
  hand_whole keep h e = e
  hand_whole empty h e = none_whole
  hand_whole (latching i v) h e = length-set h.marks (i / 64) _ ∙ e
  hand_whole send h e = none_whole
  hand_whole clear h e = none_whole
  hand_whole finish h e = e

  waits_whole : (d : Deed) (h w : Latch) → Whole h → Whole w → Whole (waits_after (forms.words P) d h w)
  waits_whole keep h w e k = k
  waits_whole empty h w e k = k
  waits_whole (latching i v) h w e k = k
  waits_whole send h w e k = e
  waits_whole clear h w e k = none_whole
  waits_whole finish h w e k = none_whole

  -- ---- every deed's cell

  executed_small : (i : Instruction) (a : ℕ) → Small (executed_deed i a)
  executed_small Wren a = tt
  executed_small Wrdi a = tt
  executed_small Rdsr a = tt
  executed_small Wrsr a = tt
  executed_small Read a = tt
  executed_small Write a = tt
  executed_small Rdid a = tt
  executed_small Wrid a = pick_case Small (picks_lock a) (λ e. tt) (λ e. tt)
  executed_small Silence a = tt

  byte_small : (i : Instruction) (n v a : ℕ) → Small (byte_deed P i n v a)
  byte_small Wren n v a = tt
  byte_small Wrdi n v a = tt
  byte_small Rdsr n v a = tt
  byte_small Wrsr n v a = tt
  byte_small Read n v a = tt
  byte_small Write n v a = pick_case Small (leb n P.address_bytes) (λ e. tt) (λ e. mod-lt a sound.page_some)
  byte_small Rdid n v a = tt
  byte_small Wrid n v a =
      pick_case Small (leb n P.address_bytes) (λ e. tt) (λ e. pick_case Small (picks_lock a) (λ p. tt) (λ p. mod-lt a sound.page_some))
  byte_small Silence n v a = tt

  deed_small : (e : Event) (x : Device) → Small (deed_of P e x)
  deed_small (S level) x =
      pick_case Small (eqb x.pins.s (bit level)) (λ e. tt)
      (λ e. pick_case Small level
      (λ l. pick_case Small (is_executed (judged_now P x)) (λ k. executed_small (decode P x.frame.code) x.frame.address) (λ k. tt)) (λ l. tt))
  deed_small (C level) x =
      pick_case Small (eqb x.pins.c (bit level)) (λ e. tt)
      (λ e. pick_case Small level
      (λ l. pick_case Small (counting x)
      (λ k. pick_case Small (ltb x.frame.bits 7) (λ b. tt)
      (λ b. pick_case Small (eqb x.frame.taken 0) (λ z. tt)
      (λ z. byte_small (decode P x.frame.code) x.frame.taken (shifted_in x.frame.partial x.pins.d) x.frame.address)))
      (λ k. tt)) (λ l. tt))
  deed_small (D level) x = tt
  deed_small (W level) x = tt
  deed_small (Hold level) x = tt
  deed_small (Time t) x = pick_case Small (ends t x.core) (λ e. tt) (λ e. tt)

  -- ---- an event

  -- the number of blank cells
  blank_same : (t : ℕ) (c : Core) (w : Latch) (m : List ℕ) → read_blank (forms.words P) P t c w m ≡ read_blank (byte_form P) P t c (view w) m
  blank_same t c w m =
      ap (λ (s : List ℕ). pick (ends t c) (pick (waits_page c.waits) (recounted P c.blank m (pick (waits_page c.waits) s m)) c.blank) c.blank)
      (sym (view_stored P sound c.waits.page w m))

  pub read_blank_same : (t : ℕ) (c : Core) (m : List ℕ)
      → timed_blank P t c m ≡ read_blank (byte_form P) P t (core_with no_latch c) (view c.waits.latch) m
  unfolding timed_blank
  read_blank_same t c m = blank_same t (core_with no_latch c) c.waits.latch m

  module _ (m : Lent) (x : Device) where
    in_words : (e : Event) → apart (stepped P m e x) ≡ form_stepped (forms.words P) P m e (apart x)
    in_words (S level) = ap apart (stepped_does P x.frame.latch x.core.waits.latch (rest_of x) m (S level)).done
    in_words (C level) = ap apart (stepped_does P x.frame.latch x.core.waits.latch (rest_of x) m (C level)).done
    in_words (D level) = ap apart (stepped_does P x.frame.latch x.core.waits.latch (rest_of x) m (D level)).done
    in_words (W level) = ap apart (stepped_does P x.frame.latch x.core.waits.latch (rest_of x) m (W level)).done
    in_words (Hold level) = ap apart (stepped_does P x.frame.latch x.core.waits.latch (rest_of x) m (Hold level)).done
    in_words (Time t) = ap apart (stepped_does P x.frame.latch x.core.waits.latch (rest_of x) m (Time t)).done

    rest_same : (e : Event) → form_rest (forms.words P) P m e (apart x) ≡ form_rest (byte_form P) P m e (viewed (apart x))
    rest_same (S level) = refl
    rest_same (C level) = refl
    rest_same (D level) = refl
    rest_same (W level) = refl
    rest_same (Hold level) = refl
    rest_same (Time t) =
        ap (λ (n : ℕ). renumbered n (rest_of (stepped P m (Time t) (rest_of x)))) (blank_same t (rest_of x).core x.core.waits.latch m.memory)

  module _ (m : Lent) (e : Event) (x : Device) where
    -- marks as words are a form like any other
    pub words_stepped : apart (stepped P m e x) ≡ form_stepped (forms.words P) P m e (apart x)
    words_stepped = in_words m x e

    -- and marks as bytes do the same, seen through the view
    pub stepped_same : Whole x.frame.latch
        → viewed (apart (stepped P m e x)) ≡ form_stepped (byte_form P) P m e (viewed (apart x))
    stepped_same s =
        let hand = view (hand_after (forms.words P) (deed_of P e (rest_of x)) x.frame.latch) in
        let waits = view (waits_after (forms.words P) (deed_of P e (rest_of x)) x.frame.latch x.core.waits.latch) in
        ap viewed words_stepped
        ∙ ap (λ (r : Device). record { rest = r; hand = hand; waits = waits }) (rest_same m x e)
        ∙ ap₂ (λ (h w : Bytewise). record { rest = form_rest (byte_form P) P m e (viewed (apart x)); hand = h; waits = w })
        (hand_viewed (deed_of P e (rest_of x)) x.frame.latch (deed_small e (rest_of x)) s)
        (waits_viewed (deed_of P e (rest_of x)) x.frame.latch x.core.waits.latch)

    pub hand_sized : Whole x.frame.latch → Whole (stepped P m e x).frame.latch
    hand_sized s =
        ap (λ (a : Apart Latch). length a.hand.marks) words_stepped
        ∙ hand_whole (deed_of P e (rest_of x)) x.frame.latch s

    pub waits_sized : Whole x.frame.latch → Whole x.core.waits.latch → Whole (stepped P m e x).core.waits.latch
    waits_sized s k =
        ap (λ (a : Apart Latch). length a.waits.marks) words_stepped
        ∙ waits_whole (deed_of P e (rest_of x)) x.frame.latch x.core.waits.latch s k

  -- ---- its lent cells

  module _ (theirs : Waiting → Bool) (mine : (w : Waiting) → theirs w ≡ theirs (waits_with no_latch w)) where
    pub read_cells_same : (t : ℕ) (c : Core) (m : List ℕ)
        → timed_cells theirs P t c m ≡ read_cells theirs (byte_form P) t (core_with no_latch c) (view c.waits.latch) m
    unfolding timed_cells
    read_cells_same t c m =
        ap (λ (s : List ℕ). pick (ends t c) (pick (theirs c.waits) s m) m) (sym (view_stored P sound c.waits.page c.waits.latch m))
        ∙ ap (λ (o : Bool). pick (ends t c) (pick o ((byte_form P).store c.waits.page (view c.waits.latch) m) m) m) (mine c.waits)

    pub cells_same : (e : Event) (x : Device) (m : List ℕ)
        → stepped_cells theirs P e x m ≡ form_cells theirs (byte_form P) e (viewed (apart x)) m
    cells_same (S level) x m = refl
    cells_same (C level) x m = refl
    cells_same (D level) x m = refl
    cells_same (W level) x m = refl
    cells_same (Hold level) x m = refl
    cells_same (Time t) x m = read_cells_same t x.core m

  pub memory_same : (e : Event) (x : Device) (m : List ℕ)
      → stepped_memory P e x m ≡ form_cells waits_page (byte_form P) e (viewed (apart x)) m
  memory_same = cells_same waits_page (λ w. refl)

  pub identification_same : (e : Event) (x : Device) (m : List ℕ)
      → stepped_identification P e x m ≡ form_cells waits_identification (byte_form P) e (viewed (apart x)) m
  identification_same = cells_same waits_identification (λ w. refl)

  -- ---- Q

  pub q_same : (x : Device) → q x ≡ q (viewed (apart x)).rest
  unfolding q
  q_same x = refl

  -- ---- any list of events

  abbrev bench_apart : PinBench → FormBench Bytewise
  bench_apart b = record { device = viewed (apart b.device); memory = b.memory; identification = b.identification }

  pub played_same : (es : List ℕ) (b : PinBench) → Whole b.device.frame.latch
      → bench_apart (played P es b) ≡ form_played (byte_form P) P es (bench_apart b)
  unfolding played form_played
  played_same [] b s = refl
  played_same (e ∷ es) b s =
      played_same es (next P (event_of e) b) (hand_sized (lent_to b) (event_of e) b.device s)
      ∙ ap₂ (λ (d : Apart Bytewise) (m : Lent). form_played (byte_form P) P es (record { device = d; memory = m.memory; identification = m.identification }))
      (stepped_same (lent_to b) (event_of e) b.device s)
      (ap₂ lent (memory_same (event_of e) b.device b.memory) (identification_same (event_of e) b.device b.identification))
