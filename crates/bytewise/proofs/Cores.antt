-- The ranges of a device and of a core, a frame and a reading: the same in marks as words and in marks as bytes.
use Prim.Native.Nat.{ℕ}
use mathlib.Core.Bool.{Bool, true, false, ◌&&◌, ◌||◌}
use mathlib.Core.List.{List}
use mathlib.Core.Path.{◌≡◌, refl, sym, ap, ap₂, ◌∙◌}
use lib.Dec.{eqb}
use lib.ListN.{get_or}
use Rattle.laws.specs.Pick.{pick, pick_ap}
use Rattle.codes.specs.Part.{Part}
use Rattle.codes.specs.Instructions.{decode, picks_lock}
use Rattle.codes.specs.Verdicts.{is_executed}
use Rattle.codes.proofs.Sound.{Sound}
use Rattle.codes.specs.declared.Instruction.{Instruction}
use Rattle.codes.specs.declared.Instruction.TheVariants.{Wren, Wrdi, Rdsr, Wrsr, Read, Write, Rdid, Wrid, Silence}
use Rattle.latch.specs.Latches.{no_latch, latch_fits}
use Rattle.latch.specs.declared.Latch.{Latch}
use Rattle.latch.proofs.Fitting.{none_latched}
use Rattle.chip.specs.Records.{waits_latch, waits_status, waits_lock, with_time, with_blank, without_cycle}
use Rattle.chip.specs.Ranges.{flags_fit, time_fits, tied, value_fits, page_fits, wait_fits, blank_fits, in_ranges}
use Rattle.chip.specs.Effects.{effect}
use Rattle.chip.specs.Time.{ends, timed, timed_in}
use Rattle.chip.specs.declared.Waiting.{Waiting}
use Rattle.chip.specs.declared.Core.{Core}
use Rattle.edges.specs.Frames.{with_latch}
use Rattle.edges.specs.Ranges.{counts_fit, code_fits, address_fits, valued, out_fits, latches, frame_fits}
use Rattle.edges.specs.declared.Frame.{Frame}
use Rattle.fields.specs.Bytes.{instruction, address, written}
use Rattle.frames.specs.After.{judged, after}
use Rattle.pins.specs.Ranges.{pins_fit, held_fits, empty_fits, ran_fits, device_fits}
use Rattle.pins.specs.declared.Device.{Device}
use Rattle.bytewise.specs.Forms as forms
use Rattle.bytewise.specs.Forms.{core_with, latches_with, rest_of, apart, CoreApart, core_apart}
use Rattle.bytewise.specs.Deeds.{waits_after, executed_deed, form_fits, form_framed, form_read, form_core_fits, written_in}
use Rattle.bytewise.specs.Bytewise.{Bytewise, no_bytes, byte_form, view, viewed, core_viewed}
use Rattle.bytewise.proofs.View.{view_none, view_fits, view_written}
use Rattle.bytewise.proofs.Same.{waits_viewed, read_blank_same}

-- what holds of both sides of a choice, through two functions
both_ways : {A B D : Type 0} (t : Bool) (G : A → D) (K : B → D) {a b : A} {c d : B} → G a ≡ K c → G b ≡ K d
    → G (pick t a b) ≡ K (pick t c d)
unfolding pick
both_ways true G K p q = p
both_ways false G K p q = q

-- ---- the ranges

-- the last of some tests in front of the others, true in its place
last_first : (a b l : Bool) → (a && (b && l)) ≡ (l && (a && (b && true)))
last_first false b true = refl
last_first false b false = refl
last_first true false true = refl
last_first true false false = refl
last_first true true true = refl
last_first true true false = refl

-- two tests out of their groups
both_first : (a f l e r i k : Bool) → (a && (l && f) && e && r && (k && i)) ≡ (l && k && (a && f && e && r && i))
both_first false f false e r i k = refl
both_first true f false e r i k = refl
both_first false f true e r i true = refl
both_first true false true e r i true = refl
both_first true true true false r i true = refl
both_first true true true true false i true = refl
both_first true true true true true i true = refl
both_first false f true e r i false = refl
both_first true false true e r i false = refl
both_first true true true false r i false = refl
both_first true true true true false i false = refl
both_first true true true true true i false = refl

regrouped : (a b c : Bool) → (a && b && c) ≡ (a && (b && c))
regrouped true b c = refl
regrouped false true c = refl
regrouped false false true = refl
regrouped false false false = refl

module _ (P : Part) (sound : Sound P) where
  -- an empty latch passes its test
  empty_true : (may : Bool) → true ≡ latch_fits P may no_latch
  empty_true may = sym (none_latched P may)

  core_first : (c : Core) → in_ranges P c ≡ (latch_fits P (waits_latch c.waits) c.waits.latch && in_ranges P (core_with no_latch c))
  unfolding in_ranges
  core_first c =
      let others = flags_fit c && time_fits P c && tied P c in
      let waiting = value_fits c.waits && page_fits P c.waits in
      let l = latch_fits P (waits_latch c.waits) c.waits.latch in
      let all = others && (waiting && latch_fits P (waits_latch c.waits) no_latch) in
      ap (λ (t : Bool). t && blank_fits P c)
      (last_first others waiting l ∙ ap (λ (t : Bool). l && (others && (waiting && t))) (empty_true (waits_latch c.waits)))
      ∙ regrouped l all (blank_fits P c)

  frame_first : (f : Frame) → frame_fits P f
      ≡ (latch_fits P (latches P (decode P f.code) f.address f.taken) f.latch && frame_fits P (with_latch no_latch f))
  frame_first f =
      let i = decode P f.code in
      let others = counts_fit P f && code_fits f in
      let fields = address_fits P i f.taken f.address && (valued P i f.address f.taken || eqb f.value 0) && out_fits P i f in
      let l = latch_fits P (latches P i f.address f.taken) f.latch in
      last_first others fields l ∙ ap (λ (t : Bool). l && (others && (fields && t))) (empty_true (latches P i f.address f.taken))

  pub core_fits_same : (c : Core) → in_ranges P c ≡ form_core_fits (byte_form P) P (core_viewed (core_apart c))
  core_fits_same c =
      core_first c
      ∙ ap (λ (t : Bool). t && in_ranges P (core_with no_latch c)) (sym (view_fits P sound (waits_latch c.waits) c.waits.latch))

  pub fits_same : (x : Device) → device_fits P x ≡ form_fits (byte_form P) P (viewed (apart x))
  unfolding device_fits
  fits_same x =
      let may = latches P (decode P x.frame.code) x.frame.address x.frame.taken in
      let pins = pins_fit x.pins && held_fits x.pins x.held in
      let frame = frame_fits P (with_latch no_latch x.frame) in
      let core = in_ranges P (core_with no_latch x.core) in
      let l = latch_fits P may x.frame.latch in
      let k = latch_fits P (waits_latch x.core.waits) x.core.waits.latch in
      ap₂ (λ (s t : Bool). pins && s && empty_fits x && ran_fits x && t) (frame_first x.frame) (core_first x.core)
      ∙ both_first pins frame l (empty_fits x) (ran_fits x) core k
      ∙ ap₂ (λ (s t : Bool). s && t && (pins && frame && empty_fits x && ran_fits x && core))
      (sym (view_fits P sound may x.frame.latch))
      (sym (view_fits P sound (waits_latch x.core.waits) x.core.waits.latch))

  -- ---- a frame

  abbrev apart_of : Core → Bytewise → CoreApart Bytewise
  apart_of c w = record { rest = c; waits = w }

  effect_waits : (i : Instruction) (a v : ℕ) (l : Latch) (c : Core)
      → (effect P i a v l c).waits.latch ≡ waits_after (forms.words P) (executed_deed i a) l c.waits.latch
  effect_waits Wren a v l c = refl
  effect_waits Wrdi a v l c = refl
  effect_waits Rdsr a v l c = refl
  effect_waits Wrsr a v l c = refl
  effect_waits Read a v l c = refl
  effect_waits Write a v l c = refl
  effect_waits Rdid a v l c = refl
  effect_waits Wrid a v l c =
      both_ways (picks_lock a) (λ (x : Waiting). x.latch) (λ d. waits_after (forms.words P) d l c.waits.latch) refl refl
  effect_waits Silence a v l c = refl

  effect_rest : (i : Instruction) (a v : ℕ) (l : Latch) (c : Core)
      → core_with no_latch (effect P i a v l c) ≡ core_with no_latch (effect P i a v l (core_with no_latch c))
  effect_rest Wren a v l c = refl
  effect_rest Wrdi a v l c = refl
  effect_rest Rdsr a v l c = refl
  effect_rest Wrsr a v l c = refl
  effect_rest Read a v l c = refl
  effect_rest Write a v l c = refl
  effect_rest Rdid a v l c = refl
  effect_rest Wrid a v l c = refl
  effect_rest Silence a v l c = refl

  pub framed_same : (ran w : Bool) (c : Core) (s : List ℕ) (n : ℕ)
      → core_viewed (core_apart (after P ran w c s n)) ≡ form_framed (byte_form P) P ran w s n (core_viewed (core_apart c))
  framed_same ran w c s n =
      let t = is_executed (judged P ran w c s n) in
      let i = instruction P s in
      let done = effect P i (address P s) (get_or s 1 0) (written P s) c in
      let rest_done = effect P i (address P s) (get_or s 1 0) (written P s) (core_with no_latch c) in
      ap₂ apart_of
      (pick_ap (core_with no_latch) t done c
      ∙ ap (λ (d : Core). pick t d (core_with no_latch c)) (effect_rest i (address P s) (get_or s 1 0) (written P s) c)
      ∙ sym (pick_ap (core_with no_latch) t rest_done (core_with no_latch c)))
      (pick_ap (λ (d : Core). view d.waits.latch) t done c
      ∙ ap (λ (b : Bytewise). pick t b (view c.waits.latch))
      (ap view (effect_waits i (address P s) (get_or s 1 0) (written P s) c)
      ∙ waits_viewed P sound (executed_deed i (address P s)) (written P s) c.waits.latch
      ∙ ap (λ (b : Bytewise). waits_after (byte_form P) (executed_deed i (address P s)) b (view c.waits.latch)) (view_written P sound s)))

  -- ---- a reading

  stopped_rest : (t : ℕ) (c : Core) → core_with no_latch (timed t c) ≡ timed t (core_with no_latch c)
  unfolding timed
  stopped_rest t c =
      both_ways (ends t c) (core_with no_latch) (λ d. d)
      (both_ways (waits_status c.waits) (λ d. core_with no_latch (with_time t 0 (without_cycle d)))
      (λ d. with_time t 0 (without_cycle d)) refl
      (both_ways (waits_lock c.waits) (λ d. core_with no_latch (with_time t 0 (without_cycle d)))
      (λ d. with_time t 0 (without_cycle d)) refl refl)) refl

  stopped_waits : (t : ℕ) (c : Core) → view (timed t c).waits.latch ≡ pick (ends t c) no_bytes (view c.waits.latch)
  unfolding timed
  stopped_waits t c = both_ways (ends t c) (λ (d : Core). view d.waits.latch) (λ b. b) (view_none P sound) refl

  pub read_same : (t : ℕ) (c : Core) (m : List ℕ)
      → core_viewed (core_apart (timed_in P t c m)) ≡ form_read (byte_form P) P t m (core_viewed (core_apart c))
  read_same t c m =
      ap₂ apart_of (ap₂ with_blank (read_blank_same P sound t c m) (stopped_rest t c)) (stopped_waits t c)
