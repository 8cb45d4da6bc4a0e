-- The calls on texts with records and players that are equal but for the number of blank cells: export and import of an image, a chunk of a trace text and
-- its end. Import hands back the same number, counted afresh.
use mathlib.Core.Path.{◌≡◌, refl, ap, ap₂, sym, subst, ◌∙◌}
use mathlib.Core.Bool.{Bool, true, false, ◌&&◌}
use mathlib.Core.List.{List, ◌++◌}
use Prim.Native.Nat.{ℕ, ◌+◌}
use lib.Dec.{eqb, leb}
use lib.ListN.{length}
use Rattle.laws.specs.Pick.{pick}
use Rattle.codes.specs.Part.{Part}
use Rattle.codes.specs.declared.Refusal.TheVariants.{MemoryLength, RecordRange, OutputLength}
use Rattle.blanks.specs.Blanks.{blanks}
use Rattle.chip.specs.Lents.{Lent}
use Rattle.chip.specs.Records.{own_part, with_blank}
use Rattle.chip.specs.Ranges.{in_ranges}
use Rattle.chip.specs.Blanks.{EqualBut}
use Rattle.chip.specs.Time.{lent_fits}
use Rattle.chip.specs.declared.Core.{Core}
use Rattle.std.proofs.Common.{Ok, Err}
use Rattle.intel_hex.specs.declared.HexError.TheVariants.{NotTaken, Refused}
use Rattle.intel_hex.specs.Numbers.{Imported}
use Rattle.intel_hex.specs.Writing.{image_text, image_room}
use Rattle.intel_hex.specs.Answers.{imaged, export_reply, export_output, takes, imported_cells, imported_to, import_answer, import_memory}
use Rattle.intel_hex.specs.Numbers.{HexAnswer}
use Rattle.pins.specs.declared.Device.{Device}
use Rattle.pins.specs.Devices.{device_part}
use Rattle.pins.specs.Ranges.{device_fits}
use Rattle.pins.specs.Answers.{PinBench, played}
use Rattle.lists.specs.Answers.{bench_with, played_q}
use Rattle.lines.specs.declared.Line.{Line}
use Rattle.lines.specs.Reading.{read, found, line_fits}
use Rattle.printing.specs.Printing.{printed}
use Rattle.printing.specs.Put.{put}
use Rattle.player.specs.declared.Player.{Player}
use Rattle.player.specs.Players.{head_fits, player_fits}
use Rattle.trace.specs.declared.Fed.{Fed}
use Rattle.trace.specs.Chunks.{headed_by, bad_line_between, played_lines, shown_lines, chunk_bench, chunk_output, room, refused_to, taken_by, ended_by, end_output}
use Rattle.trace.specs.Chunks.{feed_answer, feed_memory, feed_identification, feed_output, end_answer, end_written}
use Rattle.stores.specs.Blind.{Alike, unnumbered, DeviceAlike, PinBenchEqualBut, player_with, FedEqualBut}
use Rattle.stores.proofs.BlindFrames.{ranges_blind}
use Rattle.stores.proofs.BlindPins.{events_blind, events_q_blind}
use Rattle.stores.proofs.BlindDevices.{part_blind, fits_blind}

-- ---- images as Intel HEX

module _ (P : Part) (c d : Core) (a : Alike (own_part c) c d) (m : List ℕ) where
  own : in_ranges (own_part c) c ≡ in_ranges (own_part d) d
  own = ranges_blind (own_part c) c d a ∙ ap (λ (Q : Part). in_ranges Q d) (ap own_part a.same)

  pub export_blind : (n : ℕ) → export_reply P c m n ≡ export_reply P d m n
  export_blind n =
      ap₂ (λ (r : Bool) (x : Core). pick (eqb (length m) (own_part x).size)
      (pick r (pick (imaged P x) (pick {A = HexAnswer} (eqb n (image_room P)) (Ok tt) (Err (Refused OutputLength))) (Err NotTaken)) (Err (Refused RecordRange))) (Err (Refused MemoryLength))) own a.same

  pub export_output_blind : (out : List ℕ) → export_output P c m out ≡ export_output P d m out
  export_output_blind out =
      ap₂ (λ (r : Bool) (x : Core). pick (eqb (length m) (own_part x).size)
      (pick r (pick (imaged P x) (pick (eqb (length out) (image_room P)) (image_text P m) out) out) out) out) own a.same

  module _ (t : List ℕ) where
    -- the answers are equal once the records' numbers are
    imports : (u v w : Bool) (x y : Core) → EqualBut x y
        → let by : Core → Imported = λ (z : Core). pick u
        (pick v (pick w (imported_to (Ok tt) (with_blank (blanks (imported_cells P m t)) z)) (imported_to (Err NotTaken) z))
        (imported_to (Err (Refused RecordRange)) z)) (imported_to (Err (Refused MemoryLength)) z) in
        ((by x).answer ≡ (by y).answer) × EqualBut (by x).core (by y).core
    unfolding pick
    imports true true true x y e = (refl, e)
    imports true true false x y e = (refl, e)
    imports true false w x y e = (refl, e)
    imports false v w x y e = (refl, e)

    same : import_answer P d m t ≡ pick (eqb (length m) (own_part c).size) (pick (in_ranges (own_part c) c)
        (pick (takes P c t) (imported_to (Ok tt) (with_blank (blanks (imported_cells P m t)) d)) (imported_to (Err NotTaken) d)) (imported_to (Err (Refused RecordRange)) d))
        (imported_to (Err (Refused MemoryLength)) d)
    same =
        sym (ap₂ (λ (r : Bool) (x : Core). pick (eqb (length m) (own_part x).size) (pick r
        (pick (takes P x t) (imported_to (Ok tt) (with_blank (blanks (imported_cells P m t)) d)) (imported_to (Err NotTaken) d)) (imported_to (Err (Refused RecordRange)) d))
        (imported_to (Err (Refused MemoryLength)) d)) own a.same)

    pub import_blind : ((import_answer P c m t).answer ≡ (import_answer P d m t).answer) × EqualBut (import_answer P c m t).core (import_answer P d m t).core
    import_blind =
        let both = imports (eqb (length m) (own_part c).size) (in_ranges (own_part c) c) (takes P c t) c d a.same in
        (both.0 ∙ ap (λ (r : Imported). r.answer) (sym same), both.1 ∙ ap (λ (r : Imported). with_blank 0 r.core) (sym same))

    pub import_memory_blind : import_memory P c m t ≡ import_memory P d m t
    import_memory_blind =
        ap₂ (λ (r : Bool) (x : Core). pick (eqb (length m) (own_part x).size) (pick r (pick (takes P x t) (imported_cells P m t) m) m) m) own a.same

-- ---- a trace text: players that differ in the number alone

module _ (h : ℕ) (l : Line) (x y : Device) (a : DeviceAlike (device_part x) x y) where
  abbrev p : Player
  p = player_with h l x

  abbrev q : Player
  q = player_with h l y

  part : device_part x ≡ device_part y
  part = part_blind x y a.same

  pub player_blind : player_fits p ≡ player_fits q
  unfolding player_fits
  player_blind =
      ap (λ (r : Bool). head_fits p && line_fits l && r) (fits_blind (device_part x) x y a ∙ ap (λ (P : Part). device_fits P y) part)

  -- the end of the text
  ends : (u v : Bool)
      → FedEqualBut (pick u (pick v (ended_by p) (refused_to OutputLength p)) (refused_to RecordRange p))
      (pick u (pick v (ended_by q) (refused_to OutputLength q)) (refused_to RecordRange q))
  unfolding pick
  ends true true = record { answer = refl; headed = refl; line = refl; device = a.same; written = refl }
  ends true false = record { answer = refl; headed = refl; line = refl; device = a.same; written = refl }
  ends false v = record { answer = refl; headed = refl; line = refl; device = a.same; written = refl }

  pub finish_blind : (out : List ℕ) → FedEqualBut (end_answer p out) (end_answer q out)
  finish_blind out =
      let v = leb (room 0) (length out) in
      subst (λ (u : Bool). FedEqualBut (end_answer p out) (pick u (pick v (ended_by q) (refused_to OutputLength q)) (refused_to RecordRange q))) player_blind
      (ends (player_fits p) v)

  pub finish_output_blind : (out : List ℕ) → end_written p out ≡ end_written q out
  finish_output_blind out = ap (λ (u : Bool). pick u (pick (leb (room 0) (length out)) (put out 0 (end_output p)) out) out) player_blind

  -- a chunk
  module _ (m : Lent) (t out : List ℕ) where
    benches : PinBenchEqualBut (bench_with x m) (bench_with y m)
    benches = record { device = a.same; memory = refl; identification = refl }

    chunks : PinBenchEqualBut (chunk_bench p m t) (chunk_bench q m t)
    unfolding played_lines
    chunks =
        let e = events_blind (device_part x) (found l t) (bench_with x m) (bench_with y m) benches in
        let b : Part → PinBench = λ (P : Part). played P (found l t) (bench_with y m) in
        record {
          device = e.device ∙ ap (λ (P : Part). unnumbered (b P).device) part;
          memory = e.memory ∙ ap (λ (P : Part). (b P).memory) part;
          identification = e.identification ∙ ap (λ (P : Part). (b P).identification) part;
        }

    output : chunk_output p m t ≡ chunk_output q m t
    unfolding shown_lines
    output =
        ap (λ (qs : List ℕ). headed_by h ++ (printed (l.whole + 1) qs ++ bad_line_between l (read l t)))
        (events_q_blind (device_part x) (found l t) (bench_with x m) (bench_with y m) benches
        ∙ ap (λ (P : Part). played_q P (found l t) (bench_with y m)) part)

    abbrev lents : Bool
    lents = lent_fits (device_part x) (length m.memory) (length m.identification)

    abbrev roomy : Bool
    roomy = leb (room (length t)) (length out)

    same_lents : lents ≡ lent_fits (device_part y) (length m.memory) (length m.identification)
    same_lents = ap (λ (P : Part). lent_fits P (length m.memory) (length m.identification)) part

    feeds : (u v w : Bool)
        → FedEqualBut (pick u (pick v (pick w (taken_by p m t) (refused_to OutputLength p)) (refused_to RecordRange p)) (refused_to MemoryLength p))
        (pick u (pick v (pick w (taken_by q m t) (refused_to OutputLength q)) (refused_to RecordRange q)) (refused_to MemoryLength q))
    unfolding pick
    feeds true true true = record { answer = refl; headed = refl; line = refl; device = chunks.device; written = ap length output }
    feeds true true false = record { answer = refl; headed = refl; line = refl; device = a.same; written = refl }
    feeds true false w = record { answer = refl; headed = refl; line = refl; device = a.same; written = refl }
    feeds false v w = record { answer = refl; headed = refl; line = refl; device = a.same; written = refl }

    pub feed_blind : FedEqualBut (feed_answer p m t out) (feed_answer q m t out)
    feed_blind =
        let by : Bool → Bool → Fed = λ (u v : Bool).
        pick u (pick v (pick roomy (taken_by q m t) (refused_to OutputLength q)) (refused_to RecordRange q)) (refused_to MemoryLength q) in
        subst (FedEqualBut (feed_answer p m t out)) (ap₂ by same_lents player_blind) (feeds lents (player_fits p) roomy)

    -- what stands for a list, where the chunk is taken n and else k
    abbrev chosen : Bool → Bool → List ℕ → List ℕ → List ℕ
    chosen u v n k = pick u (pick v (pick roomy n k) k) k

    through : (n n' k : List ℕ) → n ≡ n'
        → chosen lents (player_fits p) n k ≡ chosen (lent_fits (device_part y) (length m.memory) (length m.identification)) (player_fits q) n' k
    through n n' k e =
        ap (λ (z : List ℕ). chosen lents (player_fits p) z k) e ∙ ap₂ (λ (u v : Bool). chosen u v n' k) same_lents player_blind

    pub feed_memory_blind : feed_memory p m t out ≡ feed_memory q m t out
    feed_memory_blind = through (chunk_bench p m t).memory (chunk_bench q m t).memory m.memory chunks.memory

    pub feed_identification_blind : feed_identification p m t out ≡ feed_identification q m t out
    feed_identification_blind = through (chunk_bench p m t).identification (chunk_bench q m t).identification m.identification chunks.identification

    pub feed_output_blind : feed_output p m t out ≡ feed_output q m t out
    feed_output_blind = through (put out 0 (chunk_output p m t)) (put out 0 (chunk_output q m t)) out (ap (put out 0) output)
