-- One segment read and given, or not.
use Rattle.std.proofs.Common.{◌≡◌, ℕ, Bool, true, false, List, [], ◌∷◌, ◌++◌, length, take, refl, sym, ap, ◌∙◌, subst, arith}
use Rattle.std.proofs.Common.{append-nil, codes, decimal, Result, Ok, Err, IsErr}
use Rattle.qic_base.specs.Cartridge.{Cartridge}
use Rattle.qic_base.proofs.Steps.{Tells-map}
use Rattle.qic_base.proofs.Writing.{TakesBoth, Wrote-Wrote, Wrote-BrokeOff, BrokeOff-longer}
use Rattle.qic_base.specs.Acts.{Act, text_of, TapeFails, SinkFails, Went, Cut}
use Rattle.qic_base.specs.Alone.{no_source, around}
use Rattle.qic_base.proofs.Joins.{cut_is_longer, broke_first}
use Rattle.cartridge_spec.specs.Code.{IsCodeBlock}
use Rattle.cartridge_spec.specs.Says.{cells_of, Says, Data, LostSectors}
use Rattle.cartridge_laws.specs.Segment.{data_of}
use Rattle.cartridge_spec.specs.Shape.{mask_at, usable_count}
use Rattle.cartridge_laws.proofs.Segments.{count_of_cells}
use Rattle.cartridge_spec.specs.Volumes.{bytes_in}
use Rattle.segment_solve.specs.Faults.{store_fault}
use Rattle.segment_solve.specs.Reading.{HasSolved, Solves, IsRead}
use Rattle.segment_solve.specs.declared.fault.SegFault.{SegFault}
use Rattle.segment_io.proofs.Going.{tells_always}
use Rattle.command_spec.specs.Numbers.{AreTooMany}
use Rattle.command_spec.specs.Restore.{Piece, GivingEnd, Restored, LostIn, MismatchIn, PieceEnds, Restores}
use Rattle.command_spec.specs.Restore as restore
use Rattle.command_laws.specs.RestoreTerms.{act_of}
use Rattle.command_laws.proofs.RestoreEndings.{restores_is_function}
use Rattle.command_laws.specs.OutputText.{printed}
use Rattle.volume_output.specs.Output.{GaveVolume, VolumeCut, OutputEnds}
use Rattle.volume_output.specs.Piece.{piece_of, printed_act, part_text}
use Rattle.volume_output.proofs.Bytes.{Holds, data_bytes, count_of_bytes}
use Rattle.volume_output.proofs.Joining.{printed_none, printed_steps, none_given}
use Rattle.qic_base.specs.Sink as sinks
use Rattle.qic_base.specs.SinkCalls as sink_calls
use Rattle.qic_base.specs.Tape as tapes
use Rattle.qic_base.specs.TapeCalls as tape_calls
use Rattle.cartridge_spec.specs.Says as saying
use Rattle.segment_solve.specs.declared.fault.SegFault.TheVariants as seg

-- ---- the act of a piece as it is printed

one_printed : (lined : Bool) (piece : Piece) (act : Act) → printed lined (piece ∷ []) (act ∷ []) ≡ printed_act lined piece act ∷ []
one_printed true piece act = refl
one_printed false piece act = refl

no_steps : (lined : Bool) (piece : Piece) (sectors : List (List ℕ)) → (printed_act lined piece (act_of piece sectors)).steps ≡ []
no_steps true piece sectors = refl
no_steps false piece sectors = refl

text_printed : (lined : Bool) (piece : Piece) (sectors : List (List ℕ)) →
    text_of (printed lined (piece ∷ []) (act_of piece sectors ∷ [])) ≡ part_text lined piece sectors
text_printed lined piece sectors =
    ap text_of (one_printed lined piece (act_of piece sectors)) ∙ append-nil (part_text lined piece sectors)

-- ---- the text, in two parts

-- a text that broke off, by an answer that is a failure
pub broke_by : {K E : Type 0} {k : sinks.Meaning K} {a b : K} {text : List ℕ} (result : Result (Unit {0}) E) → IsErr result →
    sink_calls.BrokeOff k a b text → sink_calls.Writes k a b text result
broke_by (Ok done) failed broke = absurd (cc)
broke_by (Err e) failed broke = broke

module _ (lined : Bool) (segment count : ℕ) (sectors : List (List ℕ)) (is : lined ≡ true) where
  abbrev line : List ℕ
  line = codes "part " ++ decimal count ++ codes "\n"

  -- the line, and the bytes behind it
  lined_parts : line ++ take count (bytes_in sectors) ≡ part_text lined (piece_of segment count) sectors
  lined_parts = ap (λ (b : Bool). part_text b (piece_of segment count) sectors) (sym is)

  pub line_broke : {K : Type 0} {k : sinks.Meaning K} {a b : K} → sink_calls.BrokeOff k a b line →
      sink_calls.BrokeOff k a b (part_text lined (piece_of segment count) sectors)
  line_broke broke = BrokeOff-longer (take count (bytes_in sectors)) (part_text lined (piece_of segment count) sectors) lined_parts broke

  pub line_then : {K E : Type 0} (k : sinks.Meaning K) (a b c : K) (result : Result (Unit {0}) E) → TakesBoth k → sinks.Wrote k a b line →
      sink_calls.Writes k b c (take count (bytes_in sectors)) result →
      sink_calls.Writes k a c (part_text lined (piece_of segment count) sectors) result
  line_then k a b c (Ok done) both first next = subst (sinks.Wrote k a c) lined_parts (Wrote-Wrote both first next)
  line_then k a b c (Err e) both first next = subst (sink_calls.BrokeOff k a c) lined_parts (Wrote-BrokeOff both first next)

-- ---- the ends

-- what a reading answers by a fault
abbrev pub failed_by : SegFault → Result ℕ SegFault
failed_by why = Err why

-- what it answers where it has the sectors
pub read_block : (segment mask : ℕ) (sectors : List (List ℕ)) (answer : Result ℕ SegFault) (unread : ℕ) → answer ≡ Ok unread →
    IsRead segment mask sectors answer → IsCodeBlock (take (usable_count mask) sectors)
read_block segment mask sectors answer unread is read =
    let right : IsRead segment mask sectors (Ok unread) = subst (IsRead segment mask sectors) is read in
    right.block

pub read_solved : {T : Type 0} (t : tapes.Meaning T) (old : T) (segment mask : ℕ) (sectors : List (List ℕ)) (answer : Result ℕ SegFault)
    (unread : ℕ) → answer ≡ Ok unread → tape_calls.Tells t old (λ c. Solves segment (cells_of c segment mask) sectors answer) →
    tape_calls.Tells t old (λ c. HasSolved (cells_of c segment mask) sectors)
read_solved t old segment mask sectors answer unread is told =
    subst (λ (r : Result ℕ SegFault). tape_calls.Tells t old (λ c. Solves segment (cells_of c segment mask) sectors r)) is told

module _ {T K : Type 0} (t : tapes.Meaning T) (k : sinks.Meaning K) (words : List ℕ) (segment count mask : ℕ)
    (is : mask ≡ mask_at words segment) (lined : Bool) (old new : T) where
  abbrev piece : Piece
  piece = piece_of segment count

  -- what the cells by the mask say, the piece's cells say
  said_lost : (n : ℕ) (c : Cartridge) → Says (cells_of c segment mask) (LostSectors n) → Says (cells_of c segment (mask_at words segment))
      (LostSectors n)
  said_lost n c says = subst (λ (m : ℕ). Says (cells_of c segment m) (LostSectors n)) is says

  nothing_went : (sink : K) → ((x : K) → k.took x [] x) → tapes.Done t old new [] → Went t no_source k (around old sink) (around new sink)
      (printed lined [] [])
  nothing_went sink none did =
      subst (Went t no_source k (around old sink) (around new sink)) (sym (printed_none lined []))
      (record { did = did; wrote = record { took = none sink; later = omega arith }; source_later = omega arith })

  lost : (sink : K) → ((x : K) → k.took x [] x) → tapes.Done t old new [] → (named n : ℕ) → named ≡ segment → AreTooMany n →
      tape_calls.Tells t old (λ c. (named ≡ segment) × Says (cells_of c segment mask) (LostSectors n)) →
      GaveVolume t k words (piece ∷ []) lined (around old sink) (around new sink) (LostIn named n)
  lost sink none did named n same many told =
      none_given t k words lined piece [] (around old sink) (around new sink) (LostIn named n) [] (nothing_went sink none did)
      (Tells-map t old (λ c. (named ≡ segment) × Says (cells_of c segment mask) (LostSectors n))
      (λ c. PieceEnds c words piece (LostIn named n))
      (λ c said. (said.0, said_lost n c said.1)) told)
      (many, sym same)

  mismatch : (sink : K) → ((x : K) → k.took x [] x) → tapes.Done t old new [] → (named : ℕ) → named ≡ segment →
      tape_calls.Tells t old (λ c. (named ≡ segment) × Says (cells_of c segment mask) saying.Mismatch) →
      GaveVolume t k words (piece ∷ []) lined (around old sink) (around new sink) (MismatchIn named)
  mismatch sink none did named same told =
      none_given t k words lined piece [] (around old sink) (around new sink) (MismatchIn named) [] (nothing_went sink none did)
      (Tells-map t old (λ c. (named ≡ segment) × Says (cells_of c segment mask) saying.Mismatch)
      (λ c. PieceEnds c words piece (MismatchIn named))
      (λ c said. (said.0, subst (λ (m : ℕ). Says (cells_of c segment m) saying.Mismatch) is said.1)) told)
      (sym same)

  -- the tape failed before the first act was done
  pub unread : (sink : K) → ((x : K) → k.took x [] x) → tapes.Broke t old new [] →
      VolumeCut t k words (piece ∷ []) lined (around old sink) (around new sink) TapeFails
  unread sink none broke = record {
    told = tells_always t old
        (λ c. (acts : List Act) (ending : GivingEnd) → Restores c words (piece ∷ []) acts ending →
        Cut t no_source k (around old sink) (around new sink) (printed lined (piece ∷ []) acts) TapeFails)
        (λ c acts ending restores. before (printed lined (piece ∷ []) acts));
    acts = [];
    are = tt;
    cut = before (printed lined (piece ∷ []) []);
  }
    where
      before : (acts : List Act) → Cut t no_source k (around old sink) (around new sink) acts TapeFails
      before acts = cut_is_longer t no_source k (around old sink) (around new sink) [] acts TapeFails (record {
        front = [];
        rest = [];
        parts = refl;
        broke = broke;
        here = broke.torn;
        wrote = record { took = none sink; later = omega arith };
        source_later = omega arith;
      })

  -- by the fault of its reading
  pub not_read : (sectors : List (List ℕ)) (sink : K) → ((x : K) → k.took x [] x) → tapes.Done t old new [] → (why : SegFault) →
      IsRead segment mask sectors (Err why) →
      tape_calls.Tells t old (λ c. Solves segment (cells_of c segment mask) sectors (failed_by why)) →
      OutputEnds t k words (piece ∷ []) lined (around old sink) (around new sink) (Err (store_fault why))
  not_read sectors sink none did (seg.Lost named n) read told =
      let so = read.many named n refl in lost sink none did named n so.0 (so.1, so.2) told
  not_read sectors sink none did (seg.Mismatch named) read told = mismatch sink none did named (read.mismatch named refl) told

  -- ---- the segment was read

  module _ (sectors : List (List ℕ)) (holds : Holds mask count sectors) (did : tapes.Done t old new []) (a b : K) where
    abbrev act : Act
    act = act_of piece sectors

    is_read : (c : Cartridge) → HasSolved (cells_of c segment mask) sectors → restore.IsRead c words piece act
    is_read c solved =
        let n : length (cells_of c segment mask) ≡ usable_count mask = count_of_cells c segment mask in
        let shown : List (List ℕ) = data_of (take (usable_count mask) sectors) in
        let says : Says (cells_of c segment mask) (Data shown) =
        subst (λ (m : ℕ). Says (cells_of c segment mask) (Data (data_of (take m sectors)))) n solved.says in
        record {
          sectors = shown;
          says = subst (λ (m : ℕ). Says (cells_of c segment m) (Data shown)) is says;
          shown = ap (λ (text : List ℕ). record { steps = []; text = text }) (data_bytes mask count sectors holds);
        }

    pub gave : sinks.Wrote k a b (part_text lined piece sectors) →
        tape_calls.Tells t old (λ c. HasSolved (cells_of c segment mask) sectors) →
        GaveVolume t k words (piece ∷ []) lined (around old a) (around new b) Restored
    gave wrote solved = record {
      acts = act ∷ [];
      went = record {
        did = subst (tapes.Done t old new) (sym (printed_steps lined piece act refl)) did;
        wrote = subst (sinks.Wrote k a b) (sym (text_printed lined piece sectors)) wrote;
        source_later = omega arith;
      };
      told = Tells-map t old (λ c. HasSolved (cells_of c segment mask) sectors) (λ c. Restores c words (piece ∷ []) (act ∷ []) Restored)
          (λ c has. (is_read c has, (refl, refl))) solved;
      are = (refl, count_of_bytes mask count sectors holds, tt);
      ends = refl;
    }

    -- the sink failed in its text
    pub ungiven : sink_calls.BrokeOff k a b (part_text lined piece sectors) →
        tape_calls.Tells t old (λ c. HasSolved (cells_of c segment mask) sectors) →
        VolumeCut t k words (piece ∷ []) lined (around old a) (around new b) SinkFails
    ungiven broke solved = record {
      told = Tells-map t old (λ c. HasSolved (cells_of c segment mask) sectors)
          (λ c. (acts : List Act) (ending : GivingEnd) → Restores c words (piece ∷ []) acts ending →
          Cut t no_source k (around old a) (around new b) (printed lined (piece ∷ []) acts) SinkFails)
          (λ c has acts ending restores.
          let same : act ∷ [] ≡ acts =
          (restores_is_function c words (piece ∷ []) (act ∷ []) acts Restored ending (is_read c has, (refl, refl)) restores).0 in
          subst (λ (xs : List Act). Cut t no_source k (around old a) (around new b) (printed lined (piece ∷ []) xs) SinkFails) same cut)
          solved;
      acts = act ∷ [];
      are = (refl, count_of_bytes mask count sectors holds, tt);
      cut = cut;
    }
      where
        cut : Cut t no_source k (around old a) (around new b) (printed lined (piece ∷ []) (act ∷ [])) SinkFails
        cut = record {
          at = record { front = []; act = printed_act lined piece act; rest = []; parts = sym (one_printed lined piece act) };
          did = subst (tapes.Done t old new) (sym (no_steps lined piece sectors)) did;
          broke = broke_first broke;
          source_later = omega arith;
        }
