-- What the reading of the next piece makes of a source.
use Rattle.std.proofs.Common.{◌≡◌, ◌≢◌, ℕ, true, false, ◌+◌, ◌-◌, ◌*◌, ◌^◌, ◌<◌, ◌≤◌, inl, inr, List, [], ◌++◌, take, drop, length}
use Rattle.std.proofs.Common.{Option, Some, None, Result, Ok, Err, slice_get, refl, sym, ap, ◌∙◌, subst, arith}
use Rattle.std.specs.Prelude.{IfSome, is_some, min}
use Rattle.std.proofs.lemmas.Bool.{cases_lt}
use Rattle.std.proofs.lemmas.List.{length-take-le}
use Rattle.std.proofs.lemmas.Option.{same_Some}
use Rattle.command_laws.proofs.RestoreCounts.{length-bytes_in}
use Rattle.cartridge_spec.specs.Volumes.{bytes_in}
use Rattle.cartridge_spec.specs.Says.{Says, Data}
use Rattle.cartridge_spec.specs.Table.{Entry}
use Rattle.command_spec.specs.Restore.{Piece, LostIn, MismatchIn, PieceEnds, pieces, piece_cells, volume_at}
use Rattle.drive_states.specs.Unit.{UnitView}
use Rattle.qic_base.proofs.Steps.{Done-told, Broke-told, Stops-nothing, Tells-map}
use Rattle.qic_base.specs.Cartridge.{Cartridge}
use Rattle.qic_base.specs.Tape.{Meaning, Done, Broke, Stops}
use Rattle.qic_base.specs.SourceCalls.{HasEnded}
use Rattle.qic_base.specs.TapeCalls.{Tells}
use Rattle.segment_io.proofs.Going.{done_moved}
use Rattle.volume_output.specs.Part.{ReadsPiece}
use Rattle.volume_store.specs.Mounting.{StoreView, StoreFits, KeepsStore}
use Rattle.volume_store.specs.Restoring.{ReadsPart}
use Rattle.qic_base.specs.declared.store_fault.StoreFault.{StoreFault}
use Rattle.volume_copy.proofs.Bytes.{drop_past, given_none, given_next}
use Rattle.volume_copy.specs.Given.{given_bytes}
use Rattle.volume_copy.specs.Source.{SourceView, IsHeld, IsSoundSource, KeepsVolume, FirstRead, IsOfPart, IsRefusal, Reads}
use Rattle.volume_copy.specs.Source.{bytes_left, left_where, pieces_at, pieces_of_number, source_means, source_pieces}
use Rattle.volume_copy.proofs.Lists.{from_index}
use Rattle.qic_base.specs.declared.store_fault.StoreFault.TheVariants as fault

-- the tape was only read
pub record OnlyRead {T : Type 0} (m : Meaning T) (old new : T) : Type 0 where
  pub told : m.told new ≡ m.told old
  pub stops : Stops m old new []
  pub later : m.faults old ≤ m.faults new

pub by_done : {T : Type 0} (m : Meaning T) (old new : T) → Done m old new [] → OnlyRead m old new
by_done m old new done = record {
  told = Done-told done;
  stops = done.stops;
  later = let stood = done.later in omega (arith, stood);
}

pub by_broke : {T : Type 0} (m : Meaning T) (old new : T) → Broke m old new [] → OnlyRead m old new
by_broke m old new broke = record { told = Broke-told broke; stops = broke.stops; later = broke.later }

module _ {T : Type 0} (m : Meaning T) (s : SourceView T) (store : StoreView) (unit : UnitView T) where
  -- what the answers say of the tape
  pub part_reads : (answer : Result (Option ℕ) StoreFault) → ReadsPart m s.store store s.number s.done s.unit.tape unit.tape answer →
      OnlyRead m s.unit.tape unit.tape
  part_reads (Ok None) (e, at, found) = by_done m s.unit.tape unit.tape (done_moved m s.unit.tape unit.tape found.1)
  part_reads (Ok (Some count)) (e, at, found) = by_done m s.unit.tape unit.tape found.2.did
  part_reads (Err (fault.NoVolume number count)) none = by_done m s.unit.tape unit.tape (done_moved m s.unit.tape unit.tape none.tape)
  part_reads (Err (fault.Lost segment lost)) (e, at, found) = by_done m s.unit.tape unit.tape found.2.did
  part_reads (Err (fault.Mismatch segment)) (e, at, found) = by_done m s.unit.tape unit.tape found.2.did
  part_reads (Err fault.Tape) (e, at, found) = by_broke m s.unit.tape unit.tape found.2
  part_reads (Err fault.NotFormatted) none = absurd none
  part_reads (Err (fault.Foreign field value)) none = absurd none
  part_reads (Err fault.TableMismatch) none = absurd none
  part_reads (Err (fault.Full need room)) none = absurd none
  part_reads (Err fault.Protected) none = absurd none
  part_reads (Err (fault.Short asked read)) none = absurd none
  part_reads (Err fault.Source) none = absurd none
  part_reads (Err fault.Sink) none = absurd none

  -- .. and of its count, where that is no fault of it
  part_stood : (answer : Result (Option ℕ) StoreFault) → answer ≢ Err fault.Tape →
      ReadsPart m s.store store s.number s.done s.unit.tape unit.tape answer → m.faults unit.tape ≡ m.faults s.unit.tape
  part_stood (Ok None) other (e, at, found) = ap m.faults found.1
  part_stood (Ok (Some count)) other (e, at, found) = found.2.did.later
  part_stood (Err (fault.NoVolume number count)) other none = ap m.faults none.tape
  part_stood (Err (fault.Lost segment lost)) other (e, at, found) = found.2.did.later
  part_stood (Err (fault.Mismatch segment)) other (e, at, found) = found.2.did.later
  part_stood (Err fault.Tape) other part = absurd (other refl)
  part_stood (Err fault.NotFormatted) other none = absurd none
  part_stood (Err (fault.Foreign field value)) other none = absurd none
  part_stood (Err fault.TableMismatch) other none = absurd none
  part_stood (Err (fault.Full need room)) other none = absurd none
  part_stood (Err fault.Protected) other none = absurd none
  part_stood (Err (fault.Short asked read)) other none = absurd none
  part_stood (Err fault.Source) other none = absurd none
  part_stood (Err fault.Sink) other none = absurd none

  -- the source behind it
  abbrev pub after : (done : ℕ) (unread : List ℕ) (faults : ℕ) (why : Option StoreFault) → SourceView T
  after done unread faults why = record {
    store = store;
    unit = unit;
    number = s.number;
    done = done;
    unread = unread;
    faults = faults;
    fault = why;
  }

  module _ (kept : KeepsStore s.store store) where
    same_pieces : pieces_of_number store s.number ≡ source_pieces s
    same_pieces =
        ap (λ (ws : List ℕ). pieces_at ws (volume_at store.entries s.number)) kept.words
        ∙ ap (λ (es : List Entry). pieces_at s.store.words (volume_at es s.number)) kept.entries

    -- what is so of the words and the pieces, and of what is told
    tells_after : (P : Cartridge → List ℕ → List Piece → Type 0) → m.told unit.tape ≡ m.told s.unit.tape →
        Tells m s.unit.tape (λ c. P c s.store.words (source_pieces s)) → Tells m unit.tape
        (λ c. P c store.words (pieces_of_number store s.number))
    tells_after P told fact =
        subst (λ (o : Option (Option Cartridge)). IfSome o (λ h. IfSome h (λ c. P c store.words (pieces_of_number store s.number))))
        (sym told)
        (Tells-map m s.unit.tape (λ c. P c s.store.words (source_pieces s)) (λ c. P c store.words (pieces_of_number store s.number))
        (λ c h. subst (λ (ws : List ℕ). P c ws (pieces_of_number store s.number)) (sym kept.words)
        (subst (λ (ps : List Piece). P c s.store.words ps) (sym same_pieces) h)) fact)

    module _ (fits : StoreFits m store unit) (read : OnlyRead m s.unit.tape unit.tape) (sound : IsSoundSource m s) where
      -- what is true of it
      sound_after : (done : ℕ) (unread : List ℕ) (faults : ℕ) (why : Option StoreFault) → Tells m s.unit.tape
          (λ c. FirstRead c s.store.words (source_pieces s) done) →
          Tells m s.unit.tape (λ c. IsRefusal c s.store.words (source_pieces s) why) → IsOfPart why → (why ≡ None → faults ≡ 0) →
          (faults ≡ 0 → why ≡ None) →
          IsSoundSource m (after done unread faults why)
      sound_after done unread faults why reads refused kind counted counting = record {
        fits = fits;
        entry = sound.entry;
        numbered = ap (λ (es : List Entry). volume_at es s.number) kept.entries ∙ sound.numbered;
        reads = tells_after (λ c words needed. FirstRead c words needed done) read.told reads;
        refused = tells_after (λ c words needed. IsRefusal c words needed why) read.told refused;
        kind = kind;
        counted = counted;
        counting = counting;
      }

      kept_after : (done : ℕ) (unread : List ℕ) (faults : ℕ) (why : Option StoreFault) → IsSoundSource m (after done unread faults why) →
          s.fault ≡ None → (why ≡ Some fault.Tape → Broke m s.unit.tape unit.tape []) →
          (why ≢ Some fault.Tape → m.faults unit.tape ≡ m.faults s.unit.tape) → KeepsVolume m s (after done unread faults why)
      kept_after done unread faults why is none by_tape stood = record {
        number = refl;
        store = kept;
        sound = λ before. is;
        told = read.told;
        stops = read.stops;
        later = read.later;
        stays = λ f some. absurd (cc);
        by_tape = λ known. by_tape;
        stood = stood;
        quiet = λ f some. absurd (cc);
      }

      -- it tells the same bytes where they are the same on each cartridge that the tape tells
      left_after : (done : ℕ) (unread : List ℕ) (faults : ℕ) (why : Option StoreFault) →
          ((c : Cartridge) → m.told s.unit.tape ≡ Some (Some c) → bytes_left (after done unread faults why) c ≡ bytes_left s c) →
          (source_means m).left (after done unread faults why) ≡ (source_means m).left s
      left_after done unread faults why same =
          ap (left_where (after done unread faults why)) read.told ∙ by_told (m.told s.unit.tape) refl
        where
          by_told : (o : Option (Option Cartridge)) → m.told s.unit.tape ≡ o → left_where (after done unread faults why) o ≡ left_where s o
          by_told None is = refl
          by_told (Some None) is = refl
          by_told (Some (Some c)) is = ap (λ (bytes : List ℕ). Some bytes) (same c is)

      given_same : (c : Cartridge) (done : ℕ) →
          given_bytes c store.words (drop done (pieces_of_number store s.number)) ≡ given_bytes c s.store.words
          (drop done (source_pieces s))
      given_same c done =
          ap (λ (ws : List ℕ). given_bytes c ws (drop done (pieces_of_number store s.number))) kept.words
          ∙ ap (λ (ps : List Piece). given_bytes c s.store.words (drop done ps)) same_pieces

      -- ---- there is no piece more, or it was refused: nothing else of the source changes

      module _ (unread : List ℕ) (same : unread ≡ s.unread) (faults : ℕ) (why : Option StoreFault) where
        pub left_still : (source_means m).left (after s.done unread faults why) ≡ (source_means m).left s
        left_still = left_after s.done unread faults why (λ c is.
            ap (λ (bytes : List ℕ). bytes ++ given_bytes c store.words (drop s.done (pieces_of_number store s.number))) same
            ∙ ap (λ (bytes : List ℕ). s.unread ++ bytes) (given_same c s.done))

      module _ (unread : List ℕ) where
        pub none_sound : IsSoundSource m (after s.done unread s.faults s.fault)
        none_sound = sound_after s.done unread s.faults s.fault sound.reads sound.refused sound.kind sound.counted sound.counting

        pub none_kept : s.fault ≡ None → ReadsPart m s.store store s.number s.done s.unit.tape unit.tape (Ok None) →
            KeepsVolume m s (after s.done unread s.faults s.fault)
        none_kept none part =
            kept_after s.done unread s.faults s.fault none_sound none (λ some. absurd (cc)) (λ other. part_stood (Ok None) (λ is. cc) part)

      pub none_ended : ReadsPart m s.store store s.number s.done s.unit.tape unit.tape (Ok None) → s.unread ≡ [] → (unread : List ℕ) →
          unread ≡ [] →
          HasEnded (source_means m) (after s.done unread s.faults s.fault)
      none_ended (e, at, found) all unread empty = by_told (m.told unit.tape)
        where
          over : drop s.done (pieces_of_number store s.number) ≡ []
          over =
              ap (drop s.done) (same_pieces ∙ ap (pieces_at s.store.words) at)
              ∙ drop_past (pieces s.store.words e) s.done found.0

          by_told : (o : Option (Option Cartridge)) → IfSome (left_where (after s.done unread s.faults s.fault) o) (λ bytes. bytes ≡ [])
          by_told None = tt
          by_told (Some None) = tt
          by_told (Some (Some c)) =
              ap (λ (bytes : List ℕ). bytes ++ given_bytes c store.words (drop s.done (pieces_of_number store s.number))) empty
              ∙ ap (given_bytes c store.words) over ∙ given_none c store.words

      -- ---- the next piece was read

      more_read : (c : Cartridge) (words : List ℕ) (needed : List Piece) (done : ℕ) (piece : Piece) → slice_get needed done ≡ Some piece →
          Reads c words piece →
          FirstRead c words needed done → FirstRead c words needed (done + 1)
      more_read c words needed done piece there reads first i p below at =
          elim (cases_lt i done) [
            | inl before ↦ first i p before at
            | inr late ↦
                let last : i ≡ done = omega arith in
                let same : piece ≡ p = same_Some piece p (sym there ∙ ap (slice_get needed) (sym last) ∙ at) in
                subst (Reads c words) same reads
          ]

      module _ (count : ℕ) (part : ReadsPart m s.store store s.number s.done s.unit.tape unit.tape (Ok (Some count))) where
        piece : Piece
        piece = part.2.0

        is_next : slice_get (source_pieces s) s.done ≡ Some piece
        unfolding piece
        is_next = ap (λ (o : Option Entry). slice_get (pieces_at s.store.words o) s.done) part.1 ∙ part.2.1

        piece_reads : ReadsPiece m s.store.words piece s.unit.tape unit.tape store.part count
        unfolding piece
        piece_reads = part.2.2

        reads_more : Tells m s.unit.tape (λ c. FirstRead c s.store.words (source_pieces s) (s.done + 1))
        reads_more = both (m.told s.unit.tape) sound.reads piece_reads.told
          where
            both : (o : Option (Option Cartridge)) → IfSome o (λ h. IfSome h (λ c. FirstRead c s.store.words (source_pieces s) s.done)) →
                IfSome o (λ h. IfSome h (λ c. Says (piece_cells c s.store.words piece) (Data store.part))) →
                IfSome o (λ h. IfSome h (λ c. FirstRead c s.store.words (source_pieces s) (s.done + 1)))
            both None first says = tt
            both (Some None) first says = tt
            both (Some (Some c)) first says = more_read c s.store.words (source_pieces s) s.done piece is_next (store.part, says) first

        pub part_held : IsHeld store.part count 0
        part_held =
            let long : length (bytes_in store.part) ≡ 1024 * length store.part =
            length-bytes_in store.part piece_reads.are in
            let within : count ≤ 1024 * length store.part = piece_reads.within in
            record {
              within = omega arith;
              there = λ more. within;
              bytes = λ more. omega arith;
            }

        pub part_some : 0 < length (take count (bytes_in store.part))
        part_some =
            let some : 0 < count = piece_reads.some in
            let all : length (take count (bytes_in store.part)) ≡ count = length-take-le count (bytes_in store.part) (part_held.bytes some)
            in
            omega arith

        module _ (unread : List ℕ) where
          pub some_sound : IsSoundSource m (after (s.done + 1) unread s.faults s.fault)
          some_sound = sound_after (s.done + 1) unread s.faults s.fault reads_more sound.refused sound.kind sound.counted sound.counting

          pub some_kept : s.fault ≡ None → KeepsVolume m s (after (s.done + 1) unread s.faults s.fault)
          some_kept none =
              kept_after (s.done + 1) unread s.faults s.fault some_sound none (λ some. absurd (cc))
              (λ other. part_stood (Ok (Some count)) (λ is. cc) part)

        pub some_left : s.unread ≡ [] → (source_means m).left (after (s.done + 1) (take count (bytes_in store.part)) s.faults s.fault) ≡
            (source_means m).left s
        some_left all = left_after (s.done + 1) (take count (bytes_in store.part)) s.faults s.fault (λ c is.
            let says : Says (piece_cells c s.store.words piece) (Data store.part) =
            subst (λ (o : Option (Option Cartridge)).
            IfSome o (λ h. IfSome h (λ d. Says (piece_cells d s.store.words piece) (Data store.part)))) is piece_reads.told in
            let rest : List Piece = drop (s.done + 1) (source_pieces s) in
            ap (λ (n : ℕ). take n (bytes_in store.part) ++ given_bytes c store.words (drop (s.done + 1) (pieces_of_number store s.number)))
            piece_reads.counted
            ∙ ap (λ (bytes : List ℕ). take piece.count (bytes_in store.part) ++ bytes) (given_same c (s.done + 1))
            ∙ sym (given_next c s.store.words piece rest store.part says)
            ∙ ap (given_bytes c s.store.words) (sym (from_index (source_pieces s) s.done piece is_next))
            ∙ ap (λ (bytes : List ℕ). bytes ++ given_bytes c s.store.words (drop s.done (source_pieces s))) (sym all))

      -- ---- it was refused

      -- what the answer says of the cartridge
      refused_so : (why : StoreFault) → ReadsPart m s.store store s.number s.done s.unit.tape unit.tape (Err why) →
          Tells m s.unit.tape (λ c. IsRefusal c s.store.words (source_pieces s) (Some why))
      refused_so (fault.NoVolume number count) none = absurd (let some = sound.numbered in let other = none.none in cc)
      refused_so (fault.Lost segment lost) (e, at, found) = first_unread (m.told s.unit.tape) sound.reads found.2.told
        where
          first_unread : (o : Option (Option Cartridge)) →
              IfSome o (λ h. IfSome h (λ c. FirstRead c s.store.words (source_pieces s) s.done)) →
              IfSome o (λ h. IfSome h (λ c. PieceEnds c s.store.words found.0 (LostIn segment lost))) →
              IfSome o (λ h. IfSome h (λ c. IsRefusal c s.store.words (source_pieces s) (Some (fault.Lost segment lost))))
          first_unread None first ends = tt
          first_unread (Some None) first ends = tt
          first_unread (Some (Some c)) first ends = record {
            number = s.done;
            piece = found.0;
            there = ap (λ (o : Option Entry). slice_get (pieces_at s.store.words o) s.done) at ∙ found.1;
            before = first;
            ends = ends;
          }
      refused_so (fault.Mismatch segment) (e, at, found) = first_unread (m.told s.unit.tape) sound.reads found.2.told
        where
          first_unread : (o : Option (Option Cartridge)) →
              IfSome o (λ h. IfSome h (λ c. FirstRead c s.store.words (source_pieces s) s.done)) →
              IfSome o (λ h. IfSome h (λ c. PieceEnds c s.store.words found.0 (MismatchIn segment))) →
              IfSome o (λ h. IfSome h (λ c. IsRefusal c s.store.words (source_pieces s) (Some (fault.Mismatch segment))))
          first_unread None first ends = tt
          first_unread (Some None) first ends = tt
          first_unread (Some (Some c)) first ends = record {
            number = s.done;
            piece = found.0;
            there = ap (λ (o : Option Entry). slice_get (pieces_at s.store.words o) s.done) at ∙ found.1;
            before = first;
            ends = ends;
          }
      refused_so fault.Tape ends = no_cause (m.told s.unit.tape)
        where
          no_cause : (o : Option (Option Cartridge)) →
              IfSome o (λ h. IfSome h (λ c. IsRefusal c s.store.words (source_pieces s) (Some fault.Tape)))
          no_cause None = tt
          no_cause (Some None) = tt
          no_cause (Some (Some c)) = tt
      refused_so fault.NotFormatted none = absurd none
      refused_so (fault.Foreign field value) none = absurd none
      refused_so fault.TableMismatch none = absurd none
      refused_so (fault.Full need room) none = absurd none
      refused_so fault.Protected none = absurd none
      refused_so (fault.Short asked read) none = absurd none
      refused_so fault.Source none = absurd none
      refused_so fault.Sink none = absurd none

      of_part : (why : StoreFault) → ReadsPart m s.store store s.number s.done s.unit.tape unit.tape (Err why) → IsOfPart (Some why)
      of_part (fault.NoVolume number count) none = absurd (let some = sound.numbered in let other = none.none in cc)
      of_part (fault.Lost segment lost) (e, at, found) = found.2.many.0
      of_part (fault.Mismatch segment) part = tt
      of_part fault.Tape part = tt
      of_part fault.NotFormatted none = absurd none
      of_part (fault.Foreign field value) none = absurd none
      of_part fault.TableMismatch none = absurd none
      of_part (fault.Full need room) none = absurd none
      of_part fault.Protected none = absurd none
      of_part (fault.Short asked read) none = absurd none
      of_part fault.Source none = absurd none
      of_part fault.Sink none = absurd none

      -- a fault of the tape broke the reading off
      tape_broke : (why : StoreFault) → why ≡ fault.Tape → ReadsPart m s.store store s.number s.done s.unit.tape unit.tape (Err why) →
          Broke m s.unit.tape unit.tape []
      tape_broke fault.Tape same (e, at, found) = found.2
      tape_broke fault.NotFormatted same ends = absurd ends
      tape_broke (fault.Foreign field value) same ends = absurd ends
      tape_broke fault.TableMismatch same ends = absurd ends
      tape_broke (fault.Full need room) same ends = absurd ends
      tape_broke (fault.NoVolume number count) same ends = absurd (cc)
      tape_broke (fault.Lost segment lost) same ends = absurd (cc)
      tape_broke (fault.Mismatch segment) same ends = absurd (cc)
      tape_broke fault.Protected same ends = absurd ends
      tape_broke (fault.Short asked read) same ends = absurd ends
      tape_broke fault.Source same ends = absurd ends
      tape_broke fault.Sink same ends = absurd ends

      module _ (why : StoreFault) (part : ReadsPart m s.store store s.number s.done s.unit.tape unit.tape (Err why)) (unread : List ℕ)
          (faults : ℕ)
          (rise : faults ≡ min (s.faults + 1) (2 ^ 64 - 1)) where
        pub refused_sound : IsSoundSource m (after s.done unread faults (Some why))
        refused_sound = sound_after s.done unread faults (Some why) sound.reads (refused_so why part) (of_part why part)
            (λ none. absurd (cc)) (λ zero. absurd (omega arith))

        pub refused_kept : s.fault ≡ None → KeepsVolume m s (after s.done unread faults (Some why))
        refused_kept none =
            kept_after s.done unread faults (Some why) refused_sound none (λ is. tape_broke why (same_Some why fault.Tape is) part)
            (λ other. part_stood (Err why) (λ is. other (cc)) part)

-- ---- a refusal is known, and a read behind it fails at once

pub again_left : {T : Type 0} (m : Meaning T) (s : SourceView T) (faults : ℕ) →
    (source_means m).left (record s { faults = faults }) ≡ (source_means m).left s
again_left m s faults = by_told (m.told s.unit.tape)
  where
    by_told : (o : Option (Option Cartridge)) → left_where (record s { faults = faults }) o ≡ left_where s o
    by_told None = refl
    by_told (Some None) = refl
    by_told (Some (Some c)) = refl

pub none_known : (o : Option StoreFault) → is_some o ≡ false → o ≡ None
none_known None none = refl
none_known (Some why) none = absurd (cc)

module _ {T : Type 0} (m : Meaning T) (s : SourceView T) (known : is_some s.fault ≡ true) (faults : ℕ)
    (rise : faults ≡ min (s.faults + 1) (2 ^ 64 - 1)) where
  is_known : s.fault ≡ None → ⊥
  is_known none = let no : false ≡ true = sym (ap (λ (o : Option StoreFault). is_some o) none) ∙ known in cc

  pub again_sound : IsSoundSource m s → IsSoundSource m (record s { faults = faults })
  again_sound sound = record {
    fits = sound.fits;
    entry = sound.entry;
    numbered = sound.numbered;
    reads = sound.reads;
    refused = sound.refused;
    kind = sound.kind;
    counted = λ none. absurd (is_known none);
    counting = λ zero. absurd (omega (arith, rise, zero));
  }

  pub again_kept : KeepsVolume m s (record s { faults = faults })
  again_kept = record {
    number = refl;
    store = record { header = refl; words = refl; entries = refl };
    sound = again_sound;
    told = refl;
    stops = Stops-nothing m s.unit.tape;
    later = omega arith;
    stays = λ why is. is;
    by_tape = λ none some. absurd (is_known none);
    stood = λ other. refl;
    quiet = λ why is. refl;
  }
