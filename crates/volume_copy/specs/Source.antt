-- The bytes of a volume as a source: what it is seen as, what is true of each, and what its calls keep (this project's
-- own). The laws at the end are those that a source has to have.
use Rattle.std.proofs.Common.{arith, ◌∙◌, refl, sym, ap, subst}
use Rattle.std.proofs.lemmas.Option.{same_Some}
use Rattle.std.specs.Prelude.{◌≡◌, ◌≢◌, ℕ, ◌+◌, ◌-◌, ◌*◌, ◌^◌, ◌<◌, ◌≤◌, List, [], ◌++◌, length, take, drop, min, slice_get, Option}
use Rattle.std.specs.Prelude.{Some, None, Result, Ok, Err}
use Rattle.cartridge_spec.specs.Volumes.{bytes_in}
use Rattle.cartridge_spec.specs.Says.{Says, Data}
use Rattle.cartridge_spec.specs.Table.{Entry}
use Rattle.command_spec.specs.Restore.{Piece, GivingEnd, LostIn, MismatchIn, PieceEnds, pieces, piece_cells, volume_at}
use Rattle.drive_states.specs.Unit.{UnitView}
use Rattle.qic_base.proofs.Steps.{Broke-after_reads, Stops-nothing, Stops-Stops, option_map-effects-none}
use Rattle.qic_base.specs.Cartridge.{Cartridge}
use Rattle.qic_base.specs.Tape.{Meaning, Broke, Done, Stops}
use Rattle.qic_base.specs.TapeCalls.{Tells}
use Rattle.volume_copy.specs.Given.{given_bytes}
use Rattle.volume_store.specs.Mounting.{StoreView, StoreFits, KeepsStore}
use Rattle.qic_base.specs.declared.store_fault.StoreFault.{StoreFault}
use Rattle.qic_base.specs.Source as sources
use Rattle.qic_base.specs.declared.store_fault.StoreFault.TheVariants as fault

-- ---- what it is seen as

-- the store and the unit, the volume's number, how many of the volume's pieces were read, those bytes of the last of them
-- that were not given yet, the count of refusals, and the first of these
pub record SourceView (T : Type 0) : Type 0 where
  pub store : StoreView
  pub unit : UnitView T
  pub number : ℕ
  pub done : ℕ
  pub unread : List ℕ
  pub faults : ℕ
  pub fault : Option StoreFault

-- the bytes of a piece that aren't given yet, where its data are these
abbrev pub unread_in : (part : List (List ℕ)) → (held given : ℕ) → List ℕ
unread_in part held given = drop given (take held (bytes_in part))

-- as many were given as the piece holds at most, and its data have all of them
pub record IsHeld (part : List (List ℕ)) (held given : ℕ) : Type 0 where
  pub within : given ≤ held
  pub there : given < held → held ≤ 1024 * length part
  pub bytes : given < held → held ≤ length (bytes_in part)

-- no piece was read
abbrev pub new_source : {T : Type 0} → StoreView → UnitView T → (number : ℕ) → SourceView T
new_source store unit number = record {
  store = store;
  unit = unit;
  number = number;
  done = 0;
  unread = [];
  faults = 0;
  fault = None;
}

-- ---- the volume

-- the pieces of a volume, and none where there is no volume
abbrev pub pieces_at : (words : List ℕ) → Option Entry → List Piece
pieces_at words None = []
pieces_at words (Some e) = pieces words e

abbrev pub pieces_of_number : StoreView → (number : ℕ) → List Piece
pieces_of_number store number = pieces_at store.words (volume_at store.entries number)

abbrev pub source_pieces : {T : Type 0} → SourceView T → List Piece
source_pieces s = pieces_of_number s.store s.number

-- a piece's segment says data
abbrev pub Reads : Cartridge → (words : List ℕ) → Piece → Type 0
Reads c words piece = (sectors : List (List ℕ)) × Says (piece_cells c words piece) (Data sectors)

-- those of so many first pieces do
abbrev pub FirstRead : Cartridge → (words : List ℕ) → List Piece → (count : ℕ) → Type 0
FirstRead c words needed count = (i : ℕ) (piece : Piece) → i < count → slice_get needed i ≡ Some piece → Reads c words piece

-- so ends the first piece whose segment doesn't
pub record FirstUnread (c : Cartridge) (words : List ℕ) (needed : List Piece) (ending : GivingEnd) : Type 0 where
  pub number : ℕ
  pub piece : Piece
  pub there : slice_get needed number ≡ Some piece
  pub before : FirstRead c words needed number
  pub ends : PieceEnds c words piece ending

-- a refusal is what the first segment says that doesn't read; a fault of the tape has no cause in the cartridge
abbrev pub IsRefusal : Cartridge → (words : List ℕ) → List Piece → Option StoreFault → Type 0
IsRefusal c words needed None = Unit {0}
IsRefusal c words needed (Some fault.Tape) = Unit {0}
IsRefusal c words needed (Some (fault.Lost segment lost)) = FirstUnread c words needed (LostIn segment lost)
IsRefusal c words needed (Some (fault.Mismatch segment)) = FirstUnread c words needed (MismatchIn segment)
IsRefusal c words needed (Some why) = ⊥

-- over any tape it is one of these
abbrev pub IsOfPart : Option StoreFault → Type 0
IsOfPart None = Unit {0}
IsOfPart (Some fault.Tape) = Unit {0}
IsOfPart (Some (fault.Lost segment lost)) = 3 < lost
IsOfPart (Some (fault.Mismatch segment)) = Unit {0}
IsOfPart (Some why) = ⊥

-- ---- what is true of each

-- The store fits the unit and has the volume. Where the tape tells its cartridge, the segments of all pieces that were read
-- say data, and the first refusal is what the first one says that doesn't. There was one just where the count is not 0.
pub record IsSoundSource {T : Type 0} (m : Meaning T) (s : SourceView T) : Type 0 where
  pub fits : StoreFits m s.store s.unit
  pub entry : Entry
  pub numbered : volume_at s.store.entries s.number ≡ Some entry
  pub reads : Tells m s.unit.tape (λ c. FirstRead c s.store.words (source_pieces s) s.done)
  pub refused : Tells m s.unit.tape (λ c. IsRefusal c s.store.words (source_pieces s) s.fault)
  pub kind : IsOfPart s.fault
  pub counted : s.fault ≡ None → s.faults ≡ 0
  pub counting : s.faults ≡ 0 → s.fault ≡ None

-- ---- what it means

-- the bytes that are left: those of the piece that was read last, and those of the pieces behind it
abbrev pub bytes_left : {T : Type 0} → SourceView T → Cartridge → List ℕ
bytes_left s c = s.unread ++ given_bytes c s.store.words (drop s.done (source_pieces s))

-- they are told where the tape tells its cartridge
abbrev pub left_where : {T : Type 0} → SourceView T → Option (Option Cartridge) → Option (List ℕ)
left_where s None = None
left_where s (Some None) = None
left_where s (Some (Some c)) = Some (bytes_left s c)

-- What a call keeps: the volume's number, the store's header, map and list, what is true of each source, what the tape
-- tells, also in each stop since, and a fault that was there. The count of the tape stands still but where a fault of it is
-- new, which then came in the tape's last call. Behind a fault that was there the tape is not asked.
pub record KeepsVolume {T : Type 0} (m : Meaning T) (old new : SourceView T) : Type 0 where
  pub number : new.number ≡ old.number
  pub store : KeepsStore old.store new.store
  pub sound : IsSoundSource m old → IsSoundSource m new
  pub told : m.told new.unit.tape ≡ m.told old.unit.tape
  pub stops : Stops m old.unit.tape new.unit.tape []
  pub later : m.faults old.unit.tape ≤ m.faults new.unit.tape
  pub stays : (why : StoreFault) → old.fault ≡ Some why → new.fault ≡ Some why
  pub by_tape : old.fault ≡ None → new.fault ≡ Some fault.Tape → Broke m old.unit.tape new.unit.tape []
  pub stood : new.fault ≢ Some fault.Tape → m.faults new.unit.tape ≡ m.faults old.unit.tape
  pub quiet : (why : StoreFault) → old.fault ≡ Some why → new.unit.tape ≡ old.unit.tape

abbrev pub source_means : {T : Type 0} → Meaning T → sources.Meaning (SourceView T)
source_means m = record {
  left = λ s. left_where s (m.told s.unit.tape);
  keeps = λ old new. KeepsVolume m old new;
  faults = λ s. s.faults;
}

-- the count behind a call: it rises just where that failed, to the greatest u64
abbrev pub count_after : {A E : Type 0} → ℕ → Result A E → ℕ
count_after n (Ok answer) = n
count_after n (Err e) = min (n + 1) (2 ^ 64 - 1)

-- ---- laws

pub keeps_itself : {T : Type 0} (m : Meaning T) (s : SourceView T) → KeepsVolume m s s
keeps_itself m s = record {
  number = refl;
  store = record { header = refl; words = refl; entries = refl };
  sound = λ sound. sound;
  told = refl;
  stops = Stops-nothing m s.unit.tape;
  later = omega arith;
  stays = λ why is. is;
  by_tape = λ none some. absurd (cc);
  stood = λ none. refl;
  quiet = λ why is. refl;
}

pub keeps_on : {T : Type 0} (m : Meaning T) (a b c : SourceView T) → KeepsVolume m a b → KeepsVolume m b c → KeepsVolume m a c
keeps_on {T} m a b c first next = record {
  number = next.number ∙ first.number;
  store = record {
    header = next.store.header ∙ first.store.header;
    words = next.store.words ∙ first.store.words;
    entries = next.store.entries ∙ first.store.entries;
  };
  sound = λ sound. next.sound (first.sound sound);
  told = next.told ∙ first.told;
  stops = Stops-Stops (first.told ∙ sym (option_map-effects-none (m.told a.unit.tape))) first.stops next.stops;
  later = let one = first.later in let two = next.later in omega arith;
  stays = λ why is. next.stays why (first.stays why is);
  by_tape = λ none some. between b.fault refl none some;
  stood = λ none.
      let one : m.faults b.unit.tape ≡ m.faults a.unit.tape = first.stood (λ is. none (next.stays fault.Tape is)) in
      next.stood none ∙ one;
  quiet = λ why is. next.quiet why (first.stays why is) ∙ first.quiet why is;
}
  where
    read_first : b.fault ≡ None → Done m a.unit.tape b.unit.tape []
    read_first is = record {
      told = first.told ∙ sym (option_map-effects-none (m.told a.unit.tape));
      later = first.stood (λ some. absurd (cc));
      stops = first.stops;
    }

    between : (o : Option StoreFault) → b.fault ≡ o → a.fault ≡ None → c.fault ≡ Some fault.Tape →
        Broke m a.unit.tape c.unit.tape []
    between None is none some = Broke-after_reads (read_first is) (next.by_tape is some)
    between (Some why) is none some =
        let same : fault.Tape ≡ why = same_Some fault.Tape why (sym some ∙ next.stays why is) in
        subst (λ (t : T). Broke m a.unit.tape t []) (sym (next.quiet why is))
        (first.by_tape none (is ∙ ap (λ (f : StoreFault). Some f) (sym same)))
