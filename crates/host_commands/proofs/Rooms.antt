-- How `room` ends: refused, cut off, or with its line.
use Rattle.std.proofs.Common.{◌≡◌, ◌≢◌, ℕ, List, [], true, false, Option, Some, None, IsSomeAnd, Result, Err, refl, ap, inl, inr}
use Rattle.cartridge_spec.specs.Appending.{room}
use Rattle.cartridge_spec.specs.Mounting.{Mounted}
use Rattle.cartridge_spec.specs.Table.{Entry}
use Rattle.command_laws.specs.RunTerms.{EndsBlind}
use Rattle.command_spec.specs.Lines.{room_line}
use Rattle.command_spec.specs.Machine.{may_come_from}
use Rattle.command_spec.specs.Outcome.{OpenOutcome, acted}
use Rattle.command_spec.specs.Room.{TellsRoom}
use Rattle.command_spec.specs.declared.status.Status.{Status}
use Rattle.drive_states.specs.Unit.{UnitView}
use Rattle.hand_commands.proofs.Endings.{IsBlind, printed, turned_down, cut_off_first, told_map}
use Rattle.hand_commands.specs.Writing.{printed_status}
use Rattle.host_commands.proofs.Mounted.{no_counts, no_outcome, open_absent, open_failed, refused_is, table_lost}
use Rattle.host_commands.specs.Opening.{OpeningEnds, is_opening}
use Rattle.host_commands.specs.Statuses.{store_status}
use Rattle.qic_base.specs.Cartridge.{Cartridge}
use Rattle.qic_base.specs.declared.sink.SinkFailed.{SinkFailed}
use Rattle.volume_store.specs.Looking.{FindsRoom, HasVolumes, LookFails}
use Rattle.volume_store.specs.Opening.{IsAbsent}
use Rattle.qic_base.specs.declared.store_fault.StoreFault.{StoreFault}
use Rattle.qic_base.specs.declared.store_fault.StoreFault.TheVariants as fault
use Rattle.command_spec.specs.declared.status.Status.TheVariants as status
use Rattle.command_spec.specs.declared.words.Words.TheVariants as words
use Rattle.qic_base.specs.Sink as sinks
use Rattle.qic_base.specs.SinkCalls as sink_calls
use Rattle.qic_base.specs.Tape as tapes

blind : IsBlind words.Room
blind = record { reads = refl }

found_by_room : (why : Status) → is_opening why ≡ true → may_come_from why words.Room ≡ true
found_by_room status.NoCartridge sound = refl
found_by_room status.NotFormatted sound = refl
found_by_room (status.Foreign field value) sound = sound
found_by_room (status.Lost segment lost) sound = table_lost segment lost false sound
found_by_room status.TableMismatch sound = refl
found_by_room why sound = cc

-- it tells the room of the volumes that the cartridge is mounted with
tells : (words : List ℕ) (entries : List Entry) (bytes : ℕ) (held : Option Cartridge) → bytes ≡ room words entries →
    IsSomeAnd held (λ c. HasVolumes c words entries) → OpenOutcome TellsRoom held (acted [] (room_line bytes))
tells words entries bytes None is has = absurd has
tells words entries bytes (Some c) is (header, (table, mounts)) =
    (Mounted header words table entries, mounts, ap (λ (n : ℕ). acted [] (room_line n)) is)

-- the refusals of an opening have an answer each
pub never_short : {T : Type 0} (t : tapes.Meaning T) (a b : T) (f : StoreFault) → LookFails t a b (Some f) → (promised read : ℕ) →
    f ≢ fault.Short promised read
never_short t a b (fault.Short p r) fails promised read is = let kind = fails.kind in absurd (cc)
never_short t a b f fails promised read is = cc

module _ {T K : Type 0} (t : tapes.Meaning T) (k : sinks.Meaning K) (a : T) (b : UnitView T) (x : K) where
  turned_room : (why : Status) → ((z : K) → k.took z [] z) → why ≢ status.TapeFault → OpeningEnds t a b (Err why) → EndsBlind t k
      words.Room a b.tape x x why
  turned_room why nothing other (inl turned) =
      turned_down t k words.Room blind a b.tape x why nothing (found_by_room why turned.sound) (no_counts why turned.sound)
      (no_outcome why turned.sound)
      (told_map (t.told a) _ _ turned.told (λ held is input. refused_is TellsRoom why held is)) turned.did
  turned_room why nothing other (inr (is, cut)) = absurd (other is)

  pub room_absent : ((z : K) → k.took z [] z) → IsAbsent t a b.tape → EndsBlind t k words.Room a b.tape x x status.NoCartridge
  room_absent nothing absent = turned_room status.NoCartridge nothing (λ is. cc) (open_absent t a b absent)

  pub room_refused : (f : StoreFault) → ((z : K) → k.took z [] z) → LookFails t a b.tape (Some f) → EndsBlind t k words.Room a b.tape x x
      (store_status f)
  room_refused fault.NotFormatted nothing fails =
      turned_room status.NotFormatted nothing (λ is. cc) (open_failed t a b fault.NotFormatted fails)
  room_refused (fault.Foreign field value) nothing fails =
      turned_room (status.Foreign field value) nothing (λ is. cc) (open_failed t a b (fault.Foreign field value) fails)
  room_refused (fault.Lost segment lost) nothing fails =
      turned_room (status.Lost segment lost) nothing (λ is. cc) (open_failed t a b (fault.Lost segment lost) fails)
  room_refused fault.TableMismatch nothing fails =
      turned_room status.TableMismatch nothing (λ is. cc) (open_failed t a b fault.TableMismatch fails)
  room_refused fault.Tape nothing fails = cut_off_first t k words.Room blind a b.tape x nothing fails
  room_refused f nothing fails = let kind = fails.kind in absurd (cc)

  pub room_printed : (y : K) (bytes : ℕ) (r : Result (Unit {0}) SinkFailed) → FindsRoom t a b.tape bytes → sink_calls.Writes k x y
      (room_line bytes) r →
      EndsBlind t k words.Room a b.tape x y (printed_status r)
  room_printed y bytes r finds writes =
      printed t k words.Room blind a b.tape x y (acted [] (room_line bytes)) r refl refl refl
      (finds.words, (finds.entries, ap room_line finds.is))
      (told_map (t.told a) _ _ finds.told (λ held has input. tells finds.words finds.entries bytes held finds.is has)) finds.did writes
