-- How a look at a cartridge ends, by how its reading did.
use Rattle.std.proofs.Common.{◌≡◌, ◌≢◌, ℕ, List, [], true, Option, Some, None, IfSome, IsSomeAnd, Err}
use Rattle.qic_base.specs.declared.store_fault.StoreFault.{StoreFault}
use Rattle.cartridge_front.specs.declared.learning.Learnt.{Learnt}
use Rattle.cartridge_front.specs.Finding.{is_of_mounting, Leaves, NamesCause}
use Rattle.cartridge_front.specs.Learning.{HasLearnt, MountRefuses}
use Rattle.cartridge_spec.specs.Appending.{room}
use Rattle.cartridge_spec.specs.Table.{Entry}
use Rattle.drive_states.specs.Unit.{UnitView}
use Rattle.header_segments.specs.Header.{header_of}
use Rattle.qic_base.proofs.Steps.{Done-Done, Done-Broke, tells_two}
use Rattle.qic_base.specs.Cartridge.{Cartridge}
use Rattle.qic_base.specs.CartridgeTerms.{IsInfoOf}
use Rattle.qic_base.specs.declared.tape.TapeInfo.{TapeInfo}
use Rattle.volume_store.proofs.Mounted.{turned}
use Rattle.volume_store.proofs.Started.{Present, told_known_beside, told_at_start}
use Rattle.volume_store.specs.Looking.{FindsRoom, HasVolumes, LookFails}
use Rattle.qic_base.specs.Tape as tapes
use Rattle.qic_base.specs.TapeCalls as tape_calls
use Rattle.qic_base.specs.declared.store_fault.StoreFault.TheVariants as fault

there_is : (info : TapeInfo) (P : Cartridge → Type 0) (held : Option Cartridge) → IsInfoOf (Some info) held → IfSome held P → IsSomeAnd
    held P
there_is info P None known holds = cc
there_is info P (Some c) known holds = holds

-- what was learnt of a cartridge is what it is mounted with
pub look_found : {T : Type 0} (t : tapes.Meaning T) (a b c : T) (info : TapeInfo) (words : List ℕ) (sectors : List (List ℕ))
    (entries : List Entry) (learnt : Learnt) (bytes : ℕ) →
    Present t a b info → tapes.Done t b c [] → tape_calls.Tells t b (λ d. HasLearnt d words sectors entries learnt) → bytes ≡ room words
    entries → FindsRoom t a c bytes
look_found t a b c info words sectors entries learnt bytes there did told is =
    let Learns : Cartridge → Type 0 = λ d. HasLearnt d words sectors entries learnt in
    let Has : Cartridge → Type 0 = λ d. HasVolumes d words entries in
    record {
      did = Done-Done there.did did;
      words = words;
      entries = entries;
      is = is;
      told = told_known_beside (t.told a) (Some info) Has (λ h. IsSomeAnd h Has) there.known
          (told_at_start t a b there.did Has (tells_two t b Learns Learns Has
          (λ d known again. (header_of learnt.header, (_, known.mounts))) told told))
          (λ held known has. there_is info Has held known has);
    }

-- the reading was refused, or a fault of the tape broke it off
pub look_refused : {T : Type 0} (n : ℕ) (t : tapes.Meaning T) (a b : T) (c : UnitView T) (info : TapeInfo) (f : StoreFault) → Present t a
    b info → Leaves {A = Learnt} t b c.tape [] (Err f) →
    (f ≢ fault.Tape → tape_calls.Tells t b (λ d. MountRefuses d f)) → is_of_mounting f ≡ true → NamesCause {A = Learnt} n (Err f) →
    LookFails t a c.tape (Some f)
look_refused n t a b c info fault.NotFormatted there does told kind cause = turned n t a b c info fault.NotFormatted there does
    (told (λ same. cc)) kind cause
look_refused n t a b c info (fault.Foreign field value) there does told kind cause =
    turned n t a b c info (fault.Foreign field value) there does (told (λ same. cc)) kind cause
look_refused n t a b c info (fault.Lost segment lost) there does told kind cause =
    turned n t a b c info (fault.Lost segment lost) there does (told (λ same. cc)) kind cause
look_refused n t a b c info fault.TableMismatch there does told kind cause = turned n t a b c info fault.TableMismatch there does
    (told (λ same. cc)) kind cause
look_refused n t a b c info fault.Tape there does told kind cause = Done-Broke there.did does
look_refused n t a b c info f there does told kind cause = absurd (cc)
