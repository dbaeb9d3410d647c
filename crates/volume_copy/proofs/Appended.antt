-- What an append of a copy does to the target, where its tape tells its cartridge.
use Rattle.std.proofs.Common.{◌≡◌, ◌≢◌, ℕ, true, false, List, [], ◌∷◌, ◌++◌, length, drop, Option, Some, IfSome, Result, Ok, Err, refl, ap}
use Rattle.std.proofs.Common.{sym, subst, ◌∙◌}
use Rattle.std.specs.Option.{option_map}
use Rattle.cartridge_laws.proofs.FormatWriting.{effects-some}
use Rattle.cartridge_spec.specs.TableSegment.{TableIs}
use Rattle.cartridge_spec.specs.Settling.{changed_by, settling_steps}
use Rattle.cartridge_spec.specs.Table.{Entry}
use Rattle.cartridge_spec.specs.Volumes.{volume_length}
use Rattle.command_laws.proofs.CommandEnds.{over_at}
use Rattle.command_laws.proofs.CopyOutcomes.{IsTarget}
use Rattle.command_laws.proofs.MountedListed.{append_leaves, append_listed}
use Rattle.command_laws.specs.MountedListed.{IsListed, listed_behind}
use Rattle.command_spec.specs.Append.{Fits, Kept, Taking, TooLong, TooShort, append_acts, entry_acts, input_writes, kept_over, room_in}
use Rattle.command_spec.specs.Append.{taking}
use Rattle.command_laws.specs.AppendTerms.{bytes_taken, entry_for, silently}
use Rattle.command_spec.specs.Copying.{Side}
use Rattle.command_spec.specs.declared.copy_status.CopyStatus.{CopyStatus}
use Rattle.drive_spec.specs.Terms.{is_protected}
use Rattle.qic_base.proofs.Joins.{steps_of-append}
use Rattle.qic_base.specs.Acts.{Act, steps_of}
use Rattle.qic_base.specs.Alone.{reading}
use Rattle.qic_base.specs.Cartridge.{Cartridge}
use Rattle.qic_base.specs.Step.{Step as TapeStep, effects}
use Rattle.qic_base.specs.declared.tape.TapeInfo.{TapeInfo}
use Rattle.volume_copy.specs.Runs.{CopiesOne, SideFits, SideView, append_answer}
use Rattle.volume_copy.specs.Source.{SourceView, new_source, source_means}
use Rattle.cartridge_front.proofs.Copies.{IsLearnt, told_learnt}
use Rattle.volume_store.specs.Appending.{AppendEnds, AppendRan, kept_by}
use Rattle.volume_store.specs.Mounting.{StoreView}
use Rattle.volume_store.specs.declared.appended.Appended.{Appended}
use Rattle.qic_base.specs.declared.store_fault.StoreFault.{StoreFault}
use Rattle.qic_base.specs.Source.{IsInput}
use Rattle.qic_base.specs.Tape as tapes
use Rattle.qic_base.specs.TapeCalls as tape_calls
use Rattle.qic_base.specs.declared.store_fault.StoreFault.TheVariants as fault

-- ---- what is told

pub told_behind : {T : Type 0} (m : tapes.Meaning T) (x y : T) (steps : List TapeStep) (d : Cartridge) → tapes.Done m x y steps →
    m.told x ≡ Some (Some d) →
    m.told y ≡ Some (Some (changed_by steps d))
told_behind m x y steps d did told =
    did.told ∙ ap (option_map (effects steps)) told ∙ ap (λ (held : Option Cartridge). Some held) (effects-some steps d)

-- a fact of a cartridge that is told
pub tells_at : {T : Type 0} (m : tapes.Meaning T) (x : T) (P : Cartridge → Type 0) (d : Cartridge) → m.told x ≡ Some (Some d) →
    tape_calls.Tells m x P → P d
tells_at m x P d told known = over_at (m.told x) (λ held. IfSome held P) (Some d) known told

-- ---- the reply

entry_steps : (kept : Kept) (name : List ℕ) (date : ℕ) (one other : Entry → List ℕ) (became : Taking) →
    steps_of (entry_acts kept name date one became) ≡ steps_of (entry_acts kept name date other became)
entry_steps kept name date one other (Fits bytes) = refl
entry_steps kept name date one other (TooLong need have) = refl
entry_steps kept name date one other (TooShort promised read) = refl

-- it changes no step
replied_steps : (kept : Kept) (name : List ℕ) (date : ℕ) (promised : Option ℕ) (one other : Entry → List ℕ) (input : List ℕ) →
    steps_of (append_acts kept name date promised one input) ≡ steps_of (append_acts kept name date promised other input)
replied_steps kept name date promised one other input =
    let became : Taking = taking (room_in kept) promised input in
    let ws : List Act = input_writes kept.words kept.entries promised input in
    ap (λ (ss : List TapeStep). kept.settling ++ ss)
    (steps_of-append ws (entry_acts kept name date one became)
    ∙ ap (λ (ss : List TapeStep). steps_of ws ++ ss) (entry_steps kept name date one other became)
    ∙ sym (steps_of-append ws (entry_acts kept name date other became)))

-- the side of a store, over the cartridge that is told
abbrev pub side_over : StoreView → Cartridge → Side
side_over store d = record { cartridge = d; words = store.words; entries = store.entries }

module _ {A B : Type 0} (a : tapes.Meaning A) (b : tapes.Meaning B) (number : ℕ) (from after : SideView A) (to new : SideView B)
    (result : Result ℕ CopyStatus) (one : CopiesOne a b number from after to new result)
    (d : Cartridge) (told : b.told to.unit.tape ≡ Some (Some d)) where
  abbrev name : List ℕ
  name = one.entry.name

  abbrev date : ℕ
  date = one.entry.date

  abbrev pub size : ℕ
  size = volume_length from.store.words one.entry

  abbrev pub kept : (table : List (List ℕ)) → Kept
  kept table = kept_over d to.store.words to.store.entries table

  abbrev pub all_acts : (table : List (List ℕ)) → (reply : Entry → List ℕ) → (input : List ℕ) → List Act
  all_acts table reply input = append_acts (kept table) one.entry.name one.entry.date (Some (volume_length from.store.words one.entry))
      reply input

  abbrev made : SourceView A
  made = new_source from.store from.unit number

  abbrev pub Ended : Result Appended StoreFault → Type 0
  Ended r = AppendEnds b (source_means a) (reading to.unit.tape (new_source from.store from.unit number)) (reading new.unit.tape one.source)
      to.store new.store one.entry.name one.entry.date (Some (volume_length from.store.words one.entry)) r

  -- all its acts went, and this became of its input
  pub record AppendIs (became : Taking) : Type 0 where
    pub table : List (List ℕ)
    pub reads : TableIs d table
    pub input : List ℕ
    pub is_told : IsInput ((source_means a).left made) input
    pub took : taking (room_in (kept table)) (Some size) input ≡ became
    pub did : (reply : Entry → List ℕ) → tapes.Done b to.unit.tape new.unit.tape (steps_of (all_acts table reply input))
    pub left : (source_means a).left one.source ≡ option_map (drop (bytes_taken (Some size) became)) ((source_means a).left made)

  pub append_is : (became : Taking) → AppendRan b (source_means a) (reading to.unit.tape made) (reading new.unit.tape one.source) to.store
      name date (Some size) became → AppendIs became
  append_is became ran =
      let known : TableIs d ran.table × (ran.settling ≡ settling_steps ran.table d) =
      tells_at b to.unit.tape (λ c. TableIs c ran.table × (ran.settling ≡ settling_steps ran.table c)) d told ran.known in
      record {
        table = ran.table;
        reads = known.0;
        input = ran.input;
        is_told = ran.is_told;
        took = ran.took;
        did = λ reply.
            subst (tapes.Done b to.unit.tape new.unit.tape)
            (ap (λ (ss : List TapeStep). steps_of (append_acts (kept_by to.store ran.table ss) name date (Some size) silently ran.input))
            known.1
            ∙ replied_steps (kept ran.table) name date (Some size) silently reply ran.input) ran.went.did;
        left = ran.left;
      }

  -- a volume was added
  pub record AddsOne (bytes : ℕ) : Type 0 where
    pub content : List ℕ
    pub is : AppendIs (Fits content)
    pub more : new.store.entries ≡ to.store.entries ++ entry_for (kept is.table) name date content ∷ []
    pub count : bytes ≡ length content

  pub adds_one : (bytes : ℕ) → result ≡ Ok bytes → AddsOne bytes
  adds_one bytes ok = by_answer one.appended refl
    where
      by_answer : (r : Result Appended StoreFault) → one.appended ≡ r → AddsOne bytes
      by_answer (Ok appended) is =
          let does : Ended (Ok appended) = subst Ended is one.ends in
          let same : Ok bytes ≡ append_answer (Ok appended) one.source.fault = sym ok ∙ one.is ∙ ap (λ (r : Result Appended StoreFault).
          append_answer r one.source.fault) is in
          let count : bytes ≡ appended.bytes = cc in record {
            content = does.bytes;
            is = append_is (Fits does.bytes) does.ran;
            more = does.added ∙ ap (λ (e : Entry). to.store.entries ++ e ∷ []) does.is_entry;
            count = count ∙ does.count;
          }
      by_answer (Err f) is =
          let no : Ok bytes ≡ append_answer (Err f) one.source.fault = sym ok ∙ one.is ∙ ap (λ (r : Result Appended StoreFault).
          append_answer r one.source.fault) is in absurd (cc)

  -- and the target takes more
  pub adds_to_target : (bytes : ℕ) → IsTarget (side_over to.store d) → (adds : AddsOne bytes) → (reply : Entry → List ℕ) →
      IsTarget (side_over new.store (changed_by (steps_of (all_acts adds.is.table reply adds.is.input)) d))
  adds_to_target bytes target adds reply =
      let kept_so : Kept = kept adds.is.table in
      let leaves = append_leaves d to.store.words to.store.entries adds.is.table target.listed target.unprotected adds.is.reads name date
      (Some size) reply adds.is.input one.label one.word in
      let left : Cartridge = changed_by (steps_of (all_acts adds.is.table reply adds.is.input)) d in
      let listed : IsListed left to.store.words (listed_behind kept_so name date (taking (room_in kept_so) (Some size) adds.is.input)) =
      append_listed d to.store.words to.store.entries adds.is.table name date (Some size) reply adds.is.input target.listed
      target.unprotected adds.is.reads one.label one.word in
      record {
        listed = subst (λ (ws : List ℕ). IsListed left ws new.store.entries) (sym one.format.words)
            (subst (λ (es : List Entry). IsListed left to.store.words es) (ap (listed_behind kept_so name date) adds.is.took ∙
            sym adds.more) listed);
        unprotected = ap (λ (i : TapeInfo). i.protected) leaves.info ∙ target.unprotected;
      }

  -- an append to it is not refused for its mark
  pub never_protected : SideFits b to → IsTarget (side_over to.store d) → one.appended ≢ Err fault.Protected
  never_protected fits target is =
      let known : IsLearnt to.store.host d = tells_at b to.unit.tape (IsLearnt to.store.host) d told (told_learnt b to.store.host to.unit
      fits.host fits.agrees) in
      let free : is_protected to.unit.drive.deck ≡ false = ap is_protected fits.host.deck ∙ sym known.protected ∙ target.unprotected in
      let locked : is_protected to.unit.drive.deck ≡ true = one.free.0 is in
      let no : true ≡ false = sym locked ∙ free in cc
