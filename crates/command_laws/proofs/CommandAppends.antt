-- What an append leaves of a cartridge that stands for a plain one: done, refused, or stopped.
use Rattle.std.proofs.Common.{◌≡◌, ◌≢◌, List, [], ℕ, false, refl, ◌⊎◌, inl, inr, Some, subst, ◌+◌, ◌++◌, ap, ◌∙◌, ◌-◌, Option, IsSomeAnd}
use Rattle.std.proofs.Common.{None, length, Bool, All, ◌<◌, ◌≤◌, arith, true, cond, take, nat_le, min, append-nil, sym, ◌^◌, ◌∷◌}
use Rattle.std.proofs.lemmas.List.Elements.{All-weaker}
use Rattle.std.proofs.lemmas.Bool.{leb-true, and_parts, cases_Bool}
use Rattle.std.proofs.lemmas.List.{take_all, length-map}
use Rattle.cartridge_laws.proofs.AppendDead.{settled_is_settled_for}
use Rattle.cartridge_laws.proofs.AppendDone.{stopped_append, done_stands}
use Rattle.cartridge_laws.proofs.AppendReady.{settled_is_ready, settled_may_append_to}
use Rattle.cartridge_laws.proofs.AppendSegments.{carrying_carry, carrying_from}
use Rattle.cartridge_laws.proofs.AppendVolume.{free_writes_stand}
use Rattle.cartridge_laws.proofs.FormatWriting.{effects-some, some_weaker, some_and}
use Rattle.cartridge_laws.proofs.MountKeeping.{stopped_stands}
use Rattle.cartridge_laws.proofs.MountSettled.{settled_keeps_table, settled_twice, settled_stands}
use Rattle.cartridge_laws.proofs.MountStanding.{standing_mounts_only_so}
use Rattle.cartridge_laws.proofs.MountWhole.{settling_effects}
use Rattle.cartridge_laws.specs.AppendLaws.{IsReadyFor, with_content, IsAppendable, MayAppendTo}
use Rattle.cartridge_laws.specs.AppendSteps.{writes_into}
use Rattle.cartridge_laws.specs.AppendWrites.{AreWrites, IsFree}
use Rattle.cartridge_laws.specs.Shape.{Carries}
use Rattle.cartridge_spec.specs.Appending.{has_room, table_writes, Content}
use Rattle.cartridge_laws.specs.Table.{last_end}
use Rattle.cartridge_laws.specs.Slots.{slot_sector, with_slot}
use Rattle.cartridge_spec.specs.Formatting.{IsLabel}
use Rattle.cartridge_spec.specs.TableSegment.{TableIs, IsTableLive}
use Rattle.cartridge_spec.specs.Mounting.{Mounting, Mounts, settled}
use Rattle.cartridge_spec.specs.Settling.{settling_steps, changed_by}
use Rattle.cartridge_spec.specs.Shape.{mask_at}
use Rattle.cartridge_spec.specs.Table.{slot_bytes, Entry}
use Rattle.cartridge_spec.specs.Volumes.{Plain, entries_of, Stands, Volume}
use Rattle.command_laws.proofs.InputActLaws.{volume_is_free, volume_is_writes}
use Rattle.command_laws.proofs.MountedKeeping.{kept_may}
use Rattle.command_spec.specs.Append.{appended, AppendOutcome, Kept, input_writes, entry_acts, room_in, taking, volume_acts, Fits, TooLong}
use Rattle.command_spec.specs.Append.{kept_over}
use Rattle.command_laws.specs.AppendTerms.{entry_for, free_in, content_with}
use Rattle.command_laws.specs.MountedKept.{IsKept}
use Rattle.command_laws.specs.Outcomes.{Appends}
use Rattle.command_spec.specs.Lines.{reply_behind, appended_line}
use Rattle.command_spec.specs.Outcome.{CommandOutcome, refused, Opened, settling_act}
use Rattle.command_spec.specs.declared.status.Status.{Status}
use Rattle.qic_base.proofs.Joins.{steps_of-append}
use Rattle.qic_base.proofs.Steps.{Torn-append, effects-append, Torn-all, Torn-front}
use Rattle.qic_base.specs.Acts.{Act, steps_of, text_of}
use Rattle.qic_base.specs.Cartridge.{Cartridge}
use Rattle.qic_base.specs.CartridgeTerms.{IsCartridge}
use Rattle.qic_base.specs.Step.{Step, effects, Torn}
use Rattle.command_spec.specs.declared.status.Status.TheVariants as status
use Rattle.cartridge_laws.specs.AppendLaws as appends

-- ---- what it comes to

-- nothing is done, and this answered
pub record WasRefused (outcome : CommandOutcome) : Type 0 where
  pub why : Status
  pub acts : List Act
  pub is : outcome ≡ record { acts = acts; taken = 0; status = why }
  pub none : steps_of acts ≡ []
  pub not_done : why ≢ status.Done

-- a label, a date word and bytes may be appended
pub can_append : {name : List ℕ} {date : ℕ} {bytes : List ℕ} → IsLabel name × (date < 2 ^ 32) → All (λ b. b < 256) bytes →
    IsAppendable (content_with name date bytes)
can_append values bytes = record { label = values.0; word = values.1; bytes = bytes }

-- the table is settled, and the input appended
pub record WasRun (content : Content) (c : Cartridge) (plain : Plain) (outcome : CommandOutcome) : Type 0 where
  pub unprotected : c.info.protected ≡ false
  pub table : TableIs c plain.table_area
  pub is : outcome ≡ appended content.name content.date content.bytes c plain.words plain.table_area (entries_of plain)

-- it takes volumes then
pub kept_by : {content : Content} {c : Cartridge} {plain : Plain} {outcome : CommandOutcome} → IsCartridge c → Stands c plain →
    IsTableLive c → WasRun content c plain outcome → IsKept c plain
kept_by whole stood live run =
    record { cartridge = whole; stands = stood; table = run.table; live = live; unprotected = run.unprotected }

refusal : (why : Status) (outcome : CommandOutcome) → why ≢ status.Done → outcome ≡ refused why → WasRefused outcome
refusal why outcome other is = record { why = why; acts = []; is = is; none = refl; not_done = other }

pub course : (content : Content) (c : Cartridge) (plain : Plain) (outcome : CommandOutcome) → Stands c plain →
    AppendOutcome content.name content.date (Some c) content.bytes outcome → WasRefused outcome ⊎ WasRun content c plain outcome
course content c plain outcome stood (inl (locked, is)) = inl (refusal status.Protected outcome (λ same. cc) is)
course content c plain outcome stood (inr (free, (m, mounts, opened))) =
    elim (standing_mounts_only_so c plain m stood mounts) [
      | inl same ↦
          inr (record {
            unprotected = free;
            table = (subst (Mounts c) same mounts).reads;
            is = subst (λ (a : Mounting). Opened (Appends content.name content.date content.bytes) c a outcome) same opened;
          })
      | inr (n, same) ↦
          inl (refusal (status.Lost 2 n) outcome (λ is. cc)
          (subst (λ (a : Mounting). Opened (Appends content.name content.date content.bytes) c a outcome) same opened))
    ]

-- ---- behind the settling

-- some steps behind those that settle the table, and those that would settle it again
abbrev pub behind_settling : Cartridge → Plain → List Step → List Step
behind_settling c plain steps =
    settling_steps plain.table_area c ++ (settling_steps plain.table_area (settled plain.table_area c) ++ steps)

settled_stays : (c : Cartridge) (area : List (List ℕ)) → TableIs c area →
    effects (settling_steps area (settled area c)) (Some (settled area c)) ≡ Some (settled area c)
settled_stays c area table =
    settling_effects (settled area c) area (settled_keeps_table c area table).table
    ∙ ap (λ (d : Cartridge). Some d) (settled_twice c area table)

stopped_behind : (c : Cartridge) (plain : Plain) (steps : List Step) (left : Option Cartridge) → Stands c plain →
    TableIs c plain.table_area →
    Torn (behind_settling c plain steps) (Some c) left →
    IsSomeAnd left (λ d. Stands d plain) ⊎ Torn steps (Some (settled plain.table_area c)) left
stopped_behind c plain steps left stood table torn =
    let area : List (List ℕ) = plain.table_area in
    let s : Cartridge = settled area c in
    let again : List Step = settling_steps area s in
    elim (Torn-append (settling_steps area c) (again ++ steps) (Some c) left torn) [
      | inl front ↦ inl (stopped_stands c plain area left stood table front)
      | inr rest ↦ elim (Torn-append again steps (Some s) left
          (subst (λ (held : Option Cartridge). Torn (again ++ steps) held left) (settling_effects c area table) rest)) [
            | inl front ↦
                inl (stopped_stands s plain area left (settled_stands c plain area stood table)
                (settled_keeps_table c area table).table front)
            | inr behind ↦ inr (subst (λ (held : Option Cartridge). Torn steps held left) (settled_stays c area table) behind)
          ]
    ]

pub done_behind : (c : Cartridge) (plain : Plain) (steps : List Step) → TableIs c plain.table_area →
    effects (behind_settling c plain steps) (Some c) ≡ Some (changed_by steps (settled plain.table_area c))
done_behind c plain steps table =
    let area : List (List ℕ) = plain.table_area in
    let s : Cartridge = settled area c in
    let again : List Step = settling_steps area s in
    effects-append (settling_steps area c) (again ++ steps) (Some c)
    ∙ ap (effects (again ++ steps)) (settling_effects c area table)
    ∙ effects-append again steps (Some s)
    ∙ ap (effects steps) (settled_stays c area table)
    ∙ effects-some steps s

-- ---- the segments' acts

abbrev pub kept_of : Cartridge → Plain → Kept
kept_of c plain = kept_over (settled plain.table_area c) plain.words (entries_of plain) plain.table_area

abbrev pub segments_acts : Cartridge → Plain → (input : List ℕ) → List Act
segments_acts c plain input = input_writes plain.words (entries_of plain) None input

-- and the table's, where there is room
abbrev pub table_acts : Cartridge → Plain → Content → List Act
table_acts c plain content =
    entry_acts (kept_of c plain) content.name content.date (reply_behind (length (entries_of plain)))
    (taking (room_in (kept_of c plain)) None content.bytes)

-- there is room for all of the input
abbrev pub fits : Plain → (input : List ℕ) → Bool
fits plain input = has_room plain (length input)

free_carry : (c : Cartridge) (plain : Plain) → All (λ s. Carries (mask_at plain.words s)) (free_in (kept_of c plain))
free_carry c plain = carrying_carry plain.words (last_end (entries_of plain) + 1) (length plain.words - 1)

free_behind : (c : Cartridge) (plain : Plain) → All (λ s. last_end (entries_of plain) < s) (free_in (kept_of c plain))
free_behind c plain =
    let last : ℕ = last_end (entries_of plain) in
    All-weaker (λ (s : ℕ). last + 1 ≤ s) (λ (s : ℕ). last < s) (λ s (h : last + 1 ≤ s). omega arith) (free_in (kept_of c plain))
    (carrying_from plain.words (last + 1) (length plain.words - 1))

pub free_if : (before : ℕ) (some : Bool) (acts : List Act) → AreWrites (IsFree before) (steps_of acts) →
    AreWrites (IsFree before) (steps_of (cond some acts []))
free_if before true acts free = free
free_if before false acts free = tt

pub segments_are_free : (c : Cartridge) (plain : Plain) (input : List ℕ) →
    AreWrites (IsFree (last_end (entries_of plain))) (steps_of (segments_acts c plain input))
segments_are_free c plain input =
    let have : ℕ = room_in (kept_of c plain) in
    let free : List ℕ = free_in (kept_of c plain) in
    free_if (last_end (entries_of plain)) (nat_le 1 have) (volume_acts plain.words free (take have input))
    (volume_is_free (last_end (entries_of plain)) plain.words free (take have input) (free_behind c plain))

-- a stop among them leaves what stood
segments_stand : (c : Cartridge) (plain : Plain) (input : List ℕ) (left : Option Cartridge) → Stands c plain → TableIs c plain.table_area →
    Torn (behind_settling c plain (steps_of (segments_acts c plain input))) (Some c) left → IsSomeAnd left (λ d. Stands d plain)
segments_stand c plain input left stood table torn =
    let steps : List Step = steps_of (segments_acts c plain input) in
    let s : Cartridge = settled plain.table_area c in
    elim (stopped_behind c plain steps left stood table torn) [
      | inl stands ↦ stands
      | inr behind ↦ some_weaker left (λ d known. known.0)
          (free_writes_stand s plain steps left (settled_stands c plain plain.table_area stood table)
          (segments_are_free c plain input) behind)
    ]

-- ---- where there is no room for all of the input

pub no_table : (c : Cartridge) (plain : Plain) (content : Content) → fits plain content.bytes ≡ false →
    segments_acts c plain content.bytes ++ table_acts c plain content ≡ segments_acts c plain content.bytes
no_table c plain content small =
    let have : ℕ = room_in (kept_of c plain) in
    ap (λ (b : Bool). segments_acts c plain content.bytes
    ++ entry_acts (kept_of c plain) content.name content.date (reply_behind (length (entries_of plain)))
    (cond b (Fits content.bytes) (TooLong (min (length content.bytes) (have + 1)) have))) small
    ∙ append-nil (segments_acts c plain content.bytes)

-- ---- where there is

segments_write : (c : Cartridge) (plain : Plain) (input : List ℕ) → fits plain input ≡ true →
    steps_of (segments_acts c plain input) ≡ writes_into plain.words (free_in (kept_of c plain)) input
segments_write c plain input enough =
    let have : ℕ = room_in (kept_of c plain) in
    let free : List ℕ = free_in (kept_of c plain) in
    let both = and_parts (nat_le 1 have) (nat_le (length input) have) enough in
    ap (λ (b : Bool). steps_of (cond b (volume_acts plain.words free (take have input)) [])) both.0
    ∙ ap (λ (bytes : List ℕ). steps_of (volume_acts plain.words free bytes)) (take_all have input (leb-true (length input) have both.1))
    ∙ volume_is_writes plain.words free input (free_carry c plain)

table_writes_are : (c : Cartridge) (plain : Plain) (content : Content) → fits plain content.bytes ≡ true →
    steps_of (table_acts c plain content) ≡ appends.list_steps plain content
table_writes_are c plain content enough =
    let kept : Kept = kept_of c plain in
    let have : ℕ = room_in kept in
    let bytes : List ℕ = slot_bytes (entry_for kept content.name content.date content.bytes) in
    ap (λ (b : Bool). steps_of (entry_acts kept content.name content.date (reply_behind (length (entries_of plain)))
    (cond b (Fits content.bytes) (TooLong (min (length content.bytes) (have + 1)) have)))) enough
    ∙ append-nil (table_writes (slot_sector (length (entries_of plain))) (with_slot plain.table_area (length (entries_of plain)) bytes))
    ∙ ap (λ (n : ℕ). table_writes (slot_sector n) (with_slot plain.table_area n bytes)) (length-map plain.volumes (λ (v : Volume). v.entry))

-- they are all the writes of an append to the settled cartridge
pub steps_are : (content : Content) (c : Cartridge) (plain : Plain) → fits plain content.bytes ≡ true →
    steps_of (segments_acts c plain content.bytes ++ table_acts c plain content) ≡ appends.append_steps_of plain content
steps_are content c plain enough =
    steps_of-append (segments_acts c plain content.bytes) (table_acts c plain content)
    ∙ ap (λ (front : List Step). front ++ steps_of (table_acts c plain content)) (segments_write c plain content.bytes enough)
    ∙ ap (λ (rear : List Step). appends.volume_steps plain content ++ rear) (table_writes_are c plain content enough)

-- ---- a stop

run_stopped : (content : Content) (c : Cartridge) (plain : Plain) (left : Option Cartridge) → IsAppendable content → IsKept c plain →
    Torn (behind_settling c plain (steps_of (segments_acts c plain content.bytes ++ table_acts c plain content))) (Some c) left →
    IsSomeAnd left (λ d. Stands d plain ⊎ Stands d (with_content plain content))
run_stopped content c plain left may kept torn =
    let s : Cartridge = settled plain.table_area c in
    elim (cases_Bool (fits plain content.bytes)) [
      | inl enough ↦ elim (stopped_behind c plain (appends.append_steps_of plain content) left kept.stands kept.table
          (subst (λ (steps : List Step). Torn (behind_settling c plain steps) (Some c) left)
          (steps_are content c plain enough) torn)) [
            | inl stands ↦ some_weaker left (λ d stands. inl stands) stands
            | inr behind ↦
                let ready : IsReadyFor s plain content = settled_is_ready c plain content (kept_may kept enough may) in
                stopped_append s plain content left ready behind
          ]
      | inr small ↦ some_weaker left (λ d stands. inl stands)
          (segments_stand c plain content.bytes left kept.stands kept.table
          (subst (λ (acts : List Act). Torn (behind_settling c plain (steps_of acts)) (Some c) left)
          (no_table c plain content small) torn))
    ]

-- a stop leaves what stood, or that with the volume of the input
pub append_stopped : (content : Content) (c : Cartridge) (plain : Plain) (outcome : CommandOutcome)
    (left : Option Cartridge) → IsAppendable content → IsCartridge c → Stands c plain → IsTableLive c →
    AppendOutcome content.name content.date (Some c) content.bytes outcome → Torn (steps_of outcome.acts) (Some c) left →
    IsSomeAnd left (λ d. Stands d plain ⊎ Stands d (with_content plain content))
append_stopped content c plain outcome left may whole stood live machine torn =
    elim (course content c plain outcome stood machine) [
      | inl none ↦
          some_and (λ d. Stands d plain ⊎ Stands d (with_content plain content)) c left (inl stood)
          (subst (λ (ss : List Step). Torn ss (Some c) left) (ap (λ (o : CommandOutcome). steps_of o.acts) none.is ∙ none.none) torn)
      | inr run ↦
          run_stopped content c plain left may (kept_by whole stood live run)
          (subst (λ (o : CommandOutcome). Torn (steps_of o.acts) (Some c) left) run.is torn)
    ]

-- ---- done

pub done_fits : (b : Bool) (need have : ℕ) → cond b status.Done (status.Full need have) ≡ status.Done → b ≡ true
done_fits true need have is = refl
done_fits false need have is = absurd (cc)

-- where it was done, it stands for that with the volume
pub append_done : (content : Content) (c : Cartridge) (plain : Plain) (outcome : CommandOutcome) → IsAppendable content →
    IsCartridge c → Stands c plain → AppendOutcome content.name content.date (Some c) content.bytes outcome →
    outcome.status ≡ status.Done → IsSomeAnd (effects (steps_of outcome.acts) (Some c)) (λ d. Stands d (with_content plain content))
append_done content c plain outcome may whole stood machine is_done =
    elim (course content c plain outcome stood machine) [
      | inl none ↦ absurd (none.not_done (sym (ap (λ (o : CommandOutcome). o.status) none.is) ∙ is_done))
      | inr run ↦
          let have : ℕ = room_in (kept_of c plain) in
          let enough : fits plain content.bytes ≡ true =
          done_fits (fits plain content.bytes) (min (length content.bytes) (have + 1)) have
          (sym (ap (λ (o : CommandOutcome). o.status) run.is) ∙ is_done)
          in
          some_and (λ d. Stands d (with_content plain content)) _ (effects (steps_of outcome.acts) (Some c))
          (stands run.unprotected run.table enough)
          (ap (λ (o : CommandOutcome). effects (steps_of o.acts) (Some c)) run.is
          ∙ ap (λ (steps : List Step). effects (behind_settling c plain steps) (Some c)) (steps_are content c plain enough)
          ∙ done_behind c plain (appends.append_steps_of plain content) run.table)
    ]
  where
    stands : c.info.protected ≡ false → TableIs c plain.table_area → fits plain content.bytes ≡ true →
        Stands (changed_by (appends.append_steps_of plain content) (settled plain.table_area c)) (with_content plain content)
    stands unprotected table enough =
        let s : Cartridge = settled plain.table_area c in
        let before : MayAppendTo c plain content = record { cartridge = whole; stands = stood; room = enough; appendable = may } in
        done_stands s plain content (settled_may_append_to c plain content before table)
        (settled_is_settled_for c plain.table_area table unprotected)

-- ---- refused

pub not_done_small : (b : Bool) (need have : ℕ) → cond b status.Done (status.Full need have) ≢ status.Done → b ≡ false
not_done_small true need have other = absurd (other refl)
not_done_small false need have other = refl

-- where it was refused, it stands for what it stood for
pub append_refused : (content : Content) (c : Cartridge) (plain : Plain) (outcome : CommandOutcome) →
    IsCartridge c → Stands c plain → AppendOutcome content.name content.date (Some c) content.bytes outcome → outcome.status ≢ status.Done →
    IsSomeAnd (effects (steps_of outcome.acts) (Some c)) (λ d. Stands d plain)
append_refused content c plain outcome whole stood machine other =
    elim (course content c plain outcome stood machine) [
      | inl none ↦
          subst (λ (ss : List Step). IsSomeAnd (effects ss (Some c)) (λ d. Stands d plain))
          (sym (ap (λ (o : CommandOutcome). steps_of o.acts) none.is ∙ none.none)) stood
      | inr run ↦
          let have : ℕ = room_in (kept_of c plain) in
          let small : fits plain content.bytes ≡ false =
          not_done_small (fits plain content.bytes) (min (length content.bytes) (have + 1)) have
          (λ is. other (ap (λ (o : CommandOutcome). o.status) run.is ∙ is)) in
          let steps : List Step = behind_settling c plain (steps_of (segments_acts c plain content.bytes)) in
          let same : steps_of outcome.acts ≡ steps =
          ap (λ (o : CommandOutcome). steps_of o.acts) run.is
          ∙ ap (λ (acts : List Act). behind_settling c plain (steps_of acts)) (no_table c plain content small) in
          subst (λ (ss : List Step). IsSomeAnd (effects ss (Some c)) (λ d. Stands d plain)) (sym same)
          (segments_stand c plain content.bytes (effects steps (Some c)) stood run.table (Torn-all steps (Some c)))
    ]

-- ---- before the reply

pub appended_line_is_some : (number bytes start end : ℕ) → appended_line number bytes start end ≢ []
unfolding appended_line
appended_line_is_some number bytes start end is = cc

-- a front of some acts and a last one that prints, in which nothing is printed, is one of the others
quiet_front : (front rest acts : List Act) (last : Act) → last.text ≢ [] → front ++ rest ≡ acts ++ last ∷ [] → text_of front ≡ [] →
    (more : List Act) × (front ++ more ≡ acts)
quiet_front [] rest acts last prints parts quiet = (acts, refl)
quiet_front (f ∷ fs) rest [] last prints parts quiet =
    let first : f ≡ last = cc in
    absurd (prints (ap (λ (a : Act). a.text) (sym first) ∙ no_front f.text (text_of fs) quiet))
  where
    no_front : (xs ys : List ℕ) → xs ++ ys ≡ [] → xs ≡ []
    no_front [] ys none = refl
    no_front (x ∷ xs) ys none = absurd (cc)
quiet_front (f ∷ fs) rest (a ∷ acts) last prints parts quiet =
    let first : f ≡ a = cc in
    let others : fs ++ rest ≡ acts ++ last ∷ [] = cc in
    let found = quiet_front fs rest acts last prints others (no_rear f.text (text_of fs) quiet) in
    (found.0, ap (λ (b : Act). b ∷ (fs ++ found.0)) first ∙ ap (λ (bs : List Act). a ∷ bs) found.1)
  where
    no_rear : (xs ys : List ℕ) → xs ++ ys ≡ [] → ys ≡ []
    no_rear [] ys none = none
    no_rear (x ∷ xs) ys none = absurd (cc)

-- a front of the settling and the segments' acts leaves what stood
front_stands : (c : Cartridge) (plain : Plain) (input : List ℕ) (front more : List Act) (first again : Act) → Stands c plain →
    TableIs c plain.table_area →
    first.steps ≡ settling_steps plain.table_area c → again.steps ≡ settling_steps plain.table_area (settled plain.table_area c) →
    front ++ more ≡ first ∷ again ∷ segments_acts c plain input →
    IsSomeAnd (effects (steps_of front) (Some c)) (λ d. Stands d plain)
front_stands c plain input front more first again stood table settles keeps parts =
    let left : Option Cartridge = effects (steps_of front) (Some c) in
    let rest : List Step = steps_of (segments_acts c plain input) in
    let same : steps_of front ++ steps_of more ≡ behind_settling c plain rest =
    sym (steps_of-append front more)
    ∙ ap (λ (acts : List Act). steps_of acts) parts
    ∙ ap (λ (steps : List Step). steps ++ (again.steps ++ rest)) settles
    ∙ ap (λ (steps : List Step). settling_steps plain.table_area c ++ (steps ++ rest)) keeps in
    segments_stand c plain input left stood table
    (subst (λ (steps : List Step). Torn steps (Some c) left) same
    (Torn-front (steps_of front) (steps_of more) (Some c) left (Torn-all (steps_of front) (Some c))))

empty_front : (c : Cartridge) (plain : Plain) (front rest acts : List Act) → Stands c plain → front ++ rest ≡ acts → steps_of acts ≡ [] →
    IsSomeAnd (effects (steps_of front) (Some c)) (λ d. Stands d plain)
empty_front c plain front rest acts stood parts none =
    subst (λ (ss : List Step). IsSomeAnd (effects ss (Some c)) (λ d. Stands d plain))
    (sym (no_step (steps_of front) (steps_of rest) (sym (steps_of-append front rest) ∙ ap (λ (xs : List Act). steps_of xs) parts ∙ none)))
    stood
  where
    no_step : (xs ys : List Step) → xs ++ ys ≡ [] → xs ≡ []
    no_step [] ys is = refl
    no_step (x ∷ xs) ys is = absurd (cc)

-- a front of the acts in which nothing is printed leaves what stood: the table is not yet written
pub append_unanswered : (content : Content) (c : Cartridge) (plain : Plain) (outcome : CommandOutcome)
    (front rest : List Act) → IsCartridge c → Stands c plain → AppendOutcome content.name content.date (Some c) content.bytes outcome →
    front ++ rest ≡ outcome.acts → text_of front ≡ [] → IsSomeAnd (effects (steps_of front) (Some c)) (λ d. Stands d plain)
append_unanswered content c plain outcome front rest whole stood machine parts quiet =
    elim (course content c plain outcome stood machine) [
      | inl none ↦ empty_front c plain front rest none.acts stood (parts ∙ ap (λ (o : CommandOutcome). o.acts) none.is) none.none
      | inr run ↦
          let kept : Kept = kept_of c plain in
          let have : ℕ = room_in kept in
          let e : Entry = entry_for kept content.name content.date content.bytes in
          let first : Act = settling_act plain.table_area c in
          let again : Act = record { steps = kept.settling; text = [] } in
          let acts : front ++ rest ≡ first ∷ again ∷ (segments_acts c plain content.bytes ++ table_acts c plain content) =
          parts ∙ ap (λ (o : CommandOutcome). o.acts) run.is in
          elim (cases_Bool (fits plain content.bytes)) [
            | inl enough ↦
                let last : Act = record {
                  steps = table_writes (slot_sector (length (entries_of plain)))
                      (with_slot plain.table_area (length (entries_of plain)) (slot_bytes e));
                  text = reply_behind (length (entries_of plain)) e;
                } in
                let found = quiet_front front rest (first ∷ again ∷ segments_acts c plain content.bytes) last
                (appended_line_is_some (length (entries_of plain) + 1) e.size e.start e.end)
                (acts ∙ ap (λ (b : Bool). first ∷ again ∷ (segments_acts c plain content.bytes ++ entry_acts kept content.name content.date
                (reply_behind (length (entries_of plain)))
                (cond b (Fits content.bytes) (TooLong (min (length content.bytes) (have + 1)) have)))) enough) quiet in
                front_stands c plain content.bytes front found.0 first again stood run.table refl refl found.1
            | inr small ↦
                front_stands c plain content.bytes front rest first again stood run.table refl refl
                (acts ∙ ap (λ (others : List Act). first ∷ again ∷ others) (no_table c plain content small))
          ]
    ]
