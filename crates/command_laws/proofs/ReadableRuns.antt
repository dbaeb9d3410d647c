-- That a volume table can be read goes on from run to run.
use Rattle.std.proofs.Common.{◌≡◌, ◌⊎◌, ◌∙◌, ◌≤◌, ℕ, List, Option, Some, None, IfSome, IsSomeAnd, inl, inr, ap, sym, subst, arith, length}
use Rattle.std.proofs.Common.{append-nil, ◌<◌, ◌++◌, true}
use Rattle.std.proofs.lemmas.List.{take_all}
use Rattle.cartridge_laws.proofs.Cells.{count_of_readable, readable_from_count}
use Rattle.cartridge_laws.proofs.ChangeStanding.{count_grows}
use Rattle.cartridge_laws.proofs.ChangeViews.{ReadsNoMore, held_before, worn_reads_no_more}
use Rattle.cartridge_laws.proofs.FormatCopies.{view_held, unformatted_from_bare}
use Rattle.cartridge_laws.proofs.FormatDone.{formatted_holds, formatting_formats, cleared, cleared_front, first_writable, first_written}
use Rattle.cartridge_laws.proofs.FormatDone.{second_writable, with_first}
use Rattle.cartridge_laws.proofs.FormatHalfway.{IsKeptOrBare, clearing_stopped}
use Rattle.cartridge_laws.proofs.FormatStanding.{same_cells}
use Rattle.cartridge_laws.proofs.FormatWriting.{effects-some, some_weaker, IsPartlyWritten, changed_by-append, copy_stopped, some_and}
use Rattle.cartridge_laws.proofs.MountKeeping.{stopped_mounts}
use Rattle.cartridge_laws.proofs.MountStanding.{can_be_read, standing_mounts}
use Rattle.cartridge_laws.proofs.Segments.{length-whole_cells}
use Rattle.cartridge_laws.specs.FormatMarks.{IsFormattedFrom}
use Rattle.cartridge_spec.specs.Formatting.{HasNoDefectInFront, format_steps, HasNoHeader, clearing_steps, copy_writes}
use Rattle.cartridge_laws.specs.Segment.{unreadable_data}
use Rattle.cartridge_spec.specs.Shape.{IsArea}
use Rattle.cartridge_spec.specs.TableSegment.{table_cells, CanBeRead, IsTableLive}
use Rattle.cartridge_spec.specs.HeaderCopies.{IsUnformatted}
use Rattle.cartridge_spec.specs.Mounting.{Mounted, Mounts}
use Rattle.cartridge_spec.specs.Says.{whole_mask, unreadable_count, with_parity}
use Rattle.cartridge_spec.specs.Settling.{changed_by}
use Rattle.cartridge_spec.specs.Volumes.{Plain, entries_of, worn}
use Rattle.command_laws.proofs.BetweenCarrying.{loses_one}
use Rattle.command_laws.proofs.CommandEnds.{told_weaker}
use Rattle.command_laws.proofs.CommandPlainLaws.{FormatLeaves, format_leaves}
use Rattle.command_laws.proofs.TextWords.{one_command}
use Rattle.command_laws.specs.ReadableLaws.{ComesBackCanBeRead, FormattedCanBeRead, LeftCanBeRead, RunsKeepReadable, StillReadable}
use Rattle.command_laws.specs.ReadableLaws.{FormatsLeaveReadable}
use Rattle.command_spec.specs.Single.{FormatOutcome}
use Rattle.command_spec.specs.Headline.{EachLeft, Stepped, ToldNow, StopLeaves, WordsLeave}
use Rattle.command_spec.specs.Machine.{Spells, is_fault}
use Rattle.command_spec.specs.OneLoss.{ComesBackAsOneOf, with_one, StoppedComesBack}
use Rattle.command_spec.specs.Outcome.{CommandOutcome}
use Rattle.command_spec.specs.ScriptLists.{ItemsSpareTable, with_items}
use Rattle.command_laws.specs.CommandFields.{KeepsLive, Yields}
use Rattle.command_spec.specs.Volumes.{StillHolds}
use Rattle.command_spec.specs.declared.status.Status.{Status}
use Rattle.command_spec.specs.declared.words.Words.{Words}
use Rattle.qic_base.proofs.Steps.{Torn-append}
use Rattle.qic_base.specs.Acts.{Outside, steps_of}
use Rattle.qic_base.specs.Cartridge.{Cartridge, view_at, zero_sector}
use Rattle.qic_base.specs.CartridgeTerms.{IsCartridge}
use Rattle.qic_base.specs.Step.{Step, effects, Torn}
use Rattle.qic_base.specs.declared.tape.SectorView.{SectorView}
use Rattle.qic_base.specs.declared.tape.SectorView.TheVariants.{Holds}
use Rattle.std.proofs.lemmas.Bool.{cases_Bool}
use Rattle.command_laws.proofs.CommandScripted.{over_any, over_stop}
use Rattle.command_laws.proofs.ReadableProtected.{protected_script_reads}
use Rattle.command_spec.specs.Several.{OverInput, Scripted}
use Rattle.qic_base.specs.Source.{IsInput}
use Rattle.cartridge_laws.proofs.FormatStops.{bare_kept}
use Rattle.cartridge_laws.proofs.MountParts.{length-block}
use Rattle.command_spec.specs.Make.{with_made}
use Rattle.qic_base.specs.Tape as tapes
use Rattle.qic_base.specs.Sink as sinks
use Rattle.qic_base.specs.Source as sources
use Rattle.command_spec.specs.declared.status.Status.TheVariants as status
use Rattle.command_spec.specs.declared.words.Words.TheVariants as commands

-- ---- a cartridge

-- what can be read with fewer sectors can be read with more
reads_more : (c d : Cartridge) → ReadsNoMore c d → CanBeRead d → CanBeRead c
reads_more c d less (inl none) =
    let long : length (table_cells d) ≡ 32 = length-whole_cells d 2 in
    inl (count_of_readable 29 (table_cells c)
    (λ i h. let read = readable_from_count 29 (table_cells d) (omega arith) none i h in
    (read.0, held_before c d 2 whole_mask i read.0 less read.1)))
reads_more c d less (inr few) = inr (let grows = count_grows c d 2 less in omega arith)

pub comes_back_can_be_read : ComesBackCanBeRead
comes_back_can_be_read c one other live comes =
    let d : Cartridge = worn 2 0 c in
    reads_more c d (worn_reads_no_more c 2 0)
    (elim (comes d 0 (loses_one c 0 live (omega arith))) [
      | inl first ↦ can_be_read d one.table_area first.mounts.reads
      | inr next ↦ can_be_read d other.table_area next.mounts.reads
    ])

pub some_read : (one other : Plain) (left : Option Cartridge) → IsSomeAnd left IsTableLive → IsSomeAnd left (ComesBackAsOneOf one other) →
    IsSomeAnd left CanBeRead
some_read one other None live comes = absurd comes
some_read one other (Some d) live comes = comes_back_can_be_read d one other live comes

pub left_can_be_read : LeftCanBeRead
left_can_be_read c standing least most left reads live (inl (none, torn)) =
    let plain : Plain = standing 0 in
    some_weaker left (λ d mounts. can_be_read d plain.table_area mounts.reads)
    (stopped_mounts c plain.header plain.words plain.table_area (entries_of plain) left
    (standing_mounts c plain reads.stands reads.reads) torn)
left_can_be_read c standing least most left reads live (inr back) = some_read (standing back.one) (standing back.other) left live back.comes

-- ---- what a run leaves

both_told : (o : Option (Option Cartridge)) {P Q R : Option Cartridge → Type 0} → ((left : Option Cartridge) → P left → Q left → R left) →
    IsSomeAnd o P → IsSomeAnd o Q → IsSomeAnd o R
both_told None follows one other = absurd one
both_told (Some left) follows one other = follows left one other

each_both : {T : Type 0} {P Q R : (held left : Option Cartridge) → Type 0} (t : tapes.Meaning T) (a b : T) →
    ((held left : Option Cartridge) → P held left → Q held left → R held left) →
    EachLeft t a b P → EachLeft t a b Q → EachLeft t a b R
each_both t a b follows one other = record {
  told = λ held told. both_told (t.told b) (λ left. follows held left) (one.told held told) (other.told held told);
  since = λ held left telling told is. follows held left (one.since held left telling told is) (other.since held left telling told is);
}

-- so it is with a clause for each of some things
all_told : (o : Option (Option Cartridge)) {A : Type 0} {P : A → Option Cartridge → Type 0} {Q R : Option Cartridge → Type 0} →
    ((left : Option Cartridge) → ((x : A) → P x left) → Q left → R left) → ((x : A) → IsSomeAnd o (P x)) → IsSomeAnd o Q → IsSomeAnd o R
all_told None follows each other = absurd other
all_told (Some left) follows each other = follows left each other

each_all : {T A : Type 0} {P : A → (held left : Option Cartridge) → Type 0} {Q R : (held left : Option Cartridge) → Type 0}
    (t : tapes.Meaning T) (a b : T) →
    ((held left : Option Cartridge) → ((x : A) → P x held left) → Q held left → R held left) → ((x : A) → EachLeft t a b (P x)) →
    EachLeft t a b Q → EachLeft t a b R
each_all t a b follows each other = record {
  told = λ held told. all_told (t.told b) (λ left. follows held left) (λ x. (each x).told held told) (other.told held told);
  since = λ held left telling told is. follows held left (λ x. (each x).since held left telling told is)
      (other.since held left telling told is);
}

module _ (told : Option (List ℕ)) (words : List (List ℕ)) where
  -- the clauses on the list, on the table's segment and on one loss
  record IsLeftSo (held left : Option Cartridge) : Type 0 where
    live : StillHolds words (λ command c. command.keeps_live) IsTableLive held left
    comes : StoppedComesBack told words held left

  -- and that on stops
  record IsLeftBy (held left : Option Cartridge) : Type 0 where
    stops : WordsLeave told words held left
    so : IsLeftSo held left

  only : (command : Words) → Spells words command → KeepsLive command → (other : Words) → Spells words other → KeepsLive other
  only command spells keeps other spelled = subst KeepsLive (one_command words command other spells spelled) keeps

  -- the clause on the list of a plain cartridge
  abbrev StillLists : Plain → (held left : Option Cartridge) → Type 0
  StillLists plain held left =
      StillHolds words (λ command c. command.keeps_list c)
      (λ c. Mounts c (Mounted plain.header plain.words plain.table_area (entries_of plain))) held left

  -- over the input of a script on a protected cartridge
  abbrev ReadsBehind : Cartridge → Plain → Option Cartridge → List ℕ → Type 0
  ReadsBehind c plain left input = (script : Scripted input words c plain) → ItemsSpareTable script.does.items → IsSomeAnd left CanBeRead

  protected_reads : (left : Option Cartridge) (c : Cartridge) (plain : Plain) → CanBeRead c → c.info.protected ≡ true →
      WordsLeave told words (Some c) left →
      OverInput told (ReadsBehind c plain left)
  protected_reads left c plain reads mark (inl same) = over_any told (ReadsBehind c plain left)
      (λ script spares. some_and CanBeRead c left reads same)
  protected_reads left c plain reads mark (inr (command, spelled, leaves)) =
      over_stop told words command (Some c) left (ReadsBehind c plain left) spelled leaves
      (λ l script spares. protected_script_reads l.input words c plain l.outcome left script mark spares reads l.plain l.torn)
      (λ other script spares. absurd (other script.spelled))

  still_readable : (held left : Option Cartridge) → ((plain : Plain) → StillLists plain held left) → IsLeftBy held left →
      StillReadable told words held left
  still_readable held left mounts so c plain is reads live (inl keeps) =
      some_weaker left (λ d mounted. can_be_read d plain.table_area mounted.reads)
      (mounts plain c is (standing_mounts c plain reads.stands reads.reads) keeps)
  still_readable held left mounts so c plain is reads live (inr (inl (name, date, spells, bytes))) =
      let (input, is_told, comes) = (so.so.comes c plain is reads.stands live).append name date spells bytes in
      left_can_be_read c (with_one plain name date input) 0 1 left reads (so.so.live c is live (only (commands.Append name date) spells tt))
      comes
  still_readable held left mounts so c plain is reads live (inr (inr (inl (seed, count, spells)))) =
      left_can_be_read c (with_made plain seed) 0 count left reads (so.so.live c is live (only (commands.Make seed count) spells tt))
      ((so.so.comes c plain is reads.stands live).make seed count spells)
  still_readable held left mounts so c plain is reads live (inr (inr (inr scripted))) =
      elim (cases_Bool c.info.protected) [
        | inl mark ↦
            let over = protected_reads left c plain reads.reads mark
            (subst (λ (h : Option Cartridge). WordsLeave told words h left) is so.stops) in
            let (script, spares, table) = scripted over.0 over.1 over.2 in
            over.3 script table
        | inr free ↦
            let over = (so.so.comes c plain is reads.stands live).script in
            let (script, spares, table) = scripted over.0 over.1 over.2 in
            let count : ℕ = length script.does.items in
            elim (over.3 script free count spares None (subst ItemsSpareTable (sym (take_all count script.does.items
            (omega arith))) table)) [
              | inl further ↦ absurd (let more = further.more in omega arith)
              | inr comes ↦ left_can_be_read c (with_items plain script.does.items script.does.dids) 0 count left reads
                  (so.so.live c is live (only commands.Script script.spelled tt)) comes
            ]
      ]

-- ---- a formatted one

-- a table of zero bytes can be read
zeros_read : (d : Cartridge) → ((i : ℕ) → i < 32 → view_at d 2 i ≡ Holds zero_sector) → CanBeRead d
zeros_read d zeros = inl (count_of_readable 29 (table_cells d)
    (λ i h. (zero_sector, view_held d 2 i zero_sector (omega arith) (zeros i (omega arith)))))

formatted_reads : (c : Cartridge) (area : List (List ℕ)) → IsCartridge c → IsArea area → HasNoDefectInFront c →
    CanBeRead (changed_by (format_steps c.info.segments_per_track area) c)
formatted_reads c area whole is_area front =
    let d : Cartridge = changed_by (format_steps c.info.segments_per_track area) c in
    let formatted : IsFormattedFrom c d area = formatting_formats c area whole is_area front in
    let least : 3 ≤ c.info.segments_per_track = whole.long.shortest in
    zeros_read d (λ i h. formatted.others 2 i (omega arith) (omega arith) h ∙ formatted_holds (view_at c 2 i) (front 2 (omega arith) i h))

-- what a stop in formatting leaves
abbrev pub ReadableOrNot : Cartridge → Type 0
ReadableOrNot d = IsUnformatted d ⊎ CanBeRead d

cleared_so : (c d : Cartridge) → CanBeRead c ⊎ HasNoHeader c → IsKeptOrBare c d → ReadableOrNot d
cleared_so c d (inl reads) (inl kept) =
    inr (subst (λ (cells : List SectorView). (unreadable_data cells ≡ 0) ⊎ (unreadable_count cells ≤ 3))
    (sym (same_cells c d 2 whole_mask (λ i h. kept.others 2 i (omega arith) h))) reads)
cleared_so c d (inr none) (inl kept) =
    inl (unformatted_from_bare d (record {
      first = bare_kept 0 c d none.first kept.first;
      second = bare_kept 1 c d none.second kept.second;
    }))
cleared_so c d reads (inr bare) = inl (unformatted_from_bare d bare)

-- all but a header copy is as it was
copy_apart : (copy : ℕ) {block : List (List ℕ)} {c d : Cartridge} → copy < 2 → IsPartlyWritten copy block c d → (i : ℕ) → i < 32 →
    view_at d 2 i ≡ view_at c 2 i
copy_apart copy front (inl kept) i h = kept.others 2 i h (λ same. absurd (omega arith))
copy_apart copy front (inr almost) i h = almost.others 2 i h (λ same. absurd (omega arith))

format_torn : (c : Cartridge) (area : List (List ℕ)) (left : Option Cartridge) → IsCartridge c → IsArea area → HasNoDefectInFront c →
    CanBeRead c ⊎ HasNoHeader c →
    Torn (format_steps c.info.segments_per_track area) (Some c) left → IsSomeAnd left ReadableOrNot
format_torn c area left whole is_area front reads torn =
    let block : List (List ℕ) = with_parity area in
    let long : length block ≡ 32 = length-block area is_area in
    let clearing : List Step = clearing_steps c.info.segments_per_track in
    let first : List Step = copy_writes 0 block in
    let second : List Step = copy_writes 1 block in
    let zeros : (i : ℕ) → i < 32 → view_at (cleared c) 2 i ≡ Holds zero_sector = λ i h. cleared_front c 2 i whole front (omega arith) h in
    elim (Torn-append (clearing ++ first) second (Some c) left torn) [
      | inl begun ↦ elim (Torn-append clearing first (Some c) left begun) [
        | inl early ↦ some_weaker left (λ d kept. cleared_so c d reads kept) (clearing_stopped c left whole early)
        | inr copying ↦
            some_weaker left (λ d partly. inr (zeros_read d (λ i h. copy_apart 0 (omega arith) partly i h ∙ zeros i h)))
            (copy_stopped 0 block (cleared c) left long (first_writable c whole front)
            (subst (λ (held : Option Cartridge). Torn first held left) (effects-some clearing c) copying))
      ]
      | inr behind ↦
          let held : effects (clearing ++ first) (Some c) ≡ Some (with_first c block) =
          effects-some (clearing ++ first) c ∙ ap (λ (d : Cartridge). Some d) (changed_by-append clearing first c) in
          let almost = (first_written c block whole front long).almost in
          some_weaker left (λ d partly. inr
          (zeros_read d (λ i h. copy_apart 1 (omega arith) partly i h ∙ almost.others 2 i h (λ same. absurd (omega arith))
          ∙ zeros i h)))
          (copy_stopped 1 block (with_first c block) left long (second_writable c block whole front long)
          (subst (λ (o : Option Cartridge). Torn second o left) held behind))
    ]

as_it_was : (c : Cartridge) → CanBeRead c ⊎ HasNoHeader c → ReadableOrNot c
as_it_was c (inl reads) = inr reads
as_it_was c (inr none) = inl (unformatted_from_bare c none)

-- by what a stop in formatting leaves
pub format_left_readable : (label : List ℕ) (date : ℕ) (c : Cartridge) (left : Option Cartridge) → IsCartridge c → CanBeRead c
    ⊎ HasNoHeader c →
    FormatLeaves label date (Some c) left → IsSomeAnd left ReadableOrNot
format_left_readable label date c left whole reads (inl (locked, same)) = some_and ReadableOrNot c left (as_it_was c reads) same
format_left_readable label date c left whole reads (inr (inl (free, torn))) =
    some_weaker left (λ d kept. cleared_so c d reads kept) (clearing_stopped c left whole torn)
format_left_readable label date c left whole reads (inr (inr (free, none, (map_words, (area, fresh, torn))))) =
    format_torn c area left whole fresh.size none reads torn

format_leaves_readable : (told : Option (List ℕ)) (words : List (List ℕ)) (held left : Option Cartridge) → WordsLeave told words held left →
    (label : List ℕ) (date : ℕ) (c : Cartridge) →
    Spells words (commands.Format label date) → held ≡ Some c → IsCartridge c → CanBeRead c ⊎ HasNoHeader c → IsSomeAnd left ReadableOrNot
format_leaves_readable told words held left (inl same) label date c spells is whole reads = some_and ReadableOrNot c left
    (as_it_was c reads) (same ∙ is)
format_leaves_readable told words held left (inr (command, spelled, leaves)) label date c spells is whole reads =
    let other : Words = commands.Format label date in
    let l : StopLeaves told other (Some c) left =
    subst (λ (w : Words). StopLeaves told w (Some c) left) (one_command words command other spelled spells)
    (subst (λ (h : Option Cartridge). StopLeaves told command h left) is leaves) in
    format_left_readable label date c left whole reads (format_leaves label date (Some c) left l.outcome l.plain l.torn)

pub format_reads : (label : List ℕ) (date : ℕ) (c : Cartridge) (outcome : CommandOutcome) → IsCartridge c →
    FormatOutcome label date (Some c) outcome → outcome.status ≡ status.Done →
    IsSomeAnd (effects (steps_of outcome.acts) (Some c)) CanBeRead
format_reads label date c outcome whole (inl (locked, is)) done = let other = ap (λ (o : CommandOutcome). o.status) is in absurd (cc)
format_reads label date c outcome whole (inr (inl (free, (segment, first, is)))) done = let other =
    ap (λ (o : CommandOutcome). o.status) is in absurd (cc)
format_reads label date c outcome whole (inr (inr (free, none, (words, (area, fresh, is))))) done =
    let n : ℕ = c.info.segments_per_track in
    subst (λ (o : Option Cartridge). IsSomeAnd o CanBeRead)
    (sym (ap (λ (o : CommandOutcome). effects (steps_of o.acts) (Some c)) is ∙ ap (λ (steps : List Step). effects steps (Some c))
    (append-nil (format_steps n area)) ∙ effects-some (format_steps n area) c))
    (formatted_reads c area whole fresh.size none)

module _ {T S K : Type 0} (t : tapes.Meaning T) (s : sources.Meaning S) (k : sinks.Meaning K) where
  pub runs_keep_readable : RunsKeepReadable t s k
  runs_keep_readable words old new answer promises =
      let both : EachLeft t old.tape new.tape (IsLeftSo (s.left old.source) words) =
      each_both t old.tape new.tape (λ held left live comes. record { live = live; comes = comes }) promises.live promises.survives.stopped
      in
      each_all t old.tape new.tape (λ held left mounts so. still_readable (s.left old.source) words held left mounts so)
      (λ (plain : Plain). promises.lists plain.header plain.words plain.table_area (entries_of plain))
      (each_both t old.tape new.tape (λ held left stops so. record { stops = stops; so = so }) promises.stops both)

  by_step : (words : List (List ℕ)) (input : List ℕ) (old new : Outside T S K) (answer : Status) (label : List ℕ) (date : ℕ)
      (c : Cartridge) → Spells words (commands.Format label date) →
      answer ≡ status.Done → IsCartridge c → (answer ≡ status.NoMemory) ⊎ Stepped t s k words (Some c) input old new answer →
      ToldNow t new.tape (λ left. IsSomeAnd left CanBeRead)
  by_step words input old new answer label date c spells done whole (inl none) = absurd (cc)
  by_step words input old new answer label date c spells done whole (inr stepped) =
      elim stepped.step [
        | inl none ↦ absurd (none.0 (commands.Format label date) spells)
        | inr (command, spelled, (outcome, plain, held, output, taken, answered)) ↦
            let does : Yields (commands.Format label date) (Some c) input outcome =
            subst (λ (w : Words). Yields w (Some c) input outcome) (one_command words command (commands.Format label date) spelled spells)
            plain in
            subst (λ (o : Option (Option Cartridge)). IsSomeAnd o (λ left. IsSomeAnd left CanBeRead))
            (sym (stepped.tape ∙ ap (λ (h : Option Cartridge). Some h) held))
            (format_reads label date c outcome whole does (sym answered ∙ done))
      ]

  pub formatted_can_be_read : FormattedCanBeRead t s k
  formatted_can_be_read words old new answer label date c promises spells done told whole =
      let over = subst (λ (o : Option (Option Cartridge)). IfSome o (λ held. (input : List ℕ) × IsInput (s.left old.source) input
      × ((answer ≡ status.NoMemory) ⊎ Stepped t s k words held input old new answer))) told (promises.carried (ap is_fault done)) in
      by_step words over.0 old new answer label date c spells done whole over.2

  pub formats_leave_readable : FormatsLeaveReadable t s k
  formats_leave_readable words old new answer promises = record {
    told = λ held told. told_weaker (t.told new.tape) (λ left. format_leaves_readable (s.left old.source) words held left)
        (promises.stops.told held told);
    since = λ held left telling told is. format_leaves_readable (s.left old.source) words held left
        (promises.stops.since held left telling told is);
  }
