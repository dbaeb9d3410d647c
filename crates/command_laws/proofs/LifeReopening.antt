-- In a life in which no sector of the table's segment is lost beside what a stop takes, what a run leaves mounts again.
use Rattle.std.proofs.Common.{◌≡◌, ◌≢◌, ◌⊎◌, ◌≤◌, ◌<◌, ℕ, All, arith, inl, inr, List, [], ◌∷◌, ap, ◌∙◌, sym, subst, refl, Bool, true, false}
use Rattle.std.proofs.Common.{Option, Some, None, IsSomeAnd, length, take, zero, suc}
use Rattle.std.proofs.lemmas.Bool.{cases_Bool}
use Rattle.std.proofs.lemmas.List.{take_all}
use Rattle.std.specs.Prelude.{codes}
use Rattle.cartridge_laws.proofs.ChangeLive.{steps_keep_live}
use Rattle.cartridge_laws.proofs.FormatCopies.{new_has_no_header, unformatted_from_bare}
use Rattle.cartridge_laws.proofs.FormatWriting.{some_and, some_weaker}
use Rattle.cartridge_laws.proofs.MountKeeping.{stopped_mounts}
use Rattle.cartridge_laws.proofs.MountOnce.{not_unformatted}
use Rattle.cartridge_laws.proofs.MountSettled.{settled_keeps_table}
use Rattle.cartridge_laws.proofs.MountStanding.{can_be_read, standing_mounts}
use Rattle.cartridge_spec.specs.Formatting.{HasNoHeader}
use Rattle.cartridge_spec.specs.HeaderCopies.{IsUnformatted}
use Rattle.cartridge_spec.specs.Mounting.{settled}
use Rattle.cartridge_spec.specs.TableSegment.{CanBeRead, IsTableLive}
use Rattle.cartridge_spec.specs.Volumes.{Plain, Stands, entries_of, worn}
use Rattle.command_laws.proofs.CommandAppends.{can_append}
use Rattle.command_laws.proofs.CommandComesBack.{make_comes_back, script_comes_answered, script_comes_back}
use Rattle.command_laws.proofs.CommandComplete.{GoesOn}
use Rattle.command_laws.proofs.CommandOneLoss.{append_comes_back}
use Rattle.command_laws.proofs.CommandPlainLaws.{SectorLeaves, format_leaves, lose_leaves}
use Rattle.command_laws.proofs.CommandSeveral.{mounted_or_turned}
use Rattle.command_laws.proofs.CommandTable.{laws_of, only_new_renews}
use Rattle.command_laws.proofs.CommandVolumes.{cleared_is_bare, renewed_effect}
use Rattle.command_laws.proofs.DeepScrubEnds.{first_copy_is_right}
use Rattle.command_laws.proofs.LifeFormats.{torn_by}
use Rattle.command_laws.proofs.LifeRuns.{others_keep_live}
use Rattle.command_laws.proofs.ReadableProtected.{protected_script_reads, worn_reads}
use Rattle.command_laws.proofs.ReadableRuns.{ReadableOrNot, format_left_readable, format_reads, left_can_be_read, some_read}
use Rattle.command_laws.proofs.ScriptSpeaking.{as_many}
use Rattle.command_laws.specs.AppendTerms.{content_with}
use Rattle.command_laws.specs.CommandFields.{Yields}
use Rattle.command_laws.specs.Life.{Answered, CommandSpares, Ended, IsSound, IsSoundWith, Leaves, LinesSpare, MayEnd, Stopped, StopsAmong}
use Rattle.command_laws.specs.LifeReopens.{CanReopen, LinesSpareTable, SparesTable}
use Rattle.command_laws.specs.Outcomes.{ScriptOutcome}
use Rattle.command_spec.specs.Commands.{command_of}
use Rattle.command_spec.specs.Input.{Item}
use Rattle.command_spec.specs.Machine.{HasValues}
use Rattle.command_spec.specs.Make.{with_made}
use Rattle.command_spec.specs.Outcome.{CommandOutcome}
use Rattle.command_spec.specs.Script.{Did, Scripting}
use Rattle.command_spec.specs.ScriptLists.{FirstSpare, ItemsSpare, ItemsSpareTable, with_items}
use Rattle.command_spec.specs.Several.{Scripted}
use Rattle.command_spec.specs.Single.{FormatOutcome}
use Rattle.command_spec.specs.declared.words.Words.{Words}
use Rattle.qic_base.specs.Acts.{Act, steps_of}
use Rattle.qic_base.specs.Cartridge.{Cartridge, new_cartridge}
use Rattle.qic_base.specs.CartridgeTerms.{IsCartridge}
use Rattle.qic_base.specs.Step.{Renew, Wear, effects, Torn}
use Rattle.qic_base.specs.declared.tape.TapeInfo.{TapeInfo}
use Rattle.cartridge_laws.specs.AppendLaws.{with_content}
use Rattle.cartridge_laws.specs.HeaderTerms.{IsBare}
use Rattle.command_spec.specs.declared.words.Words.TheVariants as words

-- ---- what is read and what is not

-- what is left can be read
pub reopen : (left : Option Cartridge) (after : Option Plain) → IsSomeAnd left CanBeRead → CanReopen left after
reopen None after reads = absurd reads
reopen (Some d) None reads = tt
reopen (Some d) (Some plain) reads = reads

-- what stands is not unformatted
pub stands_formatted : {A : Type 0} (d : Cartridge) (plain : Plain) → Stands d plain → IsUnformatted d → A
stands_formatted d plain stood none = absurd (not_unformatted d plain.header_area none stood.header)

-- so what has no list, or has one that can be read, can be
reopen_formatted : (begun : Bool) (left : Option Cartridge) (after : Option Plain) → IsSound begun left after →
    IsSomeAnd left ReadableOrNot → CanReopen left after
reopen_formatted begun None after sound either = absurd either
reopen_formatted begun (Some d) None sound either = tt
reopen_formatted begun (Some d) (Some plain) sound (inl none) = stands_formatted d plain sound.stands none
reopen_formatted begun (Some d) (Some plain) sound (inr reads) = reads

bare_or : (left : Option Cartridge) → IsSomeAnd left HasNoHeader → IsSomeAnd left ReadableOrNot
bare_or left bare = some_weaker left (λ d none. inl (unformatted_from_bare d none)) bare

-- what can't be read by either copy has no list
pub reopen_without : (begun other : Bool) (left : Option Cartridge) (after : Option Plain) → IsSound begun left None →
    IsSound other left after → CanReopen left after
reopen_without begun other None after without sound = tt
reopen_without begun other (Some d) None without sound = tt
reopen_without begun other (Some d) (Some plain) without sound = stands_formatted d plain sound.stands (inr (without.first, without.second))

-- what stayed as it was
reopen_same : (begun other : Bool) (held : Option Cartridge) (before after : Option Plain) → IsSound begun held before →
    CanReopen held before →
    IsSound other held after → CanReopen held after
reopen_same begun other None before after sound reads now = tt
reopen_same begun other (Some c) before None sound reads now = tt
reopen_same begun other (Some c) None (Some plain) sound reads now = stands_formatted c plain now.stands (inr (sound.first, sound.second))
reopen_same begun other (Some c) (Some old) (Some plain) sound reads now = reads

pub reopen_stayed : (begun other : Bool) (held left : Option Cartridge) (before after : Option Plain) → left ≡ held →
    IsSound begun held before →
    CanReopen held before → IsSound other left after → CanReopen left after
reopen_stayed begun other held left before after same sound reads now =
    subst (λ (o : Option Cartridge). CanReopen o after) (sym same)
    (reopen_same begun other held before after sound reads (subst (λ (o : Option Cartridge). IsSound other o after) same now))

-- ---- a new cartridge

new_bare : (segments : ℕ) (left : Option Cartridge) → left ≡ Some (new_cartridge segments) → IsSomeAnd left ReadableOrNot
new_bare segments left is = bare_or left (some_and HasNoHeader (new_cartridge segments) left (new_has_no_header segments) is)

pub new_reopens : (segments : ℕ) (begun other : Bool) (held left : Option Cartridge) (before after : Option Plain) →
    IsSound begun held before → CanReopen held before →
    IsSound other left after → Torn (Renew segments ∷ []) held left → CanReopen left after
new_reopens segments begun other held left before after sound reads now (inl same) =
    reopen_stayed begun other held left before after same sound reads now
new_reopens segments begun other held left before after sound reads now (inr (inl none)) =
    subst (λ (o : Option Cartridge). CanReopen o after) (sym none) tt
new_reopens segments begun other held left before after sound reads now (inr (inr new)) =
    reopen_formatted other left after now (new_bare segments left (new ∙ renewed_effect segments held))

-- ---- a formatting

module _ (label : List ℕ) (date : ℕ) (c : Cartridge) (begun other : Bool) (before after : Option Plain) (left : Option Cartridge)
    (outcome : CommandOutcome)
    (whole : IsCartridge c) (sound : IsSound begun (Some c) before) (reads : CanReopen (Some c) before)
    (now : IsSound other left after) where
  -- carried out, or refused
  format_answered : FormatOutcome label date (Some c) outcome → left ≡ effects (steps_of outcome.acts) (Some c) → CanReopen left after
  format_answered (inl (locked, is)) all =
      reopen_stayed begun other (Some c) left before after (all ∙ ap (λ (o : CommandOutcome). effects (steps_of o.acts) (Some c)) is) sound
      reads now
  format_answered (inr (inl (free, (segment, first, is)))) all =
      reopen_formatted other left after now
      (some_weaker left (λ d bare. inl (unformatted_from_bare d bare.0))
      (subst (λ (o : Option Cartridge). IsSomeAnd o IsBare) (sym all)
      (cleared_is_bare label date segment c outcome whole (inr (inl (free, (segment, first, is))))
      (ap (λ (o : CommandOutcome). o.status) is))))
  format_answered (inr (inr (free, none, (ws, (area, fresh, is))))) all =
      reopen left after
      (subst (λ (o : Option Cartridge). IsSomeAnd o CanBeRead) (sym all)
      (format_reads label date c outcome whole (inr (inr (free, none, (ws, (area, fresh, is)))))
      (ap (λ (o : CommandOutcome). o.status) is)))

  -- stopped
  format_stopped : CanBeRead c ⊎ HasNoHeader c → FormatOutcome label date (Some c) outcome → Torn (steps_of outcome.acts) (Some c) left →
      CanReopen left after
  format_stopped can plain torn =
      reopen_formatted other left after now
      (format_left_readable label date c left whole can (format_leaves label date (Some c) left outcome plain torn))

pub format_reopens : (label : List ℕ) (date : ℕ) (ended : Ended) (c : Cartridge) (begun other : Bool) (before after : Option Plain)
    (left : Option Cartridge) (outcome : CommandOutcome) →
    IsSound begun (Some c) before → CanReopen (Some c) before → IsSound other left after → MayEnd (words.Format label date) ended begun →
    FormatOutcome label date (Some c) outcome → Leaves ended outcome (Some c) left → CanReopen left after
format_reopens label date (Answered answer printed) c begun other None after left outcome sound reads now may plain leaves =
    format_answered label date c begun other None after left outcome sound.whole sound reads now plain leaves.2
format_reopens label date (Answered answer printed) c begun other (Some list) after left outcome sound reads now may plain leaves =
    format_answered label date c begun other (Some list) after left outcome sound.whole sound reads now plain leaves.2
format_reopens label date (Stopped printed) c begun other None after left outcome sound reads now may plain leaves =
    format_stopped label date c begun other None after left outcome sound.whole sound reads now (inr (sound.bare may)) plain
    (torn_by (Stopped printed) outcome (Some c) left leaves)
format_reopens label date (Stopped printed) c begun other (Some list) after left outcome sound reads now may plain leaves =
    format_stopped label date c begun other (Some list) after left outcome sound.whole sound reads now (inl reads) plain
    (torn_by (Stopped printed) outcome (Some c) left leaves)

-- ---- a command over a cartridge with a list

module _ (command : Words) (c : Cartridge) (input : List ℕ) (begun : Bool) (plain : Plain) (left : Option Cartridge)
    (outcome : CommandOutcome)
    (ready : IsSoundWith begun c plain) (reads : CanBeRead c) (yields : Yields command (Some c) input outcome)
    (torn : Torn (steps_of outcome.acts) (Some c) left) where
  -- one that keeps the list
  lists_reads : (command_of command).keeps_list c → IsSomeAnd left CanBeRead
  lists_reads keeps =
      some_weaker left (λ d mounted. can_be_read d plain.table_area mounted.reads)
      ((laws_of command).mounts c plain.header plain.words plain.table_area (entries_of plain) keeps
      (standing_mounts c plain ready.stands reads) input outcome left yields torn)

  left_live : ((segments : ℕ) → command ≢ words.New segments) → IsSomeAnd left IsTableLive
  left_live other =
      steps_keep_live (steps_of outcome.acts) c left
      (only_new_renews command (Some c) input outcome (others_keep_live command other) yields) ready.live torn

-- a sector that is lost
lost_reads : (segment sector : ℕ) (c : Cartridge) (left : Option Cartridge) → segment ≢ 2 → CanBeRead c →
    SectorLeaves (Wear segment sector) segment sector (Some c) left →
    IsSomeAnd left CanBeRead
lost_reads segment sector c left other reads (inl same) = some_and CanBeRead c left reads same
lost_reads segment sector c left other reads (inr (place, is)) =
    some_and CanBeRead (worn segment sector c) left (worn_reads c segment sector other place.in_segment reads) is

-- an append
append_reads : (name : List ℕ) (date : ℕ) (c : Cartridge) (input : List ℕ) (begun : Bool) (plain : Plain) (left : Option Cartridge)
    (outcome : CommandOutcome) →
    HasValues (words.Append name date) → All (λ b. b < 256) input → IsSoundWith begun c plain → CanBeRead c →
    Yields (words.Append name date) (Some c) input outcome → Torn (steps_of outcome.acts) (Some c) left → IsSomeAnd left CanBeRead
append_reads name date c input begun plain left outcome values bytes ready reads yields torn =
    let live = left_live (words.Append name date) c input begun plain left outcome ready reads yields torn (λ segments is. cc) in
    elim (append_comes_back (content_with name date input) c plain outcome left (can_append values bytes) ready.whole ready.stands
    ready.live yields torn) [
      | inl settling ↦
          some_weaker left (λ d mounts. can_be_read d plain.table_area mounts.reads)
          (stopped_mounts c plain.header plain.words plain.table_area (entries_of plain) left
          (standing_mounts c plain ready.stands reads) settling)
      | inr comes ↦ some_read plain (with_content plain (content_with name date input)) left live comes
    ]

-- a generated run
make_reads : (seed count : ℕ) (c : Cartridge) (input : List ℕ) (begun : Bool) (plain : Plain) (left : Option Cartridge)
    (outcome : CommandOutcome) →
    HasValues (words.Make seed count) → IsSoundWith begun c plain → CanBeRead c → Yields (words.Make seed count) (Some c) input outcome →
    Torn (steps_of outcome.acts) (Some c) left → IsSomeAnd left CanBeRead
make_reads seed count c input begun plain left outcome few ready reads yields torn =
    let live = left_live (words.Make seed count) c input begun plain left outcome ready reads yields torn (λ segments is. cc) in
    left_can_be_read c (with_made plain seed) 0 count left (record { stands = ready.stands; reads = reads }) live
    (make_comes_back seed count few c plain ready.whole ready.stands ready.live outcome left yields torn)

-- ---- a script

pub take_spares : (n : ℕ) (items : List Item) → ItemsSpareTable items → ItemsSpareTable (take n items)
take_spares zero items spares = tt
take_spares (suc n) [] spares = tt
take_spares (suc n) (item ∷ items) spares = (spares.0, take_spares n items spares.1)

-- so many lines spare header and table, and it went no further
pub record AmongLines (printed : Option (List ℕ)) (c : Cartridge) (plain : Plain) (items : List Item) (dids : List Did) (last : List Act)
    (left : Option Cartridge) : Type 0 where
  pub count : ℕ
  pub within : count ≤ length items
  pub among : StopsAmong printed c items dids last count left
  pub spare : FirstSpare c plain items dids count
  pub table : ItemsSpareTable (take count items)

pub among_lines : (printed : Option (List ℕ)) (c : Cartridge) (plain : Plain) (items : List Item) (dids : List Did) (last : List Act)
    (left : Option Cartridge) →
    LinesSpare (Stopped printed) c plain items dids last left → LinesSpareTable (Stopped printed) c plain items dids last left →
    AmongLines printed c plain items dids last left
among_lines printed c plain items dids last left spares (inl all) = record {
  count = spares.0;
  within = spares.1;
  among = spares.2;
  spare = spares.3;
  table = take_spares spares.0 items all;
}
among_lines printed c plain items dids last left spares (inr (free, some)) = record {
  count = some.0;
  within = some.1;
  among = some.2;
  spare = some.3;
  table = some.4;
}

-- on a protected cartridge all of them do
all_spare : (ended : Ended) (c : Cartridge) (plain : Plain) (items : List Item) (dids : List Did) (last : List Act)
    (left : Option Cartridge) → c.info.protected ≡ true →
    LinesSpareTable ended c plain items dids last left → ItemsSpareTable items
all_spare (Answered answer printed) c plain items dids last left mark spares = spares
all_spare (Stopped printed) c plain items dids last left mark (inl all) = all
all_spare (Stopped printed) c plain items dids last left mark (inr (free, some)) = absurd (cc)

module _ (c : Cartridge) (input : List ℕ) (begun : Bool) (plain : Plain) (left : Option Cartridge) (outcome : CommandOutcome)
    (bytes : All (λ b. b < 256) input) (ready : IsSoundWith begun c plain) (reads : CanBeRead c)
    (yields : ScriptOutcome (Some c) input outcome)
    (live : IsSomeAnd left IsTableLive) (was : GoesOn (Scripting input) c plain outcome) where
  abbrev script : Scripted input (codes "script" ∷ []) c plain
  script = record {
    spelled = inl (refl, tt);
    bytes = bytes;
    stands = ready.stands;
    outcome = was.did.came;
    does = was.did.does;
  }

  -- all of its lines, done or stopped
  answered_reads : c.info.protected ≡ false → ItemsSpare (settled plain.table_area c) plain was.did.does.items was.did.does.dids →
      ItemsSpareTable was.did.does.items →
      Torn (steps_of outcome.acts) (Some c) left → IsSomeAnd left CanBeRead
  answered_reads free spares table torn =
      let items : List Item = was.did.does.items in
      let dids : List Did = was.did.does.dids in
      let n : ℕ = length items in
      let long : length dids ≡ n = as_many items dids (settled plain.table_area c) plain.words (entries_of plain) was.did.does.did in
      let first : take n items ≡ items = take_all n items (omega arith) in
      let all : take n dids ≡ dids = take_all n dids (omega arith) in
      let front : FirstSpare (settled plain.table_area c) plain items dids n =
      subst (λ (ds : List Did). ItemsSpare (settled plain.table_area c) plain (take n items) ds) (sym all)
      (subst (λ (xs : List Item). ItemsSpare (settled plain.table_area c) plain xs dids) (sym first) spares) in
      elim (script_comes_back input (codes "script" ∷ []) c plain ready.whole script ready.live free outcome yields left n
      (omega arith, front)
      (subst ItemsSpareTable (sym first) table) torn) [
        | inl further ↦ let more = further.more in absurd (omega arith)
        | inr comes ↦ left_can_be_read c (with_items plain items dids) 0 n left (record { stands = ready.stands; reads = reads }) live comes
      ]

  stopped_reads : (printed : Option (List ℕ)) → c.info.protected ≡ false →
      AmongLines printed (settled plain.table_area c) plain was.did.does.items was.did.does.dids was.did.does.last left →
      Leaves (Stopped printed) outcome (Some c) left → IsSomeAnd left CanBeRead
  stopped_reads (Some text) free lines so =
      left_can_be_read c (with_items plain was.did.does.items was.did.does.dids) 0 lines.count left
      (record { stands = ready.stands; reads = reads }) live
      (script_comes_answered input (codes "script" ∷ []) c plain ready.whole script ready.live free outcome yields text left 0 lines.count
      (omega arith) (omega arith)
      lines.among (lines.within, lines.spare) lines.table so)
  stopped_reads None free lines torn =
      elim (script_comes_back input (codes "script" ∷ []) c plain ready.whole script ready.live free outcome yields left lines.count
      (lines.within, lines.spare)
      lines.table torn) [
        | inl further ↦ absurd (lines.among further)
        | inr comes ↦
            left_can_be_read c (with_items plain was.did.does.items was.did.does.dids) 0 lines.count left
            (record { stands = ready.stands; reads = reads }) live comes
      ]

  free_reads : (ended : Ended) → c.info.protected ≡ false →
      LinesSpare ended (settled plain.table_area c) plain was.did.does.items was.did.does.dids was.did.does.last left →
      LinesSpareTable ended (settled plain.table_area c) plain was.did.does.items was.did.does.dids was.did.does.last left →
      Leaves ended outcome (Some c) left →
      IsSomeAnd left CanBeRead
  free_reads (Answered answer printed) free spares table leaves =
      answered_reads free spares table (torn_by (Answered answer printed) outcome (Some c) left leaves)
  free_reads (Stopped printed) free spares table leaves =
      stopped_reads printed free
      (among_lines printed (settled plain.table_area c) plain was.did.does.items was.did.does.dids was.did.does.last left spares table)
      leaves

  mark_of : (settled plain.table_area c).info.protected ≡ c.info.protected
  mark_of = ap (λ (i : TapeInfo). i.protected) (settled_keeps_table c plain.table_area was.mounts.reads).info

  lines_read : (ended : Ended) → LinesSpare ended (settled plain.table_area c) plain was.did.does.items was.did.does.dids was.did.does.last
      left →
      LinesSpareTable ended (settled plain.table_area c) plain was.did.does.items was.did.does.dids was.did.does.last left →
      Leaves ended outcome (Some c) left →
      IsSomeAnd left CanBeRead
  lines_read ended spares table leaves =
      elim (cases_Bool c.info.protected) [
        | inr free ↦ free_reads ended free spares table leaves
        | inl mark ↦
            protected_script_reads input (codes "script" ∷ []) c plain outcome left script mark
            (all_spare ended (settled plain.table_area c) plain was.did.does.items was.did.does.dids was.did.does.last left
            (mark_of ∙ mark) table)
            reads yields (torn_by ended outcome (Some c) left leaves)
      ]

script_reads : (c : Cartridge) (input : List ℕ) (ended : Ended) (begun : Bool) (plain : Plain) (left : Option Cartridge)
    (outcome : CommandOutcome) →
    All (λ b. b < 256) input → IsSoundWith begun c plain → CanBeRead c → ScriptOutcome (Some c) input outcome →
    CommandSpares words.Script ended input left c →
    SparesTable words.Script ended input left c → Leaves ended outcome (Some c) left → IsSomeAnd left CanBeRead
script_reads c input ended begun plain left outcome bytes ready reads yields spares table leaves =
    let torn : Torn (steps_of outcome.acts) (Some c) left = torn_by ended outcome (Some c) left leaves in
    elim (mounted_or_turned (Scripting input) c plain outcome ready.stands yields) [
      | inl turned ↦ some_and CanBeRead c left reads (subst (λ (o : CommandOutcome). Torn (steps_of o.acts) (Some c) left) turned.is torn)
      | inr was ↦
          lines_read c input begun plain left outcome bytes ready reads yields
          (left_live words.Script c input begun plain left outcome ready reads yields torn (λ segments is. cc)) was ended
          (spares plain was.did.came ready.stands was.did.does) (table plain was.did.came ready.stands was.did.does) leaves
    ]

-- ---- a run

pub with_list : (command : Words) (input : List ℕ) (ended : Ended) (begun : Bool) (c : Cartridge) (left : Option Cartridge) (plain : Plain)
    (outcome : CommandOutcome) →
    ((segments : ℕ) → command ≢ words.New segments) → ((label : List ℕ) (date : ℕ) → command ≢ words.Format label date) →
    HasValues command → All (λ b. b < 256) input →
    IsSoundWith begun c plain → CanBeRead c → Yields command (Some c) input outcome → Leaves ended outcome (Some c) left →
    CommandSpares command ended input left c →
    SparesTable command ended input left c → IsSomeAnd left CanBeRead
with_list (words.New segments) input ended begun c left plain outcome new format values bytes ready reads yields leaves spares table =
    absurd (new segments refl)
with_list (words.Format label date) input ended begun c left plain outcome new format values bytes ready reads yields leaves spares table =
    absurd (format label date refl)
with_list (words.Append name date) input ended begun c left plain outcome new format values bytes ready reads yields leaves spares table =
    append_reads name date c input begun plain left outcome values bytes ready reads yields (torn_by ended outcome (Some c) left leaves)
with_list (words.Make seed count) input ended begun c left plain outcome new format values bytes ready reads yields leaves spares table =
    make_reads seed count c input begun plain left outcome values ready reads yields (torn_by ended outcome (Some c) left leaves)
with_list words.Script input ended begun c left plain outcome new format values bytes ready reads yields leaves spares table =
    script_reads c input ended begun plain left outcome bytes ready reads yields spares table leaves
with_list (words.Lose segment sector) input ended begun c left plain outcome new format values bytes ready reads yields leaves spares
    table =
    lost_reads segment sector c left table reads
    (lose_leaves segment sector (Some c) left outcome yields (torn_by ended outcome (Some c) left leaves))
with_list words.ScrubDeep input ended begun c left plain outcome new format values bytes ready reads yields leaves spares table =
    lists_reads words.ScrubDeep c input begun plain left outcome ready reads yields (torn_by ended outcome (Some c) left leaves)
    (inr (first_copy_is_right c plain ready.stands))
with_list command input ended begun c left plain outcome new format values bytes ready reads yields leaves spares table =
    lists_reads command c input begun plain left outcome ready reads yields (torn_by ended outcome (Some c) left leaves) tt
