-- A scrub in either form writes nothing on a cartridge that a check finds sound.
use Rattle.std.proofs.Common.{◌≡◌, ◌<◌, ◌++◌, inl, inr, ℕ, List, [], ◌∷◌, refl, sym, ◌∙◌, ap, subst, Option}
use Rattle.std.proofs.Common.{Some, None, Bool, false, arith, All}
use Rattle.std.proofs.Common.{cond, get_or, length}
use Rattle.std.proofs.lemmas.Bool.{cases_Bool}
use Rattle.std.proofs.lemmas.List.{take_all}
use Rattle.std.proofs.lemmas.List.Elements.{All-head, All-tail}
use Rattle.std.specs.Prelude.{unwrap_or}
use Rattle.cartridge_laws.proofs.Cells.{readable_from_count}
use Rattle.cartridge_laws.proofs.FormatCopies.{held_view}
use Rattle.cartridge_laws.proofs.MountOnce.{mounts_is_function, one_table}
use Rattle.cartridge_laws.proofs.MountSettled.{locked_steps}
use Rattle.cartridge_laws.proofs.MountSettles.{settling_settles}
use Rattle.cartridge_laws.proofs.MountStanding.{said_area, written_table}
use Rattle.cartridge_laws.proofs.Sayings.{said_is_written, says_is_function}
use Rattle.cartridge_laws.proofs.Segments.{count_of_cells, length-whole_cells}
use Rattle.cartridge_laws.specs.AppendBetween.{IsWhole}
use Rattle.cartridge_spec.specs.Mounting.{Mounted, Mounting, Mounts, settled}
use Rattle.cartridge_spec.specs.Says.{Data, Mismatch, Saying, unreadable_count, with_parity}
use Rattle.cartridge_spec.specs.Settling.{changed_by, settling_steps}
use Rattle.cartridge_spec.specs.Shape.{is_unreadable, usable_count, usable_places}
use Rattle.cartridge_spec.specs.Table.{Entry}
use Rattle.cartridge_spec.specs.TableSegment.{TableIs, table_cells}
use Rattle.command_laws.proofs.CheckSound.{sound_is_read_throughout}
use Rattle.command_laws.proofs.IntactKeeping.{whole_needs_no_steps}
use Rattle.command_laws.proofs.ScrubAgain.{mending_none}
use Rattle.command_laws.proofs.ScrubForms.{form_steps}
use Rattle.command_laws.proofs.ScrubOneWrong.{found_once}
use Rattle.command_laws.proofs.SilentFound.{cell_view}
use Rattle.command_laws.specs.CheckLaws.{IsReadThroughout, IsReadWhole, SoundIsLeftByDeepScrub, SoundIsLeftByScrub, SoundIsSettled}
use Rattle.command_laws.specs.ScrubTerms.{Finds}
use Rattle.command_spec.specs.Check.{IsSound}
use Rattle.command_spec.specs.Outcome.{CommandOutcome, Opened, WritableOutcome}
use Rattle.command_spec.specs.Scrub.{Finding, FindInTurn, IsSearched, Looked, ScrubsAs, ScrubsBy, cells_at, finding_acts, looked_at}
use Rattle.command_spec.specs.Scrub.{looked_volumes, mending_writes, steps_for, steps_in, whole_segment, without}
use Rattle.command_spec.specs.declared.depth.Depth.{Depth}
use Rattle.command_spec.specs.declared.depth.Depth.TheVariants.{Deep, Shallow}
use Rattle.qic_base.specs.Acts.{Act, steps_of}
use Rattle.qic_base.specs.Cartridge.{Cartridge, view_at}
use Rattle.qic_base.specs.Step.{Step}
use Rattle.qic_base.specs.declared.tape.SectorView.{SectorView}
use Rattle.qic_base.specs.declared.tape.SectorView.TheVariants.{Holds}

-- ---- the table

-- each of its sectors holds its part of the data and their parity
data_of_whole : (c : Cartridge) (table : List (List ℕ)) (read : IsReadWhole c (whole_segment 2)) → TableIs c table → table ≡ read.sectors
data_of_whole c table read is =
    let none : unreadable_count (table_cells c) ≡ 0 = read.each in
    one_table c table read.sectors is (written_table c read.sectors (said_area c read.sectors read.says)
    (said_is_written (table_cells c) read.sectors read.says) (inr (omega arith)))

sectors_whole : (c : Cartridge) (read : IsReadWhole c (whole_segment 2)) → IsWhole c read.sectors
sectors_whole c read i h =
    let cells : List SectorView = table_cells c in
    let long : length cells ≡ 32 = length-whole_cells c 2 in
    let held = readable_from_count 32 cells (omega arith)
    (ap (λ (xs : List SectorView). unreadable_count xs) (take_all 32 cells (omega arith)) ∙ read.each) i h in
    (held_view c 2 i held.0 held.1).view
    ∙ ap (λ (b : List ℕ). Holds b) (sym (ap (λ (o : Option (List ℕ)). unwrap_or o [])
    ((said_is_written cells read.sectors read.says).each i held.0 held.1)))

table_settled : (c : Cartridge) (table : List (List ℕ)) → IsReadWhole c (whole_segment 2) → TableIs c table → settling_steps table c ≡ []
table_settled c table read is =
    elim (cases_Bool c.info.protected) [
      | inl locked ↦ locked_steps table c locked
      | inr free ↦ whole_needs_no_steps c table
          (subst (IsWhole c) (sym (data_of_whole c table read is)) (sectors_whole c read)) free
    ]

-- so settling it leaves the cartridge
pub settled_is_same : (c : Cartridge) (table : List (List ℕ)) → IsReadWhole c (whole_segment 2) → TableIs c table → settled table c ≡ c
settled_is_same c table read is =
    sym (settling_settles c table is) ∙ ap (λ (steps : List Step). changed_by steps c) (table_settled c table read is)

-- ---- a segment

readable_at : (c : Cartridge) (l : Looked) (k : ℕ) → IsReadWhole c l → k < usable_count l.mask →
    is_unreadable (view_at c l.segment (get_or (usable_places l.mask) k 0)) ≡ false
readable_at c l k read h =
    let cells : List SectorView = cells_at c l in
    let n : ℕ = length cells in
    let long : length cells ≡ usable_count l.mask = count_of_cells c l.segment l.mask in
    let held = readable_from_count n cells (omega arith)
    (ap (λ (xs : List SectorView). unreadable_count xs) (take_all n cells (omega arith)) ∙ read.each) k (omega arith) in
    ap (λ (v : SectorView). is_unreadable v) (cell_view c l k held.0 held.1).view

data_steps : (c : Cartridge) (l : Looked) (read : IsReadWhole c l) → steps_in c l (Data read.sectors) ≡ []
data_steps c l read =
    let writes : List Step = mending_writes c l.segment (usable_places l.mask) (with_parity read.sectors) in
    ap (λ (b : Bool). cond b writes []) read.can_be_read
    ∙ mending_none c l.segment (usable_places l.mask) (with_parity read.sectors) (λ k h. readable_at c l k read h)

-- it is found to say its data, and no sector of it to be wrong
pub found_same : (depth : Depth) (c : Cartridge) (l : Looked) (f : Finding) (read : IsReadWhole c l) → Finds depth c l f →
    (f.saying ≡ Data read.sectors) × (f.wrong ≡ None)
found_same depth c l f read found =
    found_once (IsSearched depth l) c l f.saying (Data read.sectors) f.wrong None found (
      read.says,
      λ searched sector es wrong.
          let both = says_is_function (cells_at c l) (Data read.sectors) Mismatch read.says wrong.mismatch in cc,
    )

pub found_steps : (depth : Depth) (c : Cartridge) (l : Looked) (f : Finding) → IsReadWhole c l → Finds depth c l f →
    steps_for c l f ≡ []
found_steps depth c l f read found =
    let same = found_same depth c l f read found in
    ap (λ (w : Option ℕ). steps_in (without w l c) l f.saying) same.1 ∙ ap (λ (s : Saying). steps_in c l s) same.0 ∙ data_steps c l read

-- ---- all of them

pub none_in_turn : (depth : Depth) (c : Cartridge) (ls : List Looked) (fs : List Finding) → All (IsReadWhole c) ls →
    FindInTurn depth c ls fs →
    steps_of (finding_acts c ls fs) ≡ []
none_in_turn depth c [] fs read found = refl
none_in_turn depth c (l ∷ ls) [] read found = refl
none_in_turn depth c (l ∷ ls) (f ∷ fs) read found =
    let none : steps_for c l f ≡ [] = found_steps depth c l f (All-head (IsReadWhole c) l ls read) found.0 in
    let rest : FindInTurn depth c ls fs = subst (λ (steps : List Step). FindInTurn depth (changed_by steps c) ls fs) none found.1 in
    ap (λ (steps : List Step). steps ++ steps_of (finding_acts (changed_by steps c) ls fs)) none
    ∙ none_in_turn depth c ls fs (All-tail (IsReadWhole c) l ls read) rest

none_in_form : (depth : Depth) (c : Cartridge) (words : List ℕ) (entries : List Entry) (acts : List Act) →
    All (IsReadWhole c) (looked_at words entries) → ScrubsAs depth c words entries acts → steps_of acts ≡ []
none_in_form depth c words entries acts read scrubs =
    form_steps depth c words entries acts scrubs ∙ none_in_turn depth c (looked_at words entries) scrubs.findings read scrubs.found

-- the table's segment is among them
third : (P : Looked → Type 0) (first second l : Looked) (ls : List Looked) → All P (first ∷ second ∷ l ∷ ls) → P l
third P first second l ls all = All-head P l ls (All-tail P second (l ∷ ls) (All-tail P first (second ∷ l ∷ ls) all))

pub table_of : (P : Looked → Type 0) (words : List ℕ) (entries : List Entry) → All P (looked_at words entries) → P (whole_segment 2)
table_of P words entries all = third P (whole_segment 0) (whole_segment 1) (whole_segment 2) (looked_volumes words entries) all

-- ---- the commands

pub sound_is_settled : SoundIsSettled
sound_is_settled c header words table entries sound mounts =
    let read : IsReadThroughout c = sound_is_read_throughout c sound in
    table_settled c table (table_of (IsReadWhole c) read.words read.entries read.each) mounts.reads

left_by : (depth : Depth) (c : Cartridge) (m : Mounting) (outcome : CommandOutcome) → IsReadThroughout c → Mounts c m →
    Opened (ScrubsBy depth) c m outcome → steps_of outcome.acts ≡ []
left_by depth c m outcome read mounts opened =
    let mounted : Mounting = Mounted read.header read.words read.table read.entries in
    let on : ScrubsBy depth c read.header read.words read.table read.entries outcome =
    subst (λ (k : Mounting). Opened (ScrubsBy depth) c k outcome) (mounts_is_function c m mounted mounts read.mounts) opened in
    let table : IsReadWhole c (whole_segment 2) = table_of (IsReadWhole c) read.words read.entries read.each in
    let scrubs : ScrubsAs depth c read.words read.entries on.acts =
    subst (λ (d : Cartridge). ScrubsAs depth d read.words read.entries on.acts) (settled_is_same c read.table table read.mounts.reads)
    on.scrubs in
    ap (λ (o : CommandOutcome). steps_of o.acts) on.is
    ∙ ap (λ (steps : List Step). steps ++ steps_of on.acts) (table_settled c read.table table read.mounts.reads)
    ∙ none_in_form depth c read.words read.entries on.acts read.each scrubs

left_alone : (depth : Depth) (c : Cartridge) (outcome : CommandOutcome) → IsSound c → WritableOutcome (ScrubsBy depth) (Some c) outcome →
    steps_of outcome.acts ≡ []
left_alone depth c outcome sound (inl locked) = ap (λ (o : CommandOutcome). steps_of o.acts) locked.1
left_alone depth c outcome sound (inr (free, (m, mounts, opened))) =
    left_by depth c m outcome (sound_is_read_throughout c sound) mounts opened

pub sound_is_left_by_scrub : SoundIsLeftByScrub
sound_is_left_by_scrub c input outcome sound does = left_alone Shallow c outcome sound does

pub sound_is_left_by_deep_scrub : SoundIsLeftByDeepScrub
sound_is_left_by_deep_scrub c input outcome sound does = left_alone Deep c outcome sound does
