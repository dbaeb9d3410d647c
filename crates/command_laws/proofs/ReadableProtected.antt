-- That a volume table can be read goes on behind a script on a protected cartridge.
use Rattle.std.proofs.Common.{◌≡◌, ◌≢◌, ◌⊎◌, ◌∙◌, ◌<◌, ◌≤◌, ℕ, Bool, true, false, List, [], ◌∷◌, ◌++◌, Option, Some, IsSomeAnd}
use Rattle.std.proofs.Common.{if◌then◌else◌, inl, inr, ap, sym, subst, refl, take}
use Rattle.cartridge_laws.proofs.ChangeStanding.{other_cells}
use Rattle.cartridge_laws.proofs.FormatWriting.{some_and}
use Rattle.cartridge_laws.proofs.MountWhole.{settling_effects}
use Rattle.cartridge_spec.specs.TableSegment.{CanBeRead}
use Rattle.cartridge_spec.specs.Mounting.{settled}
use Rattle.cartridge_spec.specs.Says.{unreadable_count, with_parity}
use Rattle.cartridge_spec.specs.Settling.{block_writes, changed_by, settling_places, settling_steps}
use Rattle.cartridge_spec.specs.Table.{Entry}
use Rattle.cartridge_spec.specs.Volumes.{Plain, entries_of, worn}
use Rattle.command_laws.proofs.CommandSeveral.{mounted_or_turned}
use Rattle.command_laws.proofs.RestoreCounts.{framed_in_no_step}
use Rattle.command_laws.proofs.ScriptMachineLaws.{one_outcome as one_script}
use Rattle.command_laws.proofs.ScriptStanding.{given_steps}
use Rattle.command_spec.specs.Input.{AtEnd, AtFault, AtStop, Ending, Item}
use Rattle.command_spec.specs.Outcome.{CommandOutcome}
use Rattle.command_spec.specs.Restore.{framed, pieces}
use Rattle.command_spec.specs.Script.{Did, EndDoes, Finds, ItemsDo, LineDoes, Refuses, ScriptDoes, Scripting, acts_of, cartridge_behind}
use Rattle.command_spec.specs.Script.{entries_behind}
use Rattle.command_laws.specs.Outcomes.{ScriptOutcome}
use Rattle.command_spec.specs.ScriptLists.{ItemsSpareTable}
use Rattle.command_spec.specs.Several.{Scripted}
use Rattle.command_spec.specs.declared.line.Line.{Line}
use Rattle.qic_base.proofs.Joins.{steps_of-append}
use Rattle.qic_base.specs.Acts.{Act, steps_of}
use Rattle.qic_base.specs.Cartridge.{Cartridge}
use Rattle.qic_base.specs.Step.{Step, Torn, Wear, effects}
use Rattle.qic_base.specs.declared.tape.SectorView.{SectorView}
use Rattle.command_spec.specs.declared.line.Line.TheVariants as line

-- ---- steps

-- each of them wears a sector, none of the table's segment
abbrev WearOthers : List Step → Type 0
WearOthers [] = Unit {0}
WearOthers (Wear segment sector ∷ ss) = (segment ≢ 2) × (sector < 32) × WearOthers ss
WearOthers (other ∷ ss) = ⊥

both_wear : (xs ys : List Step) → WearOthers xs → WearOthers ys → WearOthers (xs ++ ys)
both_wear [] ys one two = two
both_wear (Wear segment sector ∷ xs) ys one two = (one.0, one.1, both_wear xs ys one.2 two)
both_wear (other ∷ xs) ys one two = absurd one

pub worn_reads : (c : Cartridge) (segment sector : ℕ) → segment ≢ 2 → sector < 32 → CanBeRead c → CanBeRead (worn segment sector c)
worn_reads c segment sector other small reads =
    subst (λ (cells : List SectorView). (unreadable_count (take 29 cells) ≡ 0) ⊎ (unreadable_count cells ≤ 3))
    (sym (other_cells c segment sector 2 small (λ is. other (sym is)))) reads

torn_reads : (ss : List Step) (c : Cartridge) (left : Option Cartridge) → WearOthers ss → CanBeRead c → Torn ss (Some c) left →
    IsSomeAnd left CanBeRead
torn_reads [] c left wear reads torn = some_and CanBeRead c left reads torn
torn_reads (Wear segment sector ∷ ss) c left wear reads (inl is) = some_and CanBeRead c left reads is
torn_reads (Wear segment sector ∷ ss) c left wear reads (inr (inl half)) = absurd half
torn_reads (Wear segment sector ∷ ss) c left wear reads (inr (inr torn)) =
    torn_reads ss (worn segment sector c) left wear.2 (worn_reads c segment sector wear.0 wear.1 reads) torn
torn_reads (other ∷ ss) c left wear reads torn = absurd wear

mark_stays : (ss : List Step) (c : Cartridge) → WearOthers ss → c.info.protected ≡ true → (changed_by ss c).info.protected ≡ true
mark_stays [] c wear mark = mark
mark_stays (Wear segment sector ∷ ss) c wear mark = mark_stays ss (worn segment sector c) wear.2 mark
mark_stays (other ∷ ss) c wear mark = absurd wear

-- ---- the items

none_wear : (did did' : Did) → did ≡ did' → steps_of did'.acts ≡ [] → WearOthers (steps_of did.acts)
none_wear did did' is none = subst WearOthers (sym (ap (λ (d : Did). steps_of d.acts) is ∙ none)) tt

unmarked : {A : Type 0} (c : Cartridge) → c.info.protected ≡ true → c.info.protected ≡ false → A
unmarked c mark free = absurd (let no : true ≡ false = sym mark ∙ free in cc)

line_wears : (c : Cartridge) (words : List ℕ) (entries : List Entry) (asked : Line) (bytes : List ℕ) (did : Did) → c.info.protected ≡ true →
    LineDoes c words entries asked bytes did →
    ((segment sector : ℕ) → asked ≡ line.Lose segment sector → sector < 32 → segment ≢ 2) → WearOthers (steps_of did.acts)
line_wears c words entries (line.Append name n date) bytes did mark (Refuses w, meets, is) spares = none_wear did _ is refl
line_wears c words entries (line.Append name n date) bytes did mark (Finds table, meets, is) spares = unmarked c mark meets.0
line_wears c words entries line.List bytes did mark is spares = none_wear did _ is refl
line_wears c words entries (line.Restore number) bytes did mark (inl (none, is)) spares = none_wear did _ is refl
line_wears c words entries (line.Restore number) bytes did mark (inr gives) spares =
    none_wear did _ gives.is
    (given_steps words entries number gives.entry (framed (pieces words gives.entry) gives.acts) gives.ending
    (framed_in_no_step c words (pieces words gives.entry) gives.acts gives.ending gives.restores).0)
line_wears c words entries line.Scrub bytes did mark (inl (on, is)) spares = none_wear did _ is refl
line_wears c words entries line.Scrub bytes did mark (inr (free, scrubs)) spares = unmarked c mark free
line_wears c words entries (line.Lose segment sector) bytes did mark (inl (none, is)) spares = none_wear did _ is refl
line_wears c words entries (line.Lose segment sector) bytes did mark (inr (place, is)) spares =
    subst WearOthers (sym (ap (λ (d : Did). steps_of d.acts) is)) (spares segment sector refl place.in_segment, place.in_segment, tt)
line_wears c words entries line.End bytes did mark never spares = absurd never

items_wear : (items : List Item) (dids : List Did) (c : Cartridge) (words : List ℕ) (entries : List Entry) → c.info.protected ≡ true →
    ItemsDo c words entries items dids → ItemsSpareTable items →
    WearOthers (steps_of (acts_of dids)) × ((cartridge_behind c dids).info.protected ≡ true)
items_wear [] [] c words entries mark ran spares = (tt, mark)
items_wear [] (did ∷ dids) c words entries mark ran spares = absurd ran
items_wear (item ∷ items) [] c words entries mark ran spares = absurd ran
items_wear (item ∷ items) (did ∷ dids) c words entries mark ran spares =
    let one : WearOthers (steps_of did.acts) = line_wears c words entries item.line item.bytes did mark ran.0 spares.0 in
    let rest = items_wear items dids (changed_by (steps_of did.acts) c) words did.entries
    (mark_stays (steps_of did.acts) c one mark) ran.1 spares.1 in (
      subst WearOthers (sym (steps_of-append did.acts (acts_of dids))) (both_wear (steps_of did.acts) (steps_of (acts_of dids)) one rest.0),
      rest.1,
    )

no_acts : (acts other : List Act) → acts ≡ other → steps_of other ≡ [] → WearOthers (steps_of acts)
no_acts acts other is none = subst WearOthers (sym (ap (λ (xs : List Act). steps_of xs) is ∙ none)) tt

end_wears : (c : Cartridge) (words : List ℕ) (entries : List Entry) (rest : List ℕ) (ending : Ending) (acts : List Act) →
    c.info.protected ≡ true → EndDoes c words entries rest ending acts →
    WearOthers (steps_of acts)
end_wears c words entries rest AtEnd acts mark is = no_acts acts _ is refl
end_wears c words entries rest AtStop acts mark is = no_acts acts _ is refl
end_wears c words entries rest (AtFault number place) acts mark (inl (below, (early, (Refuses w, meets, are)))) = no_acts acts _ are refl
end_wears c words entries rest (AtFault number place) acts mark (inl (below, (early, (Finds table, meets, are)))) = unmarked c mark meets.0
end_wears c words entries rest (AtFault number place) acts mark (inr (never, are)) = no_acts acts _ are refl

script_wears : (c : Cartridge) (words : List ℕ) (entries : List Entry) (input : List ℕ) (outcome : CommandOutcome) →
    c.info.protected ≡ true → (does : ScriptDoes c words entries input outcome) →
    ItemsSpareTable does.items → WearOthers (steps_of outcome.acts)
script_wears c words entries input outcome mark does spares =
    let items = items_wear does.items does.dids c words entries mark does.did spares in
    let last : WearOthers (steps_of does.last) =
    end_wears (cartridge_behind c does.dids) words (entries_behind entries does.dids) _ does.ending does.last items.1 does.ends in
    subst WearOthers (sym (ap (λ (o : CommandOutcome). steps_of o.acts) does.is ∙ steps_of-append (acts_of does.dids) does.last))
    (both_wear (steps_of (acts_of does.dids)) (steps_of does.last) items.0 last)

-- ---- a script

same_some : (c d : Cartridge) → Some c ≡ Some d → c ≡ d
same_some c d is = cc

-- what it leaves, done or stopped
pub protected_script_reads : (input : List ℕ) (words : List (List ℕ)) (c : Cartridge) (plain : Plain) (outcome : CommandOutcome)
    (left : Option Cartridge) (script : Scripted input words c plain) →
    c.info.protected ≡ true → ItemsSpareTable script.does.items → CanBeRead c → ScriptOutcome (Some c) input outcome →
    Torn (steps_of outcome.acts) (Some c) left → IsSomeAnd left CanBeRead
protected_script_reads input words c plain outcome left script mark spares reads opened torn =
    elim (mounted_or_turned (Scripting input) c plain outcome script.stands opened) [
      | inl turned ↦ some_and CanBeRead c left reads (subst (λ (o : CommandOutcome). Torn (steps_of o.acts) (Some c) left) turned.is torn)
      | inr was ↦
          let did = was.did in
          let none : settling_steps plain.table_area c ≡ [] =
          ap (λ (b : Bool). if b then [] else block_writes (with_parity plain.table_area) (settling_places c plain.table_area)) mark in
          let still : c ≡ settled plain.table_area c =
          same_some c (settled plain.table_area c)
          (subst (λ (ss : List Step). effects ss (Some c) ≡ Some (settled plain.table_area c)) none
          (settling_effects c plain.table_area was.mounts.reads)) in
          let one : did.came ≡ script.outcome =
          one_script (settled plain.table_area c) plain.words (entries_of plain) input did.came script.outcome did.does script.does in
          let there : (settled plain.table_area c).info.protected ≡ true = subst (λ (d : Cartridge). d.info.protected ≡ true) still mark in
          let wear : WearOthers (steps_of script.outcome.acts) =
          script_wears (settled plain.table_area c) plain.words (entries_of plain) input script.outcome there script.does spares in
          let steps : steps_of outcome.acts ≡ steps_of script.outcome.acts =
          ap (λ (o : CommandOutcome). steps_of o.acts) did.is ∙ ap (λ (ss : List Step). ss ++ steps_of did.came.acts) none
          ∙ ap (λ (o : CommandOutcome). steps_of o.acts) one in
          torn_reads (steps_of script.outcome.acts) c left wear reads (subst (λ (ss : List Step). Torn ss (Some c) left) steps torn)
    ]
