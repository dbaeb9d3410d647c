-- A volume of an exported cartridge.
use Rattle.std.proofs.Common.{◌≡◌, ℕ, zero, suc, ◌+◌, ◌-◌, ◌*◌, ◌<◌, ◌≤◌, ◌==◌, Bool, true, false, not, List, [], ◌∷◌, length, map}
use Rattle.std.proofs.Common.{replicate}
use Rattle.std.proofs.Common.{All, if◌then◌else◌, Option, Some, None, slice_get, ap, subst, ◌∙◌, arith}
use Rattle.std.proofs.lemmas.Bool.{ne_eqb}
use Rattle.std.proofs.lemmas.Option.{same_Some, slice_get-map, slice_get_within, get_or_from_slice_get}
use Rattle.std.specs.List.{flat_map, range_with_len}
use Rattle.std.specs.Option.{option_map}
use Rattle.std.specs.Prelude.{MatchBool}
use Rattle.cartridge_laws.specs.Table.{LieBehind}
use Rattle.cartridge_spec.specs.Header.{Header}
use Rattle.cartridge_spec.specs.HeaderCopies.{last_segment}
use Rattle.cartridge_spec.specs.Says.{cells_of}
use Rattle.cartridge_spec.specs.Table.{Entry}
use Rattle.cartridge_spec.specs.Volumes.{Plain, Stands, Volume, VolumeStands, bytes_in, carrying_segments, entries_of}
use Rattle.command_spec.specs.Restore.{volume_at}
use Rattle.flat_dump.specs.Imported.{brought_back}
use Rattle.qic_base.specs.Cartridge.{Cartridge, IsSector}
use Rattle.dump_spec.specs.Answers.{Answer, Answers, GivesVolume, Known, PutsOut, numbered, output_answer, refused, sure_refusal}
use Rattle.dump_spec.specs.Answers.{AnswersVolume}
use Rattle.dump_spec.specs.Given.{Given}
use Rattle.dump_spec.specs.Output.{GiveInTurn, output_of}
use Rattle.dump_spec.specs.Table.{FoundTable}
use Rattle.dump_spec.specs.Volumes.{carried, has_bad_range, length_of}
use Rattle.dump_spec.specs.Volumes as dump_volumes
use Rattle.dump_spec.specs.declared.asked.Command.{Command}
use Rattle.dump_spec.specs.declared.asked.Command.TheVariants as commands
use Rattle.dump_spec.specs.declared.form.Form.TheVariants as forms
use Rattle.dump_spec.specs.declared.status.Status.TheVariants as status
use Rattle.salvage_laws.proofs.Answered.{is_answered, is_listed}
use Rattle.salvage_laws.proofs.ListText.{AreOfMap, carried_is, good_range, in_order, length_is, of_map}
use Rattle.salvage_laws.proofs.Standing.{standing_is_read_as}
use Rattle.salvage_laws.proofs.Tables.{plain_volume}
use Rattle.salvage_laws.proofs.ToldBytes.{tell-take, tell_sectors}
use Rattle.salvage_laws.proofs.Views.{cells_are_cells}
use Rattle.salvage_laws.proofs.VolumeGiven.{AreCells, AreGiven, given_in_turn}
use Rattle.salvage_laws.specs.Exported.{exported, plainly, IsReadAs}
use Rattle.salvage_laws.specs.VolumeLaws.{HasVolume, VolumeAgrees, VolumeComesWhole, StandingVolumeAgrees, StandingVolumeComesWhole}
use Rattle.salvage_laws.specs.VolumeLaws.{asked_length}

-- ---- a volume in the list

pub record LiesWell (last : ℕ) (e : Entry) : Type 0 where
  pub behind : 2 < e.start
  pub forwards : e.start ≤ e.end
  pub within : e.end ≤ last

lies_well : (before last i : ℕ) (es : List Entry) (e : Entry) → 2 ≤ before → LieBehind before last es → slice_get es i ≡ Some e →
    LiesWell last e
lies_well before last i [] e least lie at = absurd (cc)
lies_well before last zero (x ∷ es) e least lie at =
    subst (LiesWell last) (same_Some x e at)
    (record { behind = (let b = lie.0 in omega arith); forwards = lie.1; within = lie.2 })
lies_well before last (suc i) (x ∷ es) e least lie at =
    lies_well x.end last i es e (let b = lie.0 in let f = lie.1 in omega arith) lie.3 at

-- it is numbered in the dump fit it is on the cartridge
numbered_is : (entries : List Entry) (number : ℕ) (e : Entry) → volume_at entries number ≡ Some e →
    numbered (map plain_volume entries) number ≡ Some (plain_volume e)
numbered_is entries zero e at = absurd (cc)
numbered_is entries (suc n) e at =
    let before : suc n - 1 ≡ n = omega arith in
    let some : (suc n == 0) ≡ false = ne_eqb (suc n) 0 (λ none. omega arith) in
    ap (λ (b : Bool). if b then None else slice_get (map plain_volume entries) (suc n - 1)) some
    ∙ ap (slice_get (map plain_volume entries)) before
    ∙ slice_get-map plain_volume entries n
    ∙ ap (option_map plain_volume) at

number_lies : (last number : ℕ) (entries : List Entry) (e : Entry) → LieBehind 2 last entries → volume_at entries number ≡ Some e →
    LiesWell last e
number_lies last zero entries e lie at = absurd (cc)
number_lies last (suc n) entries e lie at = lies_well 2 last n entries e (omega arith) lie at

-- ---- what it gives

-- what segments gave is put out
pub record IsPut (c : Cartridge) (words : List ℕ) (whole : Bool) (volume : Volume) (answer : Answer) : Type 0 where
  pub given : List Given
  pub warned : Bool
  pub are : AreGiven c words (carrying_segments words volume.entry) volume.area given
  pub is : answer ≡ output_answer warned (output_of (asked_length words whole volume.entry) given)

size_is : (masks : ℕ → ℕ) (words : List ℕ) (segments : ℕ) (e : Entry) (whole : Bool) → AreOfMap masks words segments →
    e.start ≤ e.end → e.end < segments → has_bad_range 2 (plain_volume e) ≡ false →
    (if whole then carried masks (plain_volume e) else length_of masks 2 (plain_volume e)) ≡ asked_length words whole e
size_is masks words segments e true are forwards within good = carried_is masks words e.start e.end segments are forwards within
size_is masks words segments e false are forwards within good = length_is masks words segments e are forwards within good

put_out : (c : Cartridge) (words : List ℕ) (known : Known) (whole warned : Bool) (volume : Volume) (size : ℕ) (answer : Answer) →
    known.layout.form ≡ forms.Sectors → known.zero_lost ≡ false → volume.entry.start ≤ volume.entry.end →
    AreCells c words known.dump known.layout volume.entry.start (volume.entry.end + 1 - volume.entry.start) →
    VolumeStands c words volume → All IsSector volume.area → size ≡ asked_length words whole volume.entry →
    PutsOut known warned volume.entry.start volume.entry.end size answer → IsPut c words whole volume answer
put_out c words known whole warned volume size answer form zeros forwards cells stands sectors length_is puts =
    let start : ℕ = volume.entry.start in
    let count : ℕ = volume.entry.end + 1 - start in
    record {
      given = puts.0;
      warned = warned;
      are = given_in_turn c words known.dump known.layout start count volume.area puts.0 form cells
          (record { parts = stands.parts; size = stands.size; sectors = sectors })
          (subst (λ (lost : Bool). GiveInTurn known.dump known.layout lost (range_with_len start count) puts.0) zeros puts.1);
      is = puts.2 ∙ ap (λ (n : ℕ). output_answer warned (output_of n puts.0)) length_is;
    }

-- the answer is that of a volume with a good range
gives_put : (known : Known) (table : FoundTable) (number : ℕ) (whole : Bool) (volume : dump_volumes.Volume) (answer : Answer) →
    has_bad_range table.segment volume ≡ false → GivesVolume known table number whole (Some volume) answer →
    PutsOut known (not table.sure) volume.entry.start volume.entry.end
    (if whole then carried known.layout.masks volume else length_of known.layout.masks table.segment volume) answer
gives_put known table number whole volume answer good gives =
    subst (λ (b : Bool). MatchBool b (answer ≡ refused (not table.sure) (status.BadRange number))
    (PutsOut known (not table.sure) volume.entry.start volume.entry.end
    (if whole then carried known.layout.masks volume else length_of known.layout.masks table.segment volume) answer)) good gives

is_put : (c : Cartridge) (header : Header) (words : List ℕ) (table : List (List ℕ)) (entries : List Entry) (number : ℕ) (whole : Bool)
    (volume : Volume) (sure : Option (List ℕ)) (answer : Answer) → IsReadAs c header words table entries →
    HasVolume c words entries number volume → sure_refusal sure ≡ None →
    Answers (exported c sure) (plainly (commands.Volume number whole)) answer → IsPut c words whole volume answer
is_put c header words table entries number whole volume sure answer fit has empty answers =
    let command : Command = commands.Volume number whole in
    let answered = is_answered c sure command header words table entries answer fit empty answers in
    let known : Known = answered.known in
    let listed = is_listed c sure command known header words table entries answered.to.0 fit answered.by answered.to.1 in
    let short = fit.whole.long.shortest in
    let long = fit.whole.long.longest in
    let are = of_map c sure command known header words table entries fit answered.by in
    let e : Entry = volume.entry in
    let lies = number_lies (last_segment c) number entries e (in_order c header words table entries fit) has.numbered in
    let behind = lies.behind in
    let forwards = lies.forwards in
    let within = lies.within in
    let good : has_bad_range 2 (plain_volume e) ≡ false = good_range e (last_segment c) behind forwards within (omega arith) in
    let there : GivesVolume known listed.table number whole (Some (plain_volume e)) answer =
    subst (λ (v : Option dump_volumes.Volume). GivesVolume known listed.table number whole v answer)
    (ap (λ (vs : List dump_volumes.Volume). numbered vs number) listed.volumes ∙ numbered_is entries number e has.numbered)
    (subst (λ (found : Option FoundTable). AnswersVolume known number whole found answer) listed.is answered.to.2) in
    let range : has_bad_range listed.table.segment (plain_volume e) ≡ false =
    ap (λ (s : ℕ). has_bad_range s (plain_volume e)) listed.segment ∙ good in
    put_out c words known whole (not listed.table.sure) volume
    (if whole then carried known.layout.masks (plain_volume e) else length_of known.layout.masks listed.table.segment (plain_volume e))
    answer answered.by.form answered.by.zero_lost forwards
    (λ s low high.
    let on : s < 28 * c.info.segments_per_track = omega arith in
    cells_are_cells c sure command known s fit.whole answered.by on
    ∙ ap (cells_of (brought_back c) s) (are s on))
    has.stands has.sectors
    (ap (λ (s : ℕ). if whole then carried known.layout.masks (plain_volume e) else length_of known.layout.masks s (plain_volume e))
    listed.segment
    ∙ size_is known.layout.masks words (28 * c.info.segments_per_track) e whole are forwards (omega arith) good)
    (gives_put known listed.table number whole (plain_volume e) answer range there)

-- ---- the laws

pub volume_agrees : VolumeAgrees
volume_agrees c header words table entries number whole volume sure answer fit has empty answers =
    let put = is_put c header words table entries number whole volume sure answer fit has empty answers in
    let size : ℕ = asked_length words whole volume.entry in
    record {
      output = output_of size put.given;
      warned = put.warned;
      is = put.is;
      tell = tell-take size (flat_map (λ g. g.bytes) put.given) (flat_map (λ g. replicate 1024 g.mark) put.given) (bytes_in volume.area)
          (tell_sectors put.given volume.area has.sectors put.are.each);
    }

pub volume_comes_whole : VolumeComesWhole
volume_comes_whole c header words table entries number whole volume sure answer fit has few empty answers =
    let put = is_put c header words table entries number whole volume sure answer fit has empty answers in
    ap (λ (a : Answer). a.printed) put.is ∙ put.are.few (asked_length words whole volume.entry) few

-- ---- of a cartridge that stands for a plain one

entry_at : (volumes : List Volume) (number : ℕ) (volume : Volume) → volume_at volumes number ≡ Some volume →
    volume_at (map (λ v. v.entry) volumes) number ≡ Some volume.entry
entry_at volumes zero volume at = absurd (cc)
entry_at volumes (suc n) volume at = slice_get-map (λ (v : Volume). v.entry) volumes n ∙ ap (option_map (λ (v : Volume). v.entry)) at

all_at : (P : Volume → Type 0) (volumes : List Volume) (number : ℕ) (volume : Volume) → volume_at volumes number ≡ Some volume →
    All P volumes → P volume
all_at P volumes zero volume at all = absurd (cc)
all_at P volumes (suc n) volume at all =
    let within : n < length volumes = slice_get_within volumes n volume at in
    subst P (get_or_from_slice_get volumes n volume volume at) (all n volume within)

has_volume : (c : Cartridge) (plain : Plain) (number : ℕ) (volume : Volume) → Stands c plain →
    volume_at plain.volumes number ≡ Some volume → HasVolume c plain.words (entries_of plain) number volume
has_volume c plain number volume stood at = record {
  numbered = entry_at plain.volumes number volume at;
  stands = all_at (VolumeStands c plain.words) plain.volumes number volume at stood.volumes;
  sectors = all_at (λ v. All IsSector v.area) plain.volumes number volume at stood.whole.areas;
}

pub standing_volume_agrees : StandingVolumeAgrees
standing_volume_agrees c plain number volume sure answer is stood reads uncompressed at empty answers =
    volume_agrees c plain.header plain.words plain.table_area (entries_of plain) number false volume sure answer
    (standing_is_read_as c plain is stood reads uncompressed) (has_volume c plain number volume stood at) empty answers

pub standing_volume_comes_whole : StandingVolumeComesWhole
standing_volume_comes_whole c plain number volume sure answer is stood reads uncompressed at few empty answers =
    volume_comes_whole c plain.header plain.words plain.table_area (entries_of plain) number false volume sure answer
    (standing_is_read_as c plain is stood reads uncompressed) (has_volume c plain number volume stood at) few empty answers
