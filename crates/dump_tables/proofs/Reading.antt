-- The table of a dump, by what was read of its segment.
use Rattle.std.proofs.Common.{◌≡◌, ℕ, ◌||◌, Bool, true, false, List, [], ◌∷◌, length, Option, Some, None, refl, sym}
use Rattle.std.proofs.Common.{ap, subst}
use Rattle.std.proofs.Common.{◌∙◌, arith}
use Rattle.std.specs.Prelude.{is_some}
use Rattle.cartridge_spec.specs.Table.{slot}
use Rattle.dump_opening.specs.Opened.{Shows}
use Rattle.dump_opening.specs.declared.opened.OpenDump.{OpenDump}
use Rattle.dump_spec.specs.Answers.{Known, TableIs, header_area}
use Rattle.dump_spec.specs.HeaderPlace.{FoundHeader}
use Rattle.dump_spec.specs.Table.{FoundTable, begins_with_volume, table_segment}
use Rattle.dump_volumes.specs.Told.{IsTold}
use Rattle.dump_volumes.specs.declared.info.ToldHeader.{ToldHeader}
use Rattle.dump_tables.specs.Found.{HasData, data_in}
use Rattle.dump_tables.specs.declared.place.TablePlace.{TablePlace}
use Rattle.dump_tables.proofs.Tables.{none_begins}
use Rattle.qic_base.specs.Field.{number_at}

-- ---- whether there is one

pub begins_none : (area : List (List ℕ)) → length area ≡ 0 → false ≡ begins_with_volume area
unfolding slot number_at
begins_none [] none = refl
begins_none (bytes ∷ area) none = absurd (omega arith)

pub begins_then : (header : Option ToldHeader) (begins : Bool) → (is_some header || begins) ≡ true → header ≡ None → begins ≡ true
begins_then header begins is none = sym (ap (λ (h : Option ToldHeader). is_some h || begins) none) ∙ is

pub not_then : (header : Option ToldHeader) (begins : Bool) → (is_some header || begins) ≡ false → (header ≡ None) × (begins ≡ false)
not_then None begins is = (refl, is)
not_then (Some header) begins is = absurd (cc (is))

abbrev pub found_as : (sectors : List (List ℕ)) → TablePlace → FoundTable
found_as sectors place = record { segment = place.segment; area = data_in sectors place; sure = place.sure }

table_by : (found : Option FoundHeader) (told : Option ToldHeader) (known : Known) (sectors : List (List ℕ)) (place : TablePlace) →
    known.header ≡ found → IsTold found told → place.segment ≡ table_segment (header_area known) known.layout →
    HasData known place.segment sectors place → (told ≡ None → begins_with_volume (data_in sectors place) ≡ true) →
    TableIs known (Some (found_as sectors place))
table_by (Some found) told known sectors place at_header is segment has begins =
    let here : HasData known (table_segment (header_area known) known.layout) sectors place =
    subst (λ (s : ℕ). HasData known s sectors place) segment has in
    rw at_header ((rw at_header at segment), (rw at_header at here))
table_by None (Some header) known sectors place at_header is segment has begins = absurd is
table_by None None known sectors place at_header is segment has begins =
    let here : HasData known (table_segment (header_area known) known.layout) sectors place =
    subst (λ (s : ℕ). HasData known s sectors place) segment has in
    rw at_header ((rw at_header at segment), (rw at_header at here), begins refl)

pub table_found : (view : OpenDump) (told : Option (List ℕ)) (known : Known) (sectors : List (List ℕ)) (place : TablePlace) →
    Shows view told known → place.segment ≡ table_segment (header_area known) known.layout → HasData known place.segment sectors place →
    (view.header ≡ None → begins_with_volume (data_in sectors place) ≡ true) → TableIs known (Some (found_as sectors place))
table_found view told known sectors place shows segment has begins =
    table_by known.header view.header known sectors place refl shows.header segment has begins

none_by : (found : Option FoundHeader) (told : Option ToldHeader) (known : Known) (sectors : List (List ℕ)) (place : TablePlace) →
    known.header ≡ found → IsTold found told → told ≡ None → place.segment ≡ table_segment (header_area known) known.layout →
    HasData known place.segment sectors place → begins_with_volume (data_in sectors place) ≡ false → TableIs known None
none_by (Some found) None known sectors place at_header is none segment has begins = absurd is
none_by found (Some header) known sectors place at_header is none segment has begins = cc
none_by None None known sectors place at_header is none segment has begins =
    let here : HasData known (table_segment (header_area known) known.layout) sectors place =
    subst (λ (s : ℕ). HasData known s sectors place) segment has in
    rw at_header (none_begins known.layout.form known.zero_lost _ _ (data_in sectors place) place.sure (rw at_header at here) begins)

pub table_none : (view : OpenDump) (told : Option (List ℕ)) (known : Known) (sectors : List (List ℕ)) (place : TablePlace) →
    Shows view told known → view.header ≡ None → place.segment ≡ table_segment (header_area known) known.layout →
    HasData known place.segment sectors place → begins_with_volume (data_in sectors place) ≡ false → TableIs known None
table_none view told known sectors place shows none segment has begins =
    none_by known.header view.header known sectors place refl shows.header none segment has begins
