-- A cartridge that comes back reads as it did, and so it stands for what it stood for.
use Rattle.std.proofs.Common.{◌≡◌, ◌⊎◌, inl, inr, ℕ, List, Option, Some, None, refl, sym, ap, ◌∙◌, subst}
use Rattle.std.proofs.lemmas.List.Elements.{All-weaker}
use Rattle.std.proofs.lemmas.Option.{slice_get-map}
use Rattle.std.specs.Prelude.{unwrap_or, slice_get}
use Rattle.std.specs.Option.{option_map}
use Rattle.cartridge_laws.proofs.ChangeStanding.{CellsAlike, written_less, in_force, copies_less, volume_less}
use Rattle.cartridge_laws.proofs.ChangeViews.{ReadsAlike, held_before, same_count}
use Rattle.cartridge_laws.proofs.Segments.{count_of_cells}
use Rattle.cartridge_spec.specs.TableSegment.{table_cells}
use Rattle.cartridge_spec.specs.Says.{cells_of, whole_mask, Written, ReadsAll}
use Rattle.cartridge_spec.specs.Shape.{is_unreadable, usable_places}
use Rattle.cartridge_spec.specs.Volumes.{VolumeStands, Plain, Stands}
use Rattle.qic_base.specs.Cartridge.{Cartridge, view_at}
use Rattle.qic_base.specs.CartridgeTerms.{place_of}
use Rattle.qic_base.specs.declared.tape.SectorView.{SectorView}
use Rattle.qic_base.specs.declared.tape.SectorView.TheVariants.{Blank, Defect, Lost, Holds}
use Rattle.flat_dump.specs.Imported.{brought_view, brought_back}
use Rattle.flat_dump.specs.Laws.{StandsAgain}
use Rattle.flat_dump.proofs.Coming.{imports_one, brings_back}

-- ---- one view

abbrev viewed : Option SectorView → SectorView
viewed o = unwrap_or o Blank

no_more : (o : Option SectorView) (bytes : List ℕ) → viewed (option_map brought_view o) ≡ Holds bytes → viewed o ≡ Holds bytes
no_more None bytes e = absurd (cc)
no_more (Some Blank) bytes e = absurd (cc)
no_more (Some Defect) bytes e = absurd (cc)
no_more (Some Lost) bytes e = absurd (cc)
no_more (Some (Holds held)) bytes e = e

no_less : (o : Option SectorView) (bytes : List ℕ) → viewed o ≡ Holds bytes → viewed (option_map brought_view o) ≡ Holds bytes
no_less None bytes e = absurd (cc)
no_less (Some Blank) bytes e = absurd (cc)
no_less (Some Defect) bytes e = absurd (cc)
no_less (Some Lost) bytes e = absurd (cc)
no_less (Some (Holds held)) bytes e = e

as_many : (o : Option SectorView) → is_unreadable (viewed (option_map brought_view o)) ≡ is_unreadable (viewed o)
as_many None = refl
as_many (Some Blank) = refl
as_many (Some Defect) = refl
as_many (Some Lost) = refl
as_many (Some (Holds held)) = refl

come : (c : Cartridge) (s i : ℕ) → view_at (brought_back c) s i ≡ viewed (option_map brought_view (slice_get c.views (place_of s i)))
come c s i = ap viewed (slice_get-map brought_view c.views (place_of s i))

pub reads_alike : (c : Cartridge) → ReadsAlike c (brought_back c)
reads_alike c = record {
  no_more = λ s i bytes at. no_more (slice_get c.views (place_of s i)) bytes (sym (come c s i) ∙ at);
  no_less = λ s i bytes at. come c s i ∙ no_less (slice_get c.views (place_of s i)) bytes at;
  unreadable = λ s i. ap is_unreadable (come c s i) ∙ as_many (slice_get c.views (place_of s i));
}

-- ---- what stands

pub cells_alike : (c d : Cartridge) (s : ℕ) → ReadsAlike c d → CellsAlike (cells_of c s whole_mask) (cells_of d s whole_mask)
cells_alike c d s alike = record {
  long = count_of_cells c s whole_mask ∙ sym (count_of_cells d s whole_mask);
  count = same_count (view_at c s) (view_at d s) (usable_places whole_mask) (λ p. sym (alike.unreadable s p));
  no_more = λ i bytes at. held_before c d s whole_mask i bytes alike.no_more at;
  no_less = λ i bytes at. held_before d c s whole_mask i bytes alike.no_less at;
}

table_alike : (c d : Cartridge) (area : List (List ℕ)) → ReadsAlike c d → Written (table_cells c) area ⊎ ReadsAll (table_cells c) area →
    Written (table_cells d) area ⊎ ReadsAll (table_cells d) area
table_alike c d area alike (inl written) = inl (written_less c d 2 whole_mask area alike.no_more written)
table_alike c d area alike (inr reads) = inr (record {
  size = reads.size;
  each = λ i h. let at = reads.each i h in (at.0, (cells_alike c d 2 alike).no_less i at.0 at.1, at.2);
})

brought_stands : (c : Cartridge) (plain : Plain) → Stands c plain → Stands (brought_back c) plain
brought_stands c plain stood =
    let d : Cartridge = brought_back c in
    let alike : ReadsAlike c d = reads_alike c in
    record {
      whole = stood.whole;
      header = record {
        referenced = refl;
        in_force = in_force c d plain.header_area (cells_alike c d 0 alike) (cells_alike c d 1 alike) stood.header.in_force;
      };
      sound_header = stood.sound_header;
      copies = copies_less c d plain.header_area alike.no_more stood.copies;
      sound_table = stood.sound_table;
      shown = stood.shown;
      volumes = All-weaker (VolumeStands c plain.words) (VolumeStands d plain.words)
          (λ volume stands. volume_less c d plain.words volume alike.no_more stands) plain.volumes stood.volumes;
      table = table_alike c d plain.table_area alike stood.table;
    }

pub stands_again : StandsAgain
stands_again c d blocks plain is reading stood imported =
    let P : Cartridge → Type 0 = λ x. Stands x plain in
    subst P (imports_one _ (Some blocks) c.info.segments_per_track (brought_back c) d (brings_back c blocks is reading) imported)
    (brought_stands c plain stood)
