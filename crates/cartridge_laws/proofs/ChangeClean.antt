-- Header copies that are clean or bare stay so where no sector can be read that could not.
use Rattle.std.proofs.Common.{ℕ, inl, inr, List, ◌≤◌, arith, refl}
use Rattle.cartridge_laws.proofs.ChangeStanding.{written_less, zero_less, count_grows, worn_stands, spoiled_stands, marks_read_no_more}
use Rattle.cartridge_laws.proofs.ChangeStanding.{protected_stands, referenced_stands}
use Rattle.cartridge_laws.proofs.ChangeViews.{ReadsNoMore, worn_reads_no_more, spoiled_alike}
use Rattle.cartridge_laws.specs.ChangeLaws.{WornIsClean, WornIsBare, SpoiledIsClean, SpoiledIsBare, ProtectedIsClean, ProtectedIsBare}
use Rattle.cartridge_laws.specs.ChangeLaws.{ReferencedIsClean, ReferencedIsBare}
use Rattle.cartridge_spec.specs.Formatting.{StandsCleanly, HasNoHeader}
use Rattle.cartridge_laws.specs.HeaderTerms.{IsBareCopy, IsCleanCopy}
use Rattle.cartridge_spec.specs.HeaderCopies.{copy_cells}
use Rattle.cartridge_spec.specs.Says.{whole_mask, unreadable_count}
use Rattle.cartridge_spec.specs.Volumes.{Plain, Stands, worn}
use Rattle.qic_base.specs.Cartridge.{Cartridge}
use Rattle.qic_base.specs.Step.{Spoil, changed, SetProtected, SetReferenced}

pub clean_less : (c d : Cartridge) (copy : ℕ) (area : List (List ℕ)) → ReadsNoMore c d → IsCleanCopy c copy area → IsCleanCopy d copy area
clean_less c d copy area less (inl written) = inl (written_less c d copy whole_mask area less written)
clean_less c d copy area less (inr zeros) = inr (zero_less c d copy whole_mask less zeros)

bare_less : (c d : Cartridge) (copy : ℕ) → ReadsNoMore c d → IsBareCopy c copy → IsBareCopy d copy
bare_less c d copy less (inl zeros) = inl (zero_less c d copy whole_mask less zeros)
bare_less c d copy less (inr lost) =
    let grows : unreadable_count (copy_cells c copy) ≤ unreadable_count (copy_cells d copy) = count_grows c d copy less in
    inr (omega arith)

cleanly_less : (c d : Cartridge) (plain : Plain) → ReadsNoMore c d → StandsCleanly c plain → Stands d plain → StandsCleanly d plain
cleanly_less c d plain less clean stands = record {
  stands = stands;
  copies = record {
    first = clean_less c d 0 plain.header_area less clean.copies.first;
    second = clean_less c d 1 plain.header_area less clean.copies.second;
  };
}

pub no_header_less : (c d : Cartridge) → ReadsNoMore c d → HasNoHeader c → HasNoHeader d
no_header_less c d less bare = record { first = bare_less c d 0 less bare.first; second = bare_less c d 1 less bare.second }

pub worn_is_clean : WornIsClean
worn_is_clean c plain segment sector small clean spares =
    cleanly_less c (worn segment sector c) plain (worn_reads_no_more c segment sector) clean
    (worn_stands c plain segment sector small clean.stands spares)

pub worn_is_bare : WornIsBare
worn_is_bare c segment sector bare = no_header_less c (worn segment sector c) (worn_reads_no_more c segment sector) bare

pub spoiled_is_clean : SpoiledIsClean
spoiled_is_clean c plain segment sector clean =
    cleanly_less c (changed (Spoil segment sector) c) plain (spoiled_alike c segment sector).no_more clean
    (spoiled_stands c plain segment sector clean.stands)

pub spoiled_is_bare : SpoiledIsBare
spoiled_is_bare c segment sector bare = no_header_less c (changed (Spoil segment sector) c) (spoiled_alike c segment sector).no_more bare

pub protected_is_clean : ProtectedIsClean
protected_is_clean c plain on clean =
    cleanly_less c (changed (SetProtected on) c) plain (marks_read_no_more c (changed (SetProtected on) c) refl) clean
    (protected_stands c plain on clean.stands)

pub protected_is_bare : ProtectedIsBare
protected_is_bare c on bare = no_header_less c (changed (SetProtected on) c) (marks_read_no_more c (changed (SetProtected on) c) refl) bare

pub referenced_is_clean : ReferencedIsClean
referenced_is_clean c plain clean =
    cleanly_less c (changed SetReferenced c) plain (marks_read_no_more c (changed SetReferenced c) refl) clean
    (referenced_stands c plain clean.stands)

pub referenced_is_bare : ReferencedIsBare
referenced_is_bare c bare = no_header_less c (changed SetReferenced c) (marks_read_no_more c (changed SetReferenced c) refl) bare
