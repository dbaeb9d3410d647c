-- How an import ends.
use Rattle.std.proofs.Common.{◌≡◌, ℕ, ◌+◌, ◌-◌, ◌*◌, ◌<◌, ◌≤◌, inl, inr, Bool}
use Rattle.std.proofs.Common.{true, false, List, [], ◌++◌, length, get_or, replicate, map, min}
use Rattle.std.proofs.Common.{nat_le, ◌&&◌, if◌then◌else◌, Option, Some, None, IfSome, Result, Err, ⊎_elim, refl, sym, ◌∙◌, ap, subst}
use Rattle.std.proofs.Common.{arith}
use Rattle.std.specs.List.{range_with_len, slice_range}
use Rattle.std.specs.Option.{option_map}
use Rattle.std.proofs.Math.ListN.{get_or-append}
use Rattle.std.proofs.lemmas.Bool.{cases_lt, lt-leb}
use Rattle.std.proofs.lemmas.List.{same_lists, get_or_default, get_or-append_right, get_or-replicate, length-append, length-replicate}
use Rattle.std.proofs.lemmas.List.Folds.{sum_by-replicate}
use Rattle.std.proofs.lemmas.List.FromFn.{get_or-map-range_with_len, length-map-range_with_len}
use Rattle.std.proofs.lemmas.List.Sums.{sum_by-append}
use Rattle.qic_base.proofs.Steps.{Rose-after}
use Rattle.qic_base.specs.Cartridge.{IsLength}
use Rattle.qic_base.specs.Disk as disks
use Rattle.qic_base.specs.Disk.{IsLeftNow, IsToldRight}
use Rattle.qic_base.specs.Source as sources
use Rattle.qic_base.specs.declared.tape.SectorView.{SectorView}
use Rattle.qic_base.specs.declared.tape.SectorView.TheVariants.{Blank, Lost, Holds}
use Rattle.cart_image.specs.Image.{cartridge_of}
use Rattle.cart_image.specs.Layout.{resize}
use Rattle.cart_image.specs.Run.{Runs}
use Rattle.rescue_map.specs.Text.{is_marked}
use Rattle.flat_dump.specs.Cells.{lost_cell}
use Rattle.flat_dump.specs.Import.{IsDumpOf, IsNoDump, IsNoImage, IsNoneOrWhole, Cleared, WasImported, Imports, counted, limit, lost_bit}
use Rattle.flat_dump.specs.Import.{lost_count}
use Rattle.flat_dump.specs.Imported.{imported_by, imported_view}
use Rattle.flat_dump.specs.Importing.{IsCell, IsLaid, IsNoneOr, FailedSince, Finished, Unfinished, WasCopied, Copies, Fills, begun}
use Rattle.flat_dump.specs.Importing.{image_with, lost_cells}
use Rattle.flat_dump.specs.declared.importing.Copied.{Copied}
use Rattle.flat_dump.specs.declared.importing.Imported.{Imported}
use Rattle.flat_dump.specs.declared.importing.ImportError.{ImportError}
use Rattle.flat_dump.specs.declared.importing.ImportError.TheVariants as error
use Rattle.flat_dump.proofs.Laying.{image_shows, laid_more, lost_is_cell}
use Rattle.flat_dump.proofs.Copying.{no_image_yet}
use Rattle.flat_dump.proofs.Passing.{clear_leaves, stays_as}

-- ---- lengths

pub fits_within : (asked : Option ℕ) (len n : ℕ) → IsDumpOf asked len n → len ≤ 917504 * n
fits_within None len n fits = omega arith
fits_within (Some m) len n fits = let e = fits.0 in let l = fits.1 in omega arith

pub fits_counted : (asked : Option ℕ) (len n : ℕ) → IsLength n → IsDumpOf asked (counted asked len) n → IsDumpOf asked len n
fits_counted None len n long fits = let l = long.longest in omega arith
fits_counted (Some m) len n long fits = let l = long.longest in let e = fits.0 in let f = fits.1 in (e, omega arith)

-- a dump of some cartridge is read whole
read_whole : (asked : Option ℕ) (len n : ℕ) → IsLength n → IsDumpOf asked len n → len ≡ counted asked len
read_whole None len n long fits = let l = long.longest in omega arith
read_whole (Some m) len n long fits = let f = fits.1 in omega arith

none_counted : (asked : Option ℕ) (len : ℕ) → IsNoDump asked (counted asked len) → IsNoDump asked len
none_counted asked len none n long fits =
    none n long (subst (λ (k : ℕ). IsDumpOf asked k n) (read_whole asked len n long fits) fits)

-- so many bytes were read
pub read_by : (asked : Option ℕ) (most len bytes : ℕ) → 32768 * most ≡ limit asked → bytes ≡ min len (32768 * most + 1) →
    bytes ≡ counted asked len
read_by asked most len bytes is read = read ∙ ap (λ (k : ℕ). min len (k + 1)) is

-- ---- the sectors that a dump lacks

lacks : (dump mask : List ℕ) (q : ℕ) → length dump < 1024 * q + 1024 → imported_view dump mask q ≡ Lost
lacks dump mask q less =
    by_marked (is_marked mask q) (nat_le (1024 * q + 1024) (length dump)) (slice_range dump (1024 * q) (1024 * q + 1024))
    (lt-leb (1024 * q + 1024) (length dump) less)
  where
    by_marked : (a b : Bool) (bytes : List ℕ) → b ≡ false → (if a && b then Holds bytes else Lost) ≡ Lost
    by_marked true true bytes e = cc
    by_marked true false bytes e = refl
    by_marked false b bytes e = refl

-- a dump whose segments were copied, and the lost sectors behind them
module _ {S D : Type 0} (s : sources.Meaning S) (m : disks.Meaning D) (source : S) (old mid : D) (mask : List ℕ) (most : ℕ)
    (copied : Copied)
    (was : WasCopied s m source old mid mask most copied) (n more : ℕ) (long : IsLength n) (order : copied.segments + more ≡ 28 * n)
    (enough : 28 * n ≤ most) where
  abbrev views : List SectorView
  views = was.views ++ replicate (32 * more) Lost

  abbrev behind : List SectorView
  behind = replicate (32 * more) Lost

  length-behind : length behind ≡ 32 * more
  length-behind = length-replicate {A = SectorView} (32 * more) Lost

  length-views : length views ≡ 896 * n
  length-views = let a = was.size in let b = length-behind in length-append was.views behind ∙ (omega arith)

  view_at : (q : ℕ) → q < 896 * n → get_or views q Blank ≡ imported_view was.dump mask q
  view_at q within = ⊎_elim
      (λ below. get_or-append was.views behind Blank q (let a = was.size in omega arith) ∙ was.each q below)
      (λ past.
      let short = was.whole (omega arith) in
      get_or-append_right was.views behind (32 * copied.segments) q Blank was.size past
      ∙ get_or-replicate (32 * more) (q - 32 * copied.segments) Lost Blank (omega arith)
      ∙ sym (lacks was.dump mask q (omega arith)))
      (cases_lt q (32 * copied.segments))

  views_are : views ≡ map (imported_view was.dump mask) (range_with_len 0 (896 * n))
  views_are = same_lists views (map (imported_view was.dump mask) (range_with_len 0 (896 * n)))
      (length-views ∙ sym (length-map-range_with_len (imported_view was.dump mask) 0 (896 * n))) (λ q d within.
      let there : q < 896 * n = let l = length-views in omega arith in
      get_or_default views q d Blank within
      ∙ view_at q there
      ∙ sym (get_or-map-range_with_len (imported_view was.dump mask) 0 (896 * n) q q d there (omega arith)))

  laid : IsLaid (was.file ++ lost_cells more) views
  laid = laid_more was.file was.views (replicate (32 * more) lost_cell) behind was.laid
      (length-replicate {A = List ℕ} (32 * more) lost_cell ∙ sym length-behind)
      (λ q within.
      let there : q < 32 * more = let l = length-behind in omega arith in
      let C : List ℕ → Type 0 = λ c. IsCell c (get_or behind q Blank) in
      let V : SectorView → Type 0 = λ v. IsCell lost_cell v in
      subst C (sym (get_or-replicate (32 * more) q lost_cell [] there))
      (subst V (sym (get_or-replicate (32 * more) q Lost Blank there)) lost_is_cell))

  pub shows : cartridge_of (image_with n (was.file ++ lost_cells more)) ≡ Some (imported_by was.dump mask n)
  shows = image_shows n (was.file ++ lost_cells more) views long length-views laid
      ∙ ap (λ (vs : List SectorView). Some (record (imported_by was.dump mask n) { views = vs })) views_are

  pub lost_is : copied.lost + 32 * more ≡ lost_count (imported_by was.dump mask n).views
  lost_is =
      let a = was.lost in
      let b = sum_by-append lost_bit was.views behind in
      let c : lost_count behind ≡ 32 * more = sum_by-replicate lost_bit (32 * more) Lost ∙ (omega arith) in
      let d : lost_count views ≡ lost_count (imported_by was.dump mask n).views = ap lost_count views_are in
      omega arith

  module _ (asked : Option ℕ) (fits : IsDumpOf asked (length was.dump) n) where
    pub whole_is : (left : List ℕ) → IsNoneOr (image_with n (was.file ++ lost_cells more)) left → IsNoneOrWhole s source mask asked left
    whole_is left (inl none) = inl none
    whole_is left (inr same) = inr (record {
      dump = was.dump;
      told = was.told;
      n = n;
      long = long;
      fits = fits;
      shows = ap cartridge_of same
          ∙ shows;
    })

    pub imported_is : (first new : D) (imported : Imported) → Finished m first new (image_with n (was.file ++ lost_cells more)) →
        imported.segments ≡ 28 * n → imported.lost ≡ copied.lost + 32 * more →
        WasImported s m source first new mask asked imported
    imported_is first new imported done segments lost = record {
      dump = was.dump;
      told = was.told;
      n = n;
      long = long;
      fits = fits;
      shows = by_told (m.told first) (m.told new) done.told;
      stood = done.stood;
      settled = done.settled;
      segments = segments;
      lost = lost ∙ lost_is;
      crashes = λ left stops is. whole_is left (done.since left stops is);
    }
      where
        by_told : (o p : Option (List ℕ)) → p ≡ option_map (λ b. image_with n (was.file ++ lost_cells more)) o →
            IfSome p (λ bytes. cartridge_of bytes ≡ Some (imported_by was.dump mask n))
        by_told None p e = subst (λ (x : Option (List ℕ)). IfSome x (λ bytes. cartridge_of bytes ≡ Some (imported_by was.dump mask n)))
            (sym e) tt
        by_told (Some b) p e = subst (λ (x : Option (List ℕ)). IfSome x (λ bytes. cartridge_of bytes ≡ Some (imported_by was.dump mask n)))
            (sym e) shows

    pub failed_is : (first new : D) → FailedSince m first new (IsNoneOr (image_with n (was.file ++ lost_cells more))) →
        FailedSince m first new (IsNoneOrWhole s source mask asked)
    failed_is first new failed = record {
      cause = failed.cause;
      stays = stays_as m first new (IsNoneOr (image_with n (was.file ++ lost_cells more))) (IsNoneOrWhole s source mask asked)
          (IsNoneOr (image_with n (was.file ++ lost_cells more))) (IsNoneOrWhole s source mask asked)
          whole_is whole_is failed.stays;
    }

-- a failure that left no image
pub failed_none : {S D : Type 0} (s : sources.Meaning S) (m : disks.Meaning D) (source : S) (mask : List ℕ) (asked : Option ℕ)
    (first new : D) → FailedSince m first new IsNoImage →
    FailedSince m first new (IsNoneOrWhole s source mask asked)
failed_none s m source mask asked first new failed = record {
  cause = failed.cause;
  stays = stays_as m first new IsNoImage (IsNoneOrWhole s source mask asked) IsNoImage (IsNoneOrWhole s source mask asked)
      (λ b none. inl none) (λ b none. inl none) failed.stays;
}

-- ---- the file made empty

cleared_since : {D : Type 0} (m : disks.Meaning D) (old mid new : D) (P : List ℕ → Type 0) → m.faults mid ≡ m.faults old →
    Cleared m mid new P → Cleared m old new P
cleared_since m old mid new P stood (inl empty) = inl (empty.0, empty.1 ∙ stood)
cleared_since m old mid new P stood (inr failed) = inr (Rose-after (m.faults old) (m.faults mid) (m.faults new) stood failed.0, failed.1)

pub imports_cleared : {S D T E : Type 0} (s : sources.Meaning S) (m : disks.Meaning D) (left_now : (d : D) → IsLeftNow m d)
    (right : (d : D) → IsToldRight m d) (source ended : S) (old mid new : D) (mask : List ℕ) (asked : Option ℕ)
    (e : ImportError) (cleared : Result T E) → Fills s m source ended old mid mask asked (Err e) → Runs m mid new (resize 0) cleared →
    Imports s m source ended old new mask asked (Err e)
imports_cleared s m left_now right source ended old mid new mask asked (error.Length bytes) cleared fills runs =
    let since = fills.since in
    let all = clear_leaves m left_now right old mid new IsNoImage cleared (λ b none. none) since.stays runs in
    record {
      dump = fills.dump;
      told = fills.told;
      none = fills.none;
      count = fills.count;
      cleared = cleared_since m old mid new IsNoImage since.stood all.2;
      crashes = all.1;
    }
imports_cleared s m left_now right source ended old mid new mask asked error.Source cleared fills runs =
    let since = fills.1 in
    let all = clear_leaves m left_now right old mid new IsNoImage cleared (λ b none. none) since.stays runs in
    record { cause = fills.0; cleared = cleared_since m old mid new IsNoImage since.stood all.2; crashes = all.1 }
imports_cleared s m left_now right source ended old mid new mask asked error.Disk cleared fills runs =
    let all = clear_leaves m left_now right old mid new (IsNoneOrWhole s source mask asked) cleared (λ b none. inl none) fills.stays runs in
    record { failed = mid; cause = fills.cause; later = all.0; cleared = all.2; crashes = all.1 }

-- ---- a copy that broke off

pub copies_failed : {S D : Type 0} (s : sources.Meaning S) (m : disks.Meaning D) (source ended : S) (first old new : D) (mask : List ℕ)
    (most : ℕ) (asked : Option ℕ) (e : ImportError) →
    Copies s m source ended old new mask most (Err e) → Unfinished m first old begun → Fills s m source ended first new mask asked (Err e)
copies_failed s m source ended first old new mask most asked (error.Length bytes) copies begins = absurd copies
copies_failed s m source ended first old new mask most asked error.Source copies begins = (copies.0, copies.1 first begins)
copies_failed s m source ended first old new mask most asked error.Disk copies begins = failed_none s m source mask asked first new
    (copies first begins)

pub refused_is : {S D : Type 0} (s : sources.Meaning S) (m : disks.Meaning D) (source ended : S) (first old new : D) (mask : List ℕ)
    (most : ℕ) (asked : Option ℕ) (copied : Copied) →
    WasCopied s m source old new mask most copied → 32768 * most ≡ limit asked → IsNoDump asked copied.bytes →
    Unfinished m first old begun → Fills s m source ended first new mask asked (Err (error.Length copied.bytes))
refused_is s m source ended first old new mask most asked copied was is none begins =
    let read = read_by asked most (length was.dump) copied.bytes is was.bytes in
    record {
      dump = was.dump;
      told = was.told;
      none = none_counted asked (length was.dump) (subst (IsNoDump asked) read none);
      count = read;
      since = no_image_yet m first new was.file (was.goes first begins);
    }
