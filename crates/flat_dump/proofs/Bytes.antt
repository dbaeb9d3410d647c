-- Where the bytes of a sector lie in a dump.
use Rattle.std.proofs.Common.{◌≡◌, ℕ, zero, suc, ◌+◌, ◌-◌, ◌*◌, ◌<◌, List, [], ◌∷◌, ◌++◌, length, get_or, take, drop, All, refl, ap, ◌∙◌}
use Rattle.std.proofs.Common.{arith, length-append}
use Rattle.std.proofs.lemmas.List.{length-replicate, take_at}
use Rattle.std.proofs.Math.Seq.{drop-append-add}
use Rattle.std.specs.List.{slice_range}
use Rattle.qic_base.specs.CartridgeTerms.{IsView}
use Rattle.qic_base.specs.Cartridge.{zero_sector}
use Rattle.qic_base.specs.declared.tape.SectorView.{SectorView}
use Rattle.qic_base.specs.declared.tape.SectorView.TheVariants.{Blank, Defect, Lost, Holds}
use Rattle.flat_dump.specs.Dump.{sector_bytes, views_bytes}
use Rattle.flat_dump.specs.Laws.{DumpIsWhole}

pub length-zero_sector : length zero_sector ≡ 1024
unfolding zero_sector
length-zero_sector = length-replicate {A = ℕ} 1024 0

length-sector_bytes : (view : SectorView) → IsView view → length (sector_bytes view) ≡ 1024
length-sector_bytes Blank is = length-zero_sector
length-sector_bytes Defect is = length-zero_sector
length-sector_bytes Lost is = length-zero_sector
length-sector_bytes (Holds bytes) is = is.size

first_view : (view : SectorView) (views : List SectorView) → All IsView (view ∷ views) → IsView view
first_view view views all = all zero Blank (omega arith)

other_views : (view : SectorView) (views : List SectorView) → All IsView (view ∷ views) → All IsView views
other_views view views all k d within = all (suc k) d (omega arith)

length-views_bytes : (views : List SectorView) → All IsView views → length (views_bytes views) ≡ 1024 * length views
length-views_bytes [] all = refl
length-views_bytes (view ∷ views) all =
    let one = length-sector_bytes view (first_view view views all) in
    let rest = length-views_bytes views (other_views view views all) in
    length-append (sector_bytes view) (views_bytes views) ∙ (omega arith)

-- the bytes of a sector
taken : (views : List SectorView) (q : ℕ) → All IsView views → q < length views →
    take 1024 (drop (1024 * q) (views_bytes views)) ≡ sector_bytes (get_or views q Blank)
taken [] q all within = absurd (omega arith)
taken (view ∷ views) zero all within =
    let long = length-sector_bytes view (first_view view views all) in
    take_at (sector_bytes view) (views_bytes views) 1024 long
taken (view ∷ views) (suc q) all within =
    let long = length-sector_bytes view (first_view view views all) in
    let far : 1024 * suc q ≡ length (sector_bytes view) + 1024 * q = omega arith in
    ap (λ (n : ℕ). take 1024 (drop n (sector_bytes view ++ views_bytes views))) far
    ∙ ap (take 1024) (drop-append-add (sector_bytes view) (views_bytes views) (1024 * q))
    ∙ taken views q (other_views view views all) (omega arith)

pub range_of : (views : List SectorView) (q : ℕ) → All IsView views → q < length views →
    slice_range (views_bytes views) (1024 * q) (1024 * q + 1024) ≡ sector_bytes (get_or views q Blank)
range_of views q all within =
    ap (λ (n : ℕ). take n (drop (1024 * q) (views_bytes views))) (let e : 1024 * q + 1024 - 1024 * q ≡ 1024 = omega arith in e)
    ∙ taken views q all within

pub dump_is_whole : DumpIsWhole
dump_is_whole c is = let n = is.sectors in length-views_bytes c.views is.views ∙ (omega arith)
