-- A file whose first byte is zero is no image, and a step that keeps that byte leaves such a file, in a crash, too.
use Rattle.std.proofs.Common.{ℕ, inl, inr, List, ◌∙◌, ap}
use Rattle.std.specs.Prelude.{◌==◌, slice_get}
use Rattle.std.proofs.lemmas.Option.{slice_get_within, get_or_from_slice_get}
use Rattle.qic_base.specs.Disk.{DiskStep, Look, WriteAt, SetLen, Sync, Unsynced}
use Rattle.cart_image.specs.Layout.{first_letter}
use Rattle.cart_image.proofs.Renews.{none-by-first}
use Rattle.flat_dump.specs.Stops.{IsUnsigned, KeepsFirst}
use Rattle.flat_dump.specs.ImageLaws.{UnsignedIsNone}

pub unsigned_none : UnsignedIsNone
unsigned_none bytes zero_first = none-by-first bytes (ap (λ (b : ℕ). b == first_letter) (get_or_from_slice_get bytes 0 0 0 zero_first))

pub kept_first : (step : DiskStep) (before left : List ℕ) → KeepsFirst step → IsUnsigned before → Unsynced step before left →
    IsUnsigned left
kept_first Look before left keeps first same = ap (λ (b : List ℕ). slice_get b 0) same ∙ first
kept_first (WriteAt place part) before left keeps first torn = torn.below 0 keeps ∙ first
kept_first (SetLen n) before left keeps first (inl same) = ap (λ (b : List ℕ). slice_get b 0) same ∙ first
kept_first (SetLen n) before left keeps first (inr torn) = torn.kept 0 keeps (slice_get_within before 0 0 first) ∙ first
kept_first Sync before left keeps first same = ap (λ (b : List ℕ). slice_get b 0) same ∙ first
