-- Segments say something whatever their sectors hold, so restores and scrubs come to something.
use Rattle.std.proofs.Common.{◌⊎◌, ℕ, ◌<◌, inl, inr, List, [], ◌∷◌, All, arith, length, ◌≡◌, Some, slice_get, refl, suc, ap, subst}
use Rattle.std.proofs.lemmas.Bool.{cases_lt, cases_eq}
use Rattle.std.proofs.lemmas.List.Elements.{All-nil, All-cons, All-head, All-tail, All-get_or}
use Rattle.std.proofs.lemmas.Option.{slice_get_within, get_or_from_slice_get}
use Rattle.cartridge_laws.proofs.Blocks.{says_always}
use Rattle.cartridge_spec.specs.Code.{IsCodeBlock}
use Rattle.cartridge_spec.specs.Says.{Agrees, Saying, LostSectors, Mismatch, Says, unreadable_count}
use Rattle.cartridge_spec.specs.Settling.{changed_by}
use Rattle.command_laws.proofs.RestoreEndings.{by_saying}
use Rattle.command_laws.proofs.ScrubPlain.{shallow_is_scrub}
use Rattle.command_laws.specs.MountedListed.{RestoresAnyway, ScrubsAnyway}
use Rattle.command_laws.specs.ScrubPlain.{SayInTurn}
use Rattle.command_spec.specs.Restore.{Restored, piece_cells}
use Rattle.command_spec.specs.Scrub.{Looked, cells_at, steps_in, looked_at}
use Rattle.command_laws.specs.ScrubTerms.{scrub_acts}
use Rattle.qic_base.specs.Acts.{Act}
use Rattle.qic_base.specs.Cartridge.{IsSector, Cartridge}
use Rattle.qic_base.specs.CartridgeTerms.{IsView}
use Rattle.qic_base.specs.declared.tape.SectorView.{SectorView}
use Rattle.qic_base.specs.declared.tape.SectorView.TheVariants.{Holds, Blank, Defect, Lost}

-- ---- cells

decide_bytes : (xs : List ℕ) → All (λ b. b < 256) xs ⊎ (All (λ b. b < 256) xs → ⊥)
decide_bytes [] = inl (All-nil (λ (b : ℕ). b < 256))
decide_bytes (x ∷ xs) =
    elim (cases_lt x 256) [
      | inl small ↦ elim (decide_bytes xs) [
        | inl all ↦ inl (All-cons (λ (b : ℕ). b < 256) x xs small all)
        | inr other ↦ inr (λ all. other (All-tail (λ (b : ℕ). b < 256) x xs all))
      ]
      | inr large ↦ inr (λ all. let small : x < 256 = All-head (λ (b : ℕ). b < 256) x xs all in absurd (omega arith))
    ]

decide_sector : (bytes : List ℕ) → IsSector bytes ⊎ (IsSector bytes → ⊥)
decide_sector bytes =
    elim (cases_eq (length bytes) 1024) [
      | inl same ↦ elim (decide_bytes bytes) [
        | inl all ↦ inl (record { size = same; each = all })
        | inr other ↦ inr (λ is. other is.each)
      ]
      | inr other ↦ inr (λ is. other is.size)
    ]

-- a cell that can be read, and holds no sector
record HoldsNoSector (cells : List SectorView) : Type 0 where
  place : ℕ
  bytes : List ℕ
  held : slice_get cells place ≡ Some (Holds bytes)
  none : IsSector bytes → ⊥

one_view : (view : SectorView) → IsView view ⊎ ((bytes : List ℕ) × (view ≡ Holds bytes) × (IsSector bytes → ⊥))
one_view Blank = inl tt
one_view Defect = inl tt
one_view Lost = inl tt
one_view (Holds bytes) = elim (decide_sector bytes) [
  | inl is ↦ inl is
  | inr none ↦ inr (bytes, refl, none)
]

all_views : (cells : List SectorView) → All IsView cells ⊎ HoldsNoSector cells
all_views [] = inl (All-nil IsView)
all_views (cell ∷ cells) =
    elim (one_view cell) [
      | inl here ↦ elim (all_views cells) [
        | inl rest ↦ inl (All-cons IsView cell cells here rest)
        | inr other ↦ inr (record { place = suc other.place; bytes = other.bytes; held = other.held; none = other.none })
      ]
      | inr (bytes, is, none) ↦ inr (record { place = 0; bytes = bytes; held = ap Some is; none = none })
    ]

-- such a one is of no code block
no_block : (cells : List SectorView) (block : List (List ℕ)) → HoldsNoSector cells → IsCodeBlock block → Agrees cells block → ⊥
no_block cells block other is agrees =
    let at : slice_get block other.place ≡ Some other.bytes = agrees.each other.place other.bytes other.held in
    let within : other.place < length block = slice_get_within block other.place other.bytes at in
    other.none (subst IsSector (get_or_from_slice_get block other.place other.bytes [] at)
    (All-get_or IsSector block other.place [] within is.sectors))

pub says_anyway : (cells : List SectorView) → (saying : Saying) × Says cells saying
says_anyway cells =
    elim (all_views cells) [
      | inl views ↦ says_always cells views
      | inr other ↦ elim (cases_lt 3 (unreadable_count cells)) [
        | inl many ↦ (LostSectors (unreadable_count cells), (refl, many))
        | inr few ↦ (Mismatch, (few, λ block is agrees. no_block cells block other is agrees))
      ]
    ]

-- ---- a restore

pub restores_anyway : RestoresAnyway
restores_anyway c words [] = ([], Restored, (refl, refl))
restores_anyway c words (piece ∷ needed) =
    let said = says_anyway (piece_cells c words piece) in
    by_saying c words piece needed said.0 said.1 (restores_anyway c words needed)

-- ---- a scrub

some_turn : (ls : List Looked) (c : Cartridge) → (ss : List Saying) × SayInTurn c ls ss
some_turn [] c = ([], tt)
some_turn (l ∷ ls) c =
    let here = says_anyway (cells_at c l) in
    let rest = some_turn ls (changed_by (steps_in c l here.0) c) in
    (here.0 ∷ rest.0, (here.1, rest.1))

pub scrubs_anyway : ScrubsAnyway
scrubs_anyway c words entries =
    let all = some_turn (looked_at words entries) c in
    let acts : List Act = scrub_acts c (looked_at words entries) all.0 in
    (acts, (shallow_is_scrub c words entries acts).1 (record { sayings = all.0; said = all.1; are = refl }))
