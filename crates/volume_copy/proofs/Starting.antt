-- A source of which nothing was read, and one of which some bytes were given.
use Rattle.std.proofs.Common.{◌≡◌, ℕ, zero, suc, ◌<◌, ◌≤◌, List, [], ◌∷◌, length, Option, Some, None, slice_get, refl, sym, subst, arith}
use Rattle.std.specs.Prelude.{IfSome, IsSomeAnd}
use Rattle.cartridge_spec.specs.Table.{Entry}
use Rattle.command_spec.specs.Copying.{GivenBytes}
use Rattle.command_spec.specs.Restore.{volume_at}
use Rattle.drive_states.specs.Unit.{UnitView}
use Rattle.qic_base.specs.Cartridge.{Cartridge}
use Rattle.qic_base.specs.Tape.{Meaning}
use Rattle.qic_base.specs.TapeCalls.{Tells}
use Rattle.segment_io.proofs.Going.{tells_always}
use Rattle.volume_store.specs.Mounting.{StoreView, StoreFits}
use Rattle.volume_copy.proofs.Bytes.{given_is}
use Rattle.volume_copy.specs.Source.{SourceView, IsHeld, IsSoundSource, KeepsVolume, FirstRead, IsRefusal, left_where, new_source}
use Rattle.volume_copy.specs.Source.{pieces_of_number}

there_at : {A : Type 0} (xs : List A) (i : ℕ) → i < length xs → (x : A) × (slice_get xs i ≡ Some x)
there_at [] i below = absurd (omega arith)
there_at (x ∷ xs) zero below = (x, refl)
there_at (x ∷ xs) (suc i) below = there_at xs i (omega arith)

volume_there : (entries : List Entry) (number : ℕ) → 0 < number → number ≤ length entries → (e : Entry) ×
    (volume_at entries number ≡ Some e)
volume_there entries zero some within = absurd (omega arith)
volume_there entries (suc n) some within = there_at entries n (omega arith)

pub new_held : (part : List (List ℕ)) → IsHeld part 0 0
new_held part = record {
  within = omega arith;
  there = λ more. absurd (omega arith);
  bytes = λ more. absurd (omega arith);
}

module _ {T : Type 0} (m : Meaning T) (store : StoreView) (unit : UnitView T) (number : ℕ) where
  pub new_sound : StoreFits m store unit → 0 < number → number ≤ length store.entries → IsSoundSource m (new_source store unit number)
  new_sound fits some within =
      let volume = volume_there store.entries number some within in
      record {
        fits = fits;
        entry = volume.0;
        numbered = volume.1;
        reads = tells_always m unit.tape (λ c. FirstRead c store.words (pieces_of_number store number) 0)
            (λ c i piece below at. absurd (omega arith));
        kind = tt;
        refused = tells_always m unit.tape (λ c. IsRefusal c store.words (pieces_of_number store number) None) (λ c. tt);
        counted = λ none. refl;
        counting = λ none. refl;
      }

  pub new_given : Tells m unit.tape (λ c. IsSomeAnd (left_where (new_source store unit number) (m.told unit.tape))
      (GivenBytes c store.words (pieces_of_number store number)))
  new_given = by_told (m.told unit.tape) refl
    where
      by_told : (o : Option (Option Cartridge)) → m.told unit.tape ≡ o → IfSome o (λ h. IfSome h (λ c.
          IsSomeAnd (left_where (new_source store unit number) (m.told unit.tape))
          (GivenBytes c store.words (pieces_of_number store number))))
      by_told None is = tt
      by_told (Some None) is = tt
      by_told (Some (Some c)) is =
          subst (λ (o : Option (Option Cartridge)). IsSomeAnd (left_where (new_source store unit number) o)
          (GivenBytes c store.words (pieces_of_number store number)))
          (sym is) (given_is c store.words (pieces_of_number store number))

-- ---- bytes were given

module _ {T : Type 0} (m : Meaning T) (s t : SourceView T) (unread : List ℕ) where
  pub given_kept : KeepsVolume m s t → KeepsVolume m s (record t { unread = unread })
  given_kept kept = record {
    number = kept.number;
    store = kept.store;
    sound = λ sound. let is = kept.sound sound in record {
      fits = is.fits;
      entry = is.entry;
      numbered = is.numbered;
      reads = is.reads;
      refused = is.refused;
      kind = is.kind;
      counted = is.counted;
      counting = is.counting;
    };
    told = kept.told;
    stops = kept.stops;
    later = kept.later;
    stays = kept.stays;
    by_tape = kept.by_tape;
    stood = kept.stood;
    quiet = kept.quiet;
  }
