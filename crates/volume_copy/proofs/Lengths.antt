-- The length of a volume fits the 32 bits in which an append is promised it.
use Rattle.std.proofs.Common.{◌≡◌, ℕ, zero, suc, ◌+◌, ◌-◌, ◌*◌, ◌^◌, ◌<◌, ◌≤◌, Bool, true, false, List, [], ◌∷◌, Some}
use Rattle.std.proofs.Common.{slice_get, refl, subst, arith}
use Rattle.std.proofs.lemmas.Bool.{leb-true}
use Rattle.std.proofs.lemmas.Option.{same_Some}
use Rattle.std.specs.Prelude.{◌&&◌, ◌==◌, if◌then◌else◌, nat_le}
use Rattle.cartridge_laws.proofs.AppendSegments.{room_most}
use Rattle.cartridge_laws.specs.Table.{LieBehind}
use Rattle.cartridge_spec.specs.Table.{Entry}
use Rattle.cartridge_spec.specs.Volumes.{capacity_between, volume_length}
use Rattle.command_laws.proofs.RestoreBehind.{ends_by}
use Rattle.drive_states.specs.Unit.{UnitView}
use Rattle.host_driver.specs.Fits.{segments_of}
use Rattle.qic_base.specs.Tape.{Meaning}
use Rattle.qic_base.specs.declared.TheConstants.{LONGEST}
use Rattle.volume_store.proofs.Storing.{length_learnt}
use Rattle.volume_store.specs.Mounting.{StoreFits, StoreView}

by_fit : (b c : Bool) (size all : ℕ) → (c ≡ true → size ≤ all) → (if b && c then size else all) ≤ all
by_fit true true size all fits = fits refl
by_fit true false size all fits = omega arith
by_fit false c size all fits = omega arith

length_most : (words : List ℕ) (e : Entry) → volume_length words e ≤ capacity_between words e.start e.end
length_most words e =
    let all : ℕ = capacity_between words e.start e.end in by_fit (e.directory == 0) (nat_le e.size all) e.size all
    (λ fits. leb-true e.size all fits)

-- segments from one on, behind another
capacity_most : (words : List ℕ) (e : Entry) → 1 ≤ e.start → capacity_between words e.start e.end ≤ 29696 * (e.end + 1)
capacity_most words e some =
    let behind : Entry = record e { end = e.start - 1 } in
    let start : e.start - 1 + 1 ≡ e.start = omega arith in
    subst (λ (n : ℕ). capacity_between words n e.end ≤ 29696 * (e.end + 1)) start (room_most words (behind ∷ []) e.end)

start_some : (entries : List Entry) (before last i : ℕ) (e : Entry) → LieBehind before last entries → slice_get entries i ≡ Some e →
    1 ≤ e.start
start_some [] before last i e order at = absurd (cc)
start_some (x ∷ xs) before last zero e order at =
    let same : x ≡ e = same_Some x e at in
    let here : 1 ≤ x.start = omega (arith, order.0) in subst (λ (y : Entry). 1 ≤ y.start) same here
start_some (x ∷ xs) before last (suc i) e order at = start_some xs x.end last i e order.3 at

-- on a cartridge of so many segments
length_fits : (words : List ℕ) (e : Entry) (last : ℕ) → 1 ≤ e.start → e.end ≤ last → last ≤ 28 * LONGEST → volume_length words e < 2 ^ 32
length_fits words e last some within most =
    let long : volume_length words e ≤ capacity_between words e.start e.end = length_most words e in
    let bound : capacity_between words e.start e.end ≤ 29696 * (e.end + 1) = capacity_most words e some in
    omega (arith, long, bound, within, most)

-- a volume of a store that fits a unit
pub length_of_fits : {T : Type 0} (m : Meaning T) (store : StoreView) (u : UnitView T) (i : ℕ) (e : Entry) → StoreFits m store u →
    slice_get store.entries i ≡ Some e → volume_length store.words e < 2 ^ 32
length_of_fits m store u i e fits at =
    let n : ℕ = segments_of store.host in
    let few : n ≤ LONGEST = (length_learnt m store.host u fits.host).longest in
    length_fits store.words e (28 * n - 1) (start_some store.entries 2 (28 * n - 1) i e fits.list at)
    (ends_by store.entries 2 (28 * n - 1) i e fits.list at) (omega (arith, few))
