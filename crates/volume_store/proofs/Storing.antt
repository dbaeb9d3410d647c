-- What a store is made of: where its volumes end, and what the mounting of its cartridge did.
use Rattle.std.proofs.Common.{◌≡◌, zero, ℕ, suc, ◌<◌, ◌≤◌, ◌++◌, Bool, true, false, List, [], ◌∷◌, length, map, take, Option}
use Rattle.std.proofs.Common.{Some, None, IfSome, IsSomeAnd, refl, sym, ap, ◌∙◌, subst, arith, slice_get}
use Rattle.std.specs.Prelude.{if◌then◌else◌}
use Rattle.std.specs.Option.{option_map, option_map_or}
use Rattle.cartridge_laws.proofs.MountSettles.{settling_settles}
use Rattle.qic_base.specs.Cartridge.{Cartridge, IsLength}
use Rattle.qic_base.specs.CartridgeTerms.{IsCartridge}
use Rattle.qic_base.specs.Step.{Step, write_sector, changed, effects}
use Rattle.qic_base.specs.Tape.{Meaning, Done}
use Rattle.qic_base.specs.TapeCalls.{Tells, IsToldRight}
use Rattle.qic_base.specs.declared.tape.TapeInfo.{TapeInfo}
use Rattle.cartridge_spec.specs.Header.{Header}
use Rattle.cartridge_spec.specs.Table.{Entry}
use Rattle.cartridge_laws.specs.Table.{IsSoundList, LieBehind}
use Rattle.cartridge_spec.specs.TableSegment.{TableIs}
use Rattle.cartridge_spec.specs.Mounting.{settled}
use Rattle.cartridge_laws.specs.TableCells.{HasList}
use Rattle.cartridge_spec.specs.Settling.{writes_of, changed_by, settling_steps, block_writes, settling_places}
use Rattle.cartridge_spec.specs.Shape.{sector_at, usable_places}
use Rattle.cartridge_spec.specs.Says.{whole_mask, with_parity}
use Rattle.cartridge_spec.specs.Code.{parity_sectors}
use Rattle.drive_spec.specs.Terms.{is_protected, is_referenced}
use Rattle.drive_states.specs.Sound.{HasLength}
use Rattle.drive_states.specs.Unit.{UnitView}
use Rattle.host_driver.specs.declared.host.Host.{Host}
use Rattle.host_driver.specs.Fits.{Fits, AgreesWithTape, segments_of, deck_of}
use Rattle.host_driver.specs.Place.{KeepsMode}
use Rattle.qic117_commands.specs.Views.{is_primary}
use Rattle.drive_spec.specs.declared.deck.Deck.{Deck}
use Rattle.qic_base.proofs.Steps.{Tells-read, tells_two}
use Rattle.header_segments.specs.Header.{header_of}
use Rattle.cartridge_front.specs.declared.learning.Learnt.{Learnt}
use Rattle.cartridge_front.specs.Finding.{ShowsVolumes}
use Rattle.cartridge_front.specs.Learning.{HasLearnt}
use Rattle.volume_store.specs.Mounting.{Settles}
use Rattle.cartridge_laws.proofs.TableOrders.{faultless_is_sound}
use Rattle.std.proofs.lemmas.Option.{same_Some}
use Rattle.table_solve.specs.declared.unread.Unread.{Unread}
use Rattle.cartridge_front.specs.Settling.{mending_steps, mending_places, collected_block}
use Rattle.cartridge_front.proofs.Copies.{IsLearnt, told_learnt}
use Rattle.cartridge_front.proofs.Settled.{mending_settles, writes_info}
use Rattle.command_laws.proofs.StoreSettled.{settled_list}

-- ---- where volumes end

-- the volumes that data without a fault show are in order
pub sound_volumes : (area : List (List ℕ)) (last : ℕ) (entries : List Entry) → ShowsVolumes area last entries → IsSoundList last entries
sound_volumes area last entries shows = faultless_is_sound area last entries shows.sound shows.shown

-- and each of them ends behind the first segments, and by the last one
pub ends_within : (entries : List Entry) (before last i : ℕ) (e : Entry) → LieBehind before last entries → slice_get entries i ≡ Some e →
    (before < e.end) × (e.end ≤ last)
ends_within [] before last i e order at = absurd (cc)
ends_within (x ∷ xs) before last zero e order at =
    let same : x ≡ e = same_Some x e at in
    let here : before < x.end = omega (arith, order.0, order.1) in
    subst (λ (y : Entry). (before < y.end) × (y.end ≤ last)) same (here, order.2)
ends_within (x ∷ xs) before last (suc i) e order at =
    let rest = ends_within xs x.end last i e order.3 at in
    (omega (arith, order.0, order.1, rest.0), rest.1)

-- ---- what the mounting did

-- the writes of the workspace settle a cartridge that was learnt
settles_learnt : (host : Host) (c : Cartridge) (words : List ℕ) (sectors : List (List ℕ)) (entries : List Entry) (learnt : Learnt)
    (protected : Bool) → length sectors ≡ 32 →
    protected ≡ is_protected (deck_of host) → IsLearnt host c → HasLearnt c words sectors entries learnt →
    Settles c (header_of learnt.header) words entries (mending_steps protected learnt.unread sectors)
settles_learnt host c words sectors entries learnt protected room mark known has = record {
  table = take 29 sectors;
  mounts = has.mounts;
  settles = mending_settles c protected learnt.unread sectors room has.known (known.protected ∙ sym mark);
}

-- writes to a cartridge that is there
effects_changed : (places : List ℕ) (sectors : List (List ℕ)) (c : Cartridge) → effects (writes_of 2 places sectors) (Some c) ≡ Some
    (changed_by (writes_of 2 places sectors) c)
effects_changed [] sectors c = refl
effects_changed (p ∷ places) [] c = refl
effects_changed (p ∷ places) (bytes ∷ sectors) c = effects_changed places sectors (changed (write_sector 2 p bytes) c)

settling_effects : (area : List (List ℕ)) (c : Cartridge) → effects (settling_steps area c) (Some c) ≡ Some
    (changed_by (settling_steps area c) c)
settling_effects area c = by_mark c.info.protected
  where
    by_mark : (b : Bool) →
        effects (if b then [] else block_writes (with_parity area) (settling_places c area)) (Some c)
        ≡ Some (changed_by (if b then [] else block_writes (with_parity area) (settling_places c area)) c)
    by_mark true = refl
    by_mark false = effects_changed (settling_places c area) (map (sector_at (with_parity area)) (settling_places c area)) c

settled_info : (area : List (List ℕ)) (c : Cartridge) → (settled area c).info ≡ c.info
settled_info area c = by_mark c.info.protected
  where
    by_mark : (b : Bool) → (if b then c else changed_by (writes_of 2 (usable_places whole_mask) (area ++ parity_sectors area)) c).info ≡
        c.info
    by_mark true = refl
    by_mark false = writes_info (usable_places whole_mask) (area ++ parity_sectors area) c 2

-- .. and to none
none_written : (places : List ℕ) (sectors : List (List ℕ)) → effects (writes_of 2 places sectors) None ≡ None
none_written [] sectors = refl
none_written (p ∷ places) [] = refl
none_written (p ∷ places) (bytes ∷ sectors) = none_written places sectors

pub none_mended : (protected : Bool) (unread : Unread) (sectors : List (List ℕ)) →
    effects (mending_steps protected unread sectors) None ≡ None
none_mended true unread sectors = refl
none_mended false unread sectors =
    none_written (mending_places unread sectors) (map (sector_at (collected_block sectors)) (mending_places unread sectors))

-- what a told cartridge is after it was settled
abbrev ListsWhereWritable : List Entry → Option Cartridge → Type 0
ListsWhereWritable entries held = IfSome held (λ c. c.info.protected ≡ false → HasList c entries)

settled_lists : (c : Cartridge) (header : Header) (words : List ℕ) (entries : List Entry) (steps : List Step) → IsCartridge c →
    Settles c header words entries steps →
    ListsWhereWritable entries (effects steps (Some c))
settled_lists c header words entries steps whole settles =
    let table : TableIs c settles.table = settles.mounts.reads in
    let after : effects steps (Some c) ≡ Some (settled settles.table c) =
    ap (λ (ss : List Step). effects ss (Some c)) settles.settles ∙ settling_effects settles.table c
    ∙ ap Some (settling_settles c settles.table table) in
    subst (ListsWhereWritable entries) (sym after)
    (λ mark. settled_list c settles.table entries whole table settles.mounts.shown
    (ap (λ (info : TapeInfo). info.protected) (sym (settled_info settles.table c)) ∙ mark))

-- the store's list is that of the settled cartridge
pub told_lists : {T : Type 0} (m : Meaning T) (old new : T) (header : Header) (words : List ℕ) (entries : List Entry) (steps : List Step) →
    IsToldRight (m.told old) (m.size old) → effects steps None ≡ None → Done m old new steps →
    Tells m old (λ c. Settles c header words entries steps) →
    Tells m new (λ c. c.info.protected ≡ false → HasList c entries)
told_lists m old new header words entries steps right none done settles =
    subst (λ (told : Option (Option Cartridge)). IfSome told (ListsWhereWritable entries)) (sym done.told)
    (by_told (m.told old) (m.size old) right settles)
  where
    by_told : (told : Option (Option Cartridge)) (size : Option ℕ) → IsToldRight told size →
        IfSome told (λ h. IfSome h (λ c. Settles c header words entries steps)) →
        IfSome (option_map (effects steps) told) (ListsWhereWritable entries)
    by_told None size known fact = tt
    by_told (Some None) size known fact = subst (ListsWhereWritable entries) (sym none) tt
    by_told (Some (Some c)) size known fact = settled_lists c header words entries steps known.0 fact

-- where the tape tells, the settling's writes are those of the cartridge that was mounted
pub told_settles : {T : Type 0} (m : Meaning T) (host : Host) (old : T) (u : UnitView T) (words : List ℕ) (sectors : List (List ℕ))
    (entries : List Entry) (learnt : Learnt) →
    Fits m host u → AgreesWithTape m u → Done m old u.tape [] → length sectors ≡ 32 →
    Tells m old (λ c. HasLearnt c words sectors entries learnt) →
    Tells m old (λ c. Settles c (header_of learnt.header) words entries (mending_steps (is_protected u.drive.deck) learnt.unread sectors))
told_settles m host old u words sectors entries learnt fits agrees read room has =
    tells_two m old (IsLearnt host) (λ c. HasLearnt c words sectors entries learnt)
    (λ c. Settles c (header_of learnt.header) words entries (mending_steps (is_protected u.drive.deck) learnt.unread sectors))
    (λ c known mounted. settles_learnt host c words sectors entries learnt (is_protected u.drive.deck) room
    (ap is_protected fits.deck) known mounted)
    (Tells-read (IsLearnt host) read (told_learnt m host u fits agrees)) has

-- what gives a fact of a cartridge that the drive knows gives it of what the tape tells
pub told_there : (cartridge : Option TapeInfo) (told : Option (Option Cartridge)) (S : TapeInfo → Type 0) (P : Cartridge → Type 0)
    (R : Option Cartridge → Type 0) → IsSomeAnd cartridge S →
    IfSome cartridge (λ info. IfSome told (λ held. IsSomeAnd held (λ c. c.info ≡ info))) → ((c : Cartridge) → P c → R (Some c)) →
    IfSome told (λ held. IfSome held P) → IfSome told R
told_there None told S P R there agrees gives fact = absurd there
told_there (Some info) None S P R there agrees gives fact = tt
told_there (Some info) (Some None) S P R there agrees gives fact = absurd agrees
told_there (Some info) (Some (Some c)) S P R there agrees gives fact = gives c fact

-- a host that fits a unit has learnt a length that there can be
pub length_learnt : {T : Type 0} (m : Meaning T) (host : Host) (u : UnitView T) → Fits m host u → IsLength (segments_of host)
length_learnt m host u fits = by_cartridge u.drive.deck.cartridge fits.sound.drive.deck.long fits.cartridge
  where
    by_cartridge : (cartridge : Option TapeInfo) → HasLength cartridge →
        IsSomeAnd cartridge (λ info. info.segments_per_track ≡ segments_of host) → IsLength (segments_of host)
    by_cartridge None long there = absurd there
    by_cartridge (Some info) long there = subst (λ (n : ℕ). IsLength n) there long

-- hosts that fit units with one cartridge have learnt one length
pub one_length : {T : Type 0} (m : Meaning T) (one other : Host) (u v : UnitView T) → Fits m one u → Fits m other v →
    v.drive.deck.cartridge ≡ u.drive.deck.cartridge → segments_of one ≡ segments_of other
one_length m one other u v fits next same =
    by_cartridge u.drive.deck.cartridge fits.cartridge
    (subst (λ (cartridge : Option TapeInfo). IsSomeAnd cartridge (λ info. info.segments_per_track ≡ segments_of other)) same
    next.cartridge)
  where
    by_cartridge : (cartridge : Option TapeInfo) → IsSomeAnd cartridge (λ info. info.segments_per_track ≡ segments_of one) →
        IsSomeAnd cartridge (λ info. info.segments_per_track ≡ segments_of other) →
        segments_of one ≡ segments_of other
    by_cartridge None first second = absurd first
    by_cartridge (Some info) first second = sym first ∙ second

pub still_primary : (a b : Deck) → KeepsMode a b → is_primary a.mode ≡ true → is_primary b.mode ≡ true
still_primary a b keeps was = ap is_primary keeps.mode ∙ was

pub still_referenced : (a b : Deck) → KeepsMode a b → is_referenced a ≡ true → is_referenced b ≡ true
still_referenced a b keeps was =
    ap (λ (cartridge : Option TapeInfo). option_map_or (λ (info : TapeInfo). info.referenced) cartridge false) keeps.cartridge ∙ was
