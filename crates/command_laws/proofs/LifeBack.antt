-- A cartridge that comes back, and what is known of it once it is settled; what leaves a loss open.
use Rattle.std.proofs.Common.{◌≡◌, ◌∙◌, ◌⊎◌, ◌<◌, ◌≤◌, ℕ, Bool, false, List, [], ◌∷◌, Option, Some, IsSomeAnd, inl, inr, ap, sym}
use Rattle.std.proofs.Common.{subst, refl, arith}
use Rattle.cartridge_laws.proofs.ChangeClean.{clean_less}
use Rattle.cartridge_laws.proofs.ChangeLive.{steps_keep_live}
use Rattle.cartridge_laws.proofs.ChangeStanding.{marks_read_no_more, protected_stands, spoiled_stands, worn_stands}
use Rattle.cartridge_laws.proofs.ChangeViews.{ReadsNoMore, spoiled_alike, worn_reads_no_more}
use Rattle.cartridge_laws.proofs.FormatStanding.{same_cells}
use Rattle.cartridge_laws.proofs.FormatWriting.{some_and, some_weaker}
use Rattle.cartridge_laws.proofs.MountKeeping.{clean_copy}
use Rattle.cartridge_laws.proofs.MountSettled.{settled_keeps_table}
use Rattle.cartridge_laws.proofs.MountSettling.{stopped_settling}
use Rattle.cartridge_laws.proofs.MountStanding.{can_be_read, standing_mounts}
use Rattle.cartridge_laws.proofs.MountStops.{some_both}
use Rattle.cartridge_laws.proofs.MountWhole.{settled_is_cartridge, stopped_is_cartridge}
use Rattle.cartridge_laws.proofs.OneLossComesBack.{table_alone_comes_back}
use Rattle.cartridge_laws.specs.MountBlocks.{KeepsTable}
use Rattle.cartridge_spec.specs.Formatting.{HasCleanCopies}
use Rattle.cartridge_spec.specs.HeaderCopies.{copy_cells}
use Rattle.cartridge_spec.specs.Mounting.{ComesBackAs, Mounts, mounted_as, settled}
use Rattle.cartridge_spec.specs.Says.{AsRead, ByCode, Data, TableSays, whole_mask}
use Rattle.cartridge_spec.specs.Settling.{settling_steps}
use Rattle.cartridge_spec.specs.Shape.{IsLive}
use Rattle.cartridge_spec.specs.TableSegment.{CanBeRead, ChangesTableAlone, IsTableLive, TableIs}
use Rattle.cartridge_spec.specs.Volumes.{Plain, Stands, worn}
use Rattle.command_laws.proofs.BetweenCarrying.{LeavesTable, marked, settled_long, spoiled_leaves, touched, touched_alike, worn_leaves}
use Rattle.command_laws.proofs.CommandSteps.{none_in_settling}
use Rattle.command_laws.proofs.MountedHeld.{settled_live}
use Rattle.command_laws.proofs.WholeSteps.{protected_whole, referenced_whole, spoiled_whole, upgraded_whole, worn_whole}
use Rattle.command_laws.specs.Between.{IsBetween, without_mark}
use Rattle.command_laws.specs.Life.{IsSoundWith}
use Rattle.command_laws.specs.LifeOneLoss.{AreBetween, IsBackWith}
use Rattle.qic_base.specs.Cartridge.{Cartridge}
use Rattle.qic_base.specs.CartridgeTerms.{IsCartridge}
use Rattle.qic_base.specs.Step.{FormatSegment, Renew, SetProtected, SetReferenced, Spoil, Step, Torn, Upgrade, Wear, WriteSectors, changed}
use Rattle.qic_base.specs.Step.{Halfway, spoiled_view, worn_view}
use Rattle.qic_base.specs.declared.tape.SectorView.{SectorView}
use Rattle.qic_base.specs.declared.tape.TapeInfo.{TapeInfo}

-- ---- the table's segment alone

-- what comes back comes back with another table's segment that says the same
alone_back : (c d : Cartridge) (plain : Plain) → c.info.protected ≡ false → ComesBackAs c plain → ChangesTableAlone c d →
    TableIs d plain.table_area → ComesBackAs d plain
alone_back c d plain free comes alone table =
    let s : Cartridge = settled plain.table_area c in
    let keeps = settled_keeps_table c plain.table_area comes.mounts.reads in
    table_alone_comes_back s d plain (comes.stands free)
    (record { info = alone.info ∙ sym keeps.info; others = λ i j h apart. alone.others i j h apart ∙ sym (keeps.others i j h apart) })
    table

same_table : (c d : Cartridge) (area : List (List ℕ)) → LeavesTable c d → TableIs c area → TableIs d area
same_table c d area same table =
    subst (λ (cells : List SectorView). TableSays cells (AsRead area) ⊎ TableSays cells (ByCode (Data area)))
    (sym (same_cells c d 2 whole_mask same)) table

-- header copies lie elsewhere
kept_clean : (c d : Cartridge) (area header : List (List ℕ)) → KeepsTable area c d → HasCleanCopies c header → HasCleanCopies d header
kept_clean c d area header keeps clean = record {
  first = clean_copy (copy_cells c 0) (copy_cells d 0) header
      (same_cells c d 0 whole_mask (λ i h. keeps.others 0 i h (λ is. absurd (omega arith)))) clean.first;
  second = clean_copy (copy_cells c 1) (copy_cells d 1) header
      (same_cells c d 1 whole_mask (λ i h. keeps.others 1 i h (λ is. absurd (omega arith)))) clean.second;
}

-- ---- what comes back

pub unmarked : (c : Cartridge) → c.info.protected ≡ false → without_mark c ≡ c
unmarked c free = ap (λ (b : Bool). record c { info = record c.info { protected = b } }) (sym free)

pub back_mounts : (begun : Bool) (c : Cartridge) (plain : Plain) → IsBackWith begun c plain → Mounts c (mounted_as plain)
back_mounts begun c plain back = marked c plain back.comes.mounts

pub back_free : (begun : Bool) (c : Cartridge) (plain : Plain) → IsBackWith begun c plain → c.info.protected ≡ false → ComesBackAs c plain
back_free begun c plain back free = subst (λ (d : Cartridge). ComesBackAs d plain) (unmarked c free) back.comes

-- so does what stands, and can be read
pub sound_is_back : (begun : Bool) (c : Cartridge) (plain : Plain) → IsSoundWith begun c plain → CanBeRead c → IsBackWith begun c plain
sound_is_back begun c plain sound reads = record {
  whole = sound.whole;
  comes = table_alone_comes_back (without_mark c) (without_mark c) plain (protected_stands c plain false sound.stands)
      (record { info = refl; others = λ i j h apart. refl }) (standing_mounts c plain sound.stands reads).reads;
  live = sound.live;
  clean = sound.clean;
}

-- once it is settled it stands, and can be read
pub record IsSettledSound (begun : Bool) (s : Cartridge) (plain : Plain) : Type 0 where
  pub sound : IsSoundWith begun s plain
  pub reads : CanBeRead s
  pub table : TableIs s plain.table_area
  pub free : s.info.protected ≡ false

pub back_settles : (begun : Bool) (c : Cartridge) (plain : Plain) → IsBackWith begun c plain → c.info.protected ≡ false →
    IsSettledSound begun (settled plain.table_area c) plain
back_settles begun c plain back free =
    let area : List (List ℕ) = plain.table_area in
    let reads : TableIs c area = (back_mounts begun c plain back).reads in
    let keeps = settled_keeps_table c area reads in
    record {
      sound = record {
        whole = settled_is_cartridge c area back.whole reads;
        stands = (back_free begun c plain back free).stands free;
        live = settled_live c area reads back.live;
        clean = λ is. kept_clean c (settled area c) area plain.header_area keeps (back.clean is);
      };
      reads = can_be_read (settled area c) area keeps.table;
      table = keeps.table;
      free = ap (λ (i : TapeInfo). i.protected) keeps.info ∙ free;
    }

-- a stop among the steps that settle it leaves what comes back
pub settling_back : (begun : Bool) (c : Cartridge) (plain : Plain) (left : Option Cartridge) → IsBackWith begun c plain →
    c.info.protected ≡ false → Torn (settling_steps plain.table_area c) (Some c) left → IsSomeAnd left (λ d. IsBackWith begun d plain)
settling_back begun c plain left back free torn =
    let area : List (List ℕ) = plain.table_area in
    let comes : ComesBackAs c plain = back_free begun c plain back free in
    some_weaker left
    (λ d known.
    let keeps : KeepsTable area c d = known.0 in
    let still : d.info.protected ≡ false = ap (λ (i : TapeInfo). i.protected) keeps.info ∙ free in
    record {
      whole = known.1.0;
      comes = subst (λ (e : Cartridge). ComesBackAs e plain) (sym (unmarked d still))
          (alone_back c d plain free comes (record { info = keeps.info; others = keeps.others }) keeps.table);
      live = known.1.1;
      clean = λ is. kept_clean c d area plain.header_area keeps (back.clean is);
    })
    (some_both (KeepsTable area c) (λ d. IsCartridge d × IsTableLive d) left (stopped_settling c area left comes.mounts.reads torn)
    (some_both IsCartridge IsTableLive left (stopped_is_cartridge c area left back.whole comes.mounts.reads torn)
    (steps_keep_live (settling_steps area c) c left (none_in_settling area c) back.live torn)))

-- ---- what comes between

-- a sector outside the table's segment that is changed, where what stands still does
module _ (change : SectorView → SectorView) (c : Cartridge) (segment sector : ℕ) (plain : Plain) (small : sector < 32)
    (free : c.info.protected ≡ false) (comes : ComesBackAs c plain) (stays : LeavesTable c (touched change segment sector c))
    (stands : (d : Cartridge) → Stands d plain → Stands (touched change segment sector d) plain) where
  touched_back : ComesBackAs (touched change segment sector c) plain
  touched_back =
      let still : Cartridge = settled plain.table_area c in
      let keeps = settled_keeps_table c plain.table_area comes.mounts.reads in
      table_alone_comes_back (touched change segment sector still) (touched change segment sector c) plain
      (stands still (comes.stands free))
      (record {
        info = sym keeps.info;
        others = λ s i h apart. touched_alike change c still segment sector s i small h (sym (settled_long plain.table_area c))
            (sym (keeps.others s i h apart));
      })
      (same_table c (touched change segment sector c) plain.table_area stays comes.mounts.reads)

pub less_clean : (c d : Cartridge) (header : List (List ℕ)) → ReadsNoMore c d → HasCleanCopies c header → HasCleanCopies d header
less_clean c d header less clean =
    record { first = clean_less c d 0 header less clean.first; second = clean_less c d 1 header less clean.second }

-- one that is worn behind it
pub worn_back : (begun : Bool) (c : Cartridge) (plain : Plain) (segment sector : ℕ) → 3 ≤ segment → sector < 32 →
    IsBackWith begun c plain → IsBackWith begun (worn segment sector c) plain
worn_back begun c plain segment sector behind small back =
    let d : Cartridge = without_mark c in
    record {
      whole = worn_whole c segment sector back.whole;
      comes = touched_back worn_view d segment sector plain small refl back.comes (worn_leaves d segment sector behind small)
          (λ e stood. worn_stands e plain segment sector small stood (inl behind));
      live = λ i h. subst IsLive (sym (worn_leaves c segment sector behind small i h)) (back.live i h);
      clean = λ is. less_clean c (worn segment sector c) plain.header_area (worn_reads_no_more c segment sector) (back.clean is);
    }

spoiled_back : (begun : Bool) (c : Cartridge) (plain : Plain) (segment sector : ℕ) → sector < 32 → IsBackWith begun c plain →
    IsBackWith begun (changed (Spoil segment sector) c) plain
spoiled_back begun c plain segment sector small back =
    let d : Cartridge = without_mark c in
    record {
      whole = spoiled_whole c segment sector back.whole;
      comes = touched_back spoiled_view d segment sector plain small refl back.comes (spoiled_leaves d segment sector back.live)
          (λ e stood. spoiled_stands e plain segment sector stood);
      live = λ i h. subst IsLive (sym (spoiled_leaves c segment sector back.live i h)) (back.live i h);
      clean = λ is. less_clean c (changed (Spoil segment sector) c) plain.header_area (spoiled_alike c segment sector).no_more
          (back.clean is);
    }

step_back : (step : Step) (begun : Bool) (c : Cartridge) (plain : Plain) → IsBetween c step → IsBackWith begun c plain →
    IsBackWith begun (changed step c) plain
step_back (SetProtected on) begun c plain between back =
    record {
      whole = protected_whole c on back.whole;
      comes = back.comes;
      live = back.live;
      clean = λ is. less_clean c (changed (SetProtected on) c) plain.header_area
          (marks_read_no_more c (changed (SetProtected on) c) refl) (back.clean is);
    }
step_back Upgrade begun c plain between back = record {
  whole = upgraded_whole c back.whole;
  comes = alone_back (without_mark c) (without_mark (changed Upgrade c)) plain refl back.comes
      (record { info = refl; others = λ i j h apart. refl }) back.comes.mounts.reads;
  live = back.live;
  clean = λ is. less_clean c (changed Upgrade c) plain.header_area (marks_read_no_more c (changed Upgrade c) refl) (back.clean is);
}
step_back SetReferenced begun c plain between back = record {
  whole = referenced_whole c back.whole;
  comes = alone_back (without_mark c) (without_mark (changed SetReferenced c)) plain refl back.comes
      (record {
        info = ap (λ (b : Bool). record c.info { referenced = b; protected = false }) (sym between);
        others = λ i j h apart. refl;
      })
      back.comes.mounts.reads;
  live = back.live;
  clean = λ is. less_clean c (changed SetReferenced c) plain.header_area (marks_read_no_more c (changed SetReferenced c) refl)
      (back.clean is);
}
step_back (Wear segment sector) begun c plain (behind, small) back = worn_back begun c plain segment sector behind small back
step_back (Spoil segment sector) begun c plain small back = spoiled_back begun c plain segment sector small back
step_back (WriteSectors segment new) begun c plain between back = absurd between
step_back (FormatSegment segment) begun c plain between back = absurd between
step_back (Renew n) begun c plain between back = absurd between

-- none of them is stopped inside
not_half : (step : Step) (c : Cartridge) (left : Option Cartridge) → IsBetween c step → Halfway step (Some c) left → ⊥
not_half (SetProtected on) c left between half = half
not_half Upgrade c left between half = half
not_half SetReferenced c left between half = half
not_half (Wear segment sector) c left between half = half
not_half (Spoil segment sector) c left between half = half
not_half (WriteSectors segment new) c left between half = between
not_half (FormatSegment segment) c left between half = between
not_half (Renew n) c left between half = between

pub steps_back : (steps : List Step) (begun : Bool) (c : Cartridge) (plain : Plain) (left : Option Cartridge) → AreBetween c steps →
    IsBackWith begun c plain → Torn steps (Some c) left → IsSomeAnd left (λ d. IsBackWith begun d plain)
steps_back [] begun c plain left between back is = some_and (λ d. IsBackWith begun d plain) c left back is
steps_back (step ∷ steps) begun c plain left between back (inl is) = some_and (λ d. IsBackWith begun d plain) c left back is
steps_back (step ∷ steps) begun c plain left between back (inr (inl half)) = absurd (not_half step c left between.0 half)
steps_back (step ∷ steps) begun c plain left between back (inr (inr torn)) =
    steps_back steps begun (changed step c) plain left between.1 (step_back step begun c plain between.0 back) torn
