-- The target of a stopped copy can be read, and a copy that is run again over what the first one left goes on to the same.
use Rattle.std.proofs.Common.{◌≡◌, [], length, take, Option, Some, None, IsSomeAnd, inl, inr, refl, sym, subst}
use Rattle.cartridge_laws.proofs.FormatWriting.{some_and}
use Rattle.cartridge_laws.proofs.MountKeeping.{stopped_stands}
use Rattle.cartridge_spec.specs.Appending.{with_all}
use Rattle.cartridge_spec.specs.Mounting.{Mounted, Mounts}
use Rattle.cartridge_spec.specs.Settling.{settling_steps}
use Rattle.cartridge_spec.specs.TableSegment.{CanBeRead, IsTableLive}
use Rattle.cartridge_spec.specs.Volumes.{Plain, Stands}
use Rattle.command_laws.proofs.CopyGoing.{copy_goes_on}
use Rattle.command_laws.proofs.CopyIntact.{stopped_copy_comes_back}
use Rattle.command_laws.proofs.CopySteps.{copied_table_lives}
use Rattle.command_laws.proofs.CopyStood.{stopped_copy_stands, up_to_none}
use Rattle.command_laws.proofs.ReadableRuns.{left_can_be_read}
use Rattle.command_laws.specs.CopyIntact.{CopyRunAgain, StoppedCopyCanBeRead}
use Rattle.command_spec.specs.Command.{ReadsAs}
use Rattle.command_spec.specs.Copied.{StandAlike, StandsUpTo, copied}
use Rattle.command_spec.specs.CopyOneLoss.{SettlesOrComesBack}
use Rattle.command_spec.specs.CopyPromises.{FromLeaves, ToLeaves}
use Rattle.command_spec.specs.Headline.{ToldNow}
use Rattle.qic_base.specs.Cartridge.{Cartridge}
use Rattle.qic_base.specs.CartridgeTerms.{IsCartridge}
use Rattle.qic_base.specs.Step.{Torn}
use Rattle.qic_base.specs.Sink as sinks
use Rattle.qic_base.specs.Tape as tapes

-- ---- the table

read_back : (from : Option Cartridge) (d : Cartridge) (other : Plain) (left : Option Cartridge) → ReadsAs d other →
    IsSomeAnd left IsTableLive → SettlesOrComesBack from d other [] left → IsSomeAnd left CanBeRead
read_back from d other left reads live (inl (quiet, settling)) = left_can_be_read d (λ n. other) 0 0 left reads live (inl (refl, settling))
read_back None d other left reads live (inr given) = absurd given
read_back (Some c) d other left reads live (inr (side, mounts, like, back)) =
    left_can_be_read d (λ n. with_all other (take n back.contents)) 0 (length back.contents) left reads live (inr back.back)

pub stopped_copy_can_be_read : StoppedCopyCanBeRead
stopped_copy_can_be_read from d other left from_whole whole reads live (inl same) = some_and CanBeRead d left reads.reads same
stopped_copy_can_be_read from d other left from_whole whole reads live (inr (outcome, plain, torn)) =
    read_back from d other left reads (copied_table_lives from d outcome left live plain torn)
    (stopped_copy_comes_back from d other outcome left from_whole whole reads.stands live plain torn)

-- ---- run again

source_stands : (c : Cartridge) (one : Plain) (left : Option Cartridge) → Stands c one → FromLeaves (Some c) left →
    IsSomeAnd left (λ e. Stands e one)
source_stands c one left stood (inl same) = some_and (λ e. Stands e one) c left stood same
source_stands c one left stood (inr torn) =
    let is : c ≡ torn.cartridge = (let same = torn.is in cc) in
    stopped_stands c one torn.table left stood
    (subst (λ (e : Cartridge). Mounts e (Mounted torn.header torn.words torn.table torn.entries)) (sym is) torn.mounts).reads
    (subst (λ (e : Cartridge). Torn (settling_steps torn.table e) (Some c) left) (sym is) torn.torn)

pub target_stands : (c : Cartridge) (one : Plain) (d : Cartridge) (other : Plain) (left : Option Cartridge) → IsCartridge d →
    StandAlike c one d other → ToLeaves (Some c) (Some d) left → StandsUpTo one other left
target_stands c one d other left whole alike (inl same) =
    (up_to_none c one alike.source other alike.like left (some_and (λ e. Stands e other) d left alike.target same)).0
target_stands c one d other left whole alike (inr (outcome, plain, torn)) =
    stopped_copy_stands c one d other outcome left whole alike plain torn

pub copy_run_again : {A B K : Type 0} (a : tapes.Meaning A) (b : tapes.Meaning B) (k : sinks.Meaning K) → CopyRunAgain a b k
copy_run_again a b k c one d other from_left to_left whole_c whole_d alike from_leaves to_leaves words old new answer promises from_told
    to_told done =
    go_on from_left to_left (source_stands c one from_left alike.source from_leaves)
    (target_stands c one d other to_left whole_d alike to_leaves) from_told to_told
  where
    Leaves : Plain → Type 0
    Leaves plain = ToldNow b new.to (λ left. IsSomeAnd left (λ e. Stands e plain))

    go_on : (source target : Option Cartridge) → IsSomeAnd source (λ e. Stands e one) → StandsUpTo one other target →
        a.told old.from ≡ Some source → b.told old.to ≡ Some target → Leaves (copied one other (length one.volumes))
    go_on None target stands up told to_so = absurd stands
    go_on (Some e) None stands up told to_so = absurd (up.stands)
    go_on (Some e) (Some f) stands up told to_so =
        subst Leaves (copy_goes_on one other up.upto (length one.volumes) up.least up.most up.most)
        (promises.done e one f (copied one other up.upto) told to_so stands up.stands up.like done)
