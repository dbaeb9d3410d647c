-- What comes between an append and the loss of one sector more of the table's segment, and doesn't mount the cartridge without its
-- protect mark: what would come back, comes back, as facts (this project's own).
use Rattle.std.specs.Prelude.{◌≡◌, ◌⊎◌, ◌<◌, ◌≤◌, ℕ, true, false}
use Rattle.cartridge_spec.specs.TableSegment.{IsTableLive, LosesOneAlone}
use Rattle.cartridge_spec.specs.Mounting.{Mounts, mounted_as}
use Rattle.cartridge_spec.specs.Volumes.{Plain}
use Rattle.command_spec.specs.OneLoss.{ComesBackAsOneOf}
use Rattle.qic_base.specs.Cartridge.{Cartridge}
use Rattle.qic_base.specs.Step.{SetProtected, SetReferenced, Spoil, Step, Upgrade, Wear, changed}

abbrev pub without_mark : Cartridge → Cartridge
without_mark c = changed (SetProtected false) c

-- once its protect mark is cleared, it comes back as one of these two; and each sector of its table's segment takes a write
pub record MayComeBack (one other : Plain) (c : Cartridge) : Type 0 where
  pub comes : ComesBackAsOneOf one other (without_mark c)
  pub live : IsTableLive c

-- The mark and the version change, the reference bursts are there already, a sector is worn behind the table's segment,
-- or one is made a defect: only one that was never formatted becomes one, so none of the table's segment does.
abbrev pub IsBetween : Cartridge → Step → Type 0
IsBetween c (SetProtected on) = Unit {0}
IsBetween c Upgrade = Unit {0}
IsBetween c SetReferenced = c.info.referenced ≡ true
IsBetween c (Wear segment sector) = (3 ≤ segment) × (sector < 32)
IsBetween c (Spoil segment sector) = sector < 32
IsBetween c step = ⊥

-- such a step carries it on
abbrev pub StepsBetweenCarryOn : Type 0
StepsBetweenCarryOn =
    (step : Step) (c : Cartridge) (one other : Plain) → IsBetween c step → MayComeBack one other c → MayComeBack one other (changed step c)

-- a cartridge that is not protected may come back just where it comes back, ..
abbrev pub ComesBackOnceFree : Type 0
ComesBackOnceFree =
    (c : Cartridge) (one other : Plain) → c.info.protected ≡ false → MayComeBack one other c → ComesBackAsOneOf one other c

abbrev pub FreeMayComeBack : Type 0
FreeMayComeBack =
    (c : Cartridge) (one other : Plain) → c.info.protected ≡ false → IsTableLive c → ComesBackAsOneOf one other c → MayComeBack one other c

-- .. and one that may come back is mounted as one of the two, protected or not
abbrev pub MountsWhileProtected : Type 0
MountsWhileProtected =
    (c f : Cartridge) (one other : Plain) (lost : ℕ) → MayComeBack one other c → LosesOneAlone c f lost →
    Mounts f (mounted_as one) ⊎ Mounts f (mounted_as other)
