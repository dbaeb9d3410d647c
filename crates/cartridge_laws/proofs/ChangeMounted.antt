-- A cartridge of which one sector, or a mark, changed is mounted as before.
use Rattle.std.proofs.Common.{◌≡◌, ℕ, List, ◌⊎◌, refl, sym, subst, arith}
use Rattle.cartridge_laws.proofs.ChangeStanding.{other_cells, header_elsewhere, in_force, spoiled, spoiled_cells, same_views}
use Rattle.cartridge_laws.proofs.ChangeTable.{table_alike}
use Rattle.cartridge_laws.proofs.ChangeViews.{spoiled_alike}
use Rattle.cartridge_laws.specs.ChangeLaws.{WornMounts, SpoiledMounts, ProtectedMounts, ReferencedMounts}
use Rattle.cartridge_spec.specs.Header.{Header}
use Rattle.cartridge_spec.specs.HeaderCopies.{HasHeader}
use Rattle.cartridge_spec.specs.TableSegment.{TableIs}
use Rattle.cartridge_spec.specs.Mounting.{IsMounted}
use Rattle.cartridge_spec.specs.Says.{TableSays, AsRead, ByCode, Data}
use Rattle.cartridge_spec.specs.Table.{Entry}
use Rattle.cartridge_spec.specs.Volumes.{worn}
use Rattle.qic_base.specs.Cartridge.{Cartridge}
use Rattle.qic_base.specs.Step.{SetProtected, changed, SetReferenced}
use Rattle.qic_base.specs.declared.tape.SectorView.{SectorView}

-- a cartridge of the same length with the same header and the same table
still_mounted : (c d : Cartridge) (header : Header) (words : List ℕ) (table : List (List ℕ)) (entries : List Entry) →
    d.info.segments_per_track ≡ c.info.segments_per_track →
    ((area : List (List ℕ)) → HasHeader c area → HasHeader d area) → (TableIs c table → TableIs d table) →
    IsMounted c header words table entries → IsMounted d header words table entries
still_mounted c d header words table entries long has reads mounted = record {
  area = mounted.area;
  formatted = record {
    has_header = has mounted.area mounted.formatted.has_header;
    sound = rw long mounted.formatted.sound;
    shown = mounted.formatted.shown;
  };
  reads = reads mounted.reads;
  sound = rw long mounted.sound;
  shown = mounted.shown;
}

pub worn_mounts : WornMounts
worn_mounts c segment sector header words table entries small behind mounted =
    still_mounted c (worn segment sector c) header words table entries refl
    (λ area has. header_elsewhere c segment sector area small (omega arith) has)
    (subst (λ (cells : List SectorView). TableSays cells (AsRead table) ⊎ TableSays cells (ByCode (Data table)))
    (sym (other_cells c segment sector 2 small (λ same. omega arith))))
    mounted

-- ---- a further defect

pub spoiled_mounts : SpoiledMounts
spoiled_mounts c segment sector header words table entries mounted =
    still_mounted c (spoiled segment sector c) header words table entries refl
    (λ area has. record {
      referenced = has.referenced;
      in_force = in_force c (spoiled segment sector c) area (spoiled_cells c segment sector 0)
          (spoiled_cells c segment sector 1) has.in_force;
    })
    (table_alike c (spoiled segment sector c) table (spoiled_alike c segment sector) (spoiled_cells c segment sector 2)) mounted

-- ---- a mark

pub protected_mounts : ProtectedMounts
protected_mounts c on header words table entries mounted =
    still_mounted c (changed (SetProtected on) c) header words table entries refl
    (λ area has. record { referenced = has.referenced; in_force = same_views c (changed (SetProtected on) c) area refl has.in_force })
    (λ reads. reads) mounted

pub referenced_mounts : ReferencedMounts
referenced_mounts c header words table entries mounted =
    still_mounted c (changed SetReferenced c) header words table entries refl
    (λ area has. record { referenced = refl; in_force = same_views c (changed SetReferenced c) area refl has.in_force })
    (λ reads. reads) mounted
