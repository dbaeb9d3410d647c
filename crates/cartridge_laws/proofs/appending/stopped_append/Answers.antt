use Rattle.cartridge_laws.proofs.AppendDone.{stopped_list, stopped_append}
use Rattle.cartridge_laws.proofs.AppendMounted.{append_touches_only, stopped_append_mounts, stopped_append_is_clean}
use Rattle.cartridge_laws.proofs.AppendReady.{stopped_from_the_start}
use Rattle.cartridge_laws.proofs.AppendVolume.{stopped_volume}
use Rattle.cartridge_laws.proofs.AppendWhole.{stopped_append_is_cartridge}
use Rattle.cartridge_laws.proofs.appending.stopped_append.Goals as goal

pub returns-clause-volume : goal.returns-clause-volume
returns-clause-volume c = stopped_volume

pub returns-clause-list : goal.returns-clause-list
returns-clause-list c = stopped_list

pub returns-clause-stands : goal.returns-clause-stands
returns-clause-stands c = stopped_append

pub returns-clause-whole : goal.returns-clause-whole
returns-clause-whole c = stopped_append_is_cartridge

pub returns-clause-mounts : goal.returns-clause-mounts
returns-clause-mounts c = stopped_append_mounts

pub returns-clause-clean : goal.returns-clause-clean
returns-clause-clean c = stopped_append_is_clean

pub returns-clause-others : goal.returns-clause-others
returns-clause-others c = append_touches_only

pub returns-clause-from_the_start : goal.returns-clause-from_the_start
returns-clause-from_the_start c = stopped_from_the_start
