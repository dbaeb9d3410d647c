-- An append to a mounted cartridge, done or stopped, where one sector more of its table's segment is lost.
use Rattle.std.proofs.Common.{Option, Some, inl, inr, subst, ap, ◌∙◌}
use Rattle.cartridge_laws.proofs.FormatWriting.{changed_by-append}
use Rattle.cartridge_laws.proofs.MountSettles.{settling_settles}
use Rattle.cartridge_laws.proofs.MountWhole.{settling_effects}
use Rattle.cartridge_spec.specs.TableSegment.{LosesOneAlone}
use Rattle.cartridge_spec.specs.Settling.{changed_by, settling_steps}
use Rattle.command_laws.proofs.CommandOneLoss.{append_survives, done_survives}
use Rattle.command_laws.specs.MountedKept.{AppendedSurvive, AppendsSurvive}
use Rattle.qic_base.proofs.Steps.{Torn-append}
use Rattle.qic_base.specs.Cartridge.{Cartridge}
use Rattle.qic_base.specs.Step.{Torn}
use Rattle.cartridge_laws.specs.AppendLaws as appends

pub appends_survive : AppendsSurvive
appends_survive c plain content left kept may enough torn =
    elim (Torn-append (settling_steps plain.table_area c) (appends.append_steps_of plain content) (Some c) left torn) [
      | inl settling ↦ inl settling
      | inr behind ↦
          inr (append_survives content c plain may kept enough left
          (subst (λ (held : Option Cartridge). Torn (appends.append_steps_of plain content) held left)
          (settling_effects c plain.table_area kept.table) behind))
    ]

pub appended_survive : AppendedSurvive
appended_survive c plain content f lost kept may enough loses =
    let steps = appends.append_steps_of plain content in
    done_survives content c plain may kept enough f lost
    (subst (λ (d : Cartridge). LosesOneAlone d f lost)
    (changed_by-append (settling_steps plain.table_area c) steps c ∙ ap (λ (d : Cartridge). changed_by steps d)
    (settling_settles c plain.table_area kept.table)) loses)
