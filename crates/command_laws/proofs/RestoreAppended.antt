-- A volume that was appended is restored.
use Rattle.std.proofs.Common.{[], ◌∷◌, ℕ, List, ap, ◌∙◌}
use Rattle.std.proofs.lemmas.List.Elements.{Contains-append_right, All-contains_itself, All-head}
use Rattle.std.specs.Prelude.{Contains}
use Rattle.cartridge_laws.proofs.AppendBytes.{done_bytes}
use Rattle.cartridge_laws.proofs.AppendDone.{done_stands}
use Rattle.cartridge_spec.specs.Volumes.{volume_bytes, Volume}
use Rattle.command_laws.proofs.RestoreStanding.{restores_byte_for_byte}
use Rattle.command_laws.specs.RestoreLaws.{AppendedIsAmong, AppendedIsRestored}
use Rattle.cartridge_laws.specs.AppendLaws.{new_volume}

pub appended_is_among : AppendedIsAmong
appended_is_among c plain content may settled_for =
    let volume : Volume = new_volume plain content in
    record {
      stands = done_stands c plain content may settled_for;
      among = Contains-append_right plain.volumes (volume ∷ []) volume
          (All-head (Contains (volume ∷ [])) volume [] (All-contains_itself (volume ∷ [])));
    }

pub appended_is_restored : AppendedIsRestored
appended_is_restored c plain content may later stood acts ending words has few restores =
    let volume : Volume = new_volume plain content in
    let given = restores_byte_for_byte later stood volume acts ending has few restores in
    (given.0, given.1 ∙ ap (λ (ws : List ℕ). volume_bytes ws volume) words ∙ (done_bytes c plain content may).1)
