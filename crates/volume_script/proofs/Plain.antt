-- What a line does is one thing.
use Rattle.std.proofs.Common.{◌≡◌, ℕ, List, [], ◌∙◌, subst, arith, inl, inr}
use Rattle.std.proofs.lemmas.List.{nil_from_length}
use Rattle.cartridge_spec.specs.Table.{Entry}
use Rattle.command_spec.specs.Input.{promised}
use Rattle.command_spec.specs.Script.{Did, LineDoes}
use Rattle.command_spec.specs.declared.line.Line.{Line}
use Rattle.qic_base.specs.Acts.{Act}
use Rattle.qic_base.specs.Cartridge.{Cartridge}
use Rattle.volume_script.specs.Items.{WouldDo}

-- ---- lines that promise no bytes

-- what they would do they do
pub would_without : (c : Cartridge) (words : List ℕ) (entries : List Entry) (asked : Line) (rest : List ℕ) (acts : List Act) →
    promised asked ≡ 0 →
    WouldDo c words entries asked rest acts → (did : Did) × (did.acts ≡ acts) × LineDoes c words entries asked [] did
would_without c words entries asked rest acts none (inl (bytes, (behind, (parts, long, (did, same, does))))) =
    let empty : bytes ≡ [] = nil_from_length bytes (long ∙ none) in
    (did, same, subst (λ (bs : List ℕ). LineDoes c words entries asked bs did) empty does)
would_without c words entries asked rest acts none (inr (short, early)) = absurd (omega arith)
