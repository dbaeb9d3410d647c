use Rattle.std.proofs.Common.{refl, arith}
use Rattle.std.proofs.lemmas.List.Elements.{All-nil}
use Rattle.qic_base.specs.Cartridge.{IsSector}
use Rattle.segment_parity.proofs.Rows.{zeros_are_register}
use Rattle.segment_parity.proofs.Parity.new.Goals as goal

pub returns-clause-empty : goal.returns-clause-empty
returns-clause-empty c = record {
  count = refl;
  most = omega arith;
  sectors_fit = All-nil IsSector;
  register = zeros_are_register;
}
