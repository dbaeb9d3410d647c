use Rattle.gf256_qic.proofs.Distance.{places_of_two, places_of_inverse}
use Rattle.gf256_qic.proofs.laws.places_differ.Goals as goal

pub returns-clause-generator : goal.returns-clause-generator
returns-clause-generator c = places_of_two

pub returns-clause-inverse : goal.returns-clause-inverse
returns-clause-inverse c = places_of_inverse
