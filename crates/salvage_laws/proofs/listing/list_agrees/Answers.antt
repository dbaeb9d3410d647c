use Rattle.salvage_laws.proofs.ListText.{list_agrees, standing_list_agrees}
use Rattle.salvage_laws.proofs.listing.list_agrees.Goals as goal

pub returns : goal.returns
returns c = record { mounted = list_agrees; standing = standing_list_agrees }
