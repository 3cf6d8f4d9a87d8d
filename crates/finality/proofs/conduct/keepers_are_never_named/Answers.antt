use Rattle.finality.proofs.Keeping.{clean_not_named, signed_not_named}
use Rattle.finality.proofs.conduct.keepers_are_never_named.Goals as goal

pub returns : goal.returns
returns c = (clean_not_named, signed_not_named)
