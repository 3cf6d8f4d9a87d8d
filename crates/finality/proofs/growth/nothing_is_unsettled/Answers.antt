use Rattle.finality.proofs.Growing.{more_pages, more_votes}
use Rattle.finality.proofs.growth.nothing_is_unsettled.Goals as goal

pub returns : goal.returns
returns c = (more_votes, more_pages)
