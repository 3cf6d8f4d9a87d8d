use Rattle.finality.proofs.Cornered.{ballots_are_theirs, keepers_begin, never_cornered}
use Rattle.finality.proofs.conduct.keepers_are_never_cornered.Goals as goal

pub returns : goal.returns
returns c = (never_cornered, keepers_begin, ballots_are_theirs)
