use Rattle.finality.proofs.Weights.{shared_third, shared_weight}
use Rattle.finality.proofs.safety.quorums_share_voters.Goals as goal

pub returns : goal.returns
returns c = (shared_weight, shared_third)
