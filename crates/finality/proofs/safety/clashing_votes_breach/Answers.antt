use Rattle.finality.proofs.Shown.{both_breach, clash_weighs}
use Rattle.finality.proofs.safety.clashing_votes_breach.Goals as goal

pub returns : goal.returns
returns c = (both_breach, clash_weighs)
