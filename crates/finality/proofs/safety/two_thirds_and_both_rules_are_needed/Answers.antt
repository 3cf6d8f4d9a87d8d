use Rattle.finality.proofs.Histories.{both_rules_needed, two_thirds_needed}
use Rattle.finality.proofs.safety.two_thirds_and_both_rules_are_needed.Goals as goal

pub returns : goal.returns
returns c = (two_thirds_needed, both_rules_needed)
