use Rattle.finality.proofs.Carries.{carries}
use Rattle.finality.proofs.Growing.{votes_carry}
use Rattle.finality.proofs.growth.settled_pages_carry_over.Goals as goal

pub returns : goal.returns
returns c = (carries, votes_carry)
