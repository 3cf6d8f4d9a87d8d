use Rattle.finality.proofs.Shown.{on_top}
use Rattle.finality.proofs.safety.settled_pages_lie_on_final_ones.Goals as goal

pub returns : goal.returns
returns c = on_top
