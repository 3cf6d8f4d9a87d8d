use Rattle.finality.proofs.Shown.{one_a_height}
use Rattle.finality.proofs.safety.one_settled_page_a_height.Goals as goal

pub returns : goal.returns
returns c = one_a_height
