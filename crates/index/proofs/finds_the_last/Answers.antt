use Rattle.index.proofs.Finds.{finds_last}
use Rattle.index.proofs.finds_the_last.Goals as goal

pub returns : goal.returns
returns c = finds_last
