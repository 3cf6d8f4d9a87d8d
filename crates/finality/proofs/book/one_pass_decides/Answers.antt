use Rattle.finality.proofs.Marks.{one_pass}
use Rattle.finality.proofs.book.one_pass_decides.Goals as goal

pub returns : goal.returns
returns c = one_pass
