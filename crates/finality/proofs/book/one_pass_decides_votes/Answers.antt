use Rattle.finality.proofs.Marks.{one_pass_of_votes}
use Rattle.finality.proofs.book.one_pass_decides_votes.Goals as goal

pub returns : goal.returns
returns c = one_pass_of_votes
