use Rattle.finality.proofs.Books.{no_votes_past_end, none_past_end}
use Rattle.finality.proofs.book.nothing_settles_past_the_end.Goals as goal

pub returns : goal.returns
returns c = (none_past_end, no_votes_past_end)
