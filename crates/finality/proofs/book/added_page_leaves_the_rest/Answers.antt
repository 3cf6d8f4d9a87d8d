use Rattle.finality.proofs.Books.{page_added, votes_unmoved}
use Rattle.finality.proofs.book.added_page_leaves_the_rest.Goals as goal

pub returns : goal.returns
returns c = (page_added, votes_unmoved)
