use Rattle.finality.proofs.Books.{book_grows}
use Rattle.finality.proofs.book.book_is_a_tree.Goals as goal

pub returns : goal.returns
returns c = book_grows
