-- What the columns of a book hold.
use Rattle.std.specs.Prelude.{ℕ, List, length, vec_items}
use Rattle.finality.specs.Book.{tree_of}
use Rattle.finality.specs.Tree.{Tree}
use Rattle.tree.specs.declared.Columns.{Columns}
use Rattle.tree.specs.declared.Tree as lent

-- the parents, by page
abbrev pub parents_of : Columns → List ℕ
parents_of c = vec_items c.parents

-- the heights, by page
abbrev pub heights_of : Columns → List ℕ
heights_of c = vec_items c.heights

-- how many pages there are
abbrev pub count_of : Columns → ℕ
count_of c = length (parents_of c)

-- the tree that they stand for
abbrev pub pages_of : Columns → Tree
pages_of c = tree_of (parents_of c) (heights_of c)

-- how many pages there are, and the tree that they stand for, where the columns are lent
abbrev pub count_lent : lent.Tree → ℕ
count_lent t = length t.parents.now

abbrev pub pages_lent : lent.Tree → Tree
pages_lent t = tree_of t.parents.now t.heights.now
