-- Walks down a book's pages.
use Rattle.std.proofs.Common.{ℕ, ◌<◌, ◌↔◌, List, get_or, arith}
use Rattle.finality.specs.Book.{tree_of}
use Rattle.finality.specs.Tree.{Under, self, down}

-- a page lies under a later one exactly if it lies under that one's parent
pub under_parent : (ps hs : List ℕ) (a b : ℕ) → a < b → Under (tree_of ps hs) a b ↔ Under (tree_of ps hs) a (get_or ps b 0)
under_parent ps hs a b l = (λ u. lower b l u, λ u. down (omega arith) u) where
  lower : (n : ℕ) → a < n → Under (tree_of ps hs) a n → Under (tree_of ps hs) a (get_or ps n 0)
  lower n h (self e) = absurd (omega arith)
  lower n h (down i u) = u
