-- Pages, each on top of another.
-- Assumes nothing.
use Rattle.std.specs.Prelude.{◌≡◌, ℕ, ◌+◌, ◌≤◌}

-- Pages go by number, and page 0 is the first: the page that each lies on, and how high each is. What the parent of page 0 is
-- has no meaning.
pub record Tree : Type 0 where
  pub parent : ℕ → ℕ
  pub height : ℕ → ℕ

-- each later page is one higher than the page that it lies on
pub record Grown (t : Tree) : Type 0 where
  pub first : t.height 0 ≡ 0
  pub up : (b : ℕ) → 1 ≤ b → t.height b ≡ t.height (t.parent b) + 1

-- a lies under b: it is b, or lies under the page that b lies on
pub data Under (t : Tree) (a : ℕ) : ℕ → Type 0 where
  self : {b : ℕ} → a ≡ b → Under t a b
  down : {b : ℕ} → 1 ≤ b → Under t a (t.parent b) → Under t a b

-- neither page lies under the other
abbrev pub Apart : Tree → ℕ → ℕ → Type 0
Apart t a b = (Under t a b → ⊥) × (Under t b a → ⊥)
