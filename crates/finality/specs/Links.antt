-- Links from a page to a higher one on top of it, what they settle and make final, and which two clash. What makes a link is left
-- open: L may be any relation.
-- Assumes nothing.
use Rattle.std.specs.Prelude.{◌≡◌, ℕ, ◌<◌, ◌≤◌, Bool, true, not, ◌&&◌, ◌||◌, ◌==◌, nat_lt}
use Rattle.finality.specs.declared.Link.{Link}
use Rattle.finality.specs.Tree.{Tree, Under}

abbrev pub link : ℕ → ℕ → Link
link a b = record { source = a; target = b }

-- the links that pass a test
abbrev pub Passing : (Link → Bool) → Link → Type 0
Passing l k = l k ≡ true

-- the link goes up, from a page under its target
pub record Climbs (t : Tree) (k : Link) : Type 0 where
  pub under : Under t k.source k.target
  pub higher : t.height k.source < t.height k.target

-- Settled (the literature says justified): page 0, and the target of every link up from a settled page under it.
pub data SettledBy (t : Tree) (L : Link → Type 0) : ℕ → Type 0 where
  first : {b : ℕ} → b ≡ 0 → SettledBy t L b
  next : {b : ℕ} (a : ℕ) → SettledBy t L a → Climbs t (link a b) → L (link a b) → SettledBy t L b

-- Final (the literature says finalized): a settled page with a link from it to a page right on top of it.
pub record FinalBy (t : Tree) (L : Link → Type 0) (a : ℕ) : Type 0 where
  pub settled : SettledBy t L a
  pub top : ℕ
  pub later : 1 ≤ top
  pub on : t.parent top ≡ a
  pub linked : L (link a top)

-- The two rules, in words. Nobody may vote for two links to different pages of one height.
pub record Twice (t : Tree) (k l : Link) : Type 0 where
  pub differ : k.target ≡ l.target → ⊥
  pub level : t.height k.target ≡ t.height l.target

-- Nor for a link around another: one that starts below the other, which goes up, and ends above it.
pub record Around (t : Tree) (k l : Link) : Type 0 where
  pub lower : t.height k.source < t.height l.source
  pub rises : t.height l.source < t.height l.target
  pub higher : t.height l.target < t.height k.target

-- And as tests.
abbrev pub twice : Tree → Link → Link → Bool
twice t k l = not (k.target == l.target) && t.height k.target == t.height l.target

abbrev pub around : Tree → Link → Link → Bool
around t k l =
    nat_lt (t.height k.source) (t.height l.source) && nat_lt (t.height l.source) (t.height l.target) &&
    nat_lt (t.height l.target) (t.height k.target)

-- two links that nobody may vote for both
abbrev pub clash : Tree → Link → Link → Bool
clash t k l = twice t k l || around t k l || around t l k
