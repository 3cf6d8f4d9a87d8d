-- The guard of a voter's machine: which votes it lets through, by the heights of their pages.
-- Assumes nothing.
use Rattle.std.specs.Prelude.{◌≡◌, ℕ, ◌<◌, ◌≤◌, Bool, true, false, ◌&&◌, ◌||◌, ◌⊎◌, ◌↔◌, List, [], ◌∷◌, nat_le, nat_lt}
use Rattle.finality.specs.declared.Vote.{Vote}
use Rattle.finality.specs.Tree.{Tree}

-- whether it has signed nothing yet, and the heights of the last signed vote's source and target
pub record Guard : Type 0 where
  pub fresh : Bool
  pub source : ℕ
  pub target : ℕ

abbrev pub bare : Guard
bare = record { fresh = true; source = 0; target = 0 }

-- the guard lets a vote from height s to height t through
abbrev pub lets : Guard → ℕ → ℕ → Bool
lets g s t = nat_lt s t && (g.fresh || (nat_le g.source s && nat_lt g.target t))

-- That is what the test says: it goes up, and nothing was signed before or it rises from the last vote.
abbrev pub LetsInWords : Type 0
LetsInWords =
    (g : Guard) (s t : ℕ) → (lets g s t ≡ true) ↔ ((s < t) × ((g.fresh ≡ true) ⊎ ((g.source ≤ s) × (g.target < t))))

abbrev pub source_height : Tree → Vote → ℕ
source_height t x = t.height x.link.source

abbrev pub target_height : Tree → Vote → ℕ
target_height t x = t.height x.link.target

abbrev pub after : Tree → Vote → Guard
after t x = record { fresh = false; source = source_height t x; target = target_height t x }

-- the guard g once it has signed the votes, first one first
unfoldable pub guard_of : Tree → Guard → List Vote → Guard
guard_of t g [] = g
guard_of t g (x ∷ xs) = guard_of t (after t x) xs

-- the guard g lets each of the votes through in turn
unfoldable pub signs : Tree → Guard → List Vote → Bool
signs t g [] = true
signs t g (x ∷ xs) = lets g (source_height t x) (target_height t x) && signs t (after t x) xs

-- the second vote's source isn't lower, and its target is higher, than the first's
abbrev pub follows : Tree → Vote → Vote → Bool
follows t x y = nat_le (source_height t x) (source_height t y) && nat_lt (target_height t x) (target_height t y)

-- each of the votes follows the one before it, the first of them x
unfoldable pub rising_from : Tree → Vote → List Vote → Bool
rising_from t x [] = true
rising_from t x (y ∷ ys) = follows t x y && rising_from t y ys

-- the votes rise: each follows the one before it
abbrev pub rising : Tree → List Vote → Bool
rising t [] = true
rising t (x ∷ xs) = rising_from t x xs
