-- Whatever anybody voted: two final pages, neither under the other, show a third of the weight to have broken the rules.
-- Assumes nothing.
use Rattle.std.specs.Prelude.{◌≡◌, ℕ, ◌+◌, ◌<◌, ◌≤◌, min, Bool, true, ◌⊎◌, List, ◌≢◌}
use Rattle.finality.specs.declared.Link.{Link}
use Rattle.finality.specs.declared.Vote.{Vote}
use Rattle.finality.specs.Tree.{Apart, Grown, Tree, Under}
use Rattle.finality.specs.Links.{Climbs, FinalBy, Passing, SettledBy, clash, link, twice}
use Rattle.finality.specs.Votes.{Electorate, Final, Settled, Third, ThirdShown, ◌∈◌, both, breach, everyone, linked, quorum}
use Rattle.finality.specs.Votes.{total, vote, voted, weighed, weight_in}

-- Of weights alone: two sets of voters weigh at most what all weigh and, once more, those in both.
abbrev pub SharedWeight : Type 0
SharedWeight =
    (n : ℕ) (w : ℕ → ℕ) (p q : ℕ → Bool) → weighed n w p + weighed n w q ≤ weighed n w everyone + weighed n w (both p q)

-- So two quorums share a third.
abbrev pub SharedThird : Type 0
SharedThird =
    (vs : Electorate) (p q : ℕ → Bool) → quorum (weight_in vs p) (total vs) ≡ true → quorum (weight_in vs q) (total vs) ≡ true →
    Third vs (both p q)

-- a link from a settled page lower than a to one under b that is as high as a or higher
pub record Crossing (t : Tree) (L : Link → Type 0) (a b : ℕ) : Type 0 where
  pub step : Link
  pub made : L step
  pub climbs : Climbs t step
  pub settled : SettledBy t L step.source
  pub starts : t.height step.source < t.height a
  pub ends : t.height a ≤ t.height step.target
  pub under : Under t step.target b

-- Of trees alone, with d right on top of a: on the way to a settled page b as high as a or higher that doesn't lie on a, some link
-- starts lower than a and clashes with every link into a, or else with the one from a to d.
abbrev pub Crossed : Type 0
Crossed =
    (t : Tree) → Grown t → (l : Link → Bool) → (a d b : ℕ) → 1 ≤ d → t.parent d ≡ a → SettledBy t (Passing l) b →
    t.height a ≤ t.height b → (Under t a b → ⊥) → (c : Crossing t (Passing l) a b) ×
    (((r : ℕ) → twice t c.step (link r a) ≡ true) ⊎ (clash t c.step (link a d) ≡ true))

-- two links that clash, and both span height h: they start no higher and end no lower
pub record ClashAt (t : Tree) (L : Link → Type 0) (h : ℕ) : Type 0 where
  pub one : Link
  pub other : Link
  pub made : L one × L other
  pub starts : (t.height one.source ≤ h) × (t.height other.source ≤ h)
  pub ends : (h ≤ t.height one.target) × (h ≤ t.height other.target)
  pub clash : clash t one other ≡ true

-- So links clash where two settled pages of one height differ, where a settled page as high as a final one or higher doesn't lie
-- on it, and where two final pages are apart: at the height of the lower of the two.
pub record Clashes (t : Tree) (L : Link → Type 0) : Type 0 where
  pub level :
      (a b : ℕ) → SettledBy t L a → SettledBy t L b → (a ≢ b) → t.height a ≡ t.height b → ClashAt t L (t.height a)
  pub above :
      (a b : ℕ) → FinalBy t L a → SettledBy t L b → t.height a ≤ t.height b → (Under t a b → ⊥) → ClashAt t L (t.height a)
  pub apart : (a b : ℕ) → FinalBy t L a → FinalBy t L b → Apart t a b → ClashAt t L (min (t.height a) (t.height b))

abbrev pub LinksClash : Type 0
LinksClash = (t : Tree) → Grown t → (l : Link → Bool) → Clashes t (Passing l)

-- the test holds of every voter who broke the rules
abbrev pub NamesAll : Tree → List Vote → (ℕ → Bool) → Type 0
NamesAll t xs p = (x y : Vote) → x ∈ xs → y ∈ xs → breach t x y ≡ true → p x.voter ≡ true

-- Who voted for two links that clash has broken the rules, by these two votes of its own.
abbrev pub BothBreach : Type 0
BothBreach =
    (t : Tree) (xs : List Vote) (k l : Link) → clash t k l ≡ true → (v : ℕ) → both (voted xs k) (voted xs l) v ≡ true →
    (vote v k ∈ xs) × (vote v l ∈ xs) × (breach t (vote v k) (vote v l) ≡ true)

-- So, by any weights, those who broke the rules weigh at least what the voters for two links that clash weigh beyond the whole.
abbrev pub ClashWeighs : Type 0
ClashWeighs =
    (t : Tree) (xs : List Vote) (k l : Link) → clash t k l ≡ true → (n : ℕ) (w : ℕ → ℕ) (p : ℕ → Bool) → NamesAll t xs p →
    weighed n w (voted xs k) + weighed n w (voted xs l) ≤ weighed n w everyone + weighed n w p

-- Two settled pages of one height that differ show a third.
abbrev pub OneAHeight : Type 0
OneAHeight =
    (t : Tree) → Grown t → (vs : Electorate) (xs : List Vote) (a b : ℕ) → Settled t vs xs a → Settled t vs xs b → (a ≢ b) →
    t.height a ≡ t.height b → ThirdShown t vs xs

-- A settled page as high as a final one or higher lies on it, or a third is shown.
abbrev pub OnTop : Type 0
OnTop =
    (t : Tree) → Grown t → (vs : Electorate) (xs : List Vote) (a b : ℕ) → Final t vs xs a → Settled t vs xs b →
    t.height a ≤ t.height b → Under t a b ⊎ ThirdShown t vs xs

-- Two final pages apart show a third, each voter by two votes of its own.
abbrev pub FinalApart : Type 0
FinalApart =
    (t : Tree) → Grown t → (vs : Electorate) (xs : List Vote) (a b : ℕ) → Final t vs xs a → Final t vs xs b → Apart t a b →
    ThirdShown t vs xs

-- The same whatever makes a link, if each one that spans the height of the lower of the two has two thirds by the weights of vs.
abbrev pub FinalApartBy : Type 0
FinalApartBy =
    (t : Tree) → Grown t → (l : Link → Bool) (a b : ℕ) → FinalBy t (Passing l) a → FinalBy t (Passing l) b → Apart t a b →
    (vs : Electorate) (xs : List Vote) →
    ((k : Link) → l k ≡ true → t.height k.source ≤ min (t.height a) (t.height b) →
    min (t.height a) (t.height b) ≤ t.height k.target → linked vs xs k ≡ true) →
    ThirdShown t vs xs

-- Whoever names every voter that broke the rules has then named a third.
abbrev pub AllNamed : Type 0
AllNamed =
    (t : Tree) → Grown t → (vs : Electorate) (xs : List Vote) (a b : ℕ) → Final t vs xs a → Final t vs xs b → Apart t a b →
    (p : ℕ → Bool) → NamesAll t xs p → Third vs p
