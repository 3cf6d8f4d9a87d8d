-- Two thirds, and both rules, are needed. The histories that show it have two final pages apart, so the theorems on such pages are
-- not empty.
-- Assumes nothing.
use Rattle.std.specs.Prelude.{◌≡◌, ℕ, ◌*◌, ◌<◌, ◌≤◌, Bool, false, ◌&&◌, ◌||◌, List, ◌==◌}
use Rattle.finality.specs.declared.Vote.{Vote}
use Rattle.finality.specs.Tree.{Apart, Grown, Tree}
use Rattle.finality.specs.Links.{around, twice}
use Rattle.finality.specs.Votes.{Electorate, Final, ◌∈◌, both, total, weight_in}

-- two sets of voters, each with num / den of the weight or more, that share less than a third
pub record Fewer (num den : ℕ) : Type 0 where
  pub voters : Electorate
  pub one : ℕ → Bool
  pub other : ℕ → Bool
  pub enough : (num * total voters ≤ den * weight_in voters one) × (num * total voters ≤ den * weight_in voters other)
  pub few : 3 * weight_in voters (both one other) < total voters

-- A share below two thirds would not do.
abbrev pub TwoThirdsNeeded : Type 0
TwoThirdsNeeded = (num den : ℕ) → 3 * num < 2 * den → Fewer num den

-- a history with two final pages apart in which no two votes break the given rule
pub record ApartKeeping (rule : Tree → Vote → Vote → Bool) : Type 0 where
  pub tree : Tree
  pub grown : Grown tree
  pub voters : Electorate
  pub some : 1 ≤ total voters
  pub votes : List Vote
  pub one : ℕ
  pub other : ℕ
  pub final : Final tree voters votes one × Final tree voters votes other
  pub apart : Apart tree one other
  pub kept : (x y : Vote) → x ∈ votes → y ∈ votes → rule tree x y ≡ false

-- each rule alone, on two votes
abbrev pub first_rule : Tree → Vote → Vote → Bool
first_rule t x y = x.voter == y.voter && twice t x.link y.link

abbrev pub second_rule : Tree → Vote → Vote → Bool
second_rule t x y = x.voter == y.voter && (around t x.link y.link || around t y.link x.link)

-- Neither rule would do alone.
abbrev pub BothRulesNeeded : Type 0
BothRulesNeeded = ApartKeeping first_rule × ApartKeeping second_rule
