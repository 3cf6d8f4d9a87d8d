-- More votes and more pages: what is settled and final stays so.
-- Assumes nothing.
use Rattle.std.specs.Prelude.{◌≡◌, ℕ, ◌<◌, ◌≤◌, Bool, true, List}
use Rattle.finality.specs.declared.Link.{Link}
use Rattle.finality.specs.declared.Vote.{Vote}
use Rattle.finality.specs.Tree.{Tree}
use Rattle.finality.specs.Links.{FinalBy, Passing, SettledBy, link}
use Rattle.finality.specs.Votes.{Electorate, Final, Settled, ◌∈◌, total}

-- The pages of one tree stand in another, under numbers of their own: those numbers of which a test holds (with each page also
-- the one that it lies on) are sent to numbers with the same parents and heights, the first page to the first.
pub record Carried (t u : Tree) (page : ℕ → Bool) (f : ℕ → ℕ) : Type 0 where
  pub first : f 0 ≡ 0
  pub lower : (b : ℕ) → page b ≡ true → 1 ≤ b → page (t.parent b) ≡ true
  pub later : (b : ℕ) → page b ≡ true → 1 ≤ b → 1 ≤ f b
  pub parent : (b : ℕ) → page b ≡ true → 1 ≤ b → u.parent (f b) ≡ f (t.parent b)
  pub height : (b : ℕ) → page b ≡ true → u.height (f b) ≡ t.height b

-- a link, and a vote, by the other numbers
abbrev pub moved : (ℕ → ℕ) → Link → Link
moved f k = link (f k.source) (f k.target)

abbrev pub moved_vote : (ℕ → ℕ) → Vote → Vote
moved_vote f x = record { voter = x.voter; link = moved f x.link }

-- What is settled and final in one tree is so in another that its pages and links stand in.
abbrev pub Carries : Type 0
Carries =
    (t u : Tree) (page : ℕ → Bool) (f : ℕ → ℕ) → Carried t u page f → (l m : Link → Bool) →
    ((k : Link) → l k ≡ true → (page k.target ≡ true) × (m (moved f k) ≡ true)) → (a : ℕ) →
    (SettledBy t (Passing l) a → SettledBy u (Passing m) (f a)) × (FinalBy t (Passing l) a → FinalBy u (Passing m) (f a))

-- The same of votes: however pages are numbered, and in whatever order votes came.
abbrev pub VotesCarry : Type 0
VotesCarry =
    (t u : Tree) (page : ℕ → Bool) (f : ℕ → ℕ) → Carried t u page f → (vs : Electorate) → 1 ≤ total vs → (xs ys : List Vote) →
    ((x : Vote) → x ∈ xs → (page x.link.target ≡ true) × (moved_vote f x ∈ ys)) → (a : ℕ) →
    (Settled t vs xs a → Settled u vs ys (f a)) × (Final t vs xs a → Final u vs ys (f a))

-- More votes, in whatever order and however often each: nothing settled is unsettled, nothing final isn't any more.
abbrev pub MoreVotes : Type 0
MoreVotes =
    (t : Tree) (vs : Electorate) (xs ys : List Vote) → ((x : Vote) → x ∈ xs → x ∈ ys) → (a : ℕ) →
    (Settled t vs xs a → Settled t vs ys a) × (Final t vs xs a → Final t vs ys a)

-- the first n pages of t, of which each lies on one of them, are those of u
pub record Extends (t u : Tree) (n : ℕ) : Type 0 where
  pub lower : (b : ℕ) → 1 ≤ b → b < n → t.parent b < n
  pub parent : (b : ℕ) → 1 ≤ b → b < n → u.parent b ≡ t.parent b
  pub height : (b : ℕ) → b < n → u.height b ≡ t.height b

-- More pages, and more votes with them: the same.
abbrev pub MorePages : Type 0
MorePages =
    (t u : Tree) (n : ℕ) → Extends t u n → (vs : Electorate) → 1 ≤ total vs → (xs ys : List Vote) →
    ((x : Vote) → x ∈ xs → (x.link.target < n) × (x ∈ ys)) → (a : ℕ) →
    (Settled t vs xs a → Settled u vs ys a) × (Final t vs xs a → Final u vs ys a)
