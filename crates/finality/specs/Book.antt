-- A book's columns: the tree that parents and heights stand for, and marks made in one pass over links.
-- Assumes nothing.
use Rattle.std.specs.Prelude.{◌≡◌, ℕ, ◌+◌, ◌<◌, ◌≤◌, Bool, true, false, if◌then◌else◌, ◌&&◌, ◌↔◌, List, [], ◌∷◌, ◌++◌, length, replicate, nat_le, slice_index, slice_index_or, slice_set}
use Rattle.finality.specs.declared.Link.{Link}
use Rattle.finality.specs.declared.Vote.{Vote}
use Rattle.finality.specs.Tree.{Grown, Tree, Under}
use Rattle.finality.specs.Links.{Climbs, FinalBy, Passing, SettledBy}
use Rattle.finality.specs.Votes.{Electorate, Settled, ◌∈◌, linked, total}

-- The tree of a book: each page's parent and height by its number. Past the end every number is a page right on page 0, so that
-- the rule of heights holds of all numbers.
abbrev pub tree_of : List ℕ → List ℕ → Tree
tree_of ps hs = record { parent = λ b. slice_index ps b; height = λ b. slice_index_or hs b 1 }

-- the columns have one length, page 0 is there, and each later page lies on one taken before it and is one higher
pub record Book (ps hs : List ℕ) : Type 0 where
  pub same : length hs ≡ length ps
  pub some : 1 ≤ length ps
  pub first : slice_index_or hs 0 1 ≡ 0
  pub below : (b : ℕ) → 1 ≤ b → b < length ps → slice_index ps b < b
  pub up : (b : ℕ) → 1 ≤ b → b < length ps → slice_index_or hs b 1 ≡ slice_index_or hs (slice_index ps b) 1 + 1

-- one link's turn: its target is marked if its source is
abbrev pub marking : List Bool → Link → List Bool
marking ms k = if slice_index_or ms k.source false then slice_set ms k.target true else ms

-- all links' turns, in their order
unfoldable pub marked : List Link → List Bool → List Bool
marked [] ms = ms
marked (k ∷ ks) ms = marked ks (marking ms k)

-- the marks of n pages before the pass: page 0 is marked and no other
abbrev pub first_marked : ℕ → List Bool
first_marked n = slice_set (replicate n false) 0 true

-- the numbers of the targets never fall, and begin at m or above
unfoldable pub ascending : ℕ → List Link → Bool
ascending m [] = true
ascending m (k ∷ ks) = nat_le m k.target && ascending k.target ks

-- Columns that keep the rules of a book stand for a grown tree, in which no page has a smaller number than one under it.
abbrev pub BookGrows : Type 0
BookGrows =
    (ps hs : List ℕ) → Book ps hs →
    Grown (tree_of ps hs) × ((a b : ℕ) → Under (tree_of ps hs) a b → b < length ps → a ≤ b)

-- Nothing is settled past the end of the book, if no link leads there.
abbrev pub NonePastEnd : Type 0
NonePastEnd =
    (ps hs : List ℕ) → Book ps hs → (l : Link → Bool) → ((k : Link) → l k ≡ true → k.target < length ps) →
    (a : ℕ) → SettledBy (tree_of ps hs) (Passing l) a → a < length ps

-- all votes are for targets among the first n pages
abbrev pub Within : ℕ → List Vote → Type 0
Within n xs = (x : Vote) → x ∈ xs → x.link.target < n

-- The same of votes for pages of the book.
abbrev pub NoVotesPastEnd : Type 0
NoVotesPastEnd =
    (ps hs : List ℕ) → Book ps hs → (vs : Electorate) → 1 ≤ total vs → (xs : List Vote) → Within (length ps) xs →
    (a : ℕ) → Settled (tree_of ps hs) vs xs a → a < length ps

-- what a further page leaves as it was: which pages lie under those there before, what is settled, what is final
pub record Unmoved (t u : Tree) (n : ℕ) (L : Link → Type 0) : Type 0 where
  pub under : (a b : ℕ) → b < n → Under t a b ↔ Under u a b
  pub settled : (a : ℕ) → SettledBy t L a ↔ SettledBy u L a
  pub final : (a : ℕ) → FinalBy t L a ↔ FinalBy u L a

-- the heights once a page is added on top of page p
abbrev pub height_added : List ℕ → ℕ → List ℕ
height_added hs p = hs ++ (slice_index_or hs p 1 + 1) ∷ []

-- A page added on top of one that is there makes a book again, and changes nothing of the others.
abbrev pub PageAdded : Type 0
PageAdded =
    (ps hs : List ℕ) → Book ps hs → (p : ℕ) → p < length ps →
    Book (ps ++ p ∷ []) (height_added hs p) ×
    ((l : Link → Bool) → ((k : Link) → l k ≡ true → k.target < length ps) →
    Unmoved (tree_of ps hs) (tree_of (ps ++ p ∷ []) (height_added hs p)) (length ps) (Passing l))

-- So what the votes for those pages settle stays just as it was.
abbrev pub VotesUnmoved : Type 0
VotesUnmoved =
    (ps hs : List ℕ) → Book ps hs → (p : ℕ) → p < length ps → (vs : Electorate) → 1 ≤ total vs → (xs : List Vote) →
    Within (length ps) xs →
    Unmoved (tree_of ps hs) (tree_of (ps ++ p ∷ []) (height_added hs p)) (length ps) (Passing (linked vs xs))

-- One pass decides. With sources numbered below targets, and links in rising order of their targets, the marks are exactly the
-- settled pages.
abbrev pub OnePass : Type 0
OnePass =
    (t : Tree) (n : ℕ) (ks : List Link) → 1 ≤ n → ascending 0 ks ≡ true →
    ((k : Link) → k ∈ ks → Climbs t k × (k.source < k.target) × (k.target < n)) →
    (b : ℕ) → (slice_index_or (marked ks (first_marked n)) b false ≡ true) ↔ SettledBy t (λ k. k ∈ ks) b

-- The same of a book and votes for its pages, and of a list of just those links up that the votes make.
abbrev pub OnePassOfVotes : Type 0
OnePassOfVotes =
    (ps hs : List ℕ) → Book ps hs → (vs : Electorate) → 1 ≤ total vs → (xs : List Vote) →
    Within (length ps) xs → (ks : List Link) → ascending 0 ks ≡ true →
    ((k : Link) → (k ∈ ks) ↔ (Climbs (tree_of ps hs) k × (linked vs xs k ≡ true))) →
    (b : ℕ) → (slice_index_or (marked ks (first_marked (length ps))) b false ≡ true) ↔ Settled (tree_of ps hs) vs xs b
