-- A book's columns: the tree that they stand for, and what a further page leaves as it was.
-- Assumes nothing.
use Rattle.std.proofs.Common.{◌≡◌, ℕ, ◌+◌, ◌<◌, ◌≤◌, Bool, true, ltb, ◌⊎◌, List, [], ◌∷◌, ◌++◌, length, get_or, ap, ◌∙◌, inl, inr, arith}
use Rattle.std.proofs.lemmas.List.{get_or_append_left, get_or_past, get_or_push, length_push}
use Rattle.std.proofs.lemmas.Bool.{cases_lt, lt-ltb}
use Rattle.finality.specs.declared.Link.{Link}
use Rattle.finality.specs.declared.Vote.{Vote}
use Rattle.finality.specs.Tree.{Grown, Tree, Under, self, down}
use Rattle.finality.specs.Links.{Climbs, Passing, SettledBy, first, next, link}
use Rattle.finality.specs.Votes.{Electorate, linked, total, vote}
use Rattle.finality.specs.Growth.{Carried, Extends}
use Rattle.finality.specs.Book.{Book, BookGrows, NoVotesPastEnd, NonePastEnd, PageAdded, Unmoved, VotesUnmoved, Within, height_added}
use Rattle.finality.specs.Book.{tree_of}
use Rattle.finality.proofs.Carries.{extends_back, extends_carried, final_carried, settled_carried, under_carried}
use Rattle.finality.proofs.Cast.{linked_cast}

module _ (ps hs : List ℕ) (bk : Book ps hs) where
  pub book_grown : Grown (tree_of ps hs)
  book_grown = record { first = bk.first; up = λ b i. go b i (cases_lt b (length ps)) }
    where
      go : (b : ℕ) → 1 ≤ b → (b < length ps) ⊎ (length ps ≤ b) → get_or hs b 1 ≡ get_or hs (get_or ps b 0) 1 + 1
      go b i (inl h) = bk.up b i h
      go b i (inr h) =
          let p = ap (λ n. get_or hs n 1) (get_or_past ps b 0 h) in
          let q = get_or_past hs b 1 (omega arith) in
          omega arith

  -- no page has a smaller number than one under it
  pub under_le : {a b : ℕ} → Under (tree_of ps hs) a b → b < length ps → a ≤ b
  under_le (self e) h = omega arith
  under_le (down {b} i u) h = let l = bk.below b i h in let r = under_le u (omega arith) in omega arith

  -- and a link up leads to a greater number
  pub climbs_lt : (k : Link) → Climbs (tree_of ps hs) k → k.target < length ps → k.source < k.target
  climbs_lt k c h = go (cases_lt k.source k.target)
    where
      go : (k.source < k.target) ⊎ (k.target ≤ k.source) → k.source < k.target
      go (inl l) = l
      go (inr l) =
          let u = under_le c.under h in
          let e : k.source ≡ k.target = omega arith in
          let same = ap (λ b. get_or hs b 1) e in
          omega arith

pub book_grows : BookGrows
book_grows ps hs bk = (book_grown ps hs bk, λ a b. under_le ps hs bk)

-- where no link leads past the first n pages, nothing is settled there
pub settled_within : (t : Tree) (n : ℕ) → 1 ≤ n → (L : Link → Type 0) → ((k : Link) → L k → k.target < n) → {a : ℕ} →
    SettledBy t L a → a < n
settled_within t n some L within (first e) = omega arith
settled_within t n some L within (next {b} a s up l) = within (link a b) l

-- nor does a link lead there that is made by votes for those pages
pub made_within : (n : ℕ) (vs : Electorate) (xs : List Vote) → 1 ≤ total vs → Within n xs → (k : Link) → linked vs xs k ≡ true →
    k.target < n
made_within n vs xs some within k e = let x = linked_cast vs xs k some e in within (vote x.0 k) x.1

pub none_past_end : NonePastEnd
none_past_end ps hs bk l within a = settled_within (tree_of ps hs) (length ps) bk.some (Passing l) within

pub no_votes_past_end : NoVotesPastEnd
no_votes_past_end ps hs bk vs some xs within =
    none_past_end ps hs bk (linked vs xs) (made_within (length ps) vs xs some within)

pub extends_unmoved : (t u : Tree) (n : ℕ) → Extends t u n → (L : Link → Type 0) → ((k : Link) → L k → k.target < n) →
    Unmoved t u n L
extends_unmoved t u n e L within =
    let page : ℕ → Bool = λ b. ltb b n in
    let f : ℕ → ℕ = λ b. b in
    let there : Carried t u page f = extends_carried t u n e in
    let back : Carried u t page f = extends_carried u t n (extends_back t u n e) in
    let sent : (k : Link) → L k → (page k.target ≡ true) × L k = λ k h. (lt-ltb k.target n (within k h), h) in
    record {
      under =
          λ a b h. (λ v. under_carried t u page f there v (lt-ltb b n h), λ v. under_carried u t page f back v (lt-ltb b n h));
      settled = λ a. (settled_carried t u page f there L L sent, settled_carried u t page f back L L sent);
      final = λ a. (final_carried t u page f there L L sent, final_carried u t page f back L L sent);
    }

-- one more page
module _ (ps hs : List ℕ) (bk : Book ps hs) (p : ℕ) (low : p < length ps) where
  abbrev parents : List ℕ
  parents = ps ++ p ∷ []

  abbrev heights : List ℕ
  heights = height_added hs p

  pub added_extends : Extends (tree_of ps hs) (tree_of parents heights) (length ps)
  added_extends =
      record {
        lower = λ b i h. let l = bk.below b i h in omega arith;
        parent = λ b i h. get_or_append_left ps (p ∷ []) 0 b h;
        height = λ b h. get_or_append_left hs ((get_or hs p 1 + 1) ∷ []) 1 b (omega arith);
      }

  pub added_book : Book parents heights
  added_book =
      let lp = length_push ps p in
      let lh = length_push hs (get_or hs p 1 + 1) in
      record {
        same = omega arith;
        some = omega arith;
        first = added_extends.height 0 bk.some ∙ bk.first;
        below = λ b i h. below b i (cases_lt b (length ps)) (omega arith);
        up = λ b i h. up b i (cases_lt b (length ps)) (omega arith);
      }
    where
      below : (b : ℕ) → 1 ≤ b → (b < length ps) ⊎ (length ps ≤ b) → b ≤ length ps → get_or parents b 0 < b
      below b i (inl h) l = let q = added_extends.parent b i h in let r = bk.below b i h in omega arith
      below b i (inr h) l = let q = get_or_push ps p 0 b (omega arith) in omega arith

      up : (b : ℕ) → 1 ≤ b → (b < length ps) ⊎ (length ps ≤ b) → b ≤ length ps
          → get_or heights b 1 ≡ get_or heights (get_or parents b 0) 1 + 1
      up b i (inl h) l =
          let r = bk.below b i h in
          let x = added_extends.height b h in
          let y = bk.up b i h in
          let z = added_extends.height (get_or ps b 0) (omega arith) in
          let w = ap (λ n. get_or heights n 1) (added_extends.parent b i h) in
          omega arith
      up b i (inr h) l =
          let x = get_or_push hs (get_or hs p 1 + 1) 1 b (omega arith) in
          let z = added_extends.height p low in
          let w = ap (λ n. get_or heights n 1) (get_or_push ps p 0 b (omega arith)) in
          omega arith

pub page_added : PageAdded
page_added ps hs bk p low = (
  added_book ps hs bk p low,
  λ l.
      extends_unmoved (tree_of ps hs) (tree_of (ps ++ p ∷ []) (height_added hs p)) (length ps) (added_extends ps hs bk p low)
      (Passing l),
)

pub votes_unmoved : VotesUnmoved
votes_unmoved ps hs bk p low vs some xs within =
    (page_added ps hs bk p low).1 (linked vs xs) (made_within (length ps) vs xs some within)
