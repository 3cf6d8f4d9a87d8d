-- Those who keep the rules: they are never named, and never cornered.
-- Assumes nothing.
use Rattle.std.specs.Prelude.{◌≡◌, ℕ, ◌<◌, ◌≤◌, Bool, true, false, ◌&&◌, ◌↔◌, List, [], ◌∷◌, ◌++◌}
use Rattle.finality.specs.declared.Link.{Link}
use Rattle.finality.specs.declared.Proof.{Proof}
use Rattle.finality.specs.declared.Vote.{Vote}
use Rattle.finality.specs.Tree.{Grown, Tree, Under}
use Rattle.finality.specs.Links.{link}
use Rattle.finality.specs.Votes.{AllHold, Electorate, Final, Settled, ◌∈◌, breach, each, everyone, named, quorum}
use Rattle.finality.specs.Votes.{total, vote, weight_in}
use Rattle.finality.specs.Guard.{Guard, bare, guard_of, lets, rising, signs, source_height, target_height}

-- no two of the votes break the rules
abbrev pub Clean : Tree → List Vote → Type 0
Clean t xs = (x y : Vote) → x ∈ xs → y ∈ xs → breach t x y ≡ false

-- Votes that, in the order signed, never lower the source's height and always raise the target's break no rule.
abbrev pub RisingIsClean : Type 0
RisingIsClean = (t : Tree) (xs : List Vote) → rising t xs ≡ true → Clean t xs

-- A guard lets votes through in turn exactly if they go up and rise.
abbrev pub SignsRising : Type 0
SignsRising =
    (t : Tree) (xs : List Vote) → (signs t bare xs ≡ true) ↔
    ((rising t xs ≡ true) × ((x : Vote) → x ∈ xs → source_height t x < target_height t x))

-- So votes that a guard let through break no rule.
abbrev pub SignedIsClean : Type 0
SignedIsClean = (t : Tree) (xs : List Vote) → signs t bare xs ≡ true → Clean t xs

-- And a further vote joins them exactly if the guard that signed them lets it through.
abbrev pub SignsNext : Type 0
SignsNext =
    (t : Tree) (g : Guard) (xs : List Vote) (x : Vote) →
    signs t g (xs ++ x ∷ []) ≡ (signs t g xs && lets (guard_of t g xs) (source_height t x) (target_height t x))

-- A voter without a breach is named in no list of proofs that hold.
abbrev pub CleanNotNamed : Type 0
CleanNotNamed =
    (t : Tree) (xs : List Vote) (v : ℕ) →
    ((x y : Vote) → x ∈ xs → y ∈ xs → x.voter ≡ v → breach t x y ≡ false) → (ps : List Proof) → AllHold t xs ps →
    named ps v ≡ false

-- Nor is one all of whose votes a guard let through, the guard's file being ss.
abbrev pub SignedNotNamed : Type 0
SignedNotNamed =
    (t : Tree) (xs : List Vote) (v : ℕ) (ss : List Vote) → signs t bare ss ≡ true →
    ((x : Vote) → x ∈ xs → x.voter ≡ v → x ∈ ss) → (ps : List Proof) → AllHold t xs ps → named ps v ≡ false

-- a vote for the link k by each voter of whom h holds
abbrev pub ballots : Electorate → (ℕ → Bool) → Link → List Vote
ballots vs h k = each vs.count h (λ v. vote v k)

-- These are votes of those voters alone, and for that link.
abbrev pub BallotsAreTheirs : Type 0
BallotsAreTheirs =
    (vs : Electorate) (h : ℕ → Bool) (k : Link) (x : Vote) → x ∈ ballots vs h k → (h x.voter ≡ true) × (x.link ≡ k)

-- The voters of whom h holds keep the rules among the votes xs, and are two thirds. What each has signed, handed out or not, is
-- signed v: it breaks no rule, and goes up from settled pages only.
pub record Keepers (t : Tree) (vs : Electorate) (xs : List Vote) (h : ℕ → Bool) (signed : ℕ → List Vote) : Type 0 where
  pub most : quorum (weight_in vs h) (total vs) ≡ true
  pub all : (x : Vote) → x ∈ xs → h x.voter ≡ true → x ∈ signed x.voter
  pub from : (v : ℕ) → h v ≡ true → (x : Vote) → x ∈ signed v → Settled t vs xs x.link.source
  pub clean : (v : ℕ) → h v ≡ true → Clean t (signed v)

-- Where nobody has voted yet, all keep the rules.
abbrev pub KeepersBegin : Type 0
KeepersBegin = (t : Tree) (vs : Electorate) → Keepers t vs [] everyone (λ v. [])

-- the votes once each of them has voted for the link k, and what each has signed with it
abbrev pub with_ballots : Electorate → (ℕ → Bool) → Link → List Vote → List Vote
with_ballots vs h k xs = ballots vs h k ++ xs

abbrev pub also : (ℕ → List Vote) → Link → ℕ → List Vote
also signed k v = signed v ++ vote v k ∷ []

-- the guard that has signed all that v has lets a vote of v for the link k through
abbrev pub may_vote : Tree → (ℕ → List Vote) → Link → ℕ → Bool
may_vote t signed k v = lets (guard_of t bare (signed v)) (t.height k.source) (t.height k.target)

-- the votes once each of them has voted from a to c and then from c to d
abbrev pub two_more : Electorate → (ℕ → Bool) → ℕ → ℕ → ℕ → List Vote → List Vote
two_more vs h a c d xs = with_ballots vs h (link c d) (with_ballots vs h (link a c) xs)

-- What these come to: the guard of each lets first the one and then the other through, they keep the rules with them, and c is final.
pub record Way (t : Tree) (vs : Electorate) (xs : List Vote) (h : ℕ → Bool) (signed : ℕ → List Vote) (a c d : ℕ) : Type 0 where
  pub first : (v : ℕ) → h v ≡ true → may_vote t signed (link a c) v ≡ true
  pub second : (v : ℕ) → h v ≡ true → may_vote t (also signed (link a c)) (link c d) v ≡ true
  pub keep : Keepers t vs (two_more vs h a c d xs) h (also (also signed (link a c)) (link c d))
  pub final : Final t vs (two_more vs h a c d xs) c

-- Never cornered: a is a highest settled page, c a page on top of it and higher than all targets that the keepers signed (others
-- may have voted higher), and d lies right on top of c.
abbrev pub NeverCornered : Type 0
NeverCornered =
    (t : Tree) → Grown t → (vs : Electorate) (xs : List Vote) (h : ℕ → Bool) (signed : ℕ → List Vote) → Keepers t vs xs h signed →
    (a : ℕ) → Settled t vs xs a → ((b : ℕ) → Settled t vs xs b → t.height b ≤ t.height a) → (c d : ℕ) → Under t a c →
    t.height a < t.height c → 1 ≤ d → t.parent d ≡ c →
    ((v : ℕ) → h v ≡ true → (x : Vote) → x ∈ signed v → t.height x.link.target < t.height c) →
    Way t vs xs h signed a c d
