-- Votes for links: who voted for what, which links two thirds of the weight make, and which two votes of one voter break the rules.
-- Assumes nothing.
use Rattle.std.specs.Prelude.{◌≡◌, ℕ, zero, suc, ◌+◌, ◌*◌, ◌≤◌, Bool, true, false, if◌then◌else◌, ◌&&◌, ◌||◌, ◌⊎◌, ◌↔◌, List, [], ◌∷◌, ◌==◌, nat_le}
use mathlib.Core.List.{Memᴰ}
use Rattle.finality.specs.declared.Link.{Link}
use Rattle.finality.specs.declared.Proof.{Proof}
use Rattle.finality.specs.declared.Vote.{Vote}
use Rattle.finality.specs.Tree.{Tree}
use Rattle.finality.specs.Links.{Around, FinalBy, Passing, SettledBy, Twice, clash}

infix 4 ◌∈◌
abbrev pub ◌∈◌ : {A : Type 0} → A → List A → Type 0
x ∈ xs = Memᴰ x xs

-- how many voters there are, and what each weighs
pub record Electorate : Type 0 where
  pub count : ℕ
  pub weight : ℕ → ℕ

-- the weight of the voters below n for whom a test holds
unfoldable pub weighed : ℕ → (ℕ → ℕ) → (ℕ → Bool) → ℕ
weighed zero w p = 0
weighed (suc n) w p = (if p n then w n else 0) + weighed n w p

-- what f gives for each voter below n for whom a test holds
unfoldable pub each : {A : Type 0} → ℕ → (ℕ → Bool) → (ℕ → A) → List A
each zero p f = []
each (suc n) p f = if p n then f n ∷ each n p f else each n p f

abbrev pub everyone : ℕ → Bool
everyone v = true

abbrev pub both : (ℕ → Bool) → (ℕ → Bool) → ℕ → Bool
both p q v = p v && q v

-- the weight of the voters for whom a test holds
abbrev pub weight_in : Electorate → (ℕ → Bool) → ℕ
weight_in vs p = weighed vs.count vs.weight p

abbrev pub total : Electorate → ℕ
total vs = weight_in vs everyone

-- a part of the weight is two thirds of the whole or more
abbrev pub quorum : ℕ → ℕ → Bool
quorum part whole = nat_le (2 * whole) (3 * part)

abbrev pub vote : ℕ → Link → Vote
vote v k = record { voter = v; link = k }

-- x is the vote of v for the link k
abbrev pub is_vote : Link → ℕ → Vote → Bool
is_vote k v x = x.voter == v && x.link.source == k.source && x.link.target == k.target

-- voter v voted for the link k
unfoldable pub voted : List Vote → Link → ℕ → Bool
voted [] k v = false
voted (x ∷ xs) k v = is_vote k v x || voted xs k v

-- two thirds of the weight voted for just this link
abbrev pub linked : Electorate → List Vote → Link → Bool
linked vs xs k = quorum (weight_in vs (voted xs k)) (total vs)

abbrev pub Settled : Tree → Electorate → List Vote → ℕ → Type 0
Settled t vs xs a = SettledBy t (Passing (linked vs xs)) a

abbrev pub Final : Tree → Electorate → List Vote → ℕ → Type 0
Final t vs xs a = FinalBy t (Passing (linked vs xs)) a

-- a breach of the rules: two votes of one voter for links that clash
abbrev pub breach : Tree → Vote → Vote → Bool
breach t x y = x.voter == y.voter && clash t x.link y.link

-- the proof is of two votes that were cast, and they break the rules
pub record Holds (t : Tree) (xs : List Vote) (p : Proof) : Type 0 where
  pub one : p.one ∈ xs
  pub other : p.other ∈ xs
  pub breach : breach t p.one p.other ≡ true

abbrev pub AllHold : Tree → List Vote → List Proof → Type 0
AllHold t xs ps = (p : Proof) → p ∈ ps → Holds t xs p

-- voter v is named by one of the proofs
unfoldable pub named : List Proof → ℕ → Bool
named [] v = false
named (p ∷ ps) v = p.one.voter == v || named ps v

-- by the weights of vs, the voters for whom a test holds are a third of the whole or more
abbrev pub Third : Electorate → (ℕ → Bool) → Type 0
Third vs p = total vs ≤ 3 * weight_in vs p

-- a third of the weight is shown to have broken the rules, each voter by two votes of its own
pub record ThirdShown (t : Tree) (vs : Electorate) (xs : List Vote) : Type 0 where
  pub proofs : List Proof
  pub hold : AllHold t xs proofs
  pub third : Third vs (named proofs)

-- The tests say what they are meant to. A part is a quorum exactly if three times it is at least two times the whole.
abbrev pub QuorumInWords : Type 0
QuorumInWords = (part whole : ℕ) → (quorum part whole ≡ true) ↔ (2 * whole ≤ 3 * part)

-- Two votes break the rules exactly if they are of one voter and one of the rules fits.
abbrev pub BreachInWords : Type 0
BreachInWords =
    (t : Tree) (x y : Vote) → (breach t x y ≡ true) ↔
    ((x.voter ≡ y.voter) × (Twice t x.link y.link ⊎ (Around t x.link y.link ⊎ Around t y.link x.link)))

-- A voter voted for a link exactly if that vote is there, and is named exactly if one of the proofs shows it.
abbrev pub VotedInWords : Type 0
VotedInWords = (xs : List Vote) (k : Link) (v : ℕ) → (voted xs k v ≡ true) ↔ (vote v k ∈ xs)

abbrev pub NamedInWords : Type 0
NamedInWords = (ps : List Proof) (v : ℕ) → (named ps v ≡ true) ↔ ((p : Proof) × (p ∈ ps) × (p.one.voter ≡ v))
