-- From a test on votes to the vote itself.
-- Assumes nothing.
use Rattle.std.proofs.Common.{◌≡◌, ℕ, zero, suc, ◌+◌, ◌≤◌, Bool, true, false, cond, eqb, ◌⊎◌, List, [], ◌∷◌, sym, refl, ap, ◌∙◌, inl, inr, ⊎_elim, arith}
use mathlib.Core.List.Memᴰ
use Rattle.std.proofs.lemmas.Bool.{and_from, and_parts, eq-eqb, eqb-true, false≢true, leb-true, or_cases, or_left, or_right}
use Rattle.finality.specs.declared.Link.{Link}
use Rattle.finality.specs.declared.Proof.{Proof}
use Rattle.finality.specs.declared.Vote.{Vote}
use Rattle.finality.specs.Votes.{Electorate, NamedInWords, VotedInWords, ◌∈◌, is_vote, linked, named, total, vote, voted, weighed}
use Rattle.finality.specs.Growth.{moved, moved_vote}
use Rattle.finality.proofs.Weights.{quorum_within}

-- a vote that passes the test of v's vote for k is that vote
is_vote_lem : (k : Link) (v : ℕ) (x : Vote) → is_vote k v x ≡ true → vote v k ≡ x
is_vote_lem k v x e =
    let p = and_parts _ _ e in
    let q = and_parts _ _ p.0 in
    let who = sym (eqb-true x.voter v q.0) in
    let low = sym (eqb-true x.link.source k.source q.1) in
    let high = sym (eqb-true x.link.target k.target p.1) in
    λ i. record { voter = who i; link = record { source = low i; target = high i } }

pub voted_cast : (xs : List Vote) (k : Link) (v : ℕ) → voted xs k v ≡ true → vote v k ∈ xs
unfolding voted
voted_cast [] k v e = absurd (false≢true e)
voted_cast (x ∷ xs) k v e =
    ⊎_elim (λ h. Memᴰ.head (is_vote_lem k v x h)) (λ h. Memᴰ.tail (voted_cast xs k v h)) (or_cases _ _ e)

own_vote : (k : Link) (v : ℕ) (x : Vote) → vote v k ≡ x → is_vote k v x ≡ true
own_vote k v x e =
    let who = eq-eqb x.voter v (ap (λ y. y.voter) (sym e)) in
    let low = eq-eqb x.link.source k.source (ap (λ y. y.link.source) (sym e)) in
    let high = eq-eqb x.link.target k.target (ap (λ y. y.link.target) (sym e)) in
    and_from _ _ (and_from _ _ who low) high

pub cast_voted : (k : Link) (v : ℕ) {xs : List Vote} → vote v k ∈ xs → voted xs k v ≡ true
unfolding voted
cast_voted k v (Memᴰ.head {x} {xs} e) = or_left _ _ (own_vote k v x e)
cast_voted k v (Memᴰ.tail {x} {xs} m) = or_right _ _ (cast_voted k v m)

pub voted_in_words : VotedInWords
voted_in_words xs k v = (voted_cast xs k v, cast_voted k v)

-- a set of voters that weighs anything has one in it
someone : (n : ℕ) (w : ℕ → ℕ) (p : ℕ → Bool) → 1 ≤ weighed n w p → (v : ℕ) × (p v ≡ true)
unfolding weighed
someone zero w p h = absurd (omega arith)
someone (suc n) w p h = by_test (p n) refl h (someone n w p)
  where
    by_test : (b : Bool) → p n ≡ b → 1 ≤ cond b (w n) 0 + weighed n w p → (1 ≤ weighed n w p → (v : ℕ) × (p v ≡ true)) →
        (v : ℕ) × (p v ≡ true)
    by_test true e i rest = (n, e)
    by_test false e i rest = rest (omega arith)

-- a link that is made has a vote for it
pub linked_cast : (vs : Electorate) (xs : List Vote) (k : Link) → 1 ≤ total vs → linked vs xs k ≡ true →
    (v : ℕ) × (vote v k ∈ xs)
linked_cast vs xs k some e =
    let h = leb-true _ _ e in
    let one = someone vs.count vs.weight (voted xs k) (omega arith) in
    (one.0, voted_cast xs k one.0 one.1)

-- votes that stand among others, under other numbers of the pages, make the links that they made
pub linked_moved : (f : ℕ → ℕ) (vs : Electorate) (xs ys : List Vote) → ((x : Vote) → x ∈ xs → moved_vote f x ∈ ys) →
    (k : Link) → linked vs xs k ≡ true → linked vs ys (moved f k) ≡ true
linked_moved f vs xs ys sent k e =
    quorum_within vs (voted xs k) (voted ys (moved f k))
    (λ v i h. cast_voted (moved f k) v (sent (vote v k) (voted_cast xs k v h))) e

pub named_shown : (ps : List Proof) (v : ℕ) → named ps v ≡ true → (p : Proof) × (p ∈ ps) × (p.one.voter ≡ v)
unfolding named
named_shown [] v e = absurd (false≢true e)
named_shown (p ∷ ps) v e = by_place (named_shown ps v) (or_cases _ _ e)
  where
    by_place : (named ps v ≡ true → (q : Proof) × (q ∈ ps) × (q.one.voter ≡ v)) →
        (eqb p.one.voter v ≡ true) ⊎ (named ps v ≡ true) → (q : Proof) × (q ∈ (p ∷ ps)) × (q.one.voter ≡ v)
    by_place rest (inl h) = (p, Memᴰ.head refl, eqb-true _ _ h)
    by_place rest (inr h) = let q = rest h in (q.0, Memᴰ.tail q.1, q.2)

pub shown_named : (v : ℕ) (q : Proof) {ps : List Proof} → q ∈ ps → q.one.voter ≡ v → named ps v ≡ true
unfolding named
shown_named v q (Memᴰ.head {x = p} e) h = or_left _ _ (eq-eqb _ _ (sym (ap (λ r. r.one.voter) e) ∙ h))
shown_named v q (Memᴰ.tail m) h = or_right _ _ (shown_named v q m h)

pub named_in_words : NamedInWords
named_in_words ps v = (named_shown ps v, λ s. shown_named v s.0 s.1 s.2)
