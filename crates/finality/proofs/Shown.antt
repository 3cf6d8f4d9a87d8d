-- Voters for two links that clash have broken the rules, and are shown by their two votes.
-- Assumes nothing.
use Rattle.std.proofs.Common.{◌≡◌, ℕ, ◌+◌, ◌<◌, ◌≤◌, min, Bool, true, eqb, ◌⊎◌, List, sym, refl, subst, inl, inr, ⊎_elim, arith}
use Rattle.std.proofs.lemmas.Bool.{and_from, and_parts, eq-eqb, leb-true}
use Rattle.finality.specs.declared.Link.{Link}
use Rattle.finality.specs.declared.Proof.{Proof}
use Rattle.finality.specs.declared.Vote.{Vote}
use Rattle.finality.specs.Tree.{Apart, Grown, Tree, Under}
use Rattle.finality.specs.Links.{Passing, clash}
use Rattle.finality.specs.Votes.{AllHold, Electorate, Final, Holds, Settled, Third, ThirdShown, ◌∈◌, both, breach, each}
use Rattle.finality.specs.Votes.{everyone, linked, named, vote, voted, weighed}
use Rattle.finality.specs.Safety.{ClashAt, FinalApartBy, NamesAll}
use Rattle.finality.proofs.Cast.{shown_named, voted_cast}
use Rattle.finality.proofs.Each.{each_of, in_each}
use Rattle.finality.proofs.Clashes.{above, apart, level}
use Rattle.finality.proofs.Trees.{under_or_not}
use Rattle.finality.proofs.Weights.{lighter, shared_third, shared_weight}

module _ (t : Tree) (xs : List Vote) (k l : Link) (c : clash t k l ≡ true) where
  -- who voted for both broke the rules by these two votes
  pub both_breach : (v : ℕ) → both (voted xs k) (voted xs l) v ≡ true →
      (vote v k ∈ xs) × (vote v l ∈ xs) × (breach t (vote v k) (vote v l) ≡ true)
  both_breach v e =
      let q = and_parts _ _ e in
      (voted_cast xs k v q.0, voted_cast xs l v q.1, and_from (eqb v v) (clash t k l) (eq-eqb v v refl) c)

  -- so by any weights those who broke the rules weigh what the two links have beyond the whole
  pub clash_weighs : (n : ℕ) (w : ℕ → ℕ) (p : ℕ → Bool) → NamesAll t xs p →
      weighed n w (voted xs k) + weighed n w (voted xs l) ≤ weighed n w everyone + weighed n w p
  clash_weighs n w p all =
      let s = shared_weight n w (voted xs k) (voted xs l) in
      let h : (v : ℕ) → v < n → both (voted xs k) (voted xs l) v ≡ true → p v ≡ true =
      λ v i e. let b = both_breach v e in all (vote v k) (vote v l) b.0 b.1 b.2 in
      let m = lighter n w (both (voted xs k) (voted xs l)) p h in
      omega arith

  shown : ℕ → Proof
  shown v = record { one = vote v k; other = vote v l }

  -- a proof for each voter below n who voted for both
  proofs : ℕ → List Proof
  proofs n = each n (both (voted xs k) (voted xs l)) shown

  all_hold : (n : ℕ) → AllHold t xs (proofs n)
  unfolding proofs shown
  all_hold n p m =
      let o = each_of (both (voted xs k) (voted xs l)) shown n p m in
      let b = both_breach o.0 o.1 in
      subst (Holds t xs) (sym o.2) (record { one = b.0; other = b.1; breach = b.2 })

  all_named : (n v : ℕ) → v < n → both (voted xs k) (voted xs l) v ≡ true → named (proofs n) v ≡ true
  unfolding proofs shown
  all_named n v i e = shown_named v (shown v) (in_each (both (voted xs k) (voted xs l)) shown n v i e) refl

-- Links that clash at a height, where each link that spans it has a quorum by the weights of vs.
module _ (t : Tree) (vs : Electorate) (xs : List Vote) (L : Link → Type 0) (h : ℕ)
    (quorate : (k : Link) → L k → t.height k.source ≤ h → h ≤ t.height k.target → linked vs xs k ≡ true)
    (c : ClashAt t L h) where
  one_linked : linked vs xs c.one ≡ true
  one_linked = quorate c.one c.made.0 c.starts.0 c.ends.0

  other_linked : linked vs xs c.other ≡ true
  other_linked = quorate c.other c.made.1 c.starts.1 c.ends.1

  third_both : Third vs (both (voted xs c.one) (voted xs c.other))
  third_both = shared_third vs (voted xs c.one) (voted xs c.other) one_linked other_linked

  pub third_named : (p : ℕ → Bool) → NamesAll t xs p → Third vs p
  third_named p all =
      let a = leb-true _ _ one_linked in
      let b = leb-true _ _ other_linked in
      let w = clash_weighs t xs c.one c.other c.clash vs.count vs.weight p all in
      omega arith

  pub third_shown : ThirdShown t vs xs
  third_shown =
      let ps = proofs t xs c.one c.other c.clash vs.count in
      let e = lighter vs.count vs.weight _ (named ps) (all_named t xs c.one c.other c.clash vs.count) in
      record {
        proofs = ps;
        hold = all_hold t xs c.one c.other c.clash vs.count;
        third = omega (arith, third_both);
      }

-- The links that two thirds make by these very weights.
module _ (t : Tree) (g : Grown t) (vs : Electorate) (xs : List Vote) where
  abbrev Made : Link → Type 0
  Made = Passing (linked vs xs)

  shows : {h : ℕ} → ClashAt t Made h → ThirdShown t vs xs
  shows {h} = third_shown t vs xs Made h (λ k l i j. l)

  pub one_a_height : (a b : ℕ) → Settled t vs xs a → Settled t vs xs b → (a ≡ b → ⊥) → t.height a ≡ t.height b →
      ThirdShown t vs xs
  one_a_height a b p q n e = shows (level t g Made a b p q n e)

  pub on_top : (a b : ℕ) → Final t vs xs a → Settled t vs xs b → t.height a ≤ t.height b → Under t a b ⊎ ThirdShown t vs xs
  on_top a b f q high = ⊎_elim inl (λ aside. inr (shows (above t g Made a b f q high aside))) (under_or_not t g a b)

  pub final_apart : (a b : ℕ) → Final t vs xs a → Final t vs xs b → Apart t a b → ThirdShown t vs xs
  final_apart a b f h n = shows (apart t g Made a b f h n)

  pub all_named_third : (a b : ℕ) → Final t vs xs a → Final t vs xs b → Apart t a b → (p : ℕ → Bool) → NamesAll t xs p → Third vs p
  all_named_third a b f h n = third_named t vs xs Made _ (λ k l i j. l) (apart t g Made a b f h n)

pub final_apart_by : FinalApartBy
final_apart_by t g l a b f h n vs xs quorate =
    third_shown t vs xs (Passing l) (min (t.height a) (t.height b)) quorate (apart t g (Passing l) a b f h n)
