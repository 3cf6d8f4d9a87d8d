-- Voters who keep the rules and are two thirds can go on: a vote of each, above all that it signed, from a settled page.
-- Assumes nothing.
use Rattle.std.proofs.Common.{◌≡◌, ℕ, ◌<◌, ◌≤◌, Bool, true, false, ◌⊎◌, List, [], ◌∷◌, ◌++◌, sym, refl, ap, ◌∙◌, subst, inl, inr, ⊎_elim, arith}
use mathlib.Core.List.Memᴰ
use Rattle.std.proofs.lemmas.Bool.{le-leb}
use Rattle.finality.specs.declared.Link.{Link}
use Rattle.finality.specs.declared.Vote.{Vote}
use Rattle.finality.specs.Tree.{Tree}
use Rattle.finality.specs.Links.{link, next}
use Rattle.finality.specs.Votes.{Electorate, Settled, ◌∈◌, breach, linked, vote, voted}
use Rattle.finality.specs.Guard.{Guard, after, bare, guard_of}
use Rattle.finality.specs.Conduct.{BallotsAreTheirs, Clean, Keepers, KeepersBegin, NeverCornered, also, ballots, may_vote}
use Rattle.finality.specs.Conduct.{with_ballots}
use Rattle.finality.proofs.Cast.{cast_voted}
use Rattle.finality.proofs.Each.{each_of, in_each}
use Rattle.finality.proofs.Growing.{more_votes}
use Rattle.finality.proofs.Keeping.{clear}
use Rattle.finality.proofs.Breaches.{Before, after_free, before_free, lets_in_words, same_free}
use Rattle.finality.proofs.Weights.{quorum_within}

-- each of the ballots is a vote for the link by one of the voters
ballots_of : (vs : Electorate) (h : ℕ → Bool) (k : Link) (x : Vote) → x ∈ ballots vs h k →
    (h x.voter ≡ true) × (x ≡ vote x.voter k)
ballots_of vs h k x m =
    let o = each_of h (λ v. vote v k) vs.count x m in
    (ap (λ y. h y.voter) o.2 ∙ o.1, o.2 ∙ sym (ap (λ y. vote y.voter k) o.2))

pub ballots_are_theirs : BallotsAreTheirs
ballots_are_theirs vs h k x m = let p = ballots_of vs h k x m in (p.0, ap (λ y. y.link) p.1)

pub keepers_begin : KeepersBegin
keepers_begin t vs =
    record {
      most = le-leb _ _ (omega arith);
      all = λ x m e. absurd (Memᴰ.not-nil m);
      from = λ v e x m. absurd (Memᴰ.not-nil m);
      clean = λ v e x y m n. absurd (Memᴰ.not-nil m);
    }

module _ (t : Tree) where
  -- the link k comes after all the votes
  abbrev Above : List Vote → Link → Type 0
  Above xs k = (x : Vote) → x ∈ xs → Before t x.link k

  -- the guard has signed nothing yet, or its last vote comes before k
  abbrev Ready : Guard → Link → Type 0
  Ready g k = (g.fresh ≡ true) ⊎ ((g.source ≤ t.height k.source) × (g.target < t.height k.target))

  ready_after : (xs : List Vote) (g : Guard) (k : Link) → Ready g k → Above xs k → Ready (guard_of t g xs) k
  unfolding guard_of
  ready_after [] g k r h = r
  ready_after (x ∷ xs) g k r h =
      let b = h x (Memᴰ.head refl) in
      ready_after xs (after t x) k (inr (b.low, b.high)) (λ y m. h y (Memᴰ.tail m))

  above_lets : (signed : ℕ → List Vote) (k : Link) (v : ℕ) → Above (signed v) k → t.height k.source < t.height k.target →
      may_vote t signed k v ≡ true
  above_lets signed k v h up = (lets_in_words _ _ _).1 (up, ready_after (signed v) bare k (inl refl) h)

  -- a vote above clean ones leaves them clean
  clean_also : (xs : List Vote) (v : ℕ) (k : Link) → Clean t xs → Above xs k → Clean t (xs ++ vote v k ∷ [])
  clean_also xs v k clean h x y m n = by_place (Memᴰ.append_cases xs m) (Memᴰ.append_cases xs n)
    where
      new : {z : Vote} → z ∈ (vote v k ∷ []) → z.link ≡ k
      new m = ap (λ z. z.link) (Memᴰ.eq_of_singleton m)

      by_place : (x ∈ xs) ⊎ (x ∈ (vote v k ∷ [])) → (y ∈ xs) ⊎ (y ∈ (vote v k ∷ [])) → breach t x y ≡ false
      by_place (inl p) (inl q) = clean x y p q
      by_place (inl p) (inr q) =
          clear t x y (before_free t x.link y.link (subst (Before t x.link) (sym (new q)) (h x p)))
      by_place (inr p) (inl q) =
          clear t x y (after_free t x.link y.link (subst (Before t y.link) (sym (new p)) (h y q)))
      by_place (inr p) (inr q) = clear t x y (same_free t x.link y.link (new p ∙ sym (new q)))

  module _ (vs : Electorate) (xs : List Vote) (h : ℕ → Bool) (signed : ℕ → List Vote) (c : Keepers t vs xs h signed)
      (k : Link) where
    more : (a : ℕ) → Settled t vs xs a → Settled t vs (with_ballots vs h k xs) a
    more a = (more_votes t vs xs (with_ballots vs h k xs) (λ x m. Memᴰ.append_right (ballots vs h k) m) a).0

    ballots_link : linked vs (with_ballots vs h k xs) k ≡ true
    ballots_link =
        quorum_within vs h (voted (with_ballots vs h k xs) k)
        (λ v i e. cast_voted k v (Memᴰ.append_left xs (in_each h (λ w. vote w k) vs.count v i e))) c.most

    -- a vote of each from a settled page, above all that it signed
    ballots_keep : Settled t vs xs k.source → ((v : ℕ) → h v ≡ true → Above (signed v) k) →
        Keepers t vs (with_ballots vs h k xs) h (also signed k)
    ballots_keep s high =
        record { most = c.most; all = all; from = from; clean = λ v e. clean_also (signed v) v k (c.clean v e) (high v e) }
      where
        all : (x : Vote) → x ∈ with_ballots vs h k xs → h x.voter ≡ true → x ∈ also signed k x.voter
        all x m e =
            ⊎_elim (λ n. Memᴰ.append_right (signed x.voter) (Memᴰ.head (ballots_of vs h k x n).1))
            (λ n. Memᴰ.append_left (vote x.voter k ∷ []) (c.all x n e)) (Memᴰ.append_cases (ballots vs h k) m)

        from : (v : ℕ) → h v ≡ true → (x : Vote) → x ∈ also signed k v → Settled t vs (with_ballots vs h k xs) x.link.source
        from v e x m =
            ⊎_elim (λ n. more x.link.source (c.from v e x n)) new (Memᴰ.append_cases (signed v) m)
          where
            new : x ∈ (vote v k ∷ []) → Settled t vs (with_ballots vs h k xs) x.link.source
            new n =
                let q = ap (λ y. y.link.source) (Memᴰ.eq_of_singleton n) in
                subst (Settled t vs (with_ballots vs h k xs)) (sym q) (more k.source s)

pub never_cornered : NeverCornered
never_cornered t g vs xs h signed keepers a s top c d on up i right bound =
    record {
      first = λ v e. above_lets t signed (link a c) v (high v e) up;
      second = λ v e. above_lets t (also signed (link a c)) (link c d) v (higher v e) tall;
      keep = ballots_keep t vs (with_ballots vs h (link a c) xs) h (also signed (link a c)) kept (link c d) settled higher;
      final =
          record {
            settled = more t vs (with_ballots vs h (link a c) xs) h (also signed (link a c)) kept (link c d) c settled;
            top = d;
            later = i;
            on = right;
            linked = ballots_link t vs (with_ballots vs h (link a c) xs) h (also signed (link a c)) kept (link c d);
          };
    }
  where
    tall : t.height c < t.height d
    tall = omega (arith, g.up d i, ap t.height right)

    high : (v : ℕ) → h v ≡ true → Above t (signed v) (link a c)
    high v e x m = record { low = top x.link.source (keepers.from v e x m); high = omega (arith, bound v e x m) }

    higher : (v : ℕ) → h v ≡ true → Above t (also signed (link a c) v) (link c d)
    higher v e x m = ⊎_elim old new (Memᴰ.append_cases (signed v) m)
      where
        old : x ∈ signed v → Before t x.link (link c d)
        old n = let b = high v e x n in record { low = omega arith; high = omega (arith, tall) }

        new : x ∈ (vote v (link a c) ∷ []) → Before t x.link (link c d)
        new n =
            let e = Memᴰ.eq_of_singleton n in
            subst (λ y. Before t y.link (link c d)) (sym e) (record { low = omega arith; high = tall })

    kept : Keepers t vs (with_ballots vs h (link a c) xs) h (also signed (link a c))
    kept = ballots_keep t vs xs h signed keepers (link a c) s high

    settled : Settled t vs (with_ballots vs h (link a c) xs) c
    settled =
        next a (more t vs xs h signed keepers (link a c) a s) (record { under = on; higher = up })
        (ballots_link t vs xs h signed keepers (link a c))
