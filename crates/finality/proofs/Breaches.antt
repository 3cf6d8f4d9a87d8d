-- The rules on two links, the quorum and the guard's rule: what the tests say in words.
-- Assumes nothing.
use Rattle.std.proofs.Common.{◌≡◌, ◌<◌, ◌≤◌, Bool, true, false, not, ◌||◌, ◌⊎◌, refl, ap, inl, inr, ⊎_elim, arith}
use Rattle.std.proofs.lemmas.Bool.{and_from, and_parts, eq-eqb, eqb-false, eqb-true, lt-ltb, ltb-true, le-leb, leb-true, ne_eqb, not-true, or_cases, or_left, or_right}
use Rattle.finality.specs.declared.Link.{Link}
use Rattle.finality.specs.Tree.{Tree}
use Rattle.finality.specs.Votes.{BreachInWords, QuorumInWords}
use Rattle.finality.specs.Guard.{LetsInWords, lets}
use Rattle.finality.specs.Links.{Around, Twice, around, clash, twice}

-- a test that can't hold fails
pub refuted : (b : Bool) → (b ≡ true → ⊥) → b ≡ false
refuted true n = absurd (n refl)
refuted false n = refl

module _ (t : Tree) where
  pub twice_from : (k l : Link) → Twice t k l → twice t k l ≡ true
  twice_from k l h =
      and_from _ _ (ap not (ne_eqb _ _ h.differ)) (eq-eqb _ _ h.level)

  pub twice_to : (k l : Link) → twice t k l ≡ true → Twice t k l
  twice_to k l e =
      let p = and_parts _ _ e in record { differ = eqb-false _ _ (not-true _ p.0); level = eqb-true _ _ p.1 }

  pub around_from : (k l : Link) → Around t k l → around t k l ≡ true
  around_from k l h =
      and_from _ _ (and_from _ _ (lt-ltb _ _ h.lower) (lt-ltb _ _ h.rises)) (lt-ltb _ _ h.higher)

  pub around_to : (k l : Link) → around t k l ≡ true → Around t k l
  around_to k l e =
      let p = and_parts _ _ e in
      let q = and_parts _ _ p.0 in
      record { lower = ltb-true _ _ q.0; rises = ltb-true _ _ q.1; higher = ltb-true _ _ p.1 }

  pub clash_twice : (k l : Link) → twice t k l ≡ true → clash t k l ≡ true
  clash_twice k l e = or_left _ (around t l k) (or_left (twice t k l) (around t k l) e)

  pub clash_around : (k l : Link) → around t k l ≡ true → clash t k l ≡ true
  clash_around k l e = or_left _ (around t l k) (or_right (twice t k l) (around t k l) e)

  pub clash_to : (k l : Link) → clash t k l ≡ true → Twice t k l ⊎ (Around t k l ⊎ Around t l k)
  clash_to k l e = outer (or_cases _ _ e)
    where
      inner : (twice t k l ≡ true) ⊎ (around t k l ≡ true) → Twice t k l ⊎ (Around t k l ⊎ Around t l k)
      inner (inl h) = inl (twice_to k l h)
      inner (inr h) = inr (inl (around_to k l h))

      outer : ((twice t k l || around t k l) ≡ true) ⊎ (around t l k ≡ true) → Twice t k l ⊎ (Around t k l ⊎ Around t l k)
      outer (inl h) = inner (or_cases _ _ h)
      outer (inr h) = inr (inr (around_to l k h))

  clash_from : (k l : Link) → Twice t k l ⊎ (Around t k l ⊎ Around t l k) → clash t k l ≡ true
  clash_from k l (inl h) = clash_twice k l (twice_from k l h)
  clash_from k l (inr (inl h)) = clash_around k l (around_from k l h)
  clash_from k l (inr (inr h)) = or_right (twice t k l || around t k l) (around t l k) (around_from l k h)

  -- the link k has a source that isn't higher, and a target that is lower, than l's
  pub record Before (k l : Link) : Type 0 where
    pub low : t.height k.source ≤ t.height l.source
    pub high : t.height k.target < t.height l.target

  -- two links don't clash if neither rule fits
  unclashed : (k l : Link) → (Twice t k l → ⊥) → (Around t k l → ⊥) → (Around t l k → ⊥) → clash t k l ≡ false
  unclashed k l level outer inner = refuted _ (λ e. ⊎_elim level (⊎_elim outer inner) (clash_to k l e))

  pub before_free : (k l : Link) → Before k l → clash t k l ≡ false
  before_free k l b = unclashed k l (λ h. omega arith) (λ h. omega arith) (λ h. omega arith)

  pub after_free : (k l : Link) → Before l k → clash t k l ≡ false
  after_free k l b = unclashed k l (λ h. omega arith) (λ h. omega arith) (λ h. omega arith)

  pub same_free : (k l : Link) → k ≡ l → clash t k l ≡ false
  same_free k l s =
      let low : t.height k.source ≡ t.height l.source = ap (λ m. t.height m.source) s in
      unclashed k l (λ h. h.differ (ap (λ m. m.target) s)) (λ h. omega arith) (λ h. omega arith)

pub breach_in_words : BreachInWords
breach_in_words t x y = (
  λ e. let p = and_parts _ _ e in (eqb-true _ _ p.0, clash_to t x.link y.link p.1),
  λ w. and_from _ _ (eq-eqb _ _ w.0) (clash_from t x.link y.link w.1),
)

pub quorum_in_words : QuorumInWords
quorum_in_words part whole = (leb-true _ _, le-leb _ _)

pub lets_in_words : LetsInWords
lets_in_words g s t = (there, back)
  where
    there : lets g s t ≡ true → (s < t) × ((g.fresh ≡ true) ⊎ ((g.source ≤ s) × (g.target < t)))
    there e =
        let p = and_parts _ _ e in (
          ltb-true _ _ p.0,
          ⊎_elim inl (λ h. let q = and_parts _ _ h in inr (leb-true _ _ q.0, ltb-true _ _ q.1)) (or_cases _ _ p.1),
        )

    back : (s < t) × ((g.fresh ≡ true) ⊎ ((g.source ≤ s) × (g.target < t))) → lets g s t ≡ true
    back w =
        and_from _ _ (lt-ltb _ _ w.0)
        (⊎_elim (or_left g.fresh _) (λ p. or_right g.fresh _ (and_from _ _ (le-leb _ _ p.0) (lt-ltb _ _ p.1))) w.1)
