-- What lies under what.
-- Assumes nothing.
use Rattle.std.proofs.Common.{◌≡◌, ℕ, zero, suc, ◌<◌, ◌≤◌, ◌⊎◌, sym, refl, subst, inl, inr, ⊎_elim, le_refl, arith}
use Rattle.std.proofs.lemmas.Bool.{cases_eq, cases_lt}
use Rattle.finality.specs.Tree.{Grown, Tree, Under, down, self}

module _ (t : Tree) where
  pub under_trans : {a b c : ℕ} → Under t a b → Under t b c → Under t a c
  under_trans {a} h (self e) = subst (Under t a) e h
  under_trans h (down i k) = down i (under_trans h k)

  pub right_under : {a d : ℕ} → 1 ≤ d → t.parent d ≡ a → Under t a d
  right_under i e = down i (self (sym e))

  -- the two ways to lie under a page
  pub under_to : {a b : ℕ} → Under t a b → (a ≡ b) ⊎ ((1 ≤ b) × Under t a (t.parent b))
  under_to (self e) = inl e
  under_to (down i h) = inr (i, h)

  module _ (g : Grown t) where
    -- page 0 lies under every page, by at most n steps down
    under_first : (n b : ℕ) → t.height b ≤ n → Under t 0 b
    under_first n zero h = self refl
    under_first zero (suc b) h = absurd (omega (arith, g.up (suc b) (omega arith)))
    under_first (suc n) (suc b) h =
        down (omega arith) (under_first n (t.parent (suc b)) (omega (arith, g.up (suc b) (omega arith))))

    pub first_under : (b : ℕ) → Under t 0 b
    first_under b = under_first (t.height b) b (le_refl (t.height b))

    -- a page of height 0 is page 0
    pub lowest : (a : ℕ) → t.height a ≡ 0 → a ≡ 0
    lowest zero e = refl
    lowest (suc a) e = absurd (omega (arith, g.up (suc a) (omega arith)))

    -- so a page that doesn't lie under some other is higher
    pub above_first : (a b : ℕ) → (Under t a b → ⊥) → 0 < t.height a
    above_first a b n = ⊎_elim (λ h. h) (λ h. absurd (n (first h))) (cases_lt 0 (t.height a))
      where
        first : t.height a ≤ 0 → Under t a b
        first h =
            let e : a ≡ 0 = lowest a (omega arith) in
            subst (λ x. Under t x b) (sym e) (first_under b)

    -- whether a lies under b is found by at most n steps down
    under_within : (n a b : ℕ) → t.height b ≤ n → Under t a b ⊎ (Under t a b → ⊥)
    under_within n a zero h = ⊎_elim (λ e. inl (self e)) (λ d. inr (λ u. d (at_first u))) (cases_eq a 0)
      where
        at_first : Under t a 0 → a ≡ 0
        at_first u = ⊎_elim (λ e. e) (λ k. absurd (omega arith)) (under_to u)
    under_within zero a (suc b) h = absurd (omega (arith, g.up (suc b) (omega arith)))
    under_within (suc n) a (suc b) h =
        let low : t.height (t.parent (suc b)) ≤ n = omega (arith, g.up (suc b) (omega arith)) in
        ⊎_elim (λ e. inl (self e)) (further (under_within n a (t.parent (suc b)) low)) (cases_eq a (suc b))
      where
        further : Under t a (t.parent (suc b)) ⊎ (Under t a (t.parent (suc b)) → ⊥) → (a ≡ suc b → ⊥) →
            Under t a (suc b) ⊎ (Under t a (suc b) → ⊥)
        further (inl u) d = inl (down (omega arith) u)
        further (inr n) d = inr (λ u. ⊎_elim d (λ k. n k.1) (under_to u))

    pub under_or_not : (a b : ℕ) → Under t a b ⊎ (Under t a b → ⊥)
    under_or_not a b = under_within (t.height b) a b (le_refl (t.height b))
