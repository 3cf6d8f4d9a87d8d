-- A list with something for each voter for whom a test holds.
-- Assumes nothing.
use Rattle.std.proofs.Common.{◌≡◌, ℕ, zero, suc, ◌<◌, Bool, true, false, cond, ◌∷◌, refl, ap, subst, ⊎_elim, arith}
use mathlib.Core.List.Memᴰ
use Rattle.std.proofs.lemmas.Bool.{cases_eq, false≢true}
use Rattle.finality.specs.Votes.{◌∈◌, each}

module _ {A : Type 0} (p : ℕ → Bool) (f : ℕ → A) where
  -- whatever is in it is there for one of them
  pub each_of : (n : ℕ) (x : A) → x ∈ each n p f → (v : ℕ) × (p v ≡ true) × (x ≡ f v)
  unfolding each
  each_of zero x m = absurd (Memᴰ.not-nil m)
  each_of (suc n) x m = by_test (p n) refl m (each_of n x)
    where
      by_test : (b : Bool) → p n ≡ b → x ∈ cond b (f n ∷ each n p f) (each n p f) →
          (x ∈ each n p f → (v : ℕ) × (p v ≡ true) × (x ≡ f v)) → (v : ℕ) × (p v ≡ true) × (x ≡ f v)
      by_test true e m rest = ⊎_elim (λ h. (n, e, h)) rest (Memᴰ.cases_cons m)
      by_test false e m rest = rest m

  -- and for each of them there is something
  pub in_each : (n v : ℕ) → v < n → p v ≡ true → f v ∈ each n p f
  unfolding each
  in_each zero v i e = absurd (omega arith)
  in_each (suc n) v i e =
      ⊎_elim (λ h. here (p n) (subst (λ w. p w ≡ true) h e) h) (λ d. before (p n) (in_each n v (omega arith) e)) (cases_eq v n)
    where
      here : (b : Bool) → b ≡ true → v ≡ n → f v ∈ cond b (f n ∷ each n p f) (each n p f)
      here true t h = Memᴰ.head (ap f h)
      here false t h = absurd (false≢true t)

      before : (b : Bool) → f v ∈ each n p f → f v ∈ cond b (f n ∷ each n p f) (each n p f)
      before true m = Memᴰ.tail m
      before false m = m
