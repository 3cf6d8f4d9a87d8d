-- The last number of which a test holds.
use Rattle.std.proofs.Common.{◌≡◌, ℕ, zero, suc, ◌<◌, ◌≤◌, Bool, true, false, cond, List, [], ◌∷◌, ◌++◌, length, get_or, Some, None, sym, refl, ap, ◌∙◌, subst, inl, inr, add-one, arith}
use Rattle.std.proofs.lemmas.List.{length_push, get_or_push, get_or_append_left}
use Rattle.std.proofs.lemmas.Bool.{cases_Bool, cases_lt, cond-true, cond-false, both_ways}
use Rattle.index.specs.Find.{last}
use Rattle.index.specs.Chains.{mark}

pub last_here : (p : ℕ → Bool) (n : ℕ) → p n ≡ true → last p (suc n) ≡ Some n
unfolding last
last_here p n h = cond-true (p n) (Some n) (last p n) h

pub last_back : (p : ℕ → Bool) (n : ℕ) → p n ≡ false → last p (suc n) ≡ last p n
unfolding last
last_back p n h = cond-false (p n) (Some n) (last p n) h

pub last_none : (p : ℕ → Bool) → last p 0 ≡ None
unfolding last
last_none p = refl

pub last_agrees : (p q : ℕ → Bool) (n : ℕ) → ((i : ℕ) → i < n → p i ≡ q i) → last p n ≡ last q n
unfolding last
last_agrees p q zero h = refl
last_agrees p q (suc n) h =
    let a = h n (omega arith) in let b = last_agrees p q n (λ i l. h i (omega arith)) in cc

pub last_le : (p : ℕ → Bool) (n : ℕ) → mark (last p n) ≤ n
last_le p zero = let a = ap mark (last_none p) in omega arith
last_le p (suc n) =
    elim (cases_Bool (p n)) [
      | inl h ↦ (let a = ap mark (last_here p n h) in omega arith)
      | inr h ↦ (let a = ap mark (last_back p n h) in let b = last_le p n in omega arith)
    ]

pub last_some : (p : ℕ → Bool) (n m : ℕ) → mark (last p n) ≡ suc m → (m < n) × (p m ≡ true)
last_some p zero m e = absurd (let a = ap mark (last_none p) in omega arith)
last_some p (suc n) m e =
    elim (cases_Bool (p n)) [
      | inl h ↦ (let a = ap mark (last_here p n h) in let s : n ≡ m = omega arith in (omega arith, subst (λ i. p i ≡ true) s h))
      | inr h ↦ (let a = last_some p n m (sym (ap mark (last_back p n h)) ∙ e) in (let b = a.0 in omega arith, a.1))
    ]

-- of no number from the last one on does the test hold
pub last_after : (p : ℕ → Bool) (n m : ℕ) → mark (last p n) ≤ m → m < n → p m ≡ false
last_after p zero m l h = absurd (omega arith)
last_after p (suc n) m l h =
    elim (cases_Bool (p n)) [
      | inl t ↦ absurd (let a = ap mark (last_here p n t) in omega arith)
      | inr f ↦
          elim (cases_lt m n) [
            | inl b ↦ last_after p n m (let a = ap mark (last_back p n f) in omega arith) b
            | inr b ↦ (let s : n ≡ m = omega arith in subst (λ i. p i ≡ false) s f)
          ]
    ]

-- numbers of which the test does not hold change nothing
pub last_stays : (p : ℕ → Bool) (m n : ℕ) → m ≤ n → ((i : ℕ) → m ≤ i → i < n → p i ≡ false) → last p n ≡ last p m
last_stays p m zero l h = ap (last p) (omega arith)
last_stays p m (suc n) l h =
    elim (cases_lt m (suc n)) [
      | inl b ↦ last_back p n (h n (omega arith) (omega arith)) ∙ last_stays p m n (omega arith) (λ i x y. h i x (omega arith))
      | inr b ↦ ap (last p) (omega arith)
    ]

pub last_zero : (p : ℕ → Bool) (n : ℕ) → ((i : ℕ) → i < n → p i ≡ false) → last p n ≡ None
last_zero p n h = last_stays p 0 n (omega arith) (λ i x y. h i y) ∙ last_none p

pub last_is : (p : ℕ → Bool) (n m : ℕ) → m < n → p m ≡ true → ((i : ℕ) → m < i → i < n → p i ≡ false) → last p n ≡ Some m
last_is p n m l t h = last_stays p (suc m) n (omega arith) (λ i x y. h i (omega arith) y) ∙ last_here p m t

-- where a test implies another, nothing is lost by going back to the last number of which the other holds
pub last_skips : (p q : ℕ → Bool) (n : ℕ) → ((i : ℕ) → i < n → p i ≡ true → q i ≡ true) → last p n ≡ last p (mark (last q n))
last_skips p q n h = last_stays p (mark (last q n)) n (last_le q n) between where
  between : (i : ℕ) → mark (last q n) ≤ i → i < n → p i ≡ false
  between i a b =
      elim (cases_Bool (p i)) [ inl t ↦ absurd (both_ways (q i) (last_after q n i a b) (h i b t)) | inr f ↦ f ]

-- a key that is added is no part of what came before
pub last_front : (f : List ℕ → Bool) (ks : List (List ℕ)) (d : List ℕ) (n : ℕ) → n ≤ length ks → last (λ i. f (get_or (ks ++ d ∷ []) i [])) n ≡ last (λ i. f (get_or ks i [])) n
last_front f ks d n l = last_agrees _ _ n (λ i h. ap f (get_or_append_left ks (d ∷ []) [] i (omega arith)))

pub last_push : (f : List ℕ → Bool) (ks : List (List ℕ)) (d : List ℕ) → last (λ i. f (get_or (ks ++ d ∷ []) i [])) (length (ks ++ d ∷ [])) ≡ cond (f d) (Some (length ks)) (last (λ i. f (get_or ks i [])) (length ks))
last_push f ks d = ap (last (λ i. f (get_or (ks ++ d ∷ []) i []))) long ∙ step where
  long : length (ks ++ d ∷ []) ≡ suc (length ks)
  long = length_push ks d ∙ add-one (length ks)

  new : f (get_or (ks ++ d ∷ []) (length ks) []) ≡ f d
  new = ap f (get_or_push ks d [] (length ks) refl)

  step : last (λ i. f (get_or (ks ++ d ∷ []) i [])) (suc (length ks)) ≡ cond (f d) (Some (length ks)) (last (λ i. f (get_or ks i [])) (length ks))
  step =
      elim (cases_Bool (f d)) [
        | inl t ↦ last_here (λ i. f (get_or (ks ++ d ∷ []) i [])) (length ks) (new ∙ t) ∙ sym (cond-true (f d) _ _ t)
        | inr e ↦ last_back (λ i. f (get_or (ks ++ d ∷ []) i [])) (length ks) (new ∙ e) ∙ last_front f ks d (length ks) (omega arith) ∙ sym (cond-false (f d) _ _ e)
      ]
