-- Votes that rise break no rule, and whoever broke none is not named.
-- Assumes nothing.
use Rattle.std.proofs.Common.{◌≡◌, ℕ, ◌<◌, true, false, ◌&&◌, eqb, ◌⊎◌, ◌↔◌, List, [], ◌∷◌, sym, refl, ap, ◌∙◌, subst, inl, inr, ⊎_elim, arith}
use mathlib.Core.Bool.{and_assoc, and-true}
use mathlib.Core.List.Memᴰ
use Rattle.std.proofs.lemmas.Bool.{and_from, and_left, and_parts, and_right, both_ways, cases_Bool, eqb-true, leb-true, lt-ltb, ltb-true}
use Rattle.finality.specs.declared.Proof.{Proof}
use Rattle.finality.specs.declared.Vote.{Vote}
use Rattle.finality.specs.Tree.{Tree}
use Rattle.finality.specs.Links.{clash}
use Rattle.finality.specs.Votes.{AllHold, ◌∈◌, breach, named}
use Rattle.finality.specs.Guard.{after, bare, follows, guard_of, lets, rising, rising_from, signs, source_height, target_height}
use Rattle.finality.specs.Conduct.{Clean, SignsNext}
use Rattle.finality.proofs.Cast.{named_shown}
use Rattle.finality.proofs.Breaches.{Before, refuted, after_free, before_free, same_free}

module _ (t : Tree) where
  follows_to : (x y : Vote) → follows t x y ≡ true → Before t x.link y.link
  follows_to x y e =
      let p = and_parts _ _ e in record { low = leb-true _ _ p.0; high = ltb-true _ _ p.1 }

  -- the first of rising votes comes before each of the others
  first_before : (ys : List Vote) (x y : Vote) → rising_from t x ys ≡ true → y ∈ ys → Before t x.link y.link
  unfolding rising_from
  first_before [] x y r m = absurd (Memᴰ.not-nil m)
  first_before (z ∷ zs) x y r m =
      let p = and_parts _ _ r in
      let b = follows_to x z p.0 in
      ⊎_elim (λ e. subst (λ w. Before t x.link w.link) (sym e) b)
      (λ h. let c = first_before zs z y p.1 h in record { low = omega arith; high = omega arith }) (Memᴰ.cases_cons m)

  -- of two rising votes one is the other, or comes before it
  by_place : (ys : List Vote) (z x y : Vote) → rising_from t z ys ≡ true →
      (x ∈ ys → y ∈ ys → clash t x.link y.link ≡ false) → (x ≡ z) ⊎ (x ∈ ys) → (y ≡ z) ⊎ (y ∈ ys) →
      clash t x.link y.link ≡ false
  by_place ys z x y r rest (inl e) (inl f) = same_free t x.link y.link (ap (λ w. w.link) (e ∙ sym f))
  by_place ys z x y r rest (inl e) (inr n) =
      before_free t x.link y.link (subst (λ w. Before t w.link y.link) (sym e) (first_before ys z y r n))
  by_place ys z x y r rest (inr m) (inl f) =
      after_free t x.link y.link (subst (λ w. Before t w.link x.link) (sym f) (first_before ys z x r m))
  by_place ys z x y r rest (inr m) (inr n) = rest m n

  rising_free : (ys : List Vote) (z x y : Vote) → rising_from t z ys ≡ true → x ∈ (z ∷ ys) → y ∈ (z ∷ ys) →
      clash t x.link y.link ≡ false
  unfolding rising_from
  rising_free [] z x y r m n =
      by_place [] z x y r (λ k. absurd (Memᴰ.not-nil k)) (Memᴰ.cases_cons m) (Memᴰ.cases_cons n)
  rising_free (w ∷ ws) z x y r m n =
      let p = and_parts _ _ r in
      by_place (w ∷ ws) z x y r (rising_free ws w x y p.1) (Memᴰ.cases_cons m) (Memᴰ.cases_cons n)

  pub clear : (x y : Vote) → clash t x.link y.link ≡ false → breach t x y ≡ false
  clear x y e = and_right (eqb x.voter y.voter) _ e

  pub rising_is_clean : (xs : List Vote) → rising t xs ≡ true → Clean t xs
  rising_is_clean [] r = λ x y m n. absurd (Memᴰ.not-nil m)
  rising_is_clean (z ∷ zs) r = λ x y m n. clear x y (rising_free zs z x y r m n)

  -- the vote goes up
  Up : Vote → Type 0
  Up x = source_height t x < target_height t x

  up_all : (y : Vote) (ys : List Vote) → Up y → ((x : Vote) → x ∈ ys → Up x) → (x : Vote) → x ∈ (y ∷ ys) → Up x
  up_all y ys u us x m = ⊎_elim (λ e. subst Up (sym e) u) (us x) (Memᴰ.cases_cons m)

  signed_rises : (x : Vote) (ys : List Vote) → signs t (after t x) ys ≡ true →
      (rising_from t x ys ≡ true) × ((y : Vote) → y ∈ ys → Up y)
  unfolding signs rising_from Up
  signed_rises x [] e = (refl, λ y m. absurd (Memᴰ.not-nil m))
  signed_rises x (y ∷ ys) e =
      let p = and_parts _ _ e in
      let q = and_parts _ _ p.0 in
      let r = signed_rises y ys p.1 in
      (and_from _ _ q.1 r.0, up_all y ys (ltb-true _ _ q.0) r.1)

  risen_signed : (x : Vote) (ys : List Vote) → rising_from t x ys ≡ true → ((y : Vote) → y ∈ ys → Up y) →
      signs t (after t x) ys ≡ true
  unfolding signs rising_from Up
  risen_signed x [] r u = refl
  risen_signed x (y ∷ ys) r u =
      let p = and_parts _ _ r in
      and_from _ _ (and_from _ _ (lt-ltb _ _ (u y (Memᴰ.head refl))) p.0)
      (risen_signed y ys p.1 (λ z m. u z (Memᴰ.tail m)))

  pub signs_rising : (xs : List Vote) → (signs t bare xs ≡ true) ↔
      ((rising t xs ≡ true) × ((x : Vote) → x ∈ xs → source_height t x < target_height t x))
  unfolding signs Up
  signs_rising [] = (λ e. (refl, λ y m. absurd (Memᴰ.not-nil m)), λ e. refl)
  signs_rising (x ∷ xs) = (there, back)
    where
      there : signs t bare (x ∷ xs) ≡ true → (rising_from t x xs ≡ true) × ((y : Vote) → y ∈ (x ∷ xs) → Up y)
      there e =
          let p = and_parts _ _ e in
          let q = and_parts _ _ p.0 in
          let r = signed_rises x xs p.1 in
          (r.0, up_all x xs (ltb-true _ _ q.0) r.1)

      back : (rising_from t x xs ≡ true) × ((y : Vote) → y ∈ (x ∷ xs) → Up y) → signs t bare (x ∷ xs) ≡ true
      back r =
          and_from _ _ (and_from _ _ (lt-ltb _ _ (r.1 x (Memᴰ.head refl))) refl)
          (risen_signed x xs r.0 (λ y m. r.1 y (Memᴰ.tail m)))

  pub signed_is_clean : (xs : List Vote) → signs t bare xs ≡ true → Clean t xs
  signed_is_clean xs e = rising_is_clean xs ((signs_rising xs).0 e).0

  pub clean_not_named : (xs : List Vote) (v : ℕ) → ((x y : Vote) → x ∈ xs → y ∈ xs → x.voter ≡ v → breach t x y ≡ false) →
      (ps : List Proof) → AllHold t xs ps → named ps v ≡ false
  clean_not_named xs v clean ps hold = refuted (named ps v) shown
    where
      shown : named ps v ≡ true → ⊥
      shown e =
          let p = named_shown ps v e in
          let h = hold p.0 p.1 in
          both_ways _ (clean p.0.one p.0.other h.one h.other p.2) h.breach

  pub signed_not_named : (xs : List Vote) (v : ℕ) (ss : List Vote) → signs t bare ss ≡ true →
      ((x : Vote) → x ∈ xs → x.voter ≡ v → x ∈ ss) → (ps : List Proof) → AllHold t xs ps → named ps v ≡ false
  signed_not_named xs v ss s all = clean_not_named xs v clean
    where
      clean : (x y : Vote) → x ∈ xs → y ∈ xs → x.voter ≡ v → breach t x y ≡ false
      clean x y m n e = ⊎_elim own (and_left (eqb x.voter y.voter) _) (cases_Bool (eqb x.voter y.voter))
        where
          own : eqb x.voter y.voter ≡ true → breach t x y ≡ false
          own o = signed_is_clean ss s x y (all x m e) (all y n (sym (eqb-true x.voter y.voter o) ∙ e))

pub signs_next : SignsNext
unfolding signs guard_of
signs_next t g [] x = and-true _
signs_next t g (y ∷ ys) x =
    let first = lets g (source_height t y) (target_height t y) in
    let next = lets (guard_of t (after t y) ys) (source_height t x) (target_height t x) in
    ap (λ b. first && b) (signs_next t (after t y) ys x) ∙ sym (and_assoc first (signs t (after t y) ys) next)
