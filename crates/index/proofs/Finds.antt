-- What the number that is found says of the keys, and what is found after a key is added.
use Rattle.std.proofs.Common.{◌≡◌, ℕ, ◌<◌, Bool, true, false, List, [], ◌∷◌, ◌++◌, length, get_or, is_some, Some, None, Option, refl, ap, ◌∙◌, inl, inr, arith}
use Rattle.std.specs.Str.{bytes_eq}
use Rattle.std.proofs.lemmas.Slice.Eq.{bytes_eq-Decides}
use Rattle.std.proofs.lemmas.Bool.{cases_Bool, cond-true, cond-false, both_ways}
use Rattle.index.specs.Find.{last, find, LastAt, Nowhere, FindsLast}
use Rattle.index.specs.Chains.{mark}
use Rattle.index.proofs.Lasts.{last_some, last_after, last_zero, last_is, last_push}

-- key i equals d
abbrev pub same : List (List ℕ) → List ℕ → ℕ → Bool
same ks d i = bytes_eq (get_or ks i []) d

pub same_from : (a b : List ℕ) → a ≡ b → bytes_eq a b ≡ true
same_from a b e = (bytes_eq-Decides a b).1 e

pub same_not : (a b : List ℕ) → (a ≡ b → ⊥) → bytes_eq a b ≡ false
same_not a b h = elim (cases_Bool (bytes_eq a b)) [ inl t ↦ absurd (h ((bytes_eq-Decides a b).0 t)) | inr f ↦ f ]

pub not_same : (a b : List ℕ) → bytes_eq a b ≡ false → a ≡ b → ⊥
not_same a b f e = both_ways (bytes_eq a b) f (same_from a b e)

pub find_is : (ks : List (List ℕ)) (d : List ℕ) → find ks d ≡ last (same ks d) (length ks)
unfolding find
find_is ks d = refl

found_last : (ks : List (List ℕ)) (d : List ℕ) (n : ℕ) → find ks d ≡ Some n → LastAt ks d n
unfolding find
found_last ks d n e =
    let s = last_some (same ks d) (length ks) n (ap mark e) in
    record {
      within = s.0;
      equal = (bytes_eq-Decides (get_or ks n []) d).0 s.1;
      after = λ m a b. not_same (get_or ks m []) d (last_after (same ks d) (length ks) m (let l = ap mark e in omega arith) b);
    }

last_found : (ks : List (List ℕ)) (d : List ℕ) (n : ℕ) → LastAt ks d n → find ks d ≡ Some n
unfolding find
last_found ks d n h =
    last_is (same ks d) (length ks) n h.within (same_from _ _ h.equal) (λ i a b. same_not (get_or ks i []) d (h.after i a b))

-- none is found only where no key equals d
pub find_none : (ks : List (List ℕ)) (d : List ℕ) → find ks d ≡ None → (n : ℕ) → n < length ks → get_or ks n [] ≡ d → ⊥
unfolding find
find_none ks d e n h = not_same (get_or ks n []) d (last_after (same ks d) (length ks) n (let z = ap mark e in omega arith) h)

none_found : (ks : List (List ℕ)) (d : List ℕ) → Nowhere ks d → find ks d ≡ None
unfolding find
none_found ks d h = last_zero (same ks d) (length ks) (λ i b. same_not (get_or ks i []) d (h i b))

pub finds_last : FindsLast
finds_last ks d = (λ n. (found_last ks d n, last_found ks d n), (find_none ks d, none_found ks d))

-- a number that is found is that of a key that equals d
pub find_some : (ks : List (List ℕ)) (d : List ℕ) (n : ℕ) → find ks d ≡ Some n → (n < length ks) × (get_or ks n [] ≡ d)
find_some ks d n e = let h = found_last ks d n e in (h.within, h.equal)

-- a key that is there is found, under its number or a later one
pub find_here : (ks : List (List ℕ)) (d : List ℕ) (n : ℕ) → n < length ks → get_or ks n [] ≡ d → is_some (find ks d) ≡ true
find_here ks d n h e = go (find ks d) refl where
  go : (o : Option ℕ) → find ks d ≡ o → is_some o ≡ true
  go None z = absurd (find_none ks d z n h e)
  go (Some m) z = refl

-- the key entered last is found under the last number
pub find_push_same : (ks : List (List ℕ)) (d : List ℕ) → find (ks ++ d ∷ []) d ≡ Some (length ks)
unfolding find
find_push_same ks d = last_push (λ x. bytes_eq x d) ks d ∙ cond-true (bytes_eq d d) _ _ (same_from d d refl)

-- and the others as before
pub find_push_other : (ks : List (List ℕ)) (d e : List ℕ) → (d ≡ e → ⊥) → find (ks ++ d ∷ []) e ≡ find ks e
unfolding find
find_push_other ks d e h = last_push (λ x. bytes_eq x e) ks d ∙ cond-false (bytes_eq d e) _ _ (same_not d e h)
