-- Pages and links of one tree that stand in another.
-- Assumes nothing.
use Rattle.std.proofs.Common.{◌≡◌, ℕ, ◌<◌, Bool, true, ltb, sym, refl, ap, ◌∙◌, subst, arith}
use Rattle.std.proofs.lemmas.Bool.{lt-ltb, ltb-true}
use Rattle.finality.specs.declared.Link.{Link}
use Rattle.finality.specs.Tree.{Tree, Under, self, down}
use Rattle.finality.specs.Links.{Climbs, FinalBy, Passing, SettledBy, first, next, link}
use Rattle.finality.specs.Growth.{Carried, Carries, Extends, moved}

module _ (t u : Tree) (page : ℕ → Bool) (f : ℕ → ℕ) (c : Carried t u page f) where
  -- a page under a page is one
  pub page_under : {a b : ℕ} → Under t a b → page b ≡ true → page a ≡ true
  page_under (self e) p = subst (λ n. page n ≡ true) (sym e) p
  page_under (down {b} i h) p = page_under h (c.lower b p i)

  pub under_carried : {a b : ℕ} → Under t a b → page b ≡ true → Under u (f a) (f b)
  under_carried (self e) p = self (ap f e)
  under_carried {a} (down {b} i h) p =
      down (c.later b p i) (subst (Under u (f a)) (sym (c.parent b p i)) (under_carried h (c.lower b p i)))

  module _ (L M : Link → Type 0) (sent : (k : Link) → L k → (page k.target ≡ true) × M (moved f k)) where
    pub settled_carried : {a : ℕ} → SettledBy t L a → SettledBy u M (f a)
    settled_carried (first e) = first (ap f e ∙ c.first)
    settled_carried (next {b} a s up l) =
        let p : page b ≡ true = (sent (link a b) l).0 in
        let ha = c.height a (page_under up.under p) in
        let hb = c.height b p in
        next (f a) (settled_carried s) (record { under = under_carried up.under p; higher = omega arith }) (sent (link a b) l).1

    pub final_carried : {a : ℕ} → FinalBy t L a → FinalBy u M (f a)
    final_carried {a} d =
        let p : page d.top ≡ true = (sent (link a d.top) d.linked).0 in
        record {
          settled = settled_carried d.settled;
          top = f d.top;
          later = c.later d.top p d.later;
          on = c.parent d.top p d.later ∙ ap f d.on;
          linked = (sent (link a d.top) d.linked).1;
        }

pub carries : Carries
carries t u page f c l m sent a =
    (settled_carried t u page f c (Passing l) (Passing m) sent, final_carried t u page f c (Passing l) (Passing m) sent)

-- what is settled stays so with more links up
pub settled-more :
    (t : Tree) (L M : Link → Type 0) → ((k : Link) → Climbs t k → L k → M k) → {a : ℕ} → SettledBy t L a → SettledBy t M a
settled-more t L M more (first e) = first e
settled-more t L M more (next {b} a s up l) = next a (settled-more t L M more s) up (more (link a b) up l)

-- trees that agree on the first n pages, of which each lies on one of them
module _ (t u : Tree) (n : ℕ) (e : Extends t u n) where
  pub extends_carried : Carried t u (λ b. ltb b n) (λ b. b)
  extends_carried =
      record {
        first = refl;
        lower = λ b p i. lt-ltb (t.parent b) n (e.lower b i (ltb-true b n p));
        later = λ b p i. i;
        parent = λ b p i. e.parent b i (ltb-true b n p);
        height = λ b p. e.height b (ltb-true b n p);
      }

  pub extends_back : Extends u t n
  extends_back =
      record {
        lower = λ b i h. subst (λ x. x < n) (sym (e.parent b i h)) (e.lower b i h);
        parent = λ b i h. sym (e.parent b i h);
        height = λ b h. sym (e.height b h);
      }
