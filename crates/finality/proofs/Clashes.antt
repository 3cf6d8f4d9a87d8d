-- Where the tree makes two links clash: two settled pages of one height, a settled page beside a final one, two final pages apart.
-- Assumes nothing.
use Rattle.std.proofs.Common.{◌≡◌, ℕ, ◌+◌, ◌<◌, ◌≤◌, min, true, ◌⊎◌, sym, refl, ap, ◌∙◌, subst, inl, inr, ⊎_elim, le_refl, arith}
use Rattle.std.proofs.lemmas.Bool.{cases_eq, cases_lt}
use Rattle.finality.specs.declared.Link.{Link}
use Rattle.finality.specs.Tree.{Apart, Grown, Tree, Under, self}
use Rattle.finality.specs.Links.{FinalBy, Passing, SettledBy, clash, first, link, next, twice}
use Rattle.finality.specs.Safety.{ClashAt, Clashes, Crossed, Crossing}
use Rattle.finality.proofs.Breaches.{around_from, clash_around, clash_twice, twice_from}
use Rattle.finality.proofs.Trees.{above_first, lowest, right_under, under_trans}

module _ (t : Tree) (g : Grown t) (L : Link → Type 0) where
  -- the first link on the way to b that ends as high as a or higher
  pub crossing : {a b : ℕ} → SettledBy t L b → 0 < t.height a → t.height a ≤ t.height b → Crossing t L a b
  crossing {a} (first {b} e) low high = absurd (omega (arith, ap t.height e, g.first))
  crossing {a} (next {b} s p up l) low high =
      ⊎_elim here (λ above. further (crossing p low above)) (cases_lt (t.height s) (t.height a))
    where
      here : t.height s < t.height a → Crossing t L a b
      here below =
          record {
            step = link s b;
            made = l;
            climbs = up;
            settled = p;
            starts = below;
            ends = high;
            under = self refl;
          }

      further : Crossing t L a s → Crossing t L a b
      further c =
          record {
            step = c.step;
            made = c.made;
            climbs = c.climbs;
            settled = c.settled;
            starts = c.starts;
            ends = c.ends;
            under = under_trans t c.under up.under;
          }

  -- how it clashes, by where it ends: as high as a, as high as the page d right on top of a, or higher
  module _ {a d b : ℕ} (i : 1 ≤ d) (on : t.parent d ≡ a) (aside : Under t a b → ⊥) (c : Crossing t L a b) where
    tall : t.height d ≡ t.height a + 1
    tall = omega (arith, g.up d i, ap t.height on)

    -- it doesn't end at a page that lies on a
    missed : (x : ℕ) → Under t a x → c.step.target ≡ x → ⊥
    missed x h e = aside (under_trans t h (subst (λ y. Under t y b) e c.under))

    as_high : t.height c.step.target ≡ t.height a → (r : ℕ) → twice t c.step (link r a) ≡ true
    as_high e r = twice_from t c.step (link r a) (record { differ = missed a (self refl); level = e })

    as_top : t.height c.step.target ≡ t.height d → clash t c.step (link a d) ≡ true
    as_top e =
        clash_twice t c.step (link a d)
        (twice_from t c.step (link a d) (record { differ = missed d (right_under t i on); level = e }))

    higher : t.height d < t.height c.step.target → clash t c.step (link a d) ≡ true
    higher h =
        clash_around t c.step (link a d)
        (around_from t c.step (link a d) (record { lower = c.starts; rises = omega (arith, tall); higher = h }))

    pub crossing_clashes : ((r : ℕ) → twice t c.step (link r a) ≡ true) ⊎ (clash t c.step (link a d) ≡ true)
    crossing_clashes =
        ⊎_elim (λ e. inl (as_high e)) (λ n. inr (⊎_elim as_top (λ m. higher (omega (arith, tall, c.ends))) at_top)) at_a
      where
        at_a : (t.height c.step.target ≡ t.height a) ⊎ (t.height c.step.target ≡ t.height a → ⊥)
        at_a = cases_eq (t.height c.step.target) (t.height a)

        at_top : (t.height c.step.target ≡ t.height d) ⊎ (t.height c.step.target ≡ t.height d → ⊥)
        at_top = cases_eq (t.height c.step.target) (t.height d)

  -- a settled page higher than page 0 has a link into it
  record Into (a : ℕ) : Type 0 where
    from : ℕ
    made : L (link from a)
    rises : t.height from < t.height a

  into : {a : ℕ} → SettledBy t L a → 0 < t.height a → Into a
  into (first {b} e) low = absurd (omega (arith, ap t.height e, g.first))
  into (next {b} s p up l) low = record { from = s; made = l; rises = up.higher }

  pub level : (a b : ℕ) → SettledBy t L a → SettledBy t L b → (a ≡ b → ⊥) → t.height a ≡ t.height b →
      ClashAt t L (t.height a)
  level a b p q n e = ⊎_elim found none (cases_lt 0 (t.height a))
    where
      none : t.height a ≤ 0 → ClashAt t L (t.height a)
      none h = absurd (n (lowest t g a (omega arith) ∙ sym (lowest t g b (omega arith))))

      found : 0 < t.height a → ClashAt t L (t.height a)
      found low =
          let i = into p low in
          let j = into q (omega arith) in
          let k = link i.from a in
          let l = link j.from b in
          record {
            one = k;
            other = l;
            made = (i.made, j.made);
            starts = (omega (arith, i.rises), omega (arith, j.rises));
            ends = (le_refl (t.height a), omega arith);
            clash = clash_twice t k l (twice_from t k l (record { differ = n; level = e }));
          }

  pub above : (a b : ℕ) → FinalBy t L a → SettledBy t L b → t.height a ≤ t.height b → (Under t a b → ⊥) →
      ClashAt t L (t.height a)
  above a b f q high aside = ⊎_elim with_into with_top (crossing_clashes f.later f.on aside c)
    where
      low : 0 < t.height a
      low = above_first t g a b aside

      c : Crossing t L a b
      c = crossing q low high

      with_into : ((r : ℕ) → twice t c.step (link r a) ≡ true) → ClashAt t L (t.height a)
      with_into h =
          let i = into f.settled low in
          record {
            one = c.step;
            other = link i.from a;
            made = (c.made, i.made);
            starts = (omega (arith, c.starts), omega (arith, i.rises));
            ends = (c.ends, le_refl (t.height a));
            clash = clash_twice t c.step (link i.from a) (h i.from);
          }

      with_top : clash t c.step (link a f.top) ≡ true → ClashAt t L (t.height a)
      with_top h =
          record {
            one = c.step;
            other = link a f.top;
            made = (c.made, f.linked);
            starts = (omega (arith, c.starts), le_refl (t.height a));
            ends = (c.ends, omega (arith, g.up f.top f.later, ap t.height f.on));
            clash = h;
          }

  pub apart : (a b : ℕ) → FinalBy t L a → FinalBy t L b → Apart t a b → ClashAt t L (min (t.height a) (t.height b))
  apart a b f h n = ⊎_elim lower higher (cases_lt (t.height a) (t.height b))
    where
      lower : t.height a < t.height b → ClashAt t L (min (t.height a) (t.height b))
      lower i =
          let e : t.height a ≡ min (t.height a) (t.height b) = omega arith in
          subst (ClashAt t L) e (above a b f h.settled (omega arith) n.0)

      higher : t.height b ≤ t.height a → ClashAt t L (min (t.height a) (t.height b))
      higher i =
          let e : t.height b ≡ min (t.height a) (t.height b) = omega arith in
          subst (ClashAt t L) e (above b a h f.settled i n.1)

  pub clashes : Clashes t L
  clashes = record { level = level; above = above; apart = apart }

pub crossed : Crossed
crossed t g l a d b i on p high aside =
    let c = crossing t g (Passing l) p (above_first t g a b aside) high in
    (c, crossing_clashes t g (Passing l) i on aside c)
