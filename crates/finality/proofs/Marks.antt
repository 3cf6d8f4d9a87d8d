-- One pass over links in rising order of their targets: it marks what is settled, and nothing else.
-- Assumes nothing.
use Rattle.std.proofs.Common.{◌≡◌, ℕ, zero, suc, ◌<◌, ◌≤◌, Bool, true, false, leb, ◌⊎◌, ◌↔◌, List, [], ◌∷◌, length, get_or, set, replicate, sym, refl, ◌∙◌, subst, inl, inr, arith}
use mathlib.Core.List.Memᴰ
use Rattle.std.proofs.lemmas.List.{get_or-set_other, get_or-set_same, length-replicate, length-set}
use Rattle.std.proofs.lemmas.Bool.{and_parts, cases_eq, cond_both, cond-true, false≢true, leb-true}
use Rattle.finality.specs.declared.Link.{Link}
use Rattle.finality.specs.Tree.{Tree}
use Rattle.finality.specs.Links.{Climbs, Passing, SettledBy, first, next, link}
use Rattle.finality.specs.Votes.{◌∈◌, linked}
use Rattle.finality.specs.Book.{OnePass, OnePassOfVotes, ascending, first_marked, marked, marking, tree_of}
use Rattle.finality.proofs.Books.{climbs_lt, made_within}
use Rattle.finality.proofs.Carries.{settled-more}

abbrev On : List Bool → ℕ → Type 0
On ms a = get_or ms a false ≡ true

-- a mark stays when another is set
pub set_kept : (ms : List Bool) (i a : ℕ) → On ms a → On (set ms i true) a
set_kept [] i a h = h
set_kept (m ∷ ms) zero zero h = refl
set_kept (m ∷ ms) zero (suc a) h = h
set_kept (m ∷ ms) (suc i) zero h = h
set_kept (m ∷ ms) (suc i) (suc a) h = set_kept ms i a h

pub length-marking : (ms : List Bool) (k : Link) → length (marking ms k) ≡ length ms
length-marking ms k =
    cond_both (get_or ms k.source false) (set ms k.target true) ms (λ xs. length xs ≡ length ms)
    (λ e. length-set ms k.target true)
    (λ e. refl)

pub marking_kept : (ms : List Bool) (k : Link) (a : ℕ) → On ms a → On (marking ms k) a
marking_kept ms k a h =
    cond_both (get_or ms k.source false) (set ms k.target true) ms (λ xs. On xs a)
    (λ e. set_kept ms k.target a h)
    (λ e. h)

pub marking_other : (ms : List Bool) (k : Link) (a : ℕ) → (a ≡ k.target → ⊥) → get_or (marking ms k) a false ≡ get_or ms a false
marking_other ms k a n =
    cond_both (get_or ms k.source false) (set ms k.target true) ms (λ xs. get_or xs a false ≡ get_or ms a false)
    (λ e. get_or-set_other ms k.target a true false n)
    (λ e. refl)

-- a link from a marked page marks its target
pub marking_target : (ms : List Bool) (k : Link) → k.target < length ms → On ms k.source → On (marking ms k) k.target
marking_target ms k l h =
    subst (λ xs. On xs k.target) (sym (cond-true (get_or ms k.source false) (set ms k.target true) ms h))
    (get_or-set_same ms k.target true false l)

pub marked_kept : (ks : List Link) (ms : List Bool) (a : ℕ) → On ms a → On (marked ks ms) a
unfolding marked
marked_kept [] ms a h = h
marked_kept (k ∷ ks) ms a h = marked_kept ks (marking ms k) a (marking_kept ms k a h)

-- pages below all targets keep what they have
pub marked_below : (ks : List Link) (ms : List Bool) (m a : ℕ) → ascending m ks ≡ true → a < m
    → get_or (marked ks ms) a false ≡ get_or ms a false
unfolding marked ascending
marked_below [] ms m a o h = refl
marked_below (k ∷ ks) ms m a o h =
    let p = and_parts (leb m k.target) (ascending k.target ks) o in
    let l = leb-true m k.target p.0 in
    marked_below ks (marking ms k) k.target a p.1 (omega arith) ∙ marking_other ms k a (omega arith)

-- no link from a marked page is left over
pub marked_next : (ks : List Link) (ms : List Bool) (m n : ℕ) → length ms ≡ n → ascending m ks ≡ true
    → ((k : Link) → k ∈ ks → (k.source < k.target) × (k.target < n)) → (k : Link) → k ∈ ks
    → On (marked ks ms) k.source → On (marked ks ms) k.target
unfolding marked ascending
marked_next [] ms m n e o up k i h = elim i [ ]
marked_next (j ∷ ks) ms m n e o up k i h =
    let e' = length-marking ms j ∙ e in
    go (λ i'. marked_next ks (marking ms j) j.target n e' later (λ l i''. up l (Memᴰ.tail i'')) k i' h)
    (Memᴰ.cases_cons i)
  where
    later : ascending j.target ks ≡ true
    later = (and_parts (leb m j.target) (ascending j.target ks) o).1

    here : On (marked ks (marking ms j)) j.source → On (marked ks (marking ms j)) j.target
    here s =
        let u = up j (Memᴰ.head refl) in
        let p = marked_below ks (marking ms j) j.target j.source later u.0 in
        let q = marking_other ms j j.source (omega arith) in
        marked_kept ks (marking ms j) j.target (marking_target ms j (omega arith) (sym (p ∙ q) ∙ s))

    go : (k ∈ ks → On (marked ks (marking ms j)) k.target) → (k ≡ j) ⊎ (k ∈ ks) → On (marked ks (marking ms j)) k.target
    go less (inl q) =
        subst (λ l. On (marked ks (marking ms j)) l.target) (sym q)
        (here (subst (λ l. On (marked ks (marking ms j)) l.source) q h))
    go less (inr i') = less i'

-- what holds of the pages marked first, and of the target of each link from such a page, holds of all that the pass marks
pub marked_all : (P : ℕ → Type 0) (ks : List Link) (ms : List Bool) → ((a : ℕ) → On ms a → P a)
    → ((k : Link) → k ∈ ks → P k.source → P k.target) → (a : ℕ) → On (marked ks ms) a → P a
unfolding marked
marked_all P [] ms start step a h = start a h
marked_all P (j ∷ ks) ms start step a h =
    marked_all P ks (marking ms j) (λ b. turn b) (λ k i. step k (Memᴰ.tail i)) a h
  where
    turn : (b : ℕ) → On (marking ms j) b → P b
    turn b =
        cond_both (get_or ms j.source false) (set ms j.target true) ms (λ xs. On xs b → P b)
        (λ s h'. place s h' (cases_eq b j.target))
        (λ e. start b)
      where
        place : On ms j.source → On (set ms j.target true) b → (b ≡ j.target) ⊎ (b ≡ j.target → ⊥) → P b
        place s h' (inl e) = subst P (sym e) (step j (Memᴰ.head refl) (start j.source s))
        place s h' (inr e) = start b (sym (get_or-set_other ms j.target b true false e) ∙ h')

-- at first only page 0 is marked
pub first_is_marked : (n : ℕ) → 1 ≤ n → On (first_marked n) 0
first_is_marked n h =
    let l = length-replicate n false in
    get_or-set_same (replicate n false) 0 true false (omega arith)

pub only_first_marked : (n a : ℕ) → On (first_marked n) a → a ≡ 0
only_first_marked n zero h = refl
only_first_marked n (suc a) h =
    let e = get_or-set_other (replicate n false) 0 (suc a) true false (omega arith) ∙ none n (suc a) in
    absurd (false≢true (sym e ∙ h))
  where
    none : (m i : ℕ) → get_or (replicate m false) i false ≡ false
    none zero i = refl
    none (suc m) zero = refl
    none (suc m) (suc i) = none m i

module _ (t : Tree) (n : ℕ) (ks : List Link) (some : 1 ≤ n) (rising : ascending 0 ks ≡ true)
    (up : (k : Link) → k ∈ ks → Climbs t k × (k.source < k.target) × (k.target < n)) where
  pub mark_settled : (b : ℕ) → On (marked ks (first_marked n)) b → SettledBy t (λ k. k ∈ ks) b
  mark_settled b h =
      marked_all (SettledBy t (λ k. k ∈ ks)) ks (first_marked n) (λ a o. first (only_first_marked n a o))
      (λ k i s. next k.source s (up k i).0 i)
      b h

  pub settled_mark : {b : ℕ} → SettledBy t (λ k. k ∈ ks) b → On (marked ks (first_marked n)) b
  settled_mark (first e) =
      marked_kept ks (first_marked n) _ (subst (On (first_marked n)) (sym e) (first_is_marked n some))
  settled_mark (next {b} a s c i) =
      let e = length-set (replicate n false) 0 true ∙ length-replicate n false in
      marked_next ks (first_marked n) 0 n e rising (λ k j. ((up k j).1, (up k j).2)) (link a b) i (settled_mark s)

pub one_pass : OnePass
one_pass t n ks some rising up b = (mark_settled t n ks some rising up b, λ s. settled_mark t n ks some rising up s)

pub one_pass_of_votes : OnePassOfVotes
one_pass_of_votes ps hs bk vs some xs within ks rising made b = (
  λ h. settled-more t (λ k. k ∈ ks) (Passing (linked vs xs)) (λ k c i. ((made k).0 i).1) (pass.0 h),
  λ s. pass.1 (settled-more t (Passing (linked vs xs)) (λ k. k ∈ ks) (λ k c l. (made k).1 (c, l)) s),
)
  where
    t : Tree
    t = tree_of ps hs

    up : (k : Link) → k ∈ ks → Climbs t k × (k.source < k.target) × (k.target < length ps)
    up k i =
        let c = ((made k).0 i).0 in
        let l = made_within (length ps) vs xs some within k ((made k).0 i).1 in
        (c, climbs_lt ps hs bk k c l, l)

    pass : On (marked ks (first_marked (length ps))) b ↔ SettledBy t (λ k. k ∈ ks) b
    pass = one_pass t (length ps) ks bk.some rising up b
