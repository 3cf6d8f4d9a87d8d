-- Voters who share too little, and histories in which two pages apart are final and one of the rules was kept.
-- Assumes nothing.
use Rattle.std.proofs.Common.{◌≡◌, ℕ, zero, suc, ◌+◌, ◌*◌, ◌<◌, ◌≤◌, Bool, true, false, not, ◌&&◌, ◌||◌, eqb, ltb, leb, List, [], ◌∷◌, ◌++◌, length, sym, refl, ap, ◌∙◌, subst, ⊎_elim, mul_assoc, mul_comm, mul-le-mul_left, arith}
use mathlib.Core.List.Memᴰ
use Rattle.std.proofs.lemmas.Bool.{and_parts, leb-true, ltb-true, not-true}
use Rattle.finality.specs.declared.Vote.{Vote}
use Rattle.finality.specs.Tree.{Apart, Grown, Tree, Under}
use Rattle.finality.specs.Links.{first, link, next}
use Rattle.finality.specs.Votes.{Electorate, Final, ◌∈◌, linked, vote, voted, weighed}
use Rattle.finality.specs.Book.{Book, height_added, tree_of}
use Rattle.finality.specs.Needed.{ApartKeeping, BothRulesNeeded, TwoThirdsNeeded, first_rule, second_rule}
use Rattle.finality.proofs.Books.{added_book, book_grown}
use Rattle.finality.proofs.Trees.{first_under, under_to}

-- For a share num / (m + 1) below two thirds: voters 0 and 1 weigh 2 m + 3 each and voter 2 weighs 2 m, of 6 m + 6 together. One
-- set is 0 and 2, the other 1 and 2.
abbrev weights : ℕ → ℕ → ℕ
weights m zero = 2 * m + 3
weights m (suc zero) = 2 * m + 3
weights m (suc (suc n)) = 2 * m

share : (num m whole part : ℕ) → 3 * num < 2 * suc m → whole ≡ suc m * 6 → part ≡ 4 * m + 3 → num * whole ≤ suc m * part
share num m whole part h e f =
    let i : 6 * num ≤ part = omega arith in
    let j : suc m * (6 * num) ≤ suc m * part = mul-le-mul_left (suc m) i in
    let k : num * whole ≡ suc m * (6 * num) = ap (λ x. num * x) e ∙ mul_comm num (suc m * 6) ∙ mul_assoc (suc m) 6 num in
    subst (λ x. x ≤ suc m * part) (sym k) j

pub two_thirds_needed : TwoThirdsNeeded
unfolding weighed
two_thirds_needed num zero h = absurd (omega arith)
two_thirds_needed num (suc m) h =
    record {
      voters = record { count = 3; weight = weights m };
      one = λ v. eqb v 0 || eqb v 2;
      other = λ v. eqb v 1 || eqb v 2;
      enough = (share num m _ _ h (omega arith) (omega arith), share num m _ _ h (omega arith) (omega arith));
      few = omega arith;
    }

-- all votes pass the test
every : (Vote → Bool) → List Vote → Bool
every p [] = true
every p (x ∷ xs) = p x && every p xs

every_in : (p : Vote → Bool) (xs : List Vote) (x : Vote) → every p xs ≡ true → x ∈ xs → p x ≡ true
unfolding every
every_in p [] x e m = absurd (Memᴰ.not-nil m)
every_in p (y ∷ ys) x e m =
    let q = and_parts _ _ e in ⊎_elim (λ h. ap p h ∙ q.0) (every_in p ys x q.1) (Memᴰ.cases_cons m)

-- no two of the votes pass the test
none : (Vote → Vote → Bool) → List Vote → Bool
none p xs = every (λ x. every (λ y. not (p x y)) xs) xs

none_in : (p : Vote → Vote → Bool) (xs : List Vote) → none p xs ≡ true → (x y : Vote) → x ∈ xs → y ∈ xs → p x y ≡ false
unfolding none
none_in p xs e x y m n =
    let row = every_in (λ z. every (λ w. not (p z w)) xs) xs x e m in
    not-true _ (every_in (λ w. not (p x w)) xs y row n)

-- a book of pages, put one on top of another
record Pages : Type 0 where
  parents : List ℕ
  heights : List ℕ
  book : Book parents heights

abbrev alone : Pages
alone =
    record {
      parents = 0 ∷ [];
      heights = 0 ∷ [];
      book =
          record {
            same = refl;
            some = leb-true _ _ refl;
            first = refl;
            below = λ b i h. absurd (omega arith);
            up = λ b i h. absurd (omega arith);
          };
    }

abbrev add : (b : Pages) (p : ℕ) → ltb p (length b.parents) ≡ true → Pages
add b p low =
    record {
      parents = b.parents ++ p ∷ [];
      heights = height_added b.heights p;
      book = added_book b.parents b.heights b.book p (ltb-true _ _ low);
    }

abbrev tree : Pages → Tree
tree b = tree_of b.parents b.heights

-- four voters of weight 1, of whom the first three vote for a link, or the last three
abbrev four : Electorate
four = record { count = 4; weight = λ v. 1 }

-- 1 and 2 on 0, 3 on 1, 4 on 2
abbrev fork : Pages
fork = add (add (add (add alone 0 refl) 0 refl) 1 refl) 2 refl

abbrev fork_votes : List Vote
fork_votes =
    vote 0 (link 0 1) ∷ vote 1 (link 0 1) ∷ vote 2 (link 0 1) ∷ vote 0 (link 1 3) ∷ vote 1 (link 1 3) ∷ vote 2 (link 1 3) ∷
    vote 1 (link 0 2) ∷ vote 2 (link 0 2) ∷ vote 3 (link 0 2) ∷ vote 1 (link 2 4) ∷ vote 2 (link 2 4) ∷ vote 3 (link 2 4) ∷ []

-- 1, 2, 3, 4 each on the one before, and 5, 6, 7, 8 on 0 and each on the one before
abbrev branches : Pages
branches = add (add (add (add (add (add (add (add alone 0 refl) 1 refl) 2 refl) 3 refl) 0 refl) 5 refl) 6 refl) 7 refl

abbrev branches_votes : List Vote
branches_votes =
    vote 0 (link 0 1) ∷ vote 1 (link 0 1) ∷ vote 2 (link 0 1) ∷ vote 0 (link 1 2) ∷ vote 1 (link 1 2) ∷ vote 2 (link 1 2) ∷
    vote 1 (link 0 7) ∷ vote 2 (link 0 7) ∷ vote 3 (link 0 7) ∷ vote 1 (link 7 8) ∷ vote 2 (link 7 8) ∷ vote 3 (link 7 8) ∷ []

-- a page is final by a link from page 0 and one to a page right on top
final_by : (b : Pages) (xs : List Vote) (a d : ℕ) → ltb ((tree b).height 0) ((tree b).height a) ≡ true →
    linked four xs (link 0 a) ≡ true → leb 1 d ≡ true → (tree b).parent d ≡ a → linked four xs (link a d) ≡ true →
    Final (tree b) four xs a
final_by b xs a d up in-link later on out-link =
    record {
      settled = next 0 (first refl) (record { under = first_under (tree b) grown a; higher = ltb-true _ _ up }) in-link;
      top = d;
      later = leb-true _ _ later;
      on = on;
      linked = out-link;
    }
  where
    grown : Grown (tree b)
    grown = book_grown b.parents b.heights b.book

module _ (t : Tree) {a : ℕ} where
  -- a doesn't lie under a page, if it isn't that page and doesn't lie under its parent; nor under page 0
  not_on : {b : ℕ} → (a ≡ b → ⊥) → (Under t a (t.parent b) → ⊥) → Under t a b → ⊥
  not_on n m u = ⊎_elim n (λ k. m k.1) (under_to t u)

  not_first : (a ≡ 0 → ⊥) → Under t a 0 → ⊥
  not_first n u = ⊎_elim n (λ k. absurd (omega arith)) (under_to t u)

fork_apart : Apart (tree fork) 1 2
fork_apart = (
  not_on (tree fork) (omega arith) (not_first (tree fork) (omega arith)),
  not_on (tree fork) (omega arith) (not_first (tree fork) (omega arith)),
)

branches_apart : Apart (tree branches) 1 7
branches_apart =
    let t = tree branches in (
      not_on t (omega arith) (not_on t (omega arith) (not_on t (omega arith) (not_first t (omega arith)))),
      not_on t (omega arith) (not_first t (omega arith)),
    )

-- such a history, of a rule that no two of its votes break
history : (rule : Tree → Vote → Vote → Bool) (b : Pages) (xs : List Vote) (one other : ℕ) → Final (tree b) four xs one →
    Final (tree b) four xs other → Apart (tree b) one other → none (rule (tree b)) xs ≡ true → ApartKeeping rule
unfolding weighed
history rule b xs one other f g n e =
    record {
      tree = tree b;
      grown = book_grown b.parents b.heights b.book;
      voters = four;
      some = leb-true _ _ refl;
      votes = xs;
      one = one;
      other = other;
      final = (f, g);
      apart = n;
      kept = none_in (rule (tree b)) xs e;
    }

first_kept : ApartKeeping first_rule
unfolding weighed voted every none
first_kept =
    history first_rule branches branches_votes 1 7 (final_by branches branches_votes 1 2 refl refl refl refl refl)
    (final_by branches branches_votes 7 8 refl refl refl refl refl) branches_apart refl

second_kept : ApartKeeping second_rule
unfolding weighed voted every none
second_kept =
    history second_rule fork fork_votes 1 2 (final_by fork fork_votes 1 3 refl refl refl refl refl)
    (final_by fork fork_votes 2 4 refl refl refl refl refl) fork_apart refl

pub both_rules_needed : BothRulesNeeded
both_rules_needed = (first_kept, second_kept)
