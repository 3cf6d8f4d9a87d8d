-- Rows of weights, filled from the left by the words of a line.
use Rattle.std.proofs.Common.{◌≡◌, ℕ, zero, suc, ◌+◌, ◌≤◌, List, [], ◌∷◌, ◌++◌, map, length, get_or, take, drop, set, replicate, Some, None, codes, sum, unwrap_or, ◌<◌, sym, refl, ap, ◌∙◌, subst, inl, inr, append_assoc, arith, length-append, length-set, length-take}
use Rattle.std.specs.List.{AllByRecursion}
use Rattle.std.proofs.ByRecursion.{All-get_or, All-push, All-take, All-from_get_or, sum_by_le}
use Rattle.std.proofs.lemmas.List.{append-nil, get_or-map, length-map, map-id, length-take-le, get_or_at, get_or-drop, get_or-take, get_or-set_other, get_or-replicate, get_or_past, take_more_set, map_push}
use Rattle.std.proofs.lemmas.Simd.{map-map}
use Rattle.std.proofs.lemmas.Bool.{cases_lt}
use Rattle.std.proofs.lemmas.List.Sums.{get_or-le-sum_by, sum_by-cons, sum_by-take-drop, sum_by-take-le}
use Rattle.text.specs.Numbers.{decimal_of}
use Rattle.text.specs.Words.{words}
use Rattle.voters.specs.Weights.{Lists, Names, Row, total_of}
use Rattle.voters.specs.declared.Voters.{Voters}

-- while the words ws are read, with left still to come: n weights stand in the row
pub record Filling (ws left : List (List ℕ)) (row : List ℕ) (n : ℕ) : Type 0 where
  pub values : map decimal_of ws ≡ map Some (take n row) ++ map decimal_of left
  pub few : n ≤ 64
  pub long : length row ≡ 64
  pub light : AllByRecursion (λ w. w ≤ 1000000) (take n row)
  pub past : (k : ℕ) → n ≤ k → get_or row k 0 ≡ 0

pub filling_none : (ws left : List (List ℕ)) (n : ℕ) → left ≡ ws → n ≡ 0 → Filling ws left (replicate 64 0) n
filling_none ws left n e z =
    record {
      values = ap (map decimal_of) (sym e) ∙ (λ i. map Some (take (sym z i) (replicate 64 0)) ++ map decimal_of left);
      few = omega (arith, z);
      long = refl;
      light = subst (λ m. AllByRecursion (λ w. w ≤ 1000000) (take m (replicate 64 0))) (sym z) tt;
      past = λ k h. elim (cases_lt k 64) [ inl l ↦ get_or-replicate 64 k 0 0 l | inr l ↦ get_or_past (replicate 64 0) k 0 l ];
    }

pub filling_more : (ws left : List (List ℕ)) (row : List ℕ) (n : ℕ) (w : List ℕ) (x : ℕ) → Filling ws (w ∷ left) row n → n < 64 → decimal_of w ≡ Some x → x ≤ 1000000 → Filling ws left (set row n x) (n + 1)
filling_more ws left row n w x f room e small =
    record {
      values = rw here (simp (map_push, append_assoc) (f.values ∙ (λ i. map Some (take n row) ++ (e i ∷ map decimal_of left))));
      few = omega arith;
      long = length-set row n x ∙ f.long;
      light = subst (λ t. AllByRecursion (λ w. w ≤ 1000000) t) (sym here) (All-push (λ w. w ≤ 1000000) (take n row) x f.light small);
      past = λ k h. get_or-set_other row n k x 0 (λ e. omega arith) ∙ f.past k (omega arith);
    } where
      here : take (n + 1) (set row n x) ≡ take n row ++ x ∷ []
      here = take_more_set row n x (let a = f.few in let b = f.long in omega arith)

-- all words are read
pub filled : (ws : List (List ℕ)) (row : List ℕ) (n : ℕ) → Filling ws [] row n → Row ws row n
filled ws row n f =
    record {
      listed = record { values = f.values ∙ append-nil (map Some (take n row)); few = omega (arith, length-take-le n row (omega (arith, f.few, f.long)), f.few); light = f.light };
      within = omega (arith, f.few);
      past = f.past;
    }

-- a word that isn't a weight
pub filling_bad : (ws left : List (List ℕ)) (row : List ℕ) (n : ℕ) (w : List ℕ) → Filling ws (w ∷ left) row n → ((x : ℕ) → decimal_of w ≡ Some x → x ≤ 1000000 → ⊥) →
    (xs : List ℕ) → Lists ws xs → ⊥
filling_bad ws left row n w f bad xs l =
    bad (get_or xs n 0)
    (sym (get_or_at (map Some (take n row)) (decimal_of w) (map decimal_of left) None n long) ∙ ap (λ os. get_or os n None) same ∙ get_or-map Some xs n 0 None within)
    (All-get_or (λ w. w ≤ 1000000) xs n 0 within l.light) where
      same : map Some (take n row) ++ (decimal_of w ∷ map decimal_of left) ≡ map Some xs
      same = sym f.values ∙ l.values

      long : length (map Some (take n row)) ≡ n
      long = length-map (take n row) Some ∙ length-take-le n row (omega (arith, f.few, f.long))

      within : n < length xs
      within = omega (arith, simp (length-append, length-map) at (ap length same), simp length-map at long)

-- Sums of rows.

pub no_sum : (xs : List ℕ) → ((k : ℕ) → get_or xs k 0 ≡ 0) → sum xs ≡ 0
no_sum [] zeros = refl
no_sum (x ∷ xs) zeros = let a = sum_by-cons (λ n. n) x xs in let b = no_sum xs (λ k. zeros (suc k)) in let c = zeros 0 in omega arith

-- where not all are 0 they come to something
pub some_sum : (xs : List ℕ) → (((k : ℕ) → get_or xs k 0 ≡ 0) → ⊥) → 1 ≤ sum xs
some_sum xs some = elim (cases_lt 0 (sum xs)) [ inl h ↦ h | inr h ↦ absurd (some (zero h)) ] where
  zero : sum xs ≤ 0 → (k : ℕ) → get_or xs k 0 ≡ 0
  zero h k = elim (cases_lt k (length xs)) [ inl l ↦ omega (arith, get_or-le-sum_by (λ n. n) xs k 0 l) | inr l ↦ get_or_past xs k 0 l ]

-- the places behind the first n, which hold 0, add nothing
sum_front : (row : List ℕ) (n : ℕ) → ((k : ℕ) → n ≤ k → get_or row k 0 ≡ 0) → sum row ≡ sum (take n row)
sum_front row n past =
    let a = sum_by-take-drop (λ n. n) row n in
    let b = no_sum (drop n row) (λ k. get_or-drop n row k 0 ∙ past (n + k) (omega arith)) in
    omega arith

pub total_is : (v : Voters) → sum v.weights ≡ total_of v
total_is v = sum_front v.weights v.count v.past

pub total_most : (v : Voters) → sum v.weights ≤ 64000000
total_most v =
    let a = sum_by_le (λ w. w) 1000000 (take v.count v.weights) (All-take (λ w. w ≤ 1000000) v.count v.weights (All-from_get_or (λ w. w ≤ 1000000) v.weights 0 (λ i h. v.light i))) in
    omega (arith, total_is v, length-take v.count v.weights, v.few)

-- A row that was filled.

light_at : (xs : List ℕ) → AllByRecursion (λ w. w ≤ 1000000) xs → (k : ℕ) → get_or xs k 0 ≤ 1000000
light_at [] all k = omega arith
light_at (x ∷ xs) (h, all) zero = h
light_at (x ∷ xs) (h, all) (suc k) = light_at xs all k

pub row_light : (ws : List (List ℕ)) (row : List ℕ) (n : ℕ) → Row ws row n → (k : ℕ) → get_or row k 0 ≤ 1000000
row_light ws row n r k =
    elim (cases_lt k n) [ inl l ↦ omega (arith, light_at (take n row) r.listed.light k, get_or-take n row k 0 l) | inr l ↦ omega (arith, r.past k l) ]

pub row_some : (ws : List (List ℕ)) (row : List ℕ) (n : ℕ) → Row ws row n → 1 ≤ sum row → 1 ≤ n
row_some ws row n r h = elim (cases_lt 0 n) [ inl l ↦ l | inr l ↦ absurd (let a = sum_front row n r.past in let b = ap (λ k. sum (take k row)) (none l) in omega arith) ] where
  none : n ≤ 0 → n ≡ 0
  none l = omega arith

-- The line that names the row.

pub named : (line head : List ℕ) (ws : List (List ℕ)) (row : List ℕ) (n : ℕ) → words line ≡ head ∷ ws → head ≡ codes "weights" → Row ws row n → 1 ≤ sum row → Names line (take n row)
named line head ws row n e h r heavy =
    record {
      numbers = ws;
      said = e ∙ ap (λ t. t ∷ ws) h;
      listed = r.listed;
      some = let a = front in let b = sum_by_le (λ w. w) 1000000 (take n row) r.listed.light in omega arith;
      heavy = front;
    } where
      front : 1 ≤ sum (take n row)
      front = let a = sum_front row n r.past in omega arith

same_values : (xs ys : List ℕ) → map Some xs ≡ map Some ys → xs ≡ ys
same_values xs ys e = sym (back xs) ∙ ap (map (λ o. unwrap_or o 0)) e ∙ back ys where
  back : (l : List ℕ) → map (λ o. unwrap_or o 0) (map Some l) ≡ l
  back l = map-map (λ o. unwrap_or o 0) Some l ∙ map-id l

-- a line names nothing but what stands in the row
pub named_only : (line head : List ℕ) (ws : List (List ℕ)) (row : List ℕ) (n : ℕ) → words line ≡ head ∷ ws → Row ws row n → (xs : List ℕ) → Names line xs → xs ≡ take n row
named_only line head ws row n e r xs names = same_values xs (take n row) (sym names.listed.values ∙ ap (map decimal_of) (sym tail) ∙ r.listed.values) where
  tail : ws ≡ names.numbers
  tail = cc

-- where all weights are 0 the line names none
pub unnamed : (line head : List ℕ) (ws : List (List ℕ)) (row : List ℕ) (n : ℕ) → words line ≡ head ∷ ws → Row ws row n → sum row ≡ 0 → (xs : List ℕ) → Names line xs → ⊥
unnamed line head ws row n e r none xs names =
    let a = ap sum (named_only line head ws row n e r xs names) in let b = sum_by-take-le (λ w. w) row n in let c = names.heavy in omega arith
