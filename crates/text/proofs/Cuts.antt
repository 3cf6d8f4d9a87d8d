-- Laws of the first c of an input, and of the pieces that it ends.
use Rattle.std.proofs.Common.{rules, ◌≢◌, ◌≡◌, ℕ, ◌+◌, ◌-◌, ◌<◌, ◌≤◌, eqb, List, [], ◌∷◌, ◌++◌, map, length, get_or, take, drop, sym, refl, ap, ◌∙◌, inl, inr, arith, length-append}
use Rattle.std.proofs.lemmas.Bool.{eq-eqb, ne_eqb, cond-true, cond-false}
use Rattle.std.proofs.lemmas.List.Elements.{All-from_get_or, recursion_from_All}
use Rattle.std.proofs.lemmas.Grind.{common_steps}
use Rattle.std.proofs.lemmas.List.{drop-drop, drop_all, take_all, take_rest}
use Rattle.std.proofs.Math.Nat.{eq-or-lt_of_le}
use Rattle.std.specs.List.{AllByRecursion}
use Rattle.text.specs.Lines.{chomp, lines, FirstLine}
use Rattle.text.specs.Pieces.{Free, Cut, onto, pieces}

-- what holds at each place holds of each element
pub by_places : (P : ℕ → Type 0) (xs : List ℕ) → ((k : ℕ) → k < length xs → P (get_or xs k 0)) → AllByRecursion P xs
by_places P xs h = recursion_from_All P xs (All-from_get_or P xs 0 h)

-- the same of a front of xs
pub front_by_places : (P : ℕ → Type 0) (xs : List ℕ) (n : ℕ) → n ≤ length xs → ((k : ℕ) → k < n → P (get_or xs k 0)) → AllByRecursion P (take n xs)
front_by_places P xs n within h = by_places P (take n xs) (λ k lt. search (rules, common_steps, h k))

pub cut_at : (c : ℕ) (s : List ℕ) (n : ℕ) → n < length s → ((k : ℕ) → k < n → get_or s k 0 ≢ c) → get_or s n 0 ≡ c → Cut c s (take n s) (take (length s - (n + 1)) (drop (n + 1) s))
cut_at c s n h free stops =
    record {
      free = front_by_places _ s n (omega arith) free;
      whole = inl (grind (arith, common_steps, sym stops));
    }

pub cut_none : (c : ℕ) (s : List ℕ) → ((k : ℕ) → k < length s → get_or s k 0 ≢ c) → Cut c s s []
cut_none c s free = record { free = by_places _ s free; whole = inr (refl, refl) }

-- n is where the first c of s stands, or where s ends
abbrev pub Stops : ℕ → List ℕ → ℕ → Type 0
Stops c s n = ((k : ℕ) → k < n → get_or s k 0 ≢ c) × (n < length s → get_or s n 0 ≡ c)

pub cut_stop : (c : ℕ) (s : List ℕ) (n : ℕ) → n ≤ length s → Stops c s n → Cut c s (take n s) (drop 1 (drop n s))
cut_stop c s n within stops = rw drop-drop (elim (eq-or-lt_of_le within) [ inl e ↦ ended e | inr lt ↦ found lt ]) where
  ended : n ≡ length s → Cut c s (take n s) (drop (n + 1) s)
  ended e = rw (take_all n s (omega arith), drop_all (n + 1) s (omega arith)) (cut_none c s (λ k lt. stops.0 k (omega arith)))

  found : n < length s → Cut c s (take n s) (drop (n + 1) s)
  found lt = let k = cut_at c s n lt stops.0 (stops.1 lt) in rw take_rest at k

-- what goes on to the first c is the first piece, and the others are the pieces of what follows it
pub pieces_at : (c : ℕ) (front rest : List ℕ) → Free c front → pieces c (front ++ c ∷ rest) ≡ front ∷ pieces c rest
unfolding pieces
pieces_at c [] rest free = cond-true (eqb c c) _ _ (eq-eqb c c refl)
pieces_at c (x ∷ xs) rest free = cond-false (eqb x c) _ _ (ne_eqb x c free.0) ∙ ap (onto x) (pieces_at c xs rest free.1)

pub pieces_last : (c x : ℕ) (xs : List ℕ) → Free c (x ∷ xs) → pieces c (x ∷ xs) ≡ (x ∷ xs) ∷ []
unfolding pieces
pieces_last c x [] free = cond-false (eqb x c) _ _ (ne_eqb x c free.0)
pieces_last c x (y ∷ ys) free = cond-false (eqb x c) _ _ (ne_eqb x c free.0) ∙ ap (onto x) (pieces_last c y ys free.1)

pub pieces_cut : (c : ℕ) (s front rest : List ℕ) → 0 < length s → Cut c s front rest → pieces c s ≡ front ∷ pieces c rest
unfolding pieces
pieces_cut c s front rest h k = elim k.whole [ inl e ↦ ap (pieces c) e ∙ pieces_at c front rest k.free | inr e ↦ last s front rest h k.free e.0 e.1 ] where
  last : (s front rest : List ℕ) → 0 < length s → Free c front → s ≡ front → rest ≡ [] → pieces c s ≡ front ∷ pieces c rest
  last s [] rest h free e r = absurd (let z = ap length e in omega arith)
  last s (x ∷ xs) rest h free e r = ap (pieces c) e ∙ pieces_last c x xs free ∙ ap (λ t. (x ∷ xs) ∷ pieces c t) (sym r)

pub cut_shorter : (c : ℕ) (s front rest : List ℕ) → 0 < length s → Cut c s front rest → length rest < length s
cut_shorter c s front rest h k = elim k.whole [ inl e ↦ (let z = ap length e ∙ length-append front (c ∷ rest) in omega arith) | inr e ↦ (let z = ap length e.1 in omega arith) ]

pub line_from_cut : (s front line rest : List ℕ) → 0 < length s → Cut 10 s front rest → line ≡ chomp front → FirstLine s line rest
unfolding lines
line_from_cut s front line rest there k e =
    record {
      front = front;
      cut = k;
      line_is = e;
      of_all = ap (map chomp) (pieces_cut 10 s front rest there k) ∙ ap (λ l. l ∷ lines rest) (sym e);
      shorter = cut_shorter 10 s front rest there k;
    }
