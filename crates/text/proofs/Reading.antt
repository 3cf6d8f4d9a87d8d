-- A decimal number read digit by digit, from the left.
use Rattle.std.proofs.Common.{◌≡◌, ℕ, ◌+◌, ◌-◌, ◌*◌, ◌^◌, ◌<◌, ◌≤◌, Bool, true, false, cond, ◌&&◌, ltb, List, [], ◌∷◌, length, Some, None, Option, MatchOption, SomeIff, IsTrue, Bor, Iter, inl, inr, sym, refl, ap, ◌∙◌, subst, arith, rules}
use Rattle.std.specs.Char.{is_ascii_digit}
use Rattle.std.specs.Str.{all_ascii_digits}
use Rattle.std.proofs.lemmas.List.{nil_from_length}
use Rattle.std.proofs.lemmas.Fn.{fronts}
use Rattle.std.specs.Iterator.{Yields, YieldsThen}
use Rattle.std.specs.List.{FoldsTo}
use Rattle.std.proofs.lemmas.Str.Parse.{IsNumeralModel, numerals_by_fold, numerals_by_weight, tells_all_ascii_digits}
use Rattle.std.proofs.lemmas.Bool.{cases_lt, lt-ltb, le-ltb, cond-true, cond-false, and_left, and_right}
use Rattle.text.specs.Numbers.{value_of, decimal_of}

-- the value of what was read, n, and of the digits that follow
abbrev pub onward : ℕ → List ℕ → ℕ
onward n [] = n
onward n (c ∷ cs) = onward (n * 10 + (c - 48)) cs

by_fold : IsNumeralModel (λ ds. all_ascii_digits ds ≡ true) (onward 0)
by_fold = numerals_by_fold _ tells_all_ascii_digits onward (search rules)

by_weight : IsNumeralModel (λ ds. all_ascii_digits ds ≡ true) value_of
by_weight = numerals_by_weight _ tells_all_ascii_digits value_of (search rules)

same_value : (ds : List ℕ) → all_ascii_digits ds ≡ true → value_of ds ≡ onward 0 ds
same_value ds p = by_weight.same ds (by_weight.to ds p) ∙ sym (by_fold.same ds (by_fold.to ds p))

onward_ge : (n : ℕ) (ds : List ℕ) → n ≤ onward n ds
onward_ge n [] = omega arith
onward_ge n (c ∷ cs) = let h = onward_ge (n * 10 + (c - 48)) cs in omega arith

-- what the whole word comes to, after n was read and with the bytes that follow still to read
unfoldable pub read_after : ℕ → List ℕ → Option ℕ
read_after n ds = cond (all_ascii_digits ds && ltb (onward n ds) (2 ^ 32)) (Some (onward n ds)) None

read_digit : (n c : ℕ) (cs : List ℕ) → is_ascii_digit c ≡ true → read_after n (c ∷ cs) ≡ read_after (n * 10 + (c - 48)) cs
unfolding read_after
read_digit n c cs e = ap (λ b. cond ((b && all_ascii_digits cs) && ltb (onward n (c ∷ cs)) (2 ^ 32)) (Some (onward n (c ∷ cs))) None) e

read_other : (n c : ℕ) (cs : List ℕ) → is_ascii_digit c ≡ false → read_after n (c ∷ cs) ≡ None
unfolding read_after
read_other n c cs e = cond-false _ _ _ (and_left _ _ (and_left (is_ascii_digit c) (all_ascii_digits cs) e))

read_large : (n : ℕ) (ds : List ℕ) → 2 ^ 32 ≤ n → read_after n ds ≡ None
unfolding read_after
read_large n ds h = cond-false _ _ _ (and_right _ _ (le-ltb (onward n ds) (2 ^ 32) (let g = onward_ge n ds in omega arith)))

-- r is n with the digit c behind it, or None where c is no digit or makes it 2 ^ 32 or more
abbrev pub Appends : ℕ → ℕ → Option ℕ → Type 0
Appends n c r = SomeIff r (IsTrue (is_ascii_digit c) × (n * 10 + (c - 48) < 2 ^ 32)) (n * 10 + (c - 48))

read_refused : (n c : ℕ) (cs : List ℕ) → Appends n c None → read_after n (c ∷ cs) ≡ None
read_refused n c cs refused = go (is_ascii_digit c) refl where
  go : (b : Bool) → is_ascii_digit c ≡ b → read_after n (c ∷ cs) ≡ None
  go true e = read_digit n c cs e ∙ elim (cases_lt (n * 10 + (c - 48)) (2 ^ 32)) [ inl h ↦ absurd (refused (e, h)) | inr h ↦ read_large (n * 10 + (c - 48)) cs h ]
  go false e = read_other n c cs e

read_end : (n : ℕ) → n < 2 ^ 32 → read_after n [] ≡ Some n
unfolding read_after
read_end n h = cond-true _ _ _ (lt-ltb n (2 ^ 32) h)

decimal_read : (w : List ℕ) → 0 < length w → decimal_of w ≡ read_after 0 w
unfolding read_after decimal_of
decimal_read [] h = absurd (omega arith)
decimal_read (c ∷ cs) h = go (all_ascii_digits (c ∷ cs)) refl where
  Test : Bool → ℕ → Option ℕ
  Test b v = cond (b && ltb v (2 ^ 32)) (Some v) None

  go : (b : Bool) → all_ascii_digits (c ∷ cs) ≡ b → Test (all_ascii_digits (c ∷ cs)) (value_of (c ∷ cs)) ≡ Test (all_ascii_digits (c ∷ cs)) (onward 0 (c ∷ cs))
  go true e = ap (Test (all_ascii_digits (c ∷ cs))) (same_value (c ∷ cs) e)
  go false e = ap (λ b. Test b (value_of (c ∷ cs))) e ∙ sym (ap (λ b. Test b (onward 0 (c ∷ cs))) e)

pub empty_none : (w : List ℕ) → length w ≡ 0 → None ≡ decimal_of w
unfolding decimal_of
empty_none [] e = refl
empty_none (c ∷ cs) e = absurd (omega arith)

-- What `try_fold` reads of w, where a turn reads a digit and `Broke` says that one was refused.
module _ {F : Type 0} (Turn : F × ℕ → Bor ℕ → F × ℕ → Type 0) (Broke : F → ℕ → Bor ℕ → Type 0)
    (reads : (p : F × ℕ) (x : Bor ℕ) (q : F × ℕ) → Turn p x q → Appends p.1 x.now (Some q.1)) where
  after_turns : (s : Iter ℕ) (xs : List (Bor ℕ)) (t : Iter ℕ) (p q : F × ℕ) → Yields fronts s xs t → FoldsTo Turn p xs q → p.1 < 2 ^ 32
      → (q.1 < 2 ^ 32) × (read_after p.1 s.rest.now ≡ read_after q.1 t.rest.now)
  after_turns s [] t p q y f h = (subst (λ (k : F × ℕ). k.1 < 2 ^ 32) f h, ap (λ k. read_after p.1 k.rest.now) y ∙ ap (λ k. read_after k.1 t.rest.now) f)
  after_turns s (x ∷ xs) t p q (j, st, y) (m, r, f) h =
      let d = reads p x m r in
      let k = after_turns j xs t m q y f (subst (λ n. n < 2 ^ 32) (sym d.1) d.0.1) in
      (k.0, ap (read_after p.1) st ∙ read_digit p.1 x.now j.rest.now d.0.0 ∙ ap (λ n. read_after n j.rest.now) (sym d.1) ∙ k.1)

  pub decimal_by_turns : (w : List ℕ) (s u : Iter ℕ) (f : F) (r : Option ℕ) → 0 < length w → s.rest.now ≡ w
      → ((f' : F) (a : ℕ) (x : Bor ℕ) → Broke f' a x → (r ≡ None) × Appends a x.now None)
      → (xs : List (Bor ℕ)) × (o : Option (Bor ℕ)) × (f' : F) × (a : ℕ) × YieldsThen fronts s xs o u × FoldsTo Turn (f, 0) xs (f', a)
      × MatchOption o (r ≡ Some a) (Broke f' a)
      → r ≡ decimal_of w
  decimal_by_turns w s u f r some e broken (xs, None, f', a, (t, y, last), g, made) =
      let k = after_turns s xs t (f, 0) (f', a) y g (omega arith) in
      made ∙ sym (decimal_read w some ∙ ap (read_after 0) (sym e) ∙ k.1 ∙ ap (read_after a) (nil_from_length t.rest.now last.0) ∙ read_end a k.0)
  decimal_by_turns w s u f r some e broken (xs, Some x, f', a, (t, y, last), g, made) =
      let k = after_turns s xs t (f, 0) (f', a) y g (omega arith) in
      let b = broken f' a x made in b.0 ∙ sym (decimal_read w some ∙ ap (read_after 0) (sym e) ∙ k.1 ∙ ap (read_after a) last ∙ read_refused a x.now u.rest.now b.1)
