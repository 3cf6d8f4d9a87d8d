-- An array made by a closure that stays as it is.
-- Assumes nothing.
use Rattle.std.proofs.Common.{◌≡◌, ℕ, zero, suc, ◌+◌, ◌<◌, List, map, get_or, sym, ap, ◌∙◌, subst, arith}
use Rattle.std.specs.List.{range_with_len}
use Rattle.std.specs.Array.{IsFromFnResult, IsFromFnResultFrom}
use Rattle.std.proofs.lemmas.List.FromFn.{fill_by_all}
use denote.Param.Members.{Called, Mut}

module _ {F : Type 0} (g : Mut F (ℕ × Unit {0}) ℕ) (f : F) (h : ℕ → ℕ) (ys : List ℕ) (m : ℕ)
    (acts : (i y : ℕ) (q : F) → i < m → Called g f (i, tt) y q → (q ≡ f) × (y ≡ h i)) where
  made_at : (i n : ℕ) → i + n ≡ m → IsFromFnResultFrom g f ys i n → (k : ℕ) → k < n → get_or ys (i + k) 0 ≡ h (i + k)
  made_at i zero l e k b = absurd (omega arith)
  made_at i (suc n) l (q, y, here, call, rest) zero b =
      let e : i + 0 ≡ i = omega arith in ap (λ j. get_or ys j 0) e ∙ here.1 0 ∙ (acts i y q (omega arith) call).1 ∙ ap h (sym e)
  made_at i (suc n) l (q, y, here, call, rest) (suc k) b =
      let e : i + suc k ≡ i + 1 + k = omega arith in
      let P : F → Type 0 = λ x. IsFromFnResultFrom g x ys (i + 1) n in
      let same : q ≡ f = (acts i y q (omega arith) call).0 in
      ap (λ j. get_or ys j 0) e ∙ made_at (i + 1) n (omega arith) (subst P same rest) k (omega arith) ∙ ap h (sym e)

  pub made_is : IsFromFnResult g f ys m → ys ≡ map h (range_with_len 0 m)
  made_is r =
      fill_by_all h ys m 0 r.long
      (λ k b. let e : 0 + k ≡ k = omega arith in ap (λ j. get_or ys j 0) (sym e) ∙ made_at 0 m (omega arith) r.each k b ∙ ap h e)
