-- How high pages are.
use Rattle.std.proofs.Common.{◌≡◌, ℕ, zero, suc, ◌<◌, ◌≤◌, List, length, get_or, ap, ◌∙◌, inl, inr, arith}
use Rattle.std.proofs.lemmas.Bool.{cases_lt}
use Rattle.finality.specs.Book.{Book}

-- a page's height is at most its number
pub height_le : (ps hs : List ℕ) → Book ps hs → (b : ℕ) → b < length ps → get_or hs b 1 ≤ b
height_le ps hs bk b = from b b (omega arith)
  where
    from : (n b : ℕ) → b ≤ n → b < length ps → get_or hs b 1 ≤ b
    from zero b le h = let e : b ≡ 0 = omega arith in let f = ap (λ k. get_or hs k 1) e ∙ bk.first in omega arith
    from (suc n) b le h =
        elim (cases_lt 0 b) [
          | inl i ↦ (
              let l = bk.below b i h in
              let r = from n (get_or ps b 0) (omega arith) (omega arith) in
              let u = bk.up b i h in
              omega arith)
          | inr i ↦ from n b (omega arith) h
        ]
