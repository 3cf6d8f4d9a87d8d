-- What sets of voters weigh together.
-- Assumes nothing.
use Rattle.std.proofs.Common.{◌≡◌, ℕ, zero, suc, ◌+◌, ◌<◌, ◌≤◌, Bool, true, false, cond, ◌&&◌, refl, arith}
use Rattle.std.proofs.lemmas.Bool.{false≢true, le-leb, leb-true}
use Rattle.finality.specs.Votes.{Electorate, Third, both, everyone, quorum, total, weighed, weight_in}

-- one voter's part
shared_one : (x y : Bool) (w : ℕ) → cond x w 0 + cond y w 0 ≤ w + cond (x && y) w 0
shared_one true y w = omega arith
shared_one false true w = omega arith
shared_one false false w = omega arith

-- two sets of voters weigh at most what all weigh and, once more, those in both
pub shared_weight : (n : ℕ) (w : ℕ → ℕ) (p q : ℕ → Bool) →
    weighed n w p + weighed n w q ≤ weighed n w everyone + weighed n w (both p q)
unfolding weighed
shared_weight zero w p q = omega arith
shared_weight (suc n) w p q =
    let here = shared_one (p n) (q n) (w n) in
    let rest = shared_weight n w p q in
    omega arith

pub shared_third : (vs : Electorate) (p q : ℕ → Bool) → quorum (weight_in vs p) (total vs) ≡ true →
    quorum (weight_in vs q) (total vs) ≡ true → Third vs (both p q)
shared_third vs p q a b =
    let x = leb-true _ _ a in
    let y = leb-true _ _ b in
    let s = shared_weight vs.count vs.weight p q in
    omega arith

lighter_one : (x y : Bool) (w : ℕ) → (x ≡ true → y ≡ true) → cond x w 0 ≤ cond y w 0
lighter_one false y w h = omega arith
lighter_one true true w h = omega arith
lighter_one true false w h = absurd (false≢true (h refl))

-- a set within another weighs no more
pub lighter : (n : ℕ) (w : ℕ → ℕ) (p q : ℕ → Bool) → ((v : ℕ) → v < n → p v ≡ true → q v ≡ true) → weighed n w p ≤ weighed n w q
unfolding weighed
lighter zero w p q h = omega arith
lighter (suc n) w p q h =
    let here = lighter_one (p n) (q n) (w n) (h n (omega arith)) in
    let rest = lighter n w p q (λ v i. h v (omega arith)) in
    omega arith

-- what holds a quorum is one
pub quorum_within : (vs : Electorate) (p q : ℕ → Bool) → ((v : ℕ) → v < vs.count → p v ≡ true → q v ≡ true) →
    quorum (weight_in vs p) (total vs) ≡ true → quorum (weight_in vs q) (total vs) ≡ true
quorum_within vs p q h e =
    let a = leb-true _ _ e in
    let b = lighter vs.count vs.weight p q h in
    le-leb _ _ (omega arith)
