-- Rounds in a row, and eights of rounds.
-- Assumes nothing.
use Rattle.std.proofs.Common.{◌≡◌, ℕ, zero, suc, ◌+◌, ◌*◌, ◌<◌, ◌≤◌, List, ◌∷◌, length, get_or, take, drop, fold, sym, ap, ◌∙◌, add-zero, arith}
use Rattle.std.specs.List.{zip}
use Rattle.std.specs.Simd.{first_chunks}
use Rattle.std.proofs.Math.Seq.{drop-cons}
use Rattle.std.proofs.lemmas.List.{drop-drop}
use Rattle.digest.specs.declared.block.State.{State}
use Rattle.digest.specs.Sha256.{constants, round_of, rounds}

within : (t : ℕ) → t < 64 → t < length constants
unfolding constants
within t h = h

-- n rounds, from the t-th on
rounds_run : (s : State) (w : List ℕ) (t n : ℕ) → t + n ≤ 64 → length w ≡ 64 →
    fold (λ x p. round_of x p.0 p.1) (rounds s w t) (zip (take n (drop t constants)) (take n (drop t w))) ≡ rounds s w (t + n)
unfolding rounds
rounds_run s w t zero h l = sym (ap (rounds s w) (add-zero t))
rounds_run s w t (suc n) h l =
    let c : drop t constants ≡ get_or constants t 0 ∷ drop (suc t) constants = drop-cons constants t 0 (within t (omega arith)) in
    let d : drop t w ≡ get_or w t 0 ∷ drop (suc t) w = drop-cons w t 0 (omega arith) in
    let e : suc t + n ≡ t + suc n = omega arith in
    (λ i. fold (λ x p. round_of x p.0 p.1) (rounds s w t) (zip (take (suc n) (c i)) (take (suc n) (d i)))) ∙
    rounds_run s w (suc t) n (omega arith) l ∙ ap (rounds s w) e

-- n eights of them
eights_run : (s : State) (w : List ℕ) (t n : ℕ) → t + 8 * n ≤ 64 → length w ≡ 64 →
    fold (λ x p. fold (λ y q. round_of y q.0 q.1) x (zip p.0 p.1)) (rounds s w t)
    (zip (first_chunks 8 n (drop t constants)) (first_chunks 8 n (drop t w))) ≡ rounds s w (t + 8 * n)
eights_run s w t zero h l = ap (rounds s w) (omega arith)
eights_run s w t (suc n) h l =
    let e : t + 8 + 8 * n ≡ t + 8 * suc n = omega arith in
    (λ i. fold (λ x p. fold (λ y q. round_of y q.0 q.1) x (zip p.0 p.1)) (rounds_run s w t 8 (omega arith) l i)
    (zip (first_chunks 8 n (drop-drop 8 t constants i)) (first_chunks 8 n (drop-drop 8 t w i)))) ∙
    eights_run s w (t + 8) n (omega arith) l ∙ ap (rounds s w) e

-- all of them
pub all_rounds : (s : State) (w : List ℕ) → length w ≡ 64 →
    fold (λ x p. fold (λ y q. round_of y q.0 q.1) x (zip p.0 p.1)) s (zip (first_chunks 8 8 constants) (first_chunks 8 8 w)) ≡ rounds s w 64
unfolding rounds
all_rounds s w l = eights_run s w 0 8 (omega arith) l
