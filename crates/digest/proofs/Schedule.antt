-- A word more of the schedule.
-- Assumes nothing.
use Rattle.std.proofs.Common.{◌≡◌, ℕ, suc, ◌+◌, ◌-◌, ◌<◌, ◌≤◌, List, [], ◌∷◌, ◌++◌, length, get_or, take, set, sym, ap, ◌∙◌, arith}
use Rattle.std.proofs.lemmas.List.{get_or-take, take_more_set}
use Rattle.digest.specs.Words.{add32, σ0, σ1}
use Rattle.digest.specs.Sha256.{next_word, schedule}

-- it depends on nothing from t on
before : (w : List ℕ) (t : ℕ) → 16 ≤ t → next_word (take t w) t ≡ next_word w t
before w t low =
    let at : (d : ℕ) → 1 ≤ d → d ≤ 16 → get_or (take t w) (t - d) 0 ≡ get_or w (t - d) 0 = λ d l h. get_or-take t w (t - d) 0 (omega arith) in
    λ i. add32 (add32 (add32 (σ1 (at 2 (omega arith) (omega arith) i)) (at 7 (omega arith) (omega arith) i))
    (σ0 (at 15 (omega arith) (omega arith) i))) (at 16 (omega arith) (omega arith) i)

pub schedule_more : (m w : List ℕ) (t v : ℕ) → 16 ≤ t → t < length w → v ≡ next_word w t → take t w ≡ schedule m (t - 16) →
    take (t + 1) (set w t v) ≡ schedule m (t + 1 - 16)
unfolding schedule
schedule_more m w t v low room e h =
    let n : t + 1 - 16 ≡ suc (t - 16) = omega arith in
    let here : t ≡ 16 + (t - 16) = omega arith in
    take_more_set w t v room ∙
    (λ i. h i ++ (e ∙ sym (before w t low) ∙ (λ j. next_word (h j) (here j))) i ∷ []) ∙
    sym (ap (schedule m) n)
