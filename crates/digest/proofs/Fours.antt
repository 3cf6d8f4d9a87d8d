-- A block's words, from its bytes four by four.
-- Assumes nothing.
use Rattle.std.proofs.Common.{◌≡◌, ℕ, zero, suc, ◌+◌, ◌*◌, ◌<◌, List, [], get_or, take, drop, refl, ap, ◌∙◌, add-zero, arith}
use Rattle.std.specs.Simd.{first_chunks}
use Rattle.std.specs.Int.{from_be_bytes, w32}
use Rattle.std.proofs.lemmas.List.{drop-drop, get_or-take, get_or-drop}
use Rattle.digest.specs.Sha256.{word_at}

chunk_at : (b : List ℕ) (n t : ℕ) → t < n → get_or (first_chunks 4 n b) t [] ≡ take 4 (drop (4 * t) b)
chunk_at b zero t h = absurd (omega arith)
chunk_at b (suc n) zero h = refl
chunk_at b (suc n) (suc t) h =
    let e : 4 + 4 * t ≡ 4 * suc t = omega arith in
    chunk_at (drop 4 b) n t (omega arith) ∙ ap (take 4) (drop-drop (4 * t) 4 b ∙ ap (λ k. drop k b) e)

pub word_is : (b : List ℕ) (t : ℕ) → t < 16 → from_be_bytes w32 (get_or (first_chunks 4 16 b) t []) ≡ word_at b t
word_is b t h =
    let at : (k : ℕ) → k < 4 → get_or (take 4 (drop (4 * t) b)) k 0 ≡ get_or b (4 * t + k) 0 =
    λ k l. get_or-take 4 (drop (4 * t) b) k 0 l ∙ get_or-drop (4 * t) b k 0 in
    let start = at 0 (omega arith) ∙ ap (λ k. get_or b k 0) (add-zero (4 * t)) in
    ap (from_be_bytes w32) (chunk_at b 16 t h) ∙
    (λ i. start i * 16777216 + at 1 (omega arith) i * 65536 + at 2 (omega arith) i * 256 + at 3 (omega arith) i)
