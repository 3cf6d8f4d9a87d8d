-- A message's blocks: its own and, behind them, the one or two of its padded end.
-- Assumes nothing.
use Rattle.std.proofs.Common.{◌≡◌, ℕ, zero, suc, ◌+◌, ◌-◌, ◌*◌, ◌/◌, ◌%◌, ◌<◌, ◌≤◌, List, ◌∷◌, ◌++◌, length, take, drop, replicate, fold, sym, refl, ap, ◌∙◌, append_assoc, add-zero, add-suc, arith}
use Rattle.std.proofs.lemmas.List.{drop-append-le, drop_at, drop-drop, length-append, length-drop, length-replicate, length-take-le, take-append-drop, take-append-le, take_at}
use Rattle.std.specs.Simd.{first_chunks}
use Rattle.digest.specs.declared.block.State.{State}
use Rattle.digest.specs.Sha256.{bytes8, compressed, ended, hashed, zeros}

-- the end has the message's rest, and nine bytes and the zeros more
length-ended : (r : List ℕ) (bits : ℕ) → length (ended r bits) ≡ length r + (9 + zeros (length r))
unfolding ended
length-ended r bits =
    length-append r _ ∙ ap (λ n. length r + suc n) (length-append (replicate (zeros (length r)) 0) (bytes8 bits)) ∙
    omega (arith, length-replicate {A = ℕ} (zeros (length r)) 0)

-- n blocks more, from the t-th on
pub chunks_hashed : (s : State) (m : List ℕ) (t n : ℕ) → fold compressed (hashed s m t) (first_chunks 64 n (drop (64 * t) m)) ≡ hashed s m (t + n)
unfolding hashed
chunks_hashed s m t zero = sym (ap (hashed s m) (add-zero t))
chunks_hashed s m t (suc n) =
    let next : drop 64 (drop (64 * t) m) ≡ drop (64 * suc t) m = drop-drop 64 (64 * t) m ∙ ap (λ k. drop k m) (omega arith) in
    let e : suc t + n ≡ t + suc n = omega arith in
    ap (λ l. fold compressed (hashed s m (suc t)) (first_chunks 64 n l)) next ∙ chunks_hashed s m (suc t) n ∙ ap (hashed s m) e

-- the blocks that lie wholly in the first part of a list are those of that part
front_blocks : (s : State) (p t : List ℕ) (q : ℕ) → 64 * q ≤ length p → hashed s (p ++ t) q ≡ hashed s p q
unfolding hashed
front_blocks s p t zero h = refl
front_blocks s p t (suc q) h =
    let low : 64 * q ≤ length p = omega arith in
    let room : 64 ≤ length (drop (64 * q) p) = omega (arith, length-drop (64 * q) p) in
    λ i. compressed (front_blocks s p t q low i)
    ((ap (take 64) (drop-append-le (64 * q) p t low) ∙ take-append-le 64 (drop (64 * q) p) t room) i)

-- those behind q whole blocks are those of the second part
back_blocks : (s : State) (p t : List ℕ) (q j : ℕ) → length p ≡ 64 * q → hashed s (p ++ t) (q + j) ≡ hashed (hashed s p q) t j
unfolding hashed
back_blocks s p t q zero l =
    ap (hashed s (p ++ t)) (add-zero q) ∙ front_blocks s p t q (omega (arith, l))
back_blocks s p t q (suc j) l =
    let split : 64 * (q + j) ≡ 64 * q + 64 * j = omega arith in
    let past : drop (64 * (q + j)) (p ++ t) ≡ drop (64 * j) t =
    ap (λ n. drop n (p ++ t)) split ∙ sym (drop-drop (64 * j) (64 * q) (p ++ t)) ∙ ap (drop (64 * j)) (drop_at p t (64 * q) l) in
    ap (hashed s (p ++ t)) (add-suc q j) ∙ (λ i. compressed (back_blocks s p t q j l i) (take 64 (past i)))

-- a message's whole blocks, and then those of its padded end
module _ (m : List ℕ) (bits : ℕ) where
  whole : ℕ
  whole = length m / 64

  first : List ℕ
  first = take (64 * whole) m

  rest : List ℕ
  rest = drop (64 * whole) m

  length_first : length first ≡ 64 * whole
  unfolding first whole
  length_first = length-take-le (64 * whole) m (omega arith)

  length_rest : length rest ≡ length m - 64 * whole
  unfolding rest
  length_rest = length-drop (64 * whole) m

  same_zeros : zeros (length m) ≡ zeros (length rest)
  unfolding whole
  same_zeros = omega (arith, length_rest)

  split_end : ended m bits ≡ first ++ ended rest bits
  unfolding ended first rest
  split_end =
      (λ i. sym (take-append-drop (64 * whole) m) i ++ 128 ∷ (replicate (same_zeros i) 0 ++ bytes8 bits)) ∙
      append_assoc first rest (128 ∷ (replicate (zeros (length rest)) 0 ++ bytes8 bits))

  count : length (ended m bits) / 64 ≡ whole + length (ended rest bits) / 64
  count =
      let sum : length (ended m bits) ≡ length first + length (ended rest bits) = ap length split_end ∙ length-append first (ended rest bits) in
      omega (arith, sum, length_first)

  own_blocks : (s : State) → hashed s first whole ≡ hashed s m whole
  unfolding first rest
  own_blocks s =
      sym (front_blocks s first rest whole (omega (arith, length_first))) ∙
      ap (λ l. hashed s l whole) (take-append-drop (64 * whole) m)

  pub all_blocks : (s : State) →
      hashed (hashed s m (length m / 64)) (ended (drop (64 * (length m / 64)) m) bits)
      (length (ended (drop (64 * (length m / 64)) m) bits) / 64) ≡ hashed s (ended m bits) (length (ended m bits) / 64)
  unfolding whole rest
  all_blocks s =
      sym ((λ i. hashed s (split_end i) (count i)) ∙ back_blocks s first (ended rest bits) whole (length (ended rest bits) / 64) length_first ∙
      ap (λ x. hashed x (ended rest bits) (length (ended rest bits) / 64)) (own_blocks s))

-- the padded message is whole blocks, and begins with the message
pub padding : (m : List ℕ) (bits : ℕ) →
    (length (ended m bits) % 64 ≡ 0) × (take (length m) (ended m bits) ≡ m) × (zeros (length m) < 64)
unfolding ended
padding m bits =
    (omega (arith, length-ended m bits), take_at m (128 ∷ (replicate (zeros (length m)) 0 ++ bytes8 bits)) (length m) refl, omega arith)
