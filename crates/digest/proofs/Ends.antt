-- The padded end of a message as it is written: its rest, the byte 128, and in the last eight bytes its length.
-- Assumes nothing.
use Rattle.std.proofs.Common.{◌≡◌, ℕ, suc, ◌+◌, ◌-◌, List, [], ◌∷◌, ◌++◌, length, take, drop, set, replicate, sym, refl, ap, ◌∙◌, append_assoc, arith}
use Rattle.std.proofs.lemmas.List.{drop-replicate, drop_all, length-append, length-drop, length-replicate, replicate-append-replicate, set_at, take_at}
use Rattle.digest.specs.Sha256.{bytes8}

-- r is the rest, z the number of zeros, n the length of it all
module _ (r : List ℕ) (bits z n : ℕ) (size : length r + 9 + z ≡ n) where
  front : List ℕ
  front = r ++ 128 ∷ replicate z 0

  length_front : length front ≡ n - 8
  unfolding front
  length_front = length-append r _ ∙ omega (arith, size, length-replicate {A = ℕ} z 0)

  -- the array once the rest and the byte 128 are in it
  abbrev pub marked : List ℕ
  marked = set (r ++ drop (length r) (replicate n 0)) (length r) 128

  marked_is : marked ≡ front ++ replicate 8 0
  unfolding front
  marked_is =
      let more : n - length r ≡ suc (z + 8) = omega (arith, size) in
      ap (λ l. set (r ++ l) (length r) 128) (drop-replicate (length r) n 0 ∙ ap (λ j. replicate j 0) more) ∙
      set_at r 0 (replicate (z + 8) 0) 128 (length r) refl ∙
      ap (λ l. r ++ 128 ∷ l) (sym (replicate-append-replicate z 8 0)) ∙ sym (append_assoc r (128 ∷ replicate z 0) (replicate 8 0))

  pub end_is : take (n - 8) marked ++ (bytes8 bits ++ drop (length marked - (n - 8)) (drop (n - 8) marked)) ≡ r ++ 128 ∷ (replicate z 0 ++ bytes8 bits)
  unfolding front
  end_is =
      let none : drop (length marked - (n - 8)) (drop (n - 8) marked) ≡ [] =
      drop_all (length marked - (n - 8)) (drop (n - 8) marked) (omega (arith, length-drop (n - 8) marked)) in
      (λ i. (ap (take (n - 8)) marked_is ∙ take_at front (replicate 8 0) (n - 8) length_front) i ++ (bytes8 bits ++ none i)) ∙
      append_assoc r (128 ∷ replicate z 0) (bytes8 bits)
