-- Bytes read from pairs of digits.
use Rattle.std.proofs.Common.{◌≡◌, ℕ, zero, suc, ◌*◌, ◌/◌, ◌%◌, ◌≤◌, List, [], ◌∷◌, length, get_or, Some, None, Option, refl, ap, ◌∙◌, arith}
use Rattle.std.specs.Simd.{first_chunks}
use Rattle.text.specs.Hex.{hex_byte}
use Rattle.vectors.specs.Messages.{front, begun, bytes_of}

-- the bytes that pairs of digits write
abbrev pub bytes_of_pairs : List (List ℕ) → Option (List ℕ)
bytes_of_pairs [] = Some []
bytes_of_pairs (p ∷ ps) = begun (hex_byte (get_or p 0 0) (get_or p 1 0)) (bytes_of_pairs ps)

pub even : (xs : List ℕ) (k : ℕ) → length xs ≡ 2 * k → bytes_of_pairs (first_chunks 2 k xs) ≡ bytes_of xs
unfolding bytes_of
even [] zero e = refl
even [] (suc k) e = absurd (omega arith)
even (x ∷ xs) zero e = absurd (omega arith)
even (x ∷ []) (suc k) e = absurd (omega arith)
even (x ∷ y ∷ zs) (suc k) e = ap (begun (hex_byte x y)) (even zs k (omega arith))

begun_none : (b : Option ℕ) → begun b None ≡ None
begun_none None = refl
begun_none (Some b) = refl

pub odd : (xs : List ℕ) → 1 ≤ length xs % 2 → bytes_of xs ≡ None
unfolding bytes_of
odd [] h = absurd (omega arith)
odd (x ∷ []) h = refl
odd (x ∷ y ∷ zs) h = ap (begun (hex_byte x y)) (odd zs (omega arith)) ∙ begun_none (hex_byte x y)

front_nil : (o : Option (List ℕ)) → front [] o ≡ o
front_nil None = refl
front_nil (Some ys) = refl

-- all digits are in pairs
pub at_first : (xs : List ℕ) {ps : List (List ℕ)} → ps ≡ first_chunks 2 (length xs / 2) xs → length xs % 2 ≡ 0 → front [] (bytes_of_pairs ps) ≡ bytes_of xs
at_first xs e h = front_nil _ ∙ ap bytes_of_pairs e ∙ even xs (length xs / 2) (omega arith)
