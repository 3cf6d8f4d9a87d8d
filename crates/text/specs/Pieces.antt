-- How a byte c parts an input.
use Rattle.std.specs.Prelude.{◌≡◌, ℕ, if◌then◌else◌, ◌⊎◌, List, [], ◌∷◌, ◌++◌, ◌==◌, ◌≢◌}
use Rattle.std.specs.List.{AllByRecursion}

-- no byte of xs is c
abbrev pub Free : ℕ → List ℕ → Type 0
Free c xs = AllByRecursion (λ b. b ≢ c) xs

-- front is what stands before the first c of s and rest what follows that c; without a c, front is all of s
pub record Cut (c : ℕ) (s front rest : List ℕ) : Type 0 where
  pub free : Free c front
  pub whole : (s ≡ front ++ c ∷ rest) ⊎ ((s ≡ front) × (rest ≡ []))

-- the first of the pieces begun by x
abbrev pub onto : ℕ → List (List ℕ) → List (List ℕ)
onto x [] = (x ∷ []) ∷ []
onto x (p ∷ ps) = (x ∷ p) ∷ ps

-- the pieces of an input: each ends at a c, which is left out, or where the input ends; a c at the very end begins no further piece
unfoldable pub pieces : ℕ → List ℕ → List (List ℕ)
pieces c [] = []
pieces c (x ∷ xs) = if x == c then [] ∷ pieces c xs else onto x (pieces c xs)
