-- The words of a line: the longest runs of bytes that are not a space (32).
use Rattle.std.specs.Prelude.{◌≡◌, ℕ, ◌<◌, Bool, true, false, ◌⊎◌, List, [], ◌∷◌, ◌++◌, length, filter, slice_index}
use Rattle.std.specs.List.{AllByRecursion}
use Rattle.text.specs.Pieces.{Free, pieces}

abbrev pub non_empty : List ℕ → Bool
non_empty [] = false
non_empty (x ∷ xs) = true

-- all words: what stands between spaces, where there is something
unfoldable pub words : List ℕ → List (List ℕ)
words s = filter non_empty (pieces 32 s)

-- only spaces
abbrev pub Blank : List ℕ → Type 0
Blank xs = AllByRecursion (λ b. b ≡ 32) xs

-- word is what stands at the front of s up to a space, and rest what follows it: nothing, or a space and more
pub record Word (s word rest : List ℕ) : Type 0 where
  pub whole : s ≡ word ++ rest
  pub free : Free 32 word
  pub ends : (rest ≡ []) ⊎ (slice_index rest 0 ≡ 32)

-- word is the first word of s, gap the spaces before it, and rest what follows it: nothing, or a space and more
pub record FirstWord (s word rest : List ℕ) : Type 0 where
  pub gap : List ℕ
  pub blank : Blank gap
  pub whole : s ≡ gap ++ (word ++ rest)
  pub some : 0 < length word
  pub free : Free 32 word
  pub ends : (rest ≡ []) ⊎ (slice_index rest 0 ≡ 32)
  pub of_all : words s ≡ word ∷ words rest
  pub shorter : length rest < length s
