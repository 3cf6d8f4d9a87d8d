-- The number under which a key was entered last.
use Rattle.std.specs.Prelude.{◌≡◌, ℕ, zero, suc, ◌<◌, Bool, cond, List, [], length, Some, None, Option, ◌≢◌, ◌↔◌, slice_index_or}
use Rattle.std.specs.Str.{bytes_eq}

-- the last number below n of which a test holds
unfoldable pub last : (ℕ → Bool) → ℕ → Option ℕ
last p zero = None
last p (suc n) = cond (p n) (Some n) (last p n)

-- the number of the last of the keys ks that equals d
unfoldable pub find : List (List ℕ) → List ℕ → Option ℕ
find ks d = last (λ i. bytes_eq (slice_index_or ks i []) d) (length ks)

-- key n is d, and no later key is
pub record LastAt (ks : List (List ℕ)) (d : List ℕ) (n : ℕ) : Type 0 where
  pub within : n < length ks
  pub equal : slice_index_or ks n [] ≡ d
  pub after : (m : ℕ) → n < m → m < length ks → slice_index_or ks m [] ≢ d

abbrev pub Nowhere : List (List ℕ) → List ℕ → Type 0
Nowhere ks d = (n : ℕ) → n < length ks → slice_index_or ks n [] ≢ d

-- a number is found exactly if the last key that equals d has it, and none exactly if no key equals d
abbrev pub FindsLast : Type 0
FindsLast = (ks : List (List ℕ)) (d : List ℕ) → ((n : ℕ) → (find ks d ≡ Some n) ↔ LastAt ks d n) × ((find ks d ≡ None) ↔ Nowhere ks d)
