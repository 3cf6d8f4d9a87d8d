-- The chains of keys that begin with the same two bytes.
use Rattle.std.specs.Prelude.{◌≡◌, ℕ, suc, ◌+◌, ◌*◌, ◌<◌, Bool, List, [], length, ◌==◌, Some, None, Option, slice_index, slice_index_or}
use Rattle.index.specs.Find.{last}

-- the first two bytes of a key as one number
abbrev pub bucket : List ℕ → ℕ
bucket d = slice_index d 0 * 256 + slice_index d 1

-- key i begins with the pair k
abbrev pub begins : List (List ℕ) → ℕ → ℕ → Bool
begins ks k i = bucket (slice_index_or ks i []) == k

-- how the table writes a number: one more, and 0 for none
abbrev pub mark : Option ℕ → ℕ
mark None = 0
mark (Some n) = suc n

-- the head of each chain is the last key that begins with its pair
abbrev pub Headed : List (List ℕ) → List ℕ → Type 0
Headed ks heads = (k : ℕ) → k < 65536 → slice_index heads k ≡ mark (last (begins ks k) (length ks))

-- each key leads to the last one before it that begins with its pair
abbrev pub Linked : List (List ℕ) → List ℕ → Type 0
Linked ks older = (n : ℕ) → n < length ks → slice_index older n ≡ mark (last (begins ks (bucket (slice_index_or ks n []))) n)
