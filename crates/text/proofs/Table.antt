-- The table of hexadecimal digits is its rule at each place, which antt computes over the whole table.
use Rattle.std.proofs.Common.{◌≡◌, ℕ, ◌<◌, List, [], ◌∷◌, ◌++◌, map, get_or, replicate, Some, None, Option, zero-add}
use Rattle.std.specs.List.{range_with_len, flat_map}
use Rattle.std.proofs.lemmas.List.FromFn.{get_or-map-range_with_len}
use Rattle.text.specs.Hex.{hex_digit_of}
use Rattle.text.specs.Numbers.{hex_value}

-- the digit that writes each number below 16
pub digit_at : (n : ℕ) → n < 16 → get_or (map hex_digit_of (range_with_len 0 16)) n 0 ≡ hex_digit_of n
digit_at n h = get_or-map-range_with_len hex_digit_of 0 16 n n 0 h (zero-add n)

-- what each byte is worth, by its upper four bits and then its lower four
abbrev letters : List (Option ℕ)
letters = None ∷ Some 10 ∷ Some 11 ∷ Some 12 ∷ Some 13 ∷ Some 14 ∷ Some 15 ∷ replicate 9 None

abbrev figures : List (Option ℕ)
figures = map Some (range_with_len 0 10) ++ replicate 6 None

abbrev none : List (Option ℕ)
none = replicate 16 None

abbrev pub table : List (List (Option ℕ))
table = none ∷ none ∷ none ∷ figures ∷ letters ∷ none ∷ letters ∷ replicate 9 none

pub value_at : (b : ℕ) → b < 256 → get_or (flat_map (λ r. r) table) b None ≡ hex_value b
value_at b h = get_or-map-range_with_len hex_value 0 256 b b None h (zero-add b)
