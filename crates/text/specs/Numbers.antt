-- Numbers as an input writes them.
use Rattle.std.specs.Prelude.{ℕ, ◌+◌, ◌-◌, ◌*◌, ◌^◌, if◌then◌else◌, ◌&&◌, List, [], ◌∷◌, length, Some, None, Option, nat_lt}
use Rattle.std.specs.Int.{is_in_range}
use Rattle.std.specs.Str.{all_ascii_digits}
use Rattle.text.specs.Words.{non_empty}

-- what digits are worth: the last one counts once, each other ten times what it would one place on
abbrev pub value_of : List ℕ → ℕ
value_of [] = 0
value_of (c ∷ cs) = (c - 48) * 10 ^ length cs + value_of cs

-- the number that a word writes: one or more decimal digits and nothing else, worth less than 2 ^ 32; zeros may lead
unfoldable pub decimal_of : List ℕ → Option ℕ
decimal_of w = if non_empty w && (all_ascii_digits w && nat_lt (value_of w) (2 ^ 32)) then Some (value_of w) else None

-- what a hexadecimal digit is worth: 0 to 9, a to f, A to F
abbrev pub hex_value : ℕ → Option ℕ
hex_value b =
    if is_in_range 48 57 b then Some (b - 48)
    else if is_in_range 97 102 b then Some (b - 87)
    else if is_in_range 65 70 b then Some (b - 55)
    else None
