-- Bytes as two hexadecimal digits each, the higher first.
use Rattle.std.specs.Prelude.{◌≡◌, ℕ, ◌+◌, ◌*◌, ◌/◌, ◌%◌, ◌<◌, if◌then◌else◌, Some, None, Option, nat_lt}
use Rattle.text.specs.Numbers.{hex_value}

abbrev pub pair_of : Option ℕ → Option ℕ → Option ℕ
pair_of None l = None
pair_of (Some h) None = None
pair_of (Some h) (Some l) = Some (16 * h + l)

-- the byte that two digits write
abbrev pub hex_byte : ℕ → ℕ → Option ℕ
hex_byte high low = pair_of (hex_value high) (hex_value low)

-- the digit, in lower case, that writes a number below 16
abbrev pub hex_digit_of : ℕ → ℕ
hex_digit_of n = if nat_lt n 10 then 48 + n else 87 + n

abbrev pub RoundTrip : Type 0
RoundTrip = (b : ℕ) → b < 256 → hex_byte (hex_digit_of (b / 16)) (hex_digit_of (b % 16)) ≡ Some b
