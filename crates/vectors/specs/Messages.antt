-- The messages that lines describe, and what is answered to them.
use Rattle.std.specs.Prelude.{ℕ, ◌*◌, ◌/◌, ◌%◌, cond, List, [], ◌∷◌, ◌++◌, length, Some, None, codes, Option, nat_lt}
use Rattle.std.specs.List.{repeat}
use Rattle.digest.specs.Sha256.{sha256_of}
use Rattle.text.specs.Hex.{hex_byte, hex_digit_of}
use Rattle.text.specs.Numbers.{decimal_of}
use Rattle.text.specs.Words.{words}

-- bytes, where there are any, behind those of xs
abbrev pub front : List ℕ → Option (List ℕ) → Option (List ℕ)
front xs None = None
front xs (Some ys) = Some (xs ++ ys)

abbrev pub begun : Option ℕ → Option (List ℕ) → Option (List ℕ)
begun None o = None
begun (Some b) o = front (b ∷ []) o

-- the bytes that digits write, two digits a byte
unfoldable pub bytes_of : List ℕ → Option (List ℕ)
bytes_of [] = Some []
bytes_of (x ∷ []) = None
bytes_of (x ∷ y ∷ zs) = begun (hex_byte x y) (bytes_of zs)

-- the part n times over, where neither n nor the number of bytes is too great
unfoldable pub within : ℕ → List ℕ → Option (List ℕ)
within n part = cond (nat_lt 1000000 n) None (cond (nat_lt 16777216 (n * length part)) None (Some (repeat n part)))

abbrev pub over_many : Option ℕ → Option (List ℕ) → Option (List ℕ)
over_many None part = None
over_many (Some n) None = None
over_many (Some n) (Some part) = within n part

-- the words are COUNT, or COUNT and HEX
abbrev pub spelled : List (List ℕ) → Option (List ℕ)
spelled [] = None
spelled (n ∷ []) = over_many (decimal_of n) (bytes_of [])
spelled (n ∷ h ∷ []) = over_many (decimal_of n) (bytes_of h)
spelled (n ∷ h ∷ w ∷ ws) = None

-- the message that a line describes
unfoldable pub message_of : List ℕ → Option (List ℕ)
message_of line = spelled (words line)

-- the digits that write bytes
unfoldable pub written : List ℕ → List ℕ
written [] = []
written (b ∷ bs) = hex_digit_of (b / 16) ∷ hex_digit_of (b % 16) ∷ written bs

abbrev pub answered : Option (List ℕ) → List ℕ
answered None = codes "refused 1\n"
answered (Some m) = written (sha256_of m) ++ codes "\n"

-- what is answered to a line
unfoldable pub answer_to : List ℕ → List ℕ
answer_to line = answered (message_of line)

-- what is answered to lines
abbrev pub answers : List (List ℕ) → List ℕ
answers [] = []
answers (l ∷ ls) = answer_to l ++ answers ls
