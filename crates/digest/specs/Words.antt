-- Operations on words of 32 bits, as FIPS 180-4 names them (sections 2.2.2, 3.2 and 4.1.2). A word is a number below 2 ^ 32.
-- Assumes nothing.
use Rattle.std.specs.Prelude.{ℕ, ◌+◌, ◌-◌, ◌*◌, ◌/◌, ◌%◌, ◌^◌, bit_and, bit_or, bit_xor}

-- x + y modulo 2 ^ 32
abbrev pub add32 : ℕ → ℕ → ℕ
add32 x y = (x + y) % 2 ^ 32

-- the complement of x
abbrev pub not32 : ℕ → ℕ
not32 x = 2 ^ 32 - 1 - x

-- SHR: x shifted to the right by n
abbrev pub shr : ℕ → ℕ → ℕ
shr n x = x / 2 ^ n

-- ROTR: x rotated to the right by n, for 0 < n < 32
abbrev pub rotr : ℕ → ℕ → ℕ
rotr n x = bit_or (x / 2 ^ n) ((x * 2 ^ (32 - n)) % 2 ^ 32)

abbrev pub ch : ℕ → ℕ → ℕ → ℕ
ch x y z = bit_xor (bit_and x y) (bit_and (not32 x) z)

abbrev pub maj : ℕ → ℕ → ℕ → ℕ
maj x y z = bit_xor (bit_xor (bit_and x y) (bit_and x z)) (bit_and y z)

-- Σ and σ, of the numbers of bits by which they rotate and shift
abbrev pub big_sigma : ℕ → ℕ → ℕ → ℕ → ℕ
big_sigma a b c x = bit_xor (bit_xor (rotr a x) (rotr b x)) (rotr c x)

abbrev pub small_sigma : ℕ → ℕ → ℕ → ℕ → ℕ
small_sigma a b c x = bit_xor (bit_xor (rotr a x) (rotr b x)) (shr c x)

abbrev pub Σ0 : ℕ → ℕ
Σ0 = big_sigma 2 13 22

abbrev pub Σ1 : ℕ → ℕ
Σ1 = big_sigma 6 11 25

abbrev pub σ0 : ℕ → ℕ
σ0 = small_sigma 7 18 3

abbrev pub σ1 : ℕ → ℕ
σ1 = small_sigma 17 19 10
