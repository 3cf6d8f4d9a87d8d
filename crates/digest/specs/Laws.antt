-- What holds of the definition itself.
-- Assumes nothing.
use Rattle.std.specs.Prelude.{◌≡◌, ℕ, zero, suc, ◌+◌, ◌*◌, ◌%◌, ◌^◌, ◌<◌, Bool, true, false, cond, ◌&&◌, List, [], ◌∷◌, length, take, nat_le, nat_lt}
use Rattle.digest.specs.Sha256.{constants, initial, padded, sha256_of, words_of, zeros}

-- The padded message is whole blocks and begins with the message; fewer than a block's bytes are zeros put in between.
abbrev pub Padding : Type 0
Padding = (m : List ℕ) → (length (padded m) % 64 ≡ 0) × (take (length m) (padded m) ≡ m) × (zeros (length m) < 64)

-- the first 64 primes
abbrev pub primes : List ℕ
primes =
    2 ∷ 3 ∷ 5 ∷ 7 ∷ 11 ∷ 13 ∷ 17 ∷ 19 ∷ 23 ∷ 29 ∷ 31 ∷ 37 ∷ 41 ∷ 43 ∷ 47 ∷ 53 ∷
    59 ∷ 61 ∷ 67 ∷ 71 ∷ 73 ∷ 79 ∷ 83 ∷ 89 ∷ 97 ∷ 101 ∷ 103 ∷ 107 ∷ 109 ∷ 113 ∷ 127 ∷ 131 ∷
    137 ∷ 139 ∷ 149 ∷ 151 ∷ 157 ∷ 163 ∷ 167 ∷ 173 ∷ 179 ∷ 181 ∷ 191 ∷ 193 ∷ 197 ∷ 199 ∷ 211 ∷ 223 ∷
    227 ∷ 229 ∷ 233 ∷ 239 ∷ 241 ∷ 251 ∷ 257 ∷ 263 ∷ 269 ∷ 271 ∷ 277 ∷ 281 ∷ 283 ∷ 293 ∷ 307 ∷ 311 ∷ []

-- the greatest number up to n whose e-th power is at most p
abbrev pub whole_root : ℕ → ℕ → ℕ → ℕ
whole_root e p zero = zero
whole_root e p (suc n) = cond (nat_le (suc n ^ e) p) (suc n) (whole_root e p n)

-- x is the first 32 bits behind the point of the e-th root of p: with the whole part before it, it is the greatest number whose
-- e-th power is at most p times 2 ^ (32 * e)
abbrev pub behind_point : ℕ → ℕ → ℕ → Bool
behind_point e p x =
    nat_lt x (2 ^ 32) && nat_le ((whole_root e p 20 * 2 ^ 32 + x) ^ e) (p * 2 ^ (32 * e)) &&
    nat_lt (p * 2 ^ (32 * e)) ((whole_root e p 20 * 2 ^ 32 + x + 1) ^ e)

-- so it is of the primes ps and the words xs, one by one
abbrev pub roots : ℕ → List ℕ → List ℕ → Bool
roots e [] [] = true
roots e [] (x ∷ xs) = false
roots e (p ∷ ps) [] = false
roots e (p ∷ ps) (x ∷ xs) = behind_point e p x && roots e ps xs

-- The constants of the rounds come from the cube roots of the first 64 primes, the initial hash value from the square roots of
-- the first eight.
abbrev pub Origin : Type 0
Origin = (roots 3 primes constants ≡ true) × (roots 2 (take 8 primes) (words_of initial) ≡ true)

-- The digests that the standard's examples give for the empty message and for "abc".
abbrev pub KnownAnswers : Type 0
KnownAnswers =
    (sha256_of [] ≡
    0xe3 ∷ 0xb0 ∷ 0xc4 ∷ 0x42 ∷ 0x98 ∷ 0xfc ∷ 0x1c ∷ 0x14 ∷ 0x9a ∷ 0xfb ∷ 0xf4 ∷ 0xc8 ∷ 0x99 ∷ 0x6f ∷ 0xb9 ∷ 0x24 ∷
    0x27 ∷ 0xae ∷ 0x41 ∷ 0xe4 ∷ 0x64 ∷ 0x9b ∷ 0x93 ∷ 0x4c ∷ 0xa4 ∷ 0x95 ∷ 0x99 ∷ 0x1b ∷ 0x78 ∷ 0x52 ∷ 0xb8 ∷ 0x55 ∷ []) ×
    (sha256_of (97 ∷ 98 ∷ 99 ∷ []) ≡
    0xba ∷ 0x78 ∷ 0x16 ∷ 0xbf ∷ 0x8f ∷ 0x01 ∷ 0xcf ∷ 0xea ∷ 0x41 ∷ 0x41 ∷ 0x40 ∷ 0xde ∷ 0x5d ∷ 0xae ∷ 0x22 ∷ 0x23 ∷
    0xb0 ∷ 0x03 ∷ 0x61 ∷ 0xa3 ∷ 0x96 ∷ 0x17 ∷ 0x7a ∷ 0x9c ∷ 0xb4 ∷ 0x10 ∷ 0xff ∷ 0x61 ∷ 0xf2 ∷ 0x00 ∷ 0x15 ∷ 0xad ∷ [])
