-- SHA-256 as FIPS 180-4 defines it, over lists of numbers; each part names its section there.
-- A byte is a number below 256, a word one below 2 ^ 32, and the first byte of a word is its highest.
-- Assumes nothing.
use Rattle.std.specs.Prelude.{ℕ, zero, suc, ◌+◌, ◌-◌, ◌*◌, ◌/◌, ◌%◌, ◌^◌, List, [], ◌∷◌, ◌++◌, map, length, take, drop, replicate, slice_index}
use Rattle.std.specs.List.{range_with_len, flat_map}
use Rattle.digest.specs.declared.block.State.{State}
use Rattle.digest.specs.Words.{add32, ch, maj, Σ0, Σ1, σ0, σ1}

-- 4.2.2: the constants of the 64 rounds
unfoldable pub constants : List ℕ
constants =
    0x428a2f98 ∷ 0x71374491 ∷ 0xb5c0fbcf ∷ 0xe9b5dba5 ∷ 0x3956c25b ∷ 0x59f111f1 ∷ 0x923f82a4 ∷ 0xab1c5ed5 ∷
    0xd807aa98 ∷ 0x12835b01 ∷ 0x243185be ∷ 0x550c7dc3 ∷ 0x72be5d74 ∷ 0x80deb1fe ∷ 0x9bdc06a7 ∷ 0xc19bf174 ∷
    0xe49b69c1 ∷ 0xefbe4786 ∷ 0x0fc19dc6 ∷ 0x240ca1cc ∷ 0x2de92c6f ∷ 0x4a7484aa ∷ 0x5cb0a9dc ∷ 0x76f988da ∷
    0x983e5152 ∷ 0xa831c66d ∷ 0xb00327c8 ∷ 0xbf597fc7 ∷ 0xc6e00bf3 ∷ 0xd5a79147 ∷ 0x06ca6351 ∷ 0x14292967 ∷
    0x27b70a85 ∷ 0x2e1b2138 ∷ 0x4d2c6dfc ∷ 0x53380d13 ∷ 0x650a7354 ∷ 0x766a0abb ∷ 0x81c2c92e ∷ 0x92722c85 ∷
    0xa2bfe8a1 ∷ 0xa81a664b ∷ 0xc24b8b70 ∷ 0xc76c51a3 ∷ 0xd192e819 ∷ 0xd6990624 ∷ 0xf40e3585 ∷ 0x106aa070 ∷
    0x19a4c116 ∷ 0x1e376c08 ∷ 0x2748774c ∷ 0x34b0bcb5 ∷ 0x391c0cb3 ∷ 0x4ed8aa4a ∷ 0x5b9cca4f ∷ 0x682e6ff3 ∷
    0x748f82ee ∷ 0x78a5636f ∷ 0x84c87814 ∷ 0x8cc70208 ∷ 0x90befffa ∷ 0xa4506ceb ∷ 0xbef9a3f7 ∷ 0xc67178f2 ∷
    []

-- 5.3.3: the hash value before the first block
abbrev pub initial : State
initial = record {
  a = 0x6a09e667;
  b = 0xbb67ae85;
  c = 0x3c6ef372;
  d = 0xa54ff53a;
  e = 0x510e527f;
  f = 0x9b05688c;
  g = 0x1f83d9ab;
  h = 0x5be0cd19;
}

-- the bytes of a word, and of a number of 64 bits
abbrev pub bytes4 : ℕ → List ℕ
bytes4 n = (n / 16777216 % 256) ∷ (n / 65536 % 256) ∷ (n / 256 % 256) ∷ (n % 256) ∷ []

abbrev pub bytes8 : ℕ → List ℕ
bytes8 n =
    (n / 72057594037927936 % 256) ∷ (n / 281474976710656 % 256) ∷ (n / 1099511627776 % 256) ∷ (n / 4294967296 % 256) ∷
    bytes4 n

-- 5.1.1: how many zero bytes: the fewest that bring n + 1 + zeros + 8 to a multiple of 64
abbrev pub zeros : ℕ → ℕ
zeros n = (119 - n % 64) % 64

-- 5.1.1: bytes, the last of a message, with what follows them: a 1 bit, zeros, and the message's length in bits as eight bytes
unfoldable pub ended : List ℕ → ℕ → List ℕ
ended m bits = m ++ 128 ∷ (replicate (zeros (length m)) 0 ++ bytes8 bits)

-- The standard stops at 2 ^ 64 bits; the remainder keeps the definition total past that.
abbrev pub padded : List ℕ → List ℕ
padded m = ended m (length m * 8 % 2 ^ 64)

-- 5.2.1: the i-th block of 64 bytes, and its t-th word
abbrev pub block_at : List ℕ → ℕ → List ℕ
block_at m i = take 64 (drop (64 * i) m)

abbrev pub word_at : List ℕ → ℕ → ℕ
word_at b t = slice_index b (4 * t) * 16777216 + slice_index b (4 * t + 1) * 65536 + slice_index b (4 * t + 2) * 256 + slice_index b (4 * t + 3)

unfoldable pub block_words : List ℕ → List ℕ
block_words b = map (word_at b) (range_with_len 0 16)

-- 6.2.2, step 1: word number t of the message schedule, from those before it; and the block's words with n further ones
abbrev pub next_word : List ℕ → ℕ → ℕ
next_word w t = add32 (add32 (add32 (σ1 (slice_index w (t - 2))) (slice_index w (t - 7))) (σ0 (slice_index w (t - 15)))) (slice_index w (t - 16))

unfoldable pub schedule : List ℕ → ℕ → List ℕ
schedule m zero = m
schedule m (suc n) = schedule m n ++ next_word (schedule m n) (16 + n) ∷ []

-- step 3: one round, with its constant and its word; and the first n rounds
abbrev pub t1 : State → ℕ → ℕ → ℕ
t1 s k w = add32 (add32 (add32 (add32 s.h (Σ1 s.e)) (ch s.e s.f s.g)) k) w

abbrev pub t2 : State → ℕ
t2 s = add32 (Σ0 s.a) (maj s.a s.b s.c)

unfoldable pub round_of : State → ℕ → ℕ → State
round_of s k w = record {
  a = add32 (t1 s k w) (t2 s);
  b = s.a;
  c = s.b;
  d = s.c;
  e = add32 s.d (t1 s k w);
  f = s.e;
  g = s.f;
  h = s.g;
}

unfoldable pub rounds : State → List ℕ → ℕ → State
rounds s w zero = s
rounds s w (suc t) = round_of (rounds s w t) (slice_index constants t) (slice_index w t)

-- step 4: word by word
abbrev pub added : State → State → State
added s t = record {
  a = add32 s.a t.a;
  b = add32 s.b t.b;
  c = add32 s.c t.c;
  d = add32 s.d t.d;
  e = add32 s.e t.e;
  f = add32 s.f t.f;
  g = add32 s.g t.g;
  h = add32 s.h t.h;
}

-- steps 1 to 4: what a block makes of the hash value
unfoldable pub compressed : State → List ℕ → State
compressed s b = added s (rounds s (schedule (block_words b) 48) 64)

-- the hash value after the first n blocks of m, begun with s
unfoldable pub hashed : State → List ℕ → ℕ → State
hashed s m zero = s
hashed s m (suc n) = compressed (hashed s m n) (block_at m n)

-- the words of a hash value, and its bytes
abbrev pub words_of : State → List ℕ
words_of s = s.a ∷ s.b ∷ s.c ∷ s.d ∷ s.e ∷ s.f ∷ s.g ∷ s.h ∷ []

abbrev pub bytes_of : State → List ℕ
bytes_of s = flat_map bytes4 (words_of s)

-- the digest of a message
unfoldable pub sha256_of : List ℕ → List ℕ
sha256_of m = bytes_of (hashed initial (padded m) (length (padded m) / 64))
