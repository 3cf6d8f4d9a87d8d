-- The bytes of a page: a kind, its height, the digest of its parent, the receipts' length, and the receipts.
use Rattle.std.specs.Prelude.{◌≡◌, ℕ, ◌+◌, ◌^◌, ◌<◌, ◌≤◌, Bool, true, ◌&&◌, List, [], ◌∷◌, ◌++◌, length, take, drop, replicate, ◌==◌, nat_le, slice_index}
use Rattle.std.specs.Int.{w16, w32, from_be_bytes, to_be_bytes}
use Rattle.std.specs.List.{AllByRecursion}

-- the bytes of the page with this height, parent's digest and receipts
unfoldable pub encoded : ℕ → List ℕ → List ℕ → List ℕ
encoded height parent receipts = 1 ∷ (to_be_bytes w32 height ++ (parent ++ (to_be_bytes w16 (length receipts) ++ receipts)))

-- page 0: height 0, a parent's digest of zeros, no receipts
abbrev pub page_zero : List ℕ
page_zero = encoded 0 (replicate 32 0) []

-- what stands in bytes at the places of a page's parts
unfoldable pub height_of : List ℕ → ℕ
height_of b = from_be_bytes w32 (take 4 (drop 1 b))

unfoldable pub parent_of : List ℕ → List ℕ
parent_of b = take 32 (drop 5 b)

-- the receipts' length, as the bytes give it
unfoldable pub count_of : List ℕ → ℕ
count_of b = from_be_bytes w16 (take 2 (drop 37 b))

unfoldable pub receipts_of : List ℕ → List ℕ
receipts_of b = drop 39 b

-- well formed: the kind of a page, at most 1,024 bytes of receipts, and just as many as the length says
unfoldable pub well_formed : List ℕ → Bool
well_formed b = slice_index b 0 == 1 && nat_le (count_of b) 1024 && length b == 39 + count_of b

-- the height fits its four bytes, the parent's digest has 32, and there are no more receipts than a page holds
pub record Writable (height : ℕ) (parent receipts : List ℕ) : Type 0 where
  pub low : height < 2 ^ 32
  pub digest : length parent ≡ 32
  pub few : length receipts ≤ 1024

-- What is encoded is well formed, and decodes to itself.
abbrev pub DecodesEncoded : Type 0
DecodesEncoded =
    (height : ℕ) (parent receipts : List ℕ) → Writable height parent receipts →
    (well_formed (encoded height parent receipts) ≡ true) × (height_of (encoded height parent receipts) ≡ height) ×
    (parent_of (encoded height parent receipts) ≡ parent) × (receipts_of (encoded height parent receipts) ≡ receipts)

-- Well-formed bytes are those of a page, and its parts encode to them.
abbrev pub EncodesDecoded : Type 0
EncodesDecoded =
    (b : List ℕ) → AllByRecursion (λ x. x < 256) b → well_formed b ≡ true →
    Writable (height_of b) (parent_of b) (receipts_of b) × (encoded (height_of b) (parent_of b) (receipts_of b) ≡ b)
