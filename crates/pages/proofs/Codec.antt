-- A page's bytes and its parts, there and back.
-- Assumes nothing.
use Rattle.std.proofs.Common.{◌≡◌, ℕ, ◌+◌, ◌^◌, ◌<◌, ◌≤◌, true, false, List, ◌∷◌, ◌++◌, length, get_or, take, drop, sym, refl, ap, ◌∙◌, inl, inr, arith}
use mathlib.Core.Path.{subst₃}
use Rattle.std.specs.Int.{w16, w32, from_be_bytes, to_be_bytes}
use Rattle.std.proofs.lemmas.List.{drop_at, drop-drop, drop_more, get_or-drop, get_or-take, get_or_past, length-append, length-drop, length-take, length-take-le, take-append-drop, take_at}
use Rattle.std.proofs.lemmas.Nat.{be_bytes_2, be_bytes_4, from_be_bytes-to_be_bytes_2, from_be_bytes-to_be_bytes_4}
use Rattle.std.proofs.ByRecursion.{All-get_or}
use Rattle.std.proofs.lemmas.Bool.{cases_lt, false_from_ne_true}
use Rattle.std.proofs.lemmas.Bool.Decides.{nat_tests}
use Rattle.pages.specs.Bytes.{DecodesEncoded, EncodesDecoded, Writable, count_of, encoded, height_of, parent_of, receipts_of, well_formed}
use Rattle.pages.specs.Parts.{Apart}

-- what well formed says
pub record Formed (b : List ℕ) : Type 0 where
  pub kind : get_or b 0 0 ≡ 1
  pub few : count_of b ≤ 1024
  pub long : length b ≡ 39 + count_of b

pub formed : (b : List ℕ) → Formed b → well_formed b ≡ true
unfolding well_formed
formed b f = grind (arith, nat_tests)

is_formed : (b : List ℕ) → well_formed b ≡ true → Formed b
unfolding well_formed
is_formed b h = record { kind = grind (arith, nat_tests); few = grind (arith, nat_tests); long = grind (arith, nat_tests) }

pub not_formed : (b : List ℕ) → (Formed b → ⊥) → well_formed b ≡ false
not_formed b h = false_from_ne_true (well_formed b) (λ e. h (is_formed b e))

pub cut_short : (b : List ℕ) → length b < 39 → well_formed b ≡ false
cut_short b h = not_formed b (λ f. omega (arith, f.long))

-- From bytes to parts and back.

module _ (b : List ℕ) (small : (i : ℕ) → get_or b i 0 < 256) (f : Formed b) where
  -- the n bytes that stand at k
  length_piece : (n k : ℕ) → n + k ≤ 39 → length (take n (drop k b)) ≡ n
  length_piece n k h = length-take-le n (drop k b) (simp length-drop (omega (arith, f.long)))

  small_piece : (n k i : ℕ) → get_or (take n (drop k b)) i 0 < 256
  small_piece n k i =
      elim (cases_lt i (length (take n (drop k b)))) [
        | inl l ↦ (let e = get_or-take n (drop k b) i 0 (omega (arith, length-take n (drop k b))) ∙ get_or-drop k b i 0 in omega (arith, small (k + i)))
        | inr l ↦ omega (arith, get_or_past (take n (drop k b)) i 0 l)
      ]

  piece : (n k : ℕ) → take n (drop k b) ++ drop (k + n) b ≡ drop k b
  piece n k = ap (λ l. take n (drop k b) ++ l) (sym (drop-drop n k b)) ∙ take-append-drop n (drop k b)

  count : length (receipts_of b) ≡ count_of b
  unfolding receipts_of
  count = length-drop 39 b ∙ omega (arith, f.long)

  starts : to_be_bytes w32 (height_of b) ≡ take 4 (drop 1 b)
  unfolding height_of
  starts = be_bytes_4 _ _ (length_piece 4 1 (omega arith)) (small_piece 4 1) refl

  ends : to_be_bytes w16 (length (receipts_of b)) ≡ take 2 (drop 37 b)
  unfolding count_of
  ends = be_bytes_2 _ _ (length_piece 2 37 (omega arith)) (small_piece 2 37) count

  whole : encoded (height_of b) (parent_of b) (receipts_of b) ≡ b
  unfolding encoded parent_of receipts_of
  whole =
      (λ i. sym f.kind i ∷ (starts i ++ (parent_of b ++ (ends i ++ drop 39 b)))) ∙
      rw (piece 2 37, piece 32 5, piece 4 1) (sym (drop_more b 0 0 (omega (arith, f.long))))

  low : height_of b < 2 ^ 32
  unfolding height_of
  low = omega (arith, small_piece 4 1 0, small_piece 4 1 1, small_piece 4 1 2, small_piece 4 1 3)

  pub taken_apart : Apart b (height_of b) (parent_of b) (receipts_of b)
  unfolding parent_of
  taken_apart =
      record {
        height_is = refl;
        parent_is = refl;
        receipts_is = refl;
        writable = record { low = low; digest = length_piece 32 5 (omega arith); few = omega (arith, count, f.few) };
        whole = whole;
      }

-- the same of parts that were read
pub known_apart : (b : List ℕ) → ((i : ℕ) → get_or b i 0 < 256) → Formed b →
    (h : ℕ) (p r : List ℕ) → h ≡ height_of b → p ≡ parent_of b → r ≡ receipts_of b → (well_formed b ≡ true) × Apart b h p r
known_apart b small f h p r he pe re = (formed b f, subst₃ (Apart b) (sym he) (sym pe) (sym re) (taken_apart b small f))

-- well-formed bytes are those of a page
pub encodes_decoded : EncodesDecoded
encodes_decoded b all h =
    let a = taken_apart b small (is_formed b h) in (a.writable, a.whole) where
      small : (i : ℕ) → get_or b i 0 < 256
      small i = elim (cases_lt i (length b)) [ inl l ↦ All-get_or (λ x. x < 256) b i 0 l all | inr l ↦ omega (arith, get_or_past b i 0 l) ]

-- what decoding splits off the bytes, piece by piece, stands at the places of the parts
pub record Split (b : List ℕ) (kind : ℕ) (height parent count receipts : List ℕ) : Type 0 where
  pub kind_is : kind ≡ get_or b 0 0
  pub height_is : from_be_bytes w32 height ≡ height_of b
  pub parent_is : parent ≡ parent_of b
  pub count_is : from_be_bytes w16 count ≡ count_of b
  pub receipts_is : receipts ≡ receipts_of b
  pub long : length b ≡ 39 + length receipts

-- the first n of some bytes, and the rest
abbrev Chunk : List ℕ → ℕ → List ℕ → List ℕ → Type 0
Chunk b n front rest = (front ≡ take n b) × (rest ≡ drop n b) × (length rest + n ≡ length b)

pub split_off : (b b1 b2 b3 : List ℕ) (k : ℕ) (h p n r : List ℕ) → (b ≡ k ∷ b1) × (length b1 + 1 ≡ length b) → Chunk b1 4 h b2 → Chunk b2 32 p b3 → Chunk b3 2 n r → Split b k h p n r
unfolding height_of parent_of count_of receipts_of
split_off b b1 b2 b3 k h p n r (e, l) (he, e2, l2) (pe, e3, l3) (ne, re, l4) =
    record {
      kind_is = cc;
      height_is = ap (from_be_bytes w32) (he ∙ ap (take 4) at1);
      parent_is = pe ∙ ap (take 32) at5;
      count_is = ap (from_be_bytes w16) (ne ∙ ap (take 2) at37);
      receipts_is = re ∙ ap (drop 2) at37 ∙ drop-drop 2 37 b;
      long = omega arith;
    } where
      at1 : b1 ≡ drop 1 b
      at1 = ap (drop 1) (sym e)

      at5 : b2 ≡ drop 5 b
      at5 = e2 ∙ ap (drop 4) at1 ∙ drop-drop 4 1 b

      at37 : b3 ≡ drop 37 b
      at37 = e3 ∙ ap (drop 32) at5 ∙ drop-drop 32 5 b

-- From parts to bytes and back.

module _ (h : ℕ) (p r : List ℕ) (w : Writable h p r) where
  -- what stands behind the parent's digest
  at_count : drop 37 (encoded h p r) ≡ to_be_bytes w16 (length r) ++ r
  unfolding encoded
  at_count = drop_at p (to_be_bytes w16 (length r) ++ r) 32 w.digest

  count_is : count_of (encoded h p r) ≡ length r
  unfolding count_of
  count_is = ap (λ l. from_be_bytes w16 (take 2 l)) at_count ∙ from_be_bytes-to_be_bytes_2 (length r) (omega (arith, w.few))

  height_is : height_of (encoded h p r) ≡ h
  unfolding height_of encoded
  height_is = from_be_bytes-to_be_bytes_4 h w.low

  parent_is : parent_of (encoded h p r) ≡ p
  unfolding parent_of encoded
  parent_is = take_at p (to_be_bytes w16 (length r) ++ r) 32 w.digest

  receipts_is : receipts_of (encoded h p r) ≡ r
  unfolding receipts_of
  receipts_is = sym (drop-drop 2 37 (encoded h p r)) ∙ ap (drop 2) at_count

  pub length-encoded : length (encoded h p r) ≡ 39 + length r
  unfolding encoded
  length-encoded = omega (arith, length-append p (to_be_bytes w16 (length r) ++ r), w.digest)

  formed_is : Formed (encoded h p r)
  unfolding encoded
  formed_is = record { kind = refl; few = omega (arith, count_is, w.few); long = omega (arith, count_is, length-encoded) }

pub decodes_encoded : DecodesEncoded
decodes_encoded h p r w = (formed (encoded h p r) (formed_is h p r w), height_is h p r w, parent_is h p r w, receipts_is h p r w)
