-- A page written part behind part into a room.
-- Assumes nothing.
use Rattle.std.proofs.Common.{◌≡◌, ℕ, ◌+◌, ◌<◌, List, [], ◌∷◌, ◌++◌, length, take, drop, set, sym, ap, refl, ◌∙◌, append_assoc, arith, length-append}
use borrow.Rule.Slice.PartMut.{put_mid}
use Rattle.std.specs.Int.{w16, w32, to_be_bytes}
use Rattle.std.proofs.lemmas.List.{drop-drop, drop-set, drop_at, take_at}
use Rattle.pages.specs.Bytes.{Writable, encoded}
use Rattle.pages.specs.Parts.{Put}
use Rattle.pages.proofs.Codec.{length-encoded}

-- a write of bytes right behind front, with which the room begins
behind : (room front out bytes : List ℕ) (a k : ℕ) → out ≡ front ++ drop a room → length front ≡ a → k ≡ length bytes →
    put_mid a k out bytes ≡ (front ++ bytes) ++ drop (a + k) room
behind room front out bytes a k e l ke = (λ i. before i ++ (bytes ++ after i)) ∙ sym (append_assoc front bytes (drop (a + k) room)) where
  before : take a out ≡ front
  before = ap (take a) e ∙ take_at front (drop a room) a l

  after : drop k (drop a out) ≡ drop (a + k) room
  after = ap (λ l. drop k (drop a l)) e ∙ ap (drop k) (drop_at front (drop a room) a l) ∙ drop-drop k a room

module _ (h : ℕ) (p r room : List ℕ) (k : ℕ) (w : Writable h p r) (some : 0 < length room) (all : k ≡ length r) where
  -- the room once the five parts are in it
  abbrev pub written : List ℕ
  written = put_mid 39 k (put_mid 37 2 (put_mid 5 32 (put_mid 1 4 (set room 0 1) (to_be_bytes w32 h)) p) (to_be_bytes w16 (length r))) r

  -- a page's first 5, 37 and 39 bytes
  abbrev first5 : List ℕ
  first5 = 1 ∷ to_be_bytes w32 h

  abbrev first37 : List ℕ
  first37 = first5 ++ p

  abbrev first39 : List ℕ
  first39 = first37 ++ to_be_bytes w16 (length r)

  written_is : written ≡ encoded h p r ++ drop (39 + k) room
  unfolding encoded
  written_is =
      behind room first39 _ r 39 k
      (behind room first37 _ (to_be_bytes w16 (length r)) 37 2
      (behind room first5 _ p 5 32 (behind room (1 ∷ []) _ (to_be_bytes w32 h) 1 4 (drop-set room 0 1 some) refl refl) refl (sym w.digest))
      (omega (arith, w.digest)) refl)
      (omega (arith, w.digest, length-append p (to_be_bytes w16 (length r)))) all ∙
      ap (λ l. first5 ++ (l ++ drop (39 + k) room)) (append_assoc p (to_be_bytes w16 (length r)) r)

  pub put_whole : Put h p r room written (39 + length r)
  put_whole =
      let n = length-encoded h p r w in
      record {
        writable = w;
        size = refl;
        front = ap (take (39 + length r)) written_is ∙ take_at (encoded h p r) (drop (39 + k) room) (39 + length r) n;
        rest = ap (drop (39 + length r)) written_is ∙ drop_at (encoded h p r) (drop (39 + k) room) (39 + length r) n ∙ ap (λ m. drop (39 + m) room) all;
      }
