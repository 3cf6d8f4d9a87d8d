-- What a page's bytes come apart into.
use Rattle.std.specs.Prelude.{◌≡◌, ℕ, ◌+◌, List, length, take, drop}
use Rattle.pages.specs.Bytes.{encoded, height_of, parent_of, receipts_of, Writable}

-- height, parent's digest and receipts are those that stand in the bytes, and encode to just these bytes
pub record Apart (b : List ℕ) (height : ℕ) (parent receipts : List ℕ) : Type 0 where
  pub height_is : height ≡ height_of b
  pub parent_is : parent ≡ parent_of b
  pub receipts_is : receipts ≡ receipts_of b
  pub writable : Writable height parent receipts
  pub whole : encoded height parent receipts ≡ b

-- the page with these parts was written at the beginning of a room, in n bytes, and the rest of the room is as before
pub record Put (height : ℕ) (parent receipts before after : List ℕ) (n : ℕ) : Type 0 where
  pub writable : Writable height parent receipts
  pub size : n ≡ 39 + length receipts
  pub front : take n after ≡ encoded height parent receipts
  pub rest : drop n after ≡ drop n before
