use Rattle.std.proofs.Common.{◌≡◌, ◌≤◌, drop, length, vec_capacity, vec_items, vec_len}
use Rattle.vectors.specs.Messages.{bytes_of, front}
use Rattle.vectors.proofs.Spelling.{bytes_of_pairs}
use Rattle.vectors.proofs.hex.unhex.Given as goal

abbrev pub invariant-loop-high : goal.invariant-loop-high
invariant-loop-high l = record {
  read : front (vec_items l.bytes) (bytes_of_pairs (drop l.high-index l.pairs)) ≡ bytes_of l.digits;
  count : vec_len l.bytes ≡ l.high-index;
  room : length l.pairs ≤ vec_capacity l.bytes;
}
