use Rattle.std.proofs.Common.{◌≡◌, ◌*◌, ◌-◌, ◌≤◌, length, take}
use Rattle.digest.specs.Sha256.{block_words, schedule}
use Rattle.digest.proofs.block.schedule.Given as goal

abbrev pub invariant-loop-eight : goal.invariant-loop-eight
invariant-loop-eight l = (length l.w ≡ 64) × (2 ≤ l.eight) × (take (8 * l.eight) l.w ≡ schedule (block_words l.block) (8 * l.eight - 16))

abbrev pub invariant-loop-t : goal.invariant-loop-t
invariant-loop-t l = (length l.w ≡ 64) × (16 ≤ l.t) × (take l.t l.w ≡ schedule (block_words l.block) (l.t - 16))
