use Rattle.std.proofs.Common.{◌*◌, ◌%◌, ◌^◌, length}
use Rattle.digest.proofs.Blocks.{padding}
use Rattle.digest.proofs.padding_stands.Goals as goal

pub returns : goal.returns
returns c = λ m. padding m (length m * 8 % 2 ^ 64)
