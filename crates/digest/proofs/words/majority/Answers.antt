-- The shorter form is the standard's, bit by bit.
use Rattle.std.proofs.Common.{arith}
use Rattle.digest.proofs.Bitwise.{majority_is}
use Rattle.digest.proofs.words.majority.Goals as goal

pub returns : goal.returns
returns c = majority_is 32 c.args.x c.args.y c.args.z (omega arith) (omega arith) (omega arith)
