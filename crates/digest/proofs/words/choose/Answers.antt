-- The shorter form is the standard's, bit by bit.
use Rattle.std.proofs.Common.{arith}
use Rattle.digest.proofs.Bitwise.{choose_is}
use Rattle.digest.proofs.words.choose.Goals as goal

pub returns : goal.returns
returns c = choose_is 32 c.args.x c.args.y c.args.z (omega arith) (omega arith) (omega arith)
