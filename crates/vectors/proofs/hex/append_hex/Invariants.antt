use Rattle.std.proofs.Common.{◌≡◌, ◌++◌, drop}
use Rattle.vectors.specs.Messages.{written}
use Rattle.vectors.proofs.hex.append_hex.Given as goal

-- what is written, and the digits of what is left, are the digits of all
abbrev pub invariant-loop-b : goal.invariant-loop-b
invariant-loop-b l = l.out.items ++ written (drop l.b-index l.bytes) ≡ l.fn.out.items ++ written l.bytes
