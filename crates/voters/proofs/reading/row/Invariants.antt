use Rattle.std.proofs.Common.{◌≡◌}
use Rattle.text.specs.Words.{words}
use Rattle.voters.proofs.Rows.{Filling}
use Rattle.voters.proofs.reading.row.Given as goal

abbrev pub invariant-loop-voter : goal.invariant-loop-voter
invariant-loop-voter l = (l.count ≡ l.voter-iterator.count) × Filling (words l.s) l.voter-iterator.iter l.weights l.count
