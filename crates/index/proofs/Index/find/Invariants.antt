use Rattle.std.proofs.Common.{vec_items}
use Rattle.index.proofs.Chained.{Walk}
use Rattle.index.proofs.Index.find.Given as goal

abbrev pub invariant-loop-next : goal.invariant-loop-next
invariant-loop-next l = Walk (vec_items l.self.keys) l.key l.next

abbrev pub decreases-loop-next : goal.decreases-loop-next
decreases-loop-next l = l.next
