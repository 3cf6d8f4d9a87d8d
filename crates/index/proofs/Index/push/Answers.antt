use Rattle.std.proofs.Common.{arith}
use Rattle.index.proofs.Chained.{headed_pushed, linked_pushed}
use Rattle.index.proofs.Index.push.Goals as goal

pub invariant_of-self-2-clause-headed : goal.invariant_of-self-2-clause-headed
invariant_of-self-2-clause-headed c =
    headed_pushed _ _ _ _ _ _ c.args.self.now.headed c.push_reserved-2.ensures.items c.pair-at.ensures.value (omega arith) (omega arith)

pub invariant_of-self-2-clause-linked : goal.invariant_of-self-2-clause-linked
invariant_of-self-2-clause-linked c =
    let self = c.args.self.now in
    let at = c.pair-at.ensures in
    linked_pushed _ _ _ _ _ _ _ _ self.headed self.linked c.push_reserved-2.ensures.items c.push_reserved.ensures.items at.value at.bound (omega arith) (omega arith) c.index.ensures
