use Rattle.std.proofs.Common.{arith}
use Rattle.index.proofs.Chained.{headed_none, linked_none}
use Rattle.index.proofs.Index.new.Goals as goal

pub invariant_of-result-clause-headed : goal.invariant_of-result-clause-headed
invariant_of-result-clause-headed c =
    headed_none _ _ 65536 c.in_ok-keys.ensures.items (c.in_ok-heads.ensures.items_if_clones_equal (λ y e. e)) (omega arith)

pub invariant_of-result-clause-linked : goal.invariant_of-result-clause-linked
invariant_of-result-clause-linked c = linked_none _ _ c.in_ok-keys.ensures.items
