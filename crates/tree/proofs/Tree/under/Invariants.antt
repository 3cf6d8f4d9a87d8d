use Rattle.std.proofs.Common.{◌<◌, ◌↔◌}
use Rattle.finality.specs.Tree.{Under}
use Rattle.tree.specs.Pages.{count_lent, pages_lent}
use Rattle.tree.proofs.Tree.under.Given as goal

abbrev pub invariant-loop-at : goal.invariant-loop-at
invariant-loop-at l = record {
  there : l.at < count_lent l.self;
  alike : Under (pages_lent l.self) l.a l.b ↔ Under (pages_lent l.self) l.a l.at;
}

abbrev pub decreases-loop-at : goal.decreases-loop-at
decreases-loop-at l = l.at
