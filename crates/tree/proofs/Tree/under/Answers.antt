use Rattle.std.proofs.Common.{arith}
use Rattle.std.proofs.lemmas.Grind.{common_steps}
use Rattle.finality.specs.Tree.{self}
use Rattle.finality.proofs.Books.{under_le}
use Rattle.tree.proofs.Walks.{under_parent}
use Rattle.tree.proofs.Tree.under.Goals as goal

pub loop-at-preserved : goal.loop-at-preserved
loop-at-preserved c =
    let met = c.loop-at.invariant in
    let below = c.args.self.book.below c.loop-at.at (omega arith) met.there in
    let lower = under_parent c.args.self.parents.now c.args.self.heights.now c.args.a c.loop-at.at (omega arith) in
    record { there = omega arith; alike = (λ u. lower.0 (met.alike.0 u), λ u. met.alike.1 (lower.1 u)) }

pub returns : goal.returns
returns c =
    let met = c.loop-at.invariant in (
      λ e. (omega arith, met.alike.1 (self (grind (arith, common_steps)))),
      λ p. (let le = under_le _ _ c.args.self.book (met.alike.0 p.1) met.there in grind (arith, common_steps)),
    )
