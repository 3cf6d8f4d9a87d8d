use Rattle.std.proofs.Common.{arith}
use Rattle.std.proofs.lemmas.Slice.Eq.{slice_eq-Decides}
use Rattle.std.proofs.lemmas.Bool.{both_ways}
use Rattle.index.proofs.Chained.{walk_starts, link_read, walk_again, walk_less, walk_found, walk_ends}
use Rattle.index.proofs.Index.find.Goals as goal
use Rattle.std.proofs.lemmas.Bool.Decides.{Decides-eqb}

pub loop-next-init : goal.loop-next-init
loop-next-init c = walk_starts _ _ _ _ _ c.args.self.now.headed (omega arith) c.pair.ensures.value c.pair.ensures.bound c.index-next.ensures

pub returns-then-eq : goal.returns-then-eq
returns-then-eq c =
    walk_found _ _ _ _ (omega arith) c.loop-next.invariant c.index.ensures ((slice_eq-Decides Decides-eqb _ _ _ c.eq.ensures).0 c.if-eq.true)

pub loop-next-smaller : goal.loop-next-smaller
loop-next-smaller c =
    walk_less _ _ _ _ (omega arith)
    (link_read _ _ _ _ _ c.args.self.now.linked (omega arith) (omega arith) c.loop-next.invariant c.index-next-in-loop-next.ensures)

pub loop-next-preserved : goal.loop-next-preserved
loop-next-preserved c =
    walk_again _ _ _ _ _ (omega arith) c.loop-next.invariant c.index.ensures (λ e. both_ways _ c.if-eq.false ((slice_eq-Decides Decides-eqb _ _ _ c.eq.ensures).1 e))
    (link_read _ _ _ _ _ c.args.self.now.linked (omega arith) (omega arith) c.loop-next.invariant c.index-next-in-loop-next.ensures)

pub returns : goal.returns
returns c = walk_ends _ _ _ c.loop-next.invariant (omega arith)
