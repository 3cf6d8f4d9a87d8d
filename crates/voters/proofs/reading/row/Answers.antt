use Rattle.std.proofs.Common.{◌≡◌, ◌<◌, [], refl, rules, arith}
use Rattle.voters.proofs.Rows.{filled, filling_none, filling_more, filling_bad}
use Rattle.voters.proofs.reading.row.Goals as goal

pub loop-voter-init : goal.loop-voter-init
loop-voter-init c = (cc, filling_none _ _ _ (cc) (cc))

pub loop-voter-preserved : goal.loop-voter-preserved
loop-voter-preserved c =
    let h = c.in-Some.ensures.steps in
    let i = c.loop-voter.invariant in
    let f = rw (i.0, h.0) at i.1 in
    let room : c.loop-voter.voter-iterator.count < 64 = search (rules, arith, f.few, h.1) in
    (rw (h.1, h.2) refl, rw h.1 (filling_more _ _ _ _ _ _ f room c.in_ok-weights.ensures.0 c.in_ok-weights.ensures.1))

pub returns-in_err-weights : goal.returns-in_err-weights
returns-in_err-weights c =
    let h = c.in-Some.ensures.steps in
    rw c.from_residual.ensures (filling_bad _ _ _ _ _ (rw h.0 at c.loop-voter.invariant.1) c.in_err-weights.ensures)

pub returns : goal.returns
returns c = let h : c.loop-voter.voter-iterator.iter ≡ [] = search rules in filled _ _ _ (rw h at c.loop-voter.invariant.1)
