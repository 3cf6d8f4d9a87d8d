use Rattle.std.proofs.Common.{sym, ◌∙◌, rules}
use Rattle.std.proofs.lemmas.Slice.Eq.{bytes_eq-Decides}
use Rattle.std.proofs.lemmas.Bool.{not-false}
use Rattle.voters.proofs.Rows.{row_light, row_some, named, named_only, no_sum, some_sum, unnamed}
use Rattle.voters.proofs.Voters.read.Goals as goal

pub returns-then-all : goal.returns-then-all
returns-then-all c = unnamed _ _ _ _ _ c.in_ok-head.ensures.of_all c.in_ok-weights.ensures (no_sum c.in_ok-weights.weights (search rules))

pub invariant_of-result : goal.invariant_of-result
invariant_of-result c =
    let r = c.in_ok-weights.ensures in
    let heavy = some_sum c.in_ok-weights.weights (search rules) in
    record { some = row_some _ _ _ r heavy; few = r.within; light = row_light _ _ _ r; past = r.past; heavy = heavy }

pub returns : goal.returns
returns c =
    let r = c.in_ok-weights.ensures in
    let same = (bytes_eq-Decides c.in_ok-head.head.now c.as_slice.result.now).0 (not-false _ (sym c.if-ne.ensures)) ∙ c.as_slice.ensures in
    let first = c.in_ok-head.ensures.of_all in
    (named _ _ _ _ _ first same r (some_sum c.in_ok-weights.weights (search rules)), named_only _ _ _ _ _ first r)
