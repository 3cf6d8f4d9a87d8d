use Rattle.std.proofs.Common.{rules, tests}
use Rattle.text.proofs.Reading.{decimal_by_turns}
use Rattle.text.proofs.numbers.decimal.Goals as goal

pub returns : goal.returns
returns c =
    decimal_by_turns _ _ (λ p x q k. search (rules, tests))
    c.args.word.now c.iter.result c.try_fold.new.self _ c.try_fold.result (search rules) c.iter.ensures.rest (λ f a x k. search (rules, tests)) c.try_fold.ensures.ran
