use Rattle.std.proofs.Common.{rules}
use Rattle.text.proofs.Wording.{word_after}
use Rattle.text.proofs.first_word.Goals as goal

pub returns : goal.returns
returns c =
    word_after c.args.s.now c.in_ok-start.start c.split_word.result.0.now c.split_word.result.1.now (search rules) (search rules) (search rules) c.split_word.ensures
