use Rattle.finality.proofs.Breaches.{breach_in_words, lets_in_words, quorum_in_words}
use Rattle.finality.proofs.Cast.{named_in_words, voted_in_words}
use Rattle.finality.proofs.rules.tests_are_the_rules.Goals as goal

pub returns : goal.returns
returns c = (voted_in_words, quorum_in_words, breach_in_words, named_in_words, lets_in_words)
