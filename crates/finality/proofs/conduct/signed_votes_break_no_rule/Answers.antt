use Rattle.finality.proofs.Keeping.{rising_is_clean, signed_is_clean, signs_next, signs_rising}
use Rattle.finality.proofs.conduct.signed_votes_break_no_rule.Goals as goal

pub returns : goal.returns
returns c = (rising_is_clean, signs_rising, signed_is_clean, signs_next)
