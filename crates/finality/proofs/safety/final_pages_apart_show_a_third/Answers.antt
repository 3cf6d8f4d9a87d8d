use Rattle.finality.proofs.Shown.{all_named_third, final_apart, final_apart_by}
use Rattle.finality.proofs.safety.final_pages_apart_show_a_third.Goals as goal

pub returns : goal.returns
returns c = (final_apart, final_apart_by, all_named_third)
