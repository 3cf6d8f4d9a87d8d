use Rattle.std.proofs.Common.{rules, Some}
use Rattle.std.proofs.KnownBytes.{Appends-of_writes}
use Rattle.rehearse.proofs.answers.ScriptAnswers.write_answer.Goals as goal

-- all that is printed stands behind what was there
pub returns-clause-ok : goal.returns-clause-ok
returns-clause-ok c =
    let p = Appends-of_writes (λ w. w.out.ghost_name) (λ w. Some w.out.now.items) _ _ _ c.in_ok-writeln.ensures.writes in
    search (rules, p)
