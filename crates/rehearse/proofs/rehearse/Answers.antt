use Rattle.std.proofs.Common.{rules, ◌≡◌, ◌∷◌}
use Rattle.std.proofs.KnownBytes.{Appends-trans}
use Rattle.text.specs.Lines.{lines}
use Rattle.rehearse.proofs.rehearse.Goals as goal

pub returns-clause-written : goal.returns-clause-written
returns-clause-written g c =
    let first : lines c.args.input.now ≡ c.in_ok-line.line.now ∷ lines c.in_ok-line.script.now = search rules in
    rw first (Appends-trans _ _ _ _ _ c.in_ok-answer_lines.ensures.ok c.in_ok-write_all.ensures.bytes)
