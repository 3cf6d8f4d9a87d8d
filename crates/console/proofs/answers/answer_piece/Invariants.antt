use Rattle.std.proofs.Common.{◌≡◌, ◌+◌, ◌≤◌, ◌++◌, length}
use Rattle.text.specs.Lines.{lines}
use Rattle.console.specs.Answers.{answers_to}
use Rattle.console.proofs.answers.answer_piece.Given as goal

abbrev pub invariant-loop-line : goal.invariant-loop-line
invariant-loop-line g l =
    let answer = g.A.Answers.answer in
    record {
      whole : l.piece.items ++ answers_to answer l.number (lines l.rest) ≡ l.initial.piece.items ++ answers_to answer l.initial.number (lines l.initial.rest);
      bound : l.number + length l.rest ≤ l.initial.number + length l.initial.rest;
      shorter : length l.rest ≤ length l.initial.rest;
    }

abbrev pub decreases-loop-line : goal.decreases-loop-line
decreases-loop-line g l = length l.rest
