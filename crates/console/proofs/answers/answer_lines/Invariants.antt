use Rattle.std.proofs.Common.{◌≡◌, ◌+◌, ◌^◌, ◌<◌, [], length}
use Rattle.std.specs.Io.KnownBytes.{Appends, append_known}
use Rattle.text.specs.Lines.{lines}
use Rattle.console.specs.Answers.{answers_to}
use Rattle.console.proofs.answers.answer_lines.Given as goal

-- what is written, and the answers to what is left, are the answers to all
abbrev pub invariant-loop-place : goal.invariant-loop-place
invariant-loop-place g l =
    let contents = g.W.Write.contents in
    let answer = g.A.Answers.answer in
    record {
      told : Appends (contents l.fn.out) (append_known (contents l.out) (answers_to answer l.place.number (lines l.place.rest.now))) (answers_to answer l.first (lines l.input));
      cleared : l.piece.items ≡ [];
      numbered : l.place.number + length l.place.rest.now < 2 ^ 64;
    }

abbrev pub decreases-loop-place : goal.decreases-loop-place
decreases-loop-place g l = length l.place.rest.now
