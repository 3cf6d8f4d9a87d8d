use Rattle.std.proofs.Common.{◌≡◌, List, ℕ, [], Option, None, Some, refl, ap, append-nil, arith}
use Rattle.std.proofs.lemmas.List.{nil_from_length}
use Rattle.std.specs.Io.KnownBytes.{append_known}
use Rattle.text.proofs.Counts.{lines_none}
use Rattle.text.specs.Lines.{lines}
use Rattle.console.proofs.answers.answer_lines.Goals as goal

-- the known bytes, with nothing behind them
append_nothing : (known : Option (List ℕ)) → append_known known [] ≡ known
append_nothing None = refl
append_nothing (Some xs) = ap Some (append-nil xs)

-- nothing is left to answer
pub returns-clause-ok : goal.returns-clause-ok
returns-clause-ok g c =
    let none : lines c.loop-place.place.rest.now ≡ [] = lines_none _ (nil_from_length _ (grind arith)) in
    rw append_nothing at (rw none at c.loop-place.invariant.told)
