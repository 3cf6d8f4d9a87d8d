-- What is answered to the lines of a script, as it is written.
use Rattle.std.specs.Prelude.{ℕ, List, ◌++◌, codes, decimal}
use Rattle.pages.specs.Refusals.{text_of}
use Rattle.pages.specs.declared.refusals.Refusal.TheVariants.{Malformed}
use Rattle.rehearse.specs.declared.answers.Answer.{Answer}
use Rattle.rehearse.specs.declared.answers.Answer.TheVariants.{Refused}

-- no line is known yet
abbrev pub answer_to : List ℕ → Answer
answer_to line = Refused Malformed

-- an answer as it is printed
abbrev pub shown : Answer → List ℕ
shown (Refused why) = text_of why

-- the answer to the line numbered k
abbrev pub written : ℕ → Answer → List ℕ
written k answer = codes "line " ++ (decimal k ++ (codes ": " ++ (shown answer ++ codes "\n")))
