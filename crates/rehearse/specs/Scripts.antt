-- What is written for an input: a line of weights, and a script.
use Rattle.std.specs.Prelude.{◌≡◌, ℕ, List, [], ◌∷◌, ◌++◌, codes}
use Rattle.console.specs.Answers.{answers_to}
use Rattle.console.specs.declared.fault.Fault.{Fault}
use Rattle.console.specs.declared.fault.Fault.TheVariants.{Memory, Input, Io}
use Rattle.rehearse.specs.Answers.{answer_to, written}
use Rattle.voters.specs.Weights.{Names}

-- the first line gives weights
abbrev pub HasWeights : List (List ℕ) → Type 0
HasWeights [] = ⊥
HasWeights (line ∷ script) = (xs : List ℕ) × Names line xs

-- the answers to the lines behind the first, which have the numbers from 2 on; then no page but the one numbered 0 is settled, and none is final
abbrev pub output_of : List (List ℕ) → List ℕ
output_of [] = []
output_of (line ∷ script) = answers_to (λ k l. written k (answer_to l)) 2 script ++ codes "settled 0\nfinal\n"

-- the input is at fault, and the text says how
abbrev pub IsTurnedAway : List ℕ → Fault → Type 0
IsTurnedAway text Memory = ⊥
IsTurnedAway text (Input what) = what.now ≡ text
IsTurnedAway text (Io why) = ⊥
