-- What lines are answered, one after the other.
use Rattle.std.specs.Prelude.{ℕ, ◌+◌, List, [], ◌∷◌, ◌++◌}
use Rattle.console.specs.declared.fault.Fault.{Fault}
use Rattle.console.specs.declared.fault.Fault.TheVariants.{Memory, Input, Io}

-- the answers to lines, of which the first is numbered k
abbrev pub answers_to : (ℕ → List ℕ → List ℕ) → ℕ → List (List ℕ) → List ℕ
answers_to answer k [] = []
answers_to answer k (l ∷ ls) = answer k l ++ answers_to answer (k + 1) ls

-- the input is not at fault: there was no memory, or no writing
abbrev pub IsOfOutput : Fault → Type 0
IsOfOutput Memory = Unit {0}
IsOfOutput (Input what) = ⊥
IsOfOutput (Io why) = Unit {0}
