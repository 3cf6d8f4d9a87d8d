-- The answers to lines, whose numbers matter nothing.
use Rattle.std.proofs.Common.{◌≡◌, ℕ, ◌+◌, List, [], ◌∷◌, ◌++◌, refl, ap}
use Rattle.console.specs.Answers.{answers_to}
use Rattle.vectors.specs.Messages.{answer_to, answers}

pub unnumbered : (k : ℕ) (ls : List (List ℕ)) → answers_to (λ _ l. answer_to l) k ls ≡ answers ls
unnumbered k [] = refl
unnumbered k (l ∷ ls) = ap (λ t. answer_to l ++ t) (unnumbered (k + 1) ls)
