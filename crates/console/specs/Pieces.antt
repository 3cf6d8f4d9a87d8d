-- Answers that are written piece by piece.
use Rattle.std.specs.Prelude.{◌≡◌, ℕ, ◌+◌, ◌<◌, ◌≤◌, List, ◌++◌, length}
use Rattle.console.specs.Answers.{answers_to}
use Rattle.text.specs.Lines.{lines}

-- out has grown to out', and rest, with at as the number of its first line, is what is left of the input, whose first line is
-- numbered k
pub record Piece (answer : ℕ → List ℕ → List ℕ) (out input : List ℕ) (k : ℕ) (out' rest : List ℕ) (at : ℕ) : Type 0 where
  -- what is written, and the answers to what is left, are the answers to all
  pub whole : out' ++ answers_to answer at (lines rest) ≡ out ++ answers_to answer k (lines input)
  pub bound : at + length rest ≤ k + length input
  pub shorter : 0 < length input → length rest < length input
