-- The lines of an input. A line ends at a newline (10), and one carriage return (13) right before its end is no part of it.
use Rattle.std.specs.Prelude.{◌≡◌, ℕ, ◌-◌, ◌<◌, if◌then◌else◌, List, ◌∷◌, map, length, take, ◌==◌, slice_index}
use Rattle.text.specs.Pieces.{Cut, pieces}

-- without one carriage return at the end
abbrev pub chomp : List ℕ → List ℕ
chomp xs = if slice_index xs (length xs - 1) == 13 then take (length xs - 1) xs else xs

-- all lines; a newline at the very end begins no further line
unfoldable pub lines : List ℕ → List (List ℕ)
lines s = map chomp (pieces 10 s)

-- line is the first line of s, and rest what follows its newline
pub record FirstLine (s line rest : List ℕ) : Type 0 where
  pub front : List ℕ
  pub cut : Cut 10 s front rest
  pub line_is : line ≡ chomp front
  pub of_all : lines s ≡ line ∷ lines rest
  pub shorter : length rest < length s
