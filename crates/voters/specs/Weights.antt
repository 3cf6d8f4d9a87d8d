-- The weights of voters, and the line that names them.
use Rattle.std.specs.Prelude.{◌≡◌, ℕ, ◌≤◌, List, ◌∷◌, map, length, take, Some, codes, sum, slice_index}
use Rattle.std.specs.List.{AllByRecursion}
use Rattle.text.specs.Numbers.{decimal_of}
use Rattle.text.specs.Words.{words}
use Rattle.voters.specs.declared.Voters.{Voters}

-- the weights, by voter
abbrev pub weights_of : Voters → List ℕ
weights_of v = take v.count v.weights

-- the weight of voter n, 0 past the last voter
abbrev pub weight_of : Voters → ℕ → ℕ
weight_of v n = slice_index (weights_of v) n

-- the weight of all voters together
abbrev pub total_of : Voters → ℕ
total_of v = sum (weights_of v)

-- the words ws are numbers in decimal digits, at most 64 and each at most 1,000,000, and xs are their values
pub record Lists (ws : List (List ℕ)) (xs : List ℕ) : Type 0 where
  pub values : map decimal_of ws ≡ map Some xs
  pub few : length xs ≤ 64
  pub light : AllByRecursion (λ w. w ≤ 1000000) xs

-- the line gives the voters the weights xs: the word 'weights', then one number or more and nothing else, not all of them 0
pub record Names (line xs : List ℕ) : Type 0 where
  pub numbers : List (List ℕ)
  pub said : words line ≡ codes "weights" ∷ numbers
  pub listed : Lists numbers xs
  pub some : 1 ≤ length xs
  pub heavy : 1 ≤ sum xs

-- a row of 64 places begins with the numbers that ws lists, of which there are n, and has 0 at every other place
pub record Row (ws : List (List ℕ)) (row : List ℕ) (n : ℕ) : Type 0 where
  pub listed : Lists ws (take n row)
  pub within : n ≤ 64
  pub past : (k : ℕ) → n ≤ k → slice_index row k ≡ 0
