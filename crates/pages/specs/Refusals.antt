-- The numbers of refusals, and how a refusal is printed.
use Rattle.std.specs.Prelude.{ℕ, List, ◌++◌, codes, decimal}
use Rattle.pages.specs.declared.refusals.Refusal.{Refusal}
use Rattle.pages.specs.declared.refusals.Refusal.TheVariants.{Malformed, Duplicate, WrongHeight, Full}

-- the number by which each refusal is printed
abbrev pub number_of : Refusal → ℕ
number_of Malformed = 1
number_of Duplicate = 2
number_of WrongHeight = 3
number_of Full = 4

-- a refusal as it is printed: the word, and its number in decimal digits
abbrev pub text_of : Refusal → List ℕ
text_of why = codes "refused " ++ decimal (number_of why)
