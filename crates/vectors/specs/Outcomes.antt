-- What reading a message comes to.
use Rattle.std.specs.Prelude.{◌≡◌, List, ℕ, Option, Some, None, Result, Ok, Err}
use Rattle.vectors.specs.declared.messages.NoMessage.{NoMessage}
use Rattle.vectors.specs.declared.messages.NoMessage.TheVariants.{Refused, Memory}

abbrev pub Fails : NoMessage → Option (List ℕ) → Type 0
Fails Refused o = o ≡ None
Fails Memory o = Unit {0}

-- o are the bytes that were read, or None where they were refused; without memory nothing is said
abbrev pub Gives : {X : Type 0} → (X → List ℕ) → Result X NoMessage → Option (List ℕ) → Type 0
Gives bytes (Ok x) o = o ≡ Some (bytes x)
Gives bytes (Err why) o = Fails why o
