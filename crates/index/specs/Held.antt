-- What an index holds.
use Rattle.std.specs.Prelude.{ℕ, List, vec_items}
use Rattle.index.specs.declared.Index.{Index}

-- the keys, by number
abbrev pub keys_of : Index → List (List ℕ)
keys_of x = vec_items x.keys
