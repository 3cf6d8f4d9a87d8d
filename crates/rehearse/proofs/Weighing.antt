-- What the first line says of all.
use Rattle.std.proofs.Common.{◌≡◌, ℕ, List, [], subst}
use Rattle.text.proofs.Counts.{lines_none}
use Rattle.text.specs.Lines.{lines, FirstLine}
use Rattle.rehearse.specs.Scripts.{HasWeights}
use Rattle.voters.specs.Weights.{Names}

pub empty_is_unweighed : (s : List ℕ) → HasWeights (lines s) → s ≡ [] → ⊥
empty_is_unweighed s has e = subst HasWeights (lines_none s e) has

pub first_is_unweighed : (s line rest : List ℕ) → HasWeights (lines s) → FirstLine s line rest → ((xs : List ℕ) → Names line xs → ⊥) → ⊥
first_is_unweighed s line rest has first refused =
    let weights = subst HasWeights first.of_all has in
    refused weights.0 weights.1
