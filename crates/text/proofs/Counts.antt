-- An input has no more lines or words than bytes.
use Rattle.std.proofs.Common.{◌≡◌, ℕ, ◌+◌, ◌≤◌, Bool, true, false, cond, eqb, List, [], ◌∷◌, length, refl, ap, arith}
use Rattle.std.proofs.lemmas.List.{length-map}
use Rattle.std.proofs.lemmas.List.Sums.{length-filter, count_by-le-length}
use Rattle.text.specs.Lines.{chomp, lines}
use Rattle.text.specs.Pieces.{onto, pieces}
use Rattle.text.specs.Words.{words, non_empty}

-- one more byte makes one more element at most
more : {X : Type 0} (b : Bool) (one other : List X) (n : ℕ) → length one ≤ n + 1 → length other ≤ n + 1 → length (cond b one other) ≤ n + 1
more true one other n h k = h
more false one other n h k = k

length_onto : (x : ℕ) (ps : List (List ℕ)) (n : ℕ) → length ps ≤ n → length (onto x ps) ≤ n + 1
length_onto x [] n h = omega arith
length_onto x (p ∷ ps) n h = omega arith

length_pieces : (c : ℕ) (s : List ℕ) → length (pieces c s) ≤ length s
unfolding pieces
length_pieces c [] = omega arith
length_pieces c (x ∷ xs) =
    let h = length_pieces c xs in
    let m = more (eqb x c) ([] ∷ pieces c xs) _ (length xs) (omega arith) (length_onto x (pieces c xs) _ h) in omega arith

pub length_lines : (s : List ℕ) → length (lines s) ≤ length s
unfolding lines
length_lines s = let h = length_pieces 10 s in let m = length-map (pieces 10 s) chomp in omega arith

pub length_words : (s : List ℕ) → length (words s) ≤ length s
unfolding words
length_words s = let h = length_pieces 32 s in let n = length-filter non_empty (pieces 32 s) in let m = count_by-le-length non_empty (pieces 32 s) in omega arith

pub lines_none : (s : List ℕ) → s ≡ [] → lines s ≡ []
unfolding lines pieces
lines_none [] e = refl
lines_none (x ∷ xs) e = absurd (let z = ap length e in omega arith)
