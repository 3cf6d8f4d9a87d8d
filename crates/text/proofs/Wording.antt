-- Laws of the words of a line.
use Rattle.std.proofs.Common.{◌≡◌, ℕ, ◌-◌, ◌<◌, ◌≢◌, eqb, ◌⊎◌, List, [], ◌∷◌, ◌++◌, length, get_or, take, drop, filter, sym, refl, ap, ◌∙◌, inl, inr, append-nil, arith, length-append, length-drop}
use Rattle.std.proofs.lemmas.List.{take-append-drop, get_or-drop, take_rest}
use Rattle.std.proofs.lemmas.Bool.{eq-eqb, cond-true}
use Rattle.text.specs.Pieces.{Free, pieces}
use Rattle.text.specs.Words.{non_empty, words, Blank, Word, FirstWord}
use Rattle.text.proofs.Cuts.{by_places, front_by_places, pieces_at, pieces_last}

-- spaces in front change no word
pub words_gap : (gap t : List ℕ) → Blank gap → words (gap ++ t) ≡ words t
unfolding pieces words
words_gap [] t blank = refl
words_gap (x ∷ xs) t blank = ap (filter non_empty) (cond-true (eqb x 32) _ _ (eq-eqb x 32 blank.0)) ∙ words_gap xs t blank.1

words_begun : (w : ℕ) (ws rest : List ℕ) → Free 32 (w ∷ ws) → (rest ≡ []) ⊎ (get_or rest 0 0 ≡ 32) → words ((w ∷ ws) ++ rest) ≡ (w ∷ ws) ∷ words rest
unfolding pieces words
words_begun w ws [] free ends = ap (filter non_empty) (ap (pieces 32) (append-nil (w ∷ ws)) ∙ pieces_last 32 w ws free)
words_begun w ws (x ∷ r) free (inl e) = absurd (let z = ap length e in omega arith)
words_begun w ws (x ∷ r) free (inr e) =
    ap (λ y. words ((w ∷ ws) ++ y ∷ r)) e ∙ ap (filter non_empty) (pieces_at 32 (w ∷ ws) r free) ∙ ap (λ y. (w ∷ ws) ∷ words (y ∷ r)) (sym e)

words_word : (s word rest : List ℕ) → Word s word rest → 0 < length word → words s ≡ word ∷ words rest
words_word s [] rest w h = absurd (omega arith)
words_word s (x ∷ xs) rest w h = ap words w.whole ∙ words_begun x xs rest w.free w.ends

-- a word that begins with no space is not empty
word_some : (s word rest : List ℕ) → 0 < length s → (get_or s 0 0 ≡ 32 → ⊥) → Word s word rest → 0 < length word
word_some s (x ∷ xs) rest h begins w = omega arith
word_some s [] rest h begins w =
    absurd (elim w.ends [ inl e ↦ (let z = ap length (w.whole ∙ e) in omega arith) | inr e ↦ begins (ap (λ t. get_or t 0 0) w.whole ∙ e) ])

-- the first word stands where the first byte does that is no space
pub word_after : (s : List ℕ) (i : ℕ) (word rest : List ℕ) → i < length s → ((k : ℕ) → k < i → get_or s k 0 ≡ 32) → get_or s i 0 ≢ 32 → Word (take (length s - i) (drop i s)) word rest → FirstWord s word rest
word_after s i word rest h before begins w' =
    record {
      gap = take i s;
      blank = blank;
      whole = parted;
      some = some;
      free = w.free;
      ends = w.ends;
      of_all = ap words (sym (take-append-drop i s)) ∙ words_gap (take i s) (drop i s) blank ∙ words_word (drop i s) word rest w some;
      shorter = let a = ap length parted in let b = some in omega (arith, simp length-append at a);
    } where
      w : Word (drop i s) word rest
      w = rw take_rest at w'

      blank : Blank (take i s)
      blank = front_by_places _ s i (omega arith) before

      some : 0 < length word
      some = word_some (drop i s) word rest (simp length-drop (omega arith)) (λ e. begins (ap (λ k. get_or s k 0) (omega arith) ∙ sym (get_or-drop i s 0 0) ∙ e)) w

      parted : s ≡ take i s ++ (word ++ rest)
      parted = sym (take-append-drop i s) ∙ ap (λ t. take i s ++ t) w.whole

pub words_blank : (s : List ℕ) → ((k : ℕ) → k < length s → get_or s k 0 ≡ 32) → (words s ≡ []) × Blank s
unfolding pieces words
words_blank s spaces = (ap words (sym (append-nil s)) ∙ words_gap s [] blank, blank) where
  blank : Blank s
  blank = by_places _ s spaces
