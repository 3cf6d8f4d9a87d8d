-- Two ways to write a function of three words agree if they agree on single bits.
-- Assumes nothing.
use Rattle.std.proofs.Common.{◌≡◌, ℕ, zero, suc, ◌-◌, ◌/◌, ◌%◌, ◌^◌, ◌<◌, sym, refl, ap, ◌∙◌, le_of_suc-le-suc, not-suc-le-zero, arith}
use native.Mathlib.Nat.{two-pow-succ}
use lib.Bits.{bit_and, bit_xor}
use Rattle.std.proofs.lemmas.Nat.{and_shr, xor_shr, and_mod, xor_mod}

-- what holds at 0 and at 1 holds of each bit
bit : (P : ℕ → Type 0) → P 0 → P 1 → (a : ℕ) → a < 2 → P a
bit P p q zero h = p
bit P p q (suc zero) h = q
bit P p q (suc (suc a)) h = absurd (not-suc-le-zero (le_of_suc-le-suc (le_of_suc-le-suc h)))

-- functions of three bits that agree at the eight triples
Agree : (f g : ℕ → ℕ → ℕ → ℕ) → Type 0
Agree f g = (a b c : ℕ) → a < 2 → b < 2 → c < 2 → f a b c ≡ g a b c

table : (f g : ℕ → ℕ → ℕ → ℕ) → f 0 0 0 ≡ g 0 0 0 → f 0 0 1 ≡ g 0 0 1 → f 0 1 0 ≡ g 0 1 0 → f 0 1 1 ≡ g 0 1 1 →
    f 1 0 0 ≡ g 1 0 0 → f 1 0 1 ≡ g 1 0 1 → f 1 1 0 ≡ g 1 1 0 → f 1 1 1 ≡ g 1 1 1 → Agree f g
unfolding Agree
table f g p0 p1 p2 p3 p4 p5 p6 p7 a b c ha hb hc =
    bit (λ x. f x b c ≡ g x b c)
    (bit (λ y. f 0 y c ≡ g 0 y c) (bit (λ z. f 0 0 z ≡ g 0 0 z) p0 p1 c hc) (bit (λ z. f 0 1 z ≡ g 0 1 z) p2 p3 c hc) b hb)
    (bit (λ y. f 1 y c ≡ g 1 y c) (bit (λ z. f 1 0 z ≡ g 1 0 z) p4 p5 c hc) (bit (λ z. f 1 1 z ≡ g 1 1 z) p6 p7 c hc) b hb) a ha

-- equal halves and equal last bits
halves : (a b : ℕ) → a / 2 ≡ b / 2 → a % 2 ≡ b % 2 → a ≡ b
halves a b p q = omega arith

complement_half : (k x : ℕ) → x < 2 ^ suc k → (2 ^ suc k - 1 - x) / 2 ≡ 2 ^ k - 1 - x / 2
complement_half k x h = omega (arith, two-pow-succ k)

complement_last : (k x : ℕ) → x < 2 ^ suc k → (2 ^ suc k - 1 - x) % 2 ≡ 1 - x % 2
complement_last k x h = omega (arith, two-pow-succ k)

-- F and G, at k bits: equal if each works bit by bit, by f and by g, and these agree
module _ (F G : ℕ → ℕ → ℕ → ℕ → ℕ) (f g : ℕ → ℕ → ℕ → ℕ) (none : F 0 0 0 0 ≡ G 0 0 0 0)
    (F-half : (k x y z : ℕ) → x < 2 ^ suc k → F (suc k) x y z / 2 ≡ F k (x / 2) (y / 2) (z / 2))
    (G-half : (k x y z : ℕ) → x < 2 ^ suc k → G (suc k) x y z / 2 ≡ G k (x / 2) (y / 2) (z / 2))
    (F-last : (k x y z : ℕ) → x < 2 ^ suc k → F (suc k) x y z % 2 ≡ f (x % 2) (y % 2) (z % 2))
    (G-last : (k x y z : ℕ) → x < 2 ^ suc k → G (suc k) x y z % 2 ≡ g (x % 2) (y % 2) (z % 2))
    (same : Agree f g) where
  by_bits : (k x y z : ℕ) → x < 2 ^ k → y < 2 ^ k → z < 2 ^ k → F k x y z ≡ G k x y z
  unfolding Agree
  by_bits zero x y z hx hy hz =
      let ex : x ≡ 0 = omega arith in
      let ey : y ≡ 0 = omega arith in
      let ez : z ≡ 0 = omega arith in
      (λ i. F 0 (ex i) (ey i) (ez i)) ∙ none ∙ sym (λ i. G 0 (ex i) (ey i) (ez i))
  by_bits (suc k) x y z hx hy hz =
      let p = two-pow-succ k in
      halves (F (suc k) x y z) (G (suc k) x y z)
      (F-half k x y z hx ∙ by_bits k (x / 2) (y / 2) (z / 2) (omega (arith, p)) (omega (arith, p)) (omega (arith, p)) ∙ sym (G-half k x y z hx))
      (F-last k x y z hx ∙ same (x % 2) (y % 2) (z % 2) (omega arith) (omega arith) (omega arith) ∙ sym (G-last k x y z hx))

-- the two ways to choose, and the two ways to find the majority
pub choose_is : (k x y z : ℕ) → x < 2 ^ k → y < 2 ^ k → z < 2 ^ k →
    bit_xor z (bit_and x (bit_xor y z)) ≡ bit_xor (bit_and x y) (bit_and (2 ^ k - 1 - x) z)
choose_is =
    by_bits (λ k x y z. bit_xor z (bit_and x (bit_xor y z))) (λ k x y z. bit_xor (bit_and x y) (bit_and (2 ^ k - 1 - x) z))
    (λ a b c. bit_xor c (bit_and a (bit_xor b c))) (λ a b c. bit_xor (bit_and a b) (bit_and (1 - a) c)) refl
    (λ k x y z h. xor_shr z _ 1 ∙ ap (bit_xor (z / 2)) (and_shr x _ 1 ∙ ap (bit_and (x / 2)) (xor_shr y z 1)))
    (λ k x y z h. xor_shr (bit_and x y) _ 1 ∙
    (λ i. bit_xor (and_shr x y 1 i) ((and_shr (2 ^ suc k - 1 - x) z 1 ∙ ap (λ n. bit_and n (z / 2)) (complement_half k x h)) i)))
    (λ k x y z h. xor_mod z _ 1 ∙ ap (bit_xor (z % 2)) (and_mod x _ 1 ∙ ap (bit_and (x % 2)) (xor_mod y z 1)))
    (λ k x y z h. xor_mod (bit_and x y) _ 1 ∙
    (λ i. bit_xor (and_mod x y 1 i) ((and_mod (2 ^ suc k - 1 - x) z 1 ∙ ap (λ n. bit_and n (z % 2)) (complement_last k x h)) i)))
    (table _ _ refl refl refl refl refl refl refl refl)

pub majority_is : (k x y z : ℕ) → x < 2 ^ k → y < 2 ^ k → z < 2 ^ k →
    bit_xor y (bit_and (bit_xor x y) (bit_xor y z)) ≡ bit_xor (bit_xor (bit_and x y) (bit_and x z)) (bit_and y z)
majority_is =
    by_bits (λ k x y z. bit_xor y (bit_and (bit_xor x y) (bit_xor y z))) (λ k x y z. bit_xor (bit_xor (bit_and x y) (bit_and x z)) (bit_and y z))
    (λ a b c. bit_xor b (bit_and (bit_xor a b) (bit_xor b c))) (λ a b c. bit_xor (bit_xor (bit_and a b) (bit_and a c)) (bit_and b c)) refl
    (λ k x y z h. xor_shr y _ 1 ∙ ap (bit_xor (y / 2)) (and_shr (bit_xor x y) _ 1 ∙ (λ i. bit_and (xor_shr x y 1 i) (xor_shr y z 1 i))))
    (λ k x y z h. xor_shr _ (bit_and y z) 1 ∙
    (λ i. bit_xor ((xor_shr (bit_and x y) (bit_and x z) 1 ∙ (λ j. bit_xor (and_shr x y 1 j) (and_shr x z 1 j))) i) (and_shr y z 1 i)))
    (λ k x y z h. xor_mod y _ 1 ∙ ap (bit_xor (y % 2)) (and_mod (bit_xor x y) _ 1 ∙ (λ i. bit_and (xor_mod x y 1 i) (xor_mod y z 1 i))))
    (λ k x y z h. xor_mod _ (bit_and y z) 1 ∙
    (λ i. bit_xor ((xor_mod (bit_and x y) (bit_and x z) 1 ∙ (λ j. bit_xor (and_mod x y 1 j) (and_mod x z 1 j))) i) (and_mod y z 1 i)))
    (table _ _ refl refl refl refl refl refl refl refl)
