-- More votes and more pages.
-- Assumes nothing.
use Rattle.std.proofs.Common.{◌≡◌, ℕ, true, ltb, refl}
use Rattle.std.proofs.lemmas.Bool.{lt-ltb}
use Rattle.finality.specs.declared.Link.{Link}
use Rattle.finality.specs.Votes.{everyone, linked, vote}
use Rattle.finality.specs.Growth.{Carried, MorePages, MoreVotes, VotesCarry, moved}
use Rattle.finality.proofs.Carries.{carries, extends_carried}
use Rattle.finality.proofs.Cast.{linked_cast, linked_moved}

pub votes_carry : VotesCarry
votes_carry t u page f c vs some xs ys sent a =
    carries t u page f c (linked vs xs) (linked vs ys) made a
  where
    made : (k : Link) → linked vs xs k ≡ true → (page k.target ≡ true) × (linked vs ys (moved f k) ≡ true)
    made k e =
        let x = linked_cast vs xs k some e in
        ((sent (vote x.0 k) x.1).0, linked_moved f vs xs ys (λ y m. (sent y m).1) k e)

pub more_votes : MoreVotes
more_votes t vs xs ys sent a =
    carries t t everyone same all (linked vs xs) (linked vs ys) made a
  where
    same : ℕ → ℕ
    same b = b

    all : Carried t t everyone same
    all = record { first = refl; lower = λ b p i. refl; later = λ b p i. i; parent = λ b p i. refl; height = λ b p. refl }

    made : (k : Link) → linked vs xs k ≡ true → (everyone k.target ≡ true) × (linked vs ys (moved same k) ≡ true)
    made k e = (refl, linked_moved same vs xs ys sent k e)

pub more_pages : MorePages
more_pages t u n e vs some xs ys sent a =
    votes_carry t u (λ b. ltb b n) (λ b. b) (extends_carried t u n e) vs some xs ys
    (λ x m. let s = sent x m in (lt-ltb x.link.target n s.0, s.1)) a
