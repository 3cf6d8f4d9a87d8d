-- By computation.
use Rattle.std.proofs.Common.{refl}
use Rattle.digest.specs.Sha256.{block_words, compressed, constants, ended, hashed, round_of, rounds, schedule, sha256_of}
use Rattle.digest.proofs.known_answers_stand.Goals as goal

pub returns : goal.returns
unfolding block_words compressed constants ended hashed round_of rounds schedule sha256_of
returns c = (refl, refl)
