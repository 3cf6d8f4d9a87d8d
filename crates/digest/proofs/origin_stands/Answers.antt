-- By computation.
use Rattle.std.proofs.Common.{refl}
use Rattle.digest.specs.Sha256.{constants}
use Rattle.digest.proofs.origin_stands.Goals as goal

pub returns : goal.returns
unfolding constants
returns c = (refl, refl)
