use Rattle.finality.specs.Links.{Passing}
use Rattle.finality.proofs.Clashes.{clashes, crossed}
use Rattle.finality.proofs.safety.links_clash.Goals as goal

pub returns : goal.returns
returns c = (crossed, λ t g l. clashes t g (Passing l))
