-- The three writes, one after the other.
use Rattle.std.proofs.Common.{length}
use Rattle.digest.specs.Sha256.{ended, zeros}
use Rattle.digest.proofs.Ends.{end_is}
use Rattle.digest.proofs.padding.padded_end.Goals as goal

pub returns : goal.returns
unfolding ended
returns g c =
    let r = c.args.rest.now in
    rw (c.copy_from_slice.ensures.after, c.copy_from_slice-2.ensures.after, c.to_be_bytes.ensures)
    (end_is r c.args.bits (zeros (length r)) g.row.N c.requires)
