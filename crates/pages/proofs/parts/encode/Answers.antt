-- The five parts, one behind the other.
use Rattle.std.proofs.Common.{arith}
use Rattle.pages.proofs.Writes.{put_whole}
use Rattle.pages.proofs.parts.encode.Goals as goal

pub returns : goal.returns
returns c =
    rw (c.copy_from_slice.ensures.after, c.copy_from_slice-2.ensures.after, c.copy_from_slice-3.ensures.after, c.copy_from_slice-4.ensures.after, c.to_be_bytes.ensures, c.to_be_bytes-2.ensures)
    (put_whole c.args.parts.height c.args.parts.parent c.args.parts.receipts.now c.args.out.now _
    (record { low = omega arith; digest = omega arith; few = c.if-count-gt-MOST_RECEIPTS.false }) (omega arith) (omega arith))
