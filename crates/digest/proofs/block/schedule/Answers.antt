-- A word a turn.
use Rattle.std.proofs.Common.{◌∙◌, arith}
use Rattle.std.proofs.lemmas.List.{length-append, length-set, take_at}
use Rattle.digest.specs.Sha256.{block_words, schedule}
use Rattle.digest.proofs.Schedule.{schedule_more}
use Rattle.digest.proofs.block.schedule.Goals as goal

pub loop-eight-init : goal.loop-eight-init
unfolding schedule
loop-eight-init c =
    let words = c.copy_from_slice.ensures.after ∙ c.block_words.ensures in
    (simp length-append (omega arith), omega arith, take_at c.copy_from_slice.new.self _ 16 c.copy_from_slice.ensures.len ∙ words)

pub loop-t-preserved : goal.loop-t-preserved
loop-t-preserved c =
    let t = c.loop-t.t in
    let w = c.loop-t.w in
    let m = block_words c.args.block.now in (
      length-set w t c.next_word.result ∙ c.loop-t.invariant.0,
      omega arith,
      schedule_more m w t c.next_word.result (omega arith) (omega arith) c.next_word.ensures c.loop-t.invariant.2,
    )
