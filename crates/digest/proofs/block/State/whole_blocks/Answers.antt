-- Block by block.
use Rattle.std.proofs.Common.{◌≡◌, ◌/◌, length, fold, ap, ◌∙◌, arith}
use Rattle.std.specs.Simd.{first_chunks}
use Rattle.std.proofs.lemmas.Grind.{common_steps}
use Rattle.digest.specs.Sha256.{compressed, hashed}
use Rattle.digest.proofs.Blocks.{chunks_hashed}
use Rattle.digest.proofs.block.State.whole_blocks.Goals as goal

pub returns : goal.returns
unfolding hashed
returns c =
    let m = c.args.bytes.now in
    let run : c.fold.result ≡ fold compressed c.args.self (first_chunks 64 (length m / 64) m) = grind (arith, common_steps) in
    run ∙ chunks_hashed c.args.self m 0 (length m / 64) ∙ ap (hashed c.args.self m) (omega arith)
