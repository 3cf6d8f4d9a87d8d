-- The message's whole blocks and those of its padded end are the blocks of the padded message.
use Rattle.std.proofs.Common.{◌≡◌, ◌*◌, ◌/◌, ◌%◌, ◌^◌, length, drop, ap, ◌∙◌, arith}
use Rattle.digest.specs.Sha256.{bytes_of, ended, hashed, initial, sha256_of}
use Rattle.digest.proofs.Blocks.{all_blocks}
use Rattle.digest.proofs.sha256.Goals as goal

pub returns : goal.returns
unfolding sha256_of
returns c =
    let m = c.args.bytes.now in
    let bits = length m * 8 % 2 ^ 64 in
    let e : c.as_chunks.result.1.now ≡ drop (64 * (length m / 64)) m = c.as_chunks.ensures.back ∙ ap (λ n. drop n m) (omega arith) in
    c.into.ensures ∙
    ap bytes_of
    (c.last_blocks.ensures ∙ (λ i. hashed (c.whole_blocks.ensures i) (ended (e i) bits) (length (ended (e i) bits) / 64)) ∙
    all_blocks m bits initial)
