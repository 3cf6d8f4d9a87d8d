-- Each word by a call of the closure.
use Rattle.std.proofs.Common.{◌≡◌, ◌/◌, [], length, get_or, rules, ap, ◌∙◌, arith}
use Rattle.std.specs.Simd.{first_chunks}
use Rattle.std.specs.Int.{from_be_bytes, w32}
use Rattle.digest.specs.Sha256.{block_words, word_at}
use Rattle.digest.proofs.Made.{made_is}
use Rattle.digest.proofs.Fours.{word_is}
use Rattle.digest.proofs.block.block_words.Goals as goal

pub returns : goal.returns
unfolding block_words
returns c =
    let b = c.args.block.now in
    let fours = c.as_chunks.result.0.now in
    let sixteen : length b / 4 ≡ 16 = omega arith in
    let front : fours ≡ first_chunks 4 16 b = c.as_chunks.ensures.front ∙ ap (λ n. first_chunks 4 n b) sixteen in
    made_is _ _ (word_at b) c.from_fn.result 16
    (λ t y q h call.
    let word : y ≡ from_be_bytes w32 (get_or fours t []) = search rules in
    (search rules, word ∙ ap (λ l. from_be_bytes w32 (get_or l t [])) front ∙ word_is b t h)) c.from_fn.ensures.items
