-- The bytes of each word, one word after the other.
use Rattle.std.proofs.Common.{◌≡◌, [], map, get_or, rules, ap, ◌∙◌}
use Rattle.std.specs.List.{flat_map, range_with_len}
use Rattle.std.proofs.lemmas.List.FromFn.{fill_by_all}
use Rattle.digest.specs.Sha256.{bytes4, words_of}
use Rattle.digest.proofs.block.ArrayU832FromState.from.Goals as goal

pub returns : goal.returns
returns c =
    let four : c.map.result ≡ map (λ k. bytes4 (get_or (words_of c.args.s) k 0)) (range_with_len 0 8) =
    fill_by_all (λ k. bytes4 (get_or (words_of c.args.s) k 0)) c.map.result 8 [] c.map.ensures.items.long
    (λ k h. let call = c.map.ensures.items.at k 0 [] h in search rules) in
    c.copy_from_slice.ensures.after ∙ c.as_flattened.ensures.value ∙ ap (flat_map (λ x. x)) four
