-- All rounds, with the whole schedule. What is known of the words is searched for, so that it may be reached by other steps: a wrong
-- line that has the last eight anew is then refused for what they are.
use Rattle.std.proofs.Common.{◌≡◌, ◌/◌, drop, length, ap, fold, ◌∙◌, arith, rules}
use Rattle.std.proofs.lemmas.List.{take-append-drop, take_all}
use Rattle.std.specs.List.{zip}
use Rattle.std.specs.Simd.{first_chunks}
use Rattle.digest.specs.Sha256.{added, compressed, constants, round_of, rounds}
use Rattle.digest.proofs.Rounds.{all_rounds}
use Rattle.digest.proofs.block.State.compress.Goals as goal

pub returns : goal.returns
unfolding compressed constants
returns c =
    let s = c.args.self in
    let w = c.schedule-w.result in
    let ks : c.as_chunks.result.0.now ≡ first_chunks 8 8 constants = search rules in
    let eight : length w / 8 ≡ 8 = omega arith in
    let ws : c.as_chunks-2.result.0.now ≡ first_chunks 8 8 w = search (rules, eight, take-append-drop 56 w, take_all 8 (drop 56 w)) in
    c.plus.ensures ∙
    ap (added s) (c.rounds.ensures ∙ (λ i. fold (λ x p. fold (λ y q. round_of y q.0 q.1) x (zip p.0 p.1)) s (zip (ks i) (ws i))) ∙
    all_rounds s w (omega arith) ∙ ap (λ l. rounds s l 64) c.schedule-w.ensures)
