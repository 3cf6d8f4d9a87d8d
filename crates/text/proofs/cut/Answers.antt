use Rattle.std.proofs.Common.{rules, ◌≡◌, ℕ, ◌-◌, length, drop, take, Option, None, Some, refl, ◌∙◌}
use Rattle.std.proofs.lemmas.List.{take_rest}
use Rattle.text.proofs.Cuts.{Stops, cut_stop}
use Rattle.text.proofs.cut.Goals as goal
use Rattle.text.proofs.cut.Goals.{After-unwrap_or}

stop : (c : After-unwrap_or) → Stops c.args.end c.args.s.now c.unwrap_or-n.result
stop c = go c.position.result refl where
  go : (r : Option ℕ) → c.position.result ≡ r → Stops c.args.end c.args.s.now c.unwrap_or-n.result
  go None e = search (rules, e)
  go (Some n) e = search (rules, e)

-- what follows is all but the first byte of what the search leaves
after : (c : After-unwrap_or) → c.unwrap_or.result.now ≡ drop 1 c.split_at.result.1.now
after c = go c.get.result refl where
  go : (r : Option _) → c.get.result ≡ r → c.unwrap_or.result.now ≡ drop 1 c.split_at.result.1.now
  go None e = search (rules, e)
  go (Some tail) e =
      let told : c.unwrap_or.result.now ≡ take (length c.split_at.result.1.now - 1) (drop 1 c.split_at.result.1.now) = search (rules, e) in
      told ∙ take_rest c.split_at.result.1.now 1

pub returns : goal.returns
returns c =
    rw (c.split_at.ensures.front, after c, c.split_at.ensures.back) (cut_stop c.args.end c.args.s.now c.unwrap_or-n.result (search rules) (stop c))
