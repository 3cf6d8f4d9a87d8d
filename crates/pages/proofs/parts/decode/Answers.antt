-- Bytes that are read, and what they come apart into.
use Rattle.std.proofs.Common.{◌∙◌, arith, sym}
use Rattle.pages.proofs.Codec.{not_formed, known_apart, split_off}
use Rattle.pages.proofs.parts.decode.Goals as goal

pub returns-then-kind-ne-KIND : goal.returns-then-kind-ne-KIND
returns-then-kind-ne-KIND c =
    let s = split_off _ _ _ _ _ _ _ _ _ c.in_ok-kind.ensures.cases c.in_ok-height.ensures.cases c.in_ok-parent.ensures.cases c.in_ok-count.ensures.cases in
    not_formed _ (λ f. grind (arith, f.kind, f.few, f.long, s.kind_is, s.count_is, s.long, c.from_be_bytes.ensures, c.then-kind-ne-KIND.either))

pub returns : goal.returns
returns c =
    let s = split_off _ _ _ _ _ _ _ _ _ c.in_ok-kind.ensures.cases c.in_ok-height.ensures.cases c.in_ok-parent.ensures.cases c.in_ok-count.ensures.cases in
    let n = c.from_be_bytes.ensures ∙ s.count_is in
    known_apart _ (λ i. omega (arith, c.type_inv.bytes i)) (record { kind = sym s.kind_is ∙ c.if-kind-ne-KIND.false; few = omega (arith, n); long = omega (arith, n, s.long) })
    _ _ _ (c.from_be_bytes-2.ensures ∙ s.height_is) s.parent_is s.receipts_is
