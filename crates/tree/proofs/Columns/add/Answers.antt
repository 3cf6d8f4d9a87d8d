use Rattle.std.proofs.Common.{◌≡◌, ◌<◌, length, get_or, arith}
use Rattle.std.proofs.lemmas.Grind.{common_steps}
use Rattle.finality.proofs.Books.{added_book}
use Rattle.tree.specs.Pages.{heights_of, parents_of}
use Rattle.tree.proofs.Heights.{height_le}
use Rattle.tree.proofs.Columns.add.Goals as goal
use Rattle.tree.proofs.Columns.add.Goals.{In_ok-height}

-- the parent is there, and this is its height
found : (c : In_ok-height) →
    (c.args.parent < length (parents_of c.args.self.now)) ×
    (c.in_ok-height.field-0 ≡ get_or (heights_of c.args.self.now) c.args.parent 1)
found c = (grind (arith, common_steps), grind (arith, common_steps))

pub overflow_add-height : goal.overflow_add-height
overflow_add-height c =
    let f = found c in
    let h = height_le _ _ c.args.self.now.book c.args.parent f.0 in
    omega (arith, f.1)

pub invariant_of-self-clause-book : goal.invariant_of-self-clause-book
invariant_of-self-clause-book c =
    let f = found (goal.at.invariant_of-self-clause-book c).In_ok-height in
    rw (c.push_reserved.ensures.items, c.push_reserved-2.ensures.items, f.1) (added_book _ _ c.args.self.now.book c.args.parent f.0)
