use Rattle.std.proofs.Common.{◌≡◌, length, ap, rules, arith, ◌++◌, ◌∷◌, [], length-append}
use Rattle.reduce_up.proofs.Dividing.{empty_more}
use Rattle.reduce_up.proofs.lists.empty_lists.Goals as goal

pub loop-preserved : goal.loop-preserved
loop-preserved c =
    let grown : c.push.new.self.items ≡ c.loop.lists.items ++ c.in_ok-with_capacity.field-0 ∷ [] = search rules in
    record {
      many = let a = ap length grown in let b = length-append c.loop.lists.items (c.in_ok-with_capacity.field-0 ∷ []) in let d = c.loop.invariant.many in omega arith;
      empty = rw grown (empty_more c.loop.lists.items c.in_ok-with_capacity.field-0 c.loop.invariant.empty (ap length c.in_ok-with_capacity.ensures.items));
    }
