use Rattle.std.proofs.Common.{◌∙◌, List, ℕ, ap, length, subst}
use Rattle.std.specs.List.Sorted.{IsPermutation}
use Rattle.net_bench.specs.Circuit.{circuit}
use Rattle.net_names.specs.declared.order.Order.TheVariants.{Listed}
use Rattle.net_order.specs.Force.{numbers_below}
use Rattle.net_order.specs.Order.{condition, numbered}
use Rattle.group_order.proofs.Fitting.{fit_from}
use Rattle.group_order.proofs.orders.weights.Goals as goal

pub returns-clause-each_once : goal.returns-clause-each_once
returns-clause-each_once c =
    let p = c.in_ok-declared.declared in
    let numbers = c.in_ok-numbers.numbers.items in
    let moved : IsPermutation (numbers_below (length c.in_ok-declared.declared.names)) c.in_ok-numbers.numbers.items =
    subst (λ (ns : List (List ℕ)). IsPermutation (numbers_below (length ns)) c.in_ok-numbers.numbers.items) c.names.ensures.value c.in_ok-numbers.ensures.moved in
    fit_from c.args.how (circuit c.args.first.now) (circuit c.args.second.now) (condition c.args.given) p numbers c.in_ok-order.order c.in_ok-declared.ensures.paired moved
    (c.in_ok-order.ensures ∙ ap (λ (ns : List (List ℕ)). Listed (numbered ns c.as_slice-2.result.now)) c.names-2.ensures.value ∙
    ap (λ (ks : List ℕ). Listed (numbered c.in_ok-declared.declared.names ks)) c.as_slice-2.ensures.value)
