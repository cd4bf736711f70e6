use Rattle.std.proofs.Common.{◌≡◌, ◌∙◌, List, ℕ, Vec, ap, sym, subst, map, option_map, length, refl}
use Rattle.std.specs.Global.{Global}
use Rattle.std.specs.Prelude.{Some, None, slice_get}
use Rattle.std.proofs.lemmas.Option.{slice_get-map, slice_get_past, slice_get_read}
use Rattle.net_bench.specs.Circuit.{gate_by, gate_of}
use Rattle.net_order.proofs.Walks.{inside_from, listed_steps, no_steps, past_from}
use Rattle.net_order.proofs.walk.walk_operands.Goals as goal

pub returns-in-Some : goal.returns-in-Some
returns-in-Some c =
    let k = c.in-Gate.place in
    let at : slice_get c.args.ordered_net.now.steps.items c.in-Gate.place ≡ Some c.in-Some.list.now =
    subst (λ (xs : List (Vec ℕ Global)). slice_get xs c.in-Gate.place ≡ Some c.in-Some.list.now) c.deref.ensures.value
    (slice_get_read c.deref.result.now (length c.deref.result.now) k c.in-Some.list.now refl (inside_from k (length c.deref.result.now) c.in-Some.ensures.lookup.0) c.in-Some.ensures.lookup.1) in
    listed_steps c.args.ordered_net.now.operand_order c.args.ordered_net.now.net.now (map (λ l. l.items) c.args.ordered_net.now.steps.items) c.requires.ordered_net c.args.signal c.in-Gate.place c.as_slice.result.now
    (ap (gate_of c.args.ordered_net.now.net.now.gates) (sym c.of.ensures) ∙ c.role.ensures.gate ∙ ap (gate_by c.args.ordered_net.now.net.now.gates) c.in-Gate.is)
    (slice_get-map (λ l. l.items) c.args.ordered_net.now.steps.items c.in-Gate.place ∙ ap (option_map (λ l. l.items)) at ∙ ap Some (sym c.as_slice.ensures.value))

pub returns-in-None : goal.returns-in-None
returns-in-None c =
    let k = c.in-Gate.place in
    let at : slice_get c.args.ordered_net.now.steps.items c.in-Gate.place ≡ None =
    subst (λ (xs : List (Vec ℕ Global)). slice_get xs c.in-Gate.place ≡ None) c.deref.ensures.value
    (slice_get_past c.deref.result.now k (past_from k (length c.deref.result.now) c.in-None.ensures.lookup.0)) in
    no_steps c.args.ordered_net.now.operand_order c.args.ordered_net.now.net.now (map (λ l. l.items) c.args.ordered_net.now.steps.items) c.requires.ordered_net c.args.signal c.in-Gate.place
    (ap (gate_of c.args.ordered_net.now.net.now.gates) (sym c.of.ensures) ∙ c.role.ensures.gate ∙ ap (gate_by c.args.ordered_net.now.net.now.gates) c.in-Gate.is)
    (slice_get-map (λ l. l.items) c.args.ordered_net.now.steps.items c.in-Gate.place ∙ ap (option_map (λ l. l.items)) at)
