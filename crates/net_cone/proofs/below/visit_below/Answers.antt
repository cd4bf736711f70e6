use Rattle.std.proofs.Common.{◌∙◌, ◌<◌, inl, inr, length, sym, subst, ◌∷◌, [], arith}
use Rattle.std.specs.Prelude.{All, Contains}
use Rattle.std.proofs.lemmas.List.Elements.{All-push}
use Rattle.net_cone.specs.Walk.{IsVisited}
use Rattle.net_cone.proofs.Lists.{in_first, in_second}
use Rattle.net_cone.proofs.Walking.{begun, last_or, none_in, taken, taken_low}
use Rattle.net_cone.proofs.below.visit_below.Goals as goal

pub loop-signal-init : goal.loop-signal-init
loop-signal-init c = record {
  walking = begun c.args.net.now c.args.root c.args.seen.now c.visit.new.seen c.visit.new.waiting.items (c.visit.auto.seen ∙ c.requires.one_per_signal) c.requires.none_visited
      c.in_ok-visit.ensures.signal_visited c.in_ok-visit.ensures.new_ones_wait (c.in_ok-visit.ensures.visited (none_in (IsVisited c.args.seen.now) c.new-waiting.result.items c.new-waiting.ensures.items));
  met = λ s now. elim (c.in_ok-visit.ensures.new_ones_wait s now) [
    | inl was ↦ absurd (c.requires.none_visited s was)
    | inr (is, waits) ↦ inl waits
  ];
  in_bounds = λ all. all;
}

pub visit_operands-requires-clause-in_bounds : goal.visit_operands-requires-clause-in_bounds
visit_operands-requires-clause-in_bounds c =
    taken_low c.args.net.now c.requires.sound c.args.root c.in-Some.signal c.loop-signal.seen c.pop.new.self.items
    (taken c.args.net.now c.args.root c.in-Some.signal c.loop-signal.seen c.loop-signal.waiting.items c.pop.new.self.items c.in-Some.ensures.items c.loop-signal.invariant.walking)

pub loop-signal-preserved : goal.loop-signal-preserved
loop-signal-preserved c =
    let low : c.in-Some.signal < length c.args.net.now.names =
    taken_low c.args.net.now c.requires.sound c.args.root c.in-Some.signal c.loop-signal.seen c.pop.new.self.items
    (taken c.args.net.now c.args.root c.in-Some.signal c.loop-signal.seen c.loop-signal.waiting.items c.pop.new.self.items c.in-Some.ensures.items c.loop-signal.invariant.walking) in
    record {
      walking = c.in_ok-visit_operands.ensures.walking;
      met = λ s now. elim (c.in_ok-visit_operands.ensures.new_ones_wait s now) [
        | inl was ↦ elim (c.loop-signal.invariant.met s was) [
          | inl waits ↦ elim (last_or c.pop.new.self.items c.in-Some.signal s (subst (λ xs. Contains xs s) c.in-Some.ensures.items waits)) [
            | inl is ↦ inr (subst (λ xs. Contains xs s) (sym c.in_ok-push.ensures.items) (in_second c.loop-signal.met.items (c.in-Some.signal ∷ []) s (0, omega arith, is)))
            | inr rest ↦ inl (c.in_ok-visit_operands.ensures.waiting s rest)
          ]
          | inr before ↦ inr (subst (λ xs. Contains xs s) (sym c.in_ok-push.ensures.items) (in_first c.loop-signal.met.items (c.in-Some.signal ∷ []) s before))
        ]
        | inr waits ↦ inl waits
      ];
      in_bounds = λ all. subst (λ xs. All (λ s. s < length c.args.net.now.names) xs) (sym c.in_ok-push.ensures.items)
          (All-push (λ s. s < length c.args.net.now.names) c.loop-signal.met.items c.in-Some.signal (c.loop-signal.invariant.in_bounds all) low);
    }
