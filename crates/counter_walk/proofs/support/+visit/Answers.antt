use Rattle.std.proofs.Common.{◌≡◌, ℕ, ◌<◌, ◌≤◌, true, false, refl, sym, ◌∙◌, arith}
use Rattle.std.proofs.lemmas.List.{get_or-set_same}
use Rattle.std.specs.Vec.{with_item}
use Rattle.dd_store.specs.Nodes.{Nodes}
use Rattle.dd_store.specs.Parts.Part.{node}
use Rattle.dd_store.specs.View.{part, top}
use Rattle.counter_walk.specs.declared.support.SupportWalk.{SupportWalk}
use Rattle.counter_walk.specs.Support.{IsMarked, AreMarkedBelow}
use Rattle.counter_walk.proofs.Pairing.{below}
use Rattle.counter_walk.proofs.Supporting.{nothing_below, node_of, all_below, only_below, seen_more, level_more, marked_before}
use Rattle.counter_walk.proofs.support.+visit.Goals as goal
use Rattle.counter_walk.proofs.support.+visit.Goals.{then-level-levels-via-then-level-levels, then-level-levels-via-else-level-levels+then-contains}

pub returns-then-level-levels-clause-all : goal.returns-then-level-levels-clause-all
returns-then-level-levels-clause-all t c = λ v s. elim c.then-level-levels.branch [
  | then-level-levels-via-then-level-levels w ↦
      let at : c.top-level.result ≡ top c.args.store.now c.args.r = c.top-level.ensures in
      let all : c.levels.result ≡ c.args.store.now.levels = c.levels.ensures.value in
      let past : c.levels.result ≤ c.top-level.result = w.if-level-levels.true in
      absurd (nothing_below c.args.store.now c.levels.ensures.sound c.args.r v c.requires.in_store (omega arith) s)
  | then-level-levels-via-else-level-levels+then-contains w ↦ c.requires.met.seen c.args.r (sym w.contains.ensures ∙ w.if-contains.true) v s
]

pub visit-requires : goal.visit-requires
visit-requires t c =
    let s : Nodes = c.args.store.now in
    let at : c.top-level.result ≡ top s c.args.r = c.top-level.ensures in
    let all : c.levels.result ≡ s.levels = c.levels.ensures.value in
    let before : c.top-level.result < c.levels.result = c.if-level-levels.false in
    let lt : c.top-level.result < s.levels = omega arith in
    let x = below s c.levels.ensures.sound c.args.r c.top-level.result false c.cofactors-low.result.0 c.requires.in_store lt (omega arith) c.cofactors-low.ensures.low in
    let deeper = x.1 in
    let d = c.decreases in
    (omega arith, (x.0, level_more s c.args.met.now _ c.top-level.result c.requires.met lt refl refl))

pub visit-requires-2 : goal.visit-requires-2
visit-requires-2 t c =
    let s : Nodes = c.args.store.now in
    let at : c.top-level.result ≡ top s c.args.r = c.top-level.ensures in
    let all : c.levels.result ≡ s.levels = c.levels.ensures.value in
    let before : c.top-level.result < c.levels.result = c.if-level-levels.false in
    let lt : c.top-level.result < s.levels = omega arith in
    let x = below s c.levels.ensures.sound c.args.r c.top-level.result true c.cofactors-low.result.1 c.requires.in_store lt (omega arith) c.cofactors-low.ensures.high in
    let deeper = x.1 in
    let d = c.decreases in
    (omega arith, (x.0, c.in_ok-visit.ensures.met))

-- r is a node with these children
is_node : (t : ℕ) (c : goal.In_ok-insert t) → part c.args.store.now c.args.r ≡ node c.top-level.result c.cofactors-low.result.0 c.cofactors-low.result.1
is_node t c =
    let s : Nodes = c.args.store.now in
    let all : c.levels.result ≡ s.levels = c.levels.ensures.value in
    let before : c.top-level.result < c.levels.result = c.if-level-levels.false in
    node_of s c.levels.ensures.sound c.args.r c.cofactors-low.result.0 c.cofactors-low.result.1 c.top-level.result c.requires.in_store c.top-level.ensures (omega arith) c.cofactors-low.ensures.low c.cofactors-low.ensures.high

-- the bits with that of the node's level
own : (t : ℕ) (c : goal.In_ok-insert t) → SupportWalk
own t c = record { seen = c.args.met.now.seen; levels = with_item c.args.met.now.levels c.top-level.result true }

own_marked : (t : ℕ) (c : goal.In_ok-insert t) → IsMarked (own t c) c.top-level.result
unfolding own
own_marked t c =
    let all : c.levels.result ≡ c.args.store.now.levels = c.levels.ensures.value in
    let before : c.top-level.result < c.levels.result = c.if-level-levels.false in
    let full = c.requires.met.each_level in
    get_or-set_same c.args.met.now.levels.items c.top-level.result true false (omega arith)

marks : (t : ℕ) (c : goal.In_ok-insert t) → AreMarkedBelow c.args.store.now c.visit-2.new.met c.args.r
unfolding own
marks t c =
    all_below c.args.store.now c.levels.ensures.sound c.args.r c.cofactors-low.result.0 c.cofactors-low.result.1 c.top-level.result (own t c) c.visit.new.met c.visit-2.new.met (is_node t c) (own_marked t c)
    c.in_ok-visit.ensures.keeps c.in_ok-visit.ensures.all c.in_ok-visit-2.ensures.keeps c.in_ok-visit-2.ensures.all

pub returns-clause-all : goal.returns-clause-all
returns-clause-all t c = marks t c

pub returns-clause-only : goal.returns-clause-only
unfolding own
returns-clause-only t c =
    only_below c.args.store.now c.levels.ensures.sound c.args.r c.cofactors-low.result.0 c.cofactors-low.result.1 c.top-level.result c.args.met.now (own t c) c.visit.new.met c.visit-2.new.met (is_node t c)
    (λ u m. marked_before c.args.met.now.levels.items c.top-level.result u m) c.in_ok-visit.ensures.only c.in_ok-visit-2.ensures.only

pub returns-clause-met : goal.returns-clause-met
returns-clause-met t c = seen_more c.args.store.now c.visit-2.new.met _ c.args.r c.in_ok-visit-2.ensures.met refl c.in_ok-insert.ensures.updates (marks t c)
