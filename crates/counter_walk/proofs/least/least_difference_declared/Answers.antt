use Rattle.std.proofs.Common.{◌≡◌, ◌<◌, ◌+◌, ◌∙◌, ℕ, Bool, List, [], ◌∷◌, ◌++◌, length, sym, ap, subst, arith, true, false, get_or}
use Rattle.std.proofs.Math.ListN.{set}
use Rattle.std.proofs.lemmas.List.{length_push, get_or_read, set_at, with_items_is}
use Rattle.dd_store.specs.Nodes.{Nodes, den}
use Rattle.counter_walk.specs.DeclaredOrder.{by_declared}
use Rattle.counter_walk.specs.Lines.{LineDenotes, ReadVariablesBelow, AreSatisfiable, differs}
use Rattle.counter_walk.proofs.Fixing.{IsFixed, fixed_all}
use Rattle.counter_walk.proofs.Pairing.{differ_start}
use Rattle.counter_walk.proofs.LineDenotes.{turn_free, turn_zero, turn_one, LineDenotes-within, read_back}
use Rattle.counter_walk.proofs.least.least_difference_declared.Goals as goal
use Rattle.counter_walk.proofs.least.least_difference_declared.Goals.{then-index+then-not-index, then-index+else-not-index, else-index}

pub loop-variable-init : goal.loop-variable-init
loop-variable-init c =
    let start : IsFixed c.args.store.now.levels (differs c.args.store.now c.args.order.now c.args.f c.args.g) [] =
    differ_start c.args.store.now c.levels-variables.ensures.sound c.args.order.now c.requires.order c.args.f c.args.g c.requires.first_in_store c.requires.second_in_store
    (λ e. let t : c.same.result ≡ true = c.same.ensures.references.1 e in let f : c.same.result ≡ false = c.if-same.false in cc) in
    record {
      many = ap length c.new-bits.ensures.items;
      each = let len : c.in_ok-satisfiable.satisfiable.len ≡ length c.in_ok-satisfiable.satisfiable.items = c.in_ok-satisfiable.satisfiable.ok.0 in let e = c.in_ok-satisfiable.ensures.len in omega arith;
      fixed = rw c.new-bits.ensures.items start;
    }

pub index-requires-then-index : goal.index-requires-then-index
index-requires-then-index c =
    let within = LineDenotes-within c.args.store.now.levels c.place_of.new.table.lines.items c.in_ok-root.root (differs c.args.store.now c.args.order.now c.args.f c.args.g) c.in_ok-root.ensures.place in
    let same : length c.as_slice-lines.result.now ≡ length c.place_of.new.table.lines.items = ap length c.as_slice-lines.ensures.value in
    let len : c.loop-variable.satisfiable.len ≡ length c.loop-variable.satisfiable.items = c.loop-variable.satisfiable.ok.0 in
    let each : length c.loop-variable.satisfiable.items ≡ length c.as_slice-lines.result.now = c.loop-variable.invariant.each in
    omega arith

stands : (c : goal.Joined-index)
    → LineDenotes c.args.store.now.levels c.as_slice-lines.result.now c.in_ok-root.root (differs c.args.store.now c.args.order.now c.args.f c.args.g)
stands c =
    subst (λ ls. LineDenotes c.args.store.now.levels ls c.in_ok-root.root (differs c.args.store.now c.args.order.now c.args.f c.args.g)) (sym c.as_slice-lines.ensures.value)
    c.in_ok-root.ensures.place

of_levels : (c : goal.Joined-index) → ReadVariablesBelow c.args.store.now.levels c.as_slice-lines.result.now
of_levels c = subst (ReadVariablesBelow c.args.store.now.levels) (sym c.as_slice-lines.ensures.value) c.in_ok-root.ensures.table.variables

here : (c : goal.Joined-index) → length c.loop-variable.bits.items < c.args.store.now.levels
here c = let v = c.levels-variables.ensures.value in let m = c.loop-variable.invariant.many in omega arith

pub loop-variable-preserved : goal.loop-variable-preserved
loop-variable-preserved c =
    let n : ℕ = c.args.store.now.levels in
    let h : List Bool → Bool = differs c.args.store.now c.args.order.now c.args.f c.args.g in
    let bits : List Bool = c.loop-variable.bits.items in
    let tried : c.push.new.self.items ≡ bits ++ false ∷ [] = c.in_ok-push.ensures.items in
    let many : length bits ≡ c.loop-variable.variable = c.loop-variable.invariant.many in
    let len : c.loop-variable.satisfiable.len ≡ length c.loop-variable.satisfiable.items = c.loop-variable.satisfiable.ok.0 in
    let within = LineDenotes-within n c.as_slice-lines.result.now c.in_ok-root.root h (stands c) in
    elim c.if-index.branch [
      | then-index+then-not-index w ↦
          let ws : List Bool = w.find_satisfiable.new.satisfiable in
          let q = w.find_satisfiable.auto in
          let k = w.as_mut_slice.ensures.len in
          let same : length ws ≡ c.loop-variable.satisfiable.len = omega arith in
          let last : c.if-index.bits.items ≡ bits ++ true ∷ [] = ap (λ z. z.items) w.bits-is ∙ ap (λ z. set z c.loop-variable.variable true) tried ∙ set_at bits false [] true c.loop-variable.variable many in
          record {
            many = ap length last ∙ length_push bits true ∙ ap (λ n. n + 1) many;
            each = ap (λ z. length z.items) w.satisfiable-is ∙ ap length (with_items_is c.loop-variable.satisfiable ws same) ∙ omega arith;
            fixed = turn_one n c.as_slice-lines.result.now (of_levels c) c.in_ok-root.root h (stands c)
                ws bits c.push.new.self.items c.if-index.bits.items (here c) tried (subst (λ z. AreSatisfiable c.as_slice-lines.result.now z ws) w.as_slice.ensures.value w.find_satisfiable.ensures)
                (read_back c.loop-variable.satisfiable ws c.in_ok-root.root w.index-then-index.result.now false same (omega arith) w.index-then-index.ensures w.if-not-index.true) last c.loop-variable.invariant.fixed;
          }
      | then-index+else-not-index w ↦
          let ws : List Bool = w.find_satisfiable.new.satisfiable in
          let q = w.find_satisfiable.auto in
          let k = w.as_mut_slice.ensures.len in
          let same : length ws ≡ c.loop-variable.satisfiable.len = omega arith in
          let last : c.if-index.bits.items ≡ bits ++ false ∷ [] = ap (λ z. z.items) w.bits-is ∙ tried in
          record {
            many = ap length last ∙ length_push bits false ∙ ap (λ n. n + 1) many;
            each = ap (λ z. length z.items) w.satisfiable-is ∙ ap length (with_items_is c.loop-variable.satisfiable ws same) ∙ omega arith;
            fixed = turn_zero n c.as_slice-lines.result.now (of_levels c) c.in_ok-root.root h (stands c)
                ws bits c.push.new.self.items c.if-index.bits.items (here c) tried (subst (λ z. AreSatisfiable c.as_slice-lines.result.now z ws) w.as_slice.ensures.value w.find_satisfiable.ensures)
                (read_back c.loop-variable.satisfiable ws c.in_ok-root.root w.index-then-index.result.now true same (omega arith) w.index-then-index.ensures w.if-not-index.false) last c.loop-variable.invariant.fixed;
          }
      | else-index w ↦
          let last : c.if-index.bits.items ≡ bits ++ false ∷ [] = ap (λ z. z.items) w.bits-is ∙ tried in
          let reads : List Bool = c.in_ok-reads.reads.items in
          let r = c.in_ok-reads.ensures.length in
          let off : get_or reads c.loop-variable.variable false ≡ false = sym (get_or_read reads c.loop-variable.variable c.index.result.now (omega arith) c.index.ensures false) ∙ w.if-index.false in
          record {
            many = ap length last ∙ length_push bits false ∙ ap (λ n. n + 1) many;
            each = ap (λ z. length z.items) w.satisfiable-is ∙ c.loop-variable.invariant.each;
            fixed = turn_free n c.as_slice-lines.result.now (of_levels c) c.in_ok-root.root h (stands c)
                reads bits c.if-index.bits.items (here c) c.in_ok-reads.ensures.read (ap (λ n. get_or reads n false) many ∙ off) last c.loop-variable.invariant.fixed;
          }
    ]

pub returns : goal.returns
returns c =
    let s : Nodes = c.args.store.now in
    let v = c.levels-variables.ensures.value in
    let m = c.loop-variable.invariant.many in
    record {
      least = fixed_all s.levels (by_declared c.args.order.now (den s c.args.f)) (by_declared c.args.order.now (den s c.args.g)) c.loop-variable.bits.items (omega arith)
          c.loop-variable.invariant.fixed;
    }
