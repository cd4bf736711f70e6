use Rattle.std.proofs.Common.{◌≡◌, ◌∙◌, ℕ, Bool, List, false, true, sym, arith, get_or}
use Rattle.std.specs.Prelude.{IfOk}
use Rattle.std.proofs.lemmas.Result.{IfOk-weaker}
use Rattle.dd_store.specs.declared.reference.Ref.{Ref}
use Rattle.dd_store.specs.Nodes.{Nodes}
use Rattle.counter_walk.specs.declared.least.DiffPair.{DiffPair}
use Rattle.counter_walk.specs.Lines.{differs, IsDiffPairOf}
use Rattle.counter_walk.proofs.Pairing.{level_here, falls, below, choice_of, differs_same, differs_opposite, differs_pair}
use Rattle.counter_walk.proofs.LineDenotes.{IsReady, IsAdded, ready_constant, ready_choice, placed, LineDenotes-agree}
use Rattle.counter_walk.proofs.least.+place_of.Goals as goal
use Rattle.counter_walk.proofs.least.+place_of.Goals.{then-same, else-same+then-same-2, else-same+else-same-2+in_ok-place_of+in_ok-place_of-2}

-- the pair's level is one of the store's if its line is a branch
pub cofactors-requires-clause-level : goal.cofactors-requires-clause-level
cofactors-requires-clause-level t c =
    let k : IsDiffPairOf c.args.store.now c.args.f c.args.g c.normal-pair.result = c.normal-pair.ensures c.args.store.now c.levels.ensures.sound c.requires.first_in_store c.requires.second_in_store in
    let l = level_here c.args.store.now c.levels.ensures.sound c.normal-pair.result.first c.normal-pair.result.second c.top.result c.top-else-same-2.result c.min-level.result k.first k.second
    (λ e. let x : c.same.result ≡ true = c.same.ensures.references.1 e in let y : c.same.result ≡ false = c.if-same.false in cc)
    (λ e. let x : c.same-else-same.result ≡ true = c.same-else-same.ensures.references.1 (e ∙ sym c.negate.ensures.value) in let y : c.same-else-same.result ≡ false = c.if-same-2.false in cc)
    c.top.ensures c.top-else-same-2.ensures c.min-level.ensures in
    l.0

pub cofactors-requires-else-same-2-clause-level : goal.cofactors-requires-else-same-2-clause-level
cofactors-requires-else-same-2-clause-level t c =
    let k : IsDiffPairOf c.args.store.now c.args.f c.args.g c.normal-pair.result = c.normal-pair.ensures c.args.store.now c.levels.ensures.sound c.requires.first_in_store c.requires.second_in_store in
    let l = level_here c.args.store.now c.levels.ensures.sound c.normal-pair.result.first c.normal-pair.result.second c.top.result c.top-else-same-2.result c.min-level.result k.first k.second
    (λ e. let x : c.same.result ≡ true = c.same.ensures.references.1 e in let y : c.same.result ≡ false = c.if-same.false in cc)
    (λ e. let x : c.same-else-same.result ≡ true = c.same-else-same.ensures.references.1 (e ∙ sym c.negate.ensures.value) in let y : c.same-else-same.result ≡ false = c.if-same-2.false in cc)
    c.top.ensures c.top-else-same-2.ensures c.min-level.ensures in
    l.0

pub bounds-order-level : goal.bounds-order-level
bounds-order-level t c =
    let k : IsDiffPairOf c.args.store.now c.args.f c.args.g c.normal-pair.result = c.normal-pair.ensures c.args.store.now c.levels.ensures.sound c.requires.first_in_store c.requires.second_in_store in
    let l = level_here c.args.store.now c.levels.ensures.sound c.normal-pair.result.first c.normal-pair.result.second c.top.result c.top-else-same-2.result c.min-level.result k.first k.second
    (λ e. let x : c.same.result ≡ true = c.same.ensures.references.1 e in let y : c.same.result ≡ false = c.if-same.false in cc)
    (λ e. let x : c.same-else-same.result ≡ true = c.same-else-same.ensures.references.1 (e ∙ sym c.negate.ensures.value) in let y : c.same-else-same.result ≡ false = c.if-same-2.false in cc)
    c.top.ensures c.top-else-same-2.ensures c.min-level.ensures in
    let within = l.0 in
    let full = c.requires.order.each_level in
    omega arith

pub place_of-requires : goal.place_of-requires
place_of-requires t c =
    let s : Nodes = c.args.store.now in
    let p : DiffPair = c.normal-pair.result in
    let k : IsDiffPairOf s c.args.f c.args.g p = c.normal-pair.ensures s c.levels.ensures.sound c.requires.first_in_store c.requires.second_in_store in
    let l = level_here s c.levels.ensures.sound p.first p.second c.top.result c.top-else-same-2.result c.min-level.result k.first k.second
    (λ e. let x : c.same.result ≡ true = c.same.ensures.references.1 e in let y : c.same.result ≡ false = c.if-same.false in cc)
    (λ e. let x : c.same-else-same.result ≡ true = c.same-else-same.ensures.references.1 (e ∙ sym c.negate.ensures.value) in let y : c.same-else-same.result ≡ false = c.if-same-2.false in cc)
    c.top.ensures c.top-else-same-2.ensures c.min-level.ensures in
    let x = below s c.levels.ensures.sound p.first c.min-level.result false c.cofactors.result.0 k.first l.0 l.1 c.cofactors.ensures.low in
    let y = below s c.levels.ensures.sound p.second c.min-level.result false c.cofactors-else-same-2.result.0 k.second l.0 l.2 c.cofactors-else-same-2.ensures.low in
    let at_first = c.top.ensures in
    let at_second = c.top-else-same-2.ensures in
    let at = c.min-level.ensures in
    let fewer = falls s c.args.f c.args.g p c.min-level.result c.cofactors.result.0 c.cofactors-else-same-2.result.0 k l.0 l.1 l.2 (omega arith) x.1 y.1 in
    let d = c.decreases in
    (omega arith, (x.0, (y.0, (c.requires.order, c.requires.table))))

pub place_of-requires-else-same-2 : goal.place_of-requires-else-same-2
place_of-requires-else-same-2 t c =
    let s : Nodes = c.args.store.now in
    let p : DiffPair = c.normal-pair.result in
    let k : IsDiffPairOf s c.args.f c.args.g p = c.normal-pair.ensures s c.levels.ensures.sound c.requires.first_in_store c.requires.second_in_store in
    let l = level_here s c.levels.ensures.sound p.first p.second c.top.result c.top-else-same-2.result c.min-level.result k.first k.second
    (λ e. let x : c.same.result ≡ true = c.same.ensures.references.1 e in let y : c.same.result ≡ false = c.if-same.false in cc)
    (λ e. let x : c.same-else-same.result ≡ true = c.same-else-same.ensures.references.1 (e ∙ sym c.negate.ensures.value) in let y : c.same-else-same.result ≡ false = c.if-same-2.false in cc)
    c.top.ensures c.top-else-same-2.ensures c.min-level.ensures in
    let x = below s c.levels.ensures.sound p.first c.min-level.result true c.cofactors.result.1 k.first l.0 l.1 c.cofactors.ensures.high in
    let y = below s c.levels.ensures.sound p.second c.min-level.result true c.cofactors-else-same-2.result.1 k.second l.0 l.2 c.cofactors-else-same-2.ensures.high in
    let at_first = c.top.ensures in
    let at_second = c.top-else-same-2.ensures in
    let at = c.min-level.ensures in
    let fewer = falls s c.args.f c.args.g p c.min-level.result c.cofactors.result.1 c.cofactors-else-same-2.result.1 k l.0 l.1 l.2 (omega arith) x.1 y.1 in
    let d = c.decreases in
    (omega arith, (x.0, (y.0, (c.requires.order, c.in_ok-place_of.ensures.table))))

pair_is : (t : ℕ) (c : goal.After-add_line t) → IsDiffPairOf c.args.store.now c.args.f c.args.g c.normal-pair.result
pair_is t c = c.normal-pair.ensures c.args.store.now c.levels.ensures.sound c.requires.first_in_store c.requires.second_in_store

ready : (t : ℕ) (c : goal.After-add_line t)
    → IsReady c.args.store.now c.args.order.now (differs c.args.store.now c.args.order.now c.normal-pair.result.first c.normal-pair.result.second)
    c.args.table.now c.if-same.table c.if-same.line
ready t c =
    let s : Nodes = c.args.store.now in
    let order : List ℕ = c.args.order.now in
    let p : DiffPair = c.normal-pair.result in
    let k : IsDiffPairOf s c.args.f c.args.g p = pair_is t c in
    let h : List Bool → Bool = differs s order p.first p.second in
    elim c.if-same.branch [
      | then-same w ↦
          ready_constant s order h c.args.table.now c.if-same.table c.if-same.line false c.requires.table
          (differs_same s order p.first p.second (c.same.ensures.references.0 w.if-same.true)) w.table-is w.line-is
      | else-same+then-same-2 w ↦
          ready_constant s order h c.args.table.now c.if-same.table c.if-same.line true c.requires.table
          (differs_opposite s order p.first p.second (w.same-else-same.ensures.references.0 w.if-same-2.true ∙ w.negate.ensures.value)) w.table-is w.line-is
      | else-same+else-same-2+in_ok-place_of+in_ok-place_of-2 w ↦
          let l = level_here s c.levels.ensures.sound p.first p.second w.top.result w.top-else-same-2.result w.min-level.result k.first k.second
          (λ e. let x : c.same.result ≡ true = c.same.ensures.references.1 e in let y : c.same.result ≡ false = w.if-same.false in cc)
          (λ e. let x : w.same-else-same.result ≡ true = w.same-else-same.ensures.references.1 (e ∙ sym w.negate.ensures.value) in let y : w.same-else-same.result ≡ false = w.if-same-2.false in cc)
          w.top.ensures w.top-else-same-2.ensures w.min-level.ensures in
          let f_low : Ref = w.cofactors.result.0 in
          let f_high : Ref = w.cofactors.result.1 in
          let g_low : Ref = w.cofactors-else-same-2.result.0 in
          let g_high : Ref = w.cofactors-else-same-2.result.1 in
          ready_choice s order h (differs s order f_low g_low) (differs s order f_high g_high)
          c.args.table.now w.place_of.new.table w.place_of-else-same-2.new.table c.if-same.table c.if-same.line (get_or order w.min-level.result 0) w.in_ok-place_of.field-0 w.in_ok-place_of-2.field-0
          (choice_of s c.levels.ensures.sound order c.requires.order w.min-level.result p.first p.second f_low f_high g_low g_high k.first k.second l.0 l.1 l.2
          w.cofactors.ensures.low w.cofactors.ensures.high w.cofactors-else-same-2.ensures.low w.cofactors-else-same-2.ensures.high)
          w.in_ok-place_of.ensures.keeps w.in_ok-place_of.ensures.place
          w.in_ok-place_of-2.ensures.table w.in_ok-place_of-2.ensures.keeps w.in_ok-place_of-2.ensures.place
          w.table-is w.line-is
    ]

all : (t : ℕ) (c : goal.After-add_line t)
    → IfOk c.add_line.result (IsAdded c.args.store.now c.args.order.now (differs c.args.store.now c.args.order.now c.normal-pair.result.first c.normal-pair.result.second)
    c.args.table.now c.add_line.new.table)
all t c =
    placed c.args.store.now c.args.order.now c.args.table.now c.if-same.table c.add_line.new.table c.normal-pair.result c.if-same.line c.add_line.result
    (ready t c) c.add_line.ensures.place c.add_line.ensures.lines c.add_line.ensures.places

-- what is added at the end, by one of its facts
kept : (t : ℕ) (c : goal.After-add_line t) (Q : ℕ → Type 0)
    → ((p : ℕ) → IsAdded c.args.store.now c.args.order.now (differs c.args.store.now c.args.order.now c.normal-pair.result.first c.normal-pair.result.second)
    c.args.table.now c.add_line.new.table p → Q p)
    → IfOk c.add_line.result Q
kept t c Q to =
    IfOk-weaker c.add_line.result
    (IsAdded c.args.store.now c.args.order.now (differs c.args.store.now c.args.order.now c.normal-pair.result.first c.normal-pair.result.second)
    c.args.table.now c.add_line.new.table)
    Q to (all t c)

pub returns-in-Some-clause-place : goal.returns-in-Some-clause-place
returns-in-Some-clause-place t c =
    let s : Nodes = c.args.store.now in
    let p : DiffPair = c.normal-pair.result in
    let k : IsDiffPairOf s c.args.f c.args.g p = c.normal-pair.ensures s c.levels.ensures.sound c.requires.first_in_store c.requires.second_in_store in
    LineDenotes-agree s.levels c.args.table.now.lines.items c.in-Some.place.now (differs s c.args.order.now p.first p.second) (differs s c.args.order.now c.args.f c.args.g)
    (differs_pair s c.args.order.now c.args.f c.args.g p k)
    (c.requires.table.found p c.in-Some.place.now (sym c.in-Some.ensures.value))

pub returns-clause-table : goal.returns-clause-table
returns-clause-table t c = kept t c _ (λ p k. k.table)

pub returns-clause-keeps : goal.returns-clause-keeps
returns-clause-keeps t c = kept t c _ (λ p k. k.keeps)

pub returns-clause-place : goal.returns-clause-place
returns-clause-place t c =
    kept t c _
    (λ q k. LineDenotes-agree c.args.store.now.levels c.add_line.new.table.lines.items q
    (differs c.args.store.now c.args.order.now c.normal-pair.result.first c.normal-pair.result.second) (differs c.args.store.now c.args.order.now c.args.f c.args.g)
    (differs_pair c.args.store.now c.args.order.now c.args.f c.args.g c.normal-pair.result (pair_is t c)) k.place)
