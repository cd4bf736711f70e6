use Rattle.std.proofs.Common.{◌≡◌, ℕ, ◌+◌, ◌-◌, length, sym, subst, arith}
use Rattle.reduce_up.specs.Reducing.{IsRow, IsRowReduced, IsRowWithin}
use Rattle.req_table.specs.Tables.{row_at}
use Rattle.reduce_up.specs.Levels.{AreReducedFrom, IsWithinFrom}
use Rattle.reduce_up.proofs.Levelling.{level_ready, level_adds, level_next, all_reduced}
use Rattle.wave_doors.proofs.levels.reduce.Goals as goal

pub reduce_level-requires-clause-ready : goal.reduce_level-requires-clause-ready
reduce_level-requires-clause-ready g c κs within =
    let v : ℕ = c.loop-level.level - 1 in
    let e : c.loop-level.level ≡ v + 1 = omega arith in
    let d : AreReducedFrom c.args.store.now c.args.records.now (v + 1) c.loop-level.store c.loop-level.results = subst (λ z. AreReducedFrom c.args.store.now c.args.records.now z c.loop-level.store c.loop-level.results) e c.loop-level.invariant.reduced in
    record {
      held = d.held;
      answers = d.answers;
      row = subst (IsRow c.loop-level.store c.loop-level.results v) (sym c.level.ensures)
          (level_ready c.args.store.now c.args.records.now v c.loop-level.store c.loop-level.results c.levels-level.ensures.sound c.requires.records (omega arith) d);
    }

pub loop-level-preserved : goal.loop-level-preserved
loop-level-preserved g c =
    let v : ℕ = c.loop-level.level - 1 in
    let e : c.loop-level.level ≡ v + 1 = omega arith in
    let d : AreReducedFrom c.args.store.now c.args.records.now (v + 1) c.loop-level.store c.loop-level.results = subst (λ z. AreReducedFrom c.args.store.now c.args.records.now z c.loop-level.store c.loop-level.results) e c.loop-level.invariant.reduced in
    let so : IsRowReduced c.loop-level.store c.loop-level.results v (row_at c.args.records.now v) (length (row_at c.args.records.now v)) c.reduce_level.new.store c.reduce_level.new.results =
    subst (λ z. IsRowReduced c.loop-level.store c.loop-level.results v z (length z) c.reduce_level.new.store c.reduce_level.new.results) c.level.ensures c.in_ok-reduce_level.ensures.row.whole in
    record {
      bound = omega arith;
      reduced = level_next c.args.store.now c.args.records.now v c.loop-level.store c.loop-level.results c.reduce_level.new.store c.reduce_level.new.results c.levels-level.ensures.sound c.requires.records (omega arith) d so (subst (λ z. IsRowWithin c.loop-level.store z c.reduce_level.new.store) c.level.ensures c.in_ok-reduce_level.ensures.within);
    }

pub returns-in_err-reduce_level-clause-adds : goal.returns-in_err-reduce_level-clause-adds
returns-in_err-reduce_level-clause-adds g c =
    let v : ℕ = c.loop-level.level - 1 in
    let so : IsRowReduced c.loop-level.store c.loop-level.results v (row_at c.args.records.now v) 0 c.reduce_level.new.store c.reduce_level.new.results =
    subst (λ z. IsRowReduced c.loop-level.store c.loop-level.results v z 0 c.reduce_level.new.store c.reduce_level.new.results) c.level.ensures c.reduce_level.ensures.row.left in
    level_adds c.args.store.now c.args.records.now v c.loop-level.store c.reduce_level.new.store c.levels-level.ensures.sound c.loop-level.invariant.reduced.held c.requires.records (omega arith) c.loop-level.invariant.reduced.adds so.adds

pub returns-clause-answers : goal.returns-clause-answers
returns-clause-answers g c =
    let e : c.loop-level.level ≡ 0 = omega arith in
    all_reduced c.args.store.now c.args.records.now c.loop-level.store c.loop-level.results c.requires.records
    (subst (λ z. AreReducedFrom c.args.store.now c.args.records.now z c.loop-level.store c.loop-level.results) e c.loop-level.invariant.reduced)

pub returns-clause-within : goal.returns-clause-within
returns-clause-within g c =
    let e : c.loop-level.level ≡ 0 = omega arith in
    subst (λ z. IsWithinFrom c.args.store.now c.args.records.now z c.loop-level.store) e c.loop-level.invariant.reduced.within
