use Rattle.std.proofs.Common.{◌∙◌, ap, inr, refl, sym}
use Rattle.std.specs.Prelude.{◌||◌, IsTrue}
use Rattle.net_bench.specs.Circuit.{is_name_in}
use Rattle.net_bench.proofs.Numbers.{or_left, or_right}
use Rattle.net_rename.proofs.Columns.{column_more, none_twice, once_more, repeated_at}
use Rattle.net_rename.proofs.tables.tables_of.Goals as goal
use Rattle.net_rename.proofs.tables.tables_of.Goals.{then-has-via-then-has, then-has-via-else-has+then-has-2}

pub loop-pair-init : goal.loop-pair-init
loop-pair-init c = record {
  firsts = c.new-firsts.ensures;
  seconds = c.new-seconds.ensures;
  firsts_once = none_twice c.new-firsts.result c.new-firsts.ensures;
  seconds_once = none_twice c.new-seconds.result c.new-seconds.ensures;
}

pub returns-then-has-clause-refused : goal.returns-then-has-clause-refused
returns-then-has-clause-refused c =
    let p = c.pair-item.result in
    let first = is_name_in c.loop-pair.firsts c.pair-item.result.first.items in
    let second = is_name_in c.loop-pair.seconds c.pair-item.result.second.items in
    let there : IsTrue (is_name_in c.loop-pair.firsts c.pair-item.result.first.items || is_name_in c.loop-pair.seconds c.pair-item.result.second.items) =
    elim c.then-has.branch [
      | then-has-via-then-has w ↦ or_left first second (sym (c.has.ensures ∙ ap (is_name_in c.loop-pair.firsts) c.as_slice-first.ensures.value) ∙ w.if-has.true)
      | then-has-via-else-has+then-has-2 w ↦ or_right first second (sym (w.has-else-has.ensures ∙ ap (is_name_in c.loop-pair.seconds) c.as_slice-second.ensures.value) ∙ w.if-has-2.true)
    ] in
    inr (
      p.line,
      refl,
      repeated_at c.args.pairs.now c.loop-pair.pair-index p c.loop-pair-test.true c.pair-item.is c.loop-pair.firsts c.loop-pair.seconds c.loop-pair.invariant.firsts c.loop-pair.invariant.seconds
          c.loop-pair.invariant.firsts_once c.loop-pair.invariant.seconds_once there,
    )

pub loop-pair-preserved : goal.loop-pair-preserved
loop-pair-preserved c =
    let new_first = sym c.has.ensures ∙ c.if-has.false in
    let new_second = sym c.has-else-has.ensures ∙ c.if-has-2.false in
    record {
      firsts = column_more c.args.pairs.now c.loop-pair.pair-index c.pair-item.result c.loop-pair-test.true c.pair-item.is (λ p. p.first.items) c.as_slice-first.result.now c.loop-pair.firsts c.intern.new.self
          c.as_slice-first.ensures.value c.loop-pair.invariant.firsts new_first c.in_ok-intern.ensures.added;
      seconds = column_more c.args.pairs.now c.loop-pair.pair-index c.pair-item.result c.loop-pair-test.true c.pair-item.is (λ p. p.second.items) c.as_slice-second.result.now c.loop-pair.seconds c.intern-in-loop-pair.new.self
          c.as_slice-second.ensures.value c.loop-pair.invariant.seconds new_second c.in_ok-intern-2.ensures.added;
      firsts_once = once_more c.loop-pair.firsts c.intern.new.self c.as_slice-first.result.now c.loop-pair.invariant.firsts_once new_first c.in_ok-intern.ensures.added;
      seconds_once = once_more c.loop-pair.seconds c.intern-in-loop-pair.new.self c.as_slice-second.result.now c.loop-pair.invariant.seconds_once new_second c.in_ok-intern-2.ensures.added;
    }
