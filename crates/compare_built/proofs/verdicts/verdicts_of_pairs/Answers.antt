use Rattle.std.proofs.Common.{◌≡◌, ◌<◌, [], length, sym, subst}
use Rattle.net_bench.specs.Circuit.{circuit}
use Rattle.compare_built.specs.Comparing.{HaveVerdicts, as_reported, details_of}
use Rattle.compare_built.proofs.Adding.{start, next_shown, all_added, all_named}
use Rattle.compare_built.proofs.verdicts.verdicts_of_pairs.Goals as goal

pub loop-i-init : goal.loop-i-init
loop-i-init c = λ h.
    let of = c.args.of.now in
    let none : c.new-verdicts.result.items ≡ [] = cc in
    subst (λ vs. HaveVerdicts (details_of of.verdict_order) h.shown.holds (circuit of.first.now) (circuit of.second.now) of.pairing.now [] vs) (sym none) (start (details_of of.verdict_order) h.shown.holds (circuit of.first.now) (circuit of.second.now) of.pairing.now)

pub diagrams_of-diagrams-requires : goal.diagrams_of-diagrams-requires
diagrams_of-diagrams-requires c = record {
  place = c.loop-i-test.true;
  named = all_named (circuit c.args.of.now.first.now) (circuit c.args.of.now.second.now) c.args.of.now.pairing.now c.args.of.now.subjects.now c.requires.compared.all c.requires.compared.signals;
  two_for_each = c.requires.compared.shown.each;
}

pub loop-i-preserved : goal.loop-i-preserved
loop-i-preserved c = λ h.
    let of = c.args.of.now in
    let lt : c.loop-i.i < length of.subjects.now = c.loop-i-test.true in
    let d = c.diagrams_of-diagrams in
    next_shown (details_of of.verdict_order) h.shown.holds (circuit of.first.now) (circuit of.second.now) of.pairing.now (as_reported of.verdict_order) of.store.now of.subjects.now c.loop-i.i d.result.role d.result.name.now d.result.first d.result.second _ _ c.in_ok-verdict.verdict _ _
    h.levels lt d.ensures.role d.ensures.name d.ensures.first d.ensures.second (h.shown.first c.loop-i.i lt) (h.shown.second c.loop-i.i lt) (c.loop-i.invariant h) c.in_ok-verdict.ensures c.in_ok-push.ensures.items

pub returns : goal.returns
returns c =
    let of = c.args.of.now in (
      c.requires.compared.shown.holds,
      c.requires.compared.shown.condition,
      all_added (details_of of.verdict_order) c.requires.compared.shown.holds (circuit of.first.now) (circuit of.second.now) of.pairing.now of.subjects.now c.loop-i.i _ c.requires.compared.all c.loop-i-test.false (c.loop-i.invariant c.requires.compared),
    )
