use Rattle.std.proofs.Common.{ℕ, ◌+◌, Bool, List, refl, sym, subst, take}
use Rattle.std.specs.List.{AllZip}
use Rattle.std.proofs.lemmas.List.{take_all}
use Rattle.net_merge.specs.SignalLiterals.{IsPairFinding}
use Rattle.net_merge.proofs.Zipping.{pair_found, zip_more}
use Rattle.net_merge.proofs.merged.pair_findings.Goals as goal

pub loop-i-preserved : goal.loop-i-preserved
loop-i-preserved c =
    let graph = c.args.graph.now in
    let firsts = c.args.firsts.now in
    let seconds = c.args.seconds.now in
    let pair = c.index-wanted-i.result in
    let here = pair_found graph graph firsts seconds pair c.literal_of-one.result c.literal_of-two.result c.find_pair-finding.result refl
    c.literal_of-one.ensures c.literal_of-two.ensures c.find_pair-finding.ensures.equal c.find_pair-finding.ensures.same in
    subst (λ (bs : List Bool). AllZip (IsPairFinding graph firsts seconds) (take (c.loop-i.i + 1) c.args.wanted.now) bs) (sym c.in_ok-push.ensures.items)
    (zip_more (IsPairFinding graph firsts seconds) c.args.wanted.now c.loop-i.found.items c.loop-i.i pair c.find_pair-finding.result c.loop-i-test.true
    c.index-wanted-i.is c.loop-i.invariant here)

pub returns : goal.returns
returns c =
    subst (λ (wanted : List (ℕ × ℕ)). AllZip (IsPairFinding c.args.graph.now c.args.firsts.now c.args.seconds.now) wanted c.loop-i.found.items)
    (take_all c.loop-i.i c.args.wanted.now c.loop-i-test.false) c.loop-i.invariant
