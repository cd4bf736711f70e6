use Rattle.std.proofs.Common.{◌≡◌, ◌∙◌, sym, length}
use Rattle.net_patterns.proofs.Finding.{lesser_smaller}
use Rattle.net_patterns.proofs.small.try_window.Goals as goal

pub returns-clause-smaller : goal.returns-clause-smaller
returns-clause-smaller c = λ a b given p of difference.
    let each : length c.set_candidates.new.at ≡ length p.names = c.set_candidates.auto.at ∙ sym c.requires.each ∙ c.args.small.at.ok.0 ∙ difference.0.bits in
    lesser_smaller a b given p c.args.pair.now c.args.small c.in_ok-candidate.candidate c.lesser.result difference (c.in_ok-candidate.ensures.found a b given p of each) c.lesser.ensures.lesser
