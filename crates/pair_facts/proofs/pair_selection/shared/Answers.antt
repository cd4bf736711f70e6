use Rattle.std.proofs.Common.{◌∙◌, List, ℕ, ap, length, subst, sym}
use Rattle.std.specs.Prelude.{zip}
use Rattle.net_bench.specs.Circuit.{circuit}
use Rattle.compare_built.specs.declared.subject.Subject.{Subject}
use Rattle.compare_built.specs.PairSelection.{AreShares, of_share}
use Rattle.pair_facts.proofs.SerpentineOrder.{shares_long}
use Rattle.compare_built.proofs.Picks.{picked_shared}
use Rattle.pair_facts.proofs.pair_selection.shared.Goals as goal

pub pairs_in-requires : goal.pairs_in-requires
pairs_in-requires g c =
    ap length c.as_slice-2.ensures.value ∙
    shares_long (circuit c.args.task.now.first.now) (circuit c.args.task.now.second.now) c.as_slice.result.now c.args.share.of c.in_ok-shares.shares.items c.in_ok-shares.ensures ∙
    ap length (c.as_slice.ensures.value ∙ sym c.as_slice-3.ensures.value)

pub returns : goal.returns
returns g c =
    let a = circuit c.args.task.now.first.now in
    let b = circuit c.args.task.now.second.now in
    let share = c.args.share in
    picked_shared a b c.args.naming.now c.args.pairs.items c.in_ok-subjects.subjects.items c.in_ok-unmatched_lines.unmatched_lines.items c.requires.all share c.in_ok-shares.shares.items
    (subst (λ (ss : List Subject). AreShares a b ss share.of c.in_ok-shares.shares.items) c.as_slice.ensures.value c.in_ok-shares.ensures)
    (c.in_ok-subjects.ensures ∙ ap (λ (ss : List Subject). of_share share.number (zip ss c.as_slice-2.result.now)) c.as_slice-3.ensures.value ∙
    ap (λ (ks : List ℕ). of_share share.number (zip c.args.pairs.items ks)) c.as_slice-2.ensures.value)
    c.in_ok-unmatched_lines.ensures
