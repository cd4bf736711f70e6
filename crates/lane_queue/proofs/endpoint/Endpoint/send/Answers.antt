use Rattle.std.proofs.Common.{◌≡◌, true≢false, sym, subst, ap, ◌∙◌, arith}
use Rattle.lane_queue.specs.declared.rule.View.{View}
use Rattle.lane_queue.specs.Endpoint.{pass_state_view, endpoint_view, IsEndpoint}
use Rattle.req_table.specs.Lanes.{ends}
use Rattle.lane_queue.specs.Rule.{own_sent}
use Rattle.lane_queue.proofs.Counts.{ends_in, counted-push}
use Rattle.lane_queue.proofs.endpoint.Endpoint.send.Goals as goal
use Rattle.lane_queue.proofs.endpoint.Endpoint.send.Goals.{in-End, in_default, then-is_end, else-is_end}

pub returns-clause-endpoint : goal.returns-clause-endpoint
returns-clause-endpoint g c =
    let e : endpoint_view c.args.self.now ≡ c.in-Live.pass.me.view.client = ap pass_state_view c.in-Live.is in
    let counted = c.requires.endpoint.1 ∙ ap (λ (u : View). ends (own_sent u)) e in
    elim c.if-is_end.branch [
      | then-is_end w ↦
          let one : ends_in c.args.load ≡ 1 = elim c.match-matches.branch [ in-End u ↦ ap ends_in u.in-End.is | in_default u ↦ absurd (true≢false (sym w.if-is_end.true ∙ u.matches-is)) ] in
          subst IsEndpoint (sym w.self-is) (counted-push c.in-Live.pass.me.view.client _ c.args.load _ _ c.in_ok-send.ensures.sent counted (omega (arith, one)))
      | else-is_end w ↦
          let none : ends_in c.args.load ≡ 0 = elim c.match-matches.branch [ in-End u ↦ absurd (true≢false (sym u.matches-is ∙ w.if-is_end.false)) | in_default u ↦ ap ends_in u.in_default.is ] in
          subst IsEndpoint (sym w.self-is) (counted-push c.in-Live.pass.me.view.client _ c.args.load _ _ c.in_ok-send.ensures.sent counted (omega (arith, none)))
    ]
