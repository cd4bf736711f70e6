use Rattle.check_tool.proofs.compare.ready.Goals as goal

pub returns-clause-ready : goal.returns-clause-ready
returns-clause-ready g c = record {
  choice = c.in_ok-given.order;
  picked = c.in_ok-picked.picked;
  conditioned = c.in_ok-given.ensures.given;
  paired = c.in_ok-given.ensures.pairs;
  ordered = c.in_ok-given.ensures.order;
  picks = c.in_ok-picked.ensures;
  set = c.settings_of.ensures;
  opened_all = c.in_ok-given.ensures.opened;
}
