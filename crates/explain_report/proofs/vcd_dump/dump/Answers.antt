use Rattle.std.proofs.Common.{◌∙◌, ap, sym, subst}
use Rattle.net_order.specs.Order.{NamingModel, condition}
use Rattle.compare_built.specs.Findings.{found_of}
use Rattle.order_search.specs.Trials.{IsNamingIn}
use Rattle.explain_report.specs.Dumping.{first_difference_at}
use Rattle.explain_report.proofs.Differences.{none_differs, one_differs, unwanted}
use Rattle.explain_report.proofs.vcd_dump.dump.Goals as goal

pub returns-then-not-task : goal.returns-then-not-task
returns-then-not-task g c = record {
  dump = λ input ga tried named. unwanted input c.args.task.now.settings.now tried (found_of c.args.verdicts.now) c.if-not-task.true;
}

pub returns-in_default : goal.returns-in_default
returns-in_default g c = record {
  dump = λ input ga tried named.
      none_differs input c.args.task.now.settings.now tried (found_of c.args.verdicts.now) c.if-not-task.false (ap first_difference_at (sym c.as_slice.ensures) ∙ sym c.in_default.ensures);
}

pub returns : goal.returns
returns g c = record {
  dump = λ input ga tried named.
      let task = c.args.task.now in
      one_differs input task.settings.now tried (found_of c.args.verdicts.now) c.in-Some.at.now c.in_ok-text.text.items c.if-not-task.false (ap first_difference_at (sym c.as_slice.ensures) ∙ sym c.in-Some.ensures)
      (record {
        a = task.first.now;
        b = task.second.now;
        c = condition task.given;
        p = c.naming.result.now;
        named = (named.0, named.1, record { netlists = ga; naming = subst (IsNamingIn task named.0) (sym c.naming.ensures) named.2 });
        variables = ap (λ (p : NamingModel). p.names) (sym c.naming.ensures);
        vcd = c.in_ok-text.ensures;
      });
}
