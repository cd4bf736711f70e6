use Rattle.std.proofs.Common.{◌∙◌}
use Rattle.std.specs.Prelude.{Vec, option_map}
use Rattle.std.specs.declared.alloc.Global.{Global}
use Rattle.net_rename.specs.declared.pair.NamePair.{NamePair}
use Rattle.std.proofs.lemmas.Result.{err_from_is_err_and}
use Rattle.check_tool.specs.Opening.{HasFailedAt}
use Rattle.check_tool.proofs.OptionsToSettings.{picks_by}
use Rattle.check_tool.proofs.Preparing.{order_unhad, pairs_unhad, two_opened}
use Rattle.check_tool.proofs.files.prepare.Goals as goal

pub returns-in_err-pairs-clause-fault : goal.returns-in_err-pairs-clause-fault
returns-in_err-pairs-clause-fault g c =
    let unhad = pairs_unhad (g.F.Folder.bytes_at c.args.folder.now) (g.F.Folder.bytes_at c.open_given.new.folder) (HasFailedAt g.F.File.Source.origin g.F.File.Source.has_failed) c.args.options.now c.in_err-pairs.field-0.0
    (g.F.Folder.tries c.args.folder.now) (g.F.Folder.tries c.open_given.new.folder) (g.F.Folder.tries c.pairs_of.new.folder) c.in_ok-given.ensures.files_unchanged c.in_ok-given.ensures.opened c.in_err-pairs.ensures.fault in
    let p = err_from_is_err_and c.from_residual-in_err-pairs.result c.from_residual-in_err-pairs.ensures.1 in
    rw (p.1, p.2) unhad

pub returns-in_err-order-clause-fault : goal.returns-in_err-order-clause-fault
returns-in_err-order-clause-fault g c =
    let o = c.args.options.now in
    let tries = g.F.Folder.tries in
    let unhad = order_unhad (g.F.Folder.bytes_at c.args.folder.now) (g.F.Folder.bytes_at c.pairs_of.new.folder) (g.F.Folder.bytes_at c.open_given.new.folder) (HasFailedAt g.F.File.Source.origin g.F.File.Source.has_failed) o c.in_err-order.field-0.0
    (option_map (λ (v : Vec NamePair Global). v.items) c.in_ok-pairs.pairs) (tries c.args.folder.now) (tries c.pairs_of.new.folder) (tries c.order_of.new.folder)
    (c.in_ok-pairs.ensures.files_unchanged ∙ c.in_ok-given.ensures.files_unchanged) c.in_ok-given.ensures.files_unchanged c.in_ok-pairs.ensures.pairs
    (two_opened o (tries c.args.folder.now) (tries c.open_given.new.folder) (tries c.pairs_of.new.folder) c.in_ok-given.ensures.opened c.in_ok-pairs.ensures.opened) c.in_err-order.ensures.fault in
    let p = err_from_is_err_and c.from_residual-in_err-order.result c.from_residual-in_err-order.ensures.1 in
    rw (p.1, p.2) unhad

pub returns-clause-picks : goal.returns-clause-picks
returns-clause-picks g c = picks_by (g.F.Folder.bytes_at c.pairs_of.new.folder) c.args.options.now.order c.in_ok-order.order c.in_ok-order.ensures.order
