use Rattle.std.proofs.Common.{◌≡◌, ℕ, ◌<◌, List, [], length, set, ap, ◌∙◌, subst, arith}
use Rattle.std.proofs.lemmas.List.{get_or_default}
use Rattle.std.proofs.lemmas.Result.{IfOk-weaker}
use Rattle.req_table.specs.declared.Key.{Key}
use Rattle.expand_work.specs.Work.{at}
use Rattle.expand_work.specs.PlacesBySender.{Enters, EntersAt}
use Rattle.expand_work.proofs.tables.Tables.admit.Goals as goal

pub returns : goal.returns
returns c =
    let ts = c.self.inside.levels.items in
    let keys : List Key = c.admit.new.self in
    let fits : c.args.level < length ts = (let e = ap (λ (l : List (List Key)). length l) c.self.view_is in let r = c.requires in omega (arith, e, r)) in
    let read : c.index_mut.result.now ≡ at ts c.args.level = c.index_mut.ensures.value ∙ get_or_default ts c.args.level c.index_mut.result.now [] fits in
    let before : c.index_mut.result.now ≡ at c.args.self.now c.args.level = read ∙ ap (λ (t : List (List Key)). at t c.args.level) c.self.view_is in
    IfOk-weaker c.admit.result (λ (p : ℕ). Enters c.index_mut.result.now c.args.key p keys) (λ (p : ℕ). EntersAt c.args.self.now c.args.level c.args.key p (set ts c.args.level keys))
    (λ p e. (keys, subst (λ (k : List Key). Enters k c.args.key p keys) before e, ap (λ (t : List (List Key)). set t c.args.level keys) c.self.view_is)) c.admit.ensures
