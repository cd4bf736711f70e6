use Rattle.std.proofs.Common.{◌≡◌, ◌∙◌, ℕ, List, Option, Contains, length, ap, refl, subst, sym, arith}
use Rattle.std.specs.Option.{option_to_list}
use Rattle.std.proofs.lemmas.List.{length-map}
use Rattle.std.proofs.lemmas.List.Elements.{All-contains, Contains-append_right}
use Rattle.std.proofs.lemmas.Result.{IfOk-weaker}
use Rattle.dd_store.specs.Nodes.{Nodes}
use Rattle.req_table.specs.declared.Key.{Key}
use Rattle.lane_queue.specs.PortView.{LanesView, PortView}
use Rattle.expand_work.specs.declared.part.Part.{Part}
use Rattle.expand_work.specs.OwnerRows.{row_by_owner, recorded, records_of}
use Rattle.expand_work.specs.WorkerResult.{IsFresh, IsWorked}
use Rattle.wave_tests.proofs.workers.work_single.Goals as goal

-- a worker at its end has a row for each level of the store
rows_by_level : (l : LanesView) (S : Nodes) (roots : List Key) (s : ℕ) (p : Part) → IsWorked l S roots s p → length p.space.rows ≡ S.levels
rows_by_level l S roots s p w =
    ap (λ rows. length rows) w.by_owner ∙ length-map (recorded S p.space.tables) (row_by_owner (length l.lanes))
    ∙ length-map p.space.tables (records_of S) ∙ w.levels

pub work-requires-clause-fresh : goal.work-requires-clause-fresh
work-requires-clause-fresh g c κs within =
    All-contains IsFresh c.in_ok-lanes.ports.items c.expect-port.result c.in_ok-lanes.ensures.fresh
    (subst (λ (z : List PortView). Contains z c.expect-port.result) (sym c.pop.ensures.items)
    (Contains-append_right c.pop.new.self.items (option_to_list c.pop.result) c.expect-port.result
    (subst (λ (o : Option PortView). Contains (option_to_list o) c.expect-port.result) (sym c.expect-port.ensures) (0, omega arith, refl))))

pub returns-clause-rows : goal.returns-clause-rows
returns-clause-rows g c =
    IfOk-weaker c.work.result _ (λ (p : Part). length p.space.rows ≡ c.args.store.now.levels) (rows_by_level _ _ _ _) c.work.ensures
