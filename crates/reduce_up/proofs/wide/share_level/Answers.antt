use Rattle.std.proofs.Common.{◌≡◌, ℕ, ◌<◌, ◌∙◌, length, sym}
use Rattle.std.specs.List.{AllZip}
use Rattle.dd_store.specs.Graph.{Pair}
use Rattle.dd_store.specs.Levels.{all_at, refs_at}
use Rattle.dd_store.specs.Nodes.{IsThere}
use Rattle.reduce_up.specs.Division.{AreInPartOrder}
use Rattle.reduce_up.specs.Steps.{AreRead}
use Rattle.reduce_up.proofs.Noting.{on_ok}
use Rattle.reduce_up.proofs.Joined.{all_sixteen, may_pick, all_made}
use Rattle.reduce_up.proofs.Made.{may_read, ready_all, adds_all, refused_all, whole_all}
use Rattle.reduce_up.proofs.Raising.{level_given_up, level_whole}
use Rattle.reduce_up.proofs.wide.share_level.Given.{Over}
use Rattle.reduce_up.proofs.wide.share_level.Goals as goal
use Rattle.reduce_up.proofs.wide.share_level.Goals.{After-as_slice, After-as_slice-lists}

-- what was read of the level, in slices
read : (g : Over) (c : After-as_slice-lists g) → AreRead c.args.level.now (length c.args.level.now.parts.now) c.as_slice-lists.result.now c.in-Ok.read.origins.items
read g c = rw c.as_slice-lists.ensures.value c.in-Ok.ensures

-- the references of all pairs, in slices
module _ (g : Over) (c : After-as_slice g) where
  whole : AreRead c.args.level.now (length c.args.level.now.parts.now) c.as_slice-lists.result.now c.as_slice-origins.result.now
  whole = rw (c.as_slice-lists.ensures.value, c.as_slice-origins.ensures.value) c.in-Ok.ensures

  sixteen : length c.as_slice.result.now ≡ 16
  sixteen = rw c.as_slice.ensures.value c.in-Ok-make_all.ensures.sixteen

  there : (s : ℕ) → s < 16 → AllZip (λ (q : Pair) r. IsThere c.make_all.new.self c.args.level.now.number q.0 q.1 r) (all_at c.as_slice-lists.result.now s) (refs_at c.as_slice.result.now s)
  there s l = rw c.as_slice.ensures.value (c.in-Ok-make_all.ensures.answers s l)

pub read_level-requires-after_bounds : goal.read_level-requires-after_bounds
read_level-requires-after_bounds g c κs within = may_read _ _ c.args.level.now c.requires.ready c.requires.levels

pub make_all-requires-clause-lists : goal.make_all-requires-clause-lists
make_all-requires-clause-lists g c κs within = all_sixteen _ _ _ (read g (goal.at.make_all-requires-clause-lists g c).After-as_slice-lists)

pub make_all-requires-clause-ready : goal.make_all-requires-clause-ready
make_all-requires-clause-ready g c κs within = ready_all _ _ c.args.level.now c.requires.ready _ _ (read g (goal.at.make_all-requires-clause-ready g c).After-as_slice-lists)

pub returns-in-Err-clause-level : goal.returns-in-Err-clause-level
returns-in-Err-clause-level g c = λ T R.
    let w = (goal.at.returns-in-Err-clause-level g c).After-as_slice-lists in
    rw c.from.ensures
    (refused_all _ _ c.args.level.now R _ _ (read g w) c.make_all.new.self c.requires.held c.make_all.ensures.sound c.make_all.ensures.grows _ c.in-Err.fault c.in-Err.ensures.fault)

pub pick_level-requires-clause-may : goal.pick_level-requires-clause-may
pick_level-requires-clause-may g c κs within =
    let w = (goal.at.pick_level-requires-clause-may g c).After-as_slice in
    may_pick _ _ _ (whole g w) c.make_all.new.self c.as_slice.result.now (sixteen g w) (there g w)

pub returns-then-is_err-clause-level : goal.returns-then-is_err-clause-level
returns-then-is_err-clause-level g c = λ T R.
    let w = (goal.at.returns-then-is_err-clause-level g c).After-as_slice in
    level_given_up _ _ _ _ _ (adds_all _ _ c.args.level.now R _ _ (whole g w) c.make_all.new.self c.requires.held c.make_all.ensures.sound c.make_all.ensures.grows)

pub returns-clause-level : goal.returns-clause-level
returns-clause-level g c = λ T R.
    let w = (goal.at.returns-clause-level g c).After-as_slice in
    let picked : AreInPartOrder c.as_slice-lists.result.now c.as_slice-origins.result.now c.as_slice.result.now c.pick_level.new.own = on_ok c.pick_level.result (sym c.is_err.ensures.value ∙ c.if-is_err.false) c.pick_level.ensures in
    level_whole _ _ _ _ _
    (whole_all _ _ c.args.level.now R _ _ (whole g w) c.make_all.new.self c.requires.held c.make_all.ensures.sound c.make_all.ensures.grows c.pick_level.new.own
    (all_made _ _ _ (whole g w) c.make_all.new.self c.as_slice.result.now (sixteen g w) (there g w) c.pick_level.new.own picked))
