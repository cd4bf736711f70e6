use Rattle.std.proofs.Common.{◌≡◌, ◌<◌, ◌*◌, length, ℕ, ◌+◌, ◌-◌, List, sym, subst, ap, rules, arith}
use Rattle.std.specs.Vec.{vec_len}
use Rattle.dd_store.specs.declared.level.ShardState.{ShardState}
use Rattle.dd_store.specs.Graph.{Pair}
use Rattle.dd_store.specs.Nodes.{Nodes}
use Rattle.dd_store.specs.Adding.{AreReady}
use Rattle.std.proofs.Common.{◌∙◌, Option}
use Rattle.std.specs.List.{sum_by}
use Rattle.std.proofs.lemmas.List.{length-map}
use Rattle.dd_store.specs.declared.StoreFault.{StoreFault}
use Rattle.dd_store.specs.Levels.{pairs_of, all_at, regular_lists, IsFault}
use Rattle.dd_store.proofs.LevelGrown.{within_old, sixteen-left}
use Rattle.dd_store.proofs.Widening.{Widened, Noted, within, grows, sound, fewer, counted, small, taken, answers_of, fault_of_level}
use Rattle.dd_store.proofs.store.Store.make_level_parts.Goals.{After-make_level}
use Rattle.dd_store.proofs.store.Store.make_level_parts.Given.{Over}
use Rattle.dd_store.proofs.store.Store.make_level_parts.Goals as goal

-- once the threads have made the lists
module _ (g : Over) (c : After-make_level g) where
  -- the store before the call
  abbrev S : Nodes
  S = record { levels = c.self.inside.levels; limit = c.self.inside.limit; shards = pairs_of c.self.inside.shards.items }

  ready : AreReady S c.args.level (all_at c.args.parts.now)
  ready = subst (λ (z : Nodes). AreReady z c.args.level (all_at c.args.parts.now)) (sym c.self.view_is) c.requires.ready

  as_long : length c.deref_mut.result.now ≡ vec_len c.self.inside.shards
  as_long = search rules

  -- the level, as the threads left it
  abbrev level : Widened
  level = record {
    S = S;
    count = c.self.inside.count;
    v = c.args.level;
    lists = all_at c.args.parts.now;
    shards = c.self.inside.shards;
    xs = c.deref_mut.result.now;
    ys = c.make_level.new.shards;
    as_long = as_long;
    kept = c.self.invariant;
    ready = ready;
    left = record {
      sound = c.self.invariant.sound;
      level = ready.level;
      view = ap (λ z. pairs_of z) (sym c.deref_mut.ensures.value);
      as_many = c.make_level.auto.shards;
      added = λ s d lts. (c.make_level.ensures s d lts).0;
    };
  }

-- what they have noted
noted : (g : Over) (c : After-make_level g) (f : Option StoreFault) → IsFault c.make_level.new.shards f → Noted (level g c) f
noted g c f fault = record { noted = λ s d lts. (c.make_level.ensures s d lts).1; fault = fault }

pub level_count-before-requires-clause-within : goal.level_count-before-requires-clause-within
level_count-before-requires-clause-within g c =
    let S : Nodes = record { levels = c.self.inside.levels; limit = c.self.inside.limit; shards = pairs_of c.self.inside.shards.items } in
    let v : ℕ = c.args.level in
    let level : v < S.levels = rw (ap (λ (z : Nodes). z.levels) c.self.view_is) c.requires.ready.level in
    let view : S.shards ≡ pairs_of c.deref_mut.result.now = ap (λ z. pairs_of z) (sym c.deref_mut.ensures.value) in
    within_old S v (16 * v + 16 - 16 * v) c.deref_mut.result.now c.self.invariant.sound level view (omega arith)

pub level_count-after-requires-clause-within : goal.level_count-after-requires-clause-within
level_count-after-requires-clause-within g c = within (level g (goal.at.level_count-after-requires-clause-within g c).After-make_level)

sixteen : (g : Over) (c : After-make_level g) → length c.make_level.new.shards ≡ 16
sixteen g c = let w = level g c in sixteen-left w.S w.v (regular_lists w.lists) w.xs w.ys w.left

pub take_found-requires-clause-room : goal.take_found-requires-clause-room
take_found-requires-clause-room g c =
    let e = sixteen g (goal.at.take_found-requires-clause-room g c).After-make_level in let r = c.requires.room in omega arith

pub overflow_sub-self : goal.overflow_sub-self
overflow_sub-self g c = fewer (level g (goal.at.overflow_sub-self g c).After-make_level) c.level_count-before.result c.level_count-before.ensures

pub overflow_add-self : goal.overflow_add-self
overflow_add-self g c =
    let few = small (level g (goal.at.overflow_add-self g c).After-make_level) c.level_count-before.result c.level_count-after.result c.level_count-before.ensures c.level_count-after.ensures in
    omega arith

pub invariant_of-self : goal.invariant_of-self
invariant_of-self g c =
    let w = taken (level g (goal.at.invariant_of-self g c).After-make_level) c.take_found.new.shards c.take_found.auto.shards c.take_found.ensures.shards in
    let now = c.level_count-after.ensures ∙ sym (ap (λ z. sum_by (λ (ps : List Pair). length ps) z) c.take_found.ensures.shards) in
    record { sound = sound w; counted = counted w c.level_count-before.result c.level_count-after.result c.level_count-before.ensures now }

pub returns-clause-grows : goal.returns-clause-grows
returns-clause-grows g c =
    let w = taken (level g (goal.at.returns-clause-grows g c).After-make_level) c.take_found.new.shards c.take_found.auto.shards c.take_found.ensures.shards in
    rw (← c.self.view_is) (grows w)

pub returns-clause-sound : goal.returns-clause-sound
returns-clause-sound g c =
    sound (taken (level g (goal.at.returns-clause-sound g c).After-make_level) c.take_found.new.shards c.take_found.auto.shards c.take_found.ensures.shards)

pub returns-clause-sixteen : goal.returns-clause-sixteen
returns-clause-sixteen g c =
    let w = (goal.at.returns-clause-sixteen g c).After-make_level in
    ap (λ z. length z) c.take_found.ensures.found ∙ length-map c.make_level.new.shards (λ (z : ShardState). z.found) ∙ sixteen g w

pub returns-clause-answers : goal.returns-clause-answers
returns-clause-answers g c =
    let w = (goal.at.returns-clause-answers g c).After-make_level in
    answers_of (level g w) c.take_found.new.shards c.take_found.auto.shards c.take_found.ensures.shards c.take_found.new.refs.items c.level_fault-halted.result
    (noted g w c.level_fault-halted.result c.level_fault-halted.ensures.fault) c.take_found.ensures.found

pub returns-clause-fault : goal.returns-clause-fault
returns-clause-fault g c =
    let w = (goal.at.returns-clause-fault g c).After-make_level in
    fault_of_level (level g w) c.take_found.new.shards c.take_found.auto.shards c.take_found.ensures.shards c.level_fault-halted.result
    (noted g w c.level_fault-halted.result c.level_fault-halted.ensures.fault)
