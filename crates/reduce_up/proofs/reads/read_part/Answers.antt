use Rattle.std.proofs.Common.{◌≤◌, length, subst, arith}
use Rattle.std.proofs.lemmas.Option.{slice_get_within, get_or_from_slice_get}
use Rattle.dd_store.specs.Graph.{Pair}
use Rattle.req_table.specs.declared.packed_child.PackedChild.{PackedChild}
use Rattle.reduce_up.specs.Steps.{BothResolveTo}
use Rattle.reduce_up.proofs.Parted.{read_none, read_more, read_whole}
use Rattle.reduce_up.proofs.reads.read_part.Goals as goal
use Rattle.reduce_up.proofs.reads.read_part.Goals.{After-at-pair}

-- the diagrams of the next children
comes : (c : After-at-pair) → (p : Pair) × BothResolveTo c.args.answers.now c.at-pair.result p
comes c =
    let x : PackedChild × PackedChild = c.at-pair.result in
    subst (λ z. (p : Pair) × BothResolveTo c.args.answers.now z p) (get_or_from_slice_get c.args.children.now c.loop-place.place x x c.at-pair.ensures)
    (c.requires.resolvable c.loop-place.place x (slice_get_within c.args.children.now c.loop-place.place x c.at-pair.ensures))

pub loop-place-init : goal.loop-place-init
loop-place-init c = record {
  sixteen = c.in_ok-empty.ensures.sixteen;
  read = read_none c.args.answers.now c.empty.new.self c.in_ok-empty.ensures.sixteen c.in_ok-empty.ensures.empty c.in_ok-empty.ensures.numbers c.in_ok-empty.ensures.equal;
}

pub resolve-low-requires : goal.resolve-low-requires
resolve-low-requires c = let of = comes (goal.at.resolve-low-requires c).After-at-pair in (of.0.0, of.1.0)

pub resolve-high-requires : goal.resolve-high-requires
resolve-high-requires c = let of = comes (goal.at.resolve-high-requires c).After-at-pair in (of.0.1, of.1.1)

pub loop-place-preserved : goal.loop-place-preserved
loop-place-preserved c = record {
  sixteen = c.put.ensures.sixteen;
  read = read_more c.args.answers.now c.args.children.now c.loop-place.place c.at-pair.result (c.resolve-low.result, c.resolve-high.result) c.loop-place.divided c.put.new.self c.at-pair.ensures (c.resolve-low.ensures, c.resolve-high.ensures)
      c.loop-place.invariant.read c.put.ensures.sixteen c.in_ok-put.ensures.put;
}

pub returns : goal.returns
returns c =
    let over : length c.args.children.now ≤ c.loop-place.place = omega arith in
    read_whole c.args.answers.now c.args.children.now c.loop-place.place c.loop-place.divided.lists c.loop-place.divided.origins over c.loop-place.invariant.read
