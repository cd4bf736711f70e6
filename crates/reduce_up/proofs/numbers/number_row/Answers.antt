use Rattle.std.proofs.Common.{arith, ◌≡◌, ◌+◌, List, [], sym, ◌∙◌, subst}
use Rattle.std.specs.List.{AllZip}
use Rattle.req_table.specs.declared.Key.{Key}
use Rattle.req_table.specs.declared.Record.{Record}
use Rattle.reduce_up.specs.Numbers.{AreNext, IsNext, asked_from, IsNumbered, keys_in}
use Rattle.reduce_up.proofs.Numbering.{asked_first, the_record, behind_low, low_next, high_next, pair_more, pairs_all, asked_all}
use Rattle.reduce_up.proofs.numbers.number_row.Goals as goal
use Rattle.reduce_up.proofs.numbers.number_row.Goals.{After-at-low, After-loop-place}

-- the next record, and what is asked after its low child
module _ (c : After-at-low) where
  abbrev entry : Record
  entry = the_record _ _ c.requires.sender _ c.requires.level _ c.requires.by_owner _ _ _ c.at-low.ensures _ c.loop-place.invariant.places

  abbrev rest : List Key
  rest = behind_low _ _ c.requires.sender _ c.requires.level _ c.requires.by_owner _ _ _ c.at-low.ensures _ c.loop-place.invariant.places

  low_is : IsNext c.args.input c.loop-place.left.items c.at-low.result.0 entry.low rest
  low_is = low_next _ _ c.requires.sender _ c.requires.level _ c.requires.by_owner _ _ _ c.at-low.ensures _ c.loop-place.invariant.places

pub loop-place-init : goal.loop-place-init
loop-place-init c = record {
  pairs = subst (AllZip (IsNumbered (keys_in c.args.input)) []) (sym (c.in_ok-reserve.ensures ∙ c.requires.spare_row)) tt;
  places = subst (λ z. AreNext c.args.input z c.args.left.now.items) (asked_first c.args.input c.args.sender c.args.level c.requires.level) c.requires.left;
}

pub number-low-requires-clause-child : goal.number-low-requires-clause-child
number-low-requires-clause-child c = let w = (goal.at.number-low-requires-clause-child c).After-at-low in ((entry w).low, _, low_is w)

pub number-high-requires-clause-child : goal.number-high-requires-clause-child
number-high-requires-clause-child c =
    let w = (goal.at.number-high-requires-clause-child c).After-at-low in (
      (entry w).high,
      _,
      high_next _ _ c.requires.sender _ c.requires.level _ c.requires.by_owner _ _ _ c.at-low.ensures _ c.loop-place.invariant.places c.number-low.new.left.items (c.number-low.ensures.left (entry w).low _ (low_is w)),
    )

pub loop-place-preserved : goal.loop-place-preserved
loop-place-preserved c =
    let w = (goal.at.loop-place-preserved c).After-at-low in
    let high = high_next _ _ c.requires.sender _ c.requires.level _ c.requires.by_owner _ _ _ c.at-low.ensures _ c.loop-place.invariant.places c.number-low.new.left.items (c.number-low.ensures.left (entry w).low _ (low_is w)) in
    record {
      pairs = pair_more _ _ c.requires.sender _ c.requires.level _ c.requires.by_owner _ _ _ c.at-low.ensures _ c.loop-place.invariant.places
          c.loop-place.spare_row c.push.new.self c.number-low.result c.number-high.result c.loop-place.invariant.pairs
          (c.number-low.ensures.placed (entry w).low _ (low_is w)) (c.number-high.ensures.placed (entry w).high _ high) c.in_ok-push.ensures.done;
      places = c.number-high.ensures.left (entry w).high _ high;
    }

-- all records were numbered
ended : (c : After-loop-place) → c.loop-place.place ≡ c.len-place-end.result
ended c = let past = c.loop-place-test.false in let within = c.loop-place.auto.place-end in omega (arith, past, within)

pub returns-clause-row : goal.returns-clause-row
returns-clause-row c =
    pairs_all c.args.input c.args.sender c.args.level c.args.by_owner.now c.requires.by_owner c.loop-place.place (ended (goal.at.returns-clause-row c).After-loop-place ∙ c.len-place-end.ensures) c.loop-place.spare_row c.loop-place.invariant.pairs

pub returns-clause-left : goal.returns-clause-left
returns-clause-left c =
    asked_all c.args.input c.args.sender c.args.level c.args.by_owner.now c.requires.by_owner c.loop-place.place (ended (goal.at.returns-clause-left c).After-loop-place ∙ c.len-place-end.ensures)
    (asked_from c.args.input c.args.sender (c.args.level + 1)) c.loop-place.left.items c.loop-place.invariant.places
