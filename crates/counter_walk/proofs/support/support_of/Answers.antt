use Rattle.std.proofs.Common.{inl, inr, rules}
use Rattle.dd_store.specs.Nodes.{Nodes}
use Rattle.counter_walk.proofs.Supporting.{depends, stands, unmarked}
use Rattle.counter_walk.proofs.support.support_of.Goals as goal

pub returns : goal.returns
returns c =
    let s : Nodes = c.args.store.now in
    record {
      each_level = c.in_ok-visit-2.ensures.met.each_level;
      marked = λ v lt. (
        λ m. elim (c.in_ok-visit-2.ensures.only v m) [
          | inl before ↦ elim (c.in_ok-visit.ensures.only v before) [
            | inl first ↦ absurd (unmarked _ _ v (c.in_ok-vec.ensures.items_if_clones_equal (λ y h. search rules)) first)
            | inr below ↦ inl (depends s c.levels.ensures.sound c.args.f v c.requires.first_in_store below)
          ]
          | inr below ↦ inr (depends s c.levels.ensures.sound c.args.g v c.requires.second_in_store below)
        ],
        λ d. elim d [
          | inl reads ↦ c.in_ok-visit-2.ensures.keeps v (c.in_ok-visit.ensures.all v (stands s c.levels.ensures.sound c.args.f v c.requires.first_in_store reads))
          | inr reads ↦ c.in_ok-visit-2.ensures.all v (stands s c.levels.ensures.sound c.args.g v c.requires.second_in_store reads)
        ],
      );
    }
