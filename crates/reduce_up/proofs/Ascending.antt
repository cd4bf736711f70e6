-- Level by level, from the last: what is reduced, if the children are in several parts.
use Rattle.std.proofs.Common.{◌≡◌, ◌≢◌, ◌∙◌, ℕ, ◌+◌, ◌<◌, ◌≤◌, List, length, Option, Some, None, sym, subst, arith}
use Rattle.dd_store.specs.declared.reference.Ref.{Ref}
use Rattle.dd_store.specs.Nodes.{Nodes, IsSound, count_of}
use Rattle.dd_store.proofs.View.{keeps-trans}
use Rattle.expand_work.specs.declared.fault.WaveFault.{WaveFault}
use Rattle.req_table.specs.declared.Key.{Key}
use Rattle.req_table.specs.declared.packed_child.PackedChild.{PackedChild}
use Rattle.req_table.specs.Places.{row, AreNone, IsLastLevel}
use Rattle.reduce_up.specs.OverParts.{level_over, over_parts}
use Rattle.reduce_up.specs.Reducing.{AddsDescribed}
use Rattle.reduce_up.specs.ReductionPhase.{IsReadyAt, AskedAt, IsLevelReduced, IsLevelFault, AreReducedBelow, AreMore, AreCounted, MayReduce}
use Rattle.reduce_up.specs.Waves.{Entry, IsWanted, IsWaveFault}
use Rattle.reduce_up.proofs.OverParts.{over_at}
use Rattle.reduce_up.proofs.Raising.{none_split, last_left, level_ready, level_next, levels_left, level_refused}
use Rattle.reduce_up.proofs.Reduced.{level_reduced, reduced_passed}
use Rattle.reduce_up.proofs.Wanted.{level_adds}

-- A wave over the store S on its way up, whose levels before `from` had children in parts that began as `first`: the
-- parts are now `parts`, and the levels from `end` on are reduced.
pub record OnTheWay : Type 0 where
  pub S : Nodes
  pub sound : IsSound S
  pub first : List (List (List (PackedChild × PackedChild)))
  pub from : ℕ
  pub within : from ≤ S.levels
  pub entries : List Entry
  pub tables : List (List Key)
  pub known : List (List Ref)
  pub may : MayReduce S entries from (over_parts S.levels first) known tables
  pub parts : List (List (List (PackedChild × PackedChild)))
  pub end : ℕ
  pub bound : end ≤ from
  pub left : (w : ℕ) → w < end → level_over parts w ≡ level_over first w
  pub s : Nodes
  pub answers : List (List Ref)
  pub reduced : AreReducedBelow S entries tables end s answers

module _ (o : OnTheWay) where
  abbrev rows : List (List (PackedChild × PackedChild))
  rows = over_parts o.S.levels o.first

  same : (w : ℕ) → w < o.end → row (over_parts o.S.levels o.parts) w ≡ row rows w
  same w lt =
      let l : w < o.S.levels = (let a = o.bound in let b = o.within in omega (arith, lt, a, b)) in
      over_at o.S.levels o.parts w l ∙ o.left w lt ∙ sym (over_at o.S.levels o.first w l)

  last : (found : Option ℕ) → IsLastLevel (over_parts o.S.levels o.parts) o.end found → IsLastLevel rows o.end found
  last found h = last_left rows (over_parts o.S.levels o.parts) o.end same found h

  none_from : (v : ℕ) → AreNone rows v o.end → AreNone o.tables v o.end
  none_from v n = none_split _ o.sound _ o.may.operands _ _ _ _ o.may.ready.expanded v o.end o.bound n

  passed : (v : ℕ) → AreNone o.tables v o.end → AreReducedBelow o.S o.entries o.tables v o.s o.answers
  passed v n = levels_left _ o.sound _ o.may.operands _ _ _ _ o.may.ready.expanded v o.end o.s o.answers n o.reduced

  -- no level is left
  pub all_reduced : IsLastLevel (over_parts o.S.levels o.parts) o.end None → AreReducedBelow o.S o.entries o.tables 0 o.s o.answers
  all_reduced h = passed 0 (none_from 0 (last None h))

  pub all_counted : IsLastLevel (over_parts o.S.levels o.parts) o.end None → (before after : ℕ) → AreCounted o.tables o.end o.from before after → AreCounted o.tables 0 o.from before after
  all_counted h before after c = reduced_passed o.tables 0 o.end o.from before after c (omega arith) (none_from 0 (last None h))

  -- level v is the last one that is left
  module _ (v : ℕ) (h : IsLastLevel (over_parts o.S.levels o.parts) o.end (Some v)) where
    lt : v < o.from
    lt = let x : v < o.end = h.0 in let a = o.bound in omega (arith, x, a)

    pub fit : v < o.S.levels
    fit = let x : v < o.from = lt in let a = o.within in omega (arith, x, a)

    none : AreNone o.tables (v + 1) o.end
    none = none_from (v + 1) (last (Some v) h).2

    below : AreReducedBelow o.S o.entries o.tables (v + 1) o.s o.answers
    below = passed (v + 1) none

    read : row rows v ≡ level_over o.parts v
    read = over_at o.S.levels o.first v fit ∙ sym (o.left v h.0)

    -- the level has requests, and can be reduced
    pub some_over : 0 < length (level_over o.parts v)
    some_over = subst (λ (z : List (PackedChild × PackedChild)). 0 < length z) read (last (Some v) h).1

    pub ready_over : IsReadyAt o.s o.tables (level_over o.parts v) o.answers v
    ready_over = subst (λ (z : List (PackedChild × PackedChild)). IsReadyAt o.s o.tables z o.answers v) read
        (level_ready _ o.sound _ o.may.operands _ _ _ _ o.may.ready.expanded v o.s o.answers lt fit below)

    -- what it adds, and the cause of its fault
    pub adds_over : (u : Nodes) → IsSound u → AddsDescribed o.s u (AskedAt o.s o.tables v) → AddsDescribed o.S u (IsWanted o.S o.entries)
    adds_over u su a = level_adds o.S o.sound o.entries o.may.operands o.tables v o.s u o.may.ready.expanded.admitted below.held su below.adds a

    pub fault_over : (u : Nodes) → AddsDescribed o.s u (AskedAt o.s o.tables v) → (f : WaveFault) → IsLevelFault u o.tables v f → IsWaveFault o.S o.entries u f
    fault_over u a f x =
        level_refused _ o.sound _ o.may.operands _ _ _ _ o.may.ready.expanded v u
        (keeps-trans o.S o.s u below.adds.keeps a.keeps) f x

    -- one more level is reduced
    pub next_over : (u : Nodes) (B : List (List Ref)) → IsLevelReduced o.s o.tables v (length (row o.tables v)) u (row B v) → count_of u ≤ u.limit
        → length B ≡ length o.answers → ((w : ℕ) → w ≢ v → row B w ≡ row o.answers w) → AreReducedBelow o.S o.entries o.tables v u B
    next_over u B so within long others =
        level_next _ o.sound _ o.may.operands _ _ _ _ o.may.ready.expanded v o.s o.answers below u (row B v) so
        within B long (λ i. row B v) others

    pub count_over : (before after later : ℕ) → AreCounted o.tables o.end o.from before after → AreMore (length (level_over o.parts v)) after later
        → AreCounted o.tables v o.from before later
    count_over before after later c e =
        level_reduced o.S o.entries o.tables o.may.ready.expanded.admitted v o.end o.from before after later c h.0 o.bound none (o.may.ready.once v lt)
        (subst (λ n. AreMore n after later) ready_over.counts e)
