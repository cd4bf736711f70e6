-- A build that begins without nodes ends within the limit, or goes beyond it.
use Rattle.std.proofs.Common.{◌≡◌, ◌∙◌, ℕ, ◌<◌, ◌≤◌, ◌^◌, ◌⊎◌, inl, inr, Bool, List, length, Option, Some, None, refl, sym, ap, subst, arith}
use Rattle.std.specs.Prelude.{IfSome, option_map}
use Rattle.dd_store.specs.declared.reference.Ref.{Ref}
use Rattle.dd_store.specs.Nodes.{den, count_of, empty_nodes}
use Rattle.dd_store.specs.View.{part, Has}
use Rattle.dd_store.proofs.Storing.{IsStore-empty}
use Rattle.dd_store.proofs.View.{denotes, parts, same_ref}
use Rattle.net_bench.specs.Circuit.{Circuit, Net, IsNet, circuit}
use Rattle.net_names.specs.declared.order.Match.{Match}
use Rattle.net_names.specs.declared.order.Order.{Order}
use Rattle.net_order.specs.Order.{NamingModel, IsPairing, both, given_side}
use Rattle.net_order.proofs.Orders.{ordered_count}
use Rattle.gate_plan.specs.Building.{levelled}
use Rattle.gate_plan.specs.Need.{IsComplete}
use Rattle.gate_plan.specs.Needing.{IsNeededValue}
use Rattle.gate_plan.proofs.Counted.{no_node, not_complete}
use Rattle.gate_plan.proofs.Needs.{complete}
use Rattle.compare_built.specs.Conditions.{HasOneOutput}
use Rattle.compare_built.specs.Limits.{Exceeds, FitsWithin, IsComparedValue, IsNeededIn}
use Rattle.compare_built.proofs.Subjects.{subjects_inside}
use Rattle.limit_law.proofs.Drawing.{IsGood, IsStuck}
use Rattle.limit_law.proofs.Covering.{Covered, Covers, covers_both}
use Rattle.limit_law.proofs.Values.{all_read, all_read_with, covers_built, covers_compared}

-- the variables of a pairing are few
few : (how : Match) (order : Order) (a b : Circuit) (given : Option Circuit) (p : NamingModel) → IsPairing how a b given order p → length p.names ≤ 4096
few how order a b given p h =
    let names = ap length h.naming.names in
    let count = ordered_count (both how a b) (given_side given) order h.naming.fit in
    let most = h.few in
    omega (arith, names, count, most)

-- a store without nodes, with which one begins
module _ (n limit : ℕ) (Values : (List Bool → Bool) → Type 0) (low : n ≤ 4096) (small : limit < 2 ^ 32) where
  none : count_of (empty_nodes n limit) ≡ 0
  none = sym (IsStore-empty n limit low small).counted

  nothing : IsGood n limit Values (empty_nodes n limit)
  nothing = record {
    sound = (IsStore-empty n limit low small).sound;
    levels = refl;
    same = refl;
    lean = record { counted = λ r v lo hi h e. absurd (no_node (empty_nodes n limit) none r v lo hi h e) };
    within = (let e = none in omega (arith, e));
  }

module _ (limit : ℕ) (small : limit < 2 ^ 32) (a b : Circuit) (given : Option Circuit) (p : NamingModel) (low : length p.names ≤ 4096) where
  fits : Covered (length p.names) limit (IsNeededIn a b given p) (empty_nodes (length p.names) limit) (IsNeededIn a b given p) → FitsWithin limit a b given p
  fits c = record {
    store = c.store;
    sound = c.good.sound;
    levels = c.good.levels;
    lean = c.good.lean;
    complete = subst (λ k. IsComplete k (IsNeededIn a b given p) (part c.store) (Has c.store) (den c.store)) c.good.levels
        (complete Ref same_ref c.store.levels (part c.store) (Has c.store) (den c.store) (parts c.store c.good.sound) (denotes c.store c.good.sound) (IsNeededIn a b given p)
        (λ f k. let d = c.diagrams f k in (d.0, d.1, λ x len. d.2 x (len ∙ c.good.levels))));
    within = c.good.within;
  }

  exceeds : IsStuck (length p.names) limit (IsNeededIn a b given p) → Exceeds limit a b given p
  exceeds s = record {
    store = s.store;
    sound = s.good.sound;
    levels = s.good.levels;
    lean = s.good.lean;
    over = inr (s.full, λ whole. not_complete s.store (length p.names) (IsNeededIn a b given p) s.lacks whole);
  }

  decided : Covers (length p.names) limit (IsNeededIn a b given p) (IsNeededIn a b given p) → FitsWithin limit a b given p ⊎ Exceeds limit a b given p
  decided all = by (all (empty_nodes (length p.names) limit) (nothing (length p.names) limit (IsNeededIn a b given p) low small))
    where
      by : Covered (length p.names) limit (IsNeededIn a b given p) (empty_nodes (length p.names) limit) (IsNeededIn a b given p) ⊎ IsStuck (length p.names) limit (IsNeededIn a b given p) →
          FitsWithin limit a b given p ⊎ Exceeds limit a b given p
      by (inl c) = inl (fits c)
      by (inr s) = inr (exceeds s)

pub within_or_beyond : (how : Match) (order : Order) (a b : Net) (given : Option Net) (p : NamingModel) → IsNet a → IsNet b → IfSome given (λ net. IsNet net × HasOneOutput (circuit net)) →
    IsPairing how (circuit a) (circuit b) (option_map circuit given) order p → (limit : ℕ) → limit < 2 ^ 32 →
    FitsWithin limit (circuit a) (circuit b) (option_map circuit given) p ⊎ Exceeds limit (circuit a) (circuit b) (option_map circuit given) p
within_or_beyond how order a b None p sound sound' sound'' h limit small =
    decided limit small (circuit a) (circuit b) None p (few how order (circuit a) (circuit b) None p h)
    (covers_built (length p.names) limit (IsNeededIn (circuit a) (circuit b) None p) (levelled (circuit a) (circuit b) None p) (all_read a b sound sound' p) (λ f k. k))
within_or_beyond how order a b (Some c) p sound sound' (sound'', one) h limit small =
    decided limit small (circuit a) (circuit b) (Some (circuit c)) p (few how order (circuit a) (circuit b) (Some (circuit c)) p h)
    (covers_both (length p.names) limit (IsNeededIn (circuit a) (circuit b) (Some (circuit c)) p) (IsNeededIn (circuit a) (circuit b) (Some (circuit c)) p) (IsNeededValue (circuit a) (circuit b) (Some (circuit c)) p) (IsComparedValue (circuit a) (circuit b) (Some (circuit c)) p) (λ f k. k)
    (covers_built (length p.names) limit (IsNeededIn (circuit a) (circuit b) (Some (circuit c)) p) (levelled (circuit a) (circuit b) (Some (circuit c)) p) (all_read_with a b c sound sound' sound'' p) (λ f k. inl k))
    (covers_compared a b c sound sound' sound'' one p (subjects_inside how a b (Some (circuit c)) order p sound sound' h.naming) limit (IsNeededIn (circuit a) (circuit b) (Some (circuit c)) p) (λ f k. inr k)))
