-- The number of Ends that an endpoint counts is that in its list.
use Rattle.std.proofs.Common.{◌≡◌, ℕ, ◌+◌, List, [], ◌∷◌, ◌++◌, map, sym, refl, subst, arith}
use Rattle.req_table.specs.declared.Key.{Key}
use Rattle.lane_queue.specs.declared.load.Load.{Load}
use Rattle.lane_queue.specs.declared.load.Load.TheVariants.{Bundle, End}
use Rattle.lane_queue.specs.declared.rule.View.{View}
use Rattle.req_table.specs.Lanes.{ends}
use Rattle.lane_queue.specs.Loads.{ask_of, items_in}
use Rattle.lane_queue.specs.Rule.{port, own_sent, IsPort}
use Rattle.req_table.proofs.Fair.{ends-append}

-- the number of Ends of a load
abbrev pub ends_in : Load → ℕ
ends_in (Bundle from asks) = 0
ends_in (End from level) = 1

pub ends-asks : (from : ℕ) (asks : List (ℕ × Key)) → ends (map (ask_of from) asks) ≡ 0
ends-asks from [] = refl
ends-asks from (a ∷ more) = ends-asks from more

pub ends-load : (x : Load) → ends (items_in x) ≡ ends_in x
ends-load (Bundle from asks) = ends-asks from asks
ends-load (End from level) = refl

abbrev pub Counted : View → ℕ → Type 0
Counted v e = IsPort v × (e ≡ ends (own_sent v))

pub counted-push : (v w : View) (x : Load) (e e' : ℕ) → w ≡ port v.terms v.low (own_sent v ++ items_in x) v.taken → e ≡ ends (own_sent v) → e' ≡ e + ends_in x → Counted w e'
counted-push v w x e e' is a c = subst (λ u. Counted u e') (sym is) (refl, (let j = ends-append (own_sent v) (items_in x) in let z = ends-load x in omega (arith, a, c, j, z)))
