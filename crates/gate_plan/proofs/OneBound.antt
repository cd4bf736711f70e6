-- Whether a wave of a build is past a bound is the same in each store.
use Rattle.std.proofs.Common.{◌≡◌, ◌∙◌, ℕ, zero, suc, ◌+◌, ◌<◌, ◌⊎◌, inl, inr, Bool, List, [], ◌∷◌, length, map, Option, Some, None, refl, sym, ap, subst, arith, IfSome}
use Rattle.std.specs.Prelude.{Contains, slice_index}
use Rattle.std.specs.Option.{option_map}
use Rattle.dd_store.specs.Nodes.{Nodes}
use Rattle.net_bench.specs.declared.netlist.GateLine.{GateLine}
use Rattle.net_bench.specs.Circuit.{Circuit, Net, IsNet, circuit, greatest, AreRanks, variables_of, rank_of}
use Rattle.net_bench.specs.Labels.{IsLabelling}
use Rattle.net_bench.proofs.Built.{has_labelling}
use Rattle.net_bench.proofs.OneLabelling.{at_contained}
use Rattle.net_order.specs.Order.{NamingModel, first_level, second_level, given_level}
use Rattle.req_table.specs.declared.Key.{Key}
use Rattle.req_table.specs.Keys.{wave_of}
use Rattle.req_table.specs.Reached.{IsReached, root as root_of, child as child_from}
use Rattle.reduce_up.specs.Waves.{Entry, requests_of}
use Rattle.reduce_up.proofs.Noting.{nothing, head_in, tail_in, in_cases}
use Rattle.reduce_up.proofs.Rooted.{of_entry}
use Rattle.gate_plan.specs.Building.{Levelled, levelled, levelled_given}
use Rattle.gate_plan.specs.Asking.{IsEntryAt, HasRank, IsOfRank, IsWide, IsPast, IsNarrow, IsNarrowAt}
use Rattle.gate_plan.proofs.Ranks.{gate_rank, input_rank, operand_lower, operand_below}
use Rattle.wave_engine.proofs.TwoStores.{AsksSame, no_more}

-- ---- one ranking
same_map : (f g : ℕ → ℕ) (xs : List ℕ) → ((s : ℕ) → Contains xs s → f s ≡ g s) → map f xs ≡ map g xs
same_map f g [] h = refl
same_map f g (x ∷ xs) h = ap (λ y. y ∷ map f xs) (h x (head_in x xs)) ∙ ap (λ ys. g x ∷ ys) (same_map f g xs (λ s c. h s (tail_in x s xs c)))

module _ (net : Net) (h : IsNet net) (ranks : List ℕ) (ranked : AreRanks (circuit net) ranks) where
  one_rank : (bound s : ℕ) → s < length net.names → slice_index net.ranks s < bound → slice_index ranks s ≡ slice_index net.ranks s
  one_rank zero s lt low = absurd (omega (arith, low))
  one_rank (suc bound) s lt low = by (one_rank bound) (h.defined s lt)
    where
      by : ((t : ℕ) → t < length net.names → slice_index net.ranks t < bound → slice_index ranks t ≡ slice_index net.ranks t) →
          Contains (variables_of (circuit net)) s ⊎ ((g : GateLine) × Contains net.gates g × (g.out ≡ s)) → slice_index ranks s ≡ slice_index net.ranks s
      by below (inl variable) = at_contained (λ s. slice_index ranks s ≡ 0) (variables_of (circuit net)) s ranked.variables variable ∙ sym (input_rank net h s variable)
      by below (inr (g, among, out)) =
          let own : slice_index ranks g.out ≡ greatest (map (slice_index ranks) g.operands) + 1 = at_contained (λ g. slice_index ranks g.out ≡ greatest (map (slice_index ranks) g.operands) + 1) net.gates g ranked.gates among in
          let at : rank_of net g ≡ slice_index net.ranks s = ap (slice_index net.ranks) out in
          let operands : map (slice_index ranks) g.operands ≡ map (slice_index net.ranks) g.operands = same_map (slice_index ranks) (slice_index net.ranks) g.operands
          (λ t c. below t (operand_below net h g t among c) (let less = operand_lower net h g t among c in omega (arith, less, at, low))) in
          sym (ap (slice_index ranks) out) ∙ own ∙ ap (λ z. greatest z + 1) operands ∙ sym (gate_rank net h g among) ∙ at

-- a gate has one rank, in every ranking
of_rank : (net : Net) → IsNet net → (g : GateLine) (r : ℕ) → g.out < length net.names → HasRank (circuit net) g r → IsOfRank (circuit net) g r
of_rank net h g r lt (ranks, ranked, is) others ranking =
    one_rank net h others ranking (slice_index net.ranks g.out + 1) g.out lt (omega arith)
    ∙ sym (one_rank net h ranks ranked (slice_index net.ranks g.out + 1) g.out lt (omega arith)) ∙ is

-- ---- the netlists of a build
module _ (a b : Net) (given : Option Net) (ha : IsNet a) (hb : IsNet b) (hg : IfSome given IsNet) (p : NamingModel) where
  abbrev netlists : List Levelled
  netlists = levelled (circuit a) (circuit b) (option_map circuit given) p

  abbrev first_one : Levelled
  first_one = record { netlist = circuit a; level = first_level p }

  abbrev second_one : Levelled
  second_one = record { netlist = circuit b; level = second_level p }

  net_of : (one : Levelled) → Contains netlists one → (net : Net) × IsNet net × (one.netlist ≡ circuit net)
  net_of one c =
      elim (in_cases {X = Levelled} first_one one (second_one ∷ levelled_given (option_map circuit given) p) c) [
        | inl first ↦ (a, ha, ap (λ (l : Levelled). l.netlist) (sym first))
        | inr later ↦ elim (in_cases {X = Levelled} second_one one (levelled_given (option_map circuit given) p) later) [
          | inl second ↦ (b, hb, ap (λ (l : Levelled). l.netlist) (sym second))
          | inr third ↦ by given hg third
        ]
      ]
    where
      by : (o : Option Net) → IfSome o IsNet → Contains (levelled_given (option_map circuit o) p) one → (net : Net) × IsNet net × (one.netlist ≡ circuit net)
      by None h d = absurd (nothing {X = Levelled} one d)
      by (Some net) h d = elim (in_cases {X = Levelled} (record { netlist = circuit net; level = given_level p }) one [] d) [ inl is ↦ (net, h, ap (λ (l : Levelled). l.netlist) (sym is)) | inr none ↦ absurd (nothing {X = Levelled} one none) ]

  labels : (one : Levelled) → Contains netlists one → (x : List Bool) → (bits : List Bool) × IsLabelling one.netlist one.level x bits
  labels one c x = let n = net_of one c in subst (λ (z : Circuit). (bits : List Bool) × IsLabelling z one.level x bits) (sym n.2) (has_labelling n.0 n.1 one.level x)

  rank_is : (one : Levelled) → Contains netlists one → (g : GateLine) (r : ℕ) → Contains one.netlist.gates g → HasRank one.netlist g r → IsOfRank one.netlist g r
  rank_is one c g r among rank =
      let n = net_of one c in
      subst (λ (z : Circuit). Contains z.gates g → HasRank z g r → IsOfRank z g r) (sym n.2)
      (λ there ranked. of_rank n.0 n.1 g r (at_contained (λ g. g.out < length n.0.names) n.0.gates g n.1.outs there) ranked) among rank

  -- a reached request has an entry
  some_entry : (S : Nodes) (entries : List Entry) (k : Key) → IsReached (wave_of S 1) (requests_of entries) k → (e : Entry) × Contains entries e
  some_entry S entries k (root_of c) = let e = of_entry entries k c in (e.0, e.1)
  some_entry S entries k (child_from {x = above} b l m r asks) = some_entry S entries above r

  -- if all waves are within a bound, none is past it
  pub not_wide : (n depth : ℕ) → IsNarrow n depth netlists → IsWide n depth netlists → ⊥
  not_wide n depth narrow wide = by wide.more.requests refl
    where
      at_step : (e : Entry) → IsEntryAt netlists wide.store wide.rank wide.step e → IsNarrowAt n depth netlists wide.rank wide.step
      at_step e (one, c, (g, among, rank, entry)) = narrow one g wide.rank wide.step c among (rank_is one c g wide.rank among rank) entry.step

      against : IsNarrowAt n depth netlists wide.rank wide.step → ⊥
      against at = no_more wide.store at.store wide.sound at.sound (at.levels ∙ sym wide.levels) n wide.entries at.entries (λ e c. partner e (wide.asked e c)) wide.more at.few
        where
          levels : wide.store.levels ≡ at.store.levels
          levels = wide.levels ∙ sym at.levels

          partner : (e : Entry) → IsEntryAt netlists wide.store wide.rank wide.step e → AsksSame wide.store at.store wide.sound at.sound (at.levels ∙ sym wide.levels) at.entries e
          partner e (one, c, (g, among, rank, entry)) =
              let d = at.asked one g c among (rank_is one c g wide.rank among rank) entry.step in
              record {
                other = d.0;
                among = d.1;
                op = entry.op ∙ sym d.2.op;
                first = (entry.has_first, d.2.has_first, λ x hx. let bits = labels one c x in entry.takes_first x bits.0 hx bits.1 ∙ sym (d.2.takes_first x bits.0 (hx ∙ levels) bits.1));
                second = (entry.has_second, d.2.has_second, λ x hx. let bits = labels one c x in entry.takes_second x bits.0 hx bits.1 ∙ sym (d.2.takes_second x bits.0 (hx ∙ levels) bits.1));
              }

      by : (ks : List Key) → wide.more.requests ≡ ks → ⊥
      by [] e = let more = wide.more.more in let none : length wide.more.requests ≡ 0 = ap length e in omega (arith, more, none)
      by (k ∷ ks) e =
          let r = wide.more.reached k (subst (λ z. Contains z k) (sym e) (head_in k ks)) in
          let c = some_entry wide.store wide.entries k r in
          against (at_step c.0 (wide.asked c.0 c.1))

-- the law, in its own words
pub past_or_within : (a b : Net) (given : Option Net) (p : NamingModel) (n depth : ℕ) → IsNet a → IsNet b → IfSome given IsNet → IsNarrow n depth (levelled (circuit a) (circuit b) (option_map circuit given) p) →
    IsPast (Some n) depth (levelled (circuit a) (circuit b) (option_map circuit given) p) → ⊥
past_or_within a b given p n depth ha hb hg narrow past = not_wide a b given ha hb hg p n depth narrow past
