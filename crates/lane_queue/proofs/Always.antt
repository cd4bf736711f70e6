-- The rule gives the law between any two steps.
use Rattle.std.proofs.Common.{◌≡◌, ℕ, ◌<◌, List, [], ◌∷◌, ◌++◌, sym, refl, ◌∙◌, subst, inl, inr, ⊎_elim, arith}
use mathlib.Core.Option.{some}
use lib.ListN.{get_elem?}
use Rattle.req_table.specs.declared.Item.{Item}
use Rattle.lane_queue.specs.declared.load.Load.{Load}
use Rattle.lane_queue.specs.Loads.{flat}
use Rattle.lane_queue.specs.declared.rule.Terms.{Terms}
use Rattle.lane_queue.specs.declared.rule.View.{View}
use Rattle.req_table.specs.Lanes.{IsFair}
use Rattle.lane_queue.specs.Rule.{scope, blank, port, Ruled, Holds}
use Rattle.lane_queue.specs.Between.{Lawful, Between}
use Rattle.lane_queue.proofs.Facts.{law-along, flat-none}
use Rattle.lane_queue.proofs.Moves.{ruled}

lawful : (loads : List Load) (views : List View) (r : Ruled (flat loads) views) → Lawful r.c loads views
lawful loads views r = let items = flat loads in (
  r.owned,
  (λ i p v at has. let f = r.fits i v p at has in (f.terms, f.within)),
  (λ p lt. let h = r.present p lt in (_, (r.pass_index p, h.0, h.1, h.2, refl))),
  λ sent i o all at has.
      let t = (r.fits i o r.c.owner at has).takes refl in
      let same : (p : ℕ) → p < r.c.workers → sent p ≡ r.sent p = λ p lt. let h = all p lt in h.4 ∙ (r.fits h.0 h.1 p h.2 h.3).sends in
      let law = law-along (scope r.c) r.sent r.taken (r.left ++ items) o.taken (o.left ++ items) (λ k. (sym t.0) k ++ ((sym t.1) k ++ items)) r.law in
      (record { senders = law.senders; in_order = λ s lt. law.in_order s lt ∙ sym (same s lt) }, λ s lt. subst (IsFair (scope r.c)) (sym (same s lt)) (r.fair s lt)),
)

pub always : (loads : List Load) (views : List View) → Holds loads views → Between loads views
always loads views h = (
  h.0,
  ⊎_elim (λ (x : (flat loads ≡ []) × (views ≡ blank ∷ [])). inl (flat-none loads h.0 x.0, x.1)) (λ (r : Ruled (flat loads) views). inr (r.c, lawful loads views r)) h.1,
)

-- if a port's pass is among the others, its terms are the lane's
pub always-by : (c : Terms) (s : ℕ) (sent taken : List Item) (loads : List Load) (views : List View) (i : ℕ)
    → Holds loads views → get_elem? views i ≡ some (port c s sent taken) → Lawful c loads views
always-by c s sent taken loads views i h at =
    let r = ruled (flat loads) views i (port c s sent taken) h.1 at refl in
    subst (λ (d : Terms). Lawful d loads views) (sym (r.fits i (port c s sent taken) s at (omega arith, omega arith)).terms) (lawful loads views r)
