-- The passes of all ports are joined, port by port.
use Rattle.std.proofs.Common.{◌≡◌, ℕ, suc, ◌+◌, ◌<◌, ◌≤◌, List, [], ◌∷◌, ◌++◌, map, length, take, get_or, set, sym, refl, ap, ◌∙◌, subst, arith, cond, eq-eqb, ne_eqb}
use Rattle.std.specs.Prelude.{slice_index_or}
use Rattle.std.proofs.lemmas.List.{length-map, length-append, length-take, map-append, append-nil, get_or_append_left, get_or_default, get_or-set_same, get_or-set_other, length-set, take_all}
use Rattle.std.proofs.Math.Seq.{take-suc, get_or-append_seam}
use Rattle.std.proofs.Math.ListN.{get_or-eq_default}
use mathlib.Core.Logic.{dite}
use native.Mathlib.Decide.{ℕ_discrete, dec_le}
use Rattle.crossbeam_queue.specs.SegTies.{SegId}
use Rattle.std.specs.declared.alloc.Global.{Global}
use Rattle.req_table.specs.declared.Item.{Item}
use Rattle.req_table.specs.declared.Sizes.{Sizes}
use Rattle.lane_queue.specs.declared.rule.View.{View}
use Rattle.lane_queue.specs.declared.rule.Lane.{Lane}
use Rattle.lane_queue.specs.declared.make.RootPass.{RootPass}
use Rattle.lane_queue.specs.Rule.{port, joined}
use Rattle.lane_queue.specs.PortView.{PortView, passed_to, AgreesWithOwnLane}
use Rattle.lane_queue.specs.Ports.{terms_of}
use Rattle.lane_queue.specs.Joining.{popped_on, retired, ArePassesOf, IsBelow, ArePassesBelow, ArePassesJoinedWith, all_ports_view, ArePassesOfAll, ArePorts, AreRetired, AllAgreeWithOwnLane}

-- ---- what the joined pass knows after one more port
takens : (ports : List PortView) (p : PortView) (i : ℕ) → p.number ≡ length ports
    → slice_index_or (map (λ (q : PortView). q.popped) ports) i [] ++ popped_on p i ≡ slice_index_or (map (λ (q : PortView). q.popped) (ports ++ p ∷ [])) i []
takens ports p i n = let f : PortView → List Item = λ q. q.popped in
    let m : map f (ports ++ p ∷ []) ≡ map f ports ++ p.popped ∷ [] = map-append f ports (p ∷ []) in
    let z : length (map f ports) ≡ length ports = length-map ports f in
    dite (ℕ_discrete i p.number)
    (λ e. let a : slice_index_or (map f ports) i [] ≡ [] = get_or-eq_default (map f ports) [] (omega arith) in
    let b : popped_on p i ≡ p.popped = ap (λ b. cond b p.popped []) (eq-eqb i p.number e) in
    ap (λ l. l ++ popped_on p i) a ∙ b ∙ sym (get_or-append_seam (map f ports) p.popped [] []) ∙ ap (λ k. slice_index_or (map f ports ++ p.popped ∷ []) k []) (z ∙ sym n ∙ sym e) ∙ ap (λ l. slice_index_or l i []) (sym m))
    (λ e. let b : popped_on p i ≡ [] = ap (λ b. cond b p.popped []) (ne_eqb i p.number e) in
    ap (λ l. slice_index_or (map f ports) i [] ++ l) b ∙ append-nil (slice_index_or (map f ports) i []) ∙
    dite (dec_le (length ports) i)
    (λ ge. get_or-eq_default (map f ports) [] (omega arith) ∙ sym (get_or-eq_default (map f (ports ++ p ∷ [])) [] (let y = length-map (ports ++ p ∷ []) f in let x = length-append ports (p ∷ []) in omega arith)))
    (λ lt. sym (get_or_append_left (map f ports) (p.popped ∷ []) [] i (omega arith)) ∙ ap (λ l. slice_index_or l i []) (sym m)))

all_ports_more : (workers : ℕ) (sizes : Sizes) (ports : List PortView) (p : PortView) (i : ℕ) → p.number ≡ length ports
    → joined (terms_of workers i sizes) (length ports + 1) (map (λ q. passed_to q i) ports ++ passed_to p i ∷ []) (slice_index_or (map (λ (q : PortView). q.popped) ports) i [] ++ popped_on p i) [] ≡ all_ports_view workers sizes (ports ++ p ∷ []) i
all_ports_more workers sizes ports p i n = λ j. joined (terms_of workers i sizes) (sym (length-append ports (p ∷ [])) j) (sym (map-append (λ q. passed_to q i) ports (p ∷ [])) j) (takens ports p i n j) []

-- ---- the ports before `next` have given their passes away
pub record Gathered (workers : ℕ) (sizes : Sizes) (next : ℕ) (lanes : List Lane) (given ports : List PortView) (roots : List RootPass) : Type 0 where
  pub lengths : length ports ≡ length given
  pub gone : (i : ℕ) (d : PortView) → i < next → get_or ports i d ≡ retired (get_or given i d)
  pub rest : (i : ℕ) (d : PortView) → next ≤ i → get_or ports i d ≡ get_or given i d
  pub have : ArePassesOfAll workers sizes (take next given) lanes roots
  pub kept : (i : ℕ) (d : PortView) → i < next → AgreesWithOwnLane (get_or given i d)

module _ (workers : ℕ) (sizes : Sizes) (lanes : List Lane) (ids : List (SegId Global)) (given : List PortView) (are : ArePorts workers sizes ids given) where
  taken_front : (next : ℕ) (p : PortView) → next < workers → p ≡ get_or given next p → take (next + 1) given ≡ take next given ++ p ∷ []
  taken_front next p lt is = let z = are.0 in let e : next + 1 ≡ suc next = omega arith in ap (λ n. take n given) e ∙ take-suc given next p (omega arith) ∙ ap (λ q. take next given ++ q ∷ []) (sym is)

  front_long : (next : ℕ) → next ≤ workers → length (take next given) ≡ next
  front_long next le = let z = are.0 in omega (arith, length-take next given)

  pub gathered-first : (ports : List PortView) (p new : PortView) (roots : List RootPass) → 0 < workers → p ≡ get_or given 0 p → length roots ≡ workers → ArePassesOf workers p lanes roots → AgreesWithOwnLane p → new ≡ retired p → ports ≡ set given 0 new → Gathered workers sizes 1 lanes given ports roots
  gathered-first ports p new roots lt is lengths h kept gone set_is = let z = are.0 in let a = are.1 0 p lt in
      let number : p.number ≡ 0 = ap (λ (q : PortView). q.number) is ∙ a.2 in let store : p.sizes ≡ sizes = ap (λ (q : PortView). q.sizes) is ∙ a.1 in
      subst (λ l. Gathered workers sizes 1 lanes given l roots) (sym set_is) (record {
        lengths = length-set given 0 new;
        gone = λ i d less. let q : i ≡ 0 = omega arith in
            ap (λ k. get_or (set given 0 new) k d) q ∙ get_or-set_same given 0 new d (omega arith) ∙ gone ∙ ap retired (is ∙ get_or_default given 0 p d (omega arith) ∙ ap (λ k. get_or given k d) (sym q));
        rest = λ i d le. get_or-set_other given 0 i new d (λ q. omega arith);
        have = (
          lengths,
          λ i d e less. let r = h i d e less in
              (r.0, r.1 ∙ (λ j. port (terms_of workers i (store j)) (number j) (passed_to p i) (popped_on p i)) ∙ all_ports_more workers sizes [] p i number ∙ ap (λ l. all_ports_view workers sizes l i) (sym (taken_front 0 p lt is))),
        );
        kept = λ i d less. let q : i ≡ 0 = omega arith in subst AgreesWithOwnLane (is ∙ get_or_default given 0 p d (omega arith) ∙ ap (λ k. get_or given k d) (sym q)) kept;
      })

  pub roots-below : (next : ℕ) (ports : List PortView) (p : PortView) (roots : List RootPass) → Gathered workers sizes next lanes given ports roots → next < workers → p ≡ get_or ports next p → ArePassesBelow workers p lanes roots
  roots-below next ports p roots h lt is i d e less = let r = h.have.1 i d e less in let z = are.0 in
      let was : p ≡ get_or given next p = is ∙ h.rest next p (omega arith) in let a = are.1 next p lt in
      let number : p.number ≡ next = ap (λ (q : PortView). q.number) was ∙ a.2 in let store : p.sizes ≡ sizes = ap (λ (q : PortView). q.sizes) was ∙ a.1 in
      let front = take next given in let fl : length front ≡ next = front_long next (omega arith) in
      let f : PortView → List Item = λ q. q.popped in (
        r.0,
        subst (λ (v : View). IsBelow workers p i v) (sym r.1) (
          (refl, length-map front (λ q. passed_to q i)),
          refl,
          ap (λ (s : Sizes). terms_of workers i s) (sym store),
          fl ∙ sym number,
          λ not. get_or-eq_default (map f front) [] (let y = length-map front f in omega arith),
        ),
      )

  pub gathered-more : (next : ℕ) (ports ports' : List PortView) (p new : PortView) (roots roots' : List RootPass) → Gathered workers sizes next lanes given ports roots → next < workers → p ≡ get_or ports next p
      → length roots' ≡ workers → ArePassesJoinedWith workers p lanes roots roots' → AgreesWithOwnLane p → new ≡ retired p → ports' ≡ set ports next new → Gathered workers sizes (next + 1) lanes given ports' roots'
  gathered-more next ports ports' p new roots roots' h lt is lengths w kept gone set_is = let z = are.0 in let y = h.lengths in
      let was : p ≡ get_or given next p = is ∙ h.rest next p (omega arith) in let a = are.1 next p lt in
      let number : p.number ≡ next = ap (λ (q : PortView). q.number) was ∙ a.2 in
      let front = take next given in let fl : length front ≡ next = front_long next (omega arith) in
      subst (λ l. Gathered workers sizes (next + 1) lanes given l roots') (sym set_is) (record {
        lengths = length-set ports next new ∙ h.lengths;
        gone = λ i d less. dite (ℕ_discrete i next)
            (λ q. ap (λ k. get_or (set ports next new) k d) q ∙ get_or-set_same ports next new d (omega arith) ∙ gone ∙ ap retired (was ∙ get_or_default given next p d (omega arith) ∙ ap (λ k. get_or given k d) (sym q)))
            (λ q. get_or-set_other ports next i new d q ∙ h.gone i d (omega arith));
        rest = λ i d le. get_or-set_other ports next i new d (λ q. omega arith) ∙ h.rest i d (omega arith);
        have = (
          lengths,
          λ i d e less. let r = w i d e less in let o = (h.have.1 i d e less).1 in (
            r.0,
            r.1 ∙ ap (λ (v : View). joined v.terms (v.high + 1) (v.sent ++ passed_to p i ∷ []) (v.taken ++ popped_on p i) []) o
                ∙ all_ports_more workers sizes front p i (number ∙ sym fl) ∙ ap (λ l. all_ports_view workers sizes l i) (sym (taken_front next p lt was)),
          ),
        );
        kept = λ i d less. dite (ℕ_discrete i next)
            (λ q. subst AgreesWithOwnLane (was ∙ get_or_default given next p d (omega arith) ∙ ap (λ k. get_or given k d) (sym q)) kept)
            (λ q. h.kept i d (omega arith));
      })

  pub gathered-all : (next : ℕ) (ports : List PortView) (roots : List RootPass) → Gathered workers sizes next lanes given ports roots → next ≡ workers → ArePassesOfAll workers sizes given lanes roots × AreRetired workers given ports × AllAgreeWithOwnLane workers given
  gathered-all next ports roots h e = let z = are.0 in
      (subst (λ l. ArePassesOfAll workers sizes l lanes roots) (take_all next given (omega arith)) h.have, (h.lengths ∙ z, λ i d lt. h.gone i d (omega arith)), λ i d lt. h.kept i d (omega arith))
