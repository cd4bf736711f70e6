-- A port after it has given its passes away, and what these passes are.
use Rattle.std.proofs.Common.{◌≡◌, ℕ, ◌<◌, cond, List, [], map, length, get_or, sym, ap, ◌∙◌, subst, arith, Option, Some, None, Result, Ok, Err, eq-eqb, ne_eqb}
use Rattle.std.specs.Prelude.{slice_index_or, IfOk, OnOk, OnErr}
use Rattle.std.proofs.lemmas.List.{get_or_default, get_or-map, length-map}
use Rattle.std.proofs.lemmas.Simd.{map-map}
use mathlib.Core.Logic.{dite}
use native.Mathlib.Decide.{ℕ_discrete}
use Rattle.crossbeam_queue.specs.SegTies.{SegId}
use Rattle.std.specs.declared.alloc.Global.{Global}
use Rattle.req_table.specs.declared.Item.{Item}
use Rattle.req_table.specs.declared.Sizes.{Sizes}
use Rattle.lane_queue.specs.declared.rule.Terms.{Terms}
use Rattle.lane_queue.specs.declared.rule.View.{View}
use Rattle.lane_queue.specs.declared.rule.Lane.{Lane}
use Rattle.lane_queue.specs.declared.make.RootPass.{RootPass}
use Rattle.lane_queue.specs.declared.endpoint.PassState.{PassState}
use Rattle.lane_queue.specs.declared.endpoint.PassState.TheVariants.{Live, Joined}
use Rattle.lane_queue.specs.declared.endpoint.Endpoint.{Endpoint}
use Rattle.req_table.specs.Lanes.{ends}
use Rattle.lane_queue.specs.Rule.{port, own_sent, IsPort}
use Rattle.lane_queue.specs.Endpoint.{endpoint_view, IsLiveOn}
use Rattle.lane_queue.specs.PortView.{PortView, passed_to, AgreesWithOwnLane}
use Rattle.lane_queue.specs.Ports.{terms_of, pass_state_queue, CarriesNothing, endpoint_queue, endpoint_sent, endpoint_taken, endpoint_put, IsEndpointOfPort, IsValidPort, view_of}
use Rattle.lane_queue.specs.Joining.{root_pass_view, Retired, MayJoinAll, JoinedTo, HaveJoined, HaveBegun, AllLive, popped_on, pass_view, retired, ArePassesOf, ArePassesBelow, ArePassesJoinedWith}
use Rattle.lane_queue.proofs.Keeping.{kept-retired}
use Rattle.lane_queue.proofs.Making.{map-both}
use Rattle.lane_queue.proofs.Rounds.{element}

pub map-alike : {A C : Type 0} (f g : A → C) (xs ys : List A) → length xs ≡ length ys → ((i : ℕ) (d : A) → i < length ys → f (get_or xs i d) ≡ g (get_or ys i d)) → map f xs ≡ map g ys
map-alike f g xs ys n h = map-both f g xs ys n (λ i d e lt. ap f (get_or_default xs i d e (omega arith)) ∙ h i e lt)

live_on : (q : SegId Global) (h : PassState) → pass_state_queue h ≡ Some q → CarriesNothing h → IsLiveOn q h
live_on q (Live pass) e a = let r : record { web = pass.web; heap = pass.heap } ≡ q = cc in ((ap (λ (s : SegId Global). s.web) r, ap (λ (s : SegId Global). s.heap) r), a.0, a.1)
live_on q (Joined was) e a = absurd (cc)

joined_carries_nothing : (h : PassState) → pass_state_queue h ≡ None → CarriesNothing h
joined_carries_nothing (Live pass) e = absurd (cc)
joined_carries_nothing (Joined was) e = tt

module _ (number : ℕ) (sizes : Sizes) (endpoints : List Endpoint) (own taken : List Item) (p : PortView) (workers : ℕ) (lanes : List Lane)
    (is : view_of number sizes endpoints own taken ≡ p) (ok : IsValidPort number sizes endpoints) (lengths : length lanes ≡ workers) (of : p.lanes ≡ map (λ (q : SegId Global). Some q) (map (λ (x : Lane). x.queue) lanes)) where
  endpoints_long : length endpoints ≡ workers
  endpoints_long = sym (length-map endpoints endpoint_queue) ∙ ap (λ (u : PortView). length u.lanes) is ∙ ap (λ l. length l) of ∙ length-map (map (λ (x : Lane). x.queue) lanes) (λ (q : SegId Global). Some q) ∙ length-map lanes (λ (x : Lane). x.queue) ∙ lengths

  on_at : (i : ℕ) (d : Lane) (f : Endpoint) → i < workers → endpoint_queue (get_or endpoints i f) ≡ Some (get_or lanes i d).queue
  on_at i d f lt = let z = endpoints_long in
      let lt' : i < length (map (λ (x : Lane). x.queue) lanes) = subst (λ n. i < n) (sym lengths ∙ sym (length-map lanes (λ (x : Lane). x.queue))) lt in
      sym (get_or-map endpoint_queue endpoints i f None (omega arith)) ∙ ap (λ (u : PortView). slice_index_or u.lanes i None) is ∙ ap (λ l. slice_index_or l i None) of
      ∙ get_or-map (λ (q : SegId Global). Some q) (map (λ (x : Lane). x.queue) lanes) i d.queue None lt' ∙ ap (λ (q : SegId Global). Some q) (get_or-map (λ (x : Lane). x.queue) lanes i d d.queue (omega arith))

  endpoint_at : (i : ℕ) (f : Endpoint) → i < workers → IsEndpointOfPort workers number sizes i (get_or endpoints i f)
  endpoint_at i f lt = let z = endpoints_long in subst (λ n. IsEndpointOfPort n number sizes i (get_or endpoints i f)) z (ok.each i f (omega arith))

  sent_at : (i : ℕ) (f : Endpoint) → i < workers → endpoint_sent (get_or endpoints i f) ≡ passed_to p i
  sent_at i f lt = let z = endpoints_long in sym (get_or-map endpoint_sent endpoints i f [] (omega arith)) ∙ ap (λ (u : PortView). slice_index_or u.passed i []) is

  taken_at : (i : ℕ) (f : Endpoint) → i < workers → endpoint_taken (get_or endpoints i f) ≡ popped_on p i
  taken_at i f lt = let z = endpoints_long in let n : number ≡ p.number = ap (λ (u : PortView). u.number) is in dite (ℕ_discrete i number)
      (λ q. sym (get_or-map endpoint_taken endpoints i f [] (omega arith)) ∙ ap (λ m. slice_index_or (map endpoint_taken endpoints) m []) q ∙ ap (λ (u : PortView). u.popped) is ∙ sym (ap (λ b. cond b p.popped []) (eq-eqb i p.number (q ∙ n))))
      (λ q. (endpoint_at i f lt).other q ∙ sym (ap (λ b. cond b p.popped []) (ne_eqb i p.number (λ e. q (e ∙ sym n)))))

  -- the view of the endpoint, by the port's
  pub view_at : (i : ℕ) (f : Endpoint) → i < workers → endpoint_view (get_or endpoints i f) ≡ pass_view workers p i
  view_at i f lt = let h = endpoint_at i f lt in
      h.endpoint.0 ∙ (λ j. port ((h.terms ∙ ap (λ (u : PortView). terms_of workers i u.sizes) is) j) ((h.low ∙ ap (λ (u : PortView). u.number) is) j) (sent_at i f lt j) (taken_at i f lt j))

  pub all-live : AllLive workers lanes endpoints
  all-live i d f lt = live_on (get_or lanes i d).queue (get_or endpoints i f).pass_state (on_at i d f lt) (endpoint_at i f lt).carries_nothing

  pub roots-of : (roots : List RootPass) (endpoints' : List Endpoint) → HaveBegun workers lanes roots endpoints endpoints' → ArePassesOf workers p lanes roots
  roots-of roots endpoints' h i d e lt = let z = endpoints_long in let f = element endpoints i (omega arith) in let a = h i d e f lt in (a.0, a.1 ∙ view_at i f lt)

  pub may-join : (roots : List RootPass) → ArePassesBelow workers p lanes roots → MayJoinAll workers lanes roots endpoints
  may-join roots h i d e f lt = let b = h i d e lt in let v = view_at i f lt in let k = b.1 in let o : (root_pass_view (get_or roots i e)).terms.owner ≡ i = ap (λ (t : Terms). t.owner) k.2 in record {
    queue = b.0;
    live = all-live i d f lt;
    below = (k.0, k.1);
    one = (endpoint_at i f lt).endpoint;
    terms = ap (λ (u : View). u.terms) v ∙ sym k.2;
    low = ap (λ (u : View). u.low) v ∙ sym k.3;
    next_took_nothing = λ n. ap (λ (u : View). u.taken) v ∙ ap (λ b. cond b p.popped []) (ne_eqb i p.number (λ q. n (k.3 ∙ sym q ∙ sym o)));
    root_took_nothing = λ n. k.4 (λ q. n (subst (λ (y : ℕ × ℕ). y.0 < y.1) (λ j. (sym o j, sym k.3 j)) q));
  }

  pub roots-with : (roots roots' : List RootPass) (endpoints' : List Endpoint) → HaveJoined workers lanes roots roots' endpoints endpoints' → ArePassesJoinedWith workers p lanes roots roots'
  roots-with roots roots' endpoints' h i d e lt = let z = endpoints_long in let f = element endpoints i (omega arith) in let a = h i d e f lt in (a.0, a.1 ∙ ap (λ w. JoinedTo (root_pass_view (get_or roots i e)) w) (view_at i f lt))

  -- the endpoints after they have given their passes away
  module _ (endpoints' : List Endpoint) (lengths' : length endpoints' ≡ workers) (gone : (i : ℕ) (f : Endpoint) → i < workers → Retired (get_or endpoints i f) (get_or endpoints' i f)) where
    pub gone-ok : IsValidPort number sizes endpoints'
    gone-ok = let z = endpoints_long in let y = ok.within in record {
      within = omega arith;
      few = ok.few;
      each = λ i f lt. let lt' : i < workers = omega arith in let g = gone i f lt' in let h = endpoint_at i f lt' in let v = g.1 in record {
        terms = ap (λ (u : View). u.terms) v ∙ h.terms ∙ ap (λ n. terms_of n i sizes) (sym lengths');
        low = ap (λ (u : View). u.low) v ∙ h.low;
        endpoint = (subst IsPort (sym v) h.endpoint.0, g.2 ∙ h.endpoint.1 ∙ ap (λ (u : View). ends (own_sent u)) (sym v));
        carries_nothing = joined_carries_nothing (get_or endpoints' i f).pass_state g.0;
        other = λ n. ap (λ (u : View). u.taken) v ∙ h.other n;
      };
    }

    pub gone-view : view_of number sizes endpoints' own taken ≡ retired p
    gone-view = let z = endpoints_long in
        let n : length endpoints' ≡ length endpoints = omega arith in
        let a : map endpoint_queue endpoints' ≡ map (λ (q : Option (SegId Global)). None) (map endpoint_queue endpoints) =
        map-alike endpoint_queue (λ (l : Endpoint). None) endpoints' endpoints n (λ i f lt. let z' = endpoints_long in (gone i f (omega arith)).0) ∙ sym (map-map (λ (q : Option (SegId Global)). None) endpoint_queue endpoints) in
        let s : map endpoint_sent endpoints' ≡ map endpoint_sent endpoints = map-alike endpoint_sent endpoint_sent endpoints' endpoints n (λ i f lt. let z' = endpoints_long in ap own_sent (gone i f (omega arith)).1) in
        let t : map endpoint_taken endpoints' ≡ map endpoint_taken endpoints = map-alike endpoint_taken endpoint_taken endpoints' endpoints n (λ i f lt. let z' = endpoints_long in ap (λ (u : View). u.taken) (gone i f (omega arith)).1) in
        let m : map endpoint_put endpoints' ≡ map endpoint_put endpoints = map-alike endpoint_put endpoint_put endpoints' endpoints n (λ i f lt. let z' = endpoints_long in (gone i f (omega arith)).3) in
        (λ j. record { number = number; lanes = a j; sizes = sizes; passed = s j; put = m j; popped = slice_index_or (t j) number []; own = own; taken = taken }) ∙ ap retired is

    pub gone-kept : AgreesWithOwnLane p → AgreesWithOwnLane (view_of number sizes endpoints' own taken)
    gone-kept k = subst AgreesWithOwnLane (sym gone-view) (kept-retired p k)

  -- the first port, for which memory may be refused
  module _ {X E : Type 0} (items : X → List RootPass) (r : Result X E) (endpoints' : List Endpoint) where
    pub begun-ok : IfOk r (λ x. (length (items x) ≡ workers) × (length endpoints' ≡ workers)) → OnErr r (endpoints' ≡ endpoints) → IfOk r (λ x. HaveBegun workers lanes (items x) endpoints endpoints') → IsValidPort number sizes endpoints'
    begun-ok = elim r as (λ r. IfOk r (λ x. (length (items x) ≡ workers) × (length endpoints' ≡ workers)) → OnErr r (endpoints' ≡ endpoints) → IfOk r (λ x. HaveBegun workers lanes (items x) endpoints endpoints') → IsValidPort number sizes endpoints') [
      | Ok x ↦ λ a b h. gone-ok endpoints' a.1 (λ i f lt. (h i (element lanes i (omega arith)) (element (items x) i (omega arith)) f lt).2)
      | Err e ↦ λ a b h. subst (λ l. IsValidPort number sizes l) (sym b) ok
    ]

    pub begun-kept : AgreesWithOwnLane p → IfOk r (λ x. (length (items x) ≡ workers) × (length endpoints' ≡ workers)) → OnErr r (endpoints' ≡ endpoints) → IfOk r (λ x. HaveBegun workers lanes (items x) endpoints endpoints') → AgreesWithOwnLane (view_of number sizes endpoints' own taken)
    begun-kept k = elim r as (λ r. IfOk r (λ x. (length (items x) ≡ workers) × (length endpoints' ≡ workers)) → OnErr r (endpoints' ≡ endpoints) → IfOk r (λ x. HaveBegun workers lanes (items x) endpoints endpoints') → AgreesWithOwnLane (view_of number sizes endpoints' own taken)) [
      | Ok x ↦ λ a b h. gone-kept endpoints' a.1 (λ i f lt. (h i (element lanes i (omega arith)) (element (items x) i (omega arith)) f lt).2) k
      | Err e ↦ λ a b h. subst AgreesWithOwnLane (sym is ∙ ap (λ l. view_of number sizes l own taken) (sym b)) k
    ]

    pub begun-view : IfOk r (λ x. (length (items x) ≡ workers) × (length endpoints' ≡ workers)) → IfOk r (λ x. HaveBegun workers lanes (items x) endpoints endpoints') → OnOk r (view_of number sizes endpoints' own taken ≡ retired p)
    begun-view = elim r as (λ r. IfOk r (λ x. (length (items x) ≡ workers) × (length endpoints' ≡ workers)) → IfOk r (λ x. HaveBegun workers lanes (items x) endpoints endpoints') → OnOk r (view_of number sizes endpoints' own taken ≡ retired p)) [
      | Ok x ↦ λ a h. gone-view endpoints' a.1 (λ i f lt. (h i (element lanes i (omega arith)) (element (items x) i (omega arith)) f lt).2)
      | Err e ↦ λ a h. tt
    ]

    pub begun-roots : IfOk r (λ x. (length (items x) ≡ workers) × (length endpoints' ≡ workers)) → IfOk r (λ x. HaveBegun workers lanes (items x) endpoints endpoints') → IfOk r (λ x. (length (items x) ≡ workers) × ArePassesOf workers p lanes (items x))
    begun-roots = elim r as (λ r. IfOk r (λ x. (length (items x) ≡ workers) × (length endpoints' ≡ workers)) → IfOk r (λ x. HaveBegun workers lanes (items x) endpoints endpoints') → IfOk r (λ x. (length (items x) ≡ workers) × ArePassesOf workers p lanes (items x))) [
      | Ok x ↦ λ a h. (a.0, roots-of (items x) endpoints' h)
      | Err e ↦ λ a h. tt
    ]
