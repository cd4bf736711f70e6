-- Loops that issue passes.
use Rattle.std.proofs.Common.{◌≡◌, ℕ, zero, suc, ◌+◌, ◌^◌, ◌<◌, ◌≤◌, List, [], ◌∷◌, ◌++◌, map, length, get_or, set, sym, refl, ap, ◌∙◌, subst, inl, inr, arith, Some}
use Rattle.std.specs.Prelude.{slice_index_or}
use Rattle.std.proofs.lemmas.List.{get_or-set_same, get_or-set_other, get_or_append_left, get_or_default, get_or-map, length-set, length-append}
use Rattle.std.proofs.lemmas.Simd.{map-map}
use Rattle.std.proofs.Math.Seq.{get_or-append_seam}
use mathlib.Core.Logic.{dite}
use native.Mathlib.Decide.{ℕ_discrete}
use Rattle.req_table.specs.declared.Item.{Item}
use Rattle.req_table.specs.declared.Sizes.{Sizes}
use Rattle.lane_queue.specs.declared.rule.Lane.{Lane}
use Rattle.lane_queue.specs.declared.make.RootPass.{RootPass}
use Rattle.lane_queue.specs.declared.endpoint.Endpoint.{Endpoint}
use Rattle.crossbeam_queue.specs.SegTies.{SegId, IsSegPassOf}
use Rattle.std.specs.declared.alloc.Global.{Global}
use Rattle.lane_queue.specs.declared.rule.View.{View}
use Rattle.lane_queue.specs.Rule.{blank, issuer, port, own_sent, IsPort}
use Rattle.req_table.specs.Lanes.{ends}
use Rattle.lane_queue.proofs.Endpoints.{on_live, live_carries_nothing}
use Rattle.lane_queue.proofs.Rounds.{element}
use Rattle.lane_queue.specs.Endpoint.{endpoint_view, IsLiveOn}
use Rattle.lane_queue.specs.Ports.{terms_of, endpoint_queue, endpoint_sent, endpoint_taken, endpoint_put, IsValidPort, view_of}
use Rattle.lane_queue.specs.PortView.{AgreesWithOwnLane}
use Rattle.lane_queue.specs.Make.{IsIssuer, AreIssuers, IsNewEndpoint, AreNewEndpoints, new_port}

-- for the port `number`, the lanes below k have issued the pass
pub record Issued (workers : ℕ) (sizes : Sizes) (number k : ℕ) (lanes : List Lane) (roots : List RootPass) (endpoints : List Endpoint) : Type 0 where
  pub roots_long : length roots ≡ length lanes
  pub endpoints_long : length endpoints ≡ k
  pub within : k ≤ length lanes
  pub done : (i : ℕ) (d : Lane) (e : RootPass) → i < k → IsIssuer workers sizes (number + 1) i (slice_index_or lanes i d) (slice_index_or roots i e)
  pub ahead : (i : ℕ) (d : Lane) (e : RootPass) → k ≤ i → i < length lanes → IsIssuer workers sizes number i (slice_index_or lanes i d) (slice_index_or roots i e)
  pub made : (i : ℕ) (d : Lane) (e : Endpoint) → i < k → IsNewEndpoint workers sizes number i (slice_index_or lanes i d) (slice_index_or endpoints i e)

pub issued-more : (workers : ℕ) (sizes : Sizes) (number k : ℕ) (lanes : List Lane) (roots : List RootPass) (endpoints : List Endpoint) (lane : Lane) (root : RootPass) (endpoint : Endpoint)
    → Issued workers sizes number k lanes roots endpoints → k < length lanes → lane ≡ get_or lanes k lane → IsIssuer workers sizes (number + 1) k lane root → IsNewEndpoint workers sizes number k lane endpoint
    → Issued workers sizes number (k + 1) lanes (set roots k root) (endpoints ++ endpoint ∷ [])
issued-more workers sizes number k lanes roots endpoints lane root endpoint h lt is r n =
    let at : (d : Lane) → lane ≡ get_or lanes k d = λ d. is ∙ get_or_default lanes k lane d lt in
    let here : k < length roots = subst (λ m. k < m) (sym h.roots_long) lt in
    record {
      roots_long = length-set roots k root ∙ h.roots_long;
      endpoints_long = length-append endpoints (endpoint ∷ []) ∙ ap (λ m. m + 1) h.endpoints_long;
      within = omega arith;
      done = λ i d e less. dite (ℕ_discrete i k)
          (λ q. subst (λ (y : ℕ × Lane × RootPass). IsIssuer workers sizes (number + 1) y.0 y.1 y.2)
          (λ j. (sym q j, (at d ∙ ap (λ m. get_or lanes m d) (sym q)) j, (sym (get_or-set_same roots k root e here) ∙ ap (λ m. get_or (set roots k root) m e) (sym q)) j)) r)
          (λ q. subst (λ (y : RootPass). IsIssuer workers sizes (number + 1) i (get_or lanes i d) y) (sym (get_or-set_other roots k i root e q)) (h.done i d e (omega arith)));
      ahead = λ i d e more less. subst (λ (y : RootPass). IsIssuer workers sizes number i (get_or lanes i d) y) (sym (get_or-set_other roots k i root e (λ q. omega arith))) (h.ahead i d e (omega arith) less);
      made = λ i d e less. dite (ℕ_discrete i k)
          (λ q. subst (λ (y : ℕ × Lane × Endpoint). IsNewEndpoint workers sizes number y.0 y.1 y.2)
          (λ j. (sym q j, (at d ∙ ap (λ m. get_or lanes m d) (sym q)) j, (sym (get_or-append_seam endpoints endpoint [] e) ∙ ap (λ m. get_or (endpoints ++ endpoint ∷ []) m e) (h.endpoints_long ∙ sym q)) j)) n)
          (λ q. subst (λ (y : Endpoint). IsNewEndpoint workers sizes number i (get_or lanes i d) y) (sym (get_or_append_left endpoints (endpoint ∷ []) e i (let z = h.endpoints_long in omega arith))) (h.made i d e (omega arith)));
    }

pub issued-none : (workers : ℕ) (sizes : Sizes) (number : ℕ) (lanes : List Lane) (roots : List RootPass) → AreIssuers workers sizes number lanes roots → Issued workers sizes number 0 lanes roots []
issued-none workers sizes number lanes roots h = record {
  roots_long = h.0;
  endpoints_long = refl;
  within = omega arith;
  done = λ i d e lt. absurd (omega arith);
  ahead = λ i d e _ lt. h.1 i d e lt;
  made = λ i d e lt. absurd (omega arith);
}

pub issued-start : (workers : ℕ) (sizes : Sizes) (number : ℕ) (lanes : List Lane) (roots : List RootPass) (endpoints : List Endpoint) → endpoints ≡ [] → AreIssuers workers sizes number lanes roots → Issued workers sizes number 0 lanes roots endpoints
issued-start workers sizes number lanes roots endpoints e h = subst (λ l. Issued workers sizes number 0 lanes roots l) (sym e) (issued-none workers sizes number lanes roots h)

pub issued-all : (workers : ℕ) (sizes : Sizes) (number k : ℕ) (lanes : List Lane) (roots : List RootPass) (endpoints : List Endpoint) → Issued workers sizes number k lanes roots endpoints → length lanes ≤ k
    → AreIssuers workers sizes (number + 1) lanes roots × AreNewEndpoints workers sizes number lanes endpoints
issued-all workers sizes number k lanes roots endpoints h le = let a = h.within in let z = h.endpoints_long in (
  (h.roots_long, λ i d e lt. h.done i d e (omega arith)),
  (omega arith, λ i d e lt. h.made i d e (omega arith)),
)

-- one more lane has issued the pass, by the clauses of `issue_for`
pub issued-step : (workers : ℕ) (sizes : Sizes) (number k : ℕ) (lanes : List Lane) (roots : List RootPass) (endpoints endpoints' : List Endpoint) (lane : Lane) (old root : RootPass) (endpoint : Endpoint)
    → Issued workers sizes number k lanes roots endpoints → k < length lanes → lane ≡ get_or lanes k lane → old ≡ get_or roots k old
    → IsSegPassOf lane.queue root.pass → root.pass.me.view.client ≡ issuer (terms_of workers k sizes) (old.pass.me.view.client.low + 1)
    → IsLiveOn lane.queue endpoint.pass_state → endpoint_view endpoint ≡ port (terms_of workers k sizes) old.pass.me.view.client.low [] [] → endpoint.ends ≡ 0 → endpoint.put ≡ 0
    → endpoints' ≡ endpoints ++ endpoint ∷ []
    → Issued workers sizes number (k + 1) lanes (set roots k root) endpoints'
issued-step workers sizes number k lanes roots endpoints endpoints' lane old root endpoint h lt at was queue client live view ends put is =
    let low : old.pass.me.view.client.low ≡ number = ap (λ (r : RootPass). r.pass.me.view.client.low) was ∙ (h.ahead k lane old (omega arith) lt).2 in
    let c : root.pass.me.view.client ≡ issuer (terms_of workers k sizes) (number + 1) = client ∙ ap (λ n. issuer (terms_of workers k sizes) (n + 1)) low in
    subst (λ l. Issued workers sizes number (k + 1) lanes (set roots k root) l) (sym is)
    (issued-more workers sizes number k lanes roots endpoints lane root endpoint h lt at (queue, inr c, ap (λ (v : View). v.low) c)
    (live, view ∙ ap (λ n. port (terms_of workers k sizes) n [] []) low, ends, put))

-- ---- lanes that were opened
pub record Opened (workers : ℕ) (sizes : Sizes) (k : ℕ) (lanes : List Lane) (roots : List RootPass) : Type 0 where
  pub lanes_long : length lanes ≡ k
  pub roots_long : length roots ≡ k
  pub each : (i : ℕ) (d : Lane) (e : RootPass) → i < k → IsIssuer workers sizes 0 i (slice_index_or lanes i d) (slice_index_or roots i e)

pub opened-more : (workers : ℕ) (sizes : Sizes) (k : ℕ) (lanes lanes' : List Lane) (roots roots' : List RootPass) (lane : Lane) (root : RootPass) → Opened workers sizes k lanes roots
    → IsSegPassOf lane.queue root.pass → root.pass.me.view.client ≡ blank → lanes' ≡ lanes ++ lane ∷ [] → roots' ≡ roots ++ root ∷ []
    → Opened workers sizes (k + 1) lanes' roots'
opened-more workers sizes k lanes lanes' roots roots' lane root h queue client a b = subst (λ (y : List Lane × List RootPass). Opened workers sizes (k + 1) y.0 y.1) (λ j. (sym a j, sym b j)) (record {
  lanes_long = length-append lanes (lane ∷ []) ∙ ap (λ m. m + 1) h.lanes_long;
  roots_long = length-append roots (root ∷ []) ∙ ap (λ m. m + 1) h.roots_long;
  each = λ i d e less. dite (ℕ_discrete i k)
      (λ q. subst (λ (y : ℕ × Lane × RootPass). IsIssuer workers sizes 0 y.0 y.1 y.2)
      (λ j. (sym q j, (sym (get_or-append_seam lanes lane [] d) ∙ ap (λ m. get_or (lanes ++ lane ∷ []) m d) (h.lanes_long ∙ sym q)) j, (sym (get_or-append_seam roots root [] e) ∙ ap (λ m. get_or (roots ++ root ∷ []) m e) (h.roots_long ∙ sym q)) j))
      (queue, inl client, ap (λ (v : View). v.low) client))
      (λ q. subst (λ (y : Lane × RootPass). IsIssuer workers sizes 0 i y.0 y.1)
      (λ j. (sym (get_or_append_left lanes (lane ∷ []) d i (let z = h.lanes_long in omega arith)) j, sym (get_or_append_left roots (root ∷ []) e i (let z = h.roots_long in omega arith)) j)) (h.each i d e (omega arith)));
})

pub opened-all : (workers : ℕ) (sizes : Sizes) (k : ℕ) (lanes : List Lane) (roots : List RootPass) → Opened workers sizes k lanes roots → AreIssuers workers sizes 0 lanes roots
opened-all workers sizes k lanes roots h = (h.roots_long ∙ sym h.lanes_long, λ i d e lt. h.each i d e (let z = h.lanes_long in omega arith))

-- ---- a port of new endpoints
pub map-both : {A B C : Type 0} (f : A → C) (g : B → C) (xs : List A) (ys : List B) → length xs ≡ length ys → ((i : ℕ) (d : A) (e : B) → i < length ys → f (get_or xs i d) ≡ g (get_or ys i e)) → map f xs ≡ map g ys
map-both f g [] [] n h = refl
map-both f g [] (y ∷ ys) n h = absurd (omega arith)
map-both f g (x ∷ xs) [] n h = absurd (omega arith)
map-both f g (x ∷ xs) (y ∷ ys) n h = λ j. h 0 x y (omega arith) j ∷ map-both f g xs ys (omega arith) (λ i d e lt. h (suc i) d e (omega arith)) j

module _ (workers number : ℕ) (sizes : Sizes) (lanes : List Lane) (endpoints : List Endpoint) (lengths : length lanes ≡ workers) (n : AreNewEndpoints workers sizes number lanes endpoints) (lt : number < workers) where
  pub new-ok : sizes.levels < 2 ^ 16 → IsValidPort number sizes endpoints
  new-ok few = let z = n.0 in record {
    within = omega arith;
    few = few;
    each = λ i d less. let d' : Lane = element lanes i (omega arith) in let h = n.1 i d' d (omega arith) in let v = h.1 in record {
      terms = ap (λ (u : View). u.terms) v ∙ ap (λ m. terms_of m i sizes) (sym lengths ∙ sym z);
      low = ap (λ (u : View). u.low) v;
      endpoint = (subst IsPort (sym v) refl, h.2 ∙ ap (λ (u : View). ends (own_sent u)) (sym v));
      carries_nothing = live_carries_nothing (get_or lanes i d').queue (get_or endpoints i d).pass_state h.0;
      other = λ _. ap (λ (u : View). u.taken) v;
    };
  }

  pub new-view : view_of number sizes endpoints [] [] ≡ new_port number sizes (map (λ (x : Lane). x.queue) lanes)
  new-view = let z = n.0 in
      let a : map endpoint_queue endpoints ≡ map (λ (q : SegId Global). Some q) (map (λ (x : Lane). x.queue) lanes) =
      map-both endpoint_queue (λ (x : Lane). Some x.queue) endpoints lanes z (λ i d e less. on_live (get_or lanes i e).queue (get_or endpoints i d).pass_state (n.1 i e d less).0)
      ∙ sym (map-map (λ (q : SegId Global). Some q) (λ (x : Lane). x.queue) lanes) in
      let s : map endpoint_sent endpoints ≡ map (λ (q : SegId Global). []) (map (λ (x : Lane). x.queue) lanes) =
      map-both endpoint_sent (λ (x : Lane). []) endpoints lanes z (λ i d e less. ap own_sent (n.1 i e d less).1)
      ∙ sym (map-map (λ (q : SegId Global). []) (λ (x : Lane). x.queue) lanes) in
      let p : map endpoint_put endpoints ≡ map (λ (q : SegId Global). 0) (map (λ (x : Lane). x.queue) lanes) =
      map-both endpoint_put (λ (x : Lane). 0) endpoints lanes z (λ i d e less. (n.1 i e d less).3)
      ∙ sym (map-map (λ (q : SegId Global). 0) (λ (x : Lane). x.queue) lanes) in
      let d : Endpoint = element endpoints number (omega arith) in let d' : Lane = element lanes number (omega arith) in
      let t : slice_index_or (map endpoint_taken endpoints) number [] ≡ [] = get_or-map endpoint_taken endpoints number d [] (omega arith) ∙ ap (λ (u : View). u.taken) (n.1 number d' d (omega arith)).1 in
      λ j. record { number = number; lanes = a j; sizes = sizes; passed = s j; put = p j; popped = t j; own = []; taken = [] }

-- a port that has sent and taken nothing has kept nothing
abbrev no-items : List Item
no-items = []

none-sent : {A : Type 0} (xs : List A) (i : ℕ) → slice_index_or (map (λ (q : A). no-items) xs) i [] ≡ []
none-sent [] i = refl
none-sent (x ∷ xs) zero = refl
none-sent (x ∷ xs) (suc i) = none-sent xs i

pub new-kept : (number : ℕ) (sizes : Sizes) (lanes : List (SegId Global)) → AgreesWithOwnLane (new_port number sizes lanes)
new-kept number sizes lanes = let none : slice_index_or (map (λ (q : SegId Global). no-items) lanes) number [] ≡ [] = none-sent lanes number in record {
  fair = tt;
  ended = ap ends (sym none);
  others = λ o n. refl;
  under_way = [];
  all = refl;
  through = none;
}
