-- A port after one of its endpoints has changed.
use Rattle.std.proofs.Common.{◌≡◌, ◌≢◌, ℕ, ◌+◌, ◌<◌, ◌≤◌, cond, eqb, arith, ⊎_elim, List, [], ◌∷◌, ◌++◌, map, length, get_or, set, sym, refl, ap, ◌∙◌, subst, Option, Some, None, inl, inr}
use Rattle.std.specs.Prelude.{MatchOption, IfSome, slice_index_or, All}
use Rattle.std.proofs.lemmas.Bool.{cases_eq}
use Rattle.std.proofs.lemmas.List.{map-set, get_or-map, get_or-set_same, get_or-set_other, length-set, length-map, append-nil}
use Rattle.std.proofs.Math.Seq.{map-set_same}
use Rattle.crossbeam_queue.specs.SegTies.{SegId}
use Rattle.std.specs.declared.alloc.Global.{Global}
use Rattle.req_table.specs.declared.Item.{Item}
use Rattle.req_table.specs.declared.Sizes.{Sizes}
use Rattle.lane_queue.specs.declared.rule.Terms.{Terms}
use Rattle.lane_queue.specs.declared.rule.View.{View}
use Rattle.lane_queue.specs.declared.endpoint.PassState.{PassState}
use Rattle.lane_queue.specs.declared.endpoint.PassState.TheVariants.{Live, Joined}
use Rattle.lane_queue.specs.declared.endpoint.Endpoint.{Endpoint}
use Rattle.lane_queue.specs.declared.rule.Lane.{Lane}
use Rattle.req_table.specs.declared.Item.TheVariants.{Ask, End as item_end}
use Rattle.req_table.specs.declared.Key.{Key}
use Rattle.req_table.specs.Wave.{Scope}
use Rattle.lane_queue.specs.declared.load.Load.{Load}
use Rattle.lane_queue.specs.declared.load.Load.TheVariants.{Bundle, End as load_end}
use Rattle.lane_queue.specs.Loads.{load_from, ask_of, items_in}
use Rattle.req_table.proofs.Lists.{Has, has_of, each, all_of, map_has}
use Rattle.req_table.proofs.Items.{sent_by_of}
use Rattle.req_table.proofs.Fair.{sent_by-append, fair_front, fair_back, fair_end}
use Rattle.lane_queue.proofs.Facts.{all-one, load-mine, fair-begins}
use Rattle.lane_queue.proofs.Keeping.{all-taken, taken-next, kept-take, kept-keep}
use Rattle.lane_queue.specs.Rule.{scope, port, own_sent, IsNext, OwnSentInOrder}
use Rattle.req_table.specs.Sizes.{scope_of}
use Rattle.req_table.specs.Lanes.{sender_of, sent_by, ends, MayFollow, IsFair, IsFairFrom}
use Rattle.lane_queue.specs.Lists.{IsPrefix}
use Rattle.lane_queue.specs.Endpoint.{endpoint_view, IsEndpoint, IsLiveOn}
use Rattle.lane_queue.specs.PortView.{PortView, LanesView, sent_to, passed_to, IsTaken, AgreesWithOwnLane, IsPortOf, IsOpen, lanes_scope, port_scope, has_put, has_taken, has_kept}
use Rattle.lane_queue.specs.Ports.{pass_state_queue, CarriesNothing, endpoint_queue, endpoint_sent, endpoint_taken, endpoint_put, terms_of, IsEndpointOfPort, IsValidPort, view_of}

pub on_live : (q : SegId Global) (h : PassState) → IsLiveOn q h → pass_state_queue h ≡ Some q
on_live q (Live pass) e = λ i. Some (record { web = e.0.0 i; heap = e.0.1 i })
on_live q (Joined was) e = absurd e

pub live_carries_nothing : (q : SegId Global) (h : PassState) → IsLiveOn q h → CarriesNothing h
live_carries_nothing q (Live pass) e = (e.1, e.2)
live_carries_nothing q (Joined was) e = absurd e

-- the endpoint of the lane `to` was `old`, and becomes `new`
module _ (number to : ℕ) (sizes : Sizes) (endpoints : List Endpoint) (old new : Endpoint) (at : to < length endpoints) (was : old ≡ get_or endpoints to old) (on : endpoint_queue new ≡ endpoint_queue old) where
  lanes-same : map endpoint_queue (set endpoints to new) ≡ map endpoint_queue endpoints
  lanes-same = map-set_same endpoint_queue endpoints to new old (on ∙ ap endpoint_queue was)

  pub sent-view : (own taken own' taken' : List Item) (x : Load) → endpoint_sent new ≡ endpoint_sent old ++ items_in x → endpoint_taken new ≡ endpoint_taken old → new.put ≡ old.put + 1 → own' ≡ cond (eqb to number) (own ++ items_in x) own → taken' ≡ taken
      → view_of number sizes (set endpoints to new) own' taken' ≡ has_put (view_of number sizes endpoints own taken) to x
  sent-view own taken own' taken' x sent took put is same =
      let t : map endpoint_taken (set endpoints to new) ≡ map endpoint_taken endpoints = map-set_same endpoint_taken endpoints to new old (took ∙ ap endpoint_taken was) in
      let g : slice_index_or (map endpoint_sent endpoints) to [] ≡ endpoint_sent old = get_or-map endpoint_sent endpoints to old [] at ∙ ap endpoint_sent (sym was) in
      let s : map endpoint_sent (set endpoints to new) ≡ set (map endpoint_sent endpoints) to (slice_index_or (map endpoint_sent endpoints) to [] ++ items_in x) =
      map-set endpoint_sent endpoints to new ∙ ap (λ l. set (map endpoint_sent endpoints) to l) (sent ∙ ap (λ l. l ++ items_in x) (sym g)) in
      let h : slice_index_or (map endpoint_put endpoints) to 0 ≡ old.put = get_or-map endpoint_put endpoints to old 0 at ∙ ap endpoint_put (sym was) in
      let p : map endpoint_put (set endpoints to new) ≡ set (map endpoint_put endpoints) to (slice_index_or (map endpoint_put endpoints) to 0 + 1) =
      map-set endpoint_put endpoints to new ∙ ap (λ n. set (map endpoint_put endpoints) to n) (put ∙ ap (λ n. n + 1) (sym h)) in
      λ i. record { number = number; lanes = lanes-same i; sizes = sizes; passed = s i; put = p i; popped = slice_index_or (t i) number []; own = is i; taken = same i }

  pub same-view : (own taken : List Item) → endpoint_view new ≡ endpoint_view old → new.put ≡ old.put → view_of number sizes (set endpoints to new) own taken ≡ view_of number sizes endpoints own taken
  same-view own taken e put =
      let t : map endpoint_taken (set endpoints to new) ≡ map endpoint_taken endpoints = map-set_same endpoint_taken endpoints to new old (ap (λ (v : View). v.taken) e ∙ ap endpoint_taken was) in
      let s : map endpoint_sent (set endpoints to new) ≡ map endpoint_sent endpoints = map-set_same endpoint_sent endpoints to new old (ap own_sent e ∙ ap endpoint_sent was) in
      let p : map endpoint_put (set endpoints to new) ≡ map endpoint_put endpoints = map-set_same endpoint_put endpoints to new old (put ∙ ap endpoint_put was) in
      λ i. record { number = number; lanes = lanes-same i; sizes = sizes; passed = s i; put = p i; popped = slice_index_or (t i) number []; own = own; taken = taken }

  pub taken-view : (own taken own' taken' : List Item) (x : Load) → to ≡ number → endpoint_sent new ≡ endpoint_sent old → endpoint_taken new ≡ endpoint_taken old ++ items_in x → new.put ≡ old.put → own' ≡ own → taken' ≡ taken ++ items_in x
      → view_of number sizes (set endpoints to new) own' taken' ≡ has_taken (view_of number sizes endpoints own taken) x
  taken-view own taken own' taken' x mine sent took put same is =
      let s : map endpoint_sent (set endpoints to new) ≡ map endpoint_sent endpoints = map-set_same endpoint_sent endpoints to new old (sent ∙ ap endpoint_sent was) in
      let p : map endpoint_put (set endpoints to new) ≡ map endpoint_put endpoints = map-set_same endpoint_put endpoints to new old (put ∙ ap endpoint_put was) in
      let g : slice_index_or (map endpoint_taken endpoints) number [] ≡ endpoint_taken old = ap (λ n. slice_index_or (map endpoint_taken endpoints) n []) (sym mine) ∙ get_or-map endpoint_taken endpoints to old [] at ∙ ap endpoint_taken (sym was) in
      let t : slice_index_or (map endpoint_taken (set endpoints to new)) number [] ≡ slice_index_or (map endpoint_taken endpoints) number [] ++ items_in x =
      ap (λ n. slice_index_or (map endpoint_taken (set endpoints to new)) n []) (sym mine) ∙ get_or-map endpoint_taken (set endpoints to new) to new [] (subst (λ n. to < n) (sym (length-set endpoints to new)) at)
      ∙ ap endpoint_taken (get_or-set_same endpoints to new new at) ∙ took ∙ ap (λ l. l ++ items_in x) (sym g) in
      λ i. record { number = number; lanes = lanes-same i; sizes = sizes; passed = s i; put = p i; popped = t i; own = same i; taken = is i }

  -- the endpoints are still those of a port
  pub set-ok : IsValidPort number sizes endpoints → (q : SegId Global) → IsLiveOn q new.pass_state → IsEndpoint new → (endpoint_view new).terms ≡ (endpoint_view old).terms → (endpoint_view new).low ≡ (endpoint_view old).low → (to ≢ number → endpoint_taken new ≡ endpoint_taken old)
      → IsValidPort number sizes (set endpoints to new)
  set-ok ok q live endpoint terms low taken =
      let here : IsEndpointOfPort (length endpoints) number sizes to old = subst (λ l. IsEndpointOfPort (length endpoints) number sizes to l) (sym was) (ok.each to old at) in
      let there : IsEndpointOfPort (length endpoints) number sizes to new = record {
        terms = terms ∙ here.terms;
        low = low ∙ here.low;
        endpoint = endpoint;
        carries_nothing = live_carries_nothing q new.pass_state live;
        other = λ h. taken h ∙ here.other h;
      } in
      record {
        within = subst (λ n. number < n) (sym (length-set endpoints to new)) ok.within;
        few = ok.few;
        each = λ i d lt.
            let lt' : i < length endpoints = subst (λ n. i < n) (length-set endpoints to new) lt in
            subst (λ n. IsEndpointOfPort n number sizes i (get_or (set endpoints to new) i d)) (sym (length-set endpoints to new))
            (elim (cases_eq i to) [
              | inl same ↦ subst (λ k. IsEndpointOfPort (length endpoints) number sizes k (get_or (set endpoints to new) k d)) (sym same)
                  (subst (λ l. IsEndpointOfPort (length endpoints) number sizes to l) (sym (get_or-set_same endpoints to new d at)) there)
              | inr apart ↦ subst (λ l. IsEndpointOfPort (length endpoints) number sizes i l) (sym (get_or-set_other endpoints to i new d apart)) (ok.each i d lt')
            ]);
      }

-- a port has an endpoint on its own lane
pub own_lane : (number : ℕ) (sizes : Sizes) (endpoints : List Endpoint) (own taken : List Item) (p : PortView) → view_of number sizes endpoints own taken ≡ p → IsValidPort number sizes endpoints → number < length p.lanes
own_lane number sizes endpoints own taken p is ok = subst (λ (u : PortView). number < length u.lanes) is (subst (λ n. number < n) (sym (length-map endpoints endpoint_queue)) ok.within)

-- a port as contracts see it, and the endpoint with which it steps
module _ (number to : ℕ) (sizes : Sizes) (endpoints : List Endpoint) (own taken : List Item) (old new : Endpoint) (q : SegId Global) (p : PortView) (is : view_of number sizes endpoints own taken ≡ p) (ok : IsValidPort number sizes endpoints)
    (was : old ≡ get_or endpoints to old) (at : to < length p.lanes) (on : slice_index_or p.lanes to None ≡ Some q) (live : IsLiveOn q new.pass_state) where
  within : to < length endpoints
  within = subst (λ n. to < n) (ap (λ (u : PortView). length u.lanes) (sym is) ∙ length-map endpoints endpoint_queue) at

  on-old : endpoint_queue new ≡ endpoint_queue old
  on-old = on_live q new.pass_state live ∙ sym (ap endpoint_queue was ∙ sym (get_or-map endpoint_queue endpoints to old None within) ∙ ap (λ (u : PortView). slice_index_or u.lanes to None) is ∙ on)

  here : IsEndpointOfPort (length endpoints) number sizes to old
  here = subst (λ l. IsEndpointOfPort (length endpoints) number sizes to l) (sym was) (ok.each to old within)

  -- with the new endpoint the port is still a port
  pub port-ok : IsEndpoint new → (endpoint_view new).terms ≡ (endpoint_view old).terms → (endpoint_view new).low ≡ (endpoint_view old).low → (to ≢ number → endpoint_taken new ≡ endpoint_taken old) → IsValidPort number sizes (set endpoints to new)
  port-ok endpoint terms low taken = set-ok number to sizes endpoints old new within was on-old ok q live endpoint terms low taken

  -- the port has put a load on the lane
  pub port-sent : (x : Load) (own' taken' : List Item) → endpoint_view new ≡ port (endpoint_view old).terms (endpoint_view old).low (own_sent (endpoint_view old) ++ items_in x) (endpoint_view old).taken → new.put ≡ old.put + 1
      → own' ≡ cond (eqb to number) (own ++ items_in x) own → taken' ≡ taken → view_of number sizes (set endpoints to new) own' taken' ≡ has_put p to x
  port-sent x own' taken' e put o t = sent-view number to sizes endpoints old new within was on-old own taken own' taken' x (ap own_sent e) (ap (λ (v : View). v.taken) e) put o t ∙ ap (λ u. has_put u to x) is

  pub wide : (length p.passed ≡ length p.lanes) × (length p.put ≡ length p.lanes)
  wide = subst (λ (u : PortView). (length u.passed ≡ length u.lanes) × (length u.put ≡ length u.lanes)) is (length-map endpoints endpoint_sent ∙ sym (length-map endpoints endpoint_queue), length-map endpoints endpoint_put ∙ sym (length-map endpoints endpoint_queue))

  pub number-within : p.number < length p.passed
  number-within = subst (λ (u : PortView). u.number < length u.passed) is (subst (λ n. number < n) (sym (length-map endpoints endpoint_sent)) ok.within)

  pub port-same : endpoint_view new ≡ endpoint_view old → new.put ≡ old.put → view_of number sizes (set endpoints to new) own taken ≡ p
  port-same e put = same-view number to sizes endpoints old new within was on-old own taken e put ∙ is

  -- the port has taken a load from its own lane
  module _ (mine : to ≡ number) (kept : AgreesWithOwnLane p) where
    took-passed : endpoint_sent old ≡ passed_to p p.number
    took-passed = ap endpoint_sent was ∙ sym (get_or-map endpoint_sent endpoints to old [] within) ∙ ap (λ (n : ℕ). slice_index_or (map endpoint_sent endpoints) n []) mine ∙ ap (λ (u : PortView). passed_to u u.number) is

    took-popped : endpoint_taken old ≡ p.popped
    took-popped = ap endpoint_taken was ∙ sym (get_or-map endpoint_taken endpoints to old [] within) ∙ ap (λ (n : ℕ). slice_index_or (map endpoint_taken endpoints) n []) mine ∙ ap (λ (u : PortView). u.popped) is

    low-is : (endpoint_view old).low ≡ p.number
    low-is = here.low ∙ ap (λ (u : PortView). u.number) is

    pub port-none : OwnSentInOrder (endpoint_view old) [] → sent_by p.number p.taken ≡ sent_to p p.number
    port-none e = all-taken p kept (subst (λ (y : ℕ × List Item × List Item). sent_by y.0 y.1 ≡ y.2) (λ j. (low-is j, (append-nil (endpoint_taken old) ∙ took-popped) j, took-passed j)) e)

    module _ (x : Load) (next : IsNext (endpoint_view old) x) where
      begins : IsPrefix (sent_by (load_from x) (p.popped ++ items_in x)) next.0
      begins = subst (λ l. IsPrefix (sent_by (load_from x) (l ++ items_in x)) next.0) took-popped next.4

      same-list : load_from x ≡ p.number → next.0 ≡ passed_to p p.number
      same-list e = next.5 (e ∙ sym low-is) ∙ took-passed

      terms-is : (endpoint_view old).terms ≡ terms_of (length p.lanes) to p.sizes
      terms-is = here.terms ∙ (λ j. terms_of ((sym (length-map endpoints endpoint_queue) ∙ ap (λ (u : PortView). length u.lanes) is) j) to (is j).sizes)

      pub port-taken : IsTaken p x
      port-taken = taken-next p kept x next.0 next.1 (subst (λ (t : Terms). load_from x < t.workers) terms-is next.2) (subst (λ (t : Terms). IsFair (scope t) next.0) terms-is next.3) begins same-list

      pub port-kept : AgreesWithOwnLane (has_taken p x)
      port-kept = kept-take p kept x (λ e. subst (λ (y : ℕ × List Item). IsPrefix (sent_by y.0 (p.popped ++ items_in x)) y.1) (λ j. (e j, same-list e j)) begins)

      pub port-took : (own' taken' : List Item) → endpoint_view new ≡ port (endpoint_view old).terms (endpoint_view old).low (own_sent (endpoint_view old)) ((endpoint_view old).taken ++ items_in x) → new.put ≡ old.put → own' ≡ own → taken' ≡ taken ++ items_in x
          → view_of number sizes (set endpoints to new) own' taken' ≡ has_taken p x
      port-took own' taken' e put a b = taken-view number to sizes endpoints old new within was on-old own taken own' taken' x mine (ap own_sent e) (ap (λ (v : View). v.taken) e) put a b ∙ ap (λ u. has_taken u x) is

-- ---- a port of these lanes
lane-of : (lanes : List Lane) (i : ℕ) (lane : Lane) → i < length lanes → lane ≡ get_or lanes i lane → slice_index_or (map (λ (q : SegId Global). Some q) (map (λ (x : Lane). x.queue) lanes)) i None ≡ Some lane.queue
lane-of lanes i lane lt is =
    get_or-map (λ (q : SegId Global). Some q) (map (λ (x : Lane). x.queue) lanes) i lane.queue None (subst (λ n. i < n) (sym (length-map lanes (λ (x : Lane). x.queue))) lt)
    ∙ ap (λ (q : SegId Global). Some q) (get_or-map (λ (x : Lane). x.queue) lanes i lane lane.queue lt ∙ ap (λ (x : Lane). x.queue) (sym is))

abbrev pub lanes_view : Sizes → List Lane → LanesView
lanes_view sizes lanes = record { lanes = map (λ (x : Lane). x.queue) lanes; sizes = sizes }

pub port-lanes : (lanes : List Lane) (sizes : Sizes) (l : LanesView) (p : PortView) → lanes_view sizes lanes ≡ l → IsPortOf l p → length p.lanes ≡ length lanes
port-lanes lanes sizes l p is of = ap (λ xs. length xs) of.0 ∙ length-map l.lanes (λ q. Some q) ∙ ap (λ (u : LanesView). length u.lanes) (sym is) ∙ length-map lanes (λ (x : Lane). x.queue)

pub port-lane : (lanes : List Lane) (sizes : Sizes) (l : LanesView) (p : PortView) (i : ℕ) (lane : Lane) → lanes_view sizes lanes ≡ l → IsPortOf l p → i < length lanes → lane ≡ get_or lanes i lane → slice_index_or p.lanes i None ≡ Some lane.queue
port-lane lanes sizes l p i lane is of lt at = ap (λ xs. slice_index_or xs i None) (of.0 ∙ ap (λ (u : LanesView). map (λ (q : SegId Global). Some q) u.lanes) (sym is)) ∙ lane-of lanes i lane lt at

pub lanes-lengths : (lanes : List Lane) (sizes : Sizes) (l : LanesView) → lanes_view sizes lanes ≡ l → length l.lanes ≡ length lanes
lanes-lengths lanes sizes l is = ap (λ (u : LanesView). length u.lanes) (sym is) ∙ length-map lanes (λ (x : Lane). x.queue)

pub port-lengths : (l : LanesView) (p : PortView) → IsPortOf l p → length p.lanes ≡ length l.lanes
port-lengths l p of = ap (λ xs. length xs) of.0 ∙ length-map l.lanes (λ q. Some q)

-- the requests of a load that was taken in its sender's order are of no closed level
open-asks : (w : Scope) (s : ℕ) (asks : List (ℕ × Key)) (taken sent : List Item) → s < w.workers → IsFair w sent → IsPrefix (sent_by s (taken ++ map (ask_of s) asks)) sent → All (IsOpen w taken) (map (ask_of s) asks)
open-asks w s asks taken sent lt fair b = all_of (IsOpen w taken) (map (ask_of s) asks) (λ y h.
    let t = map_has (ask_of s) asks y h in
    subst (IsOpen w taken) t.2 (λ closed.
    let fits : IsFair w (sent_by s taken ++ map (ask_of s) asks) = subst (IsFair w) (sent_by-append s taken (map (ask_of s) asks) ∙ ap (λ l. sent_by s taken ++ l) (load-mine s (Bundle s asks) refl)) (fair-begins w _ sent b fair) in
    let past = fair_end w 0 (sent_by s taken) s t.0.0 (fair_front w 0 (sent_by s taken) (map (ask_of s) asks) fits) (sent_by_of s taken (item_end s t.0.0) (has_of taken (item_end s t.0.0) (closed s lt)) refl) in
    let low = fair_asks w s asks (0 + ends (sent_by s taken)) t.0 (fair_back w 0 (sent_by s taken) (map (ask_of s) asks) fits) t.1 in
    omega (arith, past, low)))
  where
    fair_asks : (w : Scope) (s : ℕ) (asks : List (ℕ × Key)) (e : ℕ) (a : ℕ × Key) → IsFairFrom w e (map (ask_of s) asks) → Has asks a → e ≤ a.0
    fair_asks w s [] e a f h = absurd h
    fair_asks w s (b ∷ more) e a f h = ⊎_elim (λ (q : b ≡ a). subst (λ (z : ℕ × Key). e ≤ z.0) q f.0.0) (λ (q : Has more a). fair_asks w s more e a f.1 q) h

load-open : (w : Scope) (x : Load) (taken sent : List Item) → load_from x < w.workers → IsFair w sent → IsPrefix (sent_by (load_from x) (taken ++ items_in x)) sent → All (IsOpen w taken) (items_in x)
load-open w (Bundle from asks) taken sent lt fair b = open-asks w from asks taken sent lt fair b
load-open w (load_end from level) taken sent lt fair b = all-one (IsOpen w taken) (item_end from level) tt

pub taken-open : (l : LanesView) (p : PortView) (r : Option Load) (A : Type 0) (B : Load → Type 0) → IsPortOf l p → MatchOption r A (λ x. B x × IsTaken p x) → IfSome r (λ x. All (IsOpen (lanes_scope l) p.taken) (items_in x))
taken-open l p None A B of h = tt
taken-open l p (Some x) A B of h = let t = h.1 in
    subst (λ n. All (IsOpen (scope_of n p.sizes) p.taken) (items_in x)) (port-lengths l p of) (load-open (port_scope p) x p.taken t.0 t.2 t.3 t.4)

-- an item that was taken in its sender's order is of no closed level
pub item-open : (w : Scope) (i : Item) (taken sent : List Item) → sender_of i < w.workers → IsFair w sent → IsPrefix (sent_by (sender_of i) (taken ++ i ∷ [])) sent → IsOpen w taken i
item-open w (Ask s l x) taken sent lt fair b = let asks = (l, x) ∷ [] in each (IsOpen w taken) (map (ask_of s) asks) (Ask s l x) (open-asks w s asks taken sent lt fair b) (inl refl)
item-open w (item_end s l) taken sent lt fair b = tt

-- a request that is kept is of no closed level
pub keep-open : (p : PortView) → AgreesWithOwnLane p → p.number < length p.lanes → (level : ℕ) (key : Key) → MayFollow (port_scope p) (ends (sent_to p p.number)) (Ask p.number level key) → sent_by p.number p.taken ≡ sent_to p p.number → IsOpen (port_scope p) p.taken (Ask p.number level key)
keep-open p h lt level key may taken =
    let x = Ask p.number level key in
    let k = kept-keep p h level key may taken in
    item-open (port_scope p) x p.taken (has_kept p x).own lt k.fair (k.under_way, k.all)

-- a port's number is that of a lane
pub view-within : (number : ℕ) (sizes : Sizes) (endpoints : List Endpoint) (own taken : List Item) (p : PortView) → view_of number sizes endpoints own taken ≡ p → IsValidPort number sizes endpoints → p.number < length p.lanes
view-within number sizes endpoints own taken p is ok = subst (λ (u : PortView). u.number < length u.lanes) is (subst (λ n. number < n) (sym (length-map endpoints endpoint_queue)) ok.within)
