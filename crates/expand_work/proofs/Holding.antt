-- A worker keeps the requests that it owns.
use Rattle.std.proofs.Common.{◌≡◌, ℕ, ◌+◌, ◌-◌, ◌<◌, List, [], ◌∷◌, ◌++◌, Some, map, take, length, get_or, All, refl, sym, ap, ◌∙◌, subst, arith, append_assoc, append-nil}
use Rattle.std.proofs.lemmas.List.{map_more, map-append, length-map}
use Rattle.req_table.specs.declared.Key.{Key}
use Rattle.req_table.specs.declared.Item.{Item}
use Rattle.req_table.specs.declared.Sizes.{Sizes}
use Rattle.req_table.specs.Sizes.{scope_of}
use Rattle.req_table.specs.Lanes.{sent_by, ends, MayFollow, IsFair, IsClosed}
use Rattle.req_table.proofs.Lists.{Has, each, all_of, map_has, Has-map, Has-append_left, Has-append_right}
use Rattle.req_table.proofs.Fair.{ends-append, sent_by-append, counted_of_closed}
use Rattle.expand_work.specs.Counts.{Counts}
use Rattle.lane_queue.specs.declared.load.Load.TheVariants.{Bundle}
use Rattle.lane_queue.specs.Loads.{ask_of}
use Rattle.lane_queue.specs.PortView.{LanesView, PortView, sent_to, has_kept, IsPortOf, lanes_scope, port_scope}
use Rattle.lane_queue.proofs.Facts.{fair-more, load-mine, of-mine}
use Rattle.lane_queue.proofs.Keeping.{sent-own, sent-other}
use Rattle.expand_work.specs.Work.{MaySend, HasKept, Offered, IsReceived, StaysClosed}
use Rattle.lane_queue.proofs.Counts.{ends-asks}
use Rattle.expand_work.proofs.Sending.{same_port, port_on, still_of}
use Rattle.expand_work.proofs.Receiving.{closed_more, stays_on, stays_same}
use Rattle.expand_work.specs.Due.{IsCut}
use Rattle.expand_work.specs.PlacesBySender.{IsNoted, NotesPlaces}
use Rattle.expand_work.proofs.Cutting.{cut_all}
use Rattle.expand_work.proofs.Taking.{hear_asks, asks_stay}
use Rattle.expand_work.proofs.Noting.{asks_noted}

-- all of these requests were kept
pub record Holding (p q : PortView) (asks : List (ℕ × Key)) : Type 0 where
  pub kept : HasKept p q (map (ask_of p.number) asks)
  pub all : sent_by q.number q.taken ≡ sent_to q q.number

pub kept-none : (p : PortView) → HasKept p p []
kept-none p = record { port = same_port p; put = refl; own = sym (append-nil (sent_to p p.number)); others = λ k n. refl; taken = sym (append-nil p.taken) }

pub hold-start : (p : PortView) → sent_by p.number p.taken ≡ sent_to p p.number → Holding p p []
hold-start p e = record { kept = kept-none p; all = e }

-- no End was sent
kept-ends : (p q : PortView) (asks : List (ℕ × Key)) → HasKept p q (map (ask_of p.number) asks) → ends (sent_to q q.number) ≡ ends (sent_to p p.number)
kept-ends p q asks kept =
    let a = ap (λ k. ends (sent_to q k)) kept.port.0 ∙ ap ends kept.own ∙ ends-append (sent_to p p.number) (map (ask_of p.number) asks) in
    let z = ends-asks p.number asks in omega (arith, a, z)

module _ (l : LanesView) (p : PortView) (asks : List (ℕ × Key)) (o : IsPortOf l p) (may : MaySend l p p.number asks) where
  wide : length p.lanes ≡ length l.lanes
  wide = ap (λ q. length q) o.0 ∙ length-map l.lanes (λ q. Some q)

  module _ (q : PortView) (i : ℕ) (x : ℕ × Key) (lt : i < length asks) (x-is : x ≡ get_or asks i x) (h : Holding p q (take i asks)) where
    n-is : q.number ≡ p.number
    n-is = h.kept.port.0

    one : ask_of q.number x ≡ ask_of p.number (get_or asks i x)
    one = λ j. ask_of (n-is j) (x-is j)

    ends-now : ends (sent_to q q.number) ≡ ends (sent_to p p.number)
    ends-now = kept-ends p q (take i asks) h.kept

    follow : MayFollow (lanes_scope l) (ends (sent_to q q.number)) (ask_of q.number x)
    follow = subst (λ (y : ℕ × Item). MayFollow (lanes_scope l) y.0 y.1) (λ j. (sym ends-now j, sym one j)) (may.follow i x lt)

    pub hold-may : MayFollow (port_scope q) (ends (sent_to q q.number)) (ask_of q.number x)
    hold-may = subst (λ (y : ℕ × Sizes). MayFollow (scope_of y.0 y.1) (ends (sent_to q q.number)) (ask_of q.number x)) (λ j. (sym (ap (λ k. length k) h.kept.port.1 ∙ wide) j, sym (h.kept.port.2 ∙ o.1) j)) follow

    pub hold-leave : 0 < ends (sent_to q q.number) → IsClosed (port_scope q) (ends (sent_to q q.number) - 1) q.taken
    hold-leave z =
        let e = ends-now in
        let a = may.leave (omega (arith, z, e)) in
        let c = closed_more (lanes_scope l) (ends (sent_to p p.number) - 1) p.taken (map (ask_of p.number) (take i asks)) a in
        subst (λ (y : ℕ × Sizes × ℕ × List Item). IsClosed (scope_of y.0 y.1) (y.2 - 1) y.3) (λ j. (sym (ap (λ k. length k) h.kept.port.1 ∙ wide) j, sym (h.kept.port.2 ∙ o.1) j, sym e j, sym h.kept.taken j)) c

    module _ (r : PortView) (is : r ≡ has_kept q (ask_of q.number x)) where
      r-own : sent_to r q.number ≡ sent_to q q.number ++ ask_of q.number x ∷ []
      r-own = ap (λ (u : PortView). sent_to u q.number) is ∙ sent-own (has_kept q (ask_of q.number x)) ∙ ap (λ xs. xs ++ ask_of q.number x ∷ []) (sym (sent-own q))

      more : map (ask_of p.number) (take (i + 1) asks) ≡ map (ask_of p.number) (take i asks) ++ ask_of q.number x ∷ []
      more = map_more (ask_of p.number) asks i x lt ∙ ap (λ y. map (ask_of p.number) (take i asks) ++ y ∷ []) (sym one)

      pub hold-more : Holding p r (take (i + 1) asks)
      hold-more = record {
        kept = record {
          port = port_on p q r h.kept.port (ap (λ (u : PortView). u.number) is, ap (λ (u : PortView). u.lanes) is, ap (λ (u : PortView). u.sizes) is);
          put = ap (λ (u : PortView). u.put) is ∙ h.kept.put;
          own = ap (λ k. sent_to r k) (sym n-is) ∙ r-own ∙ ap (λ k. sent_to q k ++ ask_of q.number x ∷ []) n-is ∙ ap (λ xs. xs ++ ask_of q.number x ∷ []) h.kept.own
              ∙ append_assoc (sent_to p p.number) (map (ask_of p.number) (take i asks)) (ask_of q.number x ∷ []) ∙ ap (λ xs. sent_to p p.number ++ xs) (sym more);
          others = λ k m. ap (λ (u : PortView). sent_to u k) is ∙ sent-other (has_kept q (ask_of q.number x)) k (λ e. m (e ∙ n-is)) ∙ sym (sent-other q k (λ e. m (e ∙ n-is))) ∙ h.kept.others k m;
          taken = ap (λ (u : PortView). u.taken) is ∙ ap (λ xs. xs ++ ask_of q.number x ∷ []) h.kept.taken ∙ append_assoc p.taken (map (ask_of p.number) (take i asks)) (ask_of q.number x ∷ []) ∙ ap (λ xs. p.taken ++ xs) (sym more);
        };
        all = ap (λ (u : PortView). sent_by u.number u.taken) is ∙ sent_by-append q.number q.taken (ask_of q.number x ∷ []) ∙ (λ j. h.all j ++ of-mine q.number (ask_of q.number x) [] refl j) ∙ sym r-own ∙ ap (λ k. sent_to r k) (sym (ap (λ (u : PortView). u.number) is));
      }

  -- the requests' levels are among those of the tables
  pub hold-levels : (ts : List (List Key)) → length ts ≡ l.sizes.levels → All (λ (a : ℕ × Key). a.0 < length ts) asks
  hold-levels ts many = all_of (λ (a : ℕ × Key). a.0 < length ts) asks (λ a has. let f = (each (λ a. MayFollow (lanes_scope l) (ends (sent_to p p.number)) (ask_of p.number a)) asks a may.follow has).1 in omega (arith, f, many))

  -- all of them were kept and admitted
  module _ (q : PortView) (ts us : List (List Key)) (clock : Counts) (within : p.number < length l.lanes) (taken : sent_by p.number p.taken ≡ sent_to p p.number) (received : IsReceived (lanes_scope l) p.taken clock ts) (kept : HasKept p q (map (ask_of p.number) asks)) (off : Offered asks ts us) where
    follow-all : All (MayFollow (lanes_scope l) (ends (sent_by p.number p.taken))) (map (ask_of p.number) asks)
    follow-all = subst (λ xs. All (MayFollow (lanes_scope l) (ends xs)) (map (ask_of p.number) asks)) (sym taken)
        (all_of (MayFollow (lanes_scope l) (ends (sent_to p p.number))) (map (ask_of p.number) asks) (λ y has.
        let t = map_has (ask_of p.number) asks y has in
        subst (MayFollow (lanes_scope l) (ends (sent_to p p.number))) t.2 (each (λ a. MayFollow (lanes_scope l) (ends (sent_to p p.number)) (ask_of p.number a)) asks t.0 may.follow t.1)))

    fair-now : IsFair (lanes_scope l) (sent_by p.number (p.taken ++ map (ask_of p.number) asks))
    fair-now = subst (IsFair (lanes_scope l)) (sym (sent_by-append p.number p.taken (map (ask_of p.number) asks) ∙ ap (λ xs. sent_by p.number p.taken ++ xs) (load-mine p.number (Bundle p.number asks) refl)))
        (fair-more (lanes_scope l) (sent_by p.number p.taken) (Bundle p.number asks) (received.fair p.number within) follow-all)

    pub hold-received : IsReceived (lanes_scope l) q.taken clock us
    hold-received = subst (λ xs. IsReceived (lanes_scope l) xs clock us) (sym kept.taken)
        (hear_asks (lanes_scope l) p.taken p.number asks (sent_by p.number (p.taken ++ map (ask_of p.number) asks)) [] clock ts us within fair-now (sym (append-nil (sent_by p.number (p.taken ++ map (ask_of p.number) asks)))) off received)

    pub hold-stays : StaysClosed (lanes_scope l) p.taken q.taken ts us
    hold-stays = subst (λ xs. StaysClosed (lanes_scope l) p.taken xs ts us) (sym kept.taken)
        (asks_stay (lanes_scope l) p.taken (map (ask_of p.number) asks) asks ts us (λ a has closed.
        let f = each (MayFollow (lanes_scope l) (ends (sent_by p.number p.taken))) (map (ask_of p.number) asks) (ask_of p.number a) follow-all (Has-map (ask_of p.number) asks a has) in
        let past = counted_of_closed (lanes_scope l) a.0 p.taken received.fair closed p.number within in
        let low = f.0 in omega (arith, past, low)) off)

-- ---- bundle after bundle
-- Some of these requests were kept, and these are left.
pub record Keeping (l : LanesView) (p q : PortView) (clock : Counts) (ts us : List (List Key)) (noted : List (List ℕ)) (asks left : List (ℕ × Key)) : Type 0 where
  pub removed : List (ℕ × Key)
  pub all : removed ++ left ≡ asks
  pub kept : HasKept p q (map (ask_of p.number) removed)
  pub mine : sent_by q.number q.taken ≡ sent_to q q.number
  pub received : IsReceived (lanes_scope l) q.taken clock us
  pub stays : StaysClosed (lanes_scope l) p.taken q.taken ts us
  pub places : IsNoted (length l.lanes) q.taken us noted

pub keeping-none : (l : LanesView) (p : PortView) (clock : Counts) (ts : List (List Key)) (noted : List (List ℕ)) (asks : List (ℕ × Key)) → sent_by p.number p.taken ≡ sent_to p p.number → IsReceived (lanes_scope l) p.taken clock ts
    → IsNoted (length l.lanes) p.taken ts noted → Keeping l p p clock ts ts noted asks asks
keeping-none l p clock ts noted asks mine received places = record { removed = []; all = refl; kept = kept-none p; mine = mine; received = received; stays = stays_same (lanes_scope l) p.taken ts; places = places }

kept-on : (p q r : PortView) (xs ys : List (ℕ × Key)) → HasKept p q (map (ask_of p.number) xs) → HasKept q r (map (ask_of q.number) ys) → HasKept p r (map (ask_of p.number) (xs ++ ys))
kept-on p q r xs ys a b =
    let n-is = a.port.0 in
    let both : map (ask_of p.number) xs ++ map (ask_of p.number) ys ≡ map (ask_of p.number) (xs ++ ys) = sym (map-append (ask_of p.number) xs ys) in
    record {
      port = port_on p q r a.port b.port;
      put = b.put ∙ a.put;
      own = ap (λ k. sent_to r k) (sym n-is) ∙ b.own ∙ (λ j. sent_to q (n-is j) ++ map (ask_of (n-is j)) ys) ∙ ap (λ zs. zs ++ map (ask_of p.number) ys) a.own
          ∙ append_assoc (sent_to p p.number) (map (ask_of p.number) xs) (map (ask_of p.number) ys) ∙ ap (λ zs. sent_to p p.number ++ zs) both;
      others = λ k m. b.others k (λ e. m (e ∙ n-is)) ∙ a.others k m;
      taken = b.taken ∙ (λ j. a.taken j ++ map (ask_of (n-is j)) ys) ∙ append_assoc p.taken (map (ask_of p.number) xs) (map (ask_of p.number) ys) ∙ ap (λ zs. p.taken ++ zs) both;
    }

module _ (l : LanesView) (p q : PortView) (clock : Counts) (ts us : List (List Key)) (noted : List (List ℕ)) (asks left bundle rest : List (ℕ × Key)) (may : MaySend l p p.number asks) (cut : IsCut left bundle rest) (h : Keeping l p q clock ts us noted asks left) where
  among : (a : ℕ × Key) → Has bundle a → Has asks a
  among a has = subst (λ xs. Has xs a) (ap (λ xs. h.removed ++ xs) (cut_all left bundle rest cut) ∙ h.all) (Has-append_right h.removed (bundle ++ rest) a (Has-append_left bundle rest a has))

  pub keeping-may : MaySend l q q.number bundle
  keeping-may =
      let e = kept-ends p q h.removed h.kept in
      record {
        follow = all_of (λ a. MayFollow (lanes_scope l) (ends (sent_to q q.number)) (ask_of q.number a)) bundle (λ a has.
            subst (λ (u : ℕ × ℕ). MayFollow (lanes_scope l) u.0 (ask_of u.1 a)) (λ j. (sym e j, sym h.kept.port.0 j)) (each (λ x. MayFollow (lanes_scope l) (ends (sent_to p p.number)) (ask_of p.number x)) asks a may.follow (among a has)));
        leave = λ z. subst (λ (u : ℕ × List Item). IsClosed (lanes_scope l) (u.0 - 1) u.1) (λ j. (sym e j, sym h.kept.taken j))
            (closed_more (lanes_scope l) (ends (sent_to p p.number) - 1) p.taken (map (ask_of p.number) h.removed) (may.leave (omega (arith, z, e))));
      }

  pub keeping-more : IsPortOf l p → p.number < length l.lanes → (r : PortView) (vs : List (List Key)) (noted' : List (List ℕ)) → HasKept q r (map (ask_of q.number) bundle) → sent_by r.number r.taken ≡ sent_to r r.number
      → Offered bundle us vs → NotesPlaces p.number bundle us vs noted noted' → Keeping l p r clock ts vs noted' asks rest
  keeping-more o within r vs noted' kept mine off notes =
      let o' = still_of l p q h.kept.port o in
      let n-is = h.kept.port.0 in
      let within' = subst (λ n. n < length l.lanes) (sym n-is) within in
      record {
        removed = h.removed ++ bundle;
        all = append_assoc h.removed bundle rest ∙ ap (λ xs. h.removed ++ xs) (cut_all left bundle rest cut) ∙ h.all;
        kept = kept-on p q r h.removed bundle h.kept kept;
        mine = mine;
        received = hold-received l q bundle o' keeping-may r us vs clock within' h.mine h.received kept off;
        stays = stays_on (lanes_scope l) p.taken q.taken r.taken ts us vs h.stays (hold-stays l q bundle o' keeping-may r us vs clock within' h.mine h.received kept off);
        places = subst (λ xs. IsNoted (length l.lanes) xs vs noted') (sym kept.taken)
            (asks_noted (length l.lanes) q.number bundle q.taken us vs noted noted' h.places (subst (λ n. NotesPlaces n bundle us vs noted noted') (sym n-is) notes));
      }
