-- A worker sends bundles, lane by lane.
use Rattle.std.proofs.Common.{◌≡◌, ◌≢◌, ℕ, ◌+◌, ◌-◌, ◌<◌, ◌≤◌, List, [], ◌++◌, map, replicate, length, set, All, refl, sym, ap, ◌∙◌, subst, arith, append_assoc, append-nil, get_or-set_same, get_or-set_other}
use Rattle.std.proofs.lemmas.List.{map-append, length-map, length-set, length-replicate, get_or-replicate, ext_get_or}
use mathlib.Core.Logic.{dite}
use native.Mathlib.Decide.{ℕ_discrete}
use Rattle.req_table.specs.declared.Key.{Key}
use Rattle.req_table.specs.declared.Item.{Item}
use Rattle.req_table.specs.Lanes.{ends, MayFollow, IsClosed}
use Rattle.req_table.proofs.Fair.{ends-append}
use Rattle.req_table.proofs.Lists.{Has, each, all_of, map_has, Has-append_left, Has-append_right}
use Rattle.lane_queue.specs.declared.load.Load.{Load}
use Rattle.lane_queue.specs.Loads.{ask_of, items_in}
use Rattle.lane_queue.proofs.Counts.{ends-asks}
use Rattle.lane_queue.specs.PortView.{LanesView, PortView, sent_to, put_to, has_put, IsPortOf, MayBeSent, lanes_scope}
use Rattle.expand_work.specs.Due.{IsCut, IsLeft}
use Rattle.expand_work.specs.Parts.{bundles}
use Rattle.expand_work.specs.Work.{at, MaySend, IsSamePort, SentTo}
use Rattle.expand_work.proofs.Cutting.{cut_all, cut_less}

-- ---- ports with the same number, lanes and sizes
pub same_port : (p : PortView) → IsSamePort p p
same_port p = (refl, refl, refl)

pub port_on : (p q r : PortView) → IsSamePort p q → IsSamePort q r → IsSamePort p r
port_on p q r a b = (b.0 ∙ a.0, b.1 ∙ a.1, b.2 ∙ a.2)

pub still_of : (l : LanesView) (p q : PortView) → IsSamePort p q → IsPortOf l p → IsPortOf l q
still_of l p q a o = (a.1 ∙ o.0, a.2 ∙ o.1)

-- ---- one lane
pub sent_none : (p : PortView) (to : ℕ) → SentTo p p to [] 0
sent_none p to = record {
  port = same_port p;
  taken = refl;
  sent = sym (append-nil (sent_to p to));
  others = λ k n. refl;
  put = omega arith;
  others_put = λ k n. refl;
}

pub sent_on : (p q r : PortView) (to : ℕ) (xs ys : List Item) (n m : ℕ) → SentTo p q to xs n → SentTo q r to ys m → SentTo p r to (xs ++ ys) (n + m)
sent_on p q r to xs ys n m a b = record {
  port = port_on p q r a.port b.port;
  taken = b.taken ∙ a.taken;
  sent = b.sent ∙ ap (λ l. l ++ ys) a.sent ∙ append_assoc (sent_to p to) xs ys;
  others = λ k o. b.others k o ∙ a.others k o;
  put = let c = a.put in let d = b.put in omega (arith, c, d);
  others_put = λ k o. b.others_put k o ∙ a.others_put k o;
}

-- a load was put on the lane
pub sent_load : (p q : PortView) (to : ℕ) (x : Load) → q ≡ has_put p to x → sent_to q to ≡ sent_to p to ++ items_in x → ((k : ℕ) → k ≢ to → sent_to q k ≡ sent_to p k)
    → put_to q to ≡ put_to p to + 1 → ((k : ℕ) → k ≢ to → put_to q k ≡ put_to p k) → SentTo p q to (items_in x) 1
sent_load p q to x is sent others put others_put = record {
  port = (ap (λ (u : PortView). u.number) is, ap (λ (u : PortView). u.lanes) is, ap (λ (u : PortView). u.sizes) is);
  taken = ap (λ (u : PortView). u.taken) is;
  sent = sent;
  others = others;
  put = put;
  others_put = others_put;
}

pub carries : (n : ℕ) (asks : List (ℕ × Key)) → 0 < length asks → 0 < length (map (ask_of n) asks)
carries n asks lt = let e = length-map asks (ask_of n) in omega (arith, lt, e)

-- ---- bundle by bundle
-- Some of these requests were sent, in this number of loads, and these are left.
pub record Sending (p q : PortView) (to : ℕ) (asks left : List (ℕ × Key)) : Type 0 where
  pub removed : List (ℕ × Key)
  pub loads : ℕ
  pub sent : SentTo p q to (map (ask_of p.number) removed) loads
  pub all : removed ++ left ≡ asks
  pub count : loads + bundles (length left) ≡ bundles (length asks)

pub sending-none : (p : PortView) (to : ℕ) (asks : List (ℕ × Key)) → Sending p p to asks asks
sending-none p to asks = record { removed = []; loads = 0; sent = sent_none p to; all = refl; count = omega arith }

module _ (l : LanesView) (p q : PortView) (to : ℕ) (asks left bundle rest : List (ℕ × Key)) (may : MaySend l p to asks) (d : Sending p q to asks left) (cut : IsCut left bundle rest) where
  -- no End was sent
  ends-then : ends (sent_to q to) ≡ ends (sent_to p to)
  ends-then =
      let a = ap ends d.sent.sent ∙ ends-append (sent_to p to) (map (ask_of p.number) d.removed) in
      let z = ends-asks p.number d.removed in omega (arith, a, z)

  among : (a : ℕ × Key) → Has bundle a → Has asks a
  among a h = subst (λ xs. Has xs a) (ap (λ xs. d.removed ++ xs) (cut_all left bundle rest cut) ∙ d.all) (Has-append_right d.removed (bundle ++ rest) a (Has-append_left bundle rest a h))

  pub bundle-may : All (MayFollow (lanes_scope l) (ends (sent_to q to))) (map (ask_of q.number) bundle)
  bundle-may = all_of (MayFollow (lanes_scope l) (ends (sent_to q to))) (map (ask_of q.number) bundle) (λ y h.
      let t = map_has (ask_of q.number) bundle y h in
      subst (MayFollow (lanes_scope l) (ends (sent_to q to))) t.2 (subst (λ (u : ℕ × ℕ). MayFollow (lanes_scope l) u.0 (ask_of u.1 t.0)) (λ j. (sym ends-then j, sym d.sent.port.0 j))
      (each (λ a. MayFollow (lanes_scope l) (ends (sent_to p to)) (ask_of p.number a)) asks t.0 may.follow (among t.0 t.1))))

  pub bundle-leave : All (MayBeSent (lanes_scope l) q.taken (ends (sent_to q to))) (map (ask_of q.number) bundle)
  bundle-leave = all_of (MayBeSent (lanes_scope l) q.taken (ends (sent_to q to))) (map (ask_of q.number) bundle) (λ y h.
      let t = map_has (ask_of q.number) bundle y h in
      subst (MayBeSent (lanes_scope l) q.taken (ends (sent_to q to))) t.2 (λ z.
      let e = ends-then in
      subst (λ (u : ℕ × List Item). IsClosed (lanes_scope l) (u.0 - 1) u.1) (λ j. (sym e j, sym d.sent.taken j)) (may.leave (omega (arith, z, e)))))

  pub sending-more : (r : PortView) → SentTo q r to (map (ask_of q.number) bundle) 1 → Sending p r to asks rest
  sending-more r s = record {
    removed = d.removed ++ bundle;
    loads = d.loads + 1;
    sent = subst (λ xs. SentTo p r to xs (d.loads + 1)) ((λ j. map (ask_of p.number) d.removed ++ map (ask_of (d.sent.port.0 j)) bundle) ∙ sym (map-append (ask_of p.number) d.removed bundle))
        (sent_on p q r to (map (ask_of p.number) d.removed) (map (ask_of q.number) bundle) d.loads 1 d.sent s);
    all = append_assoc d.removed bundle rest ∙ ap (λ xs. d.removed ++ xs) (cut_all left bundle rest cut) ∙ d.all;
    count = let n = cut_less left bundle rest cut in let c = d.count in let some = cut.some in omega (arith, n, c, some);
  }

-- ---- lane by lane
-- what may be sent on a lane may still be sent after something was sent on others
pub may_still : (l : LanesView) (p q : PortView) (to : ℕ) (asks : List (ℕ × Key)) → q.number ≡ p.number → q.taken ≡ p.taken → sent_to q to ≡ sent_to p to → MaySend l p to asks → MaySend l q to asks
may_still l p q to asks number taken s h = record {
  follow = subst (λ n. All (λ a. MayFollow (lanes_scope l) (ends (sent_to q to)) (ask_of n a)) asks) (sym number)
      (subst (λ xs. All (λ a. MayFollow (lanes_scope l) (ends xs) (ask_of p.number a)) asks) (sym s) h.follow);
  leave = λ z. subst (λ xs. IsClosed (lanes_scope l) (ends (sent_to q to) - 1) xs) (sym taken)
      (subst (λ xs. IsClosed (lanes_scope l) (ends xs - 1) p.taken) (sym s) (h.leave (subst (λ xs. 0 < ends xs) s z)));
}

-- ---- what is left
-- Of the workers below n, only from the worker itself something is still due.
pub record IsLeftBelow (s n : ℕ) (due left : List (List (ℕ × Key))) : Type 0 where
  pub long : length left ≡ length due
  pub own : at left s ≡ at due s
  pub removed : (k : ℕ) → k < n → k ≢ s → at left k ≡ []
  pub rest : (k : ℕ) → n ≤ k → at left k ≡ at due k

-- after the worker's own requests were kept nothing is due
pub none_due : (s n : ℕ) (due left new : List (List (ℕ × Key))) → length due ≡ n → s < n → IsLeft s due left → new ≡ set left s [] → new ≡ replicate n []
none_due s n due left new long sb h is =
    let wide : length left ≡ n = h.long ∙ long in
    let many : length new ≡ n = ap (λ (d : List (List (ℕ × Key))). length d) is ∙ length-set left s [] ∙ wide in
    ext_get_or [] new (replicate n []) (many ∙ sym (length-replicate n []))
    (λ k kb. ap (λ d. at d k) is
    ∙ (dite (ℕ_discrete k s)
    (λ e. subst (λ m. at (set left s []) m ≡ []) (sym e) (get_or-set_same left s [] [] (omega (arith, wide, sb))))
    (λ m. get_or-set_other left s k [] [] m ∙ h.others k m))
    ∙ sym (get_or-replicate n k [] [] (omega (arith, kb, many))))
