-- What a worker learns from an item that it takes.
use Rattle.std.proofs.Common.{◌≡◌, ℕ, ◌+◌, ◌<◌, inl, inr, List, [], ◌∷◌, ◌++◌, length, map, set, get_or, Some, All, refl, sym, ap, ◌∙◌, subst, append_assoc, append-nil, get_or-set_other}
use Rattle.std.proofs.lemmas.List.{length-map, length-set}
use Rattle.req_table.specs.declared.Key.{Key}
use Rattle.req_table.specs.declared.Item.{Item}
use Rattle.req_table.specs.declared.Item.TheVariants.{End}
use Rattle.req_table.specs.Wave.{Scope}
use Rattle.req_table.specs.Lanes.{sent_by, IsFair, IsClosed}
use Rattle.req_table.specs.Settled.{Admits}
use Rattle.req_table.proofs.Lists.{Has, each, all_of, Has-append_right, Has-map}
use Rattle.req_table.proofs.Items.{sent_by_of, fair_ask}
use Rattle.req_table.proofs.Fair.{sent_by-append, fair_front}
use Rattle.expand_work.specs.Counts.{Counts}
use Rattle.req_table.specs.Sizes.{scope_of}
use Rattle.lane_queue.specs.declared.load.Load.{Load}
use Rattle.lane_queue.specs.declared.load.Load.TheVariants.{Bundle, End as LoadEnd}
use Rattle.lane_queue.specs.Loads.{load_from, ask_of, items_in}
use Rattle.lane_queue.specs.PortView.{LanesView, PortView, IsPortOf, IsTaken, IsOpen, has_taken, lanes_scope}
use Rattle.expand_work.specs.Work.{at, Offered, IsReceived, StaysClosed}
use Rattle.expand_work.proofs.Receiving.{fair_item, closed_more, hear_end, hear_ask, end_stays}

-- what the lanes say of the load
pub record LoadFacts (l : LanesView) (taken : List Item) (x : Load) : Type 0 where
  pub sent : List Item
  pub back : List Item
  pub sender : load_from x < length l.lanes
  pub fair : IsFair (lanes_scope l) sent
  pub begins : sent ≡ sent_by (load_from x) (taken ++ items_in x) ++ back

pub load_facts : (l : LanesView) (p : PortView) (x : Load) → IsPortOf l p → IsTaken p x → LoadFacts l p.taken x
load_facts l p x o t =
    let n : length p.lanes ≡ length l.lanes = ap (λ q. length q) o.0 ∙ length-map l.lanes (λ q. Some q) in
    record {
      sent = t.0;
      back = t.4.0;
      sender = subst (λ m. load_from x < m) n t.2;
      fair = subst (λ c. IsFair (scope_of (length l.lanes) c) t.0) o.1 (subst (λ m. IsFair (scope_of m p.sizes) t.0) n t.3);
      begins = t.4.1;
    }

-- the port has taken the load
abbrev pub Takes : PortView → PortView → Load → Type 0
Takes p q x = (q ≡ has_taken p x) × IsTaken p x

-- ---- a bundle, request by request
pub offered-more : (asks : List (ℕ × Key)) (a : ℕ × Key) (ts us vs : List (List Key)) (keys : List Key) → Offered asks ts us → Admits (at us a.0) (a.1 ∷ []) keys → vs ≡ set us a.0 keys → Offered (asks ++ a ∷ []) ts vs
offered-more [] a ts us vs keys e ad is = (keys, subst (λ u. Admits (at u a.0) (a.1 ∷ []) keys) e ad, is ∙ ap (λ u. set u a.0 keys) e)
offered-more (b ∷ more) a ts us vs keys (k, c, o) ad is = (k, c, offered-more more a (set ts b.0 k) us vs keys o ad is)

pub offered-long : (asks : List (ℕ × Key)) (ts us : List (List Key)) → Offered asks ts us → length us ≡ length ts
offered-long [] ts us e = ap (λ l. length l) e
offered-long (a ∷ more) ts us (k, c, o) = offered-long more (set ts a.0 k) us o ∙ length-set ts a.0 k

offered-same : (u : ℕ) (asks : List (ℕ × Key)) (ts us : List (List Key)) → ((a : ℕ × Key) → Has asks a → a.0 ≡ u → ⊥) → Offered asks ts us → at us u ≡ at ts u
offered-same u [] ts us n e = ap (λ l. at l u) e
offered-same u (a ∷ more) ts us n (k, c, o) = offered-same u more (set ts a.0 k) us (λ b h. n b (inr h)) o ∙ get_or-set_other ts a.0 u k [] (λ e. n a (inl refl) (sym e))

-- requests of levels that are not closed leave the tables of closed levels as they are
pub asks_stay : (c : Scope) (taken more : List Item) (asks : List (ℕ × Key)) (ts us : List (List Key)) → ((a : ℕ × Key) → Has asks a → ¬ IsClosed c a.0 taken) → Offered asks ts us → StaysClosed c taken (taken ++ more) ts us
asks_stay c taken more asks ts us n o = record {
  closed = λ u h. closed_more c u taken more h;
  same = λ u h. offered-same u asks ts us (λ a has e. n a has (subst (λ v. IsClosed c v taken) (sym e) h)) o;
}

pub hear_asks : (c : Scope) (taken : List Item) (s : ℕ) (asks : List (ℕ × Key)) (sent back : List Item) (clock : Counts) (ts us : List (List Key)) → s < c.workers → IsFair c sent → sent ≡ sent_by s (taken ++ map (ask_of s) asks) ++ back
    → Offered asks ts us → IsReceived c taken clock ts → IsReceived c (taken ++ map (ask_of s) asks) clock us
hear_asks c taken s [] sent back clock ts us sb f e o h = subst (λ (y : List Item × List (List Key)). IsReceived c y.0 clock y.1) (λ j. (sym (append-nil taken) j, sym o j)) h
hear_asks c taken s (a ∷ more) sent back clock ts us sb f e (keys, ad, o) h =
    let x = ask_of s a in let xs = map (ask_of s) more in
    let split : taken ++ x ∷ xs ≡ (taken ++ x ∷ []) ++ xs = sym (append_assoc taken (x ∷ []) xs) in
    let first : sent ≡ sent_by s (taken ++ x ∷ []) ++ (sent_by s xs ++ back) =
    e ∙ ap (λ l. sent_by s l ++ back) split ∙ ap (λ l. l ++ back) (sent_by-append s (taken ++ x ∷ []) xs) ∙ append_assoc (sent_by s (taken ++ x ∷ [])) (sent_by s xs) back in
    let g = hear_ask c taken s a.0 a.1 sent (sent_by s xs ++ back) clock ts keys sb f first ad h in
    subst (λ l. IsReceived c l clock us) (sym split) (hear_asks c (taken ++ x ∷ []) s more sent back clock (set ts a.0 keys) us sb f (e ∙ ap (λ l. sent_by s l ++ back) split) o g)

-- the level of a request that was taken is one of the store's
pub asks_level : (c : Scope) (taken : List Item) (s : ℕ) (asks : List (ℕ × Key)) (sent back : List Item) → IsFair c sent → sent ≡ sent_by s (taken ++ map (ask_of s) asks) ++ back → (a : ℕ × Key) → Has asks a → a.0 < c.levels
asks_level c taken s asks sent back f e a h =
    let front = fair_front c 0 (sent_by s (taken ++ map (ask_of s) asks)) back (subst (IsFair c) e f) in
    (fair_ask c 0 (sent_by s (taken ++ map (ask_of s) asks)) s a.0 a.1 front (sent_by_of s (taken ++ map (ask_of s) asks) (ask_of s a) (Has-append_right taken (map (ask_of s) asks) (ask_of s a) (Has-map (ask_of s) asks a h)) refl)).0

module _ (l : LanesView) (p : PortView) (clock : Counts) (tables : List (List Key)) (o : IsPortOf l p) (h : IsReceived (lanes_scope l) p.taken clock tables) where
  module _ (s v : ℕ) (q : PortView) (t : Takes p q (LoadEnd s v)) where
    pub end_next : (s < length clock.ended) × (v ≡ get_or clock.ended s 0) × (v < clock.levels)
    end_next =
        let d = load_facts l p (LoadEnd s v) o t.1 in
        let i = fair_item (lanes_scope l) p.taken (End s v) d.sent d.back d.sender d.fair d.begins in
        (subst (λ n. s < n) (sym h.long) d.sender, i.0.0 ∙ sym (h.counted s d.sender), subst (λ n. v < n) (sym h.levels) i.0.1)

    pub end_received : IsReceived (lanes_scope l) q.taken (record clock { ended = set clock.ended s (v + 1) }) tables
    end_received =
        let d = load_facts l p (LoadEnd s v) o t.1 in
        subst (λ xs. IsReceived (lanes_scope l) xs (record clock { ended = set clock.ended s (v + 1) }) tables) (sym (ap (λ r. r.taken) t.0))
        (hear_end (lanes_scope l) p.taken s v d.sent d.back clock tables d.sender d.fair d.begins h)

    pub end_stays' : StaysClosed (lanes_scope l) p.taken q.taken tables tables
    end_stays' = subst (λ xs. StaysClosed (lanes_scope l) p.taken xs tables tables) (sym (ap (λ r. r.taken) t.0)) (end_stays (lanes_scope l) p.taken s v tables)

  module _ (s : ℕ) (asks : List (ℕ × Key)) (q : PortView) (t : Takes p q (Bundle s asks)) where
    pub bundle_levels : All (λ (a : ℕ × Key). a.0 < length tables) asks
    bundle_levels =
        let d = load_facts l p (Bundle s asks) o t.1 in
        all_of (λ (a : ℕ × Key). a.0 < length tables) asks (λ a i. subst (λ n. a.0 < n) (sym h.many) (asks_level (lanes_scope l) p.taken s asks d.sent d.back d.fair d.begins a i))

    pub bundle_received : (tables' : List (List Key)) → Offered asks tables tables' → IsReceived (lanes_scope l) q.taken clock tables'
    bundle_received tables' off =
        let d = load_facts l p (Bundle s asks) o t.1 in
        subst (λ xs. IsReceived (lanes_scope l) xs clock tables') (sym (ap (λ r. r.taken) t.0))
        (hear_asks (lanes_scope l) p.taken s asks d.sent d.back clock tables tables' d.sender d.fair d.begins off h)

    pub bundle_stays : (tables' : List (List Key)) → All (IsOpen (lanes_scope l) p.taken) (map (ask_of s) asks) → Offered asks tables tables' → StaysClosed (lanes_scope l) p.taken q.taken tables tables'
    bundle_stays tables' open_all off =
        subst (λ xs. StaysClosed (lanes_scope l) p.taken xs tables tables') (sym (ap (λ r. r.taken) t.0))
        (asks_stay (lanes_scope l) p.taken (map (ask_of s) asks) asks tables tables' (λ a i. each (IsOpen (lanes_scope l) p.taken) (map (ask_of s) asks) (ask_of s a) open_all (Has-map (ask_of s) asks a i)) off)
