-- Each step of a lane keeps the rule.
use Rattle.std.proofs.Common.{◌≡◌, ◌≢◌, ℕ, zero, suc, ◌-◌, ◌<◌, ◌≤◌, true, true≢false, List, [], ◌∷◌, ◌++◌, length, set, sym, refl, ap, ◌∙◌, subst, inr, ⊎_elim, arith, append_assoc}
use Rattle.std.specs.Prelude.{All, slice_index_or}
use Rattle.std.proofs.lemmas.List.{append-nil}
use Rattle.std.proofs.lemmas.List.Elements.{All-append}
use mathlib.Core.Option.{some, some-injective, some-ne-none}
use mathlib.Core.Logic.{dite}
use native.Mathlib.Decide.{ℕ_discrete}
use lib.ListN.{get_elem?}
use Rattle.crossbeam_queue.specs.Fifo.{Pushes, Pops, Learns}
use Rattle.crossbeam_queue.proofs.Lists.{at_set, set_here, set_else}
use Rattle.req_table.specs.declared.Item.{Item}
use Rattle.lane_queue.specs.declared.rule.Terms.{Terms}
use Rattle.lane_queue.specs.declared.rule.View.{View}
use Rattle.req_table.specs.Lanes.{sender_of, sent_by, ends, IsFair, LaneLaw}
use Rattle.lane_queue.specs.declared.load.Load.{Load}
use Rattle.lane_queue.specs.Loads.{load_from, items_in, flat, IsNonEmpty, MayFollowAll}
use Rattle.lane_queue.specs.Lists.{FairLane}
use Rattle.lane_queue.specs.Rule.{scope, blank, port, CoversPort, sent_of, Fits, Ruled, NotBegunOrRuled, Holds, Sends, IsNext, Takes, OwnSentInOrder}
use Rattle.req_table.proofs.Fair.{sent_by-append}
use Rattle.lane_queue.proofs.Facts.{fair-more, all-one, all-front, all-back, load-mine, load-other, from-load, load-from, flat-push, law-along}

-- ---- views by number
pub there : (views : List View) (i : ℕ) (v : View) → get_elem? views i ≡ some v → i < length views
there [] i v e = absurd (some-ne-none v (sym e))
there (x ∷ xs) zero v e = omega arith
there (x ∷ xs) (suc i) v e = let h = there xs i v e in omega arith

pub same_there : (views : List View) (i : ℕ) (u v : View) → get_elem? views i ≡ some u → get_elem? views i ≡ some v → u ≡ v
same_there views i u v a b = some-injective u v (sym a ∙ b)

-- a view of a port is not that of a lane in which nothing has begun
begun_of : (views : List View) (i : ℕ) (v : View) → views ≡ blank ∷ [] → get_elem? views i ≡ some v → v.begun ≡ true → ⊥
begun_of views zero v e at b = true≢false (sym b ∙ ap (λ (u : View). u.begun) (some-injective v blank (sym at ∙ ap (λ l. get_elem? l 0) e)))
begun_of views (suc i) v e at b = some-ne-none v (sym at ∙ ap (λ l. get_elem? l (suc i)) e)

pub ruled : (items : List Item) (views : List View) (i : ℕ) (v : View) → NotBegunOrRuled items views → get_elem? views i ≡ some v → v.begun ≡ true → Ruled items views
ruled items views i v h at b = ⊎_elim (λ (x : (items ≡ []) × (views ≡ blank ∷ [])). absurd (begun_of views i v x.1 at b)) (λ (r : Ruled items views). r) h

-- ---- a step of one pass, which stays the pass of the same ports
pub step : (items items' : List Item) (views : List View) (i : ℕ) (v w : View) (r : Ruled items views) → get_elem? views i ≡ some v
    → w.low ≡ v.low → w.high ≡ v.high → w.begun ≡ true
    → (sent' : ℕ → List Item) (taken' left' : List Item)
    → LaneLaw (scope r.c) sent' taken' (left' ++ items') → FairLane (scope r.c) sent'
    → ((p : ℕ) → r.pass_index p ≢ i → sent' p ≡ r.sent p)
    → (r.pass_index r.c.owner ≢ i → (taken' ≡ r.taken) × (left' ≡ r.left))
    → ((p : ℕ) → CoversPort w p → Fits r.c r.pass_index sent' taken' left' i w p)
    → Ruled items' (set views i w)
step items items' views i v w r at low high b sent' taken' left' law fair others rest mine = record {
  c = r.c;
  pass_index = r.pass_index;
  sent = sent';
  taken = taken';
  left = left';
  owned = r.owned;
  law = law;
  fair = fair;
  present = λ p in_range. let h = r.present p in_range in
      dite (ℕ_discrete (r.pass_index p) i)
      (λ e. let is : h.0 ≡ v = same_there views i h.0 v (subst (λ n. get_elem? views n ≡ some h.0) e h.1) at in
      let a : w.low ≤ p = subst (λ (n : ℕ). n ≤ p) (ap (λ (u : View). u.low) is ∙ sym low) h.2.0 in
      let z : p < w.high = subst (λ (n : ℕ). p < n) (ap (λ (u : View). u.high) is ∙ sym high) h.2.1 in
      (w, subst (λ n. get_elem? (set views i w) n ≡ some w) (sym e) (set_here views i w (there views i v at)), (a, z)))
      (λ n. (h.0, set_else views i (r.pass_index p) w n ∙ h.1, h.2));
  begun = λ j u e. ⊎_elim (λ (x : (j ≡ i) × (w ≡ u)). subst (λ (y : View). y.begun ≡ true) x.1 b) (λ (x : (j ≢ i) × (get_elem? views j ≡ some u)). r.begun j u x.1) (at_set views i j w u e);
  fits = λ j u p e has. ⊎_elim
      (λ (x : (j ≡ i) × (w ≡ u)). subst (λ (y : ℕ × View). Fits r.c r.pass_index sent' taken' left' y.0 y.1 p) (λ k. (sym x.0 k, x.1 k)) (mine p (subst (λ (y : View). CoversPort y p) (sym x.1) has)))
      (λ (x : (j ≢ i) × (get_elem? views j ≡ some u)). let f = r.fits j u p x.1 has in let away : r.pass_index p ≢ i = λ q. x.0 (sym f.has_pass_index ∙ q) in record {
        terms = f.terms;
        within = f.within;
        has_pass_index = f.has_pass_index;
        sends = f.sends ∙ sym (others p away);
        takes = λ o. let t = f.takes o in let k = rest (λ q. away (ap r.pass_index o ∙ q)) in (t.0 ∙ sym k.0, t.1 ∙ sym k.1);
      })
      (at_set views i j w u e);
}

-- ---- one port
-- the only port of a view of the port s is s
pub only : (c : Terms) (s p : ℕ) (sent : List Item) (taken : List Item) → CoversPort (port c s sent taken) p → p ≡ s
only c s p sent taken h = let a = h.0 in let z = h.1 in omega arith

pub lone : (c : Terms) (s : ℕ) (sent : List Item) (taken : List Item) → CoversPort (port c s sent taken) s
lone c s sent taken = (omega arith, omega arith)

pub own_list : (c : Terms) (s p : ℕ) (sent : List Item) (taken : List Item) → p ≡ s → sent_of (port c s sent taken) p ≡ sent
own_list c s p sent taken e = let z : p - s ≡ 0 = omega arith in ap (λ n. slice_index_or (sent ∷ []) n []) z

pub own : (c : Terms) (s : ℕ) (sent taken : List Item) (items : List Item) (views : List View) (i : ℕ) (r : Ruled items views) → get_elem? views i ≡ some (port c s sent taken) → Fits r.c r.pass_index r.sent r.taken r.left i (port c s sent taken) s
own c s sent taken items views i r at = r.fits i (port c s sent taken) s at (lone c s sent taken)

-- ---- send: a load's items are added to the port's list and to what waits
pub push_step : (i : ℕ) (c : Terms) (s : ℕ) (sent taken : List Item) (x : Load) (items : List Item) (views : List View) → load_from x ≡ s → MayFollowAll (scope c) (ends sent) x
    → (r : Ruled items views) → get_elem? views i ≡ some (port c s sent taken) → Ruled (items ++ items_in x) (set views i (port c s (sent ++ items_in x) taken))
push_step i c s sent taken x items views mine may r at = let v = port c s sent taken in let xs = items_in x in let w = port c s (sent ++ xs) taken in
    let f = own c s sent taken items views i r at in
    let is : sent ≡ r.sent s = sym (own_list c s s sent taken refl) ∙ f.sends in
    let sent' : ℕ → List Item = λ p. r.sent p ++ sent_by p xs in
    let whole : (r.taken ++ (r.left ++ items)) ++ xs ≡ r.taken ++ (r.left ++ (items ++ xs)) = append_assoc r.taken (r.left ++ items) xs ∙ ap (λ l. r.taken ++ l) (append_assoc r.left items xs) in
    let bound : load_from x < r.c.workers = subst (λ n. n < r.c.workers) (sym mine) f.within in
    let law : LaneLaw (scope r.c) sent' r.taken (r.left ++ (items ++ xs)) = record {
      senders = subst (λ (l : List Item). All (λ y. sender_of y < r.c.workers) l) whole
          (All-append (λ y. sender_of y < r.c.workers) (r.taken ++ (r.left ++ items)) xs r.law.senders (from-load r.c.workers x bound));
      in_order = λ p lt. ap (sent_by p) (sym whole) ∙ sent_by-append p (r.taken ++ (r.left ++ items)) xs ∙ ap (λ l. l ++ sent_by p xs) (r.law.in_order p lt);
    } in
    let fair : FairLane (scope r.c) sent' = λ p lt.
    dite (ℕ_discrete (load_from x) p)
    (λ e. let q : s ≡ p = sym mine ∙ e in
    subst (IsFair (scope r.c)) (ap (λ l. l ++ xs) (is ∙ ap r.sent q) ∙ ap (λ l. r.sent p ++ l) (sym (load-mine p x e)))
    (fair-more (scope r.c) sent x (subst (IsFair (scope r.c)) (sym (is ∙ ap r.sent q)) (r.fair p lt)) (subst (λ (t : Terms). MayFollowAll (scope t) (ends sent) x) f.terms may)))
    (λ n. subst (IsFair (scope r.c)) (sym (ap (λ l. r.sent p ++ l) (load-other p x n) ∙ append-nil (r.sent p))) (r.fair p lt)) in
    step items (items ++ xs) views i v w r at refl refl refl sent' r.taken r.left law fair
    (λ p away. ap (λ l. r.sent p ++ l) (load-other p x (λ e. away (ap r.pass_index (sym (sym mine ∙ e)) ∙ f.has_pass_index))) ∙ append-nil (r.sent p))
    (λ _. (refl, refl))
    (λ p has. let q : p ≡ s = only c s p (sent ++ xs) taken has in record {
      terms = f.terms;
      within = subst (λ n. n < r.c.workers) (sym q) f.within;
      has_pass_index = ap r.pass_index q ∙ f.has_pass_index;
      sends = own_list c s p (sent ++ xs) taken q ∙ ap (λ l. l ++ xs) (is ∙ ap r.sent (sym q)) ∙ ap (λ l. r.sent p ++ l) (sym (load-mine p x (mine ∙ sym q)));
      takes = λ o. f.takes (sym q ∙ o);
    })

pub pushes : (n i : ℕ) (c : Terms) (s : ℕ) (sent taken : List Item) (x : Load) → IsNonEmpty x → load_from x ≡ s → MayFollowAll (scope c) (ends sent) x → Pushes Holds n i (port c s sent taken) x (Sends (port c s sent taken) x)
pushes n i c s sent taken x carries mine may loads views room h at =
    let w = port c s (sent ++ items_in x) taken in (
      w,
      (
        All-append IsNonEmpty loads (x ∷ []) h.0 (all-one IsNonEmpty x carries),
        inr (subst (λ (l : List Item). Ruled l (set views i w)) (sym (flat-push loads x)) (push_step i c s sent taken x (flat loads) views mine may (ruled (flat loads) views i (port c s sent taken) h.1 at refl) at)),
      ),
      refl,
    )

-- ---- take: the items of the first load are added to what the owner has taken
-- the items of the queue are what waits after what the owner has taken, if nothing was read out
front_is : (c : Terms) (s : ℕ) (sent taken : List Item) (items : List Item) (views : List View) (i : ℕ) (r : Ruled items views) → s ≡ c.owner → get_elem? views i ≡ some (port c s sent taken)
    → (taken ≡ r.taken) × ([] ≡ r.left)
front_is c s sent taken items views i r mine at = let f = own c s sent taken items views i r at in f.takes (mine ∙ ap (λ (t : Terms). t.owner) f.terms)

pub along : (r_taken r_left taken items : List Item) → (taken ≡ r_taken) × ([] ≡ r_left) → r_taken ++ (r_left ++ items) ≡ taken ++ items
along r_taken r_left taken items t = λ k. (sym t.0) k ++ ((sym t.1) k ++ items)

pub take_step : (i : ℕ) (c : Terms) (s : ℕ) (sent taken xs items : List Item) (views : List View) → s ≡ c.owner
    → (r : Ruled (xs ++ items) views) → get_elem? views i ≡ some (port c s sent taken) → Ruled items (set views i (port c s sent (taken ++ xs)))
take_step i c s sent taken xs items views mine r at = let v = port c s sent taken in let w = port c s sent (taken ++ xs) in
    let f = own c s sent taken (xs ++ items) views i r at in
    let t = front_is c s sent taken (xs ++ items) views i r mine at in
    let whole : r.taken ++ (r.left ++ (xs ++ items)) ≡ (taken ++ xs) ++ ([] ++ items) = along r.taken r.left taken (xs ++ items) t ∙ sym (append_assoc taken xs items) in
    let law : LaneLaw (scope r.c) r.sent (taken ++ xs) ([] ++ items) = law-along (scope r.c) r.sent r.taken (r.left ++ (xs ++ items)) (taken ++ xs) ([] ++ items) whole r.law in
    step (xs ++ items) items views i v w r at refl refl refl r.sent (taken ++ xs) [] law r.fair
    (λ p _. refl)
    (λ away. absurd (away (ap r.pass_index (sym (mine ∙ ap (λ (t : Terms). t.owner) f.terms)) ∙ f.has_pass_index)))
    (λ p has. let q : p ≡ s = only c s p sent (taken ++ xs) has in record {
      terms = f.terms;
      within = subst (λ n. n < r.c.workers) (sym q) f.within;
      has_pass_index = ap r.pass_index q ∙ f.has_pass_index;
      sends = own_list c s p sent (taken ++ xs) q ∙ sym (own_list c s s sent taken refl) ∙ f.sends ∙ ap r.sent (sym q);
      takes = λ o. (refl, refl);
    })

pub next_is : (i : ℕ) (c : Terms) (s : ℕ) (sent taken : List Item) (x : Load) (items : List Item) (views : List View) → IsNonEmpty x → s ≡ c.owner
    → (r : Ruled (items_in x ++ items) views) → get_elem? views i ≡ some (port c s sent taken) → IsNext (port c s sent taken) x
next_is i c s sent taken x items views carries mine r at = let xs = items_in x in
    let f = own c s sent taken (xs ++ items) views i r at in
    let t = front_is c s sent taken (xs ++ items) views i r mine at in
    let whole : r.taken ++ (r.left ++ (xs ++ items)) ≡ (taken ++ xs) ++ items = along r.taken r.left taken (xs ++ items) t ∙ sym (append_assoc taken xs items) in
    let senders : All (λ y. sender_of y < r.c.workers) (taken ++ (xs ++ items)) = subst (λ (l : List Item). All (λ y. sender_of y < r.c.workers) l) (along r.taken r.left taken (xs ++ items) t) r.law.senders in
    let lt : load_from x < r.c.workers = load-from r.c.workers x carries (all-front (λ y. sender_of y < r.c.workers) xs items (all-back (λ y. sender_of y < r.c.workers) taken (xs ++ items) senders)) in (
      r.sent (load_from x),
      carries,
      subst (λ (t : Terms). load_from x < t.workers) (sym f.terms) lt,
      subst (λ (t : Terms). IsFair (scope t) (r.sent (load_from x))) (sym f.terms) (r.fair (load_from x) lt),
      (sent_by (load_from x) items, sym (r.law.in_order (load_from x) lt) ∙ ap (sent_by (load_from x)) whole ∙ sent_by-append (load_from x) (taken ++ xs) items),
      λ q. ap r.sent q ∙ sym f.sends ∙ own_list c s s sent taken refl,
    )

pub pops : (i : ℕ) (c : Terms) (s : ℕ) (sent taken : List Item) → s ≡ c.owner → Pops Holds i (port c s sent taken) (Takes (port c s sent taken))
pops i c s sent taken mine x loads views h at = let r = ruled (flat (x ∷ loads)) views i (port c s sent taken) h.1 at refl in
    let carries : IsNonEmpty x = h.0 0 x (omega arith) in (
      port c s sent (taken ++ items_in x),
      ((λ k d lt. h.0 (suc k) d (omega arith)), inr (take_step i c s sent taken (items_in x) (flat loads) views mine r at)),
      (refl, next_is i c s sent taken x (flat loads) views carries mine r at),
    )

-- what an owner learns of the loads in the lane
pub owns : (i : ℕ) (c : Terms) (s : ℕ) (sent taken : List Item) → s ≡ c.owner → Learns Holds i (port c s sent taken) (OwnSentInOrder (port c s sent taken))
owns i c s sent taken mine loads views h at = let items = flat loads in let r = ruled items views i (port c s sent taken) h.1 at refl in
    let f = own c s sent taken items views i r at in
    let t = front_is c s sent taken items views i r mine at in
    ap (sent_by s) (sym (along r.taken r.left taken items t)) ∙ r.law.in_order s f.within ∙ sym f.sends ∙ own_list c s s sent taken refl
