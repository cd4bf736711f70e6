-- Issuing, joining and reading out with a pass keeps the rule.
use Rattle.std.proofs.Common.{◌≡◌, ◌≢◌, ℕ, zero, suc, ◌+◌, ◌-◌, ◌<◌, ◌⊎◌, true, true≢false, cond, eqb, List, [], ◌∷◌, ◌++◌, length, set, sym, refl, ap, ◌∙◌, subst, inl, inr, ⊎_elim, arith, append_assoc, eq-eqb, ne_eqb}
use Rattle.std.specs.Prelude.{slice_index_or}
use Rattle.std.proofs.lemmas.List.{append-nil, get_or_append_left}
use Rattle.std.proofs.lemmas.List.Elements.{All-nil}
use Rattle.std.proofs.Math.Seq.{get_or-append_seam}
use mathlib.Core.Option.{some, some-injective, some-ne-none}
use mathlib.Core.Logic.{dite}
use native.Mathlib.Decide.{ℕ_discrete}
use lib.ListN.{get_elem?}
use Rattle.crossbeam_queue.specs.Fifo.{Forks, Merges, Pops, Learns}
use Rattle.crossbeam_queue.proofs.Lists.{at_set, set_here, set_else, at_longer, at_last}
use Rattle.req_table.specs.declared.Item.{Item}
use Rattle.lane_queue.specs.declared.rule.Terms.{Terms}
use Rattle.lane_queue.specs.declared.rule.View.{View}
use Rattle.req_table.specs.Lanes.{HasSenders, sender_of, IsFair, LaneLaw}
use Rattle.lane_queue.specs.Rule.{scope, blank, spent, issuer, joined, port, CoversPort, sent_of, Fits, Ruled, Holds, Reads, AllPortsLawful}
use Rattle.lane_queue.specs.Loads.{items_in, flat}
use Rattle.lane_queue.proofs.Facts.{law-along}
use Rattle.lane_queue.proofs.Moves.{there, same_there, ruled, step, only, own_list, own}

-- ---- a view at the end
snoc_at : (l : List View) (a b : View) (j : ℕ) → get_elem? (l ++ a ∷ []) j ≡ some b → (get_elem? l j ≡ some b) ⊎ ((j ≡ length l) × (a ≡ b))
snoc_at [] a b zero e = inr (refl, some-injective a b e)
snoc_at [] a b (suc j) e = absurd (some-ne-none b (sym e))
snoc_at (x ∷ xs) a b zero e = inl e
snoc_at (x ∷ xs) a b (suc j) e = ⊎_elim (λ (t : get_elem? xs j ≡ some b). inl t) (λ (t : (j ≡ length xs) × (a ≡ b)). inr (let n = t.0 in omega arith, t.1)) (snoc_at xs a b j e)

-- a choice at one number
abbrev put : ℕ → ℕ → (ℕ → ℕ) → ℕ → ℕ
put at n f p = cond (eqb p at) n (f p)

put_here : (at n p : ℕ) (f : ℕ → ℕ) → p ≡ at → put at n f p ≡ n
put_here at n p f e = ap (λ b. cond b n (f p)) (eq-eqb p at e)

put_else : (at n p : ℕ) (f : ℕ → ℕ) → p ≢ at → put at n f p ≡ f p
put_else at n p f e = ap (λ b. cond b n (f p)) (ne_eqb p at e)

-- ---- the first port of a lane
first_views : (i : ℕ) (views : List View) (v w : View) → views ≡ blank ∷ [] → get_elem? views i ≡ some blank → set views i v ++ w ∷ [] ≡ v ∷ w ∷ []
first_views zero views v w e at = ap (λ (l : List View). set l 0 v ++ w ∷ []) e
first_views (suc i) views v w e at = absurd (some-ne-none blank (sym at ∙ ap (λ l. get_elem? l (suc i)) e))

abbrev first_pass_index : ℕ → ℕ
first_pass_index p = cond (eqb p 0) 1 0

begins_fits : (c : Terms) → 0 < c.workers → (i : ℕ) (v : View) (p : ℕ) → get_elem? (issuer c 1 ∷ port c 0 [] [] ∷ []) i ≡ some v → CoversPort v p → Fits c first_pass_index (λ _. []) [] [] i v p
begins_fits c lt zero v p at has = let is : issuer c 1 ≡ v = some-injective (issuer c 1) v at in let has' : CoversPort (issuer c 1) p = subst (λ (u : View). CoversPort u p) (sym is) has in let low = has'.0 in
    subst (λ (u : View). Fits c first_pass_index (λ _. []) [] [] 0 u p) is (record { terms = refl; within = has'.1; has_pass_index = ap (λ b. cond b 1 0) (ne_eqb p 0 (λ z. omega arith)); sends = refl; takes = λ _. (refl, refl) })
begins_fits c lt (suc zero) v p at has = let is : port c 0 [] [] ≡ v = some-injective (port c 0 [] []) v at in let has' : CoversPort (port c 0 [] []) p = subst (λ (u : View). CoversPort u p) (sym is) has in let q = only c 0 p [] [] has' in
    subst (λ (u : View). Fits c first_pass_index (λ _. []) [] [] 1 u p) is (record { terms = refl; within = subst (λ n. n < c.workers) (sym q) lt; has_pass_index = ap (λ b. cond b 1 0) (eq-eqb p 0 q); sends = own_list c 0 p [] [] q; takes = λ _. (refl, refl) })
begins_fits c lt (suc (suc i)) v p at has = absurd (some-ne-none v (sym at))

begins_begun : (c : Terms) (i : ℕ) (v : View) → get_elem? (issuer c 1 ∷ port c 0 [] [] ∷ []) i ≡ some v → v.begun ≡ true
begins_begun c zero v at = ap (λ (u : View). u.begun) (sym (some-injective (issuer c 1) v at))
begins_begun c (suc zero) v at = ap (λ (u : View). u.begun) (sym (some-injective (port c 0 [] []) v at))
begins_begun c (suc (suc i)) v at = absurd (some-ne-none v (sym at))

begins_present : (c : Terms) (p : ℕ) → p < c.workers → (v : View) × (get_elem? (issuer c 1 ∷ port c 0 [] [] ∷ []) (first_pass_index p) ≡ some v) × CoversPort v p
begins_present c zero lt = (port c 0 [] [], refl, (omega arith, omega arith))
begins_present c (suc p) lt = (issuer c 1, ap (λ b. get_elem? (issuer c 1 ∷ port c 0 [] [] ∷ []) (cond b 1 0)) (ne_eqb (suc p) 0 (λ z. omega arith)), (omega arith, lt))

begins : (c : Terms) → 0 < c.workers → c.owner < c.workers → Ruled [] (issuer c 1 ∷ port c 0 [] [] ∷ [])
begins c lt owned = record {
  c = c;
  pass_index = first_pass_index;
  sent = λ _. [];
  taken = [];
  left = [];
  owned = owned;
  law = record { senders = All-nil (λ x. sender_of x < c.workers); in_order = λ p _. refl };
  fair = λ p _. tt;
  present = begins_present c;
  begun = begins_begun c;
  fits = begins_fits c lt;
}

pub issues_first : (i : ℕ) (c : Terms) → 0 < c.workers → c.owner < c.workers → Forks Holds i blank (issuer c 1) (port c 0 [] [])
issues_first i c lt owned loads views h at = let items = flat loads in (
  h.0,
  ⊎_elim
      (λ (x : (items ≡ []) × (views ≡ blank ∷ [])). inr (subst (λ (y : List Item × List View). Ruled y.0 y.1) (λ k. (sym x.0 k, sym (first_views i views (issuer c 1) (port c 0 [] []) x.1 at) k)) (begins c lt owned)))
      (λ (r : Ruled items views). absurd (true≢false (sym (r.begun i blank at))))
      h.1,
)

-- ---- the next port
pub issue_step : (i : ℕ) (c : Terms) (low : ℕ) (items : List Item) (views : List View) → low < c.workers → (r : Ruled items views) → get_elem? views i ≡ some (issuer c low)
    → Ruled items (set views i (issuer c (low + 1)) ++ port c low [] [] ∷ [])
issue_step i c low items views lt r at = let l = issuer c (low + 1) in let w = port c low [] [] in let vs = set views i l in let m = length vs in let pass_index' = put low m r.pass_index in
    let f : Fits r.c r.pass_index r.sent r.taken r.left i (issuer c low) low = r.fits i (issuer c low) low at (omega arith, lt) in
    let away : (j p : ℕ) (u : View) → j ≢ i → get_elem? views j ≡ some u → CoversPort u p → p ≢ low = λ j p u n e has q. n (sym (r.fits j u p e has).has_pass_index ∙ ap r.pass_index q ∙ f.has_pass_index) in
    record {
      c = r.c;
      pass_index = pass_index';
      sent = r.sent;
      taken = r.taken;
      left = r.left;
      owned = r.owned;
      law = r.law;
      fair = r.fair;
      present = λ p in_range. dite (ℕ_discrete p low)
          (λ e. (w, subst (λ n. get_elem? (vs ++ w ∷ []) n ≡ some w) (sym (put_here low m p r.pass_index e)) (at_last vs w m refl), (omega arith, omega arith)))
          (λ n. let h = r.present p in_range in dite (ℕ_discrete (r.pass_index p) i)
          (λ e. let is : h.0 ≡ issuer c low = same_there views i h.0 (issuer c low) (subst (λ k. get_elem? views k ≡ some h.0) e h.1) at in
          let has : CoversPort (issuer c low) p = subst (λ (u : View). CoversPort u p) is h.2 in let a = has.0 in
          (l, subst (λ k. get_elem? (vs ++ w ∷ []) k ≡ some l) (sym (put_else low m p r.pass_index n ∙ e)) (at_longer vs (w ∷ []) i l (set_here views i l (there views i (issuer c low) at))), (omega arith, has.1)))
          (λ k. (h.0, subst (λ y. get_elem? (vs ++ w ∷ []) y ≡ some h.0) (sym (put_else low m p r.pass_index n)) (at_longer vs (w ∷ []) (r.pass_index p) h.0 (set_else views i (r.pass_index p) l k ∙ h.1)), h.2)));
      begun = λ j u e. ⊎_elim
          (λ (x : get_elem? vs j ≡ some u). ⊎_elim (λ (y : (j ≡ i) × (l ≡ u)). ap (λ (z : View). z.begun) (sym y.1)) (λ (y : (j ≢ i) × (get_elem? views j ≡ some u)). r.begun j u y.1) (at_set views i j l u x))
          (λ (x : (j ≡ m) × (w ≡ u)). ap (λ (z : View). z.begun) (sym x.1))
          (snoc_at vs w u j e);
      fits = λ j u p e has. ⊎_elim
          (λ (x : get_elem? vs j ≡ some u). ⊎_elim
          (λ (y : (j ≡ i) × (l ≡ u)). let has' : CoversPort l p = subst (λ (z : View). CoversPort z p) (sym y.1) has in let a = has'.0 in
          let g : Fits r.c r.pass_index r.sent r.taken r.left i (issuer c low) p = r.fits i (issuer c low) p at (omega arith, has'.1) in
          subst (λ (z : ℕ × View). Fits r.c pass_index' r.sent r.taken r.left z.0 z.1 p) (λ k. (sym y.0 k, y.1 k))
          (record { terms = g.terms; within = g.within; has_pass_index = put_else low m p r.pass_index (λ z. omega arith) ∙ g.has_pass_index; sends = g.sends; takes = g.takes }))
          (λ (y : (j ≢ i) × (get_elem? views j ≡ some u)). let g = r.fits j u p y.1 has in
          record { terms = g.terms; within = g.within; has_pass_index = put_else low m p r.pass_index (away j p u y.0 y.1 has) ∙ g.has_pass_index; sends = g.sends; takes = g.takes })
          (at_set views i j l u x))
          (λ (x : (j ≡ m) × (w ≡ u)). let has' : CoversPort w p = subst (λ (z : View). CoversPort z p) (sym x.1) has in let q = only c low p [] [] has' in
          subst (λ (z : ℕ × View). Fits r.c pass_index' r.sent r.taken r.left z.0 z.1 p) (λ k. (sym x.0 k, x.1 k))
          (record {
            terms = f.terms;
            within = subst (λ n. n < r.c.workers) (sym q) f.within;
            has_pass_index = put_here low m p r.pass_index q;
            sends = own_list c low p [] [] q ∙ f.sends ∙ ap r.sent (sym q);
            takes = λ o. f.takes (sym q ∙ o);
          }))
          (snoc_at vs w u j e);
    }

pub issues : (i : ℕ) (c : Terms) (low : ℕ) → low < c.workers → Forks Holds i (issuer c low) (issuer c (low + 1)) (port c low [] [])
issues i c low lt loads views h at = (h.0, inr (issue_step i c low (flat loads) views lt (ruled (flat loads) views i (issuer c low) h.1 at refl) at))

-- ---- a port is joined to those below it
list_at : (c : Terms) (j p : ℕ) (sent : List (List Item)) (taken left : List Item) → sent_of (joined c j sent taken left) p ≡ slice_index_or sent p []
list_at c j p sent taken left = let z : p - 0 ≡ p = omega arith in ap (λ n. slice_index_or sent n []) z

pub merge_step : (i : ℕ) (c : Terms) (j : ℕ) (lists : List (List Item)) (taken : List Item) (other : ℕ) (sent more : List Item) (items : List Item) (views : List View)
    → length lists ≡ j → (j ≢ c.owner → more ≡ []) → ((c.owner < j → ⊥) → taken ≡ []) → (r : Ruled items views)
    → get_elem? views i ≡ some (joined c j lists taken []) → other ≢ i → get_elem? views other ≡ some (port c j sent more)
    → Ruled items (set (set views i (joined c (j + 1) (lists ++ sent ∷ []) (taken ++ more) [])) other spent)
merge_step i c j lists taken other sent more items views lengths theirs mine r at apart that =
    let v = joined c j lists taken [] in let w = port c j sent more in let both = joined c (j + 1) (lists ++ sent ∷ []) (taken ++ more) [] in
    let vs = set views i both in let pass_index' = put j i r.pass_index in
    let f = own c j sent more items views other r that in
    let fore : (p : ℕ) → p < j → Fits r.c r.pass_index r.sent r.taken r.left i v p = λ p lt. r.fits i v p at (omega arith, lt) in
    let at' : get_elem? vs other ≡ some w = set_else views i other both apart ∙ that in
    let here : get_elem? (set vs other spent) i ≡ some both = set_else vs other i spent (λ e. apart (sym e)) ∙ set_here views i both (there views i v at) in
    let terms : c ≡ r.c = f.terms in
    let fit : (p : ℕ) → CoversPort both p → Fits r.c pass_index' r.sent r.taken r.left i both p = λ p has. dite (ℕ_discrete p j)
    (λ e. record {
      terms = terms;
      within = subst (λ n. n < r.c.workers) (sym e) f.within;
      has_pass_index = put_here j i p r.pass_index e;
      sends = list_at c (j + 1) p (lists ++ sent ∷ []) (taken ++ more) [] ∙ ap (λ n. slice_index_or (lists ++ sent ∷ []) n []) (e ∙ sym lengths) ∙ get_or-append_seam lists sent [] [] ∙ sym (own_list c j j sent more refl) ∙ f.sends ∙ ap r.sent (sym e);
      takes = λ o. let q : j ≡ r.c.owner = sym e ∙ o in let k = f.takes q in
          let z : taken ≡ [] = mine (λ lt. let q' : j ≡ c.owner = q ∙ ap (λ (t : Terms). t.owner) (sym terms) in omega arith) in (ap (λ l. l ++ more) z ∙ k.0, k.1);
    })
    (λ n. let z = has.1 in let lt : p < j = omega arith in let g = fore p lt in record {
      terms = terms;
      within = g.within;
      has_pass_index = put_else j i p r.pass_index n ∙ g.has_pass_index;
      sends = list_at c (j + 1) p (lists ++ sent ∷ []) (taken ++ more) [] ∙ get_or_append_left lists (sent ∷ []) [] p (omega arith) ∙ sym (list_at c j p lists taken []) ∙ g.sends;
      takes = λ o. let k = g.takes o in
          let z : more ≡ [] = theirs (λ q. n (o ∙ ap (λ (t : Terms). t.owner) (sym terms) ∙ sym q)) in (ap (λ l. taken ++ l) z ∙ append-nil taken ∙ k.0, k.1);
    }) in
    record {
      c = r.c;
      pass_index = pass_index';
      sent = r.sent;
      taken = r.taken;
      left = r.left;
      owned = r.owned;
      law = r.law;
      fair = r.fair;
      present = λ p in_range. dite (ℕ_discrete p j)
          (λ e. (both, subst (λ n. get_elem? (set vs other spent) n ≡ some both) (sym (put_here j i p r.pass_index e)) here, (omega arith, omega arith)))
          (λ n. let h = r.present p in_range in dite (ℕ_discrete (r.pass_index p) i)
          (λ e. let is : h.0 ≡ v = same_there views i h.0 v (subst (λ k. get_elem? views k ≡ some h.0) e h.1) at in
          let has : CoversPort v p = subst (λ (u : View). CoversPort u p) is h.2 in let z = has.1 in
          (both, subst (λ k. get_elem? (set vs other spent) k ≡ some both) (sym (put_else j i p r.pass_index n ∙ e)) here, (omega arith, omega arith)))
          (λ k. let k' : r.pass_index p ≢ other = λ e. let is : h.0 ≡ w = same_there views other h.0 w (subst (λ y. get_elem? views y ≡ some h.0) e h.1) that in n (only c j p sent more (subst (λ (u : View). CoversPort u p) is h.2)) in
          (h.0, subst (λ y. get_elem? (set vs other spent) y ≡ some h.0) (sym (put_else j i p r.pass_index n)) (set_else vs other (r.pass_index p) spent k' ∙ set_else views i (r.pass_index p) both k ∙ h.1), h.2)));
      begun = λ k u e. ⊎_elim
          (λ (x : (k ≡ other) × (spent ≡ u)). ap (λ (z : View). z.begun) (sym x.1))
          (λ (x : (k ≢ other) × (get_elem? vs k ≡ some u)). ⊎_elim (λ (y : (k ≡ i) × (both ≡ u)). ap (λ (z : View). z.begun) (sym y.1)) (λ (y : (k ≢ i) × (get_elem? views k ≡ some u)). r.begun k u y.1) (at_set views i k both u x.1))
          (at_set vs other k spent u e);
      fits = λ k u p e has. ⊎_elim
          (λ (x : (k ≡ other) × (spent ≡ u)). let has' : CoversPort spent p = subst (λ (z : View). CoversPort z p) (sym x.1) has in let z = has'.1 in absurd (omega arith))
          (λ (x : (k ≢ other) × (get_elem? vs k ≡ some u)). ⊎_elim
          (λ (y : (k ≡ i) × (both ≡ u)). subst (λ (z : ℕ × View). Fits r.c pass_index' r.sent r.taken r.left z.0 z.1 p) (λ q. (sym y.0 q, y.1 q)) (fit p (subst (λ (z : View). CoversPort z p) (sym y.1) has)))
          (λ (y : (k ≢ i) × (get_elem? views k ≡ some u)). let g = r.fits k u p y.1 has in
          let n : p ≢ j = λ q. x.0 (sym g.has_pass_index ∙ ap r.pass_index q ∙ f.has_pass_index) in
          record { terms = g.terms; within = g.within; has_pass_index = put_else j i p r.pass_index n ∙ g.has_pass_index; sends = g.sends; takes = g.takes })
          (at_set views i k both u x.1))
          (at_set vs other k spent u e);
    }

pub merges : (i : ℕ) (c : Terms) (j : ℕ) (lists : List (List Item)) (taken : List Item) (other : ℕ) (sent more : List Item)
    → length lists ≡ j → (j ≢ c.owner → more ≡ []) → ((c.owner < j → ⊥) → taken ≡ [])
    → Merges Holds i (joined c j lists taken []) other (port c j sent more) (joined c (j + 1) (lists ++ sent ∷ []) (taken ++ more) []) spent
merges i c j lists taken other sent more lengths theirs mine loads views h at apart that =
    let both = joined c (j + 1) (lists ++ sent ∷ []) (taken ++ more) [] in
    (h.0, inr (merge_step i c j lists taken other sent more (flat loads) views lengths theirs mine (ruled (flat loads) views i (joined c j lists taken []) h.1 at refl) at apart (sym (set_else views i other both apart) ∙ that)))

-- ---- the last read, which finds the lane empty
-- what the view of all ports says
all_ports : (i : ℕ) (c : Terms) (lists : List (List Item)) (taken left : List Item) (items : List Item) (views : List View) (r : Ruled items views) → get_elem? views i ≡ some (joined c c.workers lists taken left)
    → (p : ℕ) → p < c.workers → Fits r.c r.pass_index r.sent r.taken r.left i (joined c c.workers lists taken left) p
all_ports i c lists taken left items views r at p lt = r.fits i (joined c c.workers lists taken left) p at (omega arith, lt)

pub read_step : (i : ℕ) (c : Terms) (lists : List (List Item)) (taken left xs items : List Item) (views : List View) → c.owner < c.workers
    → (r : Ruled (xs ++ items) views) → get_elem? views i ≡ some (joined c c.workers lists taken left) → Ruled items (set views i (joined c c.workers lists taken (left ++ xs)))
read_step i c lists taken left xs items views lt r at = let v = joined c c.workers lists taken left in let w = joined c c.workers lists taken (left ++ xs) in
    let f = all_ports i c lists taken left (xs ++ items) views r at in
    let o : c.owner ≡ r.c.owner = ap (λ (t : Terms). t.owner) (f c.owner lt).terms in
    let t = (f c.owner lt).takes o in
    let whole : r.taken ++ (r.left ++ (xs ++ items)) ≡ taken ++ ((left ++ xs) ++ items) = (λ k. (sym t.0) k ++ ((sym t.1) k ++ (xs ++ items))) ∙ ap (λ l. taken ++ l) (sym (append_assoc left (xs) items)) in
    let law : LaneLaw (scope r.c) r.sent taken ((left ++ xs) ++ items) = law-along (scope r.c) r.sent r.taken (r.left ++ (xs ++ items)) taken ((left ++ xs) ++ items) whole r.law in
    step (xs ++ items) items views i v w r at refl refl refl r.sent taken (left ++ xs) law r.fair
    (λ p _. refl)
    (λ away. absurd (away (ap r.pass_index (sym o) ∙ (f c.owner lt).has_pass_index)))
    (λ p has. let g = f p has.1 in record { terms = g.terms; within = g.within; has_pass_index = g.has_pass_index; sends = g.sends; takes = λ _. (refl, refl) })

pub reads : (i : ℕ) (c : Terms) (lists : List (List Item)) (taken left : List Item) → c.owner < c.workers → Pops Holds i (joined c c.workers lists taken left) (Reads (joined c c.workers lists taken left))
reads i c lists taken left lt x loads views h at = (
  joined c c.workers lists taken (left ++ items_in x),
  ((λ k d less. h.0 (suc k) d (omega arith)), inr (read_step i c lists taken left (items_in x) (flat loads) views lt (ruled (flat (x ∷ loads)) views i (joined c c.workers lists taken left) h.1 at refl) at)),
  refl,
)

-- once all ports are joined the law is known
pub all_ports_lawful : (i : ℕ) (c : Terms) (lists : List (List Item)) (taken left : List Item) → c.owner < c.workers → Learns Holds i (joined c c.workers lists taken left) (AllPortsLawful (joined c c.workers lists taken left))
all_ports_lawful i c lists taken left lt loads views h at = let items = flat loads in let r = ruled items views i (joined c c.workers lists taken left) h.1 at refl in
    let f = all_ports i c lists taken left items views r at in
    let o : c.owner ≡ r.c.owner = ap (λ (t : Terms). t.owner) (f c.owner lt).terms in
    let t = (f c.owner lt).takes o in
    let k : c ≡ r.c = (f c.owner lt).terms in
    let whole : r.taken ++ (r.left ++ items) ≡ taken ++ (left ++ items) = λ k. (sym t.0) k ++ ((sym t.1) k ++ items) in
    let list : (p : ℕ) → p < c.workers → slice_index_or lists p [] ≡ r.sent p = λ p lt'. sym (list_at c c.workers p lists taken left) ∙ (f p lt').sends in
    let law = law-along (scope r.c) r.sent r.taken (r.left ++ items) taken (left ++ items) whole r.law in (
      record {
        senders = subst (λ (t : Terms). HasSenders (scope t) (taken ++ (left ++ items))) (sym k) law.senders;
        in_order = λ s lt'. law.in_order s (subst (λ (t : Terms). s < t.workers) k lt') ∙ sym (list s lt');
      },
      λ s lt'. subst (IsFair (scope c)) (sym (list s lt')) (subst (λ (t : Terms). IsFair (scope t) (r.sent s)) (sym k) (r.fair s (subst (λ (t : Terms). s < t.workers) k lt'))),
    )
