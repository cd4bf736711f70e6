-- What a port has sent to itself and taken, compared with what went through its lane.
use Rattle.std.proofs.Common.{◌≡◌, ◌≢◌, ℕ, ◌+◌, ◌<◌, cond, eqb, true, false, List, [], ◌∷◌, ◌++◌, length, map, get_or, sym, refl, ap, ◌∙◌, subst, arith, append_assoc, eq-eqb, ne_eqb, Option, Some, None, Result, Ok, Err}
use Rattle.std.proofs.lemmas.List.{append-nil, append_cancel_left, length-map, get_or-map, get_or-set_same, get_or-set_other}
use mathlib.Core.Logic.{dite}
use native.Mathlib.Decide.{ℕ_discrete}
use Rattle.req_table.specs.declared.Key.{Key}
use Rattle.req_table.specs.declared.Item.{Item}
use Rattle.req_table.specs.declared.Item.TheVariants.{Ask}
use Rattle.req_table.specs.Wave.{Scope}
use Rattle.req_table.specs.Lanes.{sender_of, sent_by, ends, MayFollow, IsFair, LaneLaw}
use Rattle.req_table.proofs.Lists.{Has, each, all_of}
use Rattle.req_table.proofs.Items.{sent_by_has, sent_by_of}
use Rattle.req_table.proofs.Fair.{ends-append, sent_by-append}
use Rattle.lane_queue.specs.declared.load.Load.{Load}
use Rattle.lane_queue.specs.Loads.{load_from, items_in, flat, IsNonEmpty, MayFollowAll}
use Rattle.lane_queue.specs.Lists.{IsPrefix, FairLane}
use Rattle.crossbeam_queue.specs.SegTies.{SegId}
use Rattle.std.specs.declared.alloc.Global.{Global}
use Rattle.req_table.specs.Sizes.{scope_of}
use Rattle.lane_queue.specs.Joining.{retired, ArePorts, AllAgreeWithOwnLane, AreRetired, LawOfLanes, passed_from, popped_by, sent_from, taken_by}
use Rattle.req_table.specs.declared.Sizes.{Sizes}
use Rattle.std.specs.Prelude.{slice_index_or, MatchResult, OnOk}
use Rattle.lane_queue.proofs.Rounds.{element}
use Rattle.lane_queue.specs.PortView.{PortView, sent_to, passed_to, put_to, port_scope, IsTaken, AgreesWithOwnLane, has_put, has_taken, has_kept}
use Rattle.lane_queue.proofs.Facts.{fair-push, fair-more, load-other, of-mine, of-other}

abbrev none_of : Option (SegId Global) → Option (SegId Global)
none_of q = None

-- what a port sent to itself, and to another
pub sent-own : (p : PortView) → sent_to p p.number ≡ p.own
sent-own p = ap (λ b. cond b p.own (passed_to p p.number)) (eq-eqb p.number p.number refl)

pub sent-other : (p : PortView) (k : ℕ) → k ≢ p.number → sent_to p k ≡ passed_to p k
sent-other p k n = ap (λ b. cond b p.own (passed_to p k)) (ne_eqb k p.number n)

-- ---- what a port has once it put a load on a lane
module _ (p : PortView) (to : ℕ) (x : Load) where
  pub put-sent : to < length p.passed → sent_to (has_put p to x) to ≡ sent_to p to ++ items_in x
  put-sent lt = dite (ℕ_discrete to p.number)
      (λ e. let b : eqb to p.number ≡ true = eq-eqb to p.number e in
      ap (λ b. cond b (has_put p to x).own (passed_to (has_put p to x) to)) b ∙ ap (λ b. cond b (p.own ++ items_in x) p.own) b ∙ ap (λ l. l ++ items_in x) (sym (ap (λ b. cond b p.own (passed_to p to)) b)))
      (λ n. let b : eqb to p.number ≡ false = ne_eqb to p.number n in
      ap (λ b. cond b (has_put p to x).own (passed_to (has_put p to x) to)) b ∙ get_or-set_same p.passed to (passed_to p to ++ items_in x) [] lt ∙ ap (λ l. l ++ items_in x) (sym (ap (λ b. cond b p.own (passed_to p to)) b)))

  pub put-others : (k : ℕ) → k ≢ to → sent_to (has_put p to x) k ≡ sent_to p k
  put-others k m = dite (ℕ_discrete k p.number)
      (λ e. let b : eqb k p.number ≡ true = eq-eqb k p.number e in
      ap (λ b. cond b (has_put p to x).own (passed_to (has_put p to x) k)) b ∙ ap (λ b. cond b (p.own ++ items_in x) p.own) (ne_eqb to p.number (λ q. m (e ∙ sym q))) ∙ sym (ap (λ b. cond b p.own (passed_to p k)) b))
      (λ n. let b : eqb k p.number ≡ false = ne_eqb k p.number n in
      ap (λ b. cond b (has_put p to x).own (passed_to (has_put p to x) k)) b ∙ get_or-set_other p.passed to k (passed_to p to ++ items_in x) [] m ∙ sym (ap (λ b. cond b p.own (passed_to p k)) b))

  pub put-counts : to < length p.put → put_to (has_put p to x) to ≡ put_to p to + 1
  put-counts lt = get_or-set_same p.put to (put_to p to + 1) 0 lt

  pub put-counts_others : (k : ℕ) → k ≢ to → put_to (has_put p to x) k ≡ put_to p k
  put-counts_others k m = get_or-set_other p.put to k (put_to p to + 1) 0 m

-- ---- what a port has once it put a load on a lane, unless memory was refused
module _ {E : Type 0} (r : Result (Unit {0}) E) (refused : E → Type 0) (p q : PortView) (to : ℕ) (x : Load) (h : MatchResult r (λ _. q ≡ has_put p to x) refused) where
  on-put : (P : PortView → Type 0) → P (has_put p to x) → OnOk r (P q)
  on-put P a = elim r as (λ r. MatchResult r (λ _. q ≡ has_put p to x) refused → OnOk r (P q)) [
    | Ok u ↦ λ e. subst P (sym e) a
    | Err y ↦ λ e. tt
  ] h

  pub ok-sent : to < length p.passed → OnOk r (sent_to q to ≡ sent_to p to ++ items_in x)
  ok-sent lt = on-put (λ u. sent_to u to ≡ sent_to p to ++ items_in x) (put-sent p to x lt)

  pub ok-others : OnOk r ((k : ℕ) → k ≢ to → sent_to q k ≡ sent_to p k)
  ok-others = on-put (λ u. (k : ℕ) → k ≢ to → sent_to u k ≡ sent_to p k) (put-others p to x)

  pub ok-put : to < length p.put → OnOk r (put_to q to ≡ put_to p to + 1)
  ok-put lt = on-put (λ u. put_to u to ≡ put_to p to + 1) (put-counts p to x lt)

  pub ok-others_put : OnOk r ((k : ℕ) → k ≢ to → put_to q k ≡ put_to p k)
  ok-others_put = on-put (λ u. (k : ℕ) → k ≢ to → put_to u k ≡ put_to p k) (put-counts_others p to x)

module _ (p : PortView) (h : AgreesWithOwnLane p) where
  -- all of its own was taken exactly if nothing of its own is under way
  pub none-under : sent_by p.number p.taken ≡ p.own → h.under_way ≡ []
  none-under e = let q : p.own ++ [] ≡ p.own ++ h.under_way = append-nil p.own ∙ h.all ∙ ap (λ l. l ++ h.under_way) e in sym (append_cancel_left p.own [] h.under_way q)

  pub all-taken : sent_by p.number p.popped ≡ passed_to p p.number → sent_by p.number p.taken ≡ sent_to p p.number
  all-taken e =
      let s = passed_to p p.number in
      let q : s ++ [] ≡ s ++ h.under_way = append-nil s ∙ h.through ∙ ap (λ l. l ++ h.under_way) e in
      let u : h.under_way ≡ [] = sym (append_cancel_left s [] h.under_way q) in
      sym (sent-own p ∙ h.all ∙ ap (λ l. sent_by p.number p.taken ++ l) u ∙ append-nil (sent_by p.number p.taken))

  -- what it has taken of its own is a prefix of what it has sent to itself
  pub own-prefix : IsPrefix (sent_by p.number p.taken) (sent_to p p.number)
  own-prefix = (h.under_way, sent-own p ∙ h.all)

  -- a load is put on a lane
  kept-put-own : (x : Load) → p.number < length p.passed → MayFollowAll (port_scope p) (ends (sent_to p p.number)) x → AgreesWithOwnLane (has_put p p.number x)
  kept-put-own x lt may = let xs = items_in x in let q = has_put p p.number x in
      let o : q.own ≡ p.own ++ xs = ap (λ b. cond b (p.own ++ xs) p.own) (eq-eqb p.number p.number refl) in
      let s : passed_to q p.number ≡ passed_to p p.number ++ xs = get_or-set_same p.passed p.number (passed_to p p.number ++ xs) [] lt in
      record {
        fair = subst (IsFair (port_scope p)) (sym o) (fair-more (port_scope p) p.own x h.fair (subst (λ l. MayFollowAll (port_scope p) (ends l) x) (sent-own p) may));
        ended = ap ends o ∙ ends-append p.own xs ∙ ap (λ n. n + ends xs) h.ended ∙ sym (ends-append (passed_to p p.number) xs) ∙ sym (ap ends s);
        others = h.others;
        under_way = h.under_way ++ xs;
        all = o ∙ ap (λ l. l ++ xs) h.all ∙ append_assoc (sent_by p.number p.taken) h.under_way xs;
        through = s ∙ ap (λ l. l ++ xs) h.through ∙ append_assoc (sent_by p.number p.popped) h.under_way xs;
      }

  kept-put-other : (to : ℕ) (x : Load) → to ≢ p.number → AgreesWithOwnLane (has_put p to x)
  kept-put-other to x n = let xs = items_in x in let q = has_put p to x in
      let o : q.own ≡ p.own = ap (λ b. cond b (p.own ++ xs) p.own) (ne_eqb to p.number n) in
      let s : passed_to q p.number ≡ passed_to p p.number = get_or-set_other p.passed to p.number (passed_to p to ++ xs) [] (λ e. n (sym e)) in
      record {
        fair = subst (IsFair (port_scope p)) (sym o) h.fair;
        ended = ap ends o ∙ h.ended ∙ sym (ap ends s);
        others = h.others;
        under_way = h.under_way;
        all = o ∙ h.all;
        through = s ∙ h.through;
      }

  pub kept-put : (to : ℕ) (x : Load) → p.number < length p.passed → MayFollowAll (port_scope p) (ends (sent_to p to)) x → AgreesWithOwnLane (has_put p to x)
  kept-put to x lt may = dite (ℕ_discrete to p.number)
      (λ e. subst (λ n. AgreesWithOwnLane (has_put p n x)) (sym e) (kept-put-own x lt (subst (λ n. MayFollowAll (port_scope p) (ends (sent_to p n)) x) e may)))
      (λ n. kept-put-other to x n)

  -- a load is taken
  -- what of its own is under way begins with the load that it takes
  own-begins : (x : Load) → load_from x ≡ p.number → (b : IsPrefix (sent_by p.number (p.popped ++ items_in x)) (passed_to p p.number)) → p.own ≡ sent_by p.number (p.taken ++ items_in x) ++ b.0
  own-begins x from b = let n = p.number in let xs = items_in x in let ys = sent_by n xs in
      let e : sent_by n p.popped ++ h.under_way ≡ sent_by n p.popped ++ (ys ++ b.0) =
      sym h.through ∙ b.1 ∙ ap (λ l. l ++ b.0) (sent_by-append n p.popped xs) ∙ append_assoc (sent_by n p.popped) ys b.0 in
      h.all ∙ ap (λ l. sent_by n p.taken ++ l) (append_cancel_left (sent_by n p.popped) h.under_way (ys ++ b.0) e)
      ∙ sym (append_assoc (sent_by n p.taken) ys b.0) ∙ ap (λ l. l ++ b.0) (sym (sent_by-append n p.taken xs))

  others-taken : (x : Load) (o : ℕ) → o ≢ p.number → sent_by o (p.taken ++ items_in x) ≡ sent_by o (p.popped ++ items_in x)
  others-taken x o n = sent_by-append o p.taken (items_in x) ∙ ap (λ l. l ++ sent_by o (items_in x)) (h.others o n) ∙ sym (sent_by-append o p.popped (items_in x))

  pub kept-take : (x : Load) → (load_from x ≡ p.number → IsPrefix (sent_by p.number (p.popped ++ items_in x)) (passed_to p p.number)) → AgreesWithOwnLane (has_taken p x)
  kept-take x b = let n = p.number in let xs = items_in x in dite (ℕ_discrete (load_from x) n)
      (λ e. let c = b e in record {
        fair = h.fair;
        ended = h.ended;
        others = others-taken x;
        under_way = c.0;
        all = own-begins x e c;
        through = c.1;
      })
      (λ m. let none : sent_by n xs ≡ [] = load-other n x m in record {
        fair = h.fair;
        ended = h.ended;
        others = others-taken x;
        under_way = h.under_way;
        all = h.all ∙ ap (λ l. l ++ h.under_way) (sym (sent_by-append n p.taken xs ∙ ap (λ l. sent_by n p.taken ++ l) none ∙ append-nil (sent_by n p.taken)));
        through = h.through ∙ ap (λ l. l ++ h.under_way) (sym (sent_by-append n p.popped xs ∙ ap (λ l. sent_by n p.popped ++ l) none ∙ append-nil (sent_by n p.popped)));
      })

  pub taken-next : (x : Load) (sent : List Item) → IsNonEmpty x → load_from x < length p.lanes → IsFair (port_scope p) sent → IsPrefix (sent_by (load_from x) (p.popped ++ items_in x)) sent
      → (load_from x ≡ p.number → sent ≡ passed_to p p.number) → IsTaken p x
  taken-next x sent carries lt fair b own = dite (ℕ_discrete (load_from x) p.number)
      (λ e.
      let c : IsPrefix (sent_by p.number (p.popped ++ items_in x)) (passed_to p p.number) = subst (λ (y : ℕ × List Item). IsPrefix (sent_by y.0 (p.popped ++ items_in x)) y.1) (λ j. (e j, own e j)) b in
      (p.own, carries, lt, h.fair, subst (λ n. IsPrefix (sent_by n (p.taken ++ items_in x)) p.own) (sym e) (c.0, own-begins x e c), λ q. sym (sent-own p)))
      (λ m. (sent, carries, lt, fair, subst (λ l. IsPrefix l sent) (sym (others-taken x (load_from x) m)) b, λ q. absurd (m q)))

  -- a request is kept
  pub kept-keep : (level : ℕ) (key : Key) → MayFollow (port_scope p) (ends (sent_to p p.number)) (Ask p.number level key) → sent_by p.number p.taken ≡ sent_to p p.number → AgreesWithOwnLane (has_kept p (Ask p.number level key))
  kept-keep level key may taken = let n = p.number in let x = Ask n level key in
      let e : sent_by n p.taken ≡ p.own = taken ∙ sent-own p in
      record {
        fair = fair-push (port_scope p) p.own x h.fair (subst (λ l. MayFollow (port_scope p) (ends l) x) (sent-own p) may);
        ended = ends-append p.own (x ∷ []) ∙ (let z = h.ended in omega (arith, z));
        others = λ o m. sent_by-append o p.taken (x ∷ []) ∙ ap (λ l. sent_by o p.taken ++ l) (of-other o x [] (λ q. m (sym q))) ∙ append-nil (sent_by o p.taken) ∙ h.others o m;
        under_way = [];
        all = ap (λ l. l ++ x ∷ []) (sym e) ∙ ap (λ l. sent_by n p.taken ++ l) (sym (of-mine n x [] refl)) ∙ sym (sent_by-append n p.taken (x ∷ [])) ∙ sym (append-nil (sent_by n (p.taken ++ x ∷ [])));
        through = h.through ∙ ap (λ l. sent_by n p.popped ++ l) (none-under e);
      }

  -- ---- the law of what went through its lane is that of what it has sent and taken
  -- the port is joined
  pub kept-retired : AgreesWithOwnLane (retired p)
  kept-retired = record {
    fair = subst (λ n. IsFair (scope_of n p.sizes) p.own) (sym (length-map p.lanes (λ (q : Option (SegId Global)). none_of q))) h.fair;
    ended = h.ended;
    others = h.others;
    under_way = h.under_way;
    all = h.all;
    through = h.through;
  }

  module _ (w : Scope) (left : List Item) (passed sent : ℕ → List Item) (law : LaneLaw w passed p.popped left) (lt : p.number < w.workers) (mine : passed p.number ≡ passed_to p p.number) (own : sent p.number ≡ p.own)
      (same : (s : ℕ) → s < w.workers → s ≢ p.number → sent s ≡ passed s) where
    -- what waits of its own is what is under way
    waits : sent_by p.number left ≡ h.under_way
    waits = append_cancel_left (sent_by p.number p.popped) (sent_by p.number left) h.under_way (sym (sent_by-append p.number p.popped left) ∙ law.in_order p.number lt ∙ mine ∙ h.through)

    sender : (i : Item) → Has (p.taken ++ left) i → sender_of i < w.workers
    sender i has = dite (ℕ_discrete (sender_of i) p.number)
        (λ e. subst (λ n. n < w.workers) (sym e) lt)
        (λ m. let a : Has (sent_by (sender_of i) (p.taken ++ left)) i = sent_by_of (sender_of i) (p.taken ++ left) i has refl in
        let b : sent_by (sender_of i) (p.taken ++ left) ≡ sent_by (sender_of i) (p.popped ++ left) = sent_by-append (sender_of i) p.taken left ∙ ap (λ l. l ++ sent_by (sender_of i) left) (h.others (sender_of i) m) ∙ sym (sent_by-append (sender_of i) p.popped left) in
        each (λ j. sender_of j < w.workers) (p.popped ++ left) i law.senders (sent_by_has (sender_of i) (p.popped ++ left) i (subst (λ l. Has l i) b a)).0)

    pub kept-law : LaneLaw w sent p.taken left
    kept-law = let n = p.number in record {
      senders = all_of (λ i. sender_of i < w.workers) (p.taken ++ left) sender;
      in_order = λ s sl. dite (ℕ_discrete s n)
          (λ e. subst (λ m. sent_by m (p.taken ++ left) ≡ sent m) (sym e) (sent_by-append n p.taken left ∙ ap (λ l. sent_by n p.taken ++ l) waits ∙ sym h.all ∙ sym own))
          (λ m. sent_by-append s p.taken left ∙ ap (λ l. l ++ sent_by s left) (h.others s m) ∙ sym (sent_by-append s p.popped left) ∙ law.in_order s sl ∙ sym (same s sl m));
    }

-- the law of what went through the lanes, with what is left, is that of what was sent and taken
module _ (workers : ℕ) (sizes : Sizes) (ids : List (SegId Global)) (given ports : List PortView) (left : List (List Load)) (are : ArePorts workers sizes ids given) (kept : AllAgreeWithOwnLane workers given) (gone : AreRetired workers given ports) (law : LawOfLanes workers sizes ports left)
    (ids_long : length ids ≡ workers) (k : ℕ) (lt : k < workers) where
  port_k : PortView
  port_k = element given k (let z = are.0 in omega arith)

  at_given : (s : ℕ) → s < workers → (d : PortView) → (get_or given s d).number ≡ s
  at_given s sl d = (are.1 s d sl).2

  listed : {X : Type 0} (f : PortView → X) (e : X) (s : ℕ) (d : PortView) → s < workers → slice_index_or (map f ports) s e ≡ f (retired (get_or given s d))
  listed f e s d sl = let z = gone.0 in get_or-map f ports s d e (omega arith) ∙ ap f (gone.1 s d sl)

  pub law-all : LaneLaw (scope_of workers sizes) (sent_from ports k) (taken_by ports k) (flat (slice_index_or left k [])) × FairLane (scope_of workers sizes) (sent_from ports k)
  law-all = let w = scope_of workers sizes in
      let p = get_or given k port_k in
      let h : AgreesWithOwnLane p = kept k port_k lt in
      let n : p.number ≡ k = at_given k lt port_k in
      let l = law k lt in
      let popped : popped_by ports k ≡ p.popped = listed (λ q. q.popped) [] k port_k lt in
      let taken : taken_by ports k ≡ p.taken = listed (λ q. q.taken) [] k port_k lt in
      let passed : passed_from ports k k ≡ passed_to p p.number = listed (λ q. passed_to q k) [] k port_k lt ∙ ap (λ m. passed_to p m) (sym n) in
      let own : sent_from ports k k ≡ p.own = listed (λ q. sent_to q k) [] k port_k lt ∙ ap (λ m. sent_to p m) (sym n) ∙ sent-own p in
      let same : (s : ℕ) → s < workers → s ≢ k → sent_from ports k s ≡ passed_from ports k s =
      λ s sl m. listed (λ q. sent_to q k) [] s port_k sl ∙ sent-other (retired (get_or given s port_k)) k (λ e. m (sym (at_given s sl port_k) ∙ sym e)) ∙ sym (listed (λ q. passed_to q k) [] s port_k sl) in
      let fair : IsFair w p.own = subst (λ (y : ℕ × Sizes). IsFair (scope_of y.0 y.1) p.own) (λ j. ((ap (λ q. length q) (are.1 k port_k lt).0 ∙ length-map ids (λ (q : SegId Global). Some q) ∙ ids_long) j, (are.1 k port_k lt).1 j)) h.fair in (
        subst (λ t. LaneLaw w (sent_from ports k) t (flat (slice_index_or left k []))) (sym taken)
            (kept-law p h w (flat (slice_index_or left k [])) (passed_from ports k) (sent_from ports k) (subst (λ t. LaneLaw w (passed_from ports k) t (flat (slice_index_or left k []))) popped l.0) (subst (λ m. m < workers) (sym n) lt)
            (ap (passed_from ports k) n ∙ passed) (ap (sent_from ports k) n ∙ own) (λ s sl m. same s sl (λ e. m (e ∙ sym n)))),
        λ s sl. dite (ℕ_discrete s k)
            (λ e. subst (λ m. IsFair w (sent_from ports k m)) (sym e) (subst (IsFair w) (sym own) fair))
            (λ m. subst (IsFair w) (sym (same s sl m)) (l.1 s sl)),
      )
