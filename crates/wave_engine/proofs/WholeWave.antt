-- A whole wave: the store has changed when the workers were called in, and the roots' answers are those of the entries.
use Rattle.std.proofs.Common.{◌≡◌, ℕ, inl, inr, true, false, Bool, cond, List, [], ◌∷◌, Option, Some, None, refl, sym, ◌∙◌, ap, subst, All}
use Rattle.std.specs.Prelude.{nat_eq, unwrap_or}
use Rattle.std.specs.Option.{option_map}
use Rattle.std.specs.List.{AllZip}
use Rattle.std.proofs.lemmas.List.Elements.{All-contains}
use Rattle.dd_store.specs.declared.reference.Ref.{Ref}
use Rattle.dd_store.specs.declared.reference.Reference.TheVariants.{False, True, Node}
use Rattle.dd_store.specs.declared.reference.NodeId.{NodeId}
use Rattle.dd_store.specs.Functions.{IsFixedSomehow, DependsOn}
use Rattle.dd_store.specs.Graph.{Pair}
use Rattle.dd_store.specs.Parts.{Part}
use Rattle.dd_store.specs.Parts.Part.{node}
use Rattle.dd_store.specs.Nodes.{Nodes, IsSound, den, cofactor_of, high_of, low_of, children}
use Rattle.dd_store.specs.View.{part_of, Has, Keeps, top}
use Rattle.dd_store.specs.Complements.{complement_both}
use Rattle.dd_store.proofs.Storing.{children-of}
use Rattle.dd_store.proofs.View.{kept_top, keeps-trans}
use Rattle.expand_work.specs.declared.fault.WaveFault.{WaveFault}
use Rattle.expand_work.specs.declared.fault.WaveFault.TheVariants as wave_faults
use Rattle.req_table.specs.declared.Op.{Op}
use Rattle.req_table.specs.declared.Key.{Key}
use Rattle.req_table.specs.declared.Child.TheVariants as child
use Rattle.req_table.specs.Keys.{IsKey, key, level_at, level_of, normal_of, child as child_at, child_of, answer_of, wave_of}
use Rattle.req_table.specs.Reached.{IsReached, root as root_of, child as child_from}
use Rattle.req_table.specs.TerminalCase.{terminal_of}
use Rattle.reduce_up.specs.Reducing.{AddsDescribed}
use Rattle.reduce_up.specs.Waves.{Entry, entry_value, IsEntry, IsWanted, IsWaveFault, requests_of}
use Rattle.reduce_up.proofs.Below.{fixed_of}
use Rattle.reduce_up.proofs.Closed.{reached_key}
use Rattle.reduce_up.proofs.Opposite.{either_more, either_kept}
use Rattle.reduce_up.proofs.Reduction.{kept_meaning}
use Rattle.reduce_up.proofs.Rooted.{all_of, requests_good}
use Rattle.req_table.specs.declared.packed_child.PackedChild.{PackedChild}
use Rattle.req_table.specs.Places.{IsPlaced}
use Rattle.reduce_up.specs.ByPlace.{IsAdmitted, AreAdmitted, AreExpanded}
use Rattle.wave_engine.specs.ExpansionPhase.{IsExpandedTo}
use Rattle.reduce_up.specs.ReductionPhase.{AreReducedBelow, AreReady}
use Rattle.wave_engine.proofs.Waiting.{waiting_reduced}

-- A store S and a later one, U.
module _ (S : Nodes) (w : IsSound S) (entries : List Entry) (good : All (IsEntry S) entries) (U : Nodes) (K : Keeps S U) where
  same_pair : (m : NodeId) (p q : Pair) → ◌≡◌ {A = Part Ref} (node m.level p.0 p.1) (node m.level q.0 q.1) → p ≡ q
  same_pair m p q e = let a : p.0 ≡ q.0 = cc in let b : p.1 ≡ q.1 = cc in λ i. (a i, b i)

  node_kept : (m : NodeId) (b : Bool) → Has S (Node m b) → children U (Node m b) ≡ children S (Node m b)
  node_kept m b h =
      let g : Has U (Node m b) = K.has (Node m b) h in
      let is : children U (Node m b) ≡ Some (complement_both b g.0) = children-of U m b g.0 g.1 in
      let was : children S (Node m b) ≡ Some (complement_both b h.0) = children-of S m b h.0 h.1 in
      let e : part_of m (Some (complement_both b g.0)) ≡ part_of m (Some (complement_both b h.0)) = sym (ap (part_of m) is) ∙ K.part_is (Node m b) h ∙ ap (part_of m) was in
      is ∙ ap (λ (z : Pair). Some z) (same_pair m (complement_both b g.0) (complement_both b h.0) e) ∙ sym was

  children_kept : (r : Ref) → Has S r → children U r ≡ children S r
  children_kept False h = refl
  children_kept True h = refl
  children_kept (Node m b) h = node_kept m b h

  cofactor_kept : (r : Ref) (v : ℕ) (b : Bool) → Has S r → cofactor_of U r v b ≡ cofactor_of S r v b
  cofactor_kept r v b h =
      ap (λ n. cond (nat_eq n v) (cond b (high_of U r) (low_of U r)) r) (kept_top S U K r)
      ∙ ap (λ (c : Option Pair). cond (nat_eq (top S r) v) (cond b (unwrap_or (option_map (λ (p : Pair). p.1) c) r) (unwrap_or (option_map (λ (p : Pair). p.0) c) r)) r) (children_kept r h)

  child_same : (op : Op) (f g : Ref) → child_at U op f g ≡ child_at S op f g
  child_same op f g = by (terminal_of op f g)
    where
      by : (t : Option Ref) → answer_of U op f g t ≡ answer_of S op f g t
      by None = ap (λ n. child.Ask (level_at n (normal_of op f g).0) (normal_of op f g).0 (normal_of op f g).1) K.levels
      by (Some r) = refl

  pub child_kept : (k : Key) (b : Bool) → IsKey S k → child_of U k b ≡ child_of S k b
  child_kept k b i =
      let v : level_of U k ≡ level_of S k = ap (λ n. level_at n k) K.levels in
      child_same k.op (cofactor_of U k.f (level_of U k) b) (cofactor_of U k.g (level_of U k) b)
      ∙ ap (λ n. child_at S k.op (cofactor_of U k.f n b) (cofactor_of U k.g n b)) v
      ∙ ap (λ r. child_at S k.op r (cofactor_of U k.g (level_of S k) b)) (cofactor_kept k.f (level_of S k) b i.first)
      ∙ ap (λ r. child_at S k.op (cofactor_of S k.f (level_of S k) b) r) (cofactor_kept k.g (level_of S k) b i.second)

  reached_kept : (k : Key) → IsReached (wave_of S 1) (requests_of entries) k → IsReached (wave_of U 1) (requests_of entries) k
  reached_kept k (root_of c) = root_of c
  reached_kept k (child_from {x = x} b l m i e) =
      child_from b l m (reached_kept x i) (child_kept x b (reached_key S w 1 (requests_of entries) (requests_good S entries good) x i) ∙ e)

  admitted_kept : (v : ℕ) (k : Key) → IsAdmitted S entries v k → IsAdmitted U entries v k
  admitted_kept v k i = record {
    key = record { first = K.has k.f i.key.first; second = K.has k.g i.key.second; long = i.key.long; ordered = i.key.ordered };
    level = ap (λ n. level_at n k) K.levels ∙ i.level;
    reached = reached_kept k i.reached;
  }

  pub all_admitted_kept : (T : List (List Key)) → AreAdmitted S entries T → AreAdmitted U entries T
  all_admitted_kept T a = record { levels = a.levels ∙ sym K.levels; keys = λ v q k h. admitted_kept v k (a.keys v q k h) }

  pub entries_kept : All (IsEntry U) entries
  entries_kept = all_of (IsEntry U) entries (λ e c. let i : IsEntry S e = All-contains (IsEntry S) entries e good c in (K.has e.1 i.0, K.has e.2 i.1))

  -- what is expanded for S is expanded for U
  pub expanded_kept : (roots : List PackedChild) (v : ℕ) (T : List (List Key)) (rows : List (List (PackedChild × PackedChild))) → AreExpanded S entries roots v T rows → AreExpanded U entries roots v T rows
  expanded_kept roots v T rows x = record {
    admitted = all_admitted_kept T x.admitted;
    rooted = all entries roots x.rooted;
    levels = x.levels ∙ sym K.levels;
    counts = x.counts;
    split = λ u q k d lt h g.
        let s = x.split u q k d lt h g in
        let i : IsKey S k = (x.admitted.keys u q k h).key in
        (subst (IsPlaced T d.0) (sym (child_kept k false i)) s.0, subst (IsPlaced T d.1) (sym (child_kept k true i)) s.1);
  }
    where
      all : (es : List Entry) (ps : List PackedChild) → AllZip (λ e p. IsPlaced T p (child_at S e.0 e.1 e.2)) es ps → AllZip (λ e p. IsPlaced T p (child_at U e.0 e.1 e.2)) es ps
      all [] [] z = z
      all [] (p ∷ ps) z = z
      all (e ∷ es) [] z = z
      all (e ∷ es) (p ∷ ps) z = (subst (IsPlaced T p) (sym (child_same e.0 e.1 e.2)) z.0, all es ps z.1)

  -- the requests that were handed over have their answers, so the levels above can be reduced
  pub down_ready : (v : ℕ) (W : List (List Key)) (rows : List (List (PackedChild × PackedChild))) (roots : List PackedChild) (before after : ℕ) (d : IsExpandedTo S entries v W rows roots before after) (A : List (List Ref)) →
      AreReducedBelow U entries W v U A → AreReady U entries v rows A d.tables
  down_ready v W rows roots before after d A r = record {
    roots = roots;
    expanded = expanded_kept roots v d.tables rows d.expanded;
    once = d.once;
    reduced = waiting_reduced d.tables v W d.waits U entries U A r;
  }

  -- what the entries want of U, they want of S
  pub wanted_back : (v : ℕ) (f : List Bool → Bool) → IsWanted U entries v f → IsWanted S entries v f
  wanted_back v f u =
      let i : IsEntry S u.entry = All-contains (IsEntry S) entries u.entry good u.is_entry in record {
        entry = u.entry;
        is_entry = u.is_entry;
        fixed = fixed_of S.levels v (entry_value S u.entry) (entry_value U u.entry) f (λ x hx. sym (kept_meaning S U w K (key u.entry.0 u.entry.1 u.entry.2) i.0 i.1 x))
            (subst (λ n. IsFixedSomehow n v (entry_value U u.entry) f) K.levels u.fixed);
        depends = subst (λ n. DependsOn n v f) K.levels u.depends;
      }

  pub fault_back : (s : Nodes) (e : WaveFault) → IsWaveFault U entries s e → IsWaveFault S entries s e
  fault_back s wave_faults.OutOfMemory x = tt
  fault_back s wave_faults.NoWorker x = tt
  fault_back s wave_faults.TooManyRequests x = tt
  fault_back s wave_faults.Stopped x = tt
  fault_back s wave_faults.Full x = (x.0, elim x.1 [ inl o ↦ inl o | inr f ↦ inr (f.0, (f.1.0, f.1.1, wanted_back f.1.0 f.1.1 f.1.2, f.1.3)) ])

  -- what is added in two steps
  pub adds_both : IsSound U → (s : Nodes) → AddsDescribed S U (IsWanted S entries) → AddsDescribed U s (IsWanted U entries) → AddsDescribed S s (IsWanted S entries)
  adds_both sU s a b = record {
    keeps = keeps-trans S U s a.keeps b.keeps;
    described = λ m h. elim (b.described m h) [
      | inl o ↦ elim (a.described m o) [
        | inl p ↦ inl p
        | inr n ↦ inr (n.0, n.1, n.2, b.keeps.part_is m o ∙ n.3, either_kept U s sU b.keeps (IsWanted S entries n.0) m o n.4)
      ]
      | inr n ↦ inr (n.0, n.1, n.2, n.3, either_more (IsWanted U entries n.0) (IsWanted S entries n.0) (wanted_back n.0) (den s m) n.4)
    ];
  }
