-- Pairs restricted to a condition: their references, and the nodes that they need.
use Rattle.std.proofs.Common.{◌≡◌, ◌∙◌, ◌⊎◌, inl, inr, ap, sym, refl, subst, arith, ℕ, ◌+◌, ◌<◌, ◌≤◌, Bool, List, map, length, get_or, Option, Some, None}
use Rattle.std.specs.Prelude.{◌&&◌, All, Contains, slice_get, slice_index}
use Rattle.std.proofs.Math.ListN.{get_or-append}
use Rattle.std.proofs.lemmas.List.{get_or-append-add, get_or-map, length-map, length-append, get_or_default}
use Rattle.std.proofs.lemmas.List.Elements.{Contains-append_cases, All-append, All-map, AllZip-get_or, length_all_zip}
use Rattle.dd_store.specs.declared.reference.Ref.{Ref}
use Rattle.dd_store.specs.declared.reference.Reference.TheVariants.{False}
use Rattle.dd_store.specs.Functions.{Agree, OfEither}
use Rattle.dd_store.specs.Nodes.{Nodes, den, IsSound, IsDiagram, count_of}
use Rattle.dd_store.specs.Parts.{Part}
use Rattle.dd_store.specs.Parts.Part.{node}
use Rattle.dd_store.specs.View.{part, Has, Keeps}
use Rattle.dd_store.proofs.View.{parts, denotes, same_ref, kept_den}
use Rattle.expand_work.specs.declared.fault.WaveFault.{WaveFault}
use Rattle.expand_work.specs.declared.fault.WaveFault.TheVariants as wave_faults
use Rattle.net_bench.specs.Circuit.{Circuit, Net, IsNet, circuit}
use Rattle.net_bench.specs.Labels.{IsFunctionOf}
use Rattle.net_order.specs.Order.{NamingModel, first_level, second_level}
use Rattle.req_table.specs.declared.Op.TheVariants.{And}
use Rattle.reduce_up.specs.Reducing.{AddsDescribed}
use Rattle.reduce_up.specs.Waves.{entry_value, IsWanted, IsWithinLimit, LacksWanted, IsWaveFault}
use Rattle.reduce_up.proofs.Opposite.{either_more, either_kept}
use Rattle.gate_plan.specs.Building.{References, reference_of}
use Rattle.gate_plan.specs.Conjoining.{conjunctions, AreConjoined}
use Rattle.gate_plan.specs.Need.{IsCounted, IsLean, IsComplete, HasNode}
use Rattle.gate_plan.specs.Needing.{IsNeededValue, HasNeed}
use Rattle.gate_plan.proofs.Counted.{adds_as}
use Rattle.gate_plan.proofs.Needs.{complete}
use Rattle.gate_plan.proofs.Together.{of_map}
use Rattle.compare_built.specs.declared.subject.Subject.{Subject}
use Rattle.compare_built.specs.Conditions.{HoldsWhere, everywhere, output_of, restricted}
use Rattle.compare_built.specs.Comparing.{AreBuilt, AreCompared, DenoteCompared, IsInside, DenotesWhere, as_built, references, subject_at}
use Rattle.compare_built.specs.Limits.{IsComparedValue, IsFunctionIn, IsNeededIn, HasOnlyNeeded, HasAllNeeded, HasAll, IsOver}
use Rattle.compare_built.specs.Report.{subjects}
use Rattle.compare_built.proofs.Determined.{one_function}
use Rattle.compare_built.proofs.Restricting.{swapped}
use Rattle.report_text.proofs.Wording.{there}

-- ---- more functions, and more nodes

module _ (n : ℕ) (Few Values : (List Bool → Bool) → Type 0) (more : (f : List Bool → Bool) → Few f → Values f) where
  counted_more : (v : ℕ) (f : List Bool → Bool) → IsCounted n Few v f → IsCounted n Values v f
  counted_more v f c = record { value = c.value; is_value = more c.value c.is_value; fixed = c.fixed; depends = c.depends }

  pub lean_more : (S : Nodes) → IsLean n Few (part S) (Has S) (den S) → IsLean n Values (part S) (Has S) (den S)
  lean_more S l = record { counted = λ r v lo hi h e. either_more (IsCounted n Few v) (IsCounted n Values v) (counted_more v) (den S r) (l.counted r v lo hi h e) }

  pub complete_less : (S : Nodes) → IsComplete n Values (part S) (Has S) (den S) → IsComplete n Few (part S) (Has S) (den S)
  complete_less S c = record { present = λ v g few. c.present v g (counted_more v g few) }

module _ (n : ℕ) (Values : (List Bool → Bool) → Type 0) (S T : Nodes) (sound : IsSound S) where
  -- a store of needed nodes to which only needed nodes are added is a store of needed nodes
  lean_next : IsLean n Values (part S) (Has S) (den S) → AddsDescribed S T (IsCounted n Values) → IsLean n Values (part T) (Has T) (den T)
  lean_next lean i = record { counted = λ m v lo hi h e. by m v lo hi e (i.described m h) }
    where
      by : (m : Ref) (v : ℕ) (lo hi : Ref) → part T m ≡ node v lo hi → Has S m ⊎ ((w : ℕ) × (a : Ref) × (b : Ref) × (part T m ≡ node w a b) × OfEither (IsCounted n Values w) (den T m)) → OfEither (IsCounted n Values v) (den T m)
      by m v lo hi e (inl old) = either_kept S T sound i.keeps (IsCounted n Values v) m old (lean.counted m v lo hi old (sym (i.keeps.part_is m old) ∙ e))
      by m v lo hi e (inr new) =
          let f : ◌≡◌ {A = Part Ref} (node new.0 new.1 new.2) (node v lo hi) = sym new.3 ∙ e in
          let at : new.0 ≡ v = cc in
          subst (λ w. OfEither (IsCounted n Values w) (den T m)) at new.4

  -- nodes that are there stay
  complete_kept : Keeps S T → IsComplete n Values (part S) (Has S) (den S) → IsComplete n Values (part T) (Has T) (den T)
  complete_kept keeps c = record {
    present = λ v g counted.
        let h : HasNode n (part S) (Has S) (den S) v g = c.present v g counted in
        record {
          reference = h.reference;
          low = h.low;
          high = h.high;
          has = keeps.has h.reference h.has;
          is_node = keeps.part_is h.reference h.has ∙ h.is_node;
          denotes = λ x len. kept_den S T sound keeps h.reference h.has x ∙ h.denotes x len;
        };
  }

complete_both : (n : ℕ) (V W : (List Bool → Bool) → Type 0) (T : Nodes) → IsComplete n V (part T) (Has T) (den T) → IsComplete n W (part T) (Has T) (den T) → IsComplete n (λ f. V f ⊎ W f) (part T) (Has T) (den T)
complete_both n V W T one two = record { present = λ v g c. by v g c c.is_value }
  where
    by : (v : ℕ) (g : List Bool → Bool) (c : IsCounted n (λ f. V f ⊎ W f) v g) → V c.value ⊎ W c.value → HasNode n (part T) (Has T) (den T) v g
    by v g c (inl is) = one.present v g (record { value = c.value; is_value = is; fixed = c.fixed; depends = c.depends })
    by v g c (inr is) = two.present v g (record { value = c.value; is_value = is; fixed = c.fixed; depends = c.depends })

-- what the build needs, the comparison needs
pub needed_in : (a b : Circuit) (given : Option Circuit) (p : NamingModel) (f : List Bool → Bool) → IsNeededValue a b given p f → IsNeededIn a b given p f
needed_in a b None p f v = v
needed_in a b (Some c) p f v = inl v

-- ---- the references of pairs

map_at : {X Y : Type 0} (f : X → Y) (xs : List X) (i : ℕ) (d : X) (e : Y) → i < length xs → get_or (map f xs) i e ≡ f (get_or xs i d)
map_at f xs i d e lt = get_or-map f xs i d e lt

module _ (refs : References) (of : List Subject) where
  each_reference : length (references refs of) ≡ length of + length of
  each_reference =
      length-append (map (λ (s : Subject). reference_of refs.first s.first) of) (map (λ (s : Subject). reference_of refs.second s.second) of)
      ∙ ap (λ k. k + length (map (λ (s : Subject). reference_of refs.second s.second) of)) (length-map of (λ (s : Subject). reference_of refs.first s.first))
      ∙ ap (λ k. length of + k) (length-map of (λ (s : Subject). reference_of refs.second s.second))

  first_reference : (i : ℕ) → i < length of → reference_of (references refs of) i ≡ reference_of refs.first (subject_at of i).first
  first_reference i lt =
      let few : length (map (λ (s : Subject). reference_of refs.first s.first) of) ≡ length of = length-map of (λ (s : Subject). reference_of refs.first s.first) in
      get_or-append (map (λ (s : Subject). reference_of refs.first s.first) of) (map (λ (s : Subject). reference_of refs.second s.second) of) False i (omega arith)
      ∙ map_at (λ (s : Subject). reference_of refs.first s.first) of i _ False lt

  second_reference : (i : ℕ) → i < length of → reference_of (references refs of) (length of + i) ≡ reference_of refs.second (subject_at of i).second
  second_reference i lt =
      ap (λ k. reference_of (references refs of) (k + i)) (sym (length-map of (λ (s : Subject). reference_of refs.first s.first)))
      ∙ get_or-append-add (map (λ (s : Subject). reference_of refs.first s.first) of) (map (λ (s : Subject). reference_of refs.second s.second) of) i False
      ∙ map_at (λ (s : Subject). reference_of refs.second s.second) of i _ False lt

module _ (a b : Circuit) (given : Option Circuit) (p : NamingModel) (S : Nodes) (refs : References) (built : AreBuilt a b given p S refs) (of : List Subject) (all : of ≡ subjects a b p) where
  pub all_inside : All (IsInside a b) of
  all_inside = subst (All (IsInside a b)) (sym all) built.signals.compared

  pub references_known : All (Has S) (references refs of)
  references_known =
      All-append (Has S) (map (λ (s : Subject). reference_of refs.first s.first) of) (map (λ (s : Subject). reference_of refs.second s.second) of)
      (All-map (Has S) (λ (s : Subject). reference_of refs.first s.first) of (λ i d lt. built.first.has (get_or of i d).first (all_inside i d lt).1))
      (All-map (Has S) (λ (s : Subject). reference_of refs.second s.second) of (λ i d lt. built.second.has (get_or of i d).second (all_inside i d lt).2))

  -- without a condition the diagrams are those that are built
  pub shown_plain : DenoteCompared as_built a b None p S of (references refs of)
  shown_plain = record {
    holds = everywhere;
    condition = refl;
    each = each_reference refs of;
    first = λ i lt. subst (DenotesWhere as_built everywhere a (first_level p) S (subject_at of i).first) (sym (first_reference refs of i lt))
        (let s : (subject_at of i).first < length a.names = (all_inside i _ lt).1 in
        (built.first.has (subject_at of i).first s, (den S (reference_of refs.first (subject_at of i).first), built.first.functions (subject_at of i).first s, λ x len. refl)));
    second = λ i lt. subst (DenotesWhere as_built everywhere b (second_level p) S (subject_at of i).second) (sym (second_reference refs of i lt))
        (let s : (subject_at of i).second < length b.names = (all_inside i _ lt).2 in
        (built.second.has (subject_at of i).second s, (den S (reference_of refs.second (subject_at of i).second), built.second.functions (subject_at of i).second s, λ x len. refl)));
  }

-- ---- with a condition

-- the wave's answers, place by place
answered : (S T : Nodes) (refs answers : List Ref) (g : Ref) → AreConjoined S refs g T answers → (i : ℕ) → i < length refs → IsDiagram T (reference_of answers i) (λ x. den S (reference_of refs i) x && den S g x)
answered S T refs answers g h i lt = AllZip-get_or (λ r a. IsDiagram T a (λ x. den S r x && den S g x)) refs answers i False False h lt

module _ (n m k : Net) (p : NamingModel) (S T : Nodes) (refs : References) (built : AreBuilt (circuit n) (circuit m) (Some (circuit k)) p S refs) (in_range : output_of (circuit k) < length k.names) (of : List Subject) (all : of ≡ subjects (circuit n) (circuit m) p) where
  -- the condition's reference
  abbrev given_ref : Ref
  given_ref = reference_of refs.given (output_of (circuit k))

  given_known : Has S given_ref
  given_known = built.condition.has (output_of (circuit k)) in_range

  given_function : IsFunctionOf (circuit k) (slice_index p.given) (length p.names) (output_of (circuit k)) (den S given_ref)
  given_function = subst (λ w. IsFunctionOf (circuit k) (slice_index p.given) w (output_of (circuit k)) (den S given_ref)) built.levels
      (built.condition.functions (output_of (circuit k)) in_range)

  module _ (answers : List Ref) (keeps : Keeps S T) (h : AreConjoined S (references refs of) given_ref T answers) where
    answer_denotes : (c : Circuit) (level : ℕ → ℕ) (s : ℕ) (r : Ref) (i : ℕ) → i < length (references refs of) → reference_of (references refs of) i ≡ r → IsFunctionOf c level S.levels s (den S r) →
        DenotesWhere as_built (den S given_ref) c level T s (reference_of answers i)
    answer_denotes c level s r i lt e f =
        let d = answered S T (references refs of) answers given_ref h i lt in (
          d.0,
          (
            den S r,
            subst (λ w. IsFunctionOf c level w s (den S r)) (sym keeps.levels) f,
            λ x len. d.1 x len ∙ ap (λ z. den S z x && den S given_ref x) e ∙ swapped (den S r x) (den S given_ref x),
          ),
        )

    pub shown_conjoined : DenoteCompared as_built (circuit n) (circuit m) (Some (circuit k)) p T of answers
    shown_conjoined = record {
      holds = den S given_ref;
      condition = given_function;
      each = sym (length_all_zip (λ r a. IsDiagram T a (λ x. den S r x && den S given_ref x)) (references refs of) answers h) ∙ each_reference refs of;
      first = λ i lt.
          let many : length (references refs of) ≡ length of + length of = each_reference refs of in
          answer_denotes (circuit n) (first_level p) (subject_at of i).first (reference_of refs.first (subject_at of i).first) i (omega arith) (first_reference refs of i lt)
          (built.first.functions (subject_at of i).first (all_inside (circuit n) (circuit m) (Some (circuit k)) p S refs built of all i _ lt).1);
      second = λ i lt.
          let many : length (references refs of) ≡ length of + length of = each_reference refs of in
          answer_denotes (circuit m) (second_level p) (subject_at of i).second (reference_of refs.second (subject_at of i).second) (length of + i) (omega arith) (second_reference refs of i lt)
          (built.second.functions (subject_at of i).second (all_inside (circuit n) (circuit m) (Some (circuit k)) p S refs built of all i _ lt).2);
    }

  -- what the wave is asked for is needed by the comparison
  compared_value : (subject : Subject) → Contains of subject → (r : Ref) → IsFunctionIn (circuit n) (circuit m) p subject (den S r) → IsComparedValue (circuit n) (circuit m) (Some (circuit k)) p (λ x. den S r x && den S given_ref x)
  compared_value subject among r f = record {
    holds = den S given_ref;
    condition = given_function;
    subject = subject;
    among = subst (λ ss. Contains ss subject) all among;
    whole = den S r;
    function = f;
    restriction = λ x len. swapped (den S r x) (den S given_ref x);
  }

  inside_of : (subject : Subject) → Contains of subject → IsInside (circuit n) (circuit m) subject
  inside_of subject (i, lt, at) = subst (IsInside (circuit n) (circuit m)) at (all_inside (circuit n) (circuit m) (Some (circuit k)) p S refs built of all i subject lt)

  reference_value : (r : Ref) → Contains (references refs of) r → IsComparedValue (circuit n) (circuit m) (Some (circuit k)) p (λ x. den S r x && den S given_ref x)
  reference_value r among = by (Contains-append_cases (map (λ (s : Subject). reference_of refs.first s.first) of) (map (λ (s : Subject). reference_of refs.second s.second) of) r among)
    where
      by : Contains (map (λ (s : Subject). reference_of refs.first s.first) of) r ⊎ Contains (map (λ (s : Subject). reference_of refs.second s.second) of) r →
          IsComparedValue (circuit n) (circuit m) (Some (circuit k)) p (λ x. den S r x && den S given_ref x)
      by (inl a) =
          let w = of_map (λ (s : Subject). reference_of refs.first s.first) of r a in
          compared_value w.0 w.1 r (inl (subst (λ z. IsFunctionOf (circuit n) (slice_index p.first) (length p.names) w.0.first (den S z)) w.2
          (subst (λ d. IsFunctionOf (circuit n) (slice_index p.first) d w.0.first (den S (reference_of refs.first w.0.first))) built.levels (built.first.functions w.0.first (inside_of w.0 w.1).1))))
      by (inr a) =
          let w = of_map (λ (s : Subject). reference_of refs.second s.second) of r a in
          compared_value w.0 w.1 r (inr (subst (λ z. IsFunctionOf (circuit m) (slice_index p.second) (length p.names) w.0.second (den S z)) w.2
          (subst (λ d. IsFunctionOf (circuit m) (slice_index p.second) d w.0.second (den S (reference_of refs.second w.0.second))) built.levels (built.second.functions w.0.second (inside_of w.0 w.1).2))))

  wanted_counted : (v : ℕ) (f : List Bool → Bool) → IsWanted S (conjunctions (references refs of) given_ref) v f → IsCounted (length p.names) (IsNeededIn (circuit n) (circuit m) (Some (circuit k)) p) v f
  wanted_counted v f w =
      let e = of_map (λ r. (And, r, given_ref)) (references refs of) w.entry w.is_entry in
      subst (λ d. IsCounted d (IsNeededIn (circuit n) (circuit m) (Some (circuit k)) p) v f) built.levels (record {
        value = entry_value S w.entry;
        is_value = inr (subst (λ z. IsComparedValue (circuit n) (circuit m) (Some (circuit k)) p (entry_value S z)) e.2 (reference_value e.0 e.1));
        fixed = w.fixed;
        depends = w.depends;
      })

  module _ (sound : IsSound S) (sound' : IsSound T) (adds : AddsDescribed S T (IsWanted S (conjunctions (references refs of) given_ref))) (need : HasNeed (circuit n) (circuit m) (Some (circuit k)) p S) where
    lean_left : HasOnlyNeeded (circuit n) (circuit m) (Some (circuit k)) p T
    lean_left =
        lean_next (length p.names) (IsNeededIn (circuit n) (circuit m) (Some (circuit k)) p) S T sound
        (lean_more (length p.names) (IsNeededValue (circuit n) (circuit m) (Some (circuit k)) p) (IsNeededIn (circuit n) (circuit m) (Some (circuit k)) p) (λ f v. inl v) S need.lean)
        (adds_as S T (IsWanted S (conjunctions (references refs of) given_ref)) (IsCounted (length p.names) (IsNeededIn (circuit n) (circuit m) (Some (circuit k)) p)) wanted_counted adds)

    pub over_left : (e : WaveFault) → IsWaveFault S (conjunctions (references refs of) given_ref) T e → e ≡ wave_faults.Full → IsOver (circuit n) (circuit m) (Some (circuit k)) p T
    over_left e fault is = record { lean = lean_left; over = by (subst (IsWaveFault S (conjunctions (references refs of) given_ref) T) is fault).1 }
      where
        by : (T.limit < count_of T) ⊎ ((count_of T ≡ T.limit) × LacksWanted S (conjunctions (references refs of) given_ref) T) → (T.limit < count_of T) ⊎ ((count_of T ≡ T.limit) × (HasAllNeeded (circuit n) (circuit m) (Some (circuit k)) p T → ⊥))
        by (inl over) = inl over
        by (inr (same, (v, f, wanted, lacks))) = inr (
          same,
          λ whole.
              let h : HasNode (length p.names) (part T) (Has T) (den T) v f = whole.present v f (wanted_counted v f wanted) in
              lacks h.reference h.has (λ x len. h.denotes x (len ∙ adds.keeps.levels ∙ built.levels)),
        )

    module _ (net : IsNet n) (net' : IsNet m) (net'' : IsNet k) (answers : List Ref) (shown : DenoteCompared as_built (circuit n) (circuit m) (Some (circuit k)) p T of answers) where
      levels : T.levels ≡ length p.names
      levels = adds.keeps.levels ∙ built.levels

      -- the reference at a place denotes the function of the pair's signal, restricted to the condition
      denoted : (c : Net) → IsNet c → (level : ℕ → ℕ) (s : ℕ) → s < length c.names → (r : Ref) → DenotesWhere as_built shown.holds (circuit c) level T s r → (f holds whole : List Bool → Bool) →
          HoldsWhere (Some (circuit k)) p holds → IsFunctionOf (circuit c) level (length p.names) s whole → Agree (length p.names) f (restricted holds whole) → (q : Ref) × Has T q × Agree T.levels (den T q) f
      denoted c net_c level s lt r d f holds whole is function restriction = (
        r,
        d.0,
        λ x len.
            let len' : length x ≡ length p.names = len ∙ levels in
            let h : shown.holds x ≡ holds x =
            one_function k net'' (slice_index p.given) (slice_index p.given) (λ i z low. refl) (length p.names) (output_of (circuit k)) in_range shown.holds holds shown.condition is x len' in
            let w : d.1.0 x ≡ whole x =
            one_function c net_c level level (λ i z low. refl) (length p.names) s lt d.1.0 whole (subst (λ j. IsFunctionOf (circuit c) level j s d.1.0) levels d.1.1) function x len' in
            d.1.2 x len ∙ ap (λ z. z && d.1.0 x) h ∙ ap (λ z. holds x && z) w ∙ sym (restriction x len'),
      )

      diagram : (f : List Bool → Bool) → IsComparedValue (circuit n) (circuit m) (Some (circuit k)) p f → (q : Ref) × Has T q × Agree T.levels (den T q) f
      diagram f v = by (subst (λ ss. Contains ss v.subject) (sym all) v.among) v.function
        where
          by : Contains of v.subject → IsFunctionIn (circuit n) (circuit m) p v.subject v.whole → (q : Ref) × Has T q × Agree T.levels (den T q) f
          by (i, lt, at) (inl function) =
              let here : subject_at of i ≡ v.subject = get_or_default of i _ v.subject lt ∙ at in
              denoted n net (slice_index p.first) v.subject.first (inside_of v.subject (i, lt, at)).1 (reference_of answers i)
              (subst (λ (s : Subject). DenotesWhere as_built shown.holds (circuit n) (slice_index p.first) T s.first (reference_of answers i)) here (shown.first i lt)) f v.holds v.whole v.condition function v.restriction
          by (i, lt, at) (inr function) =
              let here : subject_at of i ≡ v.subject = get_or_default of i _ v.subject lt ∙ at in
              denoted m net' (slice_index p.second) v.subject.second (inside_of v.subject (i, lt, at)).2 (reference_of answers (length of + i))
              (subst (λ (s : Subject). DenotesWhere as_built shown.holds (circuit m) (slice_index p.second) T s.second (reference_of answers (length of + i))) here (shown.second i lt)) f v.holds v.whole v.condition function v.restriction

      complete_left : HasAllNeeded (circuit n) (circuit m) (Some (circuit k)) p T
      complete_left =
          complete_both (length p.names) (IsNeededValue (circuit n) (circuit m) (Some (circuit k)) p) (IsComparedValue (circuit n) (circuit m) (Some (circuit k)) p) T
          (complete_kept (length p.names) (IsNeededValue (circuit n) (circuit m) (Some (circuit k)) p) S T sound adds.keeps need.complete)
          (subst (λ d. IsComplete d (IsComparedValue (circuit n) (circuit m) (Some (circuit k)) p) (part T) (Has T) (den T)) levels
          (complete Ref same_ref T.levels (part T) (Has T) (den T) (parts T sound') (denotes T sound') (IsComparedValue (circuit n) (circuit m) (Some (circuit k)) p) diagram))

      pub all_left : IsWithinLimit S (conjunctions (references refs of) given_ref) T → HasAll (circuit n) (circuit m) (Some (circuit k)) p T
      all_left within = record { lean = lean_left; complete = complete_left; within = by within }
        where
          by : IsWithinLimit S (conjunctions (references refs of) given_ref) T → count_of T ≤ T.limit
          by (inl le) = le
          by (inr (none, same)) = subst (λ z. count_of z ≤ z.limit) (sym same) need.within

-- ---- what a wave leaves, by the lists that are its arguments

-- the references of pairs, made from a list that is equal to that of the pairs
pub made : (refs : References) (of view : List Subject) (items : List Ref) → items ≡ references refs view → view ≡ of → items ≡ references refs of
made refs of view items e same = e ∙ ap (references refs) same

pub handed : (refs : References) (of view : List Subject) (items slice : List Ref) → slice ≡ items → items ≡ references refs view → view ≡ of → slice ≡ references refs of
handed refs of view items slice whole e same = whole ∙ made refs of view items e same

-- an option that has no value is None
pub no_other : {X : Type 0} (o : Option X) → ((x : X) → o ≡ Some x → ⊥) → o ≡ None
no_other None h = refl
no_other (Some x) h = absurd (h x refl)

-- the output of a condition is the first of its list
pub given_is : (refs : List Ref) (outputs all : List ℕ) (s : ℕ) (r : Ref) → s ≡ get_or outputs 0 s → outputs ≡ all → 0 < length outputs → slice_get refs s ≡ Some r → reference_of refs (slice_index all 0) ≡ r
given_is refs outputs all s r at same lt found =
    ap (λ (z : List ℕ). reference_of refs (get_or z 0 0)) (sym same) ∙ ap (reference_of refs) (get_or_default outputs 0 0 s lt ∙ sym at) ∙ there refs s r False found

module _ (a b : Circuit) (given : Option Circuit) (p : NamingModel) (S : Nodes) (refs : References) (built : AreBuilt a b given p S refs) (of : List Subject) (all : of ≡ subjects a b p) (rs : List Ref) (er : rs ≡ references refs of) where
  pub all_known : All (Has S) rs
  all_known = subst (All (Has S)) (sym er) (references_known a b given p S refs built of all)

  -- without a condition
  pub compared_plain : AreCompared as_built a b None p S of rs
  compared_plain = record {
    levels = built.levels;
    signals = built.signals;
    all = all;
    shown = subst (DenoteCompared as_built a b None p S of) (sym er) (shown_plain a b given p S refs built of all);
  }

-- all that a comparison without a condition needs is there after the build
pub all_plain : (a b : Circuit) (p : NamingModel) (S : Nodes) → HasNeed a b None p S → HasAll a b None p S
all_plain a b p S need = record { lean = need.lean; complete = need.complete; within = need.within }

module _ (n m k : Net) (p : NamingModel) (S T : Nodes) (refs : References) (built : AreBuilt (circuit n) (circuit m) (Some (circuit k)) p S refs) (in_range : output_of (circuit k) < length k.names) (of : List Subject) (all : of ≡ subjects (circuit n) (circuit m) p)
    (rs : List Ref) (g : Ref) (er : rs ≡ references refs of) (eg : reference_of refs.given (output_of (circuit k)) ≡ g) where
  pub condition_known : Has S g
  condition_known = subst (Has S) eg (given_known n m k p S T refs built in_range of all)

  -- what holds of the wave's lists holds of the references of the pairs
  as_meant : (P : List Ref → Ref → Type 0) → P rs g → P (references refs of) (reference_of refs.given (output_of (circuit k)))
  as_meant P h = subst (λ z. P z (reference_of refs.given (output_of (circuit k)))) er (subst (P rs) (sym eg) h)

  shown_by_wave : (answers : List Ref) → Keeps S T → AreConjoined S rs g T answers → DenoteCompared as_built (circuit n) (circuit m) (Some (circuit k)) p T of answers
  shown_by_wave answers keeps h = shown_conjoined n m k p S T refs built in_range of all answers keeps (as_meant (λ z w. AreConjoined S z w T answers) h)

  pub compared_by_wave : (answers : List Ref) → Keeps S T → AreConjoined S rs g T answers → AreCompared as_built (circuit n) (circuit m) (Some (circuit k)) p T of answers
  compared_by_wave answers keeps h = record { levels = keeps.levels ∙ built.levels; signals = built.signals; all = all; shown = shown_by_wave answers keeps h }

  pub all_by_wave : IsSound S → IsSound T → IsNet n → IsNet m → IsNet k → AddsDescribed S T (IsWanted S (conjunctions rs g)) → (answers : List Ref) → AreConjoined S rs g T answers →
      IsWithinLimit S (conjunctions rs g) T → HasNeed (circuit n) (circuit m) (Some (circuit k)) p S → HasAll (circuit n) (circuit m) (Some (circuit k)) p T
  all_by_wave sound sound' net net' net'' adds answers h within need =
      all_left n m k p S T refs built in_range of all sound sound' (as_meant (λ z w. AddsDescribed S T (IsWanted S (conjunctions z w))) adds) need net net' net'' answers (shown_by_wave answers adds.keeps h)
      (as_meant (λ z w. IsWithinLimit S (conjunctions z w) T) within)

  pub over_by_wave : IsSound S → IsSound T → AddsDescribed S T (IsWanted S (conjunctions rs g)) → (e : WaveFault) → IsWaveFault S (conjunctions rs g) T e → e ≡ wave_faults.Full →
      HasNeed (circuit n) (circuit m) (Some (circuit k)) p S → IsOver (circuit n) (circuit m) (Some (circuit k)) p T
  over_by_wave sound sound' adds e fault is need =
      over_left n m k p S T refs built in_range of all sound sound' (as_meant (λ z w. AddsDescribed S T (IsWanted S (conjunctions z w))) adds) need e (as_meant (λ z w. IsWaveFault S (conjunctions z w) T e) fault) is
