-- A verdict of a pair is a verdict of each pair that has the same cones.
use Rattle.std.proofs.Common.{◌≡◌, ◌∙◌, ap, sym, refl, subst, arith, inl, inr, ℕ, suc, ◌+◌, ◌<◌, Bool, List, [], ◌∷◌, ◌++◌, length, get_or, take, All, Option, Some, None, length-append}
use Rattle.std.specs.Prelude.{⊤, Contains, slice_index}
use Rattle.std.specs.List.{AllZip}
use Rattle.std.proofs.Math.Seq.{get_or-append_seam}
use Rattle.std.proofs.lemmas.Bool.{cases_eq}
use Rattle.std.proofs.lemmas.List.{get_or_append_left, length-take-le, take_more}
use Rattle.std.proofs.lemmas.List.Elements.{All-append, All-cons, All-nil}
use Rattle.expand_work.specs.Bounds.{WaveBound}
use Rattle.rayon.proofs.ListFacts.{AllZip-append}
use Rattle.net_bench.specs.Circuit.{Circuit, IsNet, circuit, variables_of}
use Rattle.net_bench.specs.Labels.{IsFunctionOf}
use Rattle.net_bench.proofs.Numbers.{AreApart}
use Rattle.net_bench.proofs.OneLabelling.{at_contained}
use Rattle.net_cone.specs.Cones.{IsCone, variable_name}
use Rattle.net_cone.proofs.Functions.{same_function}
use Rattle.net_cone.proofs.Unique.{cone_in, one_cone}
use Rattle.net_names.specs.declared.order.Match.{Match}
use Rattle.net_names.specs.declared.order.Order.TheVariants.{Declared}
use Rattle.net_order.specs.Order.{NamingModel, condition, name_of}
use Rattle.net_order.proofs.InputLevels.{first_below, second_below}
use Rattle.report_text.specs.declared.verdict.Verdict.{Verdict}
use Rattle.report_text.specs.declared.difference.Difference.{Difference}
use Rattle.compare_built.specs.declared.subject.Subject.{Subject}
use Rattle.compare_built.specs.declared.verdict_order.Details.{Details}
use Rattle.compare_built.specs.Cones.{AreCones, IsConeIn, IsConeVerdict, IsVerdictOrUndecided, cone_limit}
use Rattle.compare_built.specs.Cones.IsVerdictOrUndecided.{decided, merged, shown, undecided}
use Rattle.compare_built.specs.Details.{unsized}
use Rattle.compare_built.specs.Report.{Compared, IsVerdictOf}
use Rattle.compare_built.specs.Scatter.{IsOfNet}
use Rattle.compare_built.proofs.Calling.{exact}
use Rattle.cone_check.specs.declared.equal_cones.Distinct.{Distinct}
use Rattle.cone_check.specs.declared.pair_cones.ConeContext.{ConeContext}
use Rattle.cone_check.specs.ConeRounds.{FitIn, IsConeContext, IsDecidedIn, IsInContext, IsKnown, IsUndecidedIn, StaysUndecided}
use Rattle.cone_check.specs.EqualCones.{AreDistinct, AreVerdictsFor, HasNumber, HaveSameCones, IsDealt, IsJudgedFor, renamed_to, verdict_for}
use Rattle.cone_check.proofs.ConePairs.{names_apart, one_place}
use Rattle.cone_check.proofs.Filling.{zip_at, zip_size}
use Rattle.cone_check.proofs.RenamedVerdict.{compared_as, shown_renamed_to, verdict_renamed_to}

-- ---- cones of one netlist

module _ (c : Circuit) (levels : List ℕ) (p : NamingModel) (net : IsOfNet c) where
  cone_of_net : (root : ℕ) (cone : Circuit) (x : IsConeIn c levels p root cone) → IsCone net.net root x.names x.part x.from
  cone_of_net root cone x = cone_in x.whole net.net (x.is_whole ∙ sym net.is_circuit) root x.names x.part x.from x.cone_of

  variable_in : (u : ℕ) → Contains (variables_of (circuit net.net)) u → Contains (variables_of c) u
  variable_in u among = subst (λ (d : Circuit). Contains (variables_of d) u) net.is_circuit among

  name_in : (root : ℕ) (cone : Circuit) (x : IsConeIn c levels p root cone) (u : ℕ) → Contains (variables_of c) u → get_or x.names u [] ≡ get_or p.names (slice_index levels u) []
  name_in root cone x u among =
      at_contained (λ v. get_or x.names v [] ≡ get_or p.names (slice_index levels v) []) (variables_of c) u x.named.variables among

  -- a signal has only one cone
  pub cone_unique : (root : ℕ) (k m : Circuit) → IsConeIn c levels p root k → IsConeIn c levels p root m → k ≡ m
  cone_unique root k m x y =
      sym x.is_part ∙
      one_cone net.net root x.names y.names x.part y.part x.from y.from net.sound (cone_of_net root k x) (cone_of_net root m y)
      (λ u among. name_in root k x u (variable_in u among) ∙ sym (name_in root m y u (variable_in u among))) ∙
      y.is_part

  -- signals that have the same cone have the same function
  module _ (s t : ℕ) (k : Circuit) (x : IsConeIn c levels p s k) (y : IsConeIn c levels p t k) (apart : AreApart p.names)
      (low : (u : ℕ) → Contains (variables_of c) u → slice_index levels u < length p.names) where
    parts : circuit x.part ≡ circuit y.part
    parts = x.is_part ∙ sym y.is_part

    ends : length x.from ≡ length y.from
    ends = let both : length x.from ∷ [] ≡ length y.from ∷ [] = sym x.cone_of.outputs ∙ ap (λ (d : Circuit). d.outputs) parts ∙ y.cone_of.outputs in cc

    behind : (u v : List ℕ) → 118 ∷ u ≡ 118 ∷ v → u ≡ v
    behind u v e = cc

    -- an input of the cone is for both signals the variable of the same level
    meet : (u : ℕ) → Contains y.part.inputs u → slice_index levels (slice_index x.from u) ≡ slice_index levels (slice_index y.from u)
    meet u among =
        let also : Contains x.part.inputs u = subst (λ (d : Circuit). Contains d.inputs u) (sym parts) among in
        let one : Contains (variables_of c) (slice_index x.from u) =
        subst (λ (d : Circuit). Contains (variables_of d) (slice_index x.from u)) x.is_whole
        (at_contained (λ v. (v < length x.from) × Contains (variables_of (circuit x.whole)) (slice_index x.from v)) x.part.inputs u x.cone_of.inputs also).1 in
        let two : Contains (variables_of c) (slice_index y.from u) =
        subst (λ (d : Circuit). Contains (variables_of d) (slice_index y.from u)) y.is_whole
        (at_contained (λ v. (v < length y.from) × Contains (variables_of (circuit y.whole)) (slice_index y.from v)) y.part.inputs u y.cone_of.inputs among).1 in
        let first : get_or x.part.names u [] ≡ variable_name x.names (slice_index x.from u) =
        at_contained (λ v. get_or x.part.names v [] ≡ variable_name x.names (slice_index x.from v)) x.part.inputs u x.cone_of.input_names also in
        let second : get_or y.part.names u [] ≡ variable_name y.names (slice_index y.from u) =
        at_contained (λ v. get_or y.part.names v [] ≡ variable_name y.names (slice_index y.from v)) y.part.inputs u y.cone_of.input_names among in
        let own : variable_name x.names (slice_index x.from u) ≡ variable_name y.names (slice_index y.from u) =
        sym first ∙ ap (λ (d : Circuit). get_or d.names u []) parts ∙ second in
        let same : get_or p.names (slice_index levels (slice_index x.from u)) [] ≡ get_or p.names (slice_index levels (slice_index y.from u)) [] =
        sym (name_in s k x (slice_index x.from u) one) ∙
        behind (get_or x.names (slice_index x.from u) []) (get_or y.names (slice_index y.from u) []) own ∙
        name_in t k y (slice_index y.from u) two in
        one_place p.names apart (slice_index levels (slice_index x.from u)) (slice_index levels (slice_index y.from u)) (low (slice_index x.from u) one) (low (slice_index y.from u) two) same

    pub function_alike : (count : ℕ) (f : List Bool → Bool) → IsFunctionOf c (slice_index levels) count s f → IsFunctionOf c (slice_index levels) count t f
    function_alike count f h =
        let inner : ℕ → ℕ = λ u. slice_index levels (slice_index x.from u) in
        let down : IsFunctionOf (circuit x.part) inner count (length x.from) f =
        (same_function net.net s x.names x.part x.from net.sound (cone_of_net s k x) (slice_index levels) inner (λ u among. refl) count f).0
        (subst (λ (d : Circuit). IsFunctionOf d (slice_index levels) count s f) (sym net.is_circuit) h) in
        let across : IsFunctionOf (circuit y.part) inner count (length y.from) f =
        subst (λ n. IsFunctionOf (circuit y.part) inner count n f) ends (subst (λ (d : Circuit). IsFunctionOf d inner count (length x.from) f) parts down) in
        subst (λ (d : Circuit). IsFunctionOf d (slice_index levels) count t f) net.is_circuit
        ((same_function net.net t y.names y.part y.from net.sound (cone_of_net t k y) (slice_index levels) inner meet count f).1 across)

-- ---- the verdict of another pair

module _ (asked : Details) (difference : Difference) (a b : Circuit) (given : Option Circuit) (p : NamingModel) (s t : Subject) (within : Subject → Type 0) (few : within s → within t)
    (first : (f : List Bool → Bool) → IsFunctionOf a (slice_index p.first) (length p.names) s.first f → IsFunctionOf a (slice_index p.first) (length p.names) t.first f)
    (second : (f : List Bool → Bool) → IsFunctionOf b (slice_index p.second) (length p.names) s.second f → IsFunctionOf b (slice_index p.second) (length p.names) t.second f) where
  abbrev as_other : Compared → Compared
  as_other c = compared_as t.role (name_of a t.named) c

  abbrev verdict_as : Verdict → Verdict
  verdict_as v = renamed_to t.role (name_of a t.named) v

  is_verdict : (n : ℕ) (holds : List Bool → Bool) (c : Compared) (v : Verdict) → IsVerdictOf n asked holds c v → IsVerdictOf n asked holds (as_other c) (verdict_as v)
  is_verdict n holds c v h = verdict_renamed_to n asked holds c t.role (name_of a t.named) v h

  is_reported : (n : ℕ) (holds : List Bool → Bool) (c : Compared) (v : Verdict) → IsVerdictOrUndecided n asked difference (within s) ⊥ ⊥ holds c v →
      IsVerdictOrUndecided n asked difference (within t) ⊥ ⊥ holds (as_other c) (verdict_as v)
  is_reported n holds c v (decided near is equal) =
      decided (few near) (is_verdict n holds c v is) (exact n asked holds (as_other c) (verdict_as v) (is_verdict n holds c v is))
  is_reported n holds c v (merged agree) = merged agree
  is_reported n holds c v (shown may is) = shown may (shown_renamed_to n holds c t.role (name_of a t.named) v is)
  is_reported n holds c v (undecided never none) = absurd never

  renamed_verdict : (v : Verdict) → IsConeVerdict asked difference within (λ u. ⊥) (λ u. ⊥) a b given p s v → IsConeVerdict asked difference within (λ u. ⊥) (λ u. ⊥) a b given p t (verdict_as v)
  renamed_verdict v x = record {
    holds = x.holds;
    condition = x.condition;
    compared = as_other x.compared;
    functions = record {
      role = refl;
      name = refl;
      first = first x.compared.first x.functions.first;
      second = second x.compared.second x.functions.second;
    };
    verdict = is_reported (length p.names) x.holds x.compared v x.verdict;
  }

  pub renamed_known : (left : Subject → Type 0) → (left s → left t) → (o : Option Verdict) → IsKnown (IsConeVerdict asked difference within (λ u. ⊥) (λ u. ⊥) a b given p) left s o →
      IsKnown (IsConeVerdict asked difference within (λ u. ⊥) (λ u. ⊥) a b given p) left t (verdict_for a t o)
  renamed_known left stays None h = stays h
  renamed_known left stays (Some v) h = renamed_verdict v h

-- ---- lists

zip_by : {A B : Type 0} (R : A → B → Type 0) (xs : List A) (ys : List B) (e : B) → length ys ≡ length xs → ((i : ℕ) (d : A) → i < length xs → R (get_or xs i d) (get_or ys i e)) → AllZip R xs ys
zip_by R [] [] e long each = tt
zip_by R [] (y ∷ ys) e long each = absurd (omega (arith, long))
zip_by R (x ∷ xs) [] e long each = absurd (omega (arith, long))
zip_by R (x ∷ xs) (y ∷ ys) e long each = (each 0 x (omega arith), zip_by R xs ys e (omega (arith, long)) (λ i d lt. each (suc i) d (omega (arith, lt))))

zip_weaker : {A B : Type 0} (R Q : A → B → Type 0) → ((x : A) (y : B) → R x y → Q x y) → (xs : List A) (ys : List B) → AllZip R xs ys → AllZip Q xs ys
zip_weaker R Q weaker [] [] h = tt
zip_weaker R Q weaker [] (y ∷ ys) h = absurd h
zip_weaker R Q weaker (x ∷ xs) [] h = absurd h
zip_weaker R Q weaker (x ∷ xs) (y ∷ ys) h = (weaker x y h.0, zip_weaker R Q weaker xs ys h.1)

zip_second_below : {A : Type 0} (P : ℕ → Type 0) (R : A → ℕ → Type 0) → ((x : A) (n : ℕ) → R x n → P n) → (xs : List A) (ns : List ℕ) → AllZip R xs ns → All P ns
zip_second_below P R holds [] [] h = All-nil P
zip_second_below P R holds [] (n ∷ ns) h = absurd h
zip_second_below P R holds (x ∷ xs) [] h = absurd h
zip_second_below P R holds (x ∷ xs) (n ∷ ns) h = All-cons P n ns (holds x n h.0) (zip_second_below P R holds xs ns h.1)

-- ---- pairs of a context

module _ {H : Type 0} (context : ConeContext H) where
  abbrev first_circuit : Circuit
  first_circuit = circuit context.task.now.first.now

  abbrev second_circuit : Circuit
  second_circuit = circuit context.task.now.second.now

  -- the numbers of pairs are numbers of judged pairs
  pub numbers_low : (judged ss : List Subject) (ns : List ℕ) → AllZip (HasNumber context judged) ss ns → All (λ n. n < length judged) ns
  numbers_low judged ss ns h = zip_second_below (λ n. n < length judged) (HasNumber context judged) (λ s n has. has.0) ss ns h

  module _ (limit : ℕ) (left : Subject → Type 0) where
    -- a verdict with the role and name of its own pair
    pub known_itself : (s : Subject) (o : Option Verdict) → IsKnown (IsDecidedIn context limit) left s o → IsKnown (IsDecidedIn context limit) left s (verdict_for first_circuit s o)
    known_itself s o h =
        renamed_known (unsized context.task.now.settings.now.assignment) context.task.now.settings.now.difference first_circuit second_circuit (condition context.task.now.given) context.naming.now s s
        (FitIn context limit) (λ f. f) (λ f g. g) (λ f g. g) left (λ l. l) o h

  -- ---- with the same cones

  module _ (ready : IsConeContext context) (one : IsNet context.task.now.first.now) (two : IsNet context.task.now.second.now) where
    first_net : IsOfNet first_circuit
    first_net = record { net = context.task.now.first.now; sound = one; is_circuit = refl }

    second_net : IsOfNet second_circuit
    second_net = record { net = context.task.now.second.now; sound = two; is_circuit = refl }

    module _ (s t : Subject) (same : HaveSameCones context s t) where
      cones_as : (k m : Circuit) (w : Option Circuit) → AreCones first_circuit second_circuit (condition context.task.now.given) context.naming.now s k m w →
          AreCones first_circuit second_circuit (condition context.task.now.given) context.naming.now t k m w
      cones_as k m w c = record {
        first = subst (IsConeIn first_circuit context.naming.now.first context.naming.now t.first)
            (cone_unique first_circuit context.naming.now.first context.naming.now first_net s.first same.first k same.of_one.first c.first) same.of_other.first;
        second = subst (IsConeIn second_circuit context.naming.now.second context.naming.now t.second)
            (cone_unique second_circuit context.naming.now.second context.naming.now second_net s.second same.second m same.of_one.second c.second) same.of_other.second;
        condition = c.condition;
      }

      fit_as : (limit : ℕ) → FitIn context limit s → FitIn context limit t
      fit_as limit few = record {
        first = few.first;
        second = few.second;
        condition = few.condition;
        cones = cones_as few.first few.second few.condition few.cones;
        pairing = few.pairing;
        paired = few.paired;
        fit = few.fit;
      }

      left_as : (budget : ℕ) (bound : WaveBound) → IsUndecidedIn context budget bound s → IsUndecidedIn context budget bound t
      left_as budget bound (inl up) = inl (record {
        first = up.first;
        second = up.second;
        condition = up.condition;
        cones = cones_as up.first up.second up.condition up.cones;
        cause = up.cause;
      })
      left_as budget bound (inr stops) = inr stops

      stays_as : (bound : WaveBound) → StaysUndecided context bound s → StaysUndecided context bound t
      stays_as bound left = λ budget is. left_as budget bound (left budget is)

      abbrev how : Match
      how = context.task.now.settings.now.matching

      first_as : (f : List Bool → Bool) → IsFunctionOf first_circuit (slice_index context.naming.now.first) (length context.naming.now.names) s.first f →
          IsFunctionOf first_circuit (slice_index context.naming.now.first) (length context.naming.now.names) t.first f
      first_as f h =
          function_alike first_circuit context.naming.now.first context.naming.now first_net s.first t.first same.first same.of_one.first same.of_other.first
          (names_apart how first_circuit second_circuit (condition context.task.now.given) Declared context.naming.now ready.naming)
          (first_below how first_circuit second_circuit (condition context.task.now.given) Declared context.naming.now ready.naming) (length context.naming.now.names) f h

      second_as : (f : List Bool → Bool) → IsFunctionOf second_circuit (slice_index context.naming.now.second) (length context.naming.now.names) s.second f →
          IsFunctionOf second_circuit (slice_index context.naming.now.second) (length context.naming.now.names) t.second f
      second_as f h =
          function_alike second_circuit context.naming.now.second context.naming.now second_net s.second t.second same.second same.of_one.second same.of_other.second
          (names_apart how first_circuit second_circuit (condition context.task.now.given) Declared context.naming.now ready.naming)
          (second_below how first_circuit second_circuit (condition context.task.now.given) Declared context.naming.now ready.naming) (length context.naming.now.names) f h

      known_as : (limit : ℕ) (bound : WaveBound) (o : Option Verdict) → IsKnown (IsDecidedIn context limit) (StaysUndecided context bound) s o →
          IsKnown (IsDecidedIn context limit) (StaysUndecided context bound) t (verdict_for first_circuit t o)
      known_as limit bound o h =
          renamed_known (unsized context.task.now.settings.now.assignment) context.task.now.settings.now.difference first_circuit second_circuit (condition context.task.now.given) context.naming.now s t
          (FitIn context limit) (fit_as limit) first_as second_as (StaysUndecided context bound) (stays_as bound) o h

    known_for : (limit : ℕ) (bound : WaveBound) (s t : Subject) (o : Option Verdict) → IsJudgedFor context s t → IsKnown (IsDecidedIn context limit) (StaysUndecided context bound) s o →
        IsKnown (IsDecidedIn context limit) (StaysUndecided context bound) t (verdict_for first_circuit t o)
    known_for limit bound s t o (inl is) h =
        subst (λ u. IsKnown (IsDecidedIn context limit) (StaysUndecided context bound) u (verdict_for first_circuit u o)) is (known_itself limit (StaysUndecided context bound) s o h)
    known_for limit bound s t o (inr same) h = known_as s t same limit bound o h

    -- so verdicts of the judged pairs are verdicts of all pairs
    pub all_renamed : (limit : ℕ) (bound : WaveBound) (judged ss : List Subject) (found : List (Option Verdict)) (ns : List ℕ) (all : List (Option Verdict)) →
        AllZip (IsKnown (IsDecidedIn context limit) (StaysUndecided context bound)) judged found → AllZip (HasNumber context judged) ss ns → AreVerdictsFor first_circuit found ss ns all →
        AllZip (IsKnown (IsDecidedIn context limit) (StaysUndecided context bound)) ss all
    all_renamed limit bound judged ss found ns all known numbers renamed =
        zip_by (IsKnown (IsDecidedIn context limit) (StaysUndecided context bound)) ss all None renamed.each
        (λ i d lt.
        let n = get_or ns i 0 in
        let has : HasNumber context judged (get_or ss i d) n = zip_at (HasNumber context judged) ss ns i d 0 numbers lt in
        subst (IsKnown (IsDecidedIn context limit) (StaysUndecided context bound) (get_or ss i d)) (sym (renamed.places i d lt))
        (known_for limit bound (get_or judged n d) (get_or ss i d) (get_or found n None) (has.1 d)
        (zip_at (IsKnown (IsDecidedIn context limit) (StaysUndecided context bound)) judged found n d None known has.0)))

  -- ---- dealing

  abbrev pub at_once_limit : ℕ
  at_once_limit = cone_limit context.task.now.settings.now.limit

  abbrev pub Known : Subject → Option Verdict → Type 0
  Known = IsKnown (IsDecidedIn context at_once_limit) (λ s. ⊤)

  pub dealt_none : (ss : List Subject) (os : List (Option Verdict)) (d : Distinct) → d.subjects.items ≡ [] → d.known.items ≡ [] → d.numbers.items ≡ [] → AreDistinct context (take 0 ss) os d
  dealt_none ss os d none nothing no_number = record {
    in_range = subst (All (IsInContext context)) (sym none) (All-nil (IsInContext context));
    at_once = subst (λ us. AllZip Known us d.known.items) (sym none) (subst (AllZip Known []) (sym nothing) tt);
    numbers = subst (AllZip (HasNumber context d.subjects.items) []) (sym no_number) tt;
    kept = λ i s lt. absurd (let low : i < 0 = lt in omega (arith, low));
  }

  number_kept : (judged : List Subject) (x s : Subject) (n : ℕ) → HasNumber context judged s n → HasNumber context (judged ++ x ∷ []) s n
  number_kept judged x s n has = (
    (let low = has.0 in let more = length-append judged (x ∷ []) in omega (arith, low, more)),
    λ t. subst (λ u. IsJudgedFor context u s) (sym (get_or_append_left judged (x ∷ []) t n has.0)) (has.1 t),
  )

  own_number : (judged : List Subject) (s : Subject) → HasNumber context (judged ++ s ∷ []) s (length judged)
  own_number judged s = ((let more = length-append judged (s ∷ []) in omega (arith, more)), λ t. inl (get_or-append_seam judged s [] t))

  -- what is known of judged pairs, at the place of one more pair
  known_more : (xs : List Subject) (s : Subject) (o : Option Verdict) (os known more_known : List (Option Verdict)) (ns : List ℕ) (n : ℕ) → length ns ≡ length xs → o ≡ get_or os (length xs) None →
      get_or more_known n None ≡ verdict_for first_circuit s o → ((j : ℕ) → j < length xs → get_or more_known (get_or ns j 0) None ≡ get_or known (get_or ns j 0) None) →
      ((i : ℕ) (t : Subject) → i < length xs → get_or known (get_or ns i 0) None ≡ verdict_for first_circuit (get_or xs i t) (get_or os i None)) →
      (i : ℕ) (t : Subject) → i < length (xs ++ s ∷ []) → get_or more_known (get_or (ns ++ n ∷ []) i 0) None ≡ verdict_for first_circuit (get_or (xs ++ s ∷ []) i t) (get_or os i None)
  known_more xs s o os known more_known ns n long at own same before i t lt = elim (cases_eq i (length xs)) [
    | inl here ↦
        let number : get_or (ns ++ n ∷ []) (length xs) 0 ≡ n = ap (λ j. get_or (ns ++ n ∷ []) j 0) (sym long) ∙ get_or-append_seam ns n [] 0 in
        let last : get_or (xs ++ s ∷ []) (length xs) t ≡ s = get_or-append_seam xs s [] t in
        subst (λ j. get_or more_known (get_or (ns ++ n ∷ []) j 0) None ≡ verdict_for first_circuit (get_or (xs ++ s ∷ []) j t) (get_or os j None)) (sym here)
        (ap (λ j. get_or more_known j None) number ∙ own ∙ ap (verdict_for first_circuit s) at ∙ ap (λ u. verdict_for first_circuit u (get_or os (length xs) None)) (sym last))
    | inr other ↦
        let more = length-append xs (s ∷ []) in
        let less : i < length xs = omega (arith, lt, other, more) in
        ap (λ j. get_or more_known j None) (get_or_append_left ns (n ∷ []) 0 i (omega (arith, less, long))) ∙ same i less ∙ before i t less ∙
        ap (λ u. verdict_for first_circuit u (get_or os i None)) (sym (get_or_append_left xs (s ∷ []) t i less))
  ]

  pub dealt_more : (ss : List Subject) (os : List (Option Verdict)) (k : ℕ) (s : Subject) (o : Option Verdict) (old new : Distinct) → k < length ss → s ≡ get_or ss k s → o ≡ get_or os k None →
      IsInContext context s → Known s o → IsDealt context s o old new → AreDistinct context (take k ss) os old → AreDistinct context (take (k + 1) ss) os new
  dealt_more ss os k s o old new low at was inside known dealt before =
      let more : take (k + 1) ss ≡ take k ss ++ s ∷ [] = take_more ss k s low ∙ ap (λ x. take k ss ++ x ∷ []) (sym at) in
      subst (λ xs. AreDistinct context xs os new) (sym more) (by dealt)
    where
      front : length (take k ss) ≡ k
      front = length-take-le k ss (omega (arith, low))

      each : length old.numbers.items ≡ length (take k ss)
      each = zip_size (HasNumber context old.subjects.items) (take k ss) old.numbers.items before.numbers

      each_known : length old.known.items ≡ length old.subjects.items
      each_known = zip_size Known old.subjects.items old.known.items before.at_once

      at_end : o ≡ get_or os (length (take k ss)) None
      at_end = was ∙ ap (λ j. get_or os j None) (sym front)

      number_low : (j : ℕ) → j < length (take k ss) → get_or old.numbers.items j 0 < length old.known.items
      number_low j lt =
          let has = (zip_at (HasNumber context old.subjects.items) (take k ss) old.numbers.items j s 0 before.numbers lt).0 in
          omega (arith, has, each_known)

      by : IsDealt context s o old new → AreDistinct context (take k ss ++ s ∷ []) os new
      by (inl added) = record {
        in_range = subst (All (IsInContext context)) (sym added.subjects)
            (All-append (IsInContext context) old.subjects.items (s ∷ []) before.in_range (All-cons (IsInContext context) s [] inside (All-nil (IsInContext context))));
        at_once = subst (λ us. AllZip Known us new.known.items) (sym added.subjects)
            (subst (AllZip Known (old.subjects.items ++ s ∷ [])) (sym added.known)
            (AllZip-append Known old.subjects.items (s ∷ []) old.known.items (verdict_for first_circuit s o ∷ []) before.at_once (known_itself at_once_limit (λ u. ⊤) s o known, tt)));
        numbers = subst (λ us. AllZip (HasNumber context us) (take k ss ++ s ∷ []) new.numbers.items) (sym added.subjects)
            (subst (AllZip (HasNumber context (old.subjects.items ++ s ∷ [])) (take k ss ++ s ∷ [])) (sym added.numbers)
            (AllZip-append (HasNumber context (old.subjects.items ++ s ∷ [])) (take k ss) (s ∷ []) old.numbers.items (length old.subjects.items ∷ [])
            (zip_weaker (HasNumber context old.subjects.items) (HasNumber context (old.subjects.items ++ s ∷ [])) (λ u n has. number_kept old.subjects.items s u n has) (take k ss) old.numbers.items before.numbers)
            (own_number old.subjects.items s, tt)));
        kept = λ i t lt.
            subst (λ ns. get_or new.known.items (get_or ns i 0) None ≡ verdict_for first_circuit (get_or (take k ss ++ s ∷ []) i t) (get_or os i None)) (sym added.numbers)
            (subst (λ vs. get_or vs (get_or (old.numbers.items ++ length old.subjects.items ∷ []) i 0) None ≡ verdict_for first_circuit (get_or (take k ss ++ s ∷ []) i t) (get_or os i None)) (sym added.known)
            (known_more (take k ss) s o os old.known.items (old.known.items ++ verdict_for first_circuit s o ∷ []) old.numbers.items (length old.subjects.items) each at_end
            (ap (λ j. get_or (old.known.items ++ verdict_for first_circuit s o ∷ []) j None) (sym each_known) ∙ get_or-append_seam old.known.items (verdict_for first_circuit s o) [] None)
            (λ j less. get_or_append_left old.known.items (verdict_for first_circuit s o ∷ []) None (get_or old.numbers.items j 0) (number_low j less))
            before.kept i t lt));
      }
      by (inr (n, shared, may)) = record {
        in_range = subst (All (IsInContext context)) (sym shared.subjects) before.in_range;
        at_once = subst (λ us. AllZip Known us new.known.items) (sym shared.subjects) (subst (AllZip Known old.subjects.items) (sym shared.known) before.at_once);
        numbers = subst (λ us. AllZip (HasNumber context us) (take k ss ++ s ∷ []) new.numbers.items) (sym shared.subjects)
            (subst (AllZip (HasNumber context old.subjects.items) (take k ss ++ s ∷ [])) (sym shared.numbers)
            (AllZip-append (HasNumber context old.subjects.items) (take k ss) (s ∷ []) old.numbers.items (n ∷ []) before.numbers (may.numbered, tt)));
        kept = λ i t lt.
            subst (λ ns. get_or new.known.items (get_or ns i 0) None ≡ verdict_for first_circuit (get_or (take k ss ++ s ∷ []) i t) (get_or os i None)) (sym shared.numbers)
            (subst (λ vs. get_or vs (get_or (old.numbers.items ++ n ∷ []) i 0) None ≡ verdict_for first_circuit (get_or (take k ss ++ s ∷ []) i t) (get_or os i None)) (sym shared.known)
            (known_more (take k ss) s o os old.known.items old.known.items old.numbers.items n each at_end
            (may.judged_unknown ∙ ap (verdict_for first_circuit s) (sym may.unknown)) (λ j less. refl) before.kept i t lt));
      }
