-- The definition of the report determines it: the counts and the bytes.
use Rattle.std.proofs.Common.{◌≡◌, ◌∙◌, ℕ, suc, ◌<◌, ◌⊎◌, inl, inr, Bool, true, false, List, [], ◌∷◌, ◌++◌, length, Option, Some, None, refl, sym, ap, subst, arith, slice_index}
use Rattle.std.specs.Prelude.{◌&&◌, All, IfSome, option_map}
use Rattle.std.specs.List.{AllZip}
use Rattle.dd_store.specs.Functions.{Agree, Before}
use Rattle.dd_store.specs.Functions.Before.{first, later}
use Rattle.dd_store.proofs.OneSize.{HasSize-one}
use Rattle.net_bench.specs.Circuit.{Circuit, Net, IsNet, circuit, variables_of}
use Rattle.net_bench.specs.Labels.{IsLabelling, IsFunctionOf, bit_of}
use Rattle.net_bench.proofs.Built.{same_labelling}
use Rattle.net_names.specs.declared.order.Match.{Match}
use Rattle.net_names.specs.declared.order.Order.{Order}
use Rattle.net_order.specs.Order.{NamingModel, IsNaming, IsPairing}
use Rattle.report_text.specs.declared.outcome.Outcome.{Outcome}
use Rattle.report_text.specs.declared.verdict.Verdict.{Verdict}
use Rattle.report_text.specs.declared.verdict.Verdict.TheVariants.{Equal, Differs}
use Rattle.report_text.specs.Lines.{Found, counted}
use Rattle.report_text.specs.declared.verdict.Extras.{Extras}
use Rattle.compare_built.specs.declared.verdict_order.Details.{Details}
use Rattle.compare_built.specs.Report.{Compared, IsSizeShown, IsSupportShown, AreExtrasShown, AreSizesShown, IsVerdictOf, AreFunctions, AreVerdicts, unmatched_verdicts, subjects, IsReport}
use Rattle.compare_built.specs.Report.IsVerdictOf.{where_equal, where_different}
use Rattle.compare_built.specs.declared.subject.Subject.{Subject}
use Rattle.compare_built.specs.Conditions.{HasOneOutput, HoldsWhere, output_of, restricted, AgreeWhere, IsLeastWhere}
use Rattle.compare_built.specs.Comparing.{IsInside}
use Rattle.compare_built.proofs.Restricting.{size_as}
use Rattle.compare_built.proofs.Supporting.{levels_as, one_levels}
use Rattle.compare_built.proofs.Subjects.{subjects_inside}

-- ---- the least difference

behind : (b : Bool) (x y : List Bool) → (x ≡ y) ⊎ (Before x y ⊎ Before y x) → (b ∷ x ≡ b ∷ y) ⊎ (Before (b ∷ x) (b ∷ y) ⊎ Before (b ∷ y) (b ∷ x))
behind b x y (inl e) = inl (ap (λ z. b ∷ z) e)
behind b x y (inr (inl l)) = inr (inl (later l))
behind b x y (inr (inr l)) = inr (inr (later l))

either : (x y : List Bool) → length x ≡ length y → (x ≡ y) ⊎ (Before x y ⊎ Before y x)
either [] [] e = inl refl
either [] (b ∷ y) e = absurd (omega arith)
either (a ∷ x) [] e = absurd (omega arith)
either (false ∷ x) (true ∷ y) e = inr (inl first)
either (true ∷ x) (false ∷ y) e = inr (inr first)
either (false ∷ x) (false ∷ y) e = behind false x y (either x y (omega arith))
either (true ∷ x) (true ∷ y) e = behind true x y (either x y (omega arith))

one_difference : (n : ℕ) (holds holds' f g f' g' : List Bool → Bool) (x y : List Bool) → Agree n holds holds' → Agree n f f' → Agree n g g' → IsLeastWhere n holds f g x → IsLeastWhere n holds' f' g' y → x ≡ y
one_difference n holds holds' f g f' g' x y there same other d e = by (either x y (d.bits ∙ sym e.bits))
  where
    by : (x ≡ y) ⊎ (Before x y ⊎ Before y x) → x ≡ y
    by (inl is) = is
    by (inr (inl l)) = absurd (d.differ (same x d.bits ∙ e.least x d.bits l (sym (there x d.bits) ∙ d.satisfies) ∙ sym (other x d.bits)))
    by (inr (inr l)) = absurd (e.differ (sym (same y e.bits) ∙ d.least y e.bits l (there y e.bits ∙ e.satisfies) ∙ other y e.bits))

-- ---- sizes

one_size : (sizes : Bool) (n : ℕ) (f g : List Bool → Bool) (shown more : Option ℕ) → Agree n f g → IsSizeShown sizes n f shown → IsSizeShown sizes n g more → shown ≡ more
one_size false n f g shown more same s t = s ∙ sym t
one_size true n f g shown more same s t = s.2 ∙ ap (λ k. Some k) (HasSize-one n g s.0 t.0 (size_as n f g s.0 same s.1) t.1) ∙ sym t.2

two_sizes : (sizes : Bool) (n : ℕ) (f g f' g' : List Bool → Bool) (shown more : Option (ℕ × ℕ)) → Agree n f f' → Agree n g g' → AreSizesShown sizes n f g shown → AreSizesShown sizes n f' g' more → shown ≡ more
two_sizes false n f g f' g' shown more same other s t = s ∙ sym t
two_sizes true n f g f' g' shown more same other s t =
    let e : s.0 ≡ t.0 = HasSize-one n f' s.0 t.0 (size_as n f f' s.0 same s.2) t.2 in
    let h : s.1 ≡ t.1 = HasSize-one n g' s.1 t.1 (size_as n g g' s.1 other s.3) t.3 in
    s.4 ∙ ap (λ k. Some (k, s.1)) e ∙ ap (λ m. Some (t.0, m)) h ∙ sym t.4

-- ---- what is reported besides

two_supports : (asked : Bool) (n : ℕ) (f g f' g' : List Bool → Bool) (shown more : Option (List Bool)) → Agree n f f' → Agree n g g' → IsSupportShown asked n f g shown → IsSupportShown asked n f' g' more → shown ≡ more
two_supports false n f g f' g' shown more same other s t = s ∙ sym t
two_supports true n f g f' g' shown more same other s t = s.2 ∙ (ap (λ l. Some l) (one_levels n f' g' s.0 t.0 (levels_as n f g f' g' s.0 same other s.1) t.1) ∙ sym t.2)

abbrev extras : Bool → Option (List Bool) → Option (ℕ × ℕ) → Extras
extras least support sizes = record { least = least; support = support; sizes = sizes }

two_extras : (asked : Details) (n : ℕ) (f g f' g' : List Bool → Bool) (shown more : Extras) → Agree n f f' → Agree n g g' → AreExtrasShown asked n f g shown → AreExtrasShown asked n f' g' more → shown ≡ more
two_extras asked n f g f' g' shown more same other s t =
    ap (λ z. extras z shown.support shown.sizes) (s.least ∙ sym t.least)
    ∙ ap (λ z. extras more.least z shown.sizes) (two_supports asked.support n f g f' g' shown.support more.support same other s.support t.support)
    ∙ ap (λ z. extras more.least more.support z) (two_sizes asked.sizes n f g f' g' shown.sizes more.sizes same other s.sizes t.sizes)

-- ---- verdicts

CallsBoth : (n : ℕ) (asked : Details) (holds : List Bool → Bool) → Compared → Verdict → Type 0
CallsBoth n asked holds c l = (shown : Option ℕ) × AgreeWhere n holds c.first c.second × IsSizeShown asked.sizes n (restricted holds c.first) shown × (l ≡ Equal c.role c.name shown)

TellsApart : (n : ℕ) (asked : Details) (holds : List Bool → Bool) → Compared → Verdict → Type 0
TellsApart n asked holds c l =
    (x : List Bool) × (shown : Extras) × IsLeastWhere n holds c.first c.second x × AreExtrasShown asked n (restricted holds c.first) (restricted holds c.second) shown
    × (l ≡ Differs c.role c.name x (c.first x) (c.second x) shown)

kind_of : (n : ℕ) (asked : Details) (holds : List Bool → Bool) (c : Compared) (l : Verdict) → IsVerdictOf n asked holds c l → CallsBoth n asked holds c l ⊎ TellsApart n asked holds c l
unfolding CallsBoth TellsApart
kind_of n asked holds c l (where_equal {shown = shown} agree size) = inl (shown, agree, size, refl)
kind_of n asked holds c l (where_different {x = x} {shown = shown} least size) = inr (x, shown, least, size, refl)

-- restrictions of functions that agree
agree_restricted : (n : ℕ) (holds holds' f f' : List Bool → Bool) → Agree n holds holds' → Agree n f f' → Agree n (restricted holds f) (restricted holds' f')
agree_restricted n holds holds' f f' there same x len = ap (λ z. z && f x) (there x len) ∙ ap (λ z. holds' x && z) (same x len)

one_verdict : (n : ℕ) (asked : Details) (holds holds' : List Bool → Bool) (c d : Compared) → c.role ≡ d.role → c.name ≡ d.name → Agree n holds holds' → Agree n c.first d.first → Agree n c.second d.second →
    (l m : Verdict) → IsVerdictOf n asked holds c l → IsVerdictOf n asked holds' d m → l ≡ m
unfolding CallsBoth TellsApart
one_verdict n asked holds holds' c d role name there same other l m h k = by (kind_of n asked holds c l h) (kind_of n asked holds' d m k)
  where
    first_restricted : Agree n (restricted holds c.first) (restricted holds' d.first)
    first_restricted = agree_restricted n holds holds' c.first d.first there same

    second_restricted : Agree n (restricted holds c.second) (restricted holds' d.second)
    second_restricted = agree_restricted n holds holds' c.second d.second there other

    by : CallsBoth n asked holds c l ⊎ TellsApart n asked holds c l → CallsBoth n asked holds' d m ⊎ TellsApart n asked holds' d m → l ≡ m
    by (inl s) (inl t) =
        s.3 ∙ ap (λ w. Equal w c.name s.0) role ∙ ap (λ w. Equal d.role w s.0) name
        ∙ ap (λ z. Equal d.role d.name z) (one_size asked.sizes n (restricted holds c.first) (restricted holds' d.first) s.0 t.0 first_restricted s.2 t.2) ∙ sym t.3
    by (inl s) (inr t) =
        absurd (t.2.differ (sym (same t.0 t.2.bits) ∙ s.1 t.0 t.2.bits (there t.0 t.2.bits ∙ t.2.satisfies) ∙ other t.0 t.2.bits))
    by (inr s) (inl t) =
        absurd (s.2.differ (same s.0 s.2.bits ∙ t.1 s.0 s.2.bits (sym (there s.0 s.2.bits) ∙ s.2.satisfies) ∙ sym (other s.0 s.2.bits)))
    by (inr s) (inr t) =
        let x : s.0 ≡ t.0 = one_difference n holds holds' c.first c.second d.first d.second s.0 t.0 there same other s.2 t.2 in
        let shown : s.1 ≡ t.1 =
        two_extras asked n (restricted holds c.first) (restricted holds c.second) (restricted holds' d.first) (restricted holds' d.second) s.1 t.1 first_restricted second_restricted s.3 t.3 in
        let one : c.first s.0 ≡ d.first t.0 = same s.0 s.2.bits ∙ ap d.first x in
        let two : c.second s.0 ≡ d.second t.0 = other s.0 s.2.bits ∙ ap d.second x in
        let e = s.4 in
        let f = t.4 in
        cc

-- ---- functions

labelling_as : (c : Circuit) (level more : ℕ → ℕ) (x bits : List Bool) → All (λ s. level s ≡ more s) (variables_of c) → IsLabelling c level x bits → IsLabelling c more x bits
labelling_as c level more x bits same l = record {
  each = l.each;
  variables = λ k d lt. l.variables k d lt ∙ ap (bit_of x) (same k d lt);
  gates = l.gates;
}

pub one_function : (net : Net) → IsNet net → (level more : ℕ → ℕ) → All (λ s. level s ≡ more s) (variables_of (circuit net)) → (n s : ℕ) → s < length net.names → (f g : List Bool → Bool)
    → IsFunctionOf (circuit net) level n s f → IsFunctionOf (circuit net) more n s g → Agree n f g
one_function net sound level more same n s lt f g h k = λ x len.
    let a = h x len in
    let b = k x len in
    sym a.2 ∙ same_labelling net sound more x a.0 b.0 (labelling_as (circuit net) level more x a.0 same a.1) b.1 s lt ∙ b.2

-- ---- the report

module _ (n : ℕ) (asked : Details) (one two : Net) (sound : IsNet one) (sound' : IsNet two) (p q : NamingModel) (size : length p.names ≡ n) (size' : length q.names ≡ n)
    (first_same : All (λ s. slice_index p.first s ≡ slice_index q.first s) (variables_of (circuit one)))
    (second_same : All (λ s. slice_index p.second s ≡ slice_index q.second s) (variables_of (circuit two))) (holds holds' : List Bool → Bool) (there : Agree n holds holds') where
  one_list : (all : List Subject) (cs ds : List Compared) (ls ms : List Verdict) → All (IsInside (circuit one) (circuit two)) all
      → AllZip (AreFunctions (circuit one) (circuit two) p) all cs → AllZip (AreFunctions (circuit one) (circuit two) q) all ds
      → AllZip (IsVerdictOf n asked holds) cs ls → AllZip (IsVerdictOf n asked holds') ds ms → ls ≡ ms
  one_list [] [] [] [] [] in_range a b h k = refl
  one_list [] [] [] (l ∷ ls) ms in_range a b h k = absurd h
  one_list [] [] [] [] (m ∷ ms) in_range a b h k = absurd k
  one_list [] (c ∷ cs) ds ls ms in_range a b h k = absurd a
  one_list [] [] (d ∷ ds) ls ms in_range a b h k = absurd b
  one_list (w ∷ ws) [] ds ls ms in_range a b h k = absurd a
  one_list (w ∷ ws) (c ∷ cs) [] ls ms in_range a b h k = absurd b
  one_list (w ∷ ws) (c ∷ cs) (d ∷ ds) [] ms in_range a b h k = absurd h
  one_list (w ∷ ws) (c ∷ cs) (d ∷ ds) (l ∷ ls) [] in_range a b h k = absurd k
  one_list (w ∷ ws) (c ∷ cs) (d ∷ ds) (l ∷ ls) (m ∷ ms) in_range a b h k =
      let low = in_range 0 w (omega arith) in
      let same : Agree n c.first d.first =
      one_function one sound (slice_index p.first) (slice_index q.first) first_same n w.first low.1 c.first d.first
      (subst (λ z. IsFunctionOf (circuit one) (slice_index p.first) z w.first c.first) size a.0.first) (subst (λ z. IsFunctionOf (circuit one) (slice_index q.first) z w.first d.first) size' b.0.first) in
      let other : Agree n c.second d.second =
      one_function two sound' (slice_index p.second) (slice_index q.second) second_same n w.second low.2 c.second d.second
      (subst (λ z. IsFunctionOf (circuit two) (slice_index p.second) z w.second c.second) size a.0.second) (subst (λ z. IsFunctionOf (circuit two) (slice_index q.second) z w.second d.second) size' b.0.second) in
      let e : l ≡ m = one_verdict n asked holds holds' c d (a.0.role ∙ sym b.0.role) (a.0.name ∙ sym b.0.name) there same other l m h.0 k.0 in
      let r : ls ≡ ms = one_list ws cs ds ls ms (λ i v lt. in_range (suc i) v (omega arith)) a.1 b.1 h.1 k.1 in
      cc

-- the condition's output is one of its signals
pub output_inside : (net : Net) → IsNet net → HasOneOutput (circuit net) → output_of (circuit net) < length net.names
output_inside net sound one = sound.outputs 0 0 (omega (arith, one))

-- two namings give the condition's variables the same levels
conditional_same : (how : Match) (a b : Circuit) (given : Option Net) (order : Order) (p q : NamingModel) → IsNaming how a b (option_map circuit given) order p → IsNaming how a b (option_map circuit given) order q →
    (net : Net) → given ≡ Some net → All (λ s. slice_index p.given s ≡ slice_index q.given s) (variables_of (circuit net))
conditional_same how a b None order p q h k net e = cc
conditional_same how a b (Some other) order p q h k net e =
    subst (λ (z : Net). All (λ s. slice_index p.given s ≡ slice_index q.given s) (variables_of (circuit z))) (some_is other net e) (λ i d lt. h.conditional i d lt ∙ sym (k.conditional i d lt))
  where
    some_is : (x y : Net) → ◌≡◌ {A = Option Net} (Some x) (Some y) → x ≡ y
    some_is x y f = cc

-- a condition holds at the same assignments
one_condition : (given : Option Net) → IfSome given (λ net. IsNet net × HasOneOutput (circuit net)) → (p q : NamingModel) → length p.names ≡ length q.names →
    ((net : Net) → given ≡ Some net → All (λ s. slice_index p.given s ≡ slice_index q.given s) (variables_of (circuit net))) → (holds holds' : List Bool → Bool) →
    HoldsWhere (option_map circuit given) p holds → HoldsWhere (option_map circuit given) q holds' → Agree (length q.names) holds holds'
one_condition None sound p q size same holds holds' h k = λ x len. ap (λ f. f x) (h ∙ sym k)
one_condition (Some net) sound p q size same holds holds' h k =
    one_function net sound.0 (slice_index p.given) (slice_index q.given) (same net refl) (length q.names) (output_of (circuit net)) (output_inside net sound.0 sound.1) holds holds'
    (subst (λ z. IsFunctionOf (circuit net) (slice_index p.given) z (output_of (circuit net)) holds) size h) k

-- two comparisons of two netlists in one order have the same findings
pub one_found : (one two : Net) (given : Option Net) → IsNet one → IsNet two → IfSome given (λ net. IsNet net × HasOneOutput (circuit net)) → (how : Match) (order : Order) (p q : NamingModel) → IsNaming how (circuit one) (circuit two) (option_map circuit given) order p → IsNaming how (circuit one) (circuit two) (option_map circuit given) order q
    → (asked : Details) (found more : Found) → AreVerdicts asked (circuit one) (circuit two) (option_map circuit given) p found → AreVerdicts asked (circuit one) (circuit two) (option_map circuit given) q more → found ≡ more
one_found one two given sound sound' sound_given how order p q h k asked found more r t =
    let names : p.names ≡ q.names = h.names ∙ sym k.names in
    let outputs : p.outputs ≡ q.outputs = h.outputs ∙ sym k.outputs in
    let registers : p.registers ≡ q.registers = h.registers ∙ sym k.registers in
    let all_same : subjects (circuit one) (circuit two) p ≡ subjects (circuit one) (circuit two) q = cc in
    let size : length p.names ≡ length q.names = ap length names in
    let in_range = subjects_inside how one two (option_map circuit given) order q sound sound' k in
    let of_pairs : r.of_pairs ≡ t.of_pairs =
    one_list (length q.names) asked one two sound sound' p q size refl (λ i d lt. h.first i d lt ∙ sym (k.first i d lt)) (λ i d lt. h.second i d lt ∙ sym (k.second i d lt))
    r.holds t.holds (one_condition given sound_given p q size (λ net e i d lt. conditional_same how (circuit one) (circuit two) given order p q h k net e i d lt) r.holds t.holds r.condition t.condition) (subjects (circuit one) (circuit two) q) r.compared t.compared r.of_pairs t.of_pairs
    in_range (subst (λ ws. AllZip (AreFunctions (circuit one) (circuit two) p) ws r.compared) all_same r.functions) t.functions (subst (λ n. AllZip (IsVerdictOf n asked r.holds) r.compared r.of_pairs) size r.are_verdicts) t.are_verdicts in
    let unmatched_lines : unmatched_verdicts (circuit one) (circuit two) p ≡ unmatched_verdicts (circuit one) (circuit two) q = cc in
    let variables : found.variables ≡ more.variables = r.variables ∙ names ∙ sym t.variables in
    let verdicts : found.verdicts ≡ more.verdicts =
    r.all ∙ ap (λ vs. vs ++ unmatched_verdicts (circuit one) (circuit two) p) of_pairs ∙ ap (λ vs. t.of_pairs ++ vs) unmatched_lines ∙ sym t.all in
    λ i. record { variables = variables i; verdicts = verdicts i }

-- two reports of two netlists in one order have the same counts and the same bytes
pub one_report : (one two : Net) (given : Option Net) → IsNet one → IsNet two → IfSome given (λ net. IsNet net × HasOneOutput (circuit net)) → (how : Match) (order : Order) (p q : NamingModel) → IsPairing how (circuit one) (circuit two) (option_map circuit given) order p → IsPairing how (circuit one) (circuit two) (option_map circuit given) order q
    → (form : Found → List ℕ) (asked : Details) (o more : Outcome) (bytes text : List ℕ) → IsReport form asked (circuit one) (circuit two) (option_map circuit given) p o bytes → IsReport form asked (circuit one) (circuit two) (option_map circuit given) q more text
    → (o ≡ more) × (bytes ≡ text)
one_report one two given sound sound' sound_given how order p q h k form asked o more bytes text r t =
    let found : r.found ≡ t.found = one_found one two given sound sound' sound_given how order p q h.naming k.naming asked r.found t.found r.verdicts t.verdicts in
    (r.counts ∙ ap (λ (f : Found). counted f.verdicts) found ∙ sym t.counts, r.text ∙ ap form found ∙ sym t.text)
