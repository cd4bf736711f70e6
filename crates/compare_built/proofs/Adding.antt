-- Verdicts that are added one by one.
use Rattle.std.proofs.Common.{◌≡◌, ◌∙◌, ap, sym, refl, subst, ℕ, ◌+◌, ◌<◌, ◌≤◌, Bool, List, [], ◌∷◌, ◌++◌, map, length, get_or, take, drop, append_assoc, Option, Some}
use Rattle.std.specs.Prelude.{slice_get, slice_index, All, ◌↔◌}
use Rattle.std.specs.List.{AllZip}
use Rattle.std.proofs.lemmas.List.{take_more, take_all, drop_more, get_or_default}
use Rattle.net_bench.specs.Circuit.{Circuit}
use Rattle.net_bench.specs.Labels.{IsFunctionOf}
use Rattle.net_order.specs.Order.{NamingModel, first_level, second_level, name_of, names_of}
use Rattle.dd_store.specs.declared.reference.Ref.{Ref}
use Rattle.dd_store.specs.Nodes.{Nodes}
use Rattle.report_text.specs.declared.outcome.PairKind.{PairKind}
use Rattle.report_text.specs.declared.outcome.Side.{Side}
use Rattle.report_text.specs.declared.outcome.Side.TheVariants.{First, Second}
use Rattle.compare_built.specs.declared.verdict_order.Details.{Details}
use Rattle.compare_built.specs.declared.subject.Subject.{Subject}
use Rattle.report_text.specs.declared.verdict.Verdict.{Verdict}
use Rattle.report_text.specs.declared.verdict.Verdict.TheVariants.{Unmatched}
use Rattle.compare_built.specs.Report.{Compared, AreFunctions, IsVerdictOf, CallsEqual, AreVerdicts, unmatched_of_side, subjects}
use Rattle.compare_built.specs.Conditions.{everywhere, AgreeWhere}
use Rattle.compare_built.specs.Comparing.{AreSignals, IsInside, HaveVerdicts, HaveAllVerdicts, DenotesWhere, subject_at, compared_of}
use Rattle.report_text.proofs.Wording.{there}
use Rattle.compare_built.proofs.Calling.{exact}
use Rattle.compare_built.proofs.Restricting.{verdict_where}

-- ---- lists

pub zip_push : {A B : Type 0} (R : A → B → Type 0) (xs : List A) (ys : List B) (x : A) (y : B) → AllZip R xs ys → R x y → AllZip R (xs ++ x ∷ []) (ys ++ y ∷ [])
zip_push R [] [] x y a r = (r, tt)
zip_push R [] (z ∷ ys) x y a r = absurd a
zip_push R (z ∷ xs) [] x y a r = absurd a
zip_push R (w ∷ xs) (z ∷ ys) x y a r = (a.0, zip_push R xs ys x y a.1 r)

pub zip_map : {A B : Type 0} (R S : A → B → Type 0) → ((x : A) (y : B) → R x y → S x y) → (xs : List A) (ys : List B) → AllZip R xs ys → AllZip S xs ys
zip_map R S f [] [] a = tt
zip_map R S f [] (y ∷ ys) a = a
zip_map R S f (x ∷ xs) [] a = a
zip_map R S f (x ∷ xs) (y ∷ ys) a = (f x y a.0, zip_map R S f xs ys a.1)

-- ---- the verdicts of pairs

module _ (asked : Details) (holds : List Bool → Bool) (a b : Circuit) (p : NamingModel) where
  pub start : HaveVerdicts asked holds a b p [] []
  start = record { compared = []; functions = tt; are_verdicts = tt }

  pub next : (n : ℕ) (all : List Subject) (i : ℕ) (subject : Subject) (c : Compared) (v : Verdict) (verdicts more : List Verdict) → n ≡ length p.names → i < length all → get_or all i subject ≡ subject →
      HaveVerdicts asked holds a b p (take i all) verdicts → AreFunctions a b p subject c → IsVerdictOf n asked holds c v → more ≡ verdicts ++ v ∷ [] → HaveVerdicts asked holds a b p (take (i + 1) all) more
  next n all i subject c v verdicts more levels lt here h functions is grown =
      let e : take (i + 1) all ≡ take i all ++ subject ∷ [] = take_more all i subject lt ∙ ap (λ z. take i all ++ z ∷ []) here in
      record {
        compared = h.compared ++ c ∷ [];
        functions = subst (λ us. AllZip (AreFunctions a b p) us (h.compared ++ c ∷ [])) (sym e) (zip_push (AreFunctions a b p) (take i all) h.compared subject c h.functions functions);
        are_verdicts = subst (AllZip (IsVerdictOf (length p.names) asked holds) (h.compared ++ c ∷ [])) (sym grown)
            (zip_push (IsVerdictOf (length p.names) asked holds) h.compared verdicts c v h.are_verdicts (subst (λ m. IsVerdictOf m asked holds c v) levels is));
      }

  -- all pairs have their verdicts
  pub all_added : (all : List Subject) (i : ℕ) (verdicts : List Verdict) → all ≡ subjects a b p → length all ≤ i →
      HaveVerdicts asked holds a b p (take i all) verdicts → HaveVerdicts asked holds a b p (subjects a b p) verdicts
  all_added all i verdicts e le h = subst (λ us. HaveVerdicts asked holds a b p us verdicts) (take_all i all le ∙ e) h

  -- one more pair has its verdict, by its references
  pub next_shown : (reported : (List Bool → Bool) → List Bool → Bool) (S : Nodes) (all : List Subject) (i : ℕ) (role : PairKind) (name : List ℕ) (one two r q : Ref) (v : Verdict) (verdicts more : List Verdict) → S.levels ≡ length p.names → i < length all →
      role ≡ (subject_at all i).role → name ≡ name_of a (subject_at all i).named → one ≡ r → two ≡ q →
      DenotesWhere reported holds a (first_level p) S (subject_at all i).first r → DenotesWhere reported holds b (second_level p) S (subject_at all i).second q →
      HaveVerdicts asked holds a b p (take i all) verdicts → IsVerdictOf S.levels asked everywhere (compared_of reported S role name one two) v → more ≡ verdicts ++ v ∷ [] → HaveVerdicts asked holds a b p (take (i + 1) all) more
  next_shown reported S all i role name one two r q v verdicts more levels lt er en eo et first second h is grown =
      let subject = subject_at all i in
      let c : Compared = record { role = subject.role; name = name_of a subject.named; first = first.1.0; second = second.1.0 } in
      let e : compared_of reported S role name one two ≡ compared_of reported S subject.role (name_of a subject.named) r q = λ j. compared_of reported S (er j) (en j) (eo j) (et j) in
      let plain : IsVerdictOf S.levels asked everywhere (compared_of reported S subject.role (name_of a subject.named) r q) v = subst (λ z. IsVerdictOf S.levels asked everywhere z v) e is in
      next S.levels all i subject c v verdicts more levels lt (get_or_default all i subject _ lt) h
      (record {
        role = refl;
        name = refl;
        first = subst (λ n. IsFunctionOf a (slice_index p.first) n subject.first first.1.0) levels first.1.1;
        second = subst (λ n. IsFunctionOf b (slice_index p.second) n subject.second second.1.0) levels second.1.1;
      })
      (verdict_where S.levels asked holds (compared_of reported S subject.role (name_of a subject.named) r q) first.1.0 second.1.0 first.1.2 second.1.2 v plain) grown

-- the signals whose names pairs have are signals of the first netlist
pub all_named : (a b : Circuit) (p : NamingModel) (all : List Subject) → all ≡ subjects a b p → AreSignals a b p → All (λ subject. subject.named < length a.names) all
all_named a b p all e signals = λ i d lt. (subst (All (IsInside a b)) (sym e) signals.compared i d lt).0

-- with the verdicts of what has no partner after those of the pairs
pub whole : (asked : Details) (a b : Circuit) (given : Option Circuit) (p : NamingModel) (of_pairs one two : List Verdict) → HaveAllVerdicts asked a b given p of_pairs →
    one ≡ of_pairs ++ unmatched_of_side First a p.outputs.only_first p.registers.only_first →
    two ≡ one ++ unmatched_of_side Second b p.outputs.only_second p.registers.only_second →
    AreVerdicts asked a b given p (record { variables = p.names; verdicts = two })
whole asked a b given p of_pairs one two (holds, is, h) e f = record {
  variables = refl;
  holds = holds;
  condition = is;
  compared = h.compared;
  functions = h.functions;
  of_pairs = of_pairs;
  are_verdicts = h.are_verdicts;
  called_equal = zip_map (IsVerdictOf (length p.names) asked holds) (λ c v. CallsEqual v ↔ AgreeWhere (length p.names) holds c.first c.second) (exact (length p.names) asked holds) h.compared of_pairs h.are_verdicts;
  all = f ∙ ap (λ z. z ++ unmatched_of_side Second b p.outputs.only_second p.registers.only_second) e
      ∙ append_assoc of_pairs (unmatched_of_side First a p.outputs.only_first p.registers.only_first) (unmatched_of_side Second b p.outputs.only_second p.registers.only_second);
}

-- ---- the verdicts of what has no partner

pub unmatched_next : (c : Circuit) (side : Side) (role : PairKind) (signals : List ℕ) (i s : ℕ) (name : List ℕ) (old new whole : List Verdict) → i < length signals → s ≡ get_or signals i s → slice_get c.names s ≡ Some name →
    old ++ map (Unmatched side role) (names_of c (drop i signals)) ≡ whole → new ≡ old ++ Unmatched side role name ∷ [] →
    new ++ map (Unmatched side role) (names_of c (drop (i + 1) signals)) ≡ whole
unmatched_next c side role signals i s name old new whole lt item named done added =
    ap (λ z. z ++ map (Unmatched side role) (names_of c (drop (i + 1) signals))) added
    ∙ append_assoc old (Unmatched side role name ∷ []) (map (Unmatched side role) (names_of c (drop (i + 1) signals)))
    ∙ ap (λ z. old ++ z) (ap (λ n. Unmatched side role n ∷ map (Unmatched side role) (names_of c (drop (i + 1) signals))) (sym (there c.names s name [] named))
    ∙ sym (ap (λ ss. map (Unmatched side role) (names_of c ss)) (drop_more signals i s lt ∙ ap (λ z. z ∷ drop (i + 1) signals) (sym item))))
    ∙ done
