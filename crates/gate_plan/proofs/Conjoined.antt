-- The answers of a wave of conjunctions.
use Rattle.std.proofs.Common.{◌≡◌, ◌∙◌, refl, ap, sym, Bool, ℕ, ◌+◌, ◌<◌, List, [], ◌∷◌, ◌++◌, length, get_or, drop, append_assoc, All, subst, Option, None, Some}
use Rattle.std.specs.Prelude.{Contains}
use Rattle.std.specs.Map.{lookup}
use Rattle.std.specs.Option.{option_map}
use Rattle.std.proofs.lemmas.List.{drop_more}
use Rattle.dd_store.specs.declared.reference.Ref.{Ref}
use Rattle.dd_store.specs.Complements.{complement_by}
use Rattle.dd_store.specs.Nodes.{Nodes}
use Rattle.dd_store.specs.View.{Has}
use Rattle.req_table.specs.declared.Op.TheVariants.{And}
use Rattle.req_table.specs.declared.Key.{Key}
use Rattle.req_table.specs.Keys.{normal_of, wave_of}
use Rattle.req_table.specs.ComputedTables.{ComputedView, or_computed}
use Rattle.req_table.specs.Reached.{IsReached, root, child}
use Rattle.req_table.specs.TerminalCase.{terminal_of}
use Rattle.req_table.specs.Wave.{Wave}
use Rattle.req_table.specs.contracts.KeyPartialEq.TheImpl.{eq-value}
use Rattle.wave_engine.specs.CacheProbe.{known_entry, unless_known, unknown}
use Rattle.reduce_up.specs.Waves.{Entry, IsEntry, AnswersEach, request_of, requests_of}
use Rattle.wave_engine.proofs.Probing.{unknown_is}
use Rattle.reduce_up.proofs.Rooted.{of_entry, to_request}
use Rattle.wave_engine.specs.Bounds.{AreAtMost, ArePast}
use Rattle.gate_plan.specs.Conjoining.{conjunctions, AreConjoined}
use Rattle.gate_plan.proofs.Picking.{all_of}
use Rattle.gate_plan.proofs.Together.{of_map}

pub conjunction_next : (refs : List Ref) (given : Ref) (i : ℕ) (r : Ref) (old new whole : List Entry) → i < length refs → get_or refs i r ≡ r → new ≡ old ++ (And, r, given) ∷ [] →
    old ++ conjunctions (drop i refs) given ≡ whole → new ++ conjunctions (drop (i + 1) refs) given ≡ whole
conjunction_next refs given i r old new whole lt here grown done =
    ap (λ z. z ++ conjunctions (drop (i + 1) refs) given) grown ∙ append_assoc old ((And, r, given) ∷ []) (conjunctions (drop (i + 1) refs) given)
    ∙ ap (λ z. old ++ z) (sym (ap (λ rs. conjunctions rs given) (drop_more refs i r lt ∙ ap (λ z. z ∷ drop (i + 1) refs) here))) ∙ done

pub conjoined : (S T : Nodes) (given : Ref) (refs answers : List Ref) → AnswersEach S (conjunctions refs given) T answers → AreConjoined S refs given T answers
conjoined S T given [] [] h = tt
conjoined S T given [] (a ∷ answers) h = h
conjoined S T given (r ∷ refs) [] h = h
conjoined S T given (r ∷ refs) (a ∷ answers) h = (h.0, conjoined S T given refs answers h.1)

of_place : (S : Nodes) (refs : List Ref) → All (Has S) refs → (r : Ref) → Contains refs r → Has S r
of_place S refs h r (k, lt, at) = rw at at (h k r lt)

pub entries_known : (S : Nodes) (refs : List Ref) (given : Ref) (entries : List Entry) → All (Has S) refs → Has S given → entries ≡ conjunctions refs given → All (IsEntry S) entries
entries_known S refs given entries h g e =
    all_of (IsEntry S) entries
    (λ x among. by x (of_map (λ r. (And, r, given)) refs x (rw e at among)))
  where
    by : (x : Entry) → (r : Ref) × Contains refs r × ((And, r, given) ≡ x) → IsEntry S x
    by x m = rw (← m.2) (of_place S refs h m.0 m.1, g)

-- the requests of the unknown entries are requests of all entries
unknown_requests : (m : ComputedView) (es : List Entry) (k : Key) → Contains (requests_of (unknown m es)) k → Contains (requests_of es) k
unknown_requests m es k c =
    let e = of_entry (unknown m es) k c in
    subst (Contains (requests_of es)) (sym e.3) (to_request es e.0 (unknown_is m es e.0 e.1).0 e.2)

reached_more : (w : Wave) (few all : List Key) → ((k : Key) → Contains few k → Contains all k) → (k : Key) → IsReached w few k → IsReached w all k
reached_more w few all more k (root c) = root (more k c)
reached_more w few all more k (child b l m r asks) = child b l m (reached_more w few all more _ r) asks

-- if the unknown entries reach more requests than the bound, all entries do
pub past_all : (o : Option ℕ) (S : Nodes) (m : ComputedView) (es : List Entry) → ArePast o S (unknown m es) → ArePast o S es
past_all None S m es past = past
past_all (Some n) S m es past = record {
  requests = past.requests;
  once = past.once;
  reached = λ k c. reached_more (wave_of S 1) (requests_of (unknown m es)) (requests_of es) (unknown_requests m es) k (past.reached k c);
  more = past.more;
}

-- if nothing is held, the unknown entries have all requests
requests_unknown : (m : ComputedView) (es : List Entry) → m.pairs ≡ [] → requests_of (unknown m es) ≡ requests_of es
requests_unknown m [] empty = refl
requests_unknown m (e ∷ es) empty = by (requests_unknown m es empty) (terminal_of e.0 e.1 e.2) refl
  where
    n : Key × Bool
    n = normal_of e.0 e.1 e.2

    by : requests_of (unknown m es) ≡ requests_of es → (o : Option Ref) → terminal_of e.0 e.1 e.2 ≡ o → requests_of (unless_known (known_entry m e) e ++ unknown m es) ≡ request_of (terminal_of e.0 e.1 e.2) e ++ requests_of es
    by rest None h =
        let none : known_entry m e ≡ None = ap (or_computed m n) h ∙ ap (λ pairs. option_map (complement_by n.1) (lookup (eq-value.it n.0) pairs)) empty in
        ap (λ o. requests_of (unless_known o e ++ unknown m es)) none ∙ ap (λ ks. request_of (terminal_of e.0 e.1 e.2) e ++ ks) rest
    by rest (Some r) h =
        let some : known_entry m e ≡ Some r = ap (or_computed m n) h in
        ap (λ o. requests_of (unless_known o e ++ unknown m es)) some ∙ rest ∙ sym (ap (λ o. request_of o e ++ requests_of es) h)

-- if nothing is held, and at most n requests are reached from the unknown entries, at most n are from all
pub at_most_all : (n : ℕ) (S : Nodes) (m : ComputedView) (es : List Entry) → m.pairs ≡ [] → AreAtMost n S (unknown m es) → AreAtMost n S es
at_most_all n S m es empty few requests once reached = few requests once (λ k c. subst (λ ks. IsReached (wave_of S 1) ks k) (sym (requests_unknown m es empty)) (reached k c))
