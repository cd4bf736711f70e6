-- The requests of a list of entries.
use Rattle.std.proofs.Common.{◌≡◌, ℕ, zero, suc, arith, ◌+◌, ◌<◌, inl, inr, Bool, List, [], ◌∷◌, ◌++◌, length, take, get_or, Option, Some, None, refl, sym, ◌∙◌, ap, subst, Contains, All}
use Rattle.std.proofs.lemmas.List.{take_more, get_or_default}
use Rattle.std.proofs.lemmas.List.Elements.{Contains-append_left, Contains-append_right, Contains-append_cases, All-contains}
use Rattle.dd_store.specs.declared.reference.Ref.{Ref}
use Rattle.dd_store.specs.Nodes.{Nodes, IsDiagram, den}
use Rattle.dd_store.specs.View.{Has}
use Rattle.dd_store.specs.Complements.{complemented}
use Rattle.dd_store.proofs.View.{has-negate}
use Rattle.req_table.specs.declared.Key.{Key}
use Rattle.req_table.specs.TerminalCase.{terminal_of}
use Rattle.req_table.specs.Keys.{normal_of, IsKey, meaning}
use Rattle.req_table.proofs.Means.{Answers, terminal_means}
use Rattle.req_table.proofs.TerminalCases.{OnAnswer, terminal_is}
use Rattle.req_table.proofs.Waved.{is_key, is_value, meaning_normal}
use Rattle.reduce_up.specs.Waves.{Entry, entry_value, entry_for, entries_for, IsEntry, request_of, requests_of}
use Rattle.reduce_up.proofs.Noting.{nothing, head_in, tail_in, in_cases}

-- a request is that of an entry
pub of_entry : (es : List Entry) (k : Key) → Contains (requests_of es) k → (e : Entry) × Contains es e × (terminal_of e.0 e.1 e.2 ≡ None) × (k ≡ (normal_of e.0 e.1 e.2).0)
of_entry [] k c = absurd (nothing k c)
of_entry (e ∷ es) k c =
    elim (Contains-append_cases (request_of (terminal_of e.0 e.1 e.2) e) (requests_of es) k c) [
      | inl h ↦ let m = own (terminal_of e.0 e.1 e.2) refl h in (e, head_in {X = Entry} e es, m.0, m.1)
      | inr h ↦ let m = of_entry es k h in (m.0, tail_in {X = Entry} e m.0 es m.1, m.2, m.3)
    ]
  where
    own : (o : Option Ref) → terminal_of e.0 e.1 e.2 ≡ o → Contains (request_of o e) k → (terminal_of e.0 e.1 e.2 ≡ None) × (k ≡ (normal_of e.0 e.1 e.2).0)
    own None h d = (h, elim (in_cases (normal_of e.0 e.1 e.2).0 k [] d) [ inl same ↦ sym same | inr i ↦ absurd (nothing k i) ])
    own (Some r) h d = absurd (nothing k d)

-- an entry that has no terminal case has its request
pub to_request : (es : List Entry) (e : Entry) → Contains es e → terminal_of e.0 e.1 e.2 ≡ None → Contains (requests_of es) (normal_of e.0 e.1 e.2).0
to_request [] e c long = absurd (nothing {X = Entry} e c)
to_request (d ∷ es) e c long =
    elim (in_cases {X = Entry} d e es c) [
      | inl same ↦
          let own : Contains (request_of (terminal_of e.0 e.1 e.2) e) (normal_of e.0 e.1 e.2).0 = subst (λ o. Contains (request_of o e) (normal_of e.0 e.1 e.2).0) (sym long) (head_in (normal_of e.0 e.1 e.2).0 []) in
          Contains-append_left (request_of (terminal_of d.0 d.1 d.2) d) (requests_of es) (normal_of e.0 e.1 e.2).0
          (subst (λ (z : Entry). Contains (request_of (terminal_of z.0 z.1 z.2) z) (normal_of e.0 e.1 e.2).0) (sym same) own)
      | inr i ↦ Contains-append_right (request_of (terminal_of d.0 d.1 d.2) d) (requests_of es) (normal_of e.0 e.1 e.2).0 (to_request es e i long)
    ]

-- what holds of each element of a list
pub all_of : {X : Type 0} (P : X → Type 0) (xs : List X) → ((x : X) → Contains xs x → P x) → All P xs
all_of P xs h k d lt = h (get_or xs k d) (k, lt, get_or_default xs k (get_or xs k d) d lt)

-- the requests of entries of a store are keys of it
pub requests_good : (S : Nodes) (es : List Entry) → All (IsEntry S) es → All (IsKey S) (requests_of es)
requests_good S es h =
    all_of (IsKey S) (requests_of es)
    (λ k c.
    let e = of_entry es k c in
    let i : IsEntry S e.0 = All-contains (IsEntry S) es e.0 h e.1 in
    subst (IsKey S) (sym e.3) (is_key S e.0.0 e.0.1 e.0.2 i.0 i.1 e.2))

-- the normal key has the function of the entry, complemented if the entry is its complement
pub normal_means : (S : Nodes) (e : Entry) (x : List Bool) → complemented (normal_of e.0 e.1 e.2).1 (meaning S (normal_of e.0 e.1 e.2).0 x) ≡ entry_value S e x
normal_means S e x = meaning_normal S e.0 e.1 e.2 x

-- a terminal case is the entry's diagram
pub terminal_diagram : (S : Nodes) (e : Entry) → IsEntry S e → (r : Ref) → terminal_of e.0 e.1 e.2 ≡ Some r → IsDiagram S r (entry_value S e)
terminal_diagram S e i r h = (
  subst (OnAnswer (Has S)) h (terminal_is (Has S) (has-negate S) e.0 e.1 e.2 tt i.0 i.1),
  λ x hx. subst (λ o. Answers (λ r. den S r x) o (entry_value S e x)) h (terminal_means (λ r. den S r x) (is_value S x) e.0 e.1 e.2),
)

-- an element that a loop reads is one of the list
pub item_at : {X : Type 0} (xs : List X) (i : ℕ) (x : X) → i < length xs → x ≡ get_or xs i x → Contains xs x
item_at xs i x lt is = (i, lt, sym is)

-- the elements that were read, and one more
pub item_next : {X : Type 0} (xs : List X) (i : ℕ) (x : X) → i < length xs → x ≡ get_or xs i x → take (i + 1) xs ≡ take i xs ++ x ∷ []
item_next xs i x lt is = take_more xs i x lt ∙ ap (λ z. take i xs ++ z ∷ []) (sym is)

-- ---- requests as entries
pub entries_good : (S : Nodes) (ks : List Key) → All (IsKey S) ks → All (IsEntry S) (entries_for ks)
entries_good S [] good i d l = absurd (omega (arith, l))
entries_good S (k ∷ ks) good zero d l = let own = good 0 k (omega arith) in (own.first, own.second)
entries_good S (k ∷ ks) good (suc i) d l = entries_good S ks (λ j e m. good (suc j) e (omega (arith, m))) i d (omega (arith, l))

-- the request of a request's entry is this request
pub requests_again : (S : Nodes) (ks : List Key) → All (IsKey S) ks → requests_of (entries_for ks) ≡ ks
requests_again S [] good = refl
requests_again S (k ∷ ks) good =
    let own = good 0 k (omega arith) in
    ap (λ o. request_of o (entry_for k) ++ requests_of (entries_for ks)) own.long
    ∙ ap (λ (z : Key × Bool). z.0 ∷ requests_of (entries_for ks)) own.ordered
    ∙ ap (λ z. k ∷ z) (requests_again S ks (λ j e m. good (suc j) e (omega (arith, m))))
