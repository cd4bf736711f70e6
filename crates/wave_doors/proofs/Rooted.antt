-- The requests of a list of entries.
use Rattle.std.proofs.Common.{◌≡◌, ℕ, ◌+◌, ◌<◌, Bool, true, false, not, List, [], ◌∷◌, ◌++◌, length, take, get_or, Option, Some, None, refl, sym, ◌∙◌, ap, append_assoc, true≢false, is_some}
use Rattle.std.proofs.lemmas.List.{append-nil}
use Rattle.dd_store.specs.declared.reference.Ref.{Ref}
use Rattle.req_table.specs.declared.Key.{Key}
use Rattle.req_table.specs.TerminalCase.{terminal_of}
use Rattle.req_table.specs.Keys.{normal_of}
use Rattle.reduce_up.specs.Waves.{Entry, request_of, requests_of}
use Rattle.reduce_up.proofs.Rooted.{item_next}

-- one more entry
requests_on : (es : List Entry) (e : Entry) → requests_of (es ++ e ∷ []) ≡ requests_of es ++ request_of (terminal_of e.0 e.1 e.2) e
requests_on [] e = append-nil (request_of (terminal_of e.0 e.1 e.2) e)
requests_on (d ∷ es) e =
    ap (λ z. request_of (terminal_of d.0 d.1 d.2) d ++ z) (requests_on es e) ∙ sym (append_assoc (request_of (terminal_of d.0 d.1 d.2) d) (requests_of es) (request_of (terminal_of e.0 e.1 e.2) e))

-- the request of one more entry, if it has one
pub request_none : (o : Option Ref) (b : Bool) (e : Entry) → is_some o ≡ not b → b ≡ true → request_of o e ≡ (normal_of e.0 e.1 e.2).0 ∷ []
request_none None b e s t = refl
request_none (Some r) b e s t = absurd (true≢false (s ∙ ap not t))

pub request_some : (o : Option Ref) (b : Bool) (e : Entry) → is_some o ≡ not b → b ≡ false → request_of o e ≡ []
request_some None b e s t = absurd (true≢false (sym (s ∙ ap not t)))
request_some (Some r) b e s t = refl

pub requests_next : (es : List Entry) (i : ℕ) (e : Entry) (before new after : List Key) → i < length es → e ≡ get_or es i e → before ≡ requests_of (take i es) →
    request_of (terminal_of e.0 e.1 e.2) e ≡ new → after ≡ before ++ new → after ≡ requests_of (take (i + 1) es)
requests_next es i e before new after lt is b n a =
    a ∙ ap (λ z. z ++ new) b ∙ ap (λ z. requests_of (take i es) ++ z) (sym n) ∙ sym (ap requests_of (item_next es i e lt is) ∙ requests_on (take i es) e)
