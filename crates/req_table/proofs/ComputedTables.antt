-- What a cache holds after a pair was put, and when a computed table is right for a store.
use Rattle.std.proofs.Common.{◌≡◌, ◌-◌, ℕ, Bool, List, ◌∷◌, inl, inr, Option, Some, None, Contains, take, refl, sym, ◌∙◌, ap, subst, IfSome, OnOk, OnErr, Result, Ok, Err, IsSome, IsOk, true≢false}
use Rattle.std.specs.Option.{option_map, option_map_or}
use Rattle.std.specs.Map.{lookup, lookup_entry, remove_entry}
use Rattle.std.proofs.lemmas.Map.Views.{Contains-from_lookup}
use Rattle.lru.specs.LruCache.{LruCache, lru_cache, put_entries}
use Rattle.lru.proofs.CallerLemmas.{Contains-lookup_entry}
use Rattle.lru.proofs.Pairs.{lookup-lookup_entry}
use Rattle.dd_store.specs.declared.reference.Ref.{Ref}
use Rattle.req_table.specs.declared.Key.{Key}
use Rattle.req_table.specs.contracts.KeyPartialEq.TheImpl.{eq-value}
use Rattle.req_table.specs.Equal.{key_same}
use Rattle.req_table.specs.ComputedTables.{ComputedView, computed_answer, rest, with_first, KeepsAnswer, IsAnswerOf, IsRight, IsValueOf, or_computed, terminal_or_computed_of}
use Rattle.req_table.specs.declared.Op.{Op}
use Rattle.req_table.specs.TerminalCase.{form_of, in_order, terminal_at, terminal_of, op_value}
use Rattle.req_table.specs.Keys.{normal_of, Denotes}
use Rattle.req_table.proofs.TerminalCases.{OnAnswer, of_complement, of_form, terminal_is}
use Rattle.req_table.proofs.Waved.{meaning_normal, terminal_denotes}
use Rattle.dd_store.specs.Nodes.{Nodes, IsSound, den, cofactor_of}
use Rattle.dd_store.specs.View.{Has}
use Rattle.dd_store.specs.View.{Keeps as KeepsNodes}
use Rattle.dd_store.specs.Complements.{complement_by, complemented}
use Rattle.dd_store.proofs.Complements.{den-complement_by}
use Rattle.dd_store.proofs.View.{kept_den, has-negate}
use Rattle.lru.proofs.Splits.{Contains-cons}
use Rattle.lru.proofs.CallerLemmas.{Contains-take, Contains-remove_entry}

-- a cache's pairs and capacity
abbrev pub of_cache : LruCache Key Ref → ComputedView
of_cache c = record { pairs = c.entries; capacity = c.cap }

-- what a cache holds after `put`
put_is : (c : LruCache Key Ref) (k : Key) (r : Ref) → put_entries eq-value.it c k r ≡ (k, r) ∷ rest (of_cache c) k (computed_answer (of_cache c) k)
put_is c k r = by (lookup_entry (eq-value.it k) c.entries) refl ∙ ap (λ o. (k, r) ∷ rest (of_cache c) k o) (lookup-lookup_entry (eq-value.it k) c.entries)
  where
    by : (o : Option (Key × Ref)) → lookup_entry (eq-value.it k) c.entries ≡ o
        → option_map_or (λ e. (e.0, r) ∷ remove_entry (eq-value.it k) c.entries) o ((k, r) ∷ take (c.cap - 1) c.entries) ≡ (k, r) ∷ rest (of_cache c) k (option_map (λ (e : Key × Ref). e.1) o)
    by None h = refl
    by (Some e) h = ap (λ z. (z, r) ∷ remove_entry (eq-value.it k) c.entries) (sym (key_same k e.0 (Contains-lookup_entry (eq-value.it k) c.entries e h).1))

-- a pair that was put is kept
pub put_keeps : {E : Type 0} (old : ComputedView) (c new : LruCache Key Ref) (k : Key) (r : Ref) (answer : Result (Option Ref) E) → of_cache c ≡ old
    → OnOk answer (new ≡ lru_cache (put_entries eq-value.it c k r) c.cap) → OnErr answer (new ≡ c) → (IsSome (lookup (eq-value.it k) c.entries) → IsOk answer) → KeepsAnswer old k r (of_cache new)
put_keeps old c new k r (Ok v) was put same held_ok = inl (ap of_cache put ∙ ap (λ es. record { pairs = es; capacity = c.cap }) (put_is c k r) ∙ ap (λ m. with_first m k r) was)
put_keeps old c new k r (Err e) was put same held_ok = inr (ap (λ m. computed_answer m k) (sym was) ∙ by (lookup (eq-value.it k) c.entries) refl, ap of_cache same ∙ was)
  where
    by : (o : Option Ref) → lookup (eq-value.it k) c.entries ≡ o → lookup (eq-value.it k) c.entries ≡ None
    by None h = h
    by (Some v) h = absurd (true≢false (sym (held_ok (subst IsSome (sym h) refl))))

-- what is found is held in a pair
pub found_in : (pairs : List (Key × Ref)) (k : Key) (o : Option Ref) → o ≡ lookup (eq-value.it k) pairs → IfSome o (λ r. Contains pairs (k, r))
found_in pairs k None e = tt
found_in pairs k (Some r) e = Contains-from_lookup key_same k r pairs (sym e)

-- ---- a computed table that is right for a store
-- a computed table stays right if the store only grows
pub right_kept : (S T : Nodes) → IsSound S → KeepsNodes S T → (m : ComputedView) → IsRight S m → IsRight T m
right_kept S T w keeps m right k r c =
    let a = right k r c in
    record {
      first = keeps.has k.f a.first;
      second = keeps.has k.g a.second;
      diagram = (
        keeps.has r a.diagram.0,
        λ x hx.
            kept_den S T w keeps r a.diagram.0 x ∙ a.diagram.1 x (hx ∙ keeps.levels)
            ∙ ap (λ b. op_value k.op b (den S k.g x)) (sym (kept_den S T w keeps k.f a.first x)) ∙ ap (λ b. op_value k.op (den T k.f x) b) (sym (kept_den S T w keeps k.g a.second x)),
      );
    }

-- a computed table stays right if the answer that is kept is that of its key
pub right_with : (S : Nodes) (old : ComputedView) (k : Key) (r : Ref) (new : ComputedView) → IsRight S old → IsAnswerOf S k r → KeepsAnswer old k r new → IsRight S new
right_with S old k r new right is (inr (none, same)) = subst (IsRight S) (sym same) right
right_with S old k r new right is (inl first) = subst (IsRight S) (sym first) (λ l a c. by l a (computed_answer old k) c)
  where
    in_rest : (o : Option Ref) (p : Key × Ref) → Contains (rest old k o) p → Contains old.pairs p
    in_rest None p c = Contains-take (old.capacity - 1) old.pairs p c
    in_rest (Some v) p c = Contains-remove_entry (eq-value.it k) old.pairs p c

    by : (l : Key) (a : Ref) (o : Option Ref) → Contains {X = Key × Ref} ((k, r) ∷ rest old k o) (l, a) → IsAnswerOf S l a
    by l a o c = elim (Contains-cons {X = Key × Ref} (k, r) (rest old k o) (l, a) c) [
      | inl e ↦ subst (λ (p : Key × Ref). IsAnswerOf S p.0 p.1) e is
      | inr d ↦ right l a (in_rest o (l, a) d)
    ]

module _ (S : Nodes) (m : ComputedView) (right : IsRight S m) (op : Op) (f g : Ref) (hf : Has S f) (hg : Has S g) where
  held_value : (o : Option Ref) → IfSome o (λ r. Contains m.pairs ((normal_of op f g).0, r)) → IfSome (option_map (complement_by (normal_of op f g).1) o) (IsValueOf S op f g)
  held_value None c = tt
  held_value (Some r) c =
      let a = right (normal_of op f g).0 r c in
      let b : Bool = (normal_of op f g).1 in
      (of_complement (Has S) (has-negate S) b r a.diagram.0, λ x hx. den-complement_by S b r x ∙ ap (complemented b) (a.diagram.1 x hx) ∙ meaning_normal S op f g x)

  -- the answer that is known of an operation is its diagram
  pub known_value : (t : Option Ref) → terminal_of op f g ≡ t → IfSome (or_computed m (normal_of op f g) t) (IsValueOf S op f g)
  known_value None e = held_value (computed_answer m (normal_of op f g).0) (found_in m.pairs (normal_of op f g).0 (computed_answer m (normal_of op f g).0) refl)
  known_value (Some r) e =
      (terminal_has (subst (OnAnswer (Has S)) e (terminal_is (Has S) (has-negate S) op f g tt hf hg)), λ x hx. subst (λ t. IfSome t (Denotes S op f g)) e (terminal_denotes op f g (terminal_of op f g) refl S) x)
    where
      terminal_has : OnAnswer (Has S) (Some r) → Has S r
      terminal_has h = h

-- the answer that is held for an operation's form is known of the operation
pub made_computed : (m : ComputedView) (op : Op) (f g : Ref) {n : Key × Bool} {k : Key} {p r : Option Ref} → n ≡ form_of op f g → k ≡ in_order n.0 → p ≡ computed_answer m k → r ≡ option_map (complement_by n.1) p
    → terminal_of op f g ≡ None → r ≡ terminal_or_computed_of m op f g
made_computed m op f g {n} {k} {p} {r} e hk hp hr long =
    hr ∙ ap (option_map (complement_by n.1)) hp ∙ ap (λ z. option_map (complement_by n.1) (computed_answer m z)) hk
    ∙ ap (λ (z : Key × Bool). or_computed m (in_order z.0, z.1) None) e ∙ ap (or_computed m (normal_of op f g)) (sym long)

pub made_terminal : (m : ComputedView) (op : Op) (f g : Ref) {n : Key × Bool} {a r : Ref} → n ≡ form_of op f g → Some a ≡ terminal_at n.0 → r ≡ complement_by n.1 a → Some r ≡ terminal_or_computed_of m op f g
made_terminal m op f g {n} {a} {r} e h hr = ap (λ z. Some z) hr ∙ ap (or_computed m (normal_of op f g)) (of_form op f g {t = Some a} e h)

-- if nothing is known of an operation, it has no terminal case
pub not_known : (m : ComputedView) (k : Key × Bool) (t : Option Ref) → or_computed m k t ≡ None → t ≡ None
not_known m k None e = refl
not_known m k (Some r) e = absurd (cc)

-- a cofactor at equal operands and levels
pub cofactor_at : (S : Nodes) (b : Bool) {f g r : Ref} {u v : ℕ} → f ≡ g → u ≡ v → r ≡ cofactor_of S f u b → r ≡ cofactor_of S g v b
cofactor_at S b {f} {g} {r} {u} {v} e l h = h ∙ ap (λ z. cofactor_of S z u b) e ∙ ap (λ w. cofactor_of S g w b) l
