use Rattle.std.proofs.Common.{List, [], ◌≡◌, Bool, true, false, All, sym, subst}
use Rattle.std.proofs.lemmas.List.Elements.{All-nil, All-cons}
use Rattle.req_table.specs.declared.Key.{Key}
use Rattle.req_table.specs.Keys.{IsKey}
use Rattle.req_table.specs.Tables.{AdmitsKey}
use Rattle.reduce_up.proofs.Noting.{nothing}
use Rattle.wave_tests.proofs.children.expand_single.Goals as goal

-- What holds of a key holds of all keys of an empty table that it was added to.
one_key : (P : Key → Type 0) (old : List Key) (k : Key) (fresh : Bool) (new : List Key) → old ≡ [] → P k → AdmitsKey old k fresh new → All P new
one_key P old k fresh new e p o = offered fresh (subst (λ (z : List Key). AdmitsKey z k fresh new) e o)
  where
    offered : (b : Bool) → AdmitsKey [] k b new → All P new
    offered true h = subst (λ (z : List Key). All P z) (sym h.1) (All-cons P k [] p (All-nil P))
    offered false h = absurd (nothing k h.0)

pub expand_row-requires-clause-keys : goal.expand_row-requires-clause-keys
expand_row-requires-clause-keys c =
    one_key (IsKey c.args.store.now) c.new-keys.result c.args.root c.in_ok-admit.field-0.1 c.admit.new.self c.new-keys.ensures c.requires c.in_ok-admit.ensures.admits_key
