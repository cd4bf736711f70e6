use Rattle.std.proofs.Common.{◌≡◌, ◌∙◌, ap, subst, AllPairs}
use Rattle.std.specs.Map.{lookup, keys_of}
use Rattle.std.proofs.lemmas.Map.Made.{AllPairs-from_IsDistinct}
use Rattle.req_table.specs.contracts.KeyPartialEq.TheImpl.{eq-value}
use Rattle.req_table.proofs.Keyed.{key_decides}
use Rattle.req_table.proofs.ComputedTables.{found_in}
use Rattle.req_table.proofs.computed_table.ComputedTable.peek.Goals as goal

pub returns-clause-pair : goal.returns-clause-pair
returns-clause-pair c = found_in c.args.self.now.pairs c.args.key.now c.copied.result (c.copied.ensures ∙ c.peek.ensures ∙ ap (λ m. lookup (eq-value.it c.args.key.now) m.pairs) c.self.view_is)

pub returns-clause-once : goal.returns-clause-once
returns-clause-once c = subst (λ m. AllPairs (λ a b. a ≡ b → ⊥) (keys_of m.pairs)) c.self.view_is (AllPairs-from_IsDistinct key_decides (keys_of c.self.inside.cache.entries) c.len.ensures.valid.0)
