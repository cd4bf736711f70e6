-- What requests come to if a held answer counts as known.
use Rattle.std.proofs.Common.{◌≡◌, Bool, List, length, Option, Some, None, refl, ◌∙◌, ap, IfSome}
use Rattle.dd_store.specs.declared.reference.Ref.{Ref}
use Rattle.req_table.specs.declared.Key.{Key}
use Rattle.req_table.specs.ComputedTables.{ComputedView, IsRight, IsValueOf, or_computed, terminal_or_computed_of}
use Rattle.wave_doors.specs.ComputedTables.{child_with_computed, child_with_computed_of, IsCofactorChildOf}
use Rattle.req_table.specs.declared.Op.{Op}
use Rattle.req_table.specs.declared.Child.{Child}
use Rattle.req_table.specs.TerminalCase.{terminal_of, op_value}
use Rattle.req_table.specs.Keys.{normal_of, answer_of, child_value, level_of, IsKey, IsChildIn}
use Rattle.req_table.proofs.Waved.{meaning_normal, is_key, first_of, second_of, cofactors}
use Rattle.dd_store.specs.Nodes.{Nodes, IsSound, den, cofactor_of}
use Rattle.dd_store.specs.View.{Has}
use Rattle.req_table.proofs.ComputedTables.{known_value}

module _ (S : Nodes) (m : ComputedView) (right : IsRight S m) (op : Op) (f g : Ref) (hf : Has S f) (hg : Has S g) where
  child_value_known : (t : Option Ref) → IfSome t (IsValueOf S op f g) → (x : List Bool) → length x ≡ S.levels → child_value S (answer_of S op f g t) x ≡ op_value op (den S f x) (den S g x)
  child_value_known None a x hx = meaning_normal S op f g x
  child_value_known (Some r) a x hx = a.1 x hx

  -- what an operation comes to has its value at each assignment
  pub child_known_value : (x : List Bool) → length x ≡ S.levels → child_value S (child_with_computed S m op f g) x ≡ op_value op (den S f x) (den S g x)
  child_known_value = child_value_known (terminal_or_computed_of m op f g) (known_value S m right op f g hf hg (terminal_of op f g) refl)

  child_in_known : (t u : Option Ref) → terminal_of op f g ≡ t → u ≡ or_computed m (normal_of op f g) t → IfSome u (IsValueOf S op f g) → IsChildIn S (answer_of S op f g u)
  child_in_known t (Some r) e h a = a.0
  child_in_known None None e h a = (is_key S op f g hf hg e, refl)
  child_in_known (Some r) None e h a = absurd (cc)

  -- what an operation comes to is of the store
  pub child_known_in : IsChildIn S (child_with_computed S m op f g)
  child_known_in = child_in_known (terminal_of op f g) (terminal_or_computed_of m op f g) refl refl (known_value S m right op f g hf hg (terminal_of op f g) refl)

-- the operation on the cofactors, with held answers, is the key's child
pub computed_cofactors : (S : Nodes) (m : ComputedView) (k : Key) (b : Bool) {op : Op} {low high : Ref} {c : Child} → op ≡ k.op → low ≡ cofactor_of S k.f (level_of S k) b → high ≡ cofactor_of S k.g (level_of S k) b → c ≡ child_with_computed S m op low high → c ≡ child_with_computed_of S m k b
computed_cofactors S m k b {op} {low} {high} {c} eo el eh e =
    e ∙ ap (λ o. child_with_computed S m o low high) eo ∙ ap (λ r. child_with_computed S m k.op r high) el ∙ ap (λ r. child_with_computed S m k.op (cofactor_of S k.f (level_of S k) b) r) eh

-- a child of a key has the function of its cofactor
pub computed_cofactor_child : (S : Nodes) → IsSound S → (m : ComputedView) → IsRight S m → (k : Key) → IsKey S k → (b : Bool) (c : Child) → c ≡ child_with_computed_of S m k b → IsCofactorChildOf S k b c
computed_cofactor_child S w m right k i b c e x hx at =
    ap (λ z. child_value S z x) e
    ∙ child_known_value S m right k.op (cofactor_of S k.f (level_of S k) b) (cofactor_of S k.g (level_of S k) b) (first_of S w k i b).0 (second_of S w k i b).0 x hx
    ∙ cofactors S w k i b x at
