-- If no node has the two answers of a record as children, no reference denotes the record's function.
use Rattle.std.proofs.Common.{List, Bool, true, false, ◌≡◌, ◌≢◌, ℕ, ◌+◌, ◌<◌, ◌++◌, length, sym, ◌∙◌, ap, subst, arith}
use Rattle.std.specs.Prelude.{min, Result, Ok, Err, OnErr, IfErr}
use Rattle.dd_store.specs.declared.reference.Ref.{Ref}
use Rattle.dd_store.specs.declared.StoreFault.{StoreFault}
use Rattle.dd_store.specs.declared.StoreFault.TheVariants.{Full, OutOfMemory}
use Rattle.dd_store.specs.Functions.{Agree, DependsOn}
use Rattle.dd_store.specs.Parts.{top_of}
use Rattle.dd_store.specs.Nodes.{Nodes, den, IsSound}
use Rattle.dd_store.specs.View.{part, Has, top, IsAbsent, IsFull}
use Rattle.dd_store.proofs.View.{parts, denotes, same_ref, top-part}
use Rattle.dd_store.proofs.Lacking.{no_diagram, depends}
use Rattle.req_table.specs.declared.Key.{Key}
use Rattle.req_table.specs.Keys.{meaning}
use Rattle.req_table.specs.TerminalCase.{op_value}
use Rattle.req_table.proofs.Waved.{unread}
use Rattle.reduce_up.specs.Reducing.{IsKeyAt, IsAnswerAt, IsRecordFault}

-- a key's function does not read the bits before its level
blind : (s : Nodes) (S : IsSound s) (v : ℕ) (k : Key) → IsKeyAt s v k → (p q x : List Bool) → length p ≡ v → length q ≡ v → v + length x ≡ s.levels → meaning s k (p ++ x) ≡ meaning s k (q ++ x)
blind s S v k key p q x hp hq hx =
    let m : min (top s k.f) (top s k.g) ≡ v = key.level in
    ap (λ z. op_value k.op z (den s k.g (p ++ x))) (unread s S v k.f key.first (omega arith) p q x hp hq hx)
    ∙ ap (λ z. op_value k.op (den s k.f (q ++ x)) z) (unread s S v k.g key.second (omega arith) p q x hp hq hx)

below : (s : Nodes) (v : ℕ) (r : Ref) → Has s r → v < top s r → v < top_of s.levels (part s r)
below s v r h lt = subst (λ z. v < z) (top-part s s.levels r h) lt

pub missing : (s : Nodes) (v : ℕ) (k : Key) (lo hi : Ref) → IsSound s → IsKeyAt s v k → IsAnswerAt s v k false lo → IsAnswerAt s v k true hi → lo ≢ hi → IsAbsent s v lo hi →
    (r : Ref) → Has s r → Agree s.levels (den s r) (meaning s k) → ⊥
missing s v k lo hi S key zero_side one_side differ absent r h a =
    no_diagram Ref same_ref s.levels (part s) (Has s) (den s) (parts s S) (denotes s S) v key.bounded lo hi zero_side.has one_side.has
    (below s v lo zero_side.has zero_side.below) (below s v hi one_side.has one_side.below) differ absent (meaning s k) (blind s S v k key) zero_side.denotes one_side.denotes r h a

-- the function depends on the bit of its level
pub missing_depends : (s : Nodes) (v : ℕ) (k : Key) (lo hi : Ref) → IsSound s → IsKeyAt s v k → IsAnswerAt s v k false lo → IsAnswerAt s v k true hi → lo ≢ hi →
    DependsOn s.levels v (meaning s k)
missing_depends s v k lo hi S key zero_side one_side differ =
    depends Ref same_ref s.levels (part s) (Has s) (den s) (parts s S) (denotes s S) v key.bounded lo hi zero_side.has one_side.has
    (below s v lo zero_side.has zero_side.below) (below s v hi one_side.has one_side.below) differ (meaning s k) zero_side.denotes one_side.denotes

-- the cause of a record's fault
pub record_fault : (old new : Nodes) (v : ℕ) (k : Key) (lo hi : Ref) (result : Result Ref StoreFault) → IsSound old → IsKeyAt old v k → IsAnswerAt old v k false lo → IsAnswerAt old v k true hi →
    OnErr result (new ≡ old) → IfErr result (λ e. IsFull old v lo hi e) → IfErr result (λ e. IsRecordFault new v k e)
record_fault old new v k lo hi (Ok r) S key z o e f = f
record_fault old new v k lo hi (Err OutOfMemory) S key z o e f = f
record_fault old new v k lo hi (Err Full) S key z o e f =
    subst (λ s. IsRecordFault s v k Full) (sym e) (f.0, (missing_depends old v k lo hi S key z o f.1, missing old v k lo hi S key z o f.1 f.2))
