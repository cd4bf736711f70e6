-- Flags of pairs that are equal inside.
use Rattle.std.proofs.Common.{◌≡◌, ◌<◌, ◌||◌, ◌∙◌, ℕ, refl, sym, arith, false, true, Bool, suc, List, [], ◌∷◌, All, length, slice_index_or}
use Rattle.std.specs.Prelude.{IsTrue}
use Rattle.std.specs.List.{AllZip}
use Rattle.net_bench.specs.Circuit.{circuit}
use Rattle.net_order.specs.Order.{NamingModel}
use Rattle.compare_built.specs.declared.subject.Subject.{Subject}
use Rattle.compare_built.specs.declared.task.Task.{Task}
use Rattle.pair_facts.specs.declared.facts.PairFacts.{PairFacts}
use Rattle.cone_check.specs.ConeRounds.{IsEqualIf}
use Rattle.check_report.specs.Pairs.{AreEqualIf}

-- no pair has a flag that is true
pub no_flags : {H : Type 0} (task : Task H) (p : NamingModel) (facts : PairFacts) (equal : List Bool) → length equal ≡ length facts.subjects.items → All (λ flag. flag ≡ false) equal → AreEqualIf task p facts equal
no_flags task p facts equal long none = by facts.subjects.items equal long none
  where
    by : (ss : List Subject) (es : List Bool) → length es ≡ length ss → All (λ flag. flag ≡ false) es → AllZip (IsEqualIf (circuit task.first.now) (circuit task.second.now) p) ss es
    by [] [] long none = tt
    by [] (e ∷ es) long none = absurd (omega (arith, long))
    by (s ∷ ss) [] long none = absurd (omega (arith, long))
    by (s ∷ ss) (e ∷ es) long none = (
      λ is. absurd (let never : false ≡ true = sym (none 0 e (omega arith)) ∙ is in cc),
      by ss es (omega (arith, long)) (λ i d lt. none (suc i) d (omega (arith, lt))),
    )

-- one of two flags is true
pick : {X : Type 0} (a b e : Bool) → e ≡ (a || b) → e ≡ true → (a ≡ true → X) → (b ≡ true → X) → X
pick true b e same is f g = f refl
pick false b e same is f g = g (sym same ∙ is)

-- what holds of each place at which a flag of one list or of the other is set
pub either_flags : {S : Type 0} (P : S → Type 0) (ss : List S) (xs ys zs : List Bool) → AllZip (λ s b. IsTrue b → P s) ss xs → AllZip (λ s b. IsTrue b → P s) ss ys
    → length zs ≡ length xs → ((i : ℕ) → i < length xs → slice_index_or zs i false ≡ (slice_index_or xs i false || slice_index_or ys i false)) → AllZip (λ s b. IsTrue b → P s) ss zs
either_flags P [] [] [] [] ones others long each = tt
either_flags P [] [] (y ∷ ys) zs ones others long each = elim others [ ]
either_flags P [] (x ∷ xs) ys zs ones others long each = elim ones [ ]
either_flags P (s ∷ ss) [] ys zs ones others long each = elim ones [ ]
either_flags P (s ∷ ss) (x ∷ xs) [] zs ones others long each = elim others [ ]
either_flags P [] [] [] (z ∷ zs) ones others long each = absurd (omega (arith, long))
either_flags P (s ∷ ss) (x ∷ xs) (y ∷ ys) [] ones others long each = absurd (omega (arith, long))
either_flags P (s ∷ ss) (x ∷ xs) (y ∷ ys) (z ∷ zs) ones others long each = (
  λ is. pick x y z (each 0 (omega arith)) is ones.0 others.0,
  either_flags P ss xs ys zs ones.1 others.1 (omega (arith, long)) (λ i lt. each (suc i) (omega (arith, lt))),
)
