-- Waves that reach more requests than the monitor allows.
use Rattle.std.proofs.Common.{◌≡◌, ◌∙◌, inl, inr, ap, sym, subst, ℕ, length, List, Option, Some, None}
use Rattle.std.specs.Prelude.{IsSomeAnd}
use Rattle.dd_store.specs.declared.reference.Ref.{Ref}
use Rattle.dd_store.specs.Nodes.{Nodes, IsSound}
use Rattle.net_bench.specs.Circuit.{Circuit}
use Rattle.net_names.specs.declared.order.Match.{Match}
use Rattle.net_names.specs.declared.order.Order.{Order}
use Rattle.net_order.specs.Order.{NamingModel}
use Rattle.wave_engine.specs.Bounds.{AreMoreThan, ArePast}
use Rattle.gate_plan.specs.Asking.{IsPast}
use Rattle.gate_plan.specs.Building.{References, levelled, reference_of}
use Rattle.gate_plan.specs.Conjoining.{conjunctions}
use Rattle.compare_built.specs.Devices.{DeviceTexts}
use Rattle.compare_built.specs.declared.subject.Subject.{Subject}
use Rattle.compare_built.specs.Check.{ArePaired}
use Rattle.compare_built.specs.Comparing.{AreBuilt, references}
use Rattle.compare_built.specs.Conditions.{output_of}
use Rattle.compare_built.specs.Report.{subjects}
use Rattle.compare_built.specs.Widths.{IsWideWhere, IsTooWide, AreTooWide}

-- the wave that restricts the pairs to the condition, by the lists that are its arguments
pub wide_where : (a b c : Circuit) (p : NamingModel) (S : Nodes) (refs : References) → IsSound S → AreBuilt a b (Some c) p S refs → (of : List Subject) → of ≡ subjects a b p → (rs : List Ref) → rs ≡ references refs of →
    (g : Ref) → reference_of refs.given (output_of c) ≡ g → (o : Option ℕ) → ArePast o S (conjunctions rs g) → IsSomeAnd o (λ n. IsWideWhere n a b c p)
wide_where a b c p S refs sound built of all rs er g is None past = absurd past
wide_where a b c p S refs sound built of all rs er g is (Some n) past = record {
  store = S;
  sound = sound;
  built = refs;
  are_built = built;
  more = subst (λ z. AreMoreThan n S (conjunctions z (reference_of refs.given (output_of c)))) (er ∙ ap (references refs) all) (subst (λ z. AreMoreThan n S (conjunctions rs z)) (sym is) past);
}

-- a comparison is too wide if one of its waves is
pub wide_build : (a b : Circuit) (given : Option Circuit) (p : NamingModel) (o : Option ℕ) → IsPast o (length p.names) (levelled a b given p) → IsSomeAnd o (λ n. IsTooWide n a b given p)
wide_build a b given p None past = absurd past
wide_build a b given p (Some n) past = inl past

pub wide_compared : (a b : Circuit) (given : Option Circuit) (p : NamingModel) (o : Option ℕ) → IsSomeAnd o (λ n. IsSomeAnd given (λ c. IsWideWhere n a b c p)) → IsSomeAnd o (λ n. IsTooWide n a b given p)
wide_compared a b given p None past = absurd past
wide_compared a b given p (Some n) past = inr past

-- and so is that of what the devices gave
pub wide_given : (input : DeviceTexts) (how : Match) (order : Order) (a b : Circuit) (given : Option Circuit) (p : NamingModel) → ArePaired input how order a b given p →
    (o : Option ℕ) → IsSomeAnd o (λ n. IsTooWide n a b given p) → IsSomeAnd o (AreTooWide input how order)
wide_given input how order a b given p paired None past = absurd past
wide_given input how order a b given p paired (Some n) past = (a, b, given, p, paired, past)
