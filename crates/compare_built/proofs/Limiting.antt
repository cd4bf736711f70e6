-- What follows for the limit from the store of a build.
use Rattle.std.proofs.Common.{Option, Result, Ok, Err, OnOk, ◌≡◌, ℕ, ◌<◌, ◌≤◌, ◌⊎◌, inl, inr, length, sym, subst, arith, ◌^◌}
use Rattle.dd_store.specs.Nodes.{Nodes, IsSound, count_of, empty_nodes}
use Rattle.dd_store.proofs.Storing.{IsStore-empty}
use Rattle.expand_work.specs.declared.fault.WaveFault.{WaveFault}
use Rattle.expand_work.specs.declared.fault.WaveFault.TheVariants.{Full}
use Rattle.net_bench.specs.Circuit.{Circuit}
use Rattle.net_order.specs.Order.{NamingModel}
use Rattle.gate_plan.specs.Needing.{IsNeededValue, IsLeanFor, IsFullFor, IsBuildFault}
use Rattle.gate_plan.proofs.Counted.{not_complete}
use Rattle.compare_built.specs.Limits.{IsNeededIn, HasAllNeeded, HasAll, IsOver, FitsWithin, Exceeds}
use Rattle.compare_built.proofs.Conditional.{lean_more, complete_less, needed_in}

-- the store with which a build begins has no nodes
pub none_before : (n limit : ℕ) (T : Nodes) → IsSound T → T.levels ≡ n → T.limit ≡ limit → count_of (empty_nodes n limit) ≡ 0
none_before n limit T sound levels same =
    let few : n ≤ 4096 = (let k = sound.few_levels in omega arith) in
    let small : limit < 2 ^ 32 = subst (λ m. m < 2 ^ 32) same sound.small_limit in
    sym (IsStore-empty n limit few small).counted

-- a fact holds also after a call that may fail
pub on_ok : {T E P : Type 0} (r : Result T E) → P → OnOk r P
on_ok (Ok value) h = h
on_ok (Err fault) h = tt

pub fits : (limit : ℕ) (a b : Circuit) (given : Option Circuit) (p : NamingModel) (T : Nodes) → IsSound T → T.levels ≡ length p.names → T.limit ≡ limit → HasAll a b given p T → FitsWithin limit a b given p
fits limit a b given p T sound levels same need = record {
  store = T;
  sound = sound;
  levels = levels;
  lean = need.lean;
  complete = need.complete;
  within = subst (λ m. count_of T ≤ m) same need.within;
}

pub over : (limit : ℕ) (a b : Circuit) (given : Option Circuit) (p : NamingModel) (T : Nodes) → IsSound T → T.levels ≡ length p.names → T.limit ≡ limit → IsOver a b given p T → Exceeds limit a b given p
over limit a b given p T sound levels same o = record {
  store = T;
  sound = sound;
  levels = levels;
  lean = o.lean;
  over = subst (λ m. (m < count_of T) ⊎ ((count_of T ≡ m) × (HasAllNeeded a b given p T → ⊥))) same o.over;
}

-- the store of a build that failed with Full has only nodes that the build needs, and so that the comparison needs
pub exceeds : (limit : ℕ) (a b : Circuit) (given : Option Circuit) (p : NamingModel) (T : Nodes) (e : WaveFault) → IsSound T → T.levels ≡ length p.names → T.limit ≡ limit → IsLeanFor a b given p T →
    e ≡ Full → IsBuildFault (length p.names) (IsNeededValue a b given p) T e → Exceeds limit a b given p
exceeds limit a b given p T e sound levels same lean is fault =
    over limit a b given p T sound levels same (record {
      lean = lean_more (length p.names) (IsNeededValue a b given p) (IsNeededIn a b given p) (needed_in a b given p) T lean;
      over = by (subst (IsBuildFault (length p.names) (IsNeededValue a b given p) T) is fault);
    })
  where
    by : IsFullFor (length p.names) (IsNeededValue a b given p) T → (T.limit < count_of T) ⊎ ((count_of T ≡ T.limit) × (HasAllNeeded a b given p T → ⊥))
    by (inl more) = inl more
    by (inr full) = inr (
      full.0,
      λ whole. not_complete T (length p.names) (IsNeededValue a b given p) full.1
          (complete_less (length p.names) (IsNeededValue a b given p) (IsNeededIn a b given p) (needed_in a b given p) T whole),
    )
