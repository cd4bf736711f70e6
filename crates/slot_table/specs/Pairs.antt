-- If two equalities hold of equal values only, so does that of pairs.
use Rattle.std.specs.Prelude.{◌≡◌, ◌&&◌, Bool, true, false}
use Rattle.std.proofs.Common.{refl, sym, true≢false}

and_first : (a b : Bool) → (a && b) ≡ true → a ≡ true
and_first true b e = refl
and_first false b e = e

and_second : (a b : Bool) → (a && b) ≡ true → b ≡ true
and_second true b e = e
and_second false b e = absurd (true≢false (sym e))

pub pairs-same : {X Y : Type 0} (e : X → X → Bool) (f : Y → Y → Bool) → ((x y : X) → e x y ≡ true → x ≡ y)
    → ((x y : Y) → f x y ≡ true → x ≡ y)
    → (p q : X × Y) → (e p.0 q.0 && f p.1 q.1) ≡ true → p ≡ q
pairs-same e f first second p q both =
    let a = first p.0 q.0 (and_first _ _ both) in
    let b = second p.1 q.1 (and_second _ _ both) in
    λ i. (a i, b i)
