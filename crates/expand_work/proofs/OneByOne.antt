-- Children that a sink takes one after the other.
use Rattle.std.proofs.Common.{◌≡◌, ◌∙◌, true, false, List, [], ◌∷◌, ◌++◌, refl, sym, subst, append-nil, append_assoc}
use Rattle.dd_store.specs.Nodes.{Nodes}
use Rattle.req_table.specs.declared.Child.{Child}
use Rattle.req_table.specs.declared.Key.{Key}
use Rattle.req_table.specs.declared.packed_child.PackedChild.{PackedChild}
use Rattle.req_table.specs.Keys.{child_of}
use Rattle.expand_work.specs.TakenChildren.{AreTaken}

module _ {A : Type 0} (takes : A → Child → PackedChild → A → Type 0) (S : Nodes) where
  -- the children of one more request
  pub taken_more : (a : A) (ks : List Key) (ds : List (PackedChild × PackedChild)) (m : A) → AreTaken takes S a ks ds m → (k : Key) (low high : PackedChild) (n o : A) → takes m (child_of S k false) low n → takes n (child_of S k true) high o
      → AreTaken takes S a (ks ++ k ∷ []) (ds ++ (low, high) ∷ []) o
  taken_more a [] [] m h k low high n o lows highs = (n, o, subst (λ z. takes z (child_of S k false) low n) h lows, highs, refl)
  taken_more a [] (d ∷ ds) m h k low high n o lows highs = absurd h
  taken_more a (x ∷ ks) [] m h k low high n o lows highs = absurd h
  taken_more a (x ∷ ks) (d ∷ ds) m h k low high n o lows highs = (h.0, h.1, h.2, h.3, taken_more h.1 ks ds m h.4 k low high n o lows highs)

  -- Induction on the requests: what holds before the first, and with one more if it held before, holds after the last.
  module _ (all : List Key) (P : List Key → List (PackedChild × PackedChild) → A → Type 0)
      (step : (ks rest : List Key) (ds : List (PackedChild × PackedChild)) (m : A) → P ks ds m → (k : Key) → ks ++ k ∷ rest ≡ all → (low high : PackedChild) (n o : A) → takes m (child_of S k false) low n → takes n (child_of S k true) high o
      → P (ks ++ k ∷ []) (ds ++ (low, high) ∷ []) o) where
    from : (done : List Key) (so_far : List (PackedChild × PackedChild)) (a : A) (ks : List Key) (ds : List (PackedChild × PackedChild)) (b : A) → done ++ ks ≡ all → P done so_far a → AreTaken takes S a ks ds b → P all (so_far ++ ds) b
    from done so_far a [] [] b e h t =
        subst (λ (z : List Key). P z (so_far ++ []) b) (sym (append-nil done) ∙ e) (subst (λ (z : List (PackedChild × PackedChild)). P done z b) (sym (append-nil so_far)) (subst (P done so_far) (sym t) h))
    from done so_far a [] (d ∷ ds) b e h t = absurd t
    from done so_far a (k ∷ ks) [] b e h t = absurd t
    from done so_far a (k ∷ ks) (d ∷ ds) b e h t =
        subst (λ (z : List (PackedChild × PackedChild)). P all z b) (append_assoc so_far (d ∷ []) ds)
        (from (done ++ k ∷ []) (so_far ++ d ∷ []) t.1 ks ds b (append_assoc done (k ∷ []) ks ∙ e) (step done ks so_far a h k e d.0 d.1 t.0 t.1 t.2 t.3) t.4)

    pub along : (a : A) (ds : List (PackedChild × PackedChild)) (b : A) → P [] [] a → AreTaken takes S a all ds b → P all ds b
    along a ds b h t = from [] [] a all ds b refl h t
