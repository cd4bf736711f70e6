-- The function of a reached request is wanted by the entries, and so is what a wave of such requests wants.
use Rattle.std.proofs.Common.{◌≡◌, ℕ, suc, ◌+◌, ◌-◌, ◌<◌, ◌≤◌, inl, inr, Bool, true, false, not, List, ◌∷◌, ◌++◌, length, take, drop, sym, ◌∙◌, ap, subst, arith, Contains, All, append_assoc}
use Rattle.std.proofs.lemmas.Bool.{cases_lt}
use Rattle.std.proofs.lemmas.List.{length-append, take-append-drop}
use Rattle.std.proofs.Math.ListN.{length-take, length-drop}
use Rattle.dd_store.specs.declared.reference.Ref.{Ref}
use Rattle.dd_store.specs.declared.reference.Reference.TheVariants.{False, True, Node}
use Rattle.dd_store.specs.Parts.Part.{node}
use Rattle.dd_store.specs.Graph.{Pair}
use Rattle.dd_store.specs.Complements.{complement_both, negate_of, complemented}
use Rattle.dd_store.proofs.Complements.{not-not, complemented-twice, den-negate}
use Rattle.dd_store.proofs.Storing.{children-of}
use Rattle.dd_store.proofs.View.{kept_top, has-negate}
use Rattle.dd_store.specs.Functions.{Agree, IsFixedSomehow, DependsOn, OfEither}
use Rattle.dd_store.specs.Nodes.{Nodes, IsSound, IsDiagram, den}
use Rattle.dd_store.specs.View.{part, part_of, Has, Keeps, top}
use Rattle.req_table.specs.declared.Key.{Key}
use Rattle.req_table.specs.Keys.{normal_of, level_of, meaning, wave_of}
use Rattle.req_table.proofs.AsksFor.{AsksFor, asks_for}
use Rattle.req_table.proofs.Waved.{is_wave, are_requests, bounded}
use Rattle.reduce_up.specs.Reducing.{AddsDescribed, IsAnswer, LacksAnswer}
use Rattle.reduce_up.specs.Waves.{Entry, entry_value, IsEntry, IsWanted, LacksWanted, HasRequest, requests_of}
use Rattle.reduce_up.proofs.Below.{fixed_of, fixed_as, node_reads}
use Rattle.reduce_up.proofs.Adding.{adds_either, adds_reads, adds_then}
use Rattle.reduce_up.proofs.Opposite.{either_more, either_either, fixed_complemented, depends_not}
use Rattle.reduce_up.proofs.Rooted.{of_entry, requests_good, normal_means}
use Rattle.reduce_up.proofs.Reduction.{kept_meaning}
use Rattle.reduce_up.specs.ByPlace.{IsAdmitted, AreAdmitted}
use Rattle.reduce_up.specs.ReductionPhase.{AskedAt}

-- fixing more bits of a function that has bits fixed
pub fixed_more : (n l v : ℕ) (f g h : List Bool → Bool) → l ≤ v → v ≤ n → IsFixedSomehow n l f g → IsFixedSomehow n v g h → IsFixedSomehow n v f h
fixed_more n l v f g h le fit a b =
    let p : List Bool = a.0 in
    let hp : length p ≡ l = a.1 in
    let p' : List Bool = b.0 in
    let hp' : length p' ≡ v = b.1 in
    let head : length (take l p') ≡ l = simp length-take (omega arith) in
    let tail : length (drop l p') ≡ v - l = simp length-drop (omega arith) in (
      p ++ drop l p',
      simp length-append (omega (arith, tail, hp)),
      λ q x hq hx.
          b.2 q x hq hx
          ∙ ap (λ z. g (z ++ x)) (sym (take-append-drop l p'))
          ∙ ap g (append_assoc (take l p') (drop l p') x)
          ∙ a.2 (take l p') (drop l p' ++ x) head (simp length-append (omega (arith, tail, hx, le)))
          ∙ ap f (sym (append_assoc p (drop l p') x)),
    )

-- the complement of a function with bits fixed
fixed_not : (n v : ℕ) (f g : List Bool → Bool) → IsFixedSomehow n v f g → IsFixedSomehow n v (λ x. not (f x)) (λ x. not (g x))
fixed_not n v f g i = (i.0, i.1, λ q x hq hx. ap not (i.2 q x hq hx))

module _ (S : Nodes) (w : IsSound S) (entries : List Entry) (good : All (IsEntry S) entries) where
  -- a reached key has the function of an entry with the bits before its level fixed, or the complement of it
  pub key_fixed : (v : ℕ) (k : Key) → IsAdmitted S entries v k → (e : Entry) × Contains entries e × OfEither (IsFixedSomehow S.levels v (entry_value S e)) (meaning S k)
  key_fixed v k i =
      let a : AsksFor (wave_of S 1) (meaning S) (requests_of entries) k =
      asks_for (wave_of S 1) (is_wave S w 1 (omega arith)) (part S) (Has S) (den S) (meaning S) (are_requests S w 1) (requests_of entries) (requests_good S entries good) k i.reached in
      let n : ℕ = S.levels in
      let root : List Bool → Bool = meaning S a.from in
      let f : IsFixedSomehow n v (λ x. complemented a.complement (root x)) (meaning S k) = subst (λ z. IsFixedSomehow n z (λ x. complemented a.complement (root x)) (meaning S k)) i.level a.fixed in
      let e = of_entry entries a.from a.is_root in
      let m : Bool = (normal_of e.0.0 e.0.1 e.0.2).1 in
      let asked : (x : List Bool) → complemented m (entry_value S e.0 x) ≡ root x =
      λ x. ap (complemented m) (sym (normal_means S e.0 x)) ∙ complemented-twice m (meaning S (normal_of e.0.0 e.0.1 e.0.2).0 x) ∙ ap (λ z. meaning S z x) (sym e.3) in
      let of_root : (g : List Bool → Bool) → IsFixedSomehow n v root g → OfEither (IsFixedSomehow n v (entry_value S e.0)) g =
      λ g h. fixed_complemented n v m (entry_value S e.0) g (fixed_of n v (λ x. complemented m (entry_value S e.0 x)) root g (λ x hx. asked x) h) in
      (e.0, e.1, either_either (IsFixedSomehow n v (entry_value S e.0)) (meaning S k) (either_more (IsFixedSomehow n v root) (OfEither (IsFixedSomehow n v (entry_value S e.0))) of_root (meaning S k) (fixed_complemented n v a.complement root (meaning S k) f)))

  -- if a key is reached, some entry needs a request
  pub has_request_of : (v : ℕ) (k : Key) → IsAdmitted S entries v k → HasRequest entries
  has_request_of v k i =
      let a : AsksFor (wave_of S 1) (meaning S) (requests_of entries) k =
      asks_for (wave_of S 1) (is_wave S w 1 (omega arith)) (part S) (Has S) (den S) (meaning S) (are_requests S w 1) (requests_of entries) (requests_good S entries good) k i.reached in
      let e = of_entry entries a.from a.is_root in
      (e.0, e.1, e.2)

  -- a function that agrees with such a key's and depends on the bit of its level is wanted, or its complement is
  pub key_wanted : (v : ℕ) (k : Key) → IsAdmitted S entries v k → (f : List Bool → Bool) → Agree S.levels f (meaning S k) → DependsOn S.levels v f → OfEither (IsWanted S entries v) f
  key_wanted v k i f a d =
      let e = key_fixed v k i in
      elim e.2 [
        | inl g ↦ inl (record { entry = e.0; is_entry = e.1; fixed = fixed_as S.levels v (entry_value S e.0) (meaning S k) f a g; depends = d })
        | inr g ↦ inr (record {
          entry = e.0;
          is_entry = e.1;
          fixed = fixed_as S.levels v (entry_value S e.0) (λ x. not (meaning S k x)) (λ x. not (f x)) (λ x hx. ap not (a x hx)) g;
          depends = depends_not S.levels v f d;
        })
      ]

  -- a key's function does not read the bits before its level
  blind : (l v : ℕ) (k : Key) → IsAdmitted S entries l k → v < l → (p r : List Bool) → length p ≡ v → v + suc (length r) ≡ S.levels → meaning S k (p ++ false ∷ r) ≡ meaning S k (p ++ true ∷ r)
  blind l v k i lt p r hp hr =
      let gap : ℕ = l - suc v in
      let at : level_of S k ≡ l = i.level in
      let fit : level_of S k < S.levels = bounded S w k i.key in
      let front : length (take gap r) ≡ gap = simp length-take (omega (arith, at, fit, lt, hr)) in
      let rest : length (drop gap r) ≡ length r - gap = length-drop gap r in
      let joined : (b : Bool) → p ++ b ∷ r ≡ (p ++ b ∷ take gap r) ++ drop gap r =
      λ b. ap (λ z. p ++ b ∷ z) (sym (take-append-drop gap r)) ∙ sym (append_assoc p (b ∷ take gap r) (drop gap r)) in
      let long : (b : Bool) → length (p ++ b ∷ take gap r) ≡ level_of S k = λ b. simp length-append (omega (arith, front, hp, at, lt)) in
      let all : level_of S k + length (drop gap r) ≡ S.levels = omega (arith, rest, at, fit, lt, hr) in
      ap (meaning S k) (joined false)
      ∙ (are_requests S w 1).ignores_upper_bits k i.key (p ++ false ∷ take gap r) (p ++ true ∷ take gap r) (drop gap r) (long false) (long true) all
      ∙ sym (ap (meaning S k) (joined true))

  -- what is a key's function with bits fixed depends on no bit before the key's level
  not_before : (l v : ℕ) (k : Key) → IsAdmitted S entries l k → (f : List Bool → Bool) → IsFixedSomehow S.levels v (meaning S k) f → DependsOn S.levels v f → v < l → ⊥
  not_before l v k i f x d lt =
      let p : List Bool = x.0 in
      let hp : length p ≡ v = x.1 in
      let q : List Bool = d.0 in
      let r : List Bool = d.1 in
      let hq : length q ≡ v = d.2 in
      let hr : v + suc (length r) ≡ S.levels = d.3 in
      d.4 (x.2 q (false ∷ r) hq hr ∙ blind l v k i lt p r hp hr ∙ sym (x.2 q (true ∷ r) hq hr))

  -- each entry of a list has the function of a reached key
  abbrev pub AreReachedBy : List Entry → Type 0
  AreReachedBy front = (e : Entry) → Contains front e → (l : ℕ) × (k : Key) × IsAdmitted S entries l k × Agree S.levels (entry_value S e) (meaning S k)

  -- what such a list wants, the entries want, or its complement
  pub wanted_through : (front : List Entry) → AreReachedBy front → (v : ℕ) (f : List Bool → Bool) → IsWanted S front v f → OfEither (IsWanted S entries v) f
  wanted_through front each v f u =
      let a = each u.entry u.is_entry in
      let l : ℕ = a.0 in
      let k : Key = a.1 in
      let of_key : IsFixedSomehow S.levels v (meaning S k) f = fixed_of S.levels v (meaning S k) (entry_value S u.entry) f (λ x hx. sym (a.3 x hx)) u.fixed in
      let e = key_fixed l k a.2 in
      let hr : v + suc (length u.depends.1) ≡ S.levels = u.depends.3 in
      elim (cases_lt v l) [
        | inl lt ↦ absurd (not_before l v k a.2 f of_key u.depends lt)
        | inr le ↦ elim e.2 [
          | inl g ↦ inl (record {
            entry = e.0;
            is_entry = e.1;
            fixed = fixed_more S.levels l v (entry_value S e.0) (meaning S k) f le (omega (arith, hr)) g of_key;
            depends = u.depends;
          })
          | inr g ↦ inr (record {
            entry = e.0;
            is_entry = e.1;
            fixed = fixed_more S.levels l v (entry_value S e.0) (λ x. not (meaning S k x)) (λ x. not (f x)) le (omega (arith, hr)) g (fixed_not S.levels v (meaning S k) f of_key);
            depends = depends_not S.levels v f u.depends;
          })
        ]
      ]

  -- what the wave over reached entries adds is described by the entries
  pub adds_through : (T : Nodes) (front : List Entry) → AreReachedBy front → AddsDescribed S T (IsWanted S front) → AddsDescribed S T (IsWanted S entries)
  adds_through T front each a = adds_either S T (IsWanted S front) (IsWanted S entries) (wanted_through front each) a

  -- a store that has no reference for a function has none for its complement
  lacks_either : (T : Nodes) (v : ℕ) (f : List Bool → Bool) → OfEither (IsWanted S entries v) f → ((r : Ref) → Has T r → Agree T.levels (den T r) f → ⊥) → LacksWanted S entries T
  lacks_either T v f (inl u) none = (v, f, u, none)
  lacks_either T v f (inr u) none = (v, λ x. not (f x), u, λ r h a. none (negate_of r) (has-negate T r h) (λ x hx. den-negate T r x ∙ ap not (a x hx) ∙ not-not (f x)))

  -- what the store lacks of a wave over reached entries it lacks of the wave over the entries
  pub lacks_through : (T : Nodes) (front : List Entry) → AreReachedBy front → LacksWanted S front T → LacksWanted S entries T
  lacks_through T front each x = lacks_either T x.0 x.1 (wanted_through front each x.0 x.1 x.2) x.3

  -- the new nodes of a level, after those of the levels below it
  pub level_adds : (T : List (List Key)) (v : ℕ) (s u : Nodes) → AreAdmitted S entries T → IsSound s → IsSound u → AddsDescribed S s (IsWanted S entries) → AddsDescribed s u (AskedAt s T v) → AddsDescribed S u (IsWanted S entries)
  level_adds T v s u adm sS uS i j = adds_then S s u sS (IsWanted S entries) i (adds_reads s u uS (AskedAt s T v) (IsWanted S entries) keyed j)
    where
      keyed : (n : ℕ) (f : List Bool → Bool) → DependsOn s.levels n f → AskedAt s T v n f → OfEither (IsWanted S entries n) f
      keyed n f reads (at, (q, k, stands, e)) =
          let a : IsAdmitted S entries n k = subst (λ z. IsAdmitted S entries z k) (sym at) (adm.keys v q k stands) in
          key_wanted n k a f (λ x hx. e x (hx ∙ sym i.keeps.levels) ∙ kept_meaning S s w i.keeps k a.key.first a.key.second x) (subst (λ z. DependsOn z n f) i.keeps.levels reads)

  -- the cause of a level's fault is one of the entries' wave
  pub lacks_wanted : (v : ℕ) (k : Key) (s : Nodes) → Keeps S s → IsAdmitted S entries v k → LacksAnswer s v k → LacksWanted S entries s
  lacks_wanted v k s K a x =
      lacks_either s v (meaning s k) (key_wanted v k a (meaning s k) (λ y hy. kept_meaning S s w K k a.key.first a.key.second y) (subst (λ n. DependsOn n v (meaning s k)) K.levels x.0)) x.1

  -- a diagram of a key's function is not above the key
  pub diagram_answer : (T : Nodes) → IsSound T → Keeps S T → (l : ℕ) (k : Key) → IsAdmitted S entries l k → (r : Ref) → IsDiagram T r (meaning S k) → IsAnswer T k r
  diagram_answer T u K l k a r d = record {
    first = K.has k.f a.key.first;
    second = K.has k.g a.key.second;
    has = d.0;
    not_above =
        let f : top T k.f ≡ top S k.f = kept_top S T K k.f in
        let g : top T k.g ≡ top S k.g = kept_top S T K k.g in
        let at : level_of S k ≡ l = a.level in
        let le : l ≤ top T r = elim (cases_lt (top T r) l) [ inl lt ↦ absurd (too_high r d.0 d.1 lt) | inr le ↦ le ] in
        omega (arith, f, g, at, le);
    denotes = λ x hx. d.1 x hx ∙ sym (kept_meaning S T w K k a.key.first a.key.second x);
  }
    where
      same : T.levels ≡ S.levels
      same = K.levels

      fit : l < S.levels
      fit = let b : level_of S k < S.levels = bounded S w k a.key in let at : level_of S k ≡ l = a.level in omega (arith, b, at)

      too_high : (m : Ref) → Has T m → Agree T.levels (den T m) (meaning S k) → top T m < l → ⊥
      too_high False h ag lt = omega (arith, fit, same, lt)
      too_high True h ag lt = omega (arith, fit, same, lt)
      too_high (Node n b) h ag lt =
          let p : Pair = complement_both b h.0 in
          let at : part T (Node n b) ≡ node n.level p.0 p.1 = ap (part_of n) (children-of T n b h.0 h.1) in
          let x : DependsOn T.levels n.level (den T (Node n b)) = node_reads T u (Node n b) n.level p.0 p.1 h at in
          let hq : length x.0 ≡ n.level = x.2 in
          let hr : n.level + suc (length x.1) ≡ T.levels = x.3 in
          let z : (c : Bool) → length (x.0 ++ c ∷ x.1) ≡ T.levels = λ c. simp length-append (omega (arith, hq, hr)) in
          x.4 (ag (x.0 ++ false ∷ x.1) (z false) ∙ blind l n.level k a lt x.0 x.1 hq (hr ∙ same) ∙ sym (ag (x.0 ++ true ∷ x.1) (z true)))
