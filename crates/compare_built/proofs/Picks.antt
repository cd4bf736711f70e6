-- Pairs and lines that are picked by names, and those of a share.
use Rattle.std.proofs.Common.{◌≡◌, ◌∙◌, ℕ, suc, ◌+◌, ◌<◌, List, [], ◌∷◌, ◌++◌, Bool, true, false, refl, sym, ap, subst, map, length, get_or, take, drop, append_assoc, arith, Vec}
use Rattle.std.specs.Prelude.{cond, ◌||◌, ◌==◌, Contains, filter, zip}
use Rattle.std.specs.declared.alloc.Global.{Global}
use Rattle.std.specs.List.{list_any}
use Rattle.std.proofs.lemmas.List.{append-nil, drop_more, get_or-map, take_more}
use Rattle.std.proofs.lemmas.List.Elements.{filter-append, filter_more}
use Rattle.std.proofs.lemmas.List.Folds.{list_any_at}
use Rattle.net_bench.specs.Circuit.{Circuit}
use Rattle.net_order.specs.Order.{NamingModel, name_of, names_of}
use Rattle.report_text.specs.declared.cause.PairName.{PairName}
use Rattle.report_text.specs.declared.outcome.PairKind.{PairKind}
use Rattle.report_text.specs.declared.outcome.PairKind.TheVariants.{Output, NextState}
use Rattle.report_text.specs.declared.outcome.Share.{Share}
use Rattle.report_text.specs.declared.outcome.Side.TheVariants.{First}
use Rattle.report_text.specs.declared.verdict.Verdict.{Verdict}
use Rattle.report_text.specs.declared.verdict.Verdict.TheVariants.{Unmatched}
use Rattle.report_text.specs.declared.pair_filter.PairFilter.TheVariants.{All as AllPairs, Only, Share as InShare}
use Rattle.compare_built.specs.declared.subject.Subject.{Subject}
use Rattle.compare_built.specs.PairSelection.{ArePicked, AreShares, HasPicked, is_unmatched_of, is_one_of, is_pair_of, of_share}
use Rattle.compare_built.specs.PairSelection.ArePicked.{all, named, shared}
use Rattle.compare_built.specs.Report.{unmatched_of_side, unmatched_verdicts, subjects}

-- ---- whether one of a list has a name

length_mapped : (f : ℕ → List ℕ) (ss : List ℕ) → length (map f ss) ≡ length ss
length_mapped f [] = refl
length_mapped f (s ∷ ss) = ap suc (length_mapped f ss)

pub one_has : (p : List ℕ → Bool) (f : ℕ → List ℕ) (ss : List ℕ) (i s : ℕ) → i < length ss → s ≡ get_or ss i s → p (f s) ≡ true → list_any p (map f ss) ≡ true
one_has p f ss i s low here holds =
    list_any_at p (map f ss) i (f s) (subst (λ n. i < n) (sym (length_mapped f ss)) low) (ap p (get_or-map f ss i s (f s) low ∙ ap f (sym here)) ∙ holds)

none_pushed : (p : List ℕ → Bool) (f : ℕ → List ℕ) (xs : List ℕ) (x : ℕ) → list_any p (map f xs) ≡ false → p (f x) ≡ false → list_any p (map f (xs ++ x ∷ [])) ≡ false
none_pushed p f [] x none fails = ap (λ b. b || false) fails
none_pushed p f (y ∷ ys) x none fails =
    elim (p (f y)) as (λ b. (b || list_any p (map f ys)) ≡ false → (b || list_any p (map f (ys ++ x ∷ []))) ≡ false) [
      | true ↦ λ e. e
      | false ↦ λ e. none_pushed p f ys x e fails
    ] none

pub none_more : (p : List ℕ → Bool) (f : ℕ → List ℕ) (ss : List ℕ) (i s : ℕ) → i < length ss → s ≡ get_or ss i s → list_any p (map f (take i ss)) ≡ false → p (f s) ≡ false →
    list_any p (map f (take (i + 1) ss)) ≡ false
none_more p f ss i s low here none fails =
    ap (λ (xs : List ℕ). list_any p (map f xs)) (take_more ss i s low ∙ ap (λ x. take i ss ++ x ∷ []) (sym here)) ∙ none_pushed p f (take i ss) s none fails

-- ---- lists that are filtered

pub filtered_yes : {X : Type 0} (p : X → Bool) (xs : List X) (i : ℕ) (x : X) (old new : List X) → i < length xs → x ≡ get_or xs i x → p x ≡ true → old ≡ filter p (take i xs) → new ≡ old ++ x ∷ [] →
    new ≡ filter p (take (i + 1) xs)
filtered_yes p xs i x old new low here holds before grown =
    grown ∙ ap (λ ys. ys ++ x ∷ []) before ∙
    sym (filter_more p xs i x low ∙ ap (λ y. filter p (take i xs) ++ cond (p y) (y ∷ []) []) (sym here) ∙ ap (λ b. filter p (take i xs) ++ cond b (x ∷ []) []) holds)

pub filtered_no : {X : Type 0} (p : X → Bool) (xs : List X) (i : ℕ) (x : X) (old new : List X) → i < length xs → x ≡ get_or xs i x → p x ≡ false → old ≡ filter p (take i xs) → new ≡ old →
    new ≡ filter p (take (i + 1) xs)
filtered_no p xs i x old new low here fails before same =
    same ∙ before ∙
    sym (filter_more p xs i x low ∙ ap (λ y. filter p (take i xs) ++ cond (p y) (y ∷ []) []) (sym here) ∙ ap (λ b. filter p (take i xs) ++ cond b (x ∷ []) []) fails ∙ append-nil (filter p (take i xs)))

-- ---- the pairs of a share

zipped : (ss : List Subject) (ks : List ℕ) (i : ℕ) (s : Subject) → i < length ss → length ks ≡ length ss → s ≡ get_or ss i s →
    zip (drop i ss) (drop i ks) ≡ (s, get_or ks i 0) ∷ zip (drop (i + 1) ss) (drop (i + 1) ks)
zipped ss ks i s low each here =
    let below : i < length ks = omega arith in
    ap (λ xs. zip xs (drop i ks)) (drop_more ss i s low ∙ ap (λ x. x ∷ drop (i + 1) ss) (sym here)) ∙ ap (λ ys. zip (s ∷ drop (i + 1) ss) ys) (drop_more ks i 0 below)

serpentine_first : (k y : ℕ) (s : Subject) (rest : List (Subject × ℕ)) (b : Bool) → (y == k) ≡ b → of_share k ((s, y) ∷ rest) ≡ cond b (s ∷ of_share k rest) (of_share k rest)
serpentine_first k y s rest true is = ap (λ b. map (λ (x : Subject × ℕ). x.0) (cond b ((s, y) ∷ filter (λ (x : Subject × ℕ). x.1 == k) rest) (filter (λ (x : Subject × ℕ). x.1 == k) rest))) is
serpentine_first k y s rest false is = ap (λ b. map (λ (x : Subject × ℕ). x.0) (cond b ((s, y) ∷ filter (λ (x : Subject × ℕ). x.1 == k) rest) (filter (λ (x : Subject × ℕ). x.1 == k) rest))) is

module _ (k : ℕ) (ss : List Subject) (ks : List ℕ) (i : ℕ) (s : Subject) (low : i < length ss) (each : length ks ≡ length ss) (here : s ≡ get_or ss i s) (old new whole : List Subject)
    (done : old ++ of_share k (zip (drop i ss) (drop i ks)) ≡ whole) where
  pub share_yes : get_or ks i 0 ≡ k → new ≡ old ++ s ∷ [] → new ++ of_share k (zip (drop (i + 1) ss) (drop (i + 1) ks)) ≡ whole
  share_yes same grown =
      let holds : (get_or ks i 0 == k) ≡ true = grind arith in
      let rest = zip (drop (i + 1) ss) (drop (i + 1) ks) in
      ap (λ z. z ++ of_share k rest) grown ∙ append_assoc old (s ∷ []) (of_share k rest) ∙
      ap (λ z. old ++ z) (sym (ap (of_share k) (zipped ss ks i s low each here) ∙ serpentine_first k (get_or ks i 0) s rest true holds)) ∙ done

  pub share_no : (get_or ks i 0 ≡ k → ⊥) → new ≡ old → new ++ of_share k (zip (drop (i + 1) ss) (drop (i + 1) ks)) ≡ whole
  share_no other same =
      let fails : (get_or ks i 0 == k) ≡ false = grind arith in
      let rest = zip (drop (i + 1) ss) (drop (i + 1) ks) in
      ap (λ z. z ++ of_share k rest) same ∙
      ap (λ z. old ++ z) (sym (ap (of_share k) (zipped ss ks i s low each here) ∙ serpentine_first k (get_or ks i 0) s rest false fails)) ∙ done

-- ---- the lines of outputs and registers without a partner

unmatched_filtered : (c : Circuit) (patterns : List PairName) (role : PairKind) (ss : List ℕ) →
    filter (is_unmatched_of patterns) (map (Unmatched First role) (names_of c ss)) ≡ map (Unmatched First role) (names_of c (filter (is_one_of c patterns role) ss))
unmatched_filtered c patterns role [] = refl
unmatched_filtered c patterns role (s ∷ ss) =
    let rest = unmatched_filtered c patterns role ss in
    elim (is_one_of c patterns role s) as (λ b. cond b (Unmatched First role (name_of c s) ∷ filter (is_unmatched_of patterns) (map (Unmatched First role) (names_of c ss))) (filter (is_unmatched_of patterns) (map (Unmatched First role) (names_of c ss)))
    ≡ map (Unmatched First role) (names_of c (cond b (s ∷ filter (is_one_of c patterns role) ss) (filter (is_one_of c patterns role) ss)))) [
      | true ↦ ap (λ vs. Unmatched First role (name_of c s) ∷ vs) rest
      | false ↦ rest
    ]

pub unmatched_by_name : (c : Circuit) (patterns : List PairName) (outputs registers some more : List ℕ) (first second third : List Verdict) → some ≡ filter (is_one_of c patterns Output) outputs → more ≡ filter (is_one_of c patterns NextState) registers →
    first ≡ [] → second ≡ first ++ map (Unmatched First Output) (names_of c some) → third ≡ second ++ map (Unmatched First NextState) (names_of c more) →
    third ≡ filter (is_unmatched_of patterns) (unmatched_of_side First c outputs registers)
unmatched_by_name c patterns outputs registers some more first second third some_is more_is none second_is third_is =
    third_is ∙ ap (λ xs. xs ++ map (Unmatched First NextState) (names_of c more)) (second_is ∙ ap (λ xs. xs ++ map (Unmatched First Output) (names_of c some)) none) ∙
    ap (λ xs. map (Unmatched First Output) (names_of c xs) ++ map (Unmatched First NextState) (names_of c more)) some_is ∙
    ap (λ xs. map (Unmatched First Output) (names_of c (filter (is_one_of c patterns Output) outputs)) ++ map (Unmatched First NextState) (names_of c xs)) more_is ∙
    ap (λ xs. xs ++ map (Unmatched First NextState) (names_of c (filter (is_one_of c patterns NextState) registers))) (sym (unmatched_filtered c patterns Output outputs)) ∙
    ap (λ xs. filter (is_unmatched_of patterns) (map (Unmatched First Output) (names_of c outputs)) ++ xs) (sym (unmatched_filtered c patterns NextState registers)) ∙
    sym (filter-append (is_unmatched_of patterns) (map (Unmatched First Output) (names_of c outputs)) (map (Unmatched First NextState) (names_of c registers)))

-- ---- what is picked

module _ (a b : Circuit) (p : NamingModel) (pairs ss : List Subject) (ls : List Verdict) (is : pairs ≡ subjects a b p) where
  pub picked_all : ls ≡ unmatched_verdicts a b p → ArePicked a b p AllPairs pairs ls
  picked_all unmatched_lines = subst (λ xs. ArePicked a b p AllPairs xs ls) (sym is) (subst (ArePicked a b p AllPairs (subjects a b p)) (sym unmatched_lines) all)

  pub picked_named : (names : Vec PairName Global) → ((n : PairName) → Contains names.items n → HasPicked a n) → ss ≡ filter (is_pair_of a names.items) pairs →
      ls ≡ filter (is_unmatched_of names.items) (unmatched_of_side First a p.outputs.only_first p.registers.only_first) → ArePicked a b p (Only names) ss ls
  picked_named names known some unmatched_lines =
      subst (λ xs. ArePicked a b p (Only names) xs ls) (sym (some ∙ ap (filter (is_pair_of a names.items)) is)) (subst (ArePicked a b p (Only names) (filter (is_pair_of a names.items) (subjects a b p))) (sym unmatched_lines) (named known))

  pub picked_shared : (share : Share) (shares : List ℕ) → AreShares a b pairs share.of shares → ss ≡ of_share share.number (zip pairs shares) →
      ls ≡ cond (share.number == 1) (unmatched_verdicts a b p) [] → ArePicked a b p (InShare share) ss ls
  picked_shared share shares are some unmatched_lines =
      subst (λ xs. ArePicked a b p (InShare share) xs ls) (sym (some ∙ ap (λ xs. of_share share.number (zip xs shares)) is))
      (subst (ArePicked a b p (InShare share) (of_share share.number (zip (subjects a b p) shares))) (sym unmatched_lines) (shared (subst (λ xs. AreShares a b xs share.of shares) is are)))
