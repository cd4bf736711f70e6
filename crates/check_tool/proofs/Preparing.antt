-- The files after those of the texts: of the condition, of the pairs and of the order.
use Rattle.std.proofs.Common.{◌≡◌, ◌++◌, inl, inr, ℕ, false, List, [], ◌∷◌, Option, Some, refl, sym, subst}
use Rattle.std.specs.Borrow.{Bor}
use Rattle.command_line.specs.declared.options.Options.{Options}
use Rattle.check_tool.specs.declared.fault.FileRole.TheVariants.{Given, Pairs}
use Rattle.check_tool.specs.declared.fault.ToolFault.{ToolFault}
use Rattle.check_tool.specs.Opening.{Try, Extends, opened, AreTried}
use Rattle.net_rename.specs.declared.pair.NamePair.{NamePair}
use Rattle.check_tool.specs.Running.{IsOpenFault, path_in, order_paths, later_paths, IsGivenFault, IsOrderFault, IsPairsFault, IsPairsOf, IsLaterFault}
use Rattle.check_tool.proofs.Composing.{extends_more, opened_more}

pub given_unopened : (given : Option (Bor (List ℕ))) (path : Bor (List ℕ)) → given ≡ Some path → (fault : ToolFault) (a b : Option (List Try)) → IsOpenFault Given fault → Extends a b ((path.now, false) ∷ [])
    → (tries : List Try) × Extends a b tries × IsGivenFault given tries fault
given_unopened given path is fault a b (inl (obstacle, e)) x =
    ((path.now, false) ∷ [], x, subst (λ f. IsGivenFault given ((path.now, false) ∷ []) f) (sym e) (path, is, refl))
given_unopened given path is fault a b (inr e) x =
    ((path.now, false) ∷ [], x, subst (λ f. IsGivenFault given ((path.now, false) ∷ []) f) (sym e) (subst (λ g. AreTried (path_in g) ((path.now, false) ∷ [])) (sym is) (refl, refl)))

pub given_unhad : (bytes_at : List ℕ → Option (List ℕ)) (broken : List ℕ → Type 0) (o : Options) (fault : ToolFault) (a b : Option (List Try)) → (tries : List Try) × Extends a b tries × IsGivenFault o.given tries fault
    → (tries : List Try) × Extends a b tries × IsLaterFault bytes_at broken o tries fault
given_unhad bytes_at broken o fault a b h = (h.0, h.1, inl h.2)

pub pairs_unhad : (bytes_at bytes_at' : List ℕ → Option (List ℕ)) (broken : List ℕ → Type 0) (o : Options) (fault : ToolFault) (a b c : Option (List Try)) → bytes_at' ≡ bytes_at → Extends a b (opened (path_in o.given))
    → (tries : List Try) × Extends b c tries × IsPairsFault bytes_at' broken o.pairs tries fault → (tries : List Try) × Extends a c tries × IsLaterFault bytes_at broken o tries fault
pairs_unhad bytes_at bytes_at' broken o fault a b c same e h = (
  opened (path_in o.given) ++ h.0,
  extends_more a b c (opened (path_in o.given)) h.0 e h.1,
  inr (inl (h.0, refl, subst (λ t. IsPairsFault t broken o.pairs h.0 fault) same h.2)),
)

-- the files of the condition and of the pairs
pub two_opened : (o : Options) (a b c : Option (List Try)) → Extends a b (opened (path_in o.given)) → Extends b c (opened (path_in o.pairs)) → Extends a c (opened (path_in o.given ++ path_in o.pairs))
two_opened o a b c e f = subst (λ l. Extends a c l) (sym (opened_more (path_in o.given) (path_in o.pairs))) (extends_more a b c (opened (path_in o.given)) (opened (path_in o.pairs)) e f)

pub order_unhad : (bytes_at bytes_at' between : List ℕ → Option (List ℕ)) (broken : List ℕ → Type 0) (o : Options) (fault : ToolFault) (pairs : Option (List NamePair)) (a b c : Option (List Try)) → bytes_at' ≡ bytes_at → between ≡ bytes_at → IsPairsOf between o.pairs pairs
    → Extends a b (opened (path_in o.given ++ path_in o.pairs))
    → (tries : List Try) × Extends b c tries × IsOrderFault bytes_at' broken o.order tries fault → (tries : List Try) × Extends a c tries × IsLaterFault bytes_at broken o tries fault
order_unhad bytes_at bytes_at' between broken o fault pairs a b c same also had e h = (
  opened (path_in o.given ++ path_in o.pairs) ++ h.0,
  extends_more a b c (opened (path_in o.given ++ path_in o.pairs)) h.0 e h.1,
  inr (inr (h.0, refl, subst (λ t. IsOrderFault t broken o.order h.0 fault) same h.2, (pairs, subst (λ t. IsPairsOf t o.pairs pairs) also had))),
)

pub later_opened : (o : Options) (a b c d : Option (List Try)) → Extends a b (opened (path_in o.given)) → Extends b c (opened (path_in o.pairs)) → Extends c d (opened (order_paths o.order)) → Extends a d (opened (later_paths o))
later_opened o a b c d e f g =
    subst (λ l. Extends a d l) (sym (opened_more (path_in o.given) (path_in o.pairs ++ order_paths o.order)))
    (extends_more a b d (opened (path_in o.given)) (opened (path_in o.pairs ++ order_paths o.order)) e
    (subst (λ l. Extends b d l) (sym (opened_more (path_in o.pairs) (order_paths o.order))) (extends_more b c d (opened (path_in o.pairs)) (opened (order_paths o.order)) f g)))

-- the file of pairs could not be opened
pub pairs_unopened : (bytes_at : List ℕ → Option (List ℕ)) (broken : List ℕ → Type 0) (pairs : Option (Bor (List ℕ))) (path : Bor (List ℕ)) → pairs ≡ Some path → (fault : ToolFault) (a b : Option (List Try)) → IsOpenFault Pairs fault → Extends a b ((path.now, false) ∷ [])
    → (tries : List Try) × Extends a b tries × IsPairsFault bytes_at broken pairs tries fault
pairs_unopened bytes_at broken pairs path is fault a b (inl (obstacle, e)) x =
    ((path.now, false) ∷ [], x, subst (λ f. IsPairsFault bytes_at broken pairs ((path.now, false) ∷ []) f) (sym e) (path, is, refl))
pairs_unopened bytes_at broken pairs path is fault a b (inr e) x =
    ((path.now, false) ∷ [], x, subst (λ f. IsPairsFault bytes_at broken pairs ((path.now, false) ∷ []) f) (sym e) (subst (λ g. AreTried (path_in g) ((path.now, false) ∷ [])) (sym is) (refl, refl)))
