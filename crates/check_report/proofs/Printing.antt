-- Printing an order: from the comparison that was made in it.
use Rattle.std.proofs.Common.{◌≡◌, ◌≢◌, ◌∙◌, ap, refl, sym, subst, ℕ, List, Option, None, Result, Ok, Err, IfOk, IfErr, IfSome}
use Rattle.expand_work.specs.Bounds.{WaveBound}
use Rattle.net_bench.specs.Circuit.{Circuit}
use Rattle.net_names.specs.declared.order.Match.{Match}
use Rattle.net_names.specs.declared.order.Order.{Order}
use Rattle.net_names.specs.declared.order.Order.TheVariants as orders
use Rattle.net_order.specs.Order.{NamingModel}
use Rattle.net_names.specs.OrderText.{order_text}
use Rattle.compare_built.specs.declared.verdict_order.Details.{Details}
use Rattle.compare_built.specs.Devices.{DeviceTexts}
use Rattle.compare_built.specs.declared.strategy.Strategy.{Strategy}
use Rattle.compare_built.specs.declared.strategy.Strategy.TheVariants.{One, Computed, Best, Auto, Cones, ConesByList, Merge}
use Rattle.compare_built.specs.declared.strategy.AttemptOrder.TheVariants as tried_orders
use Rattle.compare_built.specs.declared.strategy.Attempt.{Attempt}
use Rattle.compare_built.specs.declared.fault.CheckFault.{CheckFault}
use Rattle.compare_built.specs.declared.fault.CheckFault.TheVariants.{Write}
use Rattle.compare_built.specs.declared.settings.Settings.{Settings}
use Rattle.compare_built.specs.Attempts.{IsAllowed, IsChosen, IsFound}
use Rattle.compare_built.specs.Check.{AreAccepted, ArePaired, IsJudged}
use Rattle.compare_built.specs.Details.{details_in}
use Rattle.report_text.specs.Lines.{Found}
use Rattle.explain_report.specs.Deciding.{IsFoundBy, MayTakeCones}
use Rattle.explain_report.specs.Deciding.IsFoundBy.{by_cones, in_order}
use Rattle.explain_report.proofs.Trying.{accepted_declared, accepted_in, chosen_accepted}
use Rattle.order_search.specs.Trials.{EndsAtOnce}
use Rattle.check_report.specs.Listing.{IsOrderPrinted}
use Rattle.check_report.specs.Refusals.{MayList}
use Rattle.check_report.proofs.Refusing.{list_at_once}

pub printed : (input : DeviceTexts) (how : Match) (order : Order) (asked : Details) (found : Found) (bytes : List ℕ) → IsJudged input how order asked found → bytes ≡ order_text found.variables → IsOrderPrinted input how order bytes
printed input how order asked found bytes j e = record { a = j.a; b = j.b; c = j.c; p = j.p; paired = j.paired; text = e ∙ ap order_text j.verdicts.variables }

-- the order that was found is accepted, in an order in which faults have their causes
pub listed_accepted : (input : DeviceTexts) (how : Match) (choice : Strategy) (limit : ℕ) (tried : Option Attempt) (order : Order) (a b : Circuit) (c : Option Circuit) (p : NamingModel) → ArePaired input how order a b c p →
    IsFound input how choice limit tried order → (k : Order) × IsAllowed choice k × AreAccepted input choice how k
listed_accepted input how (One o) limit tried order a b c p paired is = (order, is.1, accepted_in (One o) input how order a b c p paired)
listed_accepted input how (Computed k) limit tried order a b c p paired is =
    (orders.Declared, refl, accepted_declared (Computed k) input how (tried_orders.Computed k) order a b c p is.1 paired)
listed_accepted input how Best limit tried order a b c p paired is = chosen_accepted input how Best limit tried order a b c p paired is
listed_accepted input how Auto limit tried order a b c p paired is = (order, is.1, accepted_in Auto input how order a b c p paired)
listed_accepted input how Cones limit tried order a b c p paired is = (order, is.1, accepted_in Cones input how order a b c p paired)
listed_accepted input how Merge limit tried order a b c p paired is = (order, is.1, accepted_in Merge input how order a b c p paired)
listed_accepted input how (ConesByList names) limit tried order a b c p paired is = (order, is.1, accepted_in (ConesByList names) input how order a b c p paired)

-- nothing has to be shown of an attempt if no order was tried
pub never_tried : {A B E : Type 0} (P : B → Type 0) (r : Result (A × Option B) E) → IfOk r (λ r. r.1 ≡ None) → IfOk r (λ r. IfSome r.1 P)
never_tried P (Ok (a, tried)) e = subst (λ t. IfSome t P) (sym e) tt
never_tried P (Err fault) e = tt

-- the variables of a comparison in the best order are in the order of its attempt
pub best_printed : (input : DeviceTexts) (s : Settings) (bound : WaveBound) (found : Found) (tried : Option Attempt) (bytes : List ℕ) → s.order ≡ Best → IsFoundBy input s bound found tried → bytes ≡ order_text found.variables →
    (order : Order) × IsOrderPrinted input s.matching order bytes × IsFound input s.matching s.order s.limit tried order
best_printed input s bound found tried bytes best (in_order order judged chosen) text = (
  order,
  printed input s.matching order (details_in s) found bytes judged text,
  subst (λ choice. IsFound input s.matching choice s.limit tried order) (sym best) (subst (λ choice. IsChosen input s.matching choice s.limit tried order) best chosen),
)
best_printed input s bound found None bytes best (by_cones cause judged last) text = absurd (subst (MayTakeCones input s bound) best cause)

-- ---- faults before and after the text is made

pub list_of : {T : Type 0} (input : DeviceTexts) (s : Settings) (bound : WaveBound) (r : Result T CheckFault) → IfErr r EndsAtOnce → IfErr r (MayList input s bound)
list_of input s bound (Ok v) ends = tt
list_of input s bound (Err fault) ends = list_at_once input s bound fault ends

pub nothing_to_write : {T : Type 0} (r : Result T CheckFault) → IfErr r EndsAtOnce → r ≢ Err Write
nothing_to_write (Ok v) ends e = cc
nothing_to_write (Err fault) ends e = let same : fault ≡ Write = cc in subst EndsAtOnce same ends
