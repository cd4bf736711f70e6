-- Devices that have failed: from the parts of a run to the whole run.
use Rattle.std.proofs.Common.{◌≡◌, ◌⊎◌, inl, inr, ℕ, Bool, false, List, Option, Some, None, ◌∙◌, sym, subst, IsTrue}
use Rattle.std.specs.Prelude.{IfSome}
use Rattle.compare_built.specs.declared.fault.CheckFault.{CheckFault}
use Rattle.compare_built.specs.declared.fault.CheckFault.TheVariants.{First, Second, Given, GivenOutputs, Order as OrderRefused, Only, Explain, Wave, GivenUp, Write, OutOfMemory}
use Rattle.compare_built.specs.Check.{IsCheckFault}
use Rattle.net_names.specs.declared.order.Match.{Match}
use Rattle.net_names.specs.declared.order.Order.{Order}
use Rattle.net_names.specs.declared.order.OrderFault.{OrderFault}
use Rattle.net_names.specs.declared.order.OrderFault.TheVariants.{Read as OrderReadFailed, OutOfMemory as NoOrderMemory}
use Rattle.net_names.specs.OrderText.{IsBadText}
use Rattle.net_rename.specs.declared.fault.PairsFault.{PairsFault}
use Rattle.net_rename.specs.declared.fault.PairsFault.TheVariants.{Read as PairsReadFailed, OutOfMemory as NoPairsMemory}
use Rattle.net_rename.specs.PairText.{IsBadPairText}
use Rattle.command_line.specs.declared.options.Texts.{Texts}
use Rattle.check_tool.specs.Opening.{HasFailedAt}
use Rattle.compare_built.specs.Devices.{device_texts, device_text, HasFailedIn}
use Rattle.std.specs.Borrow.{Bor}
use Rattle.compare_built.specs.declared.strategy.Strategy.{Strategy}
use Rattle.compare_built.specs.declared.settings.Settings.{Settings}
use Rattle.explain_report.specs.Explaining.{IsReportFault}
use Rattle.check_tool.specs.Running.{HasFirstFailed, HasSecondFailed, HasGivenFailed, IsGivenFrom, IsOrderRefused, IsPairsRefused}

-- in the cause of a fault, what the failure of a device implies may replace it
pub check_fault : (one two : Option (List ℕ)) (given : Option (Option (List ℕ))) (first_failed second_failed given_failed first second condition : Type 0) (choice : Strategy) (how : Match) (order : Order) → (first_failed → first) → (second_failed → second) → (given_failed → condition) → (fault : CheckFault) →
    IsCheckFault (device_texts one two given) first_failed second_failed given_failed choice how order fault → IsCheckFault (device_texts one two given) first second condition choice how order fault
check_fault one two given first_failed second_failed given_failed first second condition choice how order f g h (First fault) c = record { cause = c.cause; read = λ e. f (c.read e) }
check_fault one two given first_failed second_failed given_failed first second condition choice how order f g h (Second fault) c = (c.0, c.1, record { cause = c.2.cause; read = λ e. g (c.2.read e) })
check_fault one two None first_failed second_failed given_failed first second condition choice how order f g h (Given fault) c = c
check_fault one two (Some known) first_failed second_failed given_failed first second condition choice how order f g h (Given fault) c = (c.0, c.1, c.2, c.3, record { cause = c.4.cause; read = λ e. h (c.4.read e) })
check_fault one two given first_failed second_failed given_failed first second condition choice how order f g h GivenOutputs c = c
check_fault one two given first_failed second_failed given_failed first second condition choice how order f g h (OrderRefused fault) c = c
check_fault one two given first_failed second_failed given_failed first second condition choice how order f g h Only c = c
check_fault one two given first_failed second_failed given_failed first second condition choice how order f g h Explain c = c
check_fault one two given first_failed second_failed given_failed first second condition choice how order f g h (Wave fault) c = c
check_fault one two given first_failed second_failed given_failed first second condition choice how order f g h GivenUp c = c
check_fault one two given first_failed second_failed given_failed first second condition choice how order f g h Write c = c
check_fault one two given first_failed second_failed given_failed first second condition choice how order f g h OutOfMemory c = c

-- the same of the faults of a report
pub report_fault : (one two : Option (List ℕ)) (given : Option (Option (List ℕ))) (first_failed second_failed given_failed first second condition : Type 0) (s : Settings) → (first_failed → first) → (second_failed → second) → (given_failed → condition) → (fault : CheckFault) →
    IsReportFault (device_texts one two given) first_failed second_failed given_failed s fault → IsReportFault (device_texts one two given) first second condition s fault
report_fault one two given first_failed second_failed given_failed first second condition s f g h fault (inl unknown) = inl unknown
report_fault one two given first_failed second_failed given_failed first second condition s f g h fault (inr c) =
    inr (c.0, c.1, check_fault one two given first_failed second_failed given_failed first second condition s.order s.matching c.0 f g h fault c.2)

-- reading does not change the path at which a file was opened
pub failed_at : {File : Type 0} (origin : File → Option (List ℕ)) (has_failed : File → Bool) (path : List ℕ) (before after : File) → IfSome (origin before) (λ from. from ≡ path) → origin after ≡ origin before
    → IsTrue (has_failed after) → HasFailedAt origin has_failed path
failed_at origin has_failed path before after named same failed = (after, subst (λ o. IfSome o (λ from. from ≡ path)) (sym same) named, failed)

-- the same of the condition's file
pub given_failed : {File : Type 0} (origin : File → Option (List ℕ)) (has_failed : File → Bool) (path : Option (Bor (List ℕ))) (before after : Option File) → IsGivenFrom path (device_text origin before) → device_text origin after ≡ device_text origin before
    → HasFailedIn has_failed after → HasGivenFailed (HasFailedAt origin has_failed) path
given_failed origin has_failed path before None named same failed = absurd failed
given_failed origin has_failed None before (Some file) named same failed = let none : Some (origin file) ≡ None = same ∙ named in cc
given_failed origin has_failed (Some path) before (Some file) named same failed =
    let is : Some (origin file) ≡ Some named.0 = same ∙ named.1 in
    let from : origin file ≡ named.0 = cc in
    (file, subst (λ o. IfSome o (λ p. p ≡ path.now)) (sym from) named.2, failed)

pub first_failed : (broken : List ℕ → Type 0) (input_broken : Type 0) (texts known : Texts) → texts ≡ known → HasFirstFailed broken input_broken known → HasFirstFailed broken input_broken texts
first_failed broken input_broken texts known is b = subst (λ t. HasFirstFailed broken input_broken t) (sym is) b

pub second_failed : (broken : List ℕ → Type 0) (input_broken : Type 0) (texts known : Texts) → texts ≡ known → HasSecondFailed broken input_broken known → HasSecondFailed broken input_broken texts
second_failed broken input_broken texts known is b = subst (λ t. HasSecondFailed broken input_broken t) (sym is) b

-- a text in memory never fails
pub never : (A : Type 0) → IsTrue false → A
never A e = cc

-- the cause of refusing the text of a file is one of refusing the file at its path
refused_as : (known given : Option (List ℕ)) (fault : OrderFault) → IfSome known (λ text. given ≡ Some text) → (fault ≡ NoOrderMemory) ⊎ (fault ≡ OrderReadFailed) ⊎ IfSome given (λ text. IsBadText text fault)
    → (fault ≡ NoOrderMemory) ⊎ (fault ≡ OrderReadFailed) ⊎ IfSome known (λ text. IsBadText text fault)
refused_as None given fault same (inl e) = inl e
refused_as None given fault same (inr (inl e)) = inr (inl e)
refused_as None given fault same (inr (inr bad)) = inr (inr tt)
refused_as (Some text) given fault same (inl e) = inl e
refused_as (Some text) given fault same (inr (inl e)) = inr (inl e)
refused_as (Some text) given fault same (inr (inr bad)) = inr (inr (subst (λ g. IfSome g (λ t. IsBadText t fault)) same bad))

pub order_refused : {File : Type 0} (origin : File → Option (List ℕ)) (has_failed : File → Bool) (path : List ℕ) (before after : File) (known given : Option (List ℕ)) (fault : OrderFault) → IfSome known (λ text. given ≡ Some text)
    → (fault ≡ NoOrderMemory) ⊎ (fault ≡ OrderReadFailed) ⊎ IfSome given (λ text. IsBadText text fault) → IfSome (origin before) (λ from. from ≡ path) → origin after ≡ origin before → (fault ≡ OrderReadFailed → IsTrue (has_failed after))
    → IsOrderRefused known (HasFailedAt origin has_failed path) fault
order_refused origin has_failed path before after known given fault is_known cause named same read = record {
  cause = refused_as known given fault is_known cause;
  read = λ e. failed_at origin has_failed path before after named same (read e);
}

-- the same of a file of pairs
pairs_refused_as : (known given : Option (List ℕ)) (fault : PairsFault) → IfSome known (λ text. given ≡ Some text) → (fault ≡ NoPairsMemory) ⊎ (fault ≡ PairsReadFailed) ⊎ IfSome given (λ text. IsBadPairText text fault)
    → (fault ≡ NoPairsMemory) ⊎ (fault ≡ PairsReadFailed) ⊎ IfSome known (λ text. IsBadPairText text fault)
pairs_refused_as None given fault same (inl e) = inl e
pairs_refused_as None given fault same (inr (inl e)) = inr (inl e)
pairs_refused_as None given fault same (inr (inr bad)) = inr (inr tt)
pairs_refused_as (Some text) given fault same (inl e) = inl e
pairs_refused_as (Some text) given fault same (inr (inl e)) = inr (inl e)
pairs_refused_as (Some text) given fault same (inr (inr bad)) = inr (inr (subst (λ g. IfSome g (λ t. IsBadPairText t fault)) same bad))

pub pairs_refused : {File : Type 0} (origin : File → Option (List ℕ)) (has_failed : File → Bool) (path : List ℕ) (before after : File) (known given : Option (List ℕ)) (fault : PairsFault) → IfSome known (λ text. given ≡ Some text)
    → (fault ≡ NoPairsMemory) ⊎ (fault ≡ PairsReadFailed) ⊎ IfSome given (λ text. IsBadPairText text fault) → IfSome (origin before) (λ from. from ≡ path) → origin after ≡ origin before → (fault ≡ PairsReadFailed → IsTrue (has_failed after))
    → IsPairsRefused known (HasFailedAt origin has_failed path) fault
pairs_refused origin has_failed path before after known given fault is_known cause named same read = record {
  cause = pairs_refused_as known given fault is_known cause;
  read = λ e. failed_at origin has_failed path before after named same (read e);
}
