-- The comparison of two texts, step by step: the texts themselves, the files that are opened after them, and the check
-- by the settings.
use Rattle.std.specs.Prelude.{◌≡◌, ◌≢◌, ◌⊎◌, ℕ, Bool, false, List, Option, Some, IfSome, ⊤}
use Rattle.std.specs.Io.KnownBytes.{Appends}
use Rattle.expand_work.specs.declared.fault.WaveFault.TheVariants.{Full, NoWorker, TooManyRequests, Stopped}
use Rattle.expand_work.specs.Bounds.{MayStop, WaveBound}
use Rattle.compare_built.specs.Devices.{DeviceTexts, device_texts}
use Rattle.compare_built.specs.Limits.{AreBeyond}
use Rattle.compare_built.specs.Attempts.{AreGivenUp, InEachOrder, IsSearchGivenUp, MayGoByCones as MayCheckByCones}
use Rattle.compare_built.specs.Attempts.{NamesOrder as NamesCheckOrder, last_budget}
use Rattle.explain_report.specs.Deciding.{IsUnknown}
use Rattle.explain_report.specs.Explaining.{AreTargetsKnown, IsAfterNames, IsReportFault}
use Rattle.compare_built.specs.declared.fault.CheckFault.{CheckFault}
use Rattle.compare_built.specs.declared.fault.CheckFault.TheVariants.{First, Second, Given, GivenOutputs, Order as OrderRefused, Only, Explain}
use Rattle.compare_built.specs.declared.fault.CheckFault.TheVariants.{Wave, GivenUp, Write, OutOfMemory}
use Rattle.compare_built.specs.declared.strategy.Strategy.{Strategy}
use Rattle.report_text.specs.declared.pair_filter.PairFilter.{PairFilter}
use Rattle.report_text.specs.declared.cause.PairName.{PairName}
use Rattle.compare_built.specs.declared.settings.Settings.{Settings}
use Rattle.net_rename.specs.declared.pair.NamePair.{NamePair}
use Rattle.net_rename.specs.declared.fault.PairsFault.TheVariants.{OutOfMemory as NoPairsMemory}
use Rattle.net_rename.specs.Renaming.{AreBadPairs, renamed_text}
use Rattle.net_bench.specs.Circuit.{Circuit}
use Rattle.compare_built.specs.Check.{Gives, IsUnread}
use Rattle.command_line.specs.declared.options.Options.{Options}
use Rattle.check_tool.specs.declared.done.Done.{Done}
use Rattle.check_tool.specs.declared.fault.ToolFault.{ToolFault}
use Rattle.check_tool.specs.declared.fault.ToolFault.TheVariants.{BadPairs, Check, InputUnread}
use Rattle.check_tool.specs.Ending.{Written, HasFront}
use Rattle.check_tool.specs.Opening.{Try, Extends, opened}
use Rattle.check_tool.specs.Running.{text_paths, later_paths, named_text, ArePairsFor, AreTexts, IsGivenOf, IsPairsOf, IsReadOf, IsOrderOf, IsPickedOf, AreSettings, IsMade, bound_of}
use Rattle.check_tool.specs.Running.{IsLaterFault, IsToolFault, HasFirstFailed, HasSecondFailed, HasGivenFailed, attempt_of}

-- A check of these texts by these settings, or a print of their order, has written what is asked for, and the attempts
-- before the reported one were given up.
pub record IsChecked (sources : DeviceTexts) (s : Settings) (bound : WaveBound) (print : Bool) (w : Written) (done : Done) : Type 0 where
  pub bytes : List ℕ
  pub made : IsMade sources s bound print done bytes
  pub appended : Appends w.held w.holds bytes
  pub earlier_given_up : IfSome (attempt_of done) (AreGivenUp sources s.matching (last_budget s.order s.limit) bound)

-- A check has failed, and this is what each fault implies besides its cause. With Write a front part was written.
pub record IsUnchecked (sources : DeviceTexts) (s : Settings) (bound : WaveBound) (print : Bool)
    (first_failed second_failed given_failed : Type 0) (w : Written) (fault : ToolFault) : Type 0 where
  pub check : CheckFault
  pub is : fault ≡ Check check
  pub cause : IsReportFault sources first_failed second_failed given_failed s check
  pub full : check ≡ Wave Full → InEachOrder sources s.matching s.order (λ order. AreBeyond sources s.matching order s.limit)
  pub given_up : check ≡ GivenUp → IsSearchGivenUp sources s.matching s.order s.limit bound
  pub by_cones : MayCheckByCones s.order → (check ≢ Wave Full) × (check ≢ GivenUp)
  pub thread_for_named_order : check ≡ Wave NoWorker → (print ≡ false) × NamesCheckOrder s.order
  pub stopped : check ≡ Wave Stopped → (MayCheckByCones s.order → ⊥) × MayStop bound
  pub only : check ≡ Only → IsUnknown sources s.picked
  pub names_first : print ≡ false → IsAfterNames check → AreTargetsKnown sources s.explain.items
  pub never_too_many_requests : check ≢ Wave TooManyRequests
  pub front : check ≡ Write → (done : Done) × (bytes : List ℕ) × IsMade sources s bound print done bytes × HasFront w bytes

-- The files after those of the texts were opened, and the condition, the pairs and the settings are those that the
-- options ask for.
pub record IsReady (bytes_at : List ℕ → Option (List ℕ)) (o : Options) (tried tries : Option (List Try)) (given : Option (Option (List ℕ)))
    (pairs : Option (List NamePair)) (s : Settings) : Type 0 where
  pub choice : Strategy
  pub picked : PairFilter PairName
  pub conditioned : IsGivenOf bytes_at o.given given
  pub paired : IsPairsOf bytes_at o.pairs pairs
  pub ordered : IsOrderOf bytes_at o.order choice
  pub picks : IsPickedOf o.picks picked
  pub set : AreSettings o choice picked s
  pub opened_all : Extends tried tries (opened (later_paths o))

-- one of these files could not be opened or read: the files that were tried, and the cause
abbrev pub IsUnready : (List ℕ → Option (List ℕ)) → (broken : List ℕ → Type 0) → Options → (tried tries : Option (List Try)) → ToolFault
    → Type 0
IsUnready bytes_at broken o tried tries fault = (ts : List Try) × Extends tried tries ts × IsLaterFault bytes_at broken o ts fault

-- the property holds of the texts that two devices give
abbrev pub OfTexts : (first second : Option (List ℕ)) → (Option (List ℕ) → Option (List ℕ) → Type 0) → Type 0
OfTexts first second P = (one two : Option (List ℕ)) × IsReadOf first one × IsReadOf second two × P one two

-- Two texts were compared, or their order printed, after these files were opened.
pub record IsComparison (bytes_at : List ℕ → Option (List ℕ)) (one two : Option (List ℕ)) (o : Options) (tried tries : Option (List Try))
    (w : Written) (done : Done) : Type 0 where
  pub given : Option (Option (List ℕ))
  pub pairs : Option (List NamePair)
  pub settings : Settings
  pub ready : IsReady bytes_at o tried tries given pairs settings
  pub paired : ArePairsFor pairs one two
  pub checked : IsChecked (device_texts one (named_text pairs two) given) settings (bound_of o) o.print_order w done

-- The comparison has failed, for this cause.
pub record IsFailedComparison (bytes_at : List ℕ → Option (List ℕ)) (broken : List ℕ → Type 0) (one two : Option (List ℕ))
    (first_failed second_failed : Type 0) (o : Options) (tried tries : Option (List Try)) (w : Written) (fault : ToolFault) : Type 0 where
  pub given : Option (Option (List ℕ))
  pub pairs : Option (List NamePair)
  pub settings : Settings
  pub ready : IsReady bytes_at o tried tries given pairs settings
  pub paired : ArePairsFor pairs one two
  pub unchecked : IsUnchecked (device_texts one (named_text pairs two) given) settings (bound_of o) o.print_order first_failed second_failed
      (HasGivenFailed broken o.given) w fault

-- The second text with the names that the pairs give it. The pairs are pairs of the netlists of both texts.
pub record AreNamedTexts (known : Option (List ℕ)) (pairs : List NamePair) (first named : List ℕ) : Type 0 where
  pub two : List ℕ
  pub read : IfSome known (λ text. two ≡ text)
  pub renamed : named ≡ renamed_text pairs two
  pub paired : ArePairsFor (Some pairs) (Some first) (Some two)

-- why the second text could not be given the first netlist's names: a text was not accepted, or the pairs are not pairs
-- of the two netlists
abbrev pub IsNamingFault : (one two : Option (List ℕ)) → (first_failed second_failed : Type 0) → List NamePair → ToolFault → Type 0
IsNamingFault one two first_failed second_failed pairs (Check (First fault)) = IsUnread one first_failed fault
IsNamingFault one two first_failed second_failed pairs (Check (Second fault)) = (a : Circuit) × Gives one a × IsUnread two second_failed fault
IsNamingFault one two first_failed second_failed pairs (BadPairs fault) =
    (fault ≡ NoPairsMemory) ⊎ ((a b : Circuit) × Gives one a × Gives two b × AreBadPairs a b pairs fault)
IsNamingFault one two first_failed second_failed pairs (Check fault) = ⊥
IsNamingFault one two first_failed second_failed pairs fault = ⊥

-- There are pairs, and the second text could not be given the first netlist's names.
pub record IsUnnamed (bytes_at : List ℕ → Option (List ℕ)) (one two : Option (List ℕ)) (first_failed second_failed : Type 0) (o : Options)
    (tried tries : Option (List Try)) (fault : ToolFault) : Type 0 where
  pub given : Option (Option (List ℕ))
  pub pairs : List NamePair
  pub settings : Settings
  pub ready : IsReady bytes_at o tried tries given (Some pairs) settings
  pub cause : IsNamingFault one two first_failed second_failed pairs fault

-- The texts that the options name were read, these files were tried, and the texts were compared.
pub record IsRunOf (bytes_at : List ℕ → Option (List ℕ)) (input : Option (List ℕ)) (o : Options) (tried tries : Option (List Try))
    (w : Written) (done : Done) : Type 0 where
  pub one : Option (List ℕ)
  pub two : Option (List ℕ)
  pub between : Option (List Try)
  pub texts : AreTexts bytes_at input o.texts one two
  pub opened_all : Extends tried between (opened (text_paths o.texts))
  pub comparison : IsComparison bytes_at one two o between tries w done

-- The texts were read, and their comparison has failed.
pub record IsFailedAfterTexts (bytes_at : List ℕ → Option (List ℕ)) (broken : List ℕ → Type 0) (input_broken : Type 0)
    (input : Option (List ℕ)) (o : Options) (tried tries : Option (List Try)) (w : Written) (fault : ToolFault) : Type 0 where
  pub one : Option (List ℕ)
  pub two : Option (List ℕ)
  pub between : Option (List Try)
  pub texts : AreTexts bytes_at input o.texts one two
  pub opened_all : Extends tried between (opened (text_paths o.texts))
  pub failed : IsFailedComparison bytes_at broken one two (HasFirstFailed broken input_broken o.texts)
      (HasSecondFailed broken input_broken o.texts) o between tries w fault

-- a fault of one of the two texts
abbrev pub IsTextFault : CheckFault → Type 0
IsTextFault (First fault) = ⊤
IsTextFault (Second fault) = ⊤
IsTextFault (Given fault) = ⊥
IsTextFault GivenOutputs = ⊥
IsTextFault (OrderRefused fault) = ⊥
IsTextFault Only = ⊥
IsTextFault Explain = ⊥
IsTextFault (Wave fault) = ⊥
IsTextFault GivenUp = ⊥
IsTextFault Write = ⊥
IsTextFault OutOfMemory = ⊥

-- No check was begun: a file or a text of the input could not be read, or the second text could not be given the first
-- netlist's names.
pub record IsFailedBeforeCheck (bytes_at : List ℕ → Option (List ℕ)) (broken : List ℕ → Type 0) (input_broken : Type 0) (input : Option (List ℕ))
    (o : Options) (tried tries : Option (List Try)) (fault : ToolFault) : Type 0 where
  pub made : List Try
  pub extended : Extends tried tries made
  pub cause : IsToolFault bytes_at broken input_broken input o made fault
  pub unchecked : (check : CheckFault) → fault ≡ Check check → IsTextFault check
  pub read : fault ≡ InputUnread → input_broken

-- a run has failed before its check, or in it
abbrev pub IsFailedRun : (List ℕ → Option (List ℕ)) → (broken : List ℕ → Type 0) → (input_broken : Type 0) → Option (List ℕ) → Options
    → (tried tries : Option (List Try)) → Written → ToolFault → Type 0
IsFailedRun bytes_at broken input_broken input o tried tries w fault =
    IsFailedBeforeCheck bytes_at broken input_broken input o tried tries fault ⊎ IsFailedAfterTexts bytes_at broken input_broken input o tried tries w fault
