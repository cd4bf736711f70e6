-- What a run compares and writes, and why it writes no report.
use Rattle.std.specs.Prelude.{◌≡◌, ◌≢◌, ◌<◌, ◌≤◌, ◌⊎◌, ◌/◌, ℕ, min, Bool, true, false, List, [], ◌∷◌, ◌++◌, length, Option, Some}
use Rattle.std.specs.Prelude.{None, IfSome, ⊤, codes, is_some, option_map}
use Rattle.std.specs.Borrow.{Bor}
use Rattle.std.specs.List.{AllZip}
use Rattle.std.specs.Io.KnownBytes.{Appends}
use Rattle.expand_work.specs.Bounds.{WaveBound}
use Rattle.report_text.specs.Writing.{AppendsFront}
use Rattle.net_names.specs.declared.order.Order.{Order}
use Rattle.net_names.specs.declared.order.Order.TheVariants.{Declared as declared, Depth as depth, Interleave as interleave}
use Rattle.net_names.specs.declared.order.Order.TheVariants.{Index as index, Force as force, Listed, Extended as extended}
use Rattle.net_names.specs.declared.order_name.OrderName.TheVariants.{Declared, Depth, Interleave, Index, Force, MsbFirst, Weights, ForceGroups}
use Rattle.net_names.specs.declared.order.OrderFault.{OrderFault}
use Rattle.net_names.specs.declared.order.OrderFault.TheVariants.{Read as OrderReadFailed, OutOfMemory as NoOrderMemory}
use Rattle.net_names.specs.OrderText.{IsOrderText, IsBadText}
use Rattle.net_rename.specs.declared.pair.NamePair.{NamePair}
use Rattle.net_rename.specs.declared.fault.PairsFault.{PairsFault}
use Rattle.net_rename.specs.declared.fault.PairsFault.TheVariants.{Read as PairsReadFailed, OutOfMemory as NoPairsMemory}
use Rattle.net_rename.specs.PairText.{IsBadPairText, IsPairText}
use Rattle.net_rename.specs.Renaming.{AreBadPairs, ArePairsOf, renamed_text}
use Rattle.check_report.specs.Listing.{IsListing}
use Rattle.net_bench.specs.Circuit.{Circuit}
use Rattle.compare_built.specs.Check.{Gives, IsCheckFault}
use Rattle.compare_built.specs.Devices.{DeviceTexts, device_texts}
use Rattle.compare_built.specs.declared.fault.CheckFault.{CheckFault}
use Rattle.compare_built.specs.declared.fault.CheckFault.TheVariants.{First as FirstRefused, Second as SecondRefused}
use Rattle.net_bench.specs.declared.fault.BenchFault.{BenchFault}
use Rattle.compare_built.specs.Limits.{AreBeyond}
use Rattle.compare_built.specs.Attempts.{AreGivenUp, InEachOrder, IsAllowed, IsSearchGivenUp, last_budget}
use Rattle.compare_built.specs.declared.strategy.Attempt.{Attempt}
use Rattle.compare_built.specs.declared.strategy.Strategy.{Strategy}
use Rattle.compare_built.specs.declared.strategy.Candidate.TheVariants as candidates
use Rattle.compare_built.specs.declared.strategy.Strategy.TheVariants.{One as Ordered, Computed, Best as TheBest, Auto as Found, Cones as ByCones, ConesByList as ByConesOfList, Merge as ByMerging}
use Rattle.compare_built.specs.declared.settings.Settings.{Settings}
use Rattle.explain_report.specs.Deciding.{IsUnknown}
use Rattle.explain_report.specs.Dumping.{IsReportWithVcd, bytes_in}
use Rattle.explain_report.specs.Explaining.{AreTargetsKnown, IsUnexplained}
use Rattle.report_text.specs.declared.cause.PairName.{PairName}
use Rattle.report_text.specs.declared.outcome.PairKind.{PairKind}
use Rattle.report_text.specs.declared.outcome.PairKind.TheVariants.{Output, NextState}
use Rattle.report_text.specs.declared.pair_filter.PairFilter.{PairFilter}
use Rattle.report_text.specs.declared.pair_filter.PairFilter.TheVariants.{All, Only, Share}
use Rattle.command_line.specs.declared.options.Options.{Options}
use Rattle.command_line.specs.declared.options.OrderChoice.{OrderChoice}
use Rattle.command_line.specs.declared.options.OrderChoice.TheVariants.{Named, Best, Auto, Cones, ConesByList, Merge, File, Extended}
use Rattle.command_line.specs.declared.options.Texts.{Texts}
use Rattle.command_line.specs.declared.options.Texts.TheVariants.{Input, Files, InputAndFile, FileAndInput, InputTwice, One}
use Rattle.check_tool.specs.declared.done.Done.{Done}
use Rattle.check_tool.specs.declared.done.Done.TheVariants.{Compared, OrderPrinted}
use Rattle.check_tool.specs.declared.fault.FileRole.{FileRole}
use Rattle.check_tool.specs.declared.fault.FileRole.TheVariants.{First, Second, Given as GivenFile, Pairs as PairsFile, Order as OrderFile}
use Rattle.check_tool.specs.declared.fault.ToolFault.{ToolFault}
use Rattle.check_tool.specs.declared.fault.ToolFault.TheVariants.{OneFile, InputTwice as DashTwice, CannotOpen, CannotSave, InputUnread}
use Rattle.check_tool.specs.declared.fault.ToolFault.TheVariants.{InputTooLong, InputUndivided, BadPairs, BadOrder, Check, OutOfMemory}
use Rattle.check_tool.specs.declared.folder.Obstacle.{Obstacle}
use Rattle.check_tool.specs.Splitting.{IsSplit}
use Rattle.check_tool.specs.Opening.{Try, opened, AreTried}

-- a file in this role could not be opened
abbrev pub IsOpenFault : FileRole → ToolFault → Type 0
IsOpenFault place fault = ((obstacle : Obstacle) × (fault ≡ CannotOpen place obstacle)) ⊎ (fault ≡ OutOfMemory)

-- the path of the file of the first text, if it is in one
abbrev pub first_paths : Texts → List (List ℕ)
first_paths (Files first second) = first.now ∷ []
first_paths (FileAndInput first) = first.now ∷ []
first_paths (InputAndFile second) = []
first_paths Input = []
first_paths InputTwice = []
first_paths One = []

-- the same of the second text
abbrev pub second_paths : Texts → List (List ℕ)
second_paths (Files first second) = second.now ∷ []
second_paths (InputAndFile second) = second.now ∷ []
second_paths (FileAndInput first) = []
second_paths Input = []
second_paths InputTwice = []
second_paths One = []

-- the files that are opened for the texts, in this sequence
abbrev pub text_paths : Texts → List (List ℕ)
text_paths texts = first_paths texts ++ second_paths texts

-- one of the texts, or both, are on standard input
abbrev pub AreOnStandardInput : Texts → Type 0
AreOnStandardInput Input = ⊤
AreOnStandardInput (InputAndFile second) = ⊤
AreOnStandardInput (FileAndInput first) = ⊤
AreOnStandardInput (Files first second) = ⊥
AreOnStandardInput InputTwice = ⊥
AreOnStandardInput One = ⊥

-- two texts are named, and standard input is at most one of the two arguments
abbrev pub AreTwo : Texts → Type 0
AreTwo Input = ⊤
AreTwo (Files first second) = ⊤
AreTwo (InputAndFile second) = ⊤
AreTwo (FileAndInput first) = ⊤
AreTwo InputTwice = ⊥
AreTwo One = ⊥

-- the file that is opened for the order
abbrev pub order_paths : OrderChoice → List (List ℕ)
order_paths (File path) = path.now ∷ []
order_paths (Extended path) = path.now ∷ []
order_paths (ConesByList path) = path.now ∷ []
order_paths (Named name) = []
order_paths Best = []
order_paths Auto = []
order_paths Cones = []
order_paths Merge = []

-- a path, if there is one
abbrev pub path_in : Option (Bor (List ℕ)) → List (List ℕ)
path_in None = []
path_in (Some path) = path.now ∷ []

-- the files that are opened after those of the texts, in this sequence
abbrev pub later_paths : Options → List (List ℕ)
later_paths o = path_in o.given ++ (path_in o.pairs ++ order_paths o.order)

-- all files that are opened, in this sequence
abbrev pub paths_of : Options → List (List ℕ)
paths_of o = text_paths o.texts ++ later_paths o

-- what is read of a file is what is known of it, if something is known
abbrev pub IsReadOf : Option (List ℕ) → Option (List ℕ) → Type 0
IsReadOf known read = IfSome known (λ text. read ≡ Some text)

-- an input that is no longer than two texts and the line between them
abbrev pub IsShort : List ℕ → Type 0
IsShort text = length text ≤ 134221824

-- the two texts: of two files, of a file and the whole input, or the parts of the input
abbrev pub AreTexts : (List ℕ → Option (List ℕ)) → Option (List ℕ) → Texts → Option (List ℕ) → Option (List ℕ) → Type 0
AreTexts bytes_at input (Files first second) one two = IsReadOf (bytes_at first.now) one × IsReadOf (bytes_at second.now) two
AreTexts bytes_at input Input one two = IfSome input (λ text. IsShort text × (parts : List ℕ × List ℕ) × IsSplit text (Some parts)
    × (one ≡ Some parts.0) × (two ≡ Some parts.1))
AreTexts bytes_at input (InputAndFile second) one two = IsReadOf input one × IsReadOf (bytes_at second.now) two
AreTexts bytes_at input (FileAndInput first) one two = IsReadOf (bytes_at first.now) one × IsReadOf input two
AreTexts bytes_at input InputTwice one two = ⊥
AreTexts bytes_at input One one two = ⊥

-- what is read from the condition's file, if there is a condition
abbrev pub IsGivenOf : (List ℕ → Option (List ℕ)) → Option (Bor (List ℕ)) → Option (Option (List ℕ)) → Type 0
IsGivenOf bytes_at None given = given ≡ None
IsGivenOf bytes_at (Some path) given = (read : Option (List ℕ)) × (given ≡ Some read) × IsReadOf (bytes_at path.now) read

-- the path at which the condition's file was opened, if the device knows it
abbrev pub IsGivenFrom : Option (Bor (List ℕ)) → Option (Option (List ℕ)) → Type 0
IsGivenFrom None origin = origin ≡ None
IsGivenFrom (Some path) origin = (from : Option (List ℕ)) × (origin ≡ Some from) × IfSome from (λ p. p ≡ path.now)

-- the pairs that were read from the file of pairs, if there is one
abbrev pub IsPairsOf : (List ℕ → Option (List ℕ)) → Option (Bor (List ℕ)) → Option (List NamePair) → Type 0
IsPairsOf bytes_at None pairs = pairs ≡ None
IsPairsOf bytes_at (Some path) pairs = (list : List NamePair) × (pairs ≡ Some list)
    × IfSome (bytes_at path.now) (λ text. IsPairText text list)

-- the second text as it is compared: if there are pairs, each signal of a pair has the first netlist's name in it
abbrev pub named_text : Option (List NamePair) → Option (List ℕ) → Option (List ℕ)
named_text None two = two
named_text (Some pairs) two = option_map (renamed_text pairs) two

-- the pairs, if there are some, are pairs of the netlists of these texts
abbrev pub ArePairsFor : Option (List NamePair) → (one two : Option (List ℕ)) → Type 0
ArePairsFor None one two = ⊤
ArePairsFor (Some pairs) one two = (a b : Circuit) × Gives one a × Gives two b × ArePairsOf a b pairs

-- the strategy for the order that the options choose; a file of names has been read
abbrev pub IsOrderOf : (List ℕ → Option (List ℕ)) → OrderChoice → Strategy → Type 0
IsOrderOf bytes_at (Named Declared) choice = choice ≡ Ordered declared
IsOrderOf bytes_at (Named Depth) choice = choice ≡ Ordered depth
IsOrderOf bytes_at (Named Interleave) choice = choice ≡ Ordered interleave
IsOrderOf bytes_at (Named Index) choice = choice ≡ Ordered index
IsOrderOf bytes_at (Named Force) choice = choice ≡ Ordered force
IsOrderOf bytes_at (Named MsbFirst) choice = choice ≡ Computed candidates.MsbFirst
IsOrderOf bytes_at (Named Weights) choice = choice ≡ Computed candidates.Weights
IsOrderOf bytes_at (Named ForceGroups) choice = choice ≡ Computed candidates.ForceGroups
IsOrderOf bytes_at Best choice = choice ≡ TheBest
IsOrderOf bytes_at Auto choice = choice ≡ Found
IsOrderOf bytes_at Cones choice = choice ≡ ByCones
IsOrderOf bytes_at Merge choice = choice ≡ ByMerging
IsOrderOf bytes_at (File path) choice = (names : List (List ℕ)) × (choice ≡ Ordered (Listed names))
    × IfSome (bytes_at path.now) (λ text. IsOrderText text names)
IsOrderOf bytes_at (Extended path) choice = (names : List (List ℕ)) × (choice ≡ Ordered (extended names))
    × IfSome (bytes_at path.now) (λ text. IsOrderText text names)
IsOrderOf bytes_at (ConesByList path) choice = (names : List (List ℕ)) × (choice ≡ ByConesOfList names)
    × IfSome (bytes_at path.now) (λ text. IsOrderText text names)

-- the bytes of memory that are planned for each node of an attempt: 36 that a store takes for it, and 84 for each of
-- the two requests that a wave may have for it
abbrev pub node_bytes : ℕ
node_bytes = 204

-- the most nodes in this order: with auto, cones and merge no more than the memory suffices for
abbrev pub limit_in : OrderChoice → (limit memory : ℕ) → ℕ
limit_in Auto limit memory = min limit (memory / node_bytes)
limit_in Cones limit memory = min limit (memory / node_bytes)
limit_in Merge limit memory = min limit (memory / node_bytes)
limit_in (ConesByList path) limit memory = min limit (memory / node_bytes)
limit_in (Named name) limit memory = limit
limit_in Best limit memory = limit
limit_in (File path) limit memory = limit
limit_in (Extended path) limit memory = limit

-- the most nodes that the options allow
abbrev pub limit_of : Options → ℕ
limit_of o = limit_in o.order o.limit o.memory

-- pairs may be judged by their cones with this choice of an order
abbrev pub MayGoByCones : OrderChoice → Type 0
MayGoByCones Auto = ⊤
MayGoByCones Cones = ⊤
MayGoByCones Merge = ⊤
MayGoByCones (ConesByList path) = ⊤
MayGoByCones (Named name) = ⊥
MayGoByCones Best = ⊥
MayGoByCones (File path) = ⊥
MayGoByCones (Extended path) = ⊥

-- one order is named: it is not searched for, and no pair is judged by its cones
abbrev pub NamesOrder : OrderChoice → Type 0
NamesOrder (Named name) = ⊤
NamesOrder (File path) = ⊤
NamesOrder (Extended path) = ⊤
NamesOrder Best = ⊥
NamesOrder Auto = ⊥
NamesOrder Cones = ⊥
NamesOrder Merge = ⊥
NamesOrder (ConesByList path) = ⊥

-- what a name of the command line refers to: after `NEXT ` the next state of a register, and otherwise an output
abbrev pub IsKindAndName : (word : List ℕ) → PairKind → (name : List ℕ) → Type 0
IsKindAndName word Output name = (word ≡ name) × ((register : List ℕ) → word ≢ codes "NEXT " ++ register)
IsKindAndName word NextState name = word ≡ codes "NEXT " ++ name

-- the pair names for these names or patterns of the command line
abbrev pub AreTargetsOf : List (Bor (List ℕ)) → List PairName → Type 0
AreTargetsOf words targets = AllZip (λ (w : Bor (List ℕ)) (t : PairName). IsKindAndName w.now t.role t.name) words targets

-- the filter for the pairs that the options select
abbrev pub IsPickedOf : PairFilter (Bor (List ℕ)) → PairFilter PairName → Type 0
IsPickedOf All picked = picked ≡ All
IsPickedOf (Share share) picked = picked ≡ Share share
IsPickedOf (Only words) (Only patterns) = AreTargetsOf words.items patterns.items
IsPickedOf (Only words) All = ⊥
IsPickedOf (Only words) (Share share) = ⊥

-- The settings of a check that the options ask for, with this strategy and this filter.
pub record AreSettings (o : Options) (choice : Strategy) (picked : PairFilter PairName) (s : Settings) : Type 0 where
  pub matching : s.matching ≡ o.matching
  pub difference : s.difference ≡ o.difference
  pub order : s.order ≡ choice
  pub picked_pairs : s.picked ≡ picked
  pub limit : s.limit ≡ limit_of o
  pub sizes : s.sizes ≡ o.sizes
  pub json : s.json ≡ o.json
  pub explain : AreTargetsOf o.explain.items s.explain.items
  pub assignment : s.assignment ≡ o.assignment
  pub vcd : s.vcd ≡ is_some o.vcd
  pub causes : s.causes ≡ o.causes

-- the bound on the waves of a run of these options: none on requests; and the run may stop only if seconds are given
abbrev pub bound_of : Options → WaveBound
bound_of o = record { requests = None; stops = is_some o.seconds }

-- The bytes are what is asked for of these texts and the condition's by these settings: the report in its form, with
-- its counts and the VCD of the first pair that differs, or the order itself if it is to be printed. The nodes that are
-- needed in the order of a report are within the limit of the settings.
abbrev pub IsMade : DeviceTexts → Settings → (bound : WaveBound) → (print : Bool) → Done → (bytes : List ℕ) → Type 0
IsMade sources s bound print (Compared outcome tried vcd) bytes =
    (print ≡ false) × IsReportWithVcd sources s bound tried outcome bytes (bytes_in vcd)
IsMade sources s bound print (OrderPrinted tried) bytes = (print ≡ true) × IsListing sources s tried bytes

-- The bytes are what the options ask for of these two texts.
pub record IsCompared (bytes_at : List ℕ → Option (List ℕ)) (one two : Option (List ℕ)) (o : Options) (done : Done)
    (bytes : List ℕ) : Type 0 where
  pub given : Option (Option (List ℕ))
  pub choice : Strategy
  pub picked : PairFilter PairName
  pub settings : Settings
  pub pairs : Option (List NamePair)
  pub conditioned : IsGivenOf bytes_at o.given given
  pub paired : IsPairsOf bytes_at o.pairs pairs
  pub checked : ArePairsFor pairs one two
  pub ordered : IsOrderOf bytes_at o.order choice
  pub picks : IsPickedOf o.picks picked
  pub set : AreSettings o choice picked settings
  pub made : IsMade (device_texts one (named_text pairs two) given) settings (bound_of o) o.print_order done bytes

-- The bytes are what the options ask for of the texts that they name.
pub record IsReported (bytes_at : List ℕ → Option (List ℕ)) (input : Option (List ℕ)) (o : Options) (done : Done)
    (bytes : List ℕ) : Type 0 where
  pub one : Option (List ℕ)
  pub two : Option (List ℕ)
  pub texts : AreTexts bytes_at input o.texts one two
  pub compared : IsCompared bytes_at one two o done bytes

-- a device has taken what the options ask for, and nothing else
abbrev pub HasReported : (List ℕ → Option (List ℕ)) → Option (List ℕ) → Options → Option (List ℕ) → Option (List ℕ) → Done → Type 0
HasReported bytes_at input o before now done = (bytes : List ℕ) × IsReported bytes_at input o done bytes × Appends before now bytes

-- a device has taken a front part of it, and has failed or taken nothing of the rest
abbrev pub HasReportedFront : (List ℕ → Option (List ℕ)) → Option (List ℕ) → Options → (before now : Option (List ℕ))
    → (has_failed has_stopped : Bool) → Type 0
HasReportedFront bytes_at input o before now has_failed has_stopped =
    (done : Done) × (bytes : List ℕ) × IsReported bytes_at input o done bytes × AppendsFront before now has_failed has_stopped bytes

-- the property holds of the texts, the second one as it is compared, of the condition and of the order that the options
-- name
abbrev pub AreNamed : (List ℕ → Option (List ℕ)) → Option (List ℕ) → Options
    → (Option (List ℕ) → Option (List ℕ) → Option (Option (List ℕ)) → Strategy → Type 0) → Type 0
AreNamed bytes_at input o P =
    (one two : Option (List ℕ)) × (given : Option (Option (List ℕ))) × (pairs : Option (List NamePair)) × (choice : Strategy)
    × AreTexts bytes_at input o.texts one two × IsGivenOf bytes_at o.given given × IsPairsOf bytes_at o.pairs pairs
    × IsOrderOf bytes_at o.order choice × P one (named_text pairs two) given choice

-- the nodes that the texts need are not within the limit of the options, in the order that they name, or in that of
-- each candidate
abbrev pub IsBeyond : (List ℕ → Option (List ℕ)) → Option (List ℕ) → Options → Type 0
IsBeyond bytes_at input o = AreNamed bytes_at input o (λ one two given choice. InEachOrder (device_texts one two given) o.matching choice
    (λ order. AreBeyond (device_texts one two given) o.matching order (limit_of o)))

-- orders are tried, and each attempt within the limit of the options was given up, but not all of them for their nodes
abbrev pub IsGivenUp : (List ℕ → Option (List ℕ)) → Option (List ℕ) → Options → Type 0
IsGivenUp bytes_at input o = AreNamed bytes_at input o (λ one two given choice.
    IsSearchGivenUp (device_texts one two given) o.matching choice (limit_of o) (bound_of o))

-- the attempt that a report or an order comes from, if orders were tried and one of them succeeded
abbrev pub attempt_of : Done → Option Attempt
attempt_of (Compared outcome tried vcd) = tried
attempt_of (OrderPrinted tried) = tried

-- each attempt within a smaller budget than that of the reported one was given up, and within the first budget each
-- attempt before it
abbrev pub AreEarlierAttemptsGivenUp : (List ℕ → Option (List ℕ)) → Option (List ℕ) → Options → Done → Type 0
AreEarlierAttemptsGivenUp bytes_at input o done =
    IfSome (attempt_of done) (λ t. AreNamed bytes_at input o (λ one two given choice. AreGivenUp (device_texts one two given) o.matching
    (last_budget choice (limit_of o)) (bound_of o) t))

-- a pattern matches no output and no register of the first of these texts
abbrev pub ArePicksUnknown : (List ℕ → Option (List ℕ)) → (one two : Option (List ℕ)) → Options → Type 0
ArePicksUnknown bytes_at one two o =
    (given : Option (Option (List ℕ))) × (picked : PairFilter PairName) × IsGivenOf bytes_at o.given given × IsPickedOf o.picks picked
    × IsUnknown (device_texts one two given) picked

-- the same of the texts that the options name
abbrev pub AreUnknown : (List ℕ → Option (List ℕ)) → Option (List ℕ) → Options → Type 0
AreUnknown bytes_at input o = (one two : Option (List ℕ)) × AreTexts bytes_at input o.texts one two × ArePicksUnknown bytes_at one two o

-- each name that is to be explained is that of an output or a register of the first of the texts that the options name
abbrev pub IsExplainKnown : (List ℕ → Option (List ℕ)) → Option (List ℕ) → Options → Type 0
IsExplainKnown bytes_at input o =
    (one two : Option (List ℕ)) × (given : Option (Option (List ℕ))) × (targets : List PairName) × AreTexts bytes_at input o.texts one two
    × IsGivenOf bytes_at o.given given × AreTargetsOf o.explain.items targets × AreTargetsKnown (device_texts one two given) targets

-- a name that is to be explained is that of no output and no register of the first of these texts
abbrev pub AreTargetsUnknown : (one two : Option (List ℕ)) → (given : Option (Option (List ℕ))) → Options → CheckFault → Type 0
AreTargetsUnknown one two given o fault = (targets : List PairName) × AreTargetsOf o.explain.items targets
    × IsUnexplained (device_texts one two given) targets fault

-- why the check of two texts has failed, with this strategy
abbrev pub IsFailedCheck : (one two : Option (List ℕ)) → (given : Option (Option (List ℕ)))
    → (first_failed second_failed given_failed : Type 0) → Options → Strategy → CheckFault → Type 0
IsFailedCheck one two given first_failed second_failed given_failed o choice fault =
    AreTargetsUnknown one two given o fault
    ⊎ ((order : Order) × IsAllowed choice order × IsCheckFault
    (device_texts one two given) first_failed second_failed given_failed choice o.matching order fault)

-- the options name two texts, and both can be read
abbrev pub HasTexts : Option (List ℕ) → Texts → Type 0
HasTexts input (Files first second) = ⊤
HasTexts input Input = IfSome input (λ text. IsShort text × (parts : List ℕ × List ℕ) × IsSplit text (Some parts))
HasTexts input (InputAndFile second) = ⊤
HasTexts input (FileAndInput first) = ⊤
HasTexts input InputTwice = ⊥
HasTexts input One = ⊥

-- Why the order file was refused: memory was refused, the file has failed, or its text is not one of an order.
pub record IsOrderRefused (known : Option (List ℕ)) (has_failed : Type 0) (fault : OrderFault) : Type 0 where
  pub cause : (fault ≡ NoOrderMemory) ⊎ (fault ≡ OrderReadFailed) ⊎ IfSome known (λ text. IsBadText text fault)
  pub read : fault ≡ OrderReadFailed → has_failed

-- why the names of an order file could not be read, and whether it was tried; `broken` says of a path that a file that
-- was opened there has failed
abbrev pub IsListFault : (List ℕ → Option (List ℕ)) → (broken : List ℕ → Type 0) → (path : List ℕ) → List Try → ToolFault → Type 0
IsListFault bytes_at broken path tries (CannotOpen OrderFile obstacle) = tries ≡ (path, false) ∷ []
IsListFault bytes_at broken path tries (BadOrder fault) = (tries ≡ opened (path ∷ [])) × IsOrderRefused (bytes_at path) (broken path) fault
IsListFault bytes_at broken path tries OutOfMemory = AreTried (path ∷ []) tries
IsListFault bytes_at broken path tries (CannotOpen First obstacle) = ⊥
IsListFault bytes_at broken path tries (CannotOpen Second obstacle) = ⊥
IsListFault bytes_at broken path tries (CannotOpen GivenFile obstacle) = ⊥
IsListFault bytes_at broken path tries (CannotOpen PairsFile obstacle) = ⊥
IsListFault bytes_at broken path tries (BadPairs fault) = ⊥
IsListFault bytes_at broken path tries (CannotSave obstacle) = ⊥
IsListFault bytes_at broken path tries OneFile = ⊥
IsListFault bytes_at broken path tries DashTwice = ⊥
IsListFault bytes_at broken path tries InputUnread = ⊥
IsListFault bytes_at broken path tries InputTooLong = ⊥
IsListFault bytes_at broken path tries InputUndivided = ⊥
IsListFault bytes_at broken path tries (Check fault) = ⊥

-- why there is no order: its file, if it is from one
abbrev pub IsOrderFault : (List ℕ → Option (List ℕ)) → (broken : List ℕ → Type 0) → OrderChoice → List Try → ToolFault → Type 0
IsOrderFault bytes_at broken choice tries fault = (path : List ℕ) × (order_paths choice ≡ path ∷ []) × IsListFault bytes_at broken path tries fault

-- why the condition's file was not opened, and whether it was tried
abbrev pub IsGivenFault : Option (Bor (List ℕ)) → List Try → ToolFault → Type 0
IsGivenFault given tries (CannotOpen GivenFile obstacle) = (path : Bor (List ℕ)) × (given ≡ Some path) × (tries ≡ (path.now, false) ∷ [])
IsGivenFault given tries OutOfMemory = AreTried (path_in given) tries
IsGivenFault given tries (CannotOpen First obstacle) = ⊥
IsGivenFault given tries (CannotOpen Second obstacle) = ⊥
IsGivenFault given tries (CannotOpen OrderFile obstacle) = ⊥
IsGivenFault given tries (CannotOpen PairsFile obstacle) = ⊥
IsGivenFault given tries (BadPairs fault) = ⊥
IsGivenFault given tries (BadOrder fault) = ⊥
IsGivenFault given tries (CannotSave obstacle) = ⊥
IsGivenFault given tries OneFile = ⊥
IsGivenFault given tries DashTwice = ⊥
IsGivenFault given tries InputUnread = ⊥
IsGivenFault given tries InputTooLong = ⊥
IsGivenFault given tries InputUndivided = ⊥
IsGivenFault given tries (Check fault) = ⊥

-- Why the file of pairs was refused: memory was refused, the file has failed, or its text is not one of pairs.
pub record IsPairsRefused (known : Option (List ℕ)) (has_failed : Type 0) (fault : PairsFault) : Type 0 where
  pub cause : (fault ≡ NoPairsMemory) ⊎ (fault ≡ PairsReadFailed) ⊎ IfSome known (λ text. IsBadPairText text fault)
  pub read : fault ≡ PairsReadFailed → has_failed

-- why the file of pairs could not be read, and whether it was tried
abbrev pub IsPairsFault : (List ℕ → Option (List ℕ)) → (broken : List ℕ → Type 0) → Option (Bor (List ℕ)) → List Try → ToolFault → Type 0
IsPairsFault bytes_at broken pairs tries (CannotOpen PairsFile obstacle) = (path : Bor (List ℕ)) × (pairs ≡ Some path) × (tries ≡ (path.now, false) ∷ [])
IsPairsFault bytes_at broken pairs tries (BadPairs fault) = (path : Bor (List ℕ)) × (pairs ≡ Some path) × (tries ≡ opened (path.now ∷ []))
    × IsPairsRefused (bytes_at path.now) (broken path.now) fault
IsPairsFault bytes_at broken pairs tries OutOfMemory = AreTried (path_in pairs) tries
IsPairsFault bytes_at broken pairs tries (CannotOpen First obstacle) = ⊥
IsPairsFault bytes_at broken pairs tries (CannotOpen Second obstacle) = ⊥
IsPairsFault bytes_at broken pairs tries (CannotOpen GivenFile obstacle) = ⊥
IsPairsFault bytes_at broken pairs tries (CannotOpen OrderFile obstacle) = ⊥
IsPairsFault bytes_at broken pairs tries (BadOrder fault) = ⊥
IsPairsFault bytes_at broken pairs tries (CannotSave obstacle) = ⊥
IsPairsFault bytes_at broken pairs tries OneFile = ⊥
IsPairsFault bytes_at broken pairs tries DashTwice = ⊥
IsPairsFault bytes_at broken pairs tries InputUnread = ⊥
IsPairsFault bytes_at broken pairs tries InputTooLong = ⊥
IsPairsFault bytes_at broken pairs tries InputUndivided = ⊥
IsPairsFault bytes_at broken pairs tries (Check fault) = ⊥

-- why there are no pairs, after the condition's file was opened
abbrev pub IsPairsFaultAfterGiven : (List ℕ → Option (List ℕ)) → (broken : List ℕ → Type 0) → Options → List Try → ToolFault → Type 0
IsPairsFaultAfterGiven bytes_at broken o tries fault = (ts : List Try) × (tries ≡ opened (path_in o.given) ++ ts)
    × IsPairsFault bytes_at broken o.pairs ts fault

-- the file of pairs, if there is one, was accepted
abbrev pub ArePairsHad : (List ℕ → Option (List ℕ)) → Options → Type 0
ArePairsHad bytes_at o = (pairs : Option (List NamePair)) × IsPairsOf bytes_at o.pairs pairs

-- the file of the order, if there is one, was accepted
abbrev pub IsOrderHad : (List ℕ → Option (List ℕ)) → Options → Type 0
IsOrderHad bytes_at o = (choice : Strategy) × IsOrderOf bytes_at o.order choice

-- why there is no order, after the file of the condition was opened and that of the pairs was accepted
abbrev pub IsOrderFaultAfterPairs : (List ℕ → Option (List ℕ)) → (broken : List ℕ → Type 0) → Options → List Try → ToolFault → Type 0
IsOrderFaultAfterPairs bytes_at broken o tries fault = (ts : List Try) × (tries ≡ opened (path_in o.given ++ path_in o.pairs) ++ ts)
    × IsOrderFault bytes_at broken o.order ts fault × ArePairsHad bytes_at o

-- why one of the files after those of the texts could not be opened or read
abbrev pub IsLaterFault : (List ℕ → Option (List ℕ)) → (broken : List ℕ → Type 0) → Options → List Try → ToolFault → Type 0
IsLaterFault bytes_at broken o tries fault = IsGivenFault o.given tries fault
    ⊎ (IsPairsFaultAfterGiven bytes_at broken o tries fault ⊎ IsOrderFaultAfterPairs bytes_at broken o tries fault)

-- the second text that a fault is about: as it is compared, or as it was read if it is not the text of a netlist
abbrev pub IsSecondText : Option (List NamePair) → (two : Option (List ℕ)) → CheckFault → (second : Option (List ℕ)) → Type 0
IsSecondText pairs two fault second = (second ≡ named_text pairs two) ⊎ ((second ≡ two) × (refused : BenchFault) × (fault ≡ SecondRefused refused))

-- the fault is that of one of the two texts, which are read before the names of pairs are looked up in their netlists
abbrev pub IsOfTexts : CheckFault → Type 0
IsOfTexts fault = ((refused : BenchFault) × (fault ≡ FirstRefused refused)) ⊎ ((refused : BenchFault) × (fault ≡ SecondRefused refused))

-- the pairs of the file are not pairs of these texts' netlists: one of them has a name that a netlist does not have,
-- that is in its column twice, or that is not free
abbrev pub AreMispaired : (List ℕ → Option (List ℕ)) → (one two : Option (List ℕ)) → Options → PairsFault → Type 0
AreMispaired bytes_at one two o fault = (pairs : List NamePair) × IsPairsOf bytes_at o.pairs (Some pairs)
    × ((fault ≡ NoPairsMemory) ⊎ ((a b : Circuit) × Gives one a × Gives two b × AreBadPairs a b pairs fault))

-- the condition's file has failed
abbrev pub HasGivenFailed : (broken : List ℕ → Type 0) → Option (Bor (List ℕ)) → Type 0
HasGivenFailed broken None = ⊥
HasGivenFailed broken (Some path) = broken path.now

-- why the text of the input could not be read
abbrev pub IsInputFault : Option (List ℕ) → ToolFault → Type 0
IsInputFault input InputTooLong = IfSome input (λ text. 134221824 < length text)
IsInputFault input InputUnread = ⊤
IsInputFault input OutOfMemory = ⊤
IsInputFault input (Check fault) = ⊥
IsInputFault input (CannotOpen place obstacle) = ⊥
IsInputFault input (CannotSave obstacle) = ⊥
IsInputFault input (BadPairs fault) = ⊥
IsInputFault input (BadOrder fault) = ⊥
IsInputFault input OneFile = ⊥
IsInputFault input DashTwice = ⊥
IsInputFault input InputUndivided = ⊥

-- why a file could not be opened, with all that was tried before
abbrev pub IsUnopened : (List ℕ → Option (List ℕ)) → Option (List ℕ) → Options → List Try → FileRole → Type 0
IsUnopened bytes_at input o tries First = (path : List ℕ) × (first_paths o.texts ≡ path ∷ []) × (tries ≡ (path, false) ∷ [])
IsUnopened bytes_at input o tries Second = (path : List ℕ) × (second_paths o.texts ≡ path ∷ [])
    × (tries ≡ opened (first_paths o.texts) ++ (path, false) ∷ [])
IsUnopened bytes_at input o tries GivenFile =
    (path : Bor (List ℕ)) × (o.given ≡ Some path) × HasTexts input o.texts × (tries ≡ opened (text_paths o.texts) ++ (path.now, false) ∷ [])
IsUnopened bytes_at input o tries PairsFile =
    (path : Bor (List ℕ)) × (o.pairs ≡ Some path) × HasTexts input o.texts
    × (tries ≡ opened (text_paths o.texts ++ path_in o.given) ++ (path.now, false) ∷ [])
IsUnopened bytes_at input o tries OrderFile =
    (path : List ℕ) × (order_paths o.order ≡ path ∷ []) × HasTexts input o.texts
    × (tries ≡ opened (text_paths o.texts ++ (path_in o.given ++ path_in o.pairs)) ++ (path, false) ∷ []) × ArePairsHad bytes_at o

-- the device of the first text has failed: its file, or the input if that is the whole text; the parts of a divided
-- input are read from memory, which cannot fail
abbrev pub HasFirstFailed : (broken : List ℕ → Type 0) → (input_broken : Type 0) → Texts → Type 0
HasFirstFailed broken input_broken (Files first second) = broken first.now
HasFirstFailed broken input_broken (FileAndInput first) = broken first.now
HasFirstFailed broken input_broken (InputAndFile second) = input_broken
HasFirstFailed broken input_broken Input = ⊥
HasFirstFailed broken input_broken InputTwice = ⊥
HasFirstFailed broken input_broken One = ⊥

-- the same of the second text
abbrev pub HasSecondFailed : (broken : List ℕ → Type 0) → (input_broken : Type 0) → Texts → Type 0
HasSecondFailed broken input_broken (Files first second) = broken second.now
HasSecondFailed broken input_broken (InputAndFile second) = broken second.now
HasSecondFailed broken input_broken (FileAndInput first) = input_broken
HasSecondFailed broken input_broken Input = ⊥
HasSecondFailed broken input_broken InputTwice = ⊥
HasSecondFailed broken input_broken One = ⊥

-- Why there is no report, and which files were tried until then. Everything that is examined before the cause was
-- accepted. `broken` says of a path that a file that was opened there has failed, and `input_broken` that the input
-- has.
abbrev pub IsToolFault : (List ℕ → Option (List ℕ)) → (broken : List ℕ → Type 0) → (input_broken : Type 0) → Option (List ℕ) → Options
    → List Try → ToolFault → Type 0
IsToolFault bytes_at broken input_broken input o tries OneFile = (o.texts ≡ One) × (tries ≡ [])
IsToolFault bytes_at broken input_broken input o tries DashTwice = (o.texts ≡ InputTwice) × (tries ≡ [])
IsToolFault bytes_at broken input_broken input o tries (CannotOpen place obstacle) = IsUnopened bytes_at input o tries place
IsToolFault bytes_at broken input_broken input o tries (CannotSave obstacle) = ⊥
IsToolFault bytes_at broken input_broken input o tries InputUnread = (o.texts ≡ Input) × (tries ≡ [])
IsToolFault bytes_at broken input_broken input o tries InputTooLong = (o.texts ≡ Input) × (tries ≡ [])
    × IfSome input (λ text. 134221824 < length text)
IsToolFault bytes_at broken input_broken input o tries InputUndivided = (o.texts ≡ Input) × (tries ≡ [])
    × IfSome input (λ text. IsShort text × IsSplit text None)
IsToolFault bytes_at broken input_broken input o tries (BadPairs fault) =
    (path : Bor (List ℕ)) × (o.pairs ≡ Some path) × HasTexts input o.texts
    × (((tries ≡ opened (text_paths o.texts ++ (path_in o.given ++ path.now ∷ []))) × IsPairsRefused (bytes_at path.now) (broken path.now) fault)
    ⊎ ((tries ≡ opened (paths_of o)) × (one two : Option (List ℕ)) × AreTexts bytes_at input o.texts one two × AreMispaired bytes_at one two o fault
    × IsOrderHad bytes_at o))
IsToolFault bytes_at broken input_broken input o tries (BadOrder fault) =
    (path : List ℕ) × (order_paths o.order ≡ path ∷ []) × HasTexts input o.texts × (tries ≡ opened (paths_of o))
    × IsOrderRefused (bytes_at path) (broken path) fault × ArePairsHad bytes_at o
IsToolFault bytes_at broken input_broken input o tries (Check fault) =
    (one two second : Option (List ℕ)) × (given : Option (Option (List ℕ))) × (pairs : Option (List NamePair)) × (choice : Strategy)
    × AreTexts bytes_at input o.texts one two × IsSecondText pairs two fault second × IsGivenOf bytes_at o.given given
    × IsPairsOf bytes_at o.pairs pairs × IsOrderOf bytes_at o.order choice × (tries ≡ opened (paths_of o)) × IsFailedCheck one second given (HasFirstFailed broken input_broken o.texts)
    (HasSecondFailed broken input_broken o.texts) (HasGivenFailed broken o.given) o choice fault × (ArePairsFor pairs one two ⊎ IsOfTexts fault)
IsToolFault bytes_at broken input_broken input o tries OutOfMemory = AreTwo o.texts × AreTried (paths_of o) tries
