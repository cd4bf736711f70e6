-- From a check to a comparison of two texts, and from that to a run by the options.
use Rattle.std.proofs.Common.{◌≡◌, ◌≢◌, ◌∙◌, ◌++◌, ◌⊎◌, inl, inr, ℕ, Bool, false, List, [], Option, Some, None, Result, Ok, Err, IfOk, IfErr, OnOk, ap, refl, sym, subst}
use Rattle.std.specs.Prelude.{IfSome, Vec, option_map}
use Rattle.std.specs.declared.alloc.Global.{Global}
use Rattle.compare_built.specs.Devices.{device_texts}
use Rattle.compare_built.specs.declared.strategy.Attempt.{Attempt}
use Rattle.compare_built.specs.declared.fault.CheckFault.{CheckFault}
use Rattle.compare_built.specs.declared.fault.CheckFault.TheVariants.{First, Second, Only, Wave, GivenUp, Write}
use Rattle.compare_built.specs.declared.settings.Settings.{Settings}
use Rattle.compare_built.specs.Attempts.{AreGivenUp, MayGoByCones as MayCheckByCones, NamesOrder as NamesCheckOrder, last_budget}
use Rattle.expand_work.specs.Bounds.{MayStop, WaveBound}
use Rattle.expand_work.specs.declared.fault.WaveFault.TheVariants.{Full, NoWorker, TooManyRequests, Stopped}
use Rattle.command_line.specs.declared.options.Options.{Options}
use Rattle.std.specs.Borrow.{Bor}
use Rattle.net_rename.specs.declared.pair.NamePair.{NamePair}
use Rattle.command_line.specs.declared.options.Texts.{Texts}
use Rattle.command_line.specs.declared.options.Texts.TheVariants.{Input, Files, InputAndFile, FileAndInput, InputTwice, One}
use Rattle.check_tool.specs.declared.done.Done.{Done}
use Rattle.check_tool.specs.declared.fault.FileRole.{FileRole}
use Rattle.check_tool.specs.declared.fault.ToolFault.{ToolFault}
use Rattle.check_tool.specs.declared.fault.ToolFault.TheVariants.{OneFile, InputTwice as DashTwice, CannotOpen, CannotSave, InputUnread, InputTooLong, InputUndivided, BadPairs, BadOrder, Check, OutOfMemory}
use Rattle.check_tool.specs.Comparing.{IsChecked, IsUnchecked, IsReady, IsUnready, IsComparison, IsFailedComparison, IsNamingFault, IsTextFault, IsUnnamed, OfTexts, IsRunOf, IsFailedAfterTexts, IsFailedBeforeCheck, IsFailedRun}
use Rattle.check_tool.specs.Ending.{Written}
use Rattle.check_tool.specs.Failures.{AreNamesFirst, MayFail}
use Rattle.explain_report.specs.Explaining.{IsAfterNames}
use Rattle.check_tool.specs.Opening.{Try, Extends, opened}
use Rattle.check_tool.specs.Running.{AreNamed, AreEarlierAttemptsGivenUp, ArePairsFor, IsPairsOf, IsReadOf, named_text, AreTexts, AreTwo, AreUnknown, HasFirstFailed, HasGivenFailed, HasReported, HasReportedFront, HasSecondFailed, IsBeyond, IsExplainKnown, IsGivenUp, IsInputFault, IsLaterFault, IsOpenFault, IsToolFault, MayGoByCones, NamesOrder, attempt_of, bound_of, later_paths, limit_of, paths_of, text_paths}
use Rattle.net_names.specs.declared.order.Order.{Order}
use Rattle.compare_built.specs.Attempts.{IsAllowed}
use Rattle.explain_report.proofs.Trying.{some_order}
use Rattle.check_tool.proofs.Answering.{from_each}
use Rattle.check_tool.proofs.OptionsToSettings.{beyond, given_up, goes_by_cones, named_by, earlier_given_up, report_fault_of, unknown}
use Rattle.check_tool.proofs.Composing.{extends_more, extends_none, has_texts, later_fault, opened_more}
use Rattle.check_tool.proofs.Failing.{report_fault}

-- ---- the files after those of the texts

-- their faults are not those of a check, nor of the input
no_check : (bytes_at : List ℕ → Option (List ℕ)) (broken : List ℕ → Type 0) (o : Options) (ts : List Try) (check : CheckFault) → IsLaterFault bytes_at broken o ts (Check check) → ⊥
no_check bytes_at broken o ts check (inl f) = f
no_check bytes_at broken o ts check (inr (inl f)) = f.2
no_check bytes_at broken o ts check (inr (inr f)) = f.2.2

no_input : (bytes_at : List ℕ → Option (List ℕ)) (broken : List ℕ → Type 0) (o : Options) (ts : List Try) → IsLaterFault bytes_at broken o ts InputUnread → ⊥
no_input bytes_at broken o ts (inl f) = f
no_input bytes_at broken o ts (inr (inl f)) = f.2
no_input bytes_at broken o ts (inr (inr f)) = f.2.2

-- ---- what is read before the comparison

-- there are no pairs
pub ready_none : (bytes_at : List ℕ → Option (List ℕ)) (o : Options) (tried tries : Option (List Try)) (given : Option (Option (List ℕ))) (pairs : Option (Vec NamePair Global)) (s : Settings) → pairs ≡ None
    → IsReady bytes_at o tried tries given (option_map (λ (v : Vec NamePair Global). v.items) pairs) s → IsReady bytes_at o tried tries given None s
ready_none bytes_at o tried tries given pairs s is ready =
    subst (λ (p : Option (Vec NamePair Global)). IsReady bytes_at o tried tries given (option_map (λ (v : Vec NamePair Global). v.items) p) s) is ready

-- there are these pairs
pub ready_some : (bytes_at : List ℕ → Option (List ℕ)) (o : Options) (tried tries : Option (List Try)) (given : Option (Option (List ℕ))) (pairs : Option (Vec NamePair Global)) (v : Vec NamePair Global) (items : List NamePair) (s : Settings) → pairs ≡ Some v → items ≡ v.items
    → IsReady bytes_at o tried tries given (option_map (λ (w : Vec NamePair Global). w.items) pairs) s → IsReady bytes_at o tried tries given (Some items) s
ready_some bytes_at o tried tries given pairs v items s is same ready =
    subst (λ (ps : List NamePair). IsReady bytes_at o tried tries given (Some ps) s) (sym same)
    (subst (λ (p : Option (Vec NamePair Global)). IsReady bytes_at o tried tries given (option_map (λ (w : Vec NamePair Global). w.items) p) s) is ready)

-- ---- a comparison

-- in the cause of a fault, what the failure of a device implies may replace it
widened : (one two : Option (List ℕ)) (given : Option (Option (List ℕ))) (s : Settings) (bound : WaveBound) (print : Bool) (first_failed second_failed given_failed first second condition : Type 0) → (first_failed → first) → (second_failed → second) → (given_failed → condition) → (w : Written) (fault : ToolFault)
    → IsUnchecked (device_texts one two given) s bound print first_failed second_failed given_failed w fault → IsUnchecked (device_texts one two given) s bound print first second condition w fault
widened one two given s bound print first_failed second_failed given_failed first second condition f g h w fault u = record {
  check = u.check;
  is = u.is;
  cause = report_fault one two given first_failed second_failed given_failed first second condition s f g h u.check u.cause;
  full = u.full;
  given_up = u.given_up;
  by_cones = u.by_cones;
  thread_for_named_order = u.thread_for_named_order;
  stopped = u.stopped;
  only = u.only;
  names_first = u.names_first;
  never_too_many_requests = u.never_too_many_requests;
  front = u.front;
}

module _ (bytes_at : List ℕ → Option (List ℕ)) (one two : Option (List ℕ)) (o : Options) (tried tries : Option (List Try)) (given : Option (Option (List ℕ))) (pairs : Option (List NamePair)) (s : Settings) (ready : IsReady bytes_at o tried tries given pairs s) (w : Written) where
  pub compared : ArePairsFor pairs one two → (r : Result Done ToolFault) → IfOk r (IsChecked (device_texts one (named_text pairs two) given) s (bound_of o) o.print_order w) → IfOk r (IsComparison bytes_at one two o tried tries w)
  compared paired (Err fault) h = tt
  compared paired (Ok done) h = record { given = given; pairs = pairs; settings = s; ready = ready; paired = paired; checked = h }

  pub uncompared : (broken : List ℕ → Type 0) (first_failed second_failed given_failed first second : Type 0) → ArePairsFor pairs one two → (first_failed → first) → (second_failed → second) → (given_failed → HasGivenFailed broken o.given) → (r : Result Done ToolFault)
      → IfErr r (IsUnchecked (device_texts one (named_text pairs two) given) s (bound_of o) o.print_order first_failed second_failed given_failed w)
      → IfErr r (IsFailedComparison bytes_at broken one two first second o tried tries w)
  uncompared broken first_failed second_failed given_failed first second paired f g to (Ok done) h = tt
  uncompared broken first_failed second_failed given_failed first second paired f g to (Err fault) h = record {
    given = given;
    pairs = pairs;
    settings = s;
    ready = ready;
    paired = paired;
    unchecked = widened one (named_text pairs two) given s (bound_of o) o.print_order first_failed second_failed given_failed first second (HasGivenFailed broken o.given) f g to w fault h;
  }

-- a property of the texts of two devices is one of the texts of the result
pub of_texts : {A B : Type 0} (first second one two : Option (List ℕ)) (P : A → Option (List ℕ) → Option (List ℕ) → Type 0) → IsReadOf first one → IsReadOf second two → (r : Result A B) → IfOk r (λ a. P a one two) →
    IfOk r (λ a. OfTexts first second (P a))
of_texts first second one two P f g (Err b) h = tt
of_texts first second one two P f g (Ok a) h = (one, two, f, g, h)

pub of_fault : {A B : Type 0} (first second one two : Option (List ℕ)) (U : B → Type 0) (P Q : B → Option (List ℕ) → Option (List ℕ) → Type 0) → IsReadOf first one → IsReadOf second two → (r : Result A B) → IfErr r (λ b. Q b one two) →
    IfErr r (λ b. U b ⊎ OfTexts first second (λ one two. P b one two ⊎ Q b one two))
of_fault first second one two U P Q f g (Ok a) h = tt
of_fault first second one two U P Q f g (Err b) h = inr (one, two, f, g, inr h)

-- a text that was read is what is known of it
pub some_read : (known : Option (List ℕ)) (text : List ℕ) → IfSome known (λ bytes. text ≡ bytes) → IsReadOf known (Some text)
some_read None text is = tt
some_read (Some bytes) text is = ap (λ t. Some t) is

pub read_more : (known read one : Option (List ℕ)) → IsReadOf known read → IsReadOf read one → IsReadOf known one
read_more None read one f g = tt
read_more (Some text) read one f g = subst (λ r. IsReadOf r one) f g

-- the texts of the options, as the devices have them
texts_read : (bytes_at : List ℕ → Option (List ℕ)) (input : Option (List ℕ)) (t : Texts) (first second one two : Option (List ℕ)) → AreTexts bytes_at input t first second → IsReadOf first one → IsReadOf second two → AreTexts bytes_at input t one two
texts_read bytes_at input (Files a b) first second one two texts f g = (read_more (bytes_at a.now) first one texts.0 f, read_more (bytes_at b.now) second two texts.1 g)
texts_read bytes_at input (InputAndFile b) first second one two texts f g = (read_more input first one texts.0 f, read_more (bytes_at b.now) second two texts.1 g)
texts_read bytes_at input (FileAndInput a) first second one two texts f g = (read_more (bytes_at a.now) first one texts.0 f, read_more input second two texts.1 g)
texts_read bytes_at None Input first second one two texts f g = tt
texts_read bytes_at (Some text) Input first second one two texts f g =
    (texts.0, texts.1, texts.2, subst (λ r. IsReadOf r one) texts.3 f, subst (λ r. IsReadOf r two) texts.4 g)
texts_read bytes_at input InputTwice first second one two texts f g = texts
texts_read bytes_at input One first second one two texts f g = texts

-- ---- the texts before the comparison

all_opened : (o : Options) (a b c : Option (List Try)) → Extends a b (opened (text_paths o.texts)) → Extends b c (opened (later_paths o)) → Extends a c (opened (paths_of o))
all_opened o a b c e f = subst (λ l. Extends a c l) (sym (opened_more (text_paths o.texts) (later_paths o))) (extends_more a b c (opened (text_paths o.texts)) (opened (later_paths o)) e f)

-- the file of a text could not be opened
pub failed_before_check : (bytes_at : List ℕ → Option (List ℕ)) (broken : List ℕ → Type 0) (input_broken : Type 0) (input : Option (List ℕ)) (o : Options) (tried tries : Option (List Try)) (place : FileRole) (fault : ToolFault) → IsOpenFault place fault
    → (ts : List Try) × Extends tried tries ts × IsToolFault bytes_at broken input_broken input o ts fault → IsFailedBeforeCheck bytes_at broken input_broken input o tried tries fault
failed_before_check bytes_at broken input_broken input o tried tries place fault (inl (obstacle, is)) h =
    record { made = h.0; extended = h.1; cause = h.2; unchecked = λ check e. let no : CannotOpen place obstacle ≡ Check check = sym is ∙ e in cc; read = λ e. let no : CannotOpen place obstacle ≡ InputUnread = sym is ∙ e in cc }
failed_before_check bytes_at broken input_broken input o tried tries place fault (inr is) h =
    record { made = h.0; extended = h.1; cause = h.2; unchecked = λ check e. let no : OutOfMemory ≡ Check check = sym is ∙ e in cc; read = λ e. let no : OutOfMemory ≡ InputUnread = sym is ∙ e in cc }

-- the input could not be read, and both texts are on it
pub unread : (bytes_at : List ℕ → Option (List ℕ)) (broken : List ℕ → Type 0) (input_broken : Type 0) (input : Option (List ℕ)) (o : Options) (tries : Option (List Try)) → o.texts ≡ Input → (fault : ToolFault) → IsInputFault input fault
    → (fault ≡ InputUnread → input_broken) → IsFailedBeforeCheck bytes_at broken input_broken input o tries tries fault
unread bytes_at broken input_broken input o tries is InputTooLong h read = record { made = []; extended = extends_none tries; cause = (is, refl, h); unchecked = λ check e. cc; read = read }
unread bytes_at broken input_broken input o tries is InputUnread h read = record { made = []; extended = extends_none tries; cause = (is, refl); unchecked = λ check e. cc; read = read }
unread bytes_at broken input_broken input o tries is OutOfMemory h read = record { made = []; extended = extends_none tries; cause = (subst (λ t. AreTwo t) (sym is) tt, tt); unchecked = λ check e. cc; read = read }
unread bytes_at broken input_broken input o tries is (Check check) h read = absurd h
unread bytes_at broken input_broken input o tries is (CannotOpen place obstacle) h read = absurd h
unread bytes_at broken input_broken input o tries is (CannotSave obstacle) h read = absurd h
unread bytes_at broken input_broken input o tries is (BadPairs fault) h read = absurd h
unread bytes_at broken input_broken input o tries is (BadOrder fault) h read = absurd h
unread bytes_at broken input_broken input o tries is OneFile h read = absurd h
unread bytes_at broken input_broken input o tries is DashTwice h read = absurd h
unread bytes_at broken input_broken input o tries is InputUndivided h read = absurd h

module _ (bytes_at : List ℕ → Option (List ℕ)) (input : Option (List ℕ)) (o : Options) (bytes_at' : List ℕ → Option (List ℕ)) (same : bytes_at' ≡ bytes_at) (one two : Option (List ℕ)) (texts : AreTexts bytes_at input o.texts one two) (tried between tries : Option (List Try)) (before : Extends tried between (opened (text_paths o.texts))) (w : Written) where
  pub ran : (r : Result Done ToolFault) → IfOk r (λ done. OfTexts one two (λ first second. IsComparison bytes_at' first second o between tries w done)) → IfOk r (IsRunOf bytes_at input o tried tries w)
  ran (Err fault) h = tt
  ran (Ok done) h = record {
    one = h.0;
    two = h.1;
    between = between;
    texts = texts_read bytes_at input o.texts one two h.0 h.1 texts h.2 h.3;
    opened_all = before;
    comparison = subst (λ t. IsComparison t h.0 h.1 o between tries w done) same h.4;
  }

  module _ (broken : List ℕ → Type 0) (input_broken : Type 0) where
    unready : (fault : ToolFault) → IsUnready bytes_at broken o between tries fault → IsFailedBeforeCheck bytes_at broken input_broken input o tried tries fault
    unready fault u = record {
      made = opened (text_paths o.texts) ++ u.0;
      extended = extends_more tried between tries (opened (text_paths o.texts)) u.0 before u.1;
      cause = later_fault bytes_at broken input_broken input o one two texts u.0 fault u.2;
      unchecked = λ check e. absurd (no_check bytes_at broken o u.0 check (subst (λ f. IsLaterFault bytes_at broken o u.0 f) e u.2));
      read = λ e. absurd (no_input bytes_at broken o u.0 (subst (λ f. IsLaterFault bytes_at broken o u.0 f) e u.2));
    }

    -- the pairs are those of a file
    given_path : (bytes_at : List ℕ → Option (List ℕ)) (path : Option (Bor (List ℕ))) (pairs : List NamePair) → IsPairsOf bytes_at path (Some pairs) → (p : Bor (List ℕ)) × (path ≡ Some p)
    given_path bytes_at None pairs is = let no : Some pairs ≡ None = is in cc
    given_path bytes_at (Some p) pairs is = (p, refl)

    -- the second text could not be given the first netlist's names
    unnamed : (first_failed second_failed : Type 0) → (first_failed → HasFirstFailed broken input_broken o.texts) → (second_failed → HasSecondFailed broken input_broken o.texts) → (fault : ToolFault) (first second : Option (List ℕ)) → IsReadOf one first → IsReadOf two second →
        IsUnnamed bytes_at first second first_failed second_failed o between tries fault → IsFailedBeforeCheck bytes_at broken input_broken input o tried tries fault
    unnamed first_failed second_failed f g fault first second a b m = record {
      made = opened (paths_of o);
      extended = all_opened o tried between tries before m.ready.opened_all;
      cause = by fault m.cause;
      unchecked = of_text fault m.cause;
      read = λ e. absurd (subst (IsNamingFault first second first_failed second_failed m.pairs) e m.cause);
    }
      where
        read : AreTexts bytes_at input o.texts first second
        read = texts_read bytes_at input o.texts one two first second texts a b

        path : (p : Bor (List ℕ)) × (o.pairs ≡ Some p)
        path = given_path bytes_at o.pairs m.pairs m.ready.paired

        order : (x : Order) × IsAllowed m.ready.choice x
        order = some_order m.ready.choice

        by : (fault : ToolFault) → IsNamingFault first second first_failed second_failed m.pairs fault → IsToolFault bytes_at broken input_broken input o (opened (paths_of o)) fault
        by (BadPairs fault) h = (path.0, path.1, has_texts bytes_at input o.texts first second read, inr (refl, first, second, read, (m.pairs, m.ready.paired, h), (m.ready.choice, m.ready.ordered)))
        by (Check (First fault)) h = (
          first,
          second,
          named_text (Some m.pairs) second,
          m.given,
          Some m.pairs,
          m.ready.choice,
          read,
          inl refl,
          m.ready.conditioned,
          m.ready.paired,
          m.ready.ordered,
          refl,
          inr (order.0, order.1, record { cause = h.cause; read = λ e. f (h.read e) }),
          inr (inl (fault, refl)),
        )
        by (Check (Second fault)) h = (
          first,
          second,
          second,
          m.given,
          Some m.pairs,
          m.ready.choice,
          read,
          inr (refl, fault, refl),
          m.ready.conditioned,
          m.ready.paired,
          m.ready.ordered,
          refl,
          inr (order.0, order.1, (h.0, h.1, record { cause = h.2.cause; read = λ e. g (h.2.read e) })),
          inr (inr (fault, refl)),
        )
        by fault h = absurd h

        of_text : (fault : ToolFault) → IsNamingFault first second first_failed second_failed m.pairs fault → (check : CheckFault) → fault ≡ Check check → IsTextFault check
        of_text (Check (First fault)) h check e = subst IsTextFault (let same : First fault ≡ check = cc in same) tt
        of_text (Check (Second fault)) h check e = subst IsTextFault (let same : Second fault ≡ check = cc in same) tt
        of_text (BadPairs fault) h check e = cc
        of_text fault h check e = absurd h

    pub failed : (first_failed second_failed : Type 0) → (first_failed → HasFirstFailed broken input_broken o.texts) → (second_failed → HasSecondFailed broken input_broken o.texts) → (r : Result Done ToolFault)
        → IfErr r (λ fault. IsUnready bytes_at' broken o between tries fault ⊎ OfTexts one two (λ first second. IsUnnamed bytes_at' first second first_failed second_failed o between tries fault
        ⊎ IsFailedComparison bytes_at' broken first second first_failed second_failed o between tries w fault))
        → IfErr r (IsFailedRun bytes_at broken input_broken input o tried tries w)
    failed first_failed second_failed f g (Ok done) h = tt
    failed first_failed second_failed f g (Err fault) h = by h
      where
        by : IsUnready bytes_at' broken o between tries fault ⊎ OfTexts one two (λ first second. IsUnnamed bytes_at' first second first_failed second_failed o between tries fault
            ⊎ IsFailedComparison bytes_at' broken first second first_failed second_failed o between tries w fault) → IsFailedRun bytes_at broken input_broken input o tried tries w fault
        by (inl u) = inl (unready fault (subst (λ t. IsUnready t broken o between tries fault) same u))
        by (inr (first, second, a, b, inl m)) = inl (unnamed first_failed second_failed f g fault first second a b (subst (λ t. IsUnnamed t first second first_failed second_failed o between tries fault) same m))
        by (inr (first, second, a, b, inr u)) = inr (record {
          one = first;
          two = second;
          between = between;
          texts = texts_read bytes_at input o.texts one two first second texts a b;
          opened_all = before;
          failed = record {
            given = u.given;
            pairs = u.pairs;
            settings = u.settings;
            ready = subst (λ t. IsReady t o between tries u.given u.pairs u.settings) same u.ready;
            paired = u.paired;
            unchecked = widened first (named_text u.pairs second) u.given u.settings (bound_of o) o.print_order first_failed second_failed (HasGivenFailed broken o.given) (HasFirstFailed broken input_broken o.texts) (HasSecondFailed broken input_broken o.texts) (HasGivenFailed broken o.given) f g (λ x. x) w fault u.unchecked;
          };
        })

-- ---- a run by the options

module _ (bytes_at : List ℕ → Option (List ℕ)) (input : Option (List ℕ)) (o : Options) (tried tries : Option (List Try)) (w : Written) where
  pub run_report : (r : Result Done ToolFault) → IfOk r (IsRunOf bytes_at input o tried tries w) → IfOk r (HasReported bytes_at input o w.held w.holds)
  run_report (Err fault) h = tt
  run_report (Ok done) h =
      let c = h.comparison in
      let p = c.ready in (
        c.checked.bytes,
        record { one = h.one; two = h.two; texts = h.texts; compared = record { given = c.given; pairs = c.pairs; choice = p.choice; picked = p.picked; settings = c.settings; conditioned = p.conditioned; paired = p.paired; checked = c.paired; ordered = p.ordered; picks = p.picks; set = p.set; made = c.checked.made } },
        c.checked.appended,
      )

  pub run_opened : (r : Result Done ToolFault) → IfOk r (IsRunOf bytes_at input o tried tries w) → OnOk r (Extends tried tries (opened (paths_of o)))
  run_opened (Err fault) h = tt
  run_opened (Ok done) h = all_opened o tried h.between tries h.opened_all h.comparison.ready.opened_all

  pub run_earlier_given_up : (r : Result Done ToolFault) → IfOk r (IsRunOf bytes_at input o tried tries w) → IfOk r (AreEarlierAttemptsGivenUp bytes_at input o)
  run_earlier_given_up (Err fault) h = tt
  run_earlier_given_up (Ok done) h = by (attempt_of done) h.comparison.checked.earlier_given_up
    where
      by : (t : Option Attempt) → IfSome t (AreGivenUp (device_texts h.one (named_text h.comparison.pairs h.two) h.comparison.given) h.comparison.settings.matching (last_budget h.comparison.settings.order h.comparison.settings.limit) (bound_of o))
          → IfSome t (λ t. AreNamed bytes_at input o (λ one two given choice. AreGivenUp (device_texts one two given) o.matching (last_budget choice (limit_of o)) (bound_of o) t))
      by None g = tt
      by (Some t) g = (h.one, h.two, h.comparison.given, h.comparison.pairs, h.comparison.ready.choice, h.texts, h.comparison.ready.conditioned, h.comparison.ready.paired, h.comparison.ready.ordered, earlier_given_up (device_texts h.one (named_text h.comparison.pairs h.two) h.comparison.given) o h.comparison.ready.choice h.comparison.ready.picked h.comparison.settings h.comparison.ready.set t g)

module _ (bytes_at : List ℕ → Option (List ℕ)) (broken : List ℕ → Type 0) (input_broken : Type 0) (input : Option (List ℕ)) (o : Options) (tried tries : Option (List Try)) (w : Written) where
  pub run_fault : (r : Result Done ToolFault) → IfErr r (IsFailedRun bytes_at broken input_broken input o tried tries w)
      → IfErr r (λ fault. (ts : List Try) × Extends tried tries ts × IsToolFault bytes_at broken input_broken input o ts fault)
  run_fault (Ok done) h = tt
  run_fault (Err fault) h = by h
    where
      by : IsFailedRun bytes_at broken input_broken input o tried tries w fault → (ts : List Try) × Extends tried tries ts × IsToolFault bytes_at broken input_broken input o ts fault
      by (inl u) = (u.made, u.extended, u.cause)
      by (inr u) =
          let f = u.failed in
          let p = f.ready in (
            opened (paths_of o),
            all_opened o tried u.between tries u.opened_all p.opened_all,
            subst (λ x. IsToolFault bytes_at broken input_broken input o (opened (paths_of o)) x) (sym f.unchecked.is)
                (u.one, u.two, named_text f.pairs u.two, f.given, f.pairs, p.choice, u.texts, inl refl, p.conditioned, p.paired, p.ordered, refl, report_fault_of (device_texts u.one (named_text f.pairs u.two) f.given) o p.choice p.picked f.settings p.set (HasFirstFailed broken input_broken o.texts) (HasSecondFailed broken input_broken o.texts) (HasGivenFailed broken o.given) f.unchecked.check f.unchecked.cause, inl f.paired),
          )

  -- a fault that is found after the names to be explained were looked up is not one of a text
  after_texts : (check : CheckFault) → IsAfterNames check → IsTextFault check → ⊥
  after_texts (First fault) after text = after
  after_texts (Second fault) after text = after
  after_texts check after text = absurd text

  -- if a run has failed with a fault of the check, the texts were compared
  following : (r : Result Done ToolFault) → IfErr r (IsFailedRun bytes_at broken input_broken input o tried tries w) → (check : CheckFault) → (IsTextFault check → ⊥) → r ≡ Err (Check check)
      → (u : IsFailedAfterTexts bytes_at broken input_broken input o tried tries w (Check check)) × (u.failed.unchecked.check ≡ check)
  following r h check no_text e = by (subst (λ z. IfErr z (IsFailedRun bytes_at broken input_broken input o tried tries w)) e h)
    where
      by : IsFailedRun bytes_at broken input_broken input o tried tries w (Check check) → (u : IsFailedAfterTexts bytes_at broken input_broken input o tried tries w (Check check)) × (u.failed.unchecked.check ≡ check)
      by (inl u) = absurd (no_text (u.unchecked check refl))
      by (inr u) = (u, let is : Check check ≡ Check u.failed.unchecked.check = u.failed.unchecked.is in cc)

  module _ (r : Result Done ToolFault) (h : IfErr r (IsFailedRun bytes_at broken input_broken input o tried tries w)) where
    run_full : r ≡ Err (Check (Wave Full)) → IsBeyond bytes_at input o
    run_full e =
        let b = following r h (Wave Full) (λ x. x) e in
        let u = b.0 in
        let p = u.failed.ready in
        (u.one, u.two, u.failed.given, u.failed.pairs, p.choice, u.texts, p.conditioned, p.paired, p.ordered, beyond (device_texts u.one (named_text u.failed.pairs u.two) u.failed.given) o p.choice p.picked u.failed.settings p.set (u.failed.unchecked.full b.1))

    run_given_up : r ≡ Err (Check GivenUp) → IsGivenUp bytes_at input o
    run_given_up e =
        let b = following r h GivenUp (λ x. x) e in
        let u = b.0 in
        let p = u.failed.ready in
        (u.one, u.two, u.failed.given, u.failed.pairs, p.choice, u.texts, p.conditioned, p.paired, p.ordered, given_up (device_texts u.one (named_text u.failed.pairs u.two) u.failed.given) o p.choice p.picked u.failed.settings p.set (u.failed.unchecked.given_up b.1))

    run_by_cones : MayGoByCones o.order → (r ≢ Err (Check (Wave Full))) × (r ≢ Err (Check GivenUp))
    run_by_cones may = (λ e. (by (Wave Full) (λ x. x) e).0 (following r h (Wave Full) (λ x. x) e).1, λ e. (by GivenUp (λ x. x) e).1 (following r h GivenUp (λ x. x) e).1)
      where
        by : (check : CheckFault) (no_text : IsTextFault check → ⊥) (e : r ≡ Err (Check check)) → ((following r h check no_text e).0.failed.unchecked.check ≢ Wave Full) × ((following r h check no_text e).0.failed.unchecked.check ≢ GivenUp)
        by check no_text e =
            let u = (following r h check no_text e).0 in
            let p = u.failed.ready in
            u.failed.unchecked.by_cones (subst MayCheckByCones (sym p.set.order) (goes_by_cones bytes_at o.order p.choice p.ordered may))

    run_thread_for_named_order : r ≡ Err (Check (Wave NoWorker)) → (o.print_order ≡ false) × NamesOrder o.order
    run_thread_for_named_order e =
        let b = following r h (Wave NoWorker) (λ x. x) e in
        let p = b.0.failed.ready in
        let thread_for_named_order = b.0.failed.unchecked.thread_for_named_order b.1 in
        (thread_for_named_order.0, named_by bytes_at o.order p.choice p.ordered (subst NamesCheckOrder p.set.order thread_for_named_order.1))

    run_stopped : r ≡ Err (Check (Wave Stopped)) → (MayGoByCones o.order → ⊥) × MayStop (bound_of o)
    run_stopped e =
        let b = following r h (Wave Stopped) (λ x. x) e in
        let p = b.0.failed.ready in
        let stopped = b.0.failed.unchecked.stopped b.1 in
        (λ may. stopped.0 (subst MayCheckByCones (sym p.set.order) (goes_by_cones bytes_at o.order p.choice p.ordered may)), stopped.1)

    run_only : r ≡ Err (Check Only) → AreUnknown bytes_at input o
    run_only e =
        let b = following r h Only (λ x. x) e in
        let u = b.0 in
        let p = u.failed.ready in
        (u.one, u.two, u.texts, (u.failed.given, p.picked, p.conditioned, p.picks, unknown (device_texts u.one (named_text u.failed.pairs u.two) u.failed.given) o p.choice p.picked u.failed.settings p.set (u.failed.unchecked.only b.1)))

    run_names_known : (check : CheckFault) → r ≡ Err (Check check) → IsAfterNames check → o.print_order ≡ false → IsExplainKnown bytes_at input o
    run_names_known check e after compared =
        let b = following r h check (after_texts check after) e in
        let u = b.0 in
        let p = u.failed.ready in
        (u.one, u.two, u.failed.given, u.failed.settings.explain.items, u.texts, p.conditioned, p.set.explain, u.failed.unchecked.names_first compared (subst IsAfterNames (sym b.1) after))

    run_unbounded : r ≢ Err (Check (Wave TooManyRequests))
    run_unbounded e = let b = following r h (Wave TooManyRequests) (λ x. x) e in b.0.failed.unchecked.never_too_many_requests b.1

    pub run_front : r ≡ Err (Check Write) → HasReportedFront bytes_at input o w.held w.holds w.has_failed w.has_stopped
    run_front e =
        let b = following r h Write (λ x. x) e in
        let u = b.0 in
        let p = u.failed.ready in
        let front = u.failed.unchecked.front b.1 in (
          front.0,
          front.1,
          record { one = u.one; two = u.two; texts = u.texts; compared = record { given = u.failed.given; pairs = u.failed.pairs; choice = p.choice; picked = p.picked; settings = u.failed.settings; conditioned = p.conditioned; paired = p.paired; checked = u.failed.paired; ordered = p.ordered; picks = p.picks; set = p.set; made = front.2 } },
          front.3,
        )

    run_read : r ≡ Err InputUnread → input_broken
    run_read e = by (subst (λ z. IfErr z (IsFailedRun bytes_at broken input_broken input o tried tries w)) e h)
      where
        by : IsFailedRun bytes_at broken input_broken input o tried tries w InputUnread → input_broken
        by (inl u) = u.read refl
        by (inr u) = let is : InputUnread ≡ Check u.failed.unchecked.check = u.failed.unchecked.is in cc

  pub run_names_first : (r : Result Done ToolFault) → IfErr r (IsFailedRun bytes_at broken input_broken input o tried tries w) → IfErr r (AreNamesFirst bytes_at input o)
  run_names_first (Ok done) h = tt
  run_names_first (Err fault) h = λ check e after compared. run_names_known (Err fault) h check (ap Err e) after compared

  pub run_may : (r : Result Done ToolFault) → IfErr r (IsFailedRun bytes_at broken input_broken input o tried tries w) → IfErr r (MayFail bytes_at input_broken input o)
  run_may (Ok done) h = tt
  run_may (Err fault) h = from_each bytes_at input_broken input o fault (record {
    read = λ e. run_read (Err fault) h (ap Err e);
    full = λ e. run_full (Err fault) h (ap Err e);
    given_up = λ e. run_given_up (Err fault) h (ap Err e);
    by_cones = λ may. let never = run_by_cones (Err fault) h may in (λ e. never.0 (ap Err e), λ e. never.1 (ap Err e));
    thread_for_named_order = λ e. run_thread_for_named_order (Err fault) h (ap Err e);
    stopped = λ e. run_stopped (Err fault) h (ap Err e);
    only = λ e. run_only (Err fault) h (ap Err e);
    never_too_many_requests = λ e. run_unbounded (Err fault) h (ap Err e);
  })
