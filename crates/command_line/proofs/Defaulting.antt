-- What clap finds in an empty command line.
use Rattle.std.proofs.Common.{Bool, true, false, ◌≡◌, ◌∙◌, inr, refl, ap, sym, subst, ℕ, ◌^◌, List, [], ◌∷◌, Bor, Option, Some, None, rules}
use Rattle.std.specs.Prelude.{codes, map, IfSome}
use Rattle.clap.specs.Words.{first_of, one_of, matches_of}
use Rattle.clap.specs.declared.builder.value_parser.ValueParser.{ValueParser}
use Rattle.clap.proofs.OnLiterals.{clap_on_literals}
use Rattle.net_names.specs.declared.order.Match.{Match}
use Rattle.net_names.specs.declared.order.Match.TheVariants.{Name, Position}
use Rattle.report_text.specs.declared.assignment.Assignment.{Assignment}
use Rattle.report_text.specs.declared.difference.Difference.{Difference}
use Rattle.report_text.specs.declared.difference.Difference.TheVariants.{Least, AnyOne}
use Rattle.command_line.specs.declared.options.Options.{Options}
use Rattle.command_line.specs.declared.options.OrderChoice.{OrderChoice}
use Rattle.command_line.specs.declared.options.OrderChoice.TheVariants.{Auto}
use Rattle.report_text.specs.declared.pair_filter.PairFilter.{PairFilter}
use Rattle.report_text.specs.declared.pair_filter.PairFilter.TheVariants.{All}
use Rattle.command_line.specs.Words.{tool_app, ArePicks, AreTexts, AskFor, IsChoice, IsOrderIfPicked, are_picked, explained_in, names_in, share_in, default_order_of, flag_of, IsDifference, IsFile, IsForm, IsAssignment, IsMatching, IsMemory, IsSeconds, IsNumberIn, IsLimit}
use Rattle.command_line.specs.Defaults.{AreDefaults}
use Rattle.command_line.proofs.Sizing.{one_size}

module _ (matching order format assignment difference : Option ValueParser) where
  matching_found : first_of (codes "match") (matches_of (tool_app matching order format assignment difference) []) ≡ Some (codes "name")
  unfolding clap_on_literals
  matching_found = refl

  order_found : first_of (codes "order") (matches_of (tool_app matching order format assignment difference) []) ≡ None
  unfolding clap_on_literals
  order_found = refl

  file_found : first_of (codes "order-file") (matches_of (tool_app matching order format assignment difference) []) ≡ None
  unfolding clap_on_literals
  file_found = refl

  given_found : first_of (codes "given") (matches_of (tool_app matching order format assignment difference) []) ≡ None
  unfolding clap_on_literals
  given_found = refl

  pairs_found : first_of (codes "pairs") (matches_of (tool_app matching order format assignment difference) []) ≡ None
  unfolding clap_on_literals
  pairs_found = refl

  only_found : names_in (matches_of (tool_app matching order format assignment difference) []) ≡ []
  unfolding clap_on_literals
  only_found = refl

  explain_found : explained_in (matches_of (tool_app matching order format assignment difference) []) ≡ []
  unfolding clap_on_literals
  explain_found = refl

  vcd_found : first_of (codes "vcd") (matches_of (tool_app matching order format assignment difference) []) ≡ None
  unfolding clap_on_literals
  vcd_found = refl

  causes_found : first_of (codes "causes") (matches_of (tool_app matching order format assignment difference) []) ≡ Some (codes "false")
  unfolding clap_on_literals
  causes_found = refl

  share_found : share_in (matches_of (tool_app matching order format assignment difference) []) ≡ None
  unfolding clap_on_literals
  share_found = refl

  workers_found : one_of (codes "workers") (matches_of (tool_app matching order format assignment difference) []) ≡ Some (codes "4")
  unfolding clap_on_literals
  workers_found = refl

  limit_word : first_of (codes "limit") (matches_of (tool_app matching order format assignment difference) []) ≡ None
  unfolding clap_on_literals
  limit_word = refl

  limit_found : one_of (codes "limit") (matches_of (tool_app matching order format assignment difference) []) ≡ None
  unfolding clap_on_literals
  limit_found = refl

  memory_found : first_of (codes "memory") (matches_of (tool_app matching order format assignment difference) []) ≡ Some (codes "4G")
  unfolding clap_on_literals
  memory_found = refl

  seconds_found : one_of (codes "seconds") (matches_of (tool_app matching order format assignment difference) []) ≡ None
  unfolding clap_on_literals
  seconds_found = refl

  sizes_found : first_of (codes "sizes") (matches_of (tool_app matching order format assignment difference) []) ≡ Some (codes "false")
  unfolding clap_on_literals
  sizes_found = refl

  print_order_found : first_of (codes "print-order") (matches_of (tool_app matching order format assignment difference) []) ≡ Some (codes "false")
  unfolding clap_on_literals
  print_order_found = refl

  format_found : first_of (codes "format") (matches_of (tool_app matching order format assignment difference) []) ≡ Some (codes "text")
  unfolding clap_on_literals
  format_found = refl

  assignment_found : first_of (codes "assignment") (matches_of (tool_app matching order format assignment difference) []) ≡ None
  unfolding clap_on_literals
  assignment_found = refl

  difference_found : first_of (codes "difference") (matches_of (tool_app matching order format assignment difference) []) ≡ Some (codes "least")
  unfolding clap_on_literals
  difference_found = refl

  verbose_found : first_of (codes "verbose") (matches_of (tool_app matching order format assignment difference) []) ≡ Some (codes "false")
  unfolding clap_on_literals
  verbose_found = refl

  first_found : first_of (codes "FIRST") (matches_of (tool_app matching order format assignment difference) []) ≡ None
  unfolding clap_on_literals
  first_found = refl

  second_found : first_of (codes "SECOND") (matches_of (tool_app matching order format assignment difference) []) ≡ None
  unfolding clap_on_literals
  second_found = refl

unsaid : (which : Option Assignment) → IsAssignment None which → which ≡ None
unsaid which is = is

by_name : (how : Match) → IsMatching (Some (codes "name")) how → how ≡ Name
by_name Name is = refl
by_name Position is = cc

the_least : (difference : Difference) → IsDifference (Some (codes "least")) difference → difference ≡ Least
the_least Least is = refl
the_least AnyOne is = cc

no_file : (path : Option (Bor (List ℕ))) → IsFile None path → path ≡ None
no_file None is = refl
no_file (Some path) is = cc

as_text : (json : Bool) → IsForm (Some (codes "text")) json → json ≡ false
as_text false is = refl
as_text true is = cc

four : (n : ℕ) → IsNumberIn 1 16 (Some (codes "4")) n → n ≡ 4
four n is = is (search rules)

-- 4 GiB
much : (n : ℕ) → IsMemory (codes "4G") n → n ≡ 4294967296
much n is = one_size (codes "4G") n (codes "4") (codes "G") (1024 ^ 3) is.0 (inr (inr (refl, refl))) refl

-- if none are picked, all are
pick : (picks : PairFilter (Bor (List ℕ))) (names : List (List ℕ)) (share : Option (List ℕ)) → names ≡ [] → share ≡ None → ArePicks names share picks → picks ≡ All
pick picks names share no_names no_share = subst (λ n. ArePicks n share picks → picks ≡ All) (sym no_names) (subst (λ s. ArePicks [] s picks → picks ≡ All) (sym no_share) (λ e. e))

-- and the order is the one that is asked for
unpicked : (names : List (List ℕ)) (share file word : Option (List ℕ)) (extend : Bool) (default_order choice : OrderChoice) → names ≡ [] → share ≡ None → IsOrderIfPicked (are_picked names share) file word extend default_order choice → IsChoice file word extend default_order choice
unpicked names share file word extend default_order choice no_names no_share =
    let none : are_picked names share ≡ false = rw (no_names, no_share) refl in
    subst (λ p. IsOrderIfPicked p file word extend default_order choice → IsChoice file word extend default_order choice) (sym none) (λ is. is)

-- if no names are to be explained, nothing is
no_words : (words : List (Bor (List ℕ))) → map (λ s. s.now) words ≡ [] → words ≡ []
no_words [] none = refl
no_words (w ∷ ws) none = cc

-- if nothing is given, the order is auto
choose : (choice : OrderChoice) (file word limit sizes print_order : Option (List ℕ)) (extend : Bool) → file ≡ None → word ≡ None → limit ≡ None → sizes ≡ Some (codes "false") → print_order ≡ Some (codes "false")
    → IsChoice file word extend (default_order_of limit (flag_of sizes) (flag_of print_order)) choice → choice ≡ Auto
choose choice file word limit sizes print_order extend no_path no_word no_limit no_sizes no_print is =
    let plain : default_order_of limit (flag_of sizes) (flag_of print_order) ≡ Auto = rw (no_limit, no_sizes, no_print) refl in
    subst (λ f. IsChoice f word extend (default_order_of limit (flag_of sizes) (flag_of print_order)) choice → choice ≡ Auto) (sym no_path)
    (subst (λ w. IsChoice None w extend (default_order_of limit (flag_of sizes) (flag_of print_order)) choice → choice ≡ Auto) (sym no_word) (λ e. e ∙ plain)) is

pub defaults : (o : Options) → AskFor [] o → AreDefaults o
defaults o (rows, found, without_conflict, are) =
    let m = found.0 in
    let d = found.1 in
    let f = found.2 in
    let g = found.3 in
    let h = found.4 in
    let e = found.11 in
    let no_names : names_in rows ≡ [] = ap names_in e ∙ only_found m d f g h in
    let no_share : share_in rows ≡ None = ap share_in e ∙ share_found m d f g h in
    let order : o.order ≡ Auto = choose o.order (first_of (codes "order-file") rows) (first_of (codes "order") rows) (first_of (codes "limit") rows) (first_of (codes "sizes") rows) (first_of (codes "print-order") rows)
    (flag_of (first_of (codes "extend") rows)) (ap (first_of (codes "order-file")) e ∙ file_found m d f g h) (ap (first_of (codes "order")) e ∙ order_found m d f g h) (ap (first_of (codes "limit")) e ∙ limit_word m d f g h)
    (ap (first_of (codes "sizes")) e ∙ sizes_found m d f g h) (ap (first_of (codes "print-order")) e ∙ print_order_found m d f g h)
    (unpicked (names_in rows) (share_in rows) _ _ _ _ o.order no_names no_share are.order) in
    record {
      matching = by_name o.matching (subst (λ w. IsMatching w o.matching) (ap (first_of (codes "match")) e ∙ matching_found m d f g h) are.matching);
      order = order;
      picks = pick o.picks (names_in rows) (share_in rows) no_names no_share are.picks;
      given = no_file o.given (subst (λ w. IsFile w o.given) (ap (first_of (codes "given")) e ∙ given_found m d f g h) are.given);
      pairs = no_file o.pairs (subst (λ w. IsFile w o.pairs) (ap (first_of (codes "pairs")) e ∙ pairs_found m d f g h) are.pairs);
      workers = four o.workers (subst (λ w. IsNumberIn 1 16 w o.workers) (ap (one_of (codes "workers")) e ∙ workers_found m d f g h) are.workers);
      limit = subst (λ c. IsLimit None c o.limit) order (subst (λ w. IsLimit w o.order o.limit) (ap (one_of (codes "limit")) e ∙ limit_found m d f g h) are.limit);
      memory = much o.memory (subst (λ w. IfSome w (λ text. IsMemory text o.memory)) (ap (first_of (codes "memory")) e ∙ memory_found m d f g h) are.memory);
      seconds = subst (λ w. IsSeconds w o.seconds) (ap (one_of (codes "seconds")) e ∙ seconds_found m d f g h) are.seconds;
      sizes = are.sizes ∙ ap flag_of (ap (first_of (codes "sizes")) e ∙ sizes_found m d f g h);
      print_order = are.print_order ∙ ap flag_of (ap (first_of (codes "print-order")) e ∙ print_order_found m d f g h);
      json = as_text o.json (subst (λ w. IsForm w o.json) (ap (first_of (codes "format")) e ∙ format_found m d f g h) are.json);
      verbose = are.verbose ∙ ap flag_of (ap (first_of (codes "verbose")) e ∙ verbose_found m d f g h);
      assignment = unsaid o.assignment (subst (λ w. IsAssignment w o.assignment) (ap (first_of (codes "assignment")) e ∙ assignment_found m d f g h) are.assignment);
      texts = subst (λ w. AreTexts w None o.texts) (ap (first_of (codes "FIRST")) e ∙ first_found m d f g h)
          (subst (λ w. AreTexts (first_of (codes "FIRST") rows) w o.texts) (ap (first_of (codes "SECOND")) e ∙ second_found m d f g h) are.texts);
      vcd = no_file o.vcd (subst (λ w. IsFile w o.vcd) (ap (first_of (codes "vcd")) e ∙ vcd_found m d f g h) are.vcd);
      difference = the_least o.difference (subst (λ w. IsDifference w o.difference) (ap (first_of (codes "difference")) e ∙ difference_found m d f g h) are.difference);
      causes = are.causes ∙ ap flag_of (ap (first_of (codes "causes")) e ∙ causes_found m d f g h);
      explain = no_words o.explain.items (are.explain ∙ ap explained_in e ∙ explain_found m d f g h);
    }
