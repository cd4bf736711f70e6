-- What fault clap finds in the argument `--version`.
use Rattle.std.proofs.Common.{◌≡◌, ◌∙◌, inl, inr, refl, sym, subst, [], ◌∷◌, Option}
use Rattle.std.specs.Prelude.{codes}
use Rattle.clap.specs.Words.{IsAmong, Kinds, fault_of}
use Rattle.clap.specs.declared.builder.value_parser.ValueParser.{ValueParser}
use Rattle.clap.specs.declared.error.kind.ErrorKind.{ErrorKind}
use Rattle.clap.specs.declared.error.kind.ErrorKind.TheVariants.{DisplayVersion}
use Rattle.clap.proofs.OnLiterals.{clap_on_literals}
use Rattle.command_line.specs.declared.options.Options.{Options}
use Rattle.command_line.specs.declared.reading.Refused.{Refused}
use Rattle.command_line.specs.declared.reading.Refused.TheVariants.{Help, Mistake, OutOfMemory}
use Rattle.command_line.specs.Words.{tool_app, AskFor, IsRefusal, IsReportedAs, PrintsVersion}

fault_found : (matching order format assignment difference : Option ValueParser) → fault_of (tool_app matching order format assignment difference) (codes "--version" ∷ []) ≡ DisplayVersion ∷ []
unfolding clap_on_literals
fault_found matching order format assignment difference = refl

one : (kind : ErrorKind) → IsAmong kind (DisplayVersion ∷ []) → kind ≡ DisplayVersion
one kind (inl is) = is
one kind (inr none) = absurd none

of_kind : (kinds : Kinds) (kind : ErrorKind) → kinds ≡ DisplayVersion ∷ [] → IsAmong kind kinds → kind ≡ DisplayVersion
of_kind kinds kind is among = one kind (subst (λ k. IsAmong kind k) is among)

reported : (kind : ErrorKind) (r : Refused) → kind ≡ DisplayVersion → IsReportedAs kind r → PrintsVersion r
reported kind (Help text) is (inl help) = cc
reported kind (Help text) is (inr version) = version.1
reported kind (Mistake text) is t = absurd (t.1 is)
reported kind OutOfMemory is t = tt

-- a list with a fault is not empty
found : (kinds : Kinds) → kinds ≡ DisplayVersion ∷ [] → kinds ≡ [] → ⊥
found kinds some none = cc

pub refused : (r : Refused) → IsRefusal (codes "--version" ∷ []) r → PrintsVersion r
refused r (inl f) = reported f.1 r (of_kind f.0 f.1 (f.2.10 ∙ fault_found f.2.0 f.2.1 f.2.2 f.2.3 f.2.4) f.3) f.4
refused r (inr (inl f)) = absurd (found (fault_of (tool_app f.1.0 f.1.1 f.1.2 f.1.3 f.1.4) (codes "--version" ∷ [])) (fault_found f.1.0 f.1.1 f.1.2 f.1.3 f.1.4) f.1.10)
refused r (inr (inr (inl f))) = absurd (found (fault_of (tool_app f.1.0 f.1.1 f.1.2 f.1.3 f.1.4) (codes "--version" ∷ [])) (fault_found f.1.0 f.1.1 f.1.2 f.1.3 f.1.4) f.1.10)
refused r (inr (inr (inr none))) = subst PrintsVersion (sym none) tt

pub no_options : (o : Options) → AskFor (codes "--version" ∷ []) o → ⊥
no_options o a = found (fault_of (tool_app a.1.0 a.1.1 a.1.2 a.1.3 a.1.4) (codes "--version" ∷ [])) (fault_found a.1.0 a.1.1 a.1.2 a.1.3 a.1.4) a.1.10
