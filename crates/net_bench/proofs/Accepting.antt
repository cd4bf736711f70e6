-- What the judge's answer and the netlist say of the text.
use Rattle.std.proofs.Common.{◌≡◌, ◌⊎◌, inl, inr, ℕ, ◌≤◌, List, [], refl, sym, subst, length}
use Rattle.std.specs.Prelude.{Ok, Err}
use Rattle.net_bench.specs.declared.fault.BenchFault.{BenchFault}
use Rattle.net_bench.specs.declared.fault.BenchFault.TheVariants.{OutOfMemory}
use Rattle.net_bench.specs.Pieces.{tokens_at}
use Rattle.net_bench.specs.Statement.{Statement}
use Rattle.net_bench.specs.Machine.{Between, Finished}
use Rattle.net_bench.specs.Circuit.{Net, IsNet, AreRanks, circuit, circuit_of}
use Rattle.net_bench.specs.Fault.{Cause, StrayByte, LongName, Misplaced, NoGateWord, OperandCount, SecondDefinition, LimitExceeded, max_text, fault_of, IsFaultless, IsFaultAtPlace, IsRefused, ReadsWell, MakesNetlist}
use Rattle.net_bench.specs.Judge.{FaultOnLine, answered_fault, judge}
use Rattle.net_bench.specs.Sound.{IsLateFault, AreDefined}
use Rattle.net_bench.proofs.PiecesOf.{one_reading, has_tokens}
use Rattle.net_bench.proofs.Reading.{reads_of}
use Rattle.net_bench.proofs.Judging.{FirstFault, first_found, none_found}
use Rattle.net_bench.proofs.Chains.{ranked_ends}

-- the judge has found no fault
pub reads_well : (text : List ℕ) (ss : List Statement) → length text ≤ max_text → judge (Between []) [] (tokens_at 1 text) ≡ Ok (Finished ss) → ReadsWell text ss
reads_well text ss short e =
    let none = none_found (tokens_at 1 text) (Finished ss) e in
    (short, reads_of text ss none.1, λ ts has. subst IsFaultless (sym (one_reading text ts has)) none.0)

refused_at : (text : List ℕ) (cause : Cause) (line : ℕ) → IsFaultAtPlace text (fault_of cause line) → IsRefused text (fault_of cause line)
refused_at text StrayByte line h = h
refused_at text LongName line h = h
refused_at text Misplaced line h = h
refused_at text NoGateWord line h = h
refused_at text OperandCount line h = h
refused_at text SecondDefinition line h = h
refused_at text LimitExceeded line h = h

-- the fault that the judge has found
pub placed_first : (text : List ℕ) (fault : BenchFault) → length text ≤ max_text →
    (fault ≡ OutOfMemory) ⊎ ((found : FaultOnLine) × (judge (Between []) [] (tokens_at 1 text) ≡ Err found) × (fault ≡ answered_fault found)) →
    (fault ≡ OutOfMemory) ⊎ IsRefused text fault
placed_first text fault short (inl e) = inl e
placed_first text fault short (inr (found, e, is)) =
    let first : FirstFault (tokens_at 1 text) found = first_found (tokens_at 1 text) found e in
    inr (subst (IsRefused text) (sym is) (refused_at text found.0 found.1 (short, tokens_at 1 text, has_tokens text, first.0, found.1, found.0, first.1, refl)))

-- a fault of the netlist that the statements make
pub late_refused : (text : List ℕ) (ss : List Statement) (fault : BenchFault) → ReadsWell text ss → IsLateFault ss fault → (fault ≡ OutOfMemory) ⊎ IsRefused text fault
late_refused text ss fault well (inl e) = inl e
late_refused text ss fault well (inr (inl (line, e, undefined))) = inr (subst (IsRefused text) (sym e) (ss, well, undefined))
late_refused text ss fault well (inr (inr (line, e, defined, endless))) = inr (subst (IsRefused text) (sym e) (ss, well, defined, endless))

-- the netlist is the text's
pub makes : (text : List ℕ) (ss : List Statement) (net : Net) → ReadsWell text ss → AreDefined ss → circuit net ≡ circuit_of ss → IsNet net → MakesNetlist text (circuit net)
makes text ss net well defined same sound = (
  ss,
  record {
    short = well.0;
    reads = well.1;
    faultless = well.2;
    defined = defined;
    acyclic = λ s endless. ranked_ends (circuit_of ss) net.ranks (subst (λ c. AreRanks c net.ranks) same sound.ranks) s endless;
  },
  same,
)
