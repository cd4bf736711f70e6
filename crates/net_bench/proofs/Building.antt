-- A netlist that is made of its parts.
use Rattle.net_bench.proofs.CircuitOf.{name_defined, contains_map, number_back}
use Rattle.net_bench.proofs.Numbers.{contained_in, in_distinct, number_low, number_at}
use Rattle.std.proofs.lemmas.List.{get_or_default}
use Rattle.std.proofs.Common.{◌≡◌, inl, inr, ℕ, ◌<◌, List, [], ◌∷◌, Bool, true, false, refl, sym, ap, ◌∙◌, subst, length, map, get_or}
use Rattle.std.specs.Prelude.{cond, ◌||◌, bytes_eq, flat_map, slice_get, Option, Some, None, Contains}
use Rattle.std.proofs.lemmas.Option.{slice_get-get_or, slice_get_within}
use Rattle.net_bench.specs.declared.symbols.Symbol.{Symbol}
use Rattle.net_bench.specs.declared.netlist.Role.{Role}
use Rattle.net_bench.specs.declared.netlist.Role.TheVariants.{Undefined as undefined, Input as input, Gate as gate, Register as register}
use Rattle.net_bench.specs.declared.symbols.Use.{Use}
use Rattle.std.proofs.lemmas.List.Folds.{list_any-append}
use Rattle.net_bench.specs.declared.symbols.SymbolTable.{SymbolTable}
use Rattle.net_bench.specs.Machine.{Between}
use Rattle.net_bench.specs.Symbols.{AreFound, AreParts, IsSymbol, IsTableOf, is_defined_role, is_driven_role, is_input_role, known_symbol, undefined_use, AreRoles, IsPlacedAt}
use Rattle.net_bench.specs.declared.fault.BenchFault.TheVariants.{Undefined}
use Rattle.net_bench.specs.Text.{Word}
use Rattle.net_bench.specs.Statement.{Statement, input_name, gate_name, defined, uses, interned}
use Rattle.net_bench.specs.Circuit.{Net, names_of, find, is_name_in, HasRole, distinct, number_of}
use Rattle.net_bench.specs.Fault.{is_defined}
use Rattle.net_bench.specs.Judge.{undefined_line}
use Rattle.net_bench.specs.Sound.{AreDefined, IsLateFault, net_of, IsSound}
use Rattle.net_bench.proofs.Found.{found_low, found_of, number_found, is_there}
use Rattle.net_bench.proofs.Tables.{undefined_split, undefined_none}

or_swap : (i g j h : Bool) → ((i || g) || (j || h)) ≡ ((i || j) || (g || h))
or_swap true g j h = refl
or_swap false true true h = refl
or_swap false true false h = refl
or_swap false false true h = refl
or_swap false false false h = refl

-- what is defined is an INPUT, a gate or a register
either_in : (ss : List Statement) (n : List ℕ) → is_name_in (flat_map defined ss) n ≡ (is_name_in (flat_map input_name ss) n || is_name_in (flat_map gate_name ss) n)
either_in [] n = refl
either_in (s ∷ ss) n =
    list_any-append (λ m. bytes_eq m n) (defined s) (flat_map defined ss) ∙
    ap (λ b. b || is_name_in (flat_map defined ss) n) (list_any-append (λ m. bytes_eq m n) (input_name s) (gate_name s)) ∙
    ap (λ b. (is_name_in (input_name s) n || is_name_in (gate_name s) n) || b) (either_in ss n) ∙
    or_swap (is_name_in (input_name s) n) (is_name_in (gate_name s) n) (is_name_in (flat_map input_name ss) n) (is_name_in (flat_map gate_name ss) n) ∙
    sym (ap (λ b. b || is_name_in (flat_map gate_name (s ∷ ss)) n) (list_any-append (λ m. bytes_eq m n) (input_name s) (flat_map input_name ss)) ∙
    ap (λ b. (is_name_in (input_name s) n || is_name_in (flat_map input_name ss) n) || b) (list_any-append (λ m. bytes_eq m n) (gate_name s) (flat_map gate_name ss)))

-- the table of the statements
abbrev IsOf : List Statement → SymbolTable → Type 0
IsOf ss table = IsTableOf ss (Between ss) table

or_both : (r : Role) (a b : Bool) → is_input_role r ≡ a → is_driven_role r ≡ b → is_defined_role r ≡ (a || b)
or_both r a b e f = ap (λ c. c || is_driven_role r) e ∙ ap (λ c. a || c) f

-- a word's symbol is defined exactly if the word is
known_is : (ss : List Statement) (table : SymbolTable) → IsOf ss table → (w : Word) (i : ℕ) → find table.names w.text ≡ Some i → known_symbol (slice_get table.symbols.items i) ≡ is_defined ss w
known_is ss table h w i e = at_symbol (slice_get table.symbols.items i) refl
  where
    low : i < length table.symbols.items
    low = subst (λ n. i < n) (sym h.each) (found_low table.names w.text i e)

    at_symbol : (o : Option Symbol) → slice_get table.symbols.items i ≡ o → known_symbol (slice_get table.symbols.items i) ≡ is_defined ss w
    at_symbol (Some s) at =
        let is : IsSymbol ss w.text s = h.symbols w.text i s e at in
        ap known_symbol at ∙ or_both s.role (is_name_in (flat_map input_name ss) w.text) (is_name_in (flat_map gate_name ss) w.text) is.input is.driven ∙ sym (either_in ss w.text)
    at_symbol None at = let some = slice_get-get_or table.symbols.items i Rattle.net_bench.specs.Symbols.blank low in cc

uses_undefined : (ss : List Statement) (table : SymbolTable) → IsOf ss table → (us : List Use) (ws : List Word) → AreFound table.names us ws →
    undefined_use table.symbols.items us ≡ undefined_line (is_defined ss) ws
uses_undefined ss table h [] [] found = refl
uses_undefined ss table h (u ∷ us) (w ∷ ws) found =
    ap (λ b. cond b (undefined_use table.symbols.items us) (Some u.line)) (known_is ss table h w u.signal found.0) ∙
    ap (λ l. cond (is_defined ss w) (undefined_use table.symbols.items us) (Some l)) found.1 ∙
    ap (λ o. cond (is_defined ss w) o (Some w.line)) (uses_undefined ss table h us ws found.2)
uses_undefined ss table h [] (w ∷ ws) found = absurd found
uses_undefined ss table h (u ∷ us) [] found = absurd found

by_table : (ss : List Statement) (table : SymbolTable) → IsOf ss table → undefined_use table.symbols.items table.uses.items ≡ undefined_line (is_defined ss) (flat_map uses ss)
by_table ss table h = uses_undefined ss table h table.uses.items (flat_map uses ss) h.uses

pub late_undefined : (ss : List Statement) (table : SymbolTable) (line : ℕ) → IsOf ss table → Some line ≡ undefined_use table.symbols.items table.uses.items → IsLateFault ss (Undefined line)
late_undefined ss table line h e = inr (inl (line, refl, undefined_split (is_defined ss) (flat_map uses ss) line (sym (e ∙ by_table ss table h))))

pub all_defined : (ss : List Statement) (table : SymbolTable) → IsOf ss table → None ≡ undefined_use table.symbols.items table.uses.items → AreDefined ss
all_defined ss table h e = undefined_none (is_defined ss) (flat_map uses ss) (sym (e ∙ by_table ss table h))

pub same_net : (ss : List Statement) (table : SymbolTable) (ranks : List ℕ) → IsOf ss table →
    (let n : Net = record { names = table.names; inputs = table.inputs.items; outputs = table.outputs.items; gates = table.gates.items; registers = table.registers.items; ranks = ranks } in n) ≡ net_of ss ranks
same_net ss table ranks h =
    let a : table.names ≡ names_of ss = h.names in
    let p : AreParts (names_of ss) ss table = h.parts (names_of ss) (λ n i e. subst (λ ns. find ns n ≡ Some i) a e) in
    let i = p.inputs in
    let o = p.outputs in
    let g = p.gates in
    let r = p.registers in
    cc

-- ---- roles

at_name : (xs : List (List ℕ)) (i : ℕ) → i < length (distinct xs) → find (distinct xs) (get_or (distinct xs) i []) ≡ Some i
at_name xs i low =
    let n : List ℕ = get_or (distinct xs) i [] in
    let there : is_name_in (distinct xs) (get_or (distinct xs) i []) ≡ true =
    contained_in (distinct xs) (get_or (distinct xs) i []) (i, low, get_or_default (distinct xs) i _ [] low) in
    let (j, f) = found_of (distinct xs) (get_or (distinct xs) i []) there in
    f ∙ ap (λ k. Some k) (sym (number_found (distinct xs) (get_or (distinct xs) i []) j f) ∙ number_back xs i low)

input_there : (names xs : List (List ℕ)) (n : List ℕ) → is_name_in xs n ≡ true → Contains (map (number_of names) (distinct xs)) (number_of names n)
input_there names xs n e =
    let there : is_name_in (distinct xs) n ≡ true = in_distinct xs n ∙ e in
    contains_map (number_of names) (distinct xs) (number_of (distinct xs) n) n (number_low (distinct xs) n there) (number_at (distinct xs) n n there)

module _ (ss : List Statement) (table : SymbolTable) (h : IsOf ss table) (sound : IsSound ss) (all : AreDefined ss) (ranks : List ℕ) where
  abbrev whole : Net
  whole = record { names = table.names; inputs = table.inputs.items; outputs = table.outputs.items; gates = table.gates.items; registers = table.registers.items; ranks = ranks }

  found_name : (i : ℕ) → i < length table.names → find table.names (get_or table.names i []) ≡ Some i
  found_name i low = subst (λ ns. i < length ns → find ns (get_or ns i []) ≡ Some i) (sym h.names) (at_name (flat_map interned ss) i) low

  role_at : (i : ℕ) (s : Symbol) → slice_get table.symbols.items i ≡ Some s → i < length table.names → (r : Role) → s.role ≡ r → HasRole whole i r
  role_at i s at low undefined is =
      let n : List ℕ = get_or table.names i [] in
      let y : IsSymbol ss (get_or table.names i []) s = h.symbols (get_or table.names i []) i s (found_name i low) at in
      let none : false ≡ is_name_in (flat_map defined ss) (get_or table.names i []) =
      sym (ap is_defined_role is) ∙
      or_both s.role (is_name_in (flat_map input_name ss) (get_or table.names i [])) (is_name_in (flat_map gate_name ss) (get_or table.names i [])) y.input y.driven ∙ sym (either_in ss (get_or table.names i [])) in
      let some : is_name_in (flat_map defined ss) (get_or table.names i []) ≡ true =
      name_defined ss sound all (get_or table.names i []) (ap (λ ns. is_name_in ns (get_or table.names i [])) (sym h.names) ∙ is_there table.names (get_or table.names i []) i (found_name i low)) in
      absurd (false_true (none ∙ some))
    where
      false_true : false ≡ true → ⊥
      false_true e = cc
  role_at i s at low input is =
      let n : List ℕ = get_or table.names i [] in
      let y : IsSymbol ss (get_or table.names i []) s = h.symbols (get_or table.names i []) i s (found_name i low) at in
      let there : is_name_in (flat_map input_name ss) (get_or table.names i []) ≡ true = sym y.input ∙ ap is_input_role is in
      let p : AreParts table.names ss table = h.parts table.names (λ m j e. e) in
      subst (λ is. Contains is i) (sym p.inputs)
      (subst (Contains (map (number_of table.names) (distinct (flat_map input_name ss)))) (number_found table.names (get_or table.names i []) i (found_name i low))
      (input_there table.names (flat_map input_name ss) (get_or table.names i []) there))
  role_at i s at low (gate p) is = subst (IsPlacedAt table.gates.items table.registers.items i) is (h.places sound.kinds i s at)
  role_at i s at low (register p) is = subst (IsPlacedAt table.gates.items table.registers.items i) is (h.places sound.kinds i s at)

  pub roles : AreRoles whole table.symbols.items
  roles = record {
    each = h.each;
    right = λ i s at. role_at i s at (subst (λ k. i < k) h.each (slice_get_within table.symbols.items i s at)) s.role refl;
  }
