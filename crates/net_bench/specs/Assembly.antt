-- Netlists that are made of their parts, and what their symbols say while the roles are set.
use Rattle.std.specs.Prelude.{◌≡◌, ◌⊎◌, ℕ, true, List, slice_index_or}
use Rattle.net_bench.specs.declared.assembly.Assembly.{Assembly}
use Rattle.net_bench.specs.declared.symbols.Symbol.{Symbol}
use Rattle.net_bench.specs.declared.netlist.Role.{Role}
use Rattle.net_bench.specs.declared.netlist.Role.TheVariants.{Undefined as undefined}
use Rattle.net_bench.specs.Circuit.{Net, HasRole}
use Rattle.net_bench.specs.Symbols.{blank, is_defined_role}

-- the netlist that has these parts
abbrev pub net_of_parts : Assembly → Net
net_of_parts p = record {
  names = p.names;
  inputs = p.inputs.items;
  outputs = p.outputs.items;
  gates = p.gates.items;
  registers = p.registers.items;
  ranks = p.ranks.items;
}

-- the role in a signal's symbol; undefined if there is no such symbol
abbrev pub role_in : List Symbol → ℕ → Role
role_in symbols s = (slice_index_or symbols s blank).role

-- each role that is set is the one that the signal has
abbrev pub AreRolesRight : Net → List Symbol → Type 0
AreRolesRight n symbols = (s : ℕ) → (role_in symbols s ≡ undefined) ⊎ HasRole n s (role_in symbols s)

-- the signal's role is set
abbrev pub HasRoleSet : List Symbol → ℕ → Type 0
HasRoleSet symbols s = is_defined_role (role_in symbols s) ≡ true

-- no role that was set is lost
abbrev pub KeepsRoles : List Symbol → List Symbol → Type 0
KeepsRoles old new = (s : ℕ) → HasRoleSet old s → HasRoleSet new s
