-- When an operation on two references is a request.
use Rattle.std.specs.Prelude.{◌≡◌, false, None}
pub use Rattle.req_table.specs.declared.Operation.{Operation}
use Rattle.req_table.specs.TerminalCase.{terminal_of, normal_of}

-- an operation is a request: it has no terminal case, and is And, or Xor of references without complement bits, with
-- its operands in order
pub record IsRequest (k : Operation) : Type 0 where
  pub long : terminal_of k.op k.f k.g ≡ None
  pub ordered : normal_of k.op k.f k.g ≡ (k, false)
