-- `pass_transports::look` meets its contract: each return follows from the tests and the calls on its way; the laws are in proofs/Steps.
use mathlib.Core.Path.{◌≡◌}
use borrow.Author.Rules.{rules}
use Rattle.std.specs.Prelude.{Err}
use Rattle.pass_transports.proofs.Steps.{error-is, looked-none, looked-kept}
use Rattle.pass_transports.proofs.look.Goals as goal

pub returns-in_err-z : goal.returns-in_err-z
returns-in_err-z c =
    let r : c.from_residual.result ≡ Err c.in_err-z.field-0.0 = search rules in
    rw r (record {
      looked = looked-none _ _ _ _ _ c.transport_at.ensures c.in_err-z.was;
      refused = error-is _ _ _ _ _ c.transport_at.ensures c.in_err-z.was;
    })

pub returns : goal.returns
returns c = record { looked = looked-kept _ _ _ _ _ c.transport_at.ensures c.in_ok-z.was c.store.ensures; refused = tt }
