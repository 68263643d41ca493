-- `linear_hermitian::shifted` meets its contract: each return opens the definition and rewrites it by the tests and the calls on its way; the laws are in proofs/Shift.
use Rattle.linear_hermitian.proofs.Shift.{shifted-all}
use Rattle.linear_hermitian.proofs.shifted.Goals as goal

pub returns : goal.returns
returns c = search shifted-all
