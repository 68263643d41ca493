-- `linear_layers::has_room` meets its contract: each return opens the definition and rewrites it by the tests on its way; the laws are in proofs/Tests.
use Rattle.linear_layers.proofs.Tests.{roomy-rows, roomy-edges, roomy-words}
use Rattle.linear_layers.proofs.has_room.Goals as goal

pub returns-then-n-ge4294967296 : goal.returns-then-n-ge4294967296
returns-then-n-ge4294967296 c = roomy-rows _ _ _ c.if-n-ge4294967296.true

pub returns-then-m-ge1073741824 : goal.returns-then-m-ge1073741824
returns-then-m-ge1073741824 c = roomy-edges _ _ _ c.if-m-ge1073741824.true

pub returns : goal.returns
returns c = roomy-words _ _ _ c.if-n-ge4294967296.false c.if-m-ge1073741824.false
