-- `text_floor::fits_at` meets its contract: the test of the column that `whole` chooses. Assumes nothing.
use Rattle.text_floor.proofs.fits_at.Goals as goal

pub returns-then-whole : goal.returns-then-whole
returns-then-whole c = cc

pub returns : goal.returns
returns c = cc
