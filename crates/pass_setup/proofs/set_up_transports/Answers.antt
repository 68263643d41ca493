-- `pass_setup::set_up_transports` meets its contract: each return follows from the tests and the calls on its way; the laws are in proofs/Carry.
use borrow.Author.Rules.{rules}
use Rattle.pass_setup.proofs.Carry.{part-from, part-to, room, ends_now, refused-22, all_done}
use Rattle.pass_setup.proofs.set_up_transports.Goals as goal

pub transports-requires : goal.transports-requires
transports-requires c = record { transports_room = room c.requires.ordered c.requires.joined (part-from c.requires.ordered c.requires.joined); ends = ends_now c.requires.ordered c.requires.joined (part-from c.requires.ordered c.requires.joined) (part-to c.requires.ordered c.requires.joined) }

pub returns-in_err-transports : goal.returns-in_err-transports
returns-in_err-transports c =
    refused-22 c.requires.ordered c.requires.joined (part-from c.requires.ordered c.requires.joined) (part-to c.requires.ordered c.requires.joined) c.transports.ensures _ c.in_err-transports.was (search rules)

pub returns : goal.returns
returns c =
    all_done c.requires.ordered c.requires.joined (part-from c.requires.ordered c.requires.joined) (part-to c.requires.ordered c.requires.joined) c.transports.ensures c.in_ok-transports.was
