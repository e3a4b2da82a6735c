-- `network::owners::take_over` meets its contract: a node without a line is its own least set, and of any other the nodes of the least set are painted.
-- Assumes nothing.
use mathlib.Core.Path.{◌≡◌}
use Rattle.std.proofs.Common.{rules}
use Rattle.network.specs.Search.{behind}
use Rattle.network.proofs.AloneLaws.{alone, alone-least, alone-painted}
use Rattle.network.proofs.IndexLaws.{behind-none}
use Rattle.network.proofs.owners.take_over.Goals as goal

pub returns-then-alone : goal.returns-then-alone
returns-then-alone c =
    let empty : behind c.last_of.result ≡ 0 = search (rules, behind-none) in
    let none = rw empty at c.last_of.ensures in
    (alone c.args.x, alone-least c.args.lines.now.network.fits c.args.x none, alone-painted c.args.lines.now.network.nodes c.args.x c.args.owner.now c.requires.node c.requires.room)
