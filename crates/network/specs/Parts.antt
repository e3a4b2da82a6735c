-- The words of `Search` for the structs that the functions hand to each other: a network with its index, what can still go, and a queue. No public contract cites this file.
-- Assumes nothing.
use Rattle.std.specs.Prelude.{ℕ, ◌+◌, length, get_or}
use Rattle.rules.specs.Plant.{lines_of}
use Rattle.rules.specs.Cut.{Devices}
use Rattle.rules.specs.Network.{IsLeast}
use Rattle.network.specs.Search.{behind, Way, spare_to, Clear, Scan, Found, Rest, Standing, Spares}
use Rattle.network.specs.declared.judge.Network.{Network}
use Rattle.network.specs.declared.index.Lines.{Lines}
use Rattle.network.specs.declared.reach.Queue.{Queue}
use Rattle.network.specs.declared.spare.Spare.{Spare}

-- a search from d at place h and line k of the queue, that has found no drain
abbrev pub Scans : Lines → Spare → ℕ → Queue → ℕ → ℕ → Type 0
Scans lines spare d queue h k = Scan lines.network.firsts.now lines.network.seconds.now spare.forth spare.back spare.drain d queue.node queue.via queue.from queue.mark queue.count h k

-- one that has found a node with drain left
abbrev pub Stops : Lines → Spare → ℕ → Queue → ℕ → ℕ → Type 0
Stops lines spare d queue h k = Found lines.network.firsts.now lines.network.seconds.now spare.forth spare.back spare.drain d queue.node queue.via queue.from queue.mark queue.count h k

-- one that can go on where it stands
abbrev pub Stands : Lines → Spare → ℕ → Queue → Type 0
Stands lines spare d queue = Standing lines.network.firsts.now lines.network.seconds.now spare.forth spare.back spare.drain d queue.node queue.via queue.from queue.mark queue.count queue.place (behind queue.rest)

-- one that has found a node with drain left where it stands
pub record Finds (lines : Lines) (spare : Spare) (d : ℕ) (queue : Queue) : Type 0 where
  pub found : Stops lines spare d queue queue.place (behind queue.rest)
  pub ahead : Rest lines.network.firsts.now lines.network.seconds.now (get_or queue.node queue.place 0) (behind queue.rest)

-- one that has gone through its whole queue
abbrev pub Ends : Lines → Spare → ℕ → Queue → Type 0
Ends lines spare d queue = Scans lines spare d queue queue.count (length lines.network.firsts.now)

-- the queue up to place `end`
abbrev pub WayTo : Lines → Queue → ℕ → Type 0
WayTo lines queue end = Way lines.network.firsts.now lines.network.seconds.now queue.node queue.via queue.from (end + 1)

-- what can still go over the line by which place j came
abbrev pub spare_at : Lines → Spare → Queue → ℕ → ℕ
spare_at lines spare queue j = spare_to lines.network.firsts.now spare.forth spare.back queue.node queue.via queue.from j

-- on the way back from place `end` at least δ can go over each line
abbrev pub ClearTo : Lines → Spare → Queue → ℕ → ℕ → Type 0
ClearTo lines spare queue δ end = Clear lines.network.firsts.now spare.forth spare.back queue.node queue.via queue.from δ end

-- what is still to go and what has been sent, from a start
abbrev pub Sends : Network → Spare → ℕ → Type 0
Sends network spare start =
    Spares network.nodes network.firsts.now network.seconds.now network.widths.now network.drains.now start spare.forth spare.back spare.drain

-- S is the least set that holds the start
abbrev pub Least : Network → ℕ → Devices → Type 0
Least network start S =
    IsLeast (lines_of network.firsts.now network.seconds.now network.widths.now) (λ v. get_or network.drains.now v 0) network.nodes start S
