-- Document 01's rules as definitions that antt computes. A reader has to believe these files, and of the crates above what their contracts cite.
-- What the public contracts cite:
--     Plant       a line, a plant, a plant from its three lists
--     Cut         a set of devices, its out, its size, its cost at a rate
--     Community   the community of a device
--     Groups      the group of a device, its label, the labels at a rate
--     Sweep       the owners of devices, by going through the devices once
--     Rates       accepted rates, order of fractions, lowest terms
--     Refusal     the number and the place that a call answers
--     Faults      the number and the place of each fault
--     Refusals    each cause of a refusal, and the first in the fixed order
--     Lists       a lent list after a call
--     Hierarchy   levels, low rates and joining rates
--     Sets        sets of devices against each other: inside, agree, the signals between two
--     Network     a network, what a set of its nodes costs, the least set that holds a node
-- What only the laws speak of, and no public contract cites:
--     CommunityIs the community of a device as a property of a set
--     Nodes       networks whose nodes stand for sets of devices
--     Accepted    an accepted plant, and all signals together
--     Limits      the least and the largest rate
--     Added       document 004's graph with its added vertex t
--     Order       the owners of devices, by going through the devices in any order
--     Connected   the connected parts of a plant
--     Numbers     a sum of numbers
--     Stretch     what the search between two levels finds
--     Figures     K1 to K12 as a list
pub mod Plant
pub mod Cut
pub mod Community
pub mod Groups
pub mod Sweep
pub mod Rates
pub mod Refusal
pub mod Faults
pub mod Refusals
pub mod Lists
pub mod Hierarchy
pub mod Sets
pub mod Network
pub mod Nodes
pub mod CommunityIs
pub mod Accepted
pub mod Limits
pub mod Added
pub mod Order
pub mod Connected
pub mod Numbers
pub mod Stretch
pub mod Figures
