-- the members of a generation, and what lies between the sender and its cleaner
pub mod Crew
-- what local deliveries did
pub mod Deliveries
-- what each actor has
pub mod Fares
-- the bounces in ledgers, and the recipients that they name
pub mod Bounces
-- the invariant
pub mod Inv
-- what is claimed of each state, and the headline
pub mod Headline
-- what keeps the invariant
pub mod Laws
-- what each event leaves as it was
pub mod Leaves
-- the names in `pid` that a cleaner takes away
pub mod PidNames
-- the commands under way at a cleaner
pub mod UnderWay
-- of which reports the ledgers have recipients as delivered, and as failed
pub mod Reported
-- by which controls messages are routed and recipients named
pub mod Routed
-- the lives of message numbers
pub mod Lives
-- how recipients are accounted for, by what happened
pub mod Ledger
-- what else holds in each state
pub mod Standing
-- what a spawner has in hand
pub mod Spawned
-- the message that a local delivery took is the one entered
pub mod Entered
-- for which attempt a local delivery was started
pub mod Started
-- what a local delivery carried out
pub mod Carried
-- definitions that only proofs and private code need
pub mod inside
