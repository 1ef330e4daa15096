-- lemmas that scenario cites
pub use Rattle.queue_law.proofs.Tests
pub use Rattle.queue_law.proofs.Looks
-- what a machine stop makes of a life
pub mod Halts
-- what each program keeps to, and how it fares
pub mod Programs
-- an event of an actor that may happen
pub mod Owns
-- what came of what was due is of its kind
pub mod Coming
-- each event
pub mod Kept
-- each accepted message waits in todo
pub mod Waiting
-- what kept events tell, whatever the disk is
pub mod Known
-- what an event changes of the pipes that are kept
pub use Rattle.world_pipes.proofs.Wires
pub use Rattle.world_pipes.proofs.Keeps
pub use Rattle.world_pipes.proofs.Feeds
pub use Rattle.world_pipes.proofs.Shuts
-- who was never started has no pipes
pub mod Unwired
pub mod Piped
-- the child in the first slot of its parent
pub mod Borne
-- what an actor finds by its pipes
pub mod Found
-- a generation starts
pub mod NewCrew
pub mod Begun
-- the actor at a place
pub use Rattle.world_events.proofs.Noted
-- where each stands, by who started
pub mod Placing
-- the order of starts
pub mod Starting
pub use Rattle.world_events.proofs.Crewing
-- who is the next one in a turn
pub mod Turns
-- the report of a remote program
pub mod Reported
-- the first member that lives
pub mod Firsts
-- idle turns
pub use Rattle.world_events.proofs.Lasts
-- what an actor passes on, and what it owes
pub mod Passed
-- a step, by all that a world keeps
pub mod Steps
-- what the world does for a sender and its child
pub mod Served
-- a history goes on with one event more
pub mod Histories
-- lists of open descriptors
pub use Rattle.world_events.proofs.Descriptors
-- what calls open and close
pub mod Opens
-- what machines stand for and need
pub mod Machines
-- the life of an actor
pub mod Spans
-- lists by their places
pub use Rattle.world_pipes.proofs.Lists
-- of which kind those are that start injectors, and who was never started
pub mod Fed
pub mod Births
-- what is due suits the place of its pipes
pub mod Suiting
-- how many children were started, and the numbers of local deliveries
pub mod Numbered
-- the actors that a world keeps
pub mod Crew
-- one actor calls, ends or starts
pub mod Acts
-- what the actors have open
pub mod Hands
-- the names of members, and where they stand
pub mod Members
pub use Rattle.world_pipes.proofs.Seats
-- who awaits its input
pub mod Awaiting
-- the child of an actor that is over
pub mod Leaving
-- what passes by pipes and slots
pub mod Passes
-- histories without generations
pub mod Covered
-- what a world keeps
pub mod Worlds
-- how many actors live
pub mod Living
-- when a step is refused
pub mod Refusals
-- who was started and who has ended, by the kept events
pub mod Lives
-- calls that left nothing half written
pub mod Unwritten
-- the books of a world, one event after the other
pub mod Booked
-- the books of a world are those of the history
pub mod ModelBooks
-- of which mail each injection is, and its number
pub mod BookedNumbers
-- who is accepted in them
pub mod QueuedBooks
-- a history with another input of a child
pub mod Anew
-- what a return does inside a sender: it starts an injector, gives it two texts, and takes its status
pub mod ReturnSteps
-- what a sender gives to the injector of a bounce, by its past
pub mod ReturnGives
-- what it has read of the bounce file that it closes
pub mod BounceReads
-- who starts injectors, by its table
pub mod Feeders
-- what a world keeps of its actors, as it does for one of them what concerns a child
pub mod Serving
-- an actor takes the status of its child
pub mod Statuses
-- an actor gives its child its whole input
pub mod Feeding
-- an actor starts the injector of a bounce
pub mod Bearing
-- the local spawner gives a delivery its input
pub mod Filling
-- the names of the injectors of bounces
pub use Rattle.world_events.proofs.Bounces
-- a step of a parent: where it and its child stand, and what it is handed
pub mod Parents
-- what a world keeps after an event of a parent
pub mod Wholes
-- a step of an actor that lives
pub mod Stepping
-- what a step comes to
pub mod Moves
-- mails that start live
pub mod LivingMails
-- an actor that starts alone with its whole input
pub mod Lone
