-- pipes, and who runs in whose slot
pub use Rattle.world_pipes.specs.Pipework
-- histories: what happens, the state after it, and which are legal
pub mod History
-- what is claimed of histories in which no generation was started
pub mod Waiting
-- what each event leaves as it was
pub mod Untouched
-- the history that a world keeps
pub use Rattle.world_events.specs.Kept
-- what kept events tell
pub mod Known
-- what an actor finds ready
pub mod Readiness
-- what is promised of a world
pub mod World
-- the machines of actors
pub mod ByKind
-- the pipes that a world keeps
pub mod Wired
-- the members of a generation, as they are kept
pub mod Crew
-- generations in a world
pub mod Generations
-- what the fields of a world mean
pub mod Inside
-- one step of an actor
pub mod Acting
-- where each actor stands that is no member
pub use Rattle.world_events.specs.Places
-- what became of each injection
pub mod Books
-- who started, as it is kept
pub mod Starts
-- the children of actors, as they are kept
pub mod Children
-- what a world keeps
pub mod Whole
-- histories that are told anew, with another input of a child
pub mod Anew
-- what a step comes to, by what it answers: the actors stepped in turn
pub mod Moves
-- the mails of a world, all of which live
pub mod LivingMails
-- what an actor that starts alone with its whole input may take and give
pub mod Lone
