-- what a world keeps tells deeds, and those the history
pub mod Deeds
-- which names a delivery may have
pub mod DeliveryNames
-- whose input an event leaves as it was
pub mod GivenInputs
-- which event a kept one tells
pub mod KeptEvents
-- what is known of a world is so after each history
pub mod Knowing
-- who waits in a world waits
pub mod Waiting
-- a step of a world, as a step of a script
pub mod ScriptSteps
-- the steps of a run
pub mod ScriptRuns
-- the next living actor
pub mod NextLiving
-- the starts of actors that live no more
pub mod DeadStarts
-- the parts of a turn and the rounds of `settle`
pub mod TurnRuns
-- a turn goes through the starts, and comes to its end
pub mod TurnStarts
-- the searches among the events that came
pub mod Searches
-- the lines of a script as they are played
pub mod ScriptLines
-- `sender` and `report`
pub mod GenerationLines
-- `stop` and `moment`
pub mod StopsAndMoments
-- the events that a line adds
pub mod Tracings
-- what a world keeps, as a history has it
pub mod ReadEvents
-- the lives of messages follow the state
pub mod Followed
-- the injectors of a world, with the envelopes that they were given
pub mod Receivers
-- the lines of mails
pub mod EachMail
-- as many recipients are counted as the accepted mails have
pub mod AllSummed
-- what was printed is what a history shows
pub mod Showings
-- lists in one strict order with the same members are one
pub mod OneOrder
-- lists whose elements follow one after the other
pub mod Chains
-- what is given to a child is one message and one envelope
pub mod OneGiving
-- a step comes to one outcome, and a run is one list of steps
pub mod OneStep
-- a turn is one list of parts, and `settle` one list of rounds
pub mod OneTurn
-- what is shown is one text
pub mod OneShown
-- a script prints one text
pub mod OneText
-- writes that failed
pub mod HalfWritten
-- what each file reads as may survive
pub mod LastingFiles
-- the names of a directory and the numbers in use, listed
pub mod Listings
-- what a step of a living actor is
pub mod StepKinds
-- what a script's history keeps beside being legal
pub mod Carried
-- a sender that has just started the injector of a bounce
pub mod Births
-- the names of later children, and what a play keeps
pub mod FreeNames
-- a play goes on with each deed
pub mod Going
-- entries make a disk
pub mod FirstDisks
-- and make one disk
pub mod OneFirstDisk
-- no file of it has two names
pub mod SingleNames
-- a history may begin with it
pub mod Openings
-- what a step comes to, by whether its actor lives
pub mod Outcomes
-- runs, turns and `settle` come to their end
pub mod Endings
-- reports and rounds, by what the calls of a world tell
pub mod TurnSteps
-- one round of `settle`, and its rounds so far
pub mod RoundSteps
-- the parts of a turn, by what the calls of a world tell
pub mod TurnParts
-- each script has a text
pub mod WholePlays
-- what a sink took of a line
pub mod TakenLines
-- turns of a world are steps of a play
pub mod WorkedSteps
-- what `work` plays before its threads, and after them
pub mod WorkedLines
-- in what `work` does nothing fails
pub mod QuietWork
