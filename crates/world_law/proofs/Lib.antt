-- what holds at the start
pub mod Begins
-- what time and a report leave
pub mod Later
-- what a delivery that ended with 0 did
pub mod DeliveryEnds
-- which deliveries were started since the last request for their slot
pub mod Born
-- what is in flight was asked for
pub mod Asked
-- no two attempts share a delivery
pub mod Apart
-- the state is safe
pub mod Safe
-- an injector whose link to todo was answered Ok
pub mod Queuing
-- who runs in the slots, and which members are there
pub mod Tenants
-- what a spawner holds open, through what others do
pub mod Held
-- an end and a stop
pub mod Gone
-- a column of the ledgers
pub mod Columns
-- the lines of the ledgers, in the lives of message numbers
pub mod Lives
-- from the ledgers to what happened
pub mod Ledger
-- what a sender hears, by its past
pub mod Heard
-- the bounces in ledgers
pub mod Bounces
-- texts that end at a mark
pub mod Marks
-- what a child is given
pub mod Inputs
-- what an envelope is read as
pub mod Envelopes
-- and that of a bounce
pub mod BounceEnvelopes
-- the addresses to which lines forward
pub mod PlainLines
-- the words of a delivery, as the local spawner asks for it
pub mod PlainWords
-- when a bounce file is opened to be returned
pub mod BouncesLast
-- what others leave of a delivery
pub mod Forwarded
-- one actor that moves
pub mod Moved
-- the start of an injector and of a generation
pub mod Starts
-- a machine stop
pub mod Halted
-- a step that spares closed numbers
pub mod Stepped
-- the events of an injector
pub mod Injects
-- a change of a pipe that isn't between the sender and its cleaner
pub mod Pipes
-- the events of a spawner
pub mod Spawners
-- those of the remote spawner
pub mod Remotes
-- and those of the local spawner
pub mod Locals
-- the events of a delivery
pub mod Deliveries
-- the events of the cleaner
pub mod Cleaning
-- what lies between the sender and its cleaner after an event of the sender
pub mod SendersLink
-- what the sender's steps leave of others
pub mod SendersOthers
-- the state after an event of the sender
pub mod SendersPut
-- the pipes of the sender
pub mod SendersPipes
-- what the sender takes of its child
pub mod SendersChild
-- the events of the sender
pub mod SendersEvents
-- the start of a child
pub mod Children
-- what holds after each legal history
pub mod Histories
-- the words of each delivery
pub mod PlainDeliveries
-- to whom its forwards go
pub mod Addressed
-- what led to a world
pub mod Led
-- what each event leaves
pub mod Leaves
-- the commands under way at a cleaner
pub mod UnderWay
-- the pipes between the sender and a spawner
pub mod PostPipes
-- what an event leaves of what lies between them
pub mod PostViews
-- events of others than these two
pub mod PostEvents
-- those of the sender
pub mod PostSends
-- those of the local spawner
pub mod PostServes
-- the pasts of actors
pub mod Ran
-- what a sender has read of the control files
pub mod Readings
-- each event
pub mod PostKept
-- what the sender hears
pub mod PostHeard
-- what ledgers have as delivered, as the books change
pub mod DeliveredBooks
-- and by which deliveries
pub mod Delivered
-- recipients that ledgers have as delivered were reported
pub mod Reported
-- by which controls messages are routed
pub mod Routed
-- what a sender has in hand, channel files, and injectors at work
pub mod Standing
pub mod Sweeps
-- what a sender had in flight
pub mod Flights
-- what a spawner has at work
pub mod AtWork
-- what the local spawner holds
pub mod Holding
-- what is remembered of deliveries that ended, and may be forgotten
pub mod Forgets
-- what holds of the messages that the local spawner holds and gives
pub mod EnteredStands
-- what becomes of a message that a local spawner reads
pub mod MessageSteps
-- what was entered, by the books
pub mod EnteredBooks
-- of which attempts it is
pub mod EnteredFlights
-- what is held and given of it, from one state to another
pub mod EnteredKept
-- what a delivery has received
pub mod Received
-- what an event of others leaves of it
pub mod EnteredLeft
-- what lies in the input of one who was never there
pub mod Newcomers
-- what an event of the sender keeps of it
pub mod EnteredSender
-- where the local spawner goes from each row
pub mod SpawnerLeads
-- what it gives to deliveries
pub mod SpawnerGives
-- an event of it
pub mod SpawnerWorks
-- what that keeps of the message
pub mod EnteredSpawner
-- and what those of others and ends do
pub mod EnteredOthers
-- and the start of a child
pub mod EnteredChild
-- the message that a local delivery took
pub mod Entered
-- the names in `pid` that the cleaner takes away
pub mod PidNames
-- the newest event of an actor, in its history
pub mod Newest
-- what an event of a spawner does to what runs in its slots
pub mod SpawnedRuns
-- a spawner that goes no more
pub mod SpawnedRests
-- what an event of the sender does to its slots
pub mod SpawnedSlots
-- what a spawner has in hand
pub mod SpawnedHand
-- what stands between the sender and a spawner
pub mod SpawnedViews
-- events of actors
pub mod SpawnedEvents
-- what a spawner has in hand is of messages in S5
pub mod Spawned
-- of whom a local delivery ended with 0
pub mod DeliveredDone
-- the links of deliveries
pub mod CarriedLinks
-- the promise
pub mod Promise
