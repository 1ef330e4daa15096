-- the end of an idle turn
pub mod IdleTurns
-- what a search leaves as it was
pub mod Searching
-- channels on which nothing is in flight
pub mod FreeChannels
-- spawners that wait
pub mod Waiting
-- a search of `todo` without a name
pub mod Queued
-- the first search of an idle turn goes from the start
pub mod FromStart
-- directories stay
pub mod Dirs
-- the numbers of messages where nothing fails
pub mod SmallNumbers
-- messages that wait to be preprocessed
pub mod Unqueued
-- no message waits to be preprocessed at a rest
pub mod NoneQueued
-- of which facts a settled state comes
pub mod Sufficing
-- who searches
pub mod Searchers
-- how `settle` ends
pub mod Stopping
-- states that are alike but for what the sender did
pub mod Alike
-- who can't do yet what is due
pub mod Refused
-- who was started
pub mod Starts
-- the places that a turn goes through
pub mod Places
-- what an idle round leaves
pub mod IdleRounds
-- what `settle` promises, by what a rest leaves
pub mod Ending
-- the slots of a sender that begins a turn
pub mod Allowed
-- the first byte of a spawner, by its past and by the sender's
pub mod Greeting
pub mod Greeted
-- what a spawner gives, by where it stands
pub mod Says
-- a spawner by its past
pub mod Spawns
-- what a sender and a spawner keep of each other, by each event
pub mod PipeEvents
-- the first byte
pub mod GreetedEvents
-- the requests of some bytes
pub mod Splits
-- what lies between a sender and a spawner, by the pasts of both
pub mod Carried
-- what is in flight is in hand
pub mod Flying
-- children are given their input
pub mod Tended
-- what runs in the slots of spawners
pub mod SlotTies
-- deliveries that stand at a drop
pub mod Dropping
-- spawners of which no program runs
pub mod QuietSpawners
-- how long fields are
pub mod ShortControls
pub mod ShortRoutes
pub mod ShortRequests
pub mod RoutesShort
-- names in `todo` are numbers
pub mod Strays
-- a search that ended an idle turn was the whole turn
pub mod WholeTurns
-- a rest by its newest turn
pub mod SenderRests
-- a whole idle turn in a play, by the sender's past
pub mod TurnPasts
-- who serves a sender lives as long as it
pub mod Living
-- bytes that begin with no whole request
pub mod Unfinished
-- what is in flight at a rest
pub mod FreeRests
-- the slots of a sender at a rest
pub mod HasSlots
-- where a sender stands while its turn has done nothing
pub mod QuietTurns
-- what the end of an idle turn leaves
pub mod Staying
-- when known messages are due then
pub mod DuesAtRest
-- what holds of the past of each sender
pub mod Pasts
-- channel files are records alone
pub mod LaneRecords
-- and serve a sender
pub mod ServedPasts
-- which channel files are gone
pub mod KnownGone
-- where a sender stands at an event
pub mod SenderRows
-- when info files were last written
pub mod InfoFiles
-- what an injector, a cleaner and those that only read leave of the files that preprocessing makes
pub mod LaterLeft
-- which numbers concern a sender
pub mod Concerns
-- events of others leave a sender its own
pub mod OthersInfos
-- what an event of a sender tells of info files
pub mod OwnInfos
-- births are the moments of info files
pub mod KnownBorn
-- no finish is put off
pub mod Unfailing
-- no info file is linked
pub mod NoLinks
-- no info file was written later than now
pub mod InfoMoments
-- the moments that a sender is told
pub mod ToldMoments
-- when known messages are due
pub mod KnownDue
-- of which facts a rest is left
pub mod Holding
-- no pass is begun while one is open
pub mod Alone
-- what a cleaner answers
pub mod Cleaned
-- names of the files that preprocessing makes
pub mod PartDirs
-- when a todo pass is about to be left
pub mod PassRows
-- what leaves a todo pass
pub mod Passed
-- messages that were tried and have their file
pub mod TriedStay
-- the channels where each report is of a success
pub mod SuccessLanes
-- rows that lead to no mark
pub mod StillFine
-- the rows where each report is of a success
pub mod SuccessRows
-- what a spawner gives where each report is of a success
pub mod SuccessPipes
-- each report that a sender takes then
pub mod Succeeding
-- what was tried then is at work
pub mod TriedWork
-- a rest has no message then
pub mod Emptied
-- so of known ones
pub mod TriedKnown
-- what events of a channel leave of places that stay `T`
pub mod Lefts
-- so by rows
pub mod LeftRows
-- so by any row
pub mod LeftSteps
-- channel files as they read
pub mod LaneTexts
-- what a sender leaves of them
pub mod OwnLanes
-- the write of a mark
pub mod LaneMarks
-- what holds of living senders and the disk
pub mod LivingSenders
-- a record that reads `T` is left
pub mod TriedFiles
-- so at the end of an idle turn
pub mod KnownUndone
-- what holds of each injection whose life lasts
pub mod Injected
-- injectors have a system's numbers
pub mod SystemNumbers
-- that todo files are todo texts
pub mod Texts
-- a cleaner is about to answer nothing but `+`
pub mod CleanAnswers
-- the answers to `todo/N`
pub mod TodoAnswers
-- the scan of a sender's start
pub mod ScanSteps
-- a message that was met stays met
pub mod Meeting
-- when the cleaner is told to remove a message
pub mod Removals
-- which calls leave preprocessed messages as they were
pub mod FiledCalls
-- which events of others do
pub mod OthersFiled
-- the text of an info file
pub mod InfoTexts
-- what an event of a sender shows of preprocessed messages
pub mod OwnFiled
-- which messages the sender has met
pub mod MetAlways
-- each preprocessed message is known
pub mod PreprocessedKnown
-- which calls make a number half-way
pub mod HalfDisks
-- at which rows such a call is due
pub mod HalfRows
-- each child has its input, or its parent lives
pub mod FedSlots
-- the pipe from the cleaner to the sender
pub mod CleanPipe
-- injectors at work on numbers that are half-way
pub mod Injecting
-- a cleaner that is to remove a message
pub mod Removing
-- an event of an actor leaves nobody's number half-way
pub mod Minding
-- somebody minds each number that is half-way
pub mod Minded
-- so none is half-way at a rest
pub mod NoneHalfWay
-- names of the files that an injector makes
pub mod MessageDirs
-- what an injector does at each row where nothing fails
pub mod InjectorRows
-- with what it ends
pub mod InjectorsEnd
-- what a bounce's injector is given
pub mod BounceInputs
-- which rows of a sender take a status
pub mod StatusRows
-- each bounce whose status was taken was accepted
pub mod BouncesTaken
-- how `settle` ends
pub mod Settling
-- which numbers of files are in use
pub mod UsedNumbers
-- the users of deliveries
pub mod UserNumbers
-- how each deed of a play came
pub mod PlayedDeeds
-- which numbers are in a play
pub mod PlayedNumbers
-- the disk that a script begins with
pub mod FirstNumbers
-- the `settle` lines of a script
pub mod PlayedLines
