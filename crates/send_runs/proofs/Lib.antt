-- the rows of a todo pass before the answer
pub mod BeforeAnswer
-- what each event keeps of the known messages
pub mod Messages
-- the numbers of the known messages rise
pub mod Rising
-- what a sender knows of messages
pub mod Known
-- the reports that a sender takes
pub mod Reports
-- what a sender enters, by its row
pub mod Entries
-- what is in flight
pub mod Flights
-- what rows leave of the slots
pub mod Slots
-- how many slots each channel has
pub mod Limits
-- the numbers of deliveries
pub mod Deliveries
-- the lines of reports
pub mod ReportLines
-- where readings and sweeps go on
pub mod Calm
-- what comes before an unlink
pub mod Clearing
-- and before a todo pass
pub mod Searching
-- what is so of each known message
pub mod Knowns
-- what each row does to messages and jobs
pub mod Steady
-- exactly which messages are known
pub mod Knowing
-- which channel file is opened for a pass
pub mod Trials
-- changes of schedules and jobs
pub mod DueLists
-- events that leave what was due
pub mod Quiet
-- what takings and marks do to the channels
pub mod Settling
-- where a channel has nothing of a message
pub mod Overs
-- which channel files are there
pub mod There
-- on which channels messages are due
pub mod Filed
-- which channel files messages have
pub mod Files
-- when messages are due
pub mod DueMoments
-- from when messages may be finished
pub mod FinishMoments
-- what is to be given, by a past
pub mod Giving
-- rows that leave the channels as they are
pub mod Kept
-- what becomes of passes
pub mod Fates
-- when nothing is left of a pass
pub mod Bridges
-- how each event leaves passes
pub mod Passing
-- which file is unlinked next
pub mod Unlinks
-- what each row makes due
pub mod DueRows
-- which record the mark at work is of
pub mod FirstMarks
-- exactly when messages are due
pub mod Dues
-- events by which no finish fails
pub mod Unfailing
-- the return of a message, and which events make finishes fail
pub mod Returns
