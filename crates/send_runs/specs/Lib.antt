-- worked runs
pub mod Worked
-- the order of what it knows
pub mod Rising
-- what it knows of messages
pub mod Known
-- exactly which it knows
pub mod Knowing
-- when each is due
pub mod DueMoments
-- and exactly when
pub mod Dues
-- which channel files each has
pub mod Files
-- from when each may be finished
pub mod FinishMoments
-- what the reports that it takes say
pub mod Reports
-- the status line
pub mod Status
-- the numbers of deliveries
pub mod Deliveries
-- the lines of reports
pub mod ReportLines
-- worked pasts
pub mod WorkedPasts
