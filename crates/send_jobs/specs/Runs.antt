-- Runs of calls on one channel, newest call first, and what holds after each.
use Rattle.std.specs.Prelude.{◌≡◌, ◌≢◌, ◌↔◌, ℕ, ◌<◌, List, [], ◌∷◌, Bool, true, false, if◌then◌else◌, ◌==◌, Option, Some, None, All, Contains}
use Rattle.envelope_records.specs.declared.channel.Record.{Record}
use Rattle.envelope_records.specs.Records.{AreRecords}
use Rattle.send_jobs.specs.declared.attempts.Attempt.{Attempt}
use Rattle.send_jobs.specs.declared.attempts.Mark.{Mark}
use Rattle.send_jobs.specs.declared.lane.Lane.{Lane}
use Rattle.send_jobs.specs.Lanes.{empty, next, begun_by, numbered, sent, reported, is_in_flight, finished, owes, mark_settled, left_unmarked, ended}
use Rattle.send_jobs.specs.Passes.{attempts_of}
use Rattle.send_jobs.specs.Slots.{attempt_in}

-- a call that changes a channel
pub data Act : Type 0 where
  Begin : (n : ℕ) (records : List Record) (begun : ℕ) (dying : Bool) → Act
  Send : (delivery : ℕ) → Act
  Report : (slot : ℕ) → Act
  AddMark : (mark : Mark) → Act
  SettleMark : Act
  LeaveUnmarked : (n : ℕ) → Act
  EndJob : (n : ℕ) → Act

-- the channel after one
abbrev pub acted : Act → Lane → Lane
acted (Begin n records begun dying) lane = begun_by n records begun dying lane
acted (Send delivery) lane = sent delivery lane
acted (Report slot) lane = reported slot lane
acted (AddMark mark) lane = owes mark lane
acted SettleMark lane = mark_settled lane
acted (LeaveUnmarked n) lane = left_unmarked n lane
acted (EndJob n) lane = ended n lane

-- the channel after a run, from so many free slots
abbrev pub after : ℕ → List Act → Lane
after limit [] = empty limit
after limit (act ∷ before) = acted act (after limit before)

-- A pass begins when none is open, and no attempt at its message is in flight; its records are those of a channel file.
abbrev pub IsAllowed : Act → Lane → Type 0
IsAllowed (Begin n records begun dying) lane = (next lane ≡ None) × (is_in_flight n lane ≡ false) × ((bytes : List ℕ) × AreRecords bytes records)
IsAllowed (Send delivery) lane = Unit {0}
IsAllowed (Report slot) lane = Unit {0}
IsAllowed (AddMark mark) lane = Unit {0}
IsAllowed SettleMark lane = Unit {0}
IsAllowed (LeaveUnmarked n) lane = Unit {0}
IsAllowed (EndJob n) lane = Unit {0}

abbrev pub IsRun : ℕ → List Act → Type 0
IsRun limit [] = Unit {0}
IsRun limit (act ∷ before) = IsRun limit before × IsAllowed act (after limit before)

-- what the last pass over this message had to give: its records that read `T`
abbrev pub pass_of : ℕ → List Act → List Attempt
pass_of n [] = []
pass_of n (Begin m records begun dying ∷ before) = if m == n then attempts_of m dying records else pass_of n before
pass_of n (Send delivery ∷ before) = pass_of n before
pass_of n (Report slot ∷ before) = pass_of n before
pass_of n (AddMark mark ∷ before) = pass_of n before
pass_of n (SettleMark ∷ before) = pass_of n before
pass_of n (LeaveUnmarked m ∷ before) = pass_of n before
pass_of n (EndJob m ∷ before) = pass_of n before

-- with the place of this attempt, if there is one and it's at this message
abbrev pub with_place : ℕ → Option Attempt → List ℕ → List ℕ
with_place n None places = places
with_place n (Some a) places = if a.n == n then a.place ∷ places else places

-- the places of this message that were reported since its last pass began
abbrev pub reported_of : ℕ → ℕ → List Act → List ℕ
reported_of limit n [] = []
reported_of limit n (Begin m records begun dying ∷ before) = if m == n then [] else reported_of limit n before
reported_of limit n (Report slot ∷ before) = with_place n (attempt_in (after limit before).slots slot) (reported_of limit n before)
reported_of limit n (Send delivery ∷ before) = reported_of limit n before
reported_of limit n (AddMark mark ∷ before) = reported_of limit n before
reported_of limit n (SettleMark ∷ before) = reported_of limit n before
reported_of limit n (LeaveUnmarked m ∷ before) = reported_of limit n before
reported_of limit n (EndJob m ∷ before) = reported_of limit n before

-- What holds after a run: two attempts in flight aren't at one place of one message; each attempt in flight, and the next of
-- the open pass, is one that the last pass over its message had to give; and a message is finished exactly when each place of
-- its last pass was reported.
pub record IsSoundRun (limit : ℕ) (acts : List Act) : Type 0 where
  pub apart : (i j : ℕ) (a b : Attempt) → i < j → attempt_in (after limit acts).slots i ≡ Some a → attempt_in (after limit acts).slots j ≡ Some b
      → a.n ≡ b.n → a.place ≢ b.place
  pub read : (i : ℕ) (a : Attempt) → attempt_in (after limit acts).slots i ≡ Some a → Contains (pass_of a.n acts) (numbered 0 a)
  pub left : (a : Attempt) → next (after limit acts) ≡ Some a → Contains (pass_of a.n acts) a
  pub over : (n : ℕ) → (finished n (after limit acts) ≡ true) ↔ All (λ a. Contains (reported_of limit n acts) a.place) (pass_of n acts)
