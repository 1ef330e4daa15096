-- Worked pasts: what reports say, the numbers of deliveries, and what is known. Each was worked out by hand.
use Rattle.std.specs.Prelude.{ℕ, List, [], ◌∷◌, ◌++◌, take, true, false, None, codes}
use Rattle.call_fs.specs.declared.calls.CallData.TheVariants as call
use Rattle.call_fs.specs.declared.calls.Answer.TheVariants as answer
use Rattle.call_fs.specs.declared.calls.How.TheVariants as how
use Rattle.call_fs.specs.declared.past.GotData.{GotData}
use Rattle.call_fs.specs.declared.past.GotData.TheVariants.{Answered, Gave, Took}
use Rattle.call_fs.specs.declared.past.NeedData.{NeedData}
use Rattle.call_fs.specs.declared.past.NeedData.TheVariants as needs
use Rattle.call_fs.specs.declared.past.Own.{Own}
use Rattle.call_fs.specs.declared.program.Port.TheVariants as port
use Rattle.send_runs.specs.Worked.{Event, absent, deferred_dues, deferred_run, done, failed, fd, named, opened, stated}

abbrev pub own : NeedData → GotData → Own
own due came = record { read = 0; ready = record { links = false ∷ (false ∷ (true ∷ (false ∷ []))); child = None }; due = due; came = came }

-- the past of a worked run, with what was due at each event
abbrev pub past_of : List Event → List NeedData → List Own → List Own
past_of ((now, ready, came) ∷ events) (due ∷ dues) past = past_of events dues (record { read = now; ready = ready; due = due; came = came } ∷ past)
past_of events dues past = past

-- the spawner of the remote channel runs 120 deliveries, and the channel file of message 7 has a record of b@y, at place 0, and one of c@z, at
-- place 5; then a request is given for each
abbrev pub two_given : List Own
two_given =
    own (needs.Give port.Rspawn (1 ∷ codes "7/7" ++ (0 ∷ codes "a@x" ++ (0 ∷ codes "c@z" ++ (0 ∷ []))))) Gave ∷
    (own (needs.Give port.Rspawn (0 ∷ codes "7/7" ++ (0 ∷ codes "a@x" ++ (0 ∷ codes "b@y" ++ (0 ∷ []))))) Gave ∷
    (own (needs.File (call.Close (fd 1))) done ∷
    (own (needs.File (call.ReadAt (fd 1) 0 8192)) (Answered (record { answer = answer.Count 10; bytes = codes "Tb@y" ++ (0 ∷ codes "Tc@z" ++ (0 ∷ [])) })) ∷
    (own (needs.File (call.Open (codes "remote/7/7") how.Read)) (opened 1) ∷
    (own (needs.Take port.Rspawn) (Took (codes "x")) ∷ [])))))

-- a taking of these bytes
abbrev pub takes : List ℕ → Own
takes bytes = own (needs.Take port.Rspawn) (Took bytes)

-- in slot 0: delivered, and not now; in slot 1: failed for good
abbrev pub delivered_0 : List ℕ
delivered_0 = 0 ∷ codes "Kok" ++ (0 ∷ [])

abbrev pub deferred_0 : List ℕ
deferred_0 = 0 ∷ codes "Znot now" ++ (0 ∷ [])

abbrev pub failed_1 : List ℕ
failed_1 = 1 ∷ codes "Dno" ++ (0 ∷ [])

-- in slot 2, in which nothing is in flight
abbrev pub stray_2 : List ℕ
stray_2 = 2 ∷ codes "Kok" ++ (0 ∷ [])

-- the lines of delivered_0 and of this
abbrev pub success_line : List ℕ
success_line = codes "delivery 1: success: ok" ++ (10 ∷ codes "status: local 0/0 remote 1/20" ++ (10 ∷ []))

abbrev pub stray_line : List ℕ
stray_line = codes "alert: report 2" ++ (10 ∷ [])

-- the scan of the start found the local channel file of message 7, and no remote one; then a todo pass unlinks that, or the sender does so directly
-- after a close
abbrev pub looked_7 : List Own
looked_7 = own (needs.File (call.Stat (codes "remote/7/7"))) absent ∷ (own (needs.File (call.Stat (codes "local/7/7"))) (stated 5 9 0) ∷ [])

abbrev pub cleared_7 : List Own
cleared_7 = own (needs.File (call.Unlink (codes "local/7/7"))) done ∷ (own (needs.File (call.Unlink (codes "info/7/7"))) done ∷ looked_7)

abbrev pub dropped_7 : List Own
dropped_7 = own (needs.File (call.Unlink (codes "local/7/7"))) done ∷ (own (needs.File (call.Close (fd 1))) done ∷ looked_7)

-- the scan of the start looked for the remote channel file of message 7, a todo pass of message 8 was done, and 7 was removed
abbrev pub found_7 : List Own
found_7 = own (needs.File (call.Stat (codes "remote/7/7"))) absent ∷ []

abbrev pub given_8 : List Own
given_8 = own (needs.Give port.Clean (codes "todo/8" ++ (0 ∷ []))) Gave ∷ found_7

abbrev pub answers : List ℕ → Own
answers bytes = own (needs.Take port.Clean) (Took bytes)

abbrev pub removed_7 : List Own
removed_7 = answers (codes "!") ∷ (own (needs.Give port.Clean (codes "foop/7" ++ (0 ∷ []))) Gave ∷ (answers (codes "+") ∷ given_8))

-- at 9 the remote channel file of 7 can't be opened for a pass, or can't be unlinked
abbrev pub unopened_7 : Own
unopened_7 = record (own (needs.File (call.Open (codes "remote/7/7") how.Read)) failed) { read = 9 }

abbrev pub left_7 : Own
left_7 = record (own (needs.File (call.Unlink (codes "remote/7/7"))) failed) { read = 9 }

-- at 500 the bounce file of 7 can't be opened; or it is missing and the info file can't be unlinked then, or a todo pass can't unlink that, which comes
-- after a search
abbrev pub later_at : NeedData → GotData → Own
later_at due came = record (own due came) { read = 500 }

abbrev pub unreturned_7 : List Own
unreturned_7 = later_at (needs.File (call.Open (codes "bounce/7") how.Read)) failed ∷ found_7

abbrev pub unfinished_7 : List Own
unfinished_7 = later_at (needs.File (call.Unlink (codes "info/7/7"))) failed ∷ (own (needs.File (call.Open (codes "bounce/7") how.Read)) absent ∷ found_7)

abbrev pub uncleared_7 : List Own
uncleared_7 = later_at (needs.File (call.Unlink (codes "info/7/7"))) failed ∷ (own (needs.File (call.NextName (codes "todo") [])) (named (codes "7")) ∷ found_7)

-- then 7 is known again
abbrev pub again_7 : List Own
again_7 = own (needs.File (call.Stat (codes "remote/7/7"))) absent ∷ unreturned_7

-- so many events of the run in which one of two recipients is deferred
abbrev pub deferred_for : ℕ → List Own
deferred_for k = past_of (take k deferred_run) deferred_dues []
