-- Which status a sender never ends with.
use Rattle.std.proofs.Common.{◌≡◌, ◌≢◌, ℕ, List, [], Option, Some, inl, inr, refl, arith}
use Rattle.call_fs.specs.declared.past.ChildData.{ChildData}
use Rattle.call_fs.specs.declared.past.Own.{Own}
use Rattle.outside.specs.Children.{SpawnCall}
use Rattle.program_runner.specs.Members.{Beside}
use Rattle.program_runner.specs.Outside.{Outside}
use Rattle.send_command.specs.Ends.{EndsBy}
use Rattle.send_command.specs.Ends.EndsBy.{AllMade, LostCleaner, LostLocal, LostRemote, BadFile, FailedStart, Starved}
use Rattle.send_command.specs.Links.{Begins}
use Rattle.send_command.specs.Links.Begins.{AllRun, Unstarted, NoMemory, Runs}
use Rattle.send_command.specs.Sent.{HasRun, Logged, WasSent}

-- why its run ends
ends_otherwise : (turns : ℕ) (past : List Own) (status : ℕ) → EndsBy turns past status → status ≢ 100
ends_otherwise turns _ _ (AllMade past all) e = absurd (omega arith)
ends_otherwise turns _ _ (LostCleaner event before lost) e = absurd (omega arith)
ends_otherwise turns _ _ (LostLocal event before lost) e = absurd (omega arith)
ends_otherwise turns _ _ (LostRemote event before lost) e = absurd (omega arith)
ends_otherwise turns _ _ (BadFile past bad) e = absurd (omega arith)
ends_otherwise turns _ _ (FailedStart event before starting failed) e = absurd (omega arith)
ends_otherwise turns _ _ (Starved event before starting starved) e = absurd (omega arith)

-- why it doesn't begin
some_status : (a b : ℕ) → Some a ≡ Some b → a ≡ b
some_status a b e = cc

begins_otherwise : (words : List (List (List ℕ))) (calls : List SpawnCall) (chans : List ℕ) (o : Option ℕ) (status : ℕ) → Begins words calls chans o → o ≡ Some status → status ≢ 100
begins_otherwise _ _ _ _ status AllRun is e = absurd (cc)
begins_otherwise _ _ _ _ status (Unstarted words more) is e = let same = some_status _ _ is in absurd (omega (arith, same, e))
begins_otherwise _ _ _ _ status (NoMemory words more) is e = let same = some_status _ _ is in absurd (omega (arith, same, e))
begins_otherwise _ _ _ _ status (Runs words chan pid more calls chans o rest) is e = begins_otherwise more calls chans o status rest is e

runs_otherwise : (words : ChildData → List (List ℕ)) (turns status : ℕ) (old new : Outside) (beside now : Beside) (log logged : Logged) → HasRun words turns status old new beside now log logged → status ≢ 100
runs_otherwise words turns status old new beside now log logged (inl over) e = ends_otherwise turns _ status over.why.cause e
runs_otherwise words turns status old new beside now log logged (inr (inl failed)) e = let output = failed.0 in absurd (omega (arith, output, e))
runs_otherwise words turns status old new beside now log logged (inr (inr cut)) e = let memory = cut.0 in absurd (omega (arith, memory, e))

pub sent_otherwise : (dir program : List ℕ) (turns status : ℕ) (old new : Outside) (beside now : Beside) (log logged : Logged) → WasSent dir program turns status old new beside now log logged → status ≢ 100
sent_otherwise dir program turns status old new beside now log logged (inl ran) e = runs_otherwise _ turns status old new ran.begun ran.over log logged ran.ran e
sent_otherwise dir program turns status old new beside now log logged (inr (inl none)) e = begins_otherwise _ _ _ _ status none.begins refl e
sent_otherwise dir program turns status old new beside now log logged (inr (inr nothing)) e = let memory = nothing.memory in absurd (omega (arith, memory, e))
