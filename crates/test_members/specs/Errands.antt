-- The table of an errand: it starts a child, gives it its input, takes its output and its status, and ends with that.
use Rattle.std.specs.Prelude.{◌≡◌, ℕ, List, [], ◌∷◌, codes}
use Rattle.call_fs.specs.declared.program.Port.TheVariants.{Program, Status}
use Rattle.call_fs.specs.declared.program.Ready.{Ready}
use Rattle.call_fs.specs.declared.past.ChildData.{ChildData}
use Rattle.call_fs.specs.declared.past.ChildData.TheVariants as child
use Rattle.call_fs.specs.declared.past.NeedData.{NeedData}
use Rattle.call_fs.specs.declared.past.NeedData.TheVariants as needs
use Rattle.call_fs.specs.declared.past.GotData.{GotData}
use Rattle.call_fs.specs.declared.past.GotData.TheVariants as got
use Rattle.call_fs.specs.declared.past.Own.{Own}
use Rattle.test_members.specs.declared.errand.Errand.{Errand}
use Rattle.test_members.specs.declared.errand.Kind.{Kind}
use Rattle.test_members.specs.declared.errand.Kind.TheVariants as of
use Rattle.test_members.specs.declared.errand.Row.{Row}
use Rattle.test_members.specs.declared.errand.Row.TheVariants.{Start, Give, Take, Ask, Ended}

-- the child that it starts
abbrev pub started_child : Kind → ChildData
started_child of.Bounce = child.Bounce 2
started_child of.Remote = child.Remote 3 (codes "h") (codes "s@x") (codes "r@h")
started_child of.Local = child.Local 5 (record {
  user = codes "joe";
  home = codes "/home/joe";
  local = codes "joe-ext";
  dash = codes "-";
  ext = codes "ext";
  domain = codes "h";
  sender = codes "s@x";
  line = codes "./Mailbox";
}) 501

-- the delivery whose program that is
abbrev pub delivery : Kind → ℕ
delivery of.Bounce = 0
delivery of.Remote = 3
delivery of.Local = 5

-- what is due at a row
abbrev pub due_at : Kind → Row → NeedData
due_at kind Start = needs.Start (started_child kind)
due_at kind Give = needs.Give (Program (delivery kind)) (codes "hi")
due_at kind Take = needs.Take (Program (delivery kind))
due_at kind Ask = needs.Take (Status (delivery kind))
due_at kind (Ended status) = needs.Ended status

-- Where what came leads

abbrev pub started : GotData → Row
started (got.Started pid) = Give
started other = Ended 1

abbrev pub given : GotData → Row
given got.Gave = Take
given other = Ended 2

abbrev pub taken : GotData → Row
taken (got.Took bytes) = Take
taken got.End = Ask
taken other = Ended 3

abbrev pub asked : GotData → Row
asked (got.Ended status) = Ended status
asked got.Crashed = Ended 4
asked other = Ended 5

abbrev pub moved : Row → GotData → Row
moved Start came = started came
moved Give came = given came
moved Take came = taken came
moved Ask came = asked came
moved (Ended status) came = Ended status

-- the row after a past, newest event first
abbrev pub row_after : List Own → Row
row_after [] = Start
row_after (event ∷ before) = moved (row_after before) event.came

-- The table.
abbrev pub Next : Kind → List Own → ℕ → Ready → NeedData
Next kind past now ready = due_at kind (row_after past)

-- An errand stands for a past if it is at the row after that.
abbrev pub Stands : Errand → Kind → List Own → Type 0
Stands errand kind past = (errand.kind ≡ kind) × (errand.row ≡ row_after past)
