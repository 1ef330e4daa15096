-- What a spawner's place tells of what it is about to take.
use Rattle.std.proofs.Common.{◌≡◌, ℕ, List, [], Bool, true, false, sym, ap, ◌∙◌, subst}
use Rattle.std.proofs.lemmas.List.{append-nil}
use Rattle.call_fs.specs.declared.past.ChildData.{ChildData}
use Rattle.call_fs.specs.declared.past.NeedData.TheVariants as needs
use Rattle.call_fs.specs.declared.past.Own.{Own}
use Rattle.call_fs.specs.declared.program.Port.TheVariants as port
use Rattle.call_fs.specs.declared.program.Ready.{Ready}
use Rattle.call_fs.specs.Past.{taken}
use Rattle.spawn_protocol.proofs.Cuts.{cut_is}
use Rattle.spawn_protocol.proofs.Requests.{one_reading}
use Rattle.spawn_protocol.specs.Cut.{cut}
use Rattle.spawn_protocol.specs.Cut.Cut.{More}
use Rattle.spawn_protocol.specs.Request.{HasRead}
use Rattle.spawn_protocol.specs.Request.Reader.{Reading, Refused}
use Rattle.spawn_protocol.specs.declared.inbox.Intake.TheVariants as intake
use Rattle.spawn_protocol.specs.declared.request.Request.{Request}
use Rattle.spawner_parts.specs.declared.place.Place.{Place}
use Rattle.spawner_parts.specs.declared.row.Row.{Row}
use Rattle.spawner_parts.specs.declared.row.Row.TheVariants as at
use Rattle.spawner_parts.specs.Asked.{runs_in}
use Rattle.spawner_parts.specs.Causes.{has_end, programs}
use Rattle.spawner_parts.specs.Known.{At, Reads, Tells}
use Rattle.spawner_parts.specs.Table.{due_at, row_now}
use Rattle.spawner_parts.proofs.Balance.{comes_at}
use Rattle.spawner_parts.proofs.Tallies.{read_both}
use Rattle.spawn_command.specs.Spawned.{HasLongField}

-- requests are taken at their row alone
module _ (program : ChildData) (p : Place) (owed : List ℕ) (dealt : List Request) where
  abbrev IsOpen : Type 0
  IsOpen = (p.inbox.intake ≡ intake.Open) × (cut p.inbox.ahead ≡ More)

  open_at : (row : Row) → At row p owed dealt → due_at program row p ≡ needs.Take port.Input → IsOpen
  open_at at.TakeInput a due = (a.1, a.2)
  open_at at.Greet a due = absurd (cc)
  open_at at.Idle a due = absurd (cc)
  open_at at.OpenMess a due = absurd (cc)
  open_at (at.ReadMess fd) a due = absurd (cc)
  open_at (at.CloseMess fd whole) a due = absurd (cc)
  open_at at.Start a due = absurd (cc)
  open_at at.Feed a due = absurd (cc)
  open_at (at.TakeOutput slot) a due = let same : port.Program slot ≡ port.Input = cc in absurd (cc)
  open_at (at.TakeStatus slot) a due = let same : port.Status slot ≡ port.Input = cc in absurd (cc)
  open_at at.Report a due = absurd (cc)
  open_at (at.Ended code) a due = absurd (cc)

  -- and what a program printed at that of its slot
  runs_at : (row : Row) (slot : ℕ) → At row p owed dealt → due_at program row p ≡ needs.Take (port.Program slot) → runs_in p.running slot ≡ true
  runs_at (at.TakeOutput d) slot a due = let same : d ≡ slot = cc in subst (λ k. runs_in p.running k ≡ true) same a.1
  runs_at at.TakeInput slot a due = let same : port.Input ≡ port.Program slot = cc in absurd (cc)
  runs_at at.Greet slot a due = absurd (cc)
  runs_at at.Idle slot a due = absurd (cc)
  runs_at at.OpenMess slot a due = absurd (cc)
  runs_at (at.ReadMess fd) slot a due = absurd (cc)
  runs_at (at.CloseMess fd whole) slot a due = absurd (cc)
  runs_at at.Start slot a due = absurd (cc)
  runs_at at.Feed slot a due = absurd (cc)
  runs_at (at.TakeStatus d) slot a due = let same : port.Status d ≡ port.Program slot = cc in absurd (cc)
  runs_at at.Report slot a due = absurd (cc)
  runs_at (at.Ended code) slot a due = absurd (cc)

-- what was taken then is requests and the start of one
no_long : (dealt : List Request) (ahead bytes : List ℕ) (ended : Bool) → Reads intake.Open ahead bytes ended dealt → cut ahead ≡ More → HasLongField bytes → ⊥
no_long dealt ahead bytes ended h is (requests, long) =
    let s = (cut_is ahead More).0 is in
    let read : HasRead bytes dealt (Reading s.0) = subst (λ rs. HasRead bytes rs (Reading s.0)) (append-nil dealt) (read_both dealt [] bytes ahead (Reading s.0) h.0 h.1 s.1) in
    let e : Reading s.0 ≡ Refused = (one_reading bytes dealt requests (Reading s.0) Refused read long).1 in absurd (cc)

module _ (program : ChildData) (past : List Own) (p : Place) (ready : Ready) (tells : Tells past p) where
  -- while it takes requests, their end hasn't come, and none of their fields was too long
  pub input_at : due_at program (row_now p ready) p ≡ needs.Take port.Input → (has_end past ≡ false) × (¬ (HasLongField (taken past)))
  input_at due =
      let k = tells.counts in
      let o = open_at program p k.owed k.dealt (row_now p ready) (comes_at p k.owed k.dealt p.row ready k.at) due in
      let reads : Reads intake.Open p.inbox.ahead (taken past) (has_end past) k.dealt
      = subst (λ i. Reads i p.inbox.ahead (taken past) (has_end past) k.dealt) o.0 k.reads in
      (reads.2, no_long k.dealt p.inbox.ahead (taken past) (has_end past) reads o.1)

  -- what a program prints is taken while that runs
  pub program_at : (slot : ℕ) → due_at program (row_now p ready) p ≡ needs.Take (port.Program slot) → runs_in (programs past) slot ≡ true
  program_at slot due =
      let k = tells.counts in
      ap (λ r. runs_in r slot) (sym k.same) ∙ runs_at program p k.owed k.dealt (row_now p ready) slot (comes_at p k.owed k.dealt p.row ready k.at) due
