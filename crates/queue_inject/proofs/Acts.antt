-- What an injector does next: a file call, or its end; and nothing while its input isn't ready.
use Rattle.std.proofs.Common.{◌≡◌, ℕ, List, Bool, true, false, sym, subst}
use Rattle.call_fs.specs.declared.program.Ready.{Ready}
use Rattle.call_fs.specs.declared.past.NeedData.{NeedData}
use Rattle.call_fs.specs.declared.past.NeedData.TheVariants as needs
use Rattle.call_fs.specs.declared.past.Own.{Own}
use Rattle.queue_inject.specs.declared.injection.Arguments.{Arguments}
use Rattle.queue_inject.specs.declared.row.Row.{Row}
use Rattle.queue_inject.specs.declared.row.Row.TheVariants as at
use Rattle.queue_inject.specs.Table.{due_by, place_after, in_time, has_input, is_late, Next}

-- a file call or an end
abbrev pub IsAct : NeedData → Type 0
IsAct (needs.File c) = Unit {0}
IsAct (needs.Ended status) = Unit {0}
IsAct other = ⊥

row_act : (args : Arguments) (row : Row) → IsAct (due_by args row)
row_act args (at.Create seq) = tt
row_act args (at.LinkMess seq n fd) = tt
row_act args (at.UnlinkPid seq n fd) = tt
row_act args (at.AppendMess n fd done) = tt
row_act args (at.SyncMess n fd) = tt
row_act args (at.CreateIntd n) = tt
row_act args (at.AppendTodo n fd done) = tt
row_act args (at.SyncTodo n fd) = tt
row_act args (at.LinkTodo n) = tt
row_act args (at.CleanIntd n cause) = tt
row_act args (at.CleanMess n cause) = tt
row_act args at.Queued = tt
row_act args (at.Failed cause) = tt

in_time_act : (late : Bool) (due : NeedData) → IsAct due → IsAct (in_time true late due)
in_time_act true (needs.File c) act = tt
in_time_act false (needs.File c) act = tt
in_time_act late (needs.Ended status) act = tt
in_time_act late (needs.Take port) act = absurd act
in_time_act late (needs.Give port bytes) act = absurd act
in_time_act late (needs.Start child) act = absurd act
in_time_act late (needs.Command bytes) act = absurd act
in_time_act late needs.Wait act = absurd act

-- an injector whose input is ready never waits
pub next_act : (args : Arguments) (past : List Own) (now : ℕ) (ready : Ready) → has_input ready ≡ true → IsAct (Next args past now ready)
next_act args past now ready has =
    subst (λ (b : Bool). IsAct (in_time b (is_late args now) (due_by args (place_after args past)))) (sym has)
    (in_time_act (is_late args now) (due_by args (place_after args past)) (row_act args (place_after args past)))

-- nothing that concerns another program
abbrev pub IsAlone : NeedData → Type 0
IsAlone (needs.File c) = Unit {0}
IsAlone (needs.Ended status) = Unit {0}
IsAlone needs.Wait = Unit {0}
IsAlone other = ⊥

in_time_alone : (input late : Bool) (due : NeedData) → IsAct due → IsAlone (in_time input late due)
in_time_alone true true (needs.File c) act = tt
in_time_alone true false (needs.File c) act = tt
in_time_alone false late (needs.File c) act = tt
in_time_alone input late (needs.Ended status) act = tt
in_time_alone input late (needs.Take port) act = absurd act
in_time_alone input late (needs.Give port bytes) act = absurd act
in_time_alone input late (needs.Start child) act = absurd act
in_time_alone input late (needs.Command bytes) act = absurd act
in_time_alone input late needs.Wait act = absurd act

-- an injector takes, gives and starts nothing
pub next_alone : (args : Arguments) (past : List Own) (now : ℕ) (ready : Ready) → IsAlone (Next args past now ready)
next_alone args past now ready =
    in_time_alone (has_input ready) (is_late args now) (due_by args (place_after args past)) (row_act args (place_after args past))
