-- What came of what was due is of its kind.
use Rattle.std.proofs.Common.{⊎_elim, ℕ, List, true, false, Option, Some, None, sym, subst}
use Rattle.call_fs.specs.declared.calls.CallData.{CallData}
use Rattle.call_fs.specs.declared.past.ChildData.{ChildData}
use Rattle.call_fs.specs.declared.past.ChildData.TheVariants as child
use Rattle.call_fs.specs.declared.past.GotData.{GotData}
use Rattle.call_fs.specs.declared.past.GotData.TheVariants as got
use Rattle.call_fs.specs.declared.past.NeedData.{NeedData}
use Rattle.call_fs.specs.declared.past.NeedData.TheVariants as needs
use Rattle.call_fs.specs.declared.program.Port.{Port}
use Rattle.call_fs.specs.declared.program.Port.TheVariants as port
use Rattle.call_fs.specs.Program.{IsTaken, MayCome}
use Rattle.call_fs.proofs.Coming.{fits_answer}
use Rattle.mail_world.specs.History.{Life, State, ComesOf, IsEnding, IsStatusOf, TenantEnds}
use Rattle.mail_world.specs.History.Life.{Alive, Over, Stopped}
use Rattle.mail_world.specs.Pipework.{Pipe, Tenant, Yields}
use Rattle.mail_world.specs.Pipework.Tenant.{Runs, Remote}

yields_taken : (pipe : Pipe) (p : Port) (came : GotData) → ((bytes : List ℕ) → IsTaken p (got.Took bytes)) → IsTaken p got.End → IsTaken p got.Failed → Yields pipe came → IsTaken p came
yields_taken pipe p (got.Took bytes) took ends fails y = took bytes
yields_taken pipe p got.End took ends fails y = ends
yields_taken pipe p got.Failed took ends fails y = fails
yields_taken pipe p (got.Answered told) took ends fails y = absurd y
yields_taken pipe p (got.Ended status) took ends fails y = absurd y
yields_taken pipe p got.Crashed took ends fails y = absurd y
yields_taken pipe p got.Gave took ends fails y = absurd y
yields_taken pipe p (got.Started pid) took ends fails y = absurd y
yields_taken pipe p got.Memory took ends fails y = absurd y

life_taken : (d : ℕ) (life : Life) (came : GotData) → IsStatusOf life came → IsTaken (port.Status d) came
life_taken d Alive came e = absurd e
life_taken d (Over status) came e = subst (IsTaken (port.Status d)) (sym e) tt
life_taken d Stopped came e = subst (IsTaken (port.Status d)) (sym e) tt

-- a process that has ended
ending_taken : (d : ℕ) (came : GotData) → IsEnding came → IsTaken (port.Status d) came
ending_taken d (got.Ended status) e = tt
ending_taken d got.Crashed e = tt
ending_taken d other e = absurd e

tenant_taken : (s : State) (d : ℕ) (o : Option Tenant) (came : GotData) → TenantEnds s o came → IsTaken (port.Status d) came
tenant_taken s d None came e = absurd e
tenant_taken s d (Some (Runs b)) came e = life_taken d e.0.life came e.2
tenant_taken s d (Some (Remote true)) came e = ending_taken d came e
tenant_taken s d (Some (Remote false)) came e = absurd e

call_may : (s : State) (a : List ℕ) (c : CallData) (came : GotData) (wrote : ℕ) → ComesOf s a (needs.File c) came wrote → MayCome (needs.File c) came
call_may s a c (got.Answered told) wrote h = fits_answer s.disk c told.answer wrote h.0
call_may s a c (got.Took bytes) wrote h = absurd h
call_may s a c got.End wrote h = absurd h
call_may s a c (got.Ended status) wrote h = absurd h
call_may s a c got.Crashed wrote h = absurd h
call_may s a c got.Gave wrote h = absurd h
call_may s a c (got.Started pid) wrote h = absurd h
call_may s a c got.Failed wrote h = absurd h
call_may s a c got.Memory wrote h = absurd h

give_may : (s : State) (a : List ℕ) (p : Port) (bytes : List ℕ) (came : GotData) (wrote : ℕ) → ComesOf s a (needs.Give p bytes) came wrote → MayCome (needs.Give p bytes) came
give_may s a port.Input bytes got.Gave wrote h = tt
give_may s a port.Input bytes got.Failed wrote h = tt
give_may s a port.Input bytes came wrote h = absurd h
give_may s a port.Output bytes got.Gave wrote h = tt
give_may s a port.Output bytes got.Failed wrote h = tt
give_may s a port.Output bytes came wrote h = absurd h
give_may s a port.Clean bytes got.Gave wrote h = tt
give_may s a port.Clean bytes got.Failed wrote h = tt
give_may s a port.Clean bytes came wrote h = absurd h
give_may s a port.Lspawn bytes got.Gave wrote h = tt
give_may s a port.Lspawn bytes got.Failed wrote h = tt
give_may s a port.Lspawn bytes came wrote h = absurd h
give_may s a port.Rspawn bytes got.Gave wrote h = tt
give_may s a port.Rspawn bytes got.Failed wrote h = tt
give_may s a port.Rspawn bytes came wrote h = absurd h
give_may s a port.Todo bytes got.Gave wrote h = tt
give_may s a port.Todo bytes got.Failed wrote h = tt
give_may s a port.Todo bytes came wrote h = absurd h
give_may s a (port.Status d) bytes got.Gave wrote h = tt
give_may s a (port.Status d) bytes got.Failed wrote h = tt
give_may s a (port.Status d) bytes came wrote h = absurd h
give_may s a (port.Program d) bytes got.Gave wrote h = tt
give_may s a (port.Program d) bytes got.Failed wrote h = tt
give_may s a (port.Program d) bytes came wrote h = absurd h

start_may : (s : State) (a : List ℕ) (asked : ChildData) (came : GotData) (wrote : ℕ) → ComesOf s a (needs.Start asked) came wrote → MayCome (needs.Start asked) came
start_may s a asked (got.Started pid) wrote h = tt
start_may s a asked got.Failed wrote h = tt
start_may s a asked got.Memory wrote h = tt
start_may s a (child.Remote slot domain sender recipient) came wrote h = absurd h
start_may s a (child.Bounce room) came wrote h = absurd h
start_may s a (child.Forward uid room) came wrote h = absurd h
start_may s a (child.Local slot words uid) came wrote h = absurd h

pub may_come : (s : State) (a : List ℕ) (due : NeedData) (came : GotData) (wrote : ℕ) → ComesOf s a due came wrote → MayCome due came
may_come s a (needs.File c) came wrote h = call_may s a c came wrote h
may_come s a (needs.Take (port.Status d)) came wrote h = ⊎_elim (λ e. subst (IsTaken (port.Status d)) (sym e) tt) (λ e. tenant_taken s d (s.pipework.programs a d) came e) h
may_come s a (needs.Take port.Input) came wrote h = yields_taken (s.pipework.pipes a port.Input) port.Input came (λ bytes. tt) tt tt h
may_come s a (needs.Take port.Output) came wrote h = yields_taken (s.pipework.pipes a port.Output) port.Output came (λ bytes. tt) tt tt h
may_come s a (needs.Take port.Clean) came wrote h = yields_taken (s.pipework.pipes a port.Clean) port.Clean came (λ bytes. tt) tt tt h
may_come s a (needs.Take port.Lspawn) came wrote h = yields_taken (s.pipework.pipes a port.Lspawn) port.Lspawn came (λ bytes. tt) tt tt h
may_come s a (needs.Take port.Rspawn) came wrote h = yields_taken (s.pipework.pipes a port.Rspawn) port.Rspawn came (λ bytes. tt) tt tt h
may_come s a (needs.Take port.Todo) came wrote h = yields_taken (s.pipework.pipes a port.Todo) port.Todo came (λ bytes. tt) tt tt h
may_come s a (needs.Take (port.Program d)) came wrote h = yields_taken (s.pipework.pipes a (port.Program d)) (port.Program d) came (λ bytes. tt) tt tt h
may_come s a (needs.Give p bytes) came wrote h = give_may s a p bytes came wrote h
may_come s a (needs.Start asked) came wrote h = start_may s a asked came wrote h
may_come s a (needs.Command bytes) came wrote h = h
may_come s a needs.Wait came wrote h = absurd h
may_come s a (needs.Ended status) came wrote h = absurd h
