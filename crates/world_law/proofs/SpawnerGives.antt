-- What the local spawner gives to the deliveries in its slots, and who runs there.
use Rattle.std.proofs.Common.{◌≡◌, ◌⊎◌, inl, inr, ⊎_elim, ℕ, ◌==◌, List, ◌++◌, Bool, true, ◌&&◌, if◌then◌else◌, Option, Some, None, refl, sym, ap, ◌∙◌, codes}
use Rattle.call_fs.specs.declared.past.ChildData.TheVariants as child
use Rattle.call_fs.specs.declared.past.GotData.{GotData}
use Rattle.call_fs.specs.declared.past.GotData.TheVariants as got
use Rattle.call_fs.specs.declared.past.NeedData.{NeedData}
use Rattle.call_fs.specs.declared.past.NeedData.TheVariants as needs
use Rattle.call_fs.specs.declared.program.Port.{Port}
use Rattle.call_fs.specs.declared.program.Port.TheVariants as port
use Rattle.call_fs.specs.declared.program.Ready.{Ready}
use Rattle.local_spawn.specs.declared.place.Place.{Place as LocalPlace}
use Rattle.local_spawn.specs.declared.row.Row.{Row as LocalRow}
use Rattle.local_spawn.specs.declared.row.Row.TheVariants as local
use Rattle.local_spawn.specs.Table.{due_at as local_due_at, due_from}
use Rattle.queue_law.proofs.Tests.{same_text}
use Rattle.spawner_parts.specs.declared.row.Row.{Row}
use Rattle.spawner_parts.specs.declared.row.Row.TheVariants as at
use Rattle.spawner_parts.specs.Table.{row_now}
use Rattle.world_pipes.specs.Pipework.{Pipe, Pipework, Slot, Tenant, closed, given, gives, input_of, mouth, programs_after, put_pipe}
use Rattle.world_pipes.specs.Pipework.Tenant.{Runs}
use Rattle.mail_world.specs.History.{State}
use Rattle.world_law.specs.Inv.{Inv, IsChild}
use Rattle.world_law.proofs.MessageSteps.{IsNoFeed}
use Rattle.world_law.proofs.PostServes.{StartsNone}
use Rattle.world_law.proofs.Tenants.{not_freed}

-- What it gives to a delivery

abbrev pub IsNoProgram : NeedData → Type 0
IsNoProgram (needs.Give (port.Program d) bytes) = ⊥
IsNoProgram due = Unit {0}

pub no_feed : (w : Pipework) (a b : List ℕ) (due : NeedData) → IsNoProgram due → IsNoFeed w a b due
no_feed w a b (needs.Give (port.Program d) bytes) none = absurd none
no_feed w a b due none = tt

gives_by : (row : Row) (p : LocalPlace) → IsNoProgram (due_from row p) ⊎ (row ≡ at.Feed)
gives_by at.Feed p = inr refl
gives_by row p = inl tt

pub gives_at : (row : LocalRow) (ready : Ready) (p : LocalPlace) → IsNoProgram (local_due_at row ready p) ⊎ ((row ≡ local.Serves) × (row_now p.work ready ≡ at.Feed))
gives_at local.Serves ready p = ⊎_elim
    (λ (none : IsNoProgram (due_from (row_now p.work ready) p)). inl none)
    (λ (feeds : row_now p.work ready ≡ at.Feed). inr (refl, feeds))
    (gives_by (row_now p.work ready) p)
gives_at row ready p = inl tt

put_own : (pipes : List ℕ → Port → Pipe) (b : List ℕ) (change : Pipe → Pipe) → put_pipe pipes (Some (mouth b port.Input)) change b port.Input ≡ change (pipes b port.Input)
put_own pipes b change = ap (λ (t : Bool). if t && true then change (pipes b port.Input) else pipes b port.Input) (same_text b)

pub fed_pipe : (w : Pipework) (a b : List ℕ) (d : ℕ) (bytes : List ℕ) → w.programs a d ≡ Some (Runs b)
    → (gives w a (port.Program d) bytes b port.Input).bytes ≡ (w.pipes b port.Input).bytes ++ bytes
fed_pipe w a b d bytes runs =
    ap (λ (o : Option Tenant). (put_pipe w.pipes (input_of o) (λ pipe. closed (given bytes pipe)) b port.Input).bytes) runs
    ∙ ap (λ (pipe : Pipe). pipe.bytes) (put_own w.pipes b (λ pipe. closed (given bytes pipe)))

-- Who runs in its slots

-- who runs there still ran before
pub ran_before : (programs : List ℕ → ℕ → Option Tenant) (due : NeedData) (came : GotData) → StartsNone due came → (slot : ℕ) (u : Tenant)
    → programs_after programs (codes "lspawn") due came (codes "lspawn") slot ≡ Some u → programs (codes "lspawn") slot ≡ Some u
ran_before programs (needs.Take (port.Status d)) (got.Ended status) none slot u e = not_freed (slot == d) (programs (codes "lspawn") slot) u e
ran_before programs (needs.Take (port.Status d)) got.Crashed none slot u e = not_freed (slot == d) (programs (codes "lspawn") slot) u e
ran_before programs (needs.Start asked) (got.Started pid) none slot u e = absurd none
ran_before programs (needs.Start (child.Local d words uid)) came none slot u e = e
ran_before programs (needs.Start (child.Remote d domain sender recipient)) came none slot u e = e
ran_before programs (needs.Start (child.Bounce room)) came none slot u e = e
ran_before programs (needs.Start (child.Forward uid room)) came none slot u e = e
ran_before programs due came none slot u e = e

same_slot : (x y : Slot) → ◌≡◌ {A = Option Slot} (Some x) (Some y) → x.number ≡ y.number
same_slot x y e = let same : x ≡ y = cc in ap (λ (z : Slot). z.number) same

-- in one slot alone
pub one_slot : (s : State) (I : Inv s) (a b : List ℕ) (d e : ℕ) → s.pipework.programs a d ≡ Some (Runs b) → s.pipework.programs a e ≡ Some (Runs b) → d ≡ e
one_slot s I a b d e one two =
    let h : IsChild s a d b = I.tenants a d (Runs b) one in
    let k : IsChild s a e b = I.tenants a e (Runs b) two in
    same_slot (record { parent = a; number = d }) (record { parent = a; number = e }) (sym h.back ∙ k.back)

pub none_runs_in : (u : Tenant) → ◌≡◌ {A = Option Tenant} None (Some u) → ⊥
none_runs_in u e = cc
