-- A remote spawner's place agrees with each past that it stands for.
use Rattle.std.proofs.Common.{◌≡◌, ℕ, ◌≤◌, List, [], ◌∷◌, refl, sym, ap}
use Rattle.call_fs.specs.declared.past.ChildData.{ChildData}
use Rattle.call_fs.specs.declared.past.NeedData.TheVariants as needs
use Rattle.call_fs.specs.declared.past.Own.{Own}
use Rattle.call_fs.specs.declared.program.Port.TheVariants as port
use Rattle.call_fs.specs.declared.program.Ready.{Ready}
use Rattle.call_fs.specs.Past.{IsRunBy, taken}
use Rattle.spawn_protocol.specs.Request.{HasRead, Reader}
use Rattle.spawn_protocol.specs.declared.request.Request.{Request}
use Rattle.spawner_parts.specs.declared.place.Place.{Place}
use Rattle.spawner_parts.specs.Causes.{IsEnded, IsFailed, IsOver}
use Rattle.spawner_parts.specs.Counts.{IsAtRest, IsSettled, asked, dealt_with}
use Rattle.spawner_parts.specs.Known.{Carries, Tells, last_read}
use Rattle.spawner_parts.specs.Table.{IsKind, due_at, row_now}
use Rattle.spawner_parts.specs.Table.IsReadied.{IsGiven}
use Rattle.spawner_parts.proofs.Balance.{comes_at}
use Rattle.spawner_parts.proofs.Carried.{carried, gives as gives_at}
use Rattle.spawner_parts.proofs.Failures.{failed as fails_at}
use Rattle.spawner_parts.proofs.Reasons.{ends as ends_at}
use Rattle.spawner_parts.proofs.Settled.{at_start, each as each_at, most as most_at, settles as settles_at, starts as starts_at}
use Rattle.spawner_parts.proofs.Agree.{begins, goes_on}
use Rattle.remote_spawn.specs.Starts.{IsStartOfOne}
use Rattle.remote_spawn.specs.Table.{Next, as_read, place_after, program_of, remote}

is_kind : IsKind remote
is_kind p = IsGiven refl

pub tells : (args : Unit {0}) (past : List Own) → IsRunBy (Next args) past → Tells past (place_after past)
tells args [] run = begins
tells args (event ∷ before) run =
    let p : Place = place_after before in
    goes_on remote (program_of p.request) event before p is_kind refl (sym run.1.0) run.1.1 (tells args before run.0)

pub ends : (args : Unit {0}) (past : List Own) (now : ℕ) (ready : Ready) (status : ℕ) → IsRunBy (Next args) past → Next args past now ready ≡ needs.Ended status → IsEnded past status
ends args past now ready status run due =
    let p : Place = place_after past in
    ends_at (program_of p.request) past p ready status (tells args past run).knows due

pub failed : (args : Unit {0}) (past : List Own) (now : ℕ) (ready : Ready) (status : ℕ) → IsRunBy (Next args) past → IsFailed past status → Next args past now ready ≡ needs.Ended status
failed args [] now ready status run why = absurd why
failed args (event ∷ before) now ready status run why =
    let p : Place = place_after before in
    let q : Place = place_after (event ∷ before) in
    ap (λ row. due_at (program_of q.request) row q) (fails_at remote (program_of p.request) event p ready status (sym run.1.0) why)

pub settles : (args : Unit {0}) (past : List Own) (now : ℕ) (ready : Ready) (status : ℕ) → IsRunBy (Next args) past → IsOver past status → IsSettled past → Next args past now ready ≡ needs.Ended status
settles args past now ready status run over s =
    let p : Place = place_after past in
    ap (λ row. due_at (program_of p.request) row p) (settles_at past p ready status (tells args past run) over s)

pub most : (args : Unit {0}) (past : List Own) (requests : List Request) (reader : Reader) (slot : ℕ) → IsRunBy (Next args) past → HasRead (taken past) requests reader
    → dealt_with slot past ≤ asked slot requests
most args past requests reader slot run read = most_at past (place_after past) requests reader slot (tells args past run) read

pub each : (args : Unit {0}) (past : List Own) (now : ℕ) (ready : Ready) (requests : List Request) (reader : Reader) (slot : ℕ) → IsRunBy (Next args) past → HasRead (taken past) requests reader
    → IsAtRest past (Next args past now ready) → asked slot requests ≡ dealt_with slot past
each args past now ready requests reader slot run read rest =
    let p : Place = place_after past in
    each_at (program_of p.request) past p ready requests reader slot (tells args past run) read rest

pub starts : (args : Unit {0}) (past : List Own) (now : ℕ) (ready : Ready) (requests : List Request) (reader : Reader) (program : ChildData) → IsRunBy (Next args) past
    → HasRead (taken past) requests reader → Next args past now ready ≡ needs.Start program → IsStartOfOne past requests program
starts args past now ready requests reader program run read due =
    let p : Place = place_after past in
    let t = tells args past run in
    let a = at_start (program_of p.request) program p t.counts.owed t.counts.dealt (row_now p ready) (comes_at p t.counts.owed t.counts.dealt p.row ready t.counts.at) due in
    record {
      request = p.request;
      of = ap needs.Start (sym (a.1));
      is = starts_at (program_of p.request) program past p ready requests reader refl t read due;
    }

carries : (args : Unit {0}) (past : List Own) → IsRunBy (Next args) past → Carries as_read (last_read past) (place_after past).row (place_after past)
carries args [] run = tt
carries args (event ∷ before) run =
    let p : Place = place_after before in carried remote (program_of p.request) event before p is_kind (sym run.1.0) run.1.1 (carries args before run.0)

pub gives : (args : Unit {0}) (past : List Own) (now : ℕ) (ready : Ready) (slot : ℕ) (bytes : List ℕ) → IsRunBy (Next args) past → Next args past now ready ≡ needs.Give (port.Program slot) bytes
    → bytes ≡ last_read past
gives args past now ready slot bytes run due =
    let p : Place = place_after past in gives_at as_read (program_of p.request) past p ready slot bytes (carries args past run) due
