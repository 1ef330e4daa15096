use Rattle.std.proofs.Common.{◌≡◌, inl, List, [], ◌∷◌, ◌++◌, length, false, Option, Some, Result, Ok, Err, refl, sym, ap, ◌∙◌, subst}
use Rattle.call_fs.specs.declared.calls.Fd.{Fd}
use Rattle.call_fs.specs.declared.past.NeedData.{NeedData}
use Rattle.call_fs.specs.Program.{IsKind}
use Rattle.world_events.specs.declared.asking.Came.{Came}
use Rattle.world_events.specs.declared.event.Event.{Event as Kept}
use Rattle.world_events.specs.declared.event.Event.TheVariants as kept
use Rattle.mail_world.specs.ByKind.{present_of, found_of, looked_of, need_of, takes_of, with_own}
use Rattle.mail_world.specs.Inside.{StandsFor}
use Rattle.mail_world.specs.declared.actor.Actor.{Actor as Held}
use Rattle.std.specs.Prelude.{IfOk, OnErr, IsNone}
use Rattle.mail_bytes.specs.Told.{Meets}
use Rattle.world_events.specs.declared.answers.Did.{Did}
use Rattle.call_fs.specs.Disk.{Disk}
use Rattle.mail_world.specs.History.{next_of}
use Rattle.mail_world.specs.Acting.{IsAct, IsMade, IsUntouched, IsNoAct, IsStated, IsReadAt, SuitsPlace, HasStepped, is_due_of_child, has_actor, due_by, opened_by, shut}
use Rattle.world_pipes.proofs.Shuts.{shuts_after}
use Rattle.world_events.proofs.Calls.{call_kind, call_within}
use Rattle.mail_world.proofs.Machines.{own_is}
use Rattle.mail_world.proofs.Passes.{only_waits, gives_no_actor}
use Rattle.mail_world.proofs.Acts.{shut_of}
use Rattle.mail_world.proofs.Passed.{HasAsked, passed_result, told_idle}
use Rattle.mail_world.proofs.actor.Actor.act.Goals as goal
use Rattle.mail_world.proofs.actor.Actor.act.Goals.{In-Due}

if_waits : {E D H X : Type 0} (d e : D) (h q : H) (y z : X) (r : Result (Option Did) E) → e ≡ d → IfOk r (λ did. IsNone did → (z ≡ y) × (q ≡ h))
    → IfOk r (λ did. IsNone did → (e ≡ d) × (q ≡ h))
if_waits d e h q y z (Ok did) still waits = λ none. (still, (waits none).1)
if_waits d e h q y z (Err why) still waits = tt

if_err : {T E D : Type 0} {d e : D} (r : Result T E) → e ≡ d → OnErr r (e ≡ d)
if_err (Ok x) still = tt
if_err (Err e) still = still

pub ask-requires-clause-looked : goal.ask-requires-clause-looked
ask-requires-clause-looked g c = c.requires.read.looked

pub ask-requires-clause-present : goal.ask-requires-clause-present
ask-requires-clause-present g c = c.requires.read.present

pub ask-requires-clause-found : goal.ask-requires-clause-found
ask-requires-clause-found g c = c.requires.read.found

pub ask-requires-clause-may : goal.ask-requires-clause-may
ask-requires-clause-may g c =
    let asks = c.requires.may.asks in
    record { args = asks.program; past = asks.past; is = asks.follows; run = asks.run; may = asks.may }

pub take_in-idle-requires-clause-looked : goal.take_in-idle-requires-clause-looked
take_in-idle-requires-clause-looked g c = c.requires.read.looked

pub take_in-idle-requires-clause-kind : goal.take_in-idle-requires-clause-kind
take_in-idle-requires-clause-kind g c =
    let asked = c.in_ok-own.ensures in
    let own = c.in-Did.own in
    subst (λ (due : NeedData). IsKind due own.came) (sym (asked.need ∙ ap due_by c.in-Did.is)) (call_kind own.due own.came (subst IsStated c.in-Did.is asked.stated))

pub take_in-idle-requires-clause-within : goal.take_in-idle-requires-clause-within
take_in-idle-requires-clause-within g c =
    let asked = c.in_ok-own.ensures in
    let own = c.in-Did.own in
    call_within (takes_of c.args.self.now.machine) own.due own.came (subst IsStated c.in-Did.is asked.stated)

pub returns-in-Did-clause-acted : goal.returns-in-Did-clause-acted
returns-in-Did-clause-acted g c =
    let asked = c.in_ok-own.ensures in
    let own = c.in-Did.own in
    let at = c.args.at in
    let machine = c.args.self.now.machine in
    let read = subst (λ (came : Came). IsReadAt came at.now at.ready) c.in-Did.is asked.read in
    let need = asked.need ∙ ap due_by c.in-Did.is in
    let looked = c.requires.read in
    let copied = c.copy.ensures in
    let taken = c.take_in-idle.ensures in
    let name = taken.name in
    let put : Kept = kept.Act c.copy.result own in
    let event : put ≡ kept.Act c.args.self.now.name own = cc in
    rw c.new.ensures (record {
      own = own;
      event = c.put.ensures.event ∙ ap (λ (k : Kept). c.args.history.now.events.items ++ k ∷ []) event;
      read = read.0;
      found = read.1;
      due = λ program past f. asked.due program past f ∙ ap due_by c.in-Did.is;
      follows = λ program past f.
          let past_is : with_own machine own.came past ≡ own ∷ past = own_is machine own past (looked.present ∙ sym read.0) (looked.found ∙ sym read.1) need in
          subst (StandsFor c.take_in-idle.new.self program) past_is (taken.follows program past f);
      owes = λ n is. let owed = taken.owes n is in record {
        here = owed.0 ∙ c.len-index.ensures;
        read = ap present_of owed.1 ∙ looked.present ∙ sym read.0;
        found = ap found_of owed.1 ∙ looked.found ∙ sym read.1;
        looked = ap looked_of owed.1 ∙ looked.looked;
        due = ap need_of owed.1 ∙ need;
        kind = call_kind own.due own.came (subst IsStated c.in-Did.is asked.stated);
        within = call_within (takes_of c.take_in-idle.new.self.machine) own.due own.came (subst IsStated c.in-Did.is asked.stated);
      };
      made = subst (λ (came : Came). IsMade came at.now (g.D.CallFs.disk c.args.disk.now) (g.D.CallFs.disk c.ask.new.disk)) c.in-Did.is asked.made;
      passed = inl (subst IsStated c.in-Did.is asked.stated, refl);
      name = taken.name;
      stays = record { wire = taken.stays.wire; slot = taken.stays.slot; entry = taken.stays.entry };
      descriptors = taken.descriptors ∙ c.keep_open.ensures ∙ ap (λ (fds : List Fd). opened_by fds own.due own.came) c.in_ok-reserve.ensures.items;
      ended = taken.ended;
      status = taken.status;
      awaits = taken.awaits;
    })

pub returns-in-Did-clause-idle : goal.returns-in-Did-clause-idle
returns-in-Did-clause-idle g c =
    let asked = c.in_ok-own.ensures in
    let own = c.in-Did.own in
    let at = c.args.at in
    let read = subst (λ (came : Came). IsReadAt came at.now at.ready) c.in-Did.is asked.read in
    let looked = c.requires.read in
    let copied = c.copy.ensures in
    let name = c.take_in-idle.ensures.name in
    let put : Kept = kept.Act c.copy.result own in
    let event : put ≡ kept.Act c.args.self.now.name own = cc in
    rw c.new.ensures (told_idle c.args.self.now c.args.self.now.machine own c.take_in-idle.result c.args.history.now.events.items c.put.new.self.events.items (λ program past f. f)
    (looked.present ∙ sym read.0) (looked.found ∙ sym read.1) (asked.need ∙ ap due_by c.in-Did.is) c.take_in-idle.ensures.idle
    (c.put.ensures.event ∙ ap (λ (k : Kept). c.args.history.now.events.items ++ k ∷ []) event))

-- with room for a descriptor
abbrev roomy : (g : _) (c : In-Due g) → Held
roomy g c = record c.args.self.now { descriptors = c.reserve.new.self }

-- what the machine that looked is asked
asked_of : (g : _) (c : In-Due g) → HasAsked c.args.self.now (roomy g c) c.args.at.now c.args.at.ready c.in-Due.due
asked_of g c =
    let asked = c.in_ok-own.ensures in
    let looked = c.requires.read in
    record {
      next = λ program past f. asked.due program past f ∙ ap due_by c.in-Due.is;
      follows = λ program past f. f;
      present = looked.present;
      found = looked.found;
      looked = looked.looked;
      need = asked.need ∙ ap due_by c.in-Due.is;
      takes = refl;
      awaits = refl;
      name = refl;
      descriptors = c.in_ok-reserve.ensures.items;
      ended = refl;
      status = refl;
      owed = refl;
      stays = record { wire = refl; slot = refl; entry = refl };
    }

pub pass-did-requires-clause-looked : goal.pass-did-requires-clause-looked
pass-did-requires-clause-looked g c = c.requires.read.looked

pub pass-did-requires-clause-read : goal.pass-did-requires-clause-read
pass-did-requires-clause-read g c = c.requires.read.present

pub pass-did-requires-clause-found : goal.pass-did-requires-clause-found
pass-did-requires-clause-found g c = c.requires.read.found

-- what is due is next
next_is : (g : _) (c : In-Due g) → next_of c.requires.may.asks.program c.requires.may.asks.past c.args.at.now c.args.at.ready ≡ c.in-Due.due
next_is g c = let may = c.requires.may.asks in c.in_ok-own.ensures.due may.program may.past may.follows ∙ ap due_by c.in-Due.is

pub pass-did-requires-clause-waits : goal.pass-did-requires-clause-waits
pass-did-requires-clause-waits g c =
    let next = next_is g (goal.at.pass-did-requires-clause-waits g c).In-Due in
    λ none. only_waits c.in-Due.due (subst IsAct next (c.requires.may.acts none)) (subst IsStated c.in-Due.is c.in_ok-own.ensures.stated)

pub pass-did-requires-clause-suits : goal.pass-did-requires-clause-suits
pass-did-requires-clause-suits g c =
    let next = next_is g (goal.at.pass-did-requires-clause-suits g c).In-Due in
    λ i wire. subst (SuitsPlace i) next (c.requires.may.suits i wire)

-- nothing of a child is due
pub pass-did-requires-clause-alone : goal.pass-did-requires-clause-alone
pass-did-requires-clause-alone g c =
    let next = next_is g (goal.at.pass-did-requires-clause-alone g c).In-Due in
    let mouths = c.args.mouths.now.items in
    λ i wire. gives_no_actor mouths c.args.self.now.wire i c.in-Due.due wire
    (subst (λ (due : NeedData). is_due_of_child (has_actor mouths c.args.self.now.wire) due ≡ false) next c.requires.may.own)

pub returns-in-Due-clause-acted : goal.returns-in-Due-clause-acted
returns-in-Due-clause-acted g c =
    let at = c.args.at in
    let here = (goal.at.returns-in-Due-clause-acted g c).In-Due in
    let old = g.D.CallFs.disk c.args.disk.now in
    let before = c.args.history.now.events.items in
    let asked = c.in_ok-own.ensures in
    let none : IsNoAct c.in-Due.due = subst IsStated c.in-Due.is asked.stated in
    let still : g.D.CallFs.disk c.ask.new.disk ≡ old = subst (λ (came : Came). IsMade came at.now old (g.D.CallFs.disk c.ask.new.disk)) c.in-Due.is asked.made in
    subst (λ (t : Option Disk). IfOk c.pass-did.result (λ did. HasStepped did old t c.args.mouths.now.items c.pass-did.new.mouths.items at.pid c.args.self.now c.pass-did.new.self before c.pass-did.new.history.events.items at.now at.ready)) (sym still)
    (passed_result old c.args.mouths.now.items c.pass-did.new.mouths.items at.pid c.args.self.now (roomy g here) c.pass-did.new.self before c.pass-did.new.history.events.items at.now at.ready c.in-Due.due
    (asked_of g here) none (length before) c.pass-did.new.history c.args.history.now c.pass-did.result c.pass-did.ensures.passed c.pass-did.ensures.waits c.pass-did.ensures.at)

-- the disk is untouched then
pub returns-in-Due-clause-waits : goal.returns-in-Due-clause-waits
returns-in-Due-clause-waits g c =
    let here = (goal.at.returns-in-Due-clause-waits g c).In-Due in
    let still : c.ask.new.disk ≡ c.args.disk.now = subst (λ (came : Came). IsUntouched came c.args.disk.now c.ask.new.disk) c.in-Due.is c.in_ok-own.ensures.still in
    if_waits c.args.disk.now c.ask.new.disk c.args.history.now c.pass-did.new.history (roomy g here) c.pass-did.new.self c.pass-did.result still c.pass-did.ensures.waits

pub returns-in-Due-clause-err : goal.returns-in-Due-clause-err
returns-in-Due-clause-err g c =
    let still : c.ask.new.disk ≡ c.args.disk.now = subst (λ (came : Came). IsUntouched came c.args.disk.now c.ask.new.disk) c.in-Due.is c.in_ok-own.ensures.still in
    if_err c.pass-did.result still

pub returns-in-Ended-clause-acted : goal.returns-in-Ended-clause-acted
returns-in-Ended-clause-acted g c =
    let asked = c.in_ok-own.ensures in
    let at = c.args.at in
    let x = c.args.self.now in
    let old = g.D.CallFs.disk c.args.disk.now in
    let new = g.D.CallFs.disk c.end.new.disk in
    let status = c.in-Ended.status in
    let still : g.D.CallFs.disk c.ask.new.disk ≡ old = subst (λ (came : Came). IsMade came at.now old (g.D.CallFs.disk c.ask.new.disk)) c.in-Ended.is asked.made in
    let copied = c.copy-in-Ended.ensures in
    let put : Kept = kept.End c.copy-in-Ended.result at.now at.ready status in
    let event : put ≡ kept.End x.name at.now at.ready status = cc in
    rw c.new-in-Ended.ensures (record {
      due = λ program past f. asked.due program past f ∙ ap due_by c.in-Ended.is;
      over = record {
        event = c.put-in-Ended.ensures.event ∙ ap (λ (k : Kept). c.args.history.now.events.items ++ k ∷ []) event;
        closed = subst (λ (t : Option Disk). Meets t new (λ d e. e ≡ shut x.descriptors.items d)) still
            (subst (λ (fds : List Fd). Meets (g.D.CallFs.disk c.ask.new.disk) new (λ d e. e ≡ shut fds d)) c.in_ok-reserve.ensures.items c.end.ensures.closed);
        shuts = shuts_after c.args.mouths.now.items c.shut_after.new.mouths.items x.name x.wire x.slot c.requires.seat.four
            (shut_of c.args.mouths.now.items c.shut_after.new.mouths.items c.end.new.self.wire x.wire c.end.new.self.slot x.slot c.as_slice.result.now x.name
            c.end.ensures.stays.wire c.end.ensures.stays.slot (c.as_slice.ensures ∙ c.end.ensures.name) c.shut_after.ensures);
        name = c.end.ensures.name;
        descriptors = c.end.ensures.descriptors;
        ended = c.end.ensures.ended ∙ ap Some c.len-index.ensures;
        status_is = c.end.ensures.status;
        stays = record { wire = c.end.ensures.stays.wire; slot = c.end.ensures.stays.slot; entry = c.end.ensures.stays.entry };
      };
    })
