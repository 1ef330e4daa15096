-- What an actor passes on or takes over, and what it owes: its machine is told, or will be.
use Rattle.std.proofs.Common.{◌≡◌, inr, ℕ, List, [], ◌∷◌, ◌++◌, Bool, true, Option, Some, None, Result, Ok, Err, refl, sym, ap, ◌∙◌, subst}
use Rattle.std.specs.Prelude.{IfOk, IfSome, IsNone}
use Rattle.call_fs.specs.Disk.{Disk}
use Rattle.call_fs.specs.declared.past.GotData.{GotData}
use Rattle.call_fs.specs.declared.past.NeedData.{NeedData}
use Rattle.call_fs.specs.declared.past.NeedData.TheVariants as needs
use Rattle.call_fs.specs.declared.past.Own.{Own}
use Rattle.call_fs.specs.declared.program.Ready.{Ready}
use Rattle.call_fs.specs.Program.{IsWithin}
use Rattle.world_events.specs.declared.event.Event.{Event as Kept}
use Rattle.world_events.specs.declared.event.Event.TheVariants as kept
use Rattle.world_events.specs.declared.event.Program.{Program}
use Rattle.world_events.specs.declared.event.History.{History}
use Rattle.world_pipes.specs.declared.mouths.Mouths.{Mouths}
use Rattle.mail_world.specs.declared.actor.Actor.{Actor as Held}
use Rattle.mail_world.specs.declared.any_machine.AnyMachine.{AnyMachine}
use Rattle.world_events.specs.declared.answers.Did.{Did}
use Rattle.mail_world.specs.History.{next_of}
use Rattle.mail_world.specs.ByKind.{Follows, present_of, found_of, looked_of, need_of, takes_of, awaits_of, with_own, own_of}
use Rattle.mail_world.specs.Generations.{idled_in, idled_of}
use Rattle.mail_world.specs.Inside.{StandsFor, Owes, unowed}
use Rattle.mail_world.specs.Acting.{IsNoAct, BringsNone, MakesOf, Exchanges, IsStuck, StaysAt, HasDone, HasIdled, HasLooked, HasStepped, HasPassedOn, HasGiven, HasActed}
use Rattle.mail_world.proofs.Lasts.{same_last}
use Rattle.mail_world.proofs.Machines.{own_is}
use Rattle.mail_world.proofs.Passes.{passing}

-- nothing that passes changes the disk
still_made : (told : Option Disk) (now : ℕ) (due : NeedData) (came : GotData) → IsNoAct due → MakesOf now due came told told
still_made None now due came none = tt
still_made (Some d) now (needs.File c) came none = absurd none
still_made (Some d) now (needs.Take port) came none = refl
still_made (Some d) now (needs.Give port bytes) came none = refl
still_made (Some d) now (needs.Start asked) came none = refl
still_made (Some d) now (needs.Command bytes) came none = refl
still_made (Some d) now needs.Wait came none = refl
still_made (Some d) now (needs.Ended status) came none = absurd none

-- an actor whose machine looked, to which this is due
pub record HasAsked (x y : Held) (now : ℕ) (ready : Ready) (due : NeedData) : Type 0 where
  pub next : (program : Program) (past : List Own) → Follows x.machine program past → next_of program past now ready ≡ due
  pub follows : (program : Program) (past : List Own) → Follows x.machine program past → Follows y.machine program past
  pub present : present_of y.machine ≡ now
  pub found : found_of y.machine ≡ ready
  pub looked : looked_of y.machine ≡ true
  pub need : need_of y.machine ≡ due
  pub takes : takes_of y.machine ≡ takes_of x.machine
  pub awaits : awaits_of y.machine ≡ awaits_of x.machine
  pub name : y.name ≡ x.name
  pub descriptors : y.descriptors.items ≡ x.descriptors.items
  pub ended : y.ended ≡ x.ended
  pub status : y.status ≡ x.status
  pub owed : y.owed ≡ x.owed
  pub stays : StaysAt x y

module _ (told : Option Disk) (pipes piped : List Mouths) (pid : ℕ) (x y z : Held) (before now_kept : List Kept) (now : ℕ) (ready : Ready) (due : NeedData)
    (asked : HasAsked x y now ready due) (none : IsNoAct due) where
  passed_on : HasPassedOn pipes piped pid y z before now_kept now ready due → HasDone told told pipes piped pid x z before now_kept now ready
  passed_on given =
      let own : Own = record { read = now; ready = ready; due = due; came = given.came } in
      record {
        own = own;
        event = given.event ∙ ap (λ (a : List ℕ). before ++ kept.Act a own ∷ []) asked.name;
        read = refl;
        found = refl;
        due = asked.next;
        follows = λ program past f.
            subst (StandsFor z program) (own_is y.machine own past asked.present asked.found asked.need) (given.follows program past (asked.follows program past f));
        owes = λ at is. let owed = given.owes at is in record {
          here = owed.0;
          read = ap present_of owed.1 ∙ asked.present;
          found = ap found_of owed.1 ∙ asked.found;
          looked = ap looked_of owed.1 ∙ asked.looked;
          due = ap need_of owed.1 ∙ asked.need;
          kind = given.exchanged.kind;
          within = subst (λ (m : AnyMachine). IsWithin (takes_of m) given.came) (sym owed.1) given.exchanged.within;
        };
        made = still_made told now due given.came none;
        passed = inr (
          none,
          subst (λ (most : ℕ). Exchanges x.wire x.slot pipes piped pid most x.name due given.came) asked.takes
              (subst (λ (a : List ℕ). Exchanges x.wire x.slot pipes piped pid (takes_of y.machine) a due given.came) asked.name
              (subst (λ (wire : Option ℕ). Exchanges wire x.slot pipes piped pid (takes_of y.machine) y.name due given.came) asked.stays.wire
              (subst (λ (slot : Option (ℕ × ℕ)). Exchanges y.wire slot pipes piped pid (takes_of y.machine) y.name due given.came) asked.stays.slot given.exchanged))),
        );
        name = given.name ∙ asked.name;
        stays = record { wire = given.stays.wire ∙ asked.stays.wire; slot = given.stays.slot ∙ asked.stays.slot; entry = given.stays.entry ∙ asked.stays.entry };
        descriptors = given.descriptors ∙ asked.descriptors ∙ sym ((passing due given.came none).opened x.descriptors.items);
        ended = given.ended ∙ asked.ended;
        status = given.status ∙ asked.status;
        awaits = given.awaits ∙ asked.awaits;
      }

  pub asked_looked : HasLooked x y
  asked_looked = record {
    follows = asked.follows;
    name = asked.name;
    descriptors = asked.descriptors;
    ended = asked.ended;
    status = asked.status;
    awaits = asked.awaits;
    owed = asked.owed;
    stays = asked.stays;
  }

  pub passed_steps : (did : Option Did) → HasGiven did pipes piped pid y z before now_kept now ready due → (IsNone did → z ≡ y) → IfSome did (λ d. d.ended ≡ None)
      → HasStepped did told told pipes piped pid x z before now_kept now ready
  passed_steps None stuck same lasts =
      let mine : IsStuck x.wire x.slot pipes piped x.name due =
      subst (λ (a : List ℕ). IsStuck x.wire x.slot pipes piped a due) asked.name
      (subst (λ (wire : Option ℕ). IsStuck wire x.slot pipes piped y.name due) asked.stays.wire
      (subst (λ (slot : Option (ℕ × ℕ)). IsStuck y.wire slot pipes piped y.name due) asked.stays.slot stuck)) in
      record {
        looked = subst (HasLooked x) (sym (same refl)) asked_looked;
        same = mine.same;
        waits = λ program past f wires w has. subst (λ (due : NeedData). BringsNone w x.name due) (sym (asked.next program past f)) (mine.none wires w has);
      }
  passed_steps (Some did) given same lasts =
      subst (λ (o : Option ℕ). HasActed o told told pipes piped pid x z before now_kept now ready) (sym lasts) (passed_on given)

  lasts_in : (n : ℕ) (did : Option Did) → IfSome did (λ d. (d.at ≡ n) × (d.ended ≡ None)) → IfSome did (λ d. d.ended ≡ None)
  lasts_in n None is = tt
  lasts_in n (Some d) is = is.1

  pub passed_result : {E : Type 0} (n : ℕ) (q r : History) (result : Result (Option Did) E) → IfOk result (λ did. HasGiven did pipes piped pid y z before now_kept now ready due)
      → IfOk result (λ did. IsNone did → (z ≡ y) × (q ≡ r)) → IfOk result (λ did. IfSome did (λ d. (d.at ≡ n) × (d.ended ≡ None)))
      → IfOk result (λ did. HasStepped did told told pipes piped pid x z before now_kept now ready)
  passed_result n q r (Ok did) given waits at = passed_steps did given (λ none_did. (waits none_did).0) (lasts_in n did at)
  passed_result n q r (Err e) given waits at = tt

own_same : (m : AnyMachine) (own : Own) → present_of m ≡ own.read → found_of m ≡ own.ready → need_of m ≡ own.due → own_of m own.came ≡ own
own_same m own read ready due =
    ap (λ (read : ℕ). record { read = read; ready = found_of m; due = need_of m; came = own.came }) read
    ∙ ap (λ (ready : Ready). record { read = own.read; ready = ready; due = need_of m; came = own.came }) ready
    ∙ ap (λ (due : NeedData). record { read = own.read; ready = own.ready; due = due; came = own.came }) due

-- an event of an actor tells whether an idle turn ended, as its machine does
pub told_idle : (x : Held) (m : AnyMachine) (own : Own) (idle : Bool) (before now_kept : List Kept)
    → ((program : Program) (past : List Own) → Follows x.machine program past → Follows m program past)
    → present_of m ≡ own.read → found_of m ≡ own.ready → need_of m ≡ own.due
    → ((program : Program) (past : List Own) → Follows m program past → idle ≡ idled_in program past (own_of m own.came))
    → now_kept ≡ before ++ kept.Act x.name own ∷ [] → HasIdled idle x before now_kept
told_idle x m own idle before now_kept follows read ready due idles event k is program past f =
    idles program past (follows program past f) ∙ ap (idled_in program past) (own_same m own read ready due)
    ∙ ap (idled_of program past) (same_last before (kept.Act x.name own) k (sym event ∙ is))

-- What is owed

-- once it is paid, the machine has taken in the whole past
pub paid_stands : (x : Held) (n : AnyMachine) (events : List Kept) (past : List Own) (at : ℕ) (program : Program) (own : Own) → x.owed ≡ Some at → (o : Owes x events past at) → o.own ≡ own
    → ((past : List Own) → Follows x.machine program past → Follows n program (with_own x.machine own.came past))
    → StandsFor x program past → Follows n program past
paid_stands x n events past at program own owed o same hands stands =
    let stood : Follows x.machine program o.before =
    subst (λ (past : List Own). Follows x.machine program (unowed (Some at) past)) o.newest (subst (λ (o : Option ℕ). Follows x.machine program (unowed o past)) owed stands) in
    let whole : with_own x.machine own.came o.before ≡ past =
    own_is x.machine own o.before (o.read ∙ ap (λ (w : Own). w.read) same) (o.found ∙ ap (λ (w : Own). w.ready) same) (o.due ∙ ap (λ (w : Own). w.due) same)
    ∙ ap (λ (w : Own). w ∷ o.before) (sym same) ∙ sym o.newest in
    subst (Follows n program) whole (hands o.before stood)
