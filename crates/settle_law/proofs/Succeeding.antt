-- Where each report that a spawner gave is of a success, so is each that the sender took.
use Rattle.std.proofs.Common.{◌≡◌, ◌≢◌, ⊎_elim, ℕ, List, [], ◌∷◌, Bool, true, Option, Some, None, refl, sym, ap, ◌∙◌, subst, codes}
use Rattle.std.specs.Prelude.{◌&&◌, ◌||◌, All, not, option_map}
use Rattle.std.specs.List.{list_all}
use Rattle.std.proofs.lemmas.Bool.{and_from, and_parts}
use Rattle.call_fs.proofs.Maps.{put_at_cases}
use Rattle.call_fs.specs.Disk.{Disk}
use Rattle.call_fs.specs.Maps.{put_at}
use Rattle.call_fs.specs.declared.past.NeedData.TheVariants as needs
use Rattle.call_fs.specs.declared.past.Own.{Own}
use Rattle.send_core.specs.Past.{account, news}
use Rattle.send_known.specs.declared.channel.Channel.{Channel}
use Rattle.send_known.specs.declared.channel.Channel.TheVariants.{Local, Remote}
use Rattle.send_parts.specs.Channels.{port_of}
use Rattle.world_events.specs.declared.event.Program.{Program}
use Rattle.world_events.specs.declared.event.Program.TheVariants.{Sender}
use Rattle.mail_world.proofs.Members.{are_four}
use Rattle.mail_world.specs.History.{Actor, Allowed, Event, IsSender, Legal, Life, State, acted, after, finished, happens, newborn, stopped}
use Rattle.mail_world.specs.History.Event.{Start, Act, Child, Generation, Report, End, Stop, Moment, Halt}
use Rattle.mail_world.specs.History.Life.{Alive, Over, Stopped}
use Rattle.world_law.proofs.Tenants.{some_actor}
use Rattle.world_law.specs.Crew.{IsNamed}
use Rattle.world_law.specs.Spawned.{spawner_name}
use Rattle.settle_law.specs.inside.Living.Servant.{Spawns}
use Rattle.settle_law.specs.inside.Succeeded.{HearsSuccess, IsSuccess, ReportsSucceed}
use Rattle.settle_law.specs.Well.{AllSucceed, GoesWell, goes_well, is_spawner, succeeds, tells_success}
use Rattle.settle_law.proofs.Greeted.{IsTaken}
use Rattle.settle_law.proofs.Living.{servants_live}
use Rattle.settle_law.proofs.Pasts.{sender_pasts}
use Rattle.settle_law.proofs.PipeEvents.{asked_of, kept_always, sends_by, sends_past, spawned_is, spawns_past, takes_some, told_of}
use Rattle.settle_law.proofs.SuccessPipes.{AllTell, Told, next_reports, told_kept}

-- What each spawner gave

abbrev Holds : List ℕ → Actor → Type 0
Holds a x = is_spawner a ≡ true → AllTell x.past

abbrev AllHold : (List ℕ → Option Actor) → Type 0
AllHold actors = (a : List ℕ) (x : Actor) → actors a ≡ Some x → Holds a x

put_holds : (actors : List ℕ → Option Actor) (a : List ℕ) (y : Actor) → AllHold actors → Holds a y → AllHold (put_at actors a (Some y))
put_holds actors a y R new b x is = ⊎_elim
    (λ (c : (b ≡ a) × (put_at actors a (Some y) b ≡ Some y)). subst (λ (n : List ℕ). Holds n x) (sym c.0) (subst (Holds a) (some_actor y x (sym c.1 ∙ is)) new))
    (λ (c : (b ≢ a) × (put_at actors a (Some y) b ≡ actors b)). R b x (sym c.1 ∙ is))
    (put_at_cases actors a (Some y) b)

begins : (a : List ℕ) (program : Program) → Holds a (newborn program)
begins a program spawns = tt

module _ (s : State) (R : AllHold s.actors) where
  done : (a : List ℕ) (own : Own) (wrote : ℕ) (x : Actor) → s.actors a ≡ Some x → (is_spawner a ≡ true → tells_success own.due ≡ true) → AllHold (acted s a own wrote (Some x)).actors
  done a own wrote x is tells = put_holds s.actors a (record { program = x.program; past = own ∷ x.past; life = x.life }) R (λ spawns. (R a x is spawns, tells spawns))

  ended : (a : List ℕ) (life : Life) (o : Option Actor) → s.actors a ≡ o → AllHold (finished s a life o).actors
  ended a life None is = R
  ended a life (Some x) is = put_holds s.actors a (record { program = x.program; past = x.past; life = life }) R (R a x is)

  stops : (a : List ℕ) (o : Option Actor) (x : Actor) → ((y : Actor) → o ≡ Some y → Holds a y) → option_map stopped o ≡ Some x → Holds a x
  stops a None x held is = absurd (cc)
  stops a (Some y) x held is = subst (Holds a) (some_actor (stopped y) x is) (held y refl)

event_holds : (e : Event) (s : State) → AllHold s.actors → succeeds e ≡ true → Allowed s e → AllHold (happens s e).actors
event_holds (Start a program) s R well may = put_holds s.actors a (newborn program) R (begins a program)
event_holds (Act a own wrote) s R well may =
    subst (λ (o : Option Actor). AllHold (acted s a own wrote o).actors) (sym may.reads.is)
    (done s R a own wrote may.actor may.reads.is (λ spawns. subst (λ (b : Bool). (not b || tells_success own.due) ≡ true) spawns well))
event_holds (Child parent own a program) s R well may =
    put_holds (acted s parent own 0 (s.actors parent)).actors a (newborn program)
    (subst (λ (o : Option Actor). AllHold (acted s parent own 0 o).actors) (sym may.reads.is) (done s R parent own 0 may.actor may.reads.is (λ spawns. ap tells_success may.starts))) (begins a program)
event_holds (Generation (sender ∷ clean ∷ lspawn ∷ rspawn ∷ [])) s R well may =
    put_holds _ (codes "rspawn") (newborn rspawn) (put_holds _ (codes "lspawn") (newborn lspawn) (put_holds _ (codes "clean") (newborn clean) (put_holds _ (codes "sender") (newborn sender) R (begins (codes "sender") sender)) (begins (codes "clean") clean)) (begins (codes "lspawn") lspawn)) (begins (codes "rspawn") rspawn)
event_holds (Generation crew) s R well may = absurd (are_four crew may.kinds)
event_holds (Report slot output) s R well may = R
event_holds (End a read ready status) s R well may = ended s R a (Over status) (s.actors a) refl
event_holds (Stop a) s R well may = ended s R a Stopped (s.actors a) refl
event_holds (Moment m) s R well may = R
event_holds (Halt how contents) s R well may = λ a x is. stops s R a (s.actors a) x (R a) is

spawners_tell : (d : Disk) (h : List Event) → Legal d h → AllSucceed h → AllHold (after d h).actors
spawners_tell d [] legal all = λ a x is. absurd (cc)
spawners_tell d (e ∷ h) legal all =
    let parts = and_parts (succeeds e) (list_all succeeds h) all in event_holds e (after d h) (spawners_tell d h legal.0 parts.1) parts.0 legal.1

named_so : (c : Channel) → is_spawner (spawner_name c) ≡ true
named_so Local = refl
named_so Remote = refl

-- What a sender takes

abbrev both : Event → Bool
both e = goes_well e && succeeds e

both_parts : (h : List Event) → list_all both h ≡ true → (list_all goes_well h ≡ true) × (list_all succeeds h ≡ true)
both_parts [] all = (refl, refl)
both_parts (e ∷ h) all =
    let here = and_parts (both e) (list_all both h) all in
    let one = and_parts (goes_well e) (succeeds e) here.0 in
    let more = both_parts h here.1 in
    (and_from (goes_well e) (list_all goes_well h) one.0 more.0, and_from (succeeds e) (list_all succeeds h) one.1 more.1)

both_all : (h : List Event) → list_all goes_well h ≡ true → list_all succeeds h ≡ true → list_all both h ≡ true
both_all [] well all = refl
both_all (e ∷ h) well all =
    let one = and_parts (goes_well e) (list_all goes_well h) well in
    let two = and_parts (succeeds e) (list_all succeeds h) all in
    and_from (both e) (list_all both h) (and_from (goes_well e) (succeeds e) one.0 two.0) (both_all h one.1 two.1)

-- each report that a living sender is to take in this state
abbrev AreNext : State → Type 0
AreNext s = (x : Actor) (start : ℕ) → s.actors (codes "sender") ≡ Some x → x.program ≡ Sender start → x.life ≡ Alive → (c : Channel) (before bytes : List ℕ)
    → (account c x.past).heard ≡ Some before → IsTaken (told_of c s) bytes → All IsSuccess (news before bytes)

module _ (d : Disk) where
  next_in : (h : List Event) → Legal d h → list_all both h ≡ true → AreNext (after d h)
  next_in h legal all x start is program alive c before bytes heard lies =
      let parts = both_parts h all in
      let s = after d h in
      let well : GoesWell d h = record { legal = legal; well = parts.0 } in
      let served = servants_live d h well (Spawns c) x is alive (subst IsSender (sym program) tt) in
      let one : sends_past (s.actors (codes "sender")) ≡ Some x.past = ap sends_past is ∙ ap (λ (p : Program). sends_by p x.past) program in
      let two : spawns_past c (s.actors (spawner_name c)) ≡ Some served.actor.past = ap (spawns_past c) served.is ∙ spawned_is c served.actor.program served.serves served.actor.past in
      let told : Told c (Some x.past) (Some served.actor.past) (told_of c s) (asked_of c s) =
      subst (λ (o : Option (List Own)). Told c (Some x.past) o (told_of c s) (asked_of c s)) two
      (subst (λ (o : Option (List Own)). Told c o (spawns_past c (s.actors (spawner_name c))) (told_of c s) (asked_of c s)) one
      (kept_always Told told_kept d h legal parts.0 c)) in
      next_reports c x.past served.actor.past (told_of c s) (asked_of c s) before bytes told (spawners_tell d h legal parts.1 (spawner_name c) served.actor served.is (named_so c)) heard lies

pub reports_succeed : ReportsSucceed
reports_succeed d h well all x start is program = sender_pasts both AreNext HearsSuccess tt
    (λ s I next a own wrote may began sends fine ran held. (
      held,
      λ c before bytes heard due got.
          let named : a ≡ codes "sender" = subst (IsNamed a) sends (I.crew a may.actor may.reads.is) in
          next may.actor began (subst (λ (b : List ℕ). s.actors b ≡ Some may.actor) named may.reads.is) sends may.reads.alive c before bytes heard
          (subst (λ (b : List ℕ). IsTaken (s.pipework.pipes b (port_of c)).bytes bytes) named (takes_some s a own wrote may.came c due bytes got)),
    ))
    (λ s I next a own b child may began sends ran held. (
      held,
      λ c before bytes heard due got. let bad : needs.Start may.asked ≡ needs.Take (port_of c) = sym may.starts ∙ due in absurd (cc),
    ))
    d (next_in d) h well.legal (both_all h well.well all) (codes "sender") x is start program
