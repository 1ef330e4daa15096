-- What holds of the past of each sender, as each of its events keeps it, by what holds of the state before it, in a history whose events are such ones.
use Rattle.std.proofs.Common.{◌≡◌, ◌≢◌, ⊎_elim, ℕ, List, [], ◌∷◌, Bool, true, Option, Some, None, refl, sym, ◌∙◌, subst}
use Rattle.std.specs.Prelude.{option_map}
use Rattle.std.specs.List.{list_all}
use Rattle.std.proofs.lemmas.Bool.{and_parts}
use Rattle.call_fs.proofs.Maps.{put_at_cases}
use Rattle.call_fs.specs.Disk.{Disk}
use Rattle.call_fs.specs.Maps.{put_at}
use Rattle.call_fs.specs.Past.{IsRunBy}
use Rattle.call_fs.specs.declared.past.Own.{Own}
use Rattle.send_core.specs.Table.{Next}
use Rattle.world_events.specs.declared.event.Program.{Program}
use Rattle.world_events.specs.declared.event.Program.TheVariants.{Sender}
use Rattle.mail_world.proofs.Members.{are_four}
use Rattle.mail_world.specs.History.{Actor, Allowed, Event, Legal, Life, MayBear, MayDo, State, acted, after, finished, happens, newborn, next_of, stopped}
use Rattle.mail_world.specs.History.Event.{Start, Act, Child, Generation, Report, End, Stop, Moment, Halt}
use Rattle.mail_world.specs.History.Life.{Over, Stopped}
use Rattle.world_law.proofs.Histories.{always}
use Rattle.world_law.proofs.Ran.{HaveRun, have_run}
use Rattle.world_law.proofs.Tenants.{some_actor}
use Rattle.world_law.specs.Inv.{Inv}

module _ (ok : Event → Bool) (Q : State → Type 0) (P : List Own → Type 0) (none : P [])
    (acts : (s : State) (I : Inv s) → Q s → (a : List ℕ) (own : Own) (wrote : ℕ) (may : MayDo s a own wrote) (start : ℕ) → may.actor.program ≡ Sender start → ok (Act a own wrote) ≡ true
    → IsRunBy (Next None) may.actor.past → P may.actor.past → P (own ∷ may.actor.past))
    (bears : (s : State) (I : Inv s) → Q s → (a : List ℕ) (own : Own) (b : List ℕ) (program : Program) (may : MayBear s a own b program) (start : ℕ) → may.actor.program ≡ Sender start
    → IsRunBy (Next None) may.actor.past → P may.actor.past → P (own ∷ may.actor.past)) where
  abbrev Holds : Actor → Type 0
  Holds x = (start : ℕ) → x.program ≡ Sender start → P x.past

  abbrev AllHold : (List ℕ → Option Actor) → Type 0
  AllHold actors = (a : List ℕ) (x : Actor) → actors a ≡ Some x → Holds x

  put_holds : (actors : List ℕ → Option Actor) (a : List ℕ) (y : Actor) → AllHold actors → Holds y → AllHold (put_at actors a (Some y))
  put_holds actors a y R new b x is = ⊎_elim
      (λ (c : (b ≡ a) × (put_at actors a (Some y) b ≡ Some y)). subst Holds (some_actor y x (sym c.1 ∙ is)) new)
      (λ (c : (b ≢ a) × (put_at actors a (Some y) b ≡ actors b)). R b x (sym c.1 ∙ is))
      (put_at_cases actors a (Some y) b)

  born : (program : Program) → Holds (newborn program)
  born program start e = none

  module _ (s : State) (R : AllHold s.actors) (ran : HaveRun s.actors) where
    runs : (a : List ℕ) (x : Actor) → s.actors a ≡ Some x → (start : ℕ) → x.program ≡ Sender start → IsRunBy (Next None) x.past
    runs a x is start program = subst (λ (p : Program). IsRunBy (next_of p) x.past) program (ran a x is)

    done : (a : List ℕ) (own : Own) (wrote : ℕ) (x : Actor) → s.actors a ≡ Some x → ((start : ℕ) → x.program ≡ Sender start → P x.past → P (own ∷ x.past)) → AllHold (acted s a own wrote (Some x)).actors
    done a own wrote x is new = put_holds s.actors a (record { program = x.program; past = own ∷ x.past; life = x.life }) R (λ start e. new start e (R a x is start e))

    ended : (a : List ℕ) (life : Life) (o : Option Actor) → s.actors a ≡ o → AllHold (finished s a life o).actors
    ended a life None is = R
    ended a life (Some x) is = put_holds s.actors a (record { program = x.program; past = x.past; life = life }) R (R a x is)

    stops : (o : Option Actor) (x : Actor) → ((y : Actor) → o ≡ Some y → Holds y) → option_map stopped o ≡ Some x → Holds x
    stops None x held is = absurd (cc)
    stops (Some y) x held is = subst Holds (some_actor (stopped y) x is) (held y refl)

  event_holds : (e : Event) (s : State) → Inv s → Q s → HaveRun s.actors → AllHold s.actors → ok e ≡ true → Allowed s e → AllHold (happens s e).actors
  event_holds (Start a program) s I w ran R well may = put_holds s.actors a (newborn program) R (born program)
  event_holds (Act a own wrote) s I w ran R well may =
      subst (λ (o : Option Actor). AllHold (acted s a own wrote o).actors) (sym may.reads.is)
      (done s R ran a own wrote may.actor may.reads.is (λ start is held. acts s I w a own wrote may start is well (runs s R ran a may.actor may.reads.is start is) held))
  event_holds (Child parent own a program) s I w ran R well may =
      put_holds (acted s parent own 0 (s.actors parent)).actors a (newborn program)
      (subst (λ (o : Option Actor). AllHold (acted s parent own 0 o).actors) (sym may.reads.is)
      (done s R ran parent own 0 may.actor may.reads.is (λ start is held. bears s I w parent own a program may start is (runs s R ran parent may.actor may.reads.is start is) held))) (born program)
  event_holds (Generation (sender ∷ clean ∷ lspawn ∷ rspawn ∷ [])) s I w ran R well may =
      put_holds _ _ (newborn rspawn) (put_holds _ _ (newborn lspawn) (put_holds _ _ (newborn clean) (put_holds _ _ (newborn sender) R (born sender)) (born clean)) (born lspawn)) (born rspawn)
  event_holds (Generation crew) s I w ran R well may = absurd (are_four crew may.kinds)
  event_holds (Report slot output) s I w ran R well may = R
  event_holds (End a read ready status) s I w ran R well may = ended s R ran a (Over status) (s.actors a) refl
  event_holds (Stop a) s I w ran R well may = ended s R ran a Stopped (s.actors a) refl
  event_holds (Moment m) s I w ran R well may = R
  event_holds (Halt how contents) s I w ran R well may = λ a x is. stops s R ran (s.actors a) x (R a) is

  pub sender_pasts : (d : Disk) → ((h : List Event) → Legal d h → list_all ok h ≡ true → Q (after d h)) → (h : List Event) → Legal d h → list_all ok h ≡ true → AllHold (after d h).actors
  sender_pasts d facts [] legal well = λ a x is. absurd (cc)
  sender_pasts d facts (e ∷ h) legal well =
      let parts = and_parts (ok e) (list_all ok h) well in
      event_holds e (after d h) (always d h legal.0) (facts h legal.0 parts.1) (have_run d h legal.0) (sender_pasts d facts h legal.0 parts.1) parts.0 legal.1
