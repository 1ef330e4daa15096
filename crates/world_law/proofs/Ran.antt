-- Each actor ran by its table.
use Rattle.std.proofs.Common.{◌≡◌, ◌≢◌, ⊎_elim, ℕ, List, [], ◌∷◌, Option, Some, None, option_map, refl, sym, ◌∙◌, subst}
use Rattle.call_fs.specs.Disk.{Disk}
use Rattle.call_fs.specs.Maps.{put_at}
use Rattle.call_fs.proofs.Maps.{put_at_cases}
use Rattle.call_fs.specs.Past.{IsRunBy}
use Rattle.call_fs.specs.Program.{MayCome}
use Rattle.call_fs.specs.declared.past.GotData.{GotData}
use Rattle.call_fs.specs.declared.past.NeedData.{NeedData}
use Rattle.call_fs.specs.declared.past.NeedData.TheVariants as needs
use Rattle.call_fs.specs.declared.past.Own.{Own}
use Rattle.world_events.specs.declared.event.Program.{Program}
use Rattle.mail_world.proofs.Members.{are_four}
use Rattle.mail_world.specs.History.{Actor, Allowed, Event, Legal, Life, MayBear, State, acted, after, bears, finished, happens, newborn, next_of, stopped}
use Rattle.mail_world.specs.History.Event.{Act, Child, End, Generation, Halt, Moment, Report, Start, Stop}
use Rattle.mail_world.specs.History.Life.{Over, Stopped}
use Rattle.mail_world.proofs.Coming.{may_come}
use Rattle.world_law.proofs.Tenants.{some_actor}

abbrev pub HasRun : Actor → Type 0
HasRun x = IsRunBy (next_of x.program) x.past

abbrev pub HaveRun : (List ℕ → Option Actor) → Type 0
HaveRun actors = (a : List ℕ) (x : Actor) → actors a ≡ Some x → HasRun x

-- one actor more, or another one
put_run : (actors : List ℕ → Option Actor) (a : List ℕ) (y : Actor) → HaveRun actors → HasRun y → HaveRun (put_at actors a (Some y))
put_run actors a y R ran b x is = ⊎_elim
    (λ (c : (b ≡ a) × (put_at actors a (Some y) b ≡ Some y)). subst HasRun (some_actor y x (sym c.1 ∙ is)) ran)
    (λ (c : (b ≢ a) × (put_at actors a (Some y) b ≡ actors b)). R b x (sym c.1 ∙ is))
    (put_at_cases actors a (Some y) b)

-- the start of a child may come of its parent's event
pub born_comes : (s : State) (parent : List ℕ) (own : Own) (a : List ℕ) (program : Program) → MayBear s parent own a program → MayCome own.due own.came
born_comes s parent own a program may =
    subst (λ (n : NeedData). MayCome n own.came) (sym may.starts) (subst (λ (c : GotData). MayCome (needs.Start may.asked) c) (sym may.came) tt)

module _ (s : State) (R : HaveRun s.actors) where
  acts_run : (a : List ℕ) (own : Own) (wrote : ℕ) (x : Actor) → s.actors a ≡ Some x → next_of x.program x.past own.read own.ready ≡ own.due → MayCome own.due own.came
      → HaveRun (acted s a own wrote (Some x)).actors
  acts_run a own wrote x is due may = put_run s.actors a (record { program = x.program; past = own ∷ x.past; life = x.life }) R (R a x is, (due, may))

  ends_run : (a : List ℕ) (life : Life) (o : Option Actor) → s.actors a ≡ o → HaveRun (finished s a life o).actors
  ends_run a life None is = R
  ends_run a life (Some x) is = put_run s.actors a (record { program = x.program; past = x.past; life = life }) R (R a x is)

  -- a machine stop
  stops_run : (o : Option Actor) (x : Actor) → ((y : Actor) → o ≡ Some y → HasRun y) → option_map stopped o ≡ Some x → HasRun x
  stops_run None x ran is = absurd (cc)
  stops_run (Some y) x ran is = subst HasRun (some_actor (stopped y) x is) (ran y refl)

run_keep : (e : Event) (s : State) → HaveRun s.actors → Allowed s e → HaveRun (happens s e).actors
run_keep (Start a program) s R may = put_run s.actors a (newborn program) R tt
run_keep (Act a own wrote) s R may =
    subst (λ (o : Option Actor). HaveRun (acted s a own wrote o).actors) (sym may.reads.is)
    (acts_run s R a own wrote may.actor may.reads.is may.due (may_come s a own.due own.came wrote may.came))
run_keep (Child parent own a program) s R may =
    subst (λ (o : Option Actor). HaveRun (bears (acted s parent own 0 o) parent own a program).actors) (sym may.reads.is)
    (put_run (acted s parent own 0 (Some may.actor)).actors a (newborn program) (acts_run s R parent own 0 may.actor may.reads.is may.due (born_comes s parent own a program may)) tt)
run_keep (Generation (sender ∷ clean ∷ lspawn ∷ rspawn ∷ [])) s R may =
    put_run _ _ (newborn rspawn) (put_run _ _ (newborn lspawn) (put_run _ _ (newborn clean) (put_run _ _ (newborn sender) R tt) tt) tt) tt
run_keep (Generation crew) s R may = absurd (are_four crew may.kinds)
run_keep (Report slot output) s R may = R
run_keep (End a read ready status) s R may = ends_run s R a (Over status) (s.actors a) refl
run_keep (Stop a) s R may = ends_run s R a Stopped (s.actors a) refl
run_keep (Moment m) s R may = R
run_keep (Halt how contents) s R may = λ a x is. stops_run s R (s.actors a) x (R a) is

pub have_run : (d : Disk) (before : List Event) → Legal d before → HaveRun (after d before).actors
have_run d [] legal = λ a x is. absurd (cc)
have_run d (e ∷ before) legal = run_keep e (after d before) (have_run d before legal.0) legal.1
