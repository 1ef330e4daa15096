-- Each preprocessed message is met by the sender that lives.
use Rattle.std.proofs.Common.{◌≡◌, ◌≢◌, inr, ⊎_elim, ℕ, List, [], ◌∷◌, Option, Some, None, refl, sym, ap, ◌∙◌, subst}
use Rattle.std.specs.Prelude.{IsSome, codes, option_map}
use Rattle.call_fs.proofs.Maps.{put_at_cases}
use Rattle.call_fs.specs.Disk.{Disk, Open as OpenFile}
use Rattle.call_fs.specs.Maps.{put_at}
use Rattle.call_fs.specs.Past.{IsRunBy}
use Rattle.call_fs.specs.Program.{MayCome}
use Rattle.call_fs.specs.declared.past.GotData.{GotData}
use Rattle.call_fs.specs.declared.past.NeedData.{NeedData}
use Rattle.call_fs.specs.declared.past.NeedData.TheVariants as needs
use Rattle.call_fs.specs.declared.past.Own.{Own}
use Rattle.call_fs.specs.declared.program.Port.TheVariants as port
use Rattle.queue_paths.specs.Names.{path}
use Rattle.queue_paths.specs.Names.Name.{Of}
use Rattle.queue_paths.specs.Names.Part.{Info}
use Rattle.retry_law.specs.Left.{NoneLeft}
use Rattle.send_core.specs.Table.{Next, due_at, row_now}
use Rattle.send_core.specs.declared.desk.Desk.{Desk}
use Rattle.send_parts.specs.declared.row.Row.{Row}
use Rattle.send_parts.specs.declared.row.Row.TheVariants as at
use Rattle.send_parts.specs.declared.rows.FinishRow.TheVariants as finish
use Rattle.send_parts.specs.declared.rows.SweepRow.TheVariants as sweep
use Rattle.world_events.specs.declared.event.Program.TheVariants.{Sender}
use Rattle.world_events.specs.declared.event.Program.{Program}
use Rattle.mail_world.proofs.Members.{are_four}
use Rattle.mail_world.specs.History.Event.{Start, Act, Child, Generation, Report, End, Stop, Moment, Halt}
use Rattle.mail_world.specs.History.Life.{Alive, Over, Stopped}
use Rattle.mail_world.specs.History.{Actor, Allowed, Event, IsSender, Legal, Life, MayBear, MayDo, State, acted, after, cut_off, disk_after, finished, happens, newborn, stopped}
use Rattle.world_law.proofs.Histories.{always}
use Rattle.world_law.proofs.Tenants.{some_actor}
use Rattle.world_law.specs.Crew.{IsNamed}
use Rattle.world_law.specs.Inv.{Inv}
use Rattle.settle_law.proofs.FiledCalls.{some_of}
use Rattle.settle_law.proofs.Meeting.{stays_met}
use Rattle.settle_law.proofs.OthersFiled.{other_filed}
use Rattle.settle_law.proofs.OwnFiled.{own_filed, own_gone, own_shows}
use Rattle.settle_law.proofs.Removals.{none_removed, started_shows}
use Rattle.settle_law.specs.inside.Met.{AreMet, Comes, IsFiled, Removes, Shows}
use Rattle.settle_law.specs.Suffices.{desk_of}

-- what a living sender has met that left no todo pass
abbrev pub Met : Disk → Actor → Type 0
Met d x = (start : ℕ) → x.program ≡ Sender start → x.life ≡ Alive → IsRunBy (Next None) x.past → NoneLeft None x.past → AreMet d x.past

abbrev pub AllMet : Disk → (List ℕ → Option Actor) → Type 0
AllMet d actors = (a : List ℕ) (x : Actor) → actors a ≡ Some x → Met d x

put_met : (e : Disk) (actors : List ℕ → Option Actor) (a : List ℕ) (y : Actor) → ((b : List ℕ) (x : Actor) → b ≢ a → actors b ≡ Some x → Met e x) → Met e y → AllMet e (put_at actors a (Some y))
put_met e actors a y others new b x is = ⊎_elim
    (λ (c : (b ≡ a) × (put_at actors a (Some y) b ≡ Some y)). subst (Met e) (some_actor y x (sym c.1 ∙ is)) new)
    (λ (c : (b ≢ a) × (put_at actors a (Some y) b ≡ actors b)). others b x c.0 (sym c.1 ∙ is))
    (put_at_cases actors a (Some y) b)

none_past : (d : Disk) → AreMet d []
none_past d = record { met = λ n low high filed. inr tt; gone = λ n removes. absurd removes }

put_new : (d : Disk) (actors : List ℕ → Option Actor) (a : List ℕ) (program : Program) → AllMet d actors → AllMet d (put_at actors a (Some (newborn program)))
put_new d actors a program R = put_met d actors a (newborn program) (λ b x far is. R b x is) (λ start e alive run stays. none_past d)

put_over : (d : Disk) (actors : List ℕ → Option Actor) (a : List ℕ) (x : Actor) (life : Life) → (life ≡ Alive → ⊥) → AllMet d actors → AllMet d (put_at actors a (Some (record { program = x.program; past = x.past; life = life })))
put_over d actors a x life dead R = put_met d actors a (record { program = x.program; past = x.past; life = life }) (λ b y far is. R b y is) (λ start e alive run stays. absurd (dead alive))

-- An event of an actor

unfiled : (o : Option ℕ) → o ≡ None → IsSome o → ⊥
unfiled o none some = let w = some_of o some in let bad : ◌≡◌ {A = Option ℕ} None (Some w.0) = sym none ∙ w.1 in cc

-- to one that it has removed it doesn't come
comes_apart : (row : Row) (d : Desk) (n : ℕ) → Removes row n → Comes row d n → ⊥
comes_apart (at.Finish finish.Take m) d n removes comes = comes
comes_apart (at.Sweep (sweep.Take dir m)) d n removes comes = comes
comes_apart row d n removes comes = removes

module _ (s : State) (I : Inv s) (R : AllMet s.disk s.actors) (a : List ℕ) (own : Own) (wrote : ℕ) (may : MayDo s a own wrote) where
  abbrev x : Actor
  x = may.actor

  abbrev e : Disk
  e = disk_after s.disk own.read own.due own.came wrote

  others_met : (past : List Own) → AreMet s.disk past → (IsSender x.program → ⊥) → ((n : ℕ) → ((y : Actor) (start : ℕ) → s.actors (codes "sender") ≡ Some y → y.program ≡ Sender start → y.life ≡ Alive → Comes (desk_of y.past).row (desk_of y.past) n)
      → Comes (desk_of past).row (desk_of past) n) → AreMet e past
  others_met past was other comes = record {
    met = λ n low high filed. ⊎_elim
        (λ (there : IsFiled s.disk n). was.met n low high there)
        (λ (all : (y : Actor) (start : ℕ) → s.actors (codes "sender") ≡ Some y → y.program ≡ Sender start → y.life ≡ Alive → Comes (desk_of y.past).row (desk_of y.past) n). inr (comes n all))
        (other_filed s I a own wrote may other n filed);
    gone = λ n removes filed. ⊎_elim
        (λ (there : IsFiled s.disk n). was.gone n removes there)
        (λ (all : (y : Actor) (start : ℕ) → s.actors (codes "sender") ≡ Some y → y.program ≡ Sender start → y.life ≡ Alive → Comes (desk_of y.past).row (desk_of y.past) n).
        comes_apart (desk_of past).row (desk_of past) n removes (comes n all))
        (other_filed s I a own wrote may other n filed);
  }

  -- another sender lives: then its event is no sender's
  others_by : (p : Program) → x.program ≡ p → (b : List ℕ) (y : Actor) → b ≢ a → s.actors b ≡ Some y → Met e y
  others_by (Sender since) e_is b y far is start program alive run stays =
      let mine : a ≡ codes "sender" = subst (IsNamed a) e_is (I.crew a x may.reads.is) in
      let other : b ≡ codes "sender" = subst (IsNamed b) program (I.crew b y is) in
      absurd (far (other ∙ sym mine))
  others_by p e_is b y far is start program alive run stays =
      let other : b ≡ codes "sender" = subst (IsNamed b) program (I.crew b y is) in
      others_met y.past (R b y is start program alive run stays) (λ h. subst IsSender e_is h) (λ n all. all y start (ap s.actors (sym other) ∙ is) program alive)

  own_met : Met e (record { program = x.program; past = own ∷ x.past; life = x.life })
  own_met start program alive run stays = record {
    met = λ n low high filed.
        let there : IsFiled s.disk n = own_filed s I a own wrote may start program n filed in
        stays_met own x.past run stays.1 n low high (own_shows s I a own wrote may start program n low high there was.gone) (was.met n low high there);
    gone = λ n removes filed. unfiled (e.names (path (Of Info n))) (own_gone s I a own wrote may start program run.1.1 n removes) filed.1;
  }
    where
      was : AreMet s.disk x.past
      was = R a x may.reads.is start program alive run.0 stays.0

  acts : AllMet (acted s a own wrote (Some x)).disk (acted s a own wrote (Some x)).actors
  acts = put_met e s.actors a (record { program = x.program; past = own ∷ x.past; life = x.life }) (others_by x.program refl) own_met

-- The start of a child

module _ (s : State) (R : AllMet s.disk s.actors) (parent : List ℕ) (own : Own) (a : List ℕ) (program : Program) (may : MayBear s parent own a program) where
  abbrev bearer : Actor
  bearer = may.actor

  abbrev d : Desk
  d = desk_of bearer.past

  abbrev row : Row
  row = row_now d own.read own.ready

  module _ (run : IsRunBy (Next None) (own ∷ bearer.past)) (stays : NoneLeft None (own ∷ bearer.past)) (was : AreMet s.disk bearer.past) where
    came_here : MayCome (due_at row d) own.came
    came_here = subst (λ (need : NeedData). MayCome need own.came) (sym run.1.0) run.1.1

    shows : (n : ℕ) → Shows row d own.came n
    shows n = subst (λ (got : GotData). Shows row d got n) (sym may.came) (started_shows row d n may.pid (subst (λ (got : GotData). MayCome (due_at row d) got) may.came came_here))

    removes_none : (n : ℕ) → Removes (desk_of (own ∷ bearer.past)).row n → ⊥
    removes_none n h = none_removed d own.read own.ready n own.came (λ text e. let bad : needs.Start may.asked ≡ needs.Give port.Clean text = sym may.starts ∙ sym run.1.0 ∙ e in cc) h

    bears_on : AreMet s.disk (own ∷ bearer.past)
    bears_on = record {
      met = λ n low high filed. stays_met own bearer.past run stays.1 n low high (shows n) (was.met n low high filed);
      gone = λ n removes. absurd (removes_none n removes);
    }

  bears_met : Met s.disk (record { program = bearer.program; past = own ∷ bearer.past; life = bearer.life })
  bears_met start is alive run stays = bears_on run stays (R parent bearer may.reads.is start is alive run.0 stays.0)

  bears_all : AllMet (acted s parent own 0 (Some bearer)).disk (acted s parent own 0 (Some bearer)).actors
  bears_all =
      subst (λ (need : NeedData). AllMet (disk_after s.disk own.read need own.came 0) (put_at s.actors parent (Some (record { program = bearer.program; past = own ∷ bearer.past; life = bearer.life })))) (sym may.starts)
      (put_met s.disk s.actors parent (record { program = bearer.program; past = own ∷ bearer.past; life = bearer.life }) (λ b y far is. R b y is) bears_met)

-- Any event

over_dead : (status : ℕ) → Over status ≡ Alive → ⊥
over_dead status e = cc

stopped_dead : Stopped ≡ Alive → ⊥
stopped_dead e = cc

cut_dead : (life : Life) → cut_off life ≡ Alive → ⊥
cut_dead Alive e = cc
cut_dead (Over status) e = cc
cut_dead Stopped e = cc

-- descriptors don't matter
with_opens : (d : Disk) (opens : ℕ → Option OpenFile) (actors : List ℕ → Option Actor) → AllMet d actors → AllMet (record { dirs = d.dirs; names = d.names; files = d.files; opens = opens }) actors
with_opens d opens actors R a x is start program alive run stays = let was = R a x is start program alive run stays in record { met = was.met; gone = was.gone }

ended : (s : State) → AllMet s.disk s.actors → (a : List ℕ) (life : Life) → (life ≡ Alive → ⊥) → (o : Option Actor) → AllMet (finished s a life o).disk (finished s a life o).actors
ended s R a life dead None = R
ended s R a life dead (Some y) = put_over (finished s a life (Some y)).disk s.actors a y life dead (with_opens s.disk (finished s a life (Some y)).disk.opens s.actors R)

halted_met : (d : Disk) (o : Option Actor) (x : Actor) → option_map stopped o ≡ Some x → Met d x
halted_met d None x is start program alive run stays = absurd (cc)
halted_met d (Some y) x is start program alive run stays = absurd (cut_dead y.life (ap (λ (z : Actor). z.life) (some_actor (stopped y) x is) ∙ alive))

event_met : (e : Event) (s : State) → Inv s → AllMet s.disk s.actors → Allowed s e → AllMet (happens s e).disk (happens s e).actors
event_met (Start a program) s I R may = put_new s.disk s.actors a program R
event_met (Act a own wrote) s I R may =
    subst (λ (o : Option Actor). AllMet (acted s a own wrote o).disk (acted s a own wrote o).actors) (sym may.reads.is) (acts s I R a own wrote may)
event_met (Child parent own a program) s I R may =
    let t : State = acted s parent own 0 (s.actors parent) in
    put_new t.disk t.actors a program
    (subst (λ (o : Option Actor). AllMet (acted s parent own 0 o).disk (acted s parent own 0 o).actors) (sym may.reads.is) (bears_all s R parent own a program may))
event_met (Generation (sender ∷ clean ∷ lspawn ∷ rspawn ∷ [])) s I R may =
    put_new s.disk _ _ rspawn (put_new s.disk _ _ lspawn (put_new s.disk _ _ clean (put_new s.disk s.actors _ sender R)))
event_met (Generation crew) s I R may = absurd (are_four crew may.kinds)
event_met (Report slot output) s I R may = R
event_met (End a read ready status) s I R may = ended s R a (Over status) (over_dead status) (s.actors a)
event_met (Stop a) s I R may = ended s R a Stopped stopped_dead (s.actors a)
event_met (Moment m) s I R may = R
event_met (Halt how contents) s I R may = λ a x is. halted_met (happens s (Halt how contents)).disk (s.actors a) x is

pub all_met : (d : Disk) → (h : List Event) → Legal d h → AllMet (after d h).disk (after d h).actors
all_met d [] legal = λ a x is. absurd (cc)
all_met d (e ∷ h) legal = event_met e (after d h) (always d h legal.0) (all_met d h legal.0) legal.1
