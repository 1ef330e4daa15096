-- What holds of each living sender's past and of the disk, as its own events and those of others keep it, in a history whose events are such ones.
use Rattle.std.proofs.Common.{◌≡◌, ◌≢◌, ⊎_elim, ℕ, List, [], ◌∷◌, Bool, true, Option, Some, None, refl, sym, ap, ◌∙◌, subst}
use Rattle.std.specs.Prelude.{codes, option_map}
use Rattle.std.specs.List.{list_all}
use Rattle.std.proofs.lemmas.Bool.{and_parts}
use Rattle.call_fs.proofs.Maps.{put_at_cases}
use Rattle.call_fs.specs.Disk.{Disk}
use Rattle.call_fs.specs.Maps.{put_at}
use Rattle.call_fs.specs.Past.{IsRunBy}
use Rattle.call_fs.specs.declared.past.NeedData.{NeedData}
use Rattle.call_fs.specs.declared.past.Own.{Own}
use Rattle.send_core.specs.Table.{Next}
use Rattle.world_events.specs.declared.event.Program.TheVariants.{Sender}
use Rattle.world_events.specs.declared.event.Program.{Program}
use Rattle.mail_world.proofs.Members.{are_four}
use Rattle.mail_world.specs.History.Event.{Start, Act, Child, Generation, Report, End, Stop, Moment, Halt}
use Rattle.mail_world.specs.History.Life.{Alive, Over, Stopped}
use Rattle.mail_world.specs.History.{Actor, Allowed, Event, IsSender, Legal, Life, MayBear, MayDo, State, acted, after, cut_off, disk_after, finished, happens, newborn, stopped}
use Rattle.world_law.proofs.Histories.{always}
use Rattle.world_law.proofs.Tenants.{some_actor}
use Rattle.world_law.specs.Crew.{IsNamed}
use Rattle.world_law.specs.Inv.{Inv}
use Rattle.settle_law.proofs.Concerns.{LeavesItsOwn}
use Rattle.settle_law.proofs.OthersInfos.{later_left}

over_dead : (status : ℕ) → Over status ≡ Alive → ⊥
over_dead status e = cc

stopped_dead : Stopped ≡ Alive → ⊥
stopped_dead e = cc

cut_dead : (life : Life) → cut_off life ≡ Alive → ⊥
cut_dead Alive e = cc
cut_dead (Over status) e = cc
cut_dead Stopped e = cc

module _ (ok : Event → Bool) (P : Disk → List Own → Type 0) (none : (d : Disk) → P d [])
    (does : (s : State) (I : Inv s) (a : List ℕ) (own : Own) (wrote : ℕ) (may : MayDo s a own wrote) (start : ℕ) → may.actor.program ≡ Sender start → ok (Act a own wrote) ≡ true
    → IsRunBy (Next None) (own ∷ may.actor.past) → P s.disk may.actor.past → P (disk_after s.disk own.read own.due own.came wrote) (own ∷ may.actor.past))
    (bears : (s : State) (a : List ℕ) (own : Own) (b : List ℕ) (program : Program) (may : MayBear s a own b program) (start : ℕ) → may.actor.program ≡ Sender start
    → IsRunBy (Next None) (own ∷ may.actor.past) → P s.disk may.actor.past → P s.disk (own ∷ may.actor.past))
    (others : (d e : Disk) (past : List Own) → LeavesItsOwn d e past → P d past → P e past) where
  abbrev Holds : Disk → Actor → Type 0
  Holds d x = (start : ℕ) → x.program ≡ Sender start → x.life ≡ Alive → IsRunBy (Next None) x.past → P d x.past

  abbrev pub AllHold : Disk → (List ℕ → Option Actor) → Type 0
  AllHold d actors = (a : List ℕ) (x : Actor) → actors a ≡ Some x → Holds d x

  put_held : (e : Disk) (actors : List ℕ → Option Actor) (a : List ℕ) (y : Actor) → ((b : List ℕ) (x : Actor) → b ≢ a → actors b ≡ Some x → Holds e x) → Holds e y → AllHold e (put_at actors a (Some y))
  put_held e actors a y far new b x is = ⊎_elim
      (λ (c : (b ≡ a) × (put_at actors a (Some y) b ≡ Some y)). subst (Holds e) (some_actor y x (sym c.1 ∙ is)) new)
      (λ (c : (b ≢ a) × (put_at actors a (Some y) b ≡ actors b)). far b x c.0 (sym c.1 ∙ is))
      (put_at_cases actors a (Some y) b)

  put_new : (d : Disk) (actors : List ℕ → Option Actor) (a : List ℕ) (program : Program) → AllHold d actors → AllHold d (put_at actors a (Some (newborn program)))
  put_new d actors a program R = put_held d actors a (newborn program) (λ b x far is. R b x is) (λ start e alive run. none d)

  put_over : (d : Disk) (actors : List ℕ → Option Actor) (a : List ℕ) (x : Actor) (life : Life) → (life ≡ Alive → ⊥) → AllHold d actors
      → AllHold d (put_at actors a (Some (record { program = x.program; past = x.past; life = life })))
  put_over d actors a x life dead R = put_held d actors a (record { program = x.program; past = x.past; life = life }) (λ b y far is. R b y is) (λ start e alive run. absurd (dead alive))

  -- An event of an actor

  module _ (s : State) (I : Inv s) (R : AllHold s.disk s.actors) (a : List ℕ) (own : Own) (wrote : ℕ) (may : MayDo s a own wrote) (good : ok (Act a own wrote) ≡ true) where
    abbrev x : Actor
    x = may.actor

    abbrev e : Disk
    e = disk_after s.disk own.read own.due own.came wrote

    -- another sender lives: then its event is no sender's
    others_by : (p : Program) → x.program ≡ p → (b : List ℕ) (y : Actor) → b ≢ a → s.actors b ≡ Some y → Holds e y
    others_by (Sender since) e_is b y far is start program alive run =
        let mine : a ≡ codes "sender" = subst (IsNamed a) e_is (I.crew a x may.reads.is) in
        let other : b ≡ codes "sender" = subst (IsNamed b) program (I.crew b y is) in
        absurd (far (other ∙ sym mine))
    others_by p e_is b y far is start program alive run =
        let other : b ≡ codes "sender" = subst (IsNamed b) program (I.crew b y is) in
        others s.disk e y.past (later_left s I a own wrote may (λ h. subst IsSender e_is h) y start (ap s.actors (sym other) ∙ is) program alive) (R b y is start program alive run)

    own_held : Holds e (record { program = x.program; past = own ∷ x.past; life = x.life })
    own_held start program alive run = does s I a own wrote may start program good run (R a x may.reads.is start program alive run.0)

    acts_held : AllHold (acted s a own wrote (Some x)).disk (acted s a own wrote (Some x)).actors
    acts_held = put_held e s.actors a (record { program = x.program; past = own ∷ x.past; life = x.life }) (others_by x.program refl) own_held

  module _ (s : State) (R : AllHold s.disk s.actors) (parent : List ℕ) (own : Own) (a : List ℕ) (program : Program) (may : MayBear s parent own a program) where
    abbrev bearer : Actor
    bearer = may.actor

    abbrev older : Actor
    older = record { program = bearer.program; past = own ∷ bearer.past; life = bearer.life }

    bears_held : AllHold (acted s parent own 0 (Some bearer)).disk (acted s parent own 0 (Some bearer)).actors
    bears_held =
        subst (λ (need : NeedData). AllHold (disk_after s.disk own.read need own.came 0) (put_at s.actors parent (Some older))) (sym may.starts)
        (put_held s.disk s.actors parent older (λ b y far is. R b y is)
        (λ start is alive run. bears s parent own a program may start is run (R parent bearer may.reads.is start is alive run.0)))

  -- Any event

  -- the descriptors of who ended are shut
  shut_held : (d e : Disk) (actors : List ℕ → Option Actor) → ((past : List Own) → LeavesItsOwn d e past) → AllHold d actors → AllHold e actors
  shut_held d e actors left R a x is start program alive run = others d e x.past (left x.past) (R a x is start program alive run)

  ended : (s : State) → AllHold s.disk s.actors → (a : List ℕ) (life : Life) → (life ≡ Alive → ⊥) → (o : Option Actor) → AllHold (finished s a life o).disk (finished s a life o).actors
  ended s R a life dead None = R
  ended s R a life dead (Some y) =
      let e : Disk = (finished s a life (Some y)).disk in put_over e s.actors a y life dead (shut_held s.disk e s.actors (λ past part n later concerns. refl) R)

  halted : (d : Disk) (o : Option Actor) (x : Actor) → option_map stopped o ≡ Some x → Holds d x
  halted d None x is start program alive run = absurd (cc)
  halted d (Some y) x is start program alive run = absurd (cut_dead y.life (ap (λ (z : Actor). z.life) (some_actor (stopped y) x is) ∙ alive))

  event_held : (e : Event) (s : State) → Inv s → AllHold s.disk s.actors → ok e ≡ true → Allowed s e → AllHold (happens s e).disk (happens s e).actors
  event_held (Start a program) s I R good may = put_new s.disk s.actors a program R
  event_held (Act a own wrote) s I R good may =
      subst (λ (o : Option Actor). AllHold (acted s a own wrote o).disk (acted s a own wrote o).actors) (sym may.reads.is) (acts_held s I R a own wrote may good)
  event_held (Child parent own a program) s I R good may =
      let t : State = acted s parent own 0 (s.actors parent) in
      put_new t.disk t.actors a program
      (subst (λ (o : Option Actor). AllHold (acted s parent own 0 o).disk (acted s parent own 0 o).actors) (sym may.reads.is) (bears_held s R parent own a program may))
  event_held (Generation (sender ∷ clean ∷ lspawn ∷ rspawn ∷ [])) s I R good may =
      put_new s.disk _ _ rspawn (put_new s.disk _ _ lspawn (put_new s.disk _ _ clean (put_new s.disk s.actors _ sender R)))
  event_held (Generation crew) s I R good may = absurd (are_four crew may.kinds)
  event_held (Report slot output) s I R good may = R
  event_held (End a read ready status) s I R good may = ended s R a (Over status) (over_dead status) (s.actors a)
  event_held (Stop a) s I R good may = ended s R a Stopped stopped_dead (s.actors a)
  event_held (Moment m) s I R good may = R
  event_held (Halt how contents) s I R good may = λ a x is. halted (happens s (Halt how contents)).disk (s.actors a) x is

  pub all_held : (d : Disk) → (h : List Event) → Legal d h → list_all ok h ≡ true → AllHold (after d h).disk (after d h).actors
  all_held d [] legal good = λ a x is. absurd (cc)
  all_held d (e ∷ h) legal good =
      let parts = and_parts (ok e) (list_all ok h) good in
      event_held e (after d h) (always d h legal.0) (all_held d h legal.0 parts.1) parts.0 legal.1
