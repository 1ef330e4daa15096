-- Who runs in the slots of others, and which members are there, as events leave it.
use Rattle.std.specs.Prelude.{Contains}
use Rattle.std.proofs.Common.{◌≡◌, ◌≢◌, ◌⊎◌, inl, inr, ℕ, ◌==◌, List, [], ◌∷◌, Bool, true, false, Option, Some, None, refl, sym, ap, ◌∙◌, subst, arith, ⊎_elim, ◌&&◌, bytes_eq, codes, if◌then◌else◌}
use Rattle.std.proofs.lemmas.Bool.Decides.{eqb_tells}
use Rattle.call_fs.specs.Maps.{put_at}
use Rattle.call_fs.proofs.Maps.{put_at_cases}
use Rattle.call_fs.specs.declared.past.GotData.{GotData}
use Rattle.call_fs.specs.declared.past.GotData.TheVariants as got
use Rattle.call_fs.specs.declared.past.NeedData.{NeedData}
use Rattle.call_fs.specs.declared.past.NeedData.TheVariants as needs
use Rattle.call_fs.specs.declared.past.Own.{Own}
use Rattle.call_fs.specs.declared.program.Port.TheVariants as port
use Rattle.call_fs.specs.declared.program.Ready.{Ready}
use Rattle.queue_inject.specs.declared.injection.Arguments.{Arguments}
use Rattle.received_line.specs.declared.line.Invoked.TheVariants as invoking
use Rattle.local_deliver.specs.Table.{Next as DeliversNext}
use Rattle.send_core.specs.Table.{Next}
use Rattle.actor_names.specs.MailNames.{members}
use Rattle.queue_law.proofs.Tests.{text_cases}
use Rattle.world_pipes.specs.Pipework.{Pipework, Tenant}
use Rattle.world_pipes.specs.Pipework.Tenant.{Remote, Runs}
use Rattle.world_events.specs.declared.event.Program.{Program}
use Rattle.world_events.specs.declared.event.Program.TheVariants.{Delivery, Injector, LocalSpawner, Sender}
use Rattle.mail_world.specs.History.{Actor, IsFed, IsInputOf, IsSender, Life, MayRun, State}
use Rattle.mail_world.specs.History.Life.{Alive}
use Rattle.world_law.specs.Crew.{IsNamed, is_alive}
use Rattle.world_law.specs.Inv.{Bears, ChildBy, ChildrenFare, FedBy, HasSlot, IsChild, IsTenantOf, PastFed}

pub some_actor : (x y : Actor) → ◌≡◌ {A = Option Actor} (Some x) (Some y) → x ≡ y
some_actor x y e = cc

-- what runs in a slot that may have been freed ran there before
pub not_freed : (t : Bool) (o : Option Tenant) (x : Tenant) → (if t then None else o) ≡ Some x → o ≡ Some x
not_freed true o x is = absurd (cc)
not_freed false o x is = is

-- each actor that was there runs the same program
abbrev pub KeepsPrograms : (List ℕ → Option Actor) → (List ℕ → Option Actor) → Type 0
KeepsPrograms old new = (a : List ℕ) (x : Actor) → old a ≡ Some x → (y : Actor) × (new a ≡ Some y) × (y.program ≡ x.program)

-- with one that doesn't start alone each member is there
abbrev pub IsCrewed : (List ℕ → Option Actor) → Type 0
IsCrewed actors = (a : List ℕ) (x : Actor) → actors a ≡ Some x → (MayRun x.program → ⊥) → (m : List ℕ) → Contains members m → actors m ≡ None → ⊥

-- the slot of each actor that was there is the same
abbrev pub KeepsSlots : State → State → Type 0
KeepsSlots s t = (a : List ℕ) (x : Actor) → s.actors a ≡ Some x → t.pipework.slots a ≡ s.pipework.slots a

-- who runs in a slot, runs there
module _ (s t : State) (keeps : KeepsPrograms s.actors t.actors) (slots : KeepsSlots s t) where
  stays : (a : List ℕ) (d : ℕ) (b : List ℕ) → IsChild s a d b → IsChild t a d b
  stays a d b h =
      let p = keeps a h.bearer h.bearer_is in
      let w = keeps b h.actor h.is in
      record {
        bearer = p.0;
        bearer_is = p.1;
        actor = w.0;
        is = w.1;
        bears = subst (λ (x : Program). Bears x w.0.program) (sym p.2) (subst (λ (x : Program). Bears h.bearer.program x) (sym w.2) h.bears);
        has = subst (λ (x : Program). HasSlot x d) (sym p.2) h.has;
        back = slots b h.actor h.is ∙ h.back;
        apart = h.apart;
      }

  pub tenant_kept : (a : List ℕ) (d : ℕ) (u : Tenant) → IsTenantOf s a d u → IsTenantOf t a d u
  tenant_kept a d (Runs b) h = stays a d b h
  tenant_kept a d (Remote reported) h = h

-- The injector of a bounce, which runs in the first slot of a sender.
pub record IsBouncer (s : State) (slot : ℕ) (a : List ℕ) : Type 0 where
  pub slot_is : slot ≡ 0
  pub actor : Actor
  pub is : s.actors a ≡ Some actor
  pub args : Arguments
  pub program_is : actor.program ≡ Injector args
  pub invoked : args.invoked ≡ invoking.Bounce

-- who has started an actor under the sender's name is a sender
bearer_sends : (a : List ℕ) (program other : Program) → a ≡ codes "sender" → IsNamed a program → Bears program other → IsSender program
bearer_sends a (Sender since) other is named bears = tt
bearer_sends a (LocalSpawner since) other is named bears = let v : true ≡ false = ap (λ (t : List ℕ). bytes_eq (codes "sender") t) (sym is ∙ named) in absurd (cc)
bearer_sends a (Delivery start args) other is named bears = absurd (named (subst (λ (n : List ℕ). Contains members n) (sym is) (0, omega arith, refl)))
bearer_sends a program other is named bears = absurd bears

bouncer_by : (s : State) (slot : ℕ) (a : List ℕ) (actor : Actor) → s.actors a ≡ Some actor → (program other : Program) → IsSender program → actor.program ≡ other → Bears program other
    → HasSlot program slot → IsBouncer s slot a
bouncer_by s slot a actor is (Sender since) (Injector args) it same bears has = record { slot_is = has; actor = actor; is = is; args = args; program_is = same; invoked = bears }
bouncer_by s slot a actor is (Sender since) other it same bears has = absurd bears
bouncer_by s slot a actor is program other it same bears has = absurd it

pub is_bouncer : (s : State) (parent : List ℕ) (slot : ℕ) (a : List ℕ) → parent ≡ codes "sender" → (h : IsChild s parent slot a) → IsNamed parent h.bearer.program → IsBouncer s slot a
is_bouncer s parent slot a sender h named =
    bouncer_by s slot a h.actor h.is h.bearer.program h.actor.program (bearer_sends parent h.bearer.program h.actor.program sender named h.bears) refl h.bears h.has

-- no member runs in a slot, so not the cleaner
pub tenant_other : (s : State) → ((a : List ℕ) (d : ℕ) (u : Tenant) → s.pipework.programs a d ≡ Some u → IsTenantOf s a d u)
    → (a : List ℕ) (d : ℕ) (b : List ℕ) → s.pipework.programs a d ≡ Some (Runs b) → b ≢ codes "clean"
tenant_other s tenants a d b e same = (tenants a d (Runs b) e).apart (subst (λ (n : List ℕ). Contains members n) (sym same) (1, omega arith, refl))

-- nobody runs in a slot of an actor who didn't, but for remote programs of the remote spawner
abbrev pub RunsNoMoreOf : Pipework → Pipework → List ℕ → Type 0
RunsNoMoreOf v w a = (d : ℕ) (t : Tenant) → w.programs a d ≡ Some t → (v.programs a d ≡ Some t) ⊎ ((reported : Bool) × (t ≡ Remote reported) × (a ≡ codes "rspawn"))

-- nor of any
abbrev pub RunsNoMore : Pipework → Pipework → Type 0
RunsNoMore v w = (a : List ℕ) → RunsNoMoreOf v w a

pub tenants_kept : (s t : State) → KeepsPrograms s.actors t.actors → KeepsSlots s t → RunsNoMore s.pipework t.pipework
    → ((a : List ℕ) (d : ℕ) (u : Tenant) → s.pipework.programs a d ≡ Some u → IsTenantOf s a d u)
    → (a : List ℕ) (d : ℕ) (u : Tenant) → t.pipework.programs a d ≡ Some u → IsTenantOf t a d u
tenants_kept s t keeps slots no_more tenants a d u is = ⊎_elim
    (λ (there : s.pipework.programs a d ≡ Some u). tenant_kept s t keeps slots a d u (tenants a d u there))
    (λ (far : (reported : Bool) × (u ≡ Remote reported) × (a ≡ codes "rspawn")). subst (λ (z : Tenant). IsTenantOf t a d z) (sym far.1) far.2)
    (no_more a d u is)

-- one slot is freed, or a remote program is in it
pub slot_put : (t : Bool) (a : List ℕ) (o n : Option Tenant) (u : Tenant) → (t ≡ true → (n ≡ None) ⊎ ((reported : Bool) × (n ≡ Some (Remote reported)) × (a ≡ codes "rspawn")))
    → (if t then n else o) ≡ Some u → (o ≡ Some u) ⊎ ((reported : Bool) × (u ≡ Remote reported) × (a ≡ codes "rspawn"))
slot_put true a o n u what is = ⊎_elim
    (λ (none : n ≡ None). let v : ◌≡◌ {A = Option Tenant} None (Some u) = sym none ∙ is in absurd (cc))
    (λ (far : (reported : Bool) × (n ≡ Some (Remote reported)) × (a ≡ codes "rspawn")).
    let v : ◌≡◌ {A = Option Tenant} (Some (Remote far.0)) (Some u) = sym far.1 ∙ is in inr (far.0, cc, far.2))
    (what refl)
slot_put false a o n u what is = inl is

number_cases : (d e : ℕ) → ((d ≡ e) × ((d == e) ≡ true)) ⊎ ((d ≢ e) × ((d == e) ≡ false))
number_cases d e = ⊎_elim
    (λ (w : ((d == e) ≡ true) × (d ≡ e)). inl (w.1, w.0))
    (λ w. inr ((λ same. w.1 same), w.0))
    (eqb_tells d e)

and_false : (t : Bool) → (t && false) ≡ false
and_false true = refl
and_false false = refl

-- a slot of this actor
pub slot_named : (a b : List ℕ) (t : Bool) → (bytes_eq a b && t) ≡ true → a ≡ b
slot_named a b t both = ⊎_elim
    (λ (same : (a ≡ b) × (bytes_eq a b ≡ true)). same.0)
    (λ (other : (a ≢ b) × (bytes_eq a b ≡ false)). let v : false ≡ true = sym (ap (λ (u : Bool). u && t) other.1) ∙ both in absurd (cc))
    (text_cases a b)

pub slot_numbered : (a b : List ℕ) (d e : ℕ) → (bytes_eq a b && (d == e)) ≡ true → d ≡ e
slot_numbered a b d e both = ⊎_elim
    (λ (same : (d ≡ e) × ((d == e) ≡ true)). same.0)
    (λ (other : (d ≢ e) × ((d == e) ≡ false)).
    let v : false ≡ true = sym (and_false (bytes_eq a b)) ∙ (sym (ap (λ (u : Bool). bytes_eq a b && u) other.1) ∙ both) in absurd (cc))
    (number_cases d e)

-- one that was there runs the same program, and one that is new starts alone
abbrev pub GoesOn : Option Actor → Program → Type 0
GoesOn None program = MayRun program
GoesOn (Some x) program = x.program ≡ program

was_before : (o : Option Actor) (program : Program) → GoesOn o program → (MayRun program → ⊥) → (z : Actor) × (o ≡ Some z) × (MayRun z.program → ⊥)
was_before None program goes it = absurd (it goes)
was_before (Some x) program goes it = (x, refl, λ runs. it (subst MayRun goes runs))

-- who isn't there then wasn't there
pub put_none : (actors : List ℕ → Option Actor) (a : List ℕ) (y : Actor) (o : List ℕ) → put_at actors a (Some y) o ≡ None → actors o ≡ None
put_none actors a y o gone = ⊎_elim
    (λ (c : (o ≡ a) × (put_at actors a (Some y) o ≡ Some y)). let some : ◌≡◌ {A = Option Actor} (Some y) None = sym c.1 ∙ gone in absurd (cc))
    (λ (c : (o ≢ a) × (put_at actors a (Some y) o ≡ actors o)). sym c.1 ∙ gone)
    (put_at_cases actors a (Some y) o)

-- One actor is another one
module _ (actors : List ℕ → Option Actor) (a : List ℕ) (y : Actor) (goes : GoesOn (actors a) y.program) where
  abbrev then_actors : List ℕ → Option Actor
  then_actors = put_at actors a (Some y)

  pub one_keeps : KeepsPrograms actors (put_at actors a (Some y))
  one_keeps o x is = ⊎_elim
      (λ (c : (o ≡ a) × (then_actors o ≡ Some y)).
      let same : GoesOn (Some x) y.program = subst (λ (w : Option Actor). GoesOn w y.program) (sym (ap actors c.0) ∙ is) goes in
      (y, c.1, sym same))
      (λ (c : (o ≢ a) × (then_actors o ≡ actors o)). (x, c.1 ∙ is, refl))
      (put_at_cases actors a (Some y) o)

  was_there : (o : List ℕ) (x : Actor) → then_actors o ≡ Some x → (MayRun x.program → ⊥) → (z : Actor) × (actors o ≡ Some z) × (MayRun z.program → ⊥)
  was_there o x there it = ⊎_elim
      (λ (c : (o ≡ a) × (then_actors o ≡ Some y)).
      let same : y ≡ x = some_actor y x (sym c.1 ∙ there) in
      let w = was_before (actors a) y.program goes (subst (λ (z : Actor). MayRun z.program → ⊥) (sym same) it) in
      (w.0, ap actors c.0 ∙ w.1, w.2))
      (λ (c : (o ≢ a) × (then_actors o ≡ actors o)). (x, sym c.1 ∙ there, it))
      (put_at_cases actors a (Some y) o)

  pub one_crewed : IsCrewed actors → IsCrewed (put_at actors a (Some y))
  one_crewed crewed o x there it m member gone = let w = was_there o x there it in crewed o w.0 w.1 w.2 m member (put_none actors a y m gone)

-- one that is new changes no other
pub new_keeps : (actors : List ℕ → Option Actor) (a : List ℕ) (y : Actor) → actors a ≡ None → KeepsPrograms actors (put_at actors a (Some y))
new_keeps actors a y new o x is = ⊎_elim
    (λ (c : (o ≡ a) × (put_at actors a (Some y) o ≡ Some y)). let none : ◌≡◌ {A = Option Actor} None (Some x) = sym new ∙ ap actors (sym c.0) ∙ is in absurd (cc))
    (λ (c : (o ≢ a) × (put_at actors a (Some y) o ≡ actors o)). (x, c.1 ∙ is, refl))
    (put_at_cases actors a (Some y) o)

-- What an actor gave to its child

-- each actor that is no member and was there runs the same program
abbrev pub KeepsChildren : (List ℕ → Option Actor) → (List ℕ → Option Actor) → Type 0
KeepsChildren old new = (a : List ℕ) (x : Actor) → (Contains members a → ⊥) → old a ≡ Some x → (y : Actor) × (new a ≡ Some y) × (y.program ≡ x.program)

-- whoever runs in a slot of this actor has the input that he had
module _ (s t : State) (keeps : KeepsChildren s.actors t.actors) (tenants : (a : List ℕ) (d : ℕ) (u : Tenant) → s.pipework.programs a d ≡ Some u → IsTenantOf s a d u)
    (a : List ℕ) (no_more : RunsNoMoreOf s.pipework t.pipework a) where
  fed_by : (d : ℕ) (input : List ℕ) → IsFed s (s.pipework.programs a d) input → (o : Option Tenant) → t.pipework.programs a d ≡ o → IsFed t o input
  fed_by d input fed None e = tt
  fed_by d input fed (Some (Remote reported)) e = tt
  fed_by d input fed (Some (Runs b)) e = λ x is. ⊎_elim
      (λ (there : s.pipework.programs a d ≡ Some (Runs b)).
      let was : (z : Actor) → s.actors b ≡ Some z → IsInputOf z.program input = subst (λ (o : Option Tenant). IsFed s o input) there fed in
      let w : IsChild s a d b = tenants a d (Runs b) there in
      let k = keeps b w.actor w.apart w.is in
      let same : k.0 ≡ x = some_actor k.0 x (sym k.1 ∙ is) in
      subst (λ (p : Program). IsInputOf p input) (sym k.2 ∙ ap (λ (z : Actor). z.program) same) (was w.actor w.is))
      (λ (far : (reported : Bool) × (Runs b ≡ Remote reported) × (a ≡ codes "rspawn")). let v = far.1 in absurd (cc))
      (no_more d (Runs b) e)

  came_kept_of : (due : NeedData) (came : GotData) → FedBy s a due came → FedBy t a due came
  came_kept_of (needs.Give (port.Program d) bytes) got.Gave h = fed_by d bytes h (t.pipework.programs a d) refl
  came_kept_of due came h = tt

  past_kept : (next : List Own → ℕ → Ready → NeedData) (past : List Own) → PastFed s a next past → PastFed t a next past
  past_kept next [] h = tt
  past_kept next (own ∷ before) h = came_kept_of (next before own.read own.ready) own.came h

  pub child_kept_of : (program : Program) (past : List Own) (life : Life) → ChildBy s a program past life → ChildBy t a program past life
  child_kept_of (Sender began) past Alive h = past_kept (Next None) past h
  child_kept_of (Delivery began args) past Alive h = past_kept (DeliversNext args) past h
  child_kept_of program past life h = tt

module _ (s t : State) (keeps : KeepsPrograms s.actors t.actors) (no_more : RunsNoMore s.pipework t.pipework)
    (tenants : (a : List ℕ) (d : ℕ) (u : Tenant) → s.pipework.programs a d ≡ Some u → IsTenantOf s a d u) where
  pub came_kept : (a : List ℕ) (due : NeedData) (came : GotData) → FedBy s a due came → FedBy t a due came
  came_kept a due came h = came_kept_of s t (λ b x apart. keeps b x) tenants a (no_more a) due came h

  pub child_kept : (a : List ℕ) (program : Program) (past : List Own) (life : Life) → ChildBy s a program past life → ChildBy t a program past life
  child_kept a program past life h = child_kept_of s t (λ b x apart. keeps b x) tenants a (no_more a) program past life h

  pub one_child : (a : List ℕ) (y : Actor) → ChildBy t a y.program y.past y.life → ChildrenFare s
      → (o : List ℕ) (x : Actor) → put_at s.actors a (Some y) o ≡ Some x → ChildBy t o x.program x.past x.life
  one_child a y own before o x is = ⊎_elim
      (λ (c : (o ≡ a) × (put_at s.actors a (Some y) o ≡ Some y)).
      let same : y ≡ x = some_actor y x (sym c.1 ∙ is) in
      subst (λ (b : List ℕ). ChildBy t b x.program x.past x.life) (sym c.0) (subst (λ (z : Actor). ChildBy t a z.program z.past z.life) same own))
      (λ (c : (o ≢ a) × (put_at s.actors a (Some y) o ≡ s.actors o)). child_kept o x.program x.past x.life (before o x (sym c.1 ∙ is)))
      (put_at_cases s.actors a (Some y) o)

-- one that has just started has given nothing, and one that is over gives nothing more
pub new_child : (t : State) (a : List ℕ) (program : Program) → ChildBy t a program [] Alive
new_child t a (Sender began) = tt
new_child t a (Delivery began args) = tt
new_child t a program = tt

pub dead_child : (t : State) (a : List ℕ) (program : Program) (past : List Own) (life : Life) → is_alive life ≡ false → ChildBy t a program past life
dead_child t a (Sender began) past Alive dead = absurd (cc)
dead_child t a (Delivery began args) past Alive dead = absurd (cc)
dead_child t a program past life dead = tt
