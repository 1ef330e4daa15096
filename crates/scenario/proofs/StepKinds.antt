-- What a step of a living actor is: a call, its end, a taking, a giving, or the start of a child.
use Rattle.std.proofs.Common.{◌≡◌, ℕ, List, ◌++◌, Option, Some, None, refl, sym, ap, ◌∙◌, subst}
use Rattle.call_fs.specs.declared.calls.CallData.{CallData}
use Rattle.call_fs.specs.declared.calls.Told.{Told}
use Rattle.call_fs.specs.declared.past.ChildData.{ChildData}
use Rattle.call_fs.specs.declared.past.ChildData.TheVariants as child
use Rattle.call_fs.specs.declared.past.GotData.{GotData}
use Rattle.call_fs.specs.declared.past.GotData.TheVariants.{Gave, Started}
use Rattle.call_fs.specs.declared.past.NeedData.{NeedData}
use Rattle.call_fs.specs.declared.past.NeedData.TheVariants as needs
use Rattle.call_fs.specs.declared.program.Port.TheVariants as port
use Rattle.call_fs.specs.Disk.{Disk}
use Rattle.world_events.specs.Children.{Counts, child_of}
use Rattle.queue_inject.specs.declared.injection.Arguments.{Arguments}
use Rattle.world_events.specs.declared.event.Program.{Program}
use Rattle.world_events.specs.declared.event.Program.TheVariants.{Injector}
use Rattle.mail_world.specs.History.{call_act, netstring, Actor, Life, State, next_of, program_of}
use Rattle.mail_world.specs.History.Event.{Act, Child, End}
use Rattle.mail_world.specs.History.Life.{Alive, Over, Stopped}
use Rattle.mail_world.specs.Inside.{IsBirth}
use Rattle.mail_world.specs.Readiness.{found_in}
use Rattle.mail_world.specs.ByKind.{IsMail}
use Rattle.mail_world.specs.Pipework.{Tenant}
use Rattle.mail_world.specs.Pipework.Tenant.{Runs, Remote}
use Rattle.mail_world.proofs.Anew.{no_tenant, remote_tenant}
use Rattle.scenario.specs.Deeds.{Deed, next_pid, counts_in, after}
use Rattle.scenario.specs.Deeds.Deed.{Came, Fed}
use Rattle.scenario.specs.Steps.{Gives, GivesTo, DoesNext, DoesAlive, DoesStep, StepsTo, comes, own_by, event_by, does}
use Rattle.scenario.specs.Steps.Outcome.{Happens}
use Rattle.crash_fs.specs.Answers.{Answers}
use Rattle.call_fs.specs.Plan.{Plan}

-- a call with an answer
abbrev pub HasCalled : Plan → State → List ℕ → Actor → Deed → Type 0
HasCalled plan s a x deed =
    (c : CallData) × (got : Told) × (next_of x.program x.past s.now (found_in s a) ≡ needs.File c)
    × Answers plan s.disk c got × (deed ≡ Came (call_act a s.now (found_in s a) c got 0))

-- its end
abbrev pub HasEnded : State → List ℕ → Actor → Deed → Type 0
HasEnded s a x deed =
    (status : ℕ) × (next_of x.program x.past s.now (found_in s a) ≡ needs.Ended status)
    × (deed ≡ Came (End a s.now (found_in s a) status))

abbrev pub IsNoFile : NeedData → Type 0
IsNoFile (needs.File call) = ⊥
IsNoFile other = Unit {0}

-- what is given to a slot is given to no injector
abbrev pub GivesNoMail : State → List ℕ → NeedData → Type 0
GivesNoMail s a (needs.Give (port.Program d) bytes) = (c : List ℕ) (x : Actor) → s.pipework.programs a d ≡ Some (Runs c) → s.actors c ≡ Some x → IsMail x.program → ⊥
GivesNoMail s a due = Unit {0}

-- this starts no child
abbrev pub BearsNone : NeedData → Type 0
BearsNone (needs.Start (child.Remote slot domain sender recipient)) = Unit {0}
BearsNone (needs.Start asked) = ⊥
BearsNone due = Unit {0}

pub no_birth : (due : NeedData) (came : GotData) → BearsNone due → IsBirth due came → ⊥
no_birth (needs.Start (child.Bounce room)) came none birth = none
no_birth (needs.Start (child.Forward uid room)) came none birth = none
no_birth (needs.Start (child.Local slot words uid)) came none birth = none
no_birth due came none birth = birth

-- what comes of a taking, of a giving to no injector, or of the start of a remote program
pub record HasPassed (s : State) (pid : ℕ) (a : List ℕ) (x : Actor) (deed : Deed) : Type 0 where
  pub due : NeedData
  pub came : GotData
  pub no_file : IsNoFile due
  pub next : next_of x.program x.past s.now (found_in s a) ≡ due
  pub comes_so : comes s pid a x.program due ≡ Some came
  pub none : BearsNone due
  pub no_mail : GivesNoMail s a due
  pub is : deed ≡ Came (Act a (own_by s a due came) 0)

-- the start of a child
pub record HasBorne (s : State) (pid : ℕ) (n : Counts) (a : List ℕ) (x : Actor) (deed : Deed) : Type 0 where
  pub asked : ChildData
  pub next : next_of x.program x.past s.now (found_in s a) ≡ needs.Start asked
  pub child : List ℕ × Program
  pub of : child_of n a asked pid s.now ≡ Some child
  pub is : deed ≡ Came (Child a (own_by s a (needs.Start asked) (Started pid)) child.0 child.1)

-- the whole input of an injector
pub record HasFed (s : State) (a : List ℕ) (x : Actor) (deed : Deed) : Type 0 where
  pub slot : ℕ
  pub child : List ℕ
  pub message : List ℕ
  pub envelope : List ℕ
  pub args : Arguments
  pub next : next_of x.program x.past s.now (found_in s a) ≡ needs.Give (port.Program slot) (netstring message ++ netstring envelope)
  pub runs : s.pipework.programs a slot ≡ Some (Runs child)
  pub mail : program_of (s.actors child) ≡ Some (Injector args)
  pub is : deed ≡ Fed a (own_by s a (needs.Give (port.Program slot) (netstring message ++ netstring envelope)) Gave) child message envelope

pub data HasDone (plan : Plan) (s : State) (pid : ℕ) (n : Counts) (a : List ℕ) (x : Actor) (deed : Deed) : Type 0 where
  Calls : HasCalled plan s a x deed → HasDone plan s pid n a x deed
  Finishes : HasEnded s a x deed → HasDone plan s pid n a x deed
  Passes : HasPassed s pid a x deed → HasDone plan s pid n a x deed
  Bears : HasBorne s pid n a x deed → HasDone plan s pid n a x deed
  Feeds : HasFed s a x deed → HasDone plan s pid n a x deed

pub record HasStepped (plan : Plan) (s : State) (pid : ℕ) (n : Counts) (a : List ℕ) (deed : Deed) : Type 0 where
  pub actor : Actor
  pub is : s.actors a ≡ Some actor
  pub alive : actor.life ≡ Alive
  pub did : HasDone plan s pid n a actor deed

same_deed : (e f : Deed) → Happens e ≡ Happens f → e ≡ f
same_deed e f h = cc

passed : (s : State) (n : Counts) (a : List ℕ) (due : NeedData) (c : Option GotData) (deed : Deed) → Happens deed ≡ does s n a due c
    → (came : GotData) × (c ≡ Some came) × (deed ≡ Came (event_by n a (own_by s a due came) due came))
passed s n a due None deed h = absurd (cc)
passed s n a due (Some came) deed h = (came, refl, same_deed deed (Came (event_by n a (own_by s a due came) due came)) h)

by_program : (p q : Program) → (IsMail p → ⊥) → Some p ≡ Some q → IsMail q → ⊥
by_program p q never e mail = let same : q ≡ p = cc in never (subst IsMail same mail)

module _ (plan : Plan) (s : State) (pid : ℕ) (n : Counts) (a : List ℕ) (x : Actor) (deed : Deed) where
  abbrev Done : Type 0
  Done = HasDone plan s pid n a x deed

  abbrev IsNext : NeedData → Type 0
  IsNext due = next_of x.program x.past s.now (found_in s a) ≡ due

  passes : (due : NeedData) → IsNoFile due → BearsNone due → GivesNoMail s a due → ((came : GotData) → event_by n a (own_by s a due came) due came ≡ Act a (own_by s a due came) 0) → IsNext due
      → Happens deed ≡ does s n a due (comes s pid a x.program due) → Done
  passes due unfiled none no_mail acts next h =
      let p = passed s n a due (comes s pid a x.program due) deed h in
      Passes (record {
        due = due;
        came = p.0;
        no_file = unfiled;
        next = next;
        comes_so = p.1;
        none = none;
        no_mail = no_mail;
        is = p.2 ∙ ap Came (acts p.0);
      })

  -- what is given to no injector
  gives_on : (d : ℕ) (bytes : List ℕ) → GivesNoMail s a (needs.Give (port.Program d) bytes) → IsNext (needs.Give (port.Program d) bytes)
      → Happens deed ≡ Happens (Came (Act a (own_by s a (needs.Give (port.Program d) bytes) Gave) 0)) → Done
  gives_on d bytes no_mail next h =
      Passes (record {
        due = needs.Give (port.Program d) bytes;
        came = Gave;
        no_file = tt;
        next = next;
        comes_so = refl;
        none = tt;
        no_mail = no_mail;
        is = same_deed deed (Came (Act a (own_by s a (needs.Give (port.Program d) bytes) Gave) 0)) h;
      })

  -- in that slot runs who has this program
  runs_so : (d : ℕ) (c : List ℕ) (o : Option Program) → s.pipework.programs a d ≡ Some (Runs c) → program_of (s.actors c) ≡ o → ((program : Program) → o ≡ Some program → IsMail program → ⊥)
      → (e : List ℕ) (y : Actor) → s.pipework.programs a d ≡ Some (Runs e) → s.actors e ≡ Some y → IsMail y.program → ⊥
  runs_so d c o is of never e y runs there mail =
      let one : ◌≡◌ {A = Option Tenant} (Some (Runs c)) (Some (Runs e)) = sym is ∙ runs in
      let same : c ≡ e = cc in
      never y.program (sym of ∙ ap (λ (q : List ℕ). program_of (s.actors q)) same ∙ ap program_of there) mail

  to_actor : (d : ℕ) (bytes c : List ℕ) (o : Option Program) → s.pipework.programs a d ≡ Some (Runs c) → program_of (s.actors c) ≡ o → IsNext (needs.Give (port.Program d) bytes)
      → GivesTo o c a (own_by s a (needs.Give (port.Program d) bytes) Gave) bytes (Happens deed) → Done
  to_actor d bytes c None is of next h = gives_on d bytes (runs_so d c None is of (λ program e mail. absurd (cc))) next h
  to_actor d bytes c (Some (Injector args)) is of next h =
      Feeds (record {
        slot = d;
        child = c;
        message = h.0;
        envelope = h.1;
        args = args;
        next = next ∙ ap (λ (t : List ℕ). needs.Give (port.Program d) t) h.2;
        runs = is;
        mail = of;
        is = same_deed deed (Fed a (own_by s a (needs.Give (port.Program d) bytes) Gave) c h.0 h.1) h.3
            ∙ ap (λ (t : List ℕ). Fed a (own_by s a (needs.Give (port.Program d) t) Gave) c h.0 h.1) h.2;
      })
  to_actor d bytes c (Some other) is of next h = gives_on d bytes (runs_so d c (Some other) is of (λ program e mail. by_program other program (λ m. m) e mail)) next h

  -- what is given to a slot
  given_to : (d : ℕ) (bytes : List ℕ) (o : Option Tenant) → s.pipework.programs a d ≡ o → IsNext (needs.Give (port.Program d) bytes)
      → Gives s a (own_by s a (needs.Give (port.Program d) bytes) Gave) bytes o (Happens deed) → Done
  given_to d bytes None is next h = gives_on d bytes (λ c y runs there mail. no_tenant c (sym is ∙ runs)) next h
  given_to d bytes (Some (Remote reported)) is next h = gives_on d bytes (λ c y runs there mail. remote_tenant reported c (sym is ∙ runs)) next h
  given_to d bytes (Some (Runs c)) is next h = to_actor d bytes c (program_of (s.actors c)) is refl next h

  -- the start of a child
  borne_so : (asked : ChildData) (child : List ℕ × Program) → child_of n a asked pid s.now ≡ Some child → IsNext (needs.Start asked)
      → Happens deed ≡ Happens (Came (Child a (own_by s a (needs.Start asked) (Started pid)) child.0 child.1)) → Done
  borne_so asked child of next h =
      Bears (record {
        asked = asked;
        next = next;
        child = child;
        of = of;
        is = same_deed deed (Came (Child a (own_by s a (needs.Start asked) (Started pid)) child.0 child.1)) h;
      })

  stepped_due : (due : NeedData) → IsNext due → DoesNext plan s pid n a x.program due (Happens deed) → Done
  stepped_due (needs.File c) next h = Calls (c, h.0, next, h.1, same_deed deed (Came (call_act a s.now (found_in s a) c h.0 0)) h.2)
  stepped_due (needs.Ended status) next h = Finishes (status, next, same_deed deed (Came (End a s.now (found_in s a) status)) h)
  stepped_due (needs.Take port) next h = passes (needs.Take port) tt tt tt (λ came. refl) next h
  stepped_due (needs.Give (port.Program d) bytes) next h = given_to d bytes (s.pipework.programs a d) refl next h
  stepped_due (needs.Give port.Input bytes) next h = passes (needs.Give port.Input bytes) tt tt tt (λ came. refl) next h
  stepped_due (needs.Give port.Output bytes) next h = passes (needs.Give port.Output bytes) tt tt tt (λ came. refl) next h
  stepped_due (needs.Give port.Clean bytes) next h = passes (needs.Give port.Clean bytes) tt tt tt (λ came. refl) next h
  stepped_due (needs.Give port.Lspawn bytes) next h = passes (needs.Give port.Lspawn bytes) tt tt tt (λ came. refl) next h
  stepped_due (needs.Give port.Rspawn bytes) next h = passes (needs.Give port.Rspawn bytes) tt tt tt (λ came. refl) next h
  stepped_due (needs.Give port.Todo bytes) next h = passes (needs.Give port.Todo bytes) tt tt tt (λ came. refl) next h
  stepped_due (needs.Give (port.Status d) bytes) next h = passes (needs.Give (port.Status d) bytes) tt tt tt (λ came. refl) next h
  stepped_due (needs.Start (child.Bounce room)) next h = borne_so (child.Bounce room) _ refl next h
  stepped_due (needs.Start (child.Forward uid room)) next h = borne_so (child.Forward uid room) _ refl next h
  stepped_due (needs.Start (child.Local slot words uid)) next h = borne_so (child.Local slot words uid) _ refl next h
  stepped_due (needs.Start (child.Remote slot domain sender recipient)) next h =
      Passes (record {
        due = needs.Start (child.Remote slot domain sender recipient);
        came = Started pid;
        no_file = tt;
        next = next;
        comes_so = refl;
        none = tt;
        no_mail = tt;
        is = same_deed deed (Came (Act a (own_by s a (needs.Start (child.Remote slot domain sender recipient)) (Started pid)) 0)) h;
      })
  stepped_due (needs.Command bytes) next h = passes (needs.Command bytes) tt tt tt (λ came. refl) next h
  stepped_due needs.Wait next h = passes needs.Wait tt tt tt (λ came. refl) next h

stepped_life : (plan : Plan) (s : State) (pid : ℕ) (n : Counts) (a : List ℕ) (x : Actor) (life : Life) (deed : Deed) → s.actors a ≡ Some x → x.life ≡ life
    → DoesAlive plan s pid n a x life (Happens deed) → HasStepped plan s pid n a deed
stepped_life plan s pid n a x Alive deed is alive h = record {
  actor = x;
  is = is;
  alive = alive;
  did = stepped_due plan s pid n a x deed (next_of x.program x.past s.now (found_in s a)) refl h;
}
stepped_life plan s pid n a x (Over status) deed is over h = absurd (cc)
stepped_life plan s pid n a x Stopped deed is over h = absurd (cc)

stepped_by : (plan : Plan) (s : State) (pid : ℕ) (n : Counts) (a : List ℕ) (o : Option Actor) (deed : Deed) → s.actors a ≡ o → DoesStep plan s pid n a o (Happens deed)
    → HasStepped plan s pid n a deed
stepped_by plan s pid n a None deed is h = absurd (cc)
stepped_by plan s pid n a (Some x) deed is h = stepped_life plan s pid n a x x.life deed is refl h

pub has_stepped : (d : Disk) (h : List Deed) (plan : Plan) (a : List ℕ) (deed : Deed) → StepsTo d h plan a (Happens deed)
    → HasStepped plan (after d h) (next_pid h) (counts_in h) a deed
has_stepped d h plan a deed step = stepped_by plan (after d h) (next_pid h) (counts_in h) a ((after d h).actors a) deed refl step
