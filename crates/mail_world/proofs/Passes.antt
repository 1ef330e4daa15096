-- What passes between programs by pipes and slots: it concerns no disk and no descriptor.
use Rattle.std.proofs.Common.{◌≡◌, inr, ℕ, zero, suc, ◌≤◌, List, [], ◌∷◌, length, Bool, true, false, Option, Some, None, refl, sym, ap, ◌∙◌, subst, arith}
use Rattle.std.specs.Prelude.{◌==◌, if◌then◌else◌, is_some, take, drop}
use Rattle.std.specs.List.{slice_get}
use Rattle.std.proofs.lemmas.List.{take-append-drop}
use Rattle.std.proofs.lemmas.Bool.{eqb-true}
use Rattle.call_fs.specs.declared.calls.Fd.{Fd}
use Rattle.call_fs.specs.declared.modes.Mode.{Mode}
use Rattle.call_fs.specs.declared.program.Port.{Port}
use Rattle.call_fs.specs.declared.program.Port.TheVariants as port
use Rattle.call_fs.specs.declared.past.ChildData.TheVariants as child
use Rattle.call_fs.specs.declared.past.GotData.{GotData}
use Rattle.call_fs.specs.declared.past.GotData.TheVariants as got
use Rattle.call_fs.specs.declared.past.NeedData.{NeedData}
use Rattle.call_fs.specs.declared.past.NeedData.TheVariants as needs
use Rattle.call_fs.specs.Disk.{Disk}
use Rattle.call_fs.specs.Past.{held_by}
use Rattle.call_fs.specs.Program.{IsKind}
use Rattle.world_pipes.specs.Pipework.{Pipe, Pipework, Tenant, Yields}
use Rattle.world_pipes.specs.Pipework.Tenant.{Runs, Remote}
use Rattle.world_pipes.specs.Pipes.{offered}
use Rattle.mail_world.proofs.Awaiting.{GivesToNone}
use Rattle.mail_world.specs.History.{State, disk_after, holder_after, ComesOf, IsEnding, TenantEnds, IsFed}
use Rattle.world_pipes.specs.declared.mouths.Mouths.{Mouths}
use Rattle.world_pipes.specs.Mouths.{actor_of}
use Rattle.mail_world.specs.Wired.{tenant_in, kept_at, AreWired}
use Rattle.mail_world.specs.Acting.{IsAct, IsNoAct, Brings, GivesNoActor, is_due_of_child, has_actor, opened_by}
use Rattle.mail_world.proofs.Feeds.{offered_is}

-- nothing but pipes and slots changes
pub record IsPassing (due : NeedData) (came : GotData) : Type 0 where
  pub disk : (d : Disk) (read w : ℕ) → disk_after d read due came w ≡ d
  pub holder : (h : ℕ → Option (List ℕ)) (a : List ℕ) → holder_after h a due came ≡ h
  pub held : (m : ℕ → Option Mode) → held_by m due came ≡ m
  pub opened : (fds : List Fd) → opened_by fds due came ≡ fds

pub passing : (due : NeedData) (came : GotData) → IsNoAct due → IsPassing due came
passing (needs.File c) came none = absurd none
passing (needs.Take port) came none = record { disk = λ d read w. refl; holder = λ h a. refl; held = λ m. refl; opened = λ fds. refl }
passing (needs.Give port bytes) came none = record { disk = λ d read w. refl; holder = λ h a. refl; held = λ m. refl; opened = λ fds. refl }
passing (needs.Start asked) came none = record { disk = λ d read w. refl; holder = λ h a. refl; held = λ m. refl; opened = λ fds. refl }
passing (needs.Command bytes) came none = record { disk = λ d read w. refl; holder = λ h a. refl; held = λ m. refl; opened = λ fds. refl }
passing needs.Wait came none = record { disk = λ d read w. refl; holder = λ h a. refl; held = λ m. refl; opened = λ fds. refl }
passing (needs.Ended status) came none = absurd none

-- a taking brings some first bytes, or the end

some_bytes : (n : ℕ) (bytes : List ℕ) → 1 ≤ n → (length bytes == 0) ≡ false → take n bytes ≡ [] → ⊥
some_bytes n [] many some none = cc
some_bytes zero (b ∷ bytes) many some none = absurd (omega arith)
some_bytes (suc n) (b ∷ bytes) many some none = cc

no_bytes : (bytes : List ℕ) → (length bytes == 0) ≡ true → bytes ≡ []
no_bytes [] none = refl
no_bytes (b ∷ bytes) none = let empty = eqb-true (length (b ∷ bytes)) 0 none in absurd (omega (arith, empty))

yields_by : (t : Bool) (n : ℕ) (pipe : Pipe) (came : GotData) → (length pipe.bytes == 0) ≡ t → 1 ≤ n
    → (if t then (if pipe.shut then Some got.End else None) else Some (got.Took (take n pipe.bytes))) ≡ Some came → Yields pipe came
yields_by true n pipe came none many is = by_shut pipe.shut refl is where
  by_shut : (shut : Bool) → pipe.shut ≡ shut → (if shut then Some got.End else None) ≡ Some came → Yields pipe came
  by_shut true shut is = let same : got.End ≡ came = cc in subst (Yields pipe) same (no_bytes pipe.bytes none, shut)
  by_shut false shut is = absurd (cc)
yields_by false n pipe came some many is =
    let same : got.Took (take n pipe.bytes) ≡ came = cc in
    subst (Yields pipe) same (some_bytes n pipe.bytes many some, (drop n pipe.bytes, sym (take-append-drop n pipe.bytes)))

pub offered_yields : (n : ℕ) (pipe : Pipe) (came : GotData) → 1 ≤ n → offered n pipe ≡ Some came → Yields pipe came
offered_yields n pipe came many is = yields_by (length pipe.bytes == 0) n pipe came refl many is

-- to who makes calls and ends alone, nothing else is due than to wait
pub only_waits : (due : NeedData) → IsAct due → IsNoAct due → due ≡ needs.Wait
only_waits (needs.File c) act none = absurd none
only_waits (needs.Take port) act none = absurd act
only_waits (needs.Give port bytes) act none = absurd act
only_waits (needs.Start asked) act none = absurd act
only_waits (needs.Command bytes) act none = absurd act
only_waits needs.Wait act none = refl
only_waits (needs.Ended status) act none = absurd none

-- Nothing is given to an actor in a slot, unless what is due is a child's.

nobody : (o : Option Tenant) (c : List ℕ) → is_some (actor_of o) ≡ false → o ≡ Some (Runs c) → ⊥
nobody o c none runs = let both : false ≡ true = sym none ∙ ap (λ (o : Option Tenant). is_some (actor_of o)) runs in cc

pub gives_no_actor : (mouths : List Mouths) (wire : Option ℕ) (i : ℕ) (due : NeedData) → wire ≡ Some i → is_due_of_child (has_actor mouths wire) due ≡ false → GivesNoActor mouths i due
gives_no_actor mouths wire i (needs.Give (port.Program d) bytes) at none =
    λ c runs. nobody (tenant_in (slice_get mouths i) d) c (ap (λ (o : Option ℕ). has_actor mouths o d) (sym at) ∙ none) runs
gives_no_actor mouths wire i (needs.Give port.Input bytes) at none = tt
gives_no_actor mouths wire i (needs.Give port.Output bytes) at none = tt
gives_no_actor mouths wire i (needs.Give port.Clean bytes) at none = tt
gives_no_actor mouths wire i (needs.Give port.Lspawn bytes) at none = tt
gives_no_actor mouths wire i (needs.Give port.Rspawn bytes) at none = tt
gives_no_actor mouths wire i (needs.Give port.Todo bytes) at none = tt
gives_no_actor mouths wire i (needs.Give (port.Status d) bytes) at none = tt
gives_no_actor mouths wire i (needs.File c) at none = tt
gives_no_actor mouths wire i (needs.Take port) at none = tt
gives_no_actor mouths wire i (needs.Start asked) at none = tt
gives_no_actor mouths wire i (needs.Command bytes) at none = tt
gives_no_actor mouths wire i needs.Wait at none = tt
gives_no_actor mouths wire i (needs.Ended status) at none = tt

-- nor in the model
pub gives_to_none : (wires : List ℕ → Option ℕ) (mouths : List Mouths) (w : Pipework) (a : List ℕ) (wire : Option ℕ) (due : NeedData) → AreWired wires mouths w → wires a ≡ wire
    → is_due_of_child (has_actor mouths wire) due ≡ false → GivesToNone w a due
gives_to_none wires mouths w a wire (needs.Give (port.Program d) bytes) wired at none =
    λ c runs. nobody (tenant_in (kept_at wire mouths) d) c none (sym (wired.programs a d ∙ ap (λ (o : Option ℕ). tenant_in (kept_at o mouths) d) at) ∙ runs)
gives_to_none wires mouths w a wire (needs.Give port.Input bytes) wired at none = tt
gives_to_none wires mouths w a wire (needs.Give port.Output bytes) wired at none = tt
gives_to_none wires mouths w a wire (needs.Give port.Clean bytes) wired at none = tt
gives_to_none wires mouths w a wire (needs.Give port.Lspawn bytes) wired at none = tt
gives_to_none wires mouths w a wire (needs.Give port.Rspawn bytes) wired at none = tt
gives_to_none wires mouths w a wire (needs.Give port.Todo bytes) wired at none = tt
gives_to_none wires mouths w a wire (needs.Give (port.Status d) bytes) wired at none = tt
gives_to_none wires mouths w a wire (needs.File c) wired at none = tt
gives_to_none wires mouths w a wire (needs.Take port) wired at none = tt
gives_to_none wires mouths w a wire (needs.Start asked) wired at none = tt
gives_to_none wires mouths w a wire (needs.Command bytes) wired at none = tt
gives_to_none wires mouths w a wire needs.Wait wired at none = tt
gives_to_none wires mouths w a wire (needs.Ended status) wired at none = tt

fed_by : (s : State) (o : Option Tenant) (bytes : List ℕ) → ((b : List ℕ) → o ≡ Some (Runs b) → ⊥) → IsFed s o bytes
fed_by s None bytes none = tt
fed_by s (Some (Runs b)) bytes none = absurd (none b refl)
fed_by s (Some (Remote reported)) bytes none = tt

-- so what comes by them may come, in any state with these pipes and slots
pub comes_of : (s : State) (w : Pipework) (pid most : ℕ) (a : List ℕ) (due : NeedData) (came : GotData) → s.pipework ≡ w → GivesToNone w a due → 1 ≤ most
    → Brings w pid most a due came → ComesOf s a due came 0
comes_of s w pid most a (needs.File c) came same none many brings = absurd brings
comes_of s w pid most a (needs.Take (port.Status d)) came same none many brings =
    inr (subst (λ (o : Option Tenant). TenantEnds s o came) (sym (ap (λ (w : Pipework). w.programs a d) same ∙ brings.0)) (subst IsEnding (sym brings.1) (omega arith)))
comes_of s w pid most a (needs.Take port.Input) came same none many brings = offered_yields most (s.pipework.pipes a port.Input) came many (ap (λ (w : Pipework). offered most (w.pipes a port.Input)) same ∙ brings)
comes_of s w pid most a (needs.Take port.Output) came same none many brings = offered_yields most (s.pipework.pipes a port.Output) came many (ap (λ (w : Pipework). offered most (w.pipes a port.Output)) same ∙ brings)
comes_of s w pid most a (needs.Take port.Clean) came same none many brings = offered_yields most (s.pipework.pipes a port.Clean) came many (ap (λ (w : Pipework). offered most (w.pipes a port.Clean)) same ∙ brings)
comes_of s w pid most a (needs.Take port.Lspawn) came same none many brings = offered_yields most (s.pipework.pipes a port.Lspawn) came many (ap (λ (w : Pipework). offered most (w.pipes a port.Lspawn)) same ∙ brings)
comes_of s w pid most a (needs.Take port.Rspawn) came same none many brings = offered_yields most (s.pipework.pipes a port.Rspawn) came many (ap (λ (w : Pipework). offered most (w.pipes a port.Rspawn)) same ∙ brings)
comes_of s w pid most a (needs.Take port.Todo) came same none many brings = offered_yields most (s.pipework.pipes a port.Todo) came many (ap (λ (w : Pipework). offered most (w.pipes a port.Todo)) same ∙ brings)
comes_of s w pid most a (needs.Take (port.Program d)) came same none many brings = offered_yields most (s.pipework.pipes a (port.Program d)) came many (ap (λ (w : Pipework). offered most (w.pipes a (port.Program d))) same ∙ brings)
comes_of s w pid most a (needs.Give q bytes) came same none many brings = subst (λ (came : GotData). ComesOf s a (needs.Give q bytes) came 0) (sym brings) (given_by q none) where
  given_by : (q : Port) → GivesToNone w a (needs.Give q bytes) → ComesOf s a (needs.Give q bytes) got.Gave 0
  given_by (port.Program d) none = fed_by s (s.pipework.programs a d) bytes (λ b is. none b (ap (λ (w : Pipework). w.programs a d) (sym same) ∙ is))
  given_by port.Input none = tt
  given_by port.Output none = tt
  given_by port.Clean none = tt
  given_by port.Lspawn none = tt
  given_by port.Rspawn none = tt
  given_by port.Todo none = tt
  given_by (port.Status d) none = tt
comes_of s w pid most a (needs.Start (child.Bounce room)) came same none many brings = absurd brings
comes_of s w pid most a (needs.Start (child.Forward uid room)) came same none many brings = absurd brings
comes_of s w pid most a (needs.Start (child.Local slot words uid)) came same none many brings = absurd brings
comes_of s w pid most a (needs.Start (child.Remote slot domain sender recipient)) came same none many brings =
    subst (λ (came : GotData). ComesOf s a (needs.Start (child.Remote slot domain sender recipient)) came 0) (sym brings) tt
comes_of s w pid most a (needs.Command bytes) came same none many brings = subst (λ (came : GotData). ComesOf s a (needs.Command bytes) came 0) (sym brings) tt
comes_of s w pid most a needs.Wait came same none many brings = absurd brings
comes_of s w pid most a (needs.Ended status) came same none many brings = absurd brings

-- what passes is of its kind
pub brings_kind : (w : Pipework) (pid most : ℕ) (a : List ℕ) (due : NeedData) (came : GotData) → Brings w pid most a due came → IsKind due came
brings_kind w pid most a (needs.File c) came brings = absurd brings
brings_kind w pid most a (needs.Take (port.Status d)) came brings = subst (IsKind (needs.Take (port.Status d))) (sym brings.1) tt
brings_kind w pid most a (needs.Take port.Input) came brings = offered_is most (w.pipes a port.Input) came (IsKind (needs.Take port.Input)) tt tt brings
brings_kind w pid most a (needs.Take port.Output) came brings = offered_is most (w.pipes a port.Output) came (IsKind (needs.Take port.Output)) tt tt brings
brings_kind w pid most a (needs.Take port.Clean) came brings = offered_is most (w.pipes a port.Clean) came (IsKind (needs.Take port.Clean)) tt tt brings
brings_kind w pid most a (needs.Take port.Lspawn) came brings = offered_is most (w.pipes a port.Lspawn) came (IsKind (needs.Take port.Lspawn)) tt tt brings
brings_kind w pid most a (needs.Take port.Rspawn) came brings = offered_is most (w.pipes a port.Rspawn) came (IsKind (needs.Take port.Rspawn)) tt tt brings
brings_kind w pid most a (needs.Take port.Todo) came brings = offered_is most (w.pipes a port.Todo) came (IsKind (needs.Take port.Todo)) tt tt brings
brings_kind w pid most a (needs.Take (port.Program d)) came brings = offered_is most (w.pipes a (port.Program d)) came (IsKind (needs.Take (port.Program d))) tt tt brings
brings_kind w pid most a (needs.Give port bytes) came brings = subst (IsKind (needs.Give port bytes)) (sym brings) tt
brings_kind w pid most a (needs.Start (child.Bounce room)) came brings = absurd brings
brings_kind w pid most a (needs.Start (child.Forward uid room)) came brings = absurd brings
brings_kind w pid most a (needs.Start (child.Local slot words uid)) came brings = absurd brings
brings_kind w pid most a (needs.Start (child.Remote slot domain sender recipient)) came brings = subst (IsKind (needs.Start (child.Remote slot domain sender recipient))) (sym brings) tt
brings_kind w pid most a (needs.Command bytes) came brings = subst (IsKind (needs.Command bytes)) (sym brings) tt
brings_kind w pid most a needs.Wait came brings = absurd brings
brings_kind w pid most a (needs.Ended status) came brings = absurd brings
