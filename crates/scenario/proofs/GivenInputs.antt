-- Whose input an event of an actor leaves as it was.
use Rattle.std.proofs.Common.{◌≡◌, ◌≢◌, ℕ, List, Bool, true, false, ◌&&◌, if◌then◌else◌, Option, Some, None, refl, sym, ap}
use Rattle.call_fs.specs.declared.past.GotData.{GotData}
use Rattle.call_fs.specs.declared.past.GotData.TheVariants as got
use Rattle.call_fs.specs.declared.past.NeedData.{NeedData}
use Rattle.call_fs.specs.declared.past.NeedData.TheVariants as needs
use Rattle.call_fs.specs.declared.program.Port.TheVariants as port
use Rattle.mail_world.specs.Pipework.{Pipe, Pipework, Tenant, input_of, is_member, pipework_after, put_pipe}
use Rattle.mail_world.specs.Pipework.Tenant.{Runs, Remote}
use Rattle.mail_world.proofs.Awaiting.{input_still}
use Rattle.queue_law.proofs.Tests.{other_text}

-- what is given to a slot isn't given to that actor
abbrev pub GivesNot : Pipework → List ℕ → NeedData → List ℕ → Type 0
GivesNot w a (needs.Give (port.Program d) bytes) b = w.programs a d ≡ Some (Runs b) → ⊥
GivesNot w a due b = Unit {0}

slot_put : (w : Pipework) (b : List ℕ) (change : Pipe → Pipe) (o : Option Tenant) → (o ≡ Some (Runs b) → ⊥) → put_pipe w.pipes (input_of o) change b port.Input ≡ w.pipes b port.Input
slot_put w b change None never = refl
slot_put w b change (Some (Remote reported)) never = refl
slot_put w b change (Some (Runs c)) never =
    let far : b ≢ c = λ e. never (ap (λ (q : List ℕ). Some (Runs q)) (sym e)) in
    ap (λ (t : Bool). if t && true then change (w.pipes b port.Input) else w.pipes b port.Input) (other_text b c far)

given_not : (w : Pipework) (a b bytes : List ℕ) (d : ℕ) (came : GotData) → (w.programs a d ≡ Some (Runs b) → ⊥)
    → (pipework_after w a (needs.Give (port.Program d) bytes) came 0).pipes b port.Input ≡ w.pipes b port.Input
given_not w a b bytes d got.Gave never = slot_put w b _ (w.programs a d) never
given_not w a b bytes d got.Failed never = slot_put w b _ (w.programs a d) never
given_not w a b bytes d other never = refl

-- so the input of each other actor that is never member is as it was
pub input_not : (w : Pipework) (a b : List ℕ) (due : NeedData) (came : GotData) → is_member b ≡ false → b ≢ a → GivesNot w a due b
    → (pipework_after w a due came 0).pipes b port.Input ≡ w.pipes b port.Input
input_not w a b (needs.Give (port.Program d) bytes) came named apart never = given_not w a b bytes d came never
input_not w a b due came named apart never = input_still w a b due came named apart tt
