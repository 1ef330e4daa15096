-- Who was never started: nothing that happens concerns its pipes.
use Rattle.std.proofs.Common.{◌≡◌, ◌≢◌, ℕ, List, [], Bool, true, false, ◌&&◌, if◌then◌else◌, Option, Some, None, refl, sym, ap, ◌∙◌, arith, bytes_eq, codes}
use Rattle.std.specs.Prelude.{option_map}
use Rattle.call_fs.specs.declared.past.ChildData.TheVariants as child
use Rattle.call_fs.specs.declared.past.GotData.{GotData}
use Rattle.call_fs.specs.declared.past.GotData.TheVariants as got
use Rattle.call_fs.specs.declared.past.NeedData.{NeedData}
use Rattle.call_fs.specs.declared.past.NeedData.TheVariants as needs
use Rattle.call_fs.specs.declared.program.Port.{Port}
use Rattle.call_fs.specs.declared.program.Port.TheVariants as port
use Rattle.world_pipes.specs.declared.mouths.Mouths.{Mouths}
use Rattle.world_pipes.specs.Pipework.{Pipe, Pipework, Tenant, Slot, Mouth, mouth, fresh, given, taken, closed, is_port, is_by, is_member, is_writer, writer, actor_of, input_of, output, child_output, gives, put_pipe, pipework_after, without_writer}
use Rattle.world_pipes.specs.Pipework.Tenant.{Runs, Remote}
use Rattle.mail_world.specs.Wired.{tenant_in, kept_at, IsOwnPort, AreWired}
use Rattle.mail_world.specs.Inside.{IsUnwired}
use Rattle.mail_world.proofs.Awaiting.{GivesToNone}
use Rattle.mail_world.proofs.Members.{other_than}
use Rattle.queue_law.proofs.Tests.{other_text}

-- it has no slots
pub no_slots : (wires : List ℕ → Option ℕ) (mouths : List Mouths) (w : Pipework) (a : List ℕ) → AreWired wires mouths w → wires a ≡ None → (d : ℕ) → w.programs a d ≡ None
no_slots wires mouths w a wired none d = wired.programs a d ∙ ap (λ (o : Option ℕ). tenant_in (kept_at o mouths) d) none

-- another one's pipe
pub put_away : (pipes : List ℕ → Port → Pipe) (to : Mouth) (change : Pipe → Pipe) (a : List ℕ) (q : Port) → a ≢ to.actor → put_pipe pipes (Some to) change a q ≡ pipes a q
put_away pipes to change a q far = ap (λ (t : Bool). if t && is_port q to.port then change (pipes a q) else pipes a q) (other_text a to.actor far)

module _ (w : Pipework) (a : List ℕ) (q : Port) (named : is_member a ≡ false) (none : (d : ℕ) → w.programs a d ≡ None) (change : Pipe → Pipe) where
  no_member : (m : List ℕ) (p : Port) → is_member m ≡ true → put_pipe w.pipes (Some (mouth m p)) change a q ≡ w.pipes a q
  no_member m p is = put_away w.pipes (mouth m p) change a q (other_than a m named is)

  no_input : (o : Option Tenant) → ((c : List ℕ) → o ≡ Some (Runs c) → ⊥) → put_pipe w.pipes (input_of o) change a q ≡ w.pipes a q
  no_input None nobody = refl
  no_input (Some (Remote reported)) nobody = refl
  no_input (Some (Runs c)) nobody = absurd (nobody c refl)

  put_if : (t : Bool) (o p : Option Mouth) → (t ≡ true → put_pipe w.pipes o change a q ≡ w.pipes a q) → put_pipe w.pipes p change a q ≡ w.pipes a q
      → put_pipe w.pipes (if t then o else p) change a q ≡ w.pipes a q
  put_if true o p here there = here refl
  put_if false o p here there = there

  no_child : (b : List ℕ) (o : Option Slot) → put_pipe w.pipes (child_output w b o) change a q ≡ w.pipes a q
  no_child b None = refl
  no_child b (Some slot) =
      put_if (is_by b (w.programs slot.parent slot.number)) (Some (mouth slot.parent (port.Program slot.number))) None
      (λ by. put_away w.pipes (mouth slot.parent (port.Program slot.number)) change a q
      (λ same. let both : false ≡ true = sym (ap (is_by b) (ap (λ (a : List ℕ). w.programs a slot.number) (sym same) ∙ none slot.number)) ∙ by in cc))
      refl

  no_output : (b : List ℕ) → put_pipe w.pipes (output w b) change a q ≡ w.pipes a q
  no_output b =
      let by_child = child_output w b (w.slots b) in
      let by_rspawn = if bytes_eq b (codes "rspawn") then Some (mouth (codes "sender") port.Rspawn) else by_child in
      let by_lspawn = if bytes_eq b (codes "lspawn") then Some (mouth (codes "sender") port.Lspawn) else by_rspawn in
      put_if (bytes_eq b (codes "clean")) (Some (mouth (codes "sender") port.Clean)) by_lspawn (λ _. no_member (codes "sender") port.Clean refl)
      (put_if (bytes_eq b (codes "lspawn")) (Some (mouth (codes "sender") port.Lspawn)) by_rspawn (λ _. no_member (codes "sender") port.Lspawn refl)
      (put_if (bytes_eq b (codes "rspawn")) (Some (mouth (codes "sender") port.Rspawn)) by_child (λ _. no_member (codes "sender") port.Rspawn refl)
      (no_child b (w.slots b))))

gives_away : (w : Pipework) (b a : List ℕ) (q p : Port) (bytes : List ℕ) → is_member a ≡ false → ((d : ℕ) → w.programs a d ≡ None) → GivesToNone w b (needs.Give p bytes) → gives w b p bytes a q ≡ w.pipes a q
gives_away w b a q (port.Program d) bytes named none nobody = no_input w a q named none (λ pipe. closed (given bytes pipe)) (w.programs b d) nobody
gives_away w b a q port.Clean bytes named none nobody = no_member w a q named none (given bytes) (codes "clean") port.Input refl
gives_away w b a q port.Lspawn bytes named none nobody = no_member w a q named none (given bytes) (codes "lspawn") port.Input refl
gives_away w b a q port.Rspawn bytes named none nobody = no_member w a q named none (given bytes) (codes "rspawn") port.Input refl
gives_away w b a q port.Output bytes named none nobody = no_output w a q named none (given bytes) b
gives_away w b a q port.Input bytes named none nobody = refl
gives_away w b a q port.Todo bytes named none nobody = refl
gives_away w b a q (port.Status d) bytes named none nobody = refl

any_bytes : (w : Pipework) (b : List ℕ) (p : Port) (bytes other : List ℕ) → GivesToNone w b (needs.Give p bytes) → GivesToNone w b (needs.Give p other)
any_bytes w b (port.Program d) bytes other none = none
any_bytes w b other_port bytes other none = tt

-- an event of another actor
pipes_away : (w : Pipework) (b a : List ℕ) (q : Port) (due : NeedData) (came : GotData) → is_member a ≡ false → ((d : ℕ) → w.programs a d ≡ None) → a ≢ b → GivesToNone w b due
    → (pipework_after w b due came 0).pipes a q ≡ w.pipes a q
pipes_away w b a q (needs.Give p bytes) got.Gave named none far nobody = gives_away w b a q p bytes named none nobody
pipes_away w b a q (needs.Give p bytes) got.Failed named none far nobody = gives_away w b a q p [] named none (any_bytes w b p bytes [] nobody)
pipes_away w b a q (needs.Take p) (got.Took bytes) named none far nobody = put_away w.pipes (mouth b p) (taken bytes) a q far
pipes_away w b a q (needs.Start (child.Remote slot domain sender recipient)) (got.Started pid) named none far nobody = put_away w.pipes (mouth b (port.Program slot)) (λ _. fresh) a q far
pipes_away w b a q due came named none far nobody = refl

pub acted_unwired : (wires : List ℕ → Option ℕ) (mouths : List Mouths) (w : Pipework) (b a : List ℕ) (due : NeedData) (came : GotData) → AreWired wires mouths w → is_member a ≡ false → a ≢ b → GivesToNone w b due
    → IsUnwired wires w a → IsUnwired wires (pipework_after w b due came 0) a
acted_unwired wires mouths w b a due came wired named far nobody was = record {
  place = was.place;
  slot = was.slot;
  pipes = λ q own. pipes_away w b a q due came named (no_slots wires mouths w a wired was.place) far nobody ∙ was.pipes q own;
}

-- an actor is over
not_by : (w : Pipework) (b a : List ℕ) (q : Port) → is_member a ≡ false → w.slots a ≡ None → ((d : ℕ) → w.programs a d ≡ None) → IsOwnPort 4 q → is_writer b (writer w a q) ≡ false
not_by w b a port.Input named slot none own =
    ap (λ (t : Bool). is_writer b (if t then Some (codes "sender") else option_map (λ slot. slot.parent) (w.slots a))) named
    ∙ ap (λ (o : Option Slot). is_writer b (option_map (λ slot. slot.parent) o)) slot
not_by w b a port.Clean named slot none own = absurd (omega (arith, own))
not_by w b a port.Lspawn named slot none own = absurd (omega (arith, own))
not_by w b a port.Rspawn named slot none own = absurd (omega (arith, own))
not_by w b a (port.Program d) named slot none own = ap (λ (o : Option Tenant). is_writer b (actor_of o)) (none d)
not_by w b a port.Output named slot none own = refl
not_by w b a port.Todo named slot none own = refl
not_by w b a (port.Status d) named slot none own = refl

pub finished_unwired : (wires : List ℕ → Option ℕ) (mouths : List Mouths) (w : Pipework) (b a : List ℕ) → AreWired wires mouths w → is_member a ≡ false → IsUnwired wires w a → IsUnwired wires (without_writer w b) a
finished_unwired wires mouths w b a wired named was = record {
  place = was.place;
  slot = was.slot;
  pipes = λ q own.
      ap (λ (t : Bool). if t then closed (w.pipes a q) else w.pipes a q) (not_by w b a q named was.slot (no_slots wires mouths w a wired was.place) own) ∙ was.pipes q own;
}
