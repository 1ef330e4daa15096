-- A change of one pipe, which isn't one of the two between the sender and its cleaner.
use Rattle.std.specs.Prelude.{Contains}
use Rattle.std.proofs.Common.{◌≡◌, ◌≢◌, ℕ, List, Bool, true, false, ◌&&◌, Option, Some, None, refl, sym, ap, subst, bytes_eq, codes, if◌then◌else◌}
use Rattle.call_fs.specs.declared.program.Port.{Port}
use Rattle.call_fs.specs.declared.program.Port.TheVariants as port
use Rattle.actor_names.specs.MailNames.{members}
use Rattle.mail_world.proofs.Members.{member_contained}
use Rattle.queue_law.proofs.Tests.{other_text}
use Rattle.world_pipes.specs.Pipework.{Mouth, Pipe, Pipework, Slot, Tenant, child_output, given, gives, input_of, is_by, is_member, is_port, mouth, output, put_pipe}
use Rattle.world_pipes.specs.Pipework.Tenant.{Runs, Remote}
use Rattle.world_law.proofs.Moved.{IsSameLink}

-- a pipe that is taken from elsewhere
abbrev pub IsAway : Option Mouth → Port → Type 0
IsAway None p = Unit {0}
IsAway (Some to) p = is_port p to.port ≡ false

off_by : (t u : Bool) (x y : Pipe) → u ≡ false → (if t && u then x else y) ≡ y
off_by true u x y e = ap (λ (b : Bool). if b then x else y) e
off_by false u x y e = refl

pub away_same : (pipes : List ℕ → Port → Pipe) (to : Option Mouth) (change : Pipe → Pipe) (a : List ℕ) (p : Port) → IsAway to p → put_pipe pipes to change a p ≡ pipes a p
away_same pipes None change a p away = refl
away_same pipes (Some to) change a p away = off_by (bytes_eq a to.actor) (is_port p to.port) (change (pipes a p)) (pipes a p) away

-- another actor's pipe
pub else_by : (t u : Bool) (x y : Pipe) → t ≡ false → (if t && u then x else y) ≡ y
else_by true u x y e = absurd (cc)
else_by false u x y e = refl

-- the input of an actor in a slot of this one, which isn't the cleaner
module _ (w : Pipework) (a : List ℕ) (apart : (d : ℕ) (b : List ℕ) → w.programs a d ≡ Some (Runs b) → b ≢ codes "clean") (d : ℕ) (change : Pipe → Pipe) where
  tenant_same : (o : Option Tenant) → w.programs a d ≡ o → IsSameLink w (record { pipes = put_pipe w.pipes (input_of o) change; programs = w.programs; slots = w.slots })
  tenant_same None e = record { given = refl; answers = refl }
  tenant_same (Some (Remote t)) e = record { given = refl; answers = refl }
  tenant_same (Some (Runs b)) e = record {
    given = ap (λ (x : Pipe). x.bytes) (else_by (bytes_eq (codes "clean") b) (is_port port.Input port.Input) (change (w.pipes (codes "clean") port.Input)) (w.pipes (codes "clean") port.Input)
        (other_text (codes "clean") b (λ same. apart d b e (sym same))));
    answers = ap (λ (x : Pipe). x.bytes)
        (off_by (bytes_eq (codes "sender") b) (is_port port.Clean port.Input) (change (w.pipes (codes "sender") port.Clean)) (w.pipes (codes "sender") port.Clean) refl);
  }

  pub input_same : IsSameLink w (record { pipes = put_pipe w.pipes (input_of (w.programs a d)) change; programs = w.programs; slots = w.slots })
  input_same = tenant_same (w.programs a d) refl

-- what a child gives is taken by a port of a slot
slot_away : (t : Bool) (parent : List ℕ) (number : ℕ) (p : Port) → is_port p (port.Program number) ≡ false → IsAway (if t then Some (mouth parent (port.Program number)) else None) p
slot_away true parent number p off = off
slot_away false parent number p off = tt

pub child_away : (w : Pipework) (a : List ℕ) (o : Option Slot) (p : Port) → ((number : ℕ) → is_port p (port.Program number) ≡ false) → IsAway (child_output w a o) p
child_away w a None p off = tt
child_away w a (Some slot) p off = slot_away (is_by a (w.programs slot.parent slot.number)) slot.parent slot.number p (off slot.number)

-- An actor that is no member

-- the last of four, if none of the first three is it
last_of : (t u v : Bool) (x y z o : Option Mouth) → t ≡ false → u ≡ false → v ≡ false → (if t then x else (if u then y else (if v then z else o))) ≡ o
last_of true u v x y z o e f g = absurd (cc)
last_of false true v x y z o e f g = absurd (cc)
last_of false false true x y z o e f g = absurd (cc)
last_of false false false x y z o e f g = refl

module _ (w : Pipework) (a : List ℕ) (apart : Contains members a → ⊥) where
  pub no_member : (b : List ℕ) → is_member b ≡ true → a ≢ b
  no_member b is same = apart (subst (λ (n : List ℕ). Contains members n) (sym same) (member_contained b is))

  -- it takes from a pipe of its own
  pub own_same : (p : Port) (change : Pipe → Pipe) (programs : List ℕ → ℕ → Option Tenant)
      → IsSameLink w (record { pipes = put_pipe w.pipes (Some (mouth a p)) change; programs = programs; slots = w.slots })
  own_same p change programs = record {
    given = ap (λ (x : Pipe). x.bytes) (else_by (bytes_eq (codes "clean") a) (is_port port.Input p) (change (w.pipes (codes "clean") port.Input)) (w.pipes (codes "clean") port.Input)
        (other_text (codes "clean") a (λ same. no_member (codes "clean") refl (sym same))));
    answers = ap (λ (x : Pipe). x.bytes) (else_by (bytes_eq (codes "sender") a) (is_port port.Clean p) (change (w.pipes (codes "sender") port.Clean)) (w.pipes (codes "sender") port.Clean)
        (other_text (codes "sender") a (λ same. no_member (codes "sender") refl (sym same))));
  }

  -- what it prints goes to its slot
  output_is : output w a ≡ child_output w a (w.slots a)
  output_is = last_of (bytes_eq a (codes "clean")) (bytes_eq a (codes "lspawn")) (bytes_eq a (codes "rspawn")) (Some (mouth (codes "sender") port.Clean))
      (Some (mouth (codes "sender") port.Lspawn)) (Some (mouth (codes "sender") port.Rspawn)) (child_output w a (w.slots a))
      (other_text a (codes "clean") (no_member (codes "clean") refl)) (other_text a (codes "lspawn") (no_member (codes "lspawn") refl))
      (other_text a (codes "rspawn") (no_member (codes "rspawn") refl))

  printed_to : (bytes : List ℕ) (to : Option Mouth) → IsAway to port.Input → IsAway to port.Clean
      → IsSameLink w (record { pipes = put_pipe w.pipes to (given bytes); programs = w.programs; slots = w.slots })
  printed_to bytes to input clean = record {
    given = ap (λ (x : Pipe). x.bytes) (away_same w.pipes to (given bytes) (codes "clean") port.Input input);
    answers = ap (λ (x : Pipe). x.bytes) (away_same w.pipes to (given bytes) (codes "sender") port.Clean clean);
  }

  pub printed_same : (bytes : List ℕ) → IsSameLink w (record { pipes = gives w a port.Output bytes; programs = w.programs; slots = w.slots })
  printed_same bytes =
      subst (λ (to : Option Mouth). IsSameLink w (record { pipes = put_pipe w.pipes to (given bytes); programs = w.programs; slots = w.slots })) (sym output_is)
      (printed_to bytes (child_output w a (w.slots a)) (child_away w a (w.slots a) port.Input (λ n. refl)) (child_away w a (w.slots a) port.Clean (λ n. refl)))
