-- What is held and given of messages from one state to another, while what was entered stays, the local spawner keeps its descriptors, and
-- deliveries have received the same.
use Rattle.std.proofs.Common.{◌≡◌, ℕ, List, true, Option, Some, None, sym, ◌∙◌, subst, codes}
use Rattle.call_fs.specs.Disk.{Open}
use Rattle.mail_bytes.specs.Netstring.{netstring}
use Rattle.program_law.specs.Post.Posts.{Task}
use Rattle.queue_law.specs.Injectors.{IsHeld}
use Rattle.send_jobs.specs.declared.attempts.Attempt.{Attempt}
use Rattle.spawn_protocol.specs.declared.request.Request.{Request}
use Rattle.spawner_parts.specs.declared.place.Place.{Place}
use Rattle.spawner_parts.specs.declared.row.Row.{Row}
use Rattle.spawner_parts.specs.declared.row.Row.TheVariants as at
use Rattle.mail_world.specs.History.{Actor, State}
use Rattle.world_law.specs.Entered.{IsEntered}
use Rattle.world_law.specs.inside.Posts.{IsDeliveryFor}
use Rattle.world_law.proofs.EnteredStands.{Begins, HoldsMessage, HoldsText, IsGiven, IsGivenFor, IsUnfed, received}

-- the local spawner keeps its descriptors
abbrev pub KeepsHeld : State → State → Type 0
KeepsHeld s t = (fd : ℕ) (how : Open) → IsHeld s.disk.opens s.holder (codes "lspawn") fd how → IsHeld t.disk.opens t.holder (codes "lspawn") fd how

-- a delivery has received the same
abbrev pub ReceivedSame : State → State → Type 0
ReceivedSame s t = (k : Task) (it : IsDeliveryFor s k) (y : Actor) → t.actors k.name ≡ Some y → received t k.name y ≡ received s k.name it.delivery

-- that what it was given was entered is told apart
module _ (s t : State) (same : ReceivedSame s t) where
  pub given_left : (k : Task) → IsDeliveryFor s k → (r : Request) (h : IsGiven s k.name r) → IsEntered t h.n h.message → IsGiven t k.name r
  given_left k it r h is = record {
    n = h.n;
    mess = h.mess;
    message = h.message;
    is = is;
    begins = λ y there. subst (λ (z : List ℕ). Begins z (netstring h.message)) (sym (same k it y there)) (h.begins it.delivery it.is);
  }

  pub given_for_left : (k : Task) → IsDeliveryFor s k → (flies : Option Attempt) (last : Option Request) → ((r : Request) (h : IsGiven s k.name r) → IsEntered t h.n h.message)
      → IsGivenFor s k.name flies last → IsGivenFor t k.name flies last
  given_for_left k it (Some a) (Some r) is h = given_left k it r h (is r h)
  given_for_left k it None last is h = tt
  given_for_left k it (Some a) None is h = tt

  module _ (held : KeepsHeld s t) (tasks : ℕ → Option Task) (run : (slot : ℕ) (k : Task) → tasks slot ≡ Some k → IsDeliveryFor s k) where
    unfed_left : (slot : ℕ) → IsUnfed s tasks slot → IsUnfed t tasks slot
    unfed_left slot h k runs y there =
        let it = run slot k runs in
        same k it y there ∙ h k runs it.delivery it.is

    text_left : (n : ℕ) (text : List ℕ) (row : Row) (p : Place) → HoldsText s tasks n text row p → HoldsText t tasks n text row p
    text_left n text (at.ReadMess fd) p h = (held fd.0 _ h.0, h.1)
    text_left n text at.Feed p h = (h.0, unfed_left p.request.slot h.1)
    text_left n text at.OpenMess p h = h
    text_left n text (at.CloseMess fd true) p h = h
    text_left n text at.Start p h = h
    text_left n text row p h = tt

    pub message_left : (p : Place) (h : HoldsMessage s tasks p) → IsEntered t h.n h.message → HoldsMessage t tasks p
    message_left p h is = record { n = h.n; mess = h.mess; message = h.message; is = is; holds = text_left h.n h.message p.row p h.holds }

-- all that was entered stays so
module _ (s t : State) (entered : (n : ℕ) (message : List ℕ) → IsEntered s n message → IsEntered t n message) (held : KeepsHeld s t) (same : ReceivedSame s t) where
  pub given_for_kept : (k : Task) → IsDeliveryFor s k → (flies : Option Attempt) (last : Option Request) → IsGivenFor s k.name flies last → IsGivenFor t k.name flies last
  given_for_kept k it flies last h = given_for_left s t same k it flies last (λ r given. entered given.n given.message given.is) h

  module _ (tasks : ℕ → Option Task) (run : (slot : ℕ) (k : Task) → tasks slot ≡ Some k → IsDeliveryFor s k) where
    pub message_kept : (p : Place) → HoldsMessage s tasks p → HoldsMessage t tasks p
    message_kept p h = message_left s t same held tasks run p h (entered h.n h.message h.is)
