-- Which deliveries the local spawner started since the last request for their slot, in this generation.
use Rattle.std.proofs.Common.{◌≡◌, ◌≢◌, ℕ, List, [], ◌∷◌, ◌++◌, refl, ap, subst, codes}
use Rattle.call_fs.specs.declared.past.GotData.{GotData}
use Rattle.call_fs.specs.declared.past.NeedData.{NeedData}
use Rattle.call_fs.specs.declared.past.NeedData.TheVariants as needs
use Rattle.call_fs.specs.declared.past.Own.{Own}
use Rattle.call_fs.specs.declared.program.Port.TheVariants as port
use Rattle.send_core.specs.Past.Happening.{Gives}
use Rattle.send_known.specs.declared.channel.Channel.TheVariants.{Local}
use Rattle.send_runs.specs.Reports.{given_by}
use Rattle.world_events.specs.declared.event.Program.{Program}
use Rattle.world_events.specs.declared.event.Program.TheVariants.{Sender}
use Rattle.mail_world.specs.History.{Event, IsSender, next_of, slot_by}
use Rattle.mail_world.specs.History.Event.{Act, Child}
use Rattle.world_law.specs.Started.{AllStay, Stays}
use Rattle.world_law.proofs.PostEvents.{IsMild, IsNeither, mild}

-- the one of this name was started in this slot, and since then no request for it was given, and no generation started
pub record IsBorn (h : List Event) (slot : ℕ) (name : List ℕ) : Type 0 where
  pub own : Own
  pub program : Program
  pub later : List Event
  pub before : List Event
  pub all : h ≡ later ++ Child (codes "lspawn") own name program ∷ before
  pub slot_is : slot_by own.due ≡ slot
  pub stays : AllStay slot later

pub born_now : (before : List Event) (parent : List ℕ) → parent ≡ codes "lspawn" → (own : Own) (a : List ℕ) (program : Program)
    → IsBorn (Child parent own a program ∷ before) (slot_by own.due) a
born_now before parent same own a program = record {
  own = own;
  program = program;
  later = [];
  before = before;
  all = ap (λ (b : List ℕ). Child b own a program ∷ before) same;
  slot_is = refl;
  stays = tt;
}

pub born_on : (h : List Event) (e : Event) (slot : ℕ) (name : List ℕ) → Stays slot e → IsBorn h slot name → IsBorn (e ∷ h) slot name
born_on h e slot name stays w = record {
  own = w.own;
  program = w.program;
  later = e ∷ w.later;
  before = w.before;
  all = ap (λ (z : List Event). e ∷ z) w.all;
  slot_is = w.slot_is;
  stays = (w.stays, stays);
}

-- Only a sender gives requests

mild_stays : (due : NeedData) (came : GotData) (slot : ℕ) → IsMild due → given_by due came Local ≢ Gives slot
mild_stays (needs.Give port.Lspawn text) came slot it = absurd it
mild_stays (needs.Give p text) came slot it = λ e. absurd (cc)
mild_stays due came slot it = λ e. absurd (cc)

pub others_stay : (program : Program) → (IsSender program → ⊥) → (past : List Own) (own : Own) (wrote : ℕ) (a : List ℕ) (slot : ℕ) → next_of program past own.read own.ready ≡ own.due
    → Stays slot (Act a own wrote)
others_stay program apart past own wrote a slot due = mild_stays own.due own.came slot (subst IsMild due (mild program apart past own.read own.ready))

pub neither_sends : (program : Program) → IsNeither program → IsSender program → ⊥
neither_sends (Sender since) it sends = it
neither_sends program it sends = sends

pub gives_sender : (program : Program) (past : List Own) (own : Own) (text : List ℕ) → next_of program past own.read own.ready ≡ own.due → own.due ≡ needs.Give port.Lspawn text
    → (start : ℕ) × (program ≡ Sender start)
gives_sender (Sender start) past own text due gives = (start, refl)
gives_sender program past own text due gives =
    let none : ⊥ = subst IsMild gives (subst IsMild due (mild program (λ sends. sends) past own.read own.ready)) in
    absurd none
