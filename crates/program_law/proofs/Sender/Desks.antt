-- What holds of a sender's desk over the queue while no mark is at work, and how that is what it relies on at a row.
use Rattle.address_rules.specs.Nuls.{HaveNoNul}
use Rattle.std.proofs.Common.{◌≡◌, ℕ, List, Option, Some, None, sym, subst}
use Rattle.std.specs.Prelude.{All}
use Rattle.std.proofs.lemmas.List.Elements.{All-weaker}
use Rattle.send_core.specs.declared.desk.Desk.{Desk}
use Rattle.send_parts.specs.declared.row.Row.{Row}
use Rattle.send_core.specs.Desk.{due_again, retried_if, retry_of}
use Rattle.send_jobs.specs.declared.attempts.Mark.{Mark}
use Rattle.send_known.specs.declared.channel.Channel.{Channel}
use Rattle.send_known.specs.declared.channel.Channel.TheVariants.{Local, Remote}
use Rattle.send_jobs.specs.declared.jobs.Job.{Job}
use Rattle.send_jobs.specs.declared.slots.Slots.{Slots}
use Rattle.send_jobs.specs.Lanes.{ended, job_over}
use Rattle.send_jobs.specs.Sending.{lane}
use Rattle.send_known.specs.declared.known.Known.{Known}
use Rattle.send_parts.specs.declared.book.Book.{Book}
use Rattle.program_law.specs.Channel.Tied.{First, IsTied, waiting}
use Rattle.program_law.specs.Channel.Tied.First.{Unwritten}
use Rattle.queue_law.specs.Numbers.{Queue, About, about}
use Rattle.program_law.specs.Sender.Views.{files_of, first_at}
use Rattle.program_law.specs.Sender.Knows.{IsEntered, IsKnown, IsLeaving, Knows, Serves}
use Rattle.program_law.specs.Sender.Knows.Knows.{Stays, Leaves}
use Rattle.program_law.specs.Sender.Rows.{RowStands, Works, works}
use Rattle.program_law.specs.Sender.Stands.{DueApart, Stands}
use Rattle.program_law.proofs.Sender.Apart.{apart_again}
use Rattle.program_law.proofs.Sender.Arrive.{IsPlain}
use Rattle.program_law.proofs.Sender.Lanes.{AllServe, OnBoth, OnLane, ended_on, lane_on, over_there, then_on}

pub record OnDesk (q : Queue) (d : Desk) : Type 0 where
  pub known : All (λ (k : Known). IsKnown (about q k.n) k) d.book.messages.known
  pub due : AllServe q d.book.messages
  pub lanes : OnBoth q d.slots
  pub apart : DueApart d.book.messages d.slots
  pub no_nul : HaveNoNul d.book.controls

stays_known : (row : Row) (w : About) (k : Known) → (IsLeaving row k.n → ⊥) → Knows row w k → IsKnown w k
stays_known row w k f (Stays h) = h
stays_known row w k f (Leaves h) = absurd (f h)

pub lane_of : (now : ℕ) (q : Queue) (a : List ℕ) (row : Row) (b : Book) (s : Slots) (p : Works) → Stands now q a row b s p
    → (ch : Channel) → first_at row ch ≡ Unwritten → OnLane q ch (lane ch s)
lane_of now q a row b s p h ch e = let l = h.lanes ch in record {
  tied = subst (λ (f : First). IsTied (files_of q ch) f (lane ch s)) e l.tied;
  jobs = l.jobs;
  marks = subst (λ (f : First). All (λ (m : Mark). IsEntered (about q m.attempt.n) ch m) (waiting f (lane ch s).marks)) e l.marks;
}

-- what a sender relies on at such a row
pub on_of : (now : ℕ) (q : Queue) (a : List ℕ) (row : Row) (d : Desk) → IsPlain row → ((n : ℕ) → IsLeaving row n → ⊥)
    → Stands now q a row d.book d.slots (works d) → OnDesk q d
on_of now q a row d plain stays h = record {
  known = All-weaker (λ (k : Known). Knows row (about q k.n) k) (λ (k : Known). IsKnown (about q k.n) k) (λ k. stays_known row (about q k.n) k (stays k.n))
      d.book.messages.known h.knows.known;
  due = h.knows.due;
  lanes = λ ch. lane_of now q a row d.book d.slots (works d) h ch (plain.first ch);
  apart = h.apart;
  no_nul = h.no_nul plain.controls_read;
}

-- and the other way, with what the row rests on
pub stand : (now : ℕ) (q : Queue) (a : List ℕ) (row : Row) (d : Desk) → ((ch : Channel) → first_at row ch ≡ Unwritten) → OnDesk q d
    → RowStands now q a row d.book d.slots (works d) → Stands now q a row d.book d.slots (works d)
stand now q a row d plain h rests = record {
  knows = record {
    known = All-weaker (λ (k : Known). IsKnown (about q k.n) k) (λ (k : Known). Knows row (about q k.n) k) (λ k w. Stays w) d.book.messages.known h.known;
    due = h.due;
  };
  lanes = λ ch. let l = h.lanes ch in record {
    tied = subst (λ (f : First). IsTied (files_of q ch) f (lane ch d.slots)) (sym (plain ch)) l.tied;
    jobs = l.jobs;
    marks = subst (λ (f : First). All (λ (m : Mark). IsEntered (about q m.attempt.n) ch m) (waiting f (lane ch d.slots).marks)) (sym (plain ch)) l.marks;
  };
  apart = h.apart;
  no_nul = λ _. h.no_nul;
  rests = rests;
}

-- no job is on a message any more, and it is due then
pub due_again_on : (q : Queue) (c : Channel) (n due : ℕ) (d : Desk) → OnDesk q d → Serves (about q n) c
    → OnLane q c (ended n (lane c d.slots)) → OnDesk q (due_again c n due d)
due_again_on q Local n due d h serves over = record {
  known = h.known;
  due = then_on q Local n due d.book.messages serves h.due;
  lanes = lane_on q Local (ended n) d.slots h.lanes over;
  apart = apart_again Local n due d.book.messages d.slots h.apart;
  no_nul = h.no_nul;
}
due_again_on q Remote n due d h serves over = record {
  known = h.known;
  due = then_on q Remote n due d.book.messages serves h.due;
  lanes = lane_on q Remote (ended n) d.slots h.lanes over;
  apart = apart_again Remote n due d.book.messages d.slots h.apart;
  no_nul = h.no_nul;
}

-- a job that is over is due again
pub retried_on : (q : Queue) (c : Channel) (n : ℕ) (o : Option Job) (d : Desk) → job_over n (lane c d.slots) ≡ o → OnDesk q d
    → OnDesk q (retried_if o c n d)
retried_on q c n None d e h = h
retried_on q c n (Some job) d e h =
    let l = h.lanes c in
    due_again_on q c n (retry_of c n job.begun d) d h (l.jobs n job (over_there n (lane c d.slots) job e)) (ended_on q c (lane c d.slots) l n job e)
