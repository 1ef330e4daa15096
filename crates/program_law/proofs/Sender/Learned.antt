-- A message is known from now on, and due: what is relied on stays.
use Rattle.std.proofs.Common.{◌≡◌, ℕ, List, ◌∷◌, get_or, set, insert, take, drop, Bool, true, false, Option, Some, None, refl}
use Rattle.std.specs.Prelude.{if◌then◌else◌, All, IsSome, position}
use Rattle.std.proofs.lemmas.List.Elements.{All-append, All-cons, All-drop, All-push, All-set, All-take}
use Rattle.send_core.specs.declared.desk.Desk.{Desk}
use Rattle.send_core.specs.Desk.{due_on}
use Rattle.send_known.specs.declared.channel.Channel.{Channel}
use Rattle.send_known.specs.declared.channel.Channel.TheVariants.{Local, Remote}
use Rattle.send_jobs.specs.declared.jobs.Job.{Job}
use Rattle.send_jobs.specs.declared.slots.Slots.{Slots}
use Rattle.send_jobs.specs.Jobs.{job_of}
use Rattle.send_jobs.specs.Sending.{lane}
use Rattle.send_known.specs.declared.known.Known.{Known}
use Rattle.send_known.specs.declared.messages.Messages.{Messages}
use Rattle.send_known.specs.Known.{is_from, is_of, learned_at}
use Rattle.send_known.specs.Messages.{learned, put_if}
use Rattle.queue_law.specs.Numbers.{Queue, about}
use Rattle.program_law.specs.Sender.Knows.{IsKnown, Serves, has_file}
use Rattle.program_law.specs.Sender.Rows.{HasNoJob}
use Rattle.program_law.specs.Sender.Stands.{DueApart}
use Rattle.program_law.proofs.Sender.Apart.{IsApart}
use Rattle.program_law.proofs.Sender.Desks.{OnDesk}
use Rattle.program_law.proofs.Sender.Lanes.{put_each, removed_each}

known_at : (P : Known → Type 0) (k : Known) (ks : List Known) (o : Option ℕ) → P k → All P ks → All P (learned_at o k ks)
known_at P k ks None it h = All-push P ks k h it
known_at P k ks (Some i) it h = by (is_of k.n (get_or ks i k)) where
  by : (b : Bool) → All P (if b then set ks i k else insert ks i k)
  by true = All-set P ks i k it h
  by false = All-append P (take i ks) (k ∷ drop i ks) (All-take P i ks h) (All-cons P k (drop i ks) it (All-drop P i ks h))

pub known_more : (P : Known → Type 0) (k : Known) (due : ℕ) (m : Messages) → P k → All P m.known → All P (learned k due m).known
known_more P k due m it h = known_at P k m.known (position (is_from k.n) m.known) it h

due_if : (P : ℕ × ℕ → Type 0) (b : Bool) (due n : ℕ) (es : List (ℕ × ℕ)) → (b ≡ true → P (due, n)) → All P es → All P (put_if b (due, n) es)
due_if P true due n es f h = put_each P due n es (f refl) h
due_if P false due n es f h = removed_each P n es h

pub due_more : (P : Channel → ℕ × ℕ → Type 0) (k : Known) (due : ℕ) (m : Messages) → ((ch : Channel) → has_file ch k ≡ true → P ch (due, k.n))
    → ((ch : Channel) → All (P ch) (due_on ch m)) → (ch : Channel) → All (P ch) (due_on ch (learned k due m))
due_more P k due m f h Local = due_if (P Local) k.local due k.n m.local (f Local) (h Local)
due_more P k due m f h Remote = due_if (P Remote) k.remote due k.n m.remote (f Remote) (h Remote)

no_some : (o : Option Job) → o ≡ None → IsSome o → ⊥
no_some None e h = absurd (cc)
no_some (Some job) e h = absurd (cc)

pub apart_more : (k : Known) (due : ℕ) (m : Messages) (s : Slots) → ((ch : Channel) → HasNoJob ch k.n s) → DueApart m s → DueApart (learned k due m) s
apart_more k due m s free h ch = due_more (λ c. IsApart (lane c s).jobs) k due m (λ c there some. absurd (no_some (job_of k.n (lane c s).jobs) (free c) some)) h ch

-- of a message that no job is on
pub learned_on : (q : Queue) (k : Known) (due : ℕ) (d : Desk) → OnDesk q d → IsKnown (about q k.n) k
    → ((ch : Channel) → has_file ch k ≡ true → Serves (about q k.n) ch) → ((ch : Channel) → HasNoJob ch k.n d.slots)
    → OnDesk q (record d { book = record d.book { messages = learned k due d.book.messages } })
learned_on q k due d h it serves free = record {
  known = known_more (λ (x : Known). IsKnown (about q x.n) x) k due d.book.messages it h.known;
  due = λ ch. due_more (λ c (e : ℕ × ℕ). Serves (about q e.1) c) k due d.book.messages serves h.due ch;
  lanes = h.lanes;
  apart = apart_more k due d.book.messages d.slots free h.apart;
  no_nul = h.no_nul;
}
