-- A sender that begins.
use Rattle.std.proofs.Common.{◌≡◌, ℕ, List, [], Option, Some, refl, arith}
use Rattle.std.specs.Prelude.{All, IfSome, IsSome}
use Rattle.std.proofs.lemmas.List.Elements.{All-nil}
use Rattle.send_core.specs.Desk.{due_on, never}
use Rattle.send_core.specs.Table.{begun}
use Rattle.send_jobs.specs.declared.attempts.Mark.{Mark}
use Rattle.send_known.specs.declared.channel.Channel.{Channel}
use Rattle.send_known.specs.declared.channel.Channel.TheVariants.{Local, Remote}
use Rattle.send_jobs.specs.declared.jobs.Job.{Job}
use Rattle.send_jobs.specs.Jobs.{job_of}
use Rattle.send_jobs.specs.Sending.{lane}
use Rattle.send_known.specs.declared.known.Known.{Known}
use Rattle.queue_law.specs.Numbers.{Queue, about}
use Rattle.program_law.specs.Channel.Files.{Files, IsOpen}
use Rattle.program_law.specs.Channel.Tied.{IsTied}
use Rattle.program_law.specs.Channel.Tied.First.{Unwritten}
use Rattle.send_jobs.specs.Lanes.{empty}
use Rattle.program_law.specs.Sender.Views.{files_of}
use Rattle.program_law.specs.Sender.Knows.{IsEntered, Knows, Serves}
use Rattle.program_law.specs.Sender.Stands.{LaneStands, SenderStands}

no_job : (q : Queue) (ch : Channel) (n : ℕ) (job : Job) → job_of n [] ≡ Some job → Serves (about q n) ch
no_job q ch n job e = absurd (cc)

none_tied : (files : Files) → IsTied files Unwritten (empty 0)
none_tied files = record {
  to_come = All-nil (IsOpen files);
  in_flight = All-nil (λ s. IfSome s (IsOpen files));
  to_mark = All-nil (λ (m : Mark). IsOpen files m.attempt);
  of_one = λ a e. absurd (cc);
  once = λ n place. omega arith;
  owned = λ n place le. absurd (omega (arith, le));
  accounted = λ n job e. absurd (cc);
}

module _ (now : ℕ) (q : Queue) (a : List ℕ) (turns : Option ℕ) where
  pub begins : SenderStands now q a (begun turns)
  begins = record {
    knows = record {
      known = All-nil (λ (k : Known). Knows (begun turns).row (about q k.n) k);
      due = λ ch. none_due ch;
    };
    lanes = λ ch. on_lane ch;
    apart = λ ch. none_apart ch;
    no_nul = λ h. absurd h;
    rests = (λ ch. bare ch, (λ ch. no_jobs ch, tt));
  }
    where
      none_due : (ch : Channel) → All (λ (e : ℕ × ℕ). Serves (about q e.1) ch) (due_on ch (begun turns).book.messages)
      none_due Local = All-nil (λ (e : ℕ × ℕ). Serves (about q e.1) Local)
      none_due Remote = All-nil (λ (e : ℕ × ℕ). Serves (about q e.1) Remote)

      none_apart : (ch : Channel) → All (λ (e : ℕ × ℕ). IsSome (job_of e.1 (lane ch (begun turns).slots).jobs) → e.0 ≡ never) (due_on ch (begun turns).book.messages)
      none_apart Local = All-nil (λ (e : ℕ × ℕ). IsSome (job_of e.1 []) → e.0 ≡ never)
      none_apart Remote = All-nil (λ (e : ℕ × ℕ). IsSome (job_of e.1 []) → e.0 ≡ never)

      no_jobs : (ch : Channel) → (lane ch (begun turns).slots).jobs ≡ []
      no_jobs Local = refl
      no_jobs Remote = refl

      bare : (ch : Channel) → (lane ch (begun turns).slots).marks ≡ []
      bare Local = refl
      bare Remote = refl

      on_lane : (ch : Channel) → LaneStands q (begun turns).row ch (begun turns).slots
      on_lane Local = record {
        tied = none_tied (files_of q Local);
        jobs = λ n job e. no_job q Local n job e;
        marks = All-nil (λ (m : Mark). IsEntered (about q m.attempt.n) Local m);
      }
      on_lane Remote = record {
        tied = none_tied (files_of q Remote);
        jobs = λ n job e. no_job q Remote n job e;
        marks = All-nil (λ (m : Mark). IsEntered (about q m.attempt.n) Remote m);
      }
