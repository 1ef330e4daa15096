-- A step that concerns one number, of which no channel file is served, leaves what a sender keeps of the others.
use Rattle.std.proofs.Common.{◌≡◌, ◌≢◌, ◌⊎◌, inl, inr, ℕ, List, [], Option, Some, None, sym, ap, ◌∙◌, subst}
use Rattle.std.specs.Prelude.{All}
use Rattle.std.proofs.lemmas.List.Elements.{All-nil, All-weaker}
use Rattle.send_core.specs.Desk.{due_on}
use Rattle.send_jobs.specs.declared.attempts.Mark.{Mark}
use Rattle.send_known.specs.declared.channel.Channel.{Channel}
use Rattle.send_jobs.specs.declared.lane.Lane.{Lane}
use Rattle.send_jobs.specs.Jobs.{job_of}
use Rattle.send_known.specs.declared.messages.Messages.{Messages}
use Rattle.program_law.specs.Channel.Tied.First.{Unwritten}
use Rattle.program_law.proofs.Channel.Ties.{others_kept}
use Rattle.queue_law.specs.Numbers.{About, Queue, about}
use Rattle.queue_law.specs.Routes.{lane_part}
use Rattle.queue_law.specs.Steps.{Elsewhere}
use Rattle.queue_law.proofs.Frame.{about_same}
use Rattle.program_law.specs.Sender.Views.{files_of, records_at}
use Rattle.program_law.specs.Sender.Knows.{IsEntered, Serves}
use Rattle.program_law.proofs.Sender.Lanes.{AllServe, OnLane}
use Rattle.program_law.proofs.Sender.Others.{the_job}

some_number : (n k : ℕ) → ◌≡◌ {A = Option ℕ} (Some n) (Some k) → k ≡ n
some_number n k e = cc

pub far_by : (now : ℕ) (a : List ℕ) (n : ℕ) (q r : Queue) → Elsewhere now a (Some n) q r → (k : ℕ) → k ≢ n → about r k ≡ about q k
far_by now a n q r E k far = about_same now a (Some n) q r E k (λ e. far (some_number n k e))

pub far_if : (now : ℕ) (a : List ℕ) (n : ℕ) (number : Option ℕ) (q r : Queue) → Elsewhere now a number q r → (number ≡ None) ⊎ (number ≡ Some n) → (k : ℕ) → k ≢ n
    → about r k ≡ about q k
far_if now a n number q r E only k far = about_same now a number q r E k (λ e. apart only e)
  where
    apart : (number ≡ None) ⊎ (number ≡ Some n) → number ≡ Some k → ⊥
    apart (inl none) e = absurd (cc)
    apart (inr some) e = far (some_number n k (sym some ∙ e))

module _ (q r : Queue) (n : ℕ) (same : (k : ℕ) → k ≢ n → about r k ≡ about q k) where
  serves_far : (k : ℕ) (ch : Channel) → k ≢ n → Serves (about q k) ch → Serves (about r k) ch
  serves_far k ch far h = subst (λ (w : About). Serves w ch) (sym (same k far)) h

  unlike : (k : ℕ) (ch : Channel) → (Serves (about q n) ch → ⊥) → Serves (about q k) ch → k ≢ n
  unlike k ch none h e = none (subst (λ (m : ℕ). Serves (about q m) ch) e h)

  pub lane_far : (ch : Channel) (l : Lane) → (Serves (about q n) ch → ⊥) → OnLane q ch l → l.marks ≡ [] → OnLane r ch l
  lane_far ch l none h bare = record {
    tied = others_kept (files_of q ch) (files_of r ch) Unwritten l h.tied
        (λ k some. let job = the_job (job_of k l.jobs) some in
        ap (λ (w : About). records_at (w.parts (lane_part ch))) (same k (unlike k ch none (h.jobs k job.0 job.1))));
    jobs = λ k job e. let s = h.jobs k job e in serves_far k ch (unlike k ch none s) s;
    marks = subst (All (λ (m : Mark). IsEntered (about r m.attempt.n) ch m)) (sym bare) (All-nil (λ (m : Mark). IsEntered (about r m.attempt.n) ch m));
  }

  pub due_far : (m : Messages) → ((ch : Channel) → Serves (about q n) ch → ⊥) → AllServe q m → AllServe r m
  due_far m none h ch = All-weaker (λ (e : ℕ × ℕ). Serves (about q e.1) ch) (λ (e : ℕ × ℕ). Serves (about r e.1) ch)
      (λ e s. serves_far e.1 ch (unlike e.1 ch (none ch) s) s) (due_on ch m) (h ch)
