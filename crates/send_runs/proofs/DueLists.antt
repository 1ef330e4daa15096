-- What each change of the schedules and of the jobs leaves of what was due and begun.
use Rattle.std.proofs.Common.{◌≡◌, ◌⊎◌, ℕ, List, [], ◌∷◌, ◌++◌, filter, find, cond, Bool, true, false, not, if◌then◌else◌, Option, Some, refl, sym, ap, ◌∙◌, subst, inl, inr, ⊎_elim, eqb-true, eq-eqb}
use Rattle.std.specs.Prelude.{◌==◌}
use Rattle.std.proofs.lemmas.Bool.{or_left, or_right}
use Rattle.call_fs.specs.Disk.{Among}
use Rattle.retry_schedule.specs.Due.{added, before, is_due, moved, put, removed}
use Rattle.send_known.specs.declared.channel.Channel.{Channel}
use Rattle.send_known.specs.declared.channel.Channel.TheVariants.{Local, Remote}
use Rattle.send_jobs.specs.declared.jobs.Job.{Job}
use Rattle.send_jobs.specs.Jobs.{is_job_of, job_of, new_job, put as put_job, unmark, unmarked_if, without}
use Rattle.send_jobs.specs.Tries.{due_on, due_then, file_gone}
use Rattle.send_known.specs.declared.known.Known.{Known}
use Rattle.send_known.specs.declared.messages.Messages.{Messages}
use Rattle.send_known.specs.Messages.{forgotten, learned, put_if}

-- One schedule

abbrev Entry : Type 0
Entry = ℕ × ℕ

among_split : (x : Entry) (es fs : List Entry) → Among x (es ++ fs) → Among x es ⊎ Among x fs
among_split x [] fs h = inr h
among_split x (e ∷ es) fs h = ⊎_elim (λ (same : x ≡ e). inl (inl same)) (λ (more : Among x (es ++ fs)). ⊎_elim (λ (w : Among x es). inl (inr w)) (λ (w : Among x fs). inr w) (among_split x es fs more)) h

among_filter : (x : Entry) (p : Entry → Bool) (es : List Entry) → Among x (filter p es) → Among x es × (p x ≡ true)
among_filter x p [] h = absurd h
among_filter x p (e ∷ es) h = by (λ more. among_filter x p es more) (p e) refl h where
  by : (Among x (filter p es) → Among x es × (p x ≡ true)) → (b : Bool) → p e ≡ b → Among x (cond b (e ∷ filter p es) (filter p es)) → Among x (e ∷ es) × (p x ≡ true)
  by later true is h = ⊎_elim (λ (same : x ≡ e). (inl same, ap p same ∙ is)) (λ (more : Among x (filter p es)). let w = later more in (inr w.0, w.1)) h
  by later false is h = let w = later h in (inr w.0, w.1)

not_is : (b : Bool) → not b ≡ true → b ≡ false
not_is true e = absurd (cc e)
not_is false e = refl

among_removed : (x n m : ℕ) (es : List Entry) → Among (x, n) (removed m es) → Among (x, n) es × (n ≡ m → ⊥)
among_removed x n m es h =
    let w = among_filter (x, n) (λ (e : Entry). not (e.1 == m)) es h in
    (w.0, λ same. let bad : (n == m) ≡ true = eq-eqb n m same in absurd (cc (sym (not_is (n == m) w.1) ∙ bad)))

among_added : (x e : Entry) (es : List Entry) → Among x (added e es) → (x ≡ e) ⊎ Among x es
among_added x e es h = ⊎_elim
    (λ (low : Among x (filter (λ o. before o e) es)). inr (among_filter x (λ o. before o e) es low).0)
    (λ (rest : Among x (e ∷ filter (λ o. before e o) es)). ⊎_elim
    (λ (same : x ≡ e). inl same)
    (λ (high : Among x (filter (λ o. before e o) es)). inr (among_filter x (λ o. before e o) es high).0)
    rest)
    (among_split x (filter (λ o. before o e) es) (e ∷ filter (λ o. before e o) es) h)

-- it is the new entry of that number, or an old one of another
abbrev Put : ℕ → ℕ → ℕ → ℕ → List Entry → Type 0
Put x n due m es = ((x ≡ due) × (n ≡ m)) ⊎ (Among (x, n) es × (n ≡ m → ⊥))

among_put : (x n due m : ℕ) (es : List Entry) → Among (x, n) (put (due, m) es) → Put x n due m es
among_put x n due m es h = ⊎_elim
    (λ (same : ◌≡◌ {A = Entry} (x, n) (due, m)). inl (ap (λ (e : Entry). e.0) same, ap (λ (e : Entry). e.1) same))
    (λ (old : Among (x, n) (removed m es)). inr (among_removed x n m es old))
    (among_added (x, n) (due, m) (removed m es) h)

among_due : (x n : ℕ) (es : List Entry) → Among (x, n) es → is_due n es ≡ true
among_due x n [] h = absurd h
among_due x n (e ∷ es) h = ⊎_elim
    (λ (same : ◌≡◌ {A = Entry} (x, n) e). or_left (e.1 == n) (is_due n es) (eq-eqb e.1 n (ap (λ (o : Entry). o.1) (sym same))))
    (λ (more : Among (x, n) es). or_right (e.1 == n) (is_due n es) (among_due x n es more))
    h

pub among_moved : (x n due m : ℕ) (es : List Entry) → Among (x, n) (moved (due, m) es) → ((x ≡ due) × (n ≡ m) × (is_due m es ≡ true)) ⊎ (Among (x, n) es × (n ≡ m → ⊥))
among_moved x n due m es h = by (is_due m es) refl h where
  by : (b : Bool) → is_due m es ≡ b → Among (x, n) (if b then put (due, m) es else es) → ((x ≡ due) × (n ≡ m) × (is_due m es ≡ true)) ⊎ (Among (x, n) es × (n ≡ m → ⊥))
  by true is h = ⊎_elim (λ (new : (x ≡ due) × (n ≡ m)). inl (new.0, new.1, is)) (λ (old : Among (x, n) es × (n ≡ m → ⊥)). inr old) (among_put x n due m es h)
  by false is h = inr (h, λ same. let bad : is_due m es ≡ true = subst (λ (k : ℕ). is_due k es ≡ true) same (among_due x n es h) in absurd (cc (sym is ∙ bad)))

among_if : (b : Bool) (x n due m : ℕ) (es : List Entry) → Among (x, n) (put_if b (due, m) es) → Put x n due m es
among_if true x n due m es h = among_put x n due m es h
among_if false x n due m es h = inr (among_removed x n m es h)

-- The schedules of both channels

-- each entry is right
abbrev pub Dues : (Channel → ℕ → ℕ → Type 0) → Messages → Type 0
Dues D m = (c : Channel) (n due : ℕ) → Among (due, n) (due_on c m) → D c n due

-- those of all but one message on one channel
abbrev pub DuesBut : (Channel → ℕ → ℕ → Type 0) → Channel → ℕ → Messages → Type 0
DuesBut D c n m = (e : Channel) (k due : ℕ) → Among (due, k) (due_on e m) → ((e ≡ c) → (k ≡ n) → ⊥) → D e k due

pub but_one : (D : Channel → ℕ → ℕ → Type 0) (c : Channel) (n : ℕ) (m : Messages) → Dues D m → DuesBut D c n m
but_one D c n m h = λ e k due among other. h e k due among

module _ (D : Channel → ℕ → ℕ → Type 0) where
  new_entry : (c : Channel) (n due x k : ℕ) → D c n due → x ≡ due → k ≡ n → D c k x
  new_entry c n due x k d same at = subst (λ (i : ℕ). D c i x) (sym at) (subst (λ (y : ℕ). D c n y) (sym same) d)

  pub dues_moved : (c : Channel) (n due : ℕ) (m : Messages) → (is_due n (due_on c m) ≡ true → D c n due) → DuesBut D c n m → Dues D (due_then c n due m)
  dues_moved Local n due m new old Local k x h = ⊎_elim
      (λ (w : (x ≡ due) × (k ≡ n) × (is_due n m.local ≡ true)). new_entry Local n due x k (new w.2) w.0 w.1)
      (λ (w : Among (x, k) m.local × (k ≡ n → ⊥)). old Local k x w.0 (λ same at. w.1 at))
      (among_moved x k due n m.local h)
  dues_moved Local n due m new old Remote k x h = old Remote k x h (λ same at. cc)
  dues_moved Remote n due m new old Local k x h = old Local k x h (λ same at. cc)
  dues_moved Remote n due m new old Remote k x h = ⊎_elim
      (λ (w : (x ≡ due) × (k ≡ n) × (is_due n m.remote ≡ true)). new_entry Remote n due x k (new w.2) w.0 w.1)
      (λ (w : Among (x, k) m.remote × (k ≡ n → ⊥)). old Remote k x w.0 (λ same at. w.1 at))
      (among_moved x k due n m.remote h)

  pub dues_gone : (c : Channel) (n : ℕ) (m : Messages) → DuesBut D c n m → Dues D (file_gone c n m)
  dues_gone Local n m old Local k x h = let w = among_removed x k n m.local h in old Local k x w.0 (λ same at. w.1 at)
  dues_gone Local n m old Remote k x h = old Remote k x h (λ same at. cc)
  dues_gone Remote n m old Local k x h = old Local k x h (λ same at. cc)
  dues_gone Remote n m old Remote k x h = let w = among_removed x k n m.remote h in old Remote k x w.0 (λ same at. w.1 at)

  pub dues_learned : (k : Known) (due : ℕ) (m : Messages) → ((c : Channel) → D c k.n due) → ((c : Channel) (n x : ℕ) → Among (x, n) (due_on c m) → (n ≡ k.n → ⊥) → D c n x) → Dues D (learned k due m)
  dues_learned k due m new old Local n x h = ⊎_elim
      (λ (w : (x ≡ due) × (n ≡ k.n)). new_entry Local k.n due x n (new Local) w.0 w.1)
      (λ (w : Among (x, n) m.local × (n ≡ k.n → ⊥)). old Local n x w.0 w.1)
      (among_if k.local x n due k.n m.local h)
  dues_learned k due m new old Remote n x h = ⊎_elim
      (λ (w : (x ≡ due) × (n ≡ k.n)). new_entry Remote k.n due x n (new Remote) w.0 w.1)
      (λ (w : Among (x, n) m.remote × (n ≡ k.n → ⊥)). old Remote n x w.0 w.1)
      (among_if k.remote x n due k.n m.remote h)

  pub dues_forgotten : (n : ℕ) (m : Messages) → Dues D m → Dues D (forgotten n m)
  dues_forgotten n m h Local k x among = h Local k x (among_removed x k n m.local among).0
  dues_forgotten n m h Remote k x among = h Remote k x (among_removed x k n m.remote among).0

-- Jobs

-- each began when that says
abbrev pub EachJob : (ℕ → Option ℕ) → List Job → Type 0
EachJob of [] = Unit {0}
EachJob of (job ∷ jobs) = (of job.n ≡ Some job.begun) × EachJob of jobs

pub jobs_same : (of says : ℕ → Option ℕ) (jobs : List Job) → ((n : ℕ) → says n ≡ of n) → EachJob of jobs → EachJob says jobs
jobs_same of says [] same h = tt
jobs_same of says (job ∷ jobs) same h = (same job.n ∙ h.0, jobs_same of says jobs same h.1)

one_unmarked : (of : ℕ → Option ℕ) (n : ℕ) (job : Job) → of job.n ≡ Some job.begun → of (unmarked_if n job).n ≡ Some (unmarked_if n job).begun
one_unmarked of n job h = by (is_job_of n job) where
  by : (b : Bool) → let it : Job = if b then record job { unmarked = true } else job in of it.n ≡ Some it.begun
  by true = h
  by false = h

pub jobs_unmarked : (of : ℕ → Option ℕ) (n : ℕ) (jobs : List Job) → EachJob of jobs → EachJob of (unmark n jobs)
jobs_unmarked of n [] h = tt
jobs_unmarked of n (job ∷ jobs) h = (one_unmarked of n job h.0, jobs_unmarked of n jobs h.1)

-- of the jobs on other messages it may say something else of this one
pub jobs_without : (of says : ℕ → Option ℕ) (n : ℕ) (jobs : List Job) → ((k : ℕ) → (k ≡ n → ⊥) → says k ≡ of k) → EachJob of jobs → EachJob says (without n jobs)
jobs_without of says n [] same h = tt
jobs_without of says n (job ∷ jobs) same h = by (job.n == n) refl (jobs_without of says n jobs same h.1) where
  by : (b : Bool) → (job.n == n) ≡ b → EachJob says (without n jobs) → EachJob says (cond (not b) (job ∷ without n jobs) (without n jobs))
  by true is rest = rest
  by false is rest = (same job.n (λ at. let bad : (job.n == n) ≡ true = eq-eqb job.n n at in absurd (cc (sym is ∙ bad))) ∙ h.0, rest)

jobs_end : (of : ℕ → Option ℕ) (jobs : List Job) (job : Job) → of job.n ≡ Some job.begun → EachJob of jobs → EachJob of (jobs ++ job ∷ [])
jobs_end of [] job new h = (new, tt)
jobs_end of (x ∷ jobs) job new h = (h.0, jobs_end of jobs job new h.1)

pub jobs_begun : (of says : ℕ → Option ℕ) (n begun : ℕ) (jobs : List Job) → says n ≡ Some begun → ((k : ℕ) → (k ≡ n → ⊥) → says k ≡ of k) → EachJob of jobs → EachJob says (put_job (new_job n begun) jobs)
jobs_begun of says n begun jobs new same h = jobs_end says (without n jobs) (new_job n begun) new (jobs_without of says n jobs same h)

pub job_began : (of : ℕ → Option ℕ) (n : ℕ) (job : Job) (jobs : List Job) → job_of n jobs ≡ Some job → EachJob of jobs → of n ≡ Some job.begun
job_began of n job [] e h = absurd (cc)
job_began of n job (x ∷ jobs) e h = by (λ found. job_began of n job jobs found h.1) (x.n == n) refl e where
  by : (job_of n jobs ≡ Some job → of n ≡ Some job.begun) → (b : Bool) → (x.n == n) ≡ b → cond b (Some x) (find (is_job_of n) jobs) ≡ Some job → of n ≡ Some job.begun
  by later true is e = let same : x ≡ job = cc in subst (λ (j : Job). of n ≡ Some j.begun) same (subst (λ (k : ℕ). of k ≡ Some x.begun) (eqb-true x.n n is) h.0)
  by later false is e = later e
