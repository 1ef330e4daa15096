-- Jobs are a map from the numbers of messages.
use Rattle.std.proofs.Common.{◌≡◌, ℕ, List, [], ◌∷◌, ◌++◌, true, false, not, cond, eqb, Some, None, refl, sym, ap, ◌∙◌, ⊎_elim}
use Rattle.std.specs.Prelude.{if◌then◌else◌, ◌==◌}
use Rattle.std.specs.Option.{option_map}
use Rattle.std.proofs.lemmas.Bool.{cases_Bool, cases_eq, cond-true, cond-false, eq-eqb, ne_eqb, eqb-true}
use Rattle.send_jobs.specs.declared.jobs.Job.{Job}
use Rattle.send_jobs.specs.Jobs.{is_job_of, job_of, without, put, unmark, unmarked_if}

-- the job on a message is not among those on others
none_without : (n : ℕ) (jobs : List Job) → job_of n (without n jobs) ≡ None
none_without n [] = refl
none_without n (j ∷ jobs) = ⊎_elim
    (λ yes. ap (λ t. job_of n (cond (not t) (j ∷ without n jobs) (without n jobs))) yes ∙ none_without n jobs)
    (λ no. ap (λ t. job_of n (cond (not t) (j ∷ without n jobs) (without n jobs))) no ∙ ap (λ t. cond t (Some j) (job_of n (without n jobs))) no ∙ none_without n jobs)
    (cases_Bool (is_job_of n j))

-- those on other messages are
same_without : (m n : ℕ) (jobs : List Job) → (m ≡ n → ⊥) → job_of n (without m jobs) ≡ job_of n jobs
same_without m n [] apart = refl
same_without m n (j ∷ jobs) apart = ⊎_elim
    (λ yes.
    let other : is_job_of n j ≡ false = ne_eqb j.n n (λ e. apart (sym (eqb-true j.n m yes) ∙ e)) in
    ap (λ t. job_of n (cond (not t) (j ∷ without m jobs) (without m jobs))) yes ∙ same_without m n jobs apart ∙ sym (ap (λ t. cond t (Some j) (job_of n jobs)) other))
    (λ no.
    ap (λ t. job_of n (cond (not t) (j ∷ without m jobs) (without m jobs))) no ∙ ap (λ o. cond (is_job_of n j) (Some j) o) (same_without m n jobs apart))
    (cases_Bool (is_job_of m j))

pub job_without : (m n : ℕ) (jobs : List Job) → job_of n (without m jobs) ≡ (if m == n then None else job_of n jobs)
job_without m n jobs = ⊎_elim
    (λ same. ap (λ k. job_of n (without k jobs)) same ∙ none_without n jobs ∙ sym (cond-true (eqb m n) None (job_of n jobs) (eq-eqb m n same)))
    (λ apart. same_without m n jobs apart ∙ sym (cond-false (eqb m n) None (job_of n jobs) (ne_eqb m n apart)))
    (cases_eq m n)

-- of a list and one job after it
find_pushed : (n : ℕ) (jobs : List Job) (job : Job) → (job.n ≡ n → job_of n jobs ≡ None)
    → job_of n (jobs ++ job ∷ []) ≡ (if job.n == n then Some job else job_of n jobs)
find_pushed n [] job h = refl
find_pushed n (j ∷ jobs) job h = ⊎_elim
    (λ yes.
    let clash : job.n ≡ n → ⊥ = λ e. let none = sym (ap (λ t. cond t (Some j) (job_of n jobs)) yes) ∙ h e in absurd (cc none) in
    ap (λ t. cond t (Some j) (job_of n (jobs ++ job ∷ []))) yes ∙ sym (cond-false (eqb job.n n) (Some job) (job_of n (j ∷ jobs)) (ne_eqb job.n n clash) ∙ ap (λ t. cond t (Some j) (job_of n jobs)) yes))
    (λ no.
    ap (λ t. cond t (Some j) (job_of n (jobs ++ job ∷ []))) no
    ∙ find_pushed n jobs job (λ e. sym (ap (λ t. cond t (Some j) (job_of n jobs)) no) ∙ h e)
    ∙ ap (λ o. if job.n == n then Some job else o) (sym (ap (λ t. cond t (Some j) (job_of n jobs)) no)))
    (cases_Bool (is_job_of n j))

pub job_put : (job : Job) (n : ℕ) (jobs : List Job) → job_of n (put job jobs) ≡ (if job.n == n then Some job else job_of n jobs)
job_put job n jobs =
    find_pushed n (without job.n jobs) job (λ e. ap (λ k. job_of n (without k jobs)) e ∙ none_without n jobs)
    ∙ ⊎_elim
    (λ same. cond-true (eqb job.n n) (Some job) (job_of n (without job.n jobs)) (eq-eqb job.n n same) ∙ sym (cond-true (eqb job.n n) (Some job) (job_of n jobs) (eq-eqb job.n n same)))
    (λ apart. ap (λ o. if job.n == n then Some job else o) (same_without job.n n jobs apart))
    (cases_eq job.n n)

same_number : (m : ℕ) (j : Job) → (unmarked_if m j).n ≡ j.n
same_number m j = ⊎_elim (λ yes. ap (λ t. (cond t (record j { unmarked = true }) j).n) yes) (λ no. ap (λ t. (cond t (record j { unmarked = true }) j).n) no) (cases_Bool (is_job_of m j))

-- each job is still at its place
job_mapped : (m n : ℕ) (jobs : List Job) → job_of n (unmark m jobs) ≡ option_map (unmarked_if m) (job_of n jobs)
job_mapped m n [] = refl
job_mapped m n (j ∷ jobs) =
    ap (λ k. cond (eqb k n) (Some (unmarked_if m j)) (job_of n (unmark m jobs))) (same_number m j)
    ∙ ⊎_elim
    (λ yes. ap (λ t. cond t (Some (unmarked_if m j)) (job_of n (unmark m jobs))) yes ∙ sym (ap (λ t. option_map (unmarked_if m) (cond t (Some j) (job_of n jobs))) yes))
    (λ no. ap (λ t. cond t (Some (unmarked_if m j)) (job_of n (unmark m jobs))) no ∙ job_mapped m n jobs ∙ sym (ap (λ t. option_map (unmarked_if m) (cond t (Some j) (job_of n jobs))) no))
    (cases_Bool (is_job_of n j))

-- a job that is found is on its message
found_on : (n : ℕ) (jobs : List Job) (m : ℕ) → (m ≡ n → ⊥) → option_map (unmarked_if m) (job_of n jobs) ≡ job_of n jobs
found_on n [] m apart = refl
found_on n (j ∷ jobs) m apart = ⊎_elim
    (λ yes.
    let other : is_job_of m j ≡ false = ne_eqb j.n m (λ e. apart (sym e ∙ eqb-true j.n n yes)) in
    ap (λ t. option_map (unmarked_if m) (cond t (Some j) (job_of n jobs))) yes
    ∙ ap Some (cond-false (is_job_of m j) (record j { unmarked = true }) j other)
    ∙ sym (ap (λ t. cond t (Some j) (job_of n jobs)) yes))
    (λ no.
    ap (λ t. option_map (unmarked_if m) (cond t (Some j) (job_of n jobs))) no ∙ found_on n jobs m apart ∙ sym (ap (λ t. cond t (Some j) (job_of n jobs)) no))
    (cases_Bool (is_job_of n j))

pub job_unmarked : (m n : ℕ) (jobs : List Job) → job_of n (unmark m jobs) ≡ (if m == n then option_map (unmarked_if m) (job_of n jobs) else job_of n jobs)
job_unmarked m n jobs =
    job_mapped m n jobs
    ∙ ⊎_elim
    (λ same. sym (cond-true (eqb m n) (option_map (unmarked_if m) (job_of n jobs)) (job_of n jobs) (eq-eqb m n same)))
    (λ apart. found_on n jobs m apart ∙ sym (cond-false (eqb m n) (option_map (unmarked_if m) (job_of n jobs)) (job_of n jobs) (ne_eqb m n apart)))
    (cases_eq m n)
