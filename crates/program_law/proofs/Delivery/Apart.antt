-- Names of drops are apart from those of others: in the names of others no `t` and no `n` comes after a `/`, or no second `/` comes.
use Rattle.std.proofs.Common.{◌≡◌, ◌≢◌, inl, inr, ℕ, ◌≤◌, List, [], ◌∷◌, ◌++◌, Bool, true, false, Contains, codes, eqb, refl, sym, ap, ◌∙◌, subst, ⊎_elim, append_assoc, arith}
use Rattle.std.specs.Prelude.{if◌then◌else◌, ◌==◌}
use Rattle.std.specs.List.{AllByRecursion}
use Rattle.std.proofs.lemmas.Bool.Decides.{eqb_tells}
use Rattle.std.proofs.lemmas.List.Elements.{Contains-append_right}
use Rattle.address_rules.specs.declared.control_file.ControlFile.{ControlFile}
use Rattle.address_rules.specs.declared.control_file.ControlFile.TheVariants.{Me, Locals, PercentHack, VirtualDomains, EnvNoAtHost, BounceFrom, BounceHost, DoubleBounceTo, DoubleBounceHost, ConcurrencyLocal, ConcurrencyRemote, QueueLifetime}
use Rattle.address_rules.specs.Files.{name as file_name}
use Rattle.dot_qmail.specs.Paths.{EndsInSlash}
use Rattle.mail_bytes.specs.Decimal.{IsDigit, digits}
use Rattle.mail_bytes.proofs.Digits.{digits_only}
use Rattle.maildir_drop.specs.declared.arguments.Arguments.{Arguments}
use Rattle.maildir_drop.specs.declared.row.Attempt.{Attempt}
use Rattle.maildir_drop.specs.declared.row.Attempt.TheVariants.{First, Second, Third}
use Rattle.maildir_drop.specs.Names.{names_of, pair_at, file_name as drop_name}
use Rattle.queue_clean.specs.Table.{pid_path}
use Rattle.queue_paths.specs.Names.{Name, path, split, split_text}
use Rattle.queue_paths.specs.Names.Name.{Pid, Of}
use Rattle.queue_paths.specs.Names.Part.{Mess, Intd, Todo, Info, Local, Remote, Bounce, SplitIntd, SplitTodo}
use Rattle.queue_law.specs.Cleaners.{IsOnePart}
use Rattle.send_parts.specs.Steps.{control_text}
use Rattle.program_law.specs.Delivery.Names.{IsDropName, IsTmpName, NamesAreApart}

-- Texts in which no `t` and no `n` comes after a `/`

-- a text begins with neither
abbrev IsFar : List ℕ → Type 0
IsFar [] = Unit {0}
IsFar (b ∷ rest) = (b ≢ 116) × (b ≢ 110)

-- so does what comes after each `/`
abbrev AreFar : List ℕ → Type 0
AreFar [] = Unit {0}
AreFar (b ∷ rest) = (b ≡ 47 → IsFar rest) × AreFar rest

after_slash : (front rest : List ℕ) → AreFar (front ++ 47 ∷ rest) → IsFar rest
after_slash [] rest h = h.0 refl
after_slash (b ∷ front) rest h = after_slash front rest h.1

no_drop : (name : List ℕ) → AreFar name → IsDropName name → ⊥
no_drop name far h = ⊎_elim
    (λ (tmp : name ≡ h.front ++ (codes "/tmp/" ++ h.rest)). (after_slash h.front (codes "tmp/" ++ h.rest) (subst AreFar tmp far)).0 refl)
    (λ (new : name ≡ h.front ++ (codes "/new/" ++ h.rest)). (after_slash h.front (codes "new/" ++ h.rest) (subst AreFar new far)).1 refl)
    h.is

-- Tests of words

-- no `/` is in it
abbrev plain : List ℕ → Bool
plain [] = true
plain (b ∷ word) = if b == 47 then false else plain word

abbrev begins_far : List ℕ → Bool
begins_far [] = true
begins_far (b ∷ rest) = if b == 116 then false else (if b == 110 then false else true)

differ : ◌≡◌ {A = Bool} true false → ⊥
differ e = cc

unless_so : (t rest : Bool) → (if t then false else rest) ≡ true → (t ≡ false) × (rest ≡ true)
unless_so true rest e = absurd (differ (sym e))
unless_so false rest e = (refl, e)

isnt : (b k : ℕ) → (b == k) ≡ false → b ≢ k
isnt b k e = ⊎_elim
    (λ (w : (eqb b k ≡ true) × (b ≡ k)). λ (same : b ≡ k). differ (sym w.0 ∙ e))
    (λ (w : (eqb b k ≡ false) × (b ≢ k)). w.1)
    (eqb_tells b k)

plain_far : (word : List ℕ) → plain word ≡ true → AreFar word
plain_far [] e = tt
plain_far (b ∷ word) e =
    let w = unless_so (b == 47) (plain word) e in
    (λ (slash : b ≡ 47). absurd (isnt b 47 w.0 slash), plain_far word w.1)

first_far : (word : List ℕ) → begins_far word ≡ true → IsFar word
first_far [] e = tt
first_far (b ∷ rest) e =
    let w = unless_so (b == 116) (if b == 110 then false else true) e in
    (isnt b 116 w.0, isnt b 110 (unless_so (b == 110) true w.1).0)

-- a word, and a text after a `/`
in_dir : (word rest : List ℕ) → plain word ≡ true → IsFar rest → AreFar rest → AreFar (word ++ 47 ∷ rest)
in_dir [] rest e first far = (λ _. first, far)
in_dir (b ∷ word) rest e first far =
    let w = unless_so (b == 47) (plain word) e in
    (λ (slash : b ≡ 47). absurd (isnt b 47 w.0 slash), in_dir word rest w.1 first far)

-- The queue's names: after the first `/` come digits, `.` and `/` alone

abbrev AreLow : List ℕ → Type 0
AreLow [] = Unit {0}
AreLow (b ∷ rest) = (b ≤ 57) × AreLow rest

low_first : (text : List ℕ) → AreLow text → IsFar text
low_first [] h = tt
low_first (b ∷ rest) h = let low = h.0 in (λ (e : b ≡ 116). absurd (omega arith), λ (e : b ≡ 110). absurd (omega arith))

low_far : (text : List ℕ) → AreLow text → AreFar text
low_far [] h = tt
low_far (b ∷ rest) h = (λ _. low_first rest h.1, low_far rest h.1)

low_before : (xs rest : List ℕ) → AllByRecursion IsDigit xs → AreLow rest → AreLow (xs ++ rest)
low_before [] rest only h = h
low_before (b ∷ xs) rest only h = (only.0.1, low_before xs rest only.1 h)

low_all : (xs : List ℕ) → AllByRecursion IsDigit xs → AreLow xs
low_all [] only = tt
low_all (b ∷ xs) only = (only.0.1, low_all xs only.1)

low_number : (n : ℕ) (rest : List ℕ) → AreLow rest → AreLow (digits n ++ rest)
low_number n rest h = low_before (digits n) rest (digits_only n) h

low_last : (n : ℕ) → AreLow (digits n)
low_last n = low_all (digits n) (digits_only n)

low_split : (n : ℕ) → AreLow (split_text n)
low_split n = low_number (split n) (47 ∷ digits n) (omega arith, low_last n)

low_pid : (pid start seq : ℕ) → AreLow (digits pid ++ (46 ∷ (digits start ++ (46 ∷ digits seq))))
low_pid pid start seq = low_number pid (46 ∷ (digits start ++ (46 ∷ digits seq))) (omega arith, low_number start (46 ∷ digits seq) (omega arith, low_last seq))

in_queue : (word rest : List ℕ) → plain word ≡ true → AreLow rest → AreFar (word ++ 47 ∷ rest)
in_queue word rest e low = in_dir word rest e (low_first rest low) (low_far rest low)

path_far : (x : Name) → AreFar (path x)
unfolding path
path_far (Pid pid start seq) = in_queue (codes "pid") (digits pid ++ (46 ∷ (digits start ++ (46 ∷ digits seq)))) refl (low_pid pid start seq)
path_far (Of Mess n) = in_queue (codes "mess") (split_text n) refl (low_split n)
path_far (Of Intd n) = in_queue (codes "intd") (digits n) refl (low_last n)
path_far (Of Todo n) = in_queue (codes "todo") (digits n) refl (low_last n)
path_far (Of Info n) = in_queue (codes "info") (split_text n) refl (low_split n)
path_far (Of Local n) = in_queue (codes "local") (split_text n) refl (low_split n)
path_far (Of Remote n) = in_queue (codes "remote") (split_text n) refl (low_split n)
path_far (Of Bounce n) = in_queue (codes "bounce") (digits n) refl (low_last n)
path_far (Of SplitIntd n) = in_queue (codes "intdx") (split_text n) refl (low_split n)
path_far (Of SplitTodo n) = in_queue (codes "todox") (split_text n) refl (low_split n)

pub no_queue_name : (x : Name) → IsDropName (path x) → ⊥
no_queue_name x = no_drop (path x) (path_far x)

-- Control files: none of their names has a `/`, or begins so

control_name : (f : ControlFile) → (plain (file_name f) ≡ true) × (begins_far (file_name f) ≡ true)
control_name Me = (refl, refl)
control_name Locals = (refl, refl)
control_name PercentHack = (refl, refl)
control_name VirtualDomains = (refl, refl)
control_name EnvNoAtHost = (refl, refl)
control_name BounceFrom = (refl, refl)
control_name BounceHost = (refl, refl)
control_name DoubleBounceTo = (refl, refl)
control_name DoubleBounceHost = (refl, refl)
control_name ConcurrencyLocal = (refl, refl)
control_name ConcurrencyRemote = (refl, refl)
control_name QueueLifetime = (refl, refl)

pub no_control_name : (f : ControlFile) → IsDropName (control_text f) → ⊥
no_control_name f =
    let w = control_name f in
    no_drop (control_text f) (in_dir (codes "control") (file_name f) refl (first_far (file_name f) w.1) (plain_far (file_name f) w.0))

-- Names of one part in `pid`

slash_after : (word rest : List ℕ) → Contains (word ++ 47 ∷ rest) 47
slash_after word rest = Contains-append_right word (47 ∷ rest) 47 (0, omega arith, refl)

one_slash : (word part front more : List ℕ) → plain word ≡ true → IsOnePart part → Contains more 47 → word ++ 47 ∷ part ≡ front ++ 47 ∷ more → ⊥
one_slash [] part [] more e one has same =
    let tail : part ≡ more = cc in
    one (subst (λ (t : List ℕ). Contains t 47) (sym tail) has)
one_slash [] part (x ∷ front) more e one has same =
    let tail : part ≡ front ++ 47 ∷ more = cc in
    one (subst (λ (t : List ℕ). Contains t 47) (sym tail) (slash_after front more))
one_slash (b ∷ word) part [] more e one has same =
    let slash : b ≡ 47 = cc in
    isnt b 47 (unless_so (b == 47) (plain word) e).0 slash
one_slash (b ∷ word) part (x ∷ front) more e one has same =
    let tail : word ++ 47 ∷ part ≡ front ++ 47 ∷ more = cc in
    one_slash word part front more (unless_so (b == 47) (plain word) e).1 one has tail

pub no_pid_name : (part : List ℕ) → IsOnePart part → IsDropName (pid_path part) → ⊥
no_pid_name part one h = ⊎_elim
    (λ (tmp : pid_path part ≡ h.front ++ (codes "/tmp/" ++ h.rest)). one_slash (codes "pid") part h.front (codes "tmp/" ++ h.rest) refl one (slash_after (codes "tmp") h.rest) tmp)
    (λ (new : pid_path part ≡ h.front ++ (codes "/new/" ++ h.rest)). one_slash (codes "pid") part h.front (codes "new/" ++ h.rest) refl one (slash_after (codes "new") h.rest) new)
    h.is

-- Drops

tmp_in : (dir file : List ℕ) → EndsInSlash dir → IsTmpName (dir ++ (codes "tmp/" ++ file))
tmp_in dir file h = record { front = h.0; rest = file; is = ap (λ (t : List ℕ). t ++ (codes "tmp/" ++ file)) h.1 ∙ append_assoc h.0 (47 ∷ []) (codes "tmp/" ++ file) }

abbrev BothPlaced : List ℕ → List ℕ → Type 0
BothPlaced dir file = IsDropName (dir ++ (codes "tmp/" ++ file)) × IsDropName (dir ++ (codes "new/" ++ file))

in_maildir : (dir file : List ℕ) → EndsInSlash dir → BothPlaced dir file
in_maildir dir file h = (
  (let t = tmp_in dir file h in record { front = t.front; rest = t.rest; is = inl t.is }),
  record { front = h.0; rest = file; is = inr (ap (λ (t : List ℕ). t ++ (codes "new/" ++ file)) h.1 ∙ append_assoc h.0 (47 ∷ []) (codes "new/" ++ file)) },
)

pub drop_names : (args : Arguments) (attempt : Attempt) → EndsInSlash args.dir → IsDropName (pair_at (names_of args) attempt).tmp × IsDropName (pair_at (names_of args) attempt).new
drop_names args First h = in_maildir args.dir (drop_name args.moment args.pid args.host First) h
drop_names args Second h = in_maildir args.dir (drop_name args.moment args.pid args.host Second) h
drop_names args Third h = in_maildir args.dir (drop_name args.moment args.pid args.host Third) h

pub tmp_names : (args : Arguments) (attempt : Attempt) → EndsInSlash args.dir → IsTmpName (pair_at (names_of args) attempt).tmp
tmp_names args First h = tmp_in args.dir (drop_name args.moment args.pid args.host First) h
tmp_names args Second h = tmp_in args.dir (drop_name args.moment args.pid args.host Second) h
tmp_names args Third h = tmp_in args.dir (drop_name args.moment args.pid args.host Third) h

pub names_are_apart : NamesAreApart
names_are_apart = record { drops = drop_names; queue = no_queue_name; controls = no_control_name; pid = no_pid_name }
