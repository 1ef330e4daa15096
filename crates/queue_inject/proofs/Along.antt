-- How far a run is in the written-out list, and what stops it.
use Rattle.std.proofs.Common.{◌≡◌, ◌≢◌, ◌⊎◌, ℕ, zero, suc, ◌+◌, ◌≤◌, ◌<◌, List, [], ◌∷◌, ◌++◌, length, Option, Some, None, Bool, true, false, refl, sym, ap, ◌∙◌, subst, inl, inr, arith, append_assoc}
use Rattle.std.specs.Prelude.{if◌then◌else◌, nat_lt, nat_le}
use Rattle.std.proofs.lemmas.Bool.{ltb-true, ltb-false, leb-true, leb-false}
use Rattle.std.proofs.lemmas.List.{append-nil}
use Rattle.call_fs.specs.declared.calls.CallData.{CallData}
use Rattle.call_fs.specs.declared.calls.CallData.TheVariants.{CreateExcl, Link, Unlink}
use Rattle.call_fs.specs.declared.calls.Answer.{Answer}
use Rattle.call_fs.specs.declared.calls.Answer.TheVariants.{Created, Done, Refused}
use Rattle.call_fs.specs.declared.calls.Fd.{Fd}
use Rattle.call_fs.specs.declared.calls.FsError.{FsError}
use Rattle.call_fs.specs.declared.calls.FsError.TheVariants.{NotThere, Exists, Fault, Memory}
use Rattle.queue_paths.specs.Names.{path}
use Rattle.queue_paths.specs.Names.Part.{Mess, Intd}
use Rattle.queue_paths.specs.Names.Name.{Of}
use Rattle.queue_inject.specs.declared.injection.Arguments.{Arguments}
use Rattle.queue_inject.specs.declared.row.Row.{Row}
use Rattle.queue_inject.specs.declared.row.Row.TheVariants as at
use Rattle.queue_inject.specs.Texts.{message_text, intd_text}
use Rattle.queue_inject.specs.Table.{piece_size, failure, past_piece}
use Rattle.queue_inject.specs.Causes.{IsCleanUp, FailsWith}
use Rattle.queue_inject.specs.Causes.FailsWith.{WantsMemory}
use Rattle.queue_inject.specs.Written.{Act, act, appends, Chosen, IsChosen, own_pid, mess_name, intd_name, todo_name, taken_names, in_s1, after_mess, in_s2, after_todo, in_s3, to_s4, written, Stops, IsGone, AreRemoved, IsStopped}
use Rattle.queue_inject.specs.Written.AreRemoved.{All, Next, Stays}
use Rattle.queue_inject.specs.Written.IsStopped.{InS1, InS2, InS3, AtTodo}
use Rattle.queue_inject.proofs.Cuts.{Goes, HasNext}

-- Lists

-- what follows a prefix of a part follows it in the whole
pub inside : (before part following made rest : List Act) → part ≡ made ++ rest → before ++ (part ++ following) ≡ (before ++ made) ++ (rest ++ following)
inside before part following made rest e =
    ap (λ t. before ++ (t ++ following)) e
    ∙ ap (λ t. before ++ t) (append_assoc made rest following)
    ∙ sym (append_assoc before made (rest ++ following))

-- one more at the end
pub more_at_end : (acts head tail : List Act) (x : Act) → acts ≡ head ++ tail → acts ++ x ∷ [] ≡ head ++ (tail ++ x ∷ [])
more_at_end acts head tail x e = ap (λ t. t ++ x ∷ []) e ∙ append_assoc head tail (x ∷ [])

-- A part of the list

-- Of this part, after all before it, these calls are left to be made.
pub record IsAlong (args : Arguments) (acts : List Act) (c : Chosen) (before part rest : List Act) : Type 0 where
  pub made : List Act
  pub part_is : part ≡ made ++ rest
  pub calls : acts ≡ taken_names args c.taken ++ (before ++ made)

-- the first of them is made
pub along_on : (args : Arguments) (acts : List Act) (c : Chosen) (before part rest : List Act) (x : Act) → IsAlong args acts c before part (x ∷ rest)
    → IsAlong args (acts ++ x ∷ []) c before part rest
along_on args acts c before part rest x a = record {
  made = a.made ++ x ∷ [];
  part_is = a.part_is ∙ sym (append_assoc a.made (x ∷ []) rest);
  calls = more_at_end acts (taken_names args c.taken) (before ++ a.made) x a.calls ∙ ap (λ t. taken_names args c.taken ++ t) (append_assoc before a.made (x ∷ []));
}

-- none is left
pub all_made : (args : Arguments) (acts : List Act) (c : Chosen) (before part : List Act) → IsAlong args acts c before part [] → acts ≡ taken_names args c.taken ++ (before ++ part)
all_made args acts c before part a = a.calls ∙ ap (λ t. taken_names args c.taken ++ (before ++ t)) (sym (a.part_is ∙ append-nil a.made))

-- so the next part begins
pub next_part : (args : Arguments) (acts : List Act) (c : Chosen) (before part next : List Act) → IsAlong args acts c before part [] → IsAlong args acts c (before ++ part) next next
next_part args acts c before part next a = record {
  made = [];
  part_is = refl;
  calls = all_made args acts c before part a ∙ ap (λ t. taken_names args c.taken ++ t) (sym (append-nil (before ++ part)));
}

-- Clean ups

none_removed : (removed : List Act) → AreRemoved [] removed → removed ≡ []
none_removed _ All = refl

-- It stopped, and is still to remove these names.
pub record IsCleaning (args : Arguments) (acts : List Act) (names : List (List ℕ)) (status : ℕ) : Type 0 where
  pub chosen : Chosen
  pub fits : IsChosen args chosen
  pub made : List Act
  pub rest : List Act
  pub so_far : List Act
  pub calls : acts ≡ taken_names args chosen.taken ++ (made ++ so_far)
  pub whole : written args chosen ≡ made ++ rest
  pub stops : (removed : List Act) → AreRemoved names removed → IsStopped args chosen status made (so_far ++ removed)

module _ (args : Arguments) (acts : List Act) (status : ℕ) where
  cleaned : (x : Act) (name : List ℕ) (names left : List (List ℕ)) → ((removed : List Act) → AreRemoved left removed → AreRemoved (name ∷ names) (x ∷ removed))
      → IsCleaning args acts (name ∷ names) status → IsCleaning args (acts ++ x ∷ []) left status
  cleaned x name names left go k = record {
    chosen = k.chosen;
    fits = k.fits;
    made = k.made;
    rest = k.rest;
    so_far = k.so_far ++ x ∷ [];
    calls = more_at_end acts (taken_names args k.chosen.taken) (k.made ++ k.so_far) x k.calls ∙ ap (λ t. taken_names args k.chosen.taken ++ t) (append_assoc k.made k.so_far (x ∷ []));
    whole = k.whole;
    stops = λ removed are. subst (IsStopped args k.chosen status k.made) (sym (append_assoc k.so_far (x ∷ []) removed)) (k.stops (x ∷ removed) (go removed are));
  }

  -- one more is gone
  pub cleaned_one : (name : List ℕ) (names : List (List ℕ)) (answer : Answer) → IsGone answer → IsCleaning args acts (name ∷ names) status
      → IsCleaning args (acts ++ act (Unlink name) answer ∷ []) names status
  cleaned_one name names answer gone k = cleaned (act (Unlink name) answer) name names names (λ removed are. Next name names answer removed gone are) k

  -- one stays, and so do those after it
  pub cleaned_none : (name : List ℕ) (names : List (List ℕ)) (answer : Answer) → ¬ (IsGone answer) → IsCleaning args acts (name ∷ names) status
      → IsCleaning args (acts ++ act (Unlink name) answer ∷ []) [] status
  cleaned_none name names answer there k = cleaned (act (Unlink name) answer) name names []
      (λ removed are. subst (λ t. AreRemoved (name ∷ names) (act (Unlink name) answer ∷ t)) (sym (none_removed removed are)) (Stays name names answer there)) k

-- Stops

-- all but the last call, and this one
pub last_left : (args : Arguments) (c : Chosen) → written args c ≡ ((in_s1 args c ++ in_s2 args c) ++ in_s3 c) ++ to_s4 c
last_left args c = sym (append_assoc (in_s1 args c) (in_s2 args c) (in_s3 c ++ to_s4 c)) ∙ sym (append_assoc (in_s1 args c ++ in_s2 args c) (in_s3 c) (to_s4 c))

module _ (args : Arguments) (c : Chosen) (fits : IsChosen args c) (acts : List Act) (status : ℕ) where
  pub stop_s1 : (made rest : List Act) (call : CallData) (ok : Answer) (why : FsError) → in_s1 args c ≡ made ++ act call ok ∷ rest → acts ≡ taken_names args c.taken ++ made
      → FailsWith args status call (Refused why) → IsCleaning args (acts ++ act call (Refused why) ∷ []) [] status
  stop_s1 made rest call ok why part_is calls f = record {
    chosen = c;
    fits = fits;
    made = made;
    rest = act call ok ∷ rest ++ (in_s2 args c ++ (in_s3 c ++ to_s4 c));
    so_far = act call (Refused why) ∷ [];
    calls = more_at_end acts (taken_names args c.taken) made (act call (Refused why)) calls;
    whole = inside [] (in_s1 args c) (in_s2 args c ++ (in_s3 c ++ to_s4 c)) made (act call ok ∷ rest) part_is;
    stops = λ removed none. subst (λ t. IsStopped args c status made (act call (Refused why) ∷ t)) (sym (none_removed removed none)) (InS1 made rest call ok why part_is f);
  }

  stopped_calls : (new stop before made : List Act) → new ≡ acts ++ stop → acts ≡ taken_names args c.taken ++ (before ++ made) → new ≡ taken_names args c.taken ++ ((before ++ made) ++ stop)
  stopped_calls new stop before made is calls = is ∙ ap (λ t. t ++ stop) calls ∙ append_assoc (taken_names args c.taken) (before ++ made) stop

  pub stop_s2 : (rest stop new : List Act) → IsAlong args acts c (in_s1 args c) (in_s2 args c) rest → Stops args status (message_text args) c.mess c.mess_fd rest stop → new ≡ acts ++ stop
      → IsCleaning args new (mess_name c ∷ []) status
  stop_s2 rest stop new a why is = record {
    chosen = c;
    fits = fits;
    made = in_s1 args c ++ a.made;
    rest = rest ++ (in_s3 c ++ to_s4 c);
    so_far = stop;
    calls = stopped_calls new stop (in_s1 args c) a.made is a.calls;
    whole = inside (in_s1 args c) (in_s2 args c) (in_s3 c ++ to_s4 c) a.made rest a.part_is;
    stops = λ removed are. InS2 a.made rest stop removed a.part_is why are;
  }

  pub stop_s3 : (rest stop new : List Act) → IsAlong args acts c (in_s1 args c ++ in_s2 args c) (in_s3 c) rest → Stops args status (intd_text args) c.todo c.intd_fd rest stop → new ≡ acts ++ stop
      → IsCleaning args new (intd_name c ∷ (mess_name c ∷ [])) status
  stop_s3 rest stop new a why is = record {
    chosen = c;
    fits = fits;
    made = (in_s1 args c ++ in_s2 args c) ++ a.made;
    rest = rest ++ to_s4 c;
    so_far = stop;
    calls = stopped_calls new stop (in_s1 args c ++ in_s2 args c) a.made is a.calls;
    whole = sym (append_assoc (in_s1 args c) (in_s2 args c) (in_s3 c ++ to_s4 c)) ∙ inside (in_s1 args c ++ in_s2 args c) (in_s3 c) (to_s4 c) a.made rest a.part_is;
    stops = λ removed are. InS3 a.made rest stop removed a.part_is why are;
  }

  pub stop_at_todo : (why : FsError) → acts ≡ taken_names args c.taken ++ ((in_s1 args c ++ in_s2 args c) ++ in_s3 c) → FailsWith args status (Link (intd_name c) (todo_name c)) (Refused why)
      → IsCleaning args (acts ++ act (Link (intd_name c) (todo_name c)) (Refused why) ∷ []) [] status
  stop_at_todo why calls f = record {
    chosen = c;
    fits = fits;
    made = (in_s1 args c ++ in_s2 args c) ++ in_s3 c;
    rest = to_s4 c;
    so_far = act (Link (intd_name c) (todo_name c)) (Refused why) ∷ [];
    calls = more_at_end acts (taken_names args c.taken) ((in_s1 args c ++ in_s2 args c) ++ in_s3 c) (act (Link (intd_name c) (todo_name c)) (Refused why)) calls;
    whole = last_left args c;
    stops = λ removed none.
        subst (λ t. IsStopped args c status ((in_s1 args c ++ in_s2 args c) ++ in_s3 c) (act (Link (intd_name c) (todo_name c)) (Refused why) ∷ t)) (sym (none_removed removed none)) (AtTodo why f);
  }

-- out of memory has its own status
pub refused_by : (args : Arguments) (status : ℕ) (call : CallData) (why : FsError) → ¬ (IsCleanUp call) → (why ≢ Memory → FailsWith args status call (Refused why))
    → FailsWith args (failure (Refused why) status) call (Refused why)
refused_by args status call NotThere needed f = f (λ e. cc)
refused_by args status call Exists needed f = f (λ e. cc)
refused_by args status call Fault needed f = f (λ e. cc)
refused_by args status call Memory needed f = WantsMemory call needed

-- what follows the written bytes of a text, and why
pub past_cases : (P : Row → Type 0) (bytes : List ℕ) (fault : Option ℕ) (done : ℕ) (more end : Row) (bad : ℕ → Row)
    → (done < length bytes → (fault ≡ None) ⊎ (done + piece_size ≤ length bytes) → P more) → (fault ≡ None → length bytes ≤ done → P end) → ((status : ℕ) → fault ≡ Some status → length bytes < done + piece_size → P (bad status))
    → P (past_piece bytes fault done more end bad)
past_cases P bytes None done more end bad on whole faulty = by (nat_lt done (length bytes)) refl where
  by : (t : Bool) → nat_lt done (length bytes) ≡ t → P (if t then more else end)
  by true e = on (ltb-true done (length bytes) e) (inl refl)
  by false e = whole refl (ltb-false done (length bytes) e)
past_cases P bytes (Some status) done more end bad on whole faulty = by (nat_le (done + piece_size) (length bytes)) refl where
  by : (t : Bool) → nat_le (done + piece_size) (length bytes) ≡ t → P (if t then more else bad status)
  by true e = let full = leb-true (done + piece_size) (length bytes) e in on (omega arith) (inr full)
  by false e = faulty status refl (leb-false (done + piece_size) (length bytes) e)

-- Where a run stands, by its row

abbrev pub of_run : List (List ℕ) → List (List ℕ) → ℕ → ℕ → Fd → Fd → ℕ → Chosen
of_run mess todo t n fd intd i = record { taken = t; number = n; mess_fd = fd; mess = mess; intd_fd = intd; intd_number = i; todo = todo }

module _ (args : Arguments) (mess todo : List (List ℕ)) where
  -- what intd's creation will answer isn't known yet
  abbrev pub Along1 : List Act → ℕ → ℕ → Fd → (Chosen → List Act) → Type 0
  Along1 acts t n fd rest = (intd : Fd) (i : ℕ) → IsAlong args acts (of_run mess todo t n fd intd i) [] (in_s1 args (of_run mess todo t n fd intd i)) (rest (of_run mess todo t n fd intd i))

  abbrev pub Along2 : List Act → ℕ → ℕ → Fd → (Chosen → List Act) → Type 0
  Along2 acts t n fd rest =
      (intd : Fd) (i : ℕ) → IsAlong args acts (of_run mess todo t n fd intd i) (in_s1 args (of_run mess todo t n fd intd i)) (in_s2 args (of_run mess todo t n fd intd i)) (rest (of_run mess todo t n fd intd i))

  abbrev pub Along3 : List Act → Chosen → List Act → Type 0
  Along3 acts c rest = IsAlong args acts c (in_s1 args c ++ in_s2 args c) (in_s3 c) rest

  -- the message is being written
  pub record InMess (acts : List Act) (n : ℕ) (fd : Fd) (done : ℕ) : Type 0 where
    pub t : ℕ
    pub few : t ≤ 8
    pub pieces : List (List ℕ)
    pub along : Along2 acts t n fd (λ c. appends fd pieces ++ after_mess c)
    pub goes : Goes (message_text args) mess done pieces

  -- it is written
  pub record AfterMess (acts : List Act) (n : ℕ) (fd : Fd) (rest : Chosen → List Act) : Type 0 where
    pub t : ℕ
    pub few : t ≤ 8
    pub along : Along2 acts t n fd rest
    pub well : (message_text args).fault ≡ None

  -- the todo text is being written
  pub record InTodo (acts : List Act) (n : ℕ) (intd : Fd) (done : ℕ) : Type 0 where
    pub t : ℕ
    pub few : t ≤ 8
    pub fd : Fd
    pub i : ℕ
    pub pieces : List (List ℕ)
    pub along : Along3 acts (of_run mess todo t n fd intd i) (appends intd pieces ++ after_todo (of_run mess todo t n fd intd i))
    pub goes : Goes (intd_text args) todo done pieces
    pub well : (message_text args).fault ≡ None

  -- it is written
  pub record AfterTodo (acts : List Act) (n : ℕ) (intd : Fd) : Type 0 where
    pub t : ℕ
    pub few : t ≤ 8
    pub fd : Fd
    pub i : ℕ
    pub along : Along3 acts (of_run mess todo t n fd intd i) (after_todo (of_run mess todo t n fd intd i))

  -- all but the link to todo is made
  pub record BeforeTodo (acts : List Act) (n : ℕ) : Type 0 where
    pub t : ℕ
    pub few : t ≤ 8
    pub fd : Fd
    pub intd : Fd
    pub i : ℕ
    pub calls : acts ≡ taken_names args t ++ ((in_s1 args (of_run mess todo t n fd intd i) ++ in_s2 args (of_run mess todo t n fd intd i)) ++ in_s3 (of_run mess todo t n fd intd i))

  pub record IsQueued (acts : List Act) : Type 0 where
    pub c : Chosen
    pub fits : IsChosen args c
    pub calls : acts ≡ taken_names args c.taken ++ written args c

  abbrev pub StandsAt : List Act → Row → Type 0
  StandsAt acts (at.Create zero) = ⊥
  StandsAt acts (at.Create (suc t)) = (t ≤ 8) × (acts ≡ taken_names args t)
  StandsAt acts (at.LinkMess zero n fd) = ⊥
  StandsAt acts (at.LinkMess (suc t) n fd) = (t ≤ 8) × Along1 acts t n fd (λ c. act (Link (own_pid args c) (mess_name c)) Done ∷ [])
  StandsAt acts (at.UnlinkPid zero n fd) = ⊥
  StandsAt acts (at.UnlinkPid (suc t) n fd) = (t ≤ 8) × Along2 acts t n fd (λ c. in_s2 args c)
  StandsAt acts (at.AppendMess n fd done) = InMess acts n fd done × HasNext (message_text args) done
  StandsAt acts (at.SyncMess n fd) = AfterMess acts n fd (λ c. after_mess c)
  StandsAt acts (at.CreateIntd n) = (fd : Fd) × AfterMess acts n fd (λ c. act (CreateExcl (intd_name c)) (Created c.intd_fd c.intd_number) ∷ [])
  StandsAt acts (at.AppendTodo n intd done) = InTodo acts n intd done × HasNext (intd_text args) done
  StandsAt acts (at.SyncTodo n intd) = AfterTodo acts n intd
  StandsAt acts (at.LinkTodo n) = BeforeTodo acts n
  StandsAt acts (at.CleanIntd n status) = IsCleaning args acts (path (Of Intd n) ∷ (path (Of Mess n) ∷ [])) status
  StandsAt acts (at.CleanMess n status) = IsCleaning args acts (path (Of Mess n) ∷ []) status
  StandsAt acts at.Queued = IsQueued acts
  StandsAt acts (at.Failed status) = IsCleaning args acts [] status
