-- A local spawner's place agrees with each past that it stands for.
use Rattle.std.specs.Prelude.{unwrap_or}
use Rattle.std.proofs.Common.{◌≡◌, ℕ, List, [], ◌∷◌, ◌++◌, length, Bool, true, false, if◌then◌else◌, nat_lt, Option, Some, None, ◌⊎◌, inl, inr, refl, sym, ap, ◌∙◌, subst}
use Rattle.call_fs.specs.declared.calls.Answer.{Answer}
use Rattle.call_fs.specs.declared.calls.Answer.TheVariants as answer
use Rattle.call_fs.specs.declared.calls.CallData.{CallData}
use Rattle.call_fs.specs.declared.calls.CallData.TheVariants as call
use Rattle.call_fs.specs.declared.calls.Fd.{Fd}
use Rattle.call_fs.specs.declared.calls.FsError.TheVariants as why
use Rattle.call_fs.specs.declared.calls.How.TheVariants as how
use Rattle.call_fs.specs.declared.past.GotData.{GotData}
use Rattle.call_fs.specs.declared.past.GotData.TheVariants as came
use Rattle.call_fs.specs.declared.past.NeedData.TheVariants as needs
use Rattle.call_fs.specs.declared.past.Own.{Own}
use Rattle.call_fs.specs.declared.program.Port.{Port}
use Rattle.call_fs.specs.declared.program.Port.TheVariants as port
use Rattle.call_fs.specs.Past.{IsRunBy}
use Rattle.call_fs.specs.Program.{MayCome}
use Rattle.spawner_parts.specs.declared.place.Place.{Place as Work}
use Rattle.spawner_parts.specs.declared.row.Row.{Row as WorkRow}
use Rattle.spawner_parts.specs.declared.row.Row.TheVariants as work_at
use Rattle.spawner_parts.specs.Known.{Carries, Tells, last_read}
use Rattle.spawner_parts.specs.Table as parts
use Rattle.spawner_parts.specs.Table.{IsKind, IsNoStart, IsReadied}
use Rattle.spawner_parts.specs.Table.IsReadied.{IsAnswered, IsGiven}
use Rattle.spawner_parts.proofs.Agree.{begins, goes_on, waits}
use Rattle.spawner_parts.proofs.Carried.{carried}
use Rattle.call_fs.proofs.Coming.{by_fit}
use Rattle.spawner_parts.proofs.Rows.{no_start}
use Rattle.local_spawn.specs.declared.assign.Assignment.{Assignment}
use Rattle.local_spawn.specs.declared.delivery.Delivery.{Delivery}
use Rattle.local_spawn.specs.declared.place.Place.{Place}
use Rattle.local_spawn.specs.declared.row.Row.{Row}
use Rattle.local_spawn.specs.declared.row.Row.TheVariants as at
use Rattle.local_spawn.specs.Causes.{IsStarved, Starves}
use Rattle.local_spawn.specs.Causes.Starves.{OpenRefused}
use Rattle.local_spawn.specs.Deliveries.{delivery_for, refusal}
use Rattle.mail_bytes.specs.Netstring.{netstring}
use Rattle.local_spawn.specs.Starts.{HasUsers, either, has_greeted, is_give, is_missing, missing_by, more_text, text_by, users_text}
use Rattle.local_spawn.specs.Starts.HasUsers.{NoFile, FileRead}
use Rattle.local_spawn.specs.Table.{Next, act, delivery_after, due_at, due_from, local_kind, place_after, program_of, readied_by, served, serves, users_closed, users_name, users_opened, users_opened_by, users_read, users_read_by}
use Rattle.local_spawn.specs.Users.{users_in}

pub is_kind : (users : Option (List Assignment)) → IsKind (local_kind users)
is_kind users p = by (delivery_for users p.request) where
  by : (o : Option Delivery) → IsReadied netstring p (readied_by o (refusal users) p)
  by None = IsAnswered (refusal users) refl
  by (Some delivery) = IsGiven refl

-- In its start its work has begun, and it keeps what it read.
pub record Starting (past : List Own) (p : Place) : Type 0 where
  pub begun : p.work ≡ parts.begun
  pub tells : Tells past parts.begun
  pub early : has_greeted past ≡ false
  pub text : p.text ≡ users_text past

-- the users that it keeps are those of its start
abbrev pub HasThose : List Own → Option (List Assignment) → Type 0
HasThose past None = Unit {0}
HasThose past (Some users) = HasUsers past users

-- the delivery that is to be started is that of the request at work
abbrev pub IsDue : Option (List Assignment) → Delivery → Work → WorkRow → Type 0
IsDue users delivery w work_at.Start = delivery_for users w.request ≡ Some delivery
IsDue users delivery w row = Unit {0}

pub record Serving (past : List Own) (p : Place) : Type 0 where
  pub tells : Tells past p.work
  pub carries : Carries netstring (last_read past) p.work.row p.work
  pub those : HasThose past p.users
  pub greeted : (has_greeted past ≡ true) ⊎ (p.work.row ≡ work_at.Greet)
  pub is_due : IsDue p.users p.delivery p.work p.work.row

abbrev pub At : List Own → Row → Place → Type 0
At past at.OpenUsers p = (past ≡ []) × Starting past p
At past at.Serves p = Serving past p
At past at.OutOfMemory p = IsStarved past × Starting past p
At past row p = Starting past p

-- Its start

-- a file call leaves it in its start
module _ (c : CallData) (event : Own) (before : List Own) (p : Place) (due : event.due ≡ needs.File c) (s : Starting before p) where
  pub still_early : has_greeted (event ∷ before) ≡ false
  still_early = ap (λ x. either (has_greeted before) (is_give x)) due ∙ ap (λ b. either b false) s.early

  pub text_now : users_text (event ∷ before) ≡ text_by false (users_text before) (needs.File c) event.came
  text_now = ap (λ x. text_by (has_greeted before) (users_text before) x event.came) due ∙ ap (λ b. text_by b (users_text before) (needs.File c) event.came) s.early

  pub missing_now : is_missing (event ∷ before) ≡ missing_by false (is_missing before) (needs.File c) event.came
  missing_now = ap (λ x. missing_by (has_greeted before) (is_missing before) x event.came) due ∙ ap (λ b. missing_by b (is_missing before) (needs.File c) event.came) s.early

  pub still : (q : Place) → q.work ≡ p.work → q.text ≡ text_by false (users_text before) (needs.File c) event.came → Starting (event ∷ before) q
  still q same text = record {
    begun = same ∙ s.begun;
    tells = waits c event before due s.tells;
    early = still_early;
    text = text ∙ sym text_now;
  }

-- then it serves requests
serving : (past : List Own) (p : Place) (users : Option (List Assignment)) → p.work ≡ parts.begun → Tells past parts.begun → HasThose past users → Serving past (serves users p)
serving past p users begun t those = record {
  tells = subst (Tells past) (sym begun) t;
  carries = subst (λ (w : Work). Carries netstring (last_read past) w.row w) (sym begun) tt;
  those = those;
  greeted = inr (ap (λ (w : Work). w.row) begun);
  is_due = subst (λ (w : Work). IsDue users p.delivery w w.row) (sym begun) tt;
}

-- its first call is all that it did
starved_by : (event : Own) (before : List Own) (bytes : List ℕ) → before ≡ [] → event.due ≡ needs.File (call.Open users_name how.Read)
    → event.came ≡ came.Answered (record { answer = answer.Refused why.Memory; bytes = bytes }) → IsStarved (event ∷ before)
starved_by event before bytes none due came =
    subst (λ b. IsStarved (event ∷ b)) (sym none) (subst (λ x. Starves x event.came) (sym due) (subst (λ g. Starves (needs.File (call.Open users_name how.Read)) g) (sym came) (OpenRefused bytes)))

abbrev open_users : CallData
open_users = call.Open users_name how.Read

module _ (event : Own) (before : List Own) (p : Place) (none : before ≡ []) (s : Starting before p) (due : event.due ≡ needs.File open_users) where
  abbrev Opened : Place → Type 0
  Opened q = At (event ∷ before) q.row q

  quiet : Tells (event ∷ before) parts.begun
  quiet = waits open_users event before due s.tells

  -- an open reads nothing
  same_text : (told : Answer) (bytes : List ℕ) → event.came ≡ came.Answered (record { answer = told; bytes = bytes }) → p.text ≡ text_by false (users_text before) (needs.File open_users) event.came
  same_text told bytes came = s.text ∙ sym (ap (λ g. text_by false (users_text before) (needs.File open_users) g) came)

  not_there : (bytes : List ℕ) → event.came ≡ came.Answered (record { answer = answer.Refused why.NotThere; bytes = bytes }) → is_missing (event ∷ before) ≡ true
  not_there bytes came = missing_now open_users event before p due s ∙ ap (λ g. missing_by false (is_missing before) (needs.File open_users) g) came

  unread : Serving (event ∷ before) (serves None p)
  unread = serving (event ∷ before) p None s.begun quiet tt

  opening : (told : Answer) (bytes : List ℕ) → event.came ≡ came.Answered (record { answer = told; bytes = bytes }) → Opened (users_opened_by told p)
  opening (answer.Opened fd) bytes came = still open_users event before p due s (record p { row = at.ReadUsers fd }) refl (same_text (answer.Opened fd) bytes came)
  opening (answer.Refused why.NotThere) bytes came = serving (event ∷ before) p (Some []) s.begun quiet (NoFile (not_there bytes came))
  opening (answer.Refused why.Memory) bytes came = (
    starved_by event before bytes none due came,
    still open_users event before p due s (record p { row = at.OutOfMemory }) refl (same_text (answer.Refused why.Memory) bytes came),
  )
  opening (answer.Refused why.Exists) bytes came = unread
  opening (answer.Refused why.Fault) bytes came = unread
  opening (answer.Created fd number) bytes came = unread
  opening (answer.Count count) bytes came = unread
  opening answer.Done bytes came = unread
  opening (answer.Stat stat) bytes came = unread
  opening (answer.Name name) bytes came = unread
  opening answer.NoName bytes came = unread

module _ (event : Own) (before : List Own) (p : Place) (s : Starting before p) (fd : Fd) (due : event.due ≡ needs.File (call.ReadAt fd (length p.text) 8192)) where
  abbrev Read : Place → Type 0
  Read q = At (event ∷ before) q.row q

  read_text : (told : Answer) (bytes : List ℕ) → event.came ≡ came.Answered (record { answer = told; bytes = bytes })
      → text_by false (users_text before) (needs.File (call.ReadAt fd (length p.text) 8192)) event.came ≡ more_text (users_text before) told bytes
  read_text told bytes came = ap (λ g. text_by false (users_text before) (needs.File (call.ReadAt fd (length p.text) 8192)) g) came

  stopped : (told : Answer) (bytes : List ℕ) → event.came ≡ came.Answered (record { answer = told; bytes = bytes }) → more_text (users_text before) told bytes ≡ users_text before
      → Read (record p { row = at.CloseUsers fd false })
  stopped told bytes came same =
      still (call.ReadAt fd (length p.text) 8192) event before p due s (record p { row = at.CloseUsers fd false }) refl (s.text ∙ sym same ∙ sym (read_text told bytes came))

  reading : (told : Answer) (bytes : List ℕ) → event.came ≡ came.Answered (record { answer = told; bytes = bytes }) → Read (users_read_by fd told bytes p)
  reading (answer.Count count) bytes came = by (nat_lt (length bytes) 8192) where
    joined : p.text ++ bytes ≡ text_by false (users_text before) (needs.File (call.ReadAt fd (length p.text) 8192)) event.came
    joined = ap (λ t. t ++ bytes) s.text ∙ sym (read_text (answer.Count count) bytes came)

    by : (b : Bool) → Read (record p { row = if b then at.CloseUsers fd true else at.ReadUsers fd; text = p.text ++ bytes })
    by true = still (call.ReadAt fd (length p.text) 8192) event before p due s (record p { row = at.CloseUsers fd true; text = p.text ++ bytes }) refl joined
    by false = still (call.ReadAt fd (length p.text) 8192) event before p due s (record p { row = at.ReadUsers fd; text = p.text ++ bytes }) refl joined
  reading (answer.Created to number) bytes came = stopped (answer.Created to number) bytes came refl
  reading (answer.Opened to) bytes came = stopped (answer.Opened to) bytes came refl
  reading answer.Done bytes came = stopped answer.Done bytes came refl
  reading (answer.Stat stat) bytes came = stopped (answer.Stat stat) bytes came refl
  reading (answer.Name name) bytes came = stopped (answer.Name name) bytes came refl
  reading answer.NoName bytes came = stopped answer.NoName bytes came refl
  reading (answer.Refused why) bytes came = stopped (answer.Refused why) bytes came refl

closing : (event : Own) (before : List Own) (p : Place) (s : Starting before p) (fd : Fd) (whole : Bool) → event.due ≡ needs.File (call.Close fd) → let q = users_closed whole p in At (event ∷ before) q.row q
closing event before p s fd false due = serving (event ∷ before) p None s.begun (waits (call.Close fd) event before due s.tells) tt
closing event before p s fd true due = serving (event ∷ before) p (users_in p.text) s.begun (waits (call.Close fd) event before due s.tells) (those (users_in p.text) refl) where
  same : users_text (event ∷ before) ≡ p.text
  same = text_now (call.Close fd) event before p due s ∙ sym s.text

  those : (o : Option (List Assignment)) → users_in p.text ≡ o → HasThose (event ∷ before) o
  those None e = tt
  those (Some users) e = FileRead users (ap users_in same ∙ e)

-- As it serves requests

later_text : (over : Bool) (old : List ℕ) (to : Port) (bytes : List ℕ) (got : GotData) → text_by over old (needs.Give to bytes) got ≡ old
later_text true old to bytes got = refl
later_text false old to bytes got = refl

later_missing : (over : Bool) (old : Bool) (to : Port) (bytes : List ℕ) (got : GotData) → missing_by over old (needs.Give to bytes) got ≡ old
later_missing true old to bytes got = refl
later_missing false old to bytes got = refl

either_give : (b : Bool) → either b true ≡ true
either_give true = refl
either_give false = refl

-- what comes in its start is over, or no part of it
record IsOver (before : List Own) (event : Own) : Type 0 where
  text : users_text (event ∷ before) ≡ users_text before
  missing : is_missing (event ∷ before) ≡ is_missing before
  greeted : has_greeted (event ∷ before) ≡ true

over_by : (before : List Own) (event : Own) (p : Place) → (has_greeted before ≡ true) ⊎ (p.work.row ≡ work_at.Greet) → event.due ≡ due_from (parts.row_now p.work event.ready) p → IsOver before event
over_by before event p (inl over) due = record {
  text = ap (λ b. text_by b (users_text before) event.due event.came) over;
  missing = ap (λ b. missing_by b (is_missing before) event.due event.came) over;
  greeted = ap (λ b. either b (is_give event.due)) over;
}
over_by before event p (inr greets) due = record {
  text = ap (λ x. text_by (has_greeted before) (users_text before) x event.came) first ∙ later_text (has_greeted before) (users_text before) port.Output (120 ∷ []) event.came;
  missing = ap (λ x. missing_by (has_greeted before) (is_missing before) x event.came) first ∙ later_missing (has_greeted before) (is_missing before) port.Output (120 ∷ []) event.came;
  greeted = ap (λ x. either (has_greeted before) (is_give x)) first ∙ either_give (has_greeted before);
}
  where
    first : event.due ≡ needs.Give port.Output (120 ∷ [])
    first = due ∙ ap (λ row. due_from (parts.arrive row p.work event.ready) p) greets

those_stay : (event : Own) (before : List Own) (users : Option (List Assignment)) → IsOver before event → HasThose before users → HasThose (event ∷ before) users
those_stay event before None over h = tt
those_stay event before (Some users) over h = by users h where
  by : (users : List Assignment) → HasUsers before users → HasUsers (event ∷ before) users
  by _ (NoFile missing) = NoFile (over.missing ∙ missing)
  by _ (FileRead users read) = FileRead users (ap users_in over.text ∙ read)

free : (users : Option (List Assignment)) (delivery : Delivery) (w : Work) (row : WorkRow) → IsNoStart row → IsDue users delivery w row
free users delivery w work_at.Start isnt = absurd isnt
free users delivery w work_at.Greet isnt = tt
free users delivery w work_at.Idle isnt = tt
free users delivery w work_at.TakeInput isnt = tt
free users delivery w work_at.OpenMess isnt = tt
free users delivery w (work_at.ReadMess fd) isnt = tt
free users delivery w (work_at.CloseMess fd whole) isnt = tt
free users delivery w work_at.Feed isnt = tt
free users delivery w (work_at.TakeOutput slot) isnt = tt
free users delivery w (work_at.TakeStatus slot) isnt = tt
free users delivery w work_at.Report isnt = tt
free users delivery w (work_at.Ended code) isnt = tt

module _ (p : Place) (got : GotData) where
  abbrev Due : WorkRow → Type 0
  Due row = let q = served row got p in IsDue q.users q.delivery q.work q.work.row

  plain : (row : WorkRow) → IsNoStart (parts.act (local_kind p.users) row got p.work).row → Due row
  plain row isnt = free p.users (delivery_after row p) (parts.act (local_kind p.users) row got p.work) (parts.act (local_kind p.users) row got p.work).row isnt

  due_step : (row : WorkRow) → MayCome (due_from row p) got → Due row
  due_step (work_at.CloseMess fd true) may = by (delivery_for p.users p.work.request) refl where
    by : (o : Option Delivery) → delivery_for p.users p.work.request ≡ o
        → let w = readied_by o (refusal p.users) p.work in IsDue p.users (unwrap_or o p.delivery) w w.row
    by None e = tt
    by (Some delivery) e = e
  due_step (work_at.CloseMess fd false) may = tt
  due_step work_at.Greet may = plain work_at.Greet (no_start (local_kind p.users) work_at.Greet got p.work tt)
  due_step work_at.TakeInput may = plain work_at.TakeInput (no_start (local_kind p.users) work_at.TakeInput got p.work tt)
  due_step work_at.OpenMess may = plain work_at.OpenMess (no_start (local_kind p.users) work_at.OpenMess got p.work tt)
  due_step (work_at.ReadMess fd) may = plain (work_at.ReadMess fd) (no_start (local_kind p.users) (work_at.ReadMess fd) got p.work tt)
  due_step work_at.Start may = plain work_at.Start (no_start (local_kind p.users) work_at.Start got p.work tt)
  due_step work_at.Feed may = plain work_at.Feed (no_start (local_kind p.users) work_at.Feed got p.work tt)
  due_step (work_at.TakeOutput slot) may = plain (work_at.TakeOutput slot) (no_start (local_kind p.users) (work_at.TakeOutput slot) got p.work tt)
  due_step (work_at.TakeStatus slot) may = plain (work_at.TakeStatus slot) (no_start (local_kind p.users) (work_at.TakeStatus slot) got p.work tt)
  due_step work_at.Report may = plain work_at.Report (no_start (local_kind p.users) work_at.Report got p.work tt)
  due_step work_at.Idle may = absurd may
  due_step (work_at.Ended code) may = absurd may

serves_on : (event : Own) (before : List Own) (p : Place) → Serving before p → event.due ≡ due_from (parts.row_now p.work event.ready) p → MayCome event.due event.came
    → Serving (event ∷ before) (served (parts.row_now p.work event.ready) event.came p)
serves_on event before p s due may =
    let over = over_by before event p s.greeted due in
    record {
      tells = goes_on (local_kind p.users) (program_of p) event before p.work (is_kind p.users) refl due may s.tells;
      carries = carried (local_kind p.users) (program_of p) event before p.work (is_kind p.users) due may s.carries;
      those = those_stay event before p.users over s.those;
      greeted = inl over.greeted;
      is_due = due_step p event.came (parts.row_now p.work event.ready) (subst (λ x. MayCome x event.came) due may);
    }

moves : (event : Own) (before : List Own) (p : Place) (row : Row) → p.row ≡ row → At before row p → event.due ≡ due_at row event.ready p → MayCome event.due event.came
    → let q = act row event.ready event.came p in At (event ∷ before) q.row q
moves event before p at.OpenUsers is a due may =
    by_fit open_users (λ got. event.came ≡ got → let q = users_opened got p in At (event ∷ before) q.row q) event.came (subst (λ x. MayCome x event.came) due may)
    (λ told fit same. opening event before p a.0 a.1 due told.answer told.bytes same) refl
moves event before p (at.ReadUsers fd) is a due may =
    by_fit (call.ReadAt fd (length p.text) 8192) (λ got. event.came ≡ got → let q = users_read fd got p in At (event ∷ before) q.row q) event.came (subst (λ x. MayCome x event.came) due may)
    (λ told fit same. reading event before p a fd due told.answer told.bytes same) refl
moves event before p (at.CloseUsers fd whole) is a due may = closing event before p a fd whole due
moves event before p at.Serves is a due may =
    subst (λ (row : Row). At (event ∷ before) row (served (parts.row_now p.work event.ready) event.came p)) (sym is) (serves_on event before p a due may)
moves event before p at.OutOfMemory is a due may = absurd (subst (λ x. MayCome x event.came) due may)

pub tells : (args : Unit {0}) (past : List Own) → IsRunBy (Next args) past → At past (place_after past).row (place_after past)
tells args [] run = (refl, record { begun = refl; tells = begins; early = refl; text = refl })
tells args (event ∷ before) run =
    let p : Place = place_after before in
    moves event before p p.row refl (tells args before run.0) (sym run.1.0) run.1.1
