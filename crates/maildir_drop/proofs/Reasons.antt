-- Why a drop ended as it did: each row has its cause in the past.
use Rattle.std.proofs.Common.{◌≡◌, ℕ, List, [], ◌∷◌, Bool, true, false, refl, sym, ap, ◌∙◌, subst, inl, inr, ⊎_elim, take}
use Rattle.std.proofs.lemmas.Bool.{false≢true}
use Rattle.std.specs.Prelude.{if◌then◌else◌}
use Rattle.call_fs.specs.declared.calls.Answer.{Answer}
use Rattle.call_fs.specs.declared.calls.Answer.TheVariants as answer
use Rattle.call_fs.specs.declared.calls.CallData.{CallData}
use Rattle.call_fs.specs.declared.calls.CallData.TheVariants as call
use Rattle.call_fs.specs.declared.calls.Fd.{Fd}
use Rattle.call_fs.specs.declared.calls.FsError.TheVariants as error
use Rattle.call_fs.specs.declared.calls.Told.{Told}
use Rattle.call_fs.specs.declared.past.GotData.{GotData}
use Rattle.call_fs.specs.declared.past.GotData.TheVariants as came
use Rattle.call_fs.specs.declared.past.NeedData.{NeedData}
use Rattle.call_fs.specs.declared.past.NeedData.TheVariants as needs
use Rattle.call_fs.specs.declared.past.Own.{Own}
use Rattle.call_fs.specs.Columns.{IsAnswerTo}
use Rattle.call_fs.specs.Past.{HasCall, IsFault}
use Rattle.call_fs.specs.Program.{MayCome}
use Rattle.maildir_drop.specs.declared.arguments.Arguments.{Arguments}
use Rattle.maildir_drop.specs.declared.names.DropNames.{DropNames}
use Rattle.maildir_drop.specs.declared.row.Attempt.{Attempt}
use Rattle.maildir_drop.specs.declared.row.Attempt.TheVariants.{First, Second, Third}
use Rattle.maildir_drop.specs.declared.row.Outcome.{Outcome}
use Rattle.maildir_drop.specs.declared.row.Outcome.TheVariants.{Dropped, Failed}
use Rattle.maildir_drop.specs.declared.row.Row.{Row}
use Rattle.maildir_drop.specs.declared.row.Row.TheVariants as at
use Rattle.maildir_drop.specs.declared.row.Why.{Why}
use Rattle.maildir_drop.specs.declared.row.Why.TheVariants as why
use Rattle.maildir_drop.specs.Causes.{IsLink, IsLinked, IsTaken, IsTakenInNew, LacksSome, LacksMemory, IsDeferred, IsCause}
use Rattle.maildir_drop.specs.Causes.IsDeferred.{CallFailed, IsMissing, HasNoForm, AllTaken, NewIsTaken}
use Rattle.maildir_drop.specs.Laws.{HasDropped}
use Rattle.maildir_drop.specs.Names.{names_of, pair_at, is_name}
use Rattle.maildir_drop.specs.Run.{IsRun}
use Rattle.call_fs.proofs.Coming.{by_fit}
use Rattle.maildir_drop.specs.Table.{Place, answered, appended, begin_row, create_row, due_at, failed, is_complete, link_row, moved, next_row, place_after, sync_row}

-- what a row rests on
abbrev pub Caused : DropNames → List Own → Row → Type 0
Caused names past (at.Create First) = Unit {0}
Caused names past (at.Create Second) = HasCall past (IsTaken names First)
Caused names past (at.Create Third) = HasCall past (IsTaken names First) × HasCall past (IsTaken names Second)
Caused names past (at.Append a fd) = Unit {0}
Caused names past (at.Sync a fd) = Unit {0}
Caused names past (at.Close a fd) = Unit {0}
Caused names past (at.Link a) = Unit {0}
Caused names past (at.Shut a fd reason) = IsCause names past reason
Caused names past (at.Unlink a Dropped) = HasCall past (IsLinked names a)
Caused names past (at.Unlink a (Failed reason)) = IsCause names past reason
Caused names past (at.Ended a Dropped) = HasCall past (IsLinked names a)
Caused names past (at.Ended a (Failed reason)) = IsCause names past reason

module _ (names : DropNames) (event : Own) (before : List Own) where
  deferred_later : IsDeferred names before → IsDeferred names (event ∷ before)
  deferred_later (CallFailed h) = CallFailed (inr h)
  deferred_later (IsMissing h) = IsMissing (inr h)
  deferred_later (HasNoForm a e) = HasNoForm a e
  deferred_later (AllTaken x y z) = AllTaken (inr x) (inr y) (inr z)
  deferred_later (NewIsTaken h) = NewIsTaken (inr h)

  later : (reason : Why) → IsCause names before reason → IsCause names (event ∷ before) reason
  later why.Defer h = deferred_later h
  later why.Memory h = inr h

  pub begins : (a : Attempt) → Caused names (event ∷ before) (at.Create a) → Caused names (event ∷ before) (begin_row names a)
  begins a h = by (is_name (pair_at names a).tmp) refl
    where
      by : (t : Bool) → is_name (pair_at names a).tmp ≡ t → Caused names (event ∷ before) (if t then at.Create a else failed a why.Defer)
      by true e = h
      by false e = HasNoForm a e

  goes_on : (a : Attempt) (fd : Fd) (complete : Bool) → Caused names (event ∷ before) (next_row a fd complete)
  goes_on a fd true = tt
  goes_on a fd false = tt

  -- this event was this call, with this answer
  module _ (c : CallData) (told : Told) (due : needs.File c ≡ event.due) (got : event.came ≡ came.Answered told) where
    this : (P : CallData → Answer → Type 0) → P c told.answer → HasCall (event ∷ before) P
    this P h = inl (record { call = c; told = told; due = sym due; came = got; holds = h })

    creates : (a : Attempt) (left : List ℕ) (answer : Answer) → c ≡ call.CreateExcl (pair_at names a).tmp → told.answer ≡ answer → IsAnswerTo c answer
        → Caused names before (at.Create a) → Caused names (event ∷ before) (create_row names a (is_complete left) answer)
    creates a left (answer.Created fd n) is e fit h = goes_on a fd (is_complete left)
    creates First left (answer.Refused error.Exists) is e fit h = begins Second (this (IsTaken names First) (is, e))
    creates Second left (answer.Refused error.Exists) is e fit h = begins Third (inr h, this (IsTaken names Second) (is, e))
    creates Third left (answer.Refused error.Exists) is e fit h = AllTaken (inr h.0) (inr h.1) (this (IsTaken names Third) (is, e))
    creates a left (answer.Refused error.NotThere) is e fit h = IsMissing (this LacksSome e)
    creates a left (answer.Refused error.Fault) is e fit h = CallFailed (this IsFault e)
    creates a left (answer.Refused error.Memory) is e fit h = this LacksMemory e
    creates a left answer is e fit h = absurd (subst (λ x. IsAnswerTo x answer) is fit)

    appends : (a : Attempt) (fd : Fd) (left bytes : List ℕ) (answer : Answer) → c ≡ call.Append fd bytes → told.answer ≡ answer → IsAnswerTo c answer
        → Caused names (event ∷ before) (appended a fd left answer).row
    appends a fd left bytes answer.Done is e fit = goes_on a fd (is_complete (appended a fd left answer.Done).left)
    appends a fd left bytes (answer.Refused error.Fault) is e fit = CallFailed (this IsFault e)
    appends a fd left bytes (answer.Refused error.Memory) is e fit = this LacksMemory e
    appends a fd left bytes answer is e fit = absurd (subst (λ x. IsAnswerTo x answer) is fit)

    syncs : (a : Attempt) (fd : Fd) (answer : Answer) → c ≡ call.Sync fd → told.answer ≡ answer → IsAnswerTo c answer → Caused names (event ∷ before) (sync_row a fd answer)
    syncs a fd answer.Done is e fit = tt
    syncs a fd (answer.Refused error.Fault) is e fit = CallFailed (this IsFault e)
    syncs a fd answer is e fit = absurd (subst (λ x. IsAnswerTo x answer) is fit)

    links : (a : Attempt) (answer : Answer) → c ≡ call.Link (pair_at names a).tmp (pair_at names a).new → told.answer ≡ answer → IsAnswerTo c answer
        → Caused names (event ∷ before) (link_row a answer)
    links a answer.Done is e fit = this (IsLinked names a) (is, e)
    links a (answer.Refused error.NotThere) is e fit = IsMissing (this LacksSome e)
    links a (answer.Refused error.Exists) is e fit = NewIsTaken (this IsTakenInNew ((pair_at names a).tmp, ((pair_at names a).new, is, e)))
    links a (answer.Refused error.Fault) is e fit = CallFailed (this IsFault e)
    links a (answer.Refused error.Memory) is e fit = this LacksMemory e
    links a answer is e fit = absurd (subst (λ x. IsAnswerTo x answer) is fit)

  unlinked : (a : Attempt) (o : Outcome) → Caused names before (at.Unlink a o) → Caused names (event ∷ before) (at.Ended a o)
  unlinked a Dropped h = inr h
  unlinked a (Failed reason) h = later reason h

  abbrev pub After : Row → List ℕ → GotData → Type 0
  After row left got = event.came ≡ got → Caused names (event ∷ before) (moved names (record { row = row; left = left }) got).row

  pub step : (row : Row) (left : List ℕ) → due_at names row left ≡ event.due → MayCome (due_at names row left) event.came → Caused names before row → After row left event.came
  step (at.Create a) left due may h =
      let c = call.CreateExcl (pair_at names a).tmp in
      by_fit c (After (at.Create a) left) event.came may (λ told fit is. creates c told due is a left told.answer refl refl fit h)
  step (at.Append a fd) left due may h =
      let c = call.Append fd (take 8192 left) in
      by_fit c (After (at.Append a fd) left) event.came may (λ told fit is. appends c told due is a fd left (take 8192 left) told.answer refl refl fit)
  step (at.Sync a fd) left due may h = by_fit (call.Sync fd) (After (at.Sync a fd) left) event.came may (λ told fit is. syncs (call.Sync fd) told due is a fd told.answer refl refl fit)
  step (at.Close a fd) left due may h = by_fit (call.Close fd) (After (at.Close a fd) left) event.came may (λ told fit is. tt)
  step (at.Link a) left due may h =
      let c = call.Link (pair_at names a).tmp (pair_at names a).new in
      by_fit c (After (at.Link a) left) event.came may (λ told fit is. links c told due is a told.answer refl refl fit)
  step (at.Shut a fd reason) left due may h = by_fit (call.Close fd) (After (at.Shut a fd reason) left) event.came may (λ told fit is. later reason h)
  step (at.Unlink a o) left due may h =
      let c = call.Unlink (pair_at names a).tmp in
      by_fit c (After (at.Unlink a o) left) event.came may (λ told fit is. unlinked a o h)
  step (at.Ended a o) left due may h = absurd may

caused : (args : Arguments) (past : List Own) → IsRun args past → Caused (names_of args) past (place_after args past).row
caused args [] run = first (is_name (pair_at (names_of args) First).tmp) refl
  where
    first : (t : Bool) → is_name (pair_at (names_of args) First).tmp ≡ t → Caused (names_of args) [] (if t then at.Create First else failed First why.Defer)
    first true e = tt
    first false e = HasNoForm First e
caused args (event ∷ before) run =
    let p : Place = place_after args before in
    step (names_of args) event before p.row p.left run.1.0 (subst (λ x. MayCome x event.came) (sym run.1.0) run.1.1) (caused args before run.0) refl

pub linked : (args : Arguments) (past : List Own) (attempt : Attempt) → IsRun args past → HasDropped (place_after args past).row attempt → HasCall past (IsLinked (names_of args) attempt)
linked args past attempt run (inl e) = subst (Caused (names_of args) past) e (caused args past run)
linked args past attempt run (inr e) = subst (Caused (names_of args) past) e (caused args past run)

pub failure : (args : Arguments) (past : List Own) (attempt : Attempt) (reason : Why) → IsRun args past → (place_after args past).row ≡ at.Ended attempt (Failed reason)
    → IsCause (names_of args) past reason
failure args past attempt reason run e = subst (Caused (names_of args) past) e (caused args past run)

-- A link that was made

abbrev AtDropped : Row → Type 0
AtDropped row = (attempt : Attempt) × HasDropped row attempt

on_unlink : (names : DropNames) (left : List ℕ) (a : Attempt) (got : GotData) → AtDropped (moved names (record { row = at.Unlink a Dropped; left = left }) got).row
on_unlink names left a (came.Answered told) = (a, inr refl)
on_unlink names left a (came.Took bytes) = (a, inl refl)
on_unlink names left a came.End = (a, inl refl)
on_unlink names left a (came.Ended status) = (a, inl refl)
on_unlink names left a came.Crashed = (a, inl refl)
on_unlink names left a came.Gave = (a, inl refl)
on_unlink names left a (came.Started pid) = (a, inl refl)
on_unlink names left a came.Failed = (a, inl refl)
on_unlink names left a came.Memory = (a, inl refl)

on_end : (names : DropNames) (left : List ℕ) (a : Attempt) (got : GotData) → AtDropped (moved names (record { row = at.Ended a Dropped; left = left }) got).row
on_end names left a (came.Answered told) = (a, inr refl)
on_end names left a (came.Took bytes) = (a, inr refl)
on_end names left a came.End = (a, inr refl)
on_end names left a (came.Ended status) = (a, inr refl)
on_end names left a came.Crashed = (a, inr refl)
on_end names left a came.Gave = (a, inr refl)
on_end names left a (came.Started pid) = (a, inr refl)
on_end names left a came.Failed = (a, inr refl)
on_end names left a came.Memory = (a, inr refl)

stays : (names : DropNames) (p : Place) (got : GotData) → AtDropped p.row → AtDropped (moved names p got).row
stays names p got h = ⊎_elim
    (λ e. subst (λ row. AtDropped (moved names (record { row = row; left = p.left }) got).row) (sym e) (on_unlink names p.left h.0 got))
    (λ e. subst (λ row. AtDropped (moved names (record { row = row; left = p.left }) got).row) (sym e) (on_end names p.left h.0 got))
    h.1

-- a link is due only at its row
abbrev is_link : NeedData → Bool
is_link (needs.File (call.Link old new)) = true
is_link due = false

makes : (names : DropNames) (row : Row) (left : List ℕ) (told : Answer) → is_link (due_at names row left) ≡ true → told ≡ answer.Done
    → AtDropped (answered names row (record { row = row; left = left }) told).row
makes names (at.Link a) left told e done = subst (λ x. AtDropped (answered names (at.Link a) (record { row = at.Link a; left = left }) x).row) (sym done) (a, inl refl)
makes names (at.Create a) left told e done = absurd (false≢true e)
makes names (at.Append a fd) left told e done = absurd (false≢true e)
makes names (at.Sync a fd) left told e done = absurd (false≢true e)
makes names (at.Close a fd) left told e done = absurd (false≢true e)
makes names (at.Shut a fd reason) left told e done = absurd (false≢true e)
makes names (at.Unlink a o) left told e done = absurd (false≢true e)
makes names (at.Ended a o) left told e done = absurd (false≢true e)

pub made : (args : Arguments) (past : List Own) → IsRun args past → HasCall past IsLink → AtDropped (place_after args past).row
made args [] run h = absurd h
made args (event ∷ before) run (inr h) = stays (names_of args) (place_after args before) event.came (made args before run.0 h)
made args (event ∷ before) run (inl w) =
    let p : Place = place_after args before in
    let names = names_of args in
    let due = ap is_link (run.1.0 ∙ w.due ∙ ap needs.File w.holds.1.1) in
    subst (λ got. AtDropped (moved names p got).row) (sym w.came) (makes names p.row p.left w.told.answer due w.holds.1.2)
