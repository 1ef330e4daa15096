-- One turn: its call may be made, and its event goes on.
use Rattle.std.proofs.Common.{◌≡◌, ◌≢◌, ℕ, ◌≤◌, List, [], ◌∷◌, ◌++◌, length, take, Option, Some, None, Result, Ok, Err, OnErr, refl, sym, ap, ◌∙◌, subst, arith}
use Rattle.std.specs.declared.alloc.AllocError.{AllocError}
use Rattle.call_fs.specs.declared.calls.CallData.{CallData}
use Rattle.call_fs.specs.declared.calls.CallData.TheVariants as call
use Rattle.call_fs.specs.declared.calls.Answer.{Answer}
use Rattle.call_fs.specs.declared.calls.Answer.TheVariants as told
use Rattle.call_fs.specs.declared.calls.Told.{Told}
use Rattle.call_fs.specs.declared.program.Port.TheVariants as port
use Rattle.call_fs.specs.declared.program.Ready.{Ready}
use Rattle.call_fs.specs.declared.past.NeedData.{NeedData}
use Rattle.call_fs.specs.declared.past.NeedData.TheVariants as needs
use Rattle.call_fs.specs.declared.past.GotData.{GotData}
use Rattle.call_fs.specs.declared.past.GotData.TheVariants as got
use Rattle.call_fs.specs.declared.past.Own.{Own}
use Rattle.call_fs.specs.Apply.{Apply, IsReadBy, MayCall}
use Rattle.call_fs.specs.Calls.{bytes_read, told_with, entry_with}
use Rattle.call_fs.specs.Columns.{HasRoomFor, IsAnswerTo}
use Rattle.call_fs.specs.Disk.{Disk}
use Rattle.call_fs.specs.declared.modes.Mode.{Mode}
use Rattle.call_fs.specs.Past.{Table, IsRunBy, Backs, Uses, UsesHeld, HoldsOf, IsFault, Makes, kept_as, held}
use Rattle.call_fs.specs.Program.{MayCome}
use Rattle.call_fs.specs.Told.{AnswerHasCause}
use Rattle.call_fs.proofs.Held.{may_call, has_room}
use Rattle.mail_bytes.specs.Moments.{IsMoment}
use Rattle.mail_bytes.specs.Told.{Meets, OnTold, Records, Rose}
use Rattle.program_runner.specs.Outside.{Outside, AreKept, Does, Takes, Puts, FailsToTake, FailsToGive, HasFew}
use Rattle.program_runner.specs.Runs.{Change, GoesOn, MayTurn}

-- The call that is due may be made

uses_by : (h : ℕ → Option Mode) (due : NeedData) (c : CallData) → UsesHeld h due → due ≡ needs.File c → Uses h c
uses_by h due c uses is = subst (UsesHeld h) is uses

pub fits_by : (o : Option Disk) (h : ℕ → Option Mode) (due : NeedData) (c : CallData) → OnTold o (λ d. Backs d h) → UsesHeld h due → due ≡ needs.File c → OnTold o (λ d. MayCall d c)
fits_by None h due c backs uses is = tt
fits_by (Some d) h due c backs uses is = may_call d h backs c (uses_by h due c uses is)

pub room_by : (h : ℕ → Option Mode) (due : NeedData) (c : CallData) → UsesHeld h due → due ≡ needs.File c → HasRoomFor 8192 c
room_by h due c uses is = has_room h c (uses_by h due c uses is)

few_by : (c : CallData) (answer : Answer) → HasRoomFor 8192 c → IsAnswerTo c answer → HasFew answer
few_by c (told.Created fd n) room kind = omega arith
few_by c (told.Opened fd) room kind = omega arith
few_by c told.Done room kind = omega arith
few_by c (told.Stat stat) room kind = omega arith
few_by c (told.Name name) room kind = omega arith
few_by c told.NoName room kind = omega arith
few_by c (told.Refused why) room kind = omega arith
few_by (call.ReadAt fd at len) (told.Count n) room kind = omega (arith, room, kind)
few_by (call.CreateExcl name) (told.Count n) room kind = absurd kind
few_by (call.Open name how) (told.Count n) room kind = absurd kind
few_by (call.WriteAt fd at bytes) (told.Count n) room kind = absurd kind
few_by (call.Append fd bytes) (told.Count n) room kind = absurd kind
few_by (call.Truncate fd len) (told.Count n) room kind = absurd kind
few_by (call.Sync fd) (told.Count n) room kind = absurd kind
few_by (call.Close fd) (told.Count n) room kind = absurd kind
few_by (call.Link old new) (told.Count n) room kind = absurd kind
few_by (call.Unlink name) (told.Count n) room kind = absurd kind
few_by (call.Stat name) (told.Count n) room kind = absurd kind
few_by (call.NextName dir last) (told.Count n) room kind = absurd kind

pub few : (h : ℕ → Option Mode) (due : NeedData) (c : CallData) (answer : Answer) → UsesHeld h due → due ≡ needs.File c → IsAnswerTo c answer → HasFew answer
few h due c answer uses is kind = few_by c answer (room_by h due c uses is) kind

-- what is due uses what is held
pub uses_due : {A : Type 0} (next : A → Table) (before looked : A → List Own → Type 0) (ready : Ready) (disk : Option Disk) (present : ℕ) (found : Ready) (asked : NeedData)
    → (t : MayTurn next before ready disk) → ((args : A) (past : List Own) → before args past → looked args past)
    → ((args : A) (past : List Own) → looked args past → asked ≡ next args past present found)
    → ((args : A) (past : List Own) (now : ℕ) (r : Ready) → IsRunBy (next args) past → UsesHeld (held past) (next args past now r))
    → UsesHeld (held t.past) asked
uses_due next before looked ready disk present found asked t looks says uses =
    subst (UsesHeld (held t.past)) (sym (says t.args t.past (looks t.args t.past t.is))) (uses t.args t.past present found t.run)

-- The event goes on

-- a machine that looked, and then was told what came of its need
module _ {A : Type 0} (next : A → Table) (before looked after : A → List Own → Type 0) (present now : ℕ) (found ready : Ready) (held asked : NeedData) (came : GotData)
    (looks : (args : A) (past : List Own) → before args past → looked args past) (present_is : present ≡ now) (found_is : found ≡ ready) (asked_is : asked ≡ held)
    (says : (args : A) (past : List Own) → looked args past → asked ≡ next args past present found)
    (done : (args : A) (past : List Own) → looked args past → after args (record { read = present; ready = found; due = held; came = came } ∷ past)) where
  abbrev event : NeedData → Own
  event due = record { read = now; ready = ready; due = due; came = came }

  pub due_at : (args : A) (past : List Own) → before args past → next args past now ready ≡ asked
  due_at args past b = sym (says args past (looks args past b) ∙ ap (λ (n : ℕ). next args past n found) present_is ∙ ap (λ (r : Ready). next args past now r) found_is)

  pub stands_at : (args : A) (past : List Own) → before args past → after args (event asked ∷ past)
  stands_at args past b =
      subst (λ (d : NeedData). after args (event d ∷ past)) (sym asked_is)
      (subst (λ (r : Ready). after args (record { read = now; ready = r; due = held; came = came } ∷ past)) found_is
      (subst (λ (n : ℕ). after args (record { read = n; ready = found; due = held; came = came } ∷ past)) present_is
      (done args past (looks args past b))))

  pub goes : (change : Change) (due : NeedData) (old new : Outside) → change now ready came → asked ≡ due → MayCome due came → Does (event due) old new → GoesOn next before after change ready old new
  goes change due old new changed is may does = record {
    changed = changed;
    event = event due;
    found = refl;
    due = λ args past b. due_at args past b ∙ is;
    stands = λ args past b. subst (λ (d : NeedData). after args (event d ∷ past)) is (stands_at args past b);
    came = may;
    does = does;
  }

-- What it did outside

kept_none : {X : Type 0} (o : Option (List X)) → AreKept o o []
kept_none None = tt
kept_none (Some l) = sym (nothing l) where
  nothing : {X : Type 0} (l : List X) → l ++ [] ≡ l
  nothing [] = refl
  nothing (x ∷ l) = ap (λ t. x ∷ t) (nothing l)

kept_one : {X : Type 0} (a b : Option (List X)) (x : X) → Records a b x → AreKept a b (x ∷ [])
kept_one (Some old) (Some new) x r = r
kept_one told None x r = tt
kept_one None (Some new) x r = absurd r

meets_same : {X : Type 0} (P : X → X → Type 0) → ((x : X) → P x x) → (a : Option X) → Meets a a P
meets_same P by None = tt
meets_same P by (Some x) = by x

nothing_more : (l : List ℕ) → l ++ [] ≡ l
nothing_more [] = refl
nothing_more (x ∷ l) = ap (λ t. x ∷ t) (nothing_more l)

-- a call failed, so the disk counted it
fault_rose : (before now : ℕ) (answer : Answer) (event : Own) (told : Told) → event.came ≡ got.Answered told → told.answer ≡ answer → AnswerHasCause before now answer
    → HoldsOf IsFault event → Rose before now
fault_rose before now answer event told came is cause h =
    let both : got.Answered told ≡ got.Answered h.told = sym came ∙ h.came in
    let same : told.answer ≡ h.told.answer = cc in
    cause.rose (sym is ∙ same ∙ h.holds)

no_call : (event : Own) (due : NeedData) → event.due ≡ due → ((c : CallData) → due ≢ needs.File c) → HoldsOf IsFault event → ⊥
no_call event due is none h = none h.call (sym is ∙ h.due)

-- a look at the clock, at this moment
module _ (old new : Outside) (read : ℕ) (ready : Ready) (moment : IsMoment read) (later : old.last ≤ read) (last : new.last ≡ read) (moments : Records old.moments new.moments read) where
  pub does_call : (c : CallData) (answer : Answer) (bytes into : List ℕ) → bytes ≡ bytes_read answer into
      → Meets old.disk new.disk (λ d e. Apply d read c answer e) → Records old.calls new.calls (entry_with c answer into)
      → OnTold old.disk (λ d. IsReadBy d c (told_with answer into)) → AnswerHasCause old.disk_faults new.disk_faults answer
      → new.left ≡ old.left → new.input_faults ≡ old.input_faults → new.taken ≡ old.taken → new.output_faults ≡ old.output_faults
      → Does (record { read = read; ready = ready; due = needs.File c; came = got.Answered (record { answer = answer; bytes = bytes }) }) old new
  does_call c answer bytes into is made called read_is cause left input taken output =
      let told : Told = record { answer = answer; bytes = bytes } in
      let event : Own = record { read = read; ready = ready; due = needs.File c; came = got.Answered told } in
      let told_is : told_with answer into ≡ told = ap (λ (b : List ℕ). record { answer = answer; bytes = b }) (sym is) in
      record {
        moment = moment;
        later = later;
        last = last;
        moments = moments;
        disk = subst (λ (t : Told). Meets old.disk new.disk (λ before after. Makes before read (needs.File c) (got.Answered t) after)) told_is
            (makes_call old.disk new.disk c (told_with answer into) made read_is);
        calls = subst (λ (t : Told). AreKept old.calls new.calls (record { call = c; told = t } ∷ [])) told_is (kept_one old.calls new.calls (entry_with c answer into) called);
        disk_counts = cause.later;
        disk_cause = λ h. fault_rose old.disk_faults new.disk_faults answer event told refl refl cause h;
        left = subst (λ o. Meets old.left o (Takes event)) (sym left) (meets_same (Takes event) (λ l. (refl, tt)) old.left);
        input_counts = subst (λ n. old.input_faults ≤ n) (sym input) (omega arith);
        input_cause = λ h. let due = h.due in absurd (cc);
        taken = subst (λ o. Meets old.taken o (Puts event)) (sym taken) (meets_same (Puts event) (λ l. ([], refl, sym (nothing_more l))) old.taken);
        output_counts = subst (λ n. old.output_faults ≤ n) (sym output) (omega arith);
        output_cause = λ h. let due = h.due in absurd (cc);
      } where
        makes_call : (a b : Option Disk) (c : CallData) (told : Told) → Meets a b (λ d e. Apply d read c told.answer e) → OnTold a (λ d. IsReadBy d c told)
            → Meets a b (λ before after. Makes before read (needs.File c) (got.Answered told) after)
        makes_call None None c told made reads = tt
        makes_call (Some d) (Some e) c told made reads = (made, reads)
        makes_call (Some d) None c told made reads = absurd made
        makes_call None (Some e) c told made reads = absurd made

  -- of any other event nothing happens to the disk
  abbrev pub Rests : NeedData → GotData → Type 0
  Rests due came = ((d : Disk) → Makes d read due came d) × (kept_as due came ≡ []) × ((c : CallData) → due ≢ needs.File c)

  pub does_beside : (due : NeedData) (came : GotData) → Rests due came → new.disk ≡ old.disk → new.calls ≡ old.calls → new.disk_faults ≡ old.disk_faults
      → (event : Own) → event ≡ record { read = read; ready = ready; due = due; came = came }
      → Meets old.left new.left (Takes event) → old.input_faults ≤ new.input_faults → (FailsToTake event → Rose old.input_faults new.input_faults)
      → Meets old.taken new.taken (Puts event) → old.output_faults ≤ new.output_faults → (FailsToGive event → Rose old.output_faults new.output_faults)
      → Does event old new
  does_beside due came rests disk calls faults event is left input input_cause taken output output_cause =
      subst (λ e. (Meets old.left new.left (Takes e)) → (FailsToTake e → Rose old.input_faults new.input_faults) → Meets old.taken new.taken (Puts e)
      → (FailsToGive e → Rose old.output_faults new.output_faults) → Does e old new) (sym is)
      (λ left input_cause taken output_cause. record {
        moment = moment;
        later = later;
        last = last;
        moments = moments;
        disk = subst (λ o. Meets old.disk o (λ before after. Makes before read due came after)) (sym disk) (meets_same (λ before after. Makes before read due came after) rests.0 old.disk);
        calls = subst (λ o. AreKept old.calls o (kept_as due came)) (sym calls) (subst (λ l. AreKept old.calls old.calls l) (sym rests.1) (kept_none old.calls));
        disk_counts = subst (λ n. old.disk_faults ≤ n) (sym faults) (omega arith);
        disk_cause = λ h. absurd (rests.2 h.call h.due);
        left = left;
        input_counts = input;
        input_cause = input_cause;
        taken = taken;
        output_counts = output;
        output_cause = output_cause;
      }) left input_cause taken output_cause

  -- of the input
  pub does_take : (came : GotData) → new.disk ≡ old.disk → new.calls ≡ old.calls → new.disk_faults ≡ old.disk_faults
      → Meets old.left new.left (Takes (record { read = read; ready = ready; due = needs.Take port.Input; came = came }))
      → old.input_faults ≤ new.input_faults → (came ≡ got.Failed → Rose old.input_faults new.input_faults)
      → new.taken ≡ old.taken → new.output_faults ≡ old.output_faults
      → Does (record { read = read; ready = ready; due = needs.Take port.Input; came = came }) old new
  does_take came disk calls faults left input cause taken output =
      let event : Own = record { read = read; ready = ready; due = needs.Take port.Input; came = came } in
      does_beside (needs.Take port.Input) came (λ d. refl, refl, λ c is. cc) disk calls faults event refl left input
      (λ h. cause h.came)
      (subst (λ o. Meets old.taken o (Puts event)) (sym taken) (meets_same (Puts event) (λ l. ([], refl, sym (nothing_more l))) old.taken))
      (subst (λ n. old.output_faults ≤ n) (sym output) (omega arith))
      (λ h. let due = h.due in absurd (cc))

  -- to the output
  pub does_give : (bytes : List ℕ) (came : GotData) → new.disk ≡ old.disk → new.calls ≡ old.calls → new.disk_faults ≡ old.disk_faults
      → new.left ≡ old.left → new.input_faults ≡ old.input_faults
      → Meets old.taken new.taken (Puts (record { read = read; ready = ready; due = needs.Give port.Output bytes; came = came }))
      → old.output_faults ≤ new.output_faults → (came ≡ got.Failed → Rose old.output_faults new.output_faults)
      → Does (record { read = read; ready = ready; due = needs.Give port.Output bytes; came = came }) old new
  does_give bytes came disk calls faults left input taken output cause =
      let event : Own = record { read = read; ready = ready; due = needs.Give port.Output bytes; came = came } in
      does_beside (needs.Give port.Output bytes) came (λ d. refl, refl, λ c is. cc) disk calls faults event refl
      (subst (λ o. Meets old.left o (Takes event)) (sym left) (meets_same (Takes event) (λ l. (refl, tt)) old.left))
      (subst (λ n. old.input_faults ≤ n) (sym input) (omega arith))
      (λ h. let due = h.due in absurd (cc))
      taken output
      (λ h. cause h.came)

-- bytes that were taken are so taken by the event
pub took_bytes : (a b : Option (List ℕ)) (k : ℕ) (into : List ℕ) (read : ℕ) (ready : Ready) → Meets a b (λ before after. before ≡ take k into ++ after)
    → Meets a b (Takes (record { read = read; ready = ready; due = needs.Take port.Input; came = got.Took (take k into) }))
took_bytes None None k into read ready m = tt
took_bytes (Some x) (Some y) k into read ready m = (m, tt)
took_bytes (Some x) None k into read ready m = absurd m
took_bytes None (Some y) k into read ready m = absurd m

module _ (read : ℕ) (ready : Ready) where
  pub took_end : (a b : Option (List ℕ)) → Meets a b (λ before after. (before ≡ []) × (after ≡ []))
      → Meets a b (Takes (record { read = read; ready = ready; due = needs.Take port.Input; came = got.End }))
  took_end None None m = tt
  took_end (Some x) (Some y) m = (m.0 ∙ sym m.1, m.1)
  took_end (Some x) None m = absurd m
  took_end None (Some y) m = absurd m

  pub took_nothing : (a b : Option (List ℕ)) → Meets a b (λ before after. after ≡ before)
      → Meets a b (Takes (record { read = read; ready = ready; due = needs.Take port.Input; came = got.Failed }))
  took_nothing None None m = tt
  took_nothing (Some x) (Some y) m = (sym m, tt)
  took_nothing (Some x) None m = absurd m
  took_nothing None (Some y) m = absurd m

  pub gave_all : (a b : Option (List ℕ)) (bytes : List ℕ) → Meets a b (λ before after. after ≡ before ++ bytes)
      → Meets a b (Puts (record { read = read; ready = ready; due = needs.Give port.Output bytes; came = got.Gave }))
  gave_all None None bytes m = tt
  gave_all (Some x) (Some y) bytes m = (bytes, refl, m)
  gave_all (Some x) None bytes m = absurd m
  gave_all None (Some y) bytes m = absurd m

  pub gave_part : (a b : Option (List ℕ)) (bytes : List ℕ) → Meets a b (λ before after. (k : ℕ) × (k ≤ length bytes) × (after ≡ before ++ take k bytes))
      → Meets a b (Puts (record { read = read; ready = ready; due = needs.Give port.Output bytes; came = got.Failed }))
  gave_part None None bytes m = tt
  gave_part (Some x) (Some y) bytes (k, few, is) = (take k bytes, (k, few, refl), is)
  gave_part (Some x) None bytes m = absurd m
  gave_part None (Some y) bytes m = absurd m

-- A turn that failed

pub on_err : {X : Type 0} (result : Result X AllocError) (P : Type 0) → P → OnErr result P
on_err (Ok x) P is = tt
on_err (Err why) P is = is
