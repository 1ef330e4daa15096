-- Births, and the moments at which passes began, are moments that a clock may tell.
use Rattle.std.proofs.Common.{◌≡◌, ℕ, List, [], ◌∷◌, bytes_eq, arith, Bool, true, false, if◌then◌else◌, Option, Some, None, refl, sym, subst, ⊎_elim}
use Rattle.std.proofs.Math.Nat.{min-eq_left}
use Rattle.std.proofs.lemmas.List.Elements.{All-head, All-tail}
use Rattle.std.specs.Prelude.{◌==◌, ◌≢◌, All}
use Rattle.call_fs.proofs.Maps.{put_cases}
use Rattle.call_fs.specs.Maps.{put}
use Rattle.call_fs.specs.declared.calls.Answer.TheVariants as answer
use Rattle.call_fs.specs.declared.calls.Answer.{Answer}
use Rattle.call_fs.specs.declared.calls.CallData.TheVariants as call
use Rattle.call_fs.specs.declared.calls.CallData.{CallData}
use Rattle.call_fs.specs.declared.calls.Fd.{Fd}
use Rattle.call_fs.specs.declared.calls.FsError.TheVariants as why
use Rattle.call_fs.specs.declared.calls.How.TheVariants as how
use Rattle.call_fs.specs.declared.calls.Told.{Told as ToldOf}
use Rattle.call_fs.specs.declared.past.GotData.TheVariants as came
use Rattle.call_fs.specs.declared.past.GotData.{GotData}
use Rattle.call_fs.specs.declared.past.NeedData.TheVariants as needs
use Rattle.call_fs.specs.declared.past.NeedData.{NeedData}
use Rattle.call_fs.specs.declared.past.Own.{Own}
use Rattle.call_fs.specs.declared.program.Port.TheVariants as port
use Rattle.mail_bytes.specs.Moments.{IsMoment}
use Rattle.queue_paths.specs.Names.Name.{Of}
use Rattle.queue_paths.specs.Names.Part.{Info as InfoFile, Remote as RemoteFile}
use Rattle.queue_paths.specs.Names.{Name, parse}
use Rattle.retry_law.proofs.Events.{begins}
use Rattle.retry_law.specs.Moments.{IsMomentAt, IsMomentOf, MomentsAreTold, TellsMoments}
use Rattle.retry_law.specs.Tried.{tried_by, tried_in}
use Rattle.send_core.specs.Births.{Birth, Births, Making, births, births_by, births_on, cleaned, found, passed, stated, written_last}
use Rattle.send_core.specs.Past.Work.{Missing, Noting, Reading}
use Rattle.send_core.specs.Past.{Work, account, work}
use Rattle.send_known.specs.declared.channel.Channel.{Channel}
use Rattle.send_runs.specs.DueMoments.Shift.{Begins, Fails, Learns, Same}
use Rattle.send_runs.specs.DueMoments.{Shift, Trial, has_unlinked, shift, trial, trial_by, tried}
use Rattle.send_runs.specs.Dues.{flies, over_at, pass_by, pass_in, unless}
use Rattle.todo_pass.specs.Table.{command_text}

-- Births

abbrev AllTold : (ℕ → ℕ) → Type 0
AllTold of = (n : ℕ) → IsMoment (of n)

abbrev LastTold : Option Birth → Type 0
LastTold None = Unit {0}
LastTold (Some it) = IsMoment it.moment

abbrev Told : Births → Type 0
Told b = AllTold b.of × LastTold b.last

put_told : (of : ℕ → ℕ) (k x : ℕ) → IsMoment x → AllTold of → AllTold (put of k x)
put_told of k x is h n = ⊎_elim
    (λ (e : (n ≡ k) × (put of k x n ≡ x)). subst IsMoment (sym e.1) is)
    (λ (e : (n ≢ k) × (put of k x n ≡ of n)). subst IsMoment (sym e.1) (h n))
    (put_cases of k x n)

put_if : (b : Bool) (of : ℕ → ℕ) (k x : ℕ) → IsMoment x → AllTold of → AllTold (if b then put of k x else of)
put_if true of k x is h = put_told of k x is h
put_if false of k x is h = h

found_told : (last : Option Birth) (m : ℕ) (of : ℕ → ℕ) → LastTold last → AllTold of → AllTold (found last m of)
found_told None m of is h = h
found_told (Some it) m of is h = put_if (it.n == m) of m it.moment is h

passed_told : (last : Option Birth) (command : List ℕ) (of : ℕ → ℕ) → LastTold last → AllTold of → AllTold (passed last command of)
passed_told None command of is h = h
passed_told (Some it) command of is h = put_if (bytes_eq command (command_text it.n)) of it.n it.moment is h

cleaned_told : (good : Bool) (b : Births) → Told b → Told (cleaned good b)
cleaned_told true b h = (passed_told b.last b.command b.of h.1 h.0, h.1)
cleaned_told false b h = h

stated_told : (x : Option Name) (told : Answer) (b : Births) → IsMomentAt x told → Told b → Told (stated x told b)
stated_told (Some (Of InfoFile n)) (answer.Stat stat) b is h = (h.0, is)
stated_told (Some (Of RemoteFile n)) (answer.Stat stat) b is h = (found_told b.last n b.of h.1 h.0, h.1)
stated_told (Some (Of RemoteFile n)) (answer.Refused why.NotThere) b is h = (found_told b.last n b.of h.1 h.0, h.1)
stated_told x told b is h = h

last_if : (x : Bool) (it : Birth) (last : Option Birth) → IsMoment it.moment → LastTold last → LastTold (if x then Some it else last)
last_if true it last is h = is
last_if false it last is h = h

written_told : (made : Option Making) (fd : Fd) (told : Answer) (now : ℕ) (last : Option Birth) → IsMoment now → LastTold last → LastTold (written_last made fd told now last)
written_told (Some m) fd answer.Done now last is h = last_if (fd.0 == m.fd.0) (record { n = m.n; moment = now }) last is h
written_told made fd told now last is h = h

call_told : (b : Births) (now : ℕ) (c : CallData) (told : ToldOf) → IsMoment now → IsMomentOf (needs.File c) (came.Answered told) → Told b → Told (births_on b now c told.answer)
call_told b now (call.Append fd bytes) told is came h = (h.0, written_told b.made fd told.answer now b.last is h.1)
call_told b now (call.Stat name) told is came h = stated_told (parse name) told.answer b came h
call_told b now c told is came h = h

event_told : (b : Births) (now : ℕ) (due : NeedData) (got : GotData) → IsMoment now → IsMomentOf due got → Told b → Told (births_by b now due got)
event_told b now (needs.File c) (came.Answered told) is came h = call_told b now c told is came h
event_told b now (needs.Take port.Clean) (came.Took bytes) is came h = cleaned_told (bytes_eq bytes (43 ∷ [])) b h
event_told b now (needs.Give port.Clean text) came.Gave is came h = h
event_told b now due got is came h = h

births_told : (past : List Own) → All TellsMoments past → Told (births past)
births_told [] all = ((λ n. omega arith), tt)
births_told (event ∷ before) all =
    let it = All-head TellsMoments event before all in
    event_told (births before) event.read event.due event.came it.read it.came (births_told before (All-tail TellsMoments event before all))

-- Passes

abbrev TrialTold : Option Trial → Type 0
TrialTold None = Unit {0}
TrialTold (Some t) = IsMoment t.begun

abbrev PassTold : Option ℕ → Type 0
PassTold None = Unit {0}
PassTold (Some begun) = IsMoment begun

opened_told : (now : ℕ) (w : Option Work) → IsMoment now → TrialTold (tried now w)
opened_told now None is = tt
opened_told now (Some (Reading s)) is = is
opened_told now (Some Missing) is = tt
opened_told now (Some (Noting fd synced)) is = tt

trial_moved : (now : ℕ) (w : Option Work) (t : Option Trial) (due : NeedData) → IsMoment now → TrialTold t → TrialTold (trial_by now w t due)
trial_moved now w t (needs.File (call.Open name how.Read)) is h = opened_told now w is
trial_moved now w t (needs.File (call.Close fd)) is h = tt
trial_moved now w t due is h = h

trial_told : (past : List Own) → All TellsMoments past → TrialTold (trial past)
trial_told [] all = tt
trial_told (event ∷ before) all =
    trial_moved event.read (work (event ∷ before)) (trial before) event.due (All-head TellsMoments event before all).read (trial_told before (All-tail TellsMoments event before all))

unless_told : (over : Bool) (p : Option ℕ) → PassTold p → PassTold (unless over p)
unless_told true p h = tt
unless_told false p h = h

pass_moved : (s : Shift) (flying over : Bool) (p : Option ℕ) → ((begun : ℕ) → s ≡ Begins begun → IsMoment begun) → PassTold p → PassTold (pass_by s flying over p)
pass_moved Same flying over p is h = unless_told over p h
pass_moved (Learns moment) flying over p is h = unless_told over p h
pass_moved (Begins begun) true over p is h = tt
pass_moved (Begins begun) false over p is h = unless_told over (Some begun) (is begun refl)
pass_moved Fails flying over p is h = tt

module _ (c : Channel) (n : ℕ) where
  begun_told : (event : Own) (before : List Own) → All TellsMoments before → (begun : ℕ) → shift c n before event ≡ Begins begun → IsMoment begun
  begun_told event before all begun e =
      let it = begins c n event.read (births before).command (has_unlinked before) (work before) (trial before) event.due event.came begun e in
      subst IsMoment (sym it.2) (subst TrialTold it.1 (trial_told before all))

  pass_told : (past : List Own) → All TellsMoments past → PassTold (pass_in c n past)
  pass_told [] all = tt
  pass_told (event ∷ before) all =
      let rest : All TellsMoments before = All-tail TellsMoments event before all in
      pass_moved (shift c n before event) (flies n (account c before)) (over_at c n before event) (pass_in c n before) (begun_told event before rest) (pass_told before rest)

  tried_moved : (s : Shift) (p q o : Option ℕ) → PassTold p → PassTold o → PassTold (tried_by s p q o)
  tried_moved (Learns moment) p q o h k = tt
  tried_moved Same (Some begun) None o h k = h
  tried_moved Same (Some begun) (Some x) o h k = k
  tried_moved Same None q o h k = k
  tried_moved (Begins x) (Some begun) None o h k = h
  tried_moved (Begins x) (Some begun) (Some y) o h k = k
  tried_moved (Begins x) None q o h k = k
  tried_moved Fails (Some begun) None o h k = h
  tried_moved Fails (Some begun) (Some y) o h k = k
  tried_moved Fails None q o h k = k

  tries_told : (past : List Own) → All TellsMoments past → PassTold (tried_in c n past)
  tries_told [] all = tt
  tries_told (event ∷ before) all =
      let rest : All TellsMoments before = All-tail TellsMoments event before all in
      tried_moved (shift c n before event) (pass_in c n before) (pass_in c n (event ∷ before)) (tried_in c n before) (pass_told before rest) (tries_told before rest)

pub moments_are_told : MomentsAreTold
moments_are_told = record {
  births = λ past all. (births_told past all).0;
  passes = λ past all c n begun e. subst PassTold e (pass_told c n past all);
  tries = λ past all c n begun e. subst PassTold e (tries_told c n past all);
  same = λ moment is. min-eq_left is;
}
