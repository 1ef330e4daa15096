-- The jobs of the sender and the passes that go on by its past.
use Rattle.std.proofs.Common.{suc, Bool, List, None, Option, Some, [], ap, false, if◌then◌else◌, length, not, refl, subst, sym, true, ℕ, ⊎_elim, ◌∙◌, ◌∷◌, ◌≡◌, ◌≤◌}
use Rattle.std.specs.List.{list_any}
use Rattle.std.specs.Prelude.{is_some, ◌&&◌, ◌||◌}
use Rattle.call_fs.specs.Past.{IsRunBy}
use Rattle.call_fs.specs.Program.{MayCome}
use Rattle.call_fs.specs.declared.past.NeedData.{NeedData}
use Rattle.call_fs.specs.declared.past.Own.{Own}
use Rattle.retry_law.proofs.Beginning.{Has, begun_row}
use Rattle.retry_law.specs.Passes.{ClearChannelsRest, EmptyPassesUnlink, IsClear, PassesAreJobs}
use Rattle.send_core.proofs.Runs.{Was, frees, keeps}
use Rattle.send_core.proofs.Standing.{arrives}
use Rattle.send_core.specs.Agrees.{Agrees, is_opened}
use Rattle.send_core.specs.Births.{births}
use Rattle.send_core.specs.Past.{account, work}
use Rattle.send_core.specs.Table.{Next, place_after, row_now}
use Rattle.send_core.specs.declared.desk.Desk.{Desk}
use Rattle.send_parts.specs.declared.row.Row.{Row}
use Rattle.send_jobs.specs.Jobs.{job_of}
use Rattle.send_jobs.specs.Lanes.{is_in_flight, is_mark_on, job_over}
use Rattle.send_jobs.specs.Sending.{lane}
use Rattle.send_jobs.specs.Slots.{attempt_in, is_on}
use Rattle.send_jobs.specs.declared.attempts.Attempt.{Attempt}
use Rattle.send_jobs.specs.declared.attempts.Mark.{Mark}
use Rattle.send_known.specs.declared.channel.Channel.TheVariants.{Local, Remote}
use Rattle.send_known.specs.declared.channel.Channel.{Channel}
use Rattle.send_jobs.specs.declared.jobs.Job.{Job}
use Rattle.send_jobs.specs.declared.lane.Lane.{Lane}
use Rattle.send_runs.proofs.Clearing.{cleared_here}
use Rattle.send_runs.proofs.Dues.{agreeing, alive_at, arrives_links, arrives_opened, stands}
use Rattle.send_runs.proofs.Fates.{is_unlinking, over}
use Rattle.send_runs.proofs.Passing.{State, begun_at}
use Rattle.send_runs.proofs.Trials.{arrives_trial, trial_kept}
use Rattle.send_runs.proofs.Unlinks.{unlinks_row}
use Rattle.send_runs.specs.DueMoments.Shift.{Begins}
use Rattle.send_runs.specs.DueMoments.{Shift, has_unlinked, shift, shift_by, trial}
use Rattle.send_runs.specs.Dues.{flies, over_at, pass_by, pass_in, unlinks}

-- What is said of each message

-- which channel file is unlinked next
links_so : (turns : Option ℕ) (past : List Own) (event : Own) → IsRunBy (Next turns) (event ∷ past) → let d : Desk = place_after turns past in
    (c : Channel) (n : ℕ) → unlinks c n (has_unlinked past) event.due ≡ is_unlinking c n (row_now d event.read event.ready)
links_so turns past event run c n =
    let d : Desk = place_after turns past in
    sym (ap (λ (due : NeedData). unlinks c n (has_unlinked past) due) run.1.0)
    ∙ unlinks_row c n (has_unlinked past) (row_now d event.read event.ready) d (cleared_here turns past event.read event.ready run.0)

not_both : {A : Type 0} (b : Bool) → b ≡ true → b ≡ false → A
not_both true t f = absurd (cc)
not_both false t f = absurd (cc)

no_some : {A : Type 0} (o : Option Job) (j : Job) → o ≡ None → o ≡ Some j → A
no_some None j n s = absurd (cc)
no_some (Some i) j n s = absurd (cc)

same_begun : (i j : Job) (o : Option Job) → o ≡ Some i → o ≡ Some j → Some i.begun ≡ Some j.begun
same_begun i j o a b = ap begun_at (sym a ∙ b)

module _ (c : Channel) (n : ℕ) (l : Lane) (row : Row) (p : Option ℕ) (h : State c n l row p) where
  pass_unlinked : is_unlinking c n row ≡ true → p ≡ None
  pass_unlinked u = ⊎_elim (λ x. x.1) (λ w. ⊎_elim (λ o. o.2) (λ i. not_both (is_unlinking c n row) u i.1) w) h

  pass_none : job_of n l.jobs ≡ None → p ≡ None
  pass_none e = ⊎_elim (λ x. x.1) (λ w. ⊎_elim (λ o. o.2) (λ i. no_some (job_of n l.jobs) i.0 e i.2) w) h

  pass_goes : (j : Job) → is_unlinking c n row ≡ false → job_of n l.jobs ≡ Some j → (p ≡ Some j.begun) × (job_over n l ≡ None)
  pass_goes j own e = ⊎_elim
      (λ x. not_both (is_unlinking c n row) x.0 own)
      (λ w. ⊎_elim
      (λ o. no_some (job_of n l.jobs) j o.1 e)
      (λ i. (i.3 ∙ same_begun i.0 j (job_of n l.jobs) i.2 e, ap (λ (b : Bool). if b then job_of n l.jobs else None) i.4))
      w)
      h

  pass_over : over n l ≡ true → p ≡ None
  pass_over e = ⊎_elim (λ x. x.1) (λ w. ⊎_elim (λ o. o.2) (λ i. not_both (over n l) e i.4) w) h

pub jobs : PassesAreJobs
jobs turns past event run c n =
    let d : Desk = place_after turns past in
    let row : Row = row_now d event.read event.ready in
    let h : State c n (lane c d.slots) row (pass_in c n past) = (stands turns past event run).0 c n in
    let same : unlinks c n (has_unlinked past) event.due ≡ is_unlinking c n row = links_so turns past event run c n in
    record {
      unlinked = λ u. pass_unlinked c n (lane c d.slots) row (pass_in c n past) h (sym same ∙ u);
      none = λ e. pass_none c n (lane c d.slots) row (pass_in c n past) h e;
      goes = λ j own e. pass_goes c n (lane c d.slots) row (pass_in c n past) h j (sym same ∙ own) e;
    }

-- Clear channels

none_on : (n : ℕ) (slots : List (Option Attempt)) → ((slot : ℕ) → attempt_in slots slot ≡ None) → list_any (is_on n) slots ≡ false
none_on n [] h = refl
none_on n (s ∷ slots) h = ap (λ (o : Option Attempt). is_on n o || list_any (is_on n) slots) (h 0) ∙ none_on n slots (λ slot. h (suc slot))

clear_over : (n : ℕ) (l : Lane) → IsClear l → over n l ≡ true
clear_over n l h =
    ap (λ (o : Option Attempt). (not (is_on n o) && not (is_in_flight n l)) && not (list_any (is_mark_on n) l.marks)) h.given
    ∙ ap (λ (b : Bool). (not false && not b) && not (list_any (is_mark_on n) l.marks)) (none_on n l.slots h.flies)
    ∙ ap (λ (marks : List Mark). not (list_any (is_mark_on n) marks)) h.marks

pub clear : ClearChannelsRest
clear turns past event run c bare n =
    let d : Desk = place_after turns past in
    pass_over c n (lane c d.slots) (row_now d event.read event.ready) (pass_in c n past) ((stands turns past event run).0 c n) (clear_over n (lane c d.slots) bare)

-- Passes that begin with nothing to do

module _ (turns : Option ℕ) (past : List Own) (event later : Own) (run : IsRunBy (Next turns) (later ∷ (event ∷ past))) where
  abbrev d : Desk
  d = place_after turns past

  abbrev at_row : Row
  at_row = row_now d event.read event.ready

  abbrev e : Desk
  e = place_after turns (event ∷ past)

  abbrev to_row : Row
  to_row = row_now e later.read later.ready

  known : (c : Channel) → Agrees (account c past) (is_opened at_row c) (lane c d.slots) × (length (lane c d.slots).slots ≤ 120)
  known c =
      let w = agreeing turns past run.0.0 (alive_at turns past event run.0) c in
      (subst (λ (x : Bool). Agrees (account c past) x (lane c d.slots)) (sym (arrives_opened turns d.row d event.read event.ready c)) w.0, w.1)

  has : (c : Channel) (n begun : ℕ) → shift c n past event ≡ Begins begun → flies n (account c past) ≡ false → Has c n e
  has c n begun s none =
      begun_row (Was past) d event.read (births past).command (has_unlinked past) (work past) (trial past) (λ x. account x past) c n begun at_row event.came
      (subst (λ (x : NeedData). MayCome x event.came) (sym run.0.1.0) run.0.1.1)
      (arrives (Was past) (work past) (account Local past) (account Remote past) (frees past) d.row d event.read event.ready (keeps turns past run.0.0).0)
      (arrives_trial d.row (trial past) d event.read event.ready (trial_kept turns past run.0.0)) known
      (ap (λ (due : NeedData). shift_by c n event.read (births past).command (has_unlinked past) (work past) (trial past) due event.came) run.0.1.0 ∙ s) none

  rests : (c : Channel) (n begun : ℕ) → shift c n past event ≡ Begins begun → flies n (account c past) ≡ false → over_at c n past event ≡ true → pass_in c n (event ∷ past) ≡ None
  rests c n begun s none done =
      ap (λ (x : Shift). pass_by x (flies n (account c past)) (over_at c n past event) (pass_in c n past)) s
      ∙ ap (λ (x : Bool). pass_by (Begins begun) x (over_at c n past event) (pass_in c n past)) none
      ∙ ap (λ (x : Bool). pass_by (Begins begun) false x (pass_in c n past)) done

  no_job : {A : Type 0} (o : Option Job) → is_some o ≡ true → o ≡ None → A
  no_job None some none = absurd (cc)
  no_job (Some job) some none = absurd (cc)

  no_pass : {A : Type 0} (p : Option ℕ) (begun : ℕ) → p ≡ None → p ≡ Some begun → A
  no_pass None begun none some = absurd (cc)
  no_pass (Some x) begun none some = absurd (cc)

  with_job : (c : Channel) (n : ℕ) → State c n (lane c e.slots) to_row (pass_in c n (event ∷ past)) → pass_in c n (event ∷ past) ≡ None → is_some (job_of n (lane c e.slots).jobs) ≡ true → is_unlinking c n to_row ≡ true
  with_job c n h none some = ⊎_elim
      (λ u. u.0)
      (λ w. ⊎_elim (λ o. no_job (job_of n (lane c e.slots).jobs) some o.1) (λ i. no_pass (pass_in c n (event ∷ past)) i.0.begun none i.3) w)
      h

  ends : (c : Channel) (n begun : ℕ) → shift c n past event ≡ Begins begun → flies n (account c past) ≡ false → over_at c n past event ≡ true → is_unlinking c n to_row ≡ true
  ends c n begun s none done = ⊎_elim
      (λ (u : is_unlinking c n e.row ≡ true). arrives_links c n e.row e later.read later.ready ∙ u)
      (λ (j : is_some (job_of n (lane c e.slots).jobs) ≡ true). with_job c n ((stands turns (event ∷ past) later run).0 c n) (rests c n begun s none done) j)
      (has c n begun s none)

pub empty : EmptyPassesUnlink
empty turns past event later run c n begun s none done = links_so turns (event ∷ past) later run c n ∙ ends turns past event later run c n begun s none done
