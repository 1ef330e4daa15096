-- How each event leaves the passes of messages, and when they are due.
use Rattle.std.proofs.Common.{◌≡◌, ◌⊎◌, ℕ, ◌≤◌, List, [], length, Bool, true, false, not, Option, Some, None, refl, sym, ap, ◌∙◌, subst, inl, inr, ⊎_elim}
use Rattle.std.specs.Prelude.{◌&&◌}
use Rattle.std.specs.List.{list_any}
use Rattle.std.specs.Option.{option_map}
use Rattle.call_fs.specs.Disk.{Among}
use Rattle.send_core.specs.Agrees.{Agrees, is_opened}
use Rattle.send_core.specs.Desk.{due_on}
use Rattle.send_core.specs.Past.{Account, Task}
use Rattle.send_core.specs.declared.desk.Desk.{Desk}
use Rattle.send_parts.specs.declared.row.Row.{Row}
use Rattle.send_parts.specs.declared.row.Row.TheVariants as at
use Rattle.send_known.specs.declared.channel.Channel.{Channel}
use Rattle.send_jobs.specs.declared.jobs.Job.{Job}
use Rattle.send_jobs.specs.declared.lane.Lane.{Lane}
use Rattle.send_jobs.specs.declared.slots.Slots.{Slots}
use Rattle.send_jobs.specs.Jobs.{job_of}
use Rattle.send_jobs.specs.Sending.{lane}
use Rattle.send_known.specs.declared.messages.Messages.{Messages}
use Rattle.send_runs.specs.DueMoments.{Shift}
use Rattle.send_runs.specs.DueMoments.Shift.{Begins, Fails, Learns, Same}
use Rattle.send_runs.specs.Dues.{again, is_task, pass_by, unless}
use Rattle.send_runs.proofs.Fates.{Ends, Entry, Fate, Final, Goes, NoPass, Over, is_unlinking, over, retry_in}
use Rattle.send_runs.proofs.Kept.{IsFree}
use Rattle.send_runs.proofs.Quiet.{IsQuiet}
use Rattle.std.proofs.Math.Bool.{and-false}

-- What an event is

pub quiet_is : (s : Shift) → IsQuiet s → s ≡ Same
quiet_is Same is = refl
quiet_is (Learns moment) is = absurd is
quiet_is (Begins begun) is = absurd is
quiet_is Fails is = absurd is

-- by which no pass begins or fails
abbrev pub IsSteady : Shift → Type 0
IsSteady Same = Unit {0}
IsSteady (Learns moment) = Unit {0}
IsSteady s = ⊥

pub quiet_steady : (s : Shift) → IsQuiet s → IsSteady s
quiet_steady Same is = tt
quiet_steady (Learns moment) is = absurd is
quiet_steady (Begins begun) is = absurd is
quiet_steady Fails is = absurd is

pub unless_none : (ov : Bool) → unless ov None ≡ None
unless_none true = refl
unless_none false = refl

again_none : (ends : Bool) (retry : ℕ → ℕ) (was : ℕ) → again ends None retry was ≡ was
again_none true retry was = refl
again_none false retry was = refl

pub steady_none : (s : Shift) (fl ov : Bool) (p : Option ℕ) → IsSteady s → p ≡ None → pass_by s fl ov p ≡ None
steady_none Same fl ov p is e = ap (unless ov) e ∙ unless_none ov
steady_none (Learns moment) fl ov p is e = ap (unless ov) e ∙ unless_none ov
steady_none (Begins begun) fl ov p is e = absurd is
steady_none Fails fl ov p is e = absurd is

pub steady_same : (s : Shift) (fl ov : Bool) (p : Option ℕ) → IsSteady s → ov ≡ false → pass_by s fl ov p ≡ p
steady_same Same fl ov p is e = ap (λ (o : Bool). unless o p) e
steady_same (Learns moment) fl ov p is e = ap (λ (o : Bool). unless o p) e
steady_same (Begins begun) fl ov p is e = absurd is
steady_same Fails fl ov p is e = absurd is

abbrev pub begun_at : Option Job → Option ℕ
begun_at o = option_map (λ (j : Job). j.begun) o

pub free_unlinking : (c : Channel) (n : ℕ) (row : Row) → IsFree row → is_unlinking c n row ≡ false
free_unlinking c n (at.UnlinkFile e k p) is = absurd is
free_unlinking c n row is = refl

-- One message on one channel

module _ (c : Channel) (n : ℕ) where
  -- its file is unlinked next, no pass is on it, or one goes on
  abbrev Unlinking : Row → Option ℕ → Type 0
  Unlinking row p = (is_unlinking c n row ≡ true) × (p ≡ None)

  abbrev Without : Lane → Row → Option ℕ → Type 0
  Without l row p = (is_unlinking c n row ≡ false) × (job_of n l.jobs ≡ None) × (p ≡ None)

  abbrev With : Lane → Row → Option ℕ → Type 0
  With l row p = (j : Job) × (is_unlinking c n row ≡ false) × (job_of n l.jobs ≡ Some j) × (p ≡ Some j.begun) × (over n l ≡ false)

  abbrev pub State : Lane → Row → Option ℕ → Type 0
  State l row p = Unlinking row p ⊎ (Without l row p ⊎ With l row p)

  pub kept_state : (l x : Lane) (row to : Row) (p q : Option ℕ) → State l row p → is_unlinking c n row ≡ false → is_unlinking c n to ≡ false → job_of n x.jobs ≡ job_of n l.jobs → (over n l ≡ false → over n x ≡ false)
      → (p ≡ None → q ≡ None) → (over n x ≡ false → q ≡ p) → State x to q
  kept_state l x row to p q h none next jobs goes gone same = ⊎_elim
      (λ (u : Unlinking row p). absurd (cc (sym none ∙ u.0)))
      (λ (w : Without l row p ⊎ With l row p). inr (⊎_elim
      (λ (o : Without l row p). inl (next, jobs ∙ o.1, gone o.2))
      (λ (i : With l row p). let busy : over n x ≡ false = goes i.4 in inr (i.0, next, jobs ∙ i.2, same busy ∙ i.3, busy))
      w))
      h

  -- what was due stays so, if no pass ends
  pub kept_due : (l : Lane) (row : Row) (p : Option ℕ) (ov unlinks : Bool) (retry : ℕ → ℕ) (was : ℕ) → State l row p → (over n l ≡ false → ov ≡ false) → again (ov && not unlinks) p retry was ≡ was
  kept_due l row p ov unlinks retry was h goes = ⊎_elim
      (λ (u : Unlinking row p). none u.1)
      (λ (w : Without l row p ⊎ With l row p). ⊎_elim
      (λ (o : Without l row p). none o.2)
      (λ (i : With l row p). ap (λ (o : Bool). again (o && not unlinks) p retry was) (goes i.4))
      w)
      h
    where
      none : p ≡ None → again (ov && not unlinks) p retry was ≡ was
      none e = ap (λ (o : Option ℕ). again (ov && not unlinks) o retry was) e ∙ again_none (ov && not unlinks) retry was

  module _ (first : Channel → ℕ → Option Job) (was : Channel → ℕ → ℕ) (born : ℕ → ℕ) where
    pub first_fate : (l : Lane) (m : Messages) (row : Row) (p : Option ℕ) → first c n ≡ job_of n l.jobs → State l row p → is_unlinking c n row ≡ false → Entry c n m (was c n) → Fate first was born c n l m
    first_fate l m row p is h none entry = ⊎_elim
        (λ (u : Unlinking row p). absurd (cc (sym none ∙ u.0)))
        (λ (w : Without l row p ⊎ With l row p). ⊎_elim
        (λ (o : Without l row p). inl (is ∙ o.1, o.1, entry))
        (λ (i : With l row p). inr (inl (i.0, i.0, is ∙ i.2, i.2, refl, i.4, entry)))
        w)
        h

    pub first_begun : (l : Lane) (row : Row) (p : Option ℕ) → first c n ≡ job_of n l.jobs → State l row p → is_unlinking c n row ≡ false → begun_at (first c n) ≡ p
    first_begun l row p is h none = ⊎_elim
        (λ (u : Unlinking row p). absurd (cc (sym none ∙ u.0)))
        (λ (w : Without l row p ⊎ With l row p). ⊎_elim
        (λ (o : Without l row p). ap begun_at (is ∙ o.1) ∙ sym o.2)
        (λ (i : With l row p). ap begun_at (is ∙ i.2) ∙ sym i.3)
        w)
        h

    module _ (l : Lane) (m : Messages) (row : Row) (ov : Bool) (p : Option ℕ) (begun : begun_at (first c n) ≡ p) (goes : over n l ≡ false → ov ≡ false) (ends : (j : Job) → first c n ≡ Some j → over n l ≡ true → ov ≡ true) where
      is_begun : (j : Job) → first c n ≡ Some j → p ≡ Some j.begun
      is_begun j e = sym begun ∙ ap begun_at e

      pub final_state : Final first was born c n l m row → State l row (unless ov p)
      final_state h = ⊎_elim
          (λ (w : Fate first was born c n l m × (is_unlinking c n row ≡ false)). ⊎_elim
          (λ (o : NoPass first was born c n l m). inr (inl (w.1, o.1, ap (unless ov) (sym begun ∙ ap begun_at o.0) ∙ unless_none ov)))
          (λ (x : Goes first was born c n l m ⊎ Ends first was born c n l m). ⊎_elim
          (λ (g : Goes first was born c n l m). inr (inr (g.1, w.1, g.3, ap (λ (o : Bool). unless o p) (goes g.5) ∙ is_begun g.0 g.2 ∙ ap (λ (k : ℕ). Some k) (sym g.4), g.5)))
          (λ (d : Ends first was born c n l m). inr (inl (w.1, d.2, ap (λ (o : Bool). unless o p) (ends d.0 d.1 d.3))))
          x)
          w.0)
          (λ (w : Over first was born c n l m × (is_unlinking c n row ≡ true)). inl (w.1, ap (λ (o : Bool). unless o p) (ends w.0.0 w.0.1 w.0.2)))
          h

      abbrev Moment : Bool → Option ℕ → ℕ
      Moment ends q = again ends q (retry_in born c n) (was c n)

      pub final_due : Final first was born c n l m row → Entry c n m (again (ov && not (is_unlinking c n row)) p (retry_in born c n) (was c n))
      final_due h = ⊎_elim
          (λ (w : Fate first was born c n l m × (is_unlinking c n row ≡ false)). ⊎_elim
          (λ (o : NoPass first was born c n l m) (due : ℕ) (a : Among (due, n) (due_on c m)). o.2 due a ∙ sym (none (sym begun ∙ ap begun_at o.0)))
          (λ (x : Goes first was born c n l m ⊎ Ends first was born c n l m). ⊎_elim
          (λ (g : Goes first was born c n l m) (due : ℕ) (a : Among (due, n) (due_on c m)). g.6 due a ∙ sym (ap (λ (o : Bool). Moment (o && not (is_unlinking c n row)) p) (goes g.5)))
          (λ (d : Ends first was born c n l m) (due : ℕ) (a : Among (due, n) (due_on c m)). d.4 due a ∙ sym (
          ap (λ (o : Bool). Moment (o && not (is_unlinking c n row)) p) (ends d.0 d.1 d.3) ∙ ap (λ (u : Bool). Moment (not u) p) w.1 ∙ ap (Moment true) (is_begun d.0 d.1)))
          x)
          w.0)
          (λ (w : Over first was born c n l m × (is_unlinking c n row ≡ true)) (due : ℕ) (a : Among (due, n) (due_on c m)).
          w.0.3 due a ∙ sym (ap (λ (u : Bool). Moment (ov && not u) p) w.1 ∙ ap (λ (o : Bool). Moment o p) (and-false ov)))
          h
        where
          none : p ≡ None → Moment (ov && not (is_unlinking c n row)) p ≡ was c n
          none e = ap (Moment (ov && not (is_unlinking c n row))) e ∙ again_none (ov && not (is_unlinking c n row)) (retry_in born c n) (was c n)

    -- a job that there is was there
    pub final_back : (l : Lane) (m : Messages) (row : Row) (i : Job) → Final first was born c n l m row → job_of n l.jobs ≡ Some i → (j : Job) × (first c n ≡ Some j)
    final_back l m row i h there = ⊎_elim
        (λ (w : Fate first was born c n l m × (is_unlinking c n row ≡ false)). ⊎_elim
        (λ (o : NoPass first was born c n l m). absurd (cc (sym o.1 ∙ there)))
        (λ (x : Goes first was born c n l m ⊎ Ends first was born c n l m). ⊎_elim
        (λ (g : Goes first was born c n l m). (g.0, g.2))
        (λ (d : Ends first was born c n l m). absurd (cc (sym d.2 ∙ there)))
        x)
        w.0)
        (λ (w : Over first was born c n l m × (is_unlinking c n row ≡ true)). (w.0.0, w.0.1))
        h

-- All messages on both channels

abbrev pub States : Row → Slots → (Channel → ℕ → Option ℕ) → Type 0
States row s p = (c : Channel) (n : ℕ) → State c n (lane c s) row (p c n)

-- of a message whose job has nothing left to read nothing is to be given
abbrev pub Gone : (Channel → Account) → Slots → Type 0
Gone a s = (c : Channel) → (lane c s).left ≡ [] → (n : ℕ) (j : Job) → job_of n (lane c s).jobs ≡ Some j → list_any (is_task n) (a c).to_give ≡ false

pub gone_kept : (a b : Channel → Account) (s x : Slots) → ((c : Channel) → (b c).to_give ≡ (a c).to_give) → ((c : Channel) → (lane c x).left ≡ (lane c s).left)
    → ((c : Channel) (n : ℕ) (i : Job) → job_of n (lane c x).jobs ≡ Some i → (j : Job) × (job_of n (lane c s).jobs ≡ Some j)) → Gone a s → Gone b x
gone_kept a b s x gives left back h = λ c none n i there.
    let j = back c n i there in
    subst (λ (ts : List Task). list_any (is_task n) ts ≡ false) (sym (gives c)) (h c (sym (left c) ∙ none) n j.0 j.1)

-- what the accounts say after an event, where no mark is at work
abbrev pub Lands : (Channel → Account) → Desk → Type 0
Lands b e = (c : Channel) → is_opened e.row c ≡ false → Agrees (b c) false (lane c e.slots) × (length (lane c e.slots).slots ≤ 120)
