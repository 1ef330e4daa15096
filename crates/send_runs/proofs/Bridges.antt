-- When nothing is left of a message's pass, by the account of a channel as by what the sender keeps of it.
use Rattle.std.proofs.Common.{◌≡◌, ◌⊎◌, ℕ, zero, suc, ◌≤◌, List, [], ◌∷◌, length, map, arith, Bool, true, false, not, Option, Some, None, refl, sym, ap, ◌∙◌, subst, ⊎_elim, eq-eqb}
use Rattle.std.specs.Prelude.{◌&&◌, ◌||◌, ◌==◌, slice_get}
use Rattle.std.specs.List.{list_any}
use Rattle.std.specs.Option.{option_map}
use Rattle.bounce_record.specs.Writing.{Writing}
use Rattle.send_core.proofs.Changes.{Both}
use Rattle.send_core.proofs.Standing.{Early, FitAt, Half, InMark, InStart}
use Rattle.send_core.specs.Agrees.{Agrees, has_ended, task_of}
use Rattle.send_core.specs.Past.{Account, Owed, Task, Work}
use Rattle.send_core.specs.declared.desk.Desk.{Desk}
use Rattle.send_parts.specs.declared.row.MarkRow.{MarkRow}
use Rattle.send_parts.specs.declared.row.MarkRow.TheVariants as mark
use Rattle.send_parts.specs.declared.row.Marked.{Marked}
use Rattle.send_parts.specs.declared.row.Row.{Row}
use Rattle.send_parts.specs.declared.row.Row.TheVariants as at
use Rattle.send_jobs.specs.declared.attempts.Attempt.{Attempt}
use Rattle.send_jobs.specs.declared.attempts.Mark.{Mark}
use Rattle.send_known.specs.declared.channel.Channel.{Channel}
use Rattle.send_known.specs.declared.channel.Channel.TheVariants.{Local, Remote}
use Rattle.send_jobs.specs.declared.lane.Lane.{Lane}
use Rattle.send_jobs.specs.declared.slots.Slots.{Slots}
use Rattle.send_jobs.specs.Lanes.{is_in_flight, is_mark_on, is_open_on}
use Rattle.send_jobs.specs.Sending.{lane}
use Rattle.send_jobs.specs.Slots.{attempt_in, is_on}
use Rattle.send_links.specs.declared.link.Link.{Link}
use Rattle.send_parts.specs.declared.rows.StartRow.{StartRow}
use Rattle.send_parts.specs.declared.rows.StartRow.TheVariants as start
use Rattle.send_runs.specs.DueMoments.{is_owed}
use Rattle.send_runs.specs.Dues.{flies, flies_in, is_at, is_over, is_task}
use Rattle.send_runs.proofs.Fates.{over}
use Rattle.send_runs.proofs.Giving.{AllOn, AreOfOne, none_on}
use Rattle.send_runs.proofs.Overs.{owed_any}

-- Flights

none_fly : (n k : ℕ) (of : ℕ → Option Task) → ((slot : ℕ) → ◌≡◌ {A = Option Task} None (of slot)) → flies_in k n of ≡ false
none_fly n zero of h = refl
none_fly n (suc k) of h = sym (ap (λ (o : Option Task). is_at n o || flies_in k n (λ slot. of (suc slot))) (h 0)) ∙ none_fly n k (λ slot. of (suc slot)) (λ slot. h (suc slot))

same_at : (n : ℕ) (s : Option Attempt) → is_at n (option_map task_of s) ≡ is_on n s
same_at n None = refl
same_at n (Some a) = refl

fly_alike : (n k : ℕ) (slots : List (Option Attempt)) (of : ℕ → Option Task) → length slots ≤ k → ((slot : ℕ) → option_map task_of (attempt_in slots slot) ≡ of slot) → flies_in k n of ≡ list_any (is_on n) slots
fly_alike n k [] of le h = none_fly n k of h
fly_alike n zero (s ∷ slots) of le h = absurd (omega arith)
fly_alike n (suc k) (s ∷ slots) of le h =
    sym (ap (λ (o : Option Task). is_at n o || flies_in k n (λ slot. of (suc slot))) (h 0))
    ∙ ap (λ (b : Bool). b || flies_in k n (λ slot. of (suc slot))) (same_at n s)
    ∙ ap (λ (b : Bool). is_on n s || b) (fly_alike n k slots (λ slot. of (suc slot)) (omega arith) (λ slot. h (suc slot)))

-- Both ways

open_gives : (n : ℕ) (left : List Attempt) (ts : List Task) → (left ≡ []) ⊎ (map task_of left ≡ ts) → is_on n (slice_get left 0) ≡ true → list_any (is_task n) ts ≡ true
open_gives n [] ts h e = absurd (cc)
open_gives n (x ∷ left) ts h e = ⊎_elim
    (λ none. absurd (cc none))
    (λ are. sym (ap (list_any (is_task n)) are) ∙ ap (λ (b : Bool). b || list_any (is_task n) (map task_of left)) e)
    h

go_on : (begun flies marks given : Bool) → ((not begun && not flies) && not marks) ≡ false → (begun ≡ true → given ≡ true) → ((not given && not flies) && not marks) ≡ false
go_on begun flies marks true e h = refl
go_on true flies marks false e h = absurd (cc (h refl))
go_on false flies marks false e h = e

come_over : (begun flies marks given : Bool) → ((not begun && not flies) && not marks) ≡ true → given ≡ false → ((not given && not flies) && not marks) ≡ true
come_over true flies marks given e h = absurd (cc)
come_over false flies marks false e h = e
come_over false flies marks true e h = absurd (cc)

unopened : (begun flies marks : Bool) → ((not begun && not flies) && not marks) ≡ true → begun ≡ false
unopened true flies marks e = absurd (cc)
unopened false flies marks e = refl

module _ (n : ℕ) (l : Lane) (a : Account) (agrees : Agrees a false l) (few : length l.slots ≤ 120) where
  pub flies_is : flies n a ≡ is_in_flight n l
  flies_is = fly_alike n 120 l.slots a.in_flight few agrees.in_flight

  owed_is : list_any (is_owed n) a.to_mark ≡ list_any (is_mark_on n) l.marks
  owed_is = ap (λ (os : List Owed). list_any (is_owed n) os) (sym agrees.to_mark) ∙ owed_any n l.marks

  account_is : is_over n a ≡ ((not (list_any (is_task n) a.to_give) && not (is_in_flight n l)) && not (list_any (is_mark_on n) l.marks))
  account_is = ap (λ (b : Bool). (not (list_any (is_task n) a.to_give) && not b) && not (list_any (is_owed n) a.to_mark)) flies_is
      ∙ ap (λ (b : Bool). (not (list_any (is_task n) a.to_give) && not (is_in_flight n l)) && not b) owed_is

  pub account_goes : over n l ≡ false → is_over n a ≡ false
  account_goes e = account_is ∙ go_on (is_open_on n l) (is_in_flight n l) (list_any (is_mark_on n) l.marks) (list_any (is_task n) a.to_give) e (open_gives n l.left a.to_give agrees.to_give)

  pub account_ends : over n l ≡ true → list_any (is_task n) a.to_give ≡ false → is_over n a ≡ true
  account_ends e none = account_is ∙ come_over (is_open_on n l) (is_in_flight n l) (list_any (is_mark_on n) l.marks) (list_any (is_task n) a.to_give) e none

  -- nothing is to be given of it, if nothing is left to give or that is of another message
  pub none_given : over n l ≡ true → AreOfOne a.to_give → (l.left ≡ [] → list_any (is_task n) a.to_give ≡ false) → list_any (is_task n) a.to_give ≡ false
  none_given e one bare = by l.left refl where
    other : (x : Attempt) (left : List Attempt) → l.left ≡ x ∷ left → map task_of l.left ≡ a.to_give → one.0 ≡ n → ⊥
    other x left is are same =
        let all : a.to_give ≡ task_of x ∷ map task_of left = sym are ∙ ap (map task_of) is in
        let on : x.n ≡ one.0 = heads (subst (AllOn one.0) all one.1) in
        let begun : is_open_on n l ≡ (x.n == n) = ap (λ (left : List Attempt). is_on n (slice_get left 0)) is in
        let none : is_open_on n l ≡ false = unopened (is_open_on n l) (is_in_flight n l) (list_any (is_mark_on n) l.marks) e in
        let yes : (x.n == n) ≡ true = eq-eqb x.n n (on ∙ same) in
        absurd (cc (sym none ∙ begun ∙ yes))
      where
        heads : AllOn one.0 (task_of x ∷ map task_of left) → x.n ≡ one.0
        heads h = h.0

    by : (left : List Attempt) → l.left ≡ left → list_any (is_task n) a.to_give ≡ false
    by [] is = bare is
    by (x ∷ left) is = ⊎_elim
        (λ (none : l.left ≡ []). absurd (cc (sym none ∙ is)))
        (λ (are : map task_of l.left ≡ a.to_give). none_on one.0 n a.to_give (other x left is are) one.1)
        agrees.to_give

-- No channel has more than 120 slots

module _ (P : MarkRow → Option Mark → Marked → Writing → Type 0) (f : Option Work) (al ar : Account) where
  abbrev pub Few : Slots → Type 0
  Few s = (c : Channel) → length (lane c s).slots ≤ 120

  few_both : (first second : Bool) (s : Slots) (l r : Link) → Both first second al ar s l r → Few s
  few_both first second s l r h Local = h.0.5.few
  few_both first second s l r h Remote = h.1.5.few

  few_early : (s : Slots) (l r : Link) → Early P f al ar s l r → Few s
  few_early s l r h Local = h.1.5.few
  few_early s l r h Remote = h.2.5.few

  few_start : (row : StartRow) (s : Slots) (l r : Link) → InStart P f al ar row s l r → Few s
  few_start (start.Control file reading) s l r h = few_early s l r h.0
  few_start start.GreetLocal s l r h = few_early s l r h.0
  few_start (start.GreetRemote limit) s l r h = few_early s l r h.0
  few_start (start.Scan split) s l r h = few_both false false s l r h.0
  few_start (start.StatTodo split n) s l r h = few_both false false s l r h.0
  few_start (start.ReadInfo split n reading) s l r h = few_both false false s l r h.0
  few_start (start.StatInfo split n) s l r h = few_both false false s l r h.0
  few_start (start.StatLocal split n birth) s l r h = few_both false false s l r h.0
  few_start (start.StatRemote split n birth local) s l r h = few_both false false s l r h.0
  few_start start.Over s l r h = few_both false false s l r h.0
  few_start (start.Ended status) s l r h = few_both false false s l r h.0

  few_half : (c : Channel) (s : Slots) (l r : Link) → Half P f al ar c s l r → Few s
  few_half Local s l r h = few_both true false s l r h.0
  few_half Remote s l r h = few_both false true s l r h.0

  few_mark : (row : MarkRow) (m : Marked) (w : Writing) (s : Slots) (l r : Link) → InMark P f al ar row m w s l r → Few s
  few_mark mark.Note m w s l r h = few_both false false s l r h.0.0
  few_mark mark.Noting m w s l r h = few_both false false s l r h.0
  few_mark mark.Open m w s l r h = few_both false false s l r h.0.0
  few_mark (mark.Write fd) m w s l r h = few_half m.channel s l r h.0
  few_mark (mark.Close fd done) m w s l r h = few_half m.channel s l r h

  pub few_row : (row : Row) (d : Desk) → has_ended row ≡ false → FitAt P f al ar row d → Few d.slots
  few_row (at.Start row) d e h = few_start row d.slots d.local d.remote h
  few_row (at.Turn p) d e h = few_both false false d.slots d.local d.remote h.0
  few_row (at.TakeLink of) d e h = few_both false false d.slots d.local d.remote h.0
  few_row (at.Mark row m) d e h = few_mark row m d.note d.slots d.local d.remote h
  few_row (at.UnlinkFile of n p) d e h = few_both false false d.slots d.local d.remote h.0
  few_row (at.ReadFile of n begun reading) d e h = few_both false false d.slots d.local d.remote h.0
  few_row (at.Request of) d e h = few_both false false d.slots d.local d.remote h.0.0
  few_row (at.FindTodo search) d e h = few_both false false d.slots d.local d.remote h.0
  few_row at.InTodo d e h = few_both false false d.slots d.local d.remote h.0
  few_row (at.Finish row n) d e h = few_both false false d.slots d.local d.remote h.0
  few_row (at.Sweep row) d e h = few_both false false d.slots d.local d.remote h.0
  few_row (at.Ended status) d e h = absurd (cc)
