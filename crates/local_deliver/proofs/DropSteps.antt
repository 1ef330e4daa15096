-- A step of the drop at work, as it is computed.
use Rattle.std.proofs.Common.{◌≡◌, ℕ, List, Bool, true, false, Option, Some, None, refl, ap, ◌∙◌, subst}
use Rattle.std.specs.Prelude.{◌&&◌, if◌then◌else◌}
use Rattle.call_fs.specs.declared.calls.Answer.{Answer}
use Rattle.call_fs.specs.declared.calls.Answer.TheVariants as answer
use Rattle.call_fs.specs.declared.calls.Fd.{Fd}
use Rattle.call_fs.specs.declared.calls.FsError.TheVariants as error
use Rattle.call_fs.specs.declared.calls.Told.{Told}
use Rattle.call_fs.specs.declared.past.GotData.{GotData}
use Rattle.call_fs.specs.declared.past.GotData.TheVariants as came
use Rattle.call_fs.specs.Program.{IsKind}
use Rattle.local_parts.specs.declared.arguments.LocalArgs.{LocalArgs}
use Rattle.maildir_drop.specs.declared.names.DropNames.{DropNames}
use Rattle.maildir_drop.specs.declared.row.Attempt.{Attempt}
use Rattle.maildir_drop.specs.declared.row.Attempt.TheVariants.{First, Second, Third}
use Rattle.maildir_drop.specs.declared.row.Outcome.TheVariants.{Dropped, Failed}
use Rattle.maildir_drop.specs.declared.row.Row.{Row}
use Rattle.maildir_drop.specs.declared.row.Row.TheVariants as at
use Rattle.maildir_drop.specs.declared.row.Why.{Why}
use Rattle.maildir_drop.specs.declared.row.Why.TheVariants as why
use Rattle.maildir_drop.specs.Ends.{EndData, end_at, end_with, is_linked as is_linked_row}
use Rattle.maildir_drop.specs.Ends.EndData.{IsDropped, IsDeferred, LacksMemory}
use Rattle.maildir_drop.specs.Names.{is_name, pair_at}
use Rattle.maildir_drop.specs.Table.{appended, begin_row, create_row, due_at, failed, is_complete, link_row, moved, next_row, sync_row, taken_row}
use Rattle.local_deliver.specs.declared.place.Place.{Place}
use Rattle.local_deliver.specs.Drops.{Drop, due_drop, end_drop, is_linked, moved_drop}
use Rattle.local_deliver.specs.inside.DropAfter.{after_of, is_answer, is_made, went}
use Rattle.local_deliver.specs.Table.{due_by_drop, dropped, dropped_by, line_done}

abbrev after_row : DropNames → Row → List ℕ → GotData → Option EndData
after_row names row left got = end_at names (moved names (record { row = row; left = left }) got).row

-- the unlink after the link ends the drop
linked_row : (names : DropNames) (row : Row) (left : List ℕ) (told : Told) → is_linked_row row ≡ true → (name : List ℕ) × (after_row names row left (came.Answered told) ≡ Some (IsDropped name))
linked_row names (at.Unlink attempt Dropped) left told e = ((pair_at names attempt).new, refl)
linked_row names (at.Unlink attempt (Failed reason)) left told e = absurd (cc)
linked_row names (at.Create attempt) left told e = absurd (cc)
linked_row names (at.Append attempt fd) left told e = absurd (cc)
linked_row names (at.Sync attempt fd) left told e = absurd (cc)
linked_row names (at.Close attempt fd) left told e = absurd (cc)
linked_row names (at.Link attempt) left told e = absurd (cc)
linked_row names (at.Shut attempt fd reason) left told e = absurd (cc)
linked_row names (at.Ended attempt outcome) left told e = absurd (cc)

pub drop_made_is : (args : LocalArgs) (now : ℕ) (told : Told) (d : Drop) (p : Place) → is_linked d ≡ true
    → dropped args now (came.Answered told) (Some d) p ≡ line_done args now (record p { dropping = None })
drop_made_is args now told d p e =
    let h = linked_row d.names d.place.row d.place.left told e in
    ap (λ o. dropped_by args now o (moved_drop (came.Answered told) d) p) h.1

abbrev pub IsNoDrop : Option EndData → Type 0
IsNoDrop None = Unit {0}
IsNoDrop (Some (IsDropped name)) = ⊥
IsNoDrop (Some IsDeferred) = Unit {0}
IsNoDrop (Some LacksMemory) = Unit {0}

went_is : (args : LocalArgs) (now : ℕ) (o : Option EndData) (d : Drop) (p : Place) → IsNoDrop o → dropped_by args now o d p ≡ went (after_of o) (record p { dropping = Some d })
went_is args now None d p isnt = refl
went_is args now (Some (IsDropped name)) d p isnt = absurd isnt
went_is args now (Some IsDeferred) d p isnt = refl
went_is args now (Some LacksMemory) d p isnt = refl

-- it has ended
abbrev pub is_over : Row → Bool
is_over (at.Ended attempt outcome) = true
is_over (at.Create attempt) = false
is_over (at.Append attempt fd) = false
is_over (at.Sync attempt fd) = false
is_over (at.Close attempt fd) = false
is_over (at.Link attempt) = false
is_over (at.Shut attempt fd reason) = false
is_over (at.Unlink attempt outcome) = false

module _ (names : DropNames) (left : List ℕ) where
  -- nothing comes of an end
  not_over : (row : Row) (got : GotData) → IsKind (due_at names row left) got → is_over row ≡ false
  not_over (at.Ended attempt outcome) got kind = absurd kind
  not_over (at.Create attempt) got kind = refl
  not_over (at.Append attempt fd) got kind = refl
  not_over (at.Sync attempt fd) got kind = refl
  not_over (at.Close attempt fd) got kind = refl
  not_over (at.Link attempt) got kind = refl
  not_over (at.Shut attempt fd reason) got kind = refl
  not_over (at.Unlink attempt outcome) got kind = refl

  stays : (row : Row) → is_over row ≡ false → IsNoDrop (end_at names row)
  stays (at.Ended attempt outcome) e = absurd (cc)
  stays (at.Create attempt) e = tt
  stays (at.Append attempt fd) e = tt
  stays (at.Sync attempt fd) e = tt
  stays (at.Close attempt fd) e = tt
  stays (at.Link attempt) e = tt
  stays (at.Shut attempt fd reason) e = tt
  stays (at.Unlink attempt outcome) e = tt

  fails_so : (attempt : Attempt) (reason : Why) → IsNoDrop (Some (end_with names attempt (Failed reason)))
  fails_so attempt why.Defer = tt
  fails_so attempt why.Memory = tt

  begins : (attempt : Attempt) → IsNoDrop (end_at names (begin_row names attempt))
  begins attempt = elim (is_name (pair_at names attempt).tmp) as (λ t. IsNoDrop (end_at names (if t then at.Create attempt else failed attempt why.Defer))) [ true ↦ tt | false ↦ tt ]

  takes_next : (attempt : Attempt) → IsNoDrop (end_at names (taken_row names attempt))
  takes_next First = begins Second
  takes_next Second = begins Third
  takes_next Third = tt

  goes_on : (attempt : Attempt) (fd : Fd) (complete : Bool) → IsNoDrop (end_at names (next_row attempt fd complete))
  goes_on attempt fd true = tt
  goes_on attempt fd false = tt

  creates : (attempt : Attempt) (complete : Bool) (told : Answer) → IsNoDrop (end_at names (create_row names attempt complete told))
  creates attempt complete (answer.Created fd number) = goes_on attempt fd complete
  creates attempt complete (answer.Refused error.Exists) = takes_next attempt
  creates attempt complete (answer.Refused error.NotThere) = tt
  creates attempt complete (answer.Refused error.Fault) = tt
  creates attempt complete (answer.Refused error.Memory) = tt
  creates attempt complete (answer.Opened fd) = tt
  creates attempt complete (answer.Count count) = tt
  creates attempt complete answer.Done = tt
  creates attempt complete (answer.Stat stat) = tt
  creates attempt complete (answer.Name name) = tt
  creates attempt complete answer.NoName = tt

  appends : (attempt : Attempt) (fd : Fd) (told : Answer) → IsNoDrop (end_at names (appended attempt fd left told).row)
  appends attempt fd answer.Done = goes_on attempt fd (is_complete (appended attempt fd left answer.Done).left)
  appends attempt fd (answer.Created other number) = tt
  appends attempt fd (answer.Opened other) = tt
  appends attempt fd (answer.Count count) = tt
  appends attempt fd (answer.Stat stat) = tt
  appends attempt fd (answer.Name name) = tt
  appends attempt fd answer.NoName = tt
  appends attempt fd (answer.Refused reason) = tt

  syncs : (attempt : Attempt) (fd : Fd) (told : Answer) → IsNoDrop (end_at names (sync_row attempt fd told))
  syncs attempt fd answer.Done = tt
  syncs attempt fd (answer.Created other number) = tt
  syncs attempt fd (answer.Opened other) = tt
  syncs attempt fd (answer.Count count) = tt
  syncs attempt fd (answer.Stat stat) = tt
  syncs attempt fd (answer.Name name) = tt
  syncs attempt fd answer.NoName = tt
  syncs attempt fd (answer.Refused reason) = tt

  links : (attempt : Attempt) (told : Answer) → IsNoDrop (end_at names (link_row attempt told))
  links attempt answer.Done = tt
  links attempt (answer.Created other number) = tt
  links attempt (answer.Opened other) = tt
  links attempt (answer.Count count) = tt
  links attempt (answer.Stat stat) = tt
  links attempt (answer.Name name) = tt
  links attempt answer.NoName = tt
  links attempt (answer.Refused reason) = tt

  pub told_row : (row : Row) (told : Told) → is_linked_row row ≡ false → is_over row ≡ false → IsNoDrop (after_row names row left (came.Answered told))
  told_row (at.Create attempt) told e o = creates attempt (is_complete left) told.answer
  told_row (at.Append attempt fd) told e o = appends attempt fd told.answer
  told_row (at.Sync attempt fd) told e o = syncs attempt fd told.answer
  told_row (at.Close attempt fd) told e o = tt
  told_row (at.Link attempt) told e o = links attempt told.answer
  told_row (at.Shut attempt fd reason) told e o = tt
  told_row (at.Unlink attempt Dropped) told e o = absurd (cc)
  told_row (at.Unlink attempt (Failed reason)) told e o = fails_so attempt reason
  told_row (at.Ended attempt outcome) told e o = absurd (cc)

  -- it isn't made but by the answer to the unlink after the link
  no_drop : (row : Row) (got : GotData) → (is_answer got ≡ true → is_linked_row row ≡ false) → is_over row ≡ false → IsNoDrop (after_row names row left got)
  no_drop row (came.Answered told) f o = told_row row told (f refl) o
  no_drop row (came.Took bytes) f o = stays row o
  no_drop row came.End f o = stays row o
  no_drop row (came.Ended status) f o = stays row o
  no_drop row came.Crashed f o = stays row o
  no_drop row came.Gave f o = stays row o
  no_drop row (came.Started pid) f o = stays row o
  no_drop row came.Failed f o = stays row o
  no_drop row came.Memory f o = stays row o

pub drop_goes_is : (args : LocalArgs) (now : ℕ) (got : GotData) (d : Drop) (p : Place) → (is_answer got ≡ true → is_linked d ≡ false) → IsKind (due_drop d) got
    → dropped args now got (Some d) p ≡ went (after_of (end_drop (moved_drop got d))) (record p { dropping = Some (moved_drop got d) })
drop_goes_is args now got d p f kind =
    went_is args now (end_drop (moved_drop got d)) (moved_drop got d) p
    (no_drop d.names d.place.left d.place.row got f (not_over d.names d.place.left d.place.row got kind))

-- a call's answer to the unlink after the link makes the drop, and nothing else does

pub made_is : (args : LocalArgs) (now : ℕ) (got : GotData) (o : Option Drop) (p : Place) → is_made o got ≡ true
    → dropped args now got o p ≡ line_done args now (record p { dropping = None })
made_is args now got None p e = absurd (cc)
made_is args now (came.Answered told) (Some d) p e = drop_made_is args now told d p e
made_is args now (came.Took bytes) (Some d) p e = absurd (cc)
made_is args now came.End (Some d) p e = absurd (cc)
made_is args now (came.Ended status) (Some d) p e = absurd (cc)
made_is args now came.Crashed (Some d) p e = absurd (cc)
made_is args now came.Gave (Some d) p e = absurd (cc)
made_is args now (came.Started pid) (Some d) p e = absurd (cc)
made_is args now came.Failed (Some d) p e = absurd (cc)
made_is args now came.Memory (Some d) p e = absurd (cc)

and_false : (a b : Bool) → (a && b) ≡ false → a ≡ true → b ≡ false
and_false true b e t = e
and_false false b e t = absurd (cc)

pub goes_is : (args : LocalArgs) (now : ℕ) (got : GotData) (o : Option Drop) (d : Drop) (p : Place) → o ≡ Some d → is_made o got ≡ false → IsKind (due_by_drop o) got
    → dropped args now got o p ≡ went (after_of (end_drop (moved_drop got d))) (record p { dropping = Some (moved_drop got d) })
goes_is args now got o d p is e kind =
    let f = and_false (is_answer got) (is_linked d) (subst (λ x. is_made x got ≡ false) is e) in
    ap (λ x. dropped args now got x p) is ∙ drop_goes_is args now got d p f (subst (λ x. IsKind (due_by_drop x) got) is kind)
