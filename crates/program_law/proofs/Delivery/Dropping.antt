-- A step of a drop: what it leaves, and what the drop has then.
use Rattle.std.proofs.Common.{◌≡◌, ℕ, List, take, drop, Bool, true, false, Option, Some, None, sym, ap, ◌∙◌, subst}
use Rattle.std.specs.Prelude.{if◌then◌else◌}
use Rattle.call_fs.specs.declared.calls.Answer.{Answer}
use Rattle.call_fs.specs.declared.calls.Answer.TheVariants as answer
use Rattle.call_fs.specs.declared.calls.CallData.{CallData}
use Rattle.call_fs.specs.declared.calls.CallData.TheVariants as call
use Rattle.call_fs.specs.declared.calls.Fd.{Fd}
use Rattle.call_fs.specs.declared.calls.FsError.TheVariants as error
use Rattle.call_fs.specs.declared.calls.Told.{Told}
use Rattle.call_fs.specs.declared.modes.Mode.{Mode}
use Rattle.call_fs.specs.declared.past.GotData.TheVariants as came
use Rattle.call_fs.specs.declared.past.NeedData.{NeedData}
use Rattle.call_fs.specs.declared.past.NeedData.TheVariants as needs
use Rattle.call_fs.specs.Apply.{Fits, changed, grown, grown_part, synced}
use Rattle.call_fs.specs.Disk.{File, Open}
use Rattle.call_fs.specs.Maps.{put}
use Rattle.call_fs.proofs.Maps.{put_same, put_at_same, put_at_other}
use Rattle.maildir_drop.specs.declared.names.DropNames.{DropNames}
use Rattle.maildir_drop.specs.declared.row.Attempt.{Attempt}
use Rattle.maildir_drop.specs.declared.row.Attempt.TheVariants.{First, Second, Third}
use Rattle.maildir_drop.specs.declared.row.Outcome.{Outcome}
use Rattle.maildir_drop.specs.declared.row.Outcome.TheVariants.{Failed}
use Rattle.maildir_drop.specs.declared.row.Row.{Row}
use Rattle.maildir_drop.specs.declared.row.Row.TheVariants as at
use Rattle.maildir_drop.specs.declared.row.Why.{Why}
use Rattle.maildir_drop.specs.declared.row.Why.TheVariants as why
use Rattle.maildir_drop.specs.Names.{is_name, pair_at}
use Rattle.maildir_drop.specs.Table.{appended, begin_row, create_row, due_at, failed, is_complete, link_row, moved, next_row, sync_row, taken_row}
use Rattle.maildir_drop.proofs.Drops.{Apart}
use Rattle.queue_law.specs.Injectors.{IsOpen}
use Rattle.queue_law.specs.Numbers.{NamesSuit, Queue, Role}
use Rattle.queue_law.specs.Numbers.Role.{AsDrop}
use Rattle.queue_law.specs.Senders.{called_queue}
use Rattle.queue_law.proofs.Closed.{with_fds}
use Rattle.queue_law.proofs.Deeds.{written}
use Rattle.program_law.specs.Delivery.Leaves.{IsDropOf}
use Rattle.program_law.specs.Delivery.Rests.{HasFile, HasNamed, HasWritten}
use Rattle.program_law.proofs.Delivery.Deeds.{Leaves, made_drop, made_leaves, named_leaves, nothing, shut_leaves, written_leaves}
use Rattle.program_law.proofs.Delivery.Placed.{ArePlaced}

-- Rows that a row leads to

module _ (q : Queue) (a : List ℕ) (names : DropNames) where
  pub begins : (attempt : Attempt) → HasFile q a names (begin_row names attempt)
  begins attempt = elim (is_name (pair_at names attempt).tmp) as (λ t. HasFile q a names (if t then at.Create attempt else failed attempt why.Defer)) [ true ↦ tt | false ↦ tt ]

  takes : (attempt : Attempt) → HasFile q a names (taken_row names attempt)
  takes First = begins Second
  takes Second = begins Third
  takes Third = tt

  goes_on : (attempt : Attempt) (fd : Fd) (complete : Bool) → HasWritten q a (pair_at names attempt).tmp fd.0 → HasFile q a names (next_row attempt fd complete)
  goes_on attempt fd true h = h
  goes_on attempt fd false h = h

module _ (names : DropNames) (a : List ℕ) (q : Queue) (S : NamesSuit q) (placed : ArePlaced names) (differ : Apart names) (read wrote : ℕ) where
  -- to what a call leads, if this row comes after it
  abbrev pub Comes : CallData → Answer → Row → Type 0
  Comes c told row = (role : ℕ → Role) × Leaves a q (called_queue q a read c told wrote role) × HasFile (called_queue q a read c told wrote role) a names row

  abbrev Leads : Row → Queue → Type 0
  Leads row r = Leaves a q r × HasFile r a names row

  -- the file of its descriptor changed
  behind : (name : List ℕ) (fd : ℕ) (g : File → File) (row : Row) → (h : HasWritten q a name fd) → Leads row (written q h.0 (g (q.disk.files h.0)))
      → Leads row (record { disk = changed q.disk (q.disk.opens fd) g; holder = q.holder; books = q.books; role = q.role })
  behind name fd g row h leads =
      let by = λ (o : Option Open). Leads row (record { disk = changed q.disk o g; holder = q.holder; books = q.books; role = q.role }) in
      subst by (sym h.2.opened) leads

  still_written : (name : List ℕ) (fd : ℕ) (h : HasWritten q a name fd) (f : File) → HasWritten (written q h.0 f) a name fd
  still_written name fd h f = (
    h.0,
    record { placed = h.1.placed; there = h.1.there; made = h.1.made },
    record { opened = h.2.opened; held = h.2.held },
  )

  at_create : (attempt : Attempt) (left : List ℕ) (told : Answer) → Fits q.disk (call.CreateExcl (pair_at names attempt).tmp) told wrote
      → Comes (call.CreateExcl (pair_at names attempt).tmp) told (create_row names attempt (is_complete left) told)
  at_create attempt left (answer.Created fd i) fits =
      let name = (pair_at names attempt).tmp in
      let r : Queue = made_drop q a name fd.0 i read in
      let it : IsDropOf r a name i = record { placed = (placed attempt).0; there = put_at_same q.disk.names name (Some i); made = put_same q.role i (AsDrop a) } in
      let mine : IsOpen r a fd.0 i = record {
        opened = put_same q.disk.opens fd.0 (Some (record { number = i; mode = Mode.Created }));
        held = put_same q.holder fd.0 (Some a);
      } in
      (put q.role i (AsDrop a), made_leaves a q name (placed attempt).0 fd.0 i read fits, goes_on r a names attempt fd (is_complete left) (i, it, mine))
  at_create attempt left (answer.Refused error.Exists) fits = (q.role, nothing a q, takes q a names attempt)
  at_create attempt left (answer.Refused error.NotThere) fits = (q.role, nothing a q, tt)
  at_create attempt left (answer.Refused error.Fault) fits = (q.role, nothing a q, tt)
  at_create attempt left (answer.Refused error.Memory) fits = (q.role, nothing a q, tt)
  at_create attempt left told fits = absurd fits

  at_append : (attempt : Attempt) (fd : Fd) (left bytes : List ℕ) → HasWritten q a (pair_at names attempt).tmp fd.0 → (told : Answer)
      → Fits q.disk (call.Append fd bytes) told wrote → Comes (call.Append fd bytes) told (appended attempt fd left told).row
  at_append attempt fd left bytes h answer.Done fits =
      let name = (pair_at names attempt).tmp in
      let g : File → File = grown read bytes in
      let f : File = g (q.disk.files h.0) in
      let row : Row = (appended attempt fd left answer.Done).row in
      let w = behind name fd.0 g row h
      (written_leaves a q S name h.0 h.1 f, goes_on (written q h.0 f) a names attempt fd (is_complete (drop 8192 left)) (still_written name fd.0 h f)) in
      (q.role, w.0, w.1)
  at_append attempt fd left bytes h (answer.Refused error.Fault) fits =
      let name = (pair_at names attempt).tmp in
      let g : File → File = grown_part read bytes wrote in
      let f : File = g (q.disk.files h.0) in
      let w = behind name fd.0 g (at.Shut attempt fd why.Defer) h (written_leaves a q S name h.0 h.1 f, still_written name fd.0 h f) in
      (q.role, w.0, w.1)
  at_append attempt fd left bytes h (answer.Refused error.Memory) fits = (q.role, nothing a q, h)
  at_append attempt fd left bytes h told fits = absurd fits

  at_sync : (attempt : Attempt) (fd : Fd) → HasWritten q a (pair_at names attempt).tmp fd.0 → (told : Answer)
      → Fits q.disk (call.Sync fd) told wrote → Comes (call.Sync fd) told (sync_row attempt fd told)
  at_sync attempt fd h answer.Done fits =
      let name = (pair_at names attempt).tmp in
      let f : File = synced (q.disk.files h.0) in
      let w = behind name fd.0 synced (at.Close attempt fd) h (written_leaves a q S name h.0 h.1 f, still_written name fd.0 h f) in
      (q.role, w.0, w.1)
  at_sync attempt fd h (answer.Refused reason) fits = (q.role, nothing a q, h)
  at_sync attempt fd h told fits = absurd fits

  -- it closes its file, whatever row comes then
  closed : (fd : Fd) (name : List ℕ) → (h : HasWritten q a name fd.0)
      → Leaves a q (with_fds q (put q.disk.opens fd.0 None) (put q.holder fd.0 None)) × HasNamed (with_fds q (put q.disk.opens fd.0 None) (put q.holder fd.0 None)) a name
  closed fd name h = (shut_leaves a q fd.0 h.2.held, (h.0, record { placed = h.1.placed; there = h.1.there; made = h.1.made }))

  at_close : (attempt : Attempt) (fd : Fd) → HasWritten q a (pair_at names attempt).tmp fd.0 → (told : Answer)
      → Fits q.disk (call.Close fd) told wrote → Comes (call.Close fd) told (at.Link attempt)
  at_close attempt fd h answer.Done fits = let w = closed fd (pair_at names attempt).tmp h in (q.role, w.0, w.1)
  at_close attempt fd h told fits = absurd fits

  at_shut : (attempt : Attempt) (fd : Fd) (reason : Why) → HasWritten q a (pair_at names attempt).tmp fd.0 → (told : Answer)
      → Fits q.disk (call.Close fd) told wrote → Comes (call.Close fd) told (at.Unlink attempt (Failed reason))
  at_shut attempt fd reason h answer.Done fits = let w = closed fd (pair_at names attempt).tmp h in (q.role, w.0, w.1)
  at_shut attempt fd reason h told fits = absurd fits

  at_link : (attempt : Attempt) → HasNamed q a (pair_at names attempt).tmp → (told : Answer)
      → Fits q.disk (call.Link (pair_at names attempt).tmp (pair_at names attempt).new) told wrote
      → Comes (call.Link (pair_at names attempt).tmp (pair_at names attempt).new) told (link_row attempt told)
  at_link attempt h answer.Done fits =
      let tmp = (pair_at names attempt).tmp in
      let new = (pair_at names attempt).new in
      let number = q.disk.names tmp in (
        q.role,
        named_leaves a q new (placed attempt).1 number (λ o other k _ it same.
            let e : q.disk.names other ≡ q.disk.names new = ap q.disk.names same in
            let its = it.there in
            let free = fits.free in
            absurd (cc)),
        (h.0, record { placed = h.1.placed; there = put_at_other q.disk.names new number tmp (λ same. differ attempt (sym same)) ∙ h.1.there; made = h.1.made }),
      )
  at_link attempt h (answer.Refused reason) fits = (q.role, nothing a q, h)
  at_link attempt h told fits = absurd fits

  -- its name in `tmp` goes
  unnamed : (attempt : Attempt) (k : ℕ) → IsDropOf q a (pair_at names attempt).tmp k
      → Leaves a q (called_queue q a read (call.Unlink (pair_at names attempt).tmp) answer.Done wrote q.role)
  unnamed attempt k mine = named_leaves a q (pair_at names attempt).tmp (placed attempt).0 None (λ o other i other_than it same.
      let e : q.disk.names other ≡ q.disk.names (pair_at names attempt).tmp = ap q.disk.names same in
      let its = it.there in
      let my = mine.there in
      let number : i ≡ k = cc in
      let roles : q.role i ≡ q.role k = ap q.role number in
      let made = it.made in
      let own = mine.made in
      let maker : o ≡ a = cc in
      other_than maker)

  at_unlink : (attempt : Attempt) (o : Outcome) → HasFile q a names (at.Unlink attempt o) → (told : Answer)
      → Fits q.disk (call.Unlink (pair_at names attempt).tmp) told wrote → Comes (call.Unlink (pair_at names attempt).tmp) told (at.Ended attempt o)
  at_unlink attempt o h answer.Done fits = (q.role, unnamed attempt h.0 h.1, tt)
  at_unlink attempt o h (answer.Refused reason) fits = (q.role, nothing a q, tt)
  at_unlink attempt o h told fits = absurd fits

  -- the call that is due is the row's
  by_due : (its c : CallData) (told : Answer) (row : Row) → ◌≡◌ {A = NeedData} (needs.File its) (needs.File c) → (Fits q.disk its told wrote → Comes its told row)
      → Fits q.disk c told wrote → Comes c told row
  by_due its c told row due h =
      let same : its ≡ c = cc in
      subst (λ (x : CallData). Fits q.disk x told wrote → Comes x told row) same h

  pub step : (row : Row) (left : List ℕ) (c : CallData) (told : Told) → due_at names row left ≡ needs.File c → HasFile q a names row → Fits q.disk c told.answer wrote
      → Comes c told.answer (moved names (record { row = row; left = left }) (came.Answered told)).row
  step (at.Create attempt) left c told due h =
      by_due (call.CreateExcl (pair_at names attempt).tmp) c told.answer (create_row names attempt (is_complete left) told.answer) due (at_create attempt left told.answer)
  step (at.Append attempt fd) left c told due h =
      by_due (call.Append fd (take 8192 left)) c told.answer (appended attempt fd left told.answer).row due (at_append attempt fd left (take 8192 left) h told.answer)
  step (at.Sync attempt fd) left c told due h = by_due (call.Sync fd) c told.answer (sync_row attempt fd told.answer) due (at_sync attempt fd h told.answer)
  step (at.Close attempt fd) left c told due h = by_due (call.Close fd) c told.answer (at.Link attempt) due (at_close attempt fd h told.answer)
  step (at.Shut attempt fd reason) left c told due h =
      by_due (call.Close fd) c told.answer (at.Unlink attempt (Failed reason)) due (at_shut attempt fd reason h told.answer)
  step (at.Link attempt) left c told due h =
      by_due (call.Link (pair_at names attempt).tmp (pair_at names attempt).new) c told.answer (link_row attempt told.answer) due (at_link attempt h told.answer)
  step (at.Unlink attempt o) left c told due h =
      by_due (call.Unlink (pair_at names attempt).tmp) c told.answer (at.Ended attempt o) due (at_unlink attempt o h told.answer)
  step (at.Ended attempt o) left c told due h = absurd (cc)
