-- What a sender hears of the local spawner, by its past.
use Rattle.std.proofs.Common.{◌≡◌, ℕ, List, [], false, Option, Some, None, sym, ap, ◌∙◌, subst, refl}
use Rattle.call_fs.specs.Past.{IsRunBy}
use Rattle.call_fs.specs.declared.past.GotData.{GotData}
use Rattle.call_fs.specs.declared.past.GotData.TheVariants as got
use Rattle.call_fs.specs.declared.past.NeedData.{NeedData}
use Rattle.call_fs.specs.declared.past.NeedData.TheVariants as needs
use Rattle.call_fs.specs.declared.past.Own.{Own}
use Rattle.call_fs.specs.declared.program.Port.TheVariants as port
use Rattle.call_fs.specs.declared.program.Ready.{Ready}
use Rattle.bounce_record.specs.Writing.{Writing}
use Rattle.send_core.proofs.Agreed.{lanes_agree}
use Rattle.send_core.proofs.Fits.{so_far}
use Rattle.send_core.proofs.Lists.{news_are}
use Rattle.send_core.proofs.Runs.{Was, keeps}
use Rattle.send_core.proofs.Standing.{FitAt, Half, InMark, InStart}
use Rattle.send_core.specs.Agrees.{has_ended}
use Rattle.send_core.specs.Desk.{link}
use Rattle.send_core.specs.Past.{Account, Work, account, work}
use Rattle.send_core.specs.Table.{Next, arrive, place_after as sender_after, due_at, row_now}
use Rattle.send_core.specs.declared.desk.Desk.{Desk}
use Rattle.send_parts.specs.declared.row.MarkRow.{MarkRow}
use Rattle.send_parts.specs.declared.row.MarkRow.TheVariants as mark
use Rattle.send_parts.specs.declared.row.Marked.{Marked}
use Rattle.send_parts.specs.declared.row.Row.{Row}
use Rattle.send_parts.specs.declared.row.Row.TheVariants as at
use Rattle.send_jobs.specs.declared.attempts.Mark.{Mark}
use Rattle.send_known.specs.declared.channel.Channel.{Channel}
use Rattle.send_known.specs.declared.channel.Channel.TheVariants.{Local, Remote}
use Rattle.send_jobs.specs.declared.slots.Slots.{Slots}
use Rattle.send_runs.proofs.Reports.{Flies}
use Rattle.send_runs.specs.Reports.{ending_in, reports_at, taken_by, taken_when}
use Rattle.send_links.specs.declared.link.Link.{Link}
use Rattle.send_parts.specs.declared.rows.StartRow.{StartRow}
use Rattle.send_parts.specs.declared.rows.StartRow.TheVariants as start
use Rattle.spawn_protocol.specs.declared.report.Report.{Report}
use Rattle.spawn_protocol.specs.Report.{Reader, read_on}
use Rattle.spawn_protocol.specs.Report.Reader.{AtBegin}

-- The reader of the local channel stands after what was heard.

module _ (P : MarkRow → Option Mark → Marked → Writing → Type 0) (f : Option Work) (al ar : Account) where
  by_start : (row : StartRow) (s : Slots) (l r : Link) → InStart P f al ar row s l r → l.reader ≡ (read_on AtBegin (so_far al.heard)).1
  by_start (start.Control file reading) s l r h = h.0.1.3
  by_start start.GreetLocal s l r h = h.0.1.3
  by_start (start.GreetRemote limit) s l r h = h.0.1.3
  by_start (start.Scan split) s l r h = h.0.0.3
  by_start (start.StatTodo split n) s l r h = h.0.0.3
  by_start (start.ReadInfo split n reading) s l r h = h.0.0.3
  by_start (start.StatInfo split n) s l r h = h.0.0.3
  by_start (start.StatLocal split n birth) s l r h = h.0.0.3
  by_start (start.StatRemote split n birth local) s l r h = h.0.0.3
  by_start start.Over s l r h = h.0.0.3
  by_start (start.Ended status) s l r h = h.0.0.3

  by_half : (of : Channel) (s : Slots) (l r : Link) → Half P f al ar of s l r → l.reader ≡ (read_on AtBegin (so_far al.heard)).1
  by_half Local s l r h = h.0.0.3
  by_half Remote s l r h = h.0.0.3

  by_mark : (row : MarkRow) (m : Marked) (w : Writing) (s : Slots) (l r : Link) → InMark P f al ar row m w s l r → l.reader ≡ (read_on AtBegin (so_far al.heard)).1
  by_mark mark.Note m w s l r h = h.0.0.0.3
  by_mark mark.Noting m w s l r h = h.0.0.3
  by_mark mark.Open m w s l r h = h.0.0.0.3
  by_mark (mark.Write fd) m w s l r h = by_half m.channel s l r h.0
  by_mark (mark.Close fd written) m w s l r h = by_half m.channel s l r h

  by_row : (row : Row) (d : Desk) → has_ended row ≡ false → FitAt P f al ar row d → d.local.reader ≡ (read_on AtBegin (so_far al.heard)).1
  by_row (at.Start row) d e h = by_start row d.slots d.local d.remote h
  by_row (at.Turn p) d e h = h.0.0.3
  by_row (at.TakeLink of) d e h = h.0.0.3
  by_row (at.Mark row m) d e h = by_mark row m d.note d.slots d.local d.remote h
  by_row (at.UnlinkFile of n p) d e h = h.0.0.3
  by_row (at.ReadFile of n begun reading) d e h = h.0.0.3
  by_row (at.Request of) d e h = h.0.0.0.3
  by_row (at.FindTodo search) d e h = h.0.0.3
  by_row at.InTodo d e h = h.0.0.3
  by_row (at.Finish row n) d e h = h.0.0.3
  by_row (at.Sweep row) d e h = h.0.0.3
  by_row (at.Ended status) d e h = absurd (cc)

-- a sender that takes hasn't ended
still_runs : (row : Row) (d : Desk) (now : ℕ) (ready : Ready) → due_at (arrive row d now ready) d ≡ needs.Take port.Lspawn → has_ended row ≡ false
still_runs (at.Ended status) d now ready e = absurd (cc)
still_runs row d now ready e = refl

module _ (past : List Own) (run : IsRunBy (Next None) past) (own : Own) (due : due_at (row_now (sender_after None past) own.read own.ready) (sender_after None past) ≡ own.due)
    (taking : own.due ≡ needs.Take port.Lspawn) where
  alive : has_ended (sender_after None past).row ≡ false
  alive = still_runs (sender_after None past).row (sender_after None past) own.read own.ready (due ∙ taking)

  pub flies_now : Flies Local (account Local past) (sender_after None past)
  flies_now = (lanes_agree None past run Local alive).in_flight

  by_heard : (bytes : List ℕ) (o : Option (List ℕ)) → (P : List Report → Type 0) → P [] → P (read_on (read_on AtBegin (so_far o)).1 bytes).0 → P (ending_in o bytes)
  by_heard bytes None P none all = none
  by_heard bytes (Some before) P none all = subst P (sym (news_are before bytes)) all

  taken_then : (bytes : List ℕ) → own.came ≡ got.Took bytes → reports_at Local past own ≡ ending_in (account Local past).heard bytes
  taken_then bytes came =
      ap (λ (z : NeedData). taken_when (taken_by z own.came Local) (account Local past).heard) taking
      ∙ ap (λ (z : GotData). taken_when (taken_by (needs.Take port.Lspawn) z Local) (account Local past).heard) came

  -- what holds of the reports that it reads holds of those that end in what it takes
  pub reports_now : (bytes : List ℕ) → own.came ≡ got.Took bytes → (P : List Report → Type 0) → P [] → P (read_on (link Local (sender_after None past)).reader bytes).0 → P (reports_at Local past own)
  reports_now bytes came P none all =
      let reader : (sender_after None past).local.reader ≡ (read_on AtBegin (so_far (account Local past).heard)).1 =
      by_row (Was past) (work past) (account Local past) (account Remote past) (sender_after None past).row (sender_after None past) alive (keeps None past run).0 in
      subst P (sym (taken_then bytes came))
      (by_heard bytes (account Local past).heard P none (subst (λ (z : Reader). P (read_on z bytes).0) reader all))
