-- What the start has read, step by step.
use Rattle.std.proofs.Common.{◌≡◌, ℕ, ◌+◌, List, [], ◌∷◌, Bool, true, false, if◌then◌else◌, nat_lt, set, Option, Some, None, refl, sym, ap, ◌∙◌}
use Rattle.address_rules.specs.declared.control_file.ControlFile.{ControlFile}
use Rattle.address_rules.specs.declared.control_file.ControlFile.TheVariants as files
use Rattle.address_rules.specs.Files.{Fault, controls_of, first_fault, place}
use Rattle.send_core.specs.declared.desk.Desk.{Desk}
use Rattle.send_core.specs.Start.{start_at}
use Rattle.send_parts.specs.declared.book.Book.{Book}
use Rattle.send_parts.specs.declared.reply.Way.{Way}
use Rattle.send_parts.specs.declared.reply.Way.TheVariants as way
use Rattle.send_parts.specs.declared.rows.StartRow.{StartRow}
use Rattle.send_parts.specs.declared.rows.StartRow.TheVariants as start
use Rattle.send_parts.specs.Files.{number_below, sender_in}
use Rattle.send_known.specs.Messages.{learned}
use Rattle.send_parts.specs.Start.{begins_at, by_way, filed, greeted_local, greeted_remote, info_row, judged_by, remote_stated, scan_next, scan_row, scanned, start_failed}
use Rattle.todo_pass.specs.Table.{Pass}
use Rattle.send_parts.specs.declared.row.Row.{Row}
use Rattle.send_parts.specs.declared.row.Row.TheVariants as at
use Rattle.send_core.specs.Papers.{filed as filed_paper, judged}
use Rattle.send_core.specs.Papers.Papers.{Told}
use Rattle.send_core.proofs.Known.{Sound}
use Rattle.send_core.proofs.Asked.{Asked, ControlSays, Facts, KnowsAt, RowSays}

module _ (S : ℕ → List ℕ → Type 0) (t : Facts) (p : Pass) where
  abbrev pub LandsAt : Row → Book → Type 0
  LandsAt (at.Start (start.Control file reading)) b = Sound S t.births.of b.messages × ControlSays S t file reading b
  LandsAt (at.Ended status) b = Unit {0}
  LandsAt row b = Sound S t.births.of b.messages × (t.papers ≡ Told b.controls) × RowSays S t row b.read p b.messages.known

  abbrev pub Lands : Book → Type 0
  Lands b = LandsAt (start_at b.row) b

  -- the control files

  lands_judged : (o : Option Fault) (files : List (Option (List ℕ))) (b : Book) → Sound S t.births.of b.messages → t.papers ≡ judged o files → b.files ≡ files → Lands (judged_by o b)
  lands_judged None files b h e same = (h, e ∙ ap (λ (x : List (Option (List ℕ))). Told (controls_of x)) (sym same), tt)
  lands_judged (Some fault) files b h e same = tt

  pub lands_filed : (content : Option (List ℕ)) (file : ControlFile) (b : Book) → Sound S t.births.of b.messages → t.papers ≡ filed_paper file content b.files → Lands (filed content file b)
  lands_filed content files.Me b h e = (h, (None, e))
  lands_filed content files.Locals b h e = (h, (None, e))
  lands_filed content files.PercentHack b h e = (h, (None, e))
  lands_filed content files.VirtualDomains b h e = (h, (None, e))
  lands_filed content files.EnvNoAtHost b h e = (h, (None, e))
  lands_filed content files.BounceFrom b h e = (h, (None, e))
  lands_filed content files.BounceHost b h e = (h, (None, e))
  lands_filed content files.DoubleBounceTo b h e = (h, (None, e))
  lands_filed content files.DoubleBounceHost b h e = (h, (None, e))
  lands_filed content files.ConcurrencyLocal b h e = (h, (None, e))
  lands_filed content files.ConcurrencyRemote b h e = (h, (None, e))
  lands_filed content files.QueueLifetime b h e =
      let all : List (Option (List ℕ)) = set b.files (place files.QueueLifetime) content in
      lands_judged (first_fault all) all (record b { files = all }) h e refl

  pub lands_failed : (w : Way) (b : Book) → Lands (begins_at (start_failed w) b)
  lands_failed way.Fine b = tt
  lands_failed way.Over b = tt
  lands_failed way.Absent b = tt
  lands_failed way.Broken b = tt
  lands_failed way.NoMemory b = tt

  -- what comes after them, if what they say was told

  pub lands_way : (w : Way) (there missing : StartRow) (b : Book) → Lands (begins_at there b) → Lands (begins_at missing b) → Lands (begins_at (by_way w there missing) b)
  lands_way way.Fine there missing b x y = x
  lands_way way.Over there missing b x y = tt
  lands_way way.Absent there missing b x y = y
  lands_way way.Broken there missing b x y = tt
  lands_way way.NoMemory there missing b x y = tt

  pub lands_local : (w : Way) (bytes : List ℕ) (b : Book) → Sound S t.births.of b.messages → t.papers ≡ Told b.controls → Lands (greeted_local w bytes b)
  lands_local way.Fine [] b h e = tt
  lands_local way.Fine (byte ∷ rest) b h e = (h, e, tt)
  lands_local way.Over bytes b h e = tt
  lands_local way.Absent bytes b h e = tt
  lands_local way.Broken bytes b h e = tt
  lands_local way.NoMemory bytes b h e = tt

  pub lands_remote : (w : Way) (bytes : List ℕ) (b : Book) → Sound S t.births.of b.messages → t.papers ≡ Told b.controls → Lands (greeted_remote w bytes b)
  lands_remote way.Fine [] b h e = tt
  lands_remote way.Fine (byte ∷ rest) b h e = (h, e, tt)
  lands_remote way.Over bytes b h e = tt
  lands_remote way.Absent bytes b h e = tt
  lands_remote way.Broken bytes b h e = tt
  lands_remote way.NoMemory bytes b h e = tt

  lands_scan_next : (split : ℕ) (b : Book) → Sound S t.births.of b.messages → t.papers ≡ Told b.controls → Lands (scan_next split b)
  lands_scan_next split b h e = by (nat_lt split 22) where
    by : (more : Bool) → LandsAt (start_at (if more then start.Scan (split + 1) else start.Over)) (scan_next split b)
    by true = (h, e, tt)
    by false = (h, e, tt)

  pub lands_scanned : (w : Way) (text : List ℕ) (split : ℕ) (b : Book) → Sound S t.births.of b.messages → t.papers ≡ Told b.controls → Lands (scanned w text split b)
  lands_scanned way.Fine text split b h e = by (number_below split text) where
    by : (o : Option ℕ) → LandsAt (start_at (scan_row o split)) (scanned way.Fine text split b)
    by None = (h, e, tt)
    by (Some n) = (h, e, tt)
  lands_scanned way.Over text split b h e = lands_scan_next split b h e
  lands_scanned way.Absent text split b h e = tt
  lands_scanned way.Broken text split b h e = tt
  lands_scanned way.NoMemory text split b h e = tt

  pub lands_info_row : (is : Bool) (split n : ℕ) (b : Book) → (is ≡ true → S n (sender_in b.read)) → Sound S t.births.of b.messages → t.papers ≡ Told b.controls → Lands (begins_at (info_row is split n) b)
  lands_info_row true split n b said h e = (h, e, said refl)
  lands_info_row false split n b said h e = (h, e, tt)

  -- once the remote file was looked for, the message is known
  pub lands_learned : (w : Way) (split n birth : ℕ) (local : Bool) (b : Book)
      → ((remote : Bool) → Sound S t.births.of (learned (record { n = n; birth = birth; finish_at = 0; local = local; remote = remote; sender = sender_in b.read }) 0 b.messages)) → t.papers ≡ Told b.controls
      → Lands (remote_stated w split n birth local b)
  lands_learned way.Fine split n birth local b h e = (h true, e, tt)
  lands_learned way.Absent split n birth local b h e = (h false, e, tt)
  lands_learned way.Over split n birth local b h e = tt
  lands_learned way.Broken split n birth local b h e = tt
  lands_learned way.NoMemory split n birth local b h e = tt

-- with what it asks for, that is what it knows
pub to_knows : (S : ℕ → List ℕ → Type 0) (t : Facts) (row : Row) (d : Desk) → LandsAt S t d.pass row d.book → Asked S d.local.requests d.slots.local.left → Asked S d.remote.requests d.slots.remote.left
    → KnowsAt S t row d
to_knows S t (at.Start (start.Control file reading)) d x l r = (x.0, l, r, x.1)
to_knows S t (at.Ended status) d x l r = tt
to_knows S t (at.Start start.GreetLocal) d x l r = ((x.0, l, r, x.1), x.2)
to_knows S t (at.Start (start.GreetRemote limit)) d x l r = ((x.0, l, r, x.1), x.2)
to_knows S t (at.Start (start.Scan split)) d x l r = ((x.0, l, r, x.1), x.2)
to_knows S t (at.Start (start.StatTodo split n)) d x l r = ((x.0, l, r, x.1), x.2)
to_knows S t (at.Start (start.ReadInfo split n reading)) d x l r = ((x.0, l, r, x.1), x.2)
to_knows S t (at.Start (start.StatInfo split n)) d x l r = ((x.0, l, r, x.1), x.2)
to_knows S t (at.Start (start.StatLocal split n birth)) d x l r = ((x.0, l, r, x.1), x.2)
to_knows S t (at.Start (start.StatRemote split n birth local)) d x l r = ((x.0, l, r, x.1), x.2)
to_knows S t (at.Start start.Over) d x l r = ((x.0, l, r, x.1), x.2)
to_knows S t (at.Start (start.Ended status)) d x l r = ((x.0, l, r, x.1), x.2)
to_knows S t (at.Turn p) d x l r = ((x.0, l, r, x.1), x.2)
to_knows S t (at.TakeLink c) d x l r = ((x.0, l, r, x.1), x.2)
to_knows S t (at.Mark row m) d x l r = ((x.0, l, r, x.1), x.2)
to_knows S t (at.UnlinkFile c n p) d x l r = ((x.0, l, r, x.1), x.2)
to_knows S t (at.ReadFile c n begun reading) d x l r = ((x.0, l, r, x.1), x.2)
to_knows S t (at.Request c) d x l r = ((x.0, l, r, x.1), x.2)
to_knows S t (at.FindTodo search) d x l r = ((x.0, l, r, x.1), x.2)
to_knows S t at.InTodo d x l r = ((x.0, l, r, x.1), x.2)
to_knows S t (at.Finish row n) d x l r = ((x.0, l, r, x.1), x.2)
to_knows S t (at.Sweep row) d x l r = ((x.0, l, r, x.1), x.2)
