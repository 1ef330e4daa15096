-- What the sender hears of the local spawner: each report is of an attempt in flight, and a K report of one that was carried out.
use Rattle.std.proofs.Common.{◌≡◌, ◌≢◌, ◌⊎◌, inl, inr, ⊎_elim, ℕ, List, [], ◌++◌, true, ◌&&◌, Option, Some, None, refl, sym, ap, ◌∙◌, subst, codes}
use Rattle.call_fs.specs.declared.past.GotData.{GotData}
use Rattle.call_fs.specs.declared.past.GotData.TheVariants as got
use Rattle.call_fs.specs.declared.past.NeedData.{NeedData}
use Rattle.call_fs.specs.declared.past.NeedData.TheVariants as needs
use Rattle.call_fs.specs.declared.past.Own.{Own}
use Rattle.call_fs.specs.declared.program.Port.TheVariants as port
use Rattle.call_fs.specs.declared.program.Ready.{Ready}
use Rattle.program_law.specs.Post.Laws.{AreHeard}
use Rattle.program_law.specs.Post.Posts.{Post}
use Rattle.program_law.specs.Post.Senders.{IsFirst, IsQuiet, heard_at, is_on}
use Rattle.program_law.proofs.Post.Asks.{greets_keep}
use Rattle.program_law.proofs.Post.Aways.{IsAway, control_away, row_away, start_away}
use Rattle.program_law.proofs.Post.Hears.{hears_keep}
use Rattle.send_core.specs.declared.desk.Desk.{Desk}
use Rattle.send_parts.specs.declared.row.Row.{Row}
use Rattle.send_parts.specs.declared.row.Row.TheVariants as at
use Rattle.send_core.specs.Desk.{link, with_reader}
use Rattle.send_core.specs.Table.{arrive, place_after as sender_after, due_at, row_now}
use Rattle.send_known.specs.declared.channel.Channel.TheVariants.{Local, Remote}
use Rattle.send_jobs.specs.Sending.{lane}
use Rattle.send_parts.specs.declared.rows.StartRow.{StartRow}
use Rattle.send_parts.specs.declared.rows.StartRow.TheVariants as start
use Rattle.spawn_protocol.specs.declared.report.Report.{Report}
use Rattle.spawn_protocol.specs.Report.{Reader, read_on}
use Rattle.program_law.proofs.Sender.Awaits.{Begins, point_begins}
use Rattle.world_pipes.specs.Pipework.{Yields}
use Rattle.world_events.specs.declared.event.Program.{Program}
use Rattle.world_events.specs.declared.event.Program.TheVariants.{Sender}
use Rattle.mail_world.specs.History.{Actor, ComesOf, Life, MayDo, State, next_of}
use Rattle.mail_world.specs.History.Life.{Alive}
use Rattle.world_law.specs.Crew.{IsNamed}
use Rattle.world_law.specs.Inv.{Inv}
use Rattle.world_law.specs.inside.Posts.{PostsStand, desk_in, sends_in}
use Rattle.world_law.proofs.EnteredStands.{sends_on}
use Rattle.world_law.proofs.PostSends.{sender_first, sender_post, sender_posted}
use Rattle.world_law.proofs.SendersPut.{sender}
use Rattle.world_law.proofs.Tenants.{some_actor}

-- At which rows it takes from the local spawner

start_takes : (row : StartRow) (d : Desk) → due_at (at.Start row) d ≡ needs.Take port.Lspawn → at.Start row ≡ at.Start start.GreetLocal
start_takes start.GreetLocal d due = refl
start_takes (start.Control f reading) d due = absurd (subst IsAway due (control_away f reading d))
start_takes (start.GreetRemote limit) d due = absurd (cc)
start_takes row d due = absurd (subst IsAway due (start_away row d refl))

takes_at : (row : Row) (d : Desk) → due_at row d ≡ needs.Take port.Lspawn → (row ≡ at.TakeLink Local) ⊎ (row ≡ at.Start start.GreetLocal)
takes_at (at.TakeLink Local) d due = inl refl
takes_at (at.TakeLink Remote) d due = absurd (cc)
takes_at (at.Start row) d due = inr (start_takes row d due)
takes_at (at.Turn p) d due = absurd (cc)
takes_at (at.Request Local) d due = absurd (cc)
takes_at (at.Request Remote) d due = absurd (cc)
takes_at (at.Ended status) d due = absurd (cc)
takes_at row d due = absurd (subst IsAway due (row_away row d tt))

-- at a link it holds of a report what came before
link_heard : (row : Row) (d : Desk) (read : ℕ) (ready : Ready) (reader : Reader) → arrive row d read ready ≡ at.TakeLink Local → heard_at row Local reader ≡ Some reader
link_heard (at.Start row) d read ready reader is = absurd (cc)
link_heard row d read ready reader is = refl

pub link_on : (row : Row) (d : Desk) (read : ℕ) (ready : Ready) → arrive row d read ready ≡ at.TakeLink Local → is_on row ≡ true
link_on (at.Ended status) d read ready is = absurd (cc)
link_on row d read ready is = refl

-- and the first byte it takes in its start
greet_row : (row : Row) (d : Desk) (read : ℕ) (ready : Ready) → arrive row d read ready ≡ at.Start start.GreetLocal → row ≡ at.Start start.GreetLocal
greet_row (at.Start row) d read ready is = is
greet_row (at.Turn p) d read ready is = let none : ⊥ = subst Begins is (point_begins d read ready p) in absurd none
greet_row row d read ready is = absurd (cc)

-- What it hears

module _ (s : State) (I : Inv s) (P : PostsStand s) where
  module _ (own : Own) (began : ℕ) (past : List Own) (is : s.actors (codes "sender") ≡ Some (sender began past)) where
    abbrev d : Desk
    d = sender_after None past

    abbrev reader : Reader
    reader = (link Local d).reader

    abbrev post : Post
    post = sender_post s P began past is

    module _ (bytes rest : List ℕ) (some : bytes ≢ []) (lies : (s.pipework.pipes (codes "sender") port.Lspawn).bytes ≡ bytes ++ rest) where
      -- reports
      pub link_hears : row_now d own.read own.ready ≡ at.TakeLink Local → AreHeard Local P.done (read_on reader bytes).0 (lane Local d.slots).slots
      link_hears row =
          (hears_keep reader bytes rest post (sender_posted s P began past is) (link_on d.row d own.read own.ready row) (link_heard d.row d own.read own.ready reader row) lies).each

      -- or the first byte, which ends none
      greeting_none : row_now d own.read own.ready ≡ at.Start start.GreetLocal → (read_on reader bytes).0 ≡ []
      greeting_none row =
          let at_row : d.row ≡ at.Start start.GreetLocal = greet_row d.row d own.read own.ready row in
          let quiet : IsQuiet d = subst (λ (z : Row). IsFirst z d) at_row (sender_first s P began past is) refl in
          let byte = (greets_keep bytes rest post (sender_posted s P began past is) (ap is_on at_row) (ap (λ (z : Row). heard_at z Local reader) at_row) lies some).byte in
          λ i. (read_on (quiet.unread Local i) (byte i)).0

-- So a sender hears something, if it does of each report and of none.

module _ (s : State) (I : Inv s) (P : PostsStand s) (Hears : List Report → Desk → Type 0) (silent : (z : Desk) → Hears [] z)
    (each : sends_on s ≡ true → (rs : List Report) (z : Desk) → (lane Local z.slots).slots ≡ (lane Local (desk_in (s.actors (codes "sender"))).slots).slots
    → AreHeard Local P.done rs (lane Local z.slots).slots → Hears rs z) where
  module _ (own : Own) (began : ℕ) (past : List Own) (is : s.actors (codes "sender") ≡ Some (sender began past)) where
    abbrev desk : Desk
    desk = sender_after None past

    abbrev Heard : List ℕ → Type 0
    Heard bytes = let it = read_on (link Local desk).reader bytes in Hears it.0 (with_reader Local it.1 desk)

    module _ (bytes rest : List ℕ) (some : bytes ≢ []) (lies : (s.pipework.pipes (codes "sender") port.Lspawn).bytes ≡ bytes ++ rest) where
      of_link : row_now desk own.read own.ready ≡ at.TakeLink Local → Heard bytes
      of_link row =
          let it = read_on (link Local desk).reader bytes in
          let on : sends_on s ≡ true = ap (λ (o : Option Actor). sends_in o && is_on (desk_in o).row) is ∙ link_on desk.row desk own.read own.ready row in
          each on it.0 (with_reader Local it.1 desk) (ap (λ (o : Option Actor). (lane Local (desk_in o).slots).slots) (sym is))
          (link_hears s I P own began past is bytes rest some lies row)

      of_greeting : row_now desk own.read own.ready ≡ at.Start start.GreetLocal → Heard bytes
      of_greeting row =
          let after_it = with_reader Local (read_on (link Local desk).reader bytes).1 desk in
          subst (λ (rs : List Report). Hears rs after_it) (sym (greeting_none s I P own began past is bytes rest some lies row)) (silent after_it)

      of_taking : due_at (row_now desk own.read own.ready) desk ≡ needs.Take port.Lspawn → Heard bytes
      of_taking due = ⊎_elim of_link of_greeting (takes_at (row_now desk own.read own.ready) desk due)

    taken_well : (wrote : ℕ) → due_at (row_now desk own.read own.ready) desk ≡ own.due → ComesOf s (codes "sender") own.due own.came wrote → own.due ≡ needs.Take port.Lspawn
        → (bytes : List ℕ) → own.came ≡ got.Took bytes → Heard bytes
    taken_well wrote due comes taking bytes came =
        let yields : Yields (s.pipework.pipes (codes "sender") port.Lspawn) (got.Took bytes) =
        subst (λ (c : GotData). ComesOf s (codes "sender") (needs.Take port.Lspawn) c wrote) came (subst (λ (n : NeedData). ComesOf s (codes "sender") n own.came wrote) taking comes) in
        of_taking bytes yields.1.0 yields.0 yields.1.1 (due ∙ taking)

  by_program : (a : List ℕ) (own : Own) (wrote : ℕ) (program : Program) (past : List Own) (life : Life) (began : ℕ) → program ≡ Sender began → life ≡ Alive → IsNamed a program
      → s.actors a ≡ Some (record { program = program; past = past; life = life }) → next_of program past own.read own.ready ≡ own.due → ComesOf s a own.due own.came wrote
      → own.due ≡ needs.Take port.Lspawn → (bytes : List ℕ) → own.came ≡ got.Took bytes
      → let keeps = sender_after None past in let it = read_on (link Local keeps).reader bytes in Hears it.0 (with_reader Local it.1 keeps)
  by_program a own wrote (Sender since) past Alive began e alive named is due comes taking bytes came =
      taken_well own since past (subst (λ (b : List ℕ). s.actors b ≡ Some (sender since past)) named is) wrote due
      (subst (λ (b : List ℕ). ComesOf s b own.due own.came wrote) named comes) taking bytes came
  by_program a own wrote (Sender since) past life began e alive named is due comes taking bytes came = absurd (cc)
  by_program a own wrote other past life began e alive named is due comes taking bytes came = absurd (cc)

  pub takes_reports : (a : List ℕ) (own : Own) (wrote : ℕ) → MayDo s a own wrote → (x : Actor) → s.actors a ≡ Some x → (began : ℕ) → x.program ≡ Sender began
      → own.due ≡ needs.Take port.Lspawn → (bytes : List ℕ) → own.came ≡ got.Took bytes
      → let keeps = sender_after None x.past in let it = read_on (link Local keeps).reader bytes in Hears it.0 (with_reader Local it.1 keeps)
  takes_reports a own wrote may x is began program taking bytes came =
      let same : may.actor ≡ x = some_actor may.actor x (sym may.reads.is ∙ is) in
      by_program a own wrote x.program x.past x.life began program (ap (λ (y : Actor). y.life) (sym same) ∙ may.reads.alive) (I.crew a x is) is
      (subst (λ (y : Actor). next_of y.program y.past own.read own.ready ≡ own.due) same may.due) may.came taking bytes came
