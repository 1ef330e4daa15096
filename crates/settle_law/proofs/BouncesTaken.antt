-- Where nothing fails the injector of each bounce whose status a sender took had ended with 0.
use Rattle.address_rules.specs.Nuls.{HaveNoNul}
use Rattle.queue_law.specs.Ledgers.{NotesRead}
use Rattle.std.proofs.Common.{◌≡◌, ◌⊎◌, inl, inr, ⊎_elim, ℕ, List, true, false, Option, Some, None, refl, sym, ap, ◌∙◌, subst, bytes_eq, codes}
use Rattle.std.proofs.lemmas.Bool.{false≢true}
use Rattle.bounce_record.specs.declared.return_row.ReturnRow.{ReturnRow}
use Rattle.call_fs.specs.Past.{IsRunBy}
use Rattle.call_fs.specs.declared.past.GotData.{GotData}
use Rattle.call_fs.specs.declared.past.GotData.TheVariants as came
use Rattle.call_fs.specs.declared.past.NeedData.{NeedData}
use Rattle.call_fs.specs.declared.past.NeedData.TheVariants as needs
use Rattle.call_fs.specs.declared.past.Own.{Own}
use Rattle.call_fs.specs.declared.program.Port.TheVariants as port
use Rattle.queue_inject.specs.declared.injection.Arguments.{Arguments}
use Rattle.queue_inject.specs.Causes.{first_fault}
use Rattle.queue_law.specs.Entered.{Child as Bouncer, notes_read}
use Rattle.queue_law.specs.Numbers.{Queue, about}
use Rattle.send_core.specs.declared.desk.Desk.{Desk}
use Rattle.send_parts.specs.declared.row.Row.{Row}
use Rattle.send_parts.specs.declared.row.Row.TheVariants as at
use Rattle.send_core.specs.Booked.{booked_at, returned_at}
use Rattle.send_core.specs.Table.{Next, place_after, row_now}
use Rattle.send_known.specs.Known.{sender_of}
use Rattle.send_parts.specs.declared.rows.FinishRow.TheVariants as finish
use Rattle.program_law.proofs.Sender.Given.{return_arrived}
use Rattle.program_law.specs.Sender.Rows.{HasMade, ReturnHolds, ReturnStands}
use Rattle.program_law.specs.Sender.Stands.{HasControls, StandsAt}
use Rattle.world_pipes.specs.Pipework.{Tenant}
use Rattle.world_pipes.specs.Pipework.Tenant.{Remote, Runs}
use Rattle.world_events.specs.declared.event.Program.{Program}
use Rattle.world_events.specs.declared.event.Program.TheVariants.{Sender}
use Rattle.mail_world.specs.History.{Actor, ComesOf, IsStatusOf, Life, MayBear, MayDo, State, TenantEnds, bouncer_at, bouncer_in, bouncer_of, bouncing}
use Rattle.mail_world.specs.History.Life.{Alive, Over, Stopped}
use Rattle.mail_world.specs.Untouched.{queue}
use Rattle.world_law.proofs.Bounces.{IsStatusTaken}
use Rattle.world_law.proofs.SendersChild.{carried}
use Rattle.world_law.proofs.Tenants.{IsBouncer, is_bouncer, some_actor}
use Rattle.world_law.specs.Bounces.{IsBounceOf}
use Rattle.world_law.specs.Crew.{IsNamed}
use Rattle.world_law.specs.Inv.{Inv, IsChild}
use Rattle.settle_law.proofs.BounceInputs.{bounce_fault}
use Rattle.settle_law.proofs.InjectorsEnd.{AllFine, EndsFine, all_fine, over_fine}
use Rattle.settle_law.proofs.Pasts.{sender_pasts}
use Rattle.settle_law.proofs.SenderRows.{due, stands}
use Rattle.settle_law.proofs.ShortControls.{AreShort}
use Rattle.settle_law.proofs.ShortRequests.{known_short}
use Rattle.settle_law.proofs.StatusRows.{StatusAt, status_at}
use Rattle.settle_law.specs.inside.Finishes.{BouncesAreTaken, BouncesEnd}
use Rattle.settle_law.specs.Well.{came_well, goes_well, is_well_ended}

is_named : (a : List ℕ) (program : Program) (start : ℕ) → program ≡ Sender start → IsNamed a program → a ≡ codes "sender"
is_named a program start is named = subst (λ (p : Program). IsNamed a p) is named

-- A status that is taken

-- an injector of a bounce whose input has no fault but its length has ended with 0, since none that is too long ends where nothing fails
zero_by : (args : Arguments) (status : ℕ) → (first_fault args ≡ None) ⊎ (first_fault args ≡ Some 31) → (status ≡ 0) ⊎ (first_fault args ≡ Some status) → is_well_ended status ≡ true → status ≡ 0
zero_by args status fault (inl zero) well = zero
zero_by args status (inl none) (inr some) well = absurd (cc (sym none ∙ some))
zero_by args status (inr long) (inr some) well =
    let both : ◌≡◌ {A = Option ℕ} (Some 31) (Some status) = sym long ∙ some in
    let same : 31 ≡ status = cc in
    let bad : false ≡ true = ap is_well_ended same ∙ well in
    absurd (false≢true bad)

status_by : (args : Arguments) (life : Life) (got : GotData) → (first_fault args ≡ None) ⊎ (first_fault args ≡ Some 31) → EndsFine args life → IsStatusOf life got → got ≡ came.Ended 0
status_by args Alive got fault fine is = absurd is
status_by args (Over status) got fault fine is = is ∙ ap came.Ended (zero_by args status fault fine.0 fine.1)
status_by args Stopped got fault fine is = absurd fine

-- An event of a sender

module _ (s : State) (I : Inv s) (F : AllFine s.actors) (a : List ℕ) (own : Own) (wrote : ℕ) (may : MayDo s a own wrote) (start : ℕ) (is : may.actor.program ≡ Sender start)
    (run : IsRunBy (Next None) may.actor.past) where
  abbrev q : Queue
  q = queue s I.role

  abbrev past : List Own
  past = may.actor.past

  abbrev d : Desk
  d = place_after None past

  abbrev row : Row
  row = row_now d own.read own.ready

  named : a ≡ codes "sender"
  named = is_named a may.actor.program start is (I.crew a may.actor may.reads.is)

  there : s.actors (codes "sender") ≡ Some (record { program = Sender start; past = past; life = Alive })
  there =
      ap s.actors (sym named) ∙ may.reads.is
      ∙ ap (λ (p : Program). Some (record { program = p; past = past; life = may.actor.life })) is
      ∙ ap (λ (l : Life). Some (record { program = Sender start; past = past; life = l })) may.reads.alive

  stands_so : StandsAt s.now q (codes "sender") row d
  stands_so = subst (λ (b : List ℕ). StandsAt s.now q b row d) named (stands s I a own wrote may start is)

  -- as it takes the status of its child
  module _ (w : StatusAt row d) where
    here : StandsAt s.now q (codes "sender") (at.Finish finish.Return w.n) d
    here = subst (λ (r : Row). StandsAt s.now q (codes "sender") r d) w.row_is stands_so

    stood : d.row ≡ at.Finish finish.Return w.n
    stood = return_arrived d.row d own.read own.ready w.n w.row_is

    short : AreShort d.book.controls
    short = known_short past run (subst HasControls (sym stood) tt)

    returns : ReturnStands d.book.controls q (codes "sender") w.n d.book.messages.known d.bounce
    returns = here.rests.1

    held : HasMade d.book.controls (about q w.n) (sender_of w.n d.book.messages.known) d.bounce.input
    held = subst (λ (r : ReturnRow). ReturnHolds d.book.controls q (codes "sender") r d.bounce w.n (sender_of w.n d.book.messages.known)) w.awaits returns.holds

    taken : IsStatusTaken row (came.Ended 0) d
    taken = record {
      n = w.n;
      pid = w.pid;
      row_is = w.row_is;
      awaits = w.awaits;
      zero = refl;
      alone = ap (λ (r : Row). booked_at r (came.Ended 0) d) w.row_is ∙ ap (λ (r : ReturnRow). returned_at r w.n d.bounce.notes (came.Ended 0)) w.awaits;
    }

    -- what was read last of its bounce file, which is what this sender read
    abbrev read_last : NotesRead
    read_last = notes_read (s.books.living w.n)

    by_it : read_last.by ≡ d.book.controls
    by_it = ap (λ (it : NotesRead). it.by) (ap notes_read held.read.lives ∙ held.read.last)

    carries : (c : Bouncer) → bouncer_of s (codes "sender") ≡ Some c → HaveNoNul read_last.by × IsBounceOf read_last.by held.read.injection.args read_last.notes c.args
    unfolding taken
    carries c has = carried s I start past there own.read own.ready (came.Ended 0) stands_so taken c has held.read.injection held.read.lives

    tenant_zero : (slot : ℕ) (got : GotData) (o : Option Tenant) → s.pipework.programs (codes "sender") slot ≡ o → TenantEnds s o got → got ≡ came.Ended 0
    tenant_zero slot got (Some (Runs b)) e ends =
        let h : IsChild s (codes "sender") slot b = I.tenants (codes "sender") slot (Runs b) e in
        let c : IsBouncer s slot b = is_bouncer s (codes "sender") slot b refl h (I.crew (codes "sender") h.bearer h.bearer_is) in
        let has : bouncer_of s (codes "sender") ≡ Some (record { actor = b; args = c.args }) =
        ap (bouncer_in s.actors) (ap (s.pipework.programs (codes "sender")) (sym c.slot_is) ∙ e) ∙ ap (bouncer_at b) c.is ∙ ap (bouncing b) c.program_is in
        let it = carries (record { actor = b; args = c.args }) has in
        let fault = bounce_fault read_last.by it.0 (subst AreShort (sym by_it) short) held.read.injection.args read_last.notes c.args it.1 in
        let fine : EndsFine c.args c.actor.life = over_fine c.actor.program c.actor.past c.actor.life c.args c.program_is (F b c.actor c.is) in
        let same : ends.0 ≡ c.actor = some_actor ends.0 c.actor (sym ends.1 ∙ c.is) in
        status_by c.args c.actor.life got fault fine (subst (λ (z : Actor). IsStatusOf z.life got) same ends.2)
    tenant_zero slot got (Some (Remote reported)) e ends =
        let other : codes "sender" ≡ codes "rspawn" = I.tenants (codes "sender") slot (Remote reported) e in
        let v : true ≡ false = ap (λ (t : List ℕ). bytes_eq (codes "sender") t) other in
        absurd (cc)
    tenant_zero slot got None e ends = absurd ends

    status_zero : (slot : ℕ) (got : GotData) → ComesOf s (codes "sender") (needs.Take (port.Status slot)) got wrote → came_well got ≡ true → got ≡ came.Ended 0
    status_zero slot got comes well = ⊎_elim
        (λ (failed : got ≡ came.Failed). absurd (false≢true (sym (ap came_well failed) ∙ well)))
        (λ (ends : TenantEnds s (s.pipework.programs (codes "sender") slot) got). tenant_zero slot got (s.pipework.programs (codes "sender") slot) refl ends)
        comes

  pub taken_zero : came_well own.came ≡ true → (slot : ℕ) → own.due ≡ needs.Take (port.Status slot) → own.came ≡ came.Ended 0
  taken_zero well slot e =
      let w : StatusAt row d = status_at d row slot (due s I a own wrote may start is ∙ e) in
      status_zero w slot own.came (subst (λ (n : NeedData). ComesOf s (codes "sender") n own.came wrote) e (subst (λ (b : List ℕ). ComesOf s b own.due own.came wrote) named may.came)) well

no_status : (own : Own) (parent : List ℕ) (s : State) (b : List ℕ) (program : Program) (may : MayBear s parent own b program) (slot : ℕ) → own.due ≡ needs.Take (port.Status slot) → own.came ≡ came.Ended 0
no_status own parent s b program may slot e = let both : needs.Start may.asked ≡ needs.Take (port.Status slot) = sym may.starts ∙ e in absurd (cc)

pub bounces_end : BouncesAreTaken
bounces_end d h g a x start is program =
    sender_pasts goes_well (λ s. AllFine s.actors) BouncesEnd tt
    (λ s I F b own wrote may began sends well ran held. (held, taken_zero s I F b own wrote may began sends ran well))
    (λ s I F b own c born may began sends ran held. (held, no_status own b s c born may))
    d (all_fine d) h g.legal g.well a x is start program
