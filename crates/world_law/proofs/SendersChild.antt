-- What a sender takes of the program in its slot is the status of the injector of a bounce, which has the bounce of the message at work.
use Rattle.std.proofs.Common.{◌≡◌, ◌⊎◌, inl, inr, ℕ, ◌==◌, List, [], ◌∷◌, true, false, Option, Some, None, refl, sym, ap, ◌∙◌, subst, bytes_eq, codes}
use Rattle.address_rules.specs.Nuls.{HaveNoNul}
use Rattle.bounce_record.specs.declared.return_row.ReturnRow.{ReturnRow}
use Rattle.bounce_record.specs.Returning.{envelope_of}
use Rattle.call_fs.specs.declared.past.GotData.{GotData}
use Rattle.call_fs.specs.declared.past.GotData.TheVariants as got
use Rattle.call_fs.specs.declared.past.NeedData.{NeedData}
use Rattle.call_fs.specs.declared.past.NeedData.TheVariants as needs
use Rattle.call_fs.specs.declared.program.Port.{Port}
use Rattle.call_fs.specs.declared.program.Port.TheVariants as port
use Rattle.call_fs.specs.declared.past.Own.{Own}
use Rattle.call_fs.specs.declared.program.Ready.{Ready}
use Rattle.queue_inject.specs.declared.injection.Arguments.{Arguments}
use Rattle.queue_law.specs.Books.{HasQueued, Injection}
use Rattle.queue_law.specs.Entered.{Child as Bouncer, notes_read}
use Rattle.queue_law.specs.Ledgers.{NotesRead}
use Rattle.received_line.specs.declared.line.Invoked.TheVariants as invoking
use Rattle.send_core.specs.declared.desk.Desk.{Desk}
use Rattle.send_parts.specs.declared.row.Row.{Row}
use Rattle.send_parts.specs.declared.row.Row.TheVariants as at
use Rattle.send_core.specs.Table.{Next, place_after as sender_after, row_now}
use Rattle.send_parts.specs.declared.rows.FinishRow.TheVariants as finish
use Rattle.send_known.specs.Known.{sender_of}
use Rattle.queue_law.specs.Numbers.{about}
use Rattle.program_law.specs.Sender.Rows.{HasMade, ReturnHolds, ReturnStands}
use Rattle.program_law.specs.Sender.Stands.{StandsAt}
use Rattle.program_law.proofs.Sender.Given.{AwaitsAt, AwaitsIn, last_gave, return_arrived}
use Rattle.program_law.proofs.Sender.Returns.{made_input}
use Rattle.world_events.specs.declared.event.Program.{Program}
use Rattle.world_events.specs.declared.event.Program.TheVariants.{Injector, Sender}
use Rattle.world_pipes.specs.Pipework.{Pipe, Tenant, Yields}
use Rattle.world_pipes.specs.Pipework.Tenant.{Remote, Runs}
use Rattle.mail_world.specs.History.{Actor, ComesOf, IsFed, IsInputOf, IsStatusOf, Life, State, TenantEnds, bouncer_at, bouncer_in, bouncer_of, bouncing}
use Rattle.mail_world.specs.History.Life.{Alive, Over, Stopped}
use Rattle.mail_world.specs.Untouched.{queue}
use Rattle.world_law.specs.Bounces.{IsBounceOf}
use Rattle.world_law.specs.Fares.{FaresBy}
use Rattle.world_law.specs.Inv.{FedBy, Inv, IsChild, PastFed}
use Rattle.world_law.proofs.Bounces.{IsStatusTaken}
use Rattle.world_law.proofs.Inputs.{two_texts}
use Rattle.world_law.proofs.SendersPipes.{IsOther}
use Rattle.world_law.proofs.Tenants.{IsBouncer, is_bouncer, some_actor}

-- what ends with a status is the child
abbrev pub IsOfChild : Option Bouncer → GotData → Type 0
IsOfChild child (got.Ended status) = (c : Bouncer) × (child ≡ Some c)
IsOfChild child came = Unit {0}

some_child : (x y : Bouncer) → ◌≡◌ {A = Option Bouncer} (Some x) (Some y) → x ≡ y
some_child x y e = cc

module _ (s : State) (I : Inv s) where
  -- one that has ended with 0 has queued its message
  pub ended_queued : (b : List ℕ) (args : Arguments) (program : Program) (past : List Own) (life : Life) → FaresBy s.now (queue s I.role) b program past life → program ≡ Injector args
      → IsStatusOf life (got.Ended 0) → HasQueued s.books b args
  ended_queued b args (Injector other) past (Over status) F is ended =
      let zero : 0 ≡ status = cc in
      let same : other ≡ args = cc in
      subst (λ (z : Arguments). HasQueued s.books b z) same (F.queued (F.ends (sym (ap (λ (n : ℕ). n == 0) zero))))
  ended_queued b args (Injector other) past Alive F is ended = absurd ended
  ended_queued b args (Injector other) past Stopped F is ended = absurd (cc)
  ended_queued b args program past life F is ended = absurd (cc)

module _ (s : State) (I : Inv s) (a : List ℕ) (named : a ≡ codes "sender") where
  abbrev child : Option Bouncer
  child = bouncer_of s a

  child_has : (c : Bouncer) → child ≡ Some c → (came : GotData) → IsOfChild child came
  child_has c has (got.Ended status) = (c, has)
  child_has c has came = tt

  yields_has : (pipe : Pipe) (came : GotData) → Yields pipe came → IsOfChild child came
  yields_has pipe (got.Ended status) yields = absurd yields
  yields_has pipe came yields = tt

  sender_alone : a ≡ codes "rspawn" → ⊥
  sender_alone other = let v : true ≡ false = ap (λ (t : List ℕ). bytes_eq (codes "sender") t) (sym named ∙ other) in absurd (cc)

  tenant_has : (slot : ℕ) (came : GotData) (o : Option Tenant) → s.pipework.programs a slot ≡ o → TenantEnds s o came → IsOfChild child came
  tenant_has slot came (Some (Runs b)) e ends =
      let h : IsChild s a slot b = I.tenants a slot (Runs b) e in
      let w : IsBouncer s slot b = is_bouncer s a slot b named h (I.crew a h.bearer h.bearer_is) in
      let has : child ≡ Some (record { actor = b; args = w.args }) =
      ap (bouncer_in s.actors) (ap (s.pipework.programs a) (sym w.slot_is) ∙ e) ∙ ap (bouncer_at b) w.is ∙ ap (bouncing b) w.program_is in
      child_has (record { actor = b; args = w.args }) has came
  tenant_has slot came (Some (Remote reported)) e ends = absurd (sender_alone (I.tenants a slot (Remote reported) e))
  tenant_has slot came None e ends = absurd ends

  status_has : (slot : ℕ) (came : GotData) → (came ≡ got.Failed) ⊎ TenantEnds s (s.pipework.programs a slot) came → IsOfChild child came
  status_has slot came (inl failed) = subst (IsOfChild child) (sym failed) tt
  status_has slot came (inr ends) = tenant_has slot came (s.pipework.programs a slot) refl ends

  pub taken_has : (wrote : ℕ) (from : Port) (came : GotData) → IsOther from → ComesOf s a (needs.Take from) came wrote → IsOfChild child came
  taken_has wrote port.Clean came it comes = absurd it
  taken_has wrote (port.Status slot) came it comes = status_has slot came comes
  taken_has wrote from came it comes = yields_has (s.pipework.pipes a from) came comes

  tenant_queued : (slot : ℕ) (o : Option Tenant) → s.pipework.programs a slot ≡ o → TenantEnds s o (got.Ended 0) → (c : Bouncer) → child ≡ Some c → HasQueued s.books c.actor c.args
  tenant_queued slot (Some (Runs b)) e ends c has =
      let h : IsChild s a slot b = I.tenants a slot (Runs b) e in
      let w : IsBouncer s slot b = is_bouncer s a slot b named h (I.crew a h.bearer h.bearer_is) in
      let it : child ≡ Some (record { actor = b; args = w.args }) =
      ap (bouncer_in s.actors) (ap (s.pipework.programs a) (sym w.slot_is) ∙ e) ∙ ap (bouncer_at b) w.is ∙ ap (bouncing b) w.program_is in
      let one : record { actor = b; args = w.args } ≡ c = some_child (record { actor = b; args = w.args }) c (sym it ∙ has) in
      let same : ends.0 ≡ w.actor = some_actor ends.0 w.actor (sym ends.1 ∙ w.is) in
      subst (λ (z : Bouncer). HasQueued s.books z.actor z.args) one
      (ended_queued s I b w.args w.actor.program w.actor.past w.actor.life (I.fares b w.actor w.is) w.program_is (subst (λ (z : Actor). IsStatusOf z.life (got.Ended 0)) same ends.2))
  tenant_queued slot (Some (Remote reported)) e ends c has = absurd (sender_alone (I.tenants a slot (Remote reported) e))
  tenant_queued slot None e ends c has = absurd ends

  status_queued : (slot : ℕ) → (got.Ended 0 ≡ got.Failed) ⊎ TenantEnds s (s.pipework.programs a slot) (got.Ended 0) → (c : Bouncer) → child ≡ Some c → HasQueued s.books c.actor c.args
  status_queued slot (inl failed) c has = absurd (cc)
  status_queued slot (inr ends) c has = tenant_queued slot (s.pipework.programs a slot) refl ends c has

  zero_queued : (wrote : ℕ) (from : Port) → IsOther from → ComesOf s a (needs.Take from) (got.Ended 0) wrote → (c : Bouncer) → child ≡ Some c → HasQueued s.books c.actor c.args
  zero_queued wrote port.Clean it comes c has = absurd it
  zero_queued wrote (port.Status slot) it comes c has = status_queued slot comes c has
  zero_queued wrote from it comes c has = absurd comes

  pub child_queued : (wrote : ℕ) (from : Port) (came : GotData) → IsOther from → ComesOf s a (needs.Take from) came wrote → came ≡ got.Ended 0 → (c : Bouncer) → child ≡ Some c
      → HasQueued s.books c.actor c.args
  child_queued wrote from came it comes zero c has = zero_queued wrote from it (subst (λ (z : GotData). ComesOf s a (needs.Take from) z wrote) zero comes) c has

  -- what was given to it is its input
  child_carries : (c : Bouncer) → child ≡ Some c → (input : List ℕ) (o : Option Tenant) → s.pipework.programs a 0 ≡ o → IsFed s o input → IsInputOf (Injector c.args) input × (c.args.invoked ≡ invoking.Bounce)
  child_carries c has input (Some (Runs b)) e fed =
      let h : IsChild s a 0 b = I.tenants a 0 (Runs b) e in
      let w : IsBouncer s 0 b = is_bouncer s a 0 b named h (I.crew a h.bearer h.bearer_is) in
      let it : child ≡ Some (record { actor = b; args = w.args }) = ap (bouncer_in s.actors) e ∙ ap (bouncer_at b) w.is ∙ ap (bouncing b) w.program_is in
      let one : record { actor = b; args = w.args } ≡ c = some_child (record { actor = b; args = w.args }) c (sym it ∙ has) in
      let input_is : IsInputOf (Injector w.args) input = subst (λ (z : Program). IsInputOf z input) w.program_is (fed w.actor w.is) in
      subst (λ (z : Bouncer). IsInputOf (Injector z.args) input × (z.args.invoked ≡ invoking.Bounce)) one (input_is, w.invoked)
  child_carries c has input (Some (Remote reported)) e fed = absurd (sender_alone (I.tenants a 0 (Remote reported) e))
  child_carries c has input None e fed = let none : ◌≡◌ {A = Option Bouncer} None (Some c) = sym (ap (bouncer_in s.actors) e) ∙ has in absurd (cc)

-- While a living sender awaits the status of its child, that has the input that the sender kept for it.
module _ (s : State) (I : Inv s) where
  awaiting_by : (past : List Own) → PastFed s (codes "sender") (Next None) past → AwaitsAt (sender_after None past).row (sender_after None past).bounce
      → IsFed s (s.pipework.programs (codes "sender") 0) (sender_after None past).bounce.input
  awaiting_by [] fed awaits = absurd awaits
  awaiting_by (own ∷ before) fed awaits =
      let g = last_gave (sender_after None before) own.read own.ready own.came awaits in
      subst (λ (z : GotData). FedBy s (codes "sender") (needs.Give (port.Program 0) (sender_after None (own ∷ before)).bounce.input) z) g.came_is
      (subst (λ (z : NeedData). FedBy s (codes "sender") z own.came) g.due_is fed)

  pub awaiting_fed : (began : ℕ) (past : List Own) → s.actors (codes "sender") ≡ Some (record { program = Sender began; past = past; life = Alive })
      → AwaitsAt (sender_after None past).row (sender_after None past).bounce → IsFed s (s.pipework.programs (codes "sender") 0) (sender_after None past).bounce.input
  awaiting_fed began past is awaits = awaiting_by past (I.child (codes "sender") (record { program = Sender began; past = past; life = Alive }) is) awaits

  -- So the bounce that is entered when that ends with 0 is that of the message at work, with the notes that were read of its bounce file.
  module _ (began : ℕ) (past : List Own) (is : s.actors (codes "sender") ≡ Some (record { program = Sender began; past = past; life = Alive })) where
    abbrev d : Desk
    d = sender_after None past

    awaits_there : (read : ℕ) (ready : Ready) (came : GotData) → IsStatusTaken (row_now d read ready) came d → AwaitsAt d.row d.bounce
    awaits_there read ready came w =
        subst (λ (r : Row). AwaitsAt r d.bounce) (sym (return_arrived d.row d read ready w.n w.row_is))
        (subst AwaitsIn (sym w.awaits) tt)

    pub carried : (read : ℕ) (ready : Ready) (came : GotData) → StandsAt s.now (queue s I.role) (codes "sender") (row_now d read ready) d → (w : IsStatusTaken (row_now d read ready) came d)
        → (c : Bouncer) → bouncer_of s (codes "sender") ≡ Some c → (i : Injection) → s.books.living w.n ≡ Some i
        → HaveNoNul (notes_read (s.books.living w.n)).by × IsBounceOf (notes_read (s.books.living w.n)).by i.args (notes_read (s.books.living w.n)).notes c.args
    carried read ready came here w c has i lives =
        let stands : StandsAt s.now (queue s I.role) (codes "sender") (at.Finish finish.Return w.n) d =
        subst (λ (r : Row). StandsAt s.now (queue s I.role) (codes "sender") r d) w.row_is here in
        let back_stands : ReturnStands d.book.controls (queue s I.role) (codes "sender") w.n d.book.messages.known d.bounce = stands.rests.1 in
        let held : HasMade d.book.controls (about (queue s I.role) w.n) (sender_of w.n d.book.messages.known) d.bounce.input =
        subst (λ (r : ReturnRow). ReturnHolds d.book.controls (queue s I.role) (codes "sender") r d.bounce w.n (sender_of w.n d.book.messages.known)) w.awaits back_stands.holds in
        let made = made_input s.now (queue s I.role) (codes "sender") None w.n d.book read 0 I.sound back_stands.idle stands.knows.known i lives d.bounce.input held in
        let fed = awaiting_fed began past is (awaits_there read ready came w) in
        let input = child_carries s I (codes "sender") refl c has d.bounce.input (s.pipework.programs (codes "sender") 0) refl fed in
        let texts = two_texts c.args.message c.args.envelope made.bounce.text (envelope_of made.bounce) (sym input.0.0 ∙ made.input_is) in (
          subst HaveNoNul (sym (ap (λ (it : NotesRead). it.by) (ap notes_read held.read.lives ∙ held.read.last))) (stands.no_nul tt),
          subst (λ (it : NotesRead). IsBounceOf it.by i.args it.notes c.args) (ap notes_read (sym lives))
              (record {
                moment = made.moment;
                bounce = made.bounce;
                made = made.made;
                invoked = input.1;
                message_is = texts.0;
                envelope_is = texts.1;
                message_end = input.0.1;
                envelope_end = input.0.2;
              }),
        )
