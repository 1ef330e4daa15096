-- The events of a local delivery: its file calls, what it takes and gives, its commands, and the start of the injector of its forwards.
use Rattle.std.specs.Prelude.{Contains, take}
use Rattle.std.proofs.Common.{◌≡◌, inl, ⊎_elim, ℕ, ◌==◌, List, [], ◌∷◌, ◌&&◌, Option, Some, None, refl, sym, ◌∙◌, subst, bytes_eq, codes}
use Rattle.call_fs.specs.Past.{IsRunBy}
use Rattle.call_fs.specs.Program.{MayCome}
use Rattle.call_fs.specs.declared.calls.CallData.{CallData}
use Rattle.call_fs.specs.declared.calls.Told.{Told}
use Rattle.call_fs.specs.declared.past.ChildData.{ChildData}
use Rattle.call_fs.specs.declared.past.ChildData.TheVariants as child
use Rattle.call_fs.specs.declared.past.GotData.{GotData}
use Rattle.call_fs.specs.declared.past.GotData.TheVariants as got
use Rattle.call_fs.specs.declared.past.NeedData.{NeedData}
use Rattle.call_fs.specs.declared.past.NeedData.TheVariants as needs
use Rattle.call_fs.specs.declared.past.Own.{Own}
use Rattle.call_fs.specs.declared.program.Port.{Port}
use Rattle.call_fs.specs.declared.program.Port.TheVariants as port
use Rattle.program_law.specs.Delivery.Rests.{DeliveryRests}
use Rattle.program_law.specs.Delivery.Laws.{IsNoCall}
use Rattle.program_law.proofs.Delivery.Events.{deliveries_keep as rests_keep}
use Rattle.program_law.proofs.Delivery.Stay.{drops_stay}
use Rattle.local_deliver.specs.declared.place.Place.{Place}
use Rattle.local_deliver.specs.declared.row.Row.{Row}
use Rattle.local_deliver.specs.declared.row.Row.TheVariants as at
use Rattle.local_deliver.specs.Drops.{Drop}
use Rattle.local_deliver.specs.Forwards.{HasGiven}
use Rattle.local_deliver.specs.Table.{Next, due_at, due_by_drop, place_after}
use Rattle.local_deliver.proofs.Forwards.{single, taken as status_taken}
use Rattle.local_parts.specs.declared.arguments.LocalArgs.{LocalArgs}
use Rattle.maildir_drop.specs.declared.names.DropNames.{DropNames}
use Rattle.maildir_drop.specs.declared.row.Row.{Row as DropRow}
use Rattle.maildir_drop.specs.declared.row.Row.TheVariants as drop
use Rattle.maildir_drop.specs.Table.{due_at as drop_due}
use Rattle.queue_inject.specs.declared.injection.Arguments.{Arguments}
use Rattle.queue_law.specs.Numbers.{Queue}
use Rattle.queue_law.specs.Senders.{called_queue}
use Rattle.queue_law.specs.Steps.{Elsewhere}
use Rattle.queue_law.proofs.Foreigners.{foreign_elsewhere, foreign_sound}
use Rattle.queue_law.proofs.RestIsKept.{rest_is_kept}
use Rattle.program_law.proofs.Sender.Spares.{others_spare}
use Rattle.actor_names.specs.MailNames.{members}
use Rattle.world_pipes.specs.Pipework.{Pipe, Pipework, Tenant, closed as closed_pipe, given as given_pipe, pipework_after, programs_after, taken as taken_pipe}
use Rattle.world_pipes.specs.Pipework.Tenant.{Remote, Runs}
use Rattle.world_events.specs.declared.event.Program.{Program}
use Rattle.world_events.specs.declared.event.Program.TheVariants.{Delivery, Injector}
use Rattle.mail_world.specs.History.{Actor, ComesOf, IsDelivery, IsFed, IsInputOf, Life, State, TenantEnds, acted, next_of}
use Rattle.mail_world.specs.History.Life.{Alive}
use Rattle.mail_world.specs.Untouched.{queue}
use Rattle.mail_world.proofs.Coming.{may_come}
use Rattle.mail_world.proofs.Members.{member_contained}
use Rattle.world_law.specs.Deliveries.{HasForwarded, IsForwarded}
use Rattle.world_law.specs.Fares.{DeliveryFares}
use Rattle.world_law.specs.Inv.{Bears, FedBy, Inv, IsChild, PastFed}
use Rattle.world_law.specs.Laws.{DeliveriesKeep}
use Rattle.world_law.proofs.Moved.{IsSameLink, IsSeenAs, moved_keeps, with_one}
use Rattle.world_law.proofs.Pipes.{input_same, own_same, printed_same}
use Rattle.world_law.proofs.SendersChild.{ended_queued}
use Rattle.world_law.proofs.Spawners.{answered}
use Rattle.world_law.proofs.Stepped.{stepped, stepped_keeps}
use Rattle.world_law.proofs.Tenants.{GoesOn, RunsNoMore, came_kept, one_keeps, slot_put, some_actor, tenant_other}

-- What it does: a file call, a taking of its input or of a status, a giving to its injector or of its report, a start, or a command

abbrev pub IsDelivering : NeedData → Type 0
IsDelivering (needs.File c) = Unit {0}
IsDelivering (needs.Take port.Input) = Unit {0}
IsDelivering (needs.Take (port.Status d)) = Unit {0}
IsDelivering (needs.Give (port.Program d) bytes) = Unit {0}
IsDelivering (needs.Give port.Output bytes) = Unit {0}
IsDelivering (needs.Start asked) = Unit {0}
IsDelivering (needs.Command text) = Unit {0}
IsDelivering needs.Wait = Unit {0}
IsDelivering (needs.Ended status) = Unit {0}
IsDelivering other = ⊥

drop_delivers : (names : DropNames) (row : DropRow) (left : List ℕ) → IsDelivering (drop_due names row left)
drop_delivers names (drop.Create attempt) left = tt
drop_delivers names (drop.Append attempt fd) left = tt
drop_delivers names (drop.Sync attempt fd) left = tt
drop_delivers names (drop.Close attempt fd) left = tt
drop_delivers names (drop.Link attempt) left = tt
drop_delivers names (drop.Shut attempt fd reason) left = tt
drop_delivers names (drop.Unlink attempt outcome) left = tt
drop_delivers names (drop.Ended attempt outcome) left = tt

dropping_delivers : (o : Option Drop) → IsDelivering (due_by_drop o)
dropping_delivers None = tt
dropping_delivers (Some d) = drop_delivers d.names d.place.row d.place.left

pub row_delivers : (args : LocalArgs) (row : Row) (p : Place) → IsDelivering (due_at args row p)
row_delivers args at.TakeInput p = tt
row_delivers args (at.Open what) p = tt
row_delivers args (at.Read what fd) p = tt
row_delivers args (at.Close what fd reading) p = tt
row_delivers args at.NextName p = tt
row_delivers args at.Drop p = dropping_delivers p.dropping
row_delivers args at.Run p = tt
row_delivers args at.Start p = tt
row_delivers args at.Feed p = tt
row_delivers args at.TakeStatus p = tt
row_delivers args (at.Report status) p = tt
row_delivers args (at.Fail reason) p = tt
row_delivers args (at.Ended status) p = tt

-- it takes no status
abbrev IsNoStatus : NeedData → Type 0
IsNoStatus (needs.Take (port.Status d)) = ⊥
IsNoStatus due = Unit {0}

injected : (start : ℕ) (args : LocalArgs) (program : Program) → Bears (Delivery start args) program → (words : Arguments) × (program ≡ Injector words)
injected start args (Injector words) bears = (words, refl)
injected start args other bears = absurd bears

-- The state after an event

module _ (s : State) (a : List ℕ) (wrote : ℕ) (start : ℕ) (args : LocalArgs) (past : List Own) (own : Own) where
  abbrev doing : NeedData → GotData → Own
  doing due came = record { read = own.read; ready = own.ready; due = due; came = came }

  abbrev pub delivery : List Own → Actor
  delivery events = record { program = Delivery start args; past = events; life = Alive }

  abbrev then_state : NeedData → GotData → State
  then_state due came = acted s a (doing due came) wrote (Some (delivery past))

  abbrev pipes_then : NeedData → GotData → Pipework
  pipes_then due came = pipework_after s.pipework a due came wrote

  abbrev IsNext : NeedData → Type 0
  IsNext due = Next args past own.read own.ready ≡ due

  -- what is no file call changes pipes alone
  acted_moves : (due : NeedData) (came : GotData) → IsNoCall due → then_state due came ≡ with_one s a (delivery (doing due came ∷ past)) (pipes_then due came)
  acted_moves (needs.File call) came calm = absurd calm
  acted_moves due came calm = refl

  module _ (I : Inv s) (is : s.actors a ≡ Some (delivery past)) where
    abbrev q : Queue
    q = queue s I.role

    fares : DeliveryFares q a args past Alive
    fares = I.fares a (delivery past) is

    rests : DeliveryRests q a args past
    rests = fares.rests

    apart : Contains members a → ⊥
    apart = I.crew a (delivery past) is

    goes : GoesOn (s.actors a) (Delivery start args)
    goes = subst (λ (o : Option Actor). GoesOn o (Delivery start args)) (sym is) refl

    seen : (more : List Own) → IsSeenAs (s.actors a) (delivery more)
    seen more = subst (λ (o : Option Actor). IsSeenAs o (delivery more)) (sym is) (record { awaits = refl; place = refl; lives = λ h. h })

    -- what was due is told by its table
    fed_when : (t : State) (due : NeedData) (came : GotData) → IsNext due → FedBy t a due came → FedBy t a (Next args past own.read own.ready) came
    fed_when t due came next fed = subst (λ (z : NeedData). FedBy t a z came) (sym next) fed

    -- what was accepted of its forwards, if a status comes
    abbrev Forwarded : NeedData → GotData → Type 0
    Forwarded due came = (slot : ℕ) → due ≡ needs.Take (port.Status slot) → came ≡ got.Ended 0 → HasForwarded s.books past

    none_comes : (due : NeedData) (came : GotData) → IsNoStatus due → Forwarded due came
    none_comes due came it slot same ends = absurd (subst IsNoStatus same it)

    -- A file call

    called : (c : CallData) (told : Told) → IsNext (needs.File c) → ComesOf s a (needs.File c) (got.Answered told) wrote → Inv (then_state (needs.File c) (got.Answered told))
    called c told next comes =
        let may = may_come s a (needs.File c) (got.Answered told) wrote comes in
        let l = rests_keep.calls q a args past own.read own.ready c told wrote I.sound.suits rests (next, may) comes.0 comes.1 in
        let r : Queue = called_queue q a own.read c told.answer wrote l.0 in
        let w = l.1 in
        let E : Elsewhere s.now a None q r = foreign_elsewhere a q r w.foreign s.now in
        let spared = rest_is_kept.closed s.now a None q r E I.sound.suits (λ n h. absurd (cc)) in
        let event : Own = doing (needs.File c) (got.Answered told) in
        stepped_keeps s I a r None E spared.0 spared.1 (others_spare.reads s.now a q r E) (drops_stay.tmp a q r w.drops) (foreign_sound a q r w.foreign I.sound) I.bounces
        (delivery (event ∷ past)) apart goes (seen (event ∷ past))
        (fed_when (stepped s a r (delivery (event ∷ past))) (needs.File c) (got.Answered told) next tt)
        (record { rests = w.rests; forwards = (fares.forwards, none_comes (needs.File c) (got.Answered told) tt); well = λ h. absurd (cc) })

    -- Any other

    moves : (due : NeedData) (came : GotData) → IsNoCall due → IsNext due → MayCome due came → IsSameLink s.pipework (pipes_then due came) → RunsNoMore s.pipework (pipes_then due came)
        → FedBy (with_one s a (delivery (doing due came ∷ past)) (pipes_then due came)) a due came → Forwarded due came → Inv (then_state due came)
    moves due came calm next may link none fed forwarded =
        let event : Own = doing due came in
        subst (λ (t : State). Inv t) (sym (acted_moves due came calm))
        (moved_keeps s I a (delivery (event ∷ past)) (pipes_then due came) apart
        (record { rests = rests_keep.rest q a args past event rests (next, may) calm; forwards = (fares.forwards, forwarded); well = λ h. absurd (cc) })
        (seen (event ∷ past)) link goes (fed_when (with_one s a (delivery (event ∷ past)) (pipes_then due came)) due came next fed) none refl)

    -- A giving

    printed : (bytes : List ℕ) (came : GotData) → IsSameLink s.pipework (pipes_then (needs.Give port.Output bytes) came)
    printed bytes got.Gave = printed_same s.pipework a apart bytes
    printed bytes got.Failed = printed_same s.pipework a apart (take wrote bytes)
    printed bytes came = record { given = refl; answers = refl }

    fed_same : (d : ℕ) (bytes : List ℕ) (came : GotData) → IsSameLink s.pipework (pipes_then (needs.Give (port.Program d) bytes) came)
    fed_same d bytes got.Gave = input_same s.pipework a (tenant_other s I.tenants a) d (λ (pipe : Pipe). closed_pipe (given_pipe bytes pipe))
    fed_same d bytes got.Failed = input_same s.pipework a (tenant_other s I.tenants a) d (λ (pipe : Pipe). closed_pipe (given_pipe (take wrote bytes) pipe))
    fed_same d bytes came = record { given = refl; answers = refl }

    -- what its injector is given is its input
    fed_of : (d : ℕ) (bytes : List ℕ) (came : GotData) → ComesOf s a (needs.Give (port.Program d) bytes) came wrote → FedBy s a (needs.Give (port.Program d) bytes) came
    fed_of d bytes got.Gave comes = comes
    fed_of d bytes came comes = tt

    gave : (d : ℕ) (bytes : List ℕ) (came : GotData) → IsNext (needs.Give (port.Program d) bytes) → ComesOf s a (needs.Give (port.Program d) bytes) came wrote
        → Inv (then_state (needs.Give (port.Program d) bytes) came)
    gave d bytes came next comes =
        let due : NeedData = needs.Give (port.Program d) bytes in
        let y : Actor = delivery (doing due came ∷ past) in
        moves due came tt next (may_come s a due came wrote comes) (fed_same d bytes came) (λ b e t there. inl there)
        (came_kept s (with_one s a y (pipes_then due came)) (one_keeps s.actors a y goes) (λ b e t there. inl there) I.tenants a due came (fed_of d bytes came comes))
        (none_comes due came tt)

    -- A taking

    takes_same : (from : Port) (came : GotData) → IsSameLink s.pipework (pipes_then (needs.Take from) came)
    takes_same from (got.Took bytes) = own_same s.pipework a apart from (taken_pipe bytes) (programs_after s.pipework.programs a (needs.Take from) (got.Took bytes))
    takes_same from came = record { given = refl; answers = refl }

    takes_slots : (d : ℕ) (came : GotData) → RunsNoMore s.pipework (pipes_then (needs.Take (port.Status d)) came)
    takes_slots d (got.Ended status) b e t there = slot_put (bytes_eq b a && (e == d)) b (s.pipework.programs b e) None t (λ both. inl refl) there
    takes_slots d got.Crashed b e t there = slot_put (bytes_eq b a && (e == d)) b (s.pipework.programs b e) None t (λ both. inl refl) there
    takes_slots d came b e t there = inl there

    -- what it gave last is the input of its injector
    given_fed : (events : List Own) → IsRunBy (Next args) events → PastFed s a (Next args) events → (text : List ℕ) → HasGiven text events → IsFed s (s.pipework.programs a 0) text
    given_fed [] run fed text given = absurd given
    given_fed (g ∷ before) run fed text given =
        subst (λ (z : GotData). FedBy s a (needs.Give (port.Program 0) text) z) given.1
        (subst (λ (z : NeedData). FedBy s a z g.came) (run.1.0 ∙ given.0) fed)

    -- and if that ended with 0, its injection was accepted
    forwarded_by : (text : List ℕ) (o : Option Tenant) → s.pipework.programs a 0 ≡ o → IsFed s o text → TenantEnds s o (got.Ended 0) → IsForwarded s.books text
    forwarded_by text (Some (Runs b)) e fed ends =
        let h : IsChild s a 0 b = I.tenants a 0 (Runs b) e in
        let x : Actor = ends.0 in
        let one : h.bearer ≡ delivery past = some_actor h.bearer (delivery past) (sym h.bearer_is ∙ is) in
        let same : h.actor ≡ x = some_actor h.actor x (sym h.is ∙ ends.1) in
        let bears : Bears (Delivery start args) x.program =
        subst (λ (z : Actor). Bears (Delivery start args) z.program) same (subst (λ (z : Actor). Bears z.program h.actor.program) one h.bears) in
        let w = injected start args x.program bears in
        let input : IsInputOf (Injector w.0) text = subst (λ (p : Program). IsInputOf p text) w.1 (fed x ends.1) in
        record {
          actor = b;
          args = w.0;
          accepted = ended_queued s I b w.0 x.program x.past x.life (I.fares b x ends.1) w.1 ends.2;
          input_is = input.0;
          message_end = input.1;
          envelope_end = input.2;
        }
    forwarded_by text (Some (Remote reported)) e fed ends =
        absurd (apart (subst (λ (n : List ℕ). Contains members n) (sym (I.tenants a 0 (Remote reported) e)) (member_contained (codes "rspawn") refl)))
    forwarded_by text None e fed ends = absurd ends

    status_forwarded : (d : ℕ) → IsNext (needs.Take (port.Status d)) → ComesOf s a (needs.Take (port.Status d)) (got.Ended 0) wrote → HasForwarded s.books past
    status_forwarded d next comes =
        let w = status_taken args past own.read own.ready d rests.run next in
        let text : List ℕ = w.1.0 in
        record {
          input = text;
          given = w.1.1;
          forwarded = ⊎_elim
              (λ (failed : got.Ended 0 ≡ got.Failed). absurd (cc))
              (λ (ends : TenantEnds s (s.pipework.programs a d) (got.Ended 0)).
              forwarded_by text (s.pipework.programs a 0) refl (given_fed past rests.run (I.child a (delivery past) is) text w.1.1)
              (subst (λ (n : ℕ). TenantEnds s (s.pipework.programs a n) (got.Ended 0)) w.0 ends))
              comes;
        }

    took_status : (d : ℕ) (came : GotData) → IsNext (needs.Take (port.Status d)) → ComesOf s a (needs.Take (port.Status d)) came wrote → Inv (then_state (needs.Take (port.Status d)) came)
    took_status d came next comes =
        moves (needs.Take (port.Status d)) came tt next (may_come s a (needs.Take (port.Status d)) came wrote comes) (takes_same (port.Status d) came) (takes_slots d came) tt
        (λ slot same ends. status_forwarded d next (subst (λ (z : GotData). ComesOf s a (needs.Take (port.Status d)) z wrote) ends comes))

    -- A start of the injector, or a failure of it

    forward_starts : (room : ℕ) (came : GotData) → IsNext (needs.Start (child.Forward args.uid room)) → MayCome (needs.Start (child.Forward args.uid room)) came
        → Inv (then_state (needs.Start (child.Forward args.uid room)) came)
    forward_starts room came next may =
        let due : NeedData = needs.Start (child.Forward args.uid room) in
        moves due came tt next may (record { given = refl; answers = refl }) (λ b e t there. inl there) tt (none_comes due came tt)

    pub starts_on : (asked : ChildData) → IsNext (needs.Start asked) → (room : ℕ) × (asked ≡ child.Forward args.uid room)
    starts_on asked next = (single args past own.read own.ready asked rests.run next).0

    pub started : (asked : ChildData) (came : GotData) → IsNext (needs.Start asked) → MayCome (needs.Start asked) came → Inv (then_state (needs.Start asked) came)
    started asked came next may =
        let w = starts_on asked next in
        subst (λ (x : ChildData). IsNext (needs.Start x) → MayCome (needs.Start x) came → Inv (then_state (needs.Start x) came)) (sym w.1)
        (forward_starts w.0 came) next may

    -- By what is due

    by_due : (due : NeedData) → IsDelivering due → IsNext due → ComesOf s a due own.came wrote → Inv (then_state due own.came)
    by_due (needs.File c) it next comes =
        answered s a wrote (λ (g : GotData). Inv (then_state (needs.File c) g)) c own.came comes (λ told comes. called c told next comes)
    by_due (needs.Take port.Input) it next comes =
        moves (needs.Take port.Input) own.came tt next (may_come s a (needs.Take port.Input) own.came wrote comes) (takes_same port.Input own.came) (λ b e t there. inl there) tt
        (none_comes (needs.Take port.Input) own.came tt)
    by_due (needs.Take (port.Status d)) it next comes = took_status d own.came next comes
    by_due (needs.Give (port.Program d) bytes) it next comes = gave d bytes own.came next comes
    by_due (needs.Give port.Output bytes) it next comes =
        moves (needs.Give port.Output bytes) own.came tt next (may_come s a (needs.Give port.Output bytes) own.came wrote comes) (printed bytes own.came) (λ b e t there. inl there) tt
        (none_comes (needs.Give port.Output bytes) own.came tt)
    by_due (needs.Start asked) it next comes = started asked own.came next (may_come s a (needs.Start asked) own.came wrote comes)
    by_due (needs.Command text) it next comes =
        moves (needs.Command text) own.came tt next (may_come s a (needs.Command text) own.came wrote comes) (record { given = refl; answers = refl }) (λ b e t there. inl there) tt
        (none_comes (needs.Command text) own.came tt)
    by_due needs.Wait it next comes = absurd comes
    by_due (needs.Ended status) it next comes = absurd comes
    by_due other it next comes = absurd it

    delivery_event : IsNext own.due → ComesOf s a own.due own.came wrote → Inv (then_state own.due own.came)
    delivery_event next comes =
        let p : Place = place_after args past in
        by_due own.due (subst IsDelivering next (row_delivers args p.row p)) next comes

by_program : (s : State) (I : Inv s) (a : List ℕ) (wrote : ℕ) (program : Program) (past : List Own) (life : Life) (own : Own) → IsDelivery program → life ≡ Alive
    → s.actors a ≡ Some (record { program = program; past = past; life = life }) → next_of program past own.read own.ready ≡ own.due → ComesOf s a own.due own.came wrote
    → Inv (acted s a own wrote (Some (record { program = program; past = past; life = life })))
by_program s I a wrote (Delivery start args) past Alive own it alive is next comes = delivery_event s a wrote start args past own I is next comes
by_program s I a wrote (Delivery start args) past life own it alive is next comes = absurd (cc)
by_program s I a wrote other past life own it alive is next comes = absurd it

pub deliveries_keep : DeliveriesKeep
deliveries_keep a own wrote s I may it =
    let x = may.actor in
    subst (λ (o : Option Actor). Inv (acted s a own wrote o)) (sym may.reads.is)
    (by_program s I a wrote x.program x.past x.life own it may.reads.alive may.reads.is may.due may.came)
