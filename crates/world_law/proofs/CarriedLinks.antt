-- The links that a delivery made in a history are those of its past, each of a file that just before was whole and on the disk.
use Rattle.std.specs.Prelude.{◌≡◌, ◌≢◌, ℕ, List, [], ◌∷◌, ◌++◌, map, Bool, Option, Some, None, option_map, codes, if◌then◌else◌}
use Rattle.std.proofs.Common.{◌⊎◌, inl, inr, ⊎_elim, refl, sym, ap, ◌∙◌, subst}
use Rattle.call_fs.specs.Disk.{Among, Disk, IsWhole}
use Rattle.call_fs.specs.Maps.{put_at}
use Rattle.call_fs.proofs.Maps.{put_at_cases}
use Rattle.call_fs.specs.declared.calls.Answer.{Answer}
use Rattle.call_fs.specs.declared.calls.Answer.TheVariants as answer
use Rattle.call_fs.specs.declared.calls.CallData.{CallData}
use Rattle.call_fs.specs.declared.calls.CallData.TheVariants as call
use Rattle.call_fs.specs.declared.past.GotData.{GotData}
use Rattle.call_fs.specs.declared.past.GotData.TheVariants as came
use Rattle.call_fs.specs.declared.past.NeedData.{NeedData}
use Rattle.call_fs.specs.declared.past.NeedData.TheVariants as needs
use Rattle.call_fs.specs.declared.past.Own.{Own}
use Rattle.call_fs.specs.declared.program.Port.{Port}
use Rattle.call_fs.specs.declared.program.Port.TheVariants as port
use Rattle.local_deliver.specs.declared.place.Place.{Place}
use Rattle.local_deliver.specs.declared.row.Row.{Row}
use Rattle.local_deliver.specs.declared.row.Row.TheVariants as at
use Rattle.local_deliver.specs.Deeds.{LinkMade, linked_by as made_by, links, links_by}
use Rattle.call_fs.specs.Past.{taken, taken_by}
use Rattle.local_deliver.specs.Drops.{Drop}
use Rattle.local_deliver.specs.Table.{due_at, due_by_drop, place_after}
use Rattle.local_deliver.proofs.Carrying.{holds}
use Rattle.local_deliver.proofs.Underway.{Inv as AtRow}
use Rattle.local_deliver.proofs.Deeds.{deeds_of}
use Rattle.local_parts.specs.declared.arguments.LocalArgs.{LocalArgs}
use Rattle.local_parts.specs.Inputs.{message_in}
use Rattle.local_parts.specs.Texts.{maildir_text}
use Rattle.maildir_drop.specs.declared.row.Row.{Row as DropRow}
use Rattle.maildir_drop.specs.declared.row.Row.TheVariants as drop
use Rattle.maildir_drop.specs.declared.names.DropNames.{DropNames}
use Rattle.maildir_drop.specs.Table.{due_at as drop_due}
use Rattle.queue_law.proofs.Tests.{other_text, same_text}
use Rattle.world_events.specs.declared.event.Program.{Program}
use Rattle.world_events.specs.declared.event.Program.TheVariants.{Delivery}
use Rattle.mail_world.proofs.Members.{are_four}
use Rattle.mail_world.specs.History.{Actor, Event, IsCleaner, IsLocalSpawner, IsRemoteSpawner, IsSender, Legal, MayDo, MayRun, acted, after, finished, newborn, next_of, stopped}
use Rattle.mail_world.specs.History.Event.{Start, Act, Child, Generation, Report, End, Stop, Moment, Halt}
use Rattle.mail_world.specs.History.Life.{Alive, Over, Stopped}
use Rattle.mail_world.specs.Untouched.{queue}
use Rattle.world_law.specs.Carried.{Linked, linked_at, linked_by, links_in, names_of}
use Rattle.world_law.specs.Inv.{Inv}
use Rattle.world_law.proofs.DeliveryEnds.{among_cases}
use Rattle.world_law.proofs.Histories.{always, delivery_due, delivery_fares, drops_are_whole}
use Rattle.world_law.proofs.Tenants.{some_actor}

-- What an event adds to the links

module _ (d : Disk) where
  abbrev Pairs : List Linked → List LinkMade → Type 0
  Pairs old made = map names_of old ≡ made

  added_pair : (old : List Linked) (made : List LinkMade) (it : Linked) → Pairs old made → Pairs (old ++ it ∷ []) (made ++ names_of it ∷ [])
  added_pair old made it e = mapped old ∙ ap (λ (z : List LinkMade). z ++ names_of it ∷ []) e
    where
      mapped : (xs : List Linked) → map names_of (xs ++ it ∷ []) ≡ map names_of xs ++ names_of it ∷ []
      mapped [] = refl
      mapped (x ∷ xs) = ap (λ (z : List LinkMade). names_of x ∷ z) (mapped xs)

  call_pairs : (old : List Linked) (made : List LinkMade) (c : CallData) (told : Answer) → Pairs old made → Pairs (linked_by d old c told) (made_by made c told)
  call_pairs old made (call.Link from to) answer.Done e = added_pair old made (record { from = from; to = to; disk = d }) e
  call_pairs old made (call.Link from to) told e = e
  call_pairs old made c told e = e

  event_pairs : (old : List Linked) (made : List LinkMade) (due : NeedData) (got : GotData) → Pairs old made → Pairs (linked_at d old due got) (links_by made due got)
  event_pairs old made (needs.File c) (came.Answered told) e = call_pairs old made c told.answer e
  event_pairs old made due got e = e

  -- one that is new was made by a link of this disk
  abbrev IsNew : NeedData → Linked → Type 0
  IsNew due it = (due ≡ needs.File (call.Link it.from it.to)) × (it.disk ≡ d)

  call_cases : (old : List Linked) (c : CallData) (told : Answer) (it : Linked) → Among it (linked_by d old c told) → Among it old ⊎ IsNew (needs.File c) it
  call_cases old (call.Link from to) answer.Done it h = ⊎_elim
      (λ (older : Among it old). inl older)
      (λ (same : it ≡ record { from = from; to = to; disk = d }).
      inr (ap (λ (z : Linked). needs.File (call.Link z.from z.to)) (sym same), ap (λ (z : Linked). z.disk) same))
      (among_cases old it (record { from = from; to = to; disk = d }) h)
  call_cases old (call.Link from to) told it h = inl h
  call_cases old c told it h = inl h

  event_cases : (old : List Linked) (due : NeedData) (got : GotData) (it : Linked) → Among it (linked_at d old due got) → Among it old ⊎ IsNew due it
  event_cases old (needs.File c) (came.Answered told) it h = call_cases old c told.answer it h
  event_cases old due got it h = inl h

-- No link was made while the input is taken

abbrev IsInput : NeedData → Type 0
IsInput (needs.Take port.Input) = Unit {0}
IsInput due = ⊥

drop_no_input : (names : DropNames) (row : DropRow) (left : List ℕ) → IsInput (drop_due names row left) → ⊥
drop_no_input names (drop.Create attempt) left it = it
drop_no_input names (drop.Append attempt fd) left it = it
drop_no_input names (drop.Sync attempt fd) left it = it
drop_no_input names (drop.Close attempt fd) left it = it
drop_no_input names (drop.Link attempt) left it = it
drop_no_input names (drop.Shut attempt fd reason) left it = it
drop_no_input names (drop.Unlink attempt outcome) left it = it
drop_no_input names (drop.Ended attempt outcome) left it = it

some_drop : (o : Option Drop) → IsInput (due_by_drop o) → ⊥
some_drop None it = it
some_drop (Some z) it = drop_no_input z.names z.place.row z.place.left it

none_linked : (args : LocalArgs) (past : List Own) (p : Place) (row : Row) → AtRow args (deeds_of past) row p → IsInput (due_at args row p) → links past ≡ []
none_linked args past p at.TakeInput h it = h.2.links
none_linked args past p at.Drop h it = absurd (some_drop p.dropping it)
none_linked args past p (at.Open what) h it = absurd it
none_linked args past p (at.Read what fd) h it = absurd it
none_linked args past p (at.Close what fd went) h it = absurd it
none_linked args past p at.NextName h it = absurd it
none_linked args past p at.Run h it = absurd it
none_linked args past p at.Start h it = absurd it
none_linked args past p at.Feed h it = absurd it
none_linked args past p at.TakeStatus h it = absurd it
none_linked args past p (at.Report status) h it = absurd it
none_linked args past p (at.Fail reason) h it = absurd it
none_linked args past p (at.Ended status) h it = absurd it

-- so what was taken is the same, or no link was made
taken_port : (args : LocalArgs) (past : List Own) (p : Port) (got : GotData) → (IsInput (needs.Take p) → links past ≡ []) → (taken_by (taken past) (needs.Take p) got ≡ taken past) ⊎ (links past ≡ [])
taken_port args past port.Input got none = inr (none tt)
taken_port args past p got none = inl refl

taken_cases : (args : LocalArgs) (past : List Own) (due : NeedData) (got : GotData) → (IsInput due → links past ≡ []) → (taken_by (taken past) due got ≡ taken past) ⊎ (links past ≡ [])
taken_cases args past (needs.Take p) got none = taken_port args past p got none
taken_cases args past due got none = inl refl

none_among : (old : List Linked) (it : Linked) → map names_of old ≡ [] → Among it old → ⊥
none_among [] it e h = h
none_among (x ∷ xs) it e h = cc

-- What holds of the links of a delivery

pub record LinksAre (d : Disk) (h : List Event) (a : List ℕ) (args : LocalArgs) (past : List Own) : Type 0 where
  pub pairs : map names_of (links_in d a h) ≡ links past
  pub whole : (it : Linked) → Among it (links_in d a h) → (message : List ℕ) → message_in (taken past) ≡ Some message → IsWhole it.disk it.from (maildir_text args message)

-- An event of its own

module _ (d : Disk) (before : List Event) (a : List ℕ) (own : Own) (wrote : ℕ) (legal : Legal d (Act a own wrote ∷ before))
    (x : Actor) (is : (after d before).actors a ≡ Some x) (start : ℕ) (args : LocalArgs) (program : x.program ≡ Delivery start args) (L : LinksAre d before a args x.past) where
  abbrev old : List Linked
  old = links_in d a before

  abbrev made : List Linked
  made = linked_at (after d before).disk old own.due own.came

  may : MayDo (after d before) a own wrote
  may = legal.1

  I : Inv (after d before)
  I = always d before legal.0

  no_input : IsInput own.due → links x.past ≡ []
  no_input it =
      let same : may.actor ≡ x = some_actor may.actor x (sym may.reads.is ∙ is) in
      let alive : x.life ≡ Alive = ap (λ (y : Actor). y.life) (sym same) ∙ may.reads.alive in
      let F = delivery_fares (after d before).now (queue (after d before) I.role) a x.program x.past x.life start args program alive (I.fares a x is) in
      let due = delivery_due x.program x.past own.read own.ready start args own.due program
      (subst (λ (y : Actor). next_of y.program y.past own.read own.ready ≡ own.due) same may.due) in
      none_linked args x.past (place_after args x.past) (place_after args x.past).row (holds args x.past F.rests.run) (subst IsInput (sym due) it)

  own_whole : (it : Linked) → Among it made → (message : List ℕ) → message_in (taken (own ∷ x.past)) ≡ Some message → IsWhole it.disk it.from (maildir_text args message)
  own_whole it h message input = ⊎_elim
      (λ (older : Among it old). ⊎_elim
      (λ (same : taken_by (taken x.past) own.due own.came ≡ taken x.past). L.whole it older message (ap message_in (sym same) ∙ input))
      (λ (none : links x.past ≡ []). absurd (none_among old it (L.pairs ∙ none) older))
      (taken_cases args x.past own.due own.came no_input))
      (λ (new : IsNew (after d before).disk own.due it).
      let w = drops_are_whole d a own wrote before legal x is start args program it.from it.to new.0 in
      let same_input : taken_by (taken x.past) own.due own.came ≡ taken x.past = ap (λ (n : NeedData). taken_by (taken x.past) n own.came) new.0 in
      let message_is : w.0 ≡ message = one_message w.0 message (sym w.1 ∙ ap message_in (sym same_input) ∙ input) in
      subst (λ (e : Disk). IsWhole e it.from (maildir_text args message)) (sym new.1)
      (subst (λ (m : List ℕ). IsWhole (after d before).disk it.from (maildir_text args m)) message_is w.2))
      (event_cases (after d before).disk old own.due own.came it h)
    where
      one_message : (m n : List ℕ) → ◌≡◌ {A = Option (List ℕ)} (Some m) (Some n) → m ≡ n
      one_message m n e = cc

  same_links : links_in d a (Act a own wrote ∷ before) ≡ made
  same_links = ap (λ (b : Bool). if b then made else old) (same_text a)

  own_links : LinksAre d (Act a own wrote ∷ before) a args (own ∷ x.past)
  own_links = record {
    pairs = ap (map names_of) same_links ∙ event_pairs (after d before).disk old (links x.past) own.due own.came L.pairs;
    whole = λ it h. own_whole it (subst (λ (l : List Linked). Among it l) same_links h);
  }

-- An event of another one

other_links : (d : Disk) (before : List Event) (a b : List ℕ) (own : Own) (wrote : ℕ) → b ≢ a → links_in d a (Act b own wrote ∷ before) ≡ links_in d a before
other_links d before a b own wrote apart =
    ap (λ (t : Bool). if t then linked_at (after d before).disk (links_in d a before) own.due own.came else links_in d a before) (other_text b a apart)

-- One who isn't there has never been

none_before : (actors : List ℕ → Option Actor) (b : List ℕ) (y : Actor) (a : List ℕ) → put_at actors b (Some y) a ≡ None → (a ≢ b) × (actors a ≡ None)
none_before actors b y a none = ⊎_elim
    (λ (c : (a ≡ b) × (put_at actors b (Some y) a ≡ Some y)). let both : ◌≡◌ {A = Option Actor} None (Some y) = sym none ∙ c.1 in absurd (cc))
    (λ (c : (a ≢ b) × (put_at actors b (Some y) a ≡ actors a)). (c.0, sym c.1 ∙ none))
    (put_at_cases actors b (Some y) a)

none_stopped : (o : Option Actor) → option_map stopped o ≡ None → o ≡ None
none_stopped None e = refl
none_stopped (Some x) e = absurd (cc)

none_linked_yet : (d : Disk) (h : List Event) → Legal d h → (a : List ℕ) → (after d h).actors a ≡ None → links_in d a h ≡ []
none_linked_yet d [] legal a none = refl
none_linked_yet d (Start b program ∷ before) legal a none = none_linked_yet d before legal.0 a (none_before (after d before).actors b (newborn program) a none).1
none_linked_yet d (Act b own wrote ∷ before) legal a none =
    let s = after d before in
    let x = legal.1.actor in
    let w = none_before s.actors b (record { program = x.program; past = own ∷ x.past; life = x.life }) a
    (subst (λ (o : Option Actor). (acted s b own wrote o).actors a ≡ None) legal.1.reads.is none) in
    other_links d before a b own wrote (λ same. w.0 (sym same)) ∙ none_linked_yet d before legal.0 a w.1
none_linked_yet d (Child parent own b program ∷ before) legal a none =
    let s = after d before in
    let x = legal.1.actor in
    let moved : Actor = record { program = x.program; past = own ∷ x.past; life = x.life } in
    let one = none_before (acted s parent own 0 (s.actors parent)).actors b (newborn program) a none in
    none_linked_yet d before legal.0 a
    (none_before s.actors parent moved a (subst (λ (o : Option Actor). (acted s parent own 0 o).actors a ≡ None) legal.1.reads.is one.1)).1
none_linked_yet d (Generation (sender ∷ clean ∷ lspawn ∷ rspawn ∷ []) ∷ before) legal a none =
    let s = after d before in
    let one = put_at s.actors (codes "sender") (Some (newborn sender)) in
    let two = put_at one (codes "clean") (Some (newborn clean)) in
    let three = put_at two (codes "lspawn") (Some (newborn lspawn)) in
    none_linked_yet d before legal.0 a
    (none_before s.actors (codes "sender") (newborn sender) a
    (none_before one (codes "clean") (newborn clean) a
    (none_before two (codes "lspawn") (newborn lspawn) a
    (none_before three (codes "rspawn") (newborn rspawn) a none).1).1).1).1
none_linked_yet d (Generation crew ∷ before) legal a none = absurd (are_four crew legal.1.kinds)
none_linked_yet d (Report slot output ∷ before) legal a none = none_linked_yet d before legal.0 a none
none_linked_yet d (Moment m ∷ before) legal a none = none_linked_yet d before legal.0 a none
none_linked_yet d (End b read ready status ∷ before) legal a none =
    let s = after d before in
    let x = legal.1.actor in
    none_linked_yet d before legal.0 a
    (none_before s.actors b (record { program = x.program; past = x.past; life = Over status }) a
    (subst (λ (o : Option Actor). (finished s b (Over status) o).actors a ≡ None) legal.1.reads.is none)).1
none_linked_yet d (Stop b ∷ before) legal a none =
    let s = after d before in
    let x = legal.1.actor in
    none_linked_yet d before legal.0 a
    (none_before s.actors b (record { program = x.program; past = x.past; life = Stopped }) a
    (subst (λ (o : Option Actor). (finished s b Stopped o).actors a ≡ None) legal.1.is none)).1
none_linked_yet d (Halt how contents ∷ before) legal a none = none_linked_yet d before legal.0 a (none_stopped ((after d before).actors a) none)

-- After each legal history

no_delivery : (kind : Program → Type 0) (program : Program) (start : ℕ) (args : LocalArgs) → kind program → program ≡ Delivery start args → (kind (Delivery start args) → ⊥) → ⊥
no_delivery kind program start args it is none = none (subst kind is it)

-- one actor of two: the one that was put there, or one that was there
module _ (actors : List ℕ → Option Actor) (b : List ℕ) (y : Actor) (a : List ℕ) (x : Actor) (is : put_at actors b (Some y) a ≡ Some x) where
  put_actor : ((a ≡ b) × (x ≡ y)) ⊎ ((a ≢ b) × (actors a ≡ Some x))
  put_actor = ⊎_elim
      (λ (c : (a ≡ b) × (put_at actors b (Some y) a ≡ Some y)). inl (c.0, some_actor x y (sym is ∙ c.1)))
      (λ (c : (a ≢ b) × (put_at actors b (Some y) a ≡ actors a)). inr (c.0, sym c.1 ∙ is))
      (put_at_cases actors b (Some y) a)

module _ (d : Disk) where
  abbrev AtLast : List Event → Type 0
  AtLast h = (a : List ℕ) (x : Actor) → (after d h).actors a ≡ Some x → (start : ℕ) (args : LocalArgs) → x.program ≡ Delivery start args → LinksAre d h a args x.past

  -- the past of one that has ended stays
  past_links : (before : List Event) → AtLast before → (a b : List ℕ) (y z : Actor) → (after d before).actors b ≡ Some y → z.program ≡ y.program → z.past ≡ y.past
      → (x : Actor) → put_at (after d before).actors b (Some z) a ≡ Some x → (start : ℕ) (args : LocalArgs) → x.program ≡ Delivery start args → LinksAre d before a args x.past
  past_links before L a b y z here program past x is start args runs = ⊎_elim
      (λ (c : (a ≡ b) × (x ≡ z)).
      subst (λ (p : List Own). LinksAre d before a args p) (sym past ∙ ap (λ (w : Actor). w.past) (sym c.1))
      (L a y (ap (after d before).actors c.0 ∙ here) start args (sym program ∙ ap (λ (w : Actor). w.program) (sym c.1) ∙ runs)))
      (λ (c : (a ≢ b) × ((after d before).actors a ≡ Some x)). L a x c.1 start args runs)
      (put_actor (after d before).actors b z a x is)

  acts_links : (before : List Event) → AtLast before → (b : List ℕ) (own : Own) (wrote : ℕ) → (legal : Legal d (Act b own wrote ∷ before)) → AtLast (Act b own wrote ∷ before)
  acts_links before L b own wrote legal a x is start args runs =
      let s = after d before in
      let y = legal.1.actor in
      let moved : Actor = record { program = y.program; past = own ∷ y.past; life = y.life } in
      ⊎_elim
      (λ (c : (a ≡ b) × (x ≡ moved)).
      let program : y.program ≡ Delivery start args = ap (λ (w : Actor). w.program) (sym c.1) ∙ runs in
      subst (λ (n : List ℕ). LinksAre d (Act b own wrote ∷ before) n args x.past) (sym c.0)
      (subst (λ (p : List Own). LinksAre d (Act b own wrote ∷ before) b args p) (ap (λ (w : Actor). w.past) (sym c.1))
      (own_links d before b own wrote legal y legal.1.reads.is start args program (L b y legal.1.reads.is start args program))))
      (λ (c : (a ≢ b) × (s.actors a ≡ Some x)).
      let old = L a x c.1 start args runs in
      let same = other_links d before a b own wrote (λ e. c.0 (sym e)) in
      record { pairs = ap (map names_of) same ∙ old.pairs; whole = λ it h. old.whole it (subst (λ (l : List Linked). Among it l) same h) })
      (put_actor s.actors b moved a x (subst (λ (o : Option Actor). (acted s b own wrote o).actors a ≡ Some x) legal.1.reads.is is))

  -- a child was started, which is an event of its parent's
  parent_links : (before : List Event) → AtLast before → (parent : List ℕ) (own : Own) (b : List ℕ) (program : Program) → (legal : Legal d (Child parent own b program ∷ before))
      → (a : List ℕ) (x : Actor) → (acted (after d before) parent own 0 (Some legal.1.actor)).actors a ≡ Some x → (start : ℕ) (args : LocalArgs) → x.program ≡ Delivery start args
      → LinksAre d before a args x.past
  parent_links before L parent own b program legal a x is start args runs =
      let s = after d before in
      let y = legal.1.actor in
      let moved : Actor = record { program = y.program; past = own ∷ y.past; life = y.life } in
      ⊎_elim
      (λ (c : (a ≡ parent) × (x ≡ moved)).
      let old = L a y (ap s.actors c.0 ∙ legal.1.reads.is) start args (ap (λ (w : Actor). w.program) (sym c.1) ∙ runs) in
      let no_link : links (own ∷ y.past) ≡ links y.past = ap (λ (n : NeedData). links_by (links y.past) n own.came) legal.1.starts in
      let no_input : taken (own ∷ y.past) ≡ taken y.past = ap (λ (n : NeedData). taken_by (taken y.past) n own.came) legal.1.starts in
      subst (λ (p : List Own). LinksAre d before a args p) (ap (λ (w : Actor). w.past) (sym c.1))
      (record { pairs = old.pairs ∙ sym no_link; whole = λ it h message input. old.whole it h message (ap message_in (sym no_input) ∙ input) }))
      (λ (c : (a ≢ parent) × (s.actors a ≡ Some x)). L a x c.1 start args runs)
      (put_actor s.actors parent moved a x is)

  child_links : (before : List Event) → AtLast before → (parent : List ℕ) (own : Own) (b : List ℕ) (program : Program) → (legal : Legal d (Child parent own b program ∷ before))
      → AtLast (Child parent own b program ∷ before)
  child_links before L parent own b program legal a x is start args runs =
      let s = after d before in
      ⊎_elim
      (λ (c : (a ≡ b) × (x ≡ newborn program)).
      let none : links_in d a before ≡ [] = none_linked_yet d before legal.0 a (ap s.actors c.0 ∙ legal.1.new) in
      subst (λ (p : List Own). LinksAre d (Child parent own b program ∷ before) a args p) (ap (λ (w : Actor). w.past) (sym c.1))
      (record { pairs = ap (map names_of) none; whole = λ it h message input. absurd (subst (λ (l : List Linked). Among it l) none h) }))
      (λ (c : (a ≢ b) × ((acted s parent own 0 (s.actors parent)).actors a ≡ Some x)).
      let w = parent_links before L parent own b program legal a x (subst (λ (o : Option Actor). (acted s parent own 0 o).actors a ≡ Some x) legal.1.reads.is c.1) start args runs in
      record { pairs = w.pairs; whole = w.whole })
      (put_actor (acted s parent own 0 (s.actors parent)).actors b (newborn program) a x is)

  generation_links : (before : List Event) → AtLast before → (sender clean lspawn rspawn : Program) → Legal d (Generation (sender ∷ clean ∷ lspawn ∷ rspawn ∷ []) ∷ before)
      → AtLast (Generation (sender ∷ clean ∷ lspawn ∷ rspawn ∷ []) ∷ before)
  generation_links before L sender clean lspawn rspawn legal a x is start args runs =
      let s = after d before in
      let kinds = legal.1.kinds in
      let one = put_at s.actors (codes "sender") (Some (newborn sender)) in
      let two = put_at one (codes "clean") (Some (newborn clean)) in
      let three = put_at two (codes "lspawn") (Some (newborn lspawn)) in
      let program = λ (p : Program) (e : x ≡ newborn p). ap (λ (w : Actor). w.program) (sym e) ∙ runs in
      ⊎_elim
      (λ (c : (a ≡ codes "rspawn") × (x ≡ newborn rspawn)). absurd (no_delivery IsRemoteSpawner rspawn start args kinds.1.1.1.0 (program rspawn c.1) (λ it. it)))
      (λ (c : (a ≢ codes "rspawn") × (three a ≡ Some x)). ⊎_elim
      (λ (e : (a ≡ codes "lspawn") × (x ≡ newborn lspawn)). absurd (no_delivery IsLocalSpawner lspawn start args kinds.1.1.0 (program lspawn e.1) (λ it. it)))
      (λ (e : (a ≢ codes "lspawn") × (two a ≡ Some x)). ⊎_elim
      (λ (f : (a ≡ codes "clean") × (x ≡ newborn clean)). absurd (no_delivery IsCleaner clean start args kinds.1.0 (program clean f.1) (λ it. it)))
      (λ (f : (a ≢ codes "clean") × (one a ≡ Some x)). ⊎_elim
      (λ (g : (a ≡ codes "sender") × (x ≡ newborn sender)). absurd (no_delivery IsSender sender start args kinds.0 (program sender g.1) (λ it. it)))
      (λ (g : (a ≢ codes "sender") × (s.actors a ≡ Some x)). let w = L a x g.1 start args runs in record { pairs = w.pairs; whole = w.whole })
      (put_actor s.actors (codes "sender") (newborn sender) a x f.1))
      (put_actor one (codes "clean") (newborn clean) a x e.1))
      (put_actor two (codes "lspawn") (newborn lspawn) a x c.1))
      (put_actor three (codes "rspawn") (newborn rspawn) a x is)

  halted_links : (before : List Event) → AtLast before → (a : List ℕ) (x : Actor) (o : Option Actor) → (after d before).actors a ≡ o → option_map stopped o ≡ Some x
      → (start : ℕ) (args : LocalArgs) → x.program ≡ Delivery start args → LinksAre d before a args x.past
  halted_links before L a x None there is start args runs = absurd (cc)
  halted_links before L a x (Some y) there is start args runs =
      let same : x ≡ stopped y = some_actor x (stopped y) (sym is) in
      subst (λ (p : List Own). LinksAre d before a args p) (ap (λ (w : Actor). w.past) (sym same))
      (L a y there start args (ap (λ (w : Actor). w.program) (sym same) ∙ runs))

  -- an event with which no link is made
  calm : (h : List Event) (e : Event) (a : List ℕ) (args : LocalArgs) (past : List Own) → links_in d a (e ∷ h) ≡ links_in d a h → LinksAre d h a args past → LinksAre d (e ∷ h) a args past
  calm h e a args past same L = record { pairs = ap (map names_of) same ∙ L.pairs; whole = λ it there. L.whole it (subst (λ (l : List Linked). Among it l) same there) }

  pub links_are : (h : List Event) → Legal d h → AtLast h
  links_are [] legal a x is start args runs = absurd (cc)
  links_are (Start b program ∷ before) legal a x is start args runs = ⊎_elim
      (λ (c : (a ≡ b) × (x ≡ newborn program)).
      absurd (no_delivery MayRun program start args legal.1.runs (ap (λ (w : Actor). w.program) (sym c.1) ∙ runs) (λ it. it)))
      (λ (c : (a ≢ b) × ((after d before).actors a ≡ Some x)). calm before (Start b program) a args x.past refl (links_are before legal.0 a x c.1 start args runs))
      (put_actor (after d before).actors b (newborn program) a x is)
  links_are (Act b own wrote ∷ before) legal a x is start args runs = acts_links before (links_are before legal.0) b own wrote legal a x is start args runs
  links_are (Child parent own b program ∷ before) legal a x is start args runs =
      child_links before (links_are before legal.0) parent own b program legal a x is start args runs
  links_are (Generation (sender ∷ clean ∷ lspawn ∷ rspawn ∷ []) ∷ before) legal a x is start args runs =
      generation_links before (links_are before legal.0) sender clean lspawn rspawn legal a x is start args runs
  links_are (Generation crew ∷ before) legal a x is start args runs = absurd (are_four crew legal.1.kinds)
  links_are (Report slot output ∷ before) legal a x is start args runs =
      calm before (Report slot output) a args x.past refl (links_are before legal.0 a x is start args runs)
  links_are (Moment m ∷ before) legal a x is start args runs = calm before (Moment m) a args x.past refl (links_are before legal.0 a x is start args runs)
  links_are (End b read ready status ∷ before) legal a x is start args runs =
      let y = legal.1.actor in
      calm before (End b read ready status) a args x.past refl
      (past_links before (links_are before legal.0) a b y (record { program = y.program; past = y.past; life = Over status }) legal.1.reads.is refl refl x
      (subst (λ (o : Option Actor). (finished (after d before) b (Over status) o).actors a ≡ Some x) legal.1.reads.is is) start args runs)
  links_are (Stop b ∷ before) legal a x is start args runs =
      let y = legal.1.actor in
      calm before (Stop b) a args x.past refl
      (past_links before (links_are before legal.0) a b y (record { program = y.program; past = y.past; life = Stopped }) legal.1.is refl refl x
      (subst (λ (o : Option Actor). (finished (after d before) b Stopped o).actors a ≡ Some x) legal.1.is is) start args runs)
  links_are (Halt how contents ∷ before) legal a x is start args runs =
      calm before (Halt how contents) a args x.past refl (halted_links before (links_are before legal.0) a x ((after d before).actors a) refl is start args runs)
