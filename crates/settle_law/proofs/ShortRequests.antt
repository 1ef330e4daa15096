-- Where nothing fails each request of a sender has fields of at most 4,096 bytes.
use Rattle.std.proofs.Common.{◌≡◌, ℕ, ◌+◌, ◌<◌, ◌≤◌, ◌^◌, List, [], ◌∷◌, length, true, false, Option, Some, None, refl, sym, ap, subst, arith, codes}
use Rattle.std.specs.Prelude.{Contains, is_some, slice_get}
use Rattle.std.specs.List.{list_all}
use Rattle.std.proofs.lemmas.List.Elements.{All-contains}
use Rattle.address_rules.specs.Names.{verp_of}
use Rattle.call_fs.specs.Disk.{Disk}
use Rattle.call_fs.specs.declared.past.Own.{Own}
use Rattle.call_fs.specs.Past.{IsRunBy}
use Rattle.envelope_records.specs.declared.channel.Record.{Record}
use Rattle.mail_bytes.specs.Texts.{HasNoNul}
use Rattle.queue_law.specs.Books.{Injection}
use Rattle.queue_law.specs.Numbers.{Entry, Role, look}
use Rattle.queue_law.specs.Routes.{lane_part, sender_of}
use Rattle.queue_law.proofs.Looks.{found}
use Rattle.queue_paths.specs.Names.{split_text}
use Rattle.queue_paths.specs.Names.Name.{Of}
use Rattle.queue_paths.specs.Names.Part.{Mess, Info, Local as LocalPart, Remote as RemotePart, Bounce}
use Rattle.queue_paths.specs.Parts.{in_todo, parts_of}
use Rattle.queue_states.specs.States.{is_there, state_of, is_in_intd, is_in_todo}
use Rattle.queue_states.specs.declared.state.State.TheVariants.{S5}
use Rattle.program_law.specs.Post.Posts.{HasPlainFields}
use Rattle.program_law.specs.Sender.Asking.{IsRequestFor}
use Rattle.program_law.specs.Sender.Stands.{HasControls}
use Rattle.program_law.specs.Sender.Views.{records_at}
use Rattle.program_law.proofs.Channel.Counts.{at_head}
use Rattle.program_law.proofs.Post.Plains.{requests_are_plain}
use Rattle.program_law.proofs.Sender.Entries.{among_of}
use Rattle.program_law.proofs.Sender.Texts.{they_are}
use Rattle.send_core.specs.declared.desk.Desk.{Desk}
use Rattle.send_parts.specs.declared.row.Row.{Row}
use Rattle.send_parts.specs.declared.row.Row.TheVariants as at
use Rattle.send_core.specs.Papers.{papers}
use Rattle.send_core.specs.Papers.Papers.{Told}
use Rattle.send_core.specs.Senders.{IsSaid}
use Rattle.send_core.specs.Table.{Next}
use Rattle.send_core.proofs.Asked.{KnowsAt}
use Rattle.send_core.proofs.Runs.{all_kept, facts}
use Rattle.send_jobs.specs.declared.attempts.Attempt.{Attempt}
use Rattle.send_known.specs.declared.channel.Channel.{Channel}
use Rattle.send_jobs.specs.Sending.{lane}
use Rattle.send_parts.specs.declared.rows.StartRow.TheVariants as start
use Rattle.send_links.specs.Records.{records_of}
use Rattle.spawn_protocol.specs.Request.{IsField, IsRequest, request_text}
use Rattle.spawn_protocol.specs.declared.request.Request.{Request}
use Rattle.world_events.specs.declared.event.Program.TheVariants.{Sender}
use Rattle.mail_world.specs.History.{Actor, Event, Legal, State, after}
use Rattle.mail_world.specs.History.Life.{Alive}
use Rattle.mail_world.specs.Untouched.{queue}
use Rattle.world_law.proofs.MessageSteps.{in_s5}
use Rattle.world_law.proofs.Standing.{hands_always_stand, records_are_routed}
use Rattle.settle_law.specs.Suffices.{desk_of}
use Rattle.settle_law.specs.Well.{goes_well}
use Rattle.settle_law.proofs.ShortControls.{AreShort, told_short}
use Rattle.settle_law.proofs.ShortRoutes.{recipient_address, route_short, sender_address, split_short, verp_short}
use Rattle.settle_law.proofs.SmallNumbers.{numbers_are_small}

-- a text is a request whose fields aren't too long
abbrev pub IsShort : List ℕ → Type 0
IsShort text = (r : Request) × IsRequest r × (text ≡ request_text r)

low_field : (text : List ℕ) → length text ≤ 4096 → HasNoNul text → IsField text
low_field text low plain = record { short = low; plain = plain }

sum_low : (all sender recipient : ℕ) → all ≤ sender + recipient → sender ≤ 1002 → recipient ≤ 2404 → all ≤ 4096
sum_low all sender recipient low s r = omega (arith, low, s, r)

first_left : (left : List Attempt) (a : Attempt) → slice_get left 0 ≡ Some a → Contains left a
first_left [] a is = absurd (cc)
first_left (x ∷ left) a is = let same : x ≡ a = cc in subst (λ (b : Attempt). Contains (b ∷ left) a) (sym same) (at_head a left)

filed : (o : Option Entry) (records : List Record) → records_at o ≡ Some records → (y : Entry) × (o ≡ Some y) × (records_of y.file.bytes ≡ Some records)
filed None records is = absurd (cc)
filed (Some y) records is = (y, refl, is)

none_there : (o : Option ℕ) → is_some o ≡ false → o ≡ None
none_there None e = refl
none_there (Some n) e = absurd (cc)

module _ (d : Disk) (h : List Event) (legal : Legal d h) (well : list_all goes_well h ≡ true) (x : Actor) (began : ℕ)
    (is : (after d h).actors (codes "sender") ≡ Some x) (alive : x.life ≡ Alive) (sends : x.program ≡ Sender began) (low : (n : ℕ) (i : Injection) → (after d h).books.living n ≡ Some i → AreShort i.ledger.routes) (role : ℕ → Role) (c : Channel) (text : List ℕ)
    (w : IsRequestFor (queue (after d h) role) c (desk_of x.past) text) where
  abbrev s : State
  s = after d h

  abbrev a : Attempt
  a = w.attempt

  no_todo : in_todo (parts_of s.disk.names a.n) ≡ None
  no_todo =
      let stays : state_of s.disk a.n ≡ S5 = ((hands_always_stand d h legal (codes "sender") x is alive began sends).to_come c a (first_left (lane c (desk_of x.past).slots).left a w.next_is)).stays in
      none_there (in_todo (parts_of s.disk.names a.n))
      (in_s5 (is_there s.disk Mess a.n) (is_in_intd s.disk a.n) (is_in_todo s.disk a.n) (is_there s.disk Info a.n) (is_there s.disk LocalPart a.n) (is_there s.disk RemotePart a.n)
      (is_there s.disk Bounce a.n) stays).0

  file : (y : Entry) × (look (queue s role) (Of (lane_part c) a.n) ≡ Some y) × (records_of y.file.bytes ≡ Some w.reads.records)
  file = filed (look (queue s role) (Of (lane_part c) a.n)) w.reads.records w.reads.there

  abbrev it : Record
  it = record { done = false; place = a.place; address = a.address }

  plain : HasNoNul a.address
  plain = All-contains (λ (r : Record). HasNoNul r.address) w.reads.records it (they_are file.0.file.bytes w.reads.records file.2).plain w.reads.reads

  address_low : length a.address ≤ 2404
  address_low =
      let here = found s.disk.names s.disk.files (Of (lane_part c) a.n) file.0 file.1 in
      let routes = records_are_routed d h legal a.n no_todo c file.0.number here.0 in
      let i : Injection = routes.0 in
      let bytes : file.0.file.bytes ≡ (s.disk.files file.0.number).bytes = ap (λ (y : Entry). y.file.bytes) here.1 in
      let each = (routes.3.routed w.reads.records (subst (λ (b : List ℕ). records_of b ≡ Some w.reads.records) bytes file.2)).each it (among_of w.reads.records it w.reads.reads) in
      subst (λ (l : List ℕ). length l ≤ 2404) (sym each.1.address_is) (route_short i.ledger.routes each.0.address (low a.n i routes.1) (recipient_address i.args each.0).short)

  pub short_request : IsShort text
  short_request =
      let sender : List ℕ = sender_of w.injection.args in
      let from = sender_address w.injection.args in
      let small : a.n < 2 ^ 64 = (numbers_are_small d h legal well a.n w.injection w.lives).1 in
      let r : Request = record { slot = w.slot; mess = split_text a.n; sender = verp_of sender a.address; recipient = a.address } in
      let fields : HasPlainFields r = requests_are_plain.plain w.slot a.n sender a.address from.plain plain in
      let name = split_short a.n small in (
        r,
        record {
          mess = low_field (split_text a.n) (omega (arith, name)) fields.mess;
          sender = low_field (verp_of sender a.address) (sum_low (length (verp_of sender a.address)) (length sender) (length a.address) (verp_short sender a.address) from.short address_low) fields.sender;
          recipient = low_field a.address (omega (arith, address_low)) plain;
        },
        w.is,
      )

-- A sender that gives has read its control files, of which none is bad

told_at : (past : List Own) (row : Row) (d : Desk) → HasControls row → KnowsAt (IsSaid past) (facts past) row d → papers past ≡ Told d.book.controls
told_at past (at.Start (start.Control name reading)) d has h = absurd has
told_at past (at.Ended status) d has h = absurd has
told_at past row d has h = h.0.3

pub known_short : (past : List Own) → IsRunBy (Next None) past → HasControls (desk_of past).row → AreShort (desk_of past).book.controls
known_short past run has = told_short past (desk_of past).book.controls (told_at past (desk_of past).row (desk_of past) has (all_kept None past run).1)
