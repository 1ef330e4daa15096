-- What a channel file is read as: the records of its recipients.
use Rattle.std.proofs.Common.{◌≡◌, ◌≢◌, ◌⊎◌, inl, inr, ℕ, zero, suc, ◌+◌, ◌<◌, List, [], ◌∷◌, ◌++◌, length, true, Option, Some, None, refl, sym, ap, ◌∙◌, subst, ⊎_elim, arith, slice_get, append_assoc, take}
use Rattle.std.specs.Prelude.{All, flat_map}
use Rattle.std.specs.List.{cons_option, filter_map}
use Rattle.std.proofs.lemmas.List.{length-append, append-nil}
use Rattle.std.proofs.lemmas.List.Elements.{All-head, All-tail, filter_map-append}
use Rattle.std.proofs.lemmas.Grind.{flat_map-append}
use Rattle.address_rules.specs.declared.controls.Controls.{Controls}
use Rattle.address_rules.specs.declared.rewriting.Route.{Route}
use Rattle.address_rules.specs.declared.rewriting.Route.TheVariants.{Local, Remote}
use Rattle.address_rules.specs.Routes.{address_in, route_of}
use Rattle.address_rules.specs.Nuls.{HaveNoNul}
use Rattle.mail_bytes.specs.Texts.{HasNoNul}
use Rattle.address_rules.proofs.Nuls.{route_none}
use Rattle.call_fs.specs.Disk.{Among}
use Rattle.envelope_records.specs.declared.channel.Record.{Record}
use Rattle.envelope_records.specs.Envelope.{IsAddress, Reading, read_envelope, record_of}
use Rattle.envelope_records.specs.Envelope.Reading.{Whole, Open, Broken}
use Rattle.envelope_records.specs.Records.{AreRecords, letter_of, text_of}
use Rattle.envelope_records.proofs.Envelopes.{Sound, read_sound}
use Rattle.queue_inject.specs.declared.injection.Arguments.{Arguments}
use Rattle.queue_inject.specs.declared.injection.InputEnd.{InputEnd}
use Rattle.queue_inject.specs.Texts.{limit, intd_text, envelope_of, envelope_text, recipients_read, recipients_of}
use Rattle.send_known.specs.declared.channel.Channel.{Channel}
use Rattle.send_known.specs.declared.channel.Channel.TheVariants as channel
use Rattle.todo_pass.specs.Places.{place_by}
use Rattle.todo_pass.specs.Sorting.{local_of, remote_of, channel_text}
use Rattle.queue_law.specs.Ledgers.{Spot}
use Rattle.queue_law.specs.Books.{Injection, IsValid, lane_in, routed_in, spot_in}
use Rattle.queue_law.specs.Routes.{Recipient, channel_of, routed, lane_text}
use Rattle.queue_law.specs.Marks.{IsDone, HasItsSpots}
use Rattle.queue_law.specs.Accounts.{IsRecordOf, RecipientsAreNumbered, RecordsAreOfRecipients}
use Rattle.queue_law.proofs.Places.{some_apart, to, size, on_route, rest_part, apart_records, done_spot}

-- The recipients of a valid message have no NUL

whole_plain : (bytes : List ℕ) (r : Reading) (end : InputEnd) (next : Option ℕ) → Sound bytes r → (envelope_text r end next).fault ≡ None → All IsAddress (recipients_read r)
whole_plain bytes (Whole sender recipients) end next h ok = h.whole.to
whole_plain bytes (Open stage) end next h ok = absurd (cc)
whole_plain bytes (Broken before fault) end next h ok = absurd (cc)

recipients_plain : (args : Arguments) → IsValid args → All IsAddress (recipients_of args)
unfolding intd_text envelope_of recipients_of
recipients_plain args valid = whole_plain (take limit args.envelope) (read_envelope (take limit args.envelope)) args.envelope_end (slice_get args.envelope limit)
    (read_sound (take limit args.envelope)) valid.envelope

all_middle : (earlier later : List (List ℕ)) (r : List ℕ) → All IsAddress (earlier ++ r ∷ later) → IsAddress r
all_middle [] later r h = All-head IsAddress r later h
all_middle (x ∷ earlier) later r h = all_middle earlier later r (All-tail IsAddress x (earlier ++ r ∷ later) h)

routed_plain : (controls : Controls) (args : Arguments) → HaveNoNul controls → IsValid args → (r : Recipient args) → HasNoNul (routed controls args r)
routed_plain controls args plain valid r =
    route_none controls r.address plain (all_middle r.earlier r.later r.address (subst (All IsAddress) r.split (recipients_plain args valid))).plain

-- What stands before and after the first NUL is one pair
abbrev no_nul : ℕ → Type 0
no_nul b = b ≢ 0

same_cut : (a b c d : List ℕ) → HasNoNul a → HasNoNul c → a ++ 0 ∷ b ≡ c ++ 0 ∷ d → (a ≡ c) × (b ≡ d)
same_cut [] b [] d p q e = (refl, cc)
same_cut [] b (y ∷ c) d p q e = absurd (All-head no_nul y c q (cc))
same_cut (x ∷ a) b [] d p q e = absurd (All-head no_nul x a p (cc))
same_cut (x ∷ a) b (y ∷ c) d p q e =
    let rest : a ++ 0 ∷ b ≡ c ++ 0 ∷ d = cc in
    let tail = same_cut a b c d (All-tail no_nul x a p) (All-tail no_nul y c q) rest in
    let head : x ≡ y = cc in
    let same : a ≡ c = tail.0 in
    ((cc), tail.1)

-- The records of a list, by their places

abbrev Plain : Record → Type 0
Plain it = HasNoNul it.address

abbrev AreFrom : ℕ → List Record → Type 0
AreFrom place [] = Unit {0}
AreFrom place (it ∷ records) = (it.place ≡ place) × AreFrom (place + length (text_of it)) records

are_from : (bytes : List ℕ) (all : List Record) → AreRecords bytes all → (before records : List Record) → all ≡ before ++ records
    → AreFrom (length (flat_map text_of before)) records
are_from bytes all read before [] e = tt
are_from bytes all read before (it ∷ records) e =
    let next : length (flat_map text_of (before ++ it ∷ [])) ≡ length (flat_map text_of before) + length (text_of it) =
    (let join = flat_map-append text_of before (it ∷ []) in
    let one = length-append (flat_map text_of before) (flat_map text_of (it ∷ [])) in
    let end = length-append (text_of it) [] in
    ap length join ∙ one ∙ ap (λ n. length (flat_map text_of before) + n) (end ∙ omega arith)) in (
      read.places before records it e,
      subst (λ n. AreFrom n records) next (are_from bytes all read (before ++ it ∷ []) records (e ∙ sym (append_assoc before (it ∷ []) records))),
    )

get_after : (front rest : List ℕ) (k : ℕ) → slice_get (front ++ rest) (length front + k) ≡ slice_get rest k
get_after [] rest k = ap (slice_get rest) (let w : 0 + k ≡ k = omega arith in w)
get_after (x ∷ front) rest k =
    let w : length (x ∷ front) + k ≡ suc (length front + k) = omega arith in
    ap (slice_get (x ∷ (front ++ rest))) w ∙ get_after front rest k

none_in : {A : Type 0} (before after : List A) (x : A) → [] ≡ before ++ x ∷ after → ⊥
none_in [] after x e = absurd (cc)
none_in (b ∷ before) after x e = absurd (cc)

-- an address that goes to a channel
goes_to : (controls : Controls) (earlier : List (List ℕ)) (r a : List ℕ) (ch : Channel) (route : Route) → route_of controls r ≡ route → to controls ch r ≡ Some a
    → (channel_of route ≡ ch) × ((address_in route ≡ a) × (place_by controls earlier route ≡ size controls ch earlier))
goes_to controls earlier r a channel.Local (Local address) e is = let w = ap local_of e in (refl, ((cc), refl))
goes_to controls earlier r a channel.Remote (Remote address) e is = let w = ap remote_of e in (refl, ((cc), refl))
goes_to controls earlier r a channel.Local (Remote address) e is = let w = ap local_of e in absurd (cc)
goes_to controls earlier r a channel.Remote (Local address) e is = let w = ap remote_of e in absurd (cc)

text_append : (xs ys : List (List ℕ)) → channel_text (xs ++ ys) ≡ channel_text xs ++ channel_text ys
text_append xs ys = flat_map-append record_of xs ys

module _ (i : Injection) (ch : Channel) (plain : (r : Recipient i.args) → HasNoNul (routed_in i r)) (spots : HasItsSpots i) where
  abbrev text : List (List ℕ) → List ℕ
  text later = channel_text (filter_map (to i.ledger.routes ch) later)

  -- the bytes that records of these recipients have, after those of others
  abbrev Agrees : List (List ℕ) → List (List ℕ) → List ℕ → Type 0
  Agrees earlier later bytes = (k : ℕ) → k < length bytes → (slice_get bytes k ≡ slice_get (text later) k) ⊎ (IsDone i.ledger ch (size i.ledger.routes ch earlier + k) × (slice_get bytes k ≡ Some 68))

  -- they are read as records of these recipients, one for each
  record Reads (earlier later : List (List ℕ)) (records : List Record) : Type 0 where
    each : (it : Record) → Among it records → (r : Recipient i.args) × IsRecordOf i ch r it
    all : (middle rest : List (List ℕ)) (x a : List ℕ) → later ≡ middle ++ x ∷ rest → to i.ledger.routes ch x ≡ Some a
        → (it : Record) × Among it records × ((it.place ≡ size i.ledger.routes ch (earlier ++ middle)) × ((it.address ≡ a) × (it.done ≡ true → IsDone i.ledger ch it.place)))

  size_next : (earlier : List (List ℕ)) (x : List ℕ) (o : Option (List ℕ)) → to i.ledger.routes ch x ≡ o
      → size i.ledger.routes ch (earlier ++ x ∷ []) ≡ size i.ledger.routes ch earlier + length (channel_text (cons_option o []))
  size_next earlier x o is =
      ap length (ap channel_text (filter_map-append (to i.ledger.routes ch) earlier (x ∷ [])) ∙ text_append (filter_map (to i.ledger.routes ch) earlier) (filter_map (to i.ledger.routes ch) (x ∷ [])))
      ∙ length-append (text earlier) (text (x ∷ []))
      ∙ ap (λ (o : Option (List ℕ)). size i.ledger.routes ch earlier + length (channel_text (cons_option o []))) is

  -- a recipient of another channel
  reads_skip : (earlier later : List (List ℕ)) (x : List ℕ) (records : List Record) → to i.ledger.routes ch x ≡ None
      → Reads (earlier ++ x ∷ []) later records → Reads earlier (x ∷ later) records
  reads_skip earlier later x records none h = record { each = h.each; all = all }
    where
      all : (middle rest : List (List ℕ)) (y a : List ℕ) → x ∷ later ≡ middle ++ y ∷ rest → to i.ledger.routes ch y ≡ Some a
          → (it : Record) × Among it records × ((it.place ≡ size i.ledger.routes ch (earlier ++ middle)) × ((it.address ≡ a) × (it.done ≡ true → IsDone i.ledger ch it.place)))
      all [] rest y a e is = let same : x ≡ y = cc in let w = ap (to i.ledger.routes ch) same in absurd (cc)
      all (z ∷ middle) rest y a e is =
          let same : x ≡ z = cc in
          let tail : later ≡ middle ++ y ∷ rest = cc in
          let w = h.all middle rest y a tail is in
          let at : (earlier ++ x ∷ []) ++ middle ≡ earlier ++ z ∷ middle = append_assoc earlier (x ∷ []) middle ∙ ap (λ v. earlier ++ v ∷ middle) same in
          (w.0, w.1, (w.2.0 ∙ ap (size i.ledger.routes ch) at, w.2.1))

  -- a recipient of this one, and its record
  reads_next : (earlier later : List (List ℕ)) (x a : List ℕ) (it : Record) (records : List Record) → (split : recipients_of i.args ≡ earlier ++ x ∷ later)
      → to i.ledger.routes ch x ≡ Some a → it.place ≡ size i.ledger.routes ch earlier → it.address ≡ a → (it.done ≡ true → IsDone i.ledger ch it.place)
      → Reads (earlier ++ x ∷ []) later records → Reads earlier (x ∷ later) (it ∷ records)
  reads_next earlier later x a it records split is place address done h = record { each = each; all = all }
    where
      each : (other : Record) → Among other (it ∷ records) → (r : Recipient i.args) × IsRecordOf i ch r other
      each other (inl same) =
          let w = goes_to i.ledger.routes earlier x a ch (route_of i.ledger.routes x) refl is in (
            record { earlier = earlier; address = x; later = later; split = split },
            subst (IsRecordOf i ch (record { earlier = earlier; address = x; later = later; split = split })) (sym same)
                (record { on = w.0; place_is = place ∙ sym w.1.1; address_is = address ∙ sym w.1.0; done = done }),
          )
      each other (inr rest) = h.each other rest

      all : (middle rest : List (List ℕ)) (y b : List ℕ) → x ∷ later ≡ middle ++ y ∷ rest → to i.ledger.routes ch y ≡ Some b
          → (other : Record) × Among other (it ∷ records) × ((other.place ≡ size i.ledger.routes ch (earlier ++ middle)) × ((other.address ≡ b) × (other.done ≡ true → IsDone i.ledger ch other.place)))
      all [] rest y b e goes =
          let same : x ≡ y = cc in
          let w = ap (to i.ledger.routes ch) same in
          let address' : a ≡ b = cc in
          let at : earlier ≡ earlier ++ [] = sym (append-nil earlier) in
          (it, inl refl, (place ∙ ap (size i.ledger.routes ch) at, (address ∙ address', done)))
      all (z ∷ middle) rest y b e goes =
          let same : x ≡ z = cc in
          let tail : later ≡ middle ++ y ∷ rest = cc in
          let w = h.all middle rest y b tail goes in
          let at : (earlier ++ x ∷ []) ++ middle ≡ earlier ++ z ∷ middle = append_assoc earlier (x ∷ []) middle ∙ ap (λ v. earlier ++ v ∷ middle) same in
          (w.0, inr w.1, (w.2.0 ∙ ap (size i.ledger.routes ch) at, w.2.1))

  -- the bytes of records that agree with the text of these recipients are read so
  abbrev Lined : List (List ℕ) → Type 0
  Lined later = (earlier : List (List ℕ)) (bytes : List ℕ) (records : List Record) → recipients_of i.args ≡ earlier ++ later → length bytes ≡ length (text later)
      → Agrees earlier later bytes → bytes ≡ flat_map text_of records → All Plain records → AreFrom (size i.ledger.routes ch earlier) records → Reads earlier later records

  lined_none : Lined []
  lined_none earlier bytes [] split long agrees is p from = record { each = λ it h. absurd h; all = λ middle rest x a e. absurd (none_in middle rest x e) }
  lined_none earlier bytes (it ∷ records) split long agrees is p from = let w = ap length is in absurd (omega (arith, w, long))

  lined_skip : (x : List ℕ) (later : List (List ℕ)) → Lined later → to i.ledger.routes ch x ≡ None → Lined (x ∷ later)
  lined_skip x later rec none earlier bytes records split long agrees is p from =
      let same : text (x ∷ later) ≡ text later = ap (λ (o : Option (List ℕ)). channel_text (cons_option o (filter_map (to i.ledger.routes ch) later))) none in
      let grown = size_next earlier x None none in
      let still : size i.ledger.routes ch earlier ≡ size i.ledger.routes ch (earlier ++ x ∷ []) = omega (arith, grown) in
      reads_skip earlier later x records none
      (rec (earlier ++ x ∷ []) bytes records (split ∙ sym (append_assoc earlier (x ∷ []) later)) (long ∙ ap length same)
      (λ k lt. ⊎_elim
      (λ (e : slice_get bytes k ≡ slice_get (text (x ∷ later)) k). inl (e ∙ ap (λ z. slice_get z k) same))
      (λ (e : IsDone i.ledger ch (size i.ledger.routes ch earlier + k) × (slice_get bytes k ≡ Some 68)).
      inr (subst (λ n. IsDone i.ledger ch (n + k)) still e.0, e.1))
      (agrees k lt))
      is p (subst (λ n. AreFrom n records) still from))

  lined_next : (x a : List ℕ) (later : List (List ℕ)) → Lined later → to i.ledger.routes ch x ≡ Some a → Lined (x ∷ later)
  lined_next x a later rec is earlier bytes [] split long agrees read p from =
      let t : text (x ∷ later) ≡ record_of a ++ text later = ap (λ (o : Option (List ℕ)). channel_text (cons_option o (filter_map (to i.ledger.routes ch) later))) is in
      let w = ap length t in
      let v = ap length read in
      absurd (omega (arith, w, v, long))
  lined_next x a later rec is earlier [] (it ∷ records) split long agrees read p from = let w = ap length read in absurd (omega (arith, w))
  lined_next x a later rec is earlier (c ∷ tail) (it ∷ records) split long agrees read p from =
      reads_next earlier later x a it records split is from.0 (sym cut.0) done
      (rec (earlier ++ x ∷ []) new.0 records (split ∙ sym (append_assoc earlier (x ∷ []) later)) size_new agrees_new cut.1 (All-tail Plain it records p)
      (subst (λ n. AreFrom n records) place_new from.1))
    where
      t : text (x ∷ later) ≡ 84 ∷ ((a ++ 0 ∷ []) ++ text later)
      t = ap (λ (o : Option (List ℕ)). channel_text (cons_option o (filter_map (to i.ledger.routes ch) later))) is

      r : Recipient i.args
      r = record { earlier = earlier; address = x; later = later; split = split }

      w : (channel_of (route_of i.ledger.routes x) ≡ ch) × ((address_in (route_of i.ledger.routes x) ≡ a) × (place_by i.ledger.routes earlier (route_of i.ledger.routes x) ≡ size i.ledger.routes ch earlier))
      w = goes_to i.ledger.routes earlier x a ch (route_of i.ledger.routes x) refl is

      inner : (k : ℕ) → k < length (a ++ 0 ∷ []) → slice_get tail k ≡ slice_get ((a ++ 0 ∷ []) ++ text later) k
      inner k lt =
          let size_t = ap length t in
          let size_p = length-append (a ++ 0 ∷ []) (text later) in
          ⊎_elim
          (λ (e : slice_get (c ∷ tail) (suc k) ≡ slice_get (text (x ∷ later)) (suc k)). e ∙ ap (λ z. slice_get z (suc k)) t)
          (λ (e : IsDone i.ledger ch (size i.ledger.routes ch earlier + suc k) × (slice_get (c ∷ tail) (suc k) ≡ Some 68)).
          let s = done_spot i spots ch (size i.ledger.routes ch earlier + suc k) e.0 in
          let there : (spot_in i s.0).place ≡ size i.ledger.routes ch earlier + suc k = sym (ap (λ (z : Spot). z.place) s.1) in
          let on : (spot_in i s.0).channel ≡ ch = sym (ap (λ (z : Spot). z.channel) s.1) in
          let here = w.1.1 in
          let ends = ap (λ z. length (record_of z)) w.1.0 in
          let past = apart_records i.ledger.routes i.args ch r s.0 w.0 on (omega (arith, there, here)) in
          absurd (omega (arith, past, there, here, ends, lt)))
          (agrees (suc k) (omega (arith, size_t, size_p, lt, long)))

      new : (rest : List ℕ) × (tail ≡ (a ++ 0 ∷ []) ++ rest)
      new = let size_t = ap length t in rest_part (a ++ 0 ∷ []) (text later) tail (omega (arith, size_t, long)) inner

      head : c ≡ letter_of it.done
      head = let e : c ∷ tail ≡ letter_of it.done ∷ ((it.address ++ 0 ∷ []) ++ flat_map text_of records) = read in cc

      rest_is : tail ≡ (it.address ++ 0 ∷ []) ++ flat_map text_of records
      rest_is = let e : c ∷ tail ≡ letter_of it.done ∷ ((it.address ++ 0 ∷ []) ++ flat_map text_of records) = read in cc

      cut : (a ≡ it.address) × (new.0 ≡ flat_map text_of records)
      cut = same_cut a new.0 it.address (flat_map text_of records) (subst HasNoNul w.1.0 (plain r)) (All-head Plain it records p)
          (sym (append_assoc a (0 ∷ []) new.0) ∙ sym new.1 ∙ rest_is ∙ append_assoc it.address (0 ∷ []) (flat_map text_of records))

      done : it.done ≡ true → IsDone i.ledger ch it.place
      done marked = ⊎_elim
          (λ (e : slice_get (c ∷ tail) 0 ≡ slice_get (text (x ∷ later)) 0).
          absurd (some_apart (ap Some (sym (head ∙ ap letter_of marked)) ∙ e ∙ ap (λ z. slice_get z 0) t)))
          (λ (e : IsDone i.ledger ch (size i.ledger.routes ch earlier + 0) × (slice_get (c ∷ tail) 0 ≡ Some 68)).
          let at = from.0 in
          let here : size i.ledger.routes ch earlier + 0 ≡ it.place = omega (arith, at) in
          subst (IsDone i.ledger ch) here e.0)
          (agrees 0 (omega arith))

      size_new : length new.0 ≡ length (text later)
      size_new =
          let one = ap length new.1 in
          let two = length-append (a ++ 0 ∷ []) new.0 in
          let three = length-append (a ++ 0 ∷ []) (text later) in
          let four = ap length t in
          omega (arith, one, two, three, four, long)

      step_is : size i.ledger.routes ch (earlier ++ x ∷ []) ≡ size i.ledger.routes ch earlier + suc (length (a ++ 0 ∷ []))
      step_is = let one = size_next earlier x (Some a) is in let two = length-append (record_of a) [] in omega (arith, one, two)

      place_new : size i.ledger.routes ch earlier + length (text_of it) ≡ size i.ledger.routes ch (earlier ++ x ∷ [])
      place_new = let one = step_is in let two = ap (λ z. length (z ++ 0 ∷ [])) cut.0 in omega (arith, one, two)

      agrees_new : (k : ℕ) → k < length new.0 → (slice_get new.0 k ≡ slice_get (text later) k)
          ⊎ (IsDone i.ledger ch (size i.ledger.routes ch (earlier ++ x ∷ []) + k) × (slice_get new.0 k ≡ Some 68))
      agrees_new k lt =
          let long_t = ap length new.1 in
          let long_p = length-append (a ++ 0 ∷ []) new.0 in
          let one = step_is in
          let here : slice_get new.0 k ≡ slice_get (c ∷ tail) (suc (length (a ++ 0 ∷ []) + k)) =
          sym (get_after (a ++ 0 ∷ []) new.0 k) ∙ ap (λ z. slice_get z (length (a ++ 0 ∷ []) + k)) (sym new.1) in
          let there : slice_get (text (x ∷ later)) (suc (length (a ++ 0 ∷ []) + k)) ≡ slice_get (text later) k =
          ap (λ z. slice_get z (suc (length (a ++ 0 ∷ []) + k))) t ∙ get_after (a ++ 0 ∷ []) (text later) k in
          let at : size i.ledger.routes ch earlier + suc (length (a ++ 0 ∷ []) + k) ≡ size i.ledger.routes ch (earlier ++ x ∷ []) + k = omega (arith, one) in
          ⊎_elim
          (λ (e : slice_get (c ∷ tail) (suc (length (a ++ 0 ∷ []) + k)) ≡ slice_get (text (x ∷ later)) (suc (length (a ++ 0 ∷ []) + k))). inl (here ∙ e ∙ there))
          (λ (e : IsDone i.ledger ch (size i.ledger.routes ch earlier + suc (length (a ++ 0 ∷ []) + k)) × (slice_get (c ∷ tail) (suc (length (a ++ 0 ∷ []) + k)) ≡ Some 68)).
          inr (subst (IsDone i.ledger ch) at e.0, here ∙ e.1))
          (agrees (suc (length (a ++ 0 ∷ []) + k)) (omega (arith, long_t, long_p, lt)))

  lined_by : (x : List ℕ) (later : List (List ℕ)) → Lined later → (o : Option (List ℕ)) → to i.ledger.routes ch x ≡ o → Lined (x ∷ later)
  lined_by x later rec None is = lined_skip x later rec is
  lined_by x later rec (Some a) is = lined_next x a later rec is

  lined : (later : List (List ℕ)) → Lined later
  lined [] = lined_none
  lined (x ∷ later) = lined_by x later (lined later) (to i.ledger.routes ch x) refl

lane_is : (controls : Controls) (args : Arguments) (ch : Channel) → lane_text controls args ch ≡ channel_text (filter_map (to controls ch) (recipients_of args))
lane_is controls args channel.Local = refl
lane_is controls args channel.Remote = refl

pub records_are : RecordsAreOfRecipients
records_are i ch bytes records none valid spots m read =
    let lane = lane_is i.ledger.routes i.args ch in
    let h = lined i ch (routed_plain i.ledger.routes i.args none valid) spots (recipients_of i.args) [] bytes records refl (m.long ∙ ap length lane)
    (λ k lt.
    let size_b = m.long in
    let at : k ≡ 0 + k = omega arith in
    ⊎_elim
    (λ (e : slice_get bytes k ≡ slice_get (lane_in i ch) k). inl (e ∙ ap (λ z. slice_get z k) lane))
    (λ (e : IsDone i.ledger ch k × (slice_get bytes k ≡ Some 68)). inr (subst (IsDone i.ledger ch) at e.0, e.1))
    (m.each k (omega (arith, size_b, lt))))
    read.text read.plain (are_from bytes records read [] records refl) in
    record {
      each = h.each;
      all = λ r on.
          let p = on_route i.ledger.routes r.earlier r.address ch (route_of i.ledger.routes r.address) refl on in
          let w = h.all r.earlier r.later r.address (routed_in i r) r.split p.0 in
          (w.0, w.1, record { on = on; place_is = w.2.0 ∙ sym p.1; address_is = w.2.1.0; done = w.2.1.1 });
    }

-- the elements before, at and after a number
parts_at : (xs : List (List ℕ)) (k : ℕ) → k < length xs
    → (before : List (List ℕ)) × ((x : List ℕ) × ((after : List (List ℕ)) × ((xs ≡ before ++ x ∷ after) × (length before ≡ k))))
parts_at [] k lt = absurd (omega arith)
parts_at (x ∷ xs) zero lt = ([], (x, (xs, (refl, refl))))
parts_at (x ∷ xs) (suc k) lt =
    let w = parts_at xs k (omega arith) in
    (x ∷ w.0, (w.1.0, (w.1.1.0, (ap (λ z. x ∷ z) w.1.1.1.0, ap suc w.1.1.1.1))))

pub recipients_numbered : RecipientsAreNumbered
recipients_numbered args k lt =
    let w = parts_at (recipients_of args) k lt in
    (record { earlier = w.0; address = w.1.0; later = w.1.1.0; split = w.1.1.1.0 }, w.1.1.1.1)
