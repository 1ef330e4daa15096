-- The records of a channel file: where each stands, and what a marked file has there.
use Rattle.std.proofs.Common.{◌≡◌, ◌≢◌, ◌⊎◌, inl, inr, ℕ, suc, ◌+◌, ◌<◌, ◌≤◌, List, [], ◌∷◌, ◌++◌, length, Option, Some, None, refl, sym, ap, ◌∙◌, subst, ⊎_elim, arith, slice_get}
use Rattle.std.specs.Prelude.{unwrap_or}
use Rattle.std.specs.List.{cons_option, filter_map}
use Rattle.std.proofs.lemmas.List.{length-append}
use Rattle.std.proofs.lemmas.Bool.Decides.{eqb_tells}
use Rattle.address_rules.specs.declared.controls.Controls.{Controls}
use Rattle.address_rules.specs.declared.rewriting.Route.{Route}
use Rattle.address_rules.specs.declared.rewriting.Route.TheVariants.{Local, Remote}
use Rattle.address_rules.specs.Routes.{address_in, route_of}
use Rattle.envelope_records.specs.Envelope.{record_of}
use Rattle.queue_inject.specs.declared.injection.Arguments.{Arguments}
use Rattle.send_known.specs.declared.channel.Channel.{Channel}
use Rattle.send_known.specs.declared.channel.Channel.TheVariants as channel
use Rattle.todo_pass.specs.Places.{HasRecord, place_by, text_by}
use Rattle.todo_pass.specs.Sorting.{local_of, remote_of, channel_text, sorted_of}
use Rattle.todo_pass.proofs.Places.{each_at_its_place}
use Rattle.queue_law.specs.Ledgers.{Spot}
use Rattle.call_fs.specs.Disk.{Among}
use Rattle.queue_law.specs.Books.{Injection, lane_in, routed_in, spot_in}
use Rattle.queue_law.specs.Entered.{named_by}
use Rattle.queue_law.specs.Routes.{IsSpot, Recipient, channel_of, lane_text, routed, spot_of, todo_in}
use Rattle.queue_law.specs.Marks.{IsDone, IsMarked, HasItsSpots}

text_is : (controls : Controls) (args : Arguments) (route : Route) → text_by (sorted_of controls (todo_in args)) route ≡ lane_text controls args (channel_of route)
text_is controls args (Local address) = refl
text_is controls args (Remote address) = refl

-- the record of a recipient, in the text of its channel
pub record_on : (controls : Controls) (args : Arguments) (r : Recipient args) (ch : Channel) → (spot_of controls args r).channel ≡ ch
    → HasRecord (lane_text controls args ch) (spot_of controls args r).place (routed controls args r)
record_on controls args r ch on =
    let here = each_at_its_place controls (todo_in args) r.earlier r.later r.address r.split in
    let text = text_is controls args (route_of controls r.address) in
    subst (λ c. HasRecord (lane_text controls args c) (spot_of controls args r).place (routed controls args r)) on
    (subst (λ t. HasRecord t (spot_of controls args r).place (routed controls args r)) text here)

get_here : (front : List ℕ) (x : ℕ) (rest : List ℕ) → slice_get (front ++ x ∷ rest) (length front) ≡ Some x
get_here [] x rest = refl
get_here (y ∷ front) x rest = get_here front x rest

-- it begins with `T`
pub letter : (text : List ℕ) (place : ℕ) (address : List ℕ) → HasRecord text place address → slice_get text place ≡ Some 84
letter text place address h =
    (λ i. slice_get (h.split i) (h.place_is i)) ∙ get_here h.front 84 ((address ++ 0 ∷ []) ++ h.rest)

-- and ends before the text does
pub inside : (text : List ℕ) (place : ℕ) (address : List ℕ) → HasRecord text place address → place + length (record_of address) ≤ length text
inside text place address h =
    let all = ap length h.split in
    let outer = length-append h.front (record_of address ++ h.rest) in
    let inner = length-append (record_of address) h.rest in
    let at = h.place_is in
    omega arith

pub some_apart : ◌≡◌ {A = Option ℕ} (Some 68) (Some 84) → ⊥
some_apart e = let w : ◌≡◌ {A = ℕ} 68 84 = ap (λ (o : Option ℕ). unwrap_or o 0) e in omega arith

-- what is done is a recipient of the message
pub done_spot : (i : Injection) → HasItsSpots i → (ch : Channel) (k : ℕ) → IsDone i.ledger ch k
    → IsSpot i.ledger.routes i.args (record { channel = ch; place = k })
done_spot i h ch k done = ⊎_elim
    (λ (delivered : Among (record { channel = ch; place = k }) i.ledger.delivered). h.delivered (record { channel = ch; place = k }) delivered)
    (λ (noted : Among (named_by done.0 ch k) i.ledger.noted). h.failed (record { channel = ch; place = k }) (h.noted (named_by done.0 ch k) noted))
    (h.marked (named_by done.0 ch k) done.1)

-- a record that reads `D` is of a recipient that is done
pub reads_done : (i : Injection) (ch : Channel) (bytes : List ℕ) → IsMarked (lane_in i ch) i.ledger ch bytes
    → (r : Recipient i.args) → (spot_in i r).channel ≡ ch → slice_get bytes (spot_in i r).place ≡ Some 68
    → IsDone i.ledger ch (spot_in i r).place
reads_done i ch bytes m r on reads =
    let place = (spot_in i r).place in
    let h = record_on i.ledger.routes i.args r ch on in
    let within = inside (lane_in i ch) place (routed_in i r) h in
    ⊎_elim
    (λ (same : slice_get bytes place ≡ slice_get (lane_in i ch) place).
    absurd (some_apart (sym reads ∙ same ∙ letter (lane_in i ch) place (routed_in i r) h)))
    (λ (done : IsDone i.ledger ch place × (slice_get bytes place ≡ Some 68)). done.0)
    (m.each place (omega arith))

-- the address of a channel that a recipient has there, if it goes there
abbrev pub to : Controls → Channel → List ℕ → Option (List ℕ)
to controls channel.Local = λ r. local_of (route_of controls r)
to controls channel.Remote = λ r. remote_of (route_of controls r)

-- how many bytes the records of these recipients have in a channel
abbrev pub size : Controls → Channel → List (List ℕ) → ℕ
size controls ch recipients = length (channel_text (filter_map (to controls ch) recipients))

pub on_route : (controls : Controls) (earlier : List (List ℕ)) (r : List ℕ) (ch : Channel) (route : Route) → route_of controls r ≡ route → channel_of route ≡ ch
    → (to controls ch r ≡ Some (address_in route)) × (place_by controls earlier route ≡ size controls ch earlier)
on_route controls earlier r channel.Local (Local address) e on = (ap local_of e, refl)
on_route controls earlier r channel.Remote (Remote address) e on = (ap remote_of e, refl)
on_route controls earlier r channel.Local (Remote address) e on = absurd (cc)
on_route controls earlier r channel.Remote (Local address) e on = absurd (cc)

-- of two recipients one comes before the other, or they are the same
prefixes : (e f l m : List (List ℕ)) (a b : List ℕ) → e ++ a ∷ l ≡ f ++ b ∷ m
    → (e ≡ f) ⊎ (((g : List (List ℕ)) × (f ≡ e ++ a ∷ g)) ⊎ ((g : List (List ℕ)) × (e ≡ f ++ b ∷ g)))
prefixes [] [] l m a b h = inl refl
prefixes [] (y ∷ f) l m a b h = let w : a ≡ y = cc in inr (inl (f, ap (λ z. z ∷ f) (sym w)))
prefixes (x ∷ e) [] l m a b h = let w : x ≡ b = cc in inr (inr (e, ap (λ z. z ∷ e) w))
prefixes (x ∷ e) (y ∷ f) l m a b h =
    let head : x ≡ y = cc in
    let tail : e ++ a ∷ l ≡ f ++ b ∷ m = cc in
    ⊎_elim
    (λ (s : e ≡ f). inl (λ i. head i ∷ s i))
    (λ (w : ((g : List (List ℕ)) × (f ≡ e ++ a ∷ g)) ⊎ ((g : List (List ℕ)) × (e ≡ f ++ b ∷ g))). ⊎_elim
    (λ (s : (g : List (List ℕ)) × (f ≡ e ++ a ∷ g)). inr (inl (s.0, λ i. sym head i ∷ s.1 i)))
    (λ (s : (g : List (List ℕ)) × (e ≡ f ++ b ∷ g)). inr (inr (s.0, λ i. head i ∷ s.1 i)))
    w)
    (prefixes e f l m a b tail)

-- one that comes later stands after the record of this one
pub longer : (to : List ℕ → Option (List ℕ)) (e g : List (List ℕ)) (a address : List ℕ) → to a ≡ Some address
    → length (channel_text (filter_map to e)) + length (record_of address) ≤ length (channel_text (filter_map to (e ++ a ∷ g)))
longer to [] g a address is = subst (λ (o : Option (List ℕ)). 0 + length (record_of address) ≤ length (channel_text (cons_option o (filter_map to g)))) (sym is) here
  where
    here : 0 + length (record_of address) ≤ length (record_of address ++ channel_text (filter_map to g))
    here = let w = length-append (record_of address) (channel_text (filter_map to g)) in omega arith
longer to (x ∷ e) g a address is = by_first (to x) (longer to e g a address is)
  where
    by_first : (o : Option (List ℕ)) → length (channel_text (filter_map to e)) + length (record_of address) ≤ length (channel_text (filter_map to (e ++ a ∷ g)))
        → length (channel_text (cons_option o (filter_map to e))) + length (record_of address)
        ≤ length (channel_text (cons_option o (filter_map to (e ++ a ∷ g))))
    by_first None rest = rest
    by_first (Some b) rest =
        let one = length-append (record_of b) (channel_text (filter_map to e)) in
        let two = length-append (record_of b) (channel_text (filter_map to (e ++ a ∷ g))) in
        omega arith

-- no record stands in another one
pub apart_records : (controls : Controls) (args : Arguments) (ch : Channel) (r s : Recipient args) → (spot_of controls args r).channel ≡ ch
    → (spot_of controls args s).channel ≡ ch → (spot_of controls args r).place < (spot_of controls args s).place
    → (spot_of controls args r).place + length (record_of (routed controls args r)) ≤ (spot_of controls args s).place
apart_records controls args ch r s on on' less =
    let p = on_route controls r.earlier r.address ch (route_of controls r.address) refl on in
    let o = on_route controls s.earlier s.address ch (route_of controls s.address) refl on' in
    let p_at = p.1 in
    let o_at = o.1 in
    ⊎_elim
    (λ (same : r.earlier ≡ s.earlier). let w = ap (size controls ch) same in absurd (omega arith))
    (λ (w : ((g : List (List ℕ)) × (s.earlier ≡ r.earlier ++ r.address ∷ g)) ⊎ ((g : List (List ℕ)) × (r.earlier ≡ s.earlier ++ s.address ∷ g))). ⊎_elim
    (λ (later : (g : List (List ℕ)) × (s.earlier ≡ r.earlier ++ r.address ∷ g)).
    let t = longer (to controls ch) r.earlier later.0 r.address (routed controls args r) p.0 in
    let v = ap (size controls ch) later.1 in
    omega arith)
    (λ (earlier : (g : List (List ℕ)) × (r.earlier ≡ s.earlier ++ s.address ∷ g)).
    let t = longer (to controls ch) s.earlier earlier.0 s.address (routed controls args s) o.0 in
    let v = ap (size controls ch) earlier.1 in
    absurd (omega arith))
    w)
    (prefixes r.earlier s.earlier r.later s.later r.address s.address (sym r.split ∙ s.split))

-- bytes that agree with a text in one part of it
pub rest_part : (part rest bytes : List ℕ) → length (part ++ rest) ≡ length bytes → ((k : ℕ) → k < length part → slice_get bytes k ≡ slice_get (part ++ rest) k)
    → (new : List ℕ) × (bytes ≡ part ++ new)
rest_part [] rest bytes l h = (bytes, refl)
rest_part (x ∷ part) rest [] l h = absurd (omega arith)
rest_part (x ∷ part) rest (b ∷ bytes) l h =
    let first : ◌≡◌ {A = Option ℕ} (Some b) (Some x) = h 0 (omega arith) in
    let head : b ≡ x = cc in
    let t = rest_part part rest bytes (omega arith) (λ k lt. h (suc k) (omega arith)) in
    (t.0, λ i. head i ∷ t.1 i)

front_part : (front part rest bytes : List ℕ) → length (front ++ (part ++ rest)) ≡ length bytes
    → ((k : ℕ) → length front ≤ k → k < length front + length part → slice_get bytes k ≡ slice_get (front ++ (part ++ rest)) k)
    → (fore : List ℕ) × ((new : List ℕ) × ((bytes ≡ fore ++ (part ++ new)) × (length fore ≡ length front)))
front_part [] part rest bytes l h =
    let t = rest_part part rest bytes l (λ k lt. h k (omega arith) (omega arith)) in
    ([], (t.0, (t.1, refl)))
front_part (x ∷ front) part rest [] l h = absurd (omega arith)
front_part (x ∷ front) part rest (b ∷ bytes) l h =
    let t = front_part front part rest bytes (omega arith) (λ k le lt. h (suc k) (omega arith) (omega arith)) in
    (b ∷ t.0, (t.1.0, (ap (λ z. b ∷ z) t.1.1.0, ap suc t.1.1.1)))

-- a record that reads `T` stands in a marked file as it does in the text
pub reads_open : (i : Injection) (ch : Channel) (bytes : List ℕ) → HasItsSpots i
    → IsMarked (lane_in i ch) i.ledger ch bytes → (r : Recipient i.args) → (spot_in i r).channel ≡ ch
    → slice_get bytes (spot_in i r).place ≡ slice_get (lane_in i ch) (spot_in i r).place
    → HasRecord bytes (spot_in i r).place (routed_in i r)
reads_open i ch bytes spots m r on same =
    record { front = t.0; rest = t.1.0; split = t.1.1.0; place_is = h.place_is ∙ sym t.1.1.1 }
  where
    place : ℕ
    place = (spot_in i r).place

    h : HasRecord (lane_in i ch) (spot_in i r).place (routed_in i r)
    h = record_on i.ledger.routes i.args r ch on

    agree : (k : ℕ) → (spot_in i r).place ≤ k → k < (spot_in i r).place + length (record_of (routed_in i r))
        → slice_get bytes k ≡ slice_get (lane_in i ch) k
    agree k low high =
        let within = inside (lane_in i ch) (spot_in i r).place (routed_in i r) h in
        ⊎_elim
        (λ w. let here : k ≡ (spot_in i r).place = w.1 in
        subst (λ p. slice_get bytes p ≡ slice_get (lane_in i ch) p) (sym here) same)
        (λ w.
        let far : k ≢ (spot_in i r).place = w.1 in
        ⊎_elim
        (λ (e : slice_get bytes k ≡ slice_get (lane_in i ch) k). e)
        (λ (done : IsDone i.ledger ch k × (slice_get bytes k ≡ Some 68)).
        let s = done_spot i spots ch k done.0 in
        let there : (spot_in i s.0).place ≡ k = sym (ap (λ (z : Spot). z.place) s.1) in
        let on' : (spot_in i s.0).channel ≡ ch = sym (ap (λ (z : Spot). z.channel) s.1) in
        let more = λ (lt : (spot_in i r).place < (spot_in i s.0).place). apart_records i.ledger.routes i.args ch r s.0 on on' lt in
        let past = more (omega (arith, there, far, low)) in
        absurd (omega (arith, past, there, high)))
        (m.each k (omega (arith, within, high))))
        (eqb_tells k (spot_in i r).place)

    t : (fore : List ℕ) × ((new : List ℕ) × ((bytes ≡ fore ++ (record_of (routed_in i r) ++ new)) × (length fore ≡ length h.front)))
    t =
        let at = h.place_is in
        front_part h.front (record_of (routed_in i r)) h.rest bytes
        (sym (ap length h.split) ∙ sym m.long)
        (λ k low high. agree k (omega arith) (omega arith) ∙ ap (λ z. slice_get z k) h.split)
