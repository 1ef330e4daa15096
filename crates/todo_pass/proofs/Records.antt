-- Records that are read byte by byte are sorted as the whole is.
use Rattle.std.proofs.Common.{◌≡◌, ◌⊎◌, ℕ, suc, ◌+◌, ◌≤◌, ◌<◌, List, [], ◌∷◌, ◌++◌, length, get_or, take, drop, drop-cons, Bool, true, false, refl, sym, ap, ◌∙◌, subst, inl, inr, ⊎_elim, arith, eqb, ltb}
use Rattle.std.specs.Prelude.{if◌then◌else◌, ◌==◌, nat_lt, Ok, Err}
use Rattle.std.specs.List.{cons_option}
use Rattle.std.proofs.lemmas.List.{append-nil, append_assoc, length_push, flat_map_more, take_more, take-append-drop, length-take-le}
use Rattle.std.proofs.lemmas.List.Elements.{filter_map-append}
use Rattle.mail_bytes.specs.Lists.{last_of}
use Rattle.address_rules.specs.declared.controls.Controls.{Controls}
use Rattle.address_rules.specs.declared.rewriting.Route.{Route}
use Rattle.address_rules.specs.declared.rewriting.Route.TheVariants as route
use Rattle.address_rules.specs.Routes.{route_of}
use Rattle.envelope_records.specs.declared.envelope.EnvFault.TheVariants.{Format, TooLong}
use Rattle.envelope_records.specs.declared.envelope.EnvStep.{EnvStep}
use Rattle.envelope_records.specs.declared.envelope.EnvStep.TheVariants as byte
use Rattle.envelope_records.specs.Envelope.{Stage, Step, record_of, step, in_address, read_on, read_more, read_envelope, reader_of, step_of, ended_address, missing, bytes_to, records_of, HasRead}
use Rattle.envelope_records.specs.Envelope.Stage.{Begin, InSender, Between, InRecipient}
use Rattle.envelope_records.specs.Envelope.Step.{Goes, Ends, Fails}
use Rattle.envelope_records.specs.Envelope.Reading.{Whole, Open, Broken}
use Rattle.envelope_records.proofs.Envelopes.{read_envelope-append, sound_as}
use Rattle.todo_pass.specs.declared.head.Head.{Head}
use Rattle.todo_pass.specs.declared.sorted.Sorted.{Sorted}
use Rattle.todo_pass.specs.declared.sorter.Sorter.{Sorter}
use Rattle.todo_pass.specs.Todo.{envelope_by}
use Rattle.todo_pass.specs.Sorting.{sorted_by, local_of, remote_of, locals_of, remotes_of, channel_text, sorted_of, with_route, with_recipient}
use Rattle.todo_pass.specs.Feeding.{Sorts, FeedsOn, todo_with, sorted_at, step_after, fits_in, sorted_on}

-- One recipient more

-- what is sorted of these addresses
abbrev made : ℕ → ℕ → List ℕ → List (List ℕ) → List (List ℕ) → Sorted
made uid pid sender locals remotes = record {
  uid = uid;
  pid = pid;
  sender = sender;
  info = 70 ∷ (sender ++ 0 ∷ []);
  local = channel_text locals;
  remote = channel_text remotes;
  locals = length locals;
  remotes = length remotes;
}

text_push : (addresses : List (List ℕ)) (a : List ℕ) → channel_text (addresses ++ a ∷ []) ≡ channel_text addresses ++ record_of a
text_push addresses a = sym (flat_map_more record_of [] addresses a)

pushed : (uid pid : ℕ) (sender : List ℕ) (locals remotes : List (List ℕ)) (r : Route) →
    made uid pid sender (locals ++ cons_option (local_of r) []) (remotes ++ cons_option (remote_of r) []) ≡ with_route (made uid pid sender locals remotes) r
pushed uid pid sender locals remotes (route.Local a) =
    ap (λ rs. made uid pid sender (locals ++ a ∷ []) rs) (append-nil remotes)
    ∙ ap (λ t. record (made uid pid sender (locals ++ a ∷ []) remotes) { local = t }) (text_push locals a)
    ∙ ap (λ k. record (made uid pid sender locals remotes) { local = channel_text locals ++ record_of a; locals = k }) (length_push locals a)
pushed uid pid sender locals remotes (route.Remote a) =
    ap (λ rs. made uid pid sender rs (remotes ++ a ∷ [])) (append-nil locals)
    ∙ ap (λ t. record (made uid pid sender locals (remotes ++ a ∷ [])) { remote = t }) (text_push remotes a)
    ∙ ap (λ k. record (made uid pid sender locals remotes) { remote = channel_text remotes ++ record_of a; remotes = k }) (length_push remotes a)

pub sorted_push : (controls : Controls) (head : Head) (sender : List ℕ) (recipients : List (List ℕ)) (r : List ℕ) →
    sorted_of controls (todo_with head sender (recipients ++ r ∷ [])) ≡ with_recipient controls (sorted_of controls (todo_with head sender recipients)) r
sorted_push controls head sender recipients r =
    ap (λ ls. made head.uid head.pid sender ls (remotes_of controls (recipients ++ r ∷ []))) (filter_map-append (λ a. local_of (route_of controls a)) recipients (r ∷ []))
    ∙ ap (λ rs. made head.uid head.pid sender (locals_of controls recipients ++ cons_option (local_of (route_of controls r)) []) rs) (filter_map-append (λ a. remote_of (route_of controls a)) recipients (r ∷ []))
    ∙ pushed head.uid head.pid sender (locals_of controls recipients) (remotes_of controls recipients) (route_of controls r)

-- One byte more

last_push : (first : List ℕ) (others : List (List ℕ)) (last : List ℕ) → last_of first (others ++ last ∷ []) ≡ last
last_push first [] last = refl
last_push first (other ∷ others) last = last_push other others last

ends_recipient : (sender : List ℕ) (recipients : List (List ℕ)) (last : List ℕ) → step_of (Open (Between sender (recipients ++ last ∷ []))) ≡ byte.Recipient
ends_recipient sender [] last = refl
ends_recipient sender (recipient ∷ recipients) last = refl

picked : {A : Type 0} (t : Bool) (x y z : A) → (if t then x else y) ≡ z → (x ≡ z) ⊎ (y ≡ z)
picked true x y z e = inl e
picked false x y z e = inr e

-- what the stage before and the byte make of it
abbrev SortsTo : Controls → Head → Stage → Stage → Type 0
SortsTo controls head from to =
    sorted_at controls head to ≡ sorted_on controls (sorted_at controls head from) (step_of (Open to)) (ended_address (reader_of (Open to)))

to_between : (controls : Controls) (head : Head) (sender : List ℕ) (recipients : List (List ℕ)) (begun : List ℕ) →
    SortsTo controls head (InRecipient sender recipients begun) (Between sender (recipients ++ begun ∷ []))
to_between controls head sender recipients begun =
    let before : Sorted = sorted_of controls (todo_with head sender recipients) in
    sorted_push controls head sender recipients begun
    ∙ sym (ap (λ s. sorted_on controls before s (last_of sender (recipients ++ begun ∷ []))) (ends_recipient sender recipients begun)
    ∙ ap (λ a. with_recipient controls before a) (last_push sender recipients begun))

goes_same : (a b : Stage) → Goes a ≡ Goes b → a ≡ b
goes_same a b e = cc

ends_goes : (sender : List ℕ) (recipients : List (List ℕ)) (next : Stage) → Ends sender recipients ≡ Goes next → ⊥
ends_goes sender recipients next e = cc

fails_goes : {A : Type 0} (fault : _) (next : Stage) → Fails fault ≡ Goes next → A
fails_goes fault next e = absurd (cc)

in_address_goes : (P : Stage → Type 0) (begun : List ℕ) (b : ℕ) (ended more next : Stage) → in_address begun b ended more ≡ Goes next → P ended → P more → P next
in_address_goes P begun b ended more next e at_end at_more = ⊎_elim
    (λ w. subst P (goes_same ended next w) at_end)
    (λ w. ⊎_elim
    (λ v. subst P (goes_same more next v) at_more)
    (λ v. fails_goes TooLong next v)
    (picked (ltb (length begun) 1002) (Goes more) (Fails TooLong) (Goes next) w))
    (picked (eqb b 0) (Goes ended) (if nat_lt (length begun) 1002 then Goes more else Fails TooLong) (Goes next) e)

sorts_to : (controls : Controls) (head : Head) (stage : Stage) (b : ℕ) (next : Stage) → step stage b ≡ Goes next → SortsTo controls head stage next
sorts_to controls head Begin b next e = ⊎_elim
    (λ w. subst (SortsTo controls head Begin) (goes_same (InSender []) next w) refl)
    (λ w. fails_goes Format next w)
    (picked (eqb b 70) (Goes (InSender [])) (Fails Format) (Goes next) e)
sorts_to controls head (InSender begun) b next e =
    in_address_goes (SortsTo controls head (InSender begun)) begun b (Between begun []) (InSender (begun ++ b ∷ [])) next e refl refl
sorts_to controls head (Between sender recipients) b next e = ⊎_elim
    (λ w. absurd (ends_goes sender recipients next w))
    (λ w. ⊎_elim
    (λ v. subst (SortsTo controls head (Between sender recipients)) (goes_same (InRecipient sender recipients []) next v) refl)
    (λ v. fails_goes Format next v)
    (picked (eqb b 84) (Goes (InRecipient sender recipients [])) (Fails Format) (Goes next) w))
    (picked (eqb b 0) (Ends sender recipients) (if b == 84 then Goes (InRecipient sender recipients []) else Fails Format) (Goes next) e)
sorts_to controls head (InRecipient sender recipients begun) b next e =
    in_address_goes (SortsTo controls head (InRecipient sender recipients begun)) begun b (Between sender (recipients ++ begun ∷ []))
    (InRecipient sender recipients (begun ++ b ∷ [])) next e (to_between controls head sender recipients begun) refl

-- at most one recipient more
counts_route : (s : Sorted) (r : Route) → (with_route s r).locals + (with_route s r).remotes ≤ (s.locals + s.remotes) + 1
counts_route s (route.Local a) = omega arith
counts_route s (route.Remote a) = omega arith

counts_on : (controls : Controls) (s : Sorted) (step : EnvStep) (a : List ℕ) →
    (sorted_on controls s step a).locals + (sorted_on controls s step a).remotes ≤ (s.locals + s.remotes) + 1
counts_on controls s byte.More a = omega arith
counts_on controls s byte.Sender a = omega arith
counts_on controls s byte.Recipient a = counts_route s (route_of controls a)
counts_on controls s byte.End a = omega arith
counts_on controls s (byte.Fault fault) a = omega arith

after_byte : (read : List ℕ) (b : ℕ) (stage : Stage) → read_envelope read ≡ Open stage →
    read_envelope (read ++ b ∷ []) ≡ read_on stage (step stage b) (λ next. Open next)
after_byte read b stage e = read_envelope-append read (b ∷ []) ∙ ap (λ r. read_more r (b ∷ [])) e

fits_open : (next : Stage) → fits_in (step_of (Open next)) ≡ true
fits_open Begin = refl
fits_open (InSender begun) = refl
fits_open (Between sender []) = refl
fits_open (Between sender (r ∷ recipients)) = refl
fits_open (InRecipient sender recipients begun) = refl

apart : {A : Type 0} → true ≡ false → A
apart e = absurd (cc)

pub has_read : (controls : Controls) (head : Head) (read : List ℕ) (sorter : Sorter) → Sorts controls head read sorter → HasRead read sorter.reader
has_read controls head read sorter h = h.reader ∙ sym (ap reader_of h.opened)

-- a byte that records may have there
fed_by : (controls : Controls) (head : Head) (read : List ℕ) (b : ℕ) (old new : Sorter) (h : Sorts controls head read old) →
    FeedsOn controls read b old new true → (s : Step) → step h.stage b ≡ s → Sorts controls head (read ++ b ∷ []) new
fed_by controls head read b old new h f (Goes next) e =
    let now : read_envelope (read ++ b ∷ []) ≡ Open next = after_byte read b h.stage h.opened ∙ ap (λ s. read_on h.stage s (λ n. Open n)) e in
    let reader : new.reader ≡ reader_of (Open next) = f.reader ∙ ap reader_of now in
    let sorted : new.sorted ≡ sorted_at controls head next =
    f.sorted
    ∙ ap (λ r. sorted_on controls old.sorted (step_of r) (ended_address new.reader)) now
    ∙ ap (λ r. sorted_on controls old.sorted (step_of (Open next)) (ended_address r)) reader
    ∙ ap (λ t. sorted_on controls t (step_of (Open next)) (ended_address (reader_of (Open next)))) h.sorted
    ∙ sym (sorts_to controls head h.stage b next e) in
    record {
      stage = next;
      opened = now;
      reader = reader;
      sorted = sorted;
      counted =
          let before = h.counted in
          let more = counts_on controls old.sorted (step_after read b) (ended_address new.reader) in
          let len = length_push read b in
          let Counted : Sorted → Type 0 = λ t. t.locals + t.remotes ≤ length (read ++ b ∷ []) in
          subst Counted (sym f.sorted) (omega arith);
    }
fed_by controls head read b old new h f (Ends sender recipients) e =
    let now : read_envelope (read ++ b ∷ []) ≡ Whole sender recipients = after_byte read b h.stage h.opened ∙ ap (λ s. read_on h.stage s (λ n. Open n)) e in
    apart (f.fits_is ∙ ap (λ r. fits_in (step_of r)) now)
fed_by controls head read b old new h f (Fails fault) e =
    let now : read_envelope (read ++ b ∷ []) ≡ Broken _ fault = after_byte read b h.stage h.opened ∙ ap (λ s. read_on h.stage s (λ n. Open n)) e in
    apart (f.fits_is ∙ ap (λ r. fits_in (step_of r)) now)

pub fed : (controls : Controls) (head : Head) (read : List ℕ) (b : ℕ) (old new : Sorter) → Sorts controls head read old →
    FeedsOn controls read b old new true → Sorts controls head (read ++ b ∷ []) new
fed controls head read b old new h f = fed_by controls head read b old new h f (step h.stage b) refl

-- a byte that records don't have there: nothing after it makes a difference
read_past : (read : List ℕ) (b : ℕ) (rest : List ℕ) → read_envelope (read ++ b ∷ rest) ≡ read_more (read_envelope (read ++ b ∷ [])) rest
read_past read b rest = ap read_envelope (sym (append_assoc read (b ∷ []) rest)) ∙ read_envelope-append (read ++ b ∷ []) rest

length_to : (controls : Controls) (head : Head) (read : List ℕ) (sorter : Sorter) (h : Sorts controls head read sorter) → length (bytes_to h.stage) ≡ length read
length_to controls head read sorter h = let sound = sound_as read (Open h.stage) h.opened in ap length (sym sound.text)

not_in_address : {A : Type 0} (begun : List ℕ) (b : ℕ) (ended more : Stage) (sender : List ℕ) (recipients : List (List ℕ)) → in_address begun b ended more ≡ Ends sender recipients → A
not_in_address begun b ended more sender recipients e = ⊎_elim
    (λ w. absurd (cc))
    (λ w. ⊎_elim (λ v. absurd (cc)) (λ v. absurd (cc)) (picked (ltb (length begun) 1002) (Goes more) (Fails TooLong) (Ends sender recipients) w))
    (picked (eqb b 0) (Goes ended) (if nat_lt (length begun) 1002 then Goes more else Fails TooLong) (Ends sender recipients) e)

-- only between records an envelope ends
ends_between : (stage : Stage) (b : ℕ) (sender : List ℕ) (recipients : List (List ℕ)) → step stage b ≡ Ends sender recipients → bytes_to stage ≡ records_of sender recipients
ends_between Begin b sender recipients e = ⊎_elim (λ w. absurd (cc)) (λ w. absurd (cc)) (picked (eqb b 70) (Goes (InSender [])) (Fails Format) (Ends sender recipients) e)
ends_between (InSender begun) b sender recipients e = not_in_address begun b (Between begun []) (InSender (begun ++ b ∷ [])) sender recipients e
ends_between (Between from to) b sender recipients e = ⊎_elim
    (λ w. let one : from ≡ sender = cc in let two : to ≡ recipients = cc in ap (λ s. records_of s to) one ∙ ap (λ rs. records_of sender rs) two)
    (λ w. ⊎_elim (λ v. absurd (cc)) (λ v. absurd (cc)) (picked (eqb b 84) (Goes (InRecipient from to [])) (Fails Format) (Ends sender recipients) w))
    (picked (eqb b 0) (Ends from to) (if b == 84 then Goes (InRecipient from to []) else Fails Format) (Ends sender recipients) e)
ends_between (InRecipient from to begun) b sender recipients e =
    not_in_address begun b (Between from (to ++ begun ∷ [])) (InRecipient from to (begun ++ b ∷ [])) sender recipients e

bad_by : (controls : Controls) (head : Head) (len : ℕ) (read : List ℕ) (b : ℕ) (rest : List ℕ) (old new : Sorter) (h : Sorts controls head read old) →
    FeedsOn controls read b old new false → (s : Step) → step h.stage b ≡ s
    → sorted_by controls (envelope_by head len (read_envelope (read ++ b ∷ rest))) ≡ Err (head.next + length read)
bad_by controls head len read b rest old new h f (Goes next) e =
    let now : read_envelope (read ++ b ∷ []) ≡ Open next = after_byte read b h.stage h.opened ∙ ap (λ s. read_on h.stage s (λ n. Open n)) e in
    apart (sym (fits_open next) ∙ sym (f.fits_is ∙ ap (λ r. fits_in (step_of r)) now))
bad_by controls head len read b rest old new h f (Ends sender recipients) e =
    let now : read_envelope (read ++ b ∷ []) ≡ Whole sender recipients = after_byte read b h.stage h.opened ∙ ap (λ s. read_on h.stage s (λ n. Open n)) e in
    ap (λ r. sorted_by controls (envelope_by head len r)) (read_past read b rest ∙ ap (λ r. read_more r rest) now)
    ∙ ap (λ k. Err (head.next + k)) (ap length (sym (ends_between h.stage b sender recipients e)) ∙ length_to controls head read old h)
bad_by controls head len read b rest old new h f (Fails fault) e =
    let now : read_envelope (read ++ b ∷ []) ≡ Broken (bytes_to h.stage) fault = after_byte read b h.stage h.opened ∙ ap (λ s. read_on h.stage s (λ n. Open n)) e in
    ap (λ r. sorted_by controls (envelope_by head len r)) (read_past read b rest ∙ ap (λ r. read_more r rest) now)
    ∙ ap (λ k. Err (head.next + k)) (length_to controls head read old h)

pub bad : (controls : Controls) (head : Head) (len : ℕ) (read : List ℕ) (b : ℕ) (rest : List ℕ) (old new : Sorter) → Sorts controls head read old →
    FeedsOn controls read b old new false → sorted_by controls (envelope_by head len (read_envelope (read ++ b ∷ rest))) ≡ Err (head.next + length read)
bad controls head len read b rest old new h f = bad_by controls head len read b rest old new h f (step h.stage b) refl

-- The end

ended_by : (controls : Controls) (head : Head) (len : ℕ) (stage : Stage) → missing (reader_of (Open stage)) ≡ 1 →
    sorted_by controls (envelope_by head len (Open stage)) ≡ Ok (sorted_at controls head stage)
ended_by controls head len Begin e = absurd (omega arith)
ended_by controls head len (InSender begun) e = absurd (omega arith)
ended_by controls head len (Between sender recipients) e = refl
ended_by controls head len (InRecipient sender recipients begun) e = absurd (omega arith)

pub ended : (controls : Controls) (head : Head) (len : ℕ) (read : List ℕ) (sorter : Sorter) → Sorts controls head read sorter → missing sorter.reader ≡ 1 →
    sorted_by controls (envelope_by head len (read_envelope read)) ≡ Ok sorter.sorted
ended controls head len read sorter h e =
    ap (λ r. sorted_by controls (envelope_by head len r)) h.opened
    ∙ ended_by controls head len h.stage (ap missing (sym h.reader) ∙ e)
    ∙ ap (λ s. Ok s) (sym h.sorted)

early_by : (controls : Controls) (head : Head) (len : ℕ) (stage : Stage) → (missing (reader_of (Open stage)) ≡ 1 → ⊥) →
    sorted_by controls (envelope_by head len (Open stage)) ≡ Err len
early_by controls head len Begin e = refl
early_by controls head len (InSender begun) e = refl
early_by controls head len (Between sender recipients) e = absurd (e refl)
early_by controls head len (InRecipient sender recipients begun) e = refl

pub early : (controls : Controls) (head : Head) (len : ℕ) (read : List ℕ) (sorter : Sorter) → Sorts controls head read sorter → (missing sorter.reader ≡ 1 → ⊥) →
    sorted_by controls (envelope_by head len (read_envelope read)) ≡ Err len
early controls head len read sorter h e =
    ap (λ r. sorted_by controls (envelope_by head len r)) h.opened
    ∙ early_by controls head len h.stage (λ w. e (ap missing h.reader ∙ w))

-- The beginning

pub none_yet : (controls : Controls) (head : Head) (sorter : Sorter) → HasRead [] sorter.reader → sorter.sorted ≡ sorted_at controls head Begin → Sorts controls head [] sorter
unfolding read_envelope
none_yet controls head sorter reader sorted = record {
  stage = Begin;
  opened = refl;
  reader = reader;
  sorted = sorted;
  counted = let Counted : Sorted → Type 0 = λ t. t.locals + t.remotes ≤ 0 in subst Counted (sym sorted) (omega arith);
}

-- The bytes of a text, one after the other

pub fed_at : (controls : Controls) (head : Head) (whole : List ℕ) (i : ℕ) (old new : Sorter) (fits : Bool) → i < length whole → Sorts controls head (take i whole) old
    → FeedsOn controls (take i whole) (get_or whole i 0) old new fits → fits ≡ true → Sorts controls head (take (i + 1) whole) new
fed_at controls head whole i old new fits below h f is =
    subst (λ r. Sorts controls head r new) (sym (take_more whole i 0 below))
    (fed controls head (take i whole) (get_or whole i 0) old new h (subst (FeedsOn controls (take i whole) (get_or whole i 0) old new) is f))

parted : (whole : List ℕ) (i : ℕ) → i < length whole → whole ≡ take i whole ++ get_or whole i 0 ∷ drop (suc i) whole
parted whole i below = sym (take-append-drop i whole) ∙ ap (λ r. take i whole ++ r) (drop-cons whole i 0 below)

pub bad_at : (controls : Controls) (head : Head) (len : ℕ) (whole : List ℕ) (i : ℕ) (old new : Sorter) (fits : Bool) → i < length whole → Sorts controls head (take i whole) old
    → FeedsOn controls (take i whole) (get_or whole i 0) old new fits → fits ≡ false
    → sorted_by controls (envelope_by head len (read_envelope whole)) ≡ Err (head.next + i)
bad_at controls head len whole i old new fits below h f is =
    ap (λ r. sorted_by controls (envelope_by head len (read_envelope r))) (parted whole i below)
    ∙ bad controls head len (take i whole) (get_or whole i 0) (drop (suc i) whole) old new h (subst (FeedsOn controls (take i whole) (get_or whole i 0) old new) is f)
    ∙ ap (λ k. Err (head.next + k)) (length-take-le i whole (omega arith))
