-- What bytes are read as is what they say, or the place of the first byte that no todo text has there.
use Rattle.std.proofs.Common.{◌≡◌, ◌≢◌, ℕ, ◌+◌, ◌^◌, ◌<◌, List, [], ◌∷◌, ◌++◌, length, take, drop, Option, Some, None, true, false, refl, sym, ap, ◌∙◌, subst, arith, eqb, drop-drop}
use Rattle.std.specs.Prelude.{if◌then◌else◌, All, Result, Ok, Err}
use Rattle.std.proofs.lemmas.List.{append-nil, append_assoc, length-append, take_at, length_push}
use Rattle.std.proofs.lemmas.List.Elements.{All-nil, All-head, All-tail, All-weaker}
use Rattle.std.proofs.lemmas.Bool.{eqb-true}
use Rattle.std.proofs.lemmas.Bool.Decides.{Decides-eqb}
use Rattle.mail_bytes.specs.Decimal.{digits, IsDigit}
use Rattle.mail_bytes.proofs.Digits.{digits_all, digits-value}
use Rattle.envelope_records.specs.Envelope.{IsAddress, IsEnvelope, IsStart, LeadsTo, Stage, Reading, records_of, read_envelope, todo_text}
use Rattle.envelope_records.specs.Envelope.Stage.{Begin, InSender, Between, InRecipient}
use Rattle.envelope_records.specs.Envelope.Reading.{Whole, Open, Broken}
use Rattle.envelope_records.proofs.ChannelRecords.{same_todo}
use Rattle.envelope_records.proofs.Envelopes.{sound_as, read_leads, one_envelope, start_of}
use Rattle.todo_pass.specs.declared.head.Head.{Head}
use Rattle.todo_pass.specs.declared.head.Number.{Number}
use Rattle.address_rules.specs.declared.controls.Controls.{Controls}
use Rattle.todo_pass.specs.declared.sorted.Sorted.{Sorted}
use Rattle.todo_pass.specs.Sorting.{sort_todo, sorted_by, sorted_of}
use Rattle.todo_pass.specs.Todo.{Todo, IsTodo, IsTodoStart, IsFirstBad, number_from, field_from, head_with, head_by, read_head, envelope_by, todo_by, read_todo}
use Rattle.todo_pass.proofs.Numbers.{Seen, StopsAt, Outcome, reads, no_number}

-- Texts cut at a NUL

abbrev plain : ℕ → Type 0
plain b = b ≢ 0

same_cut : (a b c d : List ℕ) → All plain a → All plain c → a ++ 0 ∷ b ≡ c ++ 0 ∷ d → (a ≡ c) × (b ≡ d)
same_cut [] b [] d p q e = (refl, cc)
same_cut [] b (y ∷ c) d p q e = absurd (All-head plain y c q (cc))
same_cut (x ∷ a) b [] d p q e = absurd (All-head plain x a p (cc))
same_cut (x ∷ a) b (y ∷ c) d p q e =
    let rest : a ++ 0 ∷ b ≡ c ++ 0 ∷ d = cc in
    let tail = same_cut a b c d (All-tail plain x a p) (All-tail plain y c q) rest in
    let head : x ≡ y = cc in
    let same : a ≡ c = tail.0 in
    ((cc), tail.1)

digits_plain : (n : ℕ) → All plain (digits n)
digits_plain n = All-weaker IsDigit plain (λ b h e. let low = h.0 in absurd (omega arith)) (digits n) (digits_all n)

-- a letter, a number, NUL
abbrev field : ℕ → ℕ → List ℕ → List ℕ
field letter n rest = letter ∷ (digits n ++ 0 ∷ rest)

field_append : (letter n : ℕ) (a b : List ℕ) → field letter n a ++ b ≡ field letter n (a ++ b)
field_append letter n a b = ap (λ t. letter ∷ t) (append_assoc (digits n) (0 ∷ a) b)

same_field : (letter m n : ℕ) (a b : List ℕ) → field letter m a ≡ field letter n b → (digits m ≡ digits n) × (a ≡ b)
same_field letter m n a b e = let rest : digits m ++ 0 ∷ a ≡ digits n ++ 0 ∷ b = cc in same_cut (digits m) a (digits n) b (digits_plain m) (digits_plain n) rest

todo_is : (uid pid : ℕ) (sender : List ℕ) (recipients : List (List ℕ)) → todo_text uid pid sender recipients ≡ field 117 uid (field 112 pid (records_of sender recipients))
unfolding todo_text
todo_is uid pid sender recipients =
    field_append 117 uid (field 112 pid []) (records_of sender recipients)
    ∙ ap (field 117 uid) (field_append 112 pid [] (records_of sender recipients))

-- A field that isn't read

-- Some field begins with the prefix; none has the next byte there, and the prefix is no field's text with something after it.
record Blocked (letter : ℕ) (front rest : List ℕ) : Type 0 where
  pub number : ℕ
  pub fill : List ℕ
  pub small : number < 2 ^ 32
  pub filled : field letter number [] ≡ front ++ fill
  pub none : (b : ℕ) (tail : List ℕ) → rest ≡ b ∷ tail → (m : ℕ) (z others : List ℕ) → m < 2 ^ 32 → field letter m z ≡ front ++ b ∷ others → ⊥
  pub whole : (m : ℕ) (z : List ℕ) → field letter m z ≡ front → ⊥

abbrev FieldOutcome : ℕ → ℕ → List ℕ → Result Number ℕ → Type 0
FieldOutcome letter at bs (Ok it) = (rest : List ℕ) × (bs ≡ field letter it.value rest) × (it.value < 2 ^ 32) × (it.next ≡ (at + length (digits it.value)) + 2)
FieldOutcome letter at bs (Err place) = (front : List ℕ) × (rest : List ℕ) × (bs ≡ front ++ rest) × (place ≡ at + length front) × Blocked letter front rest

cons_nil : (x : ℕ) (xs : List ℕ) → x ∷ xs ≡ [] → ⊥
cons_nil x xs e = cc

no_letter : (letter : ℕ) (rest : List ℕ) → ((tail : List ℕ) → rest ≢ letter ∷ tail) → Blocked letter [] rest
no_letter letter rest far = record {
  number = 0;
  fill = field letter 0 [];
  small = omega arith;
  filled = refl;
  none = λ b tail is m z others small e. let same : letter ≡ b = cc in far tail (is ∙ ap (λ c. c ∷ tail) (sym same));
  whole = λ m z e. cons_nil letter (digits m ++ 0 ∷ z) e;
}

-- digits have no NUL, so a number that goes on isn't whole
seen_plain : (w : Option ℕ) (ds : List ℕ) → Seen w ds → All plain ds
seen_plain None ds seen = subst (All plain) (sym seen) (All-nil plain)
seen_plain (Some n) ds seen = All-weaker IsDigit plain (λ b h e. let low = h.0 in absurd (omega arith)) ds seen.0.only

no_cut : (a b w : List ℕ) → All plain w → a ++ 0 ∷ b ≡ w → ⊥
no_cut [] b w p e = All-head plain 0 b (subst (All plain) (sym e) p) refl
no_cut (x ∷ a) b [] p e = cc
no_cut (x ∷ a) b (y ∷ w) p e = let rest : a ++ 0 ∷ b ≡ w = cc in no_cut a b w (All-tail plain y w p) rest

-- the number that completes what was seen
completes : (w : Option ℕ) (ds : List ℕ) → Seen w ds → (n : ℕ) × (fill : List ℕ) × (n < 2 ^ 32) × (digits n ++ 0 ∷ [] ≡ ds ++ fill)
completes None ds seen = (0, digits 0 ++ 0 ∷ [], (omega arith), ap (λ t. t ++ (digits 0 ++ 0 ∷ [])) (sym seen))
completes (Some n) ds seen = (n, 0 ∷ [], seen.2, ap (λ t. t ++ 0 ∷ []) (ap digits (sym seen.1) ∙ digits-value ds seen.0))

stops_none : (w : Option ℕ) (letter : ℕ) (ds rest : List ℕ) → Seen w ds → StopsAt w rest → (b : ℕ) (tail : List ℕ) → rest ≡ b ∷ tail → (m : ℕ) (z others : List ℕ) → m < 2 ^ 32
    → field letter m z ≡ (letter ∷ ds) ++ b ∷ others → ⊥
stops_none w letter ds rest seen stops b tail is m z others small e =
    let after : digits m ++ 0 ∷ z ≡ ds ++ b ∷ others = cc in
    no_number w ds b m z others seen (subst (StopsAt w) is stops) small after

in_number : (letter : ℕ) (w : Option ℕ) (ds rest : List ℕ) → Seen w ds → StopsAt w rest → Blocked letter (letter ∷ ds) rest
in_number letter w ds rest seen stops =
    let c = completes w ds seen in
    record {
      number = c.0;
      fill = c.1;
      small = c.2;
      filled = ap (λ t. letter ∷ t) c.3;
      none = stops_none w letter ds rest seen stops;
      whole = λ m z e. let after : digits m ++ 0 ∷ z ≡ ds = cc in no_cut (digits m) z ds (seen_plain w ds seen) after;
    }

number_field : (letter at : ℕ) (bs : List ℕ) (o : Result Number ℕ) → Outcome [] (at + 1) bs o → FieldOutcome letter at (letter ∷ bs) o
number_field letter at bs (Ok it) h =
    let is : h.0 ≡ digits it.value = h.3 in
    (h.1, ap (λ t. letter ∷ t) (h.2 ∙ ap (λ t. t ++ 0 ∷ h.1) is), h.4, h.5 ∙ ap (λ t. ((at + 1) + length t) + 1) is ∙ (omega arith))
number_field letter at bs (Err place) h =
    (letter ∷ h.0, h.1, ap (λ t. letter ∷ t) h.3, h.6 ∙ (omega arith), in_number letter h.2 h.0 h.1 h.4 h.5)

head_cons : (b letter : ℕ) (bs tail : List ℕ) → b ∷ bs ≡ letter ∷ tail → b ≡ letter
head_cons b letter bs tail e = cc

field_reads : (letter at : ℕ) (bs : List ℕ) → FieldOutcome letter at bs (field_from letter at bs)
field_reads letter at [] = ([], [], refl, (omega arith), no_letter letter [] (λ tail e. cons_nil letter tail (sym e)))
field_reads letter at (b ∷ bs) =
    elim (eqb b letter) as (λ t. eqb b letter ≡ t → FieldOutcome letter at (b ∷ bs) (if t then number_from None (at + 1) bs else Err at)) [
      | true ↦ λ same. subst (λ c. FieldOutcome letter at (c ∷ bs) (number_from None (at + 1) bs)) (sym (eqb-true b letter same))
          (number_field letter at bs (number_from None (at + 1) bs) (reads None [] (at + 1) bs refl))
      | false ↦ λ apart. (
        [],
        b ∷ bs,
        refl,
        (omega arith),
        no_letter letter (b ∷ bs) (λ tail e.
            let yes : eqb b letter ≡ true = ap (λ c. eqb c letter) (head_cons b letter bs tail e) ∙ (Decides-eqb letter letter).1 refl in absurd (cc)),
      )
    ] refl

-- The first bad byte

record Stops (front rest : List ℕ) : Type 0 where
  pub start : IsTodoStart front
  pub none : (b : ℕ) (tail : List ℕ) → rest ≡ b ∷ tail → IsTodoStart (front ++ b ∷ []) → ⊥
  pub whole : rest ≡ [] → (it : Todo) → IsTodo front it → ⊥

whole_by : (front rest : List ℕ) → Stops front rest → (it : Todo) → IsTodo (front ++ rest) it → ⊥
whole_by front [] s it h = s.whole refl it (subst (λ t. IsTodo t it) (append-nil front) h)
whole_by front (b ∷ tail) s it h =
    s.none b tail refl (record { rest = tail; it = it; whole = subst (λ t. IsTodo t it) (sym (append_assoc front (b ∷ []) tail)) h })

none_by : (front rest : List ℕ) → Stops front rest → length front < length (front ++ rest) → IsTodoStart (take (length front + 1) (front ++ rest)) → ⊥
none_by front [] s below h = absurd (omega (arith, length-append front []))
none_by front (b ∷ tail) s below h =
    s.none b tail refl (subst IsTodoStart (ap (take (length front + 1)) (sym (append_assoc front (b ∷ []) tail)) ∙ take_at (front ++ b ∷ []) tail (length front + 1) (length_push front b)) h)

first_bad : (front rest : List ℕ) → Stops front rest → IsFirstBad (front ++ rest) (length front)
first_bad front rest s = record {
  inside = omega (arith, length-append front rest);
  start = subst IsTodoStart (sym (take_at front rest (length front) refl)) s.start;
  none = none_by front rest s;
  whole = whole_by front rest s;
}

-- Todo texts by their fields

-- the todo text of two numbers and no sender, no recipients
abbrev least : ℕ → ℕ → Todo
least u p = record { uid = u; pid = p; sender = []; recipients = [] }

abbrev records_in : Todo → List ℕ
records_in it = records_of it.sender it.recipients

-- `u` U NUL `p` P NUL, then this
abbrev headed : ℕ → ℕ → List ℕ → List ℕ
headed u p rest = field 117 u (field 112 p rest)

nil_address : IsAddress []
nil_address = record { short = omega arith; plain = All-nil plain }

as_fields : (bytes : List ℕ) (it : Todo) → IsTodo bytes it → bytes ≡ headed it.uid it.pid (records_in it)
as_fields bytes it h = h.text ∙ todo_is it.uid it.pid it.sender it.recipients

least_is : (bytes : List ℕ) (u p : ℕ) → u < 2 ^ 32 → p < 2 ^ 32 → bytes ≡ headed u p (records_of [] []) → IsTodo bytes (least u p)
least_is bytes u p small fits e = record {
  text = e ∙ sym (todo_is u p [] []);
  uid_fits = small;
  pid_fits = fits;
  from = nil_address;
  to = All-nil IsAddress;
}

-- one byte more, and what a todo text has after it
pushed : (front : List ℕ) (b : ℕ) (rest : List ℕ) → (front ++ b ∷ []) ++ rest ≡ front ++ b ∷ rest
pushed front b rest = append_assoc front (b ∷ []) rest

started : (front : List ℕ) (b : ℕ) (s : IsTodoStart (front ++ b ∷ [])) → headed s.it.uid s.it.pid (records_in s.it) ≡ front ++ b ∷ s.rest
started front b s = sym (as_fields ((front ++ b ∷ []) ++ s.rest) s.it s.whole) ∙ pushed front b s.rest

-- Where reading stops

open_same : (a b : Stage) → Open a ≡ Open b → a ≡ b
open_same a b e = cc

stops_uid : (front rest : List ℕ) → Blocked 117 front rest → Stops front rest
stops_uid front rest k =
    let after : List ℕ = field 112 0 (records_of [] []) in
    record {
      start = record {
        rest = k.fill ++ after;
        it = least k.number 0;
        whole = least_is (front ++ (k.fill ++ after)) k.number 0 k.small (omega arith)
            (sym (append_assoc front k.fill after) ∙ ap (λ t. t ++ after) (sym k.filled) ∙ field_append 117 k.number [] after);
      };
      none = λ b tail is s. k.none b tail is s.it.uid (field 112 s.it.pid (records_in s.it)) s.rest s.whole.uid_fits (started front b s);
      whole = λ end it h. k.whole it.uid (field 112 it.pid (records_in it)) (sym (as_fields front it h));
    }

stops_pid : (u : ℕ) (front rest : List ℕ) → u < 2 ^ 32 → Blocked 112 front rest → Stops (field 117 u front) rest
stops_pid u front rest small k =
    let after : List ℕ = records_of [] [] in
    record {
      start = record {
        rest = k.fill ++ after;
        it = least u k.number;
        whole = least_is (field 117 u front ++ (k.fill ++ after)) u k.number small k.small
            (field_append 117 u front (k.fill ++ after) ∙ ap (field 117 u) (sym (append_assoc front k.fill after) ∙ ap (λ t. t ++ after) (sym k.filled) ∙ field_append 112 k.number [] after));
      };
      none = λ b tail is s.
          let cut = same_field 117 s.it.uid u (field 112 s.it.pid (records_in s.it)) (front ++ b ∷ s.rest) (started (field 117 u front) b s ∙ field_append 117 u front (b ∷ s.rest)) in
          k.none b tail is s.it.pid (records_in s.it) s.rest s.whole.pid_fits cut.1;
      whole = λ end it h.
          let cut = same_field 117 it.uid u (field 112 it.pid (records_in it)) front (sym (as_fields (field 117 u front) it h)) in
          k.whole it.pid (records_in it) cut.1;
    }

headed_append : (u p : ℕ) (a b : List ℕ) → headed u p a ++ b ≡ headed u p (a ++ b)
headed_append u p a b = field_append 117 u (field 112 p a) b ∙ ap (field 117 u) (field_append 112 p a b)

same_headed : (u p v q : ℕ) (a b : List ℕ) → headed u p a ≡ headed v q b → a ≡ b
same_headed u p v q a b e =
    let cut = same_field 117 u v (field 112 p a) (field 112 q b) e in
    let again = same_field 112 p q a b cut.1 in
    again.1

-- what comes before the last byte of an envelope
drop_last : (xs ys zs : List ℕ) (c : ℕ) → ys ≢ [] → xs ++ ys ≡ zs ++ c ∷ [] → (ws : List ℕ) × (xs ++ ws ≡ zs)
drop_last [] ys zs c some e = (zs, refl)
drop_last (x ∷ xs) ys [] c some e =
    let none : xs ++ ys ≡ [] = cc in
    absurd (some (nil_right xs ys none)) where
      nil_right : (a b : List ℕ) → a ++ b ≡ [] → b ≡ []
      nil_right [] b e = e
      nil_right (x ∷ a) b e = absurd (cons_nil x (a ++ b) e)
drop_last (x ∷ xs) ys (z ∷ zs) c some e =
    let head : x ≡ z = cc in
    let rest : xs ++ ys ≡ zs ++ c ∷ [] = cc in
    let w = drop_last xs ys zs c some rest in
    (w.0, ap (λ t. x ∷ t) w.1 ∙ ap (λ t. t ∷ zs) head)

starts_by : (u p : ℕ) (front : List ℕ) (stage : Stage) → u < 2 ^ 32 → p < 2 ^ 32 → LeadsTo front stage → IsTodoStart (headed u p front)
starts_by u p front stage small fits l =
    let s = l.start in
    let w = drop_last front s.rest (records_of s.sender s.recipients) 0 s.some s.whole.text in
    record {
      rest = w.0;
      it = record { uid = u; pid = p; sender = s.sender; recipients = s.recipients };
      whole = record {
        text = headed_append u p front w.0 ∙ ap (headed u p) w.1 ∙ sym (todo_is u p s.sender s.recipients);
        uid_fits = small;
        pid_fits = fits;
        from = s.whole.from;
        to = s.whole.to;
      };
    }

-- its records, as an envelope
envelope_of : (it : Todo) (bytes : List ℕ) → IsTodo bytes it → IsEnvelope (records_in it ++ 0 ∷ []) it.sender it.recipients
envelope_of it bytes h = record { text = refl; from = h.from; to = h.to }

started_records : (u p : ℕ) (front : List ℕ) (b : ℕ) (s : IsTodoStart (headed u p front ++ b ∷ [])) → records_in s.it ≡ front ++ b ∷ s.rest
started_records u p front b s =
    same_headed s.it.uid s.it.pid u p (records_in s.it) (front ++ b ∷ s.rest) (started (headed u p front) b s ∙ headed_append u p front (b ∷ s.rest))

stops_broken : (u p : ℕ) (before : List ℕ) (byte : ℕ) (rest : List ℕ) (stage : Stage) → u < 2 ^ 32 → p < 2 ^ 32 → LeadsTo before stage
    → ((more sender : List ℕ) (recipients : List (List ℕ)) → IsEnvelope (before ++ byte ∷ more) sender recipients → ⊥) → Stops (headed u p before) (byte ∷ rest)
stops_broken u p before byte rest stage small fits l none = record {
  start = starts_by u p before stage small fits l;
  none = λ b tail is s.
      let same : byte ≡ b = cc in
      let records = started_records u p before b s in
      let text : records_in s.it ++ 0 ∷ [] ≡ before ++ byte ∷ (s.rest ++ 0 ∷ []) =
      ap (λ t. t ++ 0 ∷ []) records ∙ append_assoc before (b ∷ s.rest) (0 ∷ []) ∙ ap (λ c. before ++ c ∷ (s.rest ++ 0 ∷ [])) (sym same) in
      none (s.rest ++ 0 ∷ []) s.it.sender s.it.recipients (subst (λ t. IsEnvelope t s.it.sender s.it.recipients) text (envelope_of s.it _ s.whole));
  whole = λ end it h. absurd (cons_nil byte rest end);
}

stops_whole : (u p : ℕ) (sender : List ℕ) (recipients : List (List ℕ)) (rest : List ℕ) → u < 2 ^ 32 → p < 2 ^ 32
    → IsEnvelope (records_of sender recipients ++ 0 ∷ []) sender recipients → Stops (headed u p (records_of sender recipients)) (0 ∷ rest)
stops_whole u p sender recipients rest small fits h = record {
  start = record {
    rest = [];
    it = record { uid = u; pid = p; sender = sender; recipients = recipients };
    whole = record {
      text = append-nil (headed u p (records_of sender recipients)) ∙ sym (todo_is u p sender recipients);
      uid_fits = small;
      pid_fits = fits;
      from = h.from;
      to = h.to;
    };
  };
  none = λ b tail is s.
      let same : 0 ≡ b = cc in
      let R : List ℕ = records_of sender recipients in
      let records : records_in s.it ≡ R ++ 0 ∷ s.rest = started_records u p R b s ∙ ap (λ c. R ++ c ∷ s.rest) (sym same) in
      let joined : (R ++ 0 ∷ []) ++ (s.rest ++ 0 ∷ []) ≡ (records_in s.it ++ 0 ∷ []) ++ [] =
      append_assoc R (0 ∷ []) (s.rest ++ 0 ∷ []) ∙ sym (append_assoc R (0 ∷ s.rest) (0 ∷ [])) ∙ ap (λ t. t ++ 0 ∷ []) (sym records) ∙ sym (append-nil (records_in s.it ++ 0 ∷ [])) in
      let one = (one_envelope (R ++ 0 ∷ []) (records_in s.it ++ 0 ∷ []) (s.rest ++ 0 ∷ []) [] sender s.it.sender recipients s.it.recipients h (envelope_of s.it _ s.whole) joined).0 in
      absurd (omega (arith, ap length one, ap length records, length-append R (0 ∷ []), length-append (records_in s.it) (0 ∷ []), length-append R (0 ∷ s.rest)));
  whole = λ end it h. absurd (cons_nil 0 rest end);
}

-- an envelope that isn't between records isn't one of a todo text
stops_early : (u p : ℕ) (front : List ℕ) (stage : Stage) → u < 2 ^ 32 → p < 2 ^ 32 → read_envelope front ≡ Open stage
    → ((sender : List ℕ) (recipients : List (List ℕ)) → stage ≢ Between sender recipients) → Stops (headed u p front) []
stops_early u p front stage small fits opened far = record {
  start = starts_by u p front stage small fits (sound_as front (Open stage) opened);
  none = λ b tail is s. absurd (cons_nil b tail (sym is));
  whole = λ end it h.
      let records : front ≡ records_in it = same_headed u p it.uid it.pid front (records_in it) (as_fields (headed u p front) it h) in
      let between : read_envelope front ≡ Open (Between it.sender it.recipients) =
      read_leads front (Between it.sender it.recipients) (record {
        text = records;
        addresses = (h.from, h.to);
        start = subst IsStart (sym records) (start_of (Between it.sender it.recipients) (h.from, h.to));
      }) in
      let same : stage ≡ Between it.sender it.recipients = open_same stage (Between it.sender it.recipients) (sym opened ∙ between) in
      far it.sender it.recipients same;
}

-- What is read

abbrev Holds : List ℕ → Result Todo ℕ → Type 0
Holds bytes (Ok it) = IsTodo bytes it
Holds bytes (Err at) = IsFirstBad bytes at

bad_at : (bytes front rest : List ℕ) (place : ℕ) → bytes ≡ front ++ rest → place ≡ length front → Stops front rest → IsFirstBad bytes place
bad_at bytes front rest place e is s = subst (λ t. IsFirstBad t place) (sym e) (subst (IsFirstBad (front ++ rest)) (sym is) (first_bad front rest s))

length_field : (letter n : ℕ) (rest : List ℕ) → length (field letter n rest) ≡ (length (digits n) + 2) + length rest
length_field letter n rest = omega (arith, length-append (digits n) (0 ∷ rest))

length_headed : (u p : ℕ) (rest : List ℕ) → length (headed u p rest) ≡ ((length (digits u) + 2) + (length (digits p) + 2)) + length rest
length_headed u p rest = omega (arith, length_field 117 u (field 112 p rest), length_field 112 p rest)

by_envelope : (u p next : ℕ) (rest : List ℕ) (r : Reading) → u < 2 ^ 32 → p < 2 ^ 32 → next ≡ (length (digits u) + 2) + (length (digits p) + 2) → read_envelope rest ≡ r
    → Holds (headed u p rest) (envelope_by (record { uid = u; pid = p; next = next }) (length (headed u p rest)) r)
by_envelope u p next rest (Open Begin) small fits is e =
    bad_at (headed u p rest) (headed u p rest) [] _ (sym (append-nil (headed u p rest))) refl (stops_early u p rest Begin small fits e (λ s rs x. cc))
by_envelope u p next rest (Open (InSender begun)) small fits is e =
    bad_at (headed u p rest) (headed u p rest) [] _ (sym (append-nil (headed u p rest))) refl (stops_early u p rest (InSender begun) small fits e (λ s rs x. cc))
by_envelope u p next rest (Open (InRecipient sender recipients begun)) small fits is e =
    bad_at (headed u p rest) (headed u p rest) [] _ (sym (append-nil (headed u p rest))) refl (stops_early u p rest (InRecipient sender recipients begun) small fits e (λ s rs x. cc))
by_envelope u p next rest (Open (Between sender recipients)) small fits is e =
    let l = sound_as rest (Open (Between sender recipients)) e in
    record {
      text = ap (headed u p) l.text ∙ sym (todo_is u p sender recipients);
      uid_fits = small;
      pid_fits = fits;
      from = l.addresses.0;
      to = l.addresses.1;
    }
by_envelope u p next rest (Whole sender recipients) small fits is e =
    let h = sound_as rest (Whole sender recipients) e in
    let R : List ℕ = records_of sender recipients in
    let parts : rest ≡ R ++ 0 ∷ h.rest = h.split ∙ ap (λ t. t ++ h.rest) h.whole.text ∙ append_assoc R (0 ∷ []) h.rest in
    bad_at (headed u p rest) (headed u p R) (0 ∷ h.rest) (next + length R) (ap (headed u p) parts ∙ sym (headed_append u p R (0 ∷ h.rest)))
    (let len = length_headed u p R in omega arith)
    (stops_whole u p sender recipients h.rest small fits (subst (λ t. IsEnvelope t sender recipients) h.whole.text h.whole))
by_envelope u p next rest (Broken before fault) small fits is e =
    let h = sound_as rest (Broken before fault) e in
    bad_at (headed u p rest) (headed u p before) (h.byte ∷ h.rest) (next + length before) (ap (headed u p) h.split ∙ sym (headed_append u p before (h.byte ∷ h.rest)))
    (let len = length_headed u p before in omega arith)
    (stops_broken u p before h.byte h.rest h.stage small fits h.leads h.none)

drop_field : (letter n : ℕ) (rest : List ℕ) → drop (length (digits n) + 2) (field letter n rest) ≡ rest
drop_field letter n rest =
    let front : List ℕ = field letter n [] in
    let len : length front ≡ length (digits n) + 2 = length_field letter n [] ∙ (omega arith) in
    ap (λ k. drop k (field letter n rest)) (sym len) ∙ ap (drop (length front)) (sym (field_append letter n [] rest)) ∙ drop_front front rest where
      drop_front : (xs ys : List ℕ) → drop (length xs) (xs ++ ys) ≡ ys
      drop_front [] ys = refl
      drop_front (x ∷ xs) ys = drop_front xs ys

by_pid : (u next : ℕ) (after : List ℕ) (o : Result Number ℕ) → u < 2 ^ 32 → next ≡ length (digits u) + 2 → FieldOutcome 112 next after o
    → Holds (field 117 u after) (todo_by (field 117 u after) (head_with u o))
by_pid u next after (Err place) small is h =
    bad_at (field 117 u after) (field 117 u h.0) h.1 place (ap (field 117 u) h.2 ∙ sym (field_append 117 u h.0 h.1))
    (let len = length_field 117 u h.0 in let at = h.3 in omega arith) (stops_pid u h.0 h.1 small h.4)
by_pid u next after (Ok pid) small is h =
    let p : ℕ = pid.value in
    let head : Head = record { uid = u; pid = p; next = pid.next } in
    let at : pid.next ≡ (length (digits u) + 2) + (length (digits p) + 2) = h.3 ∙ (omega arith) in
    let whole : field 117 u after ≡ headed u p h.0 = ap (field 117 u) h.1 in
    let rest : drop pid.next (headed u p h.0) ≡ h.0 =
    ap (λ k. drop k (headed u p h.0)) at ∙ sym (drop-drop (length (digits p) + 2) (length (digits u) + 2) (headed u p h.0))
    ∙ ap (drop (length (digits p) + 2)) (drop_field 117 u (field 112 p h.0)) ∙ drop_field 112 p h.0 in
    subst (λ t. Holds t (envelope_by head (length t) (read_envelope (drop pid.next t)))) (sym whole)
    (subst (λ t. Holds (headed u p h.0) (envelope_by head (length (headed u p h.0)) (read_envelope t))) (sym rest)
    (by_envelope u p pid.next h.0 (read_envelope h.0) small h.2 at refl))

by_uid : (bytes : List ℕ) (o : Result Number ℕ) → FieldOutcome 117 0 bytes o → Holds bytes (todo_by bytes (head_by bytes o))
by_uid bytes (Err place) h = bad_at bytes h.0 h.1 place h.2 (h.3 ∙ (omega arith)) (stops_uid h.0 h.1 h.4)
by_uid bytes (Ok uid) h =
    let u : ℕ = uid.value in
    let next : uid.next ≡ length (digits u) + 2 = h.3 ∙ (omega arith) in
    let after : drop uid.next (field 117 u h.0) ≡ h.0 = ap (λ k. drop k (field 117 u h.0)) next ∙ drop_field 117 u h.0 in
    subst (λ t. Holds t (todo_by t (head_with u (field_from 112 uid.next (drop uid.next t))))) (sym h.1)
    (subst (λ t. Holds (field 117 u h.0) (todo_by (field 117 u h.0) (head_with u (field_from 112 uid.next t)))) (sym after)
    (by_pid u uid.next h.0 (field_from 112 uid.next h.0) h.2 next (field_reads 112 uid.next h.0)))

read_holds : (bytes : List ℕ) → Holds bytes (read_todo bytes)
unfolding read_todo read_head
read_holds bytes = by_uid bytes (field_from 117 0 bytes) (field_reads 117 0 bytes)

pub what_is_read : (bytes : List ℕ) (it : Todo) → read_todo bytes ≡ Ok it → IsTodo bytes it
what_is_read bytes it e = subst (Holds bytes) e (read_holds bytes)

pub what_is_bad : (bytes : List ℕ) (at : ℕ) → read_todo bytes ≡ Err at → IsFirstBad bytes at
what_is_bad bytes at e = subst (Holds bytes) e (read_holds bytes)

-- a todo text is read
read_by : (bytes : List ℕ) (it : Todo) (o : Result Todo ℕ) → IsTodo bytes it → Holds bytes o → o ≡ Ok it
read_by bytes it (Err at) h bad = absurd (bad.whole it h)
read_by bytes it (Ok other) h is =
    let same = same_todo it.uid it.pid other.uid other.pid it.sender other.sender it.recipients other.recipients h.from.plain (plain_all it.recipients h.to)
    is.from.plain (plain_all other.recipients is.to) (sym h.text ∙ is.text) in
    let one : it.uid ≡ other.uid = same.0 in
    let two : it.pid ≡ other.pid = same.1 in
    let three : it.sender ≡ other.sender = same.2 in
    let four : it.recipients ≡ other.recipients = same.3 in
    ap (λ (t : Todo). Ok t) (λ i. record { uid = sym one i; pid = sym two i; sender = sym three i; recipients = sym four i }) where
      plain_all : (rs : List (List ℕ)) → All IsAddress rs → All (λ r. All plain r) rs
      plain_all rs h = All-weaker IsAddress (λ r. All plain r) (λ r a. a.plain) rs h

pub read_if : (bytes : List ℕ) (it : Todo) → IsTodo bytes it → read_todo bytes ≡ Ok it
read_if bytes it h = read_by bytes it (read_todo bytes) h (read_holds bytes)

-- What is sorted

sorted_says_by : (controls : Controls) (bytes : List ℕ) (s : Sorted) (o : Result Todo ℕ) → read_todo bytes ≡ o → sorted_by controls o ≡ Ok s
    → (it : Todo) × IsTodo bytes it × (s ≡ sorted_of controls it)
sorted_says_by controls bytes s (Ok it) read e = let same : sorted_of controls it ≡ s = cc in (it, what_is_read bytes it read, sym same)
sorted_says_by controls bytes s (Err place) read e = absurd (cc)

pub sorted_says : (controls : Controls) (bytes : List ℕ) (s : Sorted) → sort_todo controls bytes ≡ Ok s → (it : Todo) × IsTodo bytes it × (s ≡ sorted_of controls it)
unfolding sort_todo
sorted_says controls bytes s e = sorted_says_by controls bytes s (read_todo bytes) refl e

sorted_bad_by : (controls : Controls) (bytes : List ℕ) (place : ℕ) (o : Result Todo ℕ) → read_todo bytes ≡ o → sorted_by controls o ≡ Err place → IsFirstBad bytes place
sorted_bad_by controls bytes place (Ok it) read e = absurd (cc)
sorted_bad_by controls bytes place (Err at) read e = let same : at ≡ place = cc in what_is_bad bytes place (read ∙ ap (λ k. Err k) same)

pub sorted_bad : (controls : Controls) (bytes : List ℕ) (place : ℕ) → sort_todo controls bytes ≡ Err place → IsFirstBad bytes place
unfolding sort_todo
sorted_bad controls bytes place e = sorted_bad_by controls bytes place (read_todo bytes) refl e
