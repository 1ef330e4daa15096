-- The notes that a bounce file has stay.
use Rattle.std.proofs.Common.{◌≡◌, ℕ, ◌+◌, ◌≤◌, List, [], ◌∷◌, ◌++◌, length, take, Option, Some, None, Bool, true, false, bytes_eq, inr, refl, sym, ap, ◌∙◌, subst, ⊎_elim, arith, append_assoc, append-nil, eqb-true}
use Rattle.std.specs.Prelude.{◌&&◌, ◌||◌, ◌==◌, if◌then◌else◌}
use Rattle.std.proofs.lemmas.Bool.{and_parts, eq-eqb}
use Rattle.address_rules.specs.declared.controls.Controls.{Controls}
use Rattle.address_rules.specs.Names.{stripped}
use Rattle.address_rules.specs.Routes.{address_in, route_of}
use Rattle.bounce_record.specs.Notes.{count, note_name, with_note}
use Rattle.bounce_record.specs.Resting.{BeginsWith, IsWhole}
use Rattle.bounce_record.specs.Resting.IsWhole.{Bare}
use Rattle.bounce_record.proofs.Counting.{count_more}
use Rattle.bounce_record.proofs.Resting.{created, grows, grows_in_part, named_in, survives, syncs, whole}
use Rattle.call_fs.specs.Apply.{empty_file, synced}
use Rattle.call_fs.specs.Disk.{Among, File}
use Rattle.envelope_records.specs.Envelope.{record_of}
use Rattle.queue_inject.specs.declared.injection.Arguments.{Arguments}
use Rattle.queue_inject.specs.Texts.{recipients_of}
use Rattle.send_known.specs.declared.channel.Channel.{Channel}
use Rattle.send_known.specs.declared.channel.Channel.TheVariants.{Local, Remote}
use Rattle.queue_law.specs.Books.{Injection, routed_in, spot_in}
use Rattle.queue_law.specs.Ledgers.{Bounced, Named, Spot}
use Rattle.queue_law.specs.Notes.{Covers, HasNotes, HeldOrReturned, NotesDone, NotesAccount, NotesState, NotesStay, counted_among, counted_as, is_channel, is_noted_as, is_spot, name_at, name_in, named_now, noted_as, one_if, told_name, with_bounced, with_noted}
use Rattle.queue_law.specs.Notes.HeldOrReturned.{Held, Returned, Void}
use Rattle.queue_law.specs.Notes.NotesDone.{Dropped, Injected, Nothing}
use Rattle.queue_law.specs.Notes.NotesState.{Gone, There}
use Rattle.queue_law.specs.Routes.{Recipient, routed, spot_after, spot_of}
use Rattle.queue_law.proofs.Places.{longer, on_route, size, to}

-- nobody is noted

none_among : (routes : Controls) (noted : List Named) (earlier later : List (List ℕ)) (name : List ℕ) → noted ≡ [] → counted_among routes (is_noted_as noted name) earlier later ≡ 0
none_among routes noted earlier [] name e = refl
none_among routes noted earlier (address ∷ later) name e =
    let here : one_if (is_noted_as noted name (spot_after routes earlier address) (address_in (route_of routes address))) ≡ 0 =
    ap (λ (t : List Named). one_if (is_noted_as t name (spot_after routes earlier address) (address_in (route_of routes address)))) e in
    let rest = none_among routes noted (earlier ++ address ∷ []) later name e in
    omega (arith, here, rest)

covers_none : (i : Injection) (text : List ℕ) → i.ledger.noted ≡ [] → Covers i text
covers_none i text e name =
    let none : noted_as i name ≡ 0 = none_among i.ledger.routes i.ledger.noted [] (recipients_of i.args) name e in omega (arith, none)

-- No two recipients have one spot

spots_apart : (controls : Controls) (args : Arguments) (ch : Channel) (r s : Recipient args) → (spot_of controls args r).channel ≡ ch → (spot_of controls args s).channel ≡ ch
    → (spot_of controls args r).place ≡ (spot_of controls args s).place → (g : List (List ℕ)) → s.earlier ≡ r.earlier ++ r.address ∷ g → ⊥
spots_apart controls args ch r s on on' same g later =
    let p = on_route controls r.earlier r.address ch (route_of controls r.address) refl on in
    let o = on_route controls s.earlier s.address ch (route_of controls s.address) refl on' in
    let p_at = p.1 in
    let o_at = o.1 in
    let t = longer (to controls ch) r.earlier g r.address (routed controls args r) p.0 in
    let v = ap (size controls ch) later in
    let one : length (record_of (routed controls args r)) ≡ length (84 ∷ (routed controls args r ++ 0 ∷ [])) = refl in
    omega (arith, one)

same_channel : (c e : Channel) → is_channel c e ≡ true → c ≡ e
same_channel Local Local h = refl
same_channel Remote Remote h = refl
same_channel Local Remote h = absurd (cc)
same_channel Remote Local h = absurd (cc)

pub same_spot : (s t : Spot) → is_spot s t ≡ true → (s.channel ≡ t.channel) × (s.place ≡ t.place)
same_spot s t h =
    let w = and_parts (is_channel s.channel t.channel) (s.place == t.place) h in
    (same_channel s.channel t.channel w.0, eqb-true s.place t.place w.1)

-- Counting recipients

joined : (routes : Controls) (such : Spot → List ℕ → Bool) (e xs ys : List (List ℕ))
    → counted_among routes such e (xs ++ ys) ≡ counted_among routes such e xs + counted_among routes such (e ++ xs) ys
joined routes such e [] ys =
    let same : counted_among routes such e ys ≡ counted_among routes such (e ++ []) ys =
    ap (λ (t : List (List ℕ)). counted_among routes such t ys) (sym (append-nil e)) in
    let nothing : counted_among routes such e [] ≡ 0 = refl in
    omega (arith, nothing, same)
joined routes such e (x ∷ xs) ys =
    let rest = joined routes such (e ++ x ∷ []) xs ys in
    let same = ap (λ (t : List (List ℕ)). counted_among routes such t ys) (append_assoc e (x ∷ []) xs) in
    omega (arith, rest, same)

one_more : (b c d : Bool) → one_if ((b && d) || c) ≤ one_if c + one_if d
one_more true true true = omega arith
one_more true true false = omega arith
one_more true false true = omega arith
one_more true false false = omega arith
one_more false true true = omega arith
one_more false true false = omega arith
one_more false false true = omega arith
one_more false false false = omega arith

module _ (by : Controls) (i : Injection) (r : Recipient i.args) (name : List ℕ) where
  abbrev routes : Controls
  routes = i.ledger.routes

  abbrev spot : Spot
  spot = spot_in i r

  -- one recipient more is noted
  abbrev one : Named
  one = record { spot = spot; by = by }

  abbrev less : Spot → List ℕ → Bool
  less = is_noted_as i.ledger.noted name

  abbrev more : Spot → List ℕ → Bool
  more = is_noted_as (one ∷ i.ledger.noted) name

  others_same : (e xs : List (List ℕ)) → ((f g : List (List ℕ)) (a : List ℕ) → xs ≡ f ++ a ∷ g → is_spot (spot_after routes (e ++ f) a) spot ≡ false)
      → counted_among routes more e xs ≡ counted_among routes less e xs
  others_same e [] apart = refl
  others_same e (x ∷ xs) apart =
      let address = address_in (route_of routes x) in
      let here : is_spot (spot_after routes e x) spot ≡ false =
      ap (λ (t : List (List ℕ)). is_spot (spot_after routes t x) spot) (sym (append-nil e)) ∙ apart [] xs x refl in
      let same : one_if (more (spot_after routes e x) address) ≡ one_if (less (spot_after routes e x) address) =
      ap (λ (b : Bool). one_if ((b && bytes_eq (told_name by address) name) || less (spot_after routes e x) address)) here in
      let rest : counted_among routes more (e ++ x ∷ []) xs ≡ counted_among routes less (e ++ x ∷ []) xs =
      others_same (e ++ x ∷ []) xs (λ f g a split.
      ap (λ (t : List (List ℕ)). is_spot (spot_after routes t a) spot) (append_assoc e (x ∷ []) f) ∙ apart (x ∷ f) g a (ap (λ (t : List (List ℕ)). x ∷ t) split)) in
      omega (arith, same, rest)

  -- a recipient with those before it
  abbrev at : (f g : List (List ℕ)) (a : List ℕ) → recipients_of i.args ≡ f ++ a ∷ g → Recipient i.args
  at f g a split = record { earlier = f; address = a; later = g; split = split }

  not_true : (b : Bool) → (b ≡ true → ⊥) → b ≡ false
  not_true true h = absurd (h refl)
  not_true false h = refl

  before : (f g : List (List ℕ)) (a : List ℕ) → r.earlier ≡ f ++ a ∷ g → is_spot (spot_after routes ([] ++ f) a) spot ≡ false
  before f g a split = not_true (is_spot (spot_after routes f a) spot) (λ same.
      let whole : recipients_of i.args ≡ f ++ a ∷ (g ++ r.address ∷ r.later) = r.split ∙ ap (λ (t : List (List ℕ)). t ++ r.address ∷ r.later) split ∙ append_assoc f (a ∷ g) (r.address ∷ r.later) in
      let w = same_spot (spot_after routes f a) spot same in
      spots_apart routes i.args spot.channel (at f (g ++ r.address ∷ r.later) a whole) r w.0 refl w.1 g split)

  after : (f g : List (List ℕ)) (a : List ℕ) → r.later ≡ f ++ a ∷ g → is_spot (spot_after routes ((r.earlier ++ r.address ∷ []) ++ f) a) spot ≡ false
  after f g a split = not_true (is_spot (spot_after routes ((r.earlier ++ r.address ∷ []) ++ f) a) spot) (λ same.
      let front : (r.earlier ++ r.address ∷ []) ++ f ≡ r.earlier ++ r.address ∷ f = append_assoc r.earlier (r.address ∷ []) f in
      let whole : recipients_of i.args ≡ ((r.earlier ++ r.address ∷ []) ++ f) ++ a ∷ g =
      r.split ∙ ap (λ (t : List (List ℕ)). r.earlier ++ r.address ∷ t) split ∙ sym (ap (λ (t : List (List ℕ)). t ++ a ∷ g) front ∙ append_assoc r.earlier (r.address ∷ f) (a ∷ g)) in
      let w = same_spot (spot_after routes ((r.earlier ++ r.address ∷ []) ++ f) a) spot same in
      spots_apart routes i.args spot.channel r (at ((r.earlier ++ r.address ∷ []) ++ f) g a whole) refl w.0 (sym w.1) f front)

  abbrev counts : (Spot → List ℕ → Bool) → ℕ
  counts such = one_if (such spot (routed_in i r))

  noted_more : noted_as (with_noted one i) name ≤ noted_as i name + one_if (bytes_eq (told_name by (routed_in i r)) name)
  noted_more =
      let of_more : noted_as (with_noted one i) name ≡ counted_among routes more [] r.earlier + (counts more + counted_among routes more (r.earlier ++ r.address ∷ []) r.later) =
      ap (λ (t : List (List ℕ)). counted_among routes more [] t) r.split ∙ joined routes more [] r.earlier (r.address ∷ r.later) in
      let of_less : noted_as i name ≡ counted_among routes less [] r.earlier + (counts less + counted_among routes less (r.earlier ++ r.address ∷ []) r.later) =
      ap (λ (t : List (List ℕ)). counted_among routes less [] t) r.split ∙ joined routes less [] r.earlier (r.address ∷ r.later) in
      let first : counted_among routes more [] r.earlier ≡ counted_among routes less [] r.earlier = others_same [] r.earlier (λ f g a split. before f g a split) in
      let last : counted_among routes more (r.earlier ++ r.address ∷ []) r.later ≡ counted_among routes less (r.earlier ++ r.address ∷ []) r.later =
      others_same (r.earlier ++ r.address ∷ []) r.later (λ f g a split. after f g a split) in
      let here : counts more ≤ counts less + one_if (bytes_eq (told_name by (routed_in i r)) name) =
      one_more (is_spot spot spot) (less spot (routed_in i r)) (bytes_eq (told_name by (routed_in i r)) name) in
      omega (arith, of_more, of_less, first, last, here)

entered : (by : Controls) (i : Injection) (r : Recipient i.args) (base report : List ℕ) (f : File) → Covers i base
    → f.bytes ≡ with_note base (stripped by.virtual_domains (routed_in i r)) report → HasNotes (with_noted (record { spot = spot_in i r; by = by }) i) (synced f)
entered by i r base report f old e =
    let address : List ℕ = stripped by.virtual_domains (routed_in i r) in
    record {
      fixed = f.bytes;
      whole = subst IsWhole (sym e) (whole base address report);
      begins = syncs f;
      covers = λ name.
          let grown_by : noted_as (with_noted (record { spot = spot_in i r; by = by }) i) name ≤ noted_as i name + one_if (bytes_eq (note_name address) name) = noted_more by i r name in
          let old_covers : noted_as i name ≤ count base name = old name in
          let counted : count f.bytes name ≡ count base name + one_if (bytes_eq (note_name address) name) = ap (λ (t : List ℕ). count t name) e ∙ count_more base address report name ∙ ap (λ (k : ℕ). count base name + k) (as_if (bytes_eq (note_name address) name)) in
          omega (arith, grown_by, old_covers, counted);
    }
  where
    as_if : (b : Bool) → (if b then 1 else 0) ≡ one_if b
    as_if true = refl
    as_if false = refl

one_less : (b c : Bool) → (b ≡ true → c ≡ true) → one_if b ≤ one_if c
one_less true true h = omega arith
one_less true false h = absurd (cc (h refl))
one_less false c h = omega arith

pub fewer : (routes : Controls) (such other : Spot → List ℕ → Bool) → ((s : Spot) (address : List ℕ) → such s address ≡ true → other s address ≡ true) → (e xs : List (List ℕ))
    → counted_among routes such e xs ≤ counted_among routes other e xs
fewer routes such other h e [] = omega arith
fewer routes such other h e (x ∷ xs) =
    let here = one_less (such (spot_after routes e x) (address_in (route_of routes x))) (other (spot_after routes e x) (address_in (route_of routes x))) (h (spot_after routes e x) (address_in (route_of routes x))) in
    let rest = fewer routes such other h (e ++ x ∷ []) xs in
    omega (arith, here, rest)

-- who is noted is found under its name

pub spot_itself : (s : Spot) → is_spot s s ≡ true
spot_itself s = by s.channel (eq-eqb s.place s.place refl)
  where
    by : (c : Channel) → (s.place == s.place) ≡ true → (is_channel c c && (s.place == s.place)) ≡ true
    by Local e = e
    by Remote e = e

found_as : (noted : List Named) (it : Named) (name address : List ℕ) → Among it noted → bytes_eq (told_name it.by address) name ≡ true → is_noted_as noted name it.spot address ≡ true
found_as [] it name address among e = absurd among
found_as (x ∷ xs) it name address among e = ⊎_elim
    (λ (same : it ≡ x).
    let both : (is_spot it.spot it.spot && bytes_eq (told_name it.by address) name) ≡ true = ap (λ (b : Bool). b && bytes_eq (told_name it.by address) name) (spot_itself it.spot) ∙ e in
    let here : (is_spot it.spot x.spot && bytes_eq (told_name x.by address) name) ≡ true =
    ap (λ (z : Named). is_spot it.spot z.spot && bytes_eq (told_name z.by address) name) (sym same) ∙ both in
    ap (λ (b : Bool). b || is_noted_as xs name it.spot address) here)
    (λ (rest : Among it xs). or_true (is_spot it.spot x.spot && bytes_eq (told_name x.by address) name) (is_noted_as xs name it.spot address) (found_as xs it name address rest e))
    among
  where
    or_true : (b c : Bool) → c ≡ true → (b || c) ≡ true
    or_true true c e = refl
    or_true false c e = e

counted : (i : Injection) (such : Spot → Bool) → ((s : Spot) → such s ≡ true → Among (named_now i.ledger s) i.ledger.noted) → (text : List ℕ) → Covers i text
    → (name : List ℕ) → counted_as such i name ≤ count text name
counted i such h text covers name =
    let less = fewer i.ledger.routes (λ s address. such s && bytes_eq (name_at i.ledger s address) name) (is_noted_as i.ledger.noted name)
    (λ s address e.
    let w = and_parts (such s) (bytes_eq (name_at i.ledger s address) name) e in
    found_as i.ledger.noted (named_now i.ledger s) name address (h s w.0) w.1)
    [] (recipients_of i.args) in
    let more = covers name in
    omega (arith, less, more)

-- a sync leaves what every version begins with
syncs_on : (fixed : List ℕ) (f : File) → BeginsWith fixed f → BeginsWith fixed (synced f)
syncs_on fixed f h = record {
  present = h.present;
  kept = h.present;
  since = λ place value among. absurd among;
  no_shorter = begun_length fixed f.bytes h.present;
}
  where
    begun_length : (t bytes : List ℕ) → take (length t) bytes ≡ t → length t ≤ length bytes
    begun_length [] bytes e = omega arith
    begun_length (x ∷ t) [] e = absurd (cc)
    begun_length (x ∷ t) (y ∷ bytes) e =
        let rest : take (length t) bytes ≡ t = cc in
        let less = begun_length t bytes rest in
        omega (arith, less)

pub notes_stay : NotesStay
notes_stay = record {
  none = λ i now e. record { fixed = []; whole = Bare refl; begins = created now; covers = covers_none i [] e };
  grows = λ i more now f h. record { fixed = h.fixed; whole = h.whole; begins = grows h.fixed more now f h.begins; covers = h.covers };
  grows_in_part = λ i more now wrote f h. record { fixed = h.fixed; whole = h.whole; begins = grows_in_part h.fixed more now wrote f h.begins; covers = h.covers };
  survives = λ i bytes f h s. record { fixed = h.fixed; whole = h.whole; begins = survives h.fixed bytes f h.begins s; covers = h.covers };
  named = λ i f h. (
    (λ name. let less = h.covers name in let more = named_in h.fixed f.bytes name h.whole h.begins.present in omega (arith, less, more)),
    (λ name. let less = h.covers name in let more = named_in h.fixed f.kept name h.whole h.begins.kept in omega (arith, less, more)),
  );
  counted = counted;
  syncs = λ i f h. record { fixed = h.fixed; whole = h.whole; begins = syncs_on h.fixed f h.begins; covers = h.covers };
  entered = entered;
}

-- Where the notes of a message are

accepted : (i : Injection) (b : Bounced) (bounce : Option File) → NotesState i bounce → NotesState (with_bounced b i) bounce
accepted i b bounce (There f e h) = There f e (record { fixed = h.fixed; whole = h.whole; begins = h.begins; covers = h.covers })
accepted i b bounce (Gone e (Injected c among covers)) = Gone e (Injected c (inr among) covers)
accepted i b bounce (Gone e (Dropped is from)) = Gone e (Dropped is from)
accepted i b bounce (Gone e (Nothing none)) = Gone e (Nothing none)

returned : (i : Injection) (b : Bounced) (f : File) → Among b i.ledger.bounced → b.read.notes ≡ f.bytes → NotesState i (Some f) → NotesState i None
returned i b f among is (There g e h) =
    let same : f ≡ g = cc e in
    let begins : take (length h.fixed) b.read.notes ≡ h.fixed = ap (λ (t : List ℕ). take (length h.fixed) t) (is ∙ ap (λ (x : File). x.bytes) same) ∙ h.begins.present in
    Gone refl (Injected b among (λ name.
    let less = h.covers name in
    let more = named_in h.fixed b.read.notes name h.whole begins in
    omega (arith, less, more)))
returned i b f among is (Gone e s) = absurd (cc e)

settled_account : (i : Injection) (such : Spot → Bool) → ((s : Spot) → such s ≡ true → Among (named_now i.ledger s) i.ledger.noted) → (r : Recipient i.args)
    → such (spot_in i r) ≡ true → (bounce : Option File) → NotesDone i → HeldOrReturned i such (name_in i r) bounce
settled_account i such h r so bounce (Injected b among covers) = Returned b among (counted i such h b.read.notes covers (name_in i r))
settled_account i such h r so bounce (Dropped is from) = Void is from
settled_account i such h r so bounce (Nothing none) = absurd (subst (λ (xs : List Named). Among (named_now i.ledger (spot_in i r)) xs) none (h (spot_in i r) so))

pub notes_account : NotesAccount
notes_account = record {
  created = λ i now none. There (empty_file now) refl (notes_stay.none i now none);
  accepted = accepted;
  returned = returned;
  dropped = λ i from. Gone refl (Dropped refl from);
  accounted = accounted;
}
  where
    accounted : (i : Injection) (such : Spot → Bool) → ((s : Spot) → such s ≡ true → Among (named_now i.ledger s) i.ledger.noted) → (r : Recipient i.args)
        → such (spot_in i r) ≡ true → (bounce : Option File) → NotesState i bounce → HeldOrReturned i such (name_in i r) bounce
    accounted i such h r so bounce (There f e has) =
        let named = notes_stay.named i f has in
        Held f e (counted i such h f.bytes named.0 (name_in i r)) (counted i such h f.kept named.1 (name_in i r))
    accounted i such h r so bounce (Gone e settled) = settled_account i such h r so bounce settled
