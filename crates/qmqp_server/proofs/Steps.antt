-- One step of the reading of a package.
use Rattle.std.proofs.Common.{◌≡◌, ◌≢◌, ◌⊎◌, inl, inr, ℕ, ◌+◌, ◌-◌, ◌≤◌, ◌<◌, List, [], ◌∷◌, ◌++◌, length, take, Bool, true, false, Some, None, refl, sym, ap, ◌∙◌, subst, arith, append_assoc}
use Rattle.std.specs.Prelude.{All}
use Rattle.std.proofs.lemmas.List.{append-nil, length-take-le}
use Rattle.std.proofs.lemmas.List.Elements.{All-append, All-cons, All-head, All-nil, All-tail}
use Rattle.mail_bytes.specs.Texts.{HasNoNul}
use Rattle.mail_bytes.specs.Netstring.{head}
use Rattle.envelope_records.specs.Envelope.{records_of}
use Rattle.queue_inject.specs.declared.injection.InputEnd.TheVariants as ends
use Rattle.queue_command.specs.Inputs.{Stream}
use Rattle.qmqp_server.specs.declared.reader.Place.{Place}
use Rattle.qmqp_server.specs.declared.reader.Place.TheVariants as place
use Rattle.qmqp_server.specs.declared.reader.Reader.{Reader}
use Rattle.qmqp_server.specs.declared.reader.PackageFault.{PackageFault}
use Rattle.qmqp_server.specs.declared.reader.PackageFault.TheVariants.{Cut, Malformed}
use Rattle.qmqp_server.specs.declared.reader.Next.{Next}
use Rattle.qmqp_server.specs.declared.reader.Next.TheVariants as next
use Rattle.qmqp_server.specs.declared.reader.Inner.TheVariants as inner
use Rattle.qmqp_server.specs.Faults.{IsCut, IsMalformed, IsBroken, IsDryIfCut}
use Rattle.qmqp_server.specs.Sources.{Takes, IsDry}
use Rattle.qmqp_server.specs.Package.{IsNulTold}
use Rattle.qmqp_server.specs.inside.Taken.{TakesOther}
use Rattle.qmqp_server.specs.inside.Places.Got.{InMessage, Between, InAddress, Whole}
use Rattle.qmqp_server.specs.inside.Places.{Got, addresses_of, records, letter_after, with_envelope, IsBetween, StandsAt, Stands, IsNoInner, IsInnerTaken, left_at, left_of, GoesOn, FindsNul, Steps}
use Rattle.qmqp_server.proofs.Envelopes.{records_more, letter_more}
use Rattle.qmqp_server.proofs.Values.{value_more, value_over, value_cut, bad_comma, value_begins, content_over, bad_last_comma, last_cut, inner_broken}

-- NULs in addresses

pub all_first : (tos bs : List (List ℕ)) → All HasNoNul (tos ++ bs) → All HasNoNul tos
all_first [] bs p = All-nil HasNoNul
all_first (a ∷ tos) bs p = All-cons HasNoNul a tos (All-head HasNoNul a (tos ++ bs) p) (all_first tos bs (All-tail HasNoNul a (tos ++ bs) p))

all_last : (tos : List (List ℕ)) (b : List ℕ) → All HasNoNul (tos ++ b ∷ []) → HasNoNul b
all_last [] b p = All-head HasNoNul b [] p
all_last (a ∷ tos) b p = all_last tos b (All-tail HasNoNul a (tos ++ b ∷ []) p)

all_with : (tos : List (List ℕ)) (b : List ℕ) → All HasNoNul tos → HasNoNul b → All HasNoNul (tos ++ b ∷ [])
all_with tos b p q = All-append HasNoNul tos (b ∷ []) p (All-cons HasNoNul b [] q (All-nil HasNoNul))

begins_plain : (t more : List ℕ) → HasNoNul (t ++ more) → HasNoNul t
begins_plain [] more p = All-nil (λ b. b ≢ 0)
begins_plain (x ∷ t) more p = All-cons (λ b. b ≢ 0) x t (All-head (λ b. b ≢ 0) x (t ++ more) p) (begins_plain t more (All-tail (λ b. b ≢ 0) x (t ++ more) p))

ends_plain : (t more : List ℕ) → HasNoNul (t ++ more) → HasNoNul more
ends_plain [] more p = p
ends_plain (x ∷ t) more p = ends_plain t more (All-tail (λ b. b ≢ 0) x (t ++ more) p)

-- an address begins
nul_new : (has : Bool) (tos : List (List ℕ)) → IsNulTold has tos → IsNulTold has (tos ++ [] ∷ [])
nul_new false tos told = all_with tos [] told (All-nil (λ b. b ≢ 0))
nul_new true tos told = λ all. told (all_first tos ([] ∷ []) all)

-- it goes on
nul_still : (tos : List (List ℕ)) (t more : List ℕ) → All HasNoNul (tos ++ t ∷ []) → HasNoNul more → All HasNoNul (tos ++ (t ++ more) ∷ [])
nul_still tos t more all plain = all_with tos (t ++ more) (all_first tos (t ∷ []) all) (All-append (λ b. b ≢ 0) t more (all_last tos t all) plain)

nul_found : (has : Bool) (tos : List (List ℕ)) (t more : List ℕ) → (has ≡ true) ⊎ (¬ (HasNoNul more)) → IsNulTold has (tos ++ t ∷ []) → ¬ (All HasNoNul (tos ++ (t ++ more) ∷ []))
nul_found has tos t more (inr bad) told = λ all. bad (ends_plain t more (all_last tos (t ++ more) all))
nul_found true tos t more (inl is) told = λ all. told (all_with tos t (all_first tos ((t ++ more) ∷ []) all) (begins_plain t more (all_last tos (t ++ more) all)))
nul_found false tos t more (inl is) told = absurd (cc)

-- Each place

message_goes : (r : Reader) (left later : ℕ) (more : List ℕ) (got : Got) (read : List ℕ) → left ≡ later + length more
    → StandsAt (place.Message left) r.rest r.letter got read → IsNulTold r.has_nul (addresses_of got)
    → GoesOn r (record r { place = place.Message later }) got (read ++ more) (record { bytes = more; end = None })
message_goes r left later more (InMessage begun) read count stood nul = record {
  later = InMessage (begun ++ more);
  stands = record { texts = (value_more left later r.rest [] begun more read count stood.0, stood.1); nul = nul };
  gives = refl;
  nul = refl;
}
message_goes r left later more (Between m tos) read count stood nul = absurd stood
message_goes r left later more (InAddress m tos t) read count stood nul = absurd stood
message_goes r left later more (Whole m s rs) read count stood nul = absurd stood

message_ends : (r : Reader) (got : Got) (read : List ℕ) → StandsAt (place.Message 0) r.rest r.letter got read → IsNulTold r.has_nul (addresses_of got)
    → GoesOn r (record r { place = place.Between }) got (read ++ 44 ∷ []) (record { bytes = []; end = Some ends.Whole })
message_ends r (InMessage begun) read stood nul = record {
  later = Between begun [];
  stands = record { texts = (value_over r.rest [] begun read stood.0, stood.1); nul = nul };
  gives = ap (λ t. with_envelope t []) (sym (append-nil begun));
  nul = refl;
}
message_ends r (Between m tos) read stood nul = absurd stood
message_ends r (InAddress m tos t) read stood nul = absurd stood
message_ends r (Whole m s rs) read stood nul = absurd stood

address_begins : (r : Reader) (value later : ℕ) (more first : List ℕ) (got : Got) (read : List ℕ) → more ≡ head value → r.rest ≡ length more + (value + (1 + later)) → first ≡ r.letter ∷ []
    → StandsAt place.Between r.rest r.letter got read → IsNulTold r.has_nul (addresses_of got)
    → GoesOn r (record r { place = place.Address value; rest = later }) got (read ++ more) (record { bytes = first; end = None })
address_begins r value later more first (Between m tos) read is count one stood nul = record {
  later = InAddress m tos [];
  stands = record { texts = (value_begins r.rest value later (m ∷ tos) read more is count stood.0, stood.1); nul = nul_new r.has_nul tos nul };
  gives = ap (λ t. with_envelope m (records tos ++ t)) (ap (λ letter. letter ∷ []) (sym stood.1) ∙ sym one);
  nul = refl;
}
address_begins r value later more first (InMessage t) read is count one stood nul = absurd stood
address_begins r value later more first (InAddress m tos t) read is count one stood nul = absurd stood
address_begins r value later more first (Whole m s rs) read is count one stood nul = absurd stood

address_goes : (r : Reader) (left later : ℕ) (more : List ℕ) (got : Got) (read : List ℕ) → left ≡ later + length more → r.has_nul ≡ false → HasNoNul more
    → StandsAt (place.Address left) r.rest r.letter got read → IsNulTold r.has_nul (addresses_of got)
    → GoesOn r (record r { place = place.Address later }) got (read ++ more) (record { bytes = more; end = None })
address_goes r left later more (InAddress m tos t) read count none plain stood nul = record {
  later = InAddress m tos (t ++ more);
  stands = record {
    texts = (value_more left later r.rest (m ∷ tos) t more read count stood.0, stood.1);
    nul = subst (λ has. IsNulTold has (tos ++ (t ++ more) ∷ [])) (sym none) (nul_still tos t more (subst (λ has. IsNulTold has (tos ++ t ∷ [])) none nul) plain);
  };
  gives = ap (λ e. with_envelope m e) (sym (append_assoc (records tos) (letter_after tos ∷ t) more));
  nul = refl;
}
address_goes r left later more (InMessage t) read count none plain stood nul = absurd stood
address_goes r left later more (Between m tos) read count none plain stood nul = absurd stood
address_goes r left later more (Whole m s rs) read count none plain stood nul = absurd stood

address_spoils : (r : Reader) (left later : ℕ) (more : List ℕ) (got : Got) (read : List ℕ) → left ≡ later + length more → (r.has_nul ≡ true) ⊎ (¬ (HasNoNul more))
    → StandsAt (place.Address left) r.rest r.letter got read → IsNulTold r.has_nul (addresses_of got)
    → FindsNul (record r { place = place.Address later; has_nul = true }) got (read ++ more)
address_spoils r left later more (InAddress m tos t) read count bad stood nul = record {
  later = InAddress m tos (t ++ more);
  stands = record { texts = (value_more left later r.rest (m ∷ tos) t more read count stood.0, stood.1); nul = nul_found r.has_nul tos t more bad nul };
  nul = refl;
}
address_spoils r left later more (InMessage t) read count bad stood nul = absurd stood
address_spoils r left later more (Between m tos) read count bad stood nul = absurd stood
address_spoils r left later more (Whole m s rs) read count bad stood nul = absurd stood

address_ends : (r : Reader) (first : List ℕ) (got : Got) (read : List ℕ) → first ≡ 0 ∷ []
    → StandsAt (place.Address 0) r.rest r.letter got read → IsNulTold r.has_nul (addresses_of got)
    → GoesOn r (record r { place = place.Between; letter = 84 }) got (read ++ 44 ∷ []) (record { bytes = first; end = None })
address_ends r first (InAddress m tos t) read one stood nul = record {
  later = Between m (tos ++ t ∷ []);
  stands = record { texts = (value_over r.rest (m ∷ tos) t read stood.0, sym (letter_more tos t)); nul = nul };
  gives = ap (λ e. with_envelope m e) (records_more tos t ∙ ap (λ b. (records tos ++ letter_after tos ∷ t) ++ b) (sym one));
  nul = refl;
}
address_ends r first (InMessage t) read one stood nul = absurd stood
address_ends r first (Between m tos) read one stood nul = absurd stood
address_ends r first (Whole m s rs) read one stood nul = absurd stood

content_ends : (r : Reader) (first : List ℕ) (got : Got) (read : List ℕ) → first ≡ 0 ∷ [] → r.rest ≡ 0 → r.letter ≡ 84
    → StandsAt place.Between r.rest r.letter got read → IsNulTold r.has_nul (addresses_of got)
    → GoesOn r (record r { place = place.Over }) got (read ++ 44 ∷ []) (record { bytes = first; end = None })
content_ends r first (Between m []) read one none two stood nul = absurd (let letter = stood.1 in omega arith)
content_ends r first (Between m (s ∷ rs)) read one none two stood nul = record {
  later = Whole m s rs;
  stands = record { texts = content_over m s rs read (subst (λ rest. IsBetween rest (m ∷ (s ∷ rs)) read) none stood.0); nul = nul };
  gives = ap (λ b. with_envelope m (records_of s rs ++ b)) (sym one);
  nul = refl;
}
content_ends r first (InMessage t) read one none two stood nul = absurd stood
content_ends r first (InAddress m tos t) read one none two stood nul = absurd stood
content_ends r first (Whole m s rs) read one none two stood nul = absurd stood

-- Where it is none

message_cut : (left rest letter : ℕ) (got : Got) (read : List ℕ) → StandsAt (place.Message left) rest letter got read → IsCut (read ++ [])
message_cut left rest letter (InMessage t) read stood = value_cut left rest [] t read stood.0
message_cut left rest letter (Between m tos) read stood = absurd stood
message_cut left rest letter (InAddress m tos t) read stood = absurd stood
message_cut left rest letter (Whole m s rs) read stood = absurd stood

address_cut : (left rest letter : ℕ) (got : Got) (read : List ℕ) → StandsAt (place.Address left) rest letter got read → IsCut (read ++ [])
address_cut left rest letter (InAddress m tos t) read stood = value_cut left rest (m ∷ tos) t read stood.0
address_cut left rest letter (InMessage t) read stood = absurd stood
address_cut left rest letter (Between m tos) read stood = absurd stood
address_cut left rest letter (Whole m s rs) read stood = absurd stood

message_malformed : (rest letter byte : ℕ) (got : Got) (read : List ℕ) → byte ≢ 44 → StandsAt (place.Message 0) rest letter got read → IsMalformed (read ++ byte ∷ [])
message_malformed rest letter byte (InMessage t) read other stood = bad_comma rest [] t read byte other stood.0
message_malformed rest letter byte (Between m tos) read other stood = absurd stood
message_malformed rest letter byte (InAddress m tos t) read other stood = absurd stood
message_malformed rest letter byte (Whole m s rs) read other stood = absurd stood

address_malformed : (rest letter byte : ℕ) (got : Got) (read : List ℕ) → byte ≢ 44 → StandsAt (place.Address 0) rest letter got read → IsMalformed (read ++ byte ∷ [])
address_malformed rest letter byte (InAddress m tos t) read other stood = bad_comma rest (m ∷ tos) t read byte other stood.0
address_malformed rest letter byte (InMessage t) read other stood = absurd stood
address_malformed rest letter byte (Between m tos) read other stood = absurd stood
address_malformed rest letter byte (Whole m s rs) read other stood = absurd stood

content_cut : (rest letter : ℕ) (got : Got) (read : List ℕ) → rest ≡ 0 → letter ≡ 84 → StandsAt place.Between rest letter got read → IsCut (read ++ [])
content_cut rest letter (Between m []) read none two stood = absurd (let after = stood.1 in omega arith)
content_cut rest letter (Between m (s ∷ rs)) read none two stood =
    last_cut (m ∷ (s ∷ rs)) read (omega arith) (subst (λ rest. IsBetween rest (m ∷ (s ∷ rs)) read) none stood.0)
content_cut rest letter (InMessage t) read none two stood = absurd stood
content_cut rest letter (InAddress m tos t) read none two stood = absurd stood
content_cut rest letter (Whole m s rs) read none two stood = absurd stood

content_malformed : (rest letter byte : ℕ) (got : Got) (read : List ℕ) → byte ≢ 44 → rest ≡ 0 → letter ≡ 84 → StandsAt place.Between rest letter got read → IsMalformed (read ++ byte ∷ [])
content_malformed rest letter byte (Between m []) read other none two stood = absurd (let after = stood.1 in omega arith)
content_malformed rest letter byte (Between m (s ∷ rs)) read other none two stood =
    bad_last_comma (m ∷ (s ∷ rs)) read byte other (omega arith) (subst (λ rest. IsBetween rest (m ∷ (s ∷ rs)) read) none stood.0)
content_malformed rest letter byte (InMessage t) read other none two stood = absurd stood
content_malformed rest letter byte (InAddress m tos t) read other none two stood = absurd stood
content_malformed rest letter byte (Whole m s rs) read other none two stood = absurd stood

-- too few texts, where another one has to begin
few_texts : (letter : ℕ) (m : List ℕ) (tos : List (List ℕ)) → letter ≡ letter_after tos → letter ≢ 84 → length (m ∷ tos) < 2
few_texts letter m [] is other = omega arith
few_texts letter m (s ∷ rs) is other = absurd (other is)

head_broken : (fault : PackageFault) (rest letter : ℕ) (more : List ℕ) (got : Got) (read : List ℕ) → (rest ≡ 0 → letter ≢ 84) → IsNoInner fault rest more
    → StandsAt place.Between rest letter got read → IsBroken fault (read ++ more)
head_broken fault rest letter more (Between m tos) read few none stood =
    inner_broken fault rest (m ∷ tos) read more (λ over. few_texts letter m tos stood.1 (few over)) none stood.0
head_broken fault rest letter more (InMessage t) read few none stood = absurd stood
head_broken fault rest letter more (InAddress m tos t) read few none stood = absurd stood
head_broken fault rest letter more (Whole m s rs) read few none stood = absurd stood

-- Whole steps

module _ (r : Reader) (s : Stream) where
  -- it stands where its place says
  at_place : (p : Place) → r.place ≡ p → (got : Got) (read : List ℕ) → Stands r got read → StandsAt p r.rest r.letter got read
  at_place p e got read stands = subst (λ q. StandsAt q r.rest r.letter got read) e stands.texts

  -- It is found to be none

  breaks : (result : Next) (new : Reader) (fault : PackageFault) (p : Place) (most : ℕ) (buffer more : List ℕ) → result ≡ next.Nothing → new ≡ record r { place = place.Broken fault } → r.place ≡ p → Takes more s → IsDryIfCut fault s
      → ((got : Got) (read : List ℕ) → StandsAt p r.rest r.letter got read → IsBroken fault (read ++ more)) → Steps result r new most s buffer
  breaks result new fault p most buffer more none is e took dry broken = subst (λ n. Steps n r new most s buffer) (sym none) (record {
    more = more;
    takes = took;
    some = tt;
    on = λ got read stands. inr (record {
      fault = fault;
      place = ap (λ (x : Reader). x.place) is;
      broken = broken got read (at_place p e got read stands);
      dry = dry;
    });
  })

  module _ (result : Next) (new : Reader) (none : result ≡ next.Nothing) (most : ℕ) (buffer : List ℕ) where
    pub message_is_cut : (left : ℕ) → new ≡ record r { place = place.Broken Cut } → r.place ≡ place.Message left → Takes [] s × IsDry s → Steps result r new most s buffer
    message_is_cut left is e (took, dry) = breaks result new Cut (place.Message left) most buffer [] none is e took dry (λ got read stood. message_cut left r.rest r.letter got read stood)

    pub message_is_malformed : new ≡ record r { place = place.Broken Malformed } → r.place ≡ place.Message 0 → TakesOther s → Steps result r new most s buffer
    message_is_malformed is e other = breaks result new Malformed (place.Message 0) most buffer (other.byte ∷ []) none is e other.takes tt
        (λ got read stood. message_malformed r.rest r.letter other.byte got read other.other stood)

    pub address_is_cut : (left : ℕ) → new ≡ record r { place = place.Broken Cut } → r.place ≡ place.Address left → Takes [] s × IsDry s → Steps result r new most s buffer
    address_is_cut left is e (took, dry) = breaks result new Cut (place.Address left) most buffer [] none is e took dry (λ got read stood. address_cut left r.rest r.letter got read stood)

    pub address_is_malformed : new ≡ record r { place = place.Broken Malformed } → r.place ≡ place.Address 0 → TakesOther s → Steps result r new most s buffer
    address_is_malformed is e other = breaks result new Malformed (place.Address 0) most buffer (other.byte ∷ []) none is e other.takes tt
        (λ got read stood. address_malformed r.rest r.letter other.byte got read other.other stood)

    pub content_is_cut : new ≡ record r { place = place.Broken Cut } → r.place ≡ place.Between → r.rest ≡ 0 → r.letter ≡ 84 → Takes [] s × IsDry s → Steps result r new most s buffer
    content_is_cut is e over two (took, dry) = breaks result new Cut place.Between most buffer [] none is e took dry (λ got read stood. content_cut r.rest r.letter got read over two stood)

    pub content_is_malformed : new ≡ record r { place = place.Broken Malformed } → r.place ≡ place.Between → r.rest ≡ 0 → r.letter ≡ 84 → TakesOther s → Steps result r new most s buffer
    content_is_malformed is e over two other = breaks result new Malformed place.Between most buffer (other.byte ∷ []) none is e other.takes tt
        (λ got read stood. content_malformed r.rest r.letter other.byte got read other.other over two stood)

    pub head_is_broken : (fault : PackageFault) → new ≡ record r { place = place.Broken fault } → r.place ≡ place.Between → (r.rest ≡ 0 → r.letter ≢ 84) → IsInnerTaken (inner.Broken fault) r.rest s
        → Steps result r new most s buffer
    head_is_broken fault is e few i = breaks result new fault place.Between most buffer i.bytes none is e i.takes i.inner_of.1
        (λ got read stood. head_broken fault r.rest r.letter i.bytes got read few i.inner_of.0 stood)

  -- It goes on

  pub message_went : (left count most : ℕ) (buffer : List ℕ) → r.place ≡ place.Message left → 0 < count → count ≤ most → count ≤ left → count ≤ length buffer
      → Takes (take count buffer) s → Steps (next.Bytes count) r (record r { place = place.Message (left - count) }) most s buffer
  message_went left count most buffer e some few fits room took = record {
    more = take count buffer;
    takes = took;
    some = (some, few);
    on = λ got read stands. message_goes r left (left - count) (take count buffer) got read (let long = length-take-le count buffer room in omega arith)
        (at_place (place.Message left) e got read stands) stands.nul;
  }

  pub message_ended : (most : ℕ) (buffer : List ℕ) → r.place ≡ place.Message 0 → Takes (44 ∷ []) s → Steps next.MessageOver r (record r { place = place.Between }) most s buffer
  message_ended most buffer e took = record {
    more = 44 ∷ [];
    takes = took;
    some = tt;
    on = λ got read stands. message_ends r got read (at_place (place.Message 0) e got read stands) stands.nul;
  }

  pub address_began : (most : ℕ) → 0 < most → (value later : ℕ) (buffer : List ℕ) → r.place ≡ place.Between → take 1 buffer ≡ r.letter ∷ [] → IsInnerTaken (inner.Netstring value later) r.rest s
      → Steps (next.Bytes 1) r (record r { place = place.Address value; rest = later }) most s buffer
  address_began most some value later buffer e one i = record {
    more = i.bytes;
    takes = i.takes;
    some = (omega arith, omega arith);
    on = λ got read stands. address_begins r value later i.bytes (take 1 buffer) got read i.inner_of.0 i.inner_of.1 one (at_place place.Between e got read stands) stands.nul;
  }

  pub address_went : (left count most : ℕ) (buffer : List ℕ) → r.place ≡ place.Address left → 0 < count → count ≤ most → count ≤ left → count ≤ length buffer
      → r.has_nul ≡ false → HasNoNul (take count buffer) → Takes (take count buffer) s
      → Steps (next.Bytes count) r (record r { place = place.Address (left - count) }) most s buffer
  address_went left count most buffer e some few fits room none plain took = record {
    more = take count buffer;
    takes = took;
    some = (some, few);
    on = λ got read stands. address_goes r left (left - count) (take count buffer) got read (let long = length-take-le count buffer room in omega arith) none plain
        (at_place (place.Address left) e got read stands) stands.nul;
  }

  pub address_spoiled : (left count most : ℕ) (buffer : List ℕ) → r.place ≡ place.Address left → count ≤ left → count ≤ length buffer
      → (r.has_nul ≡ true) ⊎ (¬ (HasNoNul (take count buffer))) → Takes (take count buffer) s
      → Steps next.Nothing r (record r { place = place.Address (left - count); has_nul = true }) most s buffer
  address_spoiled left count most buffer e fits room bad took = record {
    more = take count buffer;
    takes = took;
    some = tt;
    on = λ got read stands. inl (address_spoils r left (left - count) (take count buffer) got read (let long = length-take-le count buffer room in omega arith) bad
        (at_place (place.Address left) e got read stands) stands.nul);
  }

  pub address_ended : (most : ℕ) → 0 < most → (buffer : List ℕ) → r.place ≡ place.Address 0 → take 1 buffer ≡ 0 ∷ [] → Takes (44 ∷ []) s
      → Steps (next.Bytes 1) r (record r { place = place.Between; letter = 84 }) most s buffer
  address_ended most some buffer e one took = record {
    more = 44 ∷ [];
    takes = took;
    some = (omega arith, omega arith);
    on = λ got read stands. address_ends r (take 1 buffer) got read one (at_place (place.Address 0) e got read stands) stands.nul;
  }

  pub content_ended : (most : ℕ) → 0 < most → (buffer : List ℕ) → r.place ≡ place.Between → r.rest ≡ 0 → r.letter ≡ 84 → take 1 buffer ≡ 0 ∷ [] → Takes (44 ∷ []) s
      → Steps (next.Bytes 1) r (record r { place = place.Over }) most s buffer
  content_ended most some buffer e none two one took = record {
    more = 44 ∷ [];
    takes = took;
    some = (omega arith, omega arith);
    on = λ got read stands. content_ends r (take 1 buffer) got read one none two (at_place place.Between e got read stands) stands.nul;
  }

-- Less is left

pub nearer_at : (r q : Reader) (p : Place) → r.place ≡ p → left_of q < left_at p r.rest → left_of q < left_of r
nearer_at r q p e less = subst (λ x. left_of q < left_at x r.rest) (sym e) less

pub nearer_broken : (r q : Reader) (p : Place) (fault : PackageFault) → r.place ≡ p → q ≡ record r { place = place.Broken fault } → 0 < left_at p r.rest → left_of q < left_of r
nearer_broken r q p fault e is some = nearer_at r q p e (subst (λ k. k < left_at p r.rest) (sym (ap left_of is)) some)
