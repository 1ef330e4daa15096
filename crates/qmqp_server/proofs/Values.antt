-- What was read of a package, and some bytes more.
use Rattle.std.proofs.Common.{◌≡◌, ◌≢◌, inl, inr, ℕ, ◌+◌, ◌≤◌, ◌<◌, List, [], ◌∷◌, ◌++◌, length, refl, sym, ap, ◌∙◌, subst, arith, append_assoc, length-append}
use Rattle.std.specs.Prelude.{flat_map}
use Rattle.std.proofs.lemmas.List.{append-nil, flat_map_more}
use Rattle.mail_bytes.specs.Decimal.{digits}
use Rattle.mail_bytes.specs.Netstring.{head, netstring, IsPartOfHead}
use Rattle.qmqp_server.specs.declared.reader.PackageFault.{PackageFault}
use Rattle.qmqp_server.specs.declared.reader.PackageFault.TheVariants.{Cut, Malformed}
use Rattle.qmqp_server.specs.Package.{IsPackage, content_of, longest}
use Rattle.qmqp_server.specs.Faults.{IsWithin, IsMalformed, IsCut, IsBroken}
use Rattle.qmqp_server.specs.Faults.IsCut.{InHead, InNetstring, BeforeLastComma}
use Rattle.qmqp_server.specs.Faults.IsMalformed.{BadInnerHead, TooSoon, Past, BadComma, BadLastComma}
use Rattle.qmqp_server.specs.inside.Places.{IsInValue, IsBetween, IsNoInner}

abbrev pub texts_of : List (List ℕ) → List ℕ
texts_of texts = flat_map netstring texts

-- The beginning

-- no byte is a part of a head
pub nothing_begins : IsPartOfHead []
nothing_begins = (0, omega arith, (let size = length-append (digits 0) (58 ∷ []) in omega arith, refl))

-- after the head of a length
pub after_length : (promised : ℕ) → promised ≤ longest → IsBetween promised [] (head promised)
after_length promised short = record { promised = promised; text = sym (append-nil (head promised)); size = omega arith; short = short }

-- Within a value

-- bytes after those of a value, the head of which stands after the texts
inside : (a b c t more : List ℕ) → (a ++ (b ++ (c ++ t))) ++ more ≡ a ++ (b ++ (c ++ (t ++ more)))
inside a b c t more =
    append_assoc a (b ++ (c ++ t)) more
    ∙ ap (λ x. a ++ x) (append_assoc b (c ++ t) more ∙ ap (λ x. b ++ x) (append_assoc c t more))

pub value_more : (left later rest : ℕ) (texts : List (List ℕ)) (begun more read : List ℕ) → left ≡ later + length more
    → IsInValue left rest texts begun read → IsInValue later rest texts (begun ++ more) (read ++ more)
value_more left later rest texts begun more read count v =
    let long = length-append begun more in
    let same : left + length begun ≡ later + length (begun ++ more) = omega arith in
    record {
      promised = v.promised;
      text = ap (λ t. t ++ more) v.text ∙ inside (head v.promised) (texts_of texts) (head (left + length begun)) begun more
          ∙ ap (λ k. head v.promised ++ (texts_of texts ++ (head k ++ (begun ++ more)))) same;
      size = let heads = ap (λ k. length (head k)) same in let size = v.size in omega arith;
      short = v.short;
    }

-- the value, and a byte after it
value_byte : (rest : ℕ) (texts : List (List ℕ)) (text read : List ℕ) (byte : ℕ) → (v : IsInValue 0 rest texts text read)
    → read ++ byte ∷ [] ≡ head v.promised ++ (texts_of texts ++ (head (length text) ++ (text ++ byte ∷ [])))
value_byte rest texts text read byte v =
    let none : 0 + length text ≡ length text = omega arith in
    ap (λ t. t ++ byte ∷ []) v.text ∙ inside (head v.promised) (texts_of texts) (head (0 + length text)) text (byte ∷ [])
    ∙ ap (λ k. head v.promised ++ (texts_of texts ++ (head k ++ (text ++ byte ∷ [])))) none

pub head_some : (n : ℕ) → 0 < length (head n)
head_some n = let size = length-append (digits n) (58 ∷ []) in omega arith

-- how long a netstring is
pub netstring_size : (text : List ℕ) → length (netstring text) ≡ length (head (length text)) + (length text + 1)
netstring_size text =
    let one = length-append (head (length text)) (text ++ 44 ∷ []) in
    let two = length-append text (44 ∷ []) in
    omega arith

pub value_over : (rest : ℕ) (texts : List (List ℕ)) (text read : List ℕ) → IsInValue 0 rest texts text read → IsBetween rest (texts ++ text ∷ []) (read ++ 44 ∷ [])
value_over rest texts text read v = record {
  promised = v.promised;
  text = value_byte rest texts text read 44 v ∙ sym (append_assoc (head v.promised) (texts_of texts) (netstring text)) ∙ flat_map_more netstring (head v.promised) texts text;
  size =
      let whole = ap length (flat_map_more netstring [] texts text) in
      let parts = length-append (texts_of texts) (netstring text) in
      let last = netstring_size text in
      let none = ap (λ k. length (head k)) (zero_more (length text)) in
      let size = v.size in
      omega arith;
  short = v.short;
} where
  zero_more : (n : ℕ) → 0 + n ≡ n
  zero_more n = omega arith

pub value_cut : (left rest : ℕ) (texts : List (List ℕ)) (begun read : List ℕ) → IsInValue left rest texts begun read → IsCut (read ++ [])
value_cut left rest texts begun read v =
    subst IsCut (sym (append-nil read))
    (InNetstring (record {
      texts = texts;
      value = left + length begun;
      begun = begun;
      within = record {
        promised = v.promised;
        text = v.text;
        fits = let long = length-append (head (left + length begun)) begun in let size = v.size in omega arith;
        short = v.short;
      };
      few = omega arith;
      fits = let size = v.size in omega arith;
    }))

pub bad_comma : (rest : ℕ) (texts : List (List ℕ)) (text read : List ℕ) (byte : ℕ) → byte ≢ 44 → IsInValue 0 rest texts text read → IsMalformed (read ++ byte ∷ [])
bad_comma rest texts text read byte other v = BadComma (record {
  texts = texts;
  last = text;
  byte = byte;
  other = other;
  within = record {
    promised = v.promised;
    text = value_byte rest texts text read byte v;
    fits =
        let one = length-append (head (length text)) (text ++ byte ∷ []) in
        let two = length-append text (byte ∷ []) in
        let none = ap (λ k. length (head k)) (zero_more (length text)) in
        let size = v.size in
        omega arith;
    short = v.short;
  };
}) where
  zero_more : (n : ℕ) → 0 + n ≡ n
  zero_more n = omega arith

-- Between netstrings

-- some bytes after whole netstrings
between_more : (rest : ℕ) (texts : List (List ℕ)) (read more : List ℕ) → (b : IsBetween rest texts read) → read ++ more ≡ head b.promised ++ (texts_of texts ++ more)
between_more rest texts read more b = ap (λ t. t ++ more) b.text ∙ append_assoc (head b.promised) (texts_of texts) more

pub between_within : (rest : ℕ) (texts : List (List ℕ)) (read more : List ℕ) → length more ≤ rest → IsBetween rest texts read → IsWithin (read ++ more) texts more
between_within rest texts read more few b = record {
  promised = b.promised;
  text = between_more rest texts read more b;
  fits = let size = b.size in omega arith;
  short = b.short;
}

pub value_begins : (rest value later : ℕ) (texts : List (List ℕ)) (read more : List ℕ) → more ≡ head value → rest ≡ length more + (value + (1 + later))
    → IsBetween rest texts read → IsInValue value later texts [] (read ++ more)
value_begins rest value later texts read more is count b =
    let none : value ≡ value + 0 = omega arith in
    record {
      promised = b.promised;
      text = between_more rest texts read more b ∙ ap (λ t. head b.promised ++ (texts_of texts ++ t)) (is ∙ ap head none ∙ sym (append-nil (head (value + 0))));
      size = let size = b.size in let first = ap length is in let heads = ap (λ k. length (head k)) none in omega arith;
      short = b.short;
    }

pub content_over : (message sender : List ℕ) (recipients : List (List ℕ)) (read : List ℕ) → IsBetween 0 (message ∷ (sender ∷ recipients)) read
    → IsPackage (read ++ 44 ∷ []) message sender recipients × (length (content_of message sender recipients) ≤ longest)
content_over message sender recipients read b =
    let size = b.size in
    let short = b.short in (
      between_more 0 (message ∷ (sender ∷ recipients)) read (44 ∷ []) b ∙ ap (λ k. head k ++ (content_of message sender recipients ++ 44 ∷ [])) (omega arith),
      omega arith,
    )

pub bad_last_comma : (texts : List (List ℕ)) (read : List ℕ) (byte : ℕ) → byte ≢ 44 → 2 ≤ length texts → IsBetween 0 texts read → IsMalformed (read ++ byte ∷ [])
bad_last_comma texts read byte other two b = BadLastComma (record {
  texts = texts;
  byte = byte;
  other = other;
  two = two;
  after = record { promised = b.promised; text = between_more 0 texts read (byte ∷ []) b; size = let size = b.size in omega arith; short = b.short };
})

pub head_cut : (rest : ℕ) (texts : List (List ℕ)) (read more : List ℕ) → IsPartOfHead more → length more < rest → IsBetween rest texts read → IsCut (read ++ more)
head_cut rest texts read more part few b = InHead (record {
  texts = texts;
  part = more;
  within = record { promised = b.promised; text = between_more rest texts read more b; fits = let size = b.size in omega arith; short = b.short };
  begins = part;
  left = let size = b.size in omega arith;
})

pub last_cut : (texts : List (List ℕ)) (read : List ℕ) → 2 ≤ length texts → IsBetween 0 texts read → IsCut (read ++ [])
last_cut texts read two b = BeforeLastComma (record {
  texts = texts;
  two = two;
  after = record { promised = b.promised; text = between_more 0 texts read [] b; size = let size = b.size in omega arith; short = b.short };
})

-- no head of a netstring follows that fits
pub inner_broken : (fault : PackageFault) (rest : ℕ) (texts : List (List ℕ)) (read more : List ℕ) → (rest ≡ 0 → length texts < 2) → IsNoInner fault rest more
    → IsBetween rest texts read → IsBroken fault (read ++ more)
inner_broken Cut rest texts read more few (part, fits) b = head_cut rest texts read more part fits b
inner_broken Malformed rest texts read more few (inl (bad, fits)) b =
    BadInnerHead (record { texts = texts; more = more; bad = bad; within = between_within rest texts read more fits b })
inner_broken Malformed rest texts read more few (inr (inl (part, all))) b = TooSoon (record {
  texts = texts;
  part = more;
  within = record { promised = b.promised; text = between_more rest texts read more b; fits = let size = b.size in omega arith; short = b.short };
  begins = part;
  over = let size = b.size in omega arith;
  few = λ none. let size = ap length none in few (omega arith);
})
inner_broken Malformed rest texts read more few (inr (inr (value, is, fits, past))) b = Past (record {
  texts = texts;
  value = value;
  within = record {
    promised = b.promised;
    text = between_more rest texts read more b ∙ ap (λ t. head b.promised ++ (texts_of texts ++ t)) is;
    fits = let size = b.size in let long = ap length is in omega arith;
    short = b.short;
  };
  past = let size = b.size in let long = ap length is in omega arith;
})
