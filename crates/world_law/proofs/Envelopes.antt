-- What an envelope is read as whose addresses have no NUL: its sender, and its recipients.
use Rattle.std.proofs.Common.{◌≡◌, ℕ, List, [], ◌∷◌, ◌++◌, take, drop, Option, None, refl, sym, ap, ◌∙◌, slice_get}
use Rattle.std.specs.Prelude.{All, flat_map}
use Rattle.std.proofs.lemmas.List.{append-nil, append_assoc, take-append-drop}
use Rattle.std.proofs.lemmas.List.Elements.{All-head, All-tail, recursion_from_All}
use Rattle.mail_bytes.specs.Texts.{HasNoNul}
use Rattle.envelope_records.specs.Envelope.{IsAddress, Reading, read_envelope, record_of, records_of}
use Rattle.envelope_records.specs.Envelope.Reading.{Whole, Broken}
use Rattle.envelope_records.specs.Envelope.Reading.{Open as OpenReading}
use Rattle.envelope_records.proofs.Envelopes.{sound_as}
use Rattle.queue_inject.specs.declared.injection.Arguments.{Arguments}
use Rattle.queue_inject.specs.declared.injection.InputEnd.{InputEnd}
use Rattle.queue_inject.specs.Texts.{envelope_of as envelope_in, envelope_text, intd_text, limit, recipients_of, recipients_read}
use Rattle.queue_law.specs.Books.{IsValid}
use Rattle.queue_law.specs.Routes.{sender_of, sender_read}
use Rattle.world_law.proofs.Marks.{both, ends_alike}

abbrev IsPlain : ℕ → Type 0
IsPlain b = b ≡ 0 → ⊥

-- none of these addresses has a NUL
abbrev pub ArePlain : List (List ℕ) → Type 0
ArePlain [] = Unit {0}
ArePlain (address ∷ more) = HasNoNul address × ArePlain more

-- Records

unrolled : (recipient : List ℕ) (recipients : List (List ℕ)) (rest : List ℕ)
    → flat_map record_of (recipient ∷ recipients) ++ 0 ∷ rest ≡ 84 ∷ (recipient ++ 0 ∷ (flat_map record_of recipients ++ 0 ∷ rest))
unrolled recipient recipients rest =
    append_assoc (record_of recipient) (flat_map record_of recipients) (0 ∷ rest)
    ∙ ap (λ (t : List ℕ). 84 ∷ t) (append_assoc recipient (0 ∷ []) (flat_map record_of recipients ++ 0 ∷ rest))

texts_alike : (a b xs ys : List ℕ) → HasNoNul a → HasNoNul b → a ++ 0 ∷ xs ≡ b ++ 0 ∷ ys → (a ≡ b) × (xs ≡ ys)
texts_alike a b xs ys h k e = ends_alike IsPlain 0 (λ c plain. plain) a b xs ys (recursion_from_All IsPlain a h) (recursion_from_All IsPlain b k) e

records_alike : (mine recipients : List (List ℕ)) (xs rest : List ℕ) → ArePlain mine → All IsAddress recipients
    → flat_map record_of mine ++ 0 ∷ xs ≡ flat_map record_of recipients ++ 0 ∷ rest → mine ≡ recipients
records_alike [] [] xs rest h k e = refl
records_alike [] (q ∷ qs) xs rest h k e = let w = (both 0 84 xs _ (e ∙ unrolled q qs rest)).0 in absurd (cc)
records_alike (r ∷ rs) [] xs rest h k e = let w = (both 84 0 _ rest (sym (unrolled r rs xs) ∙ e)).0 in absurd (cc)
records_alike (r ∷ rs) (q ∷ qs) xs rest h k e =
    let w = both 84 84 _ _ (sym (unrolled r rs xs) ∙ e ∙ unrolled q qs rest) in
    let v = texts_alike r q (flat_map record_of rs ++ 0 ∷ xs) (flat_map record_of qs ++ 0 ∷ rest) h.0 (All-head IsAddress q qs k).plain w.1 in
    let later : rs ≡ qs = records_alike rs qs xs rest h.1 (All-tail IsAddress q qs k) v.1 in
    ap (λ (t : List ℕ). t ∷ rs) v.0 ∙ ap (λ (t : List (List ℕ)). q ∷ t) later

-- Records and what comes after them

laid_out : (sender : List ℕ) (recipients : List (List ℕ)) (rest : List ℕ)
    → (records_of sender recipients ++ 0 ∷ []) ++ rest ≡ 70 ∷ (sender ++ 0 ∷ (flat_map record_of recipients ++ 0 ∷ rest))
laid_out sender recipients rest =
    append_assoc (records_of sender recipients) (0 ∷ []) rest
    ∙ append_assoc (70 ∷ (sender ++ 0 ∷ [])) (flat_map record_of recipients) (0 ∷ rest)
    ∙ ap (λ (t : List ℕ). 70 ∷ t) (append_assoc sender (0 ∷ []) (flat_map record_of recipients ++ 0 ∷ rest))

one_envelope : (s : List ℕ) (mine : List (List ℕ)) (sender : List ℕ) (recipients : List (List ℕ)) (rest : List ℕ) → HasNoNul s → ArePlain mine → IsAddress sender → All IsAddress recipients
    → records_of s mine ++ 0 ∷ [] ≡ (records_of sender recipients ++ 0 ∷ []) ++ rest → (sender ≡ s) × (recipients ≡ mine)
one_envelope s mine sender recipients rest h k from to e =
    let w = both 70 70 _ _ (sym (laid_out s mine []) ∙ append-nil (records_of s mine ++ 0 ∷ []) ∙ e ∙ laid_out sender recipients rest) in
    let v = texts_alike s sender _ _ h from.plain w.1 in
    (sym v.0, sym (records_alike mine recipients [] rest k to v.1))

-- What is read

module _ (args : Arguments) (s : List ℕ) (mine : List (List ℕ)) (h : HasNoNul s) (k : ArePlain mine) (is : args.envelope ≡ records_of s mine ++ 0 ∷ []) where
  read_by : (reading : Reading) → read_envelope (take limit args.envelope) ≡ reading → (end : InputEnd) (next : Option ℕ) → (envelope_text reading end next).fault ≡ None
      → (sender_read reading ≡ s) × (recipients_read reading ≡ mine)
  read_by (Whole sender recipients) read end next none =
      let w = sound_as (take limit args.envelope) (Whole sender recipients) read in
      let later : List ℕ = w.rest ++ drop limit args.envelope in
      let whole : records_of s mine ++ 0 ∷ [] ≡ (records_of sender recipients ++ 0 ∷ []) ++ later =
      sym is ∙ sym (take-append-drop limit args.envelope) ∙ ap (λ (t : List ℕ). t ++ drop limit args.envelope) w.split
      ∙ append_assoc w.prefix w.rest (drop limit args.envelope) ∙ ap (λ (t : List ℕ). t ++ later) w.whole.text in
      one_envelope s mine sender recipients later h k w.whole.from w.whole.to whole
  read_by (OpenReading stage) read end next none = absurd (cc)
  read_by (Broken before fault) read end next none = absurd (cc)

  pub addressed : IsValid args → (sender_of args ≡ s) × (recipients_of args ≡ mine)
  unfolding sender_of recipients_of intd_text envelope_in
  addressed valid = read_by (read_envelope (take limit args.envelope)) refl args.envelope_end (slice_get args.envelope limit) valid.envelope
