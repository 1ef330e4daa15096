-- Envelopes that are given as they are read: none is whole before its last NUL.
use Rattle.std.proofs.Common.{◌≡◌, ◌≢◌, ℕ, ◌≤◌, ◌<◌, ◌⊎◌, inl, inr, List, [], ◌∷◌, ◌++◌, length, get_or, take, drop, Option, Some, None, refl, sym, ap, ◌∙◌, subst, append_assoc}
use Rattle.std.specs.Prelude.{All, flat_map, slice_get}
use Rattle.std.proofs.lemmas.List.{append-nil, flat_map_more, take-append-drop, take_all}
use Rattle.std.proofs.lemmas.List.Concat.{flat_map-cons}
use Rattle.std.proofs.lemmas.List.Elements.{All-head, All-tail, All-weaker}
use Rattle.std.proofs.lemmas.Option.{slice_get_cases}
use Rattle.mail_bytes.specs.Texts.{HasNoNul}
use Rattle.envelope_records.specs.Envelope.{record_of, records_of, IsAddress, HasEnvelope, Reading, read_envelope}
use Rattle.envelope_records.specs.Envelope.Reading.{Whole, Open, Broken}
use Rattle.envelope_records.proofs.Envelopes.{sound_as}
use Rattle.queue_inject.specs.declared.intake.Verdict.TheVariants as verdict
use Rattle.queue_inject.specs.Stands.{verdict_by, verdict_of}
use Rattle.queue_inject.specs.Texts.{limit}
use Rattle.qmqp_server.specs.Package.{ArePlain, envelope_of}
use Rattle.qmqp_server.specs.inside.Places.{records, letter_after}
use Rattle.qmqp_server.specs.inside.Feeding.{HasNoEnvelope}
use Rattle.qmqp_server.proofs.Netstrings.{cut_at}

-- one record more
pub records_more : (tos : List (List ℕ)) (a : List ℕ) → records (tos ++ a ∷ []) ≡ (records tos ++ letter_after tos ∷ a) ++ 0 ∷ []
records_more [] a = append-nil (70 ∷ (a ++ 0 ∷ []))
records_more (s ∷ rs) a = sym (flat_map_more record_of (70 ∷ (s ++ 0 ∷ [])) rs a) ∙ sym (append_assoc (records_of s rs) (84 ∷ a) (0 ∷ []))

pub letter_more : (tos : List (List ℕ)) (a : List ℕ) → letter_after (tos ++ a ∷ []) ≡ 84
letter_more [] a = refl
letter_more (s ∷ rs) a = refl

-- Records as far as a NUL

-- the record of a recipient, and what comes after it
recipient_cut : (r : List ℕ) (rs : List (List ℕ)) (x : List ℕ) → flat_map record_of (r ∷ rs) ++ x ≡ 84 ∷ (r ++ 0 ∷ (flat_map record_of rs ++ x))
recipient_cut r rs x =
    ap (λ t. t ++ x) (flat_map-cons record_of r rs)
    ∙ append_assoc (record_of r) (flat_map record_of rs) x
    ∙ ap (λ t. 84 ∷ t) (append_assoc r (0 ∷ []) (flat_map record_of rs ++ x))

sender_cut : (s : List ℕ) (rs : List (List ℕ)) (x : List ℕ) → records_of s rs ++ x ≡ 70 ∷ (s ++ 0 ∷ (flat_map record_of rs ++ x))
sender_cut s rs x =
    append_assoc (70 ∷ (s ++ 0 ∷ [])) (flat_map record_of rs) x
    ∙ ap (λ t. 70 ∷ t) (append_assoc s (0 ∷ []) (flat_map record_of rs ++ x))

-- the first of two lists that begin with one byte
inner : (b : ℕ) (x y : List ℕ) → b ∷ x ≡ b ∷ y → x ≡ y
inner b x y is = cc

apart : (x y : List ℕ) → 84 ∷ x ≡ 0 ∷ y → ⊥
apart x y is = absurd (cc)

nothing : (b : ℕ) (x : List ℕ) → [] ≡ b ∷ x → ⊥
nothing b x is = absurd (cc)

rest_same : (rs us : List (List ℕ)) (x y : List ℕ) → All HasNoNul rs → All HasNoNul us → flat_map record_of rs ++ 0 ∷ x ≡ flat_map record_of us ++ 0 ∷ y → x ≡ y
rest_same [] [] x y p q is = inner 0 x y is
rest_same [] (u ∷ us) x y p q is = absurd (apart _ _ (sym (recipient_cut u us (0 ∷ y)) ∙ sym is))
rest_same (r ∷ rs) [] x y p q is = absurd (apart _ _ (sym (recipient_cut r rs (0 ∷ x)) ∙ is))
rest_same (r ∷ rs) (u ∷ us) x y p q is =
    let cut = cut_at 0 r (flat_map record_of rs ++ 0 ∷ x) u (flat_map record_of us ++ 0 ∷ y) (All-head HasNoNul r rs p) (All-head HasNoNul u us q)
    (inner 84 _ _ (sym (recipient_cut r rs (0 ∷ x)) ∙ is ∙ recipient_cut u us (0 ∷ y))) in
    rest_same rs us x y (All-tail HasNoNul r rs p) (All-tail HasNoNul u us q) cut.1

no_more : (us rs : List (List ℕ)) (x : List ℕ) → All HasNoNul us → All HasNoNul rs → flat_map record_of us ++ [] ≡ flat_map record_of rs ++ 0 ∷ x → ⊥
no_more [] [] x p q is = nothing 0 x is
no_more [] (r ∷ rs) x p q is = nothing 84 _ (is ∙ recipient_cut r rs (0 ∷ x))
no_more (u ∷ us) [] x p q is = apart _ _ (sym (recipient_cut u us []) ∙ is)
no_more (u ∷ us) (r ∷ rs) x p q is =
    let cut = cut_at 0 u (flat_map record_of us ++ []) r (flat_map record_of rs ++ 0 ∷ x) (All-head HasNoNul u us p) (All-head HasNoNul r rs q)
    (inner 84 _ _ (sym (recipient_cut u us []) ∙ is ∙ recipient_cut r rs (0 ∷ x))) in
    no_more us rs x (All-tail HasNoNul u us p) (All-tail HasNoNul r rs q) cut.1

plain_address : (a : List ℕ) → IsAddress a → HasNoNul a
plain_address a is = is.plain

plain_all : (tos : List (List ℕ)) → All IsAddress tos → All HasNoNul tos
plain_all tos are = All-weaker IsAddress HasNoNul plain_address tos are

-- No envelope begins records, nor what begins them.
records_no_envelope : (tos : List (List ℕ)) (s : List ℕ) (rs : List (List ℕ)) (x : List ℕ) → All HasNoNul tos → HasNoNul s → All HasNoNul rs → records tos ≡ records_of s rs ++ 0 ∷ x → ⊥
records_no_envelope [] s rs x p q r is = nothing 70 _ (is ∙ sender_cut s rs (0 ∷ x))
records_no_envelope (a ∷ tos) s rs x p q r is =
    let cut = cut_at 0 a (flat_map record_of tos ++ []) s (flat_map record_of rs ++ 0 ∷ x) (All-head HasNoNul a tos p) q
    (inner 70 _ _ (sym (sender_cut a tos []) ∙ append-nil (records_of a tos) ∙ is ∙ sender_cut s rs (0 ∷ x))) in
    no_more tos rs x (All-tail HasNoNul a tos p) r cut.1

pub no_envelope : (tos : List (List ℕ)) (bytes more : List ℕ) → All HasNoNul tos → bytes ++ more ≡ records tos → HasNoEnvelope bytes
no_envelope tos bytes more p is = λ s rs has.
    records_no_envelope tos s rs (has.rest ++ more) p (has.whole.from.plain) (plain_all rs has.whole.to)
    (sym is ∙ ap (λ t. t ++ more) (has.split ∙ ap (λ t. t ++ has.rest) has.whole.text)
    ∙ append_assoc (records_of s rs ++ 0 ∷ []) has.rest more
    ∙ append_assoc (records_of s rs) (0 ∷ []) (has.rest ++ more))

-- A whole one is found to be whole

records_same : (s s' : List ℕ) (rs rs' : List (List ℕ)) (x y : List ℕ) → HasNoNul s → HasNoNul s' → All HasNoNul rs → All HasNoNul rs'
    → records_of s rs ++ 0 ∷ x ≡ records_of s' rs' ++ 0 ∷ y → x ≡ y
records_same s s' rs rs' x y p q ps qs is =
    let cut = cut_at 0 s (flat_map record_of rs ++ 0 ∷ x) s' (flat_map record_of rs' ++ 0 ∷ y) p q
    (inner 70 _ _ (sym (sender_cut s rs (0 ∷ x)) ∙ is ∙ sender_cut s' rs' (0 ∷ y))) in
    rest_same rs rs' x y ps qs cut.1

never_open : (s : List ℕ) (rs : List (List ℕ)) (r : Reading) → HasNoNul s → All HasNoNul rs → read_envelope (envelope_of s rs) ≡ r → (next : Option ℕ) → next ≡ None → verdict_by r next ≢ verdict.Open
never_open s rs (Whole a b) p q is next none = λ e. absurd (cc)
never_open s rs (Broken before fault) p q is next none = λ e. absurd (cc)
never_open s rs (Open stage) p q is next none =
    let leads = sound_as (envelope_of s rs) (Open stage) is in
    let start = leads.start in
    λ e. start.some (records_same s start.sender rs start.recipients start.rest [] p start.whole.from.plain q (plain_all start.recipients start.whole.to)
    (sym (append_assoc (records_of s rs) (0 ∷ []) start.rest) ∙ start.whole.text))

pub whole_verdict : (s : List ℕ) (rs : List (List ℕ)) → ArePlain s rs → verdict_of (envelope_of s rs) ≢ verdict.Open
whole_verdict s rs plain = by_next (slice_get_cases (envelope_of s rs) limit).1 where
  past : (r : Reading) (b : ℕ) → verdict_by r (Some b) ≢ verdict.Open
  past (Whole a c) b = λ e. absurd (cc)
  past (Broken before fault) b = λ e. absurd (cc)
  past (Open stage) b = λ e. absurd (cc)

  by_next : ((x : ℕ) × (limit < length (envelope_of s rs)) × (slice_get (envelope_of s rs) limit ≡ Some x) × (get_or (envelope_of s rs) limit x ≡ x))
      ⊎ ((length (envelope_of s rs) ≤ limit) × (slice_get (envelope_of s rs) limit ≡ None)) → verdict_of (envelope_of s rs) ≢ verdict.Open
  by_next (inl w) = subst (λ next. verdict_by (read_envelope (take limit (envelope_of s rs))) next ≢ verdict.Open) (sym w.2) (past (read_envelope (take limit (envelope_of s rs))) w.0)
  by_next (inr w) =
      subst (λ next. verdict_by (read_envelope (take limit (envelope_of s rs))) next ≢ verdict.Open) (sym w.1)
      (subst (λ t. verdict_by (read_envelope t) None ≢ verdict.Open) (sym (take_all limit (envelope_of s rs) w.0))
      (never_open s rs (read_envelope (envelope_of s rs)) plain.0 plain.1 refl None refl))

-- an envelope that begins a beginning of some bytes begins them
pub longer : (n : ℕ) (bytes s : List ℕ) (rs : List (List ℕ)) → HasEnvelope (take n bytes) s rs → HasEnvelope bytes s rs
longer n bytes s rs has = record {
  prefix = has.prefix;
  rest = has.rest ++ drop n bytes;
  split = sym (take-append-drop n bytes) ∙ ap (λ t. t ++ drop n bytes) has.split ∙ append_assoc has.prefix has.rest (drop n bytes);
  whole = has.whole;
}
