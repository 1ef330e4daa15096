-- Words, and the recipients of a mail's line.
use Rattle.std.proofs.Common.{◌≡◌, ◌≢◌, ◌⊎◌, ℕ, List, [], ◌∷◌, ◌++◌, Contains, Option, Some, None, refl, sym, ◌∙◌, ap, subst, inl, inr, append_assoc, Bor}
use Rattle.std.specs.Prelude.{codes, flat_map, unwrap_or}
use Rattle.std.specs.List.{AllZip}
use Rattle.std.specs.Option.{option_copied}
use Rattle.std.proofs.lemmas.List.Elements.{AllZip-push}
use Rattle.std.proofs.lemmas.List.{append-nil, flat_map_more}
use Rattle.envelope_records.specs.Envelope.{record_of}
use Rattle.script_words.specs.Words.{joined, StandsFor}
use Rattle.script_words.specs.Reading.{IsCut, IsWritten, HasRecipients}
use Rattle.script_words.proofs.Cuts.{not-cut, same-cut, lacks}

-- words with a space after each
abbrev pub front : List (List ℕ) → List ℕ
front [] = []
front (word ∷ words) = word ++ 32 ∷ front words

-- words with a last one
pub joined-front : (words : List (List ℕ)) (last : List ℕ) → joined (words ++ last ∷ []) ≡ front words ++ last
joined-front [] last = refl
joined-front (w ∷ []) last = sym (append_assoc w (32 ∷ []) last)
joined-front (w ∷ v ∷ words) last = ap (λ t. w ++ 32 ∷ t) (joined-front (v ∷ words) last) ∙ sym (append_assoc w (32 ∷ front (v ∷ words)) last)

-- one word before others
pub joined-more : (word : List ℕ) (words : List (List ℕ)) (last rest : List ℕ) → joined (word ∷ (words ++ last ∷ [])) ++ rest ≡ word ++ 32 ∷ (joined (words ++ last ∷ []) ++ rest)
joined-more word words last rest =
    ap (λ t. t ++ rest) (joined-front (word ∷ words) last ∙ append_assoc word (32 ∷ front words) last)
    ∙ append_assoc word (32 ∷ (front words ++ last)) rest
    ∙ ap (λ t. word ++ 32 ∷ (t ++ rest)) (sym (joined-front words last))

-- one word more
pub front-push : (words : List (List ℕ)) (word rest : List ℕ) → front (words ++ word ∷ []) ++ rest ≡ front words ++ (word ++ 32 ∷ rest)
front-push [] word rest = append_assoc word (32 ∷ []) rest
front-push (w ∷ words) word rest =
    append_assoc w (32 ∷ front (words ++ word ∷ [])) rest ∙ ap (λ t. w ++ 32 ∷ t) (front-push words word rest) ∙ sym (append_assoc w (32 ∷ front words) (word ++ 32 ∷ rest))

-- Some recipients were read, and put into the envelope; the rest of the words is left.
pub record Passed (words rest old new : List ℕ) : Type 0 where
  pub done : List (List ℕ)
  pub recipients : List (List ℕ)
  pub text : words ≡ front done ++ rest
  pub stand : AllZip StandsFor done recipients
  pub envelope : new ≡ old ++ flat_map record_of recipients

abbrev pub passed-none : (words envelope : List ℕ) → Passed words words envelope envelope
passed-none words envelope = record {
  done = [];
  recipients = [];
  text = refl;
  stand = tt;
  envelope = sym (append-nil envelope);
}

abbrev pub passed-more : (words rest old new word behind address newer : List ℕ) → Passed words rest old new → IsCut rest 32 word (Some behind) → word ≢ codes ":" → IsWritten word address → newer ≡ new ++ record_of address → Passed words behind old newer
passed-more words rest old new word behind address newer p cut more written grown = record {
  done = p.done ++ word ∷ [];
  recipients = p.recipients ++ address ∷ [];
  text = p.text ∙ ap (λ t. front p.done ++ t) cut.parts ∙ sym (front-push p.done word behind);
  stand = AllZip-push StandsFor p.done p.recipients word address p.stand (record { is_word = record { some = written.some; whole = cut.without }; no_end = more; bytes = written.bytes });
  envelope = grown ∙ ap (λ t. t ++ record_of address) p.envelope ∙ flat_map_more record_of old p.recipients address;
}

-- how the words end
abbrev pub Ends : List ℕ → List ℕ → Type 0
Ends rest body = ((rest ≡ []) × (body ≡ [])) ⊎ (rest ≡ 32 ∷ body)

abbrev pub passed-end : (words rest old new tail body : List ℕ) (p : Passed words rest old new) → rest ≡ codes ":" ++ tail → Ends tail body → HasRecipients words p.recipients body
passed-end words rest old new tail body p e ends = record {
  to = p.done;
  rest = tail;
  words = p.text ∙ ap (λ t. front p.done ++ t) e ∙ sym (append_assoc (front p.done) (codes ":") tail) ∙ ap (λ t. t ++ tail) (sym (joined-front p.done (codes ":")));
  stand = p.stand;
  ends = ends;
}

-- the same words, without the last one
pub record Remain (rest tail : List ℕ) : Type 0 where
  pub to : List (List ℕ)
  pub recipients : List (List ℕ)
  pub stand : AllZip StandsFor to recipients
  pub text : rest ≡ front to ++ (codes ":" ++ tail)

pub colon-lacks : ¬ (Contains (codes ":") 32)
colon-lacks = lacks (codes ":") 32 refl

-- `:` alone, or with a space after it, doesn't begin with another word
pub colon-alone : (word behind tail body : List ℕ) → word ≢ codes ":" → ¬ (Contains word 32) → Ends tail body → word ++ 32 ∷ behind ≡ codes ":" ++ tail → ⊥
colon-alone word behind tail body other whole (inl end) e = not-cut word behind (codes ":") 32 colon-lacks (e ∙ ap (λ t. codes ":" ++ t) end.0)
colon-alone word behind tail body other whole (inr end) e =
    other ((same-cut word behind (codes ":") body 32 whole colon-lacks (e ∙ ap (λ t. codes ":" ++ t) end)).0)

-- what was read of the words is what they have first
abbrev remain : (done dones to recipients : List (List ℕ)) (rest tail body : List ℕ) → AllZip StandsFor done dones → AllZip StandsFor to recipients → Ends tail body → front done ++ rest ≡ front to ++ (codes ":" ++ tail) → Remain rest tail
remain [] dones to recipients rest tail body p q ends e = record { to = to; recipients = recipients; stand = q; text = e }
remain (w ∷ done) [] to recipients rest tail body p q ends e = absurd p
remain (w ∷ done) (x ∷ dones) [] recipients rest tail body p q ends e =
    absurd (colon-alone w (front done ++ rest) tail body p.0.no_end p.0.is_word.whole ends (sym (append_assoc w (32 ∷ front done) rest) ∙ e))
remain (w ∷ done) (x ∷ dones) (v ∷ to) [] rest tail body p q ends e = absurd q
remain (w ∷ done) (x ∷ dones) (v ∷ to) (y ∷ recipients) rest tail body p q ends e =
    remain done dones to recipients rest tail body p.1 q.1 ends
    ((same-cut w (front done ++ rest) v (front to ++ (codes ":" ++ tail)) 32 p.0.is_word.whole q.0.is_word.whole
    (sym (append_assoc w (32 ∷ front done) rest) ∙ e ∙ append_assoc v (32 ∷ front to) (codes ":" ++ tail))).1)

-- if the words have recipients and `:`, so have the words that are left
pub still : (words rest old new body : List ℕ) (recipients : List (List ℕ)) → Passed words rest old new → (h : HasRecipients words recipients body) → Remain rest h.rest
still words rest old new body recipients p h =
    remain p.done p.recipients h.to recipients rest h.rest body p.stand h.stand h.ends
    (sym p.text ∙ h.words ∙ ap (λ t. t ++ h.rest) (joined-front h.to (codes ":")) ∙ append_assoc (front h.to) (codes ":") h.rest)

-- The first word of these is `:`, or it is an address with something after it.
abbrev pub IsFirst : List ℕ → Option (List ℕ) → Type 0
IsFirst word None = word ≡ codes ":"
IsFirst word (Some behind) = (word ≡ codes ":") ⊎ ((address : List ℕ) × IsWritten word address)

end-of : (rest tail body word : List ℕ) (after : Option (List ℕ)) → Ends tail body → rest ≡ codes ":" ++ tail → IsCut rest 32 word after → word ≡ codes ":"
end-of rest tail body word None (inl end) e cut = sym cut.parts ∙ e ∙ ap (λ t. codes ":" ++ t) end.0
end-of rest tail body word None (inr end) e cut = absurd (not-cut (codes ":") body word 32 cut.without (sym (ap (λ t. codes ":" ++ t) end) ∙ sym e ∙ cut.parts))
end-of rest tail body word (Some behind) (inl end) e cut = absurd (not-cut word behind (codes ":") 32 colon-lacks (sym cut.parts ∙ e ∙ ap (λ t. codes ":" ++ t) end.0))
end-of rest tail body word (Some behind) (inr end) e cut =
    (same-cut word behind (codes ":") body 32 cut.without colon-lacks (sym cut.parts ∙ e ∙ ap (λ t. codes ":" ++ t) end)).0

first-of : (to recipients : List (List ℕ)) (rest tail body word : List ℕ) (after : Option (List ℕ)) → AllZip StandsFor to recipients → Ends tail body → rest ≡ front to ++ (codes ":" ++ tail) → IsCut rest 32 word after → IsFirst word after
first-of [] recipients rest tail body word None q ends e cut = end-of rest tail body word None ends e cut
first-of [] recipients rest tail body word (Some behind) q ends e cut = inl (end-of rest tail body word (Some behind) ends e cut)
first-of (v ∷ to) [] rest tail body word after q ends e cut = absurd q
first-of (v ∷ to) (y ∷ recipients) rest tail body word None q ends e cut =
    absurd (not-cut v (front to ++ (codes ":" ++ tail)) word 32 cut.without (sym (append_assoc v (32 ∷ front to) (codes ":" ++ tail)) ∙ sym e ∙ cut.parts))
first-of (v ∷ to) (y ∷ recipients) rest tail body word (Some behind) q ends e cut =
    let same = (same-cut v (front to ++ (codes ":" ++ tail)) word behind 32 q.0.is_word.whole cut.without
    (sym (append_assoc v (32 ∷ front to) (codes ":" ++ tail)) ∙ sym e ∙ cut.parts)).0 in
    inr (y, subst (λ (w : List ℕ). IsWritten w y) same (record { some = q.0.is_word.some; bytes = q.0.bytes }))

-- so words that are refused at their first word have no recipients and `:`
pub first_word : (words rest old new body word : List ℕ) (recipients : List (List ℕ)) (after : Option (List ℕ)) → Passed words rest old new → HasRecipients words recipients body → IsCut rest 32 word after → IsFirst word after
first_word words rest old new body word recipients after p h cut =
    let r = still words rest old new body recipients p h in
    first-of r.to r.recipients rest h.rest body word after r.stand h.ends r.text cut

-- if there are no recipients it is `:`
only-end : (to : List (List ℕ)) (rest tail body word : List ℕ) (after : Option (List ℕ)) → AllZip StandsFor to [] → Ends tail body → rest ≡ front to ++ (codes ":" ++ tail) → IsCut rest 32 word after → word ≡ codes ":"
only-end [] rest tail body word after q ends e cut = end-of rest tail body word after ends e cut
only-end (v ∷ to) rest tail body word after q ends e cut = absurd q

pub end_word : (words body word : List ℕ) (after : Option (List ℕ)) → HasRecipients words [] body → IsCut words 32 word after → word ≡ codes ":"
end_word words body word after h cut =
    only-end h.to words h.rest body word after h.stand h.ends
    (h.words ∙ ap (λ t. t ++ h.rest) (joined-front h.to (codes ":")) ∙ append_assoc (front h.to) (codes ":") h.rest) cut

-- at the end the recipients are those that were read
pub passed-whole : (words rest old new word : List ℕ) (after : Option (List ℕ)) (p : Passed words rest old new) → IsCut rest 32 word after → word ≡ codes ":" → HasRecipients words p.recipients (unwrap_or after [])
passed-whole words rest old new word None p cut end = passed-end words rest old new [] [] p (cut.parts ∙ end ∙ sym (append-nil (codes ":"))) (inl (refl, refl))
passed-whole words rest old new word (Some behind) p cut end =
    passed-end words rest old new (32 ∷ behind) behind p (cut.parts ∙ ap (λ w. w ++ 32 ∷ behind) end) (inr refl)

-- what was lent
pub now_unwrap_or : (o : Option (Bor (List ℕ))) (d : Bor (List ℕ)) → (unwrap_or o d).now ≡ unwrap_or (option_copied o) d.now
now_unwrap_or None d = refl
now_unwrap_or (Some x) d = refl
