-- What an envelope is made of, and the body after it.
use Rattle.std.proofs.Common.{◌≡◌, ℕ, List, [], ◌∷◌, ◌++◌, Contains, Some, Ok, refl, sym, ◌∙◌, ap, subst, inl, inr, ⊎_elim, append_assoc}
use Rattle.std.specs.Prelude.{codes, flat_map}
use Rattle.std.specs.List.{AllZip}
use Rattle.std.proofs.lemmas.List.{append_cancel_left}
use Rattle.mail_bytes.specs.Escape.{unescaped}
use Rattle.envelope_records.specs.Envelope.{record_of}
use Rattle.script_words.specs.declared.envelope.Form.{Form}
use Rattle.script_words.specs.declared.envelope.Form.TheVariants.{Written, Raw}
use Rattle.script_words.specs.Words.{StandsFor, StandsForText, HasBody}
use Rattle.script_words.specs.Reading.{IsCut, IsWrittenText, HasRecipients, BeginsWithEnvelope, HasRawEnvelope, HasEnvelopeAs}
use Rattle.script_words.proofs.Cuts.{same-cut, lacks, tail-same}
use Rattle.script_words.proofs.WordLists.{front, joined-front, colon-alone, Passed, Ends, still}

-- the word for a text that may be empty has no space
pub text_lacks : (word sender : List ℕ) → StandsForText word sender → ¬ (Contains word 32)
text_lacks word sender (inl empty) = subst (λ (w : List ℕ). ¬ (Contains w 32)) (sym empty.0) (lacks (codes "-") 32 refl)
text_lacks word sender (inr named) = named.1.is_word.whole

-- the body after the `:`
pub has-body : (rest body message : List ℕ) → Ends rest body → unescaped body ≡ Ok message → HasBody rest message
has-body rest body message (inl end) is =
    let e : unescaped [] ≡ Ok message = ap unescaped (sym end.1) ∙ is in
    let none : message ≡ [] = cc in
    subst (λ (r : List ℕ). HasBody r message) (sym end.0) none
has-body rest body message (inr end) is = subst (λ (r : List ℕ). HasBody r message) (sym end) (refl, is)

-- how the words of a line end, by its body
pub body-ends : (rest message : List ℕ) → HasBody rest message → (body : List ℕ) × Ends rest body × (unescaped body ≡ Ok message)
body-ends [] message h = ([], inl (refl, refl), ap Ok (sym h))
body-ends (first ∷ text) message h = (text, inr (ap (λ b. b ∷ text) h.0), h.1)

-- the words after a sender have one body
same-body : (to recipients : List (List ℕ)) (tail tail' body body' : List ℕ) → AllZip StandsFor to recipients → Ends tail body → Ends tail' body' → codes ":" ++ tail ≡ front to ++ (codes ":" ++ tail') → body ≡ body'
same-body [] recipients tail tail' body body' q ends ends' e =
    let same : tail ≡ tail' = append_cancel_left (codes ":") tail tail' e in
    ⊎_elim
    (λ end. ⊎_elim (λ end'. end.1 ∙ sym end'.1) (λ end'. let no : [] ≡ 32 ∷ body' = sym end.0 ∙ same ∙ end' in absurd (cc)) ends')
    (λ end. ⊎_elim (λ end'. let no : [] ≡ 32 ∷ body = sym end'.0 ∙ sym same ∙ end in absurd (cc)) (λ end'. tail-same (sym end ∙ same ∙ end')) ends')
    ends
same-body (v ∷ to) [] tail tail' body body' q ends ends' e = absurd q
same-body (v ∷ to) (y ∷ recipients) tail tail' body body' q ends ends' e =
    absurd (colon-alone v (front to ++ (codes ":" ++ tail')) tail body q.0.no_end q.0.is_word.whole ends
    (sym (append_assoc v (32 ∷ front to) (codes ":" ++ tail')) ∙ sym e))

-- all of the words were read
passed-all : (words body : List ℕ) (recipients : List (List ℕ)) (h : HasRecipients words recipients body) → Passed words (codes ":" ++ h.rest) [] (flat_map record_of recipients)
passed-all words body recipients h = record {
  done = h.to;
  recipients = recipients;
  text = h.words ∙ ap (λ t. t ++ h.rest) (joined-front h.to (codes ":")) ∙ append_assoc (front h.to) (codes ":") h.rest;
  stand = h.stand;
  envelope = refl;
}

pub one_body : (words body body' : List ℕ) (recipients recipients' : List (List ℕ)) → HasRecipients words recipients body → HasRecipients words recipients' body' → body ≡ body'
one_body words body body' recipients recipients' h h' =
    let r = still words (codes ":" ++ h.rest) [] (flat_map record_of recipients) body' recipients' (passed-all words body recipients h) h' in
    same-body r.to r.recipients h.rest h'.rest body body' r.stand h.ends h'.ends r.text

-- a sender and what follows are those before and after the first space
pub behind_sender : (words word rest envelope body : List ℕ) → IsCut words 32 word (Some rest) → (h : BeginsWithEnvelope words envelope body) → (h.from ≡ word) × (h.more ≡ rest)
behind_sender words word rest envelope body cut h =
    same-cut h.from h.more word rest 32 (text_lacks h.from h.sender h.stands) cut.without (sym h.words ∙ cut.parts)

-- a word for an envelope and what follows are those too
pub behind_word : (words word rest envelope body : List ℕ) → IsCut words 32 word (Some rest) → (h : HasRawEnvelope words envelope body) → (h.word ≡ word) × (h.more ≡ rest)
behind_word words word rest envelope body cut h =
    same-cut h.word h.more word rest 32 (text_lacks h.word envelope h.stands) cut.without (sym h.words ∙ cut.parts)

-- two readings of one text have one body
pub same_envelope_body : (form : Form) (words envelope envelope' body body' : List ℕ) → HasEnvelopeAs form words envelope body → HasEnvelopeAs form words envelope' body' → body ≡ body'
same_envelope_body Written words envelope envelope' body body' h h' =
    let same = same-cut h'.from h'.more h.from h.more 32 (text_lacks h'.from h'.sender h'.stands) (text_lacks h.from h.sender h.stands) (sym h'.words ∙ h.words) in
    one_body h.more body body' h.recipients h'.recipients h.follow (subst (λ (t : List ℕ). HasRecipients t h'.recipients body') same.1 h'.follow)
same_envelope_body Raw words envelope envelope' body body' h h' =
    let same = same-cut h'.word h'.more h.word h.more 32 (text_lacks h'.word envelope' h'.stands) (text_lacks h.word envelope h.stands) (sym h'.words ∙ h.words) in
    one_body h.more body body' [] [] h.follow (subst (λ (t : List ℕ). HasRecipients t [] body') same.1 h'.follow)

-- a word for a text, as it is read
pub written_text : (word text : List ℕ) → StandsForText word text → IsWrittenText word text
written_text word text (inl empty) = inl empty
written_text word text (inr named) = inr (named.0, named.1.no_end, record { some = named.1.is_word.some; bytes = named.1.bytes })

-- and the other way round, if the word has no space
pub text_of : (word text : List ℕ) → ¬ (Contains word 32) → IsWrittenText word text → StandsForText word text
text_of word text whole (inl empty) = inl empty
text_of word text whole (inr named) = inr (named.0, record { is_word = record { some = named.2.some; whole = whole }; no_end = named.1; bytes = named.2.bytes })
