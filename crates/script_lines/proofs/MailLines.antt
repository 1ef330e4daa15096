-- Lines that start a mail.
use Rattle.std.proofs.Common.{◌≡◌, ◌≢◌, ℕ, List, [], ◌∷◌, ◌++◌, Contains, Some, Ok, refl, sym, ◌∙◌, ap, subst, inl, inr, ⊎_elim, arith, append_assoc}
use Rattle.std.specs.Prelude.{codes}
use Rattle.std.specs.List.{AllZip}
use Rattle.std.proofs.lemmas.List.Elements.{All-cons, All-weaker, All-contains}
use Rattle.mail_bytes.specs.Escape.{unescaped}
use Rattle.script_words.specs.declared.envelope.Form.{Form}
use Rattle.script_words.specs.declared.envelope.Form.TheVariants.{Written, Raw}
use Rattle.script_words.specs.Words.{joined, StandsFor, envelope_bytes}
use Rattle.script_words.specs.Reading.{IsCut, form_text, HasEnvelopeAs}
use Rattle.script_words.proofs.Cuts.{same-cut, contains-cut}
use Rattle.script_words.proofs.WordLists.{joined-more}
use Rattle.script_words.proofs.Envelopes.{has-body, body-ends}
use Rattle.actor_names.specs.MailNames.{IsLetterOrDigit, IsMailName}
use Rattle.script_lines.specs.declared.line.Line.TheVariants.{Mail}
use Rattle.script_lines.specs.Lines.{IsMailLine, IsRawLine, IsLine}
use Rattle.script_lines.specs.inside.Reading.{HasMail}

-- no name of a mail has a space
pub name_lacks : (name : List ℕ) → IsMailName name → ¬ (Contains name 32)
name_lacks [] is here = is
name_lacks (first ∷ rest) is here =
    let P : ℕ → Type 0 = λ b. b ≢ 32 in
    let apart : (b : ℕ) → IsLetterOrDigit b → b ≢ 32 = λ b h e. ⊎_elim (λ letter. let low = letter.0 in omega arith) (λ digit. let low = digit.0 in omega arith) h in
    All-contains P (first ∷ rest) 32 (All-cons P first rest (λ e. let low = is.0.0 in omega arith) (All-weaker IsLetterOrDigit P apart rest is.1)) here refl

-- a name and words, as one text
pub words-of : (key name from more rest text : List ℕ) (to : List (List ℕ)) → text ≡ name ++ 32 ∷ (from ++ 32 ∷ more) → more ≡ joined (to ++ codes ":" ∷ []) ++ rest → key ++ 32 ∷ text ≡ key ++ 32 ∷ ((name ++ 32 ∷ joined (from ∷ (to ++ codes ":" ∷ []))) ++ rest)
words-of key name from more rest text to e follow =
    ap (λ t. key ++ 32 ∷ t)
    (e
    ∙ ap (λ t. name ++ 32 ∷ t) (ap (λ t. from ++ 32 ∷ t) follow ∙ sym (joined-more from to (codes ":") rest))
    ∙ sym (append_assoc name (32 ∷ joined (from ∷ (to ++ codes ":" ∷ []))) rest))

-- if there are no recipients, `:` follows
pub no-recipients : (to : List (List ℕ)) → AllZip StandsFor to [] → to ≡ []
no-recipients [] h = refl
no-recipients (v ∷ to) h = absurd h

-- its parts make a line
abbrev pub mail_line : (form : Form) (words name rest envelope body message : List ℕ) → IsCut words 32 name (Some rest) → IsMailName name → HasEnvelopeAs form rest envelope body → unescaped body ≡ Ok message → IsLine (form_text form ++ 32 ∷ words) (Mail name message envelope)
mail_line Written words name rest envelope body message cut is_name h is = inl (
  h.sender,
  h.recipients,
  record {
    from = h.from;
    to = h.follow.to;
    rest = h.follow.rest;
    words = words-of (codes "mail") name h.from h.more h.follow.rest words h.follow.to (cut.parts ∙ ap (λ t. name ++ 32 ∷ t) h.words) h.follow.words;
    is_name = is_name;
    is_sender = h.stands;
    are_recipients = h.follow.stand;
    has_body = has-body h.follow.rest body message h.follow.ends is;
  },
  h.envelope_is,
)
mail_line Raw words name rest envelope body message cut is_name h is = inr (record {
  word = h.word;
  rest = h.follow.rest;
  words =
      words-of (codes "raw") name h.word h.more h.follow.rest words [] (cut.parts ∙ ap (λ t. name ++ 32 ∷ t) h.words)
      (h.follow.words ∙ ap (λ (t : List (List ℕ)). joined (t ++ codes ":" ∷ []) ++ h.follow.rest) (no-recipients h.follow.to h.follow.stand));
  is_name = is_name;
  is_envelope = h.stands;
  has_body = has-body h.follow.rest body message h.follow.ends is;
})

-- what stands after the first word of a line
behind-key : (name from rest : List ℕ) (to : List (List ℕ)) → (name ++ 32 ∷ joined (from ∷ (to ++ codes ":" ∷ []))) ++ rest ≡ name ++ 32 ∷ (from ++ 32 ∷ (joined (to ++ codes ":" ∷ []) ++ rest))
behind-key name from rest to =
    append_assoc name (32 ∷ joined (from ∷ (to ++ codes ":" ∷ []))) rest
    ∙ ap (λ t. name ++ 32 ∷ t) (joined-more from to (codes ":") rest)

-- and its parts
pub has_mail : (text name sender : List ℕ) (recipients : List (List ℕ)) (message envelope : List ℕ) (m : IsMailLine text name sender recipients message) → envelope ≡ envelope_bytes sender recipients
    → HasMail Written ((name ++ 32 ∷ joined (m.from ∷ (m.to ++ codes ":" ∷ []))) ++ m.rest)
has_mail text name sender recipients message envelope m is =
    let end = body-ends m.rest message m.has_body in
    record {
      name = name;
      rest = m.from ++ 32 ∷ (joined (m.to ++ codes ":" ∷ []) ++ m.rest);
      envelope = envelope;
      body = end.0;
      message = message;
      words_are = behind-key name m.from m.rest m.to;
      is_name = m.is_name;
      has_envelope = record {
        from = m.from;
        sender = sender;
        more = joined (m.to ++ codes ":" ∷ []) ++ m.rest;
        recipients = recipients;
        words = refl;
        stands = m.is_sender;
        follow = record { to = m.to; rest = m.rest; words = refl; stand = m.are_recipients; ends = end.1 };
        envelope_is = is;
      };
      message_is = end.2;
    }

pub has_raw : (text name envelope message : List ℕ) (m : IsRawLine text name envelope message) → HasMail Raw ((name ++ 32 ∷ joined (m.word ∷ codes ":" ∷ [])) ++ m.rest)
has_raw text name envelope message m =
    let end = body-ends m.rest message m.has_body in
    record {
      name = name;
      rest = m.word ++ 32 ∷ (codes ":" ++ m.rest);
      envelope = envelope;
      body = end.0;
      message = message;
      words_are = behind-key name m.word m.rest [];
      is_name = m.is_name;
      has_envelope = record {
        word = m.word;
        more = codes ":" ++ m.rest;
        words = refl;
        stands = m.is_envelope;
        follow = record { to = []; rest = m.rest; words = refl; stand = tt; ends = end.1 };
      };
      message_is = end.2;
    }

-- a mail's name and what follows are those before and after the first space
pub behind_name : (form : Form) (words word rest : List ℕ) → IsCut words 32 word (Some rest) → (h : HasMail form words) → (h.name ≡ word) × (h.rest ≡ rest)
behind_name form words word rest cut h = same-cut h.name h.rest word rest 32 (name_lacks h.name h.is_name) cut.without (sym h.words_are ∙ cut.parts)

-- a text with parts has a space
pub mail_has_space : (form : Form) (words : List ℕ) → HasMail form words → Contains words 32
mail_has_space form words h = subst (λ (t : List ℕ). Contains t 32) (sym h.words_are) (contains-cut h.name h.rest 32)
