-- Forwards among lines.
use Rattle.std.proofs.Common.{◌≡◌, ℕ, ◌+◌, ◌<◌, List, [], ◌∷◌, ◌++◌, length, take, get_or, Some, None, refl, sym, ap, ◌∙◌}
use Rattle.std.specs.List.{flat_map}
use Rattle.std.proofs.lemmas.List.{take_more}
use Rattle.std.proofs.lemmas.List.Concat.{flat_map-append}
use Rattle.dot_qmail.specs.declared.line.Line.{Line}
use Rattle.dot_qmail.specs.declared.line.Line.TheVariants as line
use Rattle.envelope_records.specs.Envelope.{record_of}
use Rattle.local_parts.specs.declared.arguments.LocalArgs.{LocalArgs}
use Rattle.local_parts.specs.declared.forwarding.Injection.{Injection}
use Rattle.local_parts.specs.Forwarding.{forward_sender, forwards, injected, injection_of, injection_to}
use Rattle.local_parts.specs.Texts.{delivered_line, forward_text}

pub forwards_append : (xs ys : List Line) → forwards (xs ++ ys) ≡ forwards xs ++ forwards ys
forwards_append [] ys = refl
forwards_append (line.Forward address ∷ xs) ys = ap (λ t. address ∷ t) (forwards_append xs ys)
forwards_append (line.Command text ∷ xs) ys = forwards_append xs ys
forwards_append (line.Maildir path ∷ xs) ys = forwards_append xs ys
forwards_append (line.Mailbox path ∷ xs) ys = forwards_append xs ys

abbrev pub records : List Line → List ℕ
records lines = flat_map record_of (forwards lines)

-- with one line more
pub records_more : (lines : List Line) (k : ℕ) (it : Line) → k < length lines → records (take (k + 1) lines) ≡ records (take k lines) ++ records (get_or lines k it ∷ [])
records_more lines k it lt =
    ap records (take_more lines k it lt) ∙ ap (flat_map record_of) (forwards_append (take k lines) (get_or lines k it ∷ []))
    ∙ flat_map-append record_of (forwards (take k lines)) (forwards (get_or lines k it ∷ []))

-- The injection for the addresses whose records these are

module _ (args : LocalArgs) (names : List (List ℕ)) (message : List ℕ) where
  abbrev by_records : List ℕ → Injection
  by_records text = injected (forward_text args message) (((70 ∷ (forward_sender args names ++ 0 ∷ [])) ++ text) ++ 0 ∷ [])

  none_for : (addresses : List (List ℕ)) → flat_map record_of addresses ≡ [] → injection_to args names message addresses ≡ None
  none_for [] e = refl
  none_for (address ∷ more) e = absurd (cc)

  pub no_injection : (lines : List Line) (text : List ℕ) → text ≡ flat_map record_of (forwards lines) → text ≡ [] → None ≡ injection_of args names message lines
  unfolding injection_of
  no_injection lines text is e = sym (none_for (forwards lines) (sym is ∙ e))

  some_for : (addresses : List (List ℕ)) → (flat_map record_of addresses ≡ [] → ⊥) → injection_to args names message addresses ≡ Some (by_records (flat_map record_of addresses))
  some_for [] f = absurd (f refl)
  some_for (address ∷ more) f = refl

  pub injection : (lines : List Line) (text line whole : List ℕ) (it : Injection) → text ≡ flat_map record_of (forwards lines) → (text ≡ [] → ⊥) → line ≡ delivered_line args
      → whole ≡ ((70 ∷ (forward_sender args names ++ 0 ∷ [])) ++ text) ++ 0 ∷ [] → it ≡ injected (line ++ message) whole
      → Some it ≡ injection_of args names message lines
  unfolding injection_of
  injection lines text line whole it is f head envelope e =
      ap Some (e ∙ ap (λ w. injected (line ++ message) w) envelope ∙ ap (λ l. injected (l ++ message) (((70 ∷ (forward_sender args names ++ 0 ∷ [])) ++ text) ++ 0 ∷ [])) head ∙ ap by_records is)
      ∙ sym (some_for (forwards lines) (λ none. f (is ∙ none)))
