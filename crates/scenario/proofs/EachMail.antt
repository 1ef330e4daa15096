-- The lines of mails, one after the other.
use Rattle.std.proofs.Common.{◌≡◌, Bor, ℕ, ◌<◌, List, [], ◌∷◌, ◌++◌, length, get_or, map, min, take, refl, sym, ap, ◌∙◌, append_assoc, arith}
use Rattle.std.specs.Prelude.{OnOk, Ok, Err, Result, flat_map, if◌then◌else◌}
use Rattle.std.specs.Result.{is_ok}
use Rattle.std.specs.List.{zip}
use Rattle.std.proofs.lemmas.List.{append-nil, length_push, take_all, take_more}
use Rattle.std.proofs.lemmas.List.Concat.{flat_map-append}
use Rattle.std.proofs.lemmas.Slice.Zip.{get_or-zip, length-zip}
use Rattle.world_events.specs.declared.books.Entry.{Entry}
use Rattle.scenario.specs.declared.showing.Given.{Given}
use Rattle.script_traces.specs.declared.fates.RecipientFate.{RecipientFate}
use Rattle.script_traces.specs.Fates.{fate_lines}
use Rattle.scenario.specs.Shown.{line_of}
use Rattle.scenario.proofs.Receivers.{envelope_at}

-- A text, or another list, of each pair of two lists

module _ {A B W : Type 0} (f : A × B → List W) (ks : List A) (vs : List B) where
  -- of the first so many
  abbrev pub so_far : ℕ → List W
  so_far n = flat_map f (take n (zip ks vs))

  -- the pairs so far, and one more
  pub one_more : (xs : List (Bor A × Bor B)) (p : Bor A × Bor B)
      → (length xs < length ks) × (length xs < length vs) × ((d : A) → p.0.now ≡ get_or ks (length xs) d) × ((d : B) → p.1.now ≡ get_or vs (length xs) d)
      → so_far (length (xs ++ p ∷ [])) ≡ so_far (length xs) ++ f (p.0.now, p.1.now)
  one_more xs p at =
      let i = length xs in
      let d : A × B = (p.0.now, p.1.now) in
      let low = at.0 in
      let few = at.1 in
      let many = length-zip ks vs in
      let inside : i < length (zip ks vs) = omega (arith, low, few, many) in
      let here : get_or (zip ks vs) i d ≡ d =
      get_or-zip ks vs i d low few ∙ ap (λ (a : A). (a, get_or vs i p.1.now)) (sym (at.2 p.0.now)) ∙ ap (λ (b : B). (p.0.now, b)) (sym (at.3 p.1.now)) in
      ap so_far (length_push xs p)
      ∙ ap (flat_map f) (take_more (zip ks vs) i d inside ∙ ap (λ (x : A × B). take i (zip ks vs) ++ x ∷ []) here)
      ∙ flat_map-append f (take i (zip ks vs)) (d ∷ [])
      ∙ ap (λ (t : List W). so_far i ++ t) (append-nil (f d))

  -- all of them
  pub all_so_far : (n : ℕ) → n ≡ min (length ks) (length vs) → so_far n ≡ flat_map f (zip ks vs)
  all_so_far n is = ap (flat_map f) (take_all n (zip ks vs) (let many = length-zip ks vs in omega (arith, many, is)))

-- what was put for the pairs so far, with the lines of one more
pub one_put : (old before own new after : List ℕ) → before ≡ old ++ own → (lines : List ℕ) → new ≡ before ++ lines → after ≡ own ++ lines → new ≡ old ++ after
one_put old before own new after first lines second both = second ∙ ap (λ (t : List ℕ). t ++ lines) first ∙ append_assoc old own lines ∙ ap (λ (t : List ℕ). old ++ t) (sym both)

-- what is told of mails by the envelopes that they were given
pub by_envelope : {W : Type 0} (tells : Entry → List ℕ → List W) (entries : List Entry) (given : List Given)
    → flat_map (λ (mail : Entry × Given). tells mail.0 mail.1.envelope.now) (zip entries given) ≡ flat_map (λ (mail : Entry × List ℕ). tells mail.0 mail.1) (zip entries (map envelope_at given))
by_envelope tells [] given = refl
by_envelope tells (entry ∷ entries) [] = refl
by_envelope tells (entry ∷ entries) (g ∷ given) = ap (λ t. tells entry (envelope_at g) ++ t) (by_envelope tells entries given)

-- the line of a mail, and those of its recipients
pub mail_put : (old first second name mail actor life : List ℕ) (fates told : List RecipientFate) → first ≡ old ++ line_of name life → name ≡ actor
    → second ≡ first ++ fate_lines mail fates → mail ≡ actor → fates ≡ told → second ≡ old ++ (line_of actor life ++ fate_lines actor told)
mail_put old first second name mail actor life fates told one is two also same =
    two
    ∙ ap (λ (t : List ℕ). t ++ fate_lines mail fates) (one ∙ ap (λ (a : List ℕ). old ++ line_of a life) is)
    ∙ ap (λ (a : List ℕ). (old ++ line_of actor life) ++ fate_lines a fates) also
    ∙ ap (λ (fs : List RecipientFate). (old ++ line_of actor life) ++ fate_lines actor fs) same
    ∙ append_assoc old (line_of actor life) (fate_lines actor told)

-- what was put at the end of a text, if that succeeded
pub if_put : {X E : Type 0} (r : Result X E) (old bytes own new : List ℕ) → new ≡ (if is_ok r then old ++ bytes else old) → bytes ≡ own → OnOk r (new ≡ old ++ own)
if_put (Ok x) old bytes own new put same = put ∙ ap (λ (t : List ℕ). old ++ t) same
if_put (Err x) old bytes own new put same = tt
