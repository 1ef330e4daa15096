-- Parts and message reports as relations.
use Rattle.std.proofs.Common.{◌≡◌, ◌≢◌, ℕ, List, [], ◌∷◌, ◌++◌, Bool, true, false, Option, Some, None, eqb, refl, sym, ap, ◌∙◌, subst, inl, inr, ⊎_elim, append_assoc, append-nil}
use Rattle.std.specs.Prelude.{◌||◌, All, flat_map, if◌then◌else◌}
use Rattle.std.specs.Option.{option_or}
use Rattle.std.proofs.lemmas.Bool.{cases_Bool, false≢true, cond-true, cond-false, eqb-true, eqb-false}
use Rattle.std.proofs.lemmas.List.Elements.{All-nil, All-cons, All-head, All-tail, recursion_from_All}
use Rattle.remote_spawn.specs.Parts.{AreParts, IsMessageOf, IsNoMessage, IsVerdict, Message, ended, first_message, is_verdict, message_in_part, parts, put_on_first}
use Rattle.mail_bytes.specs.Texts.{HasNoNul}
use Rattle.remote_spawn.proofs.PartLemmas.{no_part, one_part}

-- The parts of an output are its parts.

no_nul : HasNoNul []
no_nul = All-nil (λ b. b ≢ 0)

one_byte_more : (b : ℕ) (rest : List ℕ) (these : List (List ℕ)) → b ≢ 0 → AreParts rest these → AreParts (b ∷ rest) (put_on_first b these)
one_byte_more b rest [] apart h = record {
  rest = b ∷ h.rest;
  text = ap (λ t. b ∷ t) h.text;
  whole = All-nil HasNoNul;
  open_end = All-cons (λ c. c ≢ 0) b h.rest apart h.open_end;
}
one_byte_more b rest (part ∷ more) apart h = record {
  rest = h.rest;
  text = ap (λ t. b ∷ t) h.text;
  whole = All-cons HasNoNul (b ∷ part) more (All-cons (λ c. c ≢ 0) b part apart (All-head HasNoNul part more h.whole)) (All-tail HasNoNul part more h.whole);
  open_end = h.open_end;
}

one_nul_more : (rest : List ℕ) (these : List (List ℕ)) → AreParts rest these → AreParts (0 ∷ rest) ([] ∷ these)
one_nul_more rest these h = record {
  rest = h.rest;
  text = ap (λ t. 0 ∷ t) h.text;
  whole = All-cons HasNoNul [] these no_nul h.whole;
  open_end = h.open_end;
}

pub are_parts : (output : List ℕ) → AreParts output (parts output)
are_parts [] = record { rest = []; text = refl; whole = All-nil HasNoNul; open_end = no_nul }
are_parts (b ∷ rest) = ⊎_elim
    (λ nul. subst (AreParts (b ∷ rest)) (sym (cond-true (eqb b 0) ([] ∷ parts rest) (put_on_first b (parts rest)) nul))
    (subst (λ c. AreParts (c ∷ rest) ([] ∷ parts rest)) (sym (eqb-true b 0 nul)) (one_nul_more rest (parts rest) (are_parts rest))))
    (λ isnt. subst (AreParts (b ∷ rest)) (sym (cond-false (eqb b 0) ([] ∷ parts rest) (put_on_first b (parts rest)) isnt))
    (one_byte_more b rest (parts rest) (eqb-false b 0 isnt) (are_parts rest)))
    (cases_Bool (eqb b 0))

parts_of_text : (these : List (List ℕ)) (rest : List ℕ) → All HasNoNul these → HasNoNul rest → parts (flat_map ended these ++ rest) ≡ these
parts_of_text [] rest h k = no_part rest (recursion_from_All (λ b. b ≢ 0) rest k)
parts_of_text (part ∷ more) rest h k =
    ap parts (append_assoc (part ++ 0 ∷ []) (flat_map ended more) rest ∙ append_assoc part (0 ∷ []) (flat_map ended more ++ rest))
    ∙ one_part part (flat_map ended more ++ rest) (recursion_from_All (λ b. b ≢ 0) part (All-head HasNoNul part more h))
    ∙ ap (λ t. part ∷ t) (parts_of_text more rest (All-tail HasNoNul part more h) k)

pub parts_are : (output : List ℕ) (these : List (List ℕ)) → AreParts output these → parts output ≡ these
parts_are output these h = ap parts h.text ∙ parts_of_text these h.rest h.whole h.open_end

-- Letters

verdict_of : (b : ℕ) → is_verdict b ≡ true → IsVerdict b
verdict_of b e = either (eqb b 75) (eqb b 90 || eqb b 68) e (λ k. inl (eqb-true b 75 k))
    (λ more. either (eqb b 90) (eqb b 68) more (λ z. inr (inl (eqb-true b 90 z))) (λ d. inr (inr (eqb-true b 68 d))))
  where
    either : {A : Type 0} (p q : Bool) → (p || q) ≡ true → (p ≡ true → A) → (q ≡ true → A) → A
    either true q e f g = f refl
    either false q e f g = g e

is_verdict_by : (b : ℕ) → IsVerdict b → is_verdict b ≡ true
is_verdict_by b h = ⊎_elim (λ e. ap is_verdict e) (λ more. ⊎_elim (λ e. ap is_verdict e) (λ e. ap is_verdict e) more) h

no_verdict_by : (b : ℕ) → ¬ (IsVerdict b) → is_verdict b ≡ false
no_verdict_by b isnt = ⊎_elim (λ yes. absurd (isnt (verdict_of b yes))) (λ e. e) (cases_Bool (is_verdict b))

-- The first message report is the first part that begins with one of them.

abbrev found_in : ℕ → List ℕ → Bool → Option Message
found_in letter text t = if t then Some (letter, text) else None

in_part : (letter : ℕ) (text : List ℕ) → IsVerdict letter → message_in_part (letter ∷ text) ≡ Some (letter, text)
in_part letter text h = ap (found_in letter text) (is_verdict_by letter h)

not_in_part : (part : List ℕ) → IsNoMessage part → message_in_part part ≡ None
not_in_part [] isnt = refl
not_in_part (letter ∷ text) isnt = ap (found_in letter text) (no_verdict_by letter (isnt letter text refl))

-- what a part is
data Looked (part : List ℕ) : Type 0 where
  Has : (letter : ℕ) (text : List ℕ) → part ≡ letter ∷ text → IsVerdict letter → message_in_part part ≡ Some (letter, text) → Looked part
  HasNone : IsNoMessage part → message_in_part part ≡ None → Looked part

heads : (a b : ℕ) (x y : List ℕ) → ◌≡◌ {A = List ℕ} (a ∷ x) (b ∷ y) → a ≡ b
heads a b x y e = cc

look : (part : List ℕ) → Looked part
look [] = HasNone (λ letter text e h. absurd (nothing letter text e)) refl
  where
    nothing : (letter : ℕ) (text : List ℕ) → ◌≡◌ {A = List ℕ} [] (letter ∷ text) → ⊥
    nothing letter text e = absurd (cc)
look (b ∷ text) = ⊎_elim
    (λ yes. Has b text refl (verdict_of b yes) (ap (found_in b text) yes))
    (λ isnt. HasNone
    (λ letter more e h. false≢true (sym isnt ∙ is_verdict_by b (subst IsVerdict (sym (heads b letter text more e)) h)))
    (ap (found_in b text) isnt))
    (cases_Bool (is_verdict b))

later : (part : List ℕ) (more : List (List ℕ)) (o : Option Message) → IsNoMessage part → IsMessageOf more o → IsMessageOf (part ∷ more) o
later part more None isnt h = All-cons IsNoMessage part more isnt h
later part more (Some message) isnt h = record {
  before = part ∷ h.before;
  after = h.after;
  split = ap (λ t. part ∷ t) h.split;
  none = All-cons IsNoMessage part h.before isnt h.none;
  verdict = h.verdict;
}

looked : (part : List ℕ) (more : List (List ℕ)) → Looked part → IsMessageOf more (first_message more) → IsMessageOf (part ∷ more) (first_message (part ∷ more))
looked part more (Has letter text is verdict found) h =
    subst (IsMessageOf (part ∷ more)) (sym (ap (λ o. option_or o (first_message more)) found))
    (record { before = []; after = more; split = ap (λ t. t ∷ more) is; none = All-nil IsNoMessage; verdict = verdict })
looked part more (HasNone isnt found) h =
    subst (IsMessageOf (part ∷ more)) (sym (ap (λ o. option_or o (first_message more)) found)) (later part more (first_message more) isnt h)

pub is_first_message : (these : List (List ℕ)) → IsMessageOf these (first_message these)
is_first_message [] = All-nil IsNoMessage
is_first_message (part ∷ more) = looked part more (look part) (is_first_message more)

passed : (before these : List (List ℕ)) → All IsNoMessage before → first_message (before ++ these) ≡ first_message these
passed [] these h = refl
passed (part ∷ before) these h =
    ap (λ o. option_or o (first_message (before ++ these))) (not_in_part part (All-head IsNoMessage part before h))
    ∙ passed before these (All-tail IsNoMessage part before h)

pub first_message_is : (these : List (List ℕ)) (o : Option Message) → IsMessageOf these o → first_message these ≡ o
first_message_is these None h = ap first_message (sym (append-nil these)) ∙ passed these [] h
first_message_is these (Some message) h =
    ap first_message h.split
    ∙ passed h.before ((message.0 ∷ message.1) ∷ h.after) h.none
    ∙ ap (λ o. option_or o (first_message h.after)) (in_part message.0 message.1 h.verdict)
