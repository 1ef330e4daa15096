-- Texts cut at a byte.
use Rattle.std.proofs.Common.{◌≡◌, ◌≢◌, ◌⊎◌, ℕ, ◌+◌, ◌-◌, ◌<◌, List, [], ◌∷◌, ◌++◌, Option, Some, None, Bool, true, false, refl, sym, ap, take, drop, length, get_or, eqb, ◌∙◌, subst, inl, inr, ⊎_elim, arith}
use Rattle.std.specs.Prelude.{Contains, if◌then◌else◌}
use Rattle.std.specs.Option.{option_or}
use Rattle.std.proofs.Math.Seq.{split_at}
use Rattle.std.proofs.Math.Numerals.{add-one}
use Rattle.std.proofs.lemmas.List.{take_all, length-take, length-drop, get_or-take, get_or-drop}
use Rattle.bstr.specs.Find.{is_byte, NoneBefore, NoneAfter, Nowhere, Passes}
use Rattle.std.proofs.lemmas.List.Elements.{All-nil, All-cons, All-contains, All-from_get_or, Contains-append_right, Contains-append_cases}
use Rattle.std.proofs.lemmas.Bool.Decides.{eqb_tells, Decides-eqb}
use Rattle.address_rules.specs.Cuts.{Parts, put_before, cut_here, first_cut, last_cut, IsFirstCut, IsLastCut}

-- Tests of bytes.

pub not_true : (b : Bool) → ¬ (b ≡ true) → b ≡ false
not_true true n = absurd (n refl)
not_true false n = refl

pub same_eqb : (a b : ℕ) → a ≡ b → eqb a b ≡ true
same_eqb a b e = (Decides-eqb a b).1 e

pub differs_eqb : (a b : ℕ) → a ≢ b → eqb a b ≡ false
differs_eqb a b apart = not_true (eqb a b) (λ e. apart ((Decides-eqb a b).0 e))

-- Which bytes a text has.

pub here : (b : ℕ) (text : List ℕ) → Contains (b ∷ text) b
here b text = (0, omega arith, refl)

there : (b at : ℕ) (text : List ℕ) → Contains text at → Contains (b ∷ text) at
there b at text h = Contains-append_right (b ∷ []) text at h

none_in_nothing : (at : ℕ) → ¬ (Contains [] at)
none_in_nothing at h = let k = h.1 in absurd (omega arith)

contained_only : (b at : ℕ) → Contains (b ∷ []) at → b ≡ at
contained_only b at h = All-contains (λ x. b ≡ x) (b ∷ []) at (All-cons (λ x. b ≡ x) b [] refl (All-nil (λ x. b ≡ x))) h

-- a byte of a longer text is the first one, or one after it
Contains-cons_cases : (b at : ℕ) (text : List ℕ) → Contains (b ∷ text) at → Contains text at ⊎ (b ≡ at)
Contains-cons_cases b at text h = ⊎_elim
    (λ first. inr (contained_only b at first))
    (λ later. inl later)
    (Contains-append_cases (b ∷ []) text at h)

pub not_in_cons : (b at : ℕ) (text : List ℕ) → b ≢ at → ¬ (Contains text at) → ¬ (Contains (b ∷ text) at)
not_in_cons b at text apart lacks h = ⊎_elim lacks apart (Contains-cons_cases b at text h)

pub head_differs : (b at : ℕ) (text : List ℕ) → ¬ (Contains (b ∷ text) at) → b ≢ at
head_differs b at text lacks e = lacks (subst (λ x. Contains (b ∷ text) x) e (here b text))

pub tail_lacks : (b at : ℕ) (text : List ℕ) → ¬ (Contains (b ∷ text) at) → ¬ (Contains text at)
tail_lacks b at text lacks h = lacks (there b at text h)

cut_here_yes : (at b : ℕ) (rest : List ℕ) → b ≡ at → cut_here at b rest ≡ Some ([], rest)
cut_here_yes at b rest e = ⊎_elim
    (λ w. ap (λ t. if t then Some ([], rest) else None) w.0)
    (λ w. absurd (w.1 e))
    (eqb_tells b at)

cut_here_no : (at b : ℕ) (rest : List ℕ) → b ≢ at → cut_here at b rest ≡ None
cut_here_no at b rest apart = ⊎_elim
    (λ w. absurd (apart w.1))
    (λ w. ap (λ t. if t then Some ([], rest) else None) w.0)
    (eqb_tells b at)

same_or_not : (b at : ℕ) → (b ≡ at) ⊎ (b ≢ at)
same_or_not b at = ⊎_elim (λ w. inl w.1) (λ w. inr w.1) (eqb_tells b at)

-- A text is cut at the first such byte.

pub first_cut_found : (at : ℕ) (text before after : List ℕ) → text ≡ before ++ at ∷ after → ¬ (Contains before at) → first_cut at text ≡ Some (before, after)
first_cut_found at text [] after split lacks = ap (first_cut at) split ∙ ap (λ t. option_or t (put_before at (first_cut at after))) (cut_here_yes at at after refl)
first_cut_found at text (b ∷ before) after split lacks =
    ap (first_cut at) split
    ∙ ap (λ t. option_or t (put_before b (first_cut at (before ++ at ∷ after)))) (cut_here_no at b (before ++ at ∷ after) (head_differs b at before lacks))
    ∙ ap (put_before b) (first_cut_found at (before ++ at ∷ after) before after refl (tail_lacks b at before lacks))

pub first_cut_none : (at : ℕ) (text : List ℕ) → ¬ (Contains text at) → first_cut at text ≡ None
first_cut_none at [] lacks = refl
first_cut_none at (b ∷ rest) lacks =
    ap (λ t. option_or t (put_before b (first_cut at rest))) (cut_here_no at b rest (head_differs b at rest lacks))
    ∙ ap (put_before b) (first_cut_none at rest (tail_lacks b at rest lacks))

pub data FirstCut (at : ℕ) (text : List ℕ) : Type 0 where
  FirstCutAt : (before after : List ℕ) → first_cut at text ≡ Some (before, after) → IsFirstCut at text before after → FirstCut at text
  NoFirstCut : first_cut at text ≡ None → ¬ (Contains text at) → FirstCut at text

first_cuts_more : (at b : ℕ) (rest : List ℕ) → b ≢ at → FirstCut at rest → FirstCut at (b ∷ rest)
first_cuts_more at b rest apart (FirstCutAt before after e h) = FirstCutAt (b ∷ before) after
    (ap (λ t. option_or t (put_before b (first_cut at rest))) (cut_here_no at b rest apart) ∙ ap (put_before b) e)
    (record { split = ap (λ t. b ∷ t) h.split; first = not_in_cons b at before apart h.first })
first_cuts_more at b rest apart (NoFirstCut e lacks) = NoFirstCut
    (ap (λ t. option_or t (put_before b (first_cut at rest))) (cut_here_no at b rest apart) ∙ ap (put_before b) e)
    (not_in_cons b at rest apart lacks)

-- one or the other
pub first_cuts : (at : ℕ) (text : List ℕ) → FirstCut at text
first_cuts at [] = NoFirstCut refl (none_in_nothing at)
first_cuts at (b ∷ rest) = ⊎_elim
    (λ same. FirstCutAt [] rest
    (ap (λ t. option_or t (put_before b (first_cut at rest))) (cut_here_yes at b rest same))
    (record { split = ap (λ x. x ∷ rest) same; first = none_in_nothing at }))
    (λ apart. first_cuts_more at b rest apart (first_cuts at rest))
    (same_or_not b at)

-- A text is cut at the last such byte.

pub last_cut_none : (at : ℕ) (text : List ℕ) → ¬ (Contains text at) → last_cut at text ≡ None
last_cut_none at [] lacks = refl
last_cut_none at (b ∷ rest) lacks =
    ap (λ t. option_or (put_before b t) (cut_here at b rest)) (last_cut_none at rest (tail_lacks b at rest lacks))
    ∙ cut_here_no at b rest (head_differs b at rest lacks)

pub last_cut_found : (at : ℕ) (text before after : List ℕ) → text ≡ before ++ at ∷ after → ¬ (Contains after at) → last_cut at text ≡ Some (before, after)
last_cut_found at text [] after split lacks =
    ap (last_cut at) split
    ∙ ap (λ t. option_or (put_before at t) (cut_here at at after)) (last_cut_none at after lacks)
    ∙ cut_here_yes at at after refl
last_cut_found at text (b ∷ before) after split lacks =
    ap (last_cut at) split
    ∙ ap (λ t. option_or (put_before b t) (cut_here at b (before ++ at ∷ after))) (last_cut_found at (before ++ at ∷ after) before after refl lacks)

pub data LastCut (at : ℕ) (text : List ℕ) : Type 0 where
  LastCutAt : (before after : List ℕ) → last_cut at text ≡ Some (before, after) → IsLastCut at text before after → LastCut at text
  NoLastCut : last_cut at text ≡ None → ¬ (Contains text at) → LastCut at text

last_cuts_more : (at b : ℕ) (rest : List ℕ) → LastCut at rest → LastCut at (b ∷ rest)
last_cuts_more at b rest (LastCutAt before after e h) = LastCutAt (b ∷ before) after
    (ap (λ t. option_or (put_before b t) (cut_here at b rest)) e)
    (record { split = ap (λ t. b ∷ t) h.split; last = h.last })
last_cuts_more at b rest (NoLastCut e lacks) = ⊎_elim
    (λ same. LastCutAt [] rest
    (ap (λ t. option_or (put_before b t) (cut_here at b rest)) e ∙ cut_here_yes at b rest same)
    (record { split = ap (λ x. x ∷ rest) same; last = lacks }))
    (λ apart. NoLastCut
    (ap (λ t. option_or (put_before b t) (cut_here at b rest)) e ∙ cut_here_no at b rest apart)
    (not_in_cons b at rest apart lacks))
    (same_or_not b at)

pub last_cuts : (at : ℕ) (text : List ℕ) → LastCut at text
last_cuts at [] = NoLastCut refl (none_in_nothing at)
last_cuts at (b ∷ rest) = last_cuts_more at b rest (last_cuts at rest)

-- What a cut says.

no_cut : {parts : Parts} → ◌≡◌ {A = Option Parts} None (Some parts) → ⊥
no_cut e = absurd (cc)

pub some_same : {A : Type 0} (a b : A) → Some a ≡ Some b → a ≡ b
some_same a b e = cc

first_cut_by : (at : ℕ) (text : List ℕ) (parts : Parts) → first_cut at text ≡ Some parts → FirstCut at text → IsFirstCut at text parts.0 parts.1
first_cut_by at text parts e (FirstCutAt before after f h) =
    subst (λ (p : Parts). IsFirstCut at text p.0 p.1) (some_same (before, after) parts (sym f ∙ e)) h
first_cut_by at text parts e (NoFirstCut f lacks) = absurd (no_cut (sym f ∙ e))

last_cut_by : (at : ℕ) (text : List ℕ) (parts : Parts) → last_cut at text ≡ Some parts → LastCut at text → IsLastCut at text parts.0 parts.1
last_cut_by at text parts e (LastCutAt before after f h) =
    subst (λ (p : Parts). IsLastCut at text p.0 p.1) (some_same (before, after) parts (sym f ∙ e)) h
last_cut_by at text parts e (NoLastCut f lacks) = absurd (no_cut (sym f ∙ e))

first_lacks_by : (at : ℕ) (text : List ℕ) → first_cut at text ≡ None → FirstCut at text → ¬ (Contains text at)
first_lacks_by at text e (FirstCutAt before after f h) = absurd (no_cut (sym e ∙ f))
first_lacks_by at text e (NoFirstCut f lacks) = lacks

last_lacks_by : (at : ℕ) (text : List ℕ) → last_cut at text ≡ None → LastCut at text → ¬ (Contains text at)
last_lacks_by at text e (LastCutAt before after f h) = absurd (no_cut (sym e ∙ f))
last_lacks_by at text e (NoLastCut f lacks) = lacks

pub first_cut_is : (at : ℕ) (text : List ℕ) (parts : Parts) → first_cut at text ≡ Some parts → IsFirstCut at text parts.0 parts.1
first_cut_is at text parts e = first_cut_by at text parts e (first_cuts at text)

pub last_cut_is : (at : ℕ) (text : List ℕ) (parts : Parts) → last_cut at text ≡ Some parts → IsLastCut at text parts.0 parts.1
last_cut_is at text parts e = last_cut_by at text parts e (last_cuts at text)

pub first_cut_lacks : (at : ℕ) (text : List ℕ) → first_cut at text ≡ None → ¬ (Contains text at)
first_cut_lacks at text e = first_lacks_by at text e (first_cuts at text)

pub last_cut_lacks : (at : ℕ) (text : List ℕ) → last_cut at text ≡ None → ¬ (Contains text at)
last_cut_lacks at text e = last_lacks_by at text e (last_cuts at text)

-- What a search of a byte found.

at_place : (at : ℕ) (text : List ℕ) (k : ℕ) → k < length text → Passes (is_byte at) text k → text ≡ take k text ++ at ∷ drop (k + 1) text
at_place at text k inside is =
    let same : get_or text k 0 ≡ at = (Decides-eqb (get_or text k 0) at).0 is in
    let whole = split_at text k 0 inside in
    rw (add-one, ← same) whole

pub all_after : (text : List ℕ) (k : ℕ) → take (length text - k) (drop k text) ≡ drop k text
all_after text k = take_all (length text - k) (drop k text) (omega (arith, length-drop k text))

lacks_from : (at : ℕ) (text part : List ℕ) → ((j : ℕ) → j < length part → ¬ (get_or part j 0 ≡ at)) → ¬ (Contains part at)
lacks_from at text part apart h = All-contains (λ b. ¬ (b ≡ at)) part at (All-from_get_or (λ b. ¬ (b ≡ at)) part 0 apart) h refl

pub first_cut_of : (at : ℕ) (text : List ℕ) (k : ℕ) → NoneBefore (Passes (is_byte at) text) 0 (length text) k × Passes (is_byte at) text k
    → first_cut at text ≡ Some (take k text, take (length text - (k + 1)) (drop (k + 1) text))
first_cut_of at text k found =
    let before = found.0 in
    rw all_after (first_cut_found at text (take k text) (drop (k + 1) text) (at_place at text k before.high found.1)
    (lacks_from at text (take k text) (λ j inside e.
    let near : j < k = omega (arith, length-take k text) in
    let same : get_or text j 0 ≡ at = rw get_or-take at e in
    before.before j (omega arith) near ((Decides-eqb (get_or text j 0) at).1 same))))

pub last_cut_of : (at : ℕ) (text : List ℕ) (k : ℕ) → NoneAfter (Passes (is_byte at) text) 0 (length text) k × Passes (is_byte at) text k
    → last_cut at text ≡ Some (take k text, take (length text - (k + 1)) (drop (k + 1) text))
last_cut_of at text k found =
    let after = found.0 in
    rw all_after (last_cut_found at text (take k text) (drop (k + 1) text) (at_place at text k after.high found.1)
    (lacks_from at text (drop (k + 1) text) (λ j inside e.
    let near : (k + 1) + j < length text = omega (arith, length-drop (k + 1) text) in
    let same : get_or text ((k + 1) + j) 0 ≡ at = rw get_or-drop at e in
    after.after ((k + 1) + j) (omega arith) near ((Decides-eqb (get_or text ((k + 1) + j) 0) at).1 same))))

pub lacks_byte : (at : ℕ) (text : List ℕ) → Nowhere (Passes (is_byte at) text) 0 (length text) → ¬ (Contains text at)
lacks_byte at text nowhere = lacks_from at text text (λ j inside e. nowhere j (omega arith) inside ((Decides-eqb (get_or text j 0) at).1 e))
