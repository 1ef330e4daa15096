-- What is written of what was fed.
use Rattle.std.proofs.Common.{◌≡◌, ℕ, ◌+◌, ◌≤◌, false, true≢false, Option, Some, None, List, [], ◌∷◌, ◌++◌, length, take, drop, sym, ap, subst, ◌∙◌, append_assoc, arith, length-drop}
use Rattle.std.specs.Io.KnownBytes.{Appends, Keeps, WriteAppends}
use Rattle.std.specs.Prelude.{Result, Ok}
use Rattle.std.proofs.Math.Seq.{take-append-add}
use Rattle.std.proofs.lemmas.List.{append-nil, length-take-le, take-append-drop}
use Rattle.std.proofs.lemmas.Grind.{flat_map-append}
use Rattle.child_input.specs.declared.feed_rule.Fed.{Fed}
use Rattle.child_input.specs.declared.feed_rule.Step.TheVariants as step
use Rattle.child_input.specs.Feedings.{Steps, WritesFed, WritesText, all_bytes, bytes_of}

pub appends_more : (a b c : Option (List ℕ)) (xs ys : List ℕ) → Appends a b xs → Appends b c ys → Appends a c (xs ++ ys)
appends_more None b c xs ys one two = tt
appends_more (Some a) None c xs ys one two = absurd one
appends_more (Some a) (Some b) None xs ys one two = absurd two
appends_more (Some a) (Some b) (Some c) xs ys one two = two ∙ (ap (λ l. l ++ ys) one ∙ append_assoc a xs ys)

pub appends_kept : (a b c : Option (List ℕ)) (xs : List ℕ) → Appends a b xs → Keeps b c → Appends a c xs
appends_kept None b c xs one two = tt
appends_kept (Some a) None c xs one two = absurd one
appends_kept (Some a) (Some b) None xs one two = absurd two
appends_kept (Some a) (Some b) (Some c) xs one two = two ∙ one

-- the bytes before a place, and so many more
take_on : (w count : ℕ) (text : List ℕ) → w ≤ length text → take w text ++ take count (drop w text) ≡ take (w + count) text
take_on w count text low =
    let e : length (take w text) ≡ w = length-take-le w text low in
    sym (take-append-add (take w text) (drop w text) count) ∙ (ap (λ n. take (n + count) (take w text ++ drop w text)) e ∙ ap (take (w + count)) (take-append-drop w text))

-- so many bytes of a text were written
pub writes_part : (a b : Option (List ℕ)) (w : ℕ) (text : List ℕ) → Appends a b (take w text) → WritesText false a b text
writes_part a b w text one = (take w text, drop w text, one, sym (take-append-drop w text), λ e. absurd (true≢false (sym e)))

-- so many bytes more were written
pub wrote_on : (a b c : Option (List ℕ)) (w n v : ℕ) (text buf : List ℕ) → buf ≡ drop w text → v ≡ w + n → w ≤ length text → Appends a b (take w text) → n ≤ length buf → Appends b c (take n buf)
    → (v ≤ length text) × Appends a c (take v text)
wrote_on a b c w n v text buf from is low one most two = (
  omega (arith, is, low, most, ap length from, length-drop w text),
  subst (λ k. Appends a c (take k text)) (sym is) (subst (Appends a c) (ap (λ l. take w text ++ take n l) from ∙ take_on w n text low) (appends_more a b c (take w text) (take n buf) one two)),
)

-- the same of a call that may have written some
pub wrote_part : {E : Type 0} (a b c : Option (List ℕ)) (w n : ℕ) (text buf : List ℕ) (r : Result ℕ E) → buf ≡ drop w text → w ≤ length text → Appends a b (take w text) → r ≡ Ok n → WriteAppends b c r buf → WritesText false a c text
wrote_part a b c w n text buf r from low one is two = writes_part a c (w + n) text
    (subst (Appends a c) (ap (λ l. take w text ++ take n l) from ∙ take_on w n text low) (appends_more a b c (take w text) (take n buf) one (subst (λ q. WriteAppends b c q buf) is two)))

-- nothing more was written
pub kept_on : (a b c : Option (List ℕ)) (w v : ℕ) (text : List ℕ) → v ≡ w → w ≤ length text → Appends a b (take w text) → Keeps b c → (v ≤ length text) × Appends a c (take v text)
kept_on a b c w v text is low one same = subst (λ k. (k ≤ length text) × Appends a c (take k text)) (sym is) (low, appends_kept a b c (take w text) one same)

pub kept_part : (a b c : Option (List ℕ)) (w : ℕ) (text : List ℕ) → Appends a b (take w text) → Keeps b c → WritesText false a c text
kept_part a b c w text one same = writes_part a c w text (appends_kept a b c (take w text) one same)

bytes_snoc : (taken : List Fed) (x : Fed) → all_bytes (taken ++ x ∷ []) ≡ all_bytes taken ++ bytes_of x
bytes_snoc taken x = flat_map-append bytes_of taken (x ∷ []) ∙ ap (λ l. all_bytes taken ++ l) (append-nil (bytes_of x))

-- a text wasn't written, or not all of it
pub broke : (a b c : Option (List ℕ)) (old new : List Fed) → Appends a b (all_bytes old) → Steps step.Broke b c old new → WritesFed false a c new
broke a b c old new one s =
    let x = s.0 in
    let t = s.2 in
    let cut : all_bytes new ≡ (all_bytes old ++ t.0) ++ t.1 = ap all_bytes s.1 ∙ (bytes_snoc old x ∙ (ap (λ l. all_bytes old ++ l) t.3 ∙ sym (append_assoc (all_bytes old) t.0 t.1))) in
    ((all_bytes old ++ t.0, t.1, appends_more a b c (all_bytes old) t.0 one t.2, cut, λ e. absurd (true≢false (sym e))), λ e. absurd (true≢false (sym e)))
