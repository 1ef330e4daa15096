-- Texts cut into commands at their NULs.
use Rattle.std.proofs.Common.{◌≡◌, ◌≢◌, ℕ, zero, suc, ◌+◌, ◌≤◌, ◌<◌, List, [], ◌∷◌, ◌++◌, length, get_or, take, Some, None, Bool, true, false, refl, sym, ap, ◌∙◌, subst, ⊎_elim, arith, append_assoc}
use Rattle.std.specs.Prelude.{if◌then◌else◌, ◌==◌, nat_lt, not, cond, All, flat_map, slice_get, position}
use Rattle.std.specs.List.{AllByRecursion, prefix_len, position_or_len}
use Rattle.std.proofs.lemmas.Bool.{eqb-false, ltb-false}
use Rattle.std.proofs.lemmas.Bool.Decides.{eqb_tells}
use Rattle.std.proofs.lemmas.List.{append-nil}
use Rattle.std.proofs.lemmas.List.Elements.{All-from_recursion, recursion_from_All, All-nil, All-cons}
use Rattle.queue_clean.specs.Commands.{commands, put_before, ended, IsCut}
use Rattle.mail_bytes.specs.Texts.{HasNoNul}
use Rattle.queue_clean.specs.Machine.{is_nul}

-- no byte is NUL, byte by byte
abbrev Plain : List ℕ → Type 0
Plain bytes = AllByRecursion (λ b. b ≢ 0) bytes

pick_other : {A : Type 0} (b : ℕ) (x y : A) → b ≢ 0 → (if b == 0 then x else y) ≡ y
pick_other b x y far = ⊎_elim (λ w. absurd (far w.1)) (λ w. ap (λ t. if t then x else y) w.0) (eqb_tells b 0)

-- a start of a command is none
plain_is : (bytes : List ℕ) → Plain bytes → commands bytes ≡ []
plain_is [] h = refl
plain_is (b ∷ bs) h = pick_other b ([] ∷ commands bs) (put_before b (commands bs)) h.0 ∙ ap (put_before b) (plain_is bs h.1)

pub commands_plain : (bytes : List ℕ) → HasNoNul bytes → commands bytes ≡ []
commands_plain bytes h = plain_is bytes (recursion_from_All (λ b. b ≢ 0) bytes h)

-- a command and its NUL, and more
ended_is : (c more : List ℕ) → Plain c → commands (c ++ 0 ∷ more) ≡ c ∷ commands more
ended_is [] more h = refl
ended_is (b ∷ c) more h =
    pick_other b ([] ∷ commands (c ++ 0 ∷ more)) (put_before b (commands (c ++ 0 ∷ more))) h.0 ∙ ap (put_before b) (ended_is c more h.1)

pub commands_ended : (c more : List ℕ) → HasNoNul c → commands (c ++ 0 ∷ more) ≡ c ∷ commands more
commands_ended c more h = ended_is c more (recursion_from_All (λ b. b ≢ 0) c h)

-- commands, and more
before_is : (cs : List (List ℕ)) (more : List ℕ) → AllByRecursion HasNoNul cs → commands (flat_map ended cs ++ more) ≡ cs ++ commands more
before_is [] more h = refl
before_is (c ∷ cs) more h =
    ap commands (append_assoc (ended c) (flat_map ended cs) more ∙ append_assoc c (0 ∷ []) (flat_map ended cs ++ more))
    ∙ commands_ended c (flat_map ended cs ++ more) h.0
    ∙ ap (λ (all : List (List ℕ)). c ∷ all) (before_is cs more h.1)

pub commands_before : (cs : List (List ℕ)) (more : List ℕ) → All HasNoNul cs → commands (flat_map ended cs ++ more) ≡ cs ++ commands more
commands_before cs more h = before_is cs more (recursion_from_All HasNoNul cs h)

pub get_past : (xs ys : List (List ℕ)) → slice_get (xs ++ ys) (length xs) ≡ slice_get ys 0
get_past [] ys = refl
get_past (x ∷ xs) ys = get_past xs ys

-- The first NUL

upto : (bytes : List ℕ) (k : ℕ) → k ≤ length bytes → ((j : ℕ) → j < k → is_nul (get_or bytes j 0) ≡ false) → Plain (take k bytes)
upto bytes zero within none = tt
upto [] (suc k) within none = tt
upto (b ∷ bs) (suc k) within none =
    (eqb-false b 0 (none 0 (omega arith)), upto bs k (omega arith) (λ j low. none (suc j) (omega arith)))

-- before it stands no other
pub plain_upto : (bytes : List ℕ) (k : ℕ) → k ≤ length bytes → ((j : ℕ) → j < k → is_nul (get_or bytes j 0) ≡ false) → HasNoNul (take k bytes)
plain_upto bytes k within none = All-from_recursion (λ b. b ≢ 0) (take k bytes) (upto bytes k within none)

passes : (bytes : List ℕ) → length bytes ≤ prefix_len (λ b. not (is_nul b)) bytes → Plain bytes
passes [] far = tt
passes (b ∷ bs) far =
    let left : ℕ = prefix_len (λ b. not (is_nul b)) bs in
    ⊎_elim
    (λ w. let here = subst (λ t. suc (length bs) ≤ cond (not t) (1 + left) 0) w.0 far in absurd (omega arith))
    (λ w. let here = subst (λ t. suc (length bs) ≤ cond (not t) (1 + left) 0) w.0 far in (w.1, passes bs (omega arith)))
    (eqb_tells b 0)

not_some : (t : Bool) (k : ℕ) → cond t (Some k) None ≡ None → t ≡ false
not_some true k e = absurd (cc)
not_some false k e = refl

-- if there is none, no byte is NUL
pub plain_all : (bytes : List ℕ) → position is_nul bytes ≡ None → HasNoNul bytes
plain_all bytes e =
    let far = not_some (nat_lt (position_or_len is_nul bytes) (length bytes)) (position_or_len is_nul bytes) e in
    All-from_recursion (λ b. b ≢ 0) bytes (passes bytes (ltb-false (position_or_len is_nul bytes) (length bytes) far))

-- Exactly so

cut_before : (b : ℕ) (bs : List ℕ) (cs : List (List ℕ)) → b ≢ 0 → IsCut bs cs → IsCut (b ∷ bs) (put_before b cs)
cut_before b bs [] other w = record {
  rest = b ∷ w.rest;
  text_is = ap (λ (t : List ℕ). b ∷ t) w.text_is;
  each = All-nil HasNoNul;
  open_rest = All-cons (λ b. b ≢ 0) b w.rest other w.open_rest;
}
cut_before b bs (c ∷ cs) other w =
    let parts = recursion_from_All HasNoNul (c ∷ cs) w.each in
    record {
      rest = w.rest;
      text_is = ap (λ (t : List ℕ). b ∷ t) w.text_is;
      each = All-from_recursion HasNoNul ((b ∷ c) ∷ cs) (All-cons (λ b. b ≢ 0) b c other parts.0, parts.1);
      open_rest = w.open_rest;
    }

cut_at_nul : (bs : List ℕ) (cs : List (List ℕ)) → IsCut bs cs → IsCut (0 ∷ bs) ([] ∷ cs)
cut_at_nul bs cs w = record {
  rest = w.rest;
  text_is = ap (λ (t : List ℕ). 0 ∷ t) w.text_is;
  each = All-from_recursion HasNoNul ([] ∷ cs) (All-nil (λ b. b ≢ 0), recursion_from_All HasNoNul cs w.each);
  open_rest = w.open_rest;
}

cut_is : (text : List ℕ) → IsCut text (commands text)
cut_is [] = record { rest = []; text_is = refl; each = All-nil HasNoNul; open_rest = All-nil (λ b. b ≢ 0) }
cut_is (b ∷ bs) =
    let rest = cut_is bs in
    ⊎_elim
    (λ w. subst (λ t. IsCut (b ∷ bs) (if t then [] ∷ commands bs else put_before b (commands bs))) (sym w.0)
    (subst (λ z. IsCut (z ∷ bs) ([] ∷ commands bs)) (sym w.1) (cut_at_nul bs (commands bs) rest)))
    (λ w. subst (λ t. IsCut (b ∷ bs) (if t then [] ∷ commands bs else put_before b (commands bs))) (sym w.0) (cut_before b bs (commands bs) w.1 rest))
    (eqb_tells b 0)

pub cut_of : (text : List ℕ) (cut : List (List ℕ)) → commands text ≡ cut → IsCut text cut
cut_of text cut e = subst (IsCut text) e (cut_is text)

pub commands_of : (text : List ℕ) (cut : List (List ℕ)) → IsCut text cut → commands text ≡ cut
commands_of text cut w =
    ap commands w.text_is ∙ commands_before cut w.rest w.each ∙ ap (λ (more : List (List ℕ)). cut ++ more) (commands_plain w.rest w.open_rest) ∙ append-nil cut
