-- Which line of virtualdomains decides.
use Rattle.std.proofs.Common.{◌≡◌, ℕ, zero, suc, get_or, ◌<◌, List, [], ◌∷◌, ◌++◌, length, cond, Option, Some, None, Bool, true, false, refl, sym, ap, ◌∙◌, subst, arith}
use Rattle.std.specs.Prelude.{Any, All}
use Rattle.std.specs.Option.{option_or, option_map}
use Rattle.std.proofs.lemmas.List.Elements.{All-nil, All-cons, All-head, All-tail}
use Rattle.mail_bytes.specs.Fold.{IsSameFold}
use Rattle.address_rules.specs.declared.virtual_domains.VirtualDomain.{VirtualDomain}
use Rattle.address_rules.specs.Cuts.{IsFirst}
use Rattle.address_rules.specs.Keys.{is_same, line_for, prefix_for, first_prefix, HasKey, IsFirstPrefix}
use Rattle.address_rules.proofs.KeyLemmas.{same_decides, not_same, first_prefix-cons}

pub any_here : {A : Type 0} (P : A → Type 0) (x : A) (xs : List A) → P x → Any P (x ∷ xs)
any_here P x xs h = (0, x, omega arith, refl, h)

pub any_there : {A : Type 0} (P : A → Type 0) (x : A) (xs : List A) → Any P xs → Any P (x ∷ xs)
any_there P x xs w = let inside = w.2 in (suc w.0, w.1, omega arith, w.3, w.4)

any_after : {A : Type 0} (P : A → Type 0) (before : List A) (x : A) (after : List A) → P x → Any P (before ++ x ∷ after)
any_after P [] x after h = any_here P x after h
any_after P (b ∷ before) x after h = any_there P b (before ++ x ∷ after) (any_after P before x after h)

-- one element more that isn't it
pub is_first_later : {A : Type 0} (P : A → Type 0) (x : A) (xs : List A) (y : A) → ¬ (P x) → IsFirst P xs y → IsFirst P (x ∷ xs) y
is_first_later P x xs y apart f = record {
  before = x ∷ f.before;
  after = f.after;
  split = ap (λ t. x ∷ t) f.split;
  none = All-cons (λ z. ¬ (P z)) x f.before apart f.none;
  holds = f.holds;
}

pub is_first_here : {A : Type 0} (P : A → Type 0) (x : A) (xs : List A) → P x → IsFirst P (x ∷ xs) x
is_first_here P x xs h = record { before = []; after = xs; split = refl; none = All-nil (λ z. ¬ (P z)); holds = h }

is_any : {A : Type 0} (P : A → Type 0) (xs : List A) (x : A) → IsFirst P xs x → Any P xs
is_any P xs x f = subst (λ t. Any P t) (sym f.split) (any_after P f.before x f.after f.holds)

-- The line for a key.

abbrev Says : List ℕ → VirtualDomain → Type 0
Says key line = IsSameFold line.domain key

data KeyLooked (lines : List VirtualDomain) (key : List ℕ) : Type 0 where
  KeyFound : (line : VirtualDomain) → prefix_for lines key ≡ Some line.prefix → IsFirst (Says key) lines line → KeyLooked lines key
  KeyMissing : prefix_for lines key ≡ None → ¬ (HasKey lines key) → KeyLooked lines key

abbrev prefix_if : VirtualDomain → Option VirtualDomain → Bool → Option (List ℕ)
prefix_if line later t = option_map (λ it. it.prefix) (cond t (Some line) later)

-- the line that has a key is the first, or one after it
in_lines_by : (line : VirtualDomain) (lines : List VirtualDomain) (key : List ℕ) → ¬ (Says key line) → ¬ (HasKey lines key)
    → (k : ℕ) (it : VirtualDomain) → k < length (line ∷ lines) → get_or (line ∷ lines) k it ≡ it → Says key it → ⊥
in_lines_by line lines key apart later zero it inside e h = apart (subst (Says key) (sym e) h)
in_lines_by line lines key apart later (suc k) it inside e h = later (k, it, omega arith, e, h)

true_is_not_false : ◌≡◌ {A = Bool} true false → ⊥
true_is_not_false e = absurd (cc)

not_in_lines : (line : VirtualDomain) (lines : List VirtualDomain) (key : List ℕ) → ¬ (Says key line) → ¬ (HasKey lines key) → ¬ (HasKey (line ∷ lines) key)
not_in_lines line lines key apart later w = in_lines_by line lines key apart later w.0 w.1 w.2 w.3 w.4

looked_later : (line : VirtualDomain) (lines : List VirtualDomain) (key : List ℕ) → ¬ (Says key line) → KeyLooked lines key → KeyLooked (line ∷ lines) key
looked_later line lines key apart (KeyFound it e f) = KeyFound it
    (ap (prefix_if line (line_for lines key)) (not_same line.domain key apart) ∙ e)
    (is_first_later (Says key) line lines it apart f)
looked_later line lines key apart (KeyMissing e m) = KeyMissing
    (ap (prefix_if line (line_for lines key)) (not_same line.domain key apart) ∙ e)
    (not_in_lines line lines key apart m)

looked_by : (line : VirtualDomain) (lines : List VirtualDomain) (key : List ℕ) (t : Bool) → is_same line.domain key ≡ t → KeyLooked lines key → KeyLooked (line ∷ lines) key
looked_by line lines key true e later = KeyFound line
    (ap (prefix_if line (line_for lines key)) e)
    (is_first_here (Says key) line lines ((same_decides line.domain key).0 e))
looked_by line lines key false e later = looked_later line lines key (λ h. absurd (true_is_not_false (sym ((same_decides line.domain key).1 h) ∙ e))) later

key_looked : (lines : List VirtualDomain) (key : List ℕ) → KeyLooked lines key
key_looked [] key = KeyMissing refl (λ w. let inside = w.2 in absurd (omega arith))
key_looked (line ∷ lines) key = looked_by line lines key (is_same line.domain key) refl (key_looked lines key)

pub no_some : {A : Type 0} (x : A) → ◌≡◌ {A = Option A} None (Some x) → ⊥
no_some x e = absurd (cc)

-- from the relations back
prefix_missing_by : (lines : List VirtualDomain) (key : List ℕ) → ¬ (HasKey lines key) → KeyLooked lines key → prefix_for lines key ≡ None
prefix_missing_by lines key m (KeyFound line e f) = absurd (m (is_any (Says key) lines line f))
prefix_missing_by lines key m (KeyMissing e n) = e

prefix_missing : (lines : List VirtualDomain) (key : List ℕ) → ¬ (HasKey lines key) → prefix_for lines key ≡ None
prefix_missing lines key m = prefix_missing_by lines key m (key_looked lines key)

line_by : (lines : List VirtualDomain) (key : List ℕ) (before after : List VirtualDomain) (line : VirtualDomain) → All (λ it. ¬ (Says key it)) before → Says key line
    → prefix_for (before ++ line ∷ after) key ≡ Some line.prefix
line_by lines key [] after line none same = ap (prefix_if line (line_for after key)) ((same_decides line.domain key).1 same)
line_by lines key (b ∷ before) after line none same =
    ap (prefix_if b (line_for (before ++ line ∷ after) key)) (not_same b.domain key (All-head (λ it. ¬ (Says key it)) b before none))
    ∙ line_by lines key before after line (All-tail (λ it. ¬ (Says key it)) b before none) same

prefix_of_line : (lines : List VirtualDomain) (key : List ℕ) (line : VirtualDomain) → IsFirst (Says key) lines line → prefix_for lines key ≡ Some line.prefix
prefix_of_line lines key line f = ap (λ t. prefix_for t key) f.split ∙ line_by lines key f.before f.after line f.none f.holds

-- The first of some keys.

pub data Looked (lines : List VirtualDomain) (keys : List (List ℕ)) : Type 0 where
  Found : (prefix : List ℕ) → first_prefix lines keys ≡ Some prefix → IsFirstPrefix lines keys prefix → Looked lines keys
  Missing : first_prefix lines keys ≡ None → All (λ key. ¬ (HasKey lines key)) keys → Looked lines keys

next_key : (lines : List VirtualDomain) (key : List ℕ) (keys : List (List ℕ)) → prefix_for lines key ≡ None → first_prefix lines (key ∷ keys) ≡ first_prefix lines keys
next_key lines key keys e = first_prefix-cons lines key keys ∙ ap (λ o. option_or o (first_prefix lines keys)) e

keys_later : (lines : List VirtualDomain) (key : List ℕ) (keys : List (List ℕ)) → prefix_for lines key ≡ None → ¬ (HasKey lines key) → Looked lines keys → Looked lines (key ∷ keys)
keys_later lines key keys e m (Found prefix f is) = Found prefix (next_key lines key keys e ∙ f) (record {
  key = is.key;
  line = is.line;
  first_key = is_first_later (HasKey lines) key keys is.key m is.first_key;
  first_line = is.first_line;
  says = is.says;
})
keys_later lines key keys e m (Missing f all) = Missing (next_key lines key keys e ∙ f) (All-cons (λ it. ¬ (HasKey lines it)) key keys m all)

keys_by : (lines : List VirtualDomain) (key : List ℕ) (keys : List (List ℕ)) → KeyLooked lines key → Looked lines keys → Looked lines (key ∷ keys)
keys_by lines key keys (KeyMissing e m) later = keys_later lines key keys e m later
keys_by lines key keys (KeyFound line e f) later = Found line.prefix
    (first_prefix-cons lines key keys ∙ ap (λ o. option_or o (first_prefix lines keys)) e)
    (record {
      key = key;
      line = line;
      first_key = is_first_here (HasKey lines) key keys (is_any (Says key) lines line f);
      first_line = f;
      says = refl;
    })

pub looked : (lines : List VirtualDomain) (keys : List (List ℕ)) → Looked lines keys
looked lines [] = Missing refl (All-nil (λ it. ¬ (HasKey lines it)))
looked lines (key ∷ keys) = keys_by lines key keys (key_looked lines key) (looked lines keys)

keys_to : (lines : List VirtualDomain) (before after : List (List ℕ)) (key prefix : List ℕ) → All (λ it. ¬ (HasKey lines it)) before → prefix_for lines key ≡ Some prefix
    → first_prefix lines (before ++ key ∷ after) ≡ Some prefix
keys_to lines [] after key prefix none e = first_prefix-cons lines key after ∙ ap (λ o. option_or o (first_prefix lines after)) e
keys_to lines (b ∷ before) after key prefix none e =
    next_key lines b (before ++ key ∷ after) (prefix_missing lines b (All-head (λ it. ¬ (HasKey lines it)) b before none))
    ∙ keys_to lines before after key prefix (All-tail (λ it. ¬ (HasKey lines it)) b before none) e

pub prefix_found_is : (lines : List VirtualDomain) (keys : List (List ℕ)) (prefix : List ℕ) → IsFirstPrefix lines keys prefix → first_prefix lines keys ≡ Some prefix
prefix_found_is lines keys prefix is =
    ap (first_prefix lines) is.first_key.split
    ∙ keys_to lines is.first_key.before is.first_key.after is.key prefix is.first_key.none (prefix_of_line lines is.key is.line is.first_line ∙ ap (λ t. Some t) is.says)

pub prefix_none_is : (lines : List VirtualDomain) (keys : List (List ℕ)) → All (λ key. ¬ (HasKey lines key)) keys → first_prefix lines keys ≡ None
prefix_none_is lines [] none = refl
prefix_none_is lines (key ∷ keys) none =
    next_key lines key keys (prefix_missing lines key (All-head (λ it. ¬ (HasKey lines it)) key keys none))
    ∙ prefix_none_is lines keys (All-tail (λ it. ¬ (HasKey lines it)) key keys none)
