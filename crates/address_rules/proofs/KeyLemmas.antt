-- Keys, looked up without regard to case.
use Rattle.std.proofs.Common.{◌≡◌, ℕ, ◌+◌, ◌-◌, ◌<◌, take, List, [], ◌∷◌, ◌++◌, ◌||◌, map, length, drop, get_or, cond, Option, Some, None, Bool, true, false, refl, sym, ap, ◌∙◌}
use Rattle.std.specs.Borrow.{Bor}
use Rattle.std.specs.Prelude.{slice_get}
use Rattle.std.specs.Bool.{Decides}
use Rattle.std.specs.List.{filter_map, cons_option}
use Rattle.std.specs.Option.{option_or, option_map, option_copied}
use Rattle.std.proofs.lemmas.List.{drop_more}
use Rattle.std.proofs.lemmas.Slice.Eq.{bytes_eq-Decides}
use Rattle.mail_bytes.specs.Fold.{folded, IsSameFold}
use Rattle.address_rules.proofs.ByteCuts.{not_true, all_after}
use Rattle.address_rules.specs.declared.virtual_domains.VirtualDomain.{VirtualDomain}
use Rattle.address_rules.specs.Keys.{is_same, is_listed, line_for, prefix_for, prefix_for_dotted, begins_with_dot, first_prefix, dot_suffixes, domain_keys}

pub same_decides : (a b : List ℕ) → Decides (is_same a b) (IsSameFold a b)
same_decides a b = bytes_eq-Decides (map folded a) (map folded b)

pub not_same : (a b : List ℕ) → ¬ (IsSameFold a b) → is_same a b ≡ false
not_same a b apart = not_true (is_same a b) (λ e. apart ((same_decides a b).0 e))

pub listed_found : (texts : List (List ℕ)) (key : List ℕ) (i : ℕ) (d : List ℕ) → i < length texts
    → IsSameFold (get_or texts i d) key → is_listed (drop i texts) key ≡ true
listed_found texts key i d inside same =
    rw (drop_more texts i d inside) (ap (λ t. t || is_listed (drop (i + 1) texts) key) ((same_decides (get_or texts i d) key).1 same))

pub listed_passed : (texts : List (List ℕ)) (key : List ℕ) (i : ℕ) (d : List ℕ) → i < length texts
    → ¬ (IsSameFold (get_or texts i d) key) → is_listed (drop i texts) key ≡ is_listed (drop (i + 1) texts) key
listed_passed texts key i d inside apart =
    rw (drop_more texts i d inside) (ap (λ t. t || is_listed (drop (i + 1) texts) key) (not_same (get_or texts i d) key apart))

abbrev prefix_if : VirtualDomain → Option VirtualDomain → Bool → Option (List ℕ)
prefix_if line later t = option_map (λ it. it.prefix) (cond t (Some line) later)

pub prefix_found : (lines : List VirtualDomain) (key : List ℕ) (i : ℕ) (d : VirtualDomain) → i < length lines
    → IsSameFold (get_or lines i d).domain key → prefix_for (drop i lines) key ≡ Some (get_or lines i d).prefix
prefix_found lines key i d inside same =
    rw (drop_more lines i d inside) (ap (prefix_if (get_or lines i d) (line_for (drop (i + 1) lines) key)) ((same_decides (get_or lines i d).domain key).1 same))

pub prefix_passed : (lines : List VirtualDomain) (key : List ℕ) (i : ℕ) (d : VirtualDomain) → i < length lines
    → ¬ (IsSameFold (get_or lines i d).domain key) → prefix_for (drop i lines) key ≡ prefix_for (drop (i + 1) lines) key
prefix_passed lines key i d inside apart =
    rw (drop_more lines i d inside) (ap (prefix_if (get_or lines i d) (line_for (drop (i + 1) lines) key)) (not_same (get_or lines i d).domain key apart))

-- The first key that is there.

first_of_cons : (h : Option (List ℕ)) (rest : List (List ℕ)) → slice_get (cons_option h rest) 0 ≡ option_or h (slice_get rest 0)
first_of_cons None rest = refl
first_of_cons (Some p) rest = refl

pub first_prefix-cons : (lines : List VirtualDomain) (key : List ℕ) (keys : List (List ℕ))
    → first_prefix lines (key ∷ keys) ≡ option_or (prefix_for lines key) (first_prefix lines keys)
first_prefix-cons lines key keys = first_of_cons (prefix_for lines key) (filter_map (prefix_for lines) keys)

or_assoc : {A : Type 0} (a b c : Option A) → option_or (option_or a b) c ≡ option_or a (option_or b c)
or_assoc None b c = refl
or_assoc (Some x) b c = refl

pub first_prefix-append : (lines : List VirtualDomain) (keys others : List (List ℕ))
    → first_prefix lines (keys ++ others) ≡ option_or (first_prefix lines keys) (first_prefix lines others)
first_prefix-append lines [] others = refl
first_prefix-append lines (key ∷ keys) others =
    first_prefix-cons lines key (keys ++ others)
    ∙ ap (option_or (prefix_for lines key)) (first_prefix-append lines keys others)
    ∙ sym (or_assoc (prefix_for lines key) (first_prefix lines keys) (first_prefix lines others))
    ∙ ap (λ t. option_or t (first_prefix lines others)) (sym (first_prefix-cons lines key keys))

copied_or : (a b : Option (Bor (List ℕ))) → option_copied (option_or a b) ≡ option_or (option_copied a) (option_copied b)
copied_or None b = refl
copied_or (Some x) b = refl

or_none : (a : Option (List ℕ)) → option_or a None ≡ a
or_none None = refl
or_none (Some x) = refl

-- by the domain itself, then its suffixes from a dot, then the empty text
pub domain_looked_up : (lines : List VirtualDomain) (domain : List ℕ) (a b c : Option (Bor (List ℕ)))
    → option_copied a ≡ prefix_for lines domain → option_copied b ≡ first_prefix lines (dot_suffixes domain) → option_copied c ≡ prefix_for lines []
    → option_copied (option_or (option_or a b) c) ≡ first_prefix lines (domain_keys domain)
domain_looked_up lines domain a b c p q r =
    copied_or (option_or a b) c
    ∙ ap (λ t. option_or t (option_copied c)) (copied_or a b)
    ∙ or_assoc (option_copied a) (option_copied b) (option_copied c)
    ∙ ap (λ t. option_or t (option_or (option_copied b) (option_copied c))) p
    ∙ ap (λ t. option_or (prefix_for lines domain) (option_or t (option_copied c))) q
    ∙ ap (λ t. option_or (prefix_for lines domain) (option_or (first_prefix lines (dot_suffixes domain)) t)) (r ∙ sym (or_none (prefix_for lines [])) ∙ sym (first_prefix-cons lines [] []))
    ∙ ap (option_or (prefix_for lines domain)) (sym (first_prefix-append lines (dot_suffixes domain) ([] ∷ [])))
    ∙ sym (first_prefix-cons lines domain (dot_suffixes domain ++ [] ∷ []))

-- The suffixes from a dot.

suffix_by : (lines : List VirtualDomain) (b : ℕ) (rest : List ℕ) (t : Bool) → begins_with_dot (b ∷ rest) ≡ t
    → first_prefix lines (dot_suffixes (b ∷ rest)) ≡ option_or (prefix_for_dotted lines (b ∷ rest)) (first_prefix lines (dot_suffixes rest))
suffix_by lines b rest true e =
    ap (λ t. first_prefix lines (cond t ((b ∷ rest) ∷ dot_suffixes rest) (dot_suffixes rest))) e
    ∙ first_prefix-cons lines (b ∷ rest) (dot_suffixes rest)
    ∙ ap (λ t. option_or (cond t (prefix_for lines (b ∷ rest)) None) (first_prefix lines (dot_suffixes rest))) (sym e)
suffix_by lines b rest false e =
    ap (λ t. first_prefix lines (cond t ((b ∷ rest) ∷ dot_suffixes rest) (dot_suffixes rest))) e
    ∙ ap (λ t. option_or (cond t (prefix_for lines (b ∷ rest)) None) (first_prefix lines (dot_suffixes rest))) (sym e)

pub suffix_at : (lines : List VirtualDomain) (domain : List ℕ) (at : ℕ) (o : Option (List ℕ)) → at < length domain
    → o ≡ prefix_for_dotted lines (take (length domain - at) (drop at domain))
    → first_prefix lines (dot_suffixes (drop at domain)) ≡ option_or o (first_prefix lines (dot_suffixes (drop (at + 1) domain)))
suffix_at lines domain at o inside e =
    let rest : List ℕ = drop (at + 1) domain in
    let whole = drop_more domain at 0 inside in
    ap (λ t. first_prefix lines (dot_suffixes t)) whole
    ∙ suffix_by lines (get_or domain at 0) rest (begins_with_dot (get_or domain at 0 ∷ rest)) refl
    ∙ ap (λ t. option_or t (first_prefix lines (dot_suffixes rest))) (ap (prefix_for_dotted lines) (sym whole ∙ sym (all_after domain at)) ∙ sym e)
