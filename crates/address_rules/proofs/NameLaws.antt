-- Prefixes and senders, as the rules have them.
use Rattle.std.proofs.Common.{◌≡◌, ◌≢◌, ℕ, List, [], ◌∷◌, ◌++◌, Option, Some, None, refl, sym, ap, ◌∙◌, subst}
use Rattle.std.specs.Prelude.{unwrap_or}
use Rattle.std.specs.Option.{option_and_then}
use Rattle.std.proofs.lemmas.List.{append_assoc}
use Rattle.address_rules.specs.declared.virtual_domains.VirtualDomain.{VirtualDomain}
use Rattle.address_rules.specs.Cuts.{Parts, last_cut, IsLastCut}
use Rattle.address_rules.specs.Keys.{domain_keys, IsFirstPrefix}
use Rattle.address_rules.specs.Names.{rest_after, front_before, rest_after_prefix, rest_at, rest_of, stripped, HasRest, IsStripped, mark, owner_of, verp_of, IsMarked, IsVerp}
use Rattle.address_rules.specs.Names.IsStripped.{Prefixed, Bare}
use Rattle.address_rules.specs.Names.IsVerp.{Told, Unmarked, NoDomain}
use Rattle.address_rules.proofs.ByteCuts.{LastCut, LastCutAt, NoLastCut, last_cuts, last_cut_is, last_cut_found, last_cut_none}
use Rattle.address_rules.proofs.LookupLaws.{no_some, Looked, Found, Missing, looked, prefix_found_is}
use Rattle.address_rules.proofs.NameLemmas.{none_or_some, rest_after_is, rest_after_append, front_before_is, front_before_append, verp_unmarked, verp_no_domain, verp_told}

-- Senders

marked_by : (sender : List ℕ) (parts : Parts) (o : Option (List ℕ)) → front_before mark sender ≡ o → option_and_then (last_cut 64) o ≡ Some parts → IsMarked sender parts.0 parts.1
marked_by sender parts None f e = absurd (no_some parts e)
marked_by sender parts (Some front) f e =
    let cut = last_cut_is 64 front parts e in
    record { split = front_before_is mark sender front f ∙ ap (λ t. t ++ mark) cut.split; last = cut.last }

is_marked : (sender : List ℕ) (parts : Parts) → owner_of sender ≡ Some parts → IsMarked sender parts.0 parts.1
is_marked sender parts e = marked_by sender parts (front_before mark sender) refl e

marked_owner : (sender owner host : List ℕ) → IsMarked sender owner host → owner_of sender ≡ Some (owner, host)
marked_owner sender owner host m =
    ap (λ t. option_and_then (last_cut 64) (front_before mark t)) m.split
    ∙ ap (option_and_then (last_cut 64)) (front_before_append (owner ++ 64 ∷ host) mark)
    ∙ last_cut_found 64 (owner ++ 64 ∷ host) owner host refl m.last

verp_by_cut : (sender recipient : List ℕ) (parts : Parts) → owner_of sender ≡ Some parts → LastCut 64 recipient → IsVerp sender recipient (verp_of sender recipient)
verp_by_cut sender recipient parts e (LastCutAt box domain f cut) =
    Told parts.0 parts.1 box domain (is_marked sender parts e) cut (verp_told sender recipient parts.0 parts.1 box domain e f)
verp_by_cut sender recipient parts e (NoLastCut f lacks) = NoDomain lacks (verp_no_domain sender recipient f)

verp_by_owner : (sender recipient : List ℕ) (o : Option Parts) → owner_of sender ≡ o → IsVerp sender recipient (verp_of sender recipient)
verp_by_owner sender recipient (Some parts) e = verp_by_cut sender recipient parts e (last_cuts 64 recipient)
verp_by_owner sender recipient None e =
    Unmarked (λ owner host m. no_some (owner, host) (sym e ∙ marked_owner sender owner host m)) (verp_unmarked sender recipient e)

pub verp_to : (sender recipient text : List ℕ) → verp_of sender recipient ≡ text → IsVerp sender recipient text
verp_to sender recipient text e = subst (λ t. IsVerp sender recipient t) e (verp_by_owner sender recipient (owner_of sender) refl)

pub verp_from : (sender recipient text : List ℕ) → IsVerp sender recipient text → verp_of sender recipient ≡ text
verp_from sender recipient text (Told owner host box domain m cut same) =
    verp_told sender recipient owner host box domain (marked_owner sender owner host m) (last_cut_found 64 recipient box domain cut.split cut.last) ∙ sym same
verp_from sender recipient text (Unmarked none same) =
    verp_unmarked sender recipient (none_or_some (owner_of sender) (λ parts e. none parts.0 parts.1 (is_marked sender parts e))) ∙ sym same
verp_from sender recipient text (NoDomain lacks same) = verp_no_domain sender recipient (last_cut_none 64 recipient lacks) ∙ sym same

-- Prefixes

record AfterPrefix (address prefix rest : List ℕ) : Type 0 where
  some : prefix ≢ []
  split : address ≡ prefix ++ 45 ∷ rest

some_bytes : (b : ℕ) (text : List ℕ) → (b ∷ text) ≢ []
some_bytes b text e = absurd (cc)

after_by : (address rest : List ℕ) (b : ℕ) (prefix : List ℕ) (o : Option (List ℕ)) → rest_after (b ∷ prefix) address ≡ o
    → option_and_then (rest_after (45 ∷ [])) o ≡ Some rest → AfterPrefix address (b ∷ prefix) rest
after_by address rest b prefix None f e = absurd (no_some rest e)
after_by address rest b prefix (Some more) f e = record {
  some = some_bytes b prefix;
  split = rest_after_is (b ∷ prefix) address more f ∙ ap (λ t. (b ∷ prefix) ++ t) (rest_after_is (45 ∷ []) more rest e);
}

after_prefix : (address prefix rest : List ℕ) → rest_after_prefix address prefix ≡ Some rest → AfterPrefix address prefix rest
after_prefix address [] rest e = absurd (no_some rest e)
after_prefix address (b ∷ prefix) rest e = after_by address rest b prefix (rest_after (b ∷ prefix) address) refl e

prefix_taken : (address prefix rest : List ℕ) → prefix ≢ [] → address ≡ prefix ++ 45 ∷ rest → rest_after_prefix address prefix ≡ Some rest
prefix_taken address [] rest some split = absurd (some refl)
prefix_taken address (b ∷ prefix) rest some split =
    ap (λ t. option_and_then (rest_after (45 ∷ [])) (rest_after (b ∷ prefix) t)) split
    ∙ ap (option_and_then (rest_after (45 ∷ []))) (rest_after_append (b ∷ prefix) (45 ∷ rest))
    ∙ rest_after_append (45 ∷ []) rest

rest_looked : (lines : List VirtualDomain) (address rest box domain : List ℕ) → IsLastCut 64 address box domain → Looked lines (domain_keys domain)
    → rest_at lines address (box, domain) ≡ Some rest → HasRest lines address rest
rest_looked lines address rest box domain cut (Missing f none) e = absurd (no_some rest (sym (ap (option_and_then (rest_after_prefix address)) f) ∙ e))
rest_looked lines address rest box domain cut (Found prefix f is) e =
    let after = after_prefix address prefix rest (sym (ap (option_and_then (rest_after_prefix address)) f) ∙ e) in
    record { box = box; domain = domain; prefix = prefix; cut = cut; first = is; some = after.some; split = after.split }

rest_by : (lines : List VirtualDomain) (address rest : List ℕ) → LastCut 64 address → rest_of lines address ≡ Some rest → HasRest lines address rest
rest_by lines address rest (NoLastCut f lacks) e = absurd (no_some rest (sym (ap (option_and_then (rest_at lines address)) f) ∙ e))
rest_by lines address rest (LastCutAt box domain f cut) e =
    rest_looked lines address rest box domain cut (looked lines (domain_keys domain)) (sym (ap (option_and_then (rest_at lines address)) f) ∙ e)

has_rest : (lines : List VirtualDomain) (address rest : List ℕ) → rest_of lines address ≡ Some rest → HasRest lines address rest
has_rest lines address rest e = rest_by lines address rest (last_cuts 64 address) e

rest_is : (lines : List VirtualDomain) (address rest : List ℕ) → HasRest lines address rest → rest_of lines address ≡ Some rest
rest_is lines address rest h =
    ap (option_and_then (rest_at lines address)) (last_cut_found 64 address h.box h.domain h.cut.split h.cut.last)
    ∙ ap (option_and_then (rest_after_prefix address)) (prefix_found_is lines (domain_keys h.domain) h.prefix h.first)
    ∙ prefix_taken address h.prefix rest h.some h.split

stripped_by : (lines : List VirtualDomain) (address : List ℕ) (o : Option (List ℕ)) → rest_of lines address ≡ o → IsStripped lines address (unwrap_or o address)
stripped_by lines address (Some rest) e = Prefixed (has_rest lines address rest e)
stripped_by lines address None e = Bare (λ rest h. no_some rest (sym e ∙ rest_is lines address rest h)) refl

pub stripped_to : (lines : List VirtualDomain) (address text : List ℕ) → stripped lines address ≡ text → IsStripped lines address text
unfolding stripped
stripped_to lines address text e = subst (λ t. IsStripped lines address t) e (stripped_by lines address (rest_of lines address) refl)

pub stripped_from : (lines : List VirtualDomain) (address text : List ℕ) → IsStripped lines address text → stripped lines address ≡ text
unfolding stripped
stripped_from lines address text (Prefixed h) = ap (λ o. unwrap_or o address) (rest_is lines address text h)
stripped_from lines address text (Bare none same) =
    ap (λ o. unwrap_or o address) (none_or_some (rest_of lines address) (λ rest e. none rest (has_rest lines address rest e))) ∙ sym same

pub undone : (lines : List VirtualDomain) (address box domain prefix : List ℕ) → IsLastCut 64 address box domain
    → IsFirstPrefix lines (domain_keys domain) prefix → prefix ≢ [] → stripped lines (prefix ++ 45 ∷ address) ≡ address
undone lines address box domain prefix cut is some = stripped_from lines (prefix ++ 45 ∷ address) address (Prefixed (record {
  box = prefix ++ 45 ∷ box;
  domain = domain;
  prefix = prefix;
  cut = record {
    split = ap (λ t. prefix ++ 45 ∷ t) cut.split ∙ sym (append_assoc prefix (45 ∷ box) (64 ∷ domain));
    last = cut.last;
  };
  first = is;
  some = some;
  split = refl;
}))
