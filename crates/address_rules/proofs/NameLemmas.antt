-- Prefixes and senders.
use Rattle.std.proofs.Common.{◌≡◌, ◌≢◌, ℕ, List, [], ◌∷◌, ◌++◌, length, Some, None, Option, Bool, true, false, refl, sym, ap, ◌∙◌, ⊎_elim, arith}
use Rattle.std.specs.Borrow.{Bor}
use Rattle.std.specs.Prelude.{if◌then◌else◌, bytes_eq}
use Rattle.std.specs.Option.{option_map, option_copied, MatchOption}
use Rattle.std.proofs.lemmas.Bool.Decides.{eqb_tells}
use Rattle.std.proofs.lemmas.List.{length-append}
use Rattle.std.proofs.lemmas.Slice.Eq.{bytes_eq-Decides}
use Rattle.address_rules.specs.Cuts.{Parts, last_cut}
use Rattle.address_rules.specs.Names.{rest_after, front_before, owner_of, verp_by, verp_of}
use Rattle.address_rules.proofs.ByteCuts.{not_true, same_eqb}

pub rest_after_append : (begin rest : List ℕ) → rest_after begin (begin ++ rest) ≡ Some rest
rest_after_append [] rest = refl
rest_after_append (p ∷ begin) rest =
    ap (λ t. if t then rest_after begin (begin ++ rest) else None) (same_eqb p p refl) ∙ rest_after_append begin rest

pub rest_after_is : (begin text rest : List ℕ) → rest_after begin text ≡ Some rest → text ≡ begin ++ rest
rest_after_is [] text rest e = cc
rest_after_is (p ∷ begin) [] rest e = absurd (cc)
rest_after_is (p ∷ begin) (b ∷ text) rest e = ⊎_elim
    (λ w. let tail = rest_after_is begin text rest (sym (ap (λ t. if t then rest_after begin text else None) w.0) ∙ e) in
    let head = w.1 in cc)
    (λ w. let nothing : None ≡ Some rest = sym (ap (λ t. if t then rest_after begin text else None) w.0) ∙ e in absurd (cc))
    (eqb_tells p b)

pub none_or_some : {A : Type 0} (o : Option A) → ((x : A) → ¬ (o ≡ Some x)) → o ≡ None
none_or_some None h = refl
none_or_some (Some x) h = absurd (h x refl)

pub rest_after_of : (text begin : List ℕ) (r : Option (Bor (List ℕ))) → MatchOption r ((rest : List ℕ) → text ≢ begin ++ rest) (λ x. text ≡ begin ++ x.now)
    → option_copied r ≡ rest_after begin text
rest_after_of text begin None h = sym (none_or_some (rest_after begin text) (λ rest e. h rest (rest_after_is begin text rest e)))
rest_after_of text begin (Some x) h = sym (ap (rest_after begin) h ∙ rest_after_append begin x.now)

longer : (b : ℕ) (front end : List ℕ) → (b ∷ (front ++ end)) ≢ end
longer b front end e =
    let same = ap length e in
    let sum = length-append front end in
    omega arith

-- the whole text is the end
front_all : (text end : List ℕ) → text ≡ end → front_before end text ≡ Some []
front_all [] end e = ap (λ t. if t then Some [] else None) ((bytes_eq-Decides [] end).1 e)
front_all (b ∷ text) end e = ap (λ t. if t then Some [] else option_map (λ f. b ∷ f) (front_before end text)) ((bytes_eq-Decides (b ∷ text) end).1 e)

pub front_before_append : (front end : List ℕ) → front_before end (front ++ end) ≡ Some front
front_before_append [] end = front_all end end refl
front_before_append (b ∷ front) end =
    ap (λ t. if t then Some [] else option_map (λ f. b ∷ f) (front_before end (front ++ end)))
    (not_true (bytes_eq (b ∷ (front ++ end)) end) (λ e. longer b front end ((bytes_eq-Decides (b ∷ (front ++ end)) end).0 e)))
    ∙ ap (option_map (λ f. b ∷ f)) (front_before_append front end)

front_nothing : (end front : List ℕ) (t : Bool) → bytes_eq [] end ≡ t → ◌≡◌ {A = Option (List ℕ)} (if t then Some [] else None) (Some front) → [] ≡ front ++ end
front_nothing end front true same e =
    let none : [] ≡ front = cc in
    (bytes_eq-Decides [] end).0 same ∙ ap (λ f. f ++ end) none
front_nothing end front false same e = absurd (cc)

front_more : (end : List ℕ) (b : ℕ) (text front : List ℕ) (t : Bool) → bytes_eq (b ∷ text) end ≡ t
    → (o : Option (List ℕ)) → ((f : List ℕ) → o ≡ Some f → text ≡ f ++ end)
    → ◌≡◌ {A = Option (List ℕ)} (if t then Some [] else option_map (λ f. b ∷ f) o) (Some front) → (b ∷ text) ≡ front ++ end
front_more end b text front true same o later e =
    let none : [] ≡ front = cc in
    (bytes_eq-Decides (b ∷ text) end).0 same ∙ ap (λ f. f ++ end) none
front_more end b text front false same None later e = absurd (cc)
front_more end b text front false same (Some f) later e =
    let head : b ∷ f ≡ front = cc in
    ap (λ t. b ∷ t) (later f refl) ∙ ap (λ g. g ++ end) head

pub front_before_is : (end text front : List ℕ) → front_before end text ≡ Some front → text ≡ front ++ end
front_before_is end [] front e = front_nothing end front (bytes_eq [] end) refl e
front_before_is end (b ∷ text) front e =
    front_more end b text front (bytes_eq (b ∷ text) end) refl (front_before end text) (λ f h. front_before_is end text f h) e

pub front_before_of : (text end : List ℕ) (r : Option (Bor (List ℕ))) → MatchOption r ((front : List ℕ) → text ≢ front ++ end) (λ x. text ≡ x.now ++ end)
    → option_copied r ≡ front_before end text
front_before_of text end None h = sym (none_or_some (front_before end text) (λ front e. h front (front_before_is end text front e)))
front_before_of text end (Some x) h = sym (ap (front_before end) h ∙ front_before_append x.now end)

-- Senders

pub verp_unmarked : (sender recipient : List ℕ) → owner_of sender ≡ None → verp_of sender recipient ≡ sender
unfolding verp_of
verp_unmarked sender recipient e = ap (λ o. verp_by sender o (last_cut 64 recipient)) e

no_domain : (sender : List ℕ) (o : Option Parts) → verp_by sender o None ≡ sender
no_domain sender None = refl
no_domain sender (Some owner) = refl

pub verp_no_domain : (sender recipient : List ℕ) → last_cut 64 recipient ≡ None → verp_of sender recipient ≡ sender
unfolding verp_of
verp_no_domain sender recipient e = ap (verp_by sender (owner_of sender)) e ∙ no_domain sender (owner_of sender)

pub verp_told : (sender recipient owner host box domain : List ℕ) → owner_of sender ≡ Some (owner, host) → last_cut 64 recipient ≡ Some (box, domain)
    → verp_of sender recipient ≡ owner ++ (box ++ (61 ∷ (domain ++ 64 ∷ host)))
unfolding verp_of
verp_told sender recipient owner host box domain e f = ap (λ o. verp_by sender o (last_cut 64 recipient)) e ∙ ap (verp_by sender (Some (owner, host))) f
