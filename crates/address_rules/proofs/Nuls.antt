-- Texts without NUL.
use Rattle.std.proofs.Common.{◌≡◌, ◌≢◌, ℕ, suc, List, [], ◌∷◌, ◌++◌, get_or, Option, Some, None, Bool, true, false, refl, sym, subst, ⊎_elim, arith, eqb}
use Rattle.std.specs.Prelude.{All, Contains, slice_get, unwrap_or, if◌then◌else◌, codes}
use Rattle.std.specs.List.{list_all, list_any, filter_map, cons_option}
use Rattle.std.specs.Option.{option_map}
use Rattle.std.proofs.lemmas.List.Elements.{All-nil, All-cons, All-head, All-tail, All-append, All-from_get_or}
use Rattle.std.proofs.lemmas.Option.{slice_get-get_or}
use Rattle.address_rules.specs.declared.control_file.ControlFile.{ControlFile}
use Rattle.address_rules.specs.declared.control_file.ControlFile.TheVariants.{Me, Locals, PercentHack, VirtualDomains, EnvNoAtHost, BounceFrom, BounceHost, DoubleBounceTo, DoubleBounceHost}
use Rattle.address_rules.specs.declared.controls.Controls.{Controls}
use Rattle.address_rules.specs.declared.rewriting.Route.{Route}
use Rattle.address_rules.specs.declared.virtual_domains.VirtualDomain.{VirtualDomain}
use Rattle.address_rules.specs.Cuts.{Parts, first_cut}
use Rattle.address_rules.specs.Files.{content, controls_of, first_fault, list_in, me_of, text_in, virtual_domains_in, IsFaulty}
use Rattle.address_rules.specs.Files.HasFault.{HasNul}
use Rattle.address_rules.specs.Keys.{IsFirstPrefix}
use Rattle.address_rules.specs.Lines.{is_kept, kept_line, lines, listed, value_of, virtual_domain, virtual_domains, virtual_of}
use Rattle.mail_bytes.specs.Texts.{is_blank, trimmed, HasNoNul}
use Rattle.address_rules.specs.Nuls.{LineHasNoNul, HaveNoNul}
use Rattle.address_rules.specs.Routes.{address_in, address_keys, route_of, IsQualified, IsRound, AfterRounds, IsDecided}
use Rattle.address_rules.specs.Routes.AfterRounds.{NoRound, Round}
use Rattle.address_rules.specs.Routes.IsDecided.{IsHere, HasPrefix, IsExcepted, IsElsewhere}
use Rattle.address_rules.proofs.ByteCuts.{first_cut_is, head_differs, some_same, tail_lacks}
use Rattle.address_rules.proofs.FaultLaws.{none_to, nul_decides}
use Rattle.address_rules.proofs.RouteLaws.{route_to}

abbrev plain : ℕ → Type 0
plain b = b ≢ 0

without : (text : List ℕ) → ¬ (Contains text 0) → HasNoNul text
without [] lacks = All-nil plain
without (b ∷ rest) lacks = All-cons plain b rest (head_differs b 0 rest lacks) (without rest (tail_lacks b 0 rest lacks))

-- a text that a test finds to have none
tested : (text : List ℕ) → list_any (λ b. eqb b 0) text ≡ false → HasNoNul text
tested text e = without text (λ has. let yes = (nul_decides text).1 has in absurd (cc))

at_sign : plain 64
at_sign e = absurd (omega arith)

hyphen : plain 45
hyphen e = absurd (omega arith)

-- What holds of each element of two lists together

front : {A : Type 0} (P : A → Type 0) (xs ys : List A) → All P (xs ++ ys) → All P xs
front P [] ys h = All-nil P
front P (x ∷ xs) ys h = All-cons P x xs (All-head P x (xs ++ ys) h) (front P xs ys (All-tail P x (xs ++ ys) h))

back : {A : Type 0} (P : A → Type 0) (xs ys : List A) → All P (xs ++ ys) → All P ys
back P [] ys h = h
back P (x ∷ xs) ys h = back P xs ys (All-tail P x (xs ++ ys) h)

kept_one : {B : Type 0} (Q : B → Type 0) (o : Option B) (ys : List B) → ((y : B) → o ≡ Some y → Q y) → All Q ys → All Q (cons_option o ys)
kept_one Q None ys h all = all
kept_one Q (Some y) ys h all = All-cons Q y ys (h y refl) all

-- what a map keeps
pub all_kept : {A B : Type 0} (P : A → Type 0) (Q : B → Type 0) (f : A → Option B) → ((x : A) (y : B) → P x → f x ≡ Some y → Q y) → (xs : List A) → All P xs → All Q (filter_map f xs)
all_kept P Q f h [] all = All-nil Q
all_kept P Q f h (x ∷ xs) all = kept_one Q (f x) (filter_map f xs) (λ y e. h x y (All-head P x xs all) e) (all_kept P Q f h xs (All-tail P x xs all))

-- What a line says

either : (t : Bool) (text : List ℕ) → HasNoNul text → HasNoNul (if t then [] else text)
either true text h = All-nil plain
either false text h = h

trimmed_none : (line : List ℕ) → HasNoNul line → HasNoNul (trimmed line)
trimmed_none [] h = h
trimmed_none (b ∷ rest) h =
    either (list_all is_blank (b ∷ rest)) (b ∷ trimmed rest)
    (All-cons plain b (trimmed rest) (All-head plain b rest h) (trimmed_none rest (All-tail plain b rest h)))

if_some : (t : Bool) (a b : List ℕ) → ◌≡◌ {A = Option (List ℕ)} (if t then Some a else None) (Some b) → a ≡ b
if_some true a b e = some_same a b e
if_some false a b e = absurd (cc)

kept_none : (line text : List ℕ) → HasNoNul line → kept_line line ≡ Some text → HasNoNul text
kept_none line text h e = subst HasNoNul (if_some (is_kept (trimmed line)) (trimmed line) text e) (trimmed_none line h)

domain_by : (line : List ℕ) (it : VirtualDomain) → HasNoNul line → (o : Option Parts) → first_cut 58 line ≡ o → option_map virtual_domain o ≡ Some it → LineHasNoNul it
domain_by line it h None is e = absurd (cc)
domain_by line it h (Some parts) is e =
    let cut = first_cut_is 58 line parts is in
    let whole : HasNoNul (parts.0 ++ 58 ∷ parts.1) = subst HasNoNul cut.split h in
    subst LineHasNoNul (some_same (virtual_domain parts) it e)
    (front plain parts.0 (58 ∷ parts.1) whole, All-tail plain 58 parts.1 (back plain parts.0 (58 ∷ parts.1) whole))

domain_none : (line : List ℕ) (it : VirtualDomain) → HasNoNul line → virtual_of line ≡ Some it → LineHasNoNul it
domain_none line it h e = domain_by line it h (first_cut 58 line) refl e

-- What files without a fault say

first_none : (texts : List (List ℕ)) → All HasNoNul texts → HasNoNul (unwrap_or (slice_get texts 0) [])
first_none [] h = All-nil plain
first_none (text ∷ texts) h = All-head HasNoNul text texts h

value_none : (bytes : List ℕ) → All HasNoNul (lines bytes) → HasNoNul (value_of bytes)
value_none bytes h = trimmed_none (unwrap_or (slice_get (lines bytes) 0) []) (first_none (lines bytes) h)

listed_none : (bytes : List ℕ) → All HasNoNul (lines bytes) → All HasNoNul (listed bytes)
listed_none bytes h = all_kept HasNoNul HasNoNul kept_line kept_none (lines bytes) h

module _ (files : List (Option (List ℕ))) (sound : (file : ControlFile) → ¬ (IsFaulty files file)) where
  lines_none : (file : ControlFile) (bytes : List ℕ) → content files file ≡ Some bytes → All HasNoNul (lines bytes)
  lines_none file bytes there = All-from_get_or HasNoNul (lines bytes) [] (λ i inside. without (get_or (lines bytes) i []) (λ nul.
      sound file (bytes, there, (suc i, HasNul (get_or (lines bytes) i []) i (slice_get-get_or (lines bytes) i [] inside) nul refl))))

  text_by : (file : ControlFile) (default : List ℕ) → HasNoNul default → (o : Option (List ℕ)) → content files file ≡ o → HasNoNul (text_in o default)
  text_by file default h None is = h
  text_by file default h (Some bytes) is = value_none bytes (lines_none file bytes is)

  text_none : (file : ControlFile) (default : List ℕ) → HasNoNul default → HasNoNul (text_in (content files file) default)
  text_none file default h = text_by file default h (content files file) refl

  list_by : (file : ControlFile) (default : List (List ℕ)) → All HasNoNul default → (o : Option (List ℕ)) → content files file ≡ o → All HasNoNul (list_in o default)
  list_by file default h None is = h
  list_by file default h (Some bytes) is = listed_none bytes (lines_none file bytes is)

  list_none : (file : ControlFile) (default : List (List ℕ)) → All HasNoNul default → All HasNoNul (list_in (content files file) default)
  list_none file default h = list_by file default h (content files file) refl

  domains_by : (file : ControlFile) (o : Option (List ℕ)) → content files file ≡ o → All LineHasNoNul (virtual_domains_in o)
  domains_by file None is = All-nil LineHasNoNul
  domains_by file (Some bytes) is = all_kept HasNoNul LineHasNoNul virtual_of domain_none (listed bytes) (listed_none bytes (lines_none file bytes is))

  me_none : HasNoNul (me_of files)
  me_none = text_none Me (codes "localhost") (tested (codes "localhost") refl)

pub controls_none : (files : List (Option (List ℕ))) → first_fault files ≡ None → HaveNoNul (controls_of files)
unfolding controls_of
controls_none files e =
    let sound = none_to files e in
    let me = me_none files sound in
    record {
      me = me;
      locals = list_none files sound Locals (me_of files ∷ []) (All-cons HasNoNul (me_of files) [] me (All-nil HasNoNul));
      percent_hack = list_none files sound PercentHack [] (All-nil HasNoNul);
      virtual_domains = domains_by files sound VirtualDomains (content files VirtualDomains) refl;
      env_no_at_host = text_none files sound EnvNoAtHost (me_of files) me;
      bounce_from = text_none files sound BounceFrom (codes "MAILER-DAEMON") (tested (codes "MAILER-DAEMON") refl);
      bounce_host = text_none files sound BounceHost (me_of files) me;
      double_bounce_to = text_none files sound DoubleBounceTo (codes "postmaster") (tested (codes "postmaster") refl);
      double_bounce_host = text_none files sound DoubleBounceHost (me_of files) me;
    }

-- The route of an address

qualified_none : (host address begun : List ℕ) → HasNoNul host → HasNoNul address → IsQualified host address begun → HasNoNul begun
qualified_none host address begun h a q = ⊎_elim
    (λ w. subst HasNoNul (sym w.1) a)
    (λ w. subst HasNoNul (sym w.1) (All-append plain address (64 ∷ host) a (All-cons plain 64 host at_sign h)))
    q

round_none : (hacks : List (List ℕ)) (from to : List ℕ) → IsRound hacks from to → HasNoNul from → HasNoNul to
round_none hacks from to r h =
    let whole : HasNoNul ((r.user ++ 37 ∷ r.host) ++ 64 ∷ r.domain) = subst HasNoNul r.split h in
    let begun = front plain (r.user ++ 37 ∷ r.host) (64 ∷ r.domain) whole in
    let host = All-tail plain 37 r.host (back plain r.user (37 ∷ r.host) begun) in
    subst HasNoNul (sym r.becomes)
    (All-append plain r.user (64 ∷ r.host) (front plain r.user (37 ∷ r.host) begun) (All-cons plain 64 r.host at_sign host))

rounds_none : (hacks : List (List ℕ)) (to from : List ℕ) → AfterRounds hacks to from → HasNoNul from → HasNoNul to
rounds_none hacks to from (NoRound none same) h = subst HasNoNul (sym same) h
rounds_none hacks to from (Round {next = next} round later) h = rounds_none hacks to next later (round_none hacks from next round h)

prefix_none : (domains : List VirtualDomain) (keys : List (List ℕ)) (prefix : List ℕ) → All LineHasNoNul domains → IsFirstPrefix domains keys prefix → HasNoNul prefix
prefix_none domains keys prefix h f =
    let it = f.first_line in
    let whole : All LineHasNoNul (it.before ++ f.line ∷ it.after) = subst (All LineHasNoNul) it.split h in
    subst HasNoNul f.says (All-head LineHasNoNul f.line it.after (back LineHasNoNul it.before (f.line ∷ it.after) whole)).1

abbrev Says : Route → Type 0
Says route = HasNoNul (address_in route)

decided_none : (controls : Controls) (full domain : List ℕ) (route : Route) → HaveNoNul controls → HasNoNul full → IsDecided controls full domain route → Says route
decided_none controls full domain route c h (IsHere listed same) = subst Says (sym same) h
decided_none controls full domain route c h (HasPrefix apart prefix is some same) =
    subst Says (sym same)
    (All-append plain prefix (45 ∷ full) (prefix_none controls.virtual_domains (address_keys full domain) prefix c.virtual_domains is)
    (All-cons plain 45 full hyphen h))
decided_none controls full domain route c h (IsExcepted apart is same) = subst Says (sym same) h
decided_none controls full domain route c h (IsElsewhere apart none same) = subst Says (sym same) h

pub route_none : (controls : Controls) (address : List ℕ) → HaveNoNul controls → HasNoNul address → HasNoNul (address_in (route_of controls address))
route_none controls address c h =
    let r = route_to controls address (route_of controls address) refl in
    let begun = qualified_none controls.env_no_at_host address r.begun c.env_no_at_host h r.qualifies in
    decided_none controls r.full r.domain (route_of controls address) c (rounds_none controls.percent_hack r.full r.begun r.rounds begun) r.decides
