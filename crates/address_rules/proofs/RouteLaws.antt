-- The route of an address, as the rules have it.
use Rattle.std.proofs.Common.{◌≡◌, ◌≢◌, ℕ, List, [], ◌∷◌, ◌++◌, length, Some, Bool, true, false, refl, sym, ap, ◌∙◌, subst, inl, inr, ⊎_elim, arith}
use Rattle.std.specs.Prelude.{Contains, if◌then◌else◌}
use Rattle.std.proofs.lemmas.List.Elements.{Contains-append_right}
use Rattle.address_rules.specs.declared.controls.Controls.{Controls}
use Rattle.address_rules.specs.declared.rewriting.Route.{Route}
use Rattle.address_rules.specs.declared.rewriting.Route.TheVariants.{Local}
use Rattle.address_rules.specs.Cuts.{last_cut}
use Rattle.address_rules.specs.Keys.{is_listed, IsListed, first_prefix, IsFirstPrefix}
use Rattle.address_rules.specs.Routes.{with_host, qualified, unhacked, full_address, address_keys, by_prefix, decided, domain_of, route_of, IsQualified, AfterRounds, IsDecided, IsRoute}
use Rattle.address_rules.specs.Routes.AfterRounds.{NoRound, Round}
use Rattle.address_rules.specs.Routes.IsDecided.{IsHere, HasPrefix, IsExcepted, IsElsewhere}
use Rattle.address_rules.proofs.ByteCuts.{not_true, here, LastCut, LastCutAt, NoLastCut, last_cuts, last_cut_found}
use Rattle.address_rules.proofs.RouteLemmas.{listed_decides, rounds_of, rounds_are}
use Rattle.address_rules.proofs.LookupLaws.{Looked, Found, Missing, looked, prefix_found_is, prefix_none_is}

has_at : (box domain : List ℕ) → Contains (box ++ 64 ∷ domain) 64
has_at box domain = Contains-append_right box (64 ∷ domain) 64 (here 64 domain)

-- with a host if there is none

qualified_by : (host address : List ℕ) → LastCut 64 address → IsQualified host address (qualified host address)
qualified_by host address (LastCutAt box domain e cut) =
    inl (subst (λ t. Contains t 64) (sym cut.split) (has_at box domain), ap (with_host host address) e)
qualified_by host address (NoLastCut e lacks) = inr (lacks, ap (with_host host address) e)

qualifies : (host address : List ℕ) → IsQualified host address (qualified host address)
qualifies host address = qualified_by host address (last_cuts 64 address)

qualified_is : (host address full : List ℕ) → IsQualified host address full → qualified host address ≡ full
qualified_is host address full q = ⊎_elim
    (λ a. ⊎_elim (λ b. b.1 ∙ sym a.1) (λ b. absurd (b.0 a.0)) (qualifies host address))
    (λ a. ⊎_elim (λ b. absurd (a.0 b.0)) (λ b. b.1 ∙ sym a.1) (qualifies host address))
    q

qualified_has_at : (host address : List ℕ) → Contains (qualified host address) 64
qualified_has_at host address = ⊎_elim
    (λ a. subst (λ t. Contains t 64) (sym a.1) a.0)
    (λ a. subst (λ t. Contains t 64) (sym a.1) (has_at address host))
    (qualifies host address)

rounds_keep_at : (hacks : List (List ℕ)) (to from : List ℕ) → AfterRounds hacks to from → Contains from 64 → Contains to 64
rounds_keep_at hacks to from (NoRound none same) has = subst (λ t. Contains t 64) (sym same) has
rounds_keep_at hacks to from (Round {next = next} round later) has =
    rounds_keep_at hacks to next later (subst (λ t. Contains t 64) (sym round.becomes) (has_at round.user round.host))

-- what is decided of a full address

abbrev by_listed : Controls → List ℕ → List ℕ → Bool → Route
by_listed controls full domain t = if t then Local full else by_prefix full (first_prefix controls.virtual_domains (address_keys full domain))

not_here : (controls : Controls) (full domain : List ℕ) → ¬ (IsListed controls.locals domain) → decided controls full domain ≡ by_prefix full (first_prefix controls.virtual_domains (address_keys full domain))
not_here controls full domain apart =
    ap (by_listed controls full domain) (not_true (is_listed controls.locals domain) (λ e. apart ((listed_decides controls.locals domain).0 e)))

prefixed : (full prefix : List ℕ) → prefix ≢ [] → by_prefix full (Some prefix) ≡ Local (prefix ++ 45 ∷ full)
prefixed full [] some = absurd (some refl)
prefixed full (b ∷ prefix) some = refl

some_prefix : (b : ℕ) (prefix : List ℕ) → (b ∷ prefix) ≢ []
some_prefix b prefix e = absurd (cc)

decided_found : (controls : Controls) (full domain : List ℕ) → ¬ (IsListed controls.locals domain) → (prefix : List ℕ)
    → first_prefix controls.virtual_domains (address_keys full domain) ≡ Some prefix → IsFirstPrefix controls.virtual_domains (address_keys full domain) prefix
    → IsDecided controls full domain (decided controls full domain)
decided_found controls full domain apart [] e is = IsExcepted apart is (not_here controls full domain apart ∙ ap (by_prefix full) e)
decided_found controls full domain apart (b ∷ prefix) e is =
    HasPrefix apart (b ∷ prefix) is (some_prefix b prefix) (not_here controls full domain apart ∙ ap (by_prefix full) e)

decided_looked : (controls : Controls) (full domain : List ℕ) → ¬ (IsListed controls.locals domain)
    → Looked controls.virtual_domains (address_keys full domain) → IsDecided controls full domain (decided controls full domain)
decided_looked controls full domain apart (Found prefix e is) = decided_found controls full domain apart prefix e is
decided_looked controls full domain apart (Missing e none) = IsElsewhere apart none (not_here controls full domain apart ∙ ap (by_prefix full) e)

true_is_not_false : ◌≡◌ {A = Bool} true false → ⊥
true_is_not_false e = absurd (cc)

decided_by : (controls : Controls) (full domain : List ℕ) (t : Bool) → is_listed controls.locals domain ≡ t → IsDecided controls full domain (decided controls full domain)
decided_by controls full domain true e = IsHere ((listed_decides controls.locals domain).0 e) (ap (by_listed controls full domain) e)
decided_by controls full domain false e =
    decided_looked controls full domain
    (λ h. absurd (true_is_not_false (sym ((listed_decides controls.locals domain).1 h) ∙ e)))
    (looked controls.virtual_domains (address_keys full domain))

decides : (controls : Controls) (full domain : List ℕ) → IsDecided controls full domain (decided controls full domain)
decides controls full domain = decided_by controls full domain (is_listed controls.locals domain) refl

decided_is : (controls : Controls) (full domain : List ℕ) (route : Route) → IsDecided controls full domain route → decided controls full domain ≡ route
decided_is controls full domain route (IsHere listed same) =
    ap (by_listed controls full domain) ((listed_decides controls.locals domain).1 listed) ∙ sym same
decided_is controls full domain route (HasPrefix apart prefix is some same) =
    not_here controls full domain apart
    ∙ ap (by_prefix full) (prefix_found_is controls.virtual_domains (address_keys full domain) prefix is)
    ∙ prefixed full prefix some ∙ sym same
decided_is controls full domain route (IsExcepted apart is same) =
    not_here controls full domain apart
    ∙ ap (by_prefix full) (prefix_found_is controls.virtual_domains (address_keys full domain) [] is) ∙ sym same
decided_is controls full domain route (IsElsewhere apart none same) =
    not_here controls full domain apart
    ∙ ap (by_prefix full) (prefix_none_is controls.virtual_domains (address_keys full domain) none) ∙ sym same

-- the whole

pub route_from : (controls : Controls) (address : List ℕ) (route : Route) → IsRoute controls address route → route_of controls address ≡ route
unfolding route_of
route_from controls address route r =
    let begun = qualified_is controls.env_no_at_host address r.begun r.qualifies in
    let full : full_address controls address ≡ r.full = ap (unhacked controls.percent_hack) begun ∙ rounds_are controls.percent_hack r.full r.begun r.rounds in
    ap (λ t. decided controls t (domain_of (last_cut 64 t))) full
    ∙ ap (λ o. decided controls r.full (domain_of o)) (last_cut_found 64 r.full r.box r.domain r.cut.split r.cut.last)
    ∙ decided_is controls r.full r.domain route r.decides

route_by : (controls : Controls) (address full : List ℕ) → full ≡ full_address controls address → Contains full 64 → LastCut 64 full → IsRoute controls address (route_of controls address)
unfolding route_of
route_by controls address full is has (NoLastCut e lacks) = absurd (lacks has)
route_by controls address full is has (LastCutAt box domain e cut) = record {
  begun = qualified controls.env_no_at_host address;
  full = full;
  box = box;
  domain = domain;
  qualifies = qualifies controls.env_no_at_host address;
  rounds = subst (λ t. AfterRounds controls.percent_hack t (qualified controls.env_no_at_host address)) (sym is)
      (rounds_of controls.percent_hack (length (qualified controls.env_no_at_host address)) (qualified controls.env_no_at_host address) (omega arith));
  cut = cut;
  decides = subst (λ (t : Route). IsDecided controls full domain t)
      (ap (λ o. decided controls full (domain_of o)) (sym e) ∙ ap (λ t. decided controls t (domain_of (last_cut 64 t))) is)
      (decides controls full domain);
}

full_has_at : (controls : Controls) (address : List ℕ) → Contains (full_address controls address) 64
full_has_at controls address =
    let begun = qualified controls.env_no_at_host address in
    rounds_keep_at controls.percent_hack (full_address controls address) begun
    (rounds_of controls.percent_hack (length begun) begun (omega arith))
    (qualified_has_at controls.env_no_at_host address)

pub route_to : (controls : Controls) (address : List ℕ) (route : Route) → route_of controls address ≡ route → IsRoute controls address route
route_to controls address route e =
    subst (λ (t : Route). IsRoute controls address t) e
    (route_by controls address (full_address controls address) refl (full_has_at controls address) (last_cuts 64 (full_address controls address)))
