-- Where an address goes.
use Rattle.std.proofs.Common.{◌≡◌, ℕ, zero, suc, ◌<◌, ◌≤◌, List, [], ◌∷◌, ◌++◌, length, take, set, Option, Some, None, Bool, true, false, refl, sym, ap, ◌∙◌, arith}
use Rattle.std.specs.Prelude.{if◌then◌else◌}
use Rattle.std.specs.Bool.{Decides}
use Rattle.std.specs.Option.{option_map, option_and_then, option_map_or}
use Rattle.std.proofs.Math.Seq.{set-append_seam, take-append_seam}
use Rattle.std.proofs.lemmas.List.{length-append}
use Rattle.std.proofs.lemmas.List.Folds.{Any-from_list_any, list_any-from_Any}
use Rattle.address_rules.specs.Cuts.{last_cut, IsLastCut}
use Rattle.address_rules.specs.Keys.{is_same, is_listed, IsListed}
use Rattle.address_rules.specs.Routes.{with_at, hacked_at, hacked, after_rounds, unhacked, IsRound, AfterRounds, full_address, domain_of, decided, route_of}
use Rattle.address_rules.specs.Routes.AfterRounds.{NoRound, Round}
use Rattle.address_rules.specs.declared.controls.Controls.{Controls}
use Rattle.address_rules.proofs.ByteCuts.{some_same, LastCut, LastCutAt, NoLastCut, last_cuts, last_cut_found, last_cut_is}
use Rattle.address_rules.proofs.KeyLemmas.{same_decides}
use Rattle.address_rules.proofs.NameLemmas.{none_or_some}

pub listed_decides : (texts : List (List ℕ)) (key : List ℕ) → Decides (is_listed texts key) (IsListed texts key)
listed_decides texts key = (
  λ e. let w = Any-from_list_any (λ text. is_same text key) texts e in (w.0, w.1, w.2, w.3, (same_decides w.1 key).0 w.4),
  λ w. list_any-from_Any (λ text. is_same text key) texts (w.0, w.1, w.2, w.3, (same_decides w.1 key).1 w.4),
)

-- One round of percenthack.

hacked_is : (hacks : List (List ℕ)) (address front domain user host : List ℕ) → last_cut 64 address ≡ Some (front, domain)
    → is_listed hacks domain ≡ true → last_cut 37 front ≡ Some (user, host) → hacked hacks address ≡ Some (user ++ 64 ∷ host)
hacked_is hacks address front domain user host at listed percent =
    ap (option_and_then (hacked_at hacks)) at
    ∙ ap (λ t. if t then option_map with_at (last_cut 37 front) else None) listed
    ∙ ap (option_map with_at) percent

pub places : (hacks : List (List ℕ)) (address front domain user host : List ℕ) → last_cut 64 address ≡ Some (front, domain)
    → is_listed hacks domain ≡ true → last_cut 37 front ≡ Some (user, host)
    → (length user < length front) × (length front < length address) × (hacked hacks address ≡ Some (set (take (length front) address) (length user) 64))
places hacks address front domain user host at listed percent =
    let whole = (last_cut_is 64 address (front, domain) at).split in
    let parted = (last_cut_is 37 front (user, host) percent).split in
    let total = ap length whole ∙ length-append front (64 ∷ domain) in
    let inner = ap length parted ∙ length-append user (37 ∷ host) in
    let cut : take (length front) address ≡ front = ap (take (length front)) whole ∙ take-append_seam front (64 ∷ domain) in
    let put : set (take (length front) address) (length user) 64 ≡ user ++ 64 ∷ host =
    ap (λ t. set t (length user) 64) (cut ∙ parted) ∙ set-append_seam user 37 host 64 in
    (omega arith, omega arith, hacked_is hacks address front domain user host at listed percent ∙ ap (λ t. Some t) (sym put))

no_text : {A : Type 0} (x : A) → ◌≡◌ {A = Option A} None (Some x) → ⊥
no_text x e = absurd (cc)

round_listed : (hacks : List (List ℕ)) (from to front domain : List ℕ) → IsLastCut 64 from front domain
    → (t : Bool) → is_listed hacks domain ≡ t → LastCut 37 front
    → ◌≡◌ {A = Option (List ℕ)} (if t then option_map with_at (last_cut 37 front) else None) (Some to) → IsRound hacks from to
round_listed hacks from to front domain cut false listed c e = absurd (no_text to e)
round_listed hacks from to front domain cut true listed (NoLastCut f lacks) e = absurd (no_text to (sym (ap (option_map with_at) f) ∙ e))
round_listed hacks from to front domain cut true listed (LastCutAt user host f percent) e = record {
  user = user;
  host = host;
  domain = domain;
  split = cut.split ∙ ap (λ t. t ++ 64 ∷ domain) percent.split;
  last_at = cut.last;
  last_percent = percent.last;
  hack = (listed_decides hacks domain).0 listed;
  becomes = sym (some_same (user ++ 64 ∷ host) to (sym (ap (option_map with_at) f) ∙ e));
}

round_by : (hacks : List (List ℕ)) (from to : List ℕ) → hacked hacks from ≡ Some to → LastCut 64 from → IsRound hacks from to
round_by hacks from to e (NoLastCut f lacks) = absurd (no_text to (sym (ap (option_and_then (hacked_at hacks)) f) ∙ e))
round_by hacks from to e (LastCutAt front domain f cut) =
    round_listed hacks from to front domain cut (is_listed hacks domain) refl (last_cuts 37 front) (sym (ap (option_and_then (hacked_at hacks)) f) ∙ e)

pub was_round : (hacks : List (List ℕ)) (from to : List ℕ) → hacked hacks from ≡ Some to → IsRound hacks from to
was_round hacks from to e = round_by hacks from to e (last_cuts 64 from)

pub makes_round : (hacks : List (List ℕ)) (from to : List ℕ) → IsRound hacks from to → hacked hacks from ≡ Some to
makes_round hacks from to r =
    hacked_is hacks from (r.user ++ 37 ∷ r.host) r.domain r.user r.host
    (last_cut_found 64 from (r.user ++ 37 ∷ r.host) r.domain r.split r.last_at)
    ((listed_decides hacks r.domain).1 r.hack)
    (last_cut_found 37 (r.user ++ 37 ∷ r.host) r.user r.host refl r.last_percent)
    ∙ ap (λ t. Some t) (sym r.becomes)

pub round_shorter : (hacks : List (List ℕ)) (from to : List ℕ) → hacked hacks from ≡ Some to → length to < length from
round_shorter hacks from to e =
    let r = was_round hacks from to e in
    let whole = ap length r.split ∙ length-append (r.user ++ 37 ∷ r.host) (64 ∷ r.domain) in
    let front = length-append r.user (37 ∷ r.host) in
    let after = ap length r.becomes ∙ length-append r.user (64 ∷ r.host) in
    omega arith

-- All rounds.

same_on : {A : Type 0} (f g : A → A) (o : Option A) (d : A) → ((x : A) → o ≡ Some x → f x ≡ g x) → option_map_or f o d ≡ option_map_or g o d
same_on f g None d h = refl
same_on f g (Some x) d h = h x refl

enough : (hacks : List (List ℕ)) (n m : ℕ) (address : List ℕ) → length address ≤ n → length address ≤ m → after_rounds hacks n address ≡ after_rounds hacks m address
enough hacks zero zero address p q = refl
enough hacks zero (suc m) [] p q = refl
enough hacks zero (suc m) (b ∷ rest) p q = absurd (omega arith)
enough hacks (suc n) zero [] p q = refl
enough hacks (suc n) zero (b ∷ rest) p q = absurd (omega arith)
enough hacks (suc n) (suc m) address p q =
    same_on (λ next. after_rounds hacks n next) (λ next. after_rounds hacks m next) (hacked hacks address) address
    (λ next e. let shorter = round_shorter hacks address next e in enough hacks n m next (omega arith) (omega arith))

pub unhacked_step : (hacks : List (List ℕ)) (from to : List ℕ) → hacked hacks from ≡ Some to → unhacked hacks from ≡ unhacked hacks to
unhacked_step hacks [] to e = absurd (no_text to e)
unhacked_step hacks (b ∷ rest) to e =
    let shorter = round_shorter hacks (b ∷ rest) to e in
    ap (λ o. option_map_or (λ next. after_rounds hacks (length rest) next) o (b ∷ rest)) e
    ∙ enough hacks (length rest) (length to) to (omega arith) (omega arith)

pub unhacked_end : (hacks : List (List ℕ)) (address : List ℕ) → hacked hacks address ≡ None → unhacked hacks address ≡ address
unhacked_end hacks [] e = refl
unhacked_end hacks (b ∷ rest) e = ap (λ o. option_map_or (λ next. after_rounds hacks (length rest) next) o (b ∷ rest)) e

rounds_from : (hacks : List (List ℕ)) (n : ℕ) (address : List ℕ) (o : Option (List ℕ)) → hacked hacks address ≡ o
    → ((next : List ℕ) → o ≡ Some next → AfterRounds hacks (after_rounds hacks n next) next)
    → AfterRounds hacks (option_map_or (λ next. after_rounds hacks n next) o address) address
rounds_from hacks n address None e later = NoRound (λ next r. no_text next (sym e ∙ makes_round hacks address next r)) refl
rounds_from hacks n address (Some next) e later = Round (was_round hacks address next e) (later next refl)

pub rounds_of : (hacks : List (List ℕ)) (n : ℕ) (address : List ℕ) → length address ≤ n → AfterRounds hacks (after_rounds hacks n address) address
rounds_of hacks zero [] p = NoRound (λ next r. no_text next (makes_round hacks [] next r)) refl
rounds_of hacks zero (b ∷ rest) p = absurd (omega arith)
rounds_of hacks (suc n) address p =
    rounds_from hacks n address (hacked hacks address) refl
    (λ next e. let shorter = round_shorter hacks address next e in rounds_of hacks n next (omega arith))

pub rounds_are : (hacks : List (List ℕ)) (to from : List ℕ) → AfterRounds hacks to from → unhacked hacks from ≡ to
rounds_are hacks to from (NoRound none same) =
    unhacked_end hacks from (none_or_some (hacked hacks from) (λ next e. none next (was_round hacks from next e))) ∙ sym same
rounds_are hacks to from (Round {next = next} round later) =
    unhacked_step hacks from next (makes_round hacks from next round) ∙ rounds_are hacks to next later

-- The route

pub route_is : (controls : Controls) (address full domain : List ℕ) → full ≡ full_address controls address → domain ≡ domain_of (last_cut 64 full)
    → route_of controls address ≡ decided controls full domain
unfolding route_of
route_is controls address full domain e f =
    ap (λ t. decided controls t (domain_of (last_cut 64 t))) (sym e) ∙ ap (decided controls full) (sym f)
